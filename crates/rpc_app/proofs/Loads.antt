-- What a load tells of a file.
use Rattle.std.proofs.Common.{◌≡◌, ℕ, ◌+◌, ◌<◌, ◌≤◌, List, length, take, ap, sym, ◌∙◌, arith, Option, Some, None, length-take}
use Rattle.std.specs.Prelude.{IsSomeAnd}
use Rattle.std.proofs.lemmas.List.{take_all}
use Rattle.rpc_base.specs.Shelves.{Files, HasFile, IsLoad}
use Rattle.rpc_app.specs.Runs.{IsLoaded}

some_weaker : (o : Option (List ℕ)) (P Q : List ℕ → Type 0) → ((x : List ℕ) → P x → Q x) → IsSomeAnd o P → IsSomeAnd o Q
some_weaker None P Q f h = h
some_weaker (Some x) P Q f h = f x h

-- a fact of the file that follows from another
pub HasFile-weaker : (told : Option Files) (name : List ℕ) (P Q : List ℕ → Type 0) → ((x : List ℕ) → P x → Q x) → HasFile told name P → HasFile told name Q
HasFile-weaker None name P Q f h = tt
HasFile-weaker (Some files) name P Q f h = some_weaker (files name) P Q f h

longer : (most : ℕ) (octets file : List ℕ) → octets ≡ take (most + 1) file → most < length octets → most < length file
longer most octets file e h = omega (arith, ap length e, length-take (most + 1) file)

pub too_long : (most : ℕ) (told : Option Files) (name octets : List ℕ) → IsLoad told name (most + 1) octets → most < length octets → HasFile told name (λ file. most < length file)
too_long most told name octets h long = HasFile-weaker told name (λ file. octets ≡ take (most + 1) file) (λ file. most < length file) (λ file e. longer most octets file e long) h

all : (most : ℕ) (octets file : List ℕ) → octets ≡ take (most + 1) file → length octets ≤ most → file ≡ octets
all most octets file e h =
    let short : length file ≤ most = omega (arith, ap length e, length-take (most + 1) file) in
    sym (e ∙ take_all (most + 1) file (omega arith))

pub whole_file : (most : ℕ) (told : Option Files) (name octets : List ℕ) → IsLoad told name (most + 1) octets → length octets ≤ most → IsLoaded most told name octets
whole_file most told name octets h short =
    record { short = short; file = HasFile-weaker told name (λ file. octets ≡ take (most + 1) file) (λ file. file ≡ octets) (λ file e. all most octets file e short) h }

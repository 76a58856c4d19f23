-- What stands at the places of a list of values.
use Rattle.std.proofs.Common.{◌≡◌, ℕ, zero, suc, ◌+◌, ◌<◌, ◌≤◌, List, [], ◌∷◌, ◌++◌, length, drop, get_or, add-one, Option, Some, None, refl, ap, sym, ◌∙◌, arith, Vec, Global, Bor}
use Rattle.std.specs.Prelude.{slice_get, MatchOption}
use Rattle.std.specs.Option.{option_copied}
use Rattle.std.proofs.Math.Seq.{drop-cons}
use Rattle.std.proofs.lemmas.List.{append-nil}
use Rattle.std.proofs.lemmas.Grind.{common_steps}
use Rattle.ndr_value.specs.declared.value.Value.{Value}
use Rattle.ndr_value.specs.declared.value.Value.TheVariants as values
use Rattle.ndr_value.specs.Values.{VText, VArray, val, vals, bytes}
use Rattle.ndr_value.proofs.Mirror.{val_array}
use Rattle.manager_api.specs.Arguments.{value_at, byte_of, bytes_in, bytes_of}

pub value_there : (vs : List Value) (n : ℕ) (v : Value) → slice_get vs n ≡ Some v → value_at (vals vs) n ≡ val v
value_there [] n v e = absurd (cc)
value_there (w ∷ vs) zero v e = let same : w ≡ v = cc in ap val same
value_there (w ∷ vs) (suc n) v e = value_there vs n v e

pub value_none : (vs : List Value) (n : ℕ) → slice_get vs n ≡ None → value_at (vals vs) n ≡ VText []
value_none [] n e = refl
value_none (w ∷ vs) zero e = absurd (cc)
value_none (w ∷ vs) (suc n) e = value_none vs n e

pub at_place : (vs : List Value) (n : ℕ) (o : Option (Bor Value)) → option_copied o ≡ slice_get vs n → MatchOption o (value_at (vals vs) n ≡ VText []) (λ v. value_at (vals vs) n ≡ val v.now)
at_place vs n None e = value_none vs n (sym e)
at_place vs n (Some v) e = value_there vs n v.now (sym e)

-- what is left of bytes, one by one
pub bytes_left : (vs : List Value) (i : ℕ) (d : Value) → i < length vs → bytes_in (vals (drop i vs)) ≡ byte_of (val (get_or vs i d)) ∷ bytes_in (vals (drop (i + 1) vs))
bytes_left vs i d lt =
    let e : drop i vs ≡ get_or vs i d ∷ drop (i + 1) vs = drop-cons vs i d lt ∙ rw add-one refl in
    ap (λ (xs : List Value). bytes_in (vals xs)) e

pub no_byte_left : (vs : List Value) (i : ℕ) → length vs ≤ i → bytes_in (vals (drop i vs)) ≡ []
no_byte_left vs i le =
    let e : drop i vs ≡ [] = grind (arith, common_steps) in
    ap (λ (xs : List Value). bytes_in (vals xs)) e

pub ruleset rest = (bytes_left, no_byte_left, common_steps)

pub bytes_again : (octets : List ℕ) → bytes_in (bytes octets) ≡ octets
bytes_again [] = refl
bytes_again (n ∷ ns) = ap (λ (l : List ℕ). n ∷ l) (bytes_again ns)

pub array_bytes : (v : Vec Value Global) → bytes_of (val (values.Array v)) ≡ bytes_in (vals v.items)
array_bytes v = ap bytes_of (val_array v)

pub no_bytes : (octets : List ℕ) → octets ≡ octets ++ []
no_bytes octets = sym (append-nil octets)

pub ruleset arrays = (bytes_again, array_bytes, no_bytes)

length-bytes_in : (vs : List Value) → length (bytes_in (vals vs)) ≡ length vs
length-bytes_in [] = refl
length-bytes_in (v ∷ vs) = ap suc (length-bytes_in vs)

pub length-array : (v : Vec Value Global) → length (bytes_of (val (values.Array v))) ≡ length v.items
length-array v = ap length (array_bytes v) ∙ length-bytes_in v.items

pub length-octets : (octets : List ℕ) → length (bytes_in (bytes octets)) ≡ length octets
length-octets octets = ap length (bytes_again octets)

pub ruleset lengths = (length-array, length-octets)

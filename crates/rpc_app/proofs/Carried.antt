-- Lines that are the same ask for one thing.
use Rattle.std.proofs.Common.{◌≡◌, ◌∙◌, ◌==◌, ◌<◌, ◌≤◌, ◌^◌, ℕ, Bool, List, [], ◌∷◌, refl, sym, subst, ap, ap₂, arith, Option, Some, None, option_map, codes, decimal, if◌then◌else◌}
use Rattle.std.specs.Str.{bytes_eq}
use Rattle.std.proofs.lemmas.Fmt.{decimal_injective}
use Rattle.app_words.specs.declared.command.Asked.{Asked}
use Rattle.app_words.specs.declared.command.Asked.TheVariants as asks
use Rattle.app_words.specs.Asks.{Line, line_of}
use Rattle.app_words.specs.Asks as line
use Rattle.rpc_app.specs.declared.command.Command.{Command}
use Rattle.rpc_app.specs.declared.command.Command.TheVariants.{Replay, Idl, Audit}
use Rattle.rpc_outside.specs.declared.address.Address.{Address}
use Rattle.app_words.specs.Texts.{Host, FitsHost, host_text}
use Rattle.app_words.proofs.Parts.{one_host}
use Rattle.rpc_app.specs.Asks.{FileTask, Task, OfFile, OfLoad, ServeTask, Wanted, ToDo, ToServe, ToCall, IsInRange, IsWithin, Asks, AsksFor, AsksToServe, AsksForNothing, wanted_of}
use Rattle.rpc_app.specs.declared.words.Wanted.{Wanted as WantedHere}
use Rattle.rpc_app.specs.Words.{told_wanted}

abbrev first_in : List (List ℕ) → List ℕ
first_in [] = []
first_in (file ∷ rest) = file

abbrev second_in : List (List ℕ) → List ℕ
second_in [] = []
second_in (first ∷ rest) = first_in rest

abbrev option_in : List (List ℕ × Option (List ℕ)) → Option (List ℕ)
option_in [] = None
option_in (o ∷ rest) = o.1

abbrev third_in : List (List ℕ) → List ℕ
third_in [] = []
third_in (first ∷ rest) = second_in rest

abbrev command_in : List ℕ → Command
command_in word = if bytes_eq word (codes "replay") then Replay else (if bytes_eq word (codes "idl") then Idl else Audit)

abbrev second_option : List (List ℕ × Option (List ℕ)) → Option (List ℕ)
second_option [] = None
second_option (o ∷ rest) = option_in rest

abbrev text_in : Option (List ℕ) → List ℕ
text_in None = []
text_in (Some text) = text

-- ---- what is asked for: a command with a file, a load, connections, calls

abbrev kind : Asked → ℕ
kind (asks.Load number steps) = 1
kind (asks.Serve ip port connections idl) = 2
kind (asks.Call ip port idl script) = 3
kind _ = 0

abbrev kind_in : Line → ℕ
kind_in l = if bytes_eq l.word (codes "load") then 1 else (if bytes_eq l.word (codes "serve") then 2 else (if bytes_eq l.word (codes "call") then 3 else 0))

by_its_word : (a : Asked) → kind a ≡ kind_in (line_of a)
by_its_word (asks.Replay file idl) = refl
by_its_word (asks.Idl file) = refl
by_its_word (asks.Audit file) = refl
by_its_word (asks.Load number steps) = refl
by_its_word (asks.Serve ip port connections idl) = refl
by_its_word (asks.Call ip port idl script) = refl

same_kind : (a b : Asked) → line_of a ≡ line_of b → kind a ≡ kind b
same_kind a b e = by_its_word a ∙ ap kind_in e ∙ sym (by_its_word b)

-- ---- what a line asks for

abbrev by_line : Line → Wanted
by_line l = ToDo (OfFile (record { command = command_in l.word; file = first_in l.operands; idl = option_in l.options }))

by_its_line : (a : Asked) → kind a ≡ 0 → wanted_of a ≡ by_line (line_of a)
by_its_line (asks.Replay file idl) e = refl
by_its_line (asks.Idl file) e = refl
by_its_line (asks.Audit file) e = refl
by_its_line (asks.Load number steps) e = absurd (omega (arith, e))
by_its_line (asks.Serve ip port connections idl) e = absurd (omega (arith, e))
by_its_line (asks.Call ip port idl script) e = absurd (omega (arith, e))

one_file : (a b : Asked) → kind a ≡ 0 → line_of a ≡ line_of b → wanted_of a ≡ wanted_of b
one_file a b none e = by_its_line a none ∙ ap by_line e ∙ sym (by_its_line b (sym (same_kind a b e) ∙ none))

one_number : (n m : ℕ) → n < 2 ^ 64 → m < 2 ^ 64 → decimal n ≡ decimal m → n ≡ m
one_number n m low less e = decimal_injective n m low less e

one_load : (n s m t : ℕ) → line.IsInRange (asks.Load n s) → line.IsInRange (asks.Load m t) → line_of (asks.Load n s) ≡ line_of (asks.Load m t) → wanted_of (asks.Load n s) ≡ wanted_of (asks.Load m t)
one_load n s m t fits also e =
    ap₂ (λ x y. ToDo (OfLoad x y)) (one_number n m fits.0 also.0 (ap (λ (l : Line). first_in l.operands) e))
    (one_number s t (omega (arith, fits.1)) (omega (arith, also.1)) (ap (λ (l : Line). second_in l.operands) e))

abbrev served : Host → ℕ → Option (List ℕ) → Wanted
served host most idl = ToServe (record { at = record { ip = host.0; port = host.1 }; most = most; idl = idl })

one_server : (a b : Asked) (x y : Host) (n m : ℕ) (i j : Option (List ℕ)) → FitsHost x → FitsHost y → n ≤ 1000000 → m ≤ 1000000 → host_text x ≡ host_text y → decimal n ≡ decimal m → i ≡ j
    → wanted_of a ≡ served x n i → wanted_of b ≡ served y m j → wanted_of a ≡ wanted_of b
one_server a b x y n m i j fits also low less host number idl is are =
    is ∙ ap (λ z. served z n i) (one_host x y fits also host) ∙ ap (λ z. served y z i) (one_number n m (omega arith) (omega arith) number) ∙ ap (served y m) idl ∙ sym are

abbrev called : Host → List ℕ → List ℕ → Wanted
called host idl script = ToCall (record { at = record { ip = host.0; port = host.1 }; idl = idl; script = script })

one_caller : (a b : Asked) (x y : Host) (i j s t : List ℕ) → FitsHost x → FitsHost y → host_text x ≡ host_text y → i ≡ j → s ≡ t
    → wanted_of a ≡ called x i s → wanted_of b ≡ called y j t → wanted_of a ≡ wanted_of b
one_caller a b x y i j s t fits also host idl script is are =
    is ∙ ap (λ z. called z i s) (one_host x y fits also host) ∙ ap (λ z. called y z s) idl ∙ ap (called y j) script ∙ sym are

one_wanted : (a b : Asked) → line.IsInRange a → line.IsInRange b → line_of a ≡ line_of b → wanted_of a ≡ wanted_of b
one_wanted (asks.Replay file idl) b fits also e = one_file (asks.Replay file idl) b refl e
one_wanted (asks.Idl file) b fits also e = one_file (asks.Idl file) b refl e
one_wanted (asks.Audit file) b fits also e = one_file (asks.Audit file) b refl e
one_wanted (asks.Load n s) (asks.Load m t) fits also e = one_load n s m t fits also e
one_wanted (asks.Load n s) b fits also e = absurd (omega (arith, same_kind (asks.Load n s) b e))
one_wanted (asks.Serve ip port n idl) (asks.Serve jp qort m jdl) fits also e =
    one_server (asks.Serve ip port n idl) (asks.Serve jp qort m jdl) (ip, port) (jp, qort) n m (option_map (λ text. text.now) idl) (option_map (λ text. text.now) jdl) fits.0 also.0 fits.2 also.2
    (ap (λ (l : Line). first_in l.operands) e) (ap (λ (l : Line). text_in (option_in l.options)) e) (ap (λ (l : Line). second_option l.options) e) refl refl
one_wanted (asks.Serve ip port n idl) b fits also e = absurd (omega (arith, same_kind (asks.Serve ip port n idl) b e))
one_wanted (asks.Call ip port idl script) (asks.Call jp qort jdl tcript) fits also e =
    one_caller (asks.Call ip port idl script) (asks.Call jp qort jdl tcript) (ip, port) (jp, qort) idl.now jdl.now script.now tcript.now fits also
    (ap (λ (l : Line). first_in l.operands) e) (ap (λ (l : Line). second_in l.operands) e) (ap (λ (l : Line). third_in l.operands) e) refl refl
one_wanted (asks.Call ip port idl script) b fits also e = absurd (omega (arith, same_kind (asks.Call ip port idl script) b e))

module _ (words : List (List ℕ)) (a : Asked) (w : Wanted) (is : wanted_of a ≡ w) where
  pub asked : line.AsksFor words a → Asks words w
  asked asks = (a, asks, is)

  -- it is the only one
  pub alone : line.AsksFor words a → ((other : Asked) → line.AsksFor words other → line_of other ≡ line_of a) → (other : Wanted) → Asks words other → other ≡ w
  alone own only other h = sym h.2 ∙ one_wanted h.0 a h.1.1 own.1 (only h.0 h.1) ∙ is

pub unasked : (words : List (List ℕ)) → line.AsksForNothing words → AsksForNothing words
unasked words none w h = none h.0 h.1

-- ---- its range

abbrev IsFit : Wanted → Type 0
IsFit (ToDo task) = IsInRange task
IsFit (ToServe task) = IsWithin task
IsFit (ToCall task) = Unit {0}

range_of : (a : Asked) → line.IsInRange a → IsFit (wanted_of a)
range_of (asks.Replay file idl) fits = tt
range_of (asks.Idl file) fits = tt
range_of (asks.Audit file) fits = tt
range_of (asks.Load number steps) fits = fits.1
range_of (asks.Serve ip port n idl) fits = (fits.1, fits.2)
range_of (asks.Call ip port idl script) fits = tt

is_fit : (words : List (List ℕ)) (w : Wanted) → Asks words w → IsFit w
is_fit words w h = subst IsFit h.2 (range_of h.0 h.1.1)

pub in_range : (words : List (List ℕ)) (t : Task) → AsksFor words t → IsInRange t
in_range words t h = is_fit words (ToDo t) h

pub within : (words : List (List ℕ)) (t : ServeTask) → AsksToServe words t → t.most ≤ 1000000
within words t h = (is_fit words (ToServe t) h).1

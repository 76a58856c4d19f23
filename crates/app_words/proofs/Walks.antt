-- How `clap` walks over the words of a command that has no command below it.
use Rattle.std.proofs.Common.{◌≡◌, ◌∙◌, ℕ, Bool, false, List, [], ◌∷◌, ap, ap₂, Option, None, fold}
use Rattle.clap.specs.Kinds.{Kinds, or_else}
use Rattle.clap.specs.Faults.{check_fault, defaults_fault, settle_fault, turn_fault, walk_fault}
use Rattle.clap.specs.Simple.{Shape}
use Rattle.clap.specs.Walk.{Held, Row, Text, Waiting, Walk, finished, idle, settled, walked}
use Rattle.clap.specs.declared.error.kind.ErrorKind.{ErrorKind}

-- what is held: rows, and what waits to be used
abbrev pub held : List Row → Option (Text × List Text) → Held
held rows pending = record { rows = rows; pending = pending; skip = 0 }

-- the walk between two words: what is held, what waits for a value, the place of the next operand, whether `--` was met
abbrev pub waits : Held → Waiting → ℕ → Bool → Walk
waits held waiting place trailing = record { held = held; waiting = waiting; position = place; is_trailing = trailing; stopped = None }

abbrev pub at : Held → ℕ → Bool → Walk
at held place trailing = waits held idle place trailing

-- the faults after a walk in which nothing fails, and what it found
abbrev pub faults_after : Shape → Held → Kinds
faults_after s h = or_else (settle_fault s.rules s.args_override_self h)
    (or_else (defaults_fault (settled s.rules h).rows s.rules) (check_fault s (finished s.rules h) false))

abbrev pub end_of : Shape → Walk → List Text → Walk
end_of s w words = fold (walked s.rules []) w words

-- the faults of a walk that goes on over these words, and what it finds
abbrev pub faults : Shape → Walk → List Text → Kinds
faults s w words = or_else (walk_fault s [] w words) (faults_after s (end_of s w words).held)

abbrev pub rows : Shape → Walk → List Text → List Row
rows s w words = finished s.rules (end_of s w words).held

-- ---- one word

pub on_faults : (s : Shape) (w v : Walk) (word : Text) (rest : List Text) → turn_fault s [] w word ≡ [] → walked s.rules [] w word ≡ v → faults s w (word ∷ rest) ≡ faults s v rest
unfolding walk_fault
on_faults s w v word rest passes is =
    ap₂ or_else (ap₂ or_else passes (ap (λ x. walk_fault s [] x rest) is)) (ap (λ x. faults_after s (end_of s x rest).held) is)

pub on_rows : (s : Shape) (w v : Walk) (word : Text) (rest : List Text) → walked s.rules [] w word ≡ v → rows s w (word ∷ rest) ≡ rows s v rest
on_rows s w v word rest is = ap (λ x. rows s x rest) is

stop : (s : Shape) (w : Walk) (word : Text) (rest : List Text) (k : ErrorKind) (ks : Kinds) → turn_fault s [] w word ≡ k ∷ ks → faults s w (word ∷ rest) ≡ k ∷ ks
unfolding walk_fault
stop s w word rest k ks e = ap (λ x. or_else (or_else x (walk_fault s [] (walked s.rules [] w word) rest)) (faults_after s (end_of s w (word ∷ rest)).held)) e

-- no more words
pub at_end : (s : Shape) (w : Walk) (f : Kinds) → faults_after s w.held ≡ f → faults s w [] ≡ f
unfolding walk_fault
at_end s w f e = e

-- ---- a walk that fails

-- There is a fault.
pub record Fails (ks : Kinds) : Type 0 where
  pub kind : ErrorKind
  pub kinds : Kinds
  pub is : ks ≡ kind ∷ kinds

pub stops : (s : Shape) (w : Walk) (word : Text) (rest : List Text) (k : ErrorKind) (ks : Kinds) → turn_fault s [] w word ≡ k ∷ ks → Fails (faults s w (word ∷ rest))
stops s w word rest k ks e = record { kind = k; kinds = ks; is = stop s w word rest k ks e }

pub passed : (s : Shape) (w v : Walk) (word : Text) (rest : List Text) → turn_fault s [] w word ≡ [] → walked s.rules [] w word ≡ v → Fails (faults s v rest) → Fails (faults s w (word ∷ rest))
passed s w v word rest t is f = record { kind = f.kind; kinds = f.kinds; is = on_faults s w v word rest t is ∙ f.is }

pub ends_so : (s : Shape) (w : Walk) (k : ErrorKind) (ks : Kinds) → faults_after s w.held ≡ k ∷ ks → Fails (faults s w [])
ends_so s w k ks e = record { kind = k; kinds = ks; is = at_end s w (k ∷ ks) e }

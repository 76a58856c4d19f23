-- What comes of a wait has a line.
use Rattle.std.proofs.Common.{◌≡◌, ℕ, Bool, true, false, List, ◌++◌, Some, codes, decimal, refl, sym, subst}
use Rattle.rpc_base.specs.declared.identifiers.WireHandle.{WireHandle}
use Rattle.client_core.specs.States.{Outcome}
use Rattle.client_core.specs.States.Outcome.{TBound, TNotBound, TDone, TFault, TBroken}
use Rattle.client_texts.specs.Answers.{Says, IsLine, WritesLine, bound_text, refused_text, fault_text}
use Rattle.client_texts.proofs.Texts.{has_line}
use Rattle.client_script.specs.Steps.{known_with}
use Rattle.client_script.specs.Channels.{IsTellable}

-- ---- an outcome has a line

with_front : (known : List WireHandle) (name : ℕ) (outcome : Outcome) (said : List ℕ) → Says known outcome said → (line : List ℕ) × IsLine known name outcome line
with_front known name outcome said h = (decimal name ++ (said ++ codes "\n"), (said, h, refl))

pub line_of : (known : List WireHandle) (name : ℕ) (outcome : Outcome) → IsTellable outcome → (line : List ℕ) × IsLine (known_with known outcome) name outcome line
line_of known name (TBound group) h = with_front known name (TBound group) (bound_text group) refl
line_of known name (TNotBound reason) h = with_front known name (TNotBound reason) (refused_text reason) refl
line_of known name (TFault status not_run) h = with_front known name (TFault status not_run) (fault_text status.0 not_run) refl
line_of known name (TBroken fault) h = absurd h
line_of known name (TDone m) h =
    let c = h.1.0 in
    let of = h.1.2 in
    has_line h.0.interface.types of.0 _ (Some c.message) m known name of.2

pub line_now : (known now : List WireHandle) (name : ℕ) (outcome : Outcome) → IsTellable outcome → now ≡ known_with known outcome → (line : List ℕ) × IsLine now name outcome line
line_now known now name outcome h e = let l = line_of known name outcome h in (l.0, subst (λ (k : List WireHandle). IsLine k name outcome l.0) (sym e) l.1)

-- so it isn't that none was added
pub was_added : (known : List WireHandle) (name : ℕ) (outcome : Outcome) (done : Bool) (before after : List ℕ) → ((line : List ℕ) × IsLine known name outcome line) → done ≡ false → WritesLine done known name outcome before after → ⊥
was_added known name outcome true before after l e t = absurd (cc (e))
was_added known name outcome false before after l e t = t l.0 l.1

-- Lines of outcomes, piece by piece.
use Rattle.std.proofs.Common.{◌≡◌, ℕ, Bool, true, false, List, [], ◌∷◌, ◌++◌, refl, ap, sym, ◌∙◌, append_assoc, codes, decimal, Result, Ok, Err}
use Rattle.std.specs.Prelude.{IfOk}
use Rattle.rpc_base.specs.declared.identifiers.WireHandle.{WireHandle}
use Rattle.ndr_value.specs.Values.{Msg}
use Rattle.client_core.specs.States.{Outcome}
use Rattle.client_core.specs.States.Outcome.{TDone}
use Rattle.client_texts.specs.Texts.{Writes}
use Rattle.client_texts.specs.Answers.{Said, WritesLine}

done_said : (b : Bool) (known : List WireHandle) (m : Msg) (old mid new : List ℕ) → mid ≡ old ++ codes " done " → Writes b known m mid new → Said b known (TDone m) old new
done_said true known m old mid new e w = (codes " done " ++ w.0, (w.0, w.1, refl), w.2 ∙ (ap (λ (x : List ℕ). x ++ w.0) e ∙ append_assoc old (codes " done ") w.0))
done_said false known m old mid new e w = λ said s. w s.0 s.1

pub done_result : {E : Type 0} (r : Result Bool E) (known : List WireHandle) (m : Msg) (old mid new : List ℕ) → mid ≡ old ++ codes " done " → IfOk r (λ b. Writes b known m mid new) → IfOk r (λ b. Said b known (TDone m) old new)
done_result (Ok b) known m old mid new e w = done_said b known m old mid new e w
done_result (Err f) known m old mid new e w = tt

-- the number in front, and the line feed after
pub tells : (b : Bool) (known : List WireHandle) (connection : ℕ) (outcome : Outcome) (old first second new : List ℕ) → first ≡ old ++ decimal connection → Said b known outcome first second → new ≡ second ++ 10 ∷ []
    → WritesLine b known connection outcome old new
tells true known connection outcome old first second new e s f = (
  decimal connection ++ (s.0 ++ codes "\n"),
  (s.0, s.1, refl),
  f ∙ (ap (λ (x : List ℕ). x ++ 10 ∷ []) (s.2 ∙ (ap (λ (x : List ℕ). x ++ s.0) e ∙ append_assoc old (decimal connection) s.0))
      ∙ (append_assoc old (decimal connection ++ s.0) (10 ∷ []) ∙ ap (λ (x : List ℕ). old ++ x) (append_assoc (decimal connection) s.0 (10 ∷ [])))),
)
tells false known connection outcome old first second new e s f = λ line l. s l.0 l.1

-- An outcome has one line at most.
use Rattle.std.proofs.Common.{◌≡◌, ℕ, List, ◌++◌, ap, sym, ◌∙◌, codes, decimal}
use Rattle.rpc_base.specs.declared.identifiers.WireHandle.{WireHandle}
use Rattle.client_core.specs.States.{Outcome}
use Rattle.client_core.specs.States.Outcome.{TBound, TNotBound, TDone, TFault, TBroken}
use Rattle.client_texts.proofs.Once.{one_answer}
use Rattle.client_texts.specs.Answers.{Says, IsLine}
use Rattle.client_texts.specs.AnswerLaws.{HasFew}

says_one : (known : List WireHandle) (outcome : Outcome) (a b : List ℕ) → HasFew outcome → Says known outcome a → Says known outcome b → a ≡ b
says_one known (TBound group) a b few s t = s ∙ sym t
says_one known (TNotBound reason) a b few s t = s ∙ sym t
says_one known (TDone m) a b few s t = s.2 ∙ (ap (λ (x : List ℕ). codes " done " ++ x) (one_answer known m.wires few m.values s.0 t.0 s.1 t.1) ∙ sym t.2)
says_one known (TFault status not_run) a b few s t = s ∙ sym t
says_one known (TBroken fault) a b few s t = absurd s

pub one_line : (known : List WireHandle) (connection : ℕ) (outcome : Outcome) (s t : List ℕ) → HasFew outcome → IsLine known connection outcome s → IsLine known connection outcome t → s ≡ t
one_line known connection outcome s t few l k =
    l.2 ∙ (ap (λ (x : List ℕ). decimal connection ++ (x ++ codes "\n")) (says_one known outcome l.0 k.0 few l.1 k.1) ∙ sym k.2)

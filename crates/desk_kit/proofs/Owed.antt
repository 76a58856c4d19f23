-- What is owed by an answer that is a step's, or want of memory.
use Rattle.std.proofs.Common.{◌≡◌, ℕ, Bool, true, false, Option, Some, refl, sym, ap, subst, ◌∙◌, inl, inr, arith}
use Rattle.std.specs.Prelude.{slice_get, ◌==◌, Result, Ok, Err}
use Rattle.rpc_base.specs.declared.fault.NoMemory.{NoMemory}
use Rattle.ndr_value.specs.Values.{Msg}
use Rattle.ndr_table.specs.Tables.{OpForm, TableForm}
use Rattle.manager_api.specs.declared.answer.Answer.{Answer}
use Rattle.manager_api.specs.Answers.{Ans, AOut, AFault, Step, Does, Gives, settled, no_memory, cancelled}
use Rattle.manager_api.specs.Messages.{ForOp}
use Rattle.manager_api.specs.Calls.{Owes}

-- what holds of an operation holds of the one of its number
pub for_op : (t : TableForm) (op : ℕ) (P : OpForm → Type 0) (o : OpForm) → slice_get t.ops op ≡ Some o → P o → ForOp t op P
for_op t op P o e p = λ o' e'. let same : o ≡ o' = cc in subst P same p

pub does_owe : {S : Type 0} (t : TableForm) (op : ℕ) (asked : Msg) (step : Step S) (before : S) (a : Ans) (after : S) → Does step before a after → Owes t op asked step.answer → Owes t op asked a
does_owe t op asked step before a after (inl d) owes = subst (Owes t op asked) (sym d.0) owes
does_owe t op asked step before a after (inr d) owes = subst (Owes t op asked) (sym d.0) tt

abbrev number_of : Ans → ℕ
number_of (AOut m kepts) = 0
number_of (AFault status) = status.0

apart : no_memory ≡ cancelled → ⊥
apart e = let n : false ≡ true = ap (λ (a : Ans). number_of a == 0x1C00000D) e in absurd (cc)

pub is_told : {S : Type 0} (told : Bool) (step : Step S) (before : S) (a : Ans) (after : S) → Does step before a after → (step.answer ≡ cancelled → told ≡ true) → a ≡ cancelled → told ≡ true
is_told told step before a after (inl d) only e = only (sym d.0 ∙ e)
is_told told step before a after (inr d) only e = absurd (apart (sym d.0 ∙ e))

-- an Out message isn't that fault
pub never : (told : Bool) (m : Msg) (kepts : _) → AOut m kepts ≡ cancelled → told ≡ true
never told m kepts e = absurd (cc)

-- an answer in parts is the step's, or want of memory
pub gives_does : {S : Type 0} (r : Result Answer NoMemory) (step : Step S) (before after : S) (a : Ans) → Gives r step before after → a ≡ settled r → Does step before a after
gives_does (Ok x) step before after a g e = inl (e ∙ g.0, g.1)
gives_does (Err x) step before after a g e = inr (e, g)

-- Answers, and what they come from.
use Rattle.std.specs.Prelude.{◌≡◌, ◌⊎◌, List, Result, Ok, Err}
use Rattle.rpc_base.specs.declared.fault.NoMemory.{NoMemory}
use Rattle.rpc_base.specs.declared.identifiers.Status.{Status}
use Rattle.ndr_value.specs.Values.{Msg, msg}
use Rattle.manager_api.specs.declared.answer.Answer.{Answer}
use Rattle.manager_api.specs.declared.answer.Answer.TheVariants.{Out, Fault}
use Rattle.manager_api.specs.declared.answer.Kept.{Kept}

-- an answer without where its parts lie in memory
pub data Ans : Type 0 where
  AOut : Msg → List Kept → Ans
  AFault : Status → Ans

abbrev pub ans : Answer → Ans
ans (Out m kepts) = AOut (msg m) kepts
ans (Fault status) = AFault status

-- nca_s_fault_remote_no_memory: there was no memory for the answer
abbrev pub no_memory : Ans
no_memory = AFault (record { 0 = 0x1C00001B })

-- nca_s_fault_cancel: the call was cancelled
abbrev pub cancelled : Ans
cancelled = AFault (record { 0 = 0x1C00000D })

-- an answer, and the state that follows it
pub record Step (S : Type 0) : Type 0 where
  pub answer : Ans
  pub next : S

-- the answer and the state that follows are those of the step, or memory ran out and the state is as it was
abbrev pub Does : {S : Type 0} → Step S → S → Ans → S → Type 0
Does step before answer after = ((answer ≡ step.answer) × (after ≡ step.next)) ⊎ ((answer ≡ no_memory) × (after ≡ before))

-- ---- in parts

-- the answer, or the fault of want of memory
abbrev pub settled : Result Answer NoMemory → Ans
settled (Ok a) = ans a
settled (Err e) = no_memory

-- the same of an answer that may want memory
abbrev pub Gives : {S : Type 0} → Result Answer NoMemory → Step S → S → S → Type 0
Gives (Ok a) step before after = (ans a ≡ step.answer) × (after ≡ step.next)
Gives (Err e) step before after = after ≡ before

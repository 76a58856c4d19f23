-- What a desk does, as contracts see it.
use Rattle.std.specs.Prelude.{Bool}
use Rattle.handle_model.specs.declared.entry.DueItem.{DueItem}
use Rattle.ndr_value.specs.Values.{msg}
use Rattle.manager_api.specs.Answers.{Ans, ans}
use Rattle.manager_api.specs.Calls.{Call}
use Rattle.desk_told.specs.declared.deed.Deed.{Deed}
use Rattle.desk_told.specs.declared.deed.Deed.TheVariants.{Began, Called, RanDown}

-- It began in that state. Or it answered a call, whose probe told of a cancel or didn't. Or it ran down a handle.
pub data DeedForm (S : Type 0) : Type 0 where
  began : S → DeedForm S
  called : Call → Bool → Ans → DeedForm S
  ran_down : DueItem → DeedForm S

abbrev pub form : {S : Type 0} → Deed S → DeedForm S
form (Began first) = began first.value
form (Called iface op message cookies told answer) = called (record { iface = iface; op = op; message = msg message.value; cookies = cookies }) told (ans answer.value)
form (RanDown due) = ran_down due.value

-- The deed leads from one state to the other, by what a desk says of its calls and of its run-downs.
abbrev pub By : {S : Type 0} → (S → Call → Bool → Ans → S → Type 0) → (S → DueItem → S → Type 0) → DeedForm S → S → S → Type 0
By may downs (began first) before after = ⊥
By may downs (called c told answer) before after = may before c told answer after
By may downs (ran_down item) before after = downs before item after

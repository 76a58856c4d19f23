-- What an answered call leaves in the histories of the services.
use Rattle.std.specs.Prelude.{◌≡◌, ◌≤◌, Bool}
use Rattle.manager_api.specs.Answers.{Ans}
use Rattle.manager_api.specs.Calls.{Call}
use Rattle.desk_told.specs.Deeds.{called}
use Rattle.desk_locks.specs.declared.pass.SharedPass.{SharedPass}
use Rattle.desk_locks.specs.declared.shared.SharedDesks.{SharedDesks}
use Rattle.desk_locks.specs.Passes.{ProbeDoes, StoreDoes, MapDoes}

-- What a pass was, a call, whether its probe told of a cancel, the answer, and what the pass then is: the service of the call's
-- interface gives it, in the state to which all that it did before has led, in a turn of the pass. Management and the echo keep
-- nothing.
pub data Enters (d : SharedDesks) (p : SharedPass) (c : Call) (told : Bool) (answer : Ans) (q : SharedPass) : Type 0 where
  at_probe : c.iface ≡ 0 → ProbeDoes d p (called c told answer) q → Enters d p c told answer q
  at_store : c.iface ≡ 1 → StoreDoes d p (called c told answer) q → Enters d p c told answer q
  at_endpoints : c.iface ≡ 2 → MapDoes d p (called c told answer) q → Enters d p c told answer q
  at_none : 3 ≤ c.iface → q ≡ p → Enters d p c told answer q

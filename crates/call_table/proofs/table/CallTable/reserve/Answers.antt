use Rattle.std.proofs.Common.{rules}
use Rattle.call_table.proofs.Order.{waits_few}
use Rattle.call_table.proofs.Places.{waiting_few}
use Rattle.call_table.proofs.table.CallTable.reserve.Goals as goal

pub invariant_of-self-2 : goal.invariant_of-self-2
invariant_of-self-2 c =
    let wait = waits_few c.reserve.new.self.items in (
      record {
        rises = search rules;
        few = search rules;
        places = search rules;
        enough = search rules;
        blanks = c.fill.ensures.blanks;
      },
      search rules,
      (let same = c.reserve-2.ensures.same in let all = c.self.invariant.2.calls_are in record { calls_are = search rules; enough = search rules }),
      (let same = c.reserve-3.ensures.same in let all = c.self.invariant.3.has_waiting in record { has_waiting = search rules; enough = search rules }),
      (let same = c.reserve-4.ensures.same in let all = c.self.invariant.4.has_running in let few = waiting_few c.reserve.new.self.items in record { has_running = search rules; enough = search rules }),
    )

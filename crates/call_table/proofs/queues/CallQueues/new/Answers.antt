use Rattle.std.proofs.Common.{rules, ap, sym, subst}
use Rattle.wait_list.specs.Waiting.{TicketsDiffer}
use Rattle.call_table.proofs.Walks.{none_differ}
use Rattle.call_table.proofs.queues.CallQueues.new.Goals as goal

pub invariant_of-result : goal.invariant_of-result
invariant_of-result c =
    record {
      tickets_are = search rules;
      differ = subst TicketsDiffer (sym (ap (λ w. w.nodes) c.new.ensures)) none_differ;
      places = search rules;
      spare = search rules;
      queues = search rules;
    }

use Rattle.call_table.proofs.Sharing.{four_queues}
use Rattle.call_table.proofs.queues.queues_of.Goals as goal

pub returns-clause-numbers : goal.returns-clause-numbers
returns-clause-numbers c =
    rw (c.queue_at.ensures.queue, c.queue_at-2.ensures.queue, c.queue_at-3.ensures.queue, c.queue_at-4.ensures.queue) (four_queues c.args.slots.now c.requires)

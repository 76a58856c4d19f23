use Rattle.std.proofs.Common.{ℕ, Some, None, IfSome, sym, ◌∙◌, ap, subst}
use Rattle.call_table.specs.Queues.{after_place, IsIn, IsNext}
use Rattle.call_table.proofs.Walks.{stands, goes_on, finds_none, finds_some, found_stands}
use Rattle.call_table.proofs.queues.CallQueues.next.Goals as goal

pub next_of-requires-clause-after : goal.next_of-requires-clause-after
next_of-requires-clause-after c =
    let from = subst (λ cs. IfSome c.args.after (λ i. (k : ℕ) × IsIn c.args.queue cs k i)) (sym (ap (λ v. v.calls) c.self.view_is)) c.requires.after in
    stands c.args.queue c.self.inside.waits.nodes c.self.inside.tickets.items c.args.after c.ticket_at-ticket.result c.ticket_at-ticket.ensures c.self.invariant.tickets_are from

pub call_of-requires : goal.call_of-requires
call_of-requires c =
    let from = subst (λ cs. IfSome c.args.after (λ i. (k : ℕ) × IsIn c.args.queue cs k i)) (sym (ap (λ v. v.calls) c.self.view_is)) c.requires.after in
    let on = goes_on c.args.queue c.self.inside.waits.nodes c.self.inside.tickets.items c.args.after c.ticket_at-ticket.result c.next_of.result c.ticket_at-ticket.ensures c.self.invariant.tickets_are from c.next_of.ensures in
    found_stands c.args.queue c.self.inside.waits.nodes (after_place c.args.after) c.in-Some.next (sym on ∙ c.in-Some.is)

pub returns-in-Some : goal.returns-in-Some
returns-in-Some c =
    let from = subst (λ cs. IfSome c.args.after (λ i. (k : ℕ) × IsIn c.args.queue cs k i)) (sym (ap (λ v. v.calls) c.self.view_is)) c.requires.after in
    let on = goes_on c.args.queue c.self.inside.waits.nodes c.self.inside.tickets.items c.args.after c.ticket_at-ticket.result c.next_of.result c.ticket_at-ticket.ensures c.self.invariant.tickets_are from c.next_of.ensures in
    subst (λ v. IsNext c.args.queue v.calls (after_place c.args.after) (Some c.call_of.result)) c.self.view_is
    (finds_some c.args.queue c.self.inside.waits.nodes (after_place c.args.after) c.in-Some.next c.call_of.result (sym on ∙ c.in-Some.is) c.call_of.ensures)

pub returns-in-None : goal.returns-in-None
returns-in-None c =
    let from = subst (λ cs. IfSome c.args.after (λ i. (k : ℕ) × IsIn c.args.queue cs k i)) (sym (ap (λ v. v.calls) c.self.view_is)) c.requires.after in
    let on = goes_on c.args.queue c.self.inside.waits.nodes c.self.inside.tickets.items c.args.after c.ticket_at-ticket.result c.next_of.result c.ticket_at-ticket.ensures c.self.invariant.tickets_are from c.next_of.ensures in
    subst (λ v. IsNext c.args.queue v.calls (after_place c.args.after) None) c.self.view_is
    (finds_none c.args.queue c.self.inside.waits.nodes (after_place c.args.after) (sym on ∙ c.in-None.is))

use Rattle.std.proofs.Common.{◌≡◌, ◌+◌, ◌<◌, length, map, get_or, sym, ◌∙◌, ap, arith}
use Rattle.std.specs.List.{remove}
use Rattle.std.specs.VecDeque.{deque_len}
use Rattle.std.proofs.lemmas.List.{length-map}
use Rattle.wait_list.specs.Waiting.{Standing}
use Rattle.call_table.specs.Queues.{queued_at}
use Rattle.call_table.proofs.Walks.{gone, stands_there, map_remove}
use Rattle.call_table.proofs.queues.CallQueues.remove.Goals as goal

pub remove-requires-2 : goal.remove-requires-2
remove-requires-2 g c =
    let ns = c.self.inside.waits.nodes in
    let size = ap (λ v. length v.calls) c.self.view_is in
    let l = length-map ns queued_at in
    let lt : c.args.at < length ns = omega (arith, c.requires) in
    let value : c.unwrap-ticket.result ≡ get_or c.self.inside.tickets.items c.args.at c.unwrap-ticket.result = rw c.unwrap-ticket.ensures at c.remove.ensures.value in
    stands_there ns c.self.inside.tickets.items c.args.at c.unwrap-ticket.result lt c.self.invariant.tickets_are value

pub invariant_of-self : goal.invariant_of-self
invariant_of-self g c =
    let ns = c.self.inside.waits.nodes in
    let size = ap (λ v. length v.calls) c.self.view_is in
    let l = length-map ns queued_at in
    let lt : c.args.at < length ns = omega (arith, c.requires) in
    let value : c.unwrap-ticket.result ≡ get_or c.self.inside.tickets.items c.args.at c.unwrap-ticket.result = rw c.unwrap-ticket.ensures at c.remove.ensures.value in
    let left = gone ns c.remove-2.new.self.nodes c.self.inside.tickets.items c.args.at c.unwrap-ticket.result lt c.self.invariant.tickets_are value c.remove-2.ensures.nodes in
    let items : c.remove.new.self.items ≡ remove c.self.inside.tickets.items c.args.at = rw c.unwrap-ticket.ensures at c.remove.ensures.items in
    let len : deque_len c.remove.new.self + 1 ≡ deque_len c.self.inside.tickets = rw c.unwrap-ticket.ensures at c.remove.ensures.len in
    let cap = c.remove.ensures.capacity in
    let places = c.self.invariant.places in
    let more = c.remove-2.ensures.spare in
    let spare = c.self.invariant.spare in
    let same = c.remove-2.ensures.queues in
    record {
      tickets_are =
          items
          ∙ (ap (λ ts. remove ts c.args.at) c.self.invariant.tickets_are
          ∙ (sym (map_remove (λ (n : Standing). n.ticket) ns c.args.at) ∙ ap (map (λ (n : Standing). n.ticket)) (sym left)));
      differ = c.remove-2.ensures.differ;
      places = omega arith;
      spare = omega arith;
      queues = λ h. let all = c.self.invariant.queues (omega arith) in omega arith;
    }

pub returns-clause-calls : goal.returns-clause-calls
returns-clause-calls g c =
    let ns = c.self.inside.waits.nodes in
    let size = ap (λ v. length v.calls) c.self.view_is in
    let l = length-map ns queued_at in
    let lt : c.args.at < length ns = omega (arith, c.requires) in
    let value : c.unwrap-ticket.result ≡ get_or c.self.inside.tickets.items c.args.at c.unwrap-ticket.result = rw c.unwrap-ticket.ensures at c.remove.ensures.value in
    let left = gone ns c.remove-2.new.self.nodes c.self.inside.tickets.items c.args.at c.unwrap-ticket.result lt c.self.invariant.tickets_are value c.remove-2.ensures.nodes in
    ap (map queued_at) left ∙ (map_remove queued_at ns c.args.at ∙ ap (λ v. remove v.calls c.args.at) c.self.view_is)

use Rattle.std.proofs.Common.{◌≡◌, ◌∷◌, [], ◌&&◌, sym, ◌∙◌, ap, arith}
use Rattle.std.proofs.lemmas.Grind.{common_steps}
use Rattle.handle_model.specs.Slots.{named}
use Rattle.call_table.specs.Queues.{queue_of, queued, is_in, shares, blocks, least_of}
use Rattle.call_table.proofs.Nearest.{least_call, no_slots, none_shared, one_queue}
use Rattle.call_table.proofs.blocking.+least_blocker.Goals as goal

pub returns-in_default : goal.returns-in_default
returns-in_default t c =
    let none : c.args.named.now ≡ [] = no_slots c.args.named.now (rw c.in_default.is at c.split_first.ensures.cases) in
    sym (ap (λ ss. least_call (λ r. shares ss r && blocks c.args.kind c.args.slots.now r) c.args.rows.now.items) none ∙ none_shared c.args.kind c.args.slots.now c.args.rows.now.items)

pub returns-in-Some-queue_of : goal.returns-in-Some-queue_of
returns-in-Some-queue_of t c =
    let all : c.args.named.now ≡ c.in-Some.slot.now ∷ c.in-Some.later.now = grind (arith, common_steps) in
    let queue = sym c.queue_of.ensures.queue ∙ c.in-Some-queue_of.is in
    c.lesser_of.ensures
    ∙ (ap (λ o. least_of o c.least_blocker-other.result) c.first_blocker.ensures
    ∙ (ap (λ o. least_of (least_call (λ r. is_in c.in-Some-queue_of.queue (queued r) && blocks c.args.kind c.args.slots.now r) c.args.rows.now.items) o) c.least_blocker-other.ensures
    ∙ (one_queue c.args.kind c.args.slots.now (queue_of (named c.in-Some.slot.now)) c.in-Some-queue_of.queue c.in-Some.later.now c.args.rows.now.items c.requires.rise queue
    ∙ ap (λ ss. least_call (λ r. shares ss r && blocks c.args.kind c.args.slots.now r) c.args.rows.now.items) (sym all))))

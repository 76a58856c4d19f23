use Rattle.std.proofs.Common.{◌≡◌, ◌∷◌, [], ◌&&◌, sym, ◌∙◌, ap, arith}
use Rattle.std.proofs.lemmas.Grind.{common_steps}
use Rattle.handle_model.specs.Slots.{named}
use Rattle.call_table.specs.Queues.{queue_of, shares}
use Rattle.call_table.specs.Ahead.{greatest_of, is_ahead}
use Rattle.call_table.proofs.Nearest.{no_slots}
use Rattle.call_table.proofs.Later.{greatest_call, is_queued_ahead, none_sharing, queue_more}
use Rattle.call_table.proofs.ahead.+last_sharing.Goals as goal

pub returns-in_default : goal.returns-in_default
returns-in_default t c =
    let none : c.args.named.now ≡ [] = no_slots c.args.named.now (rw c.in_default.is at c.split_first.ensures.cases) in
    sym (ap (λ ss. greatest_call (λ r. shares ss r && is_ahead c.args.slots.now c.args.call r) c.args.rows.now.items) none ∙ none_sharing c.args.slots.now c.args.call c.args.rows.now.items)

pub returns-in-Some-queue_of : goal.returns-in-Some-queue_of
returns-in-Some-queue_of t c =
    let all : c.args.named.now ≡ c.in-Some.slot.now ∷ c.in-Some.later.now = grind (arith, common_steps) in
    let queue = sym c.queue_of.ensures.queue ∙ c.in-Some-queue_of.is in
    c.greater_of.ensures
    ∙ (ap (λ o. greatest_of o c.last_sharing-other.result) c.last_queued.ensures
    ∙ (ap (λ o. greatest_of (greatest_call (is_queued_ahead c.in-Some-queue_of.queue c.args.slots.now c.args.call) c.args.rows.now.items) o) c.last_sharing-other.ensures
    ∙ (queue_more c.args.slots.now c.args.call (queue_of (named c.in-Some.slot.now)) c.in-Some-queue_of.queue c.in-Some.later.now c.args.rows.now.items queue
    ∙ ap (λ ss. greatest_call (λ r. shares ss r && is_ahead c.args.slots.now c.args.call r) c.args.rows.now.items) (sym all))))

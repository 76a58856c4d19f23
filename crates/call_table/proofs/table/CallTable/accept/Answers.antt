use Rattle.std.proofs.Common.{◌≡◌, ◌++◌, ◌∷◌, [], false, length, ◌∙◌, ap, sym, subst, arith, refl, ◌-◌}
use Rattle.call_table.specs.Rows.{over}
use Rattle.call_table.specs.Tally.{IsTally}
use Rattle.call_table.proofs.Tallied.{tally_room, tally_push}
use Rattle.call_table.specs.Queues.{IsQueued, queues_of}
use Rattle.call_table.specs.Waits.{waits_under, HasWaiting}
use Rattle.call_table.specs.Places.{IsPlaced}
use Rattle.call_table.proofs.Marks.{added}
use Rattle.call_table.proofs.Nearest.{push_queued}
use Rattle.call_table.proofs.Ordered.{keys_push}
use Rattle.call_table.proofs.Places.{placed_push}
use Rattle.call_table.proofs.table.CallTable.accept.Goals as goal

pub enter-requires : goal.enter-requires
enter-requires c = tally_room _ _ c.self.invariant.0.rises c.self.invariant.0.few c.self.invariant.1

pub invariant_of-self : goal.invariant_of-self
invariant_of-self c =
    let grown : c.push.new.self.items ≡ c.self.inside.rows.items ++ record { call = c.args.call; conn = c.args.conn; slots = c.of.result; place = c.args.place; runs = false; cancelled = false; orphaned = false } ∷ [] = c.push.ensures.items in
    let few : length c.of.result ≡ length c.args.slots.now = ap (λ ss. length ss) (c.of.ensures ∙ c.as_slice.ensures) in
    let room : c.self.inside.room ≡ c.args.self.now.room = ap (λ v. v.room) c.self.view_is in
    (added _ _ _ _ _ _ c.self.invariant.0 (omega (arith, c.requires.room)) (ap (λ v. over c.args.call v.rows) c.self.view_is ∙ c.requires.last) c.ranges.call.fits (omega (arith, c.requires.few)) grown c.push.ensures.room, subst (λ rows. IsTally rows c.enter.new.self) (sym grown) (tally_push _ _ _ _ c.self.invariant.1 c.enter.ensures), subst (λ rows. IsQueued rows c.join.new.self (c.self.inside.room - 1)) (sym grown) (push_queued _ _ _ _ _ _ c.self.invariant.2 (c.join.ensures.calls ∙ ap (λ ss. c.self.inside.queues.calls ++ record { call = c.args.call; queues = queues_of ss } ∷ []) (c.as_slice-2.ensures ∙ sym (c.of.ensures ∙ c.as_slice.ensures))) c.join.ensures.room (omega (arith, c.requires.room))), record { has_waiting = subst (λ rows. HasWaiting rows c.enter-2.new.self.keys) (sym grown) (keys_push waits_under _ c.self.inside.waiting.keys c.enter-2.new.self.keys _ c.self.invariant.3.has_waiting c.enter-2.ensures.keys); enough = omega (arith, c.enter-2.ensures.room, c.self.invariant.3.enough, c.requires.room) }, subst (λ rows. IsPlaced rows c.self.inside.running (c.self.inside.room - 1)) (sym grown) (placed_push _ c.self.inside.running c.self.inside.room (c.self.inside.room - 1) _ refl (omega (arith, c.requires.room)) c.self.invariant.4))

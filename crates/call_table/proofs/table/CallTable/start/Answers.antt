use Rattle.std.proofs.Common.{◌≡◌, ◌+◌, ◌≤◌, true, ◌∙◌, ap, sym, subst, refl, arith, length, take}
use Rattle.call_table.specs.Kept.{blank}
use Rattle.call_table.specs.Rows.{waits_at, slots_at, no_cookies, taken, with_start}
use Rattle.call_table.specs.Tally.{IsTally}
use Rattle.call_table.proofs.Tallied.{tally_room, waits_row, tally_started}
use Rattle.call_table.specs.Queues.{IsQueued}
use Rattle.call_table.specs.Waits.{waits_under, HasWaiting}
use Rattle.call_table.specs.Places.{IsPlaced}
use Rattle.call_table.proofs.Nearest.{mark_queued}
use Rattle.call_table.proofs.Keyed.{set_call}
use Rattle.call_table.proofs.Marks.{waits_called, row_place, slots_place, begun, some_list, blank_cut, last_blank}
use Rattle.call_table.proofs.Ordered.{keys_hold}
use Rattle.call_table.proofs.Waits.{listed_started}
use Rattle.call_table.proofs.Places.{start_room, placed_started}
use Rattle.call_table.proofs.table.CallTable.start.Goals as goal

pub place-at-requires-clause-there : goal.place-at-requires-clause-there
place-at-requires-clause-there c = waits_called c.self.inside.rows.items c.args.call (ap (λ v. waits_at v.rows c.args.call) c.self.view_is ∙ c.requires)

pub row-row-requires : goal.row-row-requires
row-row-requires c = c.place-at.ensures.within

pub start-requires : goal.start-requires
start-requires c =
    let waits : waits_at c.self.inside.rows.items c.args.call ≡ true = ap (λ v. waits_at v.rows c.args.call) c.self.view_is ∙ c.requires in
    let rise = c.self.invariant.0.rises in
    let there = row_place 0 _ _ _ c.row-row.result.now rise c.place-at.ensures c.row-row.ensures in
    start_room c.self.inside.rows.items c.self.inside.running c.self.inside.room c.args.call _ rise there (waits_row 0 _ c.args.call _ rise waits there) c.self.invariant.4

pub start-requires-2 : goal.start-requires-2
start-requires-2 c = c.place-at.ensures.within

pub returns-clause-rows : goal.returns-clause-rows
returns-clause-rows c =
    ap (λ v. v.items) c.start-2.ensures ∙ (set_call taken 0 _ _ _ c.self.invariant.0.rises c.place-at.ensures ∙ ap (λ v. with_start c.args.call v.rows) c.self.view_is)

pub unwrap-requires : goal.unwrap-requires
unwrap-requires c =
    let waits : waits_at c.self.inside.rows.items c.args.call ≡ true = ap (λ v. waits_at v.rows c.args.call) c.self.view_is ∙ c.requires in
    c.pop.ensures.variant.1 (some_list c.self.inside.rows c.self.inside.lists c.self.inside.room c.args.call c.self.invariant.0 waits)

pub overflow_add-self : goal.overflow_add-self
overflow_add-self c = let room = tally_room _ _ c.self.invariant.0.rises c.self.invariant.0.few c.self.invariant.1 in omega (arith, room.running_room)

pub invariant_of-self : goal.invariant_of-self
invariant_of-self c =
    let waits : waits_at c.self.inside.rows.items c.args.call ≡ true = ap (λ v. waits_at v.rows c.args.call) c.self.view_is ∙ c.requires in
    let one = rw c.unwrap.ensures at c.pop.ensures.cases in
    let rise = c.self.invariant.0.rises in
    let same = ap (λ v. v.items) c.start-2.ensures ∙ set_call taken 0 _ _ _ rise c.place-at.ensures in
    let there = row_place 0 _ _ _ c.row-row.result.now rise c.place-at.ensures c.row-row.ensures in
    (begun c.self.inside.rows _ c.self.inside.lists _ _ c.args.call c.self.invariant.0 waits same (ap (λ v. v.room) c.start-2.ensures) one c.pop.ensures.rest, subst (λ rows. IsTally rows (record c.self.inside.tally { running = c.self.inside.tally.running + 1 })) (sym same) (tally_started _ c.self.inside.tally (record c.self.inside.tally { running = c.self.inside.tally.running + 1 }) c.args.call _ rise waits there c.self.invariant.1 refl refl), subst (λ rows. IsQueued rows c.self.inside.queues c.self.inside.room) (sym same) (mark_queued c.args.call taken _ _ _ (record { call = λ r. refl; slots = λ r. refl }) c.self.invariant.2), record { has_waiting = subst (λ rows. HasWaiting rows c.leave.new.self.keys) (sym same) (listed_started c.self.inside.rows.items c.self.inside.waiting.keys c.leave.new.self.keys c.args.call _ rise there c.self.invariant.3.has_waiting c.leave.ensures.keys); enough = omega (arith, c.leave.ensures.room, c.self.invariant.3.enough) }, subst (λ rows. IsPlaced rows c.start.new.self c.self.inside.room) (sym same) (placed_started c.self.inside.rows.items c.self.inside.running c.start.new.self c.self.inside.room c.args.call _ rise there (waits_row 0 _ c.args.call _ rise waits there) c.self.invariant.4 c.start.ensures.keys c.start.ensures.room))

pub returns-clause-cookies : goal.returns-clause-cookies
returns-clause-cookies c =
    let slots = slots_place 0 _ _ _ c.row-row.result.now c.self.invariant.0.rises c.place-at.ensures c.row-row.ensures in
    let list = last_blank _ _ c.unwrap.result c.self.invariant.0.blanks (rw c.unwrap.ensures at c.pop.ensures.items) in
    let count : length c.as_slice-count.result.now ≡ length c.row-row.result.now.slots = ap (λ ss. length ss) c.as_slice-count.ensures.slots in
    let few : length c.row-row.result.now.slots ≤ 4 = omega (arith, c.as_slice-count.ensures.few) in
    c.cut.ensures ∙ (ap (take (length c.as_slice-count.result.now)) list ∙ (ap (λ n. take n blank) count ∙ (blank_cut _ few ∙ (ap no_cookies (sym slots) ∙ ap (λ v. no_cookies (slots_at v.rows c.args.call)) c.self.view_is))))

pub leave-requires : goal.leave-requires
leave-requires c n =
    let there = row_place 0 _ _ _ c.row-row.result.now c.self.invariant.0.rises c.place-at.ensures c.row-row.ensures in
    keys_hold waits_under c.self.inside.rows.items c.self.inside.waiting.keys c.args.call c.row-row.result.now c.self.invariant.0.rises there c.self.invariant.3.has_waiting n

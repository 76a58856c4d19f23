use Rattle.std.proofs.Common.{◌≡◌, ◌≢◌, ◌+◌, ◌≤◌, length, refl, sym, ◌∙◌, ap, subst, arith, vec_len}
use Rattle.std.specs.List.{insert}
use Rattle.std.proofs.lemmas.Grind.{common_steps}
use Rattle.handle_table.specs.Cells.{living, live_cell}
use Rattle.handle_table.specs.Places.{no_key, cells_in}
use Rattle.handle_table.proofs.Found.{length_insert}
use Rattle.handle_table.proofs.Placed.{free_keys, cells_insert, stand_insert, apart_insert}
use Rattle.handle_table.proofs.serial_index.SerialIndex.insert.Goals as goal

pub invariant_of-self : goal.invariant_of-self
invariant_of-self c =
    let narrow = c.self.invariant.narrow in
    let below = c.insert_reserved-key.ensures.key_in_range in
    let fits = c.insert_reserved-key.ensures.capacity in
    let has_key : c.insert_reserved-key.result ≢ no_key = λ e. omega arith in
    let off = free_keys c.self.inside.handles c.insert_reserved-key.result c.self.inside.places.items has_key c.insert_reserved-key.ensures.was_vacant c.self.invariant.stand in
    let grown : c.insert.new.self.items ≡ insert c.self.inside.places.items c.args.at (record { serial = c.args.item.serial; key = c.insert_reserved-key.result }) = grind (arith, common_steps) in
    let longer : vec_len c.insert.new.self ≡ vec_len c.self.inside.places + 1 = grind (arith, common_steps) in
    let within : c.args.at ≤ length (cells_in c.self.inside.handles c.self.inside.places.items) = subst (λ v. c.args.at ≤ length v.cells) (sym c.self.view_is) c.requires.within in
    let cells = cells_insert c.self.inside.handles c.insert_reserved-key.new.self c.self.inside.places.items c.args.at (record { serial = c.args.item.serial; key = c.insert_reserved-key.result }) c.args.item c.insert_reserved-key.ensures.updates has_key off in
    let more = length_insert (cells_in c.self.inside.handles c.self.inside.places.items) c.args.at (live_cell c.args.item) within refl in
    let room = ap (λ v. v.room) c.self.view_is in
    let some = c.requires.room in
    let cap = c.insert.ensures.capacity in
    let places = c.self.invariant.room_there in
    let spare = c.self.invariant.spare in
    let one = c.insert_reserved-key.ensures.len in
    record {
      stand = rw grown (stand_insert c.self.inside.handles c.insert_reserved-key.new.self c.self.inside.places.items c.args.at (record { serial = c.args.item.serial; key = c.insert_reserved-key.result }) c.args.item c.insert_reserved-key.ensures.updates refl off c.self.invariant.stand);
      apart = rw grown (apart_insert c.self.inside.places.items c.args.at (record { serial = c.args.item.serial; key = c.insert_reserved-key.result }) off c.self.invariant.apart);
      counted = rw grown (one ∙ (ap (λ n. n + 1) c.self.invariant.counted ∙ (sym more ∙ sym (ap (λ cs. length (living cs)) cells))));
      room_there = omega arith;
      spare = omega arith;
      narrow = omega arith;
    }

pub returns-clause-cells : goal.returns-clause-cells
returns-clause-cells c =
    let narrow = c.self.invariant.narrow in
    let below = c.insert_reserved-key.ensures.key_in_range in
    let fits = c.insert_reserved-key.ensures.capacity in
    let has_key : c.insert_reserved-key.result ≢ no_key = λ e. omega arith in
    let off = free_keys c.self.inside.handles c.insert_reserved-key.result c.self.inside.places.items has_key c.insert_reserved-key.ensures.was_vacant c.self.invariant.stand in
    let grown : c.insert.new.self.items ≡ insert c.self.inside.places.items c.args.at (record { serial = c.args.item.serial; key = c.insert_reserved-key.result }) = grind (arith, common_steps) in
    let cells = cells_insert c.self.inside.handles c.insert_reserved-key.new.self c.self.inside.places.items c.args.at (record { serial = c.args.item.serial; key = c.insert_reserved-key.result }) c.args.item c.insert_reserved-key.ensures.updates has_key off in
    rw grown (cells ∙ ap (λ v. insert v.cells c.args.at (live_cell c.args.item)) c.self.view_is)

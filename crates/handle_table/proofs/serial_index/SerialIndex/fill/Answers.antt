use Rattle.std.proofs.Common.{◌≡◌, ◌≢◌, ◌+◌, ◌<◌, false, length, set, refl, sym, ◌∙◌, ap, subst, arith}
use Rattle.handle_table.specs.Cells.{living, live_cell, IsAt, IsLiveAt}
use Rattle.handle_table.specs.Places.{no_key, cells_in}
use Rattle.handle_table.proofs.Found.{length_more}
use Rattle.handle_table.proofs.Placed.{free_keys, cells_fill, stand_fill, apart_fill}
use Rattle.handle_table.proofs.serial_index.SerialIndex.fill.Goals as goal

pub invariant_of-self : goal.invariant_of-self
invariant_of-self c =
    let narrow = c.self.invariant.narrow in
    let below = c.insert_reserved-key.ensures.key_in_range in
    let fits = c.insert_reserved-key.ensures.capacity in
    let has_key : c.insert_reserved-key.result ≢ no_key = λ e. omega arith in
    let off = free_keys c.self.inside.handles c.insert_reserved-key.result c.self.inside.places.items has_key c.insert_reserved-key.ensures.was_vacant c.self.invariant.stand in
    let there : IsAt (cells_in c.self.inside.handles c.self.inside.places.items) c.args.item.serial c.args.at = subst (λ v. IsAt v.cells c.args.item.serial c.args.at) (sym c.self.view_is) c.requires.there in
    let dead : IsLiveAt (cells_in c.self.inside.handles c.self.inside.places.items) c.args.at false = subst (λ v. IsLiveAt v.cells c.args.at false) (sym c.self.view_is) c.requires.dead in
    let cells = cells_fill c.self.inside.handles c.insert_reserved-key.new.self c.self.inside.places.items c.args.at (record { serial = c.args.item.serial; key = c.insert_reserved-key.result }) c.args.item c.insert_reserved-key.ensures.updates has_key off in
    let more = length_more (cells_in c.self.inside.handles c.self.inside.places.items) c.args.at (live_cell c.args.item) there.within dead refl in
    let room = ap (λ v. v.room) c.self.view_is in
    let some = c.requires.room in
    let places = c.self.invariant.room_there in
    let spare = c.self.invariant.spare in
    let one = c.insert_reserved-key.ensures.len in
    record {
      stand = stand_fill c.self.inside.handles c.insert_reserved-key.new.self c.self.inside.places.items c.args.at (record { serial = c.args.item.serial; key = c.insert_reserved-key.result }) c.args.item c.insert_reserved-key.ensures.updates refl off c.self.invariant.stand;
      apart = apart_fill c.self.inside.places.items c.args.at (record { serial = c.args.item.serial; key = c.insert_reserved-key.result }) off c.self.invariant.apart;
      counted = one ∙ (ap (λ n. n + 1) c.self.invariant.counted ∙ (sym more ∙ sym (ap (λ cs. length (living cs)) cells)));
      room_there = omega (arith, c.self.invariant.room_there);
      spare = omega arith;
      narrow = omega arith;
    }

pub returns-clause-cells : goal.returns-clause-cells
returns-clause-cells c =
    let narrow = c.self.invariant.narrow in
    let below = c.insert_reserved-key.ensures.key_in_range in
    let fits = c.insert_reserved-key.ensures.capacity in
    let has_key : c.insert_reserved-key.result ≢ no_key = λ e. omega arith in
    let off = free_keys c.self.inside.handles c.insert_reserved-key.result c.self.inside.places.items has_key c.insert_reserved-key.ensures.was_vacant c.self.invariant.stand in
    let cells = cells_fill c.self.inside.handles c.insert_reserved-key.new.self c.self.inside.places.items c.args.at (record { serial = c.args.item.serial; key = c.insert_reserved-key.result }) c.args.item c.insert_reserved-key.ensures.updates has_key off in
    cells ∙ ap (λ v. set v.cells c.args.at (live_cell c.args.item)) c.self.view_is

use Rattle.std.proofs.Common.{◌≡◌, ◌≢◌, ◌+◌, ◌<◌, true, length, set, refl, sym, ◌∙◌, ap, subst, arith}
use Rattle.slab.specs.Slab.{with_value}
use Rattle.handle_table.specs.Cells.{living, live_cell, IsAt, IsLiveAt}
use Rattle.handle_table.specs.Places.{cell_at, cells_in}
use Rattle.handle_table.proofs.Found.{length_kept}
use Rattle.handle_table.proofs.Placed.{size_in, serial_read, live_read, live_there, cells_write, stand_write, wrote, count_write}
use Rattle.handle_table.proofs.serial_index.SerialIndex.set.Goals as goal

pub unreachable-requires : goal.unreachable-requires
unreachable-requires c =
    let there : IsAt (cells_in c.self.inside.handles c.self.inside.places.items) c.args.item.serial c.args.at = subst (λ v. IsAt v.cells c.args.item.serial c.args.at) (sym c.self.view_is) c.requires.there in
    let live : IsLiveAt (cells_in c.self.inside.handles c.self.inside.places.items) c.args.at true = subst (λ v. IsLiveAt v.cells c.args.at true) (sym c.self.view_is) c.requires.live in
    let lt : c.args.at < length c.self.inside.places.items = subst (λ n. c.args.at < n) (size_in c.self.inside.handles c.self.inside.places.items) there.within in
    let there_is = (live_there c.self.inside.handles c.self.inside.places.items c.args.at c.index.result.now c.self.invariant.stand lt c.index.ensures live).1 in
    let none = rw c.in-None.is at c.get_mut.ensures.value in absurd (cc)

pub invariant_of-self : goal.invariant_of-self
invariant_of-self c =
    let there : IsAt (cells_in c.self.inside.handles c.self.inside.places.items) c.args.item.serial c.args.at = subst (λ v. IsAt v.cells c.args.item.serial c.args.at) (sym c.self.view_is) c.requires.there in
    let live : IsLiveAt (cells_in c.self.inside.handles c.self.inside.places.items) c.args.at true = subst (λ v. IsLiveAt v.cells c.args.at true) (sym c.self.view_is) c.requires.live in
    let lt : c.args.at < length c.self.inside.places.items = subst (λ n. c.args.at < n) (size_in c.self.inside.handles c.self.inside.places.items) there.within in
    let key = live_read c.self.inside.handles c.self.inside.places.items c.args.at c.index.result.now lt c.index.ensures live in
    let was = live_there c.self.inside.handles c.self.inside.places.items c.args.at c.index.result.now c.self.invariant.stand lt c.index.ensures live in
    let wrote_it = wrote c.self.inside.handles c.index.result.now.key was.0 c.args.item was.1 in
    let cells = cells_write c.self.inside.handles (with_value c.self.inside.handles c.index.result.now.key c.args.item) c.self.inside.places.items c.args.at c.index.result.now c.args.item wrote_it c.self.invariant.apart lt c.index.ensures key in
    let serial = sym (there.here (cell_at c.self.inside.handles c.index.result.now)) ∙ (serial_read c.self.inside.handles c.self.inside.places.items c.args.at c.index.result.now (cell_at c.self.inside.handles c.index.result.now) c.self.invariant.stand lt c.index.ensures ∙ sym was.2) in
    let kept = length_kept (cells_in c.self.inside.handles c.self.inside.places.items) c.args.at (live_cell c.args.item) there.within live refl in
    let count = ap (λ cs. length (living cs)) cells in
    let all = count_write c.self.inside.handles c.index.result.now.key was.0 c.args.item was.1 in
    let spare = c.self.invariant.spare in
    record {
      stand = stand_write c.self.inside.handles (with_value c.self.inside.handles c.index.result.now.key c.args.item) c.self.inside.places.items c.index.result.now.key was.0 c.args.item was.1 wrote_it serial c.self.invariant.stand;
      apart = c.self.invariant.apart;
      counted = all ∙ (c.self.invariant.counted ∙ (sym kept ∙ sym count));
      room_there = c.self.invariant.room_there;
      spare = omega arith;
      narrow = c.self.invariant.narrow;
    }

pub returns : goal.returns
returns c =
    let there : IsAt (cells_in c.self.inside.handles c.self.inside.places.items) c.args.item.serial c.args.at = subst (λ v. IsAt v.cells c.args.item.serial c.args.at) (sym c.self.view_is) c.requires.there in
    let live : IsLiveAt (cells_in c.self.inside.handles c.self.inside.places.items) c.args.at true = subst (λ v. IsLiveAt v.cells c.args.at true) (sym c.self.view_is) c.requires.live in
    let lt : c.args.at < length c.self.inside.places.items = subst (λ n. c.args.at < n) (size_in c.self.inside.handles c.self.inside.places.items) there.within in
    let key = live_read c.self.inside.handles c.self.inside.places.items c.args.at c.index.result.now lt c.index.ensures live in
    let was = live_there c.self.inside.handles c.self.inside.places.items c.args.at c.index.result.now c.self.invariant.stand lt c.index.ensures live in
    let wrote_it = wrote c.self.inside.handles c.index.result.now.key was.0 c.args.item was.1 in
    let cells = cells_write c.self.inside.handles (with_value c.self.inside.handles c.index.result.now.key c.args.item) c.self.inside.places.items c.args.at c.index.result.now c.args.item wrote_it c.self.invariant.apart lt c.index.ensures key in
    ap (λ cs. record { cells = cs; room = c.self.inside.room }) cells
    ∙ ap (λ v. record { cells = set v.cells c.args.at (live_cell c.args.item); room = v.room }) c.self.view_is

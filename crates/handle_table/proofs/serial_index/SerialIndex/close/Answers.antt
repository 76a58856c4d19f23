use Rattle.std.proofs.Common.{◌≡◌, ◌≢◌, ◌+◌, ◌<◌, true, length, set, refl, sym, ◌∙◌, ap, subst, arith, rules}
use Rattle.handle_table.specs.Cells.{living, dead_cell, IsAt, IsLiveAt}
use Rattle.handle_table.specs.Places.{no_key, cells_in}
use Rattle.handle_table.proofs.Found.{length_less}
use Rattle.handle_table.proofs.Placed.{size_in, live_read, live_there, cells_close, stand_close, apart_close}
use Rattle.handle_table.proofs.serial_index.SerialIndex.close.Goals as goal

pub remove-requires : goal.remove-requires
remove-requires c =
    let there : IsAt (cells_in c.self.inside.handles c.self.inside.places.items) c.args.serial c.args.at = subst (λ v. IsAt v.cells c.args.serial c.args.at) (sym c.self.view_is) c.requires.there in
    let live : IsLiveAt (cells_in c.self.inside.handles c.self.inside.places.items) c.args.at true = subst (λ v. IsLiveAt v.cells c.args.at true) (sym c.self.view_is) c.requires.live in
    let lt : c.args.at < length c.self.inside.places.items = subst (λ n. c.args.at < n) (size_in c.self.inside.handles c.self.inside.places.items) there.within in
    let x = live_there c.self.inside.handles c.self.inside.places.items c.args.at c.index.result.now c.self.invariant.stand lt c.index.ensures live in rw x.1 (search rules)

pub invariant_of-self : goal.invariant_of-self
invariant_of-self c =
    let there : IsAt (cells_in c.self.inside.handles c.self.inside.places.items) c.args.serial c.args.at = subst (λ v. IsAt v.cells c.args.serial c.args.at) (sym c.self.view_is) c.requires.there in
    let live : IsLiveAt (cells_in c.self.inside.handles c.self.inside.places.items) c.args.at true = subst (λ v. IsLiveAt v.cells c.args.at true) (sym c.self.view_is) c.requires.live in
    let lt : c.args.at < length c.self.inside.places.items = subst (λ n. c.args.at < n) (size_in c.self.inside.handles c.self.inside.places.items) there.within in
    let key = live_read c.self.inside.handles c.self.inside.places.items c.args.at c.index.result.now lt c.index.ensures live in
    let cells = cells_close c.self.inside.handles c.remove.new.self c.self.inside.places.items c.args.at c.index.result.now (record { serial = c.args.serial; key = no_key }) c.remove.ensures.updates c.self.invariant.apart lt c.index.ensures key refl in
    let less = length_less (cells_in c.self.inside.handles c.self.inside.places.items) c.args.at (dead_cell c.args.serial) there.within live refl in
    let count = ap (λ cs. length (living cs)) cells in
    let was = c.self.invariant.counted in
    let one = c.remove.ensures.len in
    let same = c.remove.ensures.capacity in
    let spare = c.self.invariant.spare in
    let narrow = c.self.invariant.narrow in
    record {
      stand = stand_close c.self.inside.handles c.remove.new.self c.self.inside.places.items c.args.at c.index.result.now (record { serial = c.args.serial; key = no_key }) c.remove.ensures.updates c.self.invariant.apart c.self.invariant.stand lt c.index.ensures key refl;
      apart = apart_close c.self.inside.places.items c.args.at (record { serial = c.args.serial; key = no_key }) refl c.self.invariant.apart;
      counted = omega arith;
      room_there = omega (arith, c.self.invariant.room_there);
      spare = omega arith;
      narrow = omega arith;
    }

pub returns : goal.returns
returns c =
    let there : IsAt (cells_in c.self.inside.handles c.self.inside.places.items) c.args.serial c.args.at = subst (λ v. IsAt v.cells c.args.serial c.args.at) (sym c.self.view_is) c.requires.there in
    let live : IsLiveAt (cells_in c.self.inside.handles c.self.inside.places.items) c.args.at true = subst (λ v. IsLiveAt v.cells c.args.at true) (sym c.self.view_is) c.requires.live in
    let lt : c.args.at < length c.self.inside.places.items = subst (λ n. c.args.at < n) (size_in c.self.inside.handles c.self.inside.places.items) there.within in
    let key = live_read c.self.inside.handles c.self.inside.places.items c.args.at c.index.result.now lt c.index.ensures live in
    let cells = cells_close c.self.inside.handles c.remove.new.self c.self.inside.places.items c.args.at c.index.result.now (record { serial = c.args.serial; key = no_key }) c.remove.ensures.updates c.self.invariant.apart lt c.index.ensures key refl in
    ap (λ cs. record { cells = cs; room = c.self.inside.room }) cells
    ∙ ap (λ v. record { cells = set v.cells c.args.at (dead_cell c.args.serial); room = v.room }) c.self.view_is

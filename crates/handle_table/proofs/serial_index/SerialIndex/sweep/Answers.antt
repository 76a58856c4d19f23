use Rattle.std.proofs.Common.{◌≡◌, ◌+◌, ◌≤◌, length, sym, ◌∙◌, ap, subst, arith, rules}
use Rattle.std.specs.List.{AllByRecursion, filter}
use Rattle.std.proofs.lemmas.Fn.{filter_same}
use Rattle.handle_table.specs.Cells.{living, is_live}
use Rattle.handle_table.specs.Places.{cells_in, Stands, Apart}
use Rattle.handle_table.proofs.Found.{living_filter}
use Rattle.handle_table.proofs.Placed.{is_kept, cells_sweep, stand_sweep, apart_sweep}
use Rattle.handle_table.proofs.serial_index.SerialIndex.sweep.Goals as goal

pub invariant_of-self : goal.invariant_of-self
invariant_of-self c =
    let left = filter_same _ is_kept _ (λ x b f' k. search rules) _ _ c.retain.ensures.filtered in
    let cells = cells_sweep c.self.inside.handles c.self.inside.places.items c.self.invariant.stand in
    record {
      stand = subst (AllByRecursion (Stands c.self.inside.handles)) (sym left) (stand_sweep c.self.inside.handles c.self.inside.places.items c.self.invariant.stand);
      apart = subst Apart (sym left) (apart_sweep c.self.inside.places.items c.self.invariant.apart);
      counted = c.self.invariant.counted ∙ sym (ap (λ ps. length (living (cells_in c.self.inside.handles ps))) left ∙ (ap (λ cs. length (living cs)) cells ∙ ap (λ xs. length xs) (living_filter (cells_in c.self.inside.handles c.self.inside.places.items))));
      room_there = omega (arith, c.self.invariant.room_there, c.retain.ensures.bound, c.retain.ensures.capacity);
      spare = c.self.invariant.spare;
      narrow = c.self.invariant.narrow;
    }

pub returns : goal.returns
returns c =
    let left = filter_same _ is_kept _ (λ x b f' k. search rules) _ _ c.retain.ensures.filtered in
    ap (λ ps. record { cells = cells_in c.self.inside.handles ps; room = c.self.inside.room }) left
    ∙ (ap (λ cs. record { cells = cs; room = c.self.inside.room }) (cells_sweep c.self.inside.handles c.self.inside.places.items c.self.invariant.stand) ∙ ap (λ v. record { cells = filter is_live v.cells; room = v.room }) c.self.view_is)

use Rattle.std.proofs.Common.{◌≡◌, ◌+◌, ◌++◌, ◌∷◌, [], refl, ◌∙◌, ap, arith}
use Rattle.std.specs.VecDeque.{deque_len}
use Rattle.std.proofs.lemmas.Grind.{common_steps}
use Rattle.call_table.proofs.Keyed.{free_keys, rows_push, stand_push, apart_push}
use Rattle.call_table.proofs.row_table.RowTable.push.Goals as goal

pub invariant_of-self : goal.invariant_of-self
invariant_of-self c =
    let grown : c.push_back.new.self.items ≡ c.self.inside.index.items ++ record { call = c.args.row.call; key = c.insert_reserved-key.result } ∷ [] = grind (arith, common_steps) in
    let longer : deque_len c.push_back.new.self ≡ deque_len c.self.inside.index + 1 = grind (arith, common_steps) in
    let off = free_keys c.self.inside.rows c.insert_reserved-key.result c.self.inside.index.items c.insert_reserved-key.ensures.was_vacant c.self.invariant.stand in
    let room = ap (λ v. v.room) c.self.view_is in
    let some = c.requires in
    let cap = c.push_back.ensures.capacity in
    let places = c.self.invariant.places in
    let spare = c.self.invariant.spare in
    let more = c.insert_reserved-key.ensures.len in
    let fits = c.insert_reserved-key.ensures.capacity in
    record {
      stand = rw grown (stand_push c.self.inside.rows c.insert_reserved-key.new.self (record { call = c.args.row.call; key = c.insert_reserved-key.result }) c.args.row c.self.inside.index.items c.insert_reserved-key.ensures.updates refl off c.self.invariant.stand);
      apart = rw grown (apart_push (record { call = c.args.row.call; key = c.insert_reserved-key.result }) c.self.inside.index.items off c.self.invariant.apart);
      places = omega arith;
      spare = omega arith;
    }

pub returns-clause-items : goal.returns-clause-items
returns-clause-items c =
    let grown : c.push_back.new.self.items ≡ c.self.inside.index.items ++ record { call = c.args.row.call; key = c.insert_reserved-key.result } ∷ [] = grind (arith, common_steps) in
    let off = free_keys c.self.inside.rows c.insert_reserved-key.result c.self.inside.index.items c.insert_reserved-key.ensures.was_vacant c.self.invariant.stand in
    rw grown (rows_push c.self.inside.rows c.insert_reserved-key.new.self (record { call = c.args.row.call; key = c.insert_reserved-key.result }) c.args.row c.self.inside.index.items c.insert_reserved-key.ensures.updates off c.self.invariant.stand ∙ ap (λ v. v.items ++ c.args.row ∷ []) c.self.view_is)

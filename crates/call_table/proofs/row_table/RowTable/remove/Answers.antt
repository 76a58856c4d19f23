use Rattle.std.proofs.Common.{◌≡◌, ◌+◌, ◌<◌, length, get_or, ◌∙◌, ap, subst, arith, rules}
use Rattle.std.specs.List.{remove}
use Rattle.std.specs.VecDeque.{deque_len}
use Rattle.call_table.proofs.Keyed.{size_in, key_stands, row_there, row_at_key, rows_remove, stand_remove, apart_remove}
use Rattle.call_table.proofs.row_table.RowTable.remove.Goals as goal

pub unwrap-key-requires : goal.unwrap-key-requires
unwrap-key-requires c =
    let size = size_in c.self.inside.rows c.self.inside.index.items c.self.invariant.stand in
    let same = ap (λ v. length v.items) c.self.view_is in
    c.remove.ensures.variant.1 (omega (arith, c.requires))

pub remove-requires-2 : goal.remove-requires-2
remove-requires-2 c =
    let size = size_in c.self.inside.rows c.self.inside.index.items c.self.invariant.stand in
    let same = ap (λ v. length v.items) c.self.view_is in
    let lt : c.args.at < length c.self.inside.index.items = omega (arith, c.requires) in
    let value : c.unwrap-key.result ≡ get_or c.self.inside.index.items c.args.at c.unwrap-key.result = rw c.unwrap-key.ensures at c.remove.ensures.value in
    let stands = key_stands c.self.inside.rows c.self.inside.index.items c.args.at c.unwrap-key.result c.self.invariant.stand lt value in
    let there = (row_there c.self.inside.rows c.unwrap-key.result stands).1 in rw there (search rules)

pub invariant_of-self : goal.invariant_of-self
invariant_of-self c =
    let size = size_in c.self.inside.rows c.self.inside.index.items c.self.invariant.stand in
    let same = ap (λ v. length v.items) c.self.view_is in
    let lt : c.args.at < length c.self.inside.index.items = omega (arith, c.requires) in
    let value : c.unwrap-key.result ≡ get_or c.self.inside.index.items c.args.at c.unwrap-key.result = rw c.unwrap-key.ensures at c.remove.ensures.value in
    let items : c.remove.new.self.items ≡ remove c.self.inside.index.items c.args.at = rw c.unwrap-key.ensures at c.remove.ensures.items in
    let len : deque_len c.remove.new.self + 1 ≡ deque_len c.self.inside.index = rw c.unwrap-key.ensures at c.remove.ensures.len in
    let cap = c.remove.ensures.capacity in
    let places = c.self.invariant.places in
    let spare = c.self.invariant.spare in
    let less = c.remove-2.ensures.len in
    let room = c.remove-2.ensures.capacity in
    record {
      stand = rw items (stand_remove c.self.inside.rows c.remove-2.new.self c.self.inside.index.items c.args.at c.unwrap-key.result c.remove-2.ensures.updates c.self.invariant.apart c.self.invariant.stand lt value);
      apart = rw items (apart_remove c.self.inside.index.items c.args.at c.self.invariant.apart);
      places = omega arith;
      spare = omega arith;
    }

pub returns-clause-items : goal.returns-clause-items
returns-clause-items c =
    let size = size_in c.self.inside.rows c.self.inside.index.items c.self.invariant.stand in
    let same = ap (λ v. length v.items) c.self.view_is in
    let lt : c.args.at < length c.self.inside.index.items = omega (arith, c.requires) in
    let value : c.unwrap-key.result ≡ get_or c.self.inside.index.items c.args.at c.unwrap-key.result = rw c.unwrap-key.ensures at c.remove.ensures.value in
    let items : c.remove.new.self.items ≡ remove c.self.inside.index.items c.args.at = rw c.unwrap-key.ensures at c.remove.ensures.items in
    let gone = rows_remove c.self.inside.rows c.remove-2.new.self c.self.inside.index.items c.args.at c.unwrap-key.result c.remove-2.ensures.updates c.self.invariant.apart c.self.invariant.stand lt value in
    rw items (gone ∙ ap (λ v. remove v.items c.args.at) c.self.view_is)

pub returns-clause-value : goal.returns-clause-value
returns-clause-value c =
    let size = size_in c.self.inside.rows c.self.inside.index.items c.self.invariant.stand in
    let same = ap (λ v. length v.items) c.self.view_is in
    let lt : c.args.at < length c.self.inside.index.items = omega (arith, c.requires) in
    let value : c.unwrap-key.result ≡ get_or c.self.inside.index.items c.args.at c.unwrap-key.result = rw c.unwrap-key.ensures at c.remove.ensures.value in
    subst (λ v. c.remove-2.result ≡ get_or v.items c.args.at c.remove-2.result) c.self.view_is
    (row_at_key c.self.inside.rows c.self.inside.index.items c.args.at c.unwrap-key.result c.remove-2.result c.self.invariant.stand lt value c.remove-2.ensures.value)

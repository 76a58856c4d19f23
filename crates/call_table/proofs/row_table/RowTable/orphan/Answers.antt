use Rattle.std.proofs.Common.{◌<◌, length, refl, sym, ◌∙◌, ap, arith}
use Rattle.call_table.specs.Rows.{orphaned}
use Rattle.call_table.specs.Keys.{set_at}
use Rattle.call_table.proofs.Keyed.{size_in, key_stands, row_there, rows_set, stored_set, wrote}
use Rattle.call_table.proofs.row_table.RowTable.orphan.Goals as goal

pub index-requires : goal.index-requires
index-requires c =
    let size = size_in c.self.inside.rows c.self.inside.index.items c.self.invariant.stand in
    let same = ap (λ v. length v.items) c.self.view_is in
    omega (arith, c.requires)

pub unreachable-requires : goal.unreachable-requires
unreachable-requires c =
    let size = size_in c.self.inside.rows c.self.inside.index.items c.self.invariant.stand in
    let same = ap (λ v. length v.items) c.self.view_is in
    let lt : c.args.at < length c.self.inside.index.items = omega (arith, c.requires) in
    let stands = key_stands c.self.inside.rows c.self.inside.index.items c.args.at c.index.result.now c.self.invariant.stand lt c.index.ensures in
    let there = (row_there c.self.inside.rows c.index.result.now stands).1 in
    let none = rw c.in-None.is at c.get_mut.ensures.value in absurd (cc)

pub invariant_of-self : goal.invariant_of-self
invariant_of-self c =
    let size = size_in c.self.inside.rows c.self.inside.index.items c.self.invariant.stand in
    let same = ap (λ v. length v.items) c.self.view_is in
    let lt : c.args.at < length c.self.inside.index.items = omega (arith, c.requires) in
    let found = sym (rw c.in-Some.is at c.get_mut.ensures.value) in
    stored_set orphaned c.self.inside.rows c.self.inside.index c.self.inside.room c.args.at c.index.result.now c.in-Some.row.now (λ r. refl) c.self.invariant lt c.index.ensures found

pub returns : goal.returns
returns c =
    let size = size_in c.self.inside.rows c.self.inside.index.items c.self.invariant.stand in
    let same = ap (λ v. length v.items) c.self.view_is in
    let lt : c.args.at < length c.self.inside.index.items = omega (arith, c.requires) in
    let found = sym (rw c.in-Some.is at c.get_mut.ensures.value) in
    ap (λ rows. record { items = rows; room = c.self.inside.room }) (rows_set orphaned c.self.inside.rows _ c.self.inside.index.items c.args.at c.index.result.now c.in-Some.row.now found (wrote orphaned c.self.inside.rows c.index.result.now.key c.in-Some.row.now found) c.self.invariant.apart c.self.invariant.stand lt c.index.ensures)
    ∙ ap (λ v. record { items = set_at c.args.at orphaned v.items; room = v.room }) c.self.view_is

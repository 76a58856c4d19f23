use Rattle.std.proofs.Common.{◌≡◌, ◌<◌, length, get_or, sym, ap, subst, arith}
use Rattle.call_table.proofs.Keyed.{size_in, key_stands, row_there, row_at_key}
use Rattle.call_table.proofs.row_table.RowTable.row.Goals as goal

pub index-requires : goal.index-requires
index-requires c =
    let size = size_in c.self.inside.rows c.self.inside.index.items c.self.invariant.stand in
    let same = ap (λ v. length v.items) c.self.view_is in
    omega (arith, c.requires)

pub unreachable-requires : goal.unreachable-requires
unreachable-requires c =
    let size = size_in c.self.inside.rows c.self.inside.index.items c.self.invariant.stand in
    let same = ap (λ v. length v.items) c.self.view_is in
    let lt : c.args.at < length c.self.inside.index.items = omega (arith, c.requires) in
    let stands = key_stands c.self.inside.rows c.self.inside.index.items c.args.at c.index.result.now c.self.invariant.stand lt c.index.ensures in
    let there = (row_there c.self.inside.rows c.index.result.now stands).1 in
    let none = rw c.in-None.is at c.get.ensures in absurd (cc)

pub returns : goal.returns
returns c =
    let size = size_in c.self.inside.rows c.self.inside.index.items c.self.invariant.stand in
    let same = ap (λ v. length v.items) c.self.view_is in
    let lt : c.args.at < length c.self.inside.index.items = omega (arith, c.requires) in
    let found = sym (rw c.in-Some.is at c.get.ensures) in
    subst (λ v. c.in-Some.row.now ≡ get_or v.items c.args.at c.in-Some.row.now) c.self.view_is
    (row_at_key c.self.inside.rows c.self.inside.index.items c.args.at c.index.result.now c.in-Some.row.now c.self.invariant.stand lt c.index.ensures found)

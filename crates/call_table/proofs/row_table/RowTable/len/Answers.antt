use Rattle.std.proofs.Common.{length, ap, arith}
use Rattle.call_table.proofs.Keyed.{size_in}
use Rattle.call_table.proofs.row_table.RowTable.len.Goals as goal

pub returns : goal.returns
returns c =
    let size = size_in c.self.inside.rows c.self.inside.index.items c.self.invariant.stand in
    let same = ap (λ v. length v.items) c.self.view_is in
    omega (arith, c.len.ensures)

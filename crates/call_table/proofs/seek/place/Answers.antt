use Rattle.call_table.proofs.Search.{no_call}
use Rattle.call_table.proofs.seek.place.Goals as goal

pub unreachable-requires : goal.unreachable-requires
unreachable-requires c = let none = no_call c.args.rows.now.items c.args.call (rw c.in-None.is at c.seek.ensures) in let there = c.requires.there in absurd (cc)

pub returns : goal.returns
returns c = rw c.in-Some.is at c.seek.ensures

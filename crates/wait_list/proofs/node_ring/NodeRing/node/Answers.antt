use Rattle.std.proofs.Common.{◌∷◌, ap, sym, ◌∙◌}
use Rattle.wait_list.proofs.Cuts.{full_at}
use Rattle.wait_list.proofs.node_ring.NodeRing.node.Goals as goal

pub read-requires : goal.read-requires
read-requires c = let at = c.requires.there in let s = c.args.self.now.ring.stop in (s ∷ at.0, at.1, at.2, ap (λ l. s ∷ l) at.3, at.4)

pub unreachable-requires : goal.unreachable-requires
unreachable-requires c = let at = c.requires.there in let s = c.args.self.now.ring.stop in
    full_at c.args.self.now.ring.nodes at.0 at.1 at.2 c.requires.full at.3 (sym (c.read.ensures (s ∷ at.0) at.1 at.2 (ap (λ l. s ∷ l) at.3) at.4) ∙ c.in-None.is)

pub returns : goal.returns
returns c = λ xs n ys cut at. let s = c.args.self.now.ring.stop in sym (c.read.ensures (s ∷ xs) n ys (ap (λ l. s ∷ l) cut) at) ∙ c.in-Some.is

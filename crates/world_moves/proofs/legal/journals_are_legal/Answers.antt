use Rattle.world_moves.proofs.legal.Legal.{journals_are_legal}
use Rattle.world_moves.proofs.legal.journals_are_legal.Goals as goal

pub returns : goal.returns
returns c = journals_are_legal

use Rattle.world_moves.proofs.legal.Legal.{few_operations, journals_are_legal}
use Rattle.world_moves.proofs.legal.fates_are_always_true.Goals as goal

pub returns : goal.returns
returns c table moves w fits is played = c.fates_are_true.ensures table moves w fits (few_operations table is) played (journals_are_legal table moves w fits is played).legal

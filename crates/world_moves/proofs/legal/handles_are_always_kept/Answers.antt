use Rattle.world_moves.proofs.legal.Legal.{journals_are_legal}
use Rattle.world_moves.proofs.legal.handles_are_always_kept.Goals as goal

pub returns : goal.returns
returns c table moves w fits whole played = c.handles_are_kept.ensures table moves w fits whole played (journals_are_legal table moves w fits whole.is played).legal

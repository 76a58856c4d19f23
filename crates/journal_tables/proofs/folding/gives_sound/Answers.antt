use Rattle.journal_tables.proofs.Sounds.{base_sound}
use Rattle.journal_tables.proofs.folding.gives_sound.Goals as goal

pub returns : goal.returns
returns c = base_sound

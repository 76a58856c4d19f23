use Rattle.journal_audit.proofs.Sounds.{sound_by_lines}
use Rattle.journal_audit.proofs.laws.sound_by_lines.Goals as goal

pub returns : goal.returns
returns c = sound_by_lines

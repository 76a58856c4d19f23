use Rattle.std.proofs.Common.{drop}
use Rattle.replay.specs.Lines.{HasWorld}
use Rattle.replay.specs.Closing.{LosesNames}
use Rattle.replay.proofs.AtEnd.{Behind}
use Rattle.replay.proofs.closing.lose_names.Given as goal

-- those that are left lead on to all
abbrev pub invariant-loop-name : goal.invariant-loop-name
invariant-loop-name l = HasWorld l.player × Behind LosesNames l.names (drop l.name-index l.names) l.initial.player l.player

use Rattle.std.proofs.Common.{drop}
use Rattle.replay.specs.Lines.{HasWorld}
use Rattle.replay.specs.Closing.{FinishesNames}
use Rattle.replay.proofs.AtEnd.{Behind}
use Rattle.replay.proofs.closing.finish_names.Given as goal

-- those that are left lead on to all
abbrev pub invariant-loop-name : goal.invariant-loop-name
invariant-loop-name l = HasWorld l.player × Behind FinishesNames l.names (drop l.name-index l.names) l.initial.player l.player

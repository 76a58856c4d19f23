use Rattle.std.proofs.Common.{subst}
use Rattle.ndr_table.specs.Tables.{TableForm}
use Rattle.std.proofs.Common.{IfOk, IfErr}
use Rattle.call_world.specs.Moves.{moves_of}
use Rattle.call_world.specs.Played.{IsPlayed, Stops}
use Rattle.call_world.proofs.play.play_all.Goals as goal

pub returns-in-Ok-clause-played : goal.returns-in-Ok-clause-played
returns-in-Ok-clause-played c = subst (λ (t : TableForm). IfOk c.play_on.result (IsPlayed t (moves_of c.args.moves.items))) c.in-Ok.ensures.table c.play_on.ensures.played

pub returns-in-Ok-clause-stops : goal.returns-in-Ok-clause-stops
returns-in-Ok-clause-stops c = subst (λ (t : TableForm). IfErr c.play_on.result (Stops t (moves_of c.args.moves.items))) c.in-Ok.ensures.table c.play_on.ensures.stops

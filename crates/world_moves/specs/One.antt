-- Moves that lead to one world alone.
use Rattle.std.specs.Prelude.{◌≡◌, ℕ, None, List, ⊤}
use Rattle.rpc_base.specs.Fields.{FitsSyntax}
use Rattle.handle_model.specs.Journal as journals
use Rattle.ndr_table.specs.Tables.{TableForm}
use Rattle.world_laws.specs.Moves.{Move}
use Rattle.world_laws.specs.Moves.{Move as moves}
use Rattle.world_laws.specs.Journals.{journal}
use Rattle.world_laws.specs.Keeping.{IsWholeTable}
use Rattle.world_laws.specs.Worlds.{World, Plays, Played}

abbrev pub LeadsToOne : TableForm → World → Move → Type 0
LeadsToOne table w move = (u v : World) → Plays table w move u → Plays table w move v → u ≡ v

-- Moves with which no octets come to either end, nor are answered: a connection is opened or lost, a call is started or called
-- off, the caller restarts, or a call is taken, where no handle that it names is at fault.
abbrev pub IsStill : World → Move → Type 0
IsStill w (moves.Open c group) = ⊤
IsStill w (moves.Start c op m) = ⊤
IsStill w (moves.ToServer c n) = ⊥
IsStill w (moves.ToCaller c n) = ⊥
IsStill w (moves.Cancel c) = ⊤
IsStill w (moves.Lose c) = ⊤
IsStill w moves.Restart = ⊤
IsStill w (moves.Take k) = journals.fault (journal w.past) k ≡ None
IsStill w (moves.Finish k kepts m) = ⊥

-- in every world
abbrev pub StillMovesLeadToOne : Type 0
StillMovesLeadToOne = (table : TableForm) (played : List Move) (w : World) (move : Move) → Played table played w → IsStill w move → LeadsToOne table w move

-- so does a move with which octets come to a caller
abbrev pub CallersLeadToOne : Type 0
CallersLeadToOne = (table : TableForm) (played : List Move) (w : World) (c n : ℕ) → FitsSyntax table.id → IsWholeTable table → Played table played w → LeadsToOne table w (moves.ToCaller c n)

-- The journal of each list of moves is legal.
use Rattle.std.specs.Prelude.{List}
use Rattle.rpc_base.specs.Fields.{FitsSyntax}
use Rattle.handle_model.specs.History.{IsSound}
use Rattle.ndr_table.specs.Tables.{TableForm, IsTable}
use Rattle.world_laws.specs.Moves.{Move}
use Rattle.world_laws.specs.Journals.{journal}
use Rattle.world_laws.specs.Worlds.{World, Played}
use Rattle.world_laws.specs.Clauses.{FatesAreTrue}
use Rattle.world_laws.specs.Keeping.{IsWholeTable, HandlesAreKept}

-- and no Shut is due
abbrev pub AllJournalsAreSound : Type 0
AllJournalsAreSound =
    (table : TableForm) (moves : List Move) (w : World) → FitsSyntax table.id → IsTable table.types table.ops table.uses → Played table moves w → IsSound (journal w.past)

abbrev pub FatesAreAlwaysTrue : Type 0
FatesAreAlwaysTrue =
    (table : TableForm) (moves : List Move) (w : World) → FitsSyntax table.id → IsTable table.types table.ops table.uses → Played table moves w → FatesAreTrue table w

abbrev pub HandlesAreAlwaysKept : Type 0
HandlesAreAlwaysKept =
    (table : TableForm) (moves : List Move) (w : World) → FitsSyntax table.id → IsWholeTable table → Played table moves w → HandlesAreKept table w

-- Moves that lead to a world wherever their condition holds.
use Rattle.std.specs.Prelude.{ℕ, ◌≤◌, ◌^◌, List, length}
use Rattle.rpc_base.specs.Fields.{FitsSyntax}
use Rattle.handle_model.specs.declared.entry.Entry.{Entry}
use Rattle.ndr_value.specs.Values.{Msg}
use Rattle.ndr_table.specs.Tables.{TableForm}
use Rattle.manager_api.specs.declared.answer.Kept.{Kept}
use Rattle.world_laws.specs.Moves.{Move}
use Rattle.world_laws.specs.Moves.{Move as moves}
use Rattle.world_laws.specs.Worlds.{World, Ends, Played}
use Rattle.world_laws.specs.Leading.{MayFinish, MayCome, Leads}

-- ---- octets arrive at the caller

-- in every world
abbrev pub CallersLead : Type 0
CallersLead =
    (table : TableForm) (played : List Move) (w : World) (c n : ℕ) → FitsSyntax table.id → length table.ops ≤ 2 ^ 16 → Played table played w → MayCome table w (moves.ToCaller c n)
    → Leads table w (moves.ToCaller c n)

-- ---- octets arrive at the server

abbrev pub ServersLead : Type 0
ServersLead =
    (table : TableForm) (played : List Move) (w : World) (c n : ℕ) → FitsSyntax table.id → length table.ops ≤ 2 ^ 16 → Played table played w → MayCome table w (moves.ToServer c n)
    → Leads table w (moves.ToServer c n)

-- ---- the server's moves

-- the journal goes on with the End of a call that may end so
abbrev pub EndsEnter : Type 0
EndsEnter = (table : TableForm) (w : World) (k : ℕ) (kepts : List Kept) (m : Msg) → MayFinish table w k kepts m → (past : List Entry) × Ends table w.past k kepts m past

-- in every world, whether a connection waits for the call's answer or none
abbrev pub FinishesLead : Type 0
FinishesLead =
    (table : TableForm) (played : List Move) (w : World) (k : ℕ) (kepts : List Kept) (m : Msg) → FitsSyntax table.id → length table.ops ≤ 2 ^ 16 → Played table played w
    → MayCome table w (moves.Finish k kepts m) → Leads table w (moves.Finish k kepts m)

-- in every world, whether a handle that the call names is at fault or not
abbrev pub TakesAllLead : Type 0
TakesAllLead =
    (table : TableForm) (played : List Move) (w : World) (k : ℕ) → FitsSyntax table.id → length table.ops ≤ 2 ^ 16 → Played table played w → MayCome table w (moves.Take k)
    → Leads table w (moves.Take k)

-- Handles that a caller was given stay, as long as it is told of no call that closed them.
use Rattle.std.specs.Prelude.{◌≡◌, ℕ, ◌⊎◌, Bool, true, false, ◌||◌, if◌then◌else◌, Some, List, [], ◌∷◌, slice_get, ⊤}
use Rattle.std.specs.List.{list_any, list_all}
use Rattle.rpc_base.specs.Fields.{FitsSyntax}
use Rattle.rpc_base.specs.declared.identifiers.WireHandle.{WireHandle}
use Rattle.handle_model.specs.declared.entry.Entry.{Entry}
use Rattle.handle_model.specs.Slots.{wire_of, is_null}
use Rattle.handle_model.specs.Journal.{is_live, runs_down}
use Rattle.handle_model.specs.Rules.{Legal}
use Rattle.ndr_value.specs.Values.{Msg}
use Rattle.ndr_table.specs.declared.operation.HandleUse.{HandleUse}
use Rattle.ndr_table.specs.Tables.{TableForm, IsTable}
use Rattle.ndr_table.specs.Nested.{IsShallow}
use Rattle.ndr_table.specs.Sound.{IsSound}
use Rattle.manager_api.specs.Calls.{uses_at}
use Rattle.world_laws.specs.Moves.{Move, Fate}
use Rattle.world_laws.specs.Moves.{Fate as fates}
use Rattle.world_laws.specs.Journals.{home, journal}
use Rattle.world_laws.specs.Ends.{Row, Line}
use Rattle.world_laws.specs.Worlds.{World, Played}

-- ---- [in, out] handles, in the order of the parameters

-- of the handles of a request those whose parameters go out too
abbrev pub changed_in : List HandleUse → List WireHandle → List WireHandle
changed_in [] ws = []
changed_in (u ∷ us) [] = []
changed_in (u ∷ us) (w ∷ ws) =
    if u.inward then (if u.outward then w ∷ changed_in us ws else changed_in us ws) else changed_in us (w ∷ ws)

-- of the handles of a response those whose parameters went in too
abbrev pub returned_in : List HandleUse → List WireHandle → List WireHandle
returned_in [] ws = []
returned_in (u ∷ us) [] = []
returned_in (u ∷ us) (w ∷ ws) =
    if u.outward then (if u.inward then w ∷ returned_in us ws else returned_in us ws) else returned_in us (w ∷ ws)

abbrev pub goes_somewhere : HandleUse → Bool
goes_somewhere u = u.inward || u.outward

-- each handle parameter of the operation goes in or out, as those of each interface text do
abbrev pub all_go : TableForm → ℕ → Bool
all_go table op = list_all goes_somewhere (uses_at table op)

-- ---- rows

-- at that place of its [in, out] handles the row's call was told done with the handle kept; or it didn't run
abbrev pub Keeps : TableForm → Row → ℕ → WireHandle → Fate → Type 0
Keeps table r place h (fates.Done m) = (all_go table r.op ≡ true) × (slice_get (returned_in (uses_at table r.op) m.wires) place ≡ Some h)
Keeps table r place h (fates.Fault status true) = ⊤
Keeps table r place h _ = ⊥

-- each row that names the handle at an [in, out] parameter, earlier or later
abbrev pub AllKeep : TableForm → World → WireHandle → Type 0
AllKeep table w h =
    (j y place : ℕ) (n : Line) (s : Row) → slice_get w.lines j ≡ Some n → slice_get n.caller.rows y ≡ Some s
    → slice_get (changed_in (uses_at table s.op) s.message.wires) place ≡ Some h → Keeps table s place h s.fate

-- the handle is live, or it was run down
pub record IsThere (past : List Entry) (h : WireHandle) : Type 0 where
  pub serial : ℕ
  pub is : h ≡ wire_of home serial
  pub there : (is_live (journal past) serial ≡ true) ⊎ (list_any (runs_down serial) past ≡ true)

-- a handle that isn't null, and that came in a call told done
abbrev pub HandlesAreKept : TableForm → World → Type 0
HandlesAreKept table w =
    (i x q : ℕ) (l : Line) (r : Row) (m : Msg) (h : WireHandle) → slice_get w.lines i ≡ Some l → slice_get l.caller.rows x ≡ Some r
    → r.fate ≡ fates.Done m → all_go table r.op ≡ true → slice_get m.wires q ≡ Some h → is_null h ≡ false → AllKeep table w h → IsThere w.past h

-- ---- in every world

-- what every table of the library is: its shapes nest, and its handles are parameters of its operations
pub record IsWholeTable (table : TableForm) : Type 0 where
  pub is : IsTable table.types table.ops table.uses
  pub shallow : IsShallow table.types table.ops
  pub sound : IsSound table.types table.ops table.uses

-- for every list of moves, where the journal that they leave is legal
abbrev pub AllHandlesAreKept : Type 0
AllHandlesAreKept =
    (table : TableForm) (moves : List Move) (w : World) → FitsSyntax table.id → IsWholeTable table → Played table moves w
    → Legal (journal w.past) → HandlesAreKept table w

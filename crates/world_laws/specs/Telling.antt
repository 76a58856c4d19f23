-- What a caller is told of its calls, by what happened at its end of each connection, in order.
use Rattle.std.specs.Prelude.{◌≡◌, ℕ, Bool, true, false, Some, List, [], ◌∷◌, ◌++◌, length, slice_get}
use Rattle.std.specs.Prelude.{◌≤◌, ◌^◌}
use Rattle.std.specs.List.{list_all}
use Rattle.rpc_base.specs.Fields.{FitsSyntax}
use Rattle.pdu_codec.specs.declared.pdu.Pdu.{Pdu}
use Rattle.pdu_codec.specs.Pdus.{IsPdu, AreSpelled}
use Rattle.pdu_stream.specs.Cuts.{IsPartial}
use Rattle.ndr_table.specs.Tables.{OpForm, TableForm}
use Rattle.conn_histories.specs.Histories.{stream, put}
use Rattle.client_core.specs.States.{at_start}
use Rattle.client_core.specs.States.Outcome.{TDone, TFault, TBroken}
use Rattle.client_core.specs.Histories.{ClientEvent, Lives, sent}
use Rattle.client_core.specs.Histories.ClientEvent.{DidCall, Received, Lost}
use Rattle.world_laws.specs.Moves.{Move, Fate}
use Rattle.world_laws.specs.Moves.{Fate as fates}
use Rattle.world_laws.specs.Ends.{Row, Line}
use Rattle.world_laws.specs.Counts.{started}
use Rattle.world_laws.specs.Worlds.{World, Played}

-- ---- a row

-- what is told first: a message, a fault, or that the connection was lost with the call out
abbrev pub first_told : List ClientEvent → Fate
first_told [] = fates.Open
first_told (Received p (Some (TDone m)) ∷ later) = fates.Done m
first_told (Received p (Some (TFault status not_run)) ∷ later) = fates.Fault status not_run
first_told (Lost true ∷ later) = fates.Lost
first_told (event ∷ later) = first_told later

-- of a call that wants no answer nothing is told
abbrev pub told_of : Bool → List ClientEvent → Fate
told_of true later = fates.Open
told_of false later = first_told later

-- The row is that of the call that was begun after so many, and its fate is what is told first behind it.
pub record IsTold (table : TableForm) (events : List ClientEvent) (place : ℕ) (r : Row) : Type 0 where
  pub operation : OpForm
  pub found : slice_get table.ops r.op ≡ Some operation
  pub before : List ClientEvent
  pub octets : List ℕ
  pub later : List ClientEvent
  pub is : events ≡ before ++ DidCall r.op r.message octets ∷ later
  pub place_is : started before ≡ place
  pub fate_is : r.fate ≡ told_of operation.maybe later

-- ---- a connection

abbrev pub received : List ClientEvent → List Pdu
received [] = []
received (Received p t ∷ later) = p ∷ received later
received (_ ∷ later) = received later

-- What one end sent came to the other in order, from the first octet on. What didn't come is on the way while the connection
-- stands, and is gone where it was lost. The caller received these octets PDU by PDU; what is left of them begins with none.
pub record ComesInOrder (l : Line) : Type 0 where
  pub up : List ℕ
  pub to_server : sent l.caller.events ≡ stream l.server.events ++ up
  pub front : List ℕ
  pub down : List ℕ
  pub to_caller : put l.server.events ≡ front ++ down
  pub pdus : AreSpelled IsPdu (received l.caller.events) front
  pub on_way : l.standing ≡ true → (up ≡ l.up) × (down ≡ l.caller.rest ++ l.down)
  pub waits : l.standing ≡ true → IsPartial l.caller.rest
  pub gone : l.standing ≡ false → (l.up ≡ []) × (l.down ≡ [])

-- neither does a PDU break the protocol, nor is the connection lost
abbrev pub goes_on : ClientEvent → Bool
goes_on (Received p (Some (TBroken fault))) = false
goes_on (Lost called) = false
goes_on _ = true

-- A connection stands until it is lost or its octets break the protocol. That it was lost is then the last thing that happened.
pub record EndsByLoss (l : Line) : Type 0 where
  pub stands : l.standing ≡ true → list_all goes_on l.caller.events ≡ true
  pub lost : l.standing ≡ false → (before : List ClientEvent) × (called : Bool) × (l.caller.events ≡ before ++ Lost called ∷ [])

-- The caller's end heard each PDU as a client does; it has one row for each call that it began.
pub record FatesAreTold (table : TableForm) (l : Line) : Type 0 where
  pub lives : Lives (at_start table) l.caller.events l.caller.state
  pub ways : ComesInOrder l
  pub ends : EndsByLoss l
  pub count : length l.caller.rows ≡ started l.caller.events
  pub told : (x : ℕ) (r : Row) → slice_get l.caller.rows x ≡ Some r → IsTold table l.caller.events x r

-- for every list of moves
abbrev pub AllFatesAreTold : Type 0
AllFatesAreTold =
    (table : TableForm) (moves : List Move) (w : World) → FitsSyntax table.id → length table.ops ≤ 2 ^ 16 → Played table moves w
    → (i : ℕ) (l : Line) → slice_get w.lines i ≡ Some l → FatesAreTold table l

-- What happens at the caller's end of a connection.
use Rattle.std.specs.Prelude.{◌≡◌, ℕ, Bool, true, false, ◌||◌, Option, Some, is_some, List, [], ◌∷◌, ◌++◌}
use Rattle.handle_model.specs.declared.entry.Entry.{Entry}
use Rattle.pdu_codec.specs.declared.pdu.Pdu.{Pdu}
use Rattle.pdu_stream.specs.declared.cut.Cut.{Cut}
use Rattle.pdu_stream.specs.Cuts.{IsCut}
use Rattle.client_core.specs.States.{Outcome, ClientState, at_start, is_calling}
use Rattle.client_core.specs.States.Outcome.{TDone, TFault, TBroken}
use Rattle.client_core.specs.Hears.{HearsBody}
use Rattle.client_core.specs.Histories.ClientEvent.{Received, Lost}
use Rattle.world_laws.specs.Moves.{Fate as fates}
use Rattle.world_laws.specs.Journals.{Leaves}
use Rattle.world_laws.specs.Ends.{Row, CallerEnd, Line, told_if}

-- ---- PDUs

-- what an outcome tells of the call that is out, if one is
abbrev pub tells : Bool → Option Outcome → List Row → List Row
tells out (Some (TDone m)) rows = told_if out (fates.Done m) rows
tells out (Some (TFault status not_run)) rows = told_if out (fates.Fault status not_run) rows
tells out _ rows = rows

abbrev pub breaks : Option Outcome → Bool
breaks (Some (TBroken fault)) = true
breaks _ = false

-- a PDU is heard, and this is told
pub record HearsPdu (c : CallerEnd) (p : Pdu) (t : Option Outcome) (d : CallerEnd) : Type 0 where
  pub state : ClientState
  pub hears : HearsBody c.state p p.body t state
  pub after : d ≡ record c { events = c.events ++ Received p t ∷ []; state = state; rows = tells (is_calling c.state) t c.rows }

-- where the protocol is broken this, and else that
abbrev pub IfBroken : Bool → Type 0 → Type 0 → Type 0
IfBroken true This That = This
IfBroken false This That = That

-- PDUs are heard, one after the other, up to one that breaks the protocol
abbrev pub HearsPdus : CallerEnd → List Pdu → CallerEnd → Bool → Type 0
HearsPdus c [] d broken = (d ≡ c) × (broken ≡ false)
HearsPdus c (p ∷ more) d broken =
    (t : Option Outcome) × (between : CallerEnd) × HearsPdu c p t between
    × IfBroken (breaks t) ((d ≡ between) × (broken ≡ true)) (HearsPdus between more d broken)

-- Octets come: the PDUs that are whole with them are heard. Octets that are none break the protocol too.
pub record HearsOctets (c : CallerEnd) (octets : List ℕ) (d : CallerEnd) (broken : Bool) : Type 0 where
  pub cut : Cut
  pub is_cut : IsCut (c.rest ++ octets) cut
  pub heard : CallerEnd
  pub by_pdu : Bool
  pub hears : HearsPdus c cut.pdus heard by_pdu
  pub after : d ≡ record heard { rest = cut.rest }
  pub broken_is : broken ≡ (by_pdu || is_some cut.fault)

-- ---- losses

-- the call that is out is lost, and the caller may bind another connection
abbrev pub lost_caller : CallerEnd → CallerEnd
lost_caller c = record {
  events = c.events ++ Lost (is_calling c.state) ∷ [];
  state = at_start c.state.interface;
  rest = [];
  rows = told_if (is_calling c.state) fates.Lost c.rows;
}

-- what is on the way is gone
abbrev pub lost_line : Line → Line
lost_line l = record l { caller = lost_caller l.caller; up = []; down = []; standing = false }

-- the connection is lost, and the server enters its Leave where it joined
abbrev pub LosesLine : Line → List Entry → Line → List Entry → Type 0
LosesLine l past m new = (m ≡ lost_line l) × Leaves l.server.member past new

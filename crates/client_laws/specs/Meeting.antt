-- A caller's connection and a server's between calls, and what a caller is told by one PDU after the other.
use Rattle.std.specs.Prelude.{◌≡◌, ℕ, ◌<◌, ◌≤◌, ◌^◌, Bool, true, false, Option, None, List, [], ◌∷◌, reverse}
use Rattle.rpc_base.specs.declared.identifiers.Order.TheVariants.{Little}
use Rattle.pdu_codec.specs.Constants.{least_fragment}
use Rattle.pdu_codec.specs.declared.pdu.Pdu.{Pdu}
use Rattle.pdu_stream.specs.declared.joined.Joined.{Joined}
use Rattle.pdu_stream.specs.Runs.{IsJoining}
use Rattle.conn_asks.specs.declared.events.Waits.TheVariants.{Nothing}
use Rattle.conn_asks.specs.Asks.{is_bound}
use Rattle.conn_asks.specs.States.{ConnState}
use Rattle.client_core.specs.States.{Outcome, ClientState}
use Rattle.client_core.specs.States as caller
use Rattle.client_core.specs.Hears.{HearsBody}
use Rattle.client_core.specs.Histories.{with_outcome}

-- a size that fragments may have
abbrev pub IsLawful : ℕ → Type 0
IsLawful most = (least_fragment ≤ most) × (most < 2 ^ 16)

-- A server's connection that is bound and has done all that was asked: it waits for nothing, no octets are left, and no
-- request is being joined.
pub record IsReady (m : ConnState) : Type 0 where
  pub waits : m.waits ≡ Nothing
  pub rest : m.rest ≡ []
  pub bound : is_bound m.past ≡ true
  pub joining : IsJoining (reverse m.past) None
  pub sends : IsLawful m.agreement.max_xmit

-- a caller's connection that is bound, with nothing out
pub record IsFree (s : ClientState) : Type 0 where
  pub bound : caller.is_bound s ≡ true
  pub call : s.call ≡ None
  pub alters : s.alters ≡ []
  pub sends : IsLawful s.most

-- the whole request that a server joins of a caller's: not marked as cancelled
abbrev pub whole_request : ℕ → ℕ → Bool → List ℕ → Joined
whole_request id op maybe stub = record { call_id = id; order = Little; context = 0; op = op; maybe = maybe; cancel = false; stub = stub }

-- The caller hears PDUs, one after the other, and this is told.
abbrev pub HearsAll : ClientState → List Pdu → List Outcome → ClientState → Type 0
HearsAll s [] told n = (told ≡ []) × (n ≡ s)
HearsAll s (p ∷ later) told n =
    (first : Option Outcome) × (between : ClientState) × (others : List Outcome)
    × HearsBody s p p.body first between × (told ≡ with_outcome first others) × HearsAll between later others n

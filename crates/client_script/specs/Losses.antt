-- What ends a call script before its last line: a connection is lost.
use Rattle.std.specs.Prelude.{◌≡◌, ℕ, ◌++◌, Bool, true, false, Some, List, [], ◌∷◌, length, slice_set, ◌⊎◌}
use Rattle.rpc_base.specs.Causes.{Rose}
use Rattle.rpc_outside.specs.Links.{Shown, IsNothing}
use Rattle.pdu_codec.specs.declared.pdu.Pdu.{Pdu}
use Rattle.pdu_codec.specs.declared.fault.PduFault.{PduFault}
use Rattle.pdu_stream.specs.Cuts.{IsPartial, IsStop}
use Rattle.ndr_value.specs.Values.{Msg}
use Rattle.ndr_table.specs.Tables.{TableForm}
use Rattle.client_core.specs.declared.told.ClientFault.{ClientFault}
use Rattle.client_core.specs.States.{ClientState, at_start, is_calling}
use Rattle.client_core.specs.States.Outcome.{TBroken}
use Rattle.client_core.specs.Histories.{ClientEvent, Happens, Lives}
use Rattle.client_core.specs.Histories.ClientEvent.{DidBind, DidCall, DidCancel, Received}
use Rattle.client_link.specs.Wires.{AreSilent, Spoken, RoseBy, most_quiets}
use Rattle.client_script.specs.declared.line.CallLine.{CallLine}
use Rattle.client_script.specs.declared.line.CallLine.TheVariants as lines
use Rattle.client_texts.specs.Answers.{lost_line}
use Rattle.client_script.specs.Worlds.{Association, World, fresh, with_event, IsFree, AsksGroup}
use Rattle.client_script.specs.Steps.{MayStart, HasCall}

-- ---- what happened

-- PDUs came that told nothing, or a last one that breaks the protocol.
abbrev pub AreVain : List ClientEvent → Type 0
AreVain came = AreSilent came ⊎ ((before : List ClientEvent) × (p : Pdu) × (fault : ClientFault) × AreSilent before × (came ≡ before ++ Received p (Some (TBroken fault)) ∷ []))

-- no outcome is heard on the connection, which is lost
pub record GoesUnheard (interface : TableForm) (a b : Association) : Type 0 where
  pub came : List ClientEvent
  pub vain : AreVain came
  pub happened : b ≡ record a { is_open = false; events = a.events ++ came; state = b.state }
  pub lives : Lives (at_start interface) b.events b.state

-- something is begun on the connection, which is lost before all its octets are put
pub record IsCutOff (a : Association) (event : List ℕ → ClientEvent) (b : Association) : Type 0 where
  pub octets : List ℕ
  pub happens : Happens a.state (event octets) b.state
  pub happened : b ≡ record (with_event a (event octets) b.state) { is_open = false; pending = b.pending }

-- A connection on which nothing happened is lost before its bind is answered: as the bind is put, or as the answer is waited for. It
-- was as in a when that began.
abbrev pub BindsInVain : TableForm → Association → ℕ → Association → Association → Type 0
BindsInVain interface new group a b =
    ((a ≡ new) × IsCutOff a (DidBind group) b)
    ⊎ ((octets : List ℕ) × (n : ClientState) × Happens new.state (DidBind group octets) n × (a ≡ with_event new (DidBind group octets) n) × GoesUnheard interface a b)

-- ---- what is printed

-- a line where a call is out, and nothing otherwise
abbrev pub lost_text : ℕ → Bool → List ℕ
lost_text name true = lost_line name
lost_text name false = []

abbrev pub Loses : World → ℕ → List Association → Association → World → Type 0
Loses w name associations b v = v ≡ record w { associations = associations; out = w.out ++ lost_text name (is_calling b.state) }

-- ---- lines

module _ (interface : TableForm) where
  -- At a line the connection at that place is lost, as the line puts something or waits for an answer, and with it the script ends. The
  -- connection was as in a when that began, and is as in b.
  abbrev pub EndsAt : World → CallLine → ℕ → Association → Association → World → Type 0
  EndsAt w (lines.Bind name group) at a b v =
      IsFree w name × (asked : ℕ) × AsksGroup w group asked × (at ≡ length w.associations) × BindsInVain interface (fresh interface name) asked a b × Loses w name (w.associations ++ b ∷ []) b v
  EndsAt w (lines.Start name op_name text) at a b v =
      (op : ℕ) × (m : Msg) × MayStart w name op_name text at a op m × IsCutOff a (DidCall op m) b × Loses w name (slice_set w.associations at b) b v
  EndsAt w (lines.Cancel name) at a b v = HasCall w name at a × IsCutOff a DidCancel b × Loses w name (slice_set w.associations at b) b v
  EndsAt w (lines.Wait name) at a b v = HasCall w name at a × GoesUnheard interface a b × Loses w name (slice_set w.associations at b) b v
  EndsAt w (lines.Close name) at a b v = ⊥

-- ---- why

-- Since a link was as in a, when a put or a wait began, this happened on its connection, and it is as in b: it failed in that put or
-- wait; or the wait told nothing, and in it the peer ended, or the link was quiet as often as ends a wait, with no whole PDU left in
-- the octets that came, or these are no PDU's; or the last PDU of the wait breaks the protocol.
pub data IsGone (a b : Shown) (rest : List ℕ) (since : List ClientEvent) : Type 0 where
  failed : Rose a.faults b.faults → IsGone a b rest since
  ended : AreSilent since → IsPartial rest → Rose a.ends b.ends → IsNothing b.left → IsGone a b rest since
  quiet : AreSilent since → IsPartial rest → RoseBy most_quiets a.quiets b.quiets → IsGone a b rest since
  cut : AreSilent since → (fault : PduFault) → IsStop rest fault → IsGone a b rest since
  broken : (before : List ClientEvent) → (p : Pdu) → (fault : ClientFault) → AreSilent before → since ≡ before ++ Received p (Some (TBroken fault)) ∷ [] → IsGone a b rest since

-- The connection that was as in a over a link that was new as in `new`, and then as in `from`, is lost, and they are as in b and `now`.
pub record IsLostFrom (interface : TableForm) (a b : Association) (new from now : Shown) : Type 0 where
  pub before : Spoken interface new from a.events a.pending
  pub spoken : Spoken interface new now b.events b.pending
  pub since : List ClientEvent
  pub happened : b.events ≡ a.events ++ since
  pub gone : IsGone from now spoken.fed.rest since

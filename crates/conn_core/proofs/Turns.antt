-- A connection in a state, and in the one behind an answer.
use Rattle.std.proofs.Common.{◌≡◌, ℕ, Bool, false, List, [], ◌∷◌, length, Option, None, Ok, refl, sym, ap, subst, ◌∙◌, arith, length-append}
use Rattle.rpc_base.specs.declared.identifiers.SyntaxId.{SyntaxId}
use Rattle.pdu_codec.specs.declared.pdu.BindAckBody.{BindAckBody}
use Rattle.pdu_codec.specs.Constants.{only_frag}
use Rattle.pdu_codec.specs.Pdus.{pdu_octets}
use Rattle.pdu_stream.specs.Runs.{IsJoining}
use Rattle.presentation.specs.Offers.{contexts_after}
use Rattle.handle_model.specs.declared.entry.Said.{Said}
use Rattle.conn_asks.specs.declared.events.Caller.{Caller}
use Rattle.conn_asks.specs.declared.events.Agreement.{Agreement}
use Rattle.conn_asks.specs.declared.events.Waits.{Waits}
use Rattle.conn_asks.specs.declared.events.Waits.TheVariants.{Nothing, Group, Call, Over, Failed}
use Rattle.conn_asks.specs.Asks.{offered}
use Rattle.conn_asks.specs.Answers.{agreement_with, bind_ack, bind_nak, Replies}
use Rattle.conn_asks.specs.States.{ConnState, at_start, Bound, BoundAt, Refused, RefusedAt, Replied, RepliedAt}
use Rattle.conn_core.specs.Fields.{ConnFields, KeepsState, Knows, IsAt}

nothing_joined : IsJoining [] None
nothing_joined first behind is =
    absurd (omega (arith, ap length is.whole, length-append is.before (is.opener ∷ behind)))

pub starts : (t : ConnFields) (ids : List SyntaxId) → t.served ≡ record { ids = ids; accepted = [] } → t.fed.rest ≡ [] → t.waits ≡ Nothing → t.bound ≡ false → t.joining ≡ Ok None
    → t.agreement ≡ (at_start ids).agreement → IsAt t (at_start ids)
unfolding contexts_after offered
starts t ids served rest waits bound joining agreement = record {
  ids = rw served refl;
  rest = rest;
  waits = waits;
  agreement = agreement;
  knows = record { bound = bound; run = None; joining = joining; runs = nothing_joined; accepted = rw served refl };
}

pub same_keeps : (t u : ConnFields) (m n : ConnState) → u.bound ≡ t.bound → u.joining ≡ t.joining → u.served ≡ t.served → n.past ≡ m.past → n.ids ≡ m.ids → KeepsState t m → KeepsState u n
same_keeps t u m n b j s p i k = record {
  bound = b ∙ rw p k.bound;
  run = k.run;
  joining = j ∙ k.joining;
  runs = rw p k.runs;
  accepted = rw (s, p, i) k.accepted;
}

-- what is known doesn't depend on the octets
pub same_knows : (w : Waits) (t u : ConnFields) (m n : ConnState) → u.bound ≡ t.bound → u.joining ≡ t.joining → u.served ≡ t.served → n.past ≡ m.past → n.ids ≡ m.ids → Knows w t m → Knows w u n
same_knows Nothing t u m n b j s p i k = same_keeps t u m n b j s p i k
same_knows (Group c ack) t u m n b j s p i k = same_keeps t u m n b j s p i k
same_knows (Call c maybe) t u m n b j s p i k = (same_keeps t u m n b j s p i k.0, j ∙ k.1, rw p k.2)
same_knows Over t u m n b j s p i k = tt
same_knows Failed t u m n b j s p i k = tt

-- a connection that waited for a group or for an answer keeps what it did
pub keeps_group : (c : Caller) (ack : BindAckBody) (w : Waits) (t : ConnFields) (m : ConnState) → w ≡ Group c ack → Knows w t m → KeepsState t m
keeps_group c ack w t m is k = subst (λ (x : Waits). Knows x t m) is k

pub keeps_call : (c : Caller) (maybe : Bool) (w : Waits) (t : ConnFields) (m : ConnState) → w ≡ Call c maybe → Knows w t m → KeepsState t m
keeps_call c maybe w t m is k = (subst (λ (x : Waits). Knows x t m) is k).0

pub bound_turn : (t : ConnFields) (m : ConnState) (c : Caller) (ack : BindAckBody) (group : ℕ) (octets : List ℕ) → IsAt t m → t.waits ≡ Group c ack
    → octets ≡ pdu_octets (bind_ack c only_frag (agreement_with ack group) ack.results)
    → (n : ConnState) × Bound m group (Ok octets) n × IsAt (record t { waits = Nothing; agreement = agreement_with ack group }) n
bound_turn t m c ack group octets at waits written =
    let w : m.waits ≡ Group c ack = sym at.waits ∙ waits in
    let n : ConnState = record m { waits = Nothing; agreement = agreement_with ack group } in
    let u : ConnFields = record t { waits = Nothing; agreement = agreement_with ack group } in
    let k : KeepsState t m = keeps_group c ack m.waits t m w at.knows in (
      n,
      subst (λ (x : Waits). BoundAt x m group octets n) (sym w) (written, refl),
      record { ids = at.ids; rest = at.rest; waits = refl; agreement = refl; knows = same_keeps t u m n refl refl refl refl refl k },
    )

pub naked_turn : (t : ConnFields) (m : ConnState) (c : Caller) (ack : BindAckBody) (reason : ℕ) (octets : List ℕ) → IsAt t m → t.waits ≡ Group c ack
    → octets ≡ pdu_octets (bind_nak c reason) → (n : ConnState) × Refused m reason (Ok octets) n × IsAt (record t { waits = Over }) n
naked_turn t m c ack reason octets at waits written =
    let w : m.waits ≡ Group c ack = sym at.waits ∙ waits in
    let n : ConnState = record m { waits = Over } in (
      n,
      subst (λ (x : Waits). RefusedAt x m reason octets n) (sym w) (written, refl),
      record { ids = at.ids; rest = at.rest; waits = refl; agreement = at.agreement; knows = tt },
    )

pub replied_turn : (t : ConnFields) (m : ConnState) (c : Caller) (maybe executed : Bool) (said : Option Said) (octets : List ℕ) → IsAt t m → t.waits ≡ Call c maybe
    → Replies c t.agreement.max_xmit maybe executed said octets → (n : ConnState) × Replied m said executed (Ok octets) n × IsAt (record t { waits = Nothing }) n
replied_turn t m c maybe executed said octets at waits says =
    let w : m.waits ≡ Call c maybe = sym at.waits ∙ waits in
    let n : ConnState = record m { waits = Nothing } in
    let u : ConnFields = record t { waits = Nothing } in
    let k : KeepsState t m = keeps_call c maybe m.waits t m w at.knows in (
      n,
      subst (λ (x : Waits). RepliedAt x m said executed octets n) (sym w) (subst (λ (x : Agreement). Replies c x.max_xmit maybe executed said octets) at.agreement says, refl),
      record { ids = at.ids; rest = at.rest; waits = refl; agreement = at.agreement; knows = same_keeps t u m n refl refl refl refl refl k },
    )

-- What is done and answered on a connection at what its octets ask: each ask has its piece, in order.
use Rattle.std.specs.Prelude.{◌≡◌, ℕ, Bool, Option, Some, None, List, [], ◌∷◌, ◌++◌}
use Rattle.rpc_base.specs.declared.identifiers.SyntaxId.{SyntaxId}
use Rattle.pdu_codec.specs.declared.pdu.Element.{Element}
use Rattle.pdu_codec.specs.declared.pdu.ContextResult.{ContextResult}
use Rattle.pdu_codec.specs.declared.pdu.BindAckBody.{BindAckBody}
use Rattle.pdu_codec.specs.Constants.{only_frag}
use Rattle.pdu_codec.specs.Pdus.{pdu_octets}
use Rattle.pdu_stream.specs.declared.joined.Joined.{Joined}
use Rattle.presentation.specs.declared.verdict.Accepted.{Accepted}
use Rattle.presentation.specs.Offers.{contexts_after, results_after, interface_of}
use Rattle.conn_asks.specs.declared.events.Caller.{Caller}
use Rattle.conn_asks.specs.declared.events.Agreement.{Agreement}
use Rattle.conn_asks.specs.declared.events.Ask.{Ask}
use Rattle.conn_asks.specs.declared.events.Ask.TheVariants as asks
use Rattle.conn_asks.specs.declared.events.Act.TheVariants as acts
use Rattle.conn_asks.specs.Answers.{agreement_of, agreement_with, bind_ack, alter_resp, bind_nak, closing, refusal, Replies}
use Rattle.conn_asks.specs.States.{no_agreement, ready_ack, caller_of}
use Rattle.conn_histories.specs.Histories.{Event}
use Rattle.conn_histories.specs.Histories.Event.{Did, Decided}
use Rattle.conn_histories.specs.Histories.Decision.{ToGroup, RefuseGroup, Reply}

-- What is known when an ask comes: the interfaces that are served, the contexts that are accepted, and what the
-- bind_ack said.
pub record Negotiated : Type 0 where
  pub ids : List SyntaxId
  pub accepted : List Accepted
  pub agreement : Agreement

abbrev pub negotiated_at_start : List SyntaxId → Negotiated
negotiated_at_start ids = record { ids = ids; accepted = []; agreement = no_agreement }

-- the elements were offered, and what each is answered
abbrev pub offering : Negotiated → List Element → Negotiated
offering k elements = record k { accepted = contexts_after k.ids k.accepted elements }

abbrev pub results : Negotiated → List Element → List ContextResult
results k elements = results_after k.ids k.accepted elements

-- ---- a bind

-- Behind a bind: the server has decided nothing yet, and what is asked behind it waits; or it decided on a group, the
-- bind_ack is answered, and then what is asked is done; or it refused the bind, a bind_nak is answered, and nothing
-- follows.
abbrev pub Binds : Caller → BindAckBody → (Agreement → List Event → Type 0) → List Ask → List Event → Type 0
Binds c ack Then more [] = more ≡ []
Binds c ack Then more (Decided (ToGroup group) octets ∷ later) =
    (octets ≡ pdu_octets (bind_ack c only_frag (agreement_with ack group) ack.results)) × Then (agreement_with ack group) later
Binds c ack Then more (Decided (RefuseGroup reason) octets ∷ later) =
    (octets ≡ pdu_octets (bind_nak c reason)) × (later ≡ []) × (more ≡ [])
Binds c ack Then more _ = ⊥

-- ---- a call

-- Cancels and orphanings stand in front of what is asked, each with its act, and others behind them.
abbrev pub CallsOff : List Event → List Ask → List Ask → Type 0
CallsOff [] more others = more ≡ others
CallsOff (Did (acts.Cancel id) ∷ later) more others =
    (behind : List Ask) × (more ≡ asks.Cancel id ∷ behind) × CallsOff later behind others
CallsOff (Did (acts.Orphan id) ∷ later) more others =
    (behind : List Ask) × (more ≡ asks.Orphan id ∷ behind) × CallsOff later behind others
CallsOff _ more others = ⊥

-- The call's end is said and answered, and then what is asked is done; or nothing is said yet, and what is asked behind
-- it waits.
abbrev pub EndsCall : Caller → ℕ → Bool → (List Event → Type 0) → List Ask → List Event → Type 0
EndsCall c most maybe Then others [] = others ≡ []
EndsCall c most maybe Then others (Decided (Reply said executed) octets ∷ later) =
    Replies c most maybe executed said octets × Then later
EndsCall c most maybe Then others _ = ⊥

-- Behind a call that is left to the server: the cancels and orphanings that come before it ends, and its end. What is
-- asked then is done; those that came before it ended stand in front of that too, and nothing is done at them again.
abbrev pub Runs : Caller → ℕ → Bool → (List Event → Type 0) → List Ask → List Event → Type 0
Runs c most maybe Then more later =
    (offs : List Event) × (others : List Ask) × (end : List Event) × (later ≡ offs ++ end) × CallsOff offs more others
    × EndsCall c most maybe Then others end

-- a call of an interface, or one whose context isn't accepted
abbrev pub PlaysCall : Option ℕ → Joined → ℕ → (List Event → Type 0) → List Ask → List Event → Type 0
PlaysCall (Some number) j most Then more all =
    (later : List Event) × (all ≡ Did (acts.Call j number) ∷ later) × Runs (caller_of j) most j.maybe Then more later
PlaysCall None j most Then more all =
    (later : List Event) × (all ≡ Did (acts.Answer (refusal (caller_of j) j.maybe)) ∷ later) × Then later

-- ---- one ask after the other

-- Nothing else is done or answered. At a cancel or an orphaning whose call has ended nothing is.
abbrev pub Plays : Negotiated → List Ask → List Event → Type 0
Plays k [] all = all ≡ []
Plays k (asks.Bind c flags b ∷ more) all =
    (later : List Event) × (all ≡ Did (acts.Group b.group) ∷ later)
    × Binds c (ready_ack (agreement_of b 0) (results k b.elements)) (λ agreement rest. Plays (record (offering k b.elements) { agreement = agreement }) more rest) more later
Plays k (asks.Alter c b ∷ more) all =
    (later : List Event) × (all ≡ Did (acts.Answer (pdu_octets (alter_resp c k.agreement (results k b.elements)))) ∷ later)
    × Plays (offering k b.elements) more later
Plays k (asks.Call j ∷ more) all =
    PlaysCall (interface_of k.accepted j.context) j k.agreement.max_xmit (λ rest. Plays k more rest) more all
Plays k (asks.Cancel id ∷ more) all = Plays k more all
Plays k (asks.Orphan id ∷ more) all = Plays k more all
Plays k (asks.Broken c f ∷ more) all = (all ≡ Did (acts.Close (pdu_octets (closing c f)) f) ∷ []) × (more ≡ [])

-- the last that was done is that a bind was refused
abbrev pub EndsRefused : List Event → Type 0
EndsRefused all = (before : List Event) × (reason : ℕ) × (octets : List ℕ) × (all ≡ before ++ Decided (RefuseGroup reason) octets ∷ [])

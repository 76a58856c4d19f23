-- Which octets are answered to what a connection was asked, by its group's journal: one piece for each ask, in order.
-- Asks are listed with the oldest first, and so are turns here.
use Rattle.std.specs.Prelude.{◌≡◌, ℕ, Bool, true, false, Option, Some, None, List, [], ◌∷◌, ◌++◌, reverse}
use Rattle.handle_model.specs.declared.entry.Home.{Home}
use Rattle.handle_model.specs.declared.entry.Said.TheVariants.{Fault}
use Rattle.handle_model.specs.declared.entry.Entry.{Entry}
use Rattle.handle_model.specs.declared.reply.Reply.{Reply}
use Rattle.handle_model.specs.declared.reply.Reply.TheVariants.{Never, Ran, Dropped, Open}
use Rattle.handle_model.specs.Replies.{replies}
use Rattle.pdu_codec.specs.declared.pdu.ContextResult.{ContextResult}
use Rattle.pdu_codec.specs.declared.pdu.BindBody.{BindBody}
use Rattle.pdu_codec.specs.Constants.{only_frag}
use Rattle.pdu_codec.specs.Pdus.{pdu_octets}
use Rattle.pdu_stream.specs.declared.joined.Joined.{Joined}
use Rattle.presentation.specs.Offers.{interface_of}
use Rattle.conn_asks.specs.declared.events.Caller.{Caller}
use Rattle.conn_asks.specs.declared.events.Agreement.{Agreement}
use Rattle.conn_asks.specs.declared.events.Ask.{Ask}
use Rattle.conn_asks.specs.declared.events.Ask.TheVariants as asks
use Rattle.conn_asks.specs.Answers.{agreement_of, bind_ack, alter_resp, bind_nak, closing, refusal, Replies}
use Rattle.conn_asks.specs.States.{caller_of}
use Rattle.conn_histories.specs.Plays.{Negotiated, offering, results}
use Rattle.conn_histories.specs.declared.turn.Off.{Off}
use Rattle.conn_histories.specs.declared.turn.Off.TheVariants as off
use Rattle.conn_histories.specs.declared.turn.Deed.{Deed}
use Rattle.conn_histories.specs.declared.turn.Deed.TheVariants.{Pending, Refused, Accepted}
use Rattle.conn_histories.specs.declared.turn.Turn.{Turn}
use Rattle.conn_histories.specs.declared.turn.Turn.TheVariants.{Bound, NotBound, Answered, Called, Closed}
use Rattle.conn_histories.specs.Entries.{deed_left}
use Rattle.conn_histories.specs.Events.{all_octets}
use Rattle.conn_histories.specs.Tales.{whole}

-- what calls off a call, as it was asked
abbrev pub ask_off : ℕ → Off → Ask
ask_off id off.Cancel = asks.Cancel id
ask_off id off.Orphan = asks.Orphan id

abbrev pub asks_off : ℕ → List Off → List Ask
asks_off id [] = []
asks_off id (o ∷ offs) = asks_off id offs ++ ask_off id o ∷ []

-- those are asked next
abbrev pub BeginsWith : List Ask → List Ask → Type 0
BeginsWith front asked = (later : List Ask) × (asked ≡ front ++ later)

-- the octets of a reply; there are none before there is one
abbrev pub AreOctetsOf : Reply → Caller → ℕ → Bool → List ℕ → Type 0
AreOctetsOf Open c most maybe octets = ⊥
AreOctetsOf (Never status) c most maybe octets = Replies c most maybe false (Some (Fault status)) octets
AreOctetsOf (Ran said) c most maybe octets = Replies c most maybe true (Some said) octets
AreOctetsOf Dropped c most maybe octets = octets ≡ []

-- A bind gets a bind_ack with the group's id, and what is asked then is answered; or a bind_nak, and nothing more is.
abbrev pub AnswersBind : Caller → BindBody → List ContextResult → (Agreement → List Turn → Type 0) → List Turn → Type 0
AnswersBind c b results Then (Bound asked group octets ∷ later) =
    (asked ≡ b.group) × (octets ≡ pdu_octets (bind_ack c only_frag (agreement_of b group) results)) × Then (agreement_of b group) later
AnswersBind c b results Then (NotBound asked reason octets ∷ later) = (asked ≡ b.group) × (octets ≡ pdu_octets (bind_nak c reason)) × (later ≡ [])
AnswersBind c b results Then _ = ⊥

module _ (home : Home) (past : List Entry) where
  -- the answer of a request: the fault that refuses it, or the journal's reply to its call
  abbrev pub Piece : Joined → ℕ → Deed → List ℕ → Type 0
  Piece j most Pending octets = ⊥
  Piece j most (Refused status) octets = AreOctetsOf (Never status) (caller_of j) most j.maybe octets
  Piece j most (Accepted k slots fate) octets = AreOctetsOf (replies (whole home past) k) (caller_of j) most j.maybe octets

  -- a call whose connection left before it was answered
  abbrev pub IsLost : Deed → Type 0
  IsLost (Accepted k slots fate) = replies (whole home past) k ≡ Dropped
  IsLost _ = ⊥

  -- A request gets its piece, and what is asked then is answered. Where the connection left before, nothing is, nor later.
  abbrev pub AnswersRequest : Joined → ℕ → Deed → Option (List ℕ) → (List Turn → Type 0) → List Turn → Type 0
  AnswersRequest j most deed (Some octets) Then later = (deed_left deed ≡ false) × Piece j most deed octets × Then later
  AnswersRequest j most deed None Then later = (deed_left deed ≡ true) × IsLost deed × (later ≡ [])

  -- a request of an interface, with what called it off, or one whose context isn't accepted
  abbrev pub AnswersCall : Option ℕ → Joined → ℕ → List Ask → (List Turn → Type 0) → List Turn → Type 0
  AnswersCall (Some number) j most more Then (Called r ∷ later) =
      (r.joined ≡ j) × (r.iface ≡ number) × BeginsWith (asks_off j.call_id r.offs) more × AnswersRequest j most r.deed r.answer Then later
  AnswersCall None j most more Then (Answered octets ∷ later) = (octets ≡ refusal (caller_of j) j.maybe) × Then later
  AnswersCall _ j most more Then _ = ⊥

  -- what is asked is answered by the turns, by what is known then: cancels and orphanings get nothing, and at a fault the
  -- connection is closed
  abbrev pub AnswersAll : Negotiated → List Ask → List Turn → Type 0
  AnswersAll k [] turns = turns ≡ []
  AnswersAll k (asks.Bind c flags b ∷ more) turns =
      AnswersBind c b (results k b.elements) (λ agreement later. AnswersAll (record (offering k b.elements) { agreement = agreement }) more later) turns
  AnswersAll k (asks.Alter c b ∷ more) turns =
      (later : List Turn) × (turns ≡ Answered (pdu_octets (alter_resp c k.agreement (results k b.elements))) ∷ later)
      × AnswersAll (offering k b.elements) more later
  AnswersAll k (asks.Call j ∷ more) turns =
      AnswersCall (interface_of k.accepted j.context) j k.agreement.max_xmit more (λ later. AnswersAll k more later) turns
  AnswersAll k (asks.Cancel id ∷ more) turns = AnswersAll k more turns
  AnswersAll k (asks.Orphan id ∷ more) turns = AnswersAll k more turns
  AnswersAll k (asks.Broken c f ∷ more) turns = (turns ≡ Closed (pdu_octets (closing c f)) f ∷ []) × (more ≡ [])

  -- The octets are answered to what is asked, where the turns, with the newest first, have a piece for each ask.
  pub record Answers (known : Negotiated) (asked : List Ask) (turns : List Turn) (octets : List ℕ) : Type 0 where
    pub all : AnswersAll known asked (reverse turns)
    pub octets_are : octets ≡ all_octets turns

-- Answers by a journal are answers by each longer one in which others entered what is newer.
use Rattle.std.proofs.Common.{◌≡◌, ◌∙◌, ℕ, Bool, Option, Some, None, List, [], ◌∷◌, ◌++◌, sym, subst, reverse}
use Rattle.std.specs.Prelude.{⊤}
use Rattle.std.specs.List.{AllByRecursion}
use Rattle.rpc_base.specs.declared.identifiers.SyntaxId.{SyntaxId}
use Rattle.handle_model.specs.declared.entry.Home.{Home}
use Rattle.handle_model.specs.declared.entry.Entry.{Entry}
use Rattle.handle_model.specs.declared.reply.Reply.{Reply}
use Rattle.handle_model.specs.Replies.{replies}
use Rattle.handle_model.proofs.Reversed.{reverse-cons}
use Rattle.pdu_codec.specs.declared.pdu.ContextResult.{ContextResult}
use Rattle.pdu_codec.specs.declared.pdu.BindBody.{BindBody}
use Rattle.pdu_stream.specs.declared.joined.Joined.{Joined}
use Rattle.presentation.specs.Offers.{interface_of}
use Rattle.conn_asks.specs.declared.events.Caller.{Caller}
use Rattle.conn_asks.specs.declared.events.Agreement.{Agreement}
use Rattle.conn_asks.specs.declared.events.Ask.{Ask}
use Rattle.conn_asks.specs.declared.events.Ask.TheVariants as asks
use Rattle.conn_asks.specs.States.{caller_of}
use Rattle.conn_histories.specs.Plays.{Negotiated, offering, results}
use Rattle.conn_histories.specs.declared.turn.Off.{Off}
use Rattle.conn_histories.specs.declared.turn.Deed.{Deed}
use Rattle.conn_histories.specs.declared.turn.Deed.TheVariants.{Pending, Refused, Accepted}
use Rattle.conn_histories.specs.declared.turn.Turn.{Turn}
use Rattle.conn_histories.specs.declared.turn.Turn.TheVariants.{Binding, Bound, NotBound, Answered, Called, Closed}
use Rattle.conn_histories.specs.Tales.{whole, StandAll}
use Rattle.conn_histories.specs.Answers.{AreOctetsOf, Piece, IsLost, AnswersBind, AnswersRequest, AnswersCall, AnswersAll, Answers}
use Rattle.conn_turns.specs.Laws.{AreOfOthers, DeedReplied, IsReplied}
use Rattle.conn_turns.proofs.Staying.{turns_stay}
use Rattle.conn_turns.proofs.Replying.{turns_are_replied}
use Rattle.server_ends.specs.declared.ended.Ending.{Ending}
use Rattle.server_ends.specs.Endings.{AreAnswers}

all_append : (P : Turn → Type 0) (xs ys : List Turn) → AllByRecursion P xs → AllByRecursion P ys → AllByRecursion P (xs ++ ys)
all_append P [] ys a b = b
all_append P (x ∷ xs) ys a b = (a.0, all_append P xs ys a.1 b)

all_reverse : (P : Turn → Type 0) (xs : List Turn) → AllByRecursion P xs → AllByRecursion P (reverse xs)
all_reverse P [] a = tt
all_reverse P (x ∷ xs) a = subst (AllByRecursion P) (sym (reverse-cons x xs)) (all_append P (reverse xs) (x ∷ []) (all_reverse P xs a.1) (a.0, tt))

module _ (home : Home) (now then : List Entry) where
  -- both journals reply the same to the call
  abbrev DeedSame : Deed → Type 0
  DeedSame (Accepted k slots fate) = replies (whole home now) k ≡ replies (whole home then) k
  DeedSame _ = ⊤

  abbrev IsSame : Turn → Type 0
  IsSame (Called r) = DeedSame r.deed
  IsSame _ = ⊤

  deed_same : (offs : List Off) (d : Deed) → DeedReplied home then offs d → DeedReplied home now offs d → DeedSame d
  deed_same offs (Accepted k slots fate) a b = b ∙ sym a
  deed_same offs Pending a b = tt
  deed_same offs (Refused status) a b = tt

  all_same : (turns : List Turn) → AllByRecursion (IsReplied home then) turns → AllByRecursion (IsReplied home now) turns → AllByRecursion IsSame turns
  all_same [] a b = tt
  all_same (Called r ∷ ts) a b = (deed_same r.offs r.deed a.0 b.0, all_same ts a.1 b.1)
  all_same (Binding asked ∷ ts) a b = (tt, all_same ts a.1 b.1)
  all_same (Bound asked group octets ∷ ts) a b = (tt, all_same ts a.1 b.1)
  all_same (NotBound asked reason octets ∷ ts) a b = (tt, all_same ts a.1 b.1)
  all_same (Answered octets ∷ ts) a b = (tt, all_same ts a.1 b.1)
  all_same (Closed octets why ∷ ts) a b = (tt, all_same ts a.1 b.1)

  piece : (j : Joined) (most : ℕ) (d : Deed) (octets : List ℕ) → DeedSame d → Piece home then j most d octets → Piece home now j most d octets
  piece j most Pending octets s h = h
  piece j most (Refused status) octets s h = h
  piece j most (Accepted k slots fate) octets s h = subst (λ (r : Reply). AreOctetsOf r (caller_of j) most j.maybe octets) (sym s) h

  lost : (d : Deed) → DeedSame d → IsLost home then d → IsLost home now d
  lost (Accepted k slots fate) s h = s ∙ h
  lost Pending s h = h
  lost (Refused status) s h = h

  -- what is asked then is answered by the rest of the turns, where they are so
  module _ (Then Then' : List Turn → Type 0) (go : (later : List Turn) → AllByRecursion IsSame later → Then later → Then' later) where
    request : (j : Joined) (most : ℕ) (d : Deed) (answer : Option (List ℕ)) (later : List Turn) → DeedSame d → AllByRecursion IsSame later
        → AnswersRequest home then j most d answer Then later → AnswersRequest home now j most d answer Then' later
    request j most d (Some octets) later s all h = (h.0, piece j most d octets s h.1, go later all h.2)
    request j most d None later s all h = (h.0, lost d s h.1, h.2)

    call : (iface : Option ℕ) (j : Joined) (most : ℕ) (more : List Ask) (turns : List Turn) → AllByRecursion IsSame turns
        → AnswersCall home then iface j most more Then turns → AnswersCall home now iface j most more Then' turns
    call (Some number) j most more (Called r ∷ later) s h = (h.0, h.1, h.2, request j most r.deed r.answer later s.0 s.1 h.3)
    call (Some number) j most more [] s h = absurd h
    call (Some number) j most more (Binding asked ∷ later) s h = absurd h
    call (Some number) j most more (Bound asked group octets ∷ later) s h = absurd h
    call (Some number) j most more (NotBound asked reason octets ∷ later) s h = absurd h
    call (Some number) j most more (Answered octets ∷ later) s h = absurd h
    call (Some number) j most more (Closed octets why ∷ later) s h = absurd h
    call None j most more (Answered octets ∷ later) s h = (h.0, go later s.1 h.1)
    call None j most more [] s h = absurd h
    call None j most more (Binding asked ∷ later) s h = absurd h
    call None j most more (Bound asked group octets ∷ later) s h = absurd h
    call None j most more (NotBound asked reason octets ∷ later) s h = absurd h
    call None j most more (Called r ∷ later) s h = absurd h
    call None j most more (Closed octets why ∷ later) s h = absurd h

  bind : (c : Caller) (b : BindBody) (found : List ContextResult) (Then Then' : Agreement → List Turn → Type 0)
      → ((agreement : Agreement) (later : List Turn) → AllByRecursion IsSame later → Then agreement later → Then' agreement later)
      → (turns : List Turn) → AllByRecursion IsSame turns → AnswersBind c b found Then turns → AnswersBind c b found Then' turns
  bind c b found Then Then' go (Bound asked group octets ∷ later) s h = (h.0, h.1, go _ later s.1 h.2)
  bind c b found Then Then' go (NotBound asked reason octets ∷ later) s h = h
  bind c b found Then Then' go [] s h = absurd h
  bind c b found Then Then' go (Binding asked ∷ later) s h = absurd h
  bind c b found Then Then' go (Answered octets ∷ later) s h = absurd h
  bind c b found Then Then' go (Called r ∷ later) s h = absurd h
  bind c b found Then Then' go (Closed octets why ∷ later) s h = absurd h

  all_answered : (k : Negotiated) (asked : List Ask) (turns : List Turn) → AllByRecursion IsSame turns → AnswersAll home then k asked turns → AnswersAll home now k asked turns
  all_answered k [] turns s h = h
  all_answered k (asks.Bind c flags b ∷ more) turns s h =
      bind c b (results k b.elements) (λ agreement later. AnswersAll home then (record (offering k b.elements) { agreement = agreement }) more later)
      (λ agreement later. AnswersAll home now (record (offering k b.elements) { agreement = agreement }) more later)
      (λ agreement later all then'. all_answered (record (offering k b.elements) { agreement = agreement }) more later all then') turns s h
  all_answered k (asks.Alter c b ∷ more) turns s h =
      (h.0, h.1, all_answered (offering k b.elements) more h.0 (subst (AllByRecursion IsSame) h.1 s).1 h.2)
  all_answered k (asks.Call j ∷ more) turns s h =
      call (λ later. AnswersAll home then k more later) (λ later. AnswersAll home now k more later) (λ later all then'. all_answered k more later all then')
      (interface_of k.accepted j.context) j k.agreement.max_xmit more turns s h
  all_answered k (asks.Cancel id ∷ more) turns s h = all_answered k more turns s h
  all_answered k (asks.Orphan id ∷ more) turns s h = all_answered k more turns s h
  all_answered k (asks.Broken c f ∷ more) turns s h = h

  answered : (k : Negotiated) (asked : List Ask) (turns : List Turn) (octets : List ℕ) → AllByRecursion IsSame turns
      → Answers home then k asked turns octets → Answers home now k asked turns octets
  answered k asked turns octets s h = record { all = all_answered k asked (reverse turns) (all_reverse IsSame turns s) h.all; octets_are = h.octets_are }

pub answers_stay : (ids : List SyntaxId) (home : Home) (c : ℕ) (gone : Bool) (newer past : List Entry) (turns : List Turn) (why : Ending) (came put : List ℕ)
    → AreOfOthers c turns newer → StandAll c gone past turns → AreAnswers ids home past turns why came put → AreAnswers ids home (newer ++ past) turns why came put
answers_stay ids home c gone newer past turns why came put others stand h =
    let then' = turns_are_replied home c gone past turns stand in
    let now' = turns_are_replied home c gone (newer ++ past) turns (turns_stay c gone newer past turns others stand) in
    record {
      asked = h.asked;
      asks = h.asks;
      done = h.done;
      left = h.left;
      front = h.front;
      rest = h.rest;
      answers = answered home (newer ++ past) past _ h.done turns (put ++ h.rest) (all_same home (newer ++ past) past turns then' now') h.answers;
      all = h.all;
    }

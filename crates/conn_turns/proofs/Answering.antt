-- Turns answer what was asked.
use Rattle.std.proofs.Common.{◌≡◌, ◌≢◌, ℕ, Bool, true, false, List, [], ◌∷◌, ◌++◌, reverse, Option, Some, None, ◌⊎◌, inl, inr, refl, sym, ap, ◌∙◌, subst}
use Rattle.std.specs.List.{AllByRecursion}
use Rattle.std.proofs.lemmas.List.{append-nil, append_assoc}
use Rattle.rpc_base.specs.declared.identifiers.SyntaxId.{SyntaxId}
use Rattle.handle_model.specs.declared.entry.Home.{Home}
use Rattle.handle_model.specs.declared.entry.Entry.{Entry}
use Rattle.handle_model.specs.declared.reply.Reply.{Reply}
use Rattle.handle_model.specs.declared.reply.Reply.TheVariants.{Never, Ran, Dropped, Open}
use Rattle.handle_model.proofs.Reversed.{reverse-cons}
use Rattle.pdu_codec.specs.declared.pdu.ContextResult.{ContextResult}
use Rattle.pdu_codec.specs.declared.pdu.BindBody.{BindBody}
use Rattle.pdu_codec.specs.Pdus.{pdu_octets}
use Rattle.pdu_stream.specs.declared.joined.Joined.{Joined}
use Rattle.presentation.specs.Offers.{interface_of}
use Rattle.conn_asks.specs.declared.events.Caller.{Caller}
use Rattle.conn_asks.specs.declared.events.Agreement.{Agreement}
use Rattle.conn_asks.specs.declared.events.Ask.{Ask}
use Rattle.conn_asks.specs.declared.events.Ask.TheVariants as asks
use Rattle.conn_asks.specs.declared.events.Act.TheVariants as acts
use Rattle.conn_asks.specs.declared.events.ConnFault.{ConnFault}
use Rattle.conn_asks.specs.declared.events.Waits.TheVariants.{Nothing, Over}
use Rattle.conn_asks.specs.Asks.{AreAsksOf}
use Rattle.conn_asks.specs.Answers.{agreement_of, alter_resp, Replies}
use Rattle.conn_asks.specs.States.{ConnState, at_start, caller_of, ready_ack}
use Rattle.conn_histories.specs.Histories.{Decision, Event, Lives, IsAtRest, stream, seen, put}
use Rattle.conn_histories.specs.Histories.Event.{Did, Decided}
use Rattle.conn_histories.specs.Plays.{Negotiated, negotiated_at_start, offering, results, Binds, CallsOff, EndsCall, PlaysCall, Plays, EndsRefused}
use Rattle.conn_histories.proofs.Done.{acts_are_asks}
use Rattle.conn_histories.proofs.Along.{put_in_order}
use Rattle.conn_histories.specs.declared.turn.Off.{Off}
use Rattle.conn_histories.specs.declared.turn.Fate.{Fate}
use Rattle.conn_histories.specs.declared.turn.Fate.TheVariants.{Waiting, Denied, Cancelled, Orphaned, LeftWaiting, Running, LeftRunning, Ended, LeftEnded}
use Rattle.conn_histories.specs.declared.turn.Deed.{Deed}
use Rattle.conn_histories.specs.declared.turn.Deed.TheVariants.{Pending, Refused, Accepted}
use Rattle.conn_histories.specs.declared.turn.Turn.{Turn}
use Rattle.conn_histories.specs.declared.turn.Turn.TheVariants.{Binding, Bound, NotBound, Answered, Called, Closed}
use Rattle.conn_histories.specs.Entries.{has_left, deed_left}
use Rattle.conn_histories.specs.Events.{fate_reply, deed_reply, word_of, has_run, acts_off, answer_events, events_of, all_events, all_octets}
use Rattle.conn_histories.specs.Tales.{StandAll}
use Rattle.conn_histories.specs.Answers.{asks_off, BeginsWith, AreOctetsOf, Piece, IsLost, AnswersBind, AnswersRequest, AnswersCall, AnswersAll}
use Rattle.conn_turns.specs.Laws.{DeedReplied, IsReplied}
use Rattle.conn_turns.specs.AnswerLaws.{IsRequestOver, IsOver, IsLast, EndsEarly, IsAllAsked, AreAnswered}
use Rattle.conn_turns.proofs.Calling.{NotOff, splits}
use Rattle.conn_turns.proofs.Putting.{turns_are_put}
use Rattle.conn_turns.proofs.Replying.{turns_are_replied}

-- ---- events of turns, the oldest first in both

abbrev pub events_from : List Turn → List Event
events_from [] = []
events_from (t ∷ ts) = events_of t ++ events_from ts

from_append : (ts us : List Turn) → events_from (ts ++ us) ≡ events_from ts ++ events_from us
from_append [] us = refl
from_append (t ∷ ts) us = ap (λ l. events_of t ++ l) (from_append ts us) ∙ sym (append_assoc (events_of t) (events_from ts) (events_from us))

newest_last : (turns : List Turn) → all_events turns ≡ events_from (reverse turns)
newest_last [] = refl
newest_last (t ∷ ts) =
    let here : all_events ts ++ events_of t ≡ events_from (reverse ts ++ t ∷ []) =
    (λ i. newest_last ts i ++ sym (append-nil (events_of t)) i) ∙ sym (from_append (reverse ts) (t ∷ [])) in
    here ∙ ap events_from (sym (reverse-cons t ts))

all_append : (P : Turn → Type 0) (xs ys : List Turn) → AllByRecursion P xs → AllByRecursion P ys → AllByRecursion P (xs ++ ys)
all_append P [] ys a b = b
all_append P (x ∷ xs) ys a b = (a.0, all_append P xs ys a.1 b)

all_reverse : (P : Turn → Type 0) (xs : List Turn) → AllByRecursion P xs → AllByRecursion P (reverse xs)
all_reverse P [] a = tt
all_reverse P (x ∷ xs) a = subst (AllByRecursion P) (sym (reverse-cons x xs)) (all_append P (reverse xs) (x ∷ []) (all_reverse P xs a.1) (a.0, tt))

none_left : (ts : List Turn) → events_from ts ≡ [] → ts ≡ []
none_left [] h = refl
none_left (Binding asked ∷ ts) h = absurd cc
none_left (Bound asked group octets ∷ ts) h = absurd cc
none_left (NotBound asked reason octets ∷ ts) h = absurd cc
none_left (Answered octets ∷ ts) h = absurd cc
none_left (Called r ∷ ts) h = absurd cc
none_left (Closed octets f ∷ ts) h = absurd cc

starts_apart : (ts : List Turn) → NotOff (events_from ts)
starts_apart [] = tt
starts_apart (Binding asked ∷ ts) = tt
starts_apart (Bound asked group octets ∷ ts) = tt
starts_apart (NotBound asked reason octets ∷ ts) = tt
starts_apart (Answered octets ∷ ts) = tt
starts_apart (Called r ∷ ts) = tt
starts_apart (Closed octets f ∷ ts) = tt

-- nothing follows a call that isn't answered
unanswered_last : (c : Caller) (most : ℕ) (maybe : Bool) (Then : List Event → Type 0) (others : List Ask) (ts : List Turn) → EndsCall c most maybe Then others (events_from ts) → ts ≡ []
unanswered_last c most maybe Then others [] h = refl
unanswered_last c most maybe Then others (Binding asked ∷ ts) h = absurd h
unanswered_last c most maybe Then others (Bound asked group octets ∷ ts) h = absurd h
unanswered_last c most maybe Then others (NotBound asked reason octets ∷ ts) h = absurd h
unanswered_last c most maybe Then others (Answered octets ∷ ts) h = absurd h
unanswered_last c most maybe Then others (Called r ∷ ts) h = absurd h
unanswered_last c most maybe Then others (Closed octets f ∷ ts) h = absurd h

-- ---- equal events

rest_is : (x y : Event) (xs ys : List Event) → x ∷ xs ≡ y ∷ ys → xs ≡ ys
rest_is x y xs ys h = cc

same_answer : (a b : List ℕ) (xs ys : List Event) → Did (acts.Answer a) ∷ xs ≡ Did (acts.Answer b) ∷ ys → a ≡ b
same_answer a b xs ys h = cc

same_group : (a b : ℕ) (xs ys : List Event) → Did (acts.Group a) ∷ xs ≡ Did (acts.Group b) ∷ ys → a ≡ b
same_group a b xs ys h = cc

same_joined : (a b : Joined) (m n : ℕ) (xs ys : List Event) → Did (acts.Call a m) ∷ xs ≡ Did (acts.Call b n) ∷ ys → a ≡ b
same_joined a b m n xs ys h = cc

same_iface : (a b : Joined) (m n : ℕ) (xs ys : List Event) → Did (acts.Call a m) ∷ xs ≡ Did (acts.Call b n) ∷ ys → m ≡ n
same_iface a b m n xs ys h = cc

same_close : (a b : List ℕ) (f g : ConnFault) (xs ys : List Event) → Did (acts.Close a f) ∷ xs ≡ Did (acts.Close b g) ∷ ys → a ≡ b
same_close a b f g xs ys h = cc

same_fault : (a b : List ℕ) (f g : ConnFault) (xs ys : List Event) → Did (acts.Close a f) ∷ xs ≡ Did (acts.Close b g) ∷ ys → f ≡ g
same_fault a b f g xs ys h = cc

-- ---- pieces

dropped_octets : (c : Caller) (most : ℕ) (maybe : Bool) (octets : List ℕ) → Replies c most maybe false None octets → octets ≡ []
dropped_octets c most true octets h = h
dropped_octets c most false octets h = h

reply_octets : (reply : Reply) (c : Caller) (most : ℕ) (maybe : Bool) (octets : List ℕ) → reply ≢ Open → Replies c most maybe (has_run reply) (word_of reply) octets → AreOctetsOf reply c most maybe octets
reply_octets (Never status) c most maybe octets said_so h = h
reply_octets (Ran said) c most maybe octets said_so h = h
reply_octets Dropped c most maybe octets said_so h = dropped_octets c most maybe octets h
reply_octets Open c most maybe octets said_so h = absurd (said_so refl)

left_reply : (offs : List Off) (fate : Fate) → has_left fate ≡ true → fate_reply offs fate ≡ Dropped
left_reply offs Waiting h = absurd cc
left_reply offs (Denied slot) h = absurd cc
left_reply offs Cancelled h = absurd cc
left_reply offs Orphaned h = absurd cc
left_reply offs LeftWaiting h = refl
left_reply offs (Running cookies) h = absurd cc
left_reply offs (LeftRunning cookies) h = refl
left_reply offs (Ended run) h = absurd cc
left_reply offs (LeftEnded run) h = refl

module _ (home : Home) (past : List Entry) where
  piece_is : (j : Joined) (most : ℕ) (offs : List Off) (deed : Deed) (octets : List ℕ) → DeedReplied home past offs deed → deed_reply offs deed ≢ Open
      → Replies (caller_of j) most j.maybe (has_run (deed_reply offs deed)) (word_of (deed_reply offs deed)) octets → Piece home past j most deed octets
  piece_is j most offs Pending octets replied said_so h = absurd (said_so refl)
  piece_is j most offs (Refused status) octets replied said_so h = h
  piece_is j most offs (Accepted k slots fate) octets replied said_so h =
      subst (λ (reply : Reply). AreOctetsOf reply (caller_of j) most j.maybe octets) (sym replied) (reply_octets (fate_reply offs fate) (caller_of j) most j.maybe octets said_so h)

  lost_is : (offs : List Off) (deed : Deed) → DeedReplied home past offs deed → deed_left deed ≡ true → IsLost home past deed
  lost_is offs Pending replied left = absurd cc
  lost_is offs (Refused status) replied left = absurd cc
  lost_is offs (Accepted k slots fate) replied left = replied ∙ left_reply offs fate left

module _ (home : Home) (past : List Entry) (j : Joined) (most : ℕ) (more : List Ask) (Then : List Event → Type 0) (Then' : List Turn → Type 0)
    (go : (ts : List Turn) → AllByRecursion (IsReplied home past) ts → AllByRecursion IsOver ts → Then (events_from ts) → Then' ts) where
  request_answers : (offs : List Off) (deed : Deed) (answer : Option (List ℕ)) (ts : List Turn) → DeedReplied home past offs deed → IsRequestOver offs deed answer
      → AllByRecursion (IsReplied home past) ts → AllByRecursion IsOver ts → (xs end : List Event) (others : List Ask)
      → (acts_off j.call_id offs ++ answer_events (deed_reply offs deed) answer) ++ events_from ts ≡ xs ++ end → CallsOff xs more others
      → EndsCall (caller_of j) most j.maybe Then others end → BeginsWith (asks_off j.call_id offs) more × AnswersRequest home past j most deed answer Then' ts
  request_answers offs deed (Some octets) ts replied over r o xs end others is calls ends =
      let rest : List Event = Decided (Decision.Reply (word_of (deed_reply offs deed)) (has_run (deed_reply offs deed))) octets ∷ events_from ts in
      let whole' = sym (append_assoc (acts_off j.call_id offs) (answer_events (deed_reply offs deed) (Some octets)) (events_from ts)) ∙ is in
      let s = splits (caller_of j) most j.maybe Then j.call_id offs rest more others xs end tt whole' calls ends in
      ((s.others, s.begins), (over.1, piece_is home past j most offs deed octets replied over.0 s.ends.0, go ts r o s.ends.1))
  request_answers offs deed None ts replied over r o xs end others is calls ends =
      let whole' = sym (append_assoc (acts_off j.call_id offs) (answer_events (deed_reply offs deed) None) (events_from ts)) ∙ is in
      let s = splits (caller_of j) most j.maybe Then j.call_id offs (events_from ts) more others xs end (starts_apart ts) whole' calls ends in
      ((s.others, s.begins), (over, lost_is home past offs deed replied over, unanswered_last (caller_of j) most j.maybe Then s.others ts s.ends))

  call_answers : (iface : Option ℕ) (ts : List Turn) → AllByRecursion (IsReplied home past) ts → AllByRecursion IsOver ts → PlaysCall iface j most Then more (events_from ts)
      → AnswersCall home past iface j most more Then' ts
  call_answers None [] r o p = let h = p.1 in absurd cc
  call_answers None (Binding asked ∷ ts) r o p = let h = p.1 in absurd cc
  call_answers None (Bound asked group octets ∷ ts) r o p = let h = p.1 in absurd cc
  call_answers None (NotBound asked reason octets ∷ ts) r o p = let h = p.1 in absurd cc
  call_answers None (Called t ∷ ts) r o p = let h = p.1 in absurd cc
  call_answers None (Closed octets f ∷ ts) r o p = let h = p.1 in absurd cc
  call_answers None (Answered octets ∷ ts) r o p =
      (same_answer octets _ (events_from ts) p.0 p.1, go ts r.1 o.1 (subst Then (sym (rest_is _ _ (events_from ts) p.0 p.1)) p.2))
  call_answers (Some n) [] r o p = let h = p.1 in absurd cc
  call_answers (Some n) (Binding asked ∷ ts) r o p = let h = p.1 in absurd cc
  call_answers (Some n) (Bound asked group octets ∷ ts) r o p = let h = p.1 in absurd cc
  call_answers (Some n) (NotBound asked reason octets ∷ ts) r o p = let h = p.1 in absurd cc
  call_answers (Some n) (Answered octets ∷ ts) r o p = let h = p.1 in absurd cc
  call_answers (Some n) (Closed octets f ∷ ts) r o p = let h = p.1 in absurd cc
  call_answers (Some n) (Called t ∷ ts) r o p =
      let later = (acts_off t.joined.call_id t.offs ++ answer_events (deed_reply t.offs t.deed) t.answer) ++ events_from ts in
      let joined : t.joined ≡ j = same_joined t.joined j t.iface n later p.0 p.1 in
      let number : t.iface ≡ n = same_iface t.joined j t.iface n later p.0 p.1 in
      let runs = p.2 in
      let same : later ≡ runs.0 ++ runs.2 = rest_is _ _ later p.0 p.1 ∙ runs.3 in
      let same' = subst (λ (i : Joined). (acts_off i.call_id t.offs ++ answer_events (deed_reply t.offs t.deed) t.answer) ++ events_from ts ≡ runs.0 ++ runs.2) joined same in
      let here = request_answers t.offs t.deed t.answer ts r.0 o.0 r.1 o.1 runs.0 runs.2 runs.1 same' runs.4 runs.5 in
      (joined, number, here.0, here.1)

module _ (home : Home) (past : List Entry) (c : Caller) (b : BindBody) (found : List ContextResult) (more : List Ask) (Then : Agreement → List Event → Type 0) (Then' : Agreement → List Turn → Type 0)
    (go : (agreement : Agreement) (ts : List Turn) → AllByRecursion (IsReplied home past) ts → AllByRecursion IsOver ts → Then agreement (events_from ts) → Then' agreement ts) where
  bind_answers : (ts : List Turn) → AllByRecursion (IsReplied home past) ts → AllByRecursion IsOver ts → (later : List Event) → events_from ts ≡ Did (acts.Group b.group) ∷ later
      → Binds c (ready_ack (agreement_of b 0) found) Then more later → AnswersBind c b found Then' ts
  bind_answers [] r o later is h = absurd cc
  bind_answers (Binding asked ∷ ts) r o later is h = absurd o.0
  bind_answers (Bound asked group octets ∷ ts) r o later is h =
      let behind : List Event = Decided (Decision.ToGroup group) octets ∷ events_from ts in
      let bound = subst (Binds c (ready_ack (agreement_of b 0) found) Then more) (sym (rest_is _ _ behind later is)) h in
      (same_group asked b.group behind later is, bound.0, go (agreement_of b group) ts r.1 o.1 bound.1)
  bind_answers (NotBound asked reason octets ∷ ts) r o later is h =
      let behind : List Event = Decided (Decision.RefuseGroup reason) octets ∷ events_from ts in
      let refused = subst (Binds c (ready_ack (agreement_of b 0) found) Then more) (sym (rest_is _ _ behind later is)) h in
      (same_group asked b.group behind later is, refused.0, none_left ts refused.1)
  bind_answers (Answered octets ∷ ts) r o later is h = absurd cc
  bind_answers (Called t ∷ ts) r o later is h = absurd cc
  bind_answers (Closed octets f ∷ ts) r o later is h = absurd cc

module _ (home : Home) (past : List Entry) where
  -- an answer at once
  at_once : (X : List ℕ) (ts : List Turn) (later : List Event) → events_from ts ≡ Did (acts.Answer X) ∷ later → (us : List Turn) × (ts ≡ Answered X ∷ us) × (events_from us ≡ later)
  at_once X [] later is = absurd cc
  at_once X (Binding asked ∷ ts) later is = absurd cc
  at_once X (Bound asked group octets ∷ ts) later is = absurd cc
  at_once X (NotBound asked reason octets ∷ ts) later is = absurd cc
  at_once X (Called t ∷ ts) later is = absurd cc
  at_once X (Closed octets f ∷ ts) later is = absurd cc
  at_once X (Answered octets ∷ ts) later is = (ts, ap (λ o. Answered o ∷ ts) (same_answer octets X (events_from ts) later is), rest_is _ _ (events_from ts) later is)

  closed_is : (X : List ℕ) (f : ConnFault) (ts : List Turn) → events_from ts ≡ Did (acts.Close X f) ∷ [] → ts ≡ Closed X f ∷ []
  closed_is X f [] is = absurd cc
  closed_is X f (Binding asked ∷ ts) is = absurd cc
  closed_is X f (Bound asked group octets ∷ ts) is = absurd cc
  closed_is X f (NotBound asked reason octets ∷ ts) is = absurd cc
  closed_is X f (Called t ∷ ts) is = absurd cc
  closed_is X f (Answered octets ∷ ts) is = absurd cc
  closed_is X f (Closed octets g ∷ ts) is =
      let same = same_close octets X g f (events_from ts) [] is in
      let fault = same_fault octets X g f (events_from ts) [] is in
      let end = none_left ts (rest_is _ _ (events_from ts) [] is) in
      λ i. Closed (same i) (fault i) ∷ end i

  answers_from : (asked : List Ask) (k : Negotiated) (ts : List Turn) → AllByRecursion (IsReplied home past) ts → AllByRecursion IsOver ts → Plays k asked (events_from ts) → AnswersAll home past k asked ts
  answers_from [] k ts r o p = none_left ts p
  answers_from (asks.Bind c flags b ∷ more) k ts r o p =
      bind_answers home past c b (results k b.elements) more
      (λ agreement rest. Plays (record (offering k b.elements) { agreement = agreement }) more rest)
      (λ agreement later. AnswersAll home past (record (offering k b.elements) { agreement = agreement }) more later)
      (λ agreement us r' o' p'. answers_from more (record (offering k b.elements) { agreement = agreement }) us r' o' p')
      ts r o p.0 p.1 p.2
  answers_from (asks.Alter c b ∷ more) k ts r o p =
      let here = at_once _ ts p.0 p.1 in
      let r' = subst (AllByRecursion (IsReplied home past)) here.1 r in
      let o' = subst (AllByRecursion IsOver) here.1 o in
      (here.0, here.1, answers_from more (offering k b.elements) here.0 r'.1 o'.1 (subst (Plays (offering k b.elements) more) (sym here.2) p.2))
  answers_from (asks.Call j ∷ more) k ts r o p =
      call_answers home past j k.agreement.max_xmit more (λ rest. Plays k more rest) (λ later. AnswersAll home past k more later)
      (λ us r' o' p'. answers_from more k us r' o' p') (interface_of k.accepted j.context) ts r o p
  answers_from (asks.Cancel id ∷ more) k ts r o p = answers_from more k ts r o p
  answers_from (asks.Orphan id ∷ more) k ts r o p = answers_from more k ts r o p
  answers_from (asks.Broken c f ∷ more) k ts r o p = (closed_is _ f ts p.0, p.1)

pub turns_answer : (home : Home) (past : List Entry) (k : Negotiated) (asked : List Ask) (turns : List Turn) → Plays k asked (all_events turns)
    → AllByRecursion (IsReplied home past) turns → AllByRecursion IsOver turns → AnswersAll home past k asked (reverse turns)
turns_answer home past k asked turns p r o =
    answers_from home past asked k (reverse turns) (all_reverse (IsReplied home past) turns r) (all_reverse IsOver turns o) (subst (Plays k asked) (newest_last turns) p)

-- ---- a connection

-- What is asked behind the newest turn, where nothing more is answered. Turns are listed with the oldest first here.
abbrev pub EndsSo : List Turn → Type 0
EndsSo [] = ⊥
EndsSo (t ∷ []) = IsLast t
EndsSo (t ∷ u ∷ ts) = EndsSo (u ∷ ts)

ends_so : (ts : List Turn) (t : Turn) → IsLast t → EndsSo (ts ++ t ∷ [])
ends_so [] t h = h
ends_so (x ∷ []) t h = h
ends_so (x ∷ y ∷ ts) t h = ends_so (y ∷ ts) t h

ends_later : (t : Turn) (ts : List Turn) → (IsLast t → ⊥) → EndsSo (t ∷ ts) → EndsSo ts
ends_later t [] far h = absurd (far h)
ends_later t (u ∷ ts) far h = h

module _ (home : Home) (past : List Entry) (later : List Ask) where
  bind_more : (more : List Ask) (c : Caller) (b : BindBody) (found : List ContextResult) (Then Then' : Agreement → List Turn → Type 0)
      → ((agreement : Agreement) (ts : List Turn) → EndsSo ts → Then agreement ts → Then' agreement ts) → (ts : List Turn) → EndsSo ts → AnswersBind c b found Then ts → AnswersBind c b found Then' ts
  bind_more more c b found Then Then' go [] e h = absurd h
  bind_more more c b found Then Then' go (Binding asked ∷ ts) e h = absurd h
  bind_more more c b found Then Then' go (Bound asked group octets ∷ ts) e h = (h.0, h.1, go (agreement_of b group) ts (ends_later (Bound asked group octets) ts (λ x. x) e) h.2)
  bind_more more c b found Then Then' go (NotBound asked reason octets ∷ ts) e h = h
  bind_more more c b found Then Then' go (Answered octets ∷ ts) e h = absurd h
  bind_more more c b found Then Then' go (Called t ∷ ts) e h = absurd h
  bind_more more c b found Then Then' go (Closed octets f ∷ ts) e h = absurd h

  request_more : (j : Joined) (most : ℕ) (deed : Deed) (answer : Option (List ℕ)) (Then Then' : List Turn → Type 0) → ((ts : List Turn) → EndsSo ts → Then ts → Then' ts)
      → (ts : List Turn) → ((answer ≡ None → ⊥) → EndsSo ts) → AnswersRequest home past j most deed answer Then ts → AnswersRequest home past j most deed answer Then' ts
  request_more j most deed (Some octets) Then Then' go ts e h = (h.0, h.1, go ts (e (λ x. absurd cc)) h.2)
  request_more j most deed None Then Then' go ts e h = h

  call_more : (iface : Option ℕ) (j : Joined) (most : ℕ) (more : List Ask) (Then Then' : List Turn → Type 0) → ((ts : List Turn) → EndsSo ts → Then ts → Then' ts)
      → (ts : List Turn) → EndsSo ts → AnswersCall home past iface j most more Then ts → AnswersCall home past iface j most (more ++ later) Then' ts
  call_more None j most more Then Then' go [] e h = absurd h
  call_more None j most more Then Then' go (Binding asked ∷ ts) e h = absurd h
  call_more None j most more Then Then' go (Bound asked group octets ∷ ts) e h = absurd h
  call_more None j most more Then Then' go (NotBound asked reason octets ∷ ts) e h = absurd h
  call_more None j most more Then Then' go (Called t ∷ ts) e h = absurd h
  call_more None j most more Then Then' go (Closed octets f ∷ ts) e h = absurd h
  call_more None j most more Then Then' go (Answered octets ∷ ts) e h = (h.0, go ts (ends_later (Answered octets) ts (λ x. x) e) h.1)
  call_more (Some n) j most more Then Then' go [] e h = absurd h
  call_more (Some n) j most more Then Then' go (Binding asked ∷ ts) e h = absurd h
  call_more (Some n) j most more Then Then' go (Bound asked group octets ∷ ts) e h = absurd h
  call_more (Some n) j most more Then Then' go (NotBound asked reason octets ∷ ts) e h = absurd h
  call_more (Some n) j most more Then Then' go (Answered octets ∷ ts) e h = absurd h
  call_more (Some n) j most more Then Then' go (Closed octets f ∷ ts) e h = absurd h
  call_more (Some n) j most more Then Then' go (Called t ∷ ts) e h =
      let front : List Ask = asks_off j.call_id t.offs in
      let begins : BeginsWith front (more ++ later) = (h.2.0 ++ later, ap (λ l. l ++ later) h.2.1 ∙ append_assoc front h.2.0 later) in
      (h.0, h.1, begins, request_more j most t.deed t.answer Then Then' go ts (λ far. ends_later (Called t) ts far e) h.3)

  answers_more : (asked : List Ask) (k : Negotiated) (ts : List Turn) → EndsSo ts → AnswersAll home past k asked ts → AnswersAll home past k (asked ++ later) ts
  answers_more [] k ts e h = absurd (subst EndsSo h e)
  answers_more (asks.Bind c flags b ∷ more) k ts e h =
      bind_more more c b (results k b.elements)
      (λ agreement us. AnswersAll home past (record (offering k b.elements) { agreement = agreement }) more us)
      (λ agreement us. AnswersAll home past (record (offering k b.elements) { agreement = agreement }) (more ++ later) us)
      (λ agreement us e' h'. answers_more more (record (offering k b.elements) { agreement = agreement }) us e' h') ts e h
  answers_more (asks.Alter c b ∷ more) k ts e h =
      (h.0, h.1, answers_more more (offering k b.elements) h.0 (ends_later (Answered (pdu_octets (alter_resp c k.agreement (results k b.elements)))) h.0 (λ x. x) (subst EndsSo h.1 e)) h.2)
  answers_more (asks.Call j ∷ more) k ts e h =
      call_more (interface_of k.accepted j.context) j k.agreement.max_xmit more (λ us. AnswersAll home past k more us) (λ us. AnswersAll home past k (more ++ later) us)
      (λ us e' h'. answers_more more k us e' h') ts e h
  answers_more (asks.Cancel id ∷ more) k ts e h = answers_more more k ts e h
  answers_more (asks.Orphan id ∷ more) k ts e h = answers_more more k ts e h
  answers_more (asks.Broken c f ∷ more) k ts e h = absurd (subst EndsSo h.0 e)

newest_ends : (turns : List Turn) → EndsEarly turns → EndsSo (reverse turns)
newest_ends [] h = absurd h
newest_ends (t ∷ ts) h = subst EndsSo (sym (reverse-cons t ts)) (ends_so (reverse ts) t h)

-- ---- a refused bind is the newest turn

abbrev pub last_event : List Event → Option Event
last_event [] = None
last_event (x ∷ []) = Some x
last_event (x ∷ y ∷ ys) = last_event (y ∷ ys)

last_append : (xs : List Event) (y : Event) (ys : List Event) → last_event (xs ++ y ∷ ys) ≡ last_event (y ∷ ys)
last_append [] y ys = refl
last_append (x ∷ []) y ys = refl
last_append (x ∷ z ∷ xs) y ys = last_append (z ∷ xs) y ys

called_last : (xs : List Event) (x : Event) (acts : List Event) (reply : Reply) (answer : Option (List ℕ)) (reason : ℕ) (octets : List ℕ)
    → last_event (xs ++ x ∷ (acts ++ answer_events reply answer)) ≡ Some (Decided (Decision.RefuseGroup reason) octets) → answer ≡ None
called_last xs x acts reply None reason octets h = refl
called_last xs x acts reply (Some said) reason octets h =
    let other : Event = Decided (Decision.Reply (word_of reply) (has_run reply)) said in
    let behind : last_event (xs ++ x ∷ (acts ++ other ∷ [])) ≡ Some other = last_append xs x (acts ++ other ∷ []) ∙ last_append (x ∷ acts) other [] in
    let wrong : Some other ≡ Some (Decided (Decision.RefuseGroup reason) octets) = sym behind ∙ h in
    absurd cc

refused_last : (turns : List Turn) (before : List Event) (reason : ℕ) (octets : List ℕ) → all_events turns ≡ before ++ Decided (Decision.RefuseGroup reason) octets ∷ [] → EndsEarly turns
refused_last turns before reason octets is = by_turn turns (ap last_event is ∙ last_append before (Decided (Decision.RefuseGroup reason) octets) [])
  where
    by_turn : (turns : List Turn) → last_event (all_events turns) ≡ Some (Decided (Decision.RefuseGroup reason) octets) → EndsEarly turns
    by_turn [] h = absurd cc
    by_turn (Binding asked ∷ ts) h = let e = sym (last_append (all_events ts) (Did (acts.Group asked)) []) ∙ h in absurd cc
    by_turn (Bound asked group given ∷ ts) h =
        let e = sym (last_append (all_events ts) (Did (acts.Group asked)) (Decided (Decision.ToGroup group) given ∷ [])) ∙ h in absurd cc
    by_turn (NotBound asked why given ∷ ts) h = tt
    by_turn (Answered given ∷ ts) h = let e = sym (last_append (all_events ts) (Did (acts.Answer given)) []) ∙ h in absurd cc
    by_turn (Closed given f ∷ ts) h = let e = sym (last_append (all_events ts) (Did (acts.Close given f)) []) ∙ h in absurd cc
    by_turn (Called r ∷ ts) h = called_last (all_events ts) (Did (acts.Call r.joined r.iface)) (acts_off r.joined.call_id r.offs) (deed_reply r.offs r.deed) r.answer reason octets h

pub stories_answer : (ids : List SyntaxId) (home : Home) (c : ℕ) (gone : Bool) (past : List Entry) (events : List Event) (m : ConnState) (asked : List Ask) (turns : List Turn)
    → Lives (at_start ids) events m → AreAsksOf (stream events) asked → seen events ≡ all_events turns → StandAll c gone past turns
    → AllByRecursion IsOver turns → AreAnswered ids home past events m asked turns
stories_answer ids home c gone past events m asked turns lives of saw stand over =
    let known = negotiated_at_start ids in
    let d = acts_are_asks ids events m asked lives of in
    let plays = turns_answer home past known d.done turns (subst (Plays known d.done) saw d.plays) (turns_are_replied home c gone past turns stand) over in
    let octets : put events ≡ all_octets turns = sym (put_in_order events []).1 ∙ (ap put saw ∙ turns_are_put turns) in
    let early : EndsEarly turns → AnswersAll home past known asked (reverse turns) =
    λ e. subst (λ l. AnswersAll home past known l (reverse turns)) (sym d.whole) (answers_more home past d.left d.done known (reverse turns) (newest_ends turns e) plays) in
    let full : d.left ≡ [] → AnswersAll home past known asked (reverse turns) =
    λ e. subst (λ l. AnswersAll home past known l (reverse turns)) (sym (d.whole ∙ (ap (λ l. d.done ++ l) e ∙ append-nil d.done))) plays in
    record {
      done = d.done;
      left = d.left;
      front = d.whole;
      answers = record { all = plays; octets_are = octets };
      all = λ end. record { all = by_end d.free d.over full early end; octets_are = octets };
    }
  where
    refused : EndsRefused (seen events) → EndsEarly turns
    refused r = refused_last turns r.0 r.1 r.2 (sym saw ∙ r.3)

    by_over : {X : Type 0} {left : List Ask} → (left ≡ [] → X) → (EndsEarly turns → X) → (left ≡ []) ⊎ EndsRefused (seen events) → X
    by_over full early (inl e) = full e
    by_over full early (inr r) = early (refused r)

    by_end : {X : Type 0} {left : List Ask} → (m.waits ≡ Nothing → IsAtRest m → left ≡ []) → (m.waits ≡ Over → (left ≡ []) ⊎ EndsRefused (seen events))
        → (left ≡ [] → X) → (EndsEarly turns → X) → IsAllAsked m turns → X
    by_end free ends full early (inl h) = full (free h.0 h.1)
    by_end free ends full early (inr (inl h)) = by_over full early (ends h)
    by_end free ends full early (inr (inr h)) = early h

-- What is put is what turns answered, and a request has one answer.
use Rattle.std.proofs.Common.{◌≡◌, ℕ, Bool, true, false, List, [], ◌∷◌, ◌++◌, Option, Some, None, refl, sym, ◌∙◌}
use Rattle.std.proofs.lemmas.List.{append-nil}
use Rattle.pdu_stream.specs.declared.joined.Joined.{Joined}
use Rattle.handle_model.specs.declared.entry.Home.{Home}
use Rattle.handle_model.specs.declared.entry.Said.{Said}
use Rattle.handle_model.specs.declared.entry.Said.TheVariants.{Fault}
use Rattle.handle_model.specs.declared.entry.Entry.{Entry}
use Rattle.handle_model.specs.declared.reply.Reply.{Reply}
use Rattle.handle_model.specs.declared.reply.Reply.TheVariants.{Never, Ran, Dropped, Open}
use Rattle.handle_model.specs.Replies.{replies}
use Rattle.conn_asks.specs.declared.events.Caller.{Caller}
use Rattle.conn_asks.specs.declared.events.Waits.TheVariants.{Nothing, Call}
use Rattle.conn_asks.specs.Answers.{Replies}
use Rattle.conn_asks.specs.States.{ConnState, caller_of}
use Rattle.conn_histories.specs.Histories.{Decision, Event, put}
use Rattle.conn_histories.specs.Histories.Event.{Did}
use Rattle.conn_histories.proofs.Along.{put_in_order}
use Rattle.conn_histories.proofs.Decided.{one_answer}
use Rattle.conn_histories.specs.declared.turn.Off.{Off}
use Rattle.conn_histories.specs.declared.turn.Off.TheVariants as off
use Rattle.conn_histories.specs.declared.turn.Deed.{Deed}
use Rattle.conn_histories.specs.declared.turn.Deed.TheVariants.{Pending, Refused, Accepted}
use Rattle.conn_histories.specs.declared.turn.Turn.{Turn}
use Rattle.conn_histories.specs.declared.turn.Turn.TheVariants.{Binding, Bound, NotBound, Answered, Called, Closed}
use Rattle.conn_histories.specs.Events.{deed_reply, acts_off, act_off, answer_events, events_of, all_events, octets_in, octets_of, all_octets}
use Rattle.conn_histories.specs.Tales.{whole}
use Rattle.conn_histories.specs.Answers.{AreOctetsOf, Piece}

put_append : (a b : List Event) → put (a ++ b) ≡ put a ++ put b
put_append a b = (put_in_order a b).0.puts

off_put : (id : ℕ) (o : Off) → put (Did (act_off id o) ∷ []) ≡ []
off_put id off.Cancel = refl
off_put id off.Orphan = refl

offs_put : (id : ℕ) (offs : List Off) → put (acts_off id offs) ≡ []
offs_put id [] = refl
offs_put id (o ∷ offs) = put_append (acts_off id offs) (Did (act_off id o) ∷ []) ∙ (λ i. offs_put id offs i ++ off_put id o i)

answer_put : (reply : Reply) (answer : Option (List ℕ)) → put (answer_events reply answer) ≡ octets_in answer
answer_put reply None = refl
answer_put reply (Some octets) = append-nil octets

turn_put : (t : Turn) → put (events_of t) ≡ octets_of t
turn_put (Binding asked) = refl
turn_put (Bound asked group octets) = append-nil octets
turn_put (NotBound asked reason octets) = append-nil octets
turn_put (Answered octets) = append-nil octets
turn_put (Called r) =
    put_append (acts_off r.joined.call_id r.offs) (answer_events (deed_reply r.offs r.deed) r.answer)
    ∙ (λ i. offs_put r.joined.call_id r.offs i ++ answer_put (deed_reply r.offs r.deed) r.answer i)
turn_put (Closed octets fault) = append-nil octets

pub turns_are_put : (turns : List Turn) → put (all_events turns) ≡ all_octets turns
turns_are_put [] = refl
turns_are_put (t ∷ ts) = put_append (all_events ts) (events_of t) ∙ (λ i. turns_are_put ts i ++ turn_put t i)

-- ---- one answer

one_reply : (c : Caller) (most : ℕ) (maybe executed : Bool) (said : Option Said) (a b : List ℕ) → Replies c most maybe executed said a → Replies c most maybe executed said b → a ≡ b
one_reply c most maybe executed said a b h k =
    let m : ConnState = record { ids = []; past = []; rest = []; waits = Call c maybe; agreement = record { max_xmit = most; max_recv = most; group = 0 } } in
    (one_answer m (record m { waits = Nothing }) (record m { waits = Nothing }) (Decision.Reply said executed) a b (h, refl) (k, refl)).0

one_octets : (reply : Reply) (c : Caller) (most : ℕ) (maybe : Bool) (a b : List ℕ) → AreOctetsOf reply c most maybe a → AreOctetsOf reply c most maybe b → a ≡ b
one_octets (Never status) c most maybe a b h k = one_reply c most maybe false (Some (Fault status)) a b h k
one_octets (Ran said) c most maybe a b h k = one_reply c most maybe true (Some said) a b h k
one_octets Dropped c most maybe a b h k = h ∙ sym k
one_octets Open c most maybe a b h k = absurd h

pub one_piece : (home : Home) (past : List Entry) (j : Joined) (most : ℕ) (deed : Deed) (a b : List ℕ) → Piece home past j most deed a → Piece home past j most deed b → a ≡ b
one_piece home past j most Pending a b h k = absurd h
one_piece home past j most (Refused status) a b h k = one_octets (Never status) (caller_of j) most j.maybe a b h k
one_piece home past j most (Accepted m slots fate) a b h k = one_octets (replies (whole home past) m) (caller_of j) most j.maybe a b h k

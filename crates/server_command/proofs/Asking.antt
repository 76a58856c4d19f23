-- The id of the group that a refused bind asked for has 32 bits, by the octets with which the bind came.
use Rattle.std.proofs.Common.{◌≡◌, ◌<◌, ◌^◌, ℕ, Bool, true, false, Option, Some, None, List, [], ◌∷◌, ◌++◌, reverse, refl, sym, subst}
use Rattle.std.specs.Prelude.{nat_lt, if◌then◌else◌}
use Rattle.std.specs.List.{AllByRecursion}
use Rattle.std.proofs.lemmas.List.{reverse-reverse}
use Rattle.rpc_base.specs.declared.identifiers.SyntaxId.{SyntaxId}
use Rattle.handle_model.specs.declared.entry.Home.{Home}
use Rattle.handle_model.specs.declared.entry.Entry.{Entry}
use Rattle.handle_model.proofs.Reversed.{reverse-cons}
use Rattle.pdu_codec.specs.declared.pdu.Pdu.{Pdu}
use Rattle.pdu_codec.specs.declared.pdu.Body.{Body}
use Rattle.pdu_codec.specs.declared.pdu.Body.TheVariants as bodies
use Rattle.pdu_codec.specs.declared.pdu.BindBody.{BindBody}
use Rattle.pdu_codec.specs.declared.pdu.AlterBody.{AlterBody}
use Rattle.pdu_codec.specs.declared.pdu.ContextResult.{ContextResult}
use Rattle.pdu_codec.specs.declared.fault.PduFault.{PduFault}
use Rattle.pdu_codec.specs.Constants.{least_fragment}
use Rattle.pdu_codec.specs.Pdus.{FitsBody, IsPdu, AreSpelled, pdu_octets}
use Rattle.pdu_stream.specs.declared.joined.Joined.{Joined}
use Rattle.pdu_stream.specs.Fragments.{Fragment}
use Rattle.presentation.specs.Offers.{interface_of}
use Rattle.conn_asks.specs.declared.events.Caller.{Caller}
use Rattle.conn_asks.specs.declared.events.Agreement.{Agreement}
use Rattle.conn_asks.specs.declared.events.Ask.{Ask}
use Rattle.conn_asks.specs.declared.events.Ask.TheVariants as asks
use Rattle.conn_asks.specs.Answers.{agreement_of, alter_resp}
use Rattle.conn_asks.specs.Asks.{called, is_bound, is_called, of_bind, of_alter, request_fragment, JoinsToAsk, OfRequest, AsksWith, Asks, AsksFirst, AreAsks, AreAsksOf, broken_end}
use Rattle.conn_histories.specs.Plays.{Negotiated, offering, results, negotiated_at_start}
use Rattle.conn_histories.specs.declared.turn.Deed.{Deed}
use Rattle.conn_histories.specs.declared.turn.Turn.{Turn}
use Rattle.conn_histories.specs.declared.turn.Turn.TheVariants.{Binding, Bound, NotBound, Answered, Called, Closed}
use Rattle.conn_histories.specs.Answers.{AnswersBind, AnswersRequest, AnswersCall, AnswersAll, Answers}
use Rattle.server_ends.specs.declared.ended.Ending.{Ending}
use Rattle.server_ends.specs.Endings.{AreAnswers}

-- ---- what octets ask

abbrev IsSmallAsk : Ask → Type 0
IsSmallAsk (asks.Bind c flags b) = b.group < 2 ^ 32
IsSmallAsk _ = Unit {0}

abbrev IsSmallIf : Option Ask → Type 0
IsSmallIf None = Unit {0}
IsSmallIf (Some a) = IsSmallAsk a

abbrev AreSmallAsks : List Ask → Type 0
AreSmallAsks asked = AllByRecursion IsSmallAsk asked

joins_small : (run : Option Joined) (f : Fragment) (ask : Option Ask) → JoinsToAsk run f ask → IsSmallIf ask
joins_small run f None h = tt
joins_small run f (Some (asks.Bind c flags b)) h = absurd h
joins_small run f (Some (asks.Alter c b)) h = tt
joins_small run f (Some (asks.Call j)) h = tt
joins_small run f (Some (asks.Cancel id)) h = tt
joins_small run f (Some (asks.Orphan id)) h = tt
joins_small run f (Some (asks.Broken c fault)) h = tt

request_small : (bound : Bool) (run : Option Joined) (f : Fragment) (ask : Option Ask) → OfRequest bound run f ask → IsSmallIf ask
request_small true run f ask h = joins_small run f ask h
request_small false run f ask h = subst IsSmallIf (sym h) tt

bind_small : (bound : Bool) (c : Caller) (flags : ℕ) (b : BindBody) (low : Bool) → nat_lt b.max_recv least_fragment ≡ low → b.group < 2 ^ 32 → IsSmallAsk (of_bind bound c flags b)
bind_small true c flags b low e h = tt
bind_small false c flags b true e h = rw e tt
bind_small false c flags b false e h = rw e h

alter_small : (bound : Bool) (c : Caller) (b : AlterBody) → IsSmallAsk (of_alter bound c b)
alter_small true c b = tt
alter_small false c b = tt

cancel_small : (is : Bool) (a : Ask) → IsSmallAsk a → IsSmallIf (if is then Some a else None)
cancel_small true a h = h
cancel_small false a h = tt

body_small : (bound : Bool) (run : Option Joined) (call : Option ℕ) (p : Pdu) (b : Body) (ask : Option Ask) → FitsBody b → AsksWith bound run call p b ask → IsSmallIf ask
body_small bound run call p (bodies.Bind b) ask fits h = subst IsSmallIf (sym h) (bind_small bound _ p.flags b (nat_lt b.max_recv least_fragment) refl fits.group)
body_small bound run call p (bodies.Alter b) ask fits h = subst IsSmallIf (sym h) (alter_small bound _ b)
body_small bound run call p (bodies.Request r) ask fits h = request_small bound run (request_fragment p r) ask h
body_small bound run call p bodies.CoCancel ask fits h = subst IsSmallIf (sym h) (cancel_small (is_called p.call_id call) (asks.Cancel p.call_id) tt)
body_small bound run call p bodies.Orphaned ask fits h = subst IsSmallIf (sym h) (cancel_small (is_called p.call_id call) (asks.Orphan p.call_id) tt)
body_small bound run call p (bodies.Response b) ask fits h = subst IsSmallIf (sym h) tt
body_small bound run call p (bodies.Fault b) ask fits h = subst IsSmallIf (sym h) tt
body_small bound run call p (bodies.BindAck b) ask fits h = subst IsSmallIf (sym h) tt
body_small bound run call p (bodies.BindNak b) ask fits h = subst IsSmallIf (sym h) tt
body_small bound run call p (bodies.AlterResp b) ask fits h = subst IsSmallIf (sym h) tt
body_small bound run call p bodies.Shutdown ask fits h = subst IsSmallIf (sym h) tt

first_small : (ask : Option Ask) (Later : List Ask → Type 0) (asked : List Ask) → IsSmallIf ask → ((later : List Ask) → Later later → AreSmallAsks later) → AsksFirst ask Later asked → AreSmallAsks asked
first_small None Later asked small go h = go asked h
first_small (Some (asks.Broken c f)) Later asked small go h = subst AreSmallAsks (sym h) (tt, tt)
first_small (Some (asks.Bind c flags b)) Later asked small go (later, is, h) = subst AreSmallAsks (sym is) (small, go later h)
first_small (Some (asks.Alter c b)) Later asked small go (later, is, h) = subst AreSmallAsks (sym is) (tt, go later h)
first_small (Some (asks.Call j)) Later asked small go (later, is, h) = subst AreSmallAsks (sym is) (tt, go later h)
first_small (Some (asks.Cancel id)) Later asked small go (later, is, h) = subst AreSmallAsks (sym is) (tt, go later h)
first_small (Some (asks.Orphan id)) Later asked small go (later, is, h) = subst AreSmallAsks (sym is) (tt, go later h)

asks_small : (past pdus : List Pdu) (end asked : List Ask) (octets : List ℕ) → AreSpelled IsPdu pdus octets → AreSmallAsks end → AreAsks past pdus end asked → AreSmallAsks asked
asks_small past [] end asked octets spelled small h = subst AreSmallAsks (sym h) small
asks_small past (p ∷ more) end asked octets (first, others, is, pdu, rest) small (ask, a, h) =
    first_small ask (AreAsks (p ∷ past) more end) asked (body_small (is_bound past) a.run (called past) p p.body ask pdu.fits.body a.asks)
    (λ later l. asks_small (p ∷ past) more end later others rest small l) h

end_small : (rest : List ℕ) (fault : Option PduFault) → AreSmallAsks (broken_end rest fault)
end_small rest None = tt
end_small rest (Some fault) = (tt, tt)

stream_small : (came : List ℕ) (asked : List Ask) → AreAsksOf came asked → AreSmallAsks asked
stream_small came asked a = asks_small [] a.cut.pdus (broken_end a.cut.rest a.cut.fault) asked a.is_cut.front a.is_cut.pdus (end_small a.cut.rest a.cut.fault) a.asked

done_small : (done left : List Ask) → AreSmallAsks (done ++ left) → AreSmallAsks done
done_small [] left h = tt
done_small (a ∷ done) left h = (h.0, done_small done left h.1)

-- ---- what is answered

-- a refused bind asked for an id of 32 bits
abbrev pub IsSmall : Turn → Type 0
IsSmall (NotBound asked reason octets) = asked < 2 ^ 32
IsSmall _ = Unit {0}

abbrev pub AreSmall : List Turn → Type 0
AreSmall turns = AllByRecursion IsSmall turns

module _ (home : Home) (past : List Entry) where
  binds_small : (c : Caller) (b : BindBody) (found : List ContextResult) (Then : Agreement → List Turn → Type 0) (ts : List Turn) → b.group < 2 ^ 32
      → ((agreement : Agreement) (us : List Turn) → Then agreement us → AreSmall us) → AnswersBind c b found Then ts → AreSmall ts
  binds_small c b found Then [] small go h = absurd h
  binds_small c b found Then (Binding asked ∷ ts) small go h = absurd h
  binds_small c b found Then (Bound asked group octets ∷ ts) small go h = (tt, go (agreement_of b group) ts h.2)
  binds_small c b found Then (NotBound asked reason octets ∷ ts) small go h = (subst (λ (n : ℕ). n < 2 ^ 32) (sym h.0) small, subst AreSmall (sym h.2) tt)
  binds_small c b found Then (Answered octets ∷ ts) small go h = absurd h
  binds_small c b found Then (Called r ∷ ts) small go h = absurd h
  binds_small c b found Then (Closed octets f ∷ ts) small go h = absurd h

  behind_small : (j : Joined) (most : ℕ) (deed : Deed) (answer : Option (List ℕ)) (Then : List Turn → Type 0) (ts : List Turn) → ((us : List Turn) → Then us → AreSmall us)
      → AnswersRequest home past j most deed answer Then ts → AreSmall ts
  behind_small j most deed (Some octets) Then ts go h = go ts h.2
  behind_small j most deed None Then ts go h = subst AreSmall (sym h.2) tt

  call_small : (iface : Option ℕ) (j : Joined) (most : ℕ) (more : List Ask) (Then : List Turn → Type 0) (ts : List Turn) → ((us : List Turn) → Then us → AreSmall us)
      → AnswersCall home past iface j most more Then ts → AreSmall ts
  call_small None j most more Then [] go h = absurd h
  call_small None j most more Then (Binding asked ∷ ts) go h = absurd h
  call_small None j most more Then (Bound asked group octets ∷ ts) go h = absurd h
  call_small None j most more Then (NotBound asked reason octets ∷ ts) go h = absurd h
  call_small None j most more Then (Called r ∷ ts) go h = absurd h
  call_small None j most more Then (Closed octets f ∷ ts) go h = absurd h
  call_small None j most more Then (Answered octets ∷ ts) go h = (tt, go ts h.1)
  call_small (Some n) j most more Then [] go h = absurd h
  call_small (Some n) j most more Then (Binding asked ∷ ts) go h = absurd h
  call_small (Some n) j most more Then (Bound asked group octets ∷ ts) go h = absurd h
  call_small (Some n) j most more Then (NotBound asked reason octets ∷ ts) go h = absurd h
  call_small (Some n) j most more Then (Answered octets ∷ ts) go h = absurd h
  call_small (Some n) j most more Then (Closed octets f ∷ ts) go h = absurd h
  call_small (Some n) j most more Then (Called r ∷ ts) go h = (tt, behind_small j most r.deed r.answer Then ts go h.3)

  answers_small : (k : Negotiated) (asked : List Ask) (ts : List Turn) → AreSmallAsks asked → AnswersAll home past k asked ts → AreSmall ts
  answers_small k [] ts small h = subst AreSmall (sym h) tt
  answers_small k (asks.Bind c flags b ∷ more) ts small h =
      binds_small c b (results k b.elements) (λ agreement later. AnswersAll home past (record (offering k b.elements) { agreement = agreement }) more later) ts small.0
      (λ agreement us g. answers_small (record (offering k b.elements) { agreement = agreement }) more us small.1 g) h
  answers_small k (asks.Alter c b ∷ more) ts small h = subst AreSmall (sym h.1) (tt, answers_small (offering k b.elements) more h.0 small.1 h.2)
  answers_small k (asks.Call j ∷ more) ts small h =
      call_small (interface_of k.accepted j.context) j k.agreement.max_xmit more (λ later. AnswersAll home past k more later) ts (λ us g. answers_small k more us small.1 g) h
  answers_small k (asks.Cancel id ∷ more) ts small h = answers_small k more ts small.1 h
  answers_small k (asks.Orphan id ∷ more) ts small h = answers_small k more ts small.1 h
  answers_small k (asks.Broken c f ∷ more) ts small h = subst AreSmall (sym h.0) (tt, tt)

all_joined : (xs ys : List Turn) → AreSmall xs → AreSmall ys → AreSmall (xs ++ ys)
all_joined [] ys a b = b
all_joined (x ∷ xs) ys a b = (a.0, all_joined xs ys a.1 b)

all_back : (xs : List Turn) → AreSmall xs → AreSmall (reverse xs)
all_back [] a = tt
all_back (x ∷ xs) a = subst AreSmall (sym (reverse-cons x xs)) (all_joined (reverse xs) (x ∷ []) (all_back xs a.1) (a.0, tt))

-- of a connection's turns, whatever the journal
pub turns_small : (ids : List SyntaxId) (home : Home) (past : List Entry) (turns : List Turn) (why : Ending) (came put : List ℕ) → AreAnswers ids home past turns why came put → AreSmall turns
turns_small ids home past turns why came put a =
    let all = stream_small came a.asked a.asks in
    let done = done_small a.done a.left (subst AreSmallAsks a.front all) in
    subst AreSmall (reverse-reverse turns) (all_back (reverse turns) (answers_small home past (negotiated_at_start ids) a.done (reverse turns) done a.answers.all))

-- What is asked from a state on.
use Rattle.std.proofs.Common.{◌≡◌, ℕ, Bool, true, false, List, [], ◌∷◌, ◌++◌, Option, Some, None, refl, sym, ap, subst, ◌∙◌, append_assoc}
use Rattle.std.specs.Prelude.{if◌then◌else◌}
use Rattle.rpc_base.specs.declared.identifiers.SyntaxId.{SyntaxId}
use Rattle.pdu_codec.specs.declared.pdu.Pdu.{Pdu}
use Rattle.pdu_codec.specs.declared.pdu.Body.{Body}
use Rattle.pdu_codec.specs.declared.pdu.Body.TheVariants as bodies
use Rattle.pdu_codec.specs.declared.pdu.BindBody.{BindBody}
use Rattle.pdu_codec.specs.declared.pdu.AlterBody.{AlterBody}
use Rattle.pdu_codec.specs.declared.pdu.Element.{Element}
use Rattle.pdu_codec.specs.declared.pdu.RequestBody.{RequestBody}
use Rattle.pdu_codec.specs.declared.fault.PduFault.{PduFault}
use Rattle.pdu_codec.specs.Pdus.{IsPdu, AreSpelled}
use Rattle.pdu_stream.specs.declared.joined.Joined.{Joined}
use Rattle.pdu_stream.specs.declared.cut.Cut.{Cut}
use Rattle.pdu_stream.specs.Cuts.{IsNext, Remains, IsCut}
use Rattle.pdu_stream.proofs.CutLaws.{one_next, not_remains}
use Rattle.presentation.specs.declared.verdict.Accepted.{Accepted}
use Rattle.presentation.specs.Offers.{contexts_after, contexts}
use Rattle.presentation.proofs.Offered.{split}
use Rattle.conn_asks.specs.declared.events.Caller.{Caller}
use Rattle.conn_asks.specs.declared.events.Ask.{Ask}
use Rattle.conn_asks.specs.declared.events.Ask.TheVariants as asks
use Rattle.conn_asks.specs.declared.events.ConnFault.{ConnFault}
use Rattle.conn_asks.specs.declared.events.ConnFault.TheVariants as conn
use Rattle.conn_asks.specs.Asks.{offered_by, offered, caller, request_fragment, of_bind, of_alter, is_called, OfRequest, AsksWith, Asks, is_bound, called, broken_end, AsksFirst, AreAsks}
use Rattle.conn_asks.specs.Asking.{elements_in}
use Rattle.conn_asks.specs.States.{ConnState, accepted, TakesPdu}
use Rattle.conn_histories.proofs.OneAsk.{JoinsBy, joins_by}
use Rattle.conn_histories.proofs.OneAsk.JoinsBy.{goes_on, whole, breaks}

-- ---- what is offered by what is asked

abbrev pub elements_of : Option Ask → List Element
elements_of None = []
elements_of (Some ask) = elements_in ask

pub data Offers (body : Body) (ask : Option Ask) : Type 0 where
  offers : offered_by body ≡ elements_of ask → Offers body ask
  broken : (c : Caller) (f : ConnFault) → ask ≡ Some (asks.Broken c f) → Offers body ask

if_elements : (t : Bool) (a b : Option Ask) → elements_of a ≡ [] → elements_of b ≡ [] → [] ≡ elements_of (if t then a else b)
if_elements true a b x y = sym x
if_elements false a b x y = sym y

abbrev some_ask : Ask → Option Ask
some_ask a = Some a

offers_bind : (t : Bool) (c : Caller) (flags : ℕ) (b : BindBody) (ask : Option Ask) → ask ≡ some_ask (if t then asks.Broken c (conn.Nak 0) else asks.Bind c flags b) → Offers (bodies.Bind b) ask
offers_bind true c flags b ask e = broken c (conn.Nak 0) e
offers_bind false c flags b ask e = offers (ap elements_of (sym e))

bind_by : (bound : Bool) (c : Caller) (flags : ℕ) (b : BindBody) (ask : Option Ask) → ask ≡ Some (of_bind bound c flags b) → Offers (bodies.Bind b) ask
bind_by true c flags b ask e = broken c conn.Rebound e
bind_by false c flags b ask e = offers_bind _ c flags b ask e

alter_by : (bound : Bool) (c : Caller) (b : AlterBody) (ask : Option Ask) → ask ≡ Some (of_alter bound c b) → Offers (bodies.Alter b) ask
alter_by true c b ask e = offers (ap elements_of (sym e))
alter_by false c b ask e = broken c conn.Unbound e

join_by : (run : Option Joined) (p : Pdu) (r : RequestBody) (ask : Option Ask) → JoinsBy run (request_fragment p r) ask → Offers (bodies.Request r) ask
join_by run p r ask (goes_on e t last) = offers (ap elements_of (sym e))
join_by run p r ask (whole j e t last is) = offers (ap elements_of (sym e))
join_by run p r ask (breaks c fault e c_is known wrong) = broken c (conn.Join fault) e

request_by : (bound : Bool) (run : Option Joined) (p : Pdu) (r : RequestBody) (ask : Option Ask) → OfRequest bound run (request_fragment p r) ask → Offers (bodies.Request r) ask
request_by true run p r ask h = join_by run p r ask (joins_by run (request_fragment p r) ask h)
request_by false run p r ask h = broken _ conn.Unbound h

offers_by : (bound : Bool) (run : Option Joined) (call : Option ℕ) (p : Pdu) (body : Body) (ask : Option Ask) → AsksWith bound run call p body ask → Offers body ask
offers_by bound run call p (bodies.Request r) ask h = request_by bound run p r ask h
offers_by bound run call p (bodies.Bind b) ask h = bind_by bound (caller p 0) p.flags b ask h
offers_by bound run call p (bodies.Alter b) ask h = alter_by bound (caller p 0) b ask h
offers_by bound run call p bodies.CoCancel ask h =
    offers (if_elements (is_called p.call_id call) (Some (asks.Cancel p.call_id)) None refl refl ∙ ap elements_of (sym h))
offers_by bound run call p bodies.Orphaned ask h =
    offers (if_elements (is_called p.call_id call) (Some (asks.Orphan p.call_id)) None refl refl ∙ ap elements_of (sym h))
offers_by bound run call p (bodies.Response r) ask h = broken (caller p 0) conn.Direction h
offers_by bound run call p (bodies.Fault r) ask h = broken (caller p 0) conn.Direction h
offers_by bound run call p (bodies.BindAck r) ask h = broken (caller p 0) conn.Direction h
offers_by bound run call p (bodies.BindNak r) ask h = broken (caller p 0) conn.Direction h
offers_by bound run call p (bodies.AlterResp r) ask h = broken (caller p 0) conn.Direction h
offers_by bound run call p bodies.Shutdown ask h = broken (caller p 0) conn.Direction h

pub offers_asked : (past : List Pdu) (p : Pdu) (ask : Option Ask) → Asks past p ask → Offers p.body ask
offers_asked past p ask h = offers_by (is_bound past) h.run (called past) p p.body ask h.asks

-- the contexts that are accepted behind a PDU
more_offered : (ids : List SyntaxId) (past : List Pdu) (p : Pdu) → contexts ids (offered (p ∷ past)) ≡ contexts_after ids (contexts ids (offered past)) (offered_by p.body)
unfolding offered
more_offered ids past p = split ids [] (offered past) (offered_by p.body)

pub accepted_on : (m n : ConnState) (p : Pdu) → TakesPdu m p n → accepted n ≡ contexts_after m.ids (accepted m) (offered_by p.body)
accepted_on m n p t = (λ i. contexts (t.ids i) (offered (t.past i))) ∙ more_offered m.ids m.past p

pub none_offered : (ids : List SyntaxId) (a : List Accepted) → contexts_after ids a [] ≡ a
unfolding contexts_after
none_offered ids a = refl

pub none_at_start : (ids : List SyntaxId) → contexts ids (offered []) ≡ []
unfolding offered contexts_after
none_at_start ids = refl

-- ---- the cut behind a PDU

pub record Peeled (others : List ℕ) (p : Pdu) (cut : Cut) : Type 0 where
  pub later : List Pdu
  pub pdus : cut.pdus ≡ p ∷ later
  pub is_cut : IsCut others (record cut { pdus = later })

none_cut : (s others front rest : List ℕ) (p : Pdu) (fault : Option PduFault) → IsNext s p others → s ≡ front ++ rest → front ≡ [] → Remains rest fault → ⊥
none_cut s others front rest p fault next e none remains =
    let at : rest ≡ next.0 ++ others = sym (e ∙ ap (λ (x : List ℕ). x ++ rest) none) ∙ next.2 in
    not_remains p next.0 others fault next.1 (subst (λ (x : List ℕ). Remains x fault) at remains)

peel_by : (s others front : List ℕ) (p : Pdu) (pdus : List Pdu) (rest : List ℕ) (fault : Option PduFault) → IsNext s p others → s ≡ front ++ rest → AreSpelled IsPdu pdus front → Remains rest fault
    → Peeled others p (record { pdus = pdus; rest = rest; fault = fault })
peel_by s others front p [] rest fault next e spelled remains = absurd (none_cut s others front rest p fault next e spelled remains)
peel_by s others front p (q ∷ qs) rest fault next e spelled remains =
    let grouped : s ≡ spelled.0 ++ (spelled.1 ++ rest) = e ∙ ap (λ (x : List ℕ). x ++ rest) spelled.2 ∙ append_assoc spelled.0 spelled.1 rest in
    let same = one_next p q next.0 spelled.0 others (spelled.1 ++ rest) next.1 spelled.3 (sym next.2 ∙ grouped) in
    record {
      later = qs;
      pdus = ap (λ (x : Pdu). x ∷ qs) (sym same.0);
      is_cut = record { front = spelled.1; whole = same.1; pdus = spelled.4; remains = remains };
    }

pub peel : (s others : List ℕ) (p : Pdu) (cut : Cut) → IsNext s p others → IsCut s cut → Peeled others p cut
peel s others p cut next c = peel_by s others c.front p cut.pdus cut.rest cut.fault next c.whole c.pdus c.remains

-- ---- what is asked from a state on

pub record Left (m : ConnState) (asked : List Ask) : Type 0 where
  pub cut : Cut
  pub is_cut : IsCut m.rest cut
  pub asks : AreAsks m.past cut.pdus (broken_end cut.rest cut.fault) asked

pub leads_map : (ask : Option Ask) (P Q : List Ask → Type 0) (asked : List Ask) → ((xs : List Ask) → P xs → Q xs) → AsksFirst ask P asked → AsksFirst ask Q asked
leads_map None P Q asked f h = f asked h
leads_map (Some (asks.Broken c g)) P Q asked f h = h
leads_map (Some (asks.Bind c flags b)) P Q asked f h = (h.0, h.1, f h.0 h.2)
leads_map (Some (asks.Alter c b)) P Q asked f h = (h.0, h.1, f h.0 h.2)
leads_map (Some (asks.Call j)) P Q asked f h = (h.0, h.1, f h.0 h.2)
leads_map (Some (asks.Cancel id)) P Q asked f h = (h.0, h.1, f h.0 h.2)
leads_map (Some (asks.Orphan id)) P Q asked f h = (h.0, h.1, f h.0 h.2)

pub left_takes : (m n : ConnState) (p : Pdu) (asked : List Ask) → Left m asked → TakesPdu m p n → (ask : Option Ask) × Asks m.past p ask × AsksFirst ask (Left n) asked
left_takes m n p asked l t =
    let c = peel m.rest n.rest p l.cut t.next l.is_cut in
    let end = broken_end l.cut.rest l.cut.fault in
    let here : AreAsks m.past (p ∷ c.later) end asked = subst (λ (x : List Pdu). AreAsks m.past x end asked) c.pdus l.asks in
    let later : (xs : List Ask) → AreAsks (p ∷ m.past) c.later end xs → Left n xs = λ xs a. record {
      cut = record l.cut { pdus = c.later };
      is_cut = c.is_cut;
      asks = subst (λ (x : List Pdu). AreAsks x c.later end xs) (sym t.past) a;
    } in
    (here.0, here.1, leads_map here.0 (AreAsks (p ∷ m.past) c.later end) (Left n) asked later here.2)

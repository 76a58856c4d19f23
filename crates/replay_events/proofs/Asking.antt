-- The numbers of what a PDU asks fit the fields of its answer.
use Rattle.std.proofs.Common.{◌≡◌, ℕ, ◌^◌, ◌<◌, ◌≤◌, ◌==◌, ◌&&◌, Bool, true, false, not, Option, Some, None, if◌then◌else◌, List, [], ◌∷◌, length, refl, sym, ap, subst, ◌∙◌, arith}
use Rattle.std.specs.Prelude.{⊤, nat_lt}
use Rattle.std.proofs.lemmas.Bool.{and_parts, eqb-true}
use Rattle.pdu_codec.specs.declared.pdu.Pdu.{Pdu}
use Rattle.pdu_codec.specs.declared.pdu.Body.{Body}
use Rattle.pdu_codec.specs.declared.pdu.Body.TheVariants as bodies
use Rattle.pdu_codec.specs.declared.pdu.BindBody.{BindBody}
use Rattle.pdu_codec.specs.declared.pdu.AlterBody.{AlterBody}
use Rattle.pdu_codec.specs.declared.fault.PduFault.{PduFault}
use Rattle.pdu_codec.specs.declared.fault.PduFault.TheVariants as pdus
use Rattle.pdu_codec.specs.Constants.{bind_type, least_fragment}
use Rattle.pdu_codec.specs.Faults.{kind_at}
use Rattle.pdu_codec.specs.Pdus.{FitsBody, IsPdu}
use Rattle.pdu_stream.specs.declared.joined.Joined.{Joined}
use Rattle.pdu_stream.specs.Fragments.{Fragment, is_first, is_in_order, with_fragment, joined_of}
use Rattle.conn_asks.specs.declared.events.Caller.{Caller}
use Rattle.conn_asks.specs.declared.events.ConnFault.{ConnFault}
use Rattle.conn_asks.specs.declared.events.ConnFault.TheVariants as why
use Rattle.conn_asks.specs.declared.events.Ask.{Ask}
use Rattle.conn_asks.specs.declared.events.Ask.TheVariants as asks
use Rattle.conn_asks.specs.Asks.{offered_by, request_fragment, is_bound, called, is_called, caller, caller_of_fragment, of_bind, of_alter, JoinsToAsk, OfRequest, AsksWith, Asks, nak_reason, broken_by}
use Rattle.conn_asks.specs.States.{caller_of}
use Rattle.conn_core.proofs.Fits.{few_offered}
use Rattle.replay_events.specs.Numbered.{FitsCaller, FitsFault}

abbrev pub FitsAsk : Ask → Type 0
FitsAsk (asks.Bind c flags b) = FitsCaller c × (length b.elements < 256)
FitsAsk (asks.Alter c b) = FitsCaller c × (length b.elements < 256)
FitsAsk (asks.Call j) = FitsCaller (caller_of j)
FitsAsk (asks.Cancel id) = ⊤
FitsAsk (asks.Orphan id) = ⊤
FitsAsk (asks.Broken c f) = FitsCaller c × FitsFault f

abbrev IfAsks : Option Ask → Type 0
IfAsks None = ⊤
IfAsks (Some ask) = FitsAsk ask

along : (a b : Option Ask) → a ≡ b → IfAsks b → IfAsks a
along a b e h = subst IfAsks (sym e) h

-- ---- a fault of octets

pub nak_small : (f : PduFault) → nak_reason f < 2 ^ 16
nak_small pdus.Version = omega arith
nak_small pdus.Kind = omega arith
nak_small pdus.Length = omega arith
nak_small pdus.Auth = omega arith
nak_small pdus.Characters = omega arith
nak_small pdus.Body = omega arith
nak_small pdus.Memory = omega arith

broken_at : (b : Bool) (f : PduFault) → FitsFault (if b then why.Nak (nak_reason f) else why.Pdu f)
broken_at true f = nak_small f
broken_at false f = tt

pub broken_fits : (octets : List ℕ) (f : PduFault) → FitsFault (broken_by octets f)
broken_fits octets f = broken_at (kind_at octets == bind_type) f

-- ---- a PDU

if_bind : (short : Bool) (c : Caller) (flags : ℕ) (b : BindBody) → FitsCaller c → length b.elements < 256 → FitsAsk (if short then asks.Broken c (why.Nak 0) else asks.Bind c flags b)
if_bind true c flags b fits few = (fits, omega arith)
if_bind false c flags b fits few = (fits, few)

bind_fits : (bound : Bool) (c : Caller) (flags : ℕ) (b : BindBody) → FitsCaller c → length b.elements < 256 → FitsAsk (of_bind bound c flags b)
bind_fits true c flags b fits few = (fits, tt)
bind_fits false c flags b fits few = if_bind (nat_lt b.max_recv least_fragment) c flags b fits few

alter_fits : (bound : Bool) (c : Caller) (b : AlterBody) → FitsCaller c → length b.elements < 256 → FitsAsk (of_alter bound c b)
alter_fits true c b fits few = (fits, few)
alter_fits false c b fits few = (fits, tt)

joined_fits : (run : Option Joined) (f : Fragment) → is_in_order run f ≡ true → FitsCaller (caller_of_fragment f) → FitsCaller (caller_of (with_fragment run f))
unfolding joined_of
joined_fits None f in_order fits = record { call_id = fits.call_id; context = fits.context }
joined_fits (Some j) f in_order fits =
    let call : Bool = not (is_first f) && (f.call_id == j.call_id) in
    let a = and_parts (call && (f.part.context == j.context)) (f.part.op == j.op) in_order in
    let b = and_parts call (f.part.context == j.context) a.0 in
    let c = and_parts (not (is_first f)) (f.call_id == j.call_id) b.0 in
    record { call_id = omega (arith, eqb-true f.call_id j.call_id c.1, fits.call_id); context = omega (arith, eqb-true f.part.context j.context b.1, fits.context) }

joins_fit : (run : Option Joined) (f : Fragment) (ask : Option Ask) → FitsCaller (caller_of_fragment f) → JoinsToAsk run f ask → IfAsks ask
joins_fit run f None fits h = tt
joins_fit run f (Some (asks.Call j)) fits h = subst (λ (x : Joined). FitsCaller (caller_of x)) (sym h.2) (joined_fits run f h.0.0 fits)
joins_fit run f (Some (asks.Broken c (why.Join fault))) fits h = (subst FitsCaller (sym h.0) fits, tt)
joins_fit run f (Some (asks.Broken c (why.Pdu x))) fits h = absurd h
joins_fit run f (Some (asks.Broken c why.Direction)) fits h = absurd h
joins_fit run f (Some (asks.Broken c why.Unbound)) fits h = absurd h
joins_fit run f (Some (asks.Broken c why.Rebound)) fits h = absurd h
joins_fit run f (Some (asks.Broken c (why.Nak x))) fits h = absurd h
joins_fit run f (Some (asks.Bind c flags b)) fits h = absurd h
joins_fit run f (Some (asks.Alter c b)) fits h = absurd h
joins_fit run f (Some (asks.Cancel id)) fits h = absurd h
joins_fit run f (Some (asks.Orphan id)) fits h = absurd h

request_fits : (bound : Bool) (run : Option Joined) (f : Fragment) (ask : Option Ask) → FitsCaller (caller_of_fragment f) → OfRequest bound run f ask → IfAsks ask
request_fits true run f ask fits h = joins_fit run f ask fits h
request_fits false run f ask fits h = along ask (Some (asks.Broken (caller_of_fragment f) why.Unbound)) h (fits, tt)

off_fits : (b : Bool) (ask : Ask) → FitsAsk ask → IfAsks (if b then Some ask else None)
off_fits true ask fits = fits
off_fits false ask fits = tt

asks_fit : (bound : Bool) (run : Option Joined) (call : Option ℕ) (p : Pdu) (body : Body) (ask : Option Ask) → FitsBody body → length (offered_by body) < 256 → p.call_id < 2 ^ 32
    → AsksWith bound run call p body ask → IfAsks ask
asks_fit bound run call p (bodies.Bind b) ask fits few id h =
    along ask (Some (of_bind bound (caller p 0) p.flags b)) h (bind_fits bound (caller p 0) p.flags b (record { call_id = id; context = omega arith }) few)
asks_fit bound run call p (bodies.Alter b) ask fits few id h =
    along ask (Some (of_alter bound (caller p 0) b)) h (alter_fits bound (caller p 0) b (record { call_id = id; context = omega arith }) few)
asks_fit bound run call p (bodies.Request r) ask fits few id h = request_fits bound run (request_fragment p r) ask (record { call_id = id; context = fits.context }) h
asks_fit bound run call p bodies.CoCancel ask fits few id h =
    along ask (if is_called p.call_id call then Some (asks.Cancel p.call_id) else None) h (off_fits (is_called p.call_id call) (asks.Cancel p.call_id) tt)
asks_fit bound run call p bodies.Orphaned ask fits few id h =
    along ask (if is_called p.call_id call then Some (asks.Orphan p.call_id) else None) h (off_fits (is_called p.call_id call) (asks.Orphan p.call_id) tt)
asks_fit bound run call p (bodies.Response r) ask fits few id h = along ask (Some (asks.Broken (caller p 0) why.Direction)) h (record { call_id = id; context = omega arith }, tt)
asks_fit bound run call p (bodies.Fault r) ask fits few id h = along ask (Some (asks.Broken (caller p 0) why.Direction)) h (record { call_id = id; context = omega arith }, tt)
asks_fit bound run call p (bodies.BindAck r) ask fits few id h = along ask (Some (asks.Broken (caller p 0) why.Direction)) h (record { call_id = id; context = omega arith }, tt)
asks_fit bound run call p (bodies.BindNak r) ask fits few id h = along ask (Some (asks.Broken (caller p 0) why.Direction)) h (record { call_id = id; context = omega arith }, tt)
asks_fit bound run call p (bodies.AlterResp r) ask fits few id h = along ask (Some (asks.Broken (caller p 0) why.Direction)) h (record { call_id = id; context = omega arith }, tt)
asks_fit bound run call p bodies.Shutdown ask fits few id h = along ask (Some (asks.Broken (caller p 0) why.Direction)) h (record { call_id = id; context = omega arith }, tt)

pub ask_fits : (past : List Pdu) (p : Pdu) (front : List ℕ) (ask : Ask) → IsPdu p front → Asks past p (Some ask) → FitsAsk ask
ask_fits past p front ask is h =
    asks_fit (is_bound past) h.run (called past) p p.body (Some ask) is.fits.body (few_offered p front is) is.fits.call_id h.asks

-- What is asked while other calls are unanswered, and while none or one is.
use Rattle.std.proofs.Common.{◌≡◌, ◌==◌, ℕ, Bool, true, false, List, [], ◌∷◌, Option, Some, None, refl, sym, ap, subst, ◌∙◌, arith}
use Rattle.std.specs.Prelude.{◌||◌, nat_lt, if◌then◌else◌}
use Rattle.std.specs.Option.{option_map}
use Rattle.std.proofs.lemmas.Bool.Decides.{nat_tests}
use Rattle.pdu_codec.specs.declared.pdu.Pdu.{Pdu}
use Rattle.pdu_codec.specs.declared.pdu.Body.{Body}
use Rattle.pdu_codec.specs.declared.pdu.Body.TheVariants as bodies
use Rattle.pdu_codec.specs.declared.pdu.BindBody.{BindBody}
use Rattle.pdu_codec.specs.declared.pdu.AlterBody.{AlterBody}
use Rattle.pdu_codec.specs.Constants.{least_fragment}
use Rattle.pdu_stream.specs.declared.joined.Joined.{Joined}
use Rattle.pdu_stream.specs.declared.joined.JoinFault.TheVariants.{FragOrder}
use Rattle.pdu_stream.specs.Fragments.{Fragment}
use Rattle.conn_asks.specs.declared.events.Caller.{Caller}
use Rattle.conn_asks.specs.declared.events.ConnFault.TheVariants.{Join, Nak, Direction}
use Rattle.conn_asks.specs.declared.events.Ask.{Ask}
use Rattle.conn_asks.specs.declared.events.Ask.TheVariants as asks
use Rattle.conn_asks.specs.Asks.{is_bound, called, is_called, caller, request_fragment, of_bind, of_alter, JoinsToAsk, OfRequest, AsksWith, Asks}
use Rattle.conn_asks.specs.States.{caller_of, is_calling_off}
use Rattle.mpx_asks.specs.declared.open_calls.OpenCall.{OpenCall}
use Rattle.mpx_asks.specs.Open.{has, named}
use Rattle.mpx_asks.specs.Among.{barred, AsksAmong}
use Rattle.mpx_asks.specs.Laws.{AsksWhileAlone, unless_off}

-- ---- while no call is unanswered

barred_none : (a : Ask) → barred [] a ≡ a
barred_none (asks.Bind c flags b) = refl
barred_none (asks.Alter c b) = refl
barred_none (asks.Call j) = refl
barred_none (asks.Cancel id) = refl
barred_none (asks.Orphan id) = refl
barred_none (asks.Broken c f) = refl

mapped_none : (o : Option Ask) → option_map (barred []) o ≡ o
mapped_none None = refl
mapped_none (Some a) = ap (λ (x : Ask). Some x) (barred_none a)

-- ---- a whole request

still_call : (bound : Bool) (run : Option Joined) (call : Option ℕ) (p : Pdu) (body : Body) (j : Joined) → AsksWith bound run None p body (Some (asks.Call j)) → AsksWith bound run call p body (Some (asks.Call j))
still_call bound run call p (bodies.Request r) j h = h
still_call bound run call p (bodies.Response r) j h = h
still_call bound run call p (bodies.Fault r) j h = h
still_call bound run call p (bodies.Bind r) j h = h
still_call bound run call p (bodies.BindAck r) j h = h
still_call bound run call p (bodies.BindNak r) j h = h
still_call bound run call p (bodies.Alter r) j h = h
still_call bound run call p (bodies.AlterResp r) j h = h
still_call bound run call p bodies.Shutdown j h = h
still_call bound run call p bodies.CoCancel j h = absurd (cc h)
still_call bound run call p bodies.Orphaned j h = absurd (cc h)

pub by_id : (past : List Pdu) (out : List OpenCall) (p : Pdu) (j : Joined) → AsksAmong past [] p (Some (asks.Call j))
    → AsksAmong past out p (Some (if has j.call_id out then asks.Broken (caller_of j) (Join FragOrder) else asks.Call j))
by_id past out p j a =
    let alone : a.alone ≡ Some (asks.Call j) = sym (a.among ∙ mapped_none a.alone) in
    let h : AsksWith (is_bound past) a.run None p p.body (Some (asks.Call j)) = subst (λ (x : Option Ask). AsksWith (is_bound past) a.run None p p.body x) alone a.asks in
    record { run = a.run; joining = a.joining; alone = Some (asks.Call j); asks = still_call (is_bound past) a.run (named p.call_id out) p p.body j h; among = refl }

-- ---- while one call at a time is unanswered

lasting_joined : (run : Option Joined) (f : Fragment) (ask : Option Ask) → JoinsToAsk run f ask → ask ≡ unless_off ask
lasting_joined run f None h = refl
lasting_joined run f (Some (asks.Bind c flags b)) h = refl
lasting_joined run f (Some (asks.Alter c b)) h = refl
lasting_joined run f (Some (asks.Call j)) h = refl
lasting_joined run f (Some (asks.Cancel id)) h = absurd h
lasting_joined run f (Some (asks.Orphan id)) h = absurd h
lasting_joined run f (Some (asks.Broken c x)) h = refl

-- an equal ask is as lasting
as_lasting : (ask other : Option Ask) → ask ≡ other → other ≡ unless_off other → ask ≡ unless_off ask
as_lasting ask other e h = subst (λ (x : Option Ask). x ≡ unless_off x) (sym e) h

lasting_request : (bound : Bool) (run : Option Joined) (f : Fragment) (ask : Option Ask) → OfRequest bound run f ask → ask ≡ unless_off ask
lasting_request true run f ask h = lasting_joined run f ask h
lasting_request false run f ask h = as_lasting ask _ h refl

lasting_bind : (bound : Bool) (c : Caller) (flags : ℕ) (b : BindBody) → Some (of_bind bound c flags b) ≡ unless_off (Some (of_bind bound c flags b))
lasting_bind true c flags b = refl
lasting_bind false c flags b = by_test (nat_lt b.max_recv least_fragment)
  where
    by_test : (q : Bool) → Some (if q then asks.Broken c (Nak 0) else asks.Bind c flags b) ≡ unless_off (Some (if q then asks.Broken c (Nak 0) else asks.Bind c flags b))
    by_test true = refl
    by_test false = refl

lasting_alter : (bound : Bool) (c : Caller) (b : AlterBody) → Some (of_alter bound c b) ≡ unless_off (Some (of_alter bound c b))
lasting_alter true c b = refl
lasting_alter false c b = refl

no_cancel : (id : ℕ) (q : Bool) → None ≡ unless_off (if q then Some (asks.Cancel id) else None)
no_cancel id true = refl
no_cancel id false = refl

no_orphan : (id : ℕ) (q : Bool) → None ≡ unless_off (if q then Some (asks.Orphan id) else None)
no_orphan id true = refl
no_orphan id false = refl

-- what is asked while no call is unanswered, whichever was asked last
recalled : (bound : Bool) (run : Option Joined) (call : Option ℕ) (p : Pdu) (body : Body) (ask : Option Ask) → AsksWith bound run None p body ask
    → (other : Option Ask) × AsksWith bound run call p body other × (ask ≡ unless_off other)
recalled bound run call p (bodies.Request r) ask h = (ask, h, lasting_request bound run (request_fragment p r) ask h)
recalled bound run call p (bodies.Bind b) ask h = (ask, h, as_lasting ask _ h (lasting_bind bound (caller p 0) p.flags b))
recalled bound run call p (bodies.Alter b) ask h = (ask, h, as_lasting ask _ h (lasting_alter bound (caller p 0) b))
recalled bound run call p (bodies.Response r) ask h = (ask, h, as_lasting ask (Some (asks.Broken (caller p 0) Direction)) h refl)
recalled bound run call p (bodies.Fault r) ask h = (ask, h, as_lasting ask (Some (asks.Broken (caller p 0) Direction)) h refl)
recalled bound run call p (bodies.BindAck r) ask h = (ask, h, as_lasting ask (Some (asks.Broken (caller p 0) Direction)) h refl)
recalled bound run call p (bodies.BindNak r) ask h = (ask, h, as_lasting ask (Some (asks.Broken (caller p 0) Direction)) h refl)
recalled bound run call p (bodies.AlterResp r) ask h = (ask, h, as_lasting ask (Some (asks.Broken (caller p 0) Direction)) h refl)
recalled bound run call p bodies.Shutdown ask h = (ask, h, as_lasting ask (Some (asks.Broken (caller p 0) Direction)) h refl)
recalled bound run call p bodies.CoCancel ask h =
    let b = is_called p.call_id call in
    (if b then Some (asks.Cancel p.call_id) else None, refl, h ∙ no_cancel p.call_id b)
recalled bound run call p bodies.Orphaned ask h =
    let b = is_called p.call_id call in
    (if b then Some (asks.Orphan p.call_id) else None, refl, h ∙ no_orphan p.call_id b)

while_none : (past : List Pdu) (p : Pdu) (ask : Option Ask) → AsksAmong past [] p ask → (other : Option Ask) × Asks past p other × (ask ≡ unless_off other)
while_none past p ask a =
    let r = recalled (is_bound past) a.run (called past) p p.body a.alone a.asks in
    (r.0, record { run = a.run; joining = a.joining; asks = r.1 }, (a.among ∙ mapped_none a.alone) ∙ r.2)

-- the id of the one call that is unanswered, by its own test
same_id : (id : ℕ) → (id == id) ≡ true
same_id id = grind (arith, nat_tests)

calls_off_one : (o : OpenCall) (p : Pdu) (a : Ask) (alone ask : Option Ask) → barred (o ∷ []) a ≡ a → alone ≡ (if is_called p.call_id (named p.call_id (o ∷ [])) then Some a else None)
    → ask ≡ option_map (barred (o ∷ [])) alone → ask ≡ (if is_called p.call_id (Some o.caller.call_id) then Some a else None)
calls_off_one o p a alone ask free h k = by_test (o.caller.call_id == p.call_id) h
  where
    by_test : (b : Bool) → alone ≡ (if is_called p.call_id (if b || false then Some p.call_id else None) then Some a else None) → ask ≡ (if b then Some a else None)
    by_test true e =
        let found : alone ≡ Some a = rw (same_id p.call_id) at e in
        k ∙ (ap (λ (x : Option Ask). option_map (barred (o ∷ [])) x) found ∙ ap (λ (x : Ask). Some x) free)
    by_test false e = k ∙ ap (λ (x : Option Ask). option_map (barred (o ∷ [])) x) e

off_one : (bound : Bool) (run : Option Joined) (o : OpenCall) (p : Pdu) (body : Body) (alone ask : Option Ask) → is_calling_off body ≡ true → AsksWith bound run (named p.call_id (o ∷ [])) p body alone
    → ask ≡ option_map (barred (o ∷ [])) alone → AsksWith bound run (Some o.caller.call_id) p body ask
off_one bound run o p (bodies.Request r) alone ask off h k = absurd (cc off)
off_one bound run o p (bodies.Response r) alone ask off h k = absurd (cc off)
off_one bound run o p (bodies.Fault r) alone ask off h k = absurd (cc off)
off_one bound run o p (bodies.Bind r) alone ask off h k = absurd (cc off)
off_one bound run o p (bodies.BindAck r) alone ask off h k = absurd (cc off)
off_one bound run o p (bodies.BindNak r) alone ask off h k = absurd (cc off)
off_one bound run o p (bodies.Alter r) alone ask off h k = absurd (cc off)
off_one bound run o p (bodies.AlterResp r) alone ask off h k = absurd (cc off)
off_one bound run o p bodies.Shutdown alone ask off h k = absurd (cc off)
off_one bound run o p bodies.CoCancel alone ask off h k = calls_off_one o p (asks.Cancel p.call_id) alone ask refl h k
off_one bound run o p bodies.Orphaned alone ask off h k = calls_off_one o p (asks.Orphan p.call_id) alone ask refl h k

while_one : (past : List Pdu) (o : OpenCall) (p : Pdu) (ask : Option Ask) → called past ≡ Some o.caller.call_id → is_calling_off p.body ≡ true → AsksAmong past (o ∷ []) p ask → Asks past p ask
while_one past o p ask last off a = record {
  run = a.run;
  joining = a.joining;
  asks = subst (λ (x : Option ℕ). AsksWith (is_bound past) a.run x p p.body ask) (sym last) (off_one (is_bound past) a.run o p p.body a.alone ask off a.asks a.among);
}

pub while_alone : AsksWhileAlone
while_alone = record { none = while_none; one = while_one }

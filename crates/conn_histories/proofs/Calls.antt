-- A call is a whole run.
use Rattle.std.proofs.Common.{◌≡◌, ℕ, ◌⊎◌, inl, inr, Bool, true, false, ◌||◌, ◌&&◌, eqb, List, [], ◌∷◌, ◌++◌, reverse, Option, Some, None, Ok, refl, sym, ap, subst, ◌∙◌, append_assoc}
use Rattle.std.specs.Prelude.{◌↔◌, if◌then◌else◌}
use Rattle.std.specs.List.{list_any, AllByRecursion}
use Rattle.pdu_codec.specs.declared.pdu.Pdu.{Pdu}
use Rattle.pdu_codec.specs.declared.pdu.Body.{Body}
use Rattle.pdu_codec.specs.declared.pdu.Body.TheVariants as bodies
use Rattle.pdu_codec.specs.declared.pdu.RequestBody.{RequestBody}
use Rattle.pdu_codec.specs.declared.pdu.BindBody.{BindBody}
use Rattle.pdu_codec.specs.declared.pdu.AlterBody.{AlterBody}
use Rattle.pdu_stream.specs.declared.joined.Joined.{Joined}
use Rattle.pdu_stream.specs.Fragments.{Fragment, is_last, joined_of, with_fragment, IsTaken, AddsFragment}
use Rattle.pdu_stream.specs.Runs.{fragment_with, fragment_of, fragments, is_co_cancel, is_orphaned, cancels, orphans, IsLater, joined_with, IsJoining, IsAlone, EndsOpen}
use Rattle.pdu_stream.proofs.OpenRuns.{fragments_more, any_more}
use Rattle.pdu_stream.proofs.RunLaws.{runs_join, whole_taken}
use Rattle.conn_asks.specs.declared.events.Caller.{Caller}
use Rattle.conn_asks.specs.declared.events.Ask.{Ask}
use Rattle.conn_asks.specs.declared.events.Ask.TheVariants as asks
use Rattle.conn_asks.specs.declared.events.ConnFault.TheVariants as conn
use Rattle.conn_asks.specs.Asks.{is_bound, request_fragment, called, caller, of_bind, of_alter, is_called, OfRequest, AsksWith, Asks}
use Rattle.conn_histories.specs.WholeRuns.{EndsWhole, EndsRun}

-- ---- what isn't a call

abbrev call_of : Joined → Option Ask
call_of j = Some (asks.Call j)

if_no_call : (t : Bool) (j : Joined) (a b : Option Ask) → (call_of j ≡ a → ⊥) → (call_of j ≡ b → ⊥) → call_of j ≡ (if t then a else b) → ⊥
if_no_call true j a b x y h = x h
if_no_call false j a b x y h = y h

abbrev some_ask : Ask → Option Ask
some_ask a = Some a

if_some : (t : Bool) (a b : Ask) → some_ask (if t then a else b) ≡ (if t then some_ask a else some_ask b)
if_some true a b = refl
if_some false a b = refl

no_bind : (bound : Bool) (c : Caller) (flags : ℕ) (b : BindBody) (j : Joined) → call_of j ≡ Some (of_bind bound c flags b) → ⊥
no_bind true c flags b j h = absurd (cc (h))
no_bind false c flags b j h =
    if_no_call _ j (Some (asks.Broken c (conn.Nak 0))) (Some (asks.Bind c flags b)) (λ e. absurd (cc (e))) (λ e. absurd (cc (e))) (h ∙ if_some _ (asks.Broken c (conn.Nak 0)) (asks.Bind c flags b))

no_alter : (bound : Bool) (c : Caller) (b : AlterBody) (j : Joined) → call_of j ≡ Some (of_alter bound c b) → ⊥
no_alter true c b j h = absurd (cc (h))
no_alter false c b j h = absurd (cc (h))

pub record Called (bound : Bool) (run : Option Joined) (p : Pdu) (body : Body) (j : Joined) : Type 0 where
  pub part : RequestBody
  pub is : body ≡ bodies.Request part
  pub bound_is : bound ≡ true
  pub taken : IsTaken run (request_fragment p part)
  pub last : is_last (request_fragment p part) ≡ true
  pub joins : j ≡ with_fragment run (request_fragment p part)

of_request : (bound : Bool) (run : Option Joined) (p : Pdu) (r : RequestBody) (j : Joined) → OfRequest bound run (request_fragment p r) (Some (asks.Call j)) → Called bound run p (bodies.Request r) j
of_request true run p r j h = record { part = r; is = refl; bound_is = refl; taken = h.0; last = h.1; joins = h.2 }
of_request false run p r j h = absurd (cc (h))

pub called_by : (bound : Bool) (run : Option Joined) (call : Option ℕ) (p : Pdu) (body : Body) (j : Joined) → AsksWith bound run call p body (Some (asks.Call j)) → Called bound run p body j
called_by bound run call p (bodies.Request r) j h = of_request bound run p r j h
called_by bound run call p (bodies.Bind b) j h = absurd (no_bind bound (caller p 0) p.flags b j h)
called_by bound run call p (bodies.Alter b) j h = absurd (no_alter bound (caller p 0) b j h)
called_by bound run call p bodies.CoCancel j h =
    absurd (if_no_call (is_called p.call_id call) j (Some (asks.Cancel p.call_id)) None (λ e. absurd (cc (e))) (λ e. absurd (cc (e))) h)
called_by bound run call p bodies.Orphaned j h =
    absurd (if_no_call (is_called p.call_id call) j (Some (asks.Orphan p.call_id)) None (λ e. absurd (cc (e))) (λ e. absurd (cc (e))) h)
called_by bound run call p (bodies.Response r) j h = absurd (cc (h))
called_by bound run call p (bodies.Fault r) j h = absurd (cc (h))
called_by bound run call p (bodies.BindAck r) j h = absurd (cc (h))
called_by bound run call p (bodies.BindNak r) j h = absurd (cc (h))
called_by bound run call p (bodies.AlterResp r) j h = absurd (cc (h))
called_by bound run call p bodies.Shutdown j h = absurd (cc (h))

-- ---- a call is a whole run

call_whole : (past : List Pdu) (p : Pdu) (j : Joined) → Asks past p (Some (asks.Call j)) → (is_bound past ≡ true) × EndsWhole past p j
call_whole past p j a =
    let c = called_by (is_bound past) a.run (called past) p p.body j a.asks in
    let adds : AddsFragment (Ok a.run) (request_fragment p c.part) (Ok (Some j)) (Ok None) = (c.taken, c.last, c.joins, refl) in
    (c.bound_is, (request_fragment p c.part, ap (fragment_with p) c.is, runs_join (reverse past) a.run None (request_fragment p c.part) j a.joining adds))

-- a PDU with a fragment is a request
record Request (p : Pdu) (body : Body) (f : Fragment) : Type 0 where
  part : RequestBody
  is : body ≡ bodies.Request part
  f_is : f ≡ request_fragment p part

one_fragment : (a b : Fragment) → a ∷ [] ≡ b ∷ [] → b ≡ a
one_fragment a b e = cc

request : (p : Pdu) (body : Body) (f : Fragment) → fragment_with p body ≡ f ∷ [] → Request p body f
request p (bodies.Request r) f e = record { part = r; is = refl; f_is = one_fragment (request_fragment p r) f e }
request p (bodies.Response r) f e = absurd (cc (e))
request p (bodies.Fault r) f e = absurd (cc (e))
request p (bodies.Bind r) f e = absurd (cc (e))
request p (bodies.BindAck r) f e = absurd (cc (e))
request p (bodies.BindNak r) f e = absurd (cc (e))
request p (bodies.Alter r) f e = absurd (cc (e))
request p (bodies.AlterResp r) f e = absurd (cc (e))
request p bodies.Shutdown f e = absurd (cc (e))
request p bodies.CoCancel f e = absurd (cc (e))
request p bodies.Orphaned f e = absurd (cc (e))

joining_of : (pdus : List Pdu) (f : Fragment) (j : Joined) → IsAlone pdus f j ⊎ EndsOpen pdus f j → (run : Option Joined) × IsJoining pdus run
joining_of pdus f j (inl alone) = (None, alone.0)
joining_of pdus f j (inr ends) = (Some (joined_with ends.0 ends.1), (ends.0, ends.1, ends.2, refl))

whole_asked : (past : List Pdu) (p : Pdu) (j : Joined) → (is_bound past ≡ true) × EndsWhole past p j → Asks past p (Some (asks.Call j))
whole_asked past p j (bound, (f, is, w)) =
    let run = joining_of (reverse past) f j w.joins in
    let adds = whole_taken (reverse past) run.0 f j run.1 w in
    let r = request p p.body f is in
    let same : f ≡ request_fragment p r.part = r.f_is in
    let asked : OfRequest true run.0 f (Some (asks.Call j)) = (adds.0, adds.1, adds.2) in
    let here : AsksWith true run.0 (called past) p (bodies.Request r.part) (Some (asks.Call j)) =
    subst (λ (g : Fragment). OfRequest true run.0 g (Some (asks.Call j))) same asked in
    let there : AsksWith true run.0 (called past) p p.body (Some (asks.Call j)) =
    subst (λ (b : Body). AsksWith true run.0 (called past) p b (Some (asks.Call j))) (sym r.is) here in
    record {
      run = run.0;
      joining = run.1;
      asks = subst (λ (b : Bool). AsksWith b run.0 (called past) p p.body (Some (asks.Call j))) (sym bound) there;
    }

pub calls_are_whole_runs : (past : List Pdu) (p : Pdu) (j : Joined) → Asks past p (Some (asks.Call j)) ↔ (is_bound past ≡ true) × EndsWhole past p j
calls_are_whole_runs past p j = (call_whole past p j, whole_asked past p j)

-- ---- a whole run in its parts

all_append : (P : Fragment → Type 0) (xs ys : List Fragment) → AllByRecursion P xs → AllByRecursion P ys → AllByRecursion P (xs ++ ys)
all_append P [] ys h k = k
all_append P (x ∷ xs) ys h k = (h.0, all_append P xs ys h.1 k)

or_false : (b : Bool) → (b || false) ≡ b
or_false true = refl
or_false false = refl

-- a request is no co_cancel and no orphaned
unmarked : (p : Pdu) (r : RequestBody) (id : ℕ) → p.body ≡ bodies.Request r → cancels id p ≡ false
unmarked p r id e = ap (λ (b : Body). is_co_cancel b && eqb id p.call_id) e

wanted : (p : Pdu) (r : RequestBody) (id : ℕ) → p.body ≡ bodies.Request r → orphans id p ≡ false
wanted p r id e = ap (λ (b : Body). is_orphaned b && eqb id p.call_id) e

any_same : (f : Pdu → Bool) (behind : List Pdu) (p : Pdu) → f p ≡ false → list_any f (behind ++ p ∷ []) ≡ list_any f behind
any_same f behind p e = any_more f behind p ∙ ap (λ (b : Bool). list_any f behind || (b || false)) e ∙ or_false (list_any f behind)

alone_run : (pdus : List Pdu) (p : Pdu) (f : Fragment) (j : Joined) → fragment_of p ≡ f ∷ [] → is_last f ≡ true → IsAlone pdus f j → EndsRun (pdus ++ p ∷ []) j
alone_run pdus p f j is last alone = record {
  before = pdus;
  opener = p;
  behind = [];
  whole = refl;
  first = f;
  opens = is;
  begins = alone.1;
  later = tt;
  inner = [];
  last = f;
  parts = refl;
  unended = refl;
  ends = last;
  wanted = refl;
  joins = alone.2;
}

open_run : (pdus : List Pdu) (p : Pdu) (f : Fragment) (j : Joined) (r : RequestBody) → p.body ≡ bodies.Request r → fragment_of p ≡ f ∷ [] → is_last f ≡ true → EndsOpen pdus f j → EndsRun (pdus ++ p ∷ []) j
open_run pdus p f j r body is last k =
    let first = k.0 in
    let behind = k.1 in
    let o = k.2 in
    let more : fragments (behind ++ p ∷ []) ≡ fragments behind ++ f ∷ [] = fragments_more behind p ∙ ap (λ (x : List Fragment). fragments behind ++ x) is in
    let marks : list_any (cancels first.call_id) (behind ++ p ∷ []) ≡ list_any (cancels first.call_id) behind =
    any_same (cancels first.call_id) behind p (unmarked p r first.call_id body) in
    record {
      before = o.before;
      opener = o.opener;
      behind = behind ++ p ∷ [];
      whole = ap (λ (x : List Pdu). x ++ p ∷ []) o.whole ∙ append_assoc o.before (o.opener ∷ behind) (p ∷ []);
      first = first;
      opens = o.opens;
      begins = o.begins;
      later = subst (AllByRecursion (IsLater first)) (sym more) (all_append (IsLater first) (fragments behind) (f ∷ []) o.later (k.3, tt));
      inner = first ∷ fragments behind;
      last = f;
      parts = ap (λ (x : List Fragment). first ∷ x) more;
      unended = o.unended;
      ends = last;
      wanted = any_same (orphans first.call_id) behind p (wanted p r first.call_id body) ∙ o.wanted;
      joins = k.4 ∙ (λ i. joined_of first (sym more i) (sym marks i));
    }

run_by : (pdus : List Pdu) (p : Pdu) (f : Fragment) (j : Joined) (r : RequestBody) → p.body ≡ bodies.Request r → fragment_of p ≡ f ∷ [] → is_last f ≡ true
    → IsAlone pdus f j ⊎ EndsOpen pdus f j → EndsRun (pdus ++ p ∷ []) j
run_by pdus p f j r body is last (inl alone) = alone_run pdus p f j is last alone
run_by pdus p f j r body is last (inr ends) = open_run pdus p f j r body is last ends

pub whole_runs_are_runs : (past : List Pdu) (p : Pdu) (j : Joined) → EndsWhole past p j → EndsRun (reverse past ++ p ∷ []) j
whole_runs_are_runs past p j (f, is, w) =
    let r = request p p.body f is in
    run_by (reverse past) p f j r.part r.is is w.last w.joins

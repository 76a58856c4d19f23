-- What a connection waits for, event by event, and that it is bound once.
use Rattle.std.specs.Prelude.{nat_lt, ⊤}
use Rattle.std.proofs.Common.{◌≡◌, ℕ, Bool, true, false, ◌||◌, if◌then◌else◌, Option, Some, None, Ok, List, [], ◌∷◌, refl, sym, ap, subst, ◌∙◌, inl, inr}
use Rattle.rpc_base.specs.declared.identifiers.SyntaxId.{SyntaxId}
use Rattle.handle_model.specs.declared.entry.Said.{Said}
use Rattle.pdu_codec.specs.Constants.{least_fragment}
use Rattle.pdu_codec.specs.declared.pdu.Pdu.{Pdu}
use Rattle.pdu_codec.specs.declared.pdu.Body.{Body}
use Rattle.pdu_codec.specs.declared.pdu.Body.TheVariants as bodies
use Rattle.pdu_codec.specs.declared.pdu.BindBody.{BindBody}
use Rattle.pdu_codec.specs.declared.pdu.BindAckBody.{BindAckBody}
use Rattle.pdu_stream.specs.declared.joined.Joined.{Joined}
use Rattle.presentation.specs.declared.verdict.Accepted.{Accepted}
use Rattle.presentation.specs.Offers.{interface_of}
use Rattle.conn_asks.specs.declared.events.Caller.{Caller}
use Rattle.conn_asks.specs.declared.events.Agreement.{Agreement}
use Rattle.conn_asks.specs.declared.events.ConnFault.TheVariants.{Nak}
use Rattle.conn_asks.specs.declared.events.Ask.{Ask}
use Rattle.conn_asks.specs.declared.events.Ask.TheVariants as asks
use Rattle.conn_asks.specs.declared.events.Act.{Act}
use Rattle.conn_asks.specs.declared.events.Act.TheVariants as acts
use Rattle.conn_asks.specs.declared.events.Waits.{Waits}
use Rattle.conn_asks.specs.declared.events.Waits.TheVariants.{Nothing, Group, Call, Over, Failed}
use Rattle.conn_asks.specs.Asks.{is_bind, is_bound, is_called, called, caller, of_bind, AsksWith, Asks}
use Rattle.conn_asks.specs.States.{ConnState, accepted, caller_of, IsGrouping, ActsOnCall, DoesWith, IsIdle, Skips, SkipsAll, Acts, Goes, BoundAt, RefusedAt, RepliedAt}
use Rattle.conn_histories.specs.Histories.{Decision, Event, Happens, AnswersDecision}
use Rattle.conn_histories.specs.Histories.Event.{Came, Paused, Did, Decided}
use Rattle.conn_histories.specs.Histories.Decision.{ToGroup, RefuseGroup, Reply}
use Rattle.conn_histories.proofs.Decided.{skips_keep, no_take}

-- ---- a group, or nothing more, is waited for

group_skips : (m n : ConnState) (ps : List Pdu) (c : Caller) (ack : BindAckBody) → m.waits ≡ Group c ack → SkipsAll m ps n → n ≡ m
group_skips m n [] c ack w s = s
group_skips m n (p ∷ ps) c ack w s = absurd (no_take m s.0 p c ack w s.1.takes)

group_acts : (m n : ConnState) (act : Act) (c : Caller) (ack : BindAckBody) → m.waits ≡ Group c ack → Acts m act n → ⊥
group_acts m n act c ack w (inl a) = no_take m n a.0 c ack w a.1.takes
group_acts m n act c ack w (inr s) = let wrong : Nothing ≡ Group c ack = sym s.1.free ∙ w in absurd cc

grouped_at : (w : Waits) → IsGrouping w → (c : Caller) × (ack : BindAckBody) × (w ≡ Group c ack)
grouped_at Nothing g = absurd g
grouped_at (Group c ack) g = (c, ack, refl)
grouped_at (Call c maybe) g = absurd g
grouped_at Over g = absurd g
grouped_at Failed g = absurd g

pub grouping_still : (m n : ConnState) (act : Act) → IsGrouping m.waits → Goes m (Ok (Some act)) n → ⊥
grouping_still m n act w g =
    let at = grouped_at m.waits w in
    group_acts g.1 n act at.0 at.1 ((skips_keep m g.0 g.1 g.2).0 ∙ at.2) g.3

pub paused_waits : (m n : ConnState) → Goes m (Ok None) n → n.waits ≡ m.waits
paused_waits m n g = (skips_keep m g.0 n g.1).0

-- ---- a call is waited for

call_same : (j j' : Joined) (k k' : ℕ) → acts.Call j k ≡ acts.Call j' k' → j ≡ j'
call_same j j' k k' e = cc

asked_call : (number : Option ℕ) (j j' : Joined) (k : ℕ) (w : Waits) → ActsOnCall number j' (acts.Call j k) w → w ≡ Call (caller_of j) j.maybe
asked_call (Some n) j j' k w h = h.1 ∙ ap (λ (x : Joined). Call (caller_of x) x.maybe) (sym (call_same j j' k n h.0))
asked_call None j j' k w h = let wrong = h.0 in absurd cc

does_call : (ids : List SyntaxId) (a : List Accepted) (agreement : Agreement) (old : Waits) (ask : Ask) (j : Joined) (k : ℕ) (w : Waits) → DoesWith ids a agreement old ask (acts.Call j k) w → w ≡ Call (caller_of j) j.maybe
does_call ids a agreement old (asks.Bind c flags b) j k w h = let wrong = h.0 in absurd cc
does_call ids a agreement old (asks.Alter c b) j k w h = let wrong = h.0 in absurd cc
does_call ids a agreement old (asks.Call j') j k w h = asked_call (interface_of a j'.context) j j' k w h
does_call ids a agreement old (asks.Cancel id) j k w h = let wrong = h.1 in absurd cc
does_call ids a agreement old (asks.Orphan id) j k w h = let wrong = h.1 in absurd cc
does_call ids a agreement old (asks.Broken c f) j k w h = let wrong = h.0 in absurd cc

acts_call : (m n : ConnState) (j : Joined) (k : ℕ) → Acts m (acts.Call j k) n → n.waits ≡ Call (caller_of j) j.maybe
acts_call m n j k (inl a) = does_call m.ids (accepted m) m.agreement m.waits a.1.ask j k n.waits a.1.does
acts_call m n j k (inr s) = let wrong = s.1.act_is in absurd cc

pub calls_wait : (m n : ConnState) (j : Joined) (k : ℕ) → Goes m (Ok (Some (acts.Call j k))) n → n.waits ≡ Call (caller_of j) j.maybe
calls_wait m n j k g = acts_call g.1 n j k g.3

-- ---- a bind comes once

or_true : (b : Bool) → (b || true) ≡ true
or_true true = refl
or_true false = refl

bound_more : (m n : ConnState) (p : Pdu) → n.past ≡ p ∷ m.past → is_bound m.past ≡ true → is_bound n.past ≡ true
bound_more m n p e h = ap is_bound e ∙ more (is_bind p.body) (is_bound m.past) h
  where
    more : (a b : Bool) → b ≡ true → (a || b) ≡ true
    more a b t = rw t (or_true a)

skips_bound : (m n : ConnState) (ps : List Pdu) → SkipsAll m ps n → is_bound m.past ≡ true → is_bound n.past ≡ true
skips_bound m n [] s h = ap (λ (x : ConnState). is_bound x.past) s ∙ h
skips_bound m n (p ∷ ps) s h = skips_bound s.0 n ps s.2 (bound_more m s.0 p s.1.takes.past h)

acts_bound : (m n : ConnState) (act : Act) → Acts m act n → is_bound m.past ≡ true → is_bound n.past ≡ true
acts_bound m n act (inl a) h = bound_more m n a.0 a.1.takes.past h
acts_bound m n act (inr s) h = ap (λ (x : ConnState). is_bound x.past) s.1.after ∙ h

goes_bound : (m n : ConnState) (o : Option Act) → Goes m (Ok o) n → is_bound m.past ≡ true → is_bound n.past ≡ true
goes_bound m n None g h = skips_bound m n g.0 g.1 h
goes_bound m n (Some act) g h = acts_bound g.1 n act g.3 (skips_bound m g.1 g.0 g.2 h)

bound_at : (w : Waits) (m n : ConnState) (group : ℕ) (octets : List ℕ) → BoundAt w m group octets n → n.past ≡ m.past
bound_at Nothing m n group octets a = absurd a
bound_at (Group c ack) m n group octets a = ap (λ (x : ConnState). x.past) a.1
bound_at (Call c maybe) m n group octets a = absurd a
bound_at Over m n group octets a = absurd a
bound_at Failed m n group octets a = absurd a

refused_at : (w : Waits) (m n : ConnState) (reason : ℕ) (octets : List ℕ) → RefusedAt w m reason octets n → n.past ≡ m.past
refused_at Nothing m n reason octets a = absurd a
refused_at (Group c ack) m n reason octets a = ap (λ (x : ConnState). x.past) a.1
refused_at (Call c maybe) m n reason octets a = absurd a
refused_at Over m n reason octets a = absurd a
refused_at Failed m n reason octets a = absurd a

replied_at : (w : Waits) (m n : ConnState) (said : Option Said) (executed : Bool) (octets : List ℕ) → RepliedAt w m said executed octets n → n.past ≡ m.past
replied_at Nothing m n said executed octets a = absurd a
replied_at (Group c ack) m n said executed octets a = absurd a
replied_at (Call c maybe) m n said executed octets a = ap (λ (x : ConnState). x.past) a.1
replied_at Over m n said executed octets a = absurd a
replied_at Failed m n said executed octets a = absurd a

answers_past : (m n : ConnState) (decision : Decision) (octets : List ℕ) → AnswersDecision m decision octets n → n.past ≡ m.past
answers_past m n (ToGroup group) octets a = bound_at m.waits m n group octets a
answers_past m n (RefuseGroup reason) octets a = refused_at m.waits m n reason octets a
answers_past m n (Reply said executed) octets a = replied_at m.waits m n said executed octets a

pub bound_stays : (m n : ConnState) (event : Event) → Happens m event n → is_bound m.past ≡ true → is_bound n.past ≡ true
bound_stays m n (Came octets) s h = ap (λ (x : ConnState). is_bound x.past) s ∙ h
bound_stays m n Paused s h = goes_bound m n None s h
bound_stays m n (Did act) s h = goes_bound m n (Some act) s h
bound_stays m n (Decided decision octets) s h = ap is_bound (answers_past m n decision octets s) ∙ h

-- what asks a bind is one, and none came before
abbrev some_ask : Ask → Option Ask
some_ask a = Some a

of_bound : (bound : Bool) (c d : Caller) (flags flags' : ℕ) (a b : BindBody) → some_ask (asks.Bind d flags' b) ≡ some_ask (of_bind bound c flags a) → bound ≡ false
of_bound true c d flags flags' a b h = absurd (cc (h))
of_bound false c d flags flags' a b h = refl

bind_first : (bound : Bool) (run : Option Joined) (call : Option ℕ) (p : Pdu) (body : Body) (d : Caller) (flags : ℕ) (b : BindBody) → AsksWith bound run call p body (Some (asks.Bind d flags b)) → (bound ≡ false) × (is_bind body ≡ true)
bind_first bound run call p (bodies.Bind a) d flags b h = (of_bound bound (caller p 0) d p.flags flags a b h, refl)
bind_first true run call p (bodies.Alter a) d flags b h = absurd (cc (h))
bind_first false run call p (bodies.Alter a) d flags b h = absurd (cc (h))
bind_first true run call p (bodies.Request r) d flags b h = absurd h
bind_first false run call p (bodies.Request r) d flags b h = absurd (cc (h))
bind_first bound run call p bodies.CoCancel d flags b h = off (is_called p.call_id call) h
  where
    off : (t : Bool) → some_ask (asks.Bind d flags b) ≡ (if t then Some (asks.Cancel p.call_id) else None) → (bound ≡ false) × (is_bind bodies.CoCancel ≡ true)
    off true h = absurd (cc (h))
    off false h = absurd (cc (h))
bind_first bound run call p bodies.Orphaned d flags b h = off (is_called p.call_id call) h
  where
    off : (t : Bool) → some_ask (asks.Bind d flags b) ≡ (if t then Some (asks.Orphan p.call_id) else None) → (bound ≡ false) × (is_bind bodies.Orphaned ≡ true)
    off true h = absurd (cc (h))
    off false h = absurd (cc (h))
bind_first bound run call p (bodies.Response r) d flags b h = absurd (cc (h))
bind_first bound run call p (bodies.Fault r) d flags b h = absurd (cc (h))
bind_first bound run call p (bodies.BindAck r) d flags b h = absurd (cc (h))
bind_first bound run call p (bodies.BindNak r) d flags b h = absurd (cc (h))
bind_first bound run call p (bodies.AlterResp r) d flags b h = absurd (cc (h))
bind_first bound run call p bodies.Shutdown d flags b h = absurd (cc (h))

does_group : (ids : List SyntaxId) (a : List Accepted) (agreement : Agreement) (old : Waits) (ask : Ask) (id : ℕ) (w : Waits) → DoesWith ids a agreement old ask (acts.Group id) w
    → (c : Caller) × (flags : ℕ) × (b : BindBody) × (ask ≡ asks.Bind c flags b)
does_group ids a agreement old (asks.Bind c flags b) id w h = (c, flags, b, refl)
does_group ids a agreement old (asks.Alter c b) id w h = let wrong = h.0 in absurd cc
does_group ids a agreement old (asks.Call j) id w h = absurd (not_call (interface_of a j.context) h)
  where
    not_call : (number : Option ℕ) → ActsOnCall number j (acts.Group id) w → ⊥
    not_call (Some n) h = let wrong = h.0 in absurd cc
    not_call None h = let wrong = h.0 in absurd cc
does_group ids a agreement old (asks.Cancel id') id w h = let wrong = h.1 in absurd cc
does_group ids a agreement old (asks.Orphan id') id w h = let wrong = h.1 in absurd cc
does_group ids a agreement old (asks.Broken c f) id w h = let wrong = h.0 in absurd cc

-- no bind came before, and one has come now
acts_group : (m n : ConnState) (id : ℕ) → Acts m (acts.Group id) n → (is_bound m.past ≡ false) × (is_bound n.past ≡ true)
acts_group m n id (inl a) =
    let at = does_group m.ids (accepted m) m.agreement m.waits a.1.ask id n.waits a.1.does in
    let asks' = a.1.asks in
    let first = bind_first (is_bound m.past) asks'.run (called m.past) a.0 a.0.body at.0 at.1 at.2 (subst (λ (x : Ask). AsksWith (is_bound m.past) asks'.run (called m.past) a.0 a.0.body (Some x)) at.3 asks'.asks) in
    (first.0, ap is_bound a.1.takes.past ∙ front (is_bind a.0.body) first.1)
  where
    front : (b : Bool) → b ≡ true → (b || is_bound m.past) ≡ true
    front b h = rw h refl
acts_group m n id (inr s) = let wrong = s.1.act_is in absurd cc

true_false : (b : Bool) → b ≡ true → b ≡ false → ⊥
true_false b h i = absurd (cc (h, i))

pub bind_once : (m n : ConnState) (id : ℕ) → is_bound m.past ≡ true → Goes m (Ok (Some (acts.Group id))) n → ⊥
bind_once m n id h g = true_false (is_bound g.1.past) (skips_bound m g.1 g.0 g.2 h) (acts_group g.1 n id g.3).0

pub bind_binds : (m n : ConnState) (id : ℕ) → Goes m (Ok (Some (acts.Group id))) n → is_bound n.past ≡ true
bind_binds m n id g = (acts_group g.1 n id g.3).1

-- ---- the server's word

answered_bound : (w : Waits) (m n : ConnState) (group : ℕ) (octets : List ℕ) → BoundAt w m group octets n → n.waits ≡ Nothing
answered_bound Nothing m n group octets a = absurd a
answered_bound (Group c ack) m n group octets a = ap (λ (x : ConnState). x.waits) a.1
answered_bound (Call c maybe) m n group octets a = absurd a
answered_bound Over m n group octets a = absurd a
answered_bound Failed m n group octets a = absurd a

answered_refused : (w : Waits) (m n : ConnState) (reason : ℕ) (octets : List ℕ) → RefusedAt w m reason octets n → n.waits ≡ Over
answered_refused Nothing m n reason octets a = absurd a
answered_refused (Group c ack) m n reason octets a = ap (λ (x : ConnState). x.waits) a.1
answered_refused (Call c maybe) m n reason octets a = absurd a
answered_refused Over m n reason octets a = absurd a
answered_refused Failed m n reason octets a = absurd a

answered_reply : (w : Waits) (m n : ConnState) (said : Option Said) (executed : Bool) (octets : List ℕ) → RepliedAt w m said executed octets n → n.waits ≡ Nothing
answered_reply Nothing m n said executed octets a = absurd a
answered_reply (Group c ack) m n said executed octets a = absurd a
answered_reply (Call c maybe) m n said executed octets a = ap (λ (x : ConnState). x.waits) a.1
answered_reply Over m n said executed octets a = absurd a
answered_reply Failed m n said executed octets a = absurd a

pub bound_waits : (m n : ConnState) (group : ℕ) (octets : List ℕ) → AnswersDecision m (ToGroup group) octets n → n.waits ≡ Nothing
bound_waits m n group octets a = answered_bound m.waits m n group octets a

pub refused_waits : (m n : ConnState) (reason : ℕ) (octets : List ℕ) → AnswersDecision m (RefuseGroup reason) octets n → n.waits ≡ Over
refused_waits m n reason octets a = answered_refused m.waits m n reason octets a

pub reply_waits : (m n : ConnState) (said : Option Said) (executed : Bool) (octets : List ℕ) → AnswersDecision m (Reply said executed) octets n → n.waits ≡ Nothing
reply_waits m n said executed octets a = answered_reply m.waits m n said executed octets a

-- ---- before a bind

-- neither an alter_context nor a call
abbrev Early : Ask → Type 0
Early (asks.Alter c b) = ⊥
Early (asks.Call j) = ⊥
Early _ = ⊤

early_bind : (low : Bool) (c : Caller) (flags : ℕ) (b : BindBody) → Early (if low then asks.Broken c (Nak 0) else asks.Bind c flags b)
early_bind true c flags b = tt
early_bind false c flags b = tt

early_some : (a b : Ask) → some_ask a ≡ some_ask b → Early b → Early a
early_some a b h e = let same : a ≡ b = cc in subst Early (sym same) e

early_off : (t : Bool) (a b : Ask) → Early b → some_ask a ≡ (if t then Some b else None) → Early a
early_off true a b e h = early_some a b h e
early_off false a b e h = absurd cc

early_ask : (run : Option Joined) (call : Option ℕ) (p : Pdu) (body : Body) (ask : Ask) → AsksWith false run call p body (Some ask) → Early ask
early_ask run call p (bodies.Bind b) ask h = early_some ask (of_bind false (caller p 0) p.flags b) h (early_bind (nat_lt b.max_recv least_fragment) (caller p 0) p.flags b)
early_ask run call p (bodies.Alter b) ask h = early_some ask _ h tt
early_ask run call p (bodies.Request r) ask h = early_some ask _ h tt
early_ask run call p bodies.CoCancel ask h = early_off (is_called p.call_id call) ask (asks.Cancel p.call_id) tt h
early_ask run call p bodies.Orphaned ask h = early_off (is_called p.call_id call) ask (asks.Orphan p.call_id) tt h
early_ask run call p (bodies.Response r) ask h = early_some ask _ h tt
early_ask run call p (bodies.Fault r) ask h = early_some ask _ h tt
early_ask run call p (bodies.BindAck r) ask h = early_some ask _ h tt
early_ask run call p (bodies.BindNak r) ask h = early_some ask _ h tt
early_ask run call p (bodies.AlterResp r) ask h = early_some ask _ h tt
early_ask run call p bodies.Shutdown ask h = early_some ask _ h tt

-- a bind asks for a group, or the connection is closed
abbrev pub IsEarlyAct : Act → Type 0
IsEarlyAct (acts.Group id) = ⊤
IsEarlyAct (acts.Close octets why) = ⊤
IsEarlyAct _ = ⊥

early_does : (ids : List SyntaxId) (a : List Accepted) (agreement : Agreement) (old : Waits) (ask : Ask) (act : Act) (w : Waits) → old ≡ Nothing → Early ask → DoesWith ids a agreement old ask act w → IsEarlyAct act
early_does ids a agreement old (asks.Bind c flags b) act w free e h = subst IsEarlyAct (sym h.0) tt
early_does ids a agreement old (asks.Alter c b) act w free e h = absurd e
early_does ids a agreement old (asks.Call j) act w free e h = absurd e
early_does ids a agreement old (asks.Cancel id) act w free e h = let calling = h.0.2 in absurd (cc (free, calling))
early_does ids a agreement old (asks.Orphan id) act w free e h = let calling = h.0.2 in absurd (cc (free, calling))
early_does ids a agreement old (asks.Broken c f) act w free e h = subst IsEarlyAct (sym h.0) tt

early_asks : (m : ConnState) (p : Pdu) (ask : Ask) → is_bound m.past ≡ false → Asks m.past p (Some ask) → Early ask
early_asks m p ask unbound a = early_ask a.run (called m.past) p p.body ask (subst (λ (x : Bool). AsksWith x a.run (called m.past) p p.body (Some ask)) unbound a.asks)

early_acts : (m n : ConnState) (act : Act) → m.waits ≡ Nothing → is_bound m.past ≡ false → Acts m act n → IsEarlyAct act
early_acts m n act free unbound (inl a) = early_does m.ids (accepted m) m.agreement m.waits a.1.ask act n.waits free (early_asks m a.0 a.1.ask unbound a.1.asks) a.1.does
early_acts m n act free unbound (inr s) = subst IsEarlyAct (sym s.1.act_is) tt

-- a PDU at which nothing is done is no bind
idle_bind : (low : Bool) (c : Caller) (flags : ℕ) (b : BindBody) → IsIdle Nothing (Some (if low then asks.Broken c (Nak 0) else asks.Bind c flags b)) → ⊥
idle_bind true c flags b h = h
idle_bind false c flags b h = h

idle_none : (run : Option Joined) (call : Option ℕ) (p : Pdu) (body : Body) (ask : Option Ask) → AsksWith false run call p body ask → IsIdle Nothing ask → is_bind body ≡ false
idle_none run call p (bodies.Bind b) ask h idle = absurd (idle_bind (nat_lt b.max_recv least_fragment) (caller p 0) p.flags b (subst (IsIdle Nothing) h idle))
idle_none run call p (bodies.Alter b) ask h idle = refl
idle_none run call p (bodies.Request r) ask h idle = refl
idle_none run call p bodies.CoCancel ask h idle = refl
idle_none run call p bodies.Orphaned ask h idle = refl
idle_none run call p (bodies.Response r) ask h idle = refl
idle_none run call p (bodies.Fault r) ask h idle = refl
idle_none run call p (bodies.BindAck r) ask h idle = refl
idle_none run call p (bodies.BindNak r) ask h idle = refl
idle_none run call p (bodies.AlterResp r) ask h idle = refl
idle_none run call p bodies.Shutdown ask h idle = refl

skip_unbound : (m n : ConnState) (p : Pdu) → m.waits ≡ Nothing → is_bound m.past ≡ false → Skips m p n → is_bound n.past ≡ false
skip_unbound m n p free unbound s =
    let none = idle_none s.asks.run (called m.past) p p.body s.ask (subst (λ (x : Bool). AsksWith x s.asks.run (called m.past) p p.body s.ask) unbound s.asks.asks) (subst (λ (w : Waits). IsIdle w s.ask) free s.idle) in
    ap is_bound s.takes.past ∙ neither (is_bind p.body) (is_bound m.past) none unbound
  where
    neither : (a b : Bool) → a ≡ false → b ≡ false → (a || b) ≡ false
    neither a b h i = rw (h, i) refl

skips_unbound : (m n : ConnState) (ps : List Pdu) → m.waits ≡ Nothing → is_bound m.past ≡ false → SkipsAll m ps n → is_bound n.past ≡ false
skips_unbound m n [] free unbound s = ap (λ (x : ConnState). is_bound x.past) s ∙ unbound
skips_unbound m n (p ∷ ps) free unbound s = skips_unbound s.0 n ps (s.1.waits ∙ free) (skip_unbound m s.0 p free unbound s.1) s.2

pub paused_unbound : (m n : ConnState) → m.waits ≡ Nothing → is_bound m.past ≡ false → Goes m (Ok None) n → is_bound n.past ≡ false
paused_unbound m n free unbound g = skips_unbound m n g.0 free unbound g.1

pub early_act : (m n : ConnState) (act : Act) → m.waits ≡ Nothing → is_bound m.past ≡ false → Goes m (Ok (Some act)) n → IsEarlyAct act
early_act m n act free unbound g =
    early_acts g.1 n act ((skips_keep m g.0 g.1 g.2).0 ∙ free) (skips_unbound m g.1 g.0 free unbound g.2) g.3

-- What waits for the server's word is what the connection waits for.
use Rattle.std.proofs.Common.{◌≡◌, ℕ, inl, inr, Bool, true, false, ◌||◌, List, [], ◌∷◌, ◌++◌, Option, Some, None, refl, sym, ap, subst, ◌∙◌}
use Rattle.std.specs.Prelude.{is_some}
use Rattle.std.specs.List.{list_any}
use Rattle.rpc_base.specs.declared.identifiers.Status.{Status}
use Rattle.handle_model.specs.declared.entry.Entry.{Entry}
use Rattle.pdu_codec.specs.declared.pdu.BindAckBody.{BindAckBody}
use Rattle.pdu_stream.specs.declared.joined.Joined.{Joined}
use Rattle.presentation.specs.Offers.{interface_of}
use Rattle.ndr_table.specs.Tables.{TableForm}
use Rattle.conn_asks.specs.declared.events.Caller.{Caller}
use Rattle.conn_asks.specs.declared.events.Ask.{Ask}
use Rattle.conn_asks.specs.declared.events.Ask.TheVariants as asks
use Rattle.conn_asks.specs.declared.events.Act.{Act}
use Rattle.conn_asks.specs.declared.events.Waits.{Waits}
use Rattle.conn_asks.specs.declared.events.Waits.TheVariants.{Nothing, Group, Call, Over}
use Rattle.conn_asks.specs.States.{ConnState, accepted, ActsOnCall, DoesWith, MayCome, Acts, RepliedAt}
use Rattle.conn_histories.specs.Histories.{Decision, Event, Happens, AnswersDecision}
use Rattle.conn_histories.specs.Histories.Event.{Came, Paused, Did, Decided}
use Rattle.conn_histories.specs.Histories.Decision.{ToGroup, RefuseGroup, Reply}
use Rattle.conn_histories.specs.Events.{word_of, has_run}
use Rattle.handle_model.specs.declared.reply.Reply.{Reply as Replied}
use Rattle.handle_model.specs.declared.reply.Reply.TheVariants.{Never}
use Rattle.handle_model.specs.Replies.{replies}
use Rattle.world_laws.specs.Journals.{journal}
use Rattle.conn_histories.proofs.Passing.{IsOff, off_asked}
use Rattle.conn_histories.proofs.Walks.{over_takes}
use Rattle.conn_histories.proofs.Decided.{skips_keep, no_take, AnswersAt, at_waits}
use Rattle.world_laws.specs.Ends.{Waiting, ServerEnd}
use Rattle.world_laws.specs.Ends.{Waiting as waiting}
use Rattle.world_laws.specs.Serving.{Requests, ActMeans, Says, Decides, Means}
use Rattle.world_laws.proofs.Serving.{of_member}
use Rattle.world_moves.proofs.leads.Stages.{to_group}

pub data Linked (v : Waits) (w : Waiting) : Type 0 where
  free : v ≡ Nothing → w ≡ waiting.Nothing → Linked v w
  grouping : (c : Caller) (ack : BindAckBody) (asked : ℕ) → v ≡ Group c ack → w ≡ waiting.Bind asked → Linked v w
  refusing : (c : Caller) (maybe : Bool) (status : Status) → v ≡ Call c maybe → w ≡ waiting.Refused status → Linked v w
  calling : (c : Caller) (maybe : Bool) (k : ℕ) → v ≡ Call c maybe → w ≡ waiting.Call k → Linked v w
  over : v ≡ Over → w ≡ waiting.Nothing → Linked v w

relink : (v x : Waits) (w y : Waiting) → x ≡ v → y ≡ w → Linked v w → Linked x y
relink v x w y e f (free a b) = free (e ∙ a) (f ∙ b)
relink v x w y e f (grouping c ack asked a b) = grouping c ack asked (e ∙ a) (f ∙ b)
relink v x w y e f (refusing c maybe status a b) = refusing c maybe status (e ∙ a) (f ∙ b)
relink v x w y e f (calling c maybe k a b) = calling c maybe k (e ∙ a) (f ∙ b)
relink v x w y e f (over a b) = over (e ∙ a) (f ∙ b)

-- it joined where the server decided on a group, unless the connection is closed
abbrev pub HasJoined : Waits → List Event → Option ℕ → Type 0
HasJoined v events member = list_any to_group events ≡ true → (v ≡ Over → ⊥) → is_some member ≡ true

pub record Fit (t : ServerEnd) : Type 0 where
  pub linked : Linked t.state.waits t.waiting
  pub member : HasJoined t.state.waits t.events t.member

-- behind an event: what the connection waits for, what waits, and whether it joined
record Behind (s t : ServerEnd) (v n : Waits) (event : Event) : Type 0 where
  linked : Linked n t.waiting
  member : (n ≡ Over → ⊥) → (is_some s.member ≡ true → is_some t.member ≡ true) × (to_group event ≡ true → is_some t.member ≡ true)
  live : v ≡ Over → n ≡ Over

any_more : (events : List Event) (e : Event) → list_any to_group (events ++ e ∷ []) ≡ true → (to_group e ≡ false) → list_any to_group events ≡ true
any_more [] e h none = absurd (cc (by (to_group e) none h))
  where
    by : (b : Bool) → b ≡ false → (b || false) ≡ true → false ≡ true
    by true n h2 = absurd (cc (n))
    by false n h2 = h2
any_more (x ∷ events) e h none = by (to_group x) (λ k. any_more events e k none) h
  where
    by : (b : Bool) → (list_any to_group (events ++ e ∷ []) ≡ true → list_any to_group events ≡ true) → (b || list_any to_group (events ++ e ∷ [])) ≡ true → (b || list_any to_group events) ≡ true
    by true go h2 = refl
    by false go h2 = go h2

fit_behind : (s t : ServerEnd) (event : Event) (state : ConnState) → Behind s t s.state.waits state.waits event → Fit s → Fit (record t { events = s.events ++ event ∷ []; state = state })
fit_behind s t event state b f = record { linked = b.linked; member = λ any live. by (to_group event) refl any live }
  where
    by : (g : Bool) → to_group event ≡ g → list_any to_group (s.events ++ event ∷ []) ≡ true → (state.waits ≡ Over → ⊥) → is_some t.member ≡ true
    by true e any live = (b.member live).1 e
    by false e any live = (b.member live).0 (f.member (any_more s.events event any e) (λ o. live (b.live o)))

-- the same is waited for
still : (s t : ServerEnd) (n : Waits) (event : Event) → n ≡ s.state.waits → t ≡ s → to_group event ≡ false → Fit s → Behind s t s.state.waits n event
still s t n event same is none f = record {
  linked = relink s.state.waits n s.waiting t.waiting same (ap (λ (x : ServerEnd). x.waiting) is) f.linked;
  member = λ live. (λ h. ap (λ (x : ServerEnd). is_some x.member) is ∙ h, λ h. absurd (cc (none, h)));
  live = λ o. same ∙ o;
}

-- ---- acts

moved : (s t : ServerEnd) (v n : Waits) (act : Act) → (v ≡ Over → ⊥) → Linked n t.waiting → t.member ≡ s.member → Behind s t v n (Did act)
moved s t v n act live linked same = record { linked = linked; member = λ l. (λ h. ap (λ (x : Option ℕ). is_some x) same ∙ h, λ h. absurd (cc (h))); live = λ o. absurd (live o) }

closes : (s t : ServerEnd) (v n : Waits) (act : Act) → n ≡ Over → t.waiting ≡ waiting.Nothing → Behind s t v n (Did act)
closes s t v n act o none = record { linked = over o none; member = λ live. absurd (live o); live = λ x. o }

on_call : (table : TableForm) (past new : List Entry) (s t : ServerEnd) (v n : Waits) (number : Option ℕ) (j : Joined) (act : Act) → v ≡ Nothing → s.waiting ≡ waiting.Nothing → ActsOnCall number j act n → ActMeans (table ∷ []) past s act t new → Behind s t v n (Did act)
on_call table past new s t v n (Some k) j act w none d m = by (of_member s.member _ (subst (λ (x : Act). ActMeans (table ∷ []) past s x t new) d.0 m))
  where
    by : (c : ℕ) × Requests (table ∷ []) past s j k c t new → Behind s t v n (Did act)
    by (c, inl (status, r, is, same)) = moved s t v n act (λ o. absurd (cc (w, o))) (refusing _ _ status d.1 (ap (λ (x : ServerEnd). x.waiting) is)) (ap (λ (x : ServerEnd). x.member) is)
    by (c, inr (i, a, is)) = moved s t v n act (λ o. absurd (cc (w, o))) (calling _ _ i d.1 (ap (λ (x : ServerEnd). x.waiting) is)) (ap (λ (x : ServerEnd). x.member) is)
on_call table past new s t v n None j act w none d m =
    let a = subst (λ (x : Act). ActMeans (table ∷ []) past s x t new) d.0 m in
    moved s t v n act (λ o. absurd (cc (w, o))) (free d.1 (ap (λ (x : ServerEnd). x.waiting) a.0 ∙ none)) (ap (λ (x : ServerEnd). x.member) a.0)

on_free : (table : TableForm) (past new : List Entry) (s t : ServerEnd) (m : ConnState) (n : Waits) (ask : Ask) (act : Act) → m.waits ≡ Nothing → s.waiting ≡ waiting.Nothing → DoesWith m.ids (accepted m) m.agreement m.waits ask act n → ActMeans (table ∷ []) past s act t new
    → Behind s t m.waits n (Did act)
on_free table past new s t m n (asks.Bind c flags b) act w none d h =
    let a = subst (λ (x : Act). ActMeans (table ∷ []) past s x t new) d.0 h in
    moved s t m.waits n act (λ o. absurd (cc (w, o))) (grouping c _ b.group d.1 (ap (λ (x : ServerEnd). x.waiting) a.0)) (ap (λ (x : ServerEnd). x.member) a.0)
on_free table past new s t m n (asks.Alter c b) act w none d h =
    let a = subst (λ (x : Act). ActMeans (table ∷ []) past s x t new) d.0 h in
    moved s t m.waits n act (λ o. absurd (cc (w, o))) (free d.1 (ap (λ (x : ServerEnd). x.waiting) a.0 ∙ none)) (ap (λ (x : ServerEnd). x.member) a.0)
on_free table past new s t m n (asks.Call j) act w none d h = on_call table past new s t m.waits n (interface_of (accepted m) j.context) j act w none d h
on_free table past new s t m n (asks.Cancel id) act w none d h = absurd (cc (w, d.0.2))
on_free table past new s t m n (asks.Orphan id) act w none d h = absurd (cc (w, d.0.2))
on_free table past new s t m n (asks.Broken c f) act w none d h =
    let a = subst (λ (x : Act). ActMeans (table ∷ []) past s x t new) d.0 h in
    closes s t m.waits n act d.1 (ap (λ (x : ServerEnd). x.waiting) a.0)

on_off : (table : TableForm) (past new : List Entry) (s t : ServerEnd) (m : ConnState) (n : Waits) (ask : Ask) (act : Act) → s.state.waits ≡ m.waits → IsOff (Some ask) → DoesWith m.ids (accepted m) m.agreement m.waits ask act n
    → ActMeans (table ∷ []) past s act t new → Fit s → Behind s t s.state.waits n (Did act)
on_off table past new s t m n (asks.Cancel id) act w off d h f = still s t n (Did act) (d.2 ∙ sym w) (subst (λ (x : Act). ActMeans (table ∷ []) past s x t new) d.1 h).0 refl f
on_off table past new s t m n (asks.Orphan id) act w off d h f = still s t n (Did act) (d.2 ∙ sym w) (subst (λ (x : Act). ActMeans (table ∷ []) past s x t new) d.1 h).0 refl f
on_off table past new s t m n (asks.Bind c flags b) act w off d h f = absurd off
on_off table past new s t m n (asks.Alter c b) act w off d h f = absurd off
on_off table past new s t m n (asks.Call j) act w off d h f = absurd off
on_off table past new s t m n (asks.Broken c g) act w off d h f = absurd off

on_act : (table : TableForm) (past new : List Entry) (s t : ServerEnd) (m n : ConnState) (act : Act) → m.waits ≡ s.state.waits → Acts m act n → ActMeans (table ∷ []) past s act t new → Fit s → Behind s t s.state.waits n.waits (Did act)
on_act table past new s t m n act same (inr (fault, stop)) h f =
    closes s t s.state.waits n.waits act (ap (λ (x : ConnState). x.waits) stop.after) (ap (λ (x : ServerEnd). x.waiting) (subst (λ (x : Act). ActMeans (table ∷ []) past s x t new) stop.act_is h).0)
on_act table past new s t m n act same (inl (p, a)) h f = by f.linked
  where
    off : (c : Caller) (maybe : Bool) → s.state.waits ≡ Call c maybe → IsOff (Some a.ask)
    off c maybe w = off_asked m.past p (Some a.ask) (subst (λ (v : Waits). MayCome v p.body) (same ∙ w) a.takes.may) a.asks

    by : Linked s.state.waits s.waiting → Behind s t s.state.waits n.waits (Did act)
    by (free w none) = subst (λ (v : Waits). Behind s t v n.waits (Did act)) same (on_free table past new s t m n.waits a.ask act (same ∙ w) none a.does h)
    by (grouping c ack asked w is) = absurd (no_take m n p c ack (same ∙ w) a.takes)
    by (refusing c maybe status w is) = on_off table past new s t m n.waits a.ask act (sym same) (off c maybe w) a.does h f
    by (calling c maybe k w is) = on_off table past new s t m n.waits a.ask act (sym same) (off c maybe w) a.does h f
    by (over w is) = absurd (over_takes m n p (same ∙ w) a.takes)

-- ---- decisions

replied : (table : TableForm) (s t : ServerEnd) (n : ConnState) (decision : Decision) (octets : List ℕ) (reply : Replied) (c : Caller) (maybe : Bool) → s.state.waits ≡ Call c maybe → Says (table ∷ []) reply s t decision → AnswersDecision s.state decision octets n
    → Behind s t s.state.waits n.waits (Decided decision octets)
replied table s t n decision octets reply c maybe w (is, said) h =
    let a : RepliedAt s.state.waits s.state (word_of reply) (has_run reply) octets n = subst (λ (x : Decision). AnswersDecision s.state x octets n) said h in
    let b = subst (λ (v : Waits). RepliedAt v s.state (word_of reply) (has_run reply) octets n) w a in
    record {
      linked = free (ap (λ (x : ConnState). x.waits) b.1) (ap (λ (x : ServerEnd). x.waiting) is);
      member = λ live. (λ e. ap (λ (x : ServerEnd). is_some x.member) is ∙ e, λ e. absurd (cc (e, ap (λ (x : Decision). to_group (Decided x octets)) said)));
      live = λ o. absurd (cc (w, o));
    }

on_bind : (table : TableForm) (past new : List Entry) (s t : ServerEnd) (n : ConnState) (decision : Decision) (octets : List ℕ) (c : Caller) (ack : BindAckBody) (asked : ℕ) → s.state.waits ≡ Group c ack → Decides (table ∷ []) past s (waiting.Bind asked) decision t new
    → AnswersAt (Group c ack) s.state decision octets n → Behind s t s.state.waits n.waits (Decided decision octets)
on_bind table past new s t n (ToGroup group) octets c ack asked w h a = record {
  linked = free (ap (λ (x : ConnState). x.waits) a.1) (ap (λ (x : ServerEnd). x.waiting) h.2);
  member = λ live. (λ e. ap (λ (x : ServerEnd). is_some x.member) h.2, λ e. ap (λ (x : ServerEnd). is_some x.member) h.2);
  live = λ o. absurd (cc (w, o));
}
on_bind table past new s t n (RefuseGroup reason) octets c ack asked w h a =
    let gone : n.waits ≡ Over = ap (λ (x : ConnState). x.waits) a.1 in
    record { linked = over gone (ap (λ (x : ServerEnd). x.waiting) h.1); member = λ live. absurd (live gone); live = λ o. gone }
on_bind table past new s t n (Reply said executed) octets c ack asked w h a = absurd h

on_decided : (table : TableForm) (past new : List Entry) (s t : ServerEnd) (n : ConnState) (decision : Decision) (octets : List ℕ) → Decides (table ∷ []) past s s.waiting decision t new → AnswersDecision s.state decision octets n → Fit s
    → Behind s t s.state.waits n.waits (Decided decision octets)
on_decided table past new s t n decision octets h a f = by f.linked
  where
    at : (w : Waiting) → s.waiting ≡ w → Decides (table ∷ []) past s w decision t new
    at w e = subst (λ (x : Waiting). Decides (table ∷ []) past s x decision t new) e h

    by : Linked s.state.waits s.waiting → Behind s t s.state.waits n.waits (Decided decision octets)
    by (free w none) = absurd (at waiting.Nothing none)
    by (over w none) = absurd (at waiting.Nothing none)
    by (grouping c ack asked w is) = on_bind table past new s t n decision octets c ack asked w (at (waiting.Bind asked) is) (subst (λ (v : Waits). AnswersAt v s.state decision octets n) w (at_waits s.state n decision octets a))
    by (refusing c maybe status w is) = replied table s t n decision octets (Never status) c maybe w (at (waiting.Refused status) is).0 a
    by (calling c maybe k w is) = replied table s t n decision octets (replies (journal past) k) c maybe w (at (waiting.Call k) is).0 a

pub fit_on : (table : TableForm) (past new : List Entry) (s t : ServerEnd) (event : Event) (n : ConnState) → Happens s.state event n → Means (table ∷ []) past s event t new → Fit s → Fit (record t { events = s.events ++ event ∷ []; state = n })
fit_on table past new s t (Came octets) n h m f = fit_behind s t (Came octets) n (still s t n.waits (Came octets) (ap (λ (x : ConnState). x.waits) h) m.0 refl f) f
fit_on table past new s t Paused n h m f = fit_behind s t Paused n (still s t n.waits Paused (skips_keep s.state h.0 n h.1).0 m.1 refl f) f
fit_on table past new s t (Did act) n h m f = fit_behind s t (Did act) n (on_act table past new s t h.1 n act (skips_keep s.state h.0 h.1 h.2).0 h.3 m.1 f) f
fit_on table past new s t (Decided decision octets) n h m f = fit_behind s t (Decided decision octets) n (on_decided table past new s t n decision octets m.1 h f) f

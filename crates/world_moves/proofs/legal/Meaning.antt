-- What an event at the server's end is to the journal, and to the connection's place in the group.
use Rattle.std.proofs.Common.{◌≡◌, ◌≢◌, ℕ, inl, inr, Bool, true, false, Option, Some, None, List, [], ◌∷◌, length, refl, sym, ap, subst, ◌∙◌, arith}
use Rattle.std.specs.Prelude.{nat_le}
use Rattle.std.specs.List.{list_all}
use Rattle.rpc_base.specs.declared.identifiers.Status.{Status}
use Rattle.handle_model.specs.declared.entry.Entry.{Entry}
use Rattle.handle_model.specs.History.{IsSound}
use Rattle.handle_model.specs.Journal.{is_open}
use Rattle.pdu_stream.specs.declared.joined.Joined.{Joined}
use Rattle.ndr_table.specs.Tables.{TableForm}
use Rattle.conn_asks.specs.declared.events.Act.{Act}
use Rattle.conn_asks.specs.declared.events.Act.TheVariants as acts
use Rattle.conn_histories.specs.Entries.{asked_as}
use Rattle.conn_histories.specs.Histories.{Decision, Event}
use Rattle.conn_histories.specs.Histories.Event.{Came, Paused, Did, Decided}
use Rattle.conn_histories.specs.Histories.Decision.{ToGroup, RefuseGroup, Reply}
use Rattle.world_laws.specs.Journals.{journal, bind_refusal, next_conn, joined, IsCancelled, IsOrphaned}
use Rattle.world_laws.specs.Ends.{Waiting, ServerEnd}
use Rattle.world_laws.specs.Ends.{Waiting as waiting}
use Rattle.world_laws.specs.Serving.{OfMember, OfCall, CancelsMarked, request, Requests, ActMeans, Decides, Means}
use Rattle.world_moves.proofs.legal.Entering.{AllServed, Step, still, then_step, few_uses, slots_served, cancel_step, orphan_step, accept_step, leave_step}

-- Nothing changes for the connection, and what is entered keeps the journal legal; it leaves; it asks for a group; or it joins.
pub data Effect (table : TableForm) (past new : List Entry) (event : Event) (s t : ServerEnd) : Type 0 where
  stays : t.member ≡ s.member → (t.waiting ≡ waiting.Bind 0 → s.waiting ≡ waiting.Bind 0) → Step table past new None → Effect table past new event s t
  left : t.member ≡ None → t.waiting ≡ waiting.Nothing → Step table past new s.member → Effect table past new event s t
  asks : (asked : ℕ) → event ≡ Did (acts.Group asked) → t.member ≡ s.member → t.waiting ≡ waiting.Bind asked → Step table past new None → Effect table past new event s t
  joins : (asked : ℕ) → s.waiting ≡ waiting.Bind asked → bind_refusal past asked ≡ None → t.member ≡ Some (next_conn past) → t.waiting ≡ waiting.Nothing → new ≡ joined past → Effect table past new event s t

member_of : (o : Option ℕ) (P : ℕ → Type 0) → OfMember o P → (c : ℕ) × (o ≡ Some c) × P c
member_of None P h = absurd h
member_of (Some c) P h = (c, refl, h)

call_of : (o : Waiting) (P : ℕ → Type 0) → OfCall o P → (k : ℕ) × P k
call_of waiting.Nothing P h = absurd h
call_of (waiting.Bind asked) P h = absurd h
call_of (waiting.Refused status) P h = absurd h
call_of (waiting.Call k) P h = (k, h)

no_bind : (a b : Waiting) (asked : ℕ) → a ≡ b → b ≢ waiting.Bind asked → a ≢ waiting.Bind asked
no_bind a b asked same other e = other (sym same ∙ e)

nothing_is : (asked : ℕ) → waiting.Nothing ≢ waiting.Bind asked
nothing_is asked e = absurd (cc (e))

refused_is : (status : Status) (asked : ℕ) → waiting.Refused status ≢ waiting.Bind asked
refused_is status asked e = absurd (cc (e))

call_is : (k asked : ℕ) → waiting.Call k ≢ waiting.Bind asked
call_is k asked e = absurd (cc (e))

module _ (table : TableForm) (few : list_all (λ us. nat_le (length us) 4) table.uses ≡ true) (past new : List Entry) (sound : IsSound (journal past)) (served : AllServed table past) where
  marked_step : (cancel : Bool) (between : List Entry) (k : ℕ) → Step table past between None → CancelsMarked cancel between k new → Step table past new None
  marked_step true between k first h = then_step table past between new first (cancel_step table between new k first.sound first.served h)
  marked_step false between k first h = subst (λ (x : List Entry). Step table past x None) (sym h) first

  requests : (event : Event) (s t : ServerEnd) (j : Joined) (iface c : ℕ) → is_open (journal past) c ≡ true → Requests (table ∷ []) past s j iface c t new → Effect table past new event s t
  requests event s t j iface c o (inl (status, refuses, is, none)) =
      stays (ap (λ (x : ServerEnd). x.member) is) (λ e. absurd (no_bind t.waiting (waiting.Refused status) 0 (ap (λ (x : ServerEnd). x.waiting) is) (refused_is status 0) e)) (still table past new None none sound served)
  requests event s t j iface c o (inr (k, a, is)) =
      let serves = slots_served table iface j.op j.order j.stub a.slots a.has in
      let small = few_uses table iface j.op few in
      let first = accept_step table past a.accepted (asked_as c (request j iface) a.slots) k sound served o (omega (arith, serves, small)) serves a.accepts in
      stays (ap (λ (x : ServerEnd). x.member) is) (λ e. absurd (no_bind t.waiting (waiting.Call k) 0 (ap (λ (x : ServerEnd). x.waiting) is) (call_is k 0) e)) (marked_step j.cancel a.accepted k first a.marked)

  same_end : (event : Event) (s t : ServerEnd) → t ≡ s → Step table past new None → Effect table past new event s t
  same_end event s t is step = stays (ap (λ (x : ServerEnd). x.member) is) (λ e. ap (λ (x : ServerEnd). x.waiting) (sym is) ∙ e) step

  -- the server's word was said
  said_end : (event : Event) (s t : ServerEnd) → t.member ≡ s.member → t.waiting ≡ waiting.Nothing → new ≡ past → Effect table past new event s t
  said_end event s t member wait none = stays member (λ e. absurd (no_bind t.waiting waiting.Nothing 0 wait (nothing_is 0) e)) (still table past new None none sound served)

  act_means : (s t : ServerEnd) (act : Act) → ((c : ℕ) → s.member ≡ Some c → is_open (journal past) c ≡ true) → ActMeans (table ∷ []) past s act t new → Effect table past new (Did act) s t
  act_means s t (acts.Answer octets) open_ h =
      stays (ap (λ (x : ServerEnd). x.member) h.0) (λ e. ap (λ (x : ServerEnd). x.waiting) (sym h.0) ∙ e) (still table past new None h.1 sound served)
  act_means s t (acts.Group asked) open_ h =
      asks asked refl (ap (λ (x : ServerEnd). x.member) h.0) (ap (λ (x : ServerEnd). x.waiting) h.0) (still table past new None h.1 sound served)
  act_means s t (acts.Call j iface) open_ h =
      let m = member_of s.member (λ c. Requests (table ∷ []) past s j iface c t new) h in requests (Did (acts.Call j iface)) s t j iface m.0 (open_ m.0 m.1) m.2
  act_means s t (acts.Cancel id) open_ h =
      let (k, c) = call_of s.waiting (λ k. IsCancelled past k new) h.1 in same_end (Did (acts.Cancel id)) s t h.0 (cancel_step table past new k sound served c)
  act_means s t (acts.Orphan id) open_ h =
      let (k, c) = call_of s.waiting (λ k. IsOrphaned past k new) h.1 in same_end (Did (acts.Orphan id)) s t h.0 (orphan_step table past new k sound served c)
  act_means s t (acts.Close octets why) open_ h =
      left (ap (λ (x : ServerEnd). x.member) h.0) (ap (λ (x : ServerEnd). x.waiting) h.0) (leave_step table past new s.member sound served open_ h.1)

  decides : (s t : ServerEnd) (w : Waiting) (decision : Decision) (octets : List ℕ) → s.waiting ≡ w → Decides (table ∷ []) past s w decision t new → Effect table past new (Decided decision octets) s t
  decides s t waiting.Nothing decision octets at h = absurd h
  decides s t (waiting.Bind asked) (ToGroup group) octets at (free, is, after, grown) = joins asked at free (ap (λ (x : ServerEnd). x.member) after) (ap (λ (x : ServerEnd). x.waiting) after) grown
  decides s t (waiting.Bind asked) (RefuseGroup reason) octets at (why, after, none) =
      said_end (Decided (RefuseGroup reason) octets) s t (ap (λ (x : ServerEnd). x.member) after) (ap (λ (x : ServerEnd). x.waiting) after) none
  decides s t (waiting.Bind asked) (Reply said executed) octets at h = absurd h
  decides s t (waiting.Refused status) decision octets at h =
      said_end (Decided decision octets) s t (ap (λ (x : ServerEnd). x.member) h.0.0) (ap (λ (x : ServerEnd). x.waiting) h.0.0) h.1
  decides s t (waiting.Call k) decision octets at h =
      said_end (Decided decision octets) s t (ap (λ (x : ServerEnd). x.member) h.0.0) (ap (λ (x : ServerEnd). x.waiting) h.0.0) h.1

  pub means : (s t : ServerEnd) (event : Event) → ((c : ℕ) → s.member ≡ Some c → is_open (journal past) c ≡ true) → Means (table ∷ []) past s event t new → Effect table past new event s t
  means s t (Came octets) open_ h = same_end (Came octets) s t h.0 (still table past new None h.1 sound served)
  means s t Paused open_ h = same_end Paused s t h.1 (still table past new None h.2 sound served)
  means s t (Did act) open_ h = act_means s t act open_ h.1
  means s t (Decided decision octets) open_ h = decides s t s.waiting decision octets refl h.1

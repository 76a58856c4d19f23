-- What the server's word is to the turns of its connection, and to those of others.
use Rattle.std.proofs.Common.{◌≡◌, ◌≢◌, ◌==◌, ℕ, zero, suc, ◌+◌, ◌-◌, ◌^◌, ◌≤◌, ◌<◌, nat_le, Bool, true, false, ◌||◌, if◌then◌else◌, Option, Some, None, List, [], ◌∷◌, ◌++◌, length, filter, get_or, slice_set, refl, sym, ap, subst, ◌∙◌, ◌⊎◌, inl, inr, append_assoc, arith}
use Rattle.std.proofs.lemmas.Bool.Decides.{eqb_tells}
use Rattle.handle_model.specs.declared.entry.Entry.{Entry}
use Rattle.handle_model.specs.declared.entry.Entry.TheVariants.{Join}
use Rattle.handle_model.specs.Bases.{empty_base}
use Rattle.pdu_stream.specs.declared.joined.Joined.{Joined}
use Rattle.conn_histories.specs.declared.turn.Off.{Off}
use Rattle.conn_histories.specs.declared.turn.Deed.{Deed}
use Rattle.conn_histories.specs.declared.turn.Turn.{Turn}
use Rattle.conn_histories.specs.Stories.{Server}
use Rattle.conn_histories.specs.Tales.{whole}
use Rattle.conn_histories.specs.declared.turn.Deed.TheVariants as deeds
use Rattle.conn_histories.specs.declared.turn.Turn.TheVariants.{Binding, Bound, NotBound}
use Rattle.conn_asks.specs.declared.events.Act.TheVariants as acts
use Rattle.conn_asks.specs.Asks.{is_bound}
use Rattle.conn_asks.specs.States.{ConnState}
use Rattle.conn_histories.specs.Histories.{Decision, Event, Happens}
use Rattle.conn_histories.specs.Histories.Event.{Did, Decided}
use Rattle.conn_histories.specs.Histories.Decision.{ToGroup, RefuseGroup, Reply as Answer}
use Rattle.replay_world.specs.declared.peer.Member.{Member}
use Rattle.replay_world.specs.declared.peer.Unanswered.{Unanswered}
use Rattle.replay_world.specs.declared.peer.Unanswered.TheVariants.{Nothing, Bind, Refused, Call}
use Rattle.replay_world.specs.declared.peer.Standing.TheVariants.{Open, Closed}
use Rattle.replay_world.specs.Services.{Service}
use Rattle.replay_world.specs.Worlds.{Peer, World, peer_at, home_of, past_of, journal}
use Rattle.replay_world.specs.Moments.{AreSound, Coheres}
use Rattle.replay_world.specs.Groups.{most_groups, is_full, at_limit, no_group, by_limit, refusal_new, refusal_known, bind_refusal, group_for, with_group_for, next_conn, joined, member_for}
use Rattle.replay_world.specs.Events.{is_over, lived}
use Rattle.replay_world.specs.Promised.{as_server}
use Rattle.std.proofs.lemmas.Bool.{false_from_ne_true}
use Rattle.std.proofs.lemmas.Grind.{common_steps}
use Rattle.rpc_base.specs.declared.identifiers.Status.{Status}
use Rattle.handle_model.specs.declared.limits.JoinLimit.{JoinLimit}
use Rattle.handle_model.specs.declared.reply.Reply.TheVariants as said
use Rattle.handle_model.specs.Journal.{Legal, has_joined, join_count}
use Rattle.handle_model.specs.Limits.{join_limit}
use Rattle.handle_model.specs.Replies.{replies}
use Rattle.handle_model.proofs.Held.{joined_within}
use Rattle.conn_histories.specs.Events.{fate_reply, word_of, has_run, acts_off, all_events}
use Rattle.conn_histories.specs.Stories.{IsItsGroup, Made}
use Rattle.conn_turns.proofs.TaleFacts.{same_number}
use Rattle.replay_world.specs.Worlds.{goes_on, is_open_group, open_groups}
use Rattle.replay_world.specs.Promised.{WasFull, WasCrowded, MayRefuse}
use Rattle.replay_world.proofs.Events.{HasGroup, group_of}
use Rattle.conn_turns.proofs.Making.{called, made_answered}
use Rattle.conn_turns.proofs.StepEnding.{joined_so}
use Rattle.conn_turns.proofs.Hearing.{bound_stays, bound_waits, refused_waits, reply_waits}
use Rattle.replay.proofs.Reaching.{Reaches, below, crowded}
use Rattle.replay.proofs.Telling.{Front, BoundBy, IsTold, TellsTurns, others_told, none_apart, set_elsewhere}
use Rattle.replay.proofs.Acting.{bound_by, bound_in, built, over_is, reply_here, not_left, fate_replied}
use Rattle.conn_turns.proofs.Plain.{one_answer_more}
use Rattle.replay.proofs.Doing.{Acted, others_same}

-- ---- why a bind is refused

full_count : {S : Type 0} (w : World S) → is_full w ≡ true → most_groups ≤ length w.groups
full_count w h = by (nat_le most_groups (open_groups w)) (nat_le (2 ^ 32) (length w.groups + 1)) refl refl h
  where
    few : (l : List (List Entry)) → length (filter goes_on l) ≤ length l
    few [] = omega arith
    few (x ∷ l) = one (goes_on x) (few l)
      where
        one : (b : Bool) → length (filter goes_on l) ≤ length l → length (if b then x ∷ filter goes_on l else filter goes_on l) ≤ suc (length l)
        one true h = omega (arith, h)
        one false h = omega (arith, h)

    by : (a b : Bool) → nat_le most_groups (open_groups w) ≡ a → nat_le (2 ^ 32) (length w.groups + 1) ≡ b → (a || b) ≡ true → most_groups ≤ length w.groups
    by true b e f h = let g : most_groups ≤ open_groups w = grind (arith, common_steps, e) in let k = few w.groups in omega (arith, g, k)
    by false true e f h = let g : 2 ^ 32 ≤ length w.groups + 1 = grind (arith, common_steps, f) in omega (arith, g)
    by false false e f h = absurd cc

limit_is : (o : Option JoinLimit) (reason : ℕ) → by_limit o ≡ Some reason → (reason ≡ at_limit) × (o ≢ None)
limit_is None reason h = absurd cc
limit_is (Some limit) reason h = (cc, λ e. absurd cc)

module _ {S : Type 0} (w end : World S) (r : Reaches w end) where
  new_refused : (b : Bool) (reason : ℕ) → is_full w ≡ b → (if b then Some at_limit else None) ≡ Some reason → (reason ≡ at_limit) × WasFull end
  new_refused true reason e h = let n = full_count w e in let m = r.count in (cc, omega (arith, n, m))
  new_refused false reason e h = absurd cc

  known_refused : (g : ℕ) (b : Bool) (reason : ℕ) → (if b then by_limit (join_limit (journal w g)) else Some no_group) ≡ Some reason → ((reason ≡ at_limit) × WasCrowded end g) ⊎ (reason ≡ no_group)
  known_refused g true reason h = let l = limit_is (join_limit (journal w g)) reason h in inl (l.0, crowded w end g r l.1)
  known_refused g false reason h = inr cc

  pub may_refuse : (asked reason : ℕ) → bind_refusal w asked ≡ Some reason → MayRefuse end asked reason
  may_refuse asked reason h = by (asked == 0) refl h
    where
      none_is : (asked == 0) ≡ true → asked ≡ 0
      none_is e = elim (eqb_tells asked 0) [ inl x ↦ x.1 | inr x ↦ let f = x.0 in absurd (cc (e, f)) ]

      some_is : (asked == 0) ≡ false → asked ≢ 0
      some_is e = elim (eqb_tells asked 0) [ inl x ↦ let f = x.0 in absurd (cc (e, f)) | inr x ↦ x.1 ]

      by : (b : Bool) → (asked == 0) ≡ b → (if b then refusal_new w else refusal_known w asked) ≡ Some reason → MayRefuse end asked reason
      by true e h = let f = new_refused (is_full w) reason refl h in inl (none_is e, f.0, f.1)
      by false e h =
          elim (known_refused asked (is_open_group w asked) reason h) [
            | inl k ↦ inr (inl (some_is e, k.0, k.1))
            | inr k ↦ inr (inr (some_is e, k))
          ]

-- ---- which group a connection joins

set_in : (l : List (List Entry)) (i : ℕ) (x : List Entry) → i < length l → get_or (slice_set l i x) i [] ≡ x
set_in [] i x low = absurd (omega (arith, low))
set_in (y ∷ l) zero x low = refl
set_in (y ∷ l) (suc i) x low = set_in l i x (omega (arith, low))

past_end : (l : List (List Entry)) → get_or (l ++ [] ∷ []) (length l) [] ≡ []
past_end [] = refl
past_end (y ∷ l) = past_end l

module _ {S : Type 0} (w : World S) (asked : ℕ) (found : bind_refusal w asked ≡ None) where
  abbrev with_it : World S
  with_it = with_group_for w asked

  abbrev it : ℕ
  it = group_for w asked

  abbrev number : ℕ
  number = next_conn with_it it

  has : HasGroup w with_it it
  has = group_of w asked found

  number_is : number ≡ join_count (journal w it) + 1
  number_is = ap (λ (l : List Entry). join_count (whole (home_of w it) l) + 1) (has.pasts it)

  pub joined_here : past_of (joined w asked) it ≡ Join number ∷ past_of w it
  joined_here = set_in with_it.groups (it - 1) (Join number ∷ past_of with_it it) has.high ∙ ap (λ (l : List Entry). Join number ∷ l) (has.pasts it)

  pub joined_elsewhere : (h : ℕ) → 1 ≤ h → h ≢ it → past_of (joined w asked) h ≡ past_of w h
  joined_elsewhere h up d = set_elsewhere with_it.groups it h (Join number ∷ past_of with_it it) has.low up d ∙ has.pasts h

  pub joined_new : Legal (journal w it) → has_joined (journal w it) number ≡ false
  joined_new legal =
      false_from_ne_true (has_joined (journal w it) number) (λ h.
      let low = joined_within (home_of w it) empty_base (past_of w it) number legal h in
      let n = number_is in absurd (omega (arith, low, n)))

  pub joined_low : 1 ≤ it
  joined_low = has.low

  first_there : (b : Bool) → (asked == 0) ≡ b → asked ≡ 0 → next_conn (if b then record w { groups = w.groups ++ [] ∷ [] } else w) (if b then length w.groups + 1 else asked) ≡ 1
  first_there true e z =
      let i : (length w.groups + 1) - 1 ≡ length w.groups = omega arith in
      ap (λ (l : List Entry). join_count (whole (home_of w (length w.groups + 1)) l) + 1) (ap (λ (n : ℕ). get_or (w.groups ++ [] ∷ []) n []) i ∙ past_end w.groups)
  first_there false e z = elim (eqb_tells asked 0) [ inl x ↦ let f = x.0 in absurd (cc (e, f)) | inr x ↦ absurd (x.1 z) ]

  known_there : (b : Bool) → (asked == 0) ≡ b → asked ≢ 0 → (if b then length w.groups + 1 else asked) ≡ asked
  known_there true e n = elim (eqb_tells asked 0) [ inl x ↦ absurd (n x.1) | inr x ↦ let f = x.0 in absurd (cc (e, f)) ]
  known_there false e n = refl

  pub its_group : IsItsGroup asked it number
  its_group = record { known = known_there (asked == 0) refl; new = first_there (asked == 0) refl }

-- ---- the server's word

module _ (service : Service) (end w b : World service.State) (c : ℕ) (p : Peer) (state : ConnState) (h : Coheres w) (ends : AreSound end) (from : Reaches w end) (reach : Reaches b end) (was : peer_at w c ≡ Some p)
    (t : TellsTurns service end w p false) (front : Front p.unanswered t.turns p.state.waits) (told : IsTold service end w p.member false t.turns) where
  abbrev server : Server
  server = as_server service end

  abbrev after : Event → Peer → Peer
  after event a = lived service a event state

  none_bound : (mem : Option Member) (asked : ℕ) → BoundBy mem (Bind asked) p.state → mem ≡ None
  none_bound None asked bound = refl
  none_bound (Some m) asked bound = absurd bound

  bind_bound : (mem : Option Member) (asked : ℕ) → BoundBy mem (Bind asked) p.state → is_bound p.state.past ≡ true
  bind_bound None asked bound = bound
  bind_bound (Some m) asked bound = absurd bound

  module _ (asked : ℕ) (x_is : p.unanswered ≡ Bind asked) where
    binding : Front (Bind asked) t.turns p.state.waits
    binding = subst (λ (x : Unanswered). Front x t.turns p.state.waits) x_is front

    alone : p.member ≡ None
    alone = none_bound p.member asked (subst (λ (x : Unanswered). BoundBy p.member x p.state) x_is t.bound)

    is_bound_now : (event : Event) → Happens p.state event state → is_bound state.past ≡ true
    is_bound_now event happens = bound_stays p.state state event happens (bind_bound p.member asked (subst (λ (x : Unanswered). BoundBy p.member x p.state) x_is t.bound))

    alone_told : IsTold service end w None false (Binding asked ∷ binding.0.older)
    alone_told = subst (λ (l : List Turn). IsTold service end w None false l) binding.0.is (subst (λ (mem : Option Member). IsTold service end w mem false t.turns) alone told)

    -- it joins a group
    pub joins : (group : ℕ) (octets : List ℕ) → Happens p.state (Decided (ToGroup group) octets) state → bind_refusal w asked ≡ None → group ≡ group_for w asked → b ≡ joined w asked
        → Acted service end w b c (after (Decided (ToGroup group) octets) (record p { member = Some (member_for w asked); unanswered = Nothing; standing = Open }))
    joins group octets happens found group_is same =
        let m : Member = member_for w asked in
        let older = binding.0.older in
        let turns : List Turn = Bound asked group octets ∷ older in
        let low_w = below end w ends from in
        let low_b = below end b ends reach in
        let here : past_of b m.group ≡ Join m.number ∷ past_of w m.group = ap (λ (z : World service.State). past_of z m.group) same ∙ joined_here w asked found in
        let legal : Legal (whole (home_of end m.group) (Join m.number ∷ past_of w m.group)) = subst (λ (l : List Entry). Legal (whole (home_of end m.group) l)) here (low_b.legal m.group (joined_low w asked found)) in
        let new : has_joined (journal w m.group) m.number ≡ false = joined_new w asked found (low_w.sound m.group (joined_low w asked found)).legal in
        let made : Made server (home_of end m.group) m.number (Join m.number ∷ past_of w m.group) false turns (Join m.number ∷ []) =
        joined_so server (home_of end m.group) (home_of end 0) m.number 0 (past_of w m.group) [] older asked group octets legal new alone_told.0.1 alone_told.1.1 (group_is, subst (λ (g : ℕ). IsItsGroup asked g m.number) (sym group_is) (its_group w asked found)) in
        record {
          own =
              built service end w b p (Decided (ToGroup group) octets) state happens t (Some m) Nothing Open turns
              (ap (λ (l : List Turn). all_events l ++ Decided (ToGroup group) octets ∷ []) binding.0.is ∙ append_assoc (all_events older) (Did (acts.Group asked) ∷ []) (Decided (ToGroup group) octets ∷ []))
              ((tt, binding.0.done), bound_waits p.state state group octets happens) (is_bound_now (Decided (ToGroup group) octets) happens)
              (Join m.number ∷ [], subst (λ (l : List Entry). Made server (home_of end m.group) m.number l false turns (Join m.number ∷ [])) (sym here) made);
          others =
              λ d x other at gone ts x_told.
              others_told service end w b m.group m.number x.member
              (record {
                call = None;
                es = Join m.number ∷ [];
                at = here;
                by = (same_number m.number, tt);
                elsewhere = λ g up far. ap (λ (z : World service.State). past_of z g) same ∙ joined_elsewhere w asked found g up far;
                apart = none_apart w m.group m.number;
              }) low_b
              (λ n e. (
                h.grouped d x n (record { there = at; member = e }),
                λ is.
                    let there = h.joined d x n (record { there = at; member = e }) in
                    let there' : has_joined (journal w m.group) m.number ≡ true = subst (λ (z : Member). has_joined (journal w z.group) z.number ≡ true) is there in
                    absurd (cc (there', new)),
              )) gone ts x_told;
        }

    -- or it is refused
    pub turned_down : (reason : ℕ) (octets : List ℕ) → Happens p.state (Decided (RefuseGroup reason) octets) state → bind_refusal w asked ≡ Some reason → b ≡ w
        → Acted service end w b c (after (Decided (RefuseGroup reason) octets) (record p { member = p.member; unanswered = Nothing; standing = Closed }))
    turned_down reason octets happens why same =
        let older = binding.0.older in
        let turns : List Turn = NotBound asked reason octets ∷ older in
        let after' : IsTold service end w None true turns = ((tt, alone_told.0.1), (may_refuse w end from asked reason why, alone_told.1.1)) in
        record {
          own =
              built service end w b p (Decided (RefuseGroup reason) octets) state happens t p.member Nothing Closed turns
              (ap (λ (l : List Turn). all_events l ++ Decided (RefuseGroup reason) octets ∷ []) binding.0.is ∙ append_assoc (all_events older) (Did (acts.Group asked) ∷ []) (Decided (RefuseGroup reason) octets ∷ []))
              (refl, refused_waits p.state state reason octets happens, (tt, binding.0.done))
              (subst (λ (mem : Option Member). BoundBy mem Nothing state) (sym alone) tt)
              (subst (λ (z : World service.State). IsTold service end z p.member true turns) (sym same)
              (subst (λ (mem : Option Member). IsTold service end w mem true turns) (sym alone) after'));
          others = others_same service end w b c p h was same;
        }

  -- ---- a request is answered

  answered_told : (j : Joined) (iface : ℕ) (offs : List Off) (deed : Deed) (octets : List ℕ) (older : List Turn) (mem : Option Member) → IsTold service end w mem false (called j iface offs deed None ∷ older)
      → IsTold service end w mem false (called j iface offs deed (Some octets) ∷ older)
  answered_told j iface offs deed octets older None s = absurd s.0.0
  answered_told j iface offs deed octets older (Some m) s =
      (s.0, made_answered server (home_of end m.group) m.number (past_of w m.group) false j iface offs deed None (Some octets) older s.0 s.1)

  -- the fault of one that was refused
  pub faulted : (status : Status) (decision : Decision) (octets : List ℕ) → p.unanswered ≡ Refused status → Happens p.state (Decided decision octets) state → decision ≡ Answer (word_of (said.Never status)) (has_run (said.Never status)) → b ≡ w
      → Acted service end w b c (after (Decided decision octets) (record p { member = p.member; unanswered = Nothing; standing = Open }))
  faulted status decision octets x_is happens says same =
      let at : Front (Refused status) t.turns p.state.waits = subst (λ (x : Unanswered). Front x t.turns p.state.waits) x_is front in
      let r = at.0 in
      let turns : List Turn = called r.joined r.iface [] (deeds.Refused status) (Some octets) ∷ r.older in
      let happens' : Happens p.state (Decided (Answer (word_of (said.Never status)) (has_run (said.Never status))) octets) state = subst (λ (x : Decision). Happens p.state (Decided x octets) state) says happens in
      let told' = subst (λ (l : List Turn). IsTold service end w p.member false l) r.is told in
      record {
        own =
            built service end w b p (Decided decision octets) state happens t p.member Nothing Open turns
            ((λ i. all_events (r.is i) ++ Decided (says i) octets ∷ []) ∙ one_answer_more (all_events r.older) (Did (acts.Call r.joined r.iface)) [] (Decided (Answer (word_of (said.Never status)) (has_run (said.Never status))) octets))
            (((((λ e. absurd cc), refl), refl, refl), r.done), reply_waits p.state state (word_of (said.Never status)) (has_run (said.Never status)) octets happens')
            (bound_in p.member p.unanswered Nothing state (λ asked e. absurd cc) (λ asked e. absurd (cc (e, x_is)))
            (bound_by p.member p.unanswered p.state state (bound_stays p.state state (Decided decision octets) happens) t.bound))
            (subst (λ (z : World service.State). IsTold service end z p.member false turns) (sym same)
            (answered_told r.joined r.iface [] (deeds.Refused status) octets r.older p.member told'));
        others = others_same service end w b c p h was same;
      }

  -- what the journal replies to a call that is over
  pub replied : (m : Member) (k : ℕ) (decision : Decision) (octets : List ℕ) → p.member ≡ Some m → p.unanswered ≡ Call k → is_over w m k ≡ true → Happens p.state (Decided decision octets) state
      → decision ≡ Answer (word_of (replies (journal w m.group) k)) (has_run (replies (journal w m.group) k)) → b ≡ w
      → Acted service end w b c (after (Decided decision octets) (record p { member = p.member; unanswered = Nothing; standing = Open }))
  replied m k decision octets is x_is over happens says same =
      let at : Front (Call k) t.turns p.state.waits = subst (λ (x : Unanswered). Front x t.turns p.state.waits) x_is front in
      let r = at.0 in
      let told' = subst (λ (l : List Turn). IsTold service end w p.member false l) r.is told in
      let mine : IsTold service end w (Some m) false (called r.joined r.iface r.offs (deeds.Accepted k r.slots r.fate) None ∷ r.older) =
      subst (λ (mem : Option Member). IsTold service end w mem false (called r.joined r.iface r.offs (deeds.Accepted k r.slots r.fate) None ∷ r.older)) is told' in
      let home = home_of end m.group in
      let closed' = over_is server home w m r.joined r.iface k r.offs r.slots r.fate r.older mine.0 mine.1 over in
      let reply = reply_here server home w m r.joined r.iface k r.offs r.slots r.fate r.older mine.0 mine.1 in
      let unleft = not_left server home w m r.joined r.iface k r.offs r.slots r.fate r.older mine.0 mine.1 in
      let says' : decision ≡ Answer (word_of (fate_reply r.offs r.fate)) (has_run (fate_reply r.offs r.fate)) = says ∙ (λ i. Answer (word_of (reply i)) (has_run (reply i))) in
      let turns : List Turn = called r.joined r.iface r.offs (deeds.Accepted k r.slots r.fate) (Some octets) ∷ r.older in
      let happens' : Happens p.state (Decided (Answer (word_of (fate_reply r.offs r.fate)) (has_run (fate_reply r.offs r.fate))) octets) state = subst (λ (x : Decision). Happens p.state (Decided x octets) state) says' happens in
      record {
        own =
            built service end w b p (Decided decision octets) state happens t p.member Nothing Open turns
            ((λ i. all_events (r.is i) ++ Decided (says' i) octets ∷ [])
            ∙ one_answer_more (all_events r.older) (Did (acts.Call r.joined r.iface)) (acts_off r.joined.call_id r.offs) (Decided (Answer (word_of (fate_reply r.offs r.fate)) (has_run (fate_reply r.offs r.fate))) octets)) (
              (((fate_replied r.offs r.fate closed'.0 closed'.1, unleft), closed'.0, closed'.1), r.done),
              reply_waits p.state state (word_of (fate_reply r.offs r.fate)) (has_run (fate_reply r.offs r.fate)) octets happens',
            )
            (bound_in p.member p.unanswered Nothing state (λ asked e. absurd cc) (λ asked e. absurd (cc (e, x_is)))
            (bound_by p.member p.unanswered p.state state (bound_stays p.state state (Decided decision octets) happens) t.bound))
            (subst (λ (z : World service.State). IsTold service end z p.member false turns) (sym same)
            (answered_told r.joined r.iface r.offs (deeds.Accepted k r.slots r.fate) octets r.older p.member told'));
        others = others_same service end w b c p h was same;
      }

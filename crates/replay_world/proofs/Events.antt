-- An event of a connection keeps what holds at each moment.
use Rattle.std.proofs.Common.{◌≡◌, ◌≢◌, ℕ, zero, suc, ◌+◌, ◌-◌, ◌≤◌, ◌<◌, ◌==◌, nat_le, Bool, true, false, ◌&&◌, ◌||◌, if◌then◌else◌, Option, Some, None, Ok, List, [], ◌∷◌, ◌++◌, length, get_or, slice_set, refl, sym, ap, subst, ◌∙◌, ◌⊎◌, inl, inr, arith}
use Rattle.std.specs.List.{list_any, find}
use Rattle.std.proofs.lemmas.Bool.{cases_Bool, false_from_ne_true}
use Rattle.std.proofs.lemmas.Bool.Decides.{eqb_tells}
use Rattle.std.proofs.lemmas.Grind.{common_steps}
use Rattle.handle_model.specs.declared.entry.Home.{Home}
use Rattle.handle_model.specs.declared.entry.Asked.{Asked}
use Rattle.handle_model.specs.declared.entry.Slot.{Slot}
use Rattle.handle_model.specs.declared.entry.Entry.{Entry}
use Rattle.handle_model.specs.declared.entry.Entry.TheVariants.{Join, Accept, Leave, Shut}
use Rattle.handle_model.specs.Bases.{empty_base}
use Rattle.handle_model.specs.History.{History}
use Rattle.handle_model.specs.Journal.{Legal, has_joined, join_count, asked, leaves}
use Rattle.handle_model.specs.Limits.{join_limit}
use Rattle.handle_model.specs.Replies.{replies}
use Rattle.handle_model.proofs.Tests.{and_left, and_right}
use Rattle.handle_model.proofs.Held.{joined_within, left_joined}
use Rattle.pdu_stream.specs.declared.joined.Joined.{Joined}
use Rattle.conn_asks.specs.declared.events.Act.{Act}
use Rattle.conn_asks.specs.declared.events.Act.TheVariants as acts
use Rattle.conn_asks.specs.States.{ConnState}
use Rattle.conn_histories.specs.Histories.{Decision, Event}
use Rattle.conn_histories.specs.Histories.Event.{Came, Paused, Did, Decided}
use Rattle.conn_histories.specs.Histories.Decision.{ToGroup, RefuseGroup, Reply}
use Rattle.conn_histories.specs.Entries.{asked_as}
use Rattle.conn_histories.specs.Tales.{whole}
use Rattle.group_core.specs.declared.answer.Rest.TheVariants as rest
use Rattle.group_core.specs.declared.answer.Rest.{Rest}
use Rattle.group_core.specs.Calls.{numbered}
use Rattle.group_core.specs.Conns.{Settles}
use Rattle.replay_world.specs.declared.peer.Member.{Member}
use Rattle.replay_world.specs.declared.peer.Unanswered.{Unanswered}
use Rattle.replay_world.specs.declared.peer.Unanswered.TheVariants.{Nothing, Bind, Refused, Call}
use Rattle.replay_world.specs.declared.peer.Standing.TheVariants.{Open, Closed, Lost}
use Rattle.replay_world.specs.Services.{Service}
use Rattle.replay_world.specs.Worlds.{Peer, Printed, World, peer_at, with_peer, home_of, past_of, journal, with_past, goes_on, is_open_group, printing}
use Rattle.replay_world.specs.Groups.{refusal_new, refusal_known, bind_refusal, group_for, with_group_for, next_conn, joined, member_for, by_limit, CancelsIn, OrphansIn, SettlesIn}
use Rattle.replay_world.specs.Events.{awaiting, closed, bound, OfMember, OfCall, LeavesIts, request, AcceptsRequest, Requests, ActMeans, Says, Decides, Means, lived, HappensOn}
use Rattle.replay_world.specs.Moments.{AreSound, IsAs, IsCallOf, Coheres}
use Rattle.replay_world.proofs.Peers.{found_name, put_found, put_others}
use Rattle.replay_world.proofs.Pasts.{Grows, stays, at_set, asked_grows}
use Rattle.replay_world.proofs.Goes.{Quietly, Goes, goes_none, goes_twice, accepts_goes, cancels_goes, orphans_goes, marked_goes}
use Rattle.replay_world.proofs.Keep.{some_is, IsGone, Moves, Stays, keeps}
use Rattle.replay_world.proofs.Joining.{Joins, keeps_joined}

-- ---- one connection is put back

module _ {S : Type 0} (w b : World S) (c : ℕ) (p q : Peer) (lines : List Printed) where
  abbrev pub put_back : World S
  put_back = printing (with_peer b q) lines

  pub moved : peer_at w c ≡ Some p → q.name ≡ p.name → b.peers ≡ w.peers → ((g : ℕ) → Grows (past_of w g) (past_of b g)) → Moves w put_back c p q
  moved was name peers grows =
      let named : q.name ≡ c = name ∙ found_name c w.peers p was in
      record {
        was = was;
        is = subst (λ (n : ℕ). peer_at put_back n ≡ Some q) named (put_found q b.peers);
        others = λ d other. put_others d q b.peers (λ e. other (sym e ∙ named)) ∙ ap (λ (ps : List Peer). peer_at (record w { peers = ps }) d) peers;
        grows = grows;
      }

-- what an event is to the connection and the journals, where it joins no group
pub record Changes {S : Type 0} (w b : World S) (p a : Peer) : Type 0 where
  pub name : a.name ≡ p.name
  pub peers : b.peers ≡ w.peers
  pub grows : (g : ℕ) → Grows (past_of w g) (past_of b g)
  pub member : a.member ≡ p.member
  pub open_ : a.standing ≡ Open → p.standing ≡ Open
  pub call : (k : ℕ) (m : Member) → a.unanswered ≡ Call k → a.member ≡ Some m → (p.unanswered ≡ Call k) ⊎ IsCallOf (journal b m.group) m k
  pub left : (g n : ℕ) → 1 ≤ g → list_any (leaves n) (past_of b g) ≡ true → (list_any (leaves n) (past_of w g) ≡ true) ⊎ IsGone a.member a.standing g n

pub grown_by : {S : Type 0} (w b : World S) → Goes w b → (g : ℕ) → Grows (past_of w g) (past_of b g)
grown_by w b t g = let q = t.pasts g in record { es = q.es; is = q.is }

pub quiet_change : {S : Type 0} (w b : World S) (p a : Peer) → Goes w b → a.name ≡ p.name → a.member ≡ p.member → (a.standing ≡ Open → p.standing ≡ Open) → ((k : ℕ) → a.unanswered ≡ Call k → p.unanswered ≡ Call k)
    → Changes w b p a
quiet_change w b p a t name member open_ call = record {
  name = name;
  peers = t.peers;
  grows = grown_by w b t;
  member = member;
  open_ = open_;
  call = λ k m u e. inl (call k u);
  left = λ g n low l. inl (sym ((t.pasts g).quiet n) ∙ l);
}

same_change : {S : Type 0} (w b : World S) (p a : Peer) → a ≡ p → b ≡ w → Changes w b p a
same_change w b p a e f =
    subst (λ (z : Peer). Changes w b p z) (sym e)
    (subst (λ (z : World _). Changes w z p p) (sym f) (quiet_change w w p p (goes_none w) refl refl (λ o. o) (λ k u. u)))

no_call : (x : Unanswered) → ((k : ℕ) → x ≡ Call k → ⊥) → (p : Peer) (k : ℕ) → x ≡ Call k → p.unanswered ≡ Call k
no_call x none p k e = absurd (none k e)

-- something else than a call is awaited
awaits : {S : Type 0} (w b : World S) (p a : Peer) (x : Unanswered) → ((k : ℕ) → x ≡ Call k → ⊥) → a ≡ awaiting p x → Goes w b → Changes w b p a
awaits w b p a x none e t =
    subst (λ (z : Peer). Changes w b p z) (sym e) (quiet_change w b p (awaiting p x) t refl refl (λ o. o) (no_call x none p))

bind_no : (n k : ℕ) → Bind n ≡ Call k → ⊥
bind_no n k e = absurd (cc)

nothing_no : (k : ℕ) → Nothing ≡ Call k → ⊥
nothing_no k e = absurd (cc)

-- ---- a connection leaves

leave_es : (old new : History) (n : ℕ) (r : Rest) → Settles old (Leave n) r new → Grows old.past new.past
leave_es old new n rest.Stays t = record { es = Leave n ∷ []; is = ap (λ (z : History). z.past) t.1 }
leave_es old new n (rest.Shut items) t = record { es = Shut items ∷ Leave n ∷ []; is = ap (λ (z : History). z.past) t.2 }

leave_who : (old new : History) (n m : ℕ) (r : Rest) → Settles old (Leave n) r new → list_any (leaves m) new.past ≡ ((n == m) || list_any (leaves m) old.past)
leave_who old new n m rest.Stays t = ap (λ (z : History). list_any (leaves m) z.past) t.1
leave_who old new n m (rest.Shut items) t = ap (λ (z : History). list_any (leaves m) z.past) t.2

either : (a b : Bool) → (a || b) ≡ true → (a ≡ true) ⊎ (b ≡ true)
either true b h = inl refl
either false b h = inr h

module _ (service : Service) (w b : World service.State) (p a : Peer) (m : Member) where
  pub leaves_change : 1 ≤ m.group → p.member ≡ Some m → a.name ≡ p.name → a.member ≡ p.member → a.standing ≢ Open → ((k : ℕ) → a.unanswered ≡ Call k → p.unanswered ≡ Call k) → SettlesIn service w m.group (Leave m.number) b
      → Changes w b p a
  leaves_change low is name member gone call t =
      let old : History = journal w m.group in
      let new : History = whole (home_of w m.group) t.past in
      let groups : b.groups ≡ slice_set w.groups (m.group - 1) t.past = ap (λ (z : World service.State). z.groups) t.after in
      let there : (g : ℕ) → (past_of b g ≡ past_of w g) ⊎ ((m.group - 1 ≡ g - 1) × (past_of b g ≡ t.past)) =
      λ g. subst (λ (l : List (List Entry)). (get_or l (g - 1) [] ≡ past_of w g) ⊎ ((m.group - 1 ≡ g - 1) × (get_or l (g - 1) [] ≡ t.past))) (sym groups) (at_set w.groups (m.group - 1) (g - 1) t.past) in
      record {
        name = name;
        peers = ap (λ (z : World service.State). z.peers) t.after;
        grows =
            λ g. elim (there g) [
              | inl e ↦ subst (λ (l : List Entry). Grows (past_of w g) l) (sym e) (stays (past_of w g))
              | inr e ↦ subst (λ (l : List Entry). Grows (past_of w g) l) (sym e.1) (subst (λ (i : ℕ). Grows (get_or w.groups i []) t.past) e.0 (leave_es old new m.number t.rest t.settles))
            ];
        member = member;
        open_ = λ o. absurd (gone o);
        call = λ k n u e. inl (call k u);
        left =
            λ g n up l. elim (there g) [
              | inl e ↦ inl (ap (λ (z : List Entry). list_any (leaves n) z) (sym e) ∙ l)
              | inr e ↦
                  let all : ((m.number == n) || list_any (leaves n) old.past) ≡ true = sym (leave_who old new m.number n t.rest t.settles) ∙ (ap (λ (z : List Entry). list_any (leaves n) z) (sym e.1) ∙ l) in
                  elim (either (m.number == n) (list_any (leaves n) old.past) all) [
                    | inl here ↦
                        let number : m.number ≡ n = elim (eqb_tells m.number n) [ inl r ↦ r.1 | inr r ↦ let f = r.0 in absurd (cc) ] in
                        let at : m.group - 1 ≡ g - 1 = e.0 in
                        let group : m.group ≡ g = omega (arith, at, low, up) in
                        let one : m ≡ record { group = g; number = n } = λ i. record { group = group i; number = number i } in
                        inr (record { is = member ∙ (is ∙ ap (λ (z : Member). Some z) one); gone = gone })
                    | inr before ↦ inl (subst (λ (i : ℕ). list_any (leaves n) (get_or w.groups i []) ≡ true) e.0 before)
                  ]
            ];
      }

pub leaves_its : (service : Service) (w b : World service.State) (c : ℕ) (p a : Peer) (o : Option Member) → Coheres w → peer_at w c ≡ Some p → p.member ≡ o → a.name ≡ p.name → a.member ≡ p.member → a.standing ≢ Open
    → ((k : ℕ) → a.unanswered ≡ Call k → p.unanswered ≡ Call k) → LeavesIts service o w b → Changes w b p a
leaves_its service w b c p a None h was is name member gone call t =
    subst (λ (z : World service.State). Changes w z p a) (sym t) (quiet_change w w p a (goes_none w) name member (λ o. absurd (gone o)) call)
leaves_its service w b c p a (Some m) h was is name member gone call t =
    leaves_change service w b p a m (h.grouped c p m (record { there = was; member = is })) is name member gone call t

-- ---- a call is accepted

set_there : (home : Home) (l : List (List Entry)) (i n : ℕ) (x : List Entry) → has_joined (whole home (get_or l i [])) n ≡ true → get_or (slice_set l i x) i [] ≡ x
set_there home [] i n x h = absurd (cc)
set_there home (y ∷ l) zero n x h = refl
set_there home (y ∷ l) (suc i) n x h = set_there home l i n x h

first_asked : (home : Home) (k : ℕ) (a : Asked) (past : List Entry) → asked (whole home (Accept k a ∷ past)) k ≡ Some a
first_asked home k a past = elim (eqb_tells k k) [ inl e ↦ rw e.0 refl | inr e ↦ absurd (e.1 refl) ]

module _ (service : Service) (w b : World service.State) (c : ℕ) (p : Peer) (m : Member) (j : Joined) (iface k : ℕ) where
  pub call_is : Coheres w → AreSound b → IsAs w c p m → AcceptsRequest service w m j iface k b → IsCallOf (journal b m.group) m k
  call_is h sound i t =
      let a : Asked = numbered (journal w m.group) (asked_as m.number (request j iface) t.slots) in
      let past : List Entry = t.accepts.0 in
      let past_is : past ≡ Accept k a ∷ past_of w m.group = ap (λ (z : History). z.past) t.accepts.1.2 in
      let set : get_or (slice_set w.groups (m.group - 1) past) (m.group - 1) [] ≡ past = set_there (home_of w m.group) w.groups (m.group - 1) m.number past (h.joined c p m i) in
      let groups : t.accepted.groups ≡ slice_set w.groups (m.group - 1) past = ap (λ (z : World service.State). z.groups) t.accepts.2 in
      let now : past_of t.accepted m.group ≡ Accept k a ∷ past_of w m.group = ap (λ (l : List (List Entry)). get_or l (m.group - 1) []) groups ∙ (set ∙ past_is) in
      let goes = marked_goes j.cancel t.accepted b m.group k t.marked in
      record {
        what = a;
        asks =
            asked_grows (home_of t.accepted m.group) (home_of b m.group) k a (past_of t.accepted m.group) (past_of b m.group) (grown_by t.accepted b goes m.group) ((sound m.group (h.grouped c p m i)).legal)
            (subst (λ (l : List Entry). asked (whole (home_of t.accepted m.group) l) k ≡ Some a) (sym now) (first_asked (home_of t.accepted m.group) k a (past_of w m.group)));
        conn = refl;
      }

  accepts_change : (q : Peer) → Coheres w → AreSound b → IsAs w c p m → AcceptsRequest service w m j iface k b → q ≡ awaiting p (Call k) → Changes w b p q
  accepts_change q h sound i t e =
      let goes = goes_twice w t.accepted b (accepts_goes w t.accepted m.group k (asked_as m.number (request j iface) t.slots) t.accepts) (marked_goes j.cancel t.accepted b m.group k t.marked) in
      subst (λ (z : Peer). Changes w b p z) (sym e)
      (record {
        name = refl;
        peers = goes.peers;
        grows = grown_by w b goes;
        member = refl;
        open_ = λ o. o;
        call = λ n x u is. inr (
            let same : x ≡ m = some_is x m (sym is ∙ i.member) in
            let number : k ≡ n = (let f : Call k ≡ Call n = u in cc) in
            subst (λ (z : Member). IsCallOf (journal b z.group) z n) (sym same) (subst (λ (y : ℕ). IsCallOf (journal b m.group) m y) number (call_is h sound i t))
            );
        left = λ g n low l. inl (sym ((goes.pasts g).quiet n) ∙ l);
      })

refused_no : (k : ℕ) (x : Unanswered) → ((n : ℕ) → x ≢ Call n) → x ≡ Call k → ⊥
refused_no k x none e = none k e

-- ---- acts

of_member : (o : Option Member) (P : Member → Type 0) (Q : Type 0) → ((m : Member) → o ≡ Some m → P m → Q) → OfMember o P → Q
of_member None P Q f t = absurd t
of_member (Some m) P Q f t = f m refl t

of_call : (o : Option Member) (x : Unanswered) (P : ℕ → ℕ → Type 0) (Q : Type 0) → ((g k : ℕ) → P g k → Q) → OfCall o x P → Q
of_call None x P Q f t = absurd t
of_call (Some m) Nothing P Q f t = absurd t
of_call (Some m) (Bind n) P Q f t = absurd t
of_call (Some m) (Refused s) P Q f t = absurd t
of_call (Some m) (Call k) P Q f t = f m.group k t

with_goes : {S : Type 0} (w b : World S) (p a : Peer) → a ≡ p → Goes w b → Changes w b p a
with_goes w b p a e t = subst (λ (z : Peer). Changes w b p z) (sym e) (quiet_change w b p p t refl refl (λ o. o) (λ k u. u))

module _ (service : Service) (w b : World service.State) (c : ℕ) (p a : Peer) (h : Coheres w) (sound : AreSound b) (was : peer_at w c ≡ Some p) where
  act_change : (act : Act) → ActMeans service w p act a b → Changes w b p a
  act_change (acts.Answer octets) t = same_change w b p a t.0 t.1
  act_change (acts.Group n) t = awaits w b p a (Bind n) (bind_no n) t.0 (subst (λ (z : World service.State). Goes w z) (sym t.1) (goes_none w))
  act_change (acts.Call j iface) t =
      of_member p.member (λ m. Requests service w p j iface m a b) (Changes w b p a)
      (λ m is r. elim r [
        | inl f ↦ awaits w b p a (Refused f.0) (λ k e. absurd (cc)) f.2 (subst (λ (z : World service.State). Goes w z) (sym f.3) (goes_none w))
        | inr f ↦ accepts_change service w b c p m j iface f.0 a h sound (record { there = was; member = is }) f.1 f.2
      ]) t
  act_change (acts.Cancel id) t = with_goes w b p a t.0 (of_call p.member p.unanswered (λ g k. CancelsIn w g k b) (Goes w b) (λ g k r. cancels_goes w b g k r) t.1)
  act_change (acts.Orphan id) t = with_goes w b p a t.0 (of_call p.member p.unanswered (λ g k. OrphansIn w g k b) (Goes w b) (λ g k r. orphans_goes w b g k r) t.1)
  act_change (acts.Close octets why) t =
      subst (λ (z : Peer). Changes w b p z) (sym t.0)
      (leaves_its service w b c p (closed p) p.member h was refl refl refl (λ e. absurd (cc)) (λ k e. absurd (nothing_no k e)) t.1)

-- ---- decisions

decides_change : (service : Service) (w b : World service.State) (c : ℕ) (p a : Peer) (x : Unanswered) (decision : Decision) → Decides service w p x decision a b
    → ((asked : ℕ) × (bind_refusal w asked ≡ None) × (a ≡ bound p (member_for w asked)) × (b ≡ joined w asked)) ⊎ Changes w b p a
decides_change service w b c p a Nothing decision t = absurd t
decides_change service w b c p a (Bind asked) (ToGroup group) t = inl (asked, t.0, t.2, t.3)
decides_change service w b c p a (Bind asked) (RefuseGroup reason) t =
    inr (subst (λ (z : Peer). Changes w b p z) (sym t.1)
    (subst (λ (z : World service.State). Changes w z p (closed p)) (sym t.2)
    (quiet_change w w p (closed p) (goes_none w) refl refl (λ e. absurd (cc)) (λ k e. absurd (nothing_no k e)))))
decides_change service w b c p a (Bind asked) (Reply said executed) t = absurd t
decides_change service w b c p a (Refused status) decision t =
    inr (awaits w b p a Nothing nothing_no t.0.0 (subst (λ (z : World service.State). Goes w z) (sym t.1) (goes_none w)))
decides_change service w b c p a (Call k) decision t =
    inr (of_member p.member (λ (m : Member). Says service (replies (journal w m.group) k) p a decision) (Changes w b p a) (λ m is s. awaits w b p a Nothing nothing_no s.0 (subst (λ (z : World service.State). Goes w z) (sym t.1) (goes_none w))) t.0)

-- ---- a connection joins

-- the group of a bind that isn't refused was opened, or it is the next one
pub record HasGroup {S : Type 0} (w u : World S) (g : ℕ) : Type 0 where
  pub boot : u.boot ≡ w.boot
  pub peers : u.peers ≡ w.peers
  pub pasts : (h : ℕ) → past_of u h ≡ past_of w h
  pub low : 1 ≤ g
  pub high : g - 1 < length u.groups

more_at : (l : List (List Entry)) (i : ℕ) → get_or (l ++ [] ∷ []) i [] ≡ get_or l i []
more_at [] zero = refl
more_at [] (suc i) = refl
more_at (y ∷ l) zero = refl
more_at (y ∷ l) (suc i) = more_at l i

length_more : (l : List (List Entry)) → length (l ++ [] ∷ []) ≡ suc (length l)
length_more [] = refl
length_more (y ∷ l) = ap suc (length_more l)

known_group : {S : Type 0} (w : World S) (g : ℕ) (b : Bool) → is_open_group w g ≡ b → (if b then by_limit (join_limit (journal w g)) else Some 0) ≡ None → (1 ≤ g) × (g - 1 < length w.groups)
known_group w g true t r =
    let first = and_left (nat_le 1 g && nat_le g (length w.groups)) (goes_on (past_of w g)) t in
    let low = and_left (nat_le 1 g) (nat_le g (length w.groups)) first in
    let high = and_right (nat_le 1 g) (nat_le g (length w.groups)) first in
    let l : 1 ≤ g = grind (arith, common_steps, low) in
    let k : g ≤ length w.groups = grind (arith, common_steps, high) in
    (l, omega (arith, l, k))
known_group w g false t r = absurd (cc)

group_by : {S : Type 0} (w : World S) (n : ℕ) (b : Bool) → (n == 0) ≡ b → (if b then refusal_new w else refusal_known w n) ≡ None
    → HasGroup w (if b then record w { groups = w.groups ++ [] ∷ [] } else w) (if b then length w.groups + 1 else n)
group_by w n true t r = record {
  boot = refl;
  peers = refl;
  pasts = λ h. more_at w.groups (h - 1);
  low = omega arith;
  high = let e = length_more w.groups in omega (arith, e);
}
group_by w n false t r = let k = known_group w n (is_open_group w n) refl r in record { boot = refl; peers = refl; pasts = λ h. refl; low = k.0; high = k.1 }

pub group_of : {S : Type 0} (w : World S) (n : ℕ) → bind_refusal w n ≡ None → HasGroup w (with_group_for w n) (group_for w n)
group_of w n r = group_by w n (n == 0) refl r

set_in : (l : List (List Entry)) (i : ℕ) (x : List Entry) → i < length l → get_or (slice_set l i x) i [] ≡ x
set_in [] i x low = absurd (omega arith)
set_in (y ∷ l) zero x low = refl
set_in (y ∷ l) (suc i) x low = set_in l i x (omega arith)

first_joins : (n : ℕ) (rest : Bool) → ((n == n) || rest) ≡ true
first_joins n rest = elim (eqb_tells n n) [ inl e ↦ rw e.0 refl | inr e ↦ absurd (e.1 refl) ]

module _ {S : Type 0} (w u : World S) (g c : ℕ) (p q : Peer) (lines : List Printed) (s : HasGroup w u g) (sound : AreSound w) where
  abbrev in_group : World S
  in_group = with_past u g (Join (join_count (journal u g) + 1) ∷ past_of u g)

  fresh : has_joined (journal w g) (join_count (journal u g) + 1) ≡ false
  fresh =
      false_from_ne_true (has_joined (journal w g) (join_count (journal u g) + 1)) (λ h.
      let low = joined_within (home_of w g) empty_base (past_of w g) (join_count (journal u g) + 1) ((sound g s.low).legal) h in
      let same : join_count (journal u g) ≡ join_count (journal w g) = ap (λ (l : List Entry). join_count (whole (home_of w g) l)) (s.pasts g) in
      absurd (omega (arith, low, same)))

  unleft : list_any (leaves (join_count (journal u g) + 1)) (past_of w g) ≡ false
  unleft =
      false_from_ne_true (list_any (leaves (join_count (journal u g) + 1)) (past_of w g)) (λ h.
      let t = left_joined (home_of w g) empty_base (past_of w g) (join_count (journal u g) + 1) ((sound g s.low).legal) h in
      let f = fresh in absurd (cc (t, f)))

  now : (h : ℕ) → (past_of in_group h ≡ past_of w h) ⊎ ((g - 1 ≡ h - 1) × (past_of in_group h ≡ Join (join_count (journal u g) + 1) ∷ past_of w h))
  now h =
      elim (at_set u.groups (g - 1) (h - 1) (Join (join_count (journal u g) + 1) ∷ past_of u g)) [
        | inl e ↦ inl (e ∙ s.pasts h)
        | inr e ↦ inr (e.0, e.1 ∙ ap (λ (l : List Entry). Join (join_count (journal u g) + 1) ∷ l) (ap (λ (i : ℕ). get_or u.groups i []) e.0 ∙ s.pasts h))
      ]

  here : past_of in_group g ≡ Join (join_count (journal u g) + 1) ∷ past_of w g
  here = set_in u.groups (g - 1) (Join (join_count (journal u g) + 1) ∷ past_of u g) s.high ∙ ap (λ (l : List Entry). Join (join_count (journal u g) + 1) ∷ l) (s.pasts g)

  pub joins_it : peer_at w c ≡ Some p → q.name ≡ p.name → q.member ≡ Some (record { group = g; number = join_count (journal u g) + 1 }) → ((k : ℕ) → q.unanswered ≢ Call k)
      → Joins w (put_back w in_group c p q lines) c p q (record { group = g; number = join_count (journal u g) + 1 })
  joins_it was name member none = record {
    moves =
        moved w in_group c p q lines was name s.peers
        (λ h. elim (now h) [
          | inl e ↦ record { es = []; is = e }
          | inr e ↦ record { es = Join (join_count (journal u g) + 1) ∷ []; is = e.1 }
        ]);
    low = s.low;
    member = member;
    no_call = none;
    fresh = fresh;
    joined =
        subst (λ (l : List Entry). has_joined (whole (home_of in_group g) l) (join_count (journal u g) + 1) ≡ true) (sym here)
        (first_joins (join_count (journal u g) + 1) (has_joined (whole (home_of in_group g) (past_of w g)) (join_count (journal u g) + 1)));
    unleft = ap (λ (l : List Entry). list_any (leaves (join_count (journal u g) + 1)) l) here ∙ unleft;
    quiet = λ h m. elim (now h) [ inl e ↦ ap (λ (l : List Entry). list_any (leaves m) l) e | inr e ↦ ap (λ (l : List Entry). list_any (leaves m) l) e.1 ];
  }

-- ---- an event

module _ (service : Service) (w b : World service.State) (c : ℕ) (p a : Peer) (event : Event) (state : ConnState) (lines : List Printed) where
  abbrev then_ : World service.State
  then_ = printing (with_peer b (lived service a event state)) lines

  pub changes_keep : Coheres w → AreSound b → peer_at w c ≡ Some p → Changes w b p a → Coheres then_
  changes_keep h sound was t =
      keeps w then_ c p (lived service a event state)
      (record { moves = moved w b c p (lived service a event state) lines was t.name t.peers t.grows; member = t.member; open_ = t.open_; call = t.call; left = t.left }) h sound

  means_keeps : Coheres w → AreSound w → AreSound b → peer_at w c ≡ Some p → Means service w p event a b → Coheres then_
  means_keeps h before sound was t = by event t
    where
      by : (e : Event) → Means service w p e a b → Coheres then_
      by (Came octets) t = changes_keep h sound was (same_change w b p a t.0 t.1)
      by Paused t = changes_keep h sound was (same_change w b p a t.1 t.2)
      by (Did act) t = changes_keep h sound was (act_change service w b c p a h sound was act t.1)
      by (Decided decision octets) t =
          elim (decides_change service w b c p a p.unanswered decision t.1) [
            | inl j ↦
                let s = group_of w j.0 j.1 in
                let at : World service.State = with_group_for w j.0 in
                subst (λ (z : World service.State). AreSound z → Coheres (printing (with_peer z (lived service a event state)) lines)) (sym j.3)
                (λ now. keeps_joined w (put_back w (joined w j.0) c p (lived service a event state) lines) c p (lived service a event state) (member_for w j.0)
                (joins_it w at (group_for w j.0) c p (lived service a event state) lines s before was (ap (λ (z : Peer). z.name) j.2) (ap (λ (z : Peer). z.member) j.2)
                (λ k e. nothing_no k (sym (ap (λ (z : Peer). z.unanswered) j.2) ∙ e))) h now) sound
            | inr k ↦ changes_keep h sound was k
          ]

pub events_keep : (service : Service) (c : ℕ) (w v : World service.State) (event : Event) → AreSound w → AreSound v → HappensOn service c w event v → Coheres w → Coheres v
events_keep service c w v event before sound t h =
    subst (λ (z : World service.State). AreSound z → Coheres z) (sym t.then_)
    (λ now. means_keeps service w t.between c t.peer t.after event t.state t.lines h before now t.there t.means) sound

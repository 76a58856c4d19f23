-- Worlds of a replay, one behind the other: journals go on, and each that is sound at the end was sound before.
use Rattle.std.proofs.Common.{◌≡◌, ◌≢◌, ◌==◌, ℕ, zero, suc, ◌-◌, ◌≤◌, Bool, true, false, if◌then◌else◌, Option, Some, None, Ok, List, [], ◌∷◌, ◌++◌, length, get_or, slice_set, refl, sym, ap, subst, ◌∙◌, inl, inr, arith}
use Rattle.handle_model.specs.declared.entry.Home.{Home}
use Rattle.handle_model.specs.declared.entry.DueItem.{DueItem}
use Rattle.handle_model.specs.declared.entry.Asked.{Asked}
use Rattle.handle_model.specs.declared.entry.Entry.{Entry}
use Rattle.handle_model.specs.declared.entry.Entry.TheVariants.{Join, Accept, Take, Deny, Cancel, Orphan, Leave, Shut}
use Rattle.handle_model.specs.Entries.{is_shut}
use Rattle.handle_model.specs.History.{History, IsSound}
use Rattle.conn_asks.specs.declared.events.Act.{Act}
use Rattle.conn_asks.specs.declared.events.Act.TheVariants as acts
use Rattle.conn_histories.specs.Histories.{Decision, Event}
use Rattle.conn_histories.specs.Histories.Event.{Came, Paused, Did, Decided}
use Rattle.conn_histories.specs.Histories.Decision.{ToGroup, RefuseGroup, Reply}
use Rattle.group_core.specs.declared.answer.Taking.{Taking}
use Rattle.group_core.specs.declared.answer.Taking.TheVariants as taking
use Rattle.group_core.specs.declared.answer.Cancelled.{Cancelled as CancelAnswer}
use Rattle.group_core.specs.declared.answer.Cancelled.TheVariants as cancelled
use Rattle.group_core.specs.declared.answer.Orphaned.{Orphaned as OrphanAnswer}
use Rattle.group_core.specs.declared.answer.Orphaned.TheVariants as orphaned
use Rattle.group_core.specs.declared.answer.Rest.{Rest}
use Rattle.group_core.specs.declared.answer.Rest.TheVariants as rest
use Rattle.group_core.specs.Adds.{Adds}
use Rattle.group_core.specs.Calls.{Accepts, Takes, Cancels, Orphans, numbered}
use Rattle.group_core.specs.Conns.{Settles}
use Rattle.replay_world.specs.declared.peer.Member.{Member}
use Rattle.replay_world.specs.declared.peer.Unanswered.{Unanswered}
use Rattle.replay_world.specs.declared.peer.Unanswered.TheVariants.{Nothing, Bind, Refused, Call}
use Rattle.replay_world.specs.Services.{Service}
use Rattle.replay_world.specs.Worlds.{Peer, World, home_of, past_of, journal}
use Rattle.replay_world.specs.Moments.{AreSound}
use Rattle.replay_world.specs.Groups.{group_for, with_group_for, next_conn, joined, GoesOn, AcceptsIn, CancelsIn, OrphansIn, CancelsMarked, SettlesIn}
use Rattle.replay_world.specs.Events.{OfMember, OfCall, LeavesIts, Requests, ActMeans, Says, Decides, Means}
use Rattle.handle_model.specs.Journal.{Legal, Allowed, due, cookies_for, slots}
use Rattle.handle_model.specs.Limits.{join_limit}
use Rattle.conn_histories.specs.Tales.{whole}
use Rattle.replay_world.specs.Promised.{WasCrowded}
use Rattle.replay_world.proofs.Pasts.{Grows, stays, grows_twice, at_set}

-- ---- one journal

-- where the newer one is sound, the older one was
abbrev pub Back : List Entry → List Entry → Type 0
Back old new = (home : Home) → IsSound (whole home new) → IsSound (whole home old)

pub record Goes (old new : List Entry) : Type 0 where
  pub grows : Grows old new
  pub back : Back old new

pub goes_none : (past : List Entry) → Goes past past
goes_none past = record { grows = stays past; back = λ home s. s }

pub goes_twice : (a b c : List Entry) → Goes a b → Goes b c → Goes a c
goes_twice a b c g h = record { grows = grows_twice a b c g.grows h.grows; back = λ home s. g.back home (h.back home s) }

not_due : (home : Home) (old : List Entry) (e : Entry) (b : Bool) → due (whole home old) ≡ b → is_shut e ≡ false → Allowed (whole home old) e → due (whole home old) ≡ false
not_due home old e true is other a = let shut = a.shut_when_due is in absurd (cc (shut, other))
not_due home old e false is other a = is

goes_one : (old : List Entry) (e : Entry) → is_shut e ≡ false → Goes old (e ∷ old)
goes_one old e other = record {
  grows = record { es = e ∷ []; is = refl };
  back = λ home s. record { legal = s.legal.1; settled = not_due home old e (due (whole home old)) refl other s.legal.0 };
}

goes_shut : (old : List Entry) (e : Entry) (items : List DueItem) → is_shut e ≡ false → Goes old (Shut items ∷ e ∷ old)
goes_shut old e items other = record {
  grows = record { es = Shut items ∷ e ∷ []; is = refl };
  back = λ home s. record { legal = s.legal.1.1; settled = not_due home old e (due (whole home old)) refl other s.legal.1.0 };
}

by_adds : (old new : History) (es : List Entry) → Adds old es new → Goes old.past (es ++ old.past) → Goes old.past new.past
by_adds old new es adds g = subst (λ (l : List Entry). Goes old.past l) (sym (ap (λ (z : History). z.past) adds)) g

accepts_goes : (old new : History) (a : Asked) (k : ℕ) → Accepts old a (Ok k) new → Goes old.past new.past
accepts_goes old new a k t = by_adds old new (Accept k (numbered old a) ∷ []) t.2 (goes_one old.past (Accept k (numbered old a)) refl)

takes_goes : (old new : History) (k : ℕ) (r : Taking) → Takes old k r new → Goes old.past new.past
takes_goes old new k (taking.Run row serial) t = by_adds old new (Take k (cookies_for old (slots old k)) ∷ []) t.5 (goes_one old.past _ refl)
takes_goes old new k (taking.Denied slot) t = by_adds old new (Deny k slot ∷ []) t.3 (goes_one old.past _ refl)
takes_goes old new k taking.Dropped t = by_adds old new [] t.1 (goes_none old.past)
takes_goes old new k (taking.Wait m) t = by_adds old new [] t.2 (goes_none old.past)

cancels_goes : (old new : History) (k : ℕ) (r : CancelAnswer) → Cancels old k r new → Goes old.past new.past
cancels_goes old new k cancelled.Ended t = by_adds old new (Cancel k ∷ []) t.1 (goes_one old.past _ refl)
cancels_goes old new k cancelled.Flagged t = by_adds old new (Cancel k ∷ []) t.1 (goes_one old.past _ refl)
cancels_goes old new k cancelled.Late t = by_adds old new [] t.2 (goes_none old.past)

orphans_goes : (old new : History) (k : ℕ) (r : OrphanAnswer) → Orphans old k r new → Goes old.past new.past
orphans_goes old new k orphaned.Dropped t = by_adds old new (Orphan k ∷ []) t.1 (goes_one old.past _ refl)
orphans_goes old new k orphaned.Running t = by_adds old new (Orphan k ∷ []) t.1 (goes_one old.past _ refl)
orphans_goes old new k orphaned.Late t = by_adds old new [] t.2 (goes_none old.past)

settles_goes : (old new : History) (e : Entry) (r : Rest) → is_shut e ≡ false → Settles old e r new → Goes old.past new.past
settles_goes old new e rest.Stays other t = by_adds old new (e ∷ []) t.1 (goes_one old.past e other)
settles_goes old new e (rest.Shut items) other t = by_adds old new (Shut items ∷ e ∷ []) t.2 (goes_shut old.past e items other)

-- ---- worlds

pub record Reaches {S : Type 0} (w v : World S) : Type 0 where
  pub boot : v.boot ≡ w.boot
  pub pasts : (g : ℕ) → Goes (past_of w g) (past_of v g)
  pub count : length w.groups ≤ length v.groups

pub reaches_none : {S : Type 0} (w : World S) → Reaches w w
reaches_none w = record { boot = refl; pasts = λ g. goes_none (past_of w g); count = omega arith }

pub reaches_twice : {S : Type 0} (w u v : World S) → Reaches w u → Reaches u v → Reaches w v
reaches_twice w u v a b = record {
  boot = b.boot ∙ a.boot;
  pasts = λ g. goes_twice (past_of w g) (past_of u g) (past_of v g) (a.pasts g) (b.pasts g);
  count = let x = a.count in let y = b.count in omega (arith, x, y);
}

-- the same groups under the same boot word
pub reaches_same : {S : Type 0} (w v : World S) → v.boot ≡ w.boot → v.groups ≡ w.groups → Reaches w v
reaches_same w v boot groups = record {
  boot = boot;
  pasts = λ g. subst (λ (l : List (List Entry)). Goes (past_of w g) (get_or l (g - 1) [])) (sym groups) (goes_none (past_of w g));
  count = subst (λ (l : List (List Entry)). length w.groups ≤ length l) (sym groups) (omega arith);
}

length_set : (l : List (List Entry)) (i : ℕ) (x : List Entry) → length (slice_set l i x) ≡ length l
length_set [] i x = refl
length_set (y ∷ l) zero x = refl
length_set (y ∷ l) (suc i) x = ap suc (length_set l i x)

set_goes : {S : Type 0} (w : World S) (g h : ℕ) (past : List Entry) → Goes (past_of w g) past → Goes (past_of w h) (get_or (slice_set w.groups (g - 1) past) (h - 1) [])
set_goes w g h past q =
    elim (at_set w.groups (g - 1) (h - 1) past) [
      | inl e ↦ subst (λ (l : List Entry). Goes (past_of w h) l) (sym e) (goes_none (past_of w h))
      | inr e ↦ subst (λ (l : List Entry). Goes (past_of w h) l) (sym e.1) (subst (λ (i : ℕ). Goes (get_or w.groups i []) past) e.0 q)
    ]

-- one journal goes on
pub reaches_by : {S : Type 0} (w v : World S) (g : ℕ) (past : List Entry) → v.boot ≡ w.boot → v.groups ≡ slice_set w.groups (g - 1) past → Goes (past_of w g) past → Reaches w v
reaches_by w v g past boot groups q = record {
  boot = boot;
  pasts = λ h. subst (λ (l : List (List Entry)). Goes (past_of w h) (get_or l (h - 1) [])) (sym groups) (set_goes w g h past q);
  count = let e = ap length groups ∙ length_set w.groups (g - 1) past in omega (arith, e);
}

pub reaches_on : {S : Type 0} (Says : History → History → Type 0) (w v : World S) (g : ℕ) → ((x y : History) → Says x y → Goes x.past y.past) → GoesOn Says w g v → Reaches w v
reaches_on Says w v g goes t =
    reaches_by w v g t.0 (ap (λ (z : World _). z.boot) t.2) (ap (λ (z : World _). z.groups) t.2) (goes (journal w g) (whole (home_of w g) t.0) t.1)

pub accepts_reach : {S : Type 0} (w v : World S) (g k : ℕ) (a : Asked) → AcceptsIn w g a k v → Reaches w v
accepts_reach w v g k a t = reaches_on (λ old new. Accepts old a (Ok k) new) w v g (λ x y s. accepts_goes x y a k s) t

pub cancels_reach : {S : Type 0} (w v : World S) (g k : ℕ) → CancelsIn w g k v → Reaches w v
cancels_reach w v g k t = reaches_on (λ old new. (answer : CancelAnswer) × Cancels old k answer new) w v g (λ x y s. cancels_goes x y k s.0 s.1) t

pub orphans_reach : {S : Type 0} (w v : World S) (g k : ℕ) → OrphansIn w g k v → Reaches w v
orphans_reach w v g k t = reaches_on (λ old new. (answer : OrphanAnswer) × Orphans old k answer new) w v g (λ x y s. orphans_goes x y k s.0 s.1) t

pub takes_reach : {S : Type 0} (w v : World S) (g k : ℕ) (r : Taking) → GoesOn (λ old new. Takes old k r new) w g v → Reaches w v
takes_reach w v g k r t = reaches_on (λ old new. Takes old k r new) w v g (λ x y s. takes_goes x y k r s) t

pub marked_reach : {S : Type 0} (b : Bool) (w v : World S) (g k : ℕ) → CancelsMarked b w g k v → Reaches w v
marked_reach true w v g k t = cancels_reach w v g k t
marked_reach false w v g k t = subst (λ (z : World _). Reaches w z) (sym t) (reaches_none w)

pub settles_reach : (service : Service) (w v : World service.State) (g : ℕ) (e : Entry) → is_shut e ≡ false → SettlesIn service w g e v → Reaches w v
settles_reach service w v g e other t =
    reaches_by w v g t.past (ap (λ (z : World service.State). z.boot) t.after) (ap (λ (z : World service.State). z.groups) t.after)
    (settles_goes (journal w g) (whole (home_of w g) t.past) e t.rest other t.settles)

-- ---- a connection joins

more_at : (l : List (List Entry)) (i : ℕ) → get_or (l ++ [] ∷ []) i [] ≡ get_or l i []
more_at [] zero = refl
more_at [] (suc i) = refl
more_at (y ∷ l) zero = refl
more_at (y ∷ l) (suc i) = more_at l i

length_more : (l : List (List Entry)) → length (l ++ [] ∷ []) ≡ suc (length l)
length_more [] = refl
length_more (y ∷ l) = ap suc (length_more l)

opened_by : {S : Type 0} (w : World S) (b : Bool) → Reaches w (if b then record w { groups = w.groups ++ [] ∷ [] } else w)
opened_by w true = record {
  boot = refl;
  pasts = λ g. subst (λ (l : List Entry). Goes (past_of w g) l) (sym (more_at w.groups (g - 1))) (goes_none (past_of w g));
  count = let e = length_more w.groups in omega (arith, e);
}
opened_by w false = reaches_none w

pub joined_reach : {S : Type 0} (w : World S) (asked : ℕ) → Reaches w (joined w asked)
joined_reach w asked =
    let u : World _ = with_group_for w asked in
    let g = group_for w asked in
    let e : Entry = Join (next_conn u g) in
    reaches_twice w u (joined w asked) (opened_by w (asked == 0))
    (reaches_by u (joined w asked) g (e ∷ past_of u g) refl refl (goes_one (past_of u g) e refl))

-- ---- what an event means

pub of_member : (o : Option Member) (P : Member → Type 0) (Q : Type 0) → ((m : Member) → P m → Q) → OfMember o P → Q
of_member None P Q f t = absurd t
of_member (Some m) P Q f t = f m t

pub of_call : (o : Option Member) (x : Unanswered) (P : ℕ → ℕ → Type 0) (Q : Type 0) → ((g k : ℕ) → P g k → Q) → OfCall o x P → Q
of_call None x P Q f t = absurd t
of_call (Some m) Nothing P Q f t = absurd t
of_call (Some m) (Bind n) P Q f t = absurd t
of_call (Some m) (Refused s) P Q f t = absurd t
of_call (Some m) (Call k) P Q f t = f m.group k t

pub leaves_reach : (service : Service) (w b : World service.State) (o : Option Member) → LeavesIts service o w b → Reaches w b
leaves_reach service w b None t = subst (λ (z : World service.State). Reaches w z) (sym t) (reaches_none w)
leaves_reach service w b (Some m) t = settles_reach service w b m.group (Leave m.number) refl t

module _ (service : Service) (w b : World service.State) (p a : Peer) where
  same_reach : b ≡ w → Reaches w b
  same_reach e = subst (λ (z : World service.State). Reaches w z) (sym e) (reaches_none w)

  act_reach : (act : Act) → ActMeans service w p act a b → Reaches w b
  act_reach (acts.Answer octets) t = same_reach t.1
  act_reach (acts.Group n) t = same_reach t.1
  act_reach (acts.Call j iface) t =
      of_member p.member (λ m. Requests service w p j iface m a b) (Reaches w b)
      (λ m r. elim r [
        | inl f ↦ same_reach f.3
        | inr f ↦ reaches_twice w f.1.accepted b (accepts_reach w f.1.accepted m.group f.0 _ f.1.accepts) (marked_reach j.cancel f.1.accepted b m.group f.0 f.1.marked)
      ]) t
  act_reach (acts.Cancel id) t = of_call p.member p.unanswered (λ g k. CancelsIn w g k b) (Reaches w b) (λ g k r. cancels_reach w b g k r) t.1
  act_reach (acts.Orphan id) t = of_call p.member p.unanswered (λ g k. OrphansIn w g k b) (Reaches w b) (λ g k r. orphans_reach w b g k r) t.1
  act_reach (acts.Close octets why) t = leaves_reach service w b p.member t.1

  decides_reach : (x : Unanswered) (decision : Decision) → Decides service w p x decision a b → Reaches w b
  decides_reach Nothing decision t = absurd t
  decides_reach (Bind asked) (ToGroup group) t = subst (λ (z : World service.State). Reaches w z) (sym t.3) (joined_reach w asked)
  decides_reach (Bind asked) (RefuseGroup reason) t = same_reach t.2
  decides_reach (Bind asked) (Reply said executed) t = absurd t
  decides_reach (Refused status) decision t = same_reach t.1
  decides_reach (Call k) decision t = same_reach t.1

  pub means_reach : (event : Event) → Means service w p event a b → Reaches w b
  means_reach (Came octets) t = same_reach t.1
  means_reach Paused t = same_reach t.2
  means_reach (Did act) t = act_reach act t.1
  means_reach (Decided decision octets) t = decides_reach p.unanswered decision t.1

-- ---- before the end

pub record Below {S : Type 0} (end w : World S) : Type 0 where
  pub reaches : Reaches w end
  pub sound : AreSound w
  pub legal : (g : ℕ) → 1 ≤ g → Legal (whole (home_of end g) (past_of w g))

pub below : {S : Type 0} (end w : World S) → AreSound end → Reaches w end → Below end w
below end w s r = record {
  reaches = r;
  sound =
      λ g low.
      let here : IsSound (whole (home_of end g) (past_of w g)) = (r.pasts g).back (home_of end g) (s g low) in
      subst (λ (b : ℕ). IsSound (whole (record { boot = b; group = g }) (past_of w g))) r.boot here;
  legal = λ g low. ((r.pasts g).back (home_of end g) (s g low)).legal;
}

pub crowded : {S : Type 0} (w v : World S) (g : ℕ) → Reaches w v → join_limit (journal w g) ≢ None → WasCrowded v g
crowded w v g r limited = record {
  newer = (r.pasts g).grows.es;
  older = past_of w g;
  moment = (r.pasts g).grows.is;
  limited = subst (λ (b : ℕ). join_limit (whole (record { boot = b; group = g }) (past_of w g)) ≢ None) (sym r.boot) limited;
}

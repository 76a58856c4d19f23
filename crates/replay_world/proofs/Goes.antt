-- What comes into the journals of a replay, where no connection leaves.
use Rattle.std.proofs.Common.{◌≡◌, ℕ, ◌-◌, Bool, true, false, ◌||◌, Some, None, Ok, Result, List, [], ◌∷◌, ◌++◌, get_or, slice_set, refl, sym, ap, subst, ◌∙◌, inl, inr}
use Rattle.std.specs.List.{list_any}
use Rattle.handle_model.specs.declared.entry.Asked.{Asked}
use Rattle.handle_model.specs.declared.entry.Outcome.{Outcome}
use Rattle.handle_model.specs.declared.entry.Said.{Said}
use Rattle.handle_model.specs.declared.entry.Entry.{Entry}
use Rattle.handle_model.specs.declared.entry.Entry.TheVariants.{Accept, Take, Deny, Cancel, Orphan, End, Leave, Shut}
use Rattle.handle_model.specs.History.{History}
use Rattle.handle_model.specs.Journal.{leaves, cookies_for, slots}
use Rattle.conn_histories.specs.Tales.{whole}
use Rattle.group_core.specs.declared.answer.Taking.{Taking}
use Rattle.group_core.specs.declared.answer.Taking.TheVariants as taking
use Rattle.group_core.specs.declared.answer.Cancelled.{Cancelled}
use Rattle.group_core.specs.declared.answer.Cancelled.TheVariants as cancelled
use Rattle.group_core.specs.declared.answer.Orphaned.{Orphaned}
use Rattle.group_core.specs.declared.answer.Orphaned.TheVariants as orphaned
use Rattle.group_core.specs.declared.answer.Rest.{Rest}
use Rattle.group_core.specs.declared.answer.Rest.TheVariants as rest
use Rattle.group_core.specs.Adds.{Adds}
use Rattle.group_core.specs.Calls.{Accepts, Takes, Cancels, Orphans, numbered}
use Rattle.group_core.specs.Conns.{Settles}
use Rattle.replay_world.specs.Services.{Service}
use Rattle.replay_world.specs.Worlds.{World, home_of, past_of, journal, with_past}
use Rattle.replay_world.specs.Groups.{GoesOn, AcceptsIn, CancelsIn, OrphansIn, CancelsMarked, SettlesIn}
use Rattle.replay_world.proofs.Pasts.{Grows, stays, grows_twice, at_set}

-- further entries, of which none is a Leave
pub record Quietly (old new : List Entry) : Type 0 where
  pub es : List Entry
  pub is : new ≡ es ++ old
  pub quiet : (n : ℕ) → list_any (leaves n) new ≡ list_any (leaves n) old

pub quietly_none : (past : List Entry) → Quietly past past
quietly_none past = record { es = []; is = refl; quiet = λ n. refl }

by_adds : (old new : History) (es : List Entry) → Adds old es new → ((n : ℕ) → list_any (leaves n) (es ++ old.past) ≡ list_any (leaves n) old.past) → Quietly old.past new.past
by_adds old new es adds q = record { es = es; is = ap (λ (z : History). z.past) adds; quiet = λ n. ap (λ (z : History). list_any (leaves n) z.past) adds ∙ q n }

pub accepts_quietly : (old new : History) (a : Asked) (k : ℕ) → Accepts old a (Ok k) new → Quietly old.past new.past
accepts_quietly old new a k t = by_adds old new (Accept k (numbered old a) ∷ []) t.2 (λ n. refl)

pub takes_quietly : (old new : History) (k : ℕ) (r : Taking) → Takes old k r new → Quietly old.past new.past
takes_quietly old new k (taking.Run row serial) t = by_adds old new (Take k (cookies_for old (slots old k)) ∷ []) t.5 (λ n. refl)
takes_quietly old new k (taking.Denied slot) t = by_adds old new (Deny k slot ∷ []) t.3 (λ n. refl)
takes_quietly old new k taking.Dropped t = by_adds old new [] t.1 (λ n. refl)
takes_quietly old new k (taking.Wait m) t = by_adds old new [] t.2 (λ n. refl)

pub cancels_quietly : (old new : History) (k : ℕ) (r : Cancelled) → Cancels old k r new → Quietly old.past new.past
cancels_quietly old new k cancelled.Ended t = by_adds old new (Cancel k ∷ []) t.1 (λ n. refl)
cancels_quietly old new k cancelled.Flagged t = by_adds old new (Cancel k ∷ []) t.1 (λ n. refl)
cancels_quietly old new k cancelled.Late t = by_adds old new [] t.2 (λ n. refl)

pub orphans_quietly : (old new : History) (k : ℕ) (r : Orphaned) → Orphans old k r new → Quietly old.past new.past
orphans_quietly old new k orphaned.Dropped t = by_adds old new (Orphan k ∷ []) t.1 (λ n. refl)
orphans_quietly old new k orphaned.Running t = by_adds old new (Orphan k ∷ []) t.1 (λ n. refl)
orphans_quietly old new k orphaned.Late t = by_adds old new [] t.2 (λ n. refl)

pub ends_quietly : (old new : History) (k : ℕ) (results : List Outcome) (said : Said) (r : Rest) → Settles old (End k results said) r new → Quietly old.past new.past
ends_quietly old new k results said rest.Stays t = by_adds old new (End k results said ∷ []) t.1 (λ n. refl)
ends_quietly old new k results said (rest.Shut items) t = by_adds old new (Shut items ∷ End k results said ∷ []) t.2 (λ n. refl)

-- ---- worlds

-- journals go on, and connections and the boot word stay
pub record Goes {S : Type 0} (w v : World S) : Type 0 where
  pub boot : v.boot ≡ w.boot
  pub peers : v.peers ≡ w.peers
  pub pasts : (h : ℕ) → Quietly (past_of w h) (past_of v h)

pub goes_none : {S : Type 0} (w : World S) → Goes w w
goes_none w = record { boot = refl; peers = refl; pasts = λ h. quietly_none (past_of w h) }

pub quietly_twice : (a b c : List Entry) → Quietly a b → Quietly b c → Quietly a c
quietly_twice a b c g h =
    let both = grows_twice a b c (record { es = g.es; is = g.is }) (record { es = h.es; is = h.is }) in
    record { es = both.es; is = both.is; quiet = λ n. h.quiet n ∙ g.quiet n }

pub goes_twice : {S : Type 0} (w u v : World S) → Goes w u → Goes u v → Goes w v
goes_twice w u v g h = record {
  boot = h.boot ∙ g.boot;
  peers = h.peers ∙ g.peers;
  pasts = λ n. quietly_twice (past_of w n) (past_of u n) (past_of v n) (g.pasts n) (h.pasts n);
}

set_quietly : {S : Type 0} (w : World S) (g h : ℕ) (past : List Entry) → Quietly (past_of w g) past → Quietly (past_of w h) (past_of (with_past w g past) h)
set_quietly w g h past q =
    elim (at_set w.groups (g - 1) (h - 1) past) [
      | inl e ↦ subst (λ (l : List Entry). Quietly (past_of w h) l) (sym e) (quietly_none (past_of w h))
      | inr e ↦ subst (λ (l : List Entry). Quietly (past_of w h) l) (sym e.1) (subst (λ (i : ℕ). Quietly (get_or w.groups i []) past) e.0 q)
    ]

pub set_goes : {S : Type 0} (w v : World S) (g : ℕ) (past : List Entry) → Quietly (past_of w g) past → v ≡ with_past w g past → Goes w v
set_goes w v g past q e = subst (λ (z : World _). Goes w z) (sym e) (record { boot = refl; peers = refl; pasts = λ h. set_quietly w g h past q })

pub going : {S : Type 0} (Says : History → History → Type 0) (w v : World S) (g : ℕ) → ((x y : History) → Says x y → Quietly x.past y.past) → GoesOn Says w g v → Goes w v
going Says w v g quietly t = set_goes w v g t.0 (quietly (journal w g) (whole (home_of w g) t.0) t.1) t.2

pub accepts_goes : {S : Type 0} (w v : World S) (g k : ℕ) (a : Asked) → AcceptsIn w g a k v → Goes w v
accepts_goes w v g k a t = going (λ old new. Accepts old a (Ok k) new) w v g (λ x y s. accepts_quietly x y a k s) t

pub cancels_goes : {S : Type 0} (w v : World S) (g k : ℕ) → CancelsIn w g k v → Goes w v
cancels_goes w v g k t = going (λ old new. (answer : Cancelled) × Cancels old k answer new) w v g (λ x y s. cancels_quietly x y k s.0 s.1) t

pub orphans_goes : {S : Type 0} (w v : World S) (g k : ℕ) → OrphansIn w g k v → Goes w v
orphans_goes w v g k t = going (λ old new. (answer : Orphaned) × Orphans old k answer new) w v g (λ x y s. orphans_quietly x y k s.0 s.1) t

pub takes_goes : {S : Type 0} (w v : World S) (g k : ℕ) (r : Taking) → GoesOn (λ old new. Takes old k r new) w g v → Goes w v
takes_goes w v g k r t = going (λ old new. Takes old k r new) w v g (λ x y s. takes_quietly x y k r s) t

pub marked_goes : {S : Type 0} (b : Bool) (w v : World S) (g k : ℕ) → CancelsMarked b w g k v → Goes w v
marked_goes true w v g k t = cancels_goes w v g k t
marked_goes false w v g k t = subst (λ (z : World _). Goes w z) (sym t) (goes_none w)

pub ends_goes : (service : Service) (w v : World service.State) (g k : ℕ) (results : List Outcome) (said : Said) → SettlesIn service w g (End k results said) v → Goes w v
ends_goes service w v g k results said t =
    let q = ends_quietly (journal w g) (whole (home_of w g) t.past) k results said t.rest t.settles in
    subst (λ (z : World service.State). Goes w z) (sym t.after)
    (record { boot = refl; peers = refl; pasts = λ h. set_quietly w g h t.past q })

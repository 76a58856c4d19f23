-- Worlds whose journals go on, where no other calls than some are taken, and no other calls than some are orphaned.
use Rattle.std.proofs.Common.{◌≡◌, ℕ, ◌-◌, Bool, true, false, Option, Some, None, Ok, List, [], ◌∷◌, ◌++◌, get_or, slice_set, refl, sym, ap, subst, ◌∙◌, inl, inr}
use Rattle.handle_model.specs.declared.entry.Asked.{Asked}
use Rattle.handle_model.specs.declared.entry.Outcome.{Outcome}
use Rattle.handle_model.specs.declared.entry.Said.{Said}
use Rattle.handle_model.specs.declared.entry.Entry.{Entry}
use Rattle.handle_model.specs.declared.entry.Entry.TheVariants.{Join, Accept, Take, Deny, Cancel, Orphan, End, Leave, Shut}
use Rattle.handle_model.specs.History.{History}
use Rattle.conn_histories.specs.Tales.{whole}
use Rattle.group_core.specs.declared.answer.Taking.{Taking}
use Rattle.group_core.specs.declared.answer.Cancelled.{Cancelled}
use Rattle.group_core.specs.declared.answer.Orphaned.{Orphaned}
use Rattle.group_core.specs.Calls.{Accepts, Takes, Cancels, Orphans}
use Rattle.replay_world.specs.declared.peer.Member.{Member}
use Rattle.replay_world.specs.Services.{Service}
use Rattle.replay_world.specs.Worlds.{World, home_of, past_of, journal, with_past}
use Rattle.replay_world.specs.Groups.{GoesOn, AcceptsIn, CancelsIn, OrphansIn, CancelsMarked, SettlesIn, bind_refusal, group_for, with_group_for, joined, next_conn}
use Rattle.replay_world.specs.Events.{LeavesIts}
use Rattle.replay_world.proofs.Pasts.{at_set}
use Rattle.replay_world.proofs.Events.{group_of}
use Rattle.replay_events.proofs.Sparing.{Spares, SparesEntry, SparesEach, spares_none, twice, accepts_spare, takes_spare, IsUntaken, untaken_spare, cancels_spare, orphans_spare, ends_spare, leaves_spare}

-- of each group no other call than the first is taken, and no other than the second is orphaned
abbrev pub SparesAll : {S : Type 0} → (ℕ → ℕ → Type 0) → (ℕ → ℕ → Type 0) → World S → World S → Type 0
SparesAll T O w b = (h : ℕ) → Spares (T h) (O h) (past_of w h) (past_of b h)

-- one call alone
abbrev pub one_call : ℕ → ℕ → ℕ → ℕ → Type 0
one_call g k h n = (g - 1 ≡ h - 1) × (n ≡ k)

abbrev pub no_call : ℕ → ℕ → Type 0
no_call h n = ⊥

-- where the same group of another number has the same own calls
abbrev pub Alike : (ℕ → ℕ → Type 0) → Type 0
Alike Own = (g h k : ℕ) → g - 1 ≡ h - 1 → Own g k → Own h k

pub one_alike : (g k : ℕ) → Alike (one_call g k)
one_alike g k h i n e o = (o.0 ∙ e, o.1)

pub none_alike : Alike no_call
none_alike h i n e o = o

pub all_same : {S : Type 0} (T O : ℕ → ℕ → Type 0) (w b : World S) → b.groups ≡ w.groups → SparesAll T O w b
all_same T O w b e h =
    subst (λ (l : List Entry). Spares (T h) (O h) (past_of w h) l) (sym (ap (λ (l : List (List Entry)). get_or l (h - 1) []) e)) (spares_none (T h) (O h) (past_of w h))

more_own : (T O T' O' : ℕ → Type 0) (old new : List Entry) → ((k : ℕ) → T k → T' k) → ((k : ℕ) → O k → O' k) → Spares T O old new → Spares T' O' old new
more_own T O T' O' old new takes orphans s = record { es = s.es; is = s.is; each = up s.es s.each }
  where
    up_one : (e : Entry) → SparesEntry T O e → SparesEntry T' O' e
    up_one (Take m cookies) o = takes m o
    up_one (Orphan m) o = orphans m o
    up_one (Join c) o = tt
    up_one (Accept m a) o = tt
    up_one (Deny m slot) o = tt
    up_one (Cancel m) o = tt
    up_one (End m results said) o = tt
    up_one (Leave c) o = tt
    up_one (Shut items) o = tt

    up : (es : List Entry) → SparesEach T O es → SparesEach T' O' es
    up [] each = tt
    up (e ∷ es) each = (up_one e each.0, up es each.1)

set_spares : {S : Type 0} (w b : World S) (T O : ℕ → ℕ → Type 0) (g : ℕ) (past : List Entry) → Alike T → Alike O → Spares (T g) (O g) (past_of w g) past
    → b.groups ≡ slice_set w.groups (g - 1) past → SparesAll T O w b
set_spares w b T O g past alike_t alike_o s groups h =
    let now : past_of b h ≡ get_or (slice_set w.groups (g - 1) past) (h - 1) [] = ap (λ (l : List (List Entry)). get_or l (h - 1) []) groups in
    elim (at_set w.groups (g - 1) (h - 1) past) [
      | inl e ↦ subst (λ (l : List Entry). Spares (T h) (O h) (past_of w h) l) (sym (now ∙ e)) (spares_none (T h) (O h) (past_of w h))
      | inr e ↦
          subst (λ (l : List Entry). Spares (T h) (O h) (past_of w h) l) (sym (now ∙ e.1))
          (subst (λ (i : ℕ). Spares (T h) (O h) (get_or w.groups i []) past) e.0 (more_own (T g) (O g) (T h) (O h) (past_of w g) past (λ k o. alike_t g h k e.0 o) (λ k o. alike_o g h k e.0 o) s))
    ]

going_spares : {S : Type 0} (T O : ℕ → ℕ → Type 0) (Says : History → History → Type 0) (w b : World S) (g : ℕ) → Alike T → Alike O
    → ((x y : History) → Says x y → Spares (T g) (O g) x.past y.past) → GoesOn Says w g b → SparesAll T O w b
going_spares T O Says w b g alike_t alike_o spares t =
    set_spares w b T O g t.0 alike_t alike_o (spares (journal w g) (whole (home_of w g) t.0) t.1) (ap (λ (z : World _). z.groups) t.2)

pub accepting : {S : Type 0} (w b : World S) (g k : ℕ) (a : Asked) → AcceptsIn w g a k b → SparesAll no_call no_call w b
accepting w b g k a t = going_spares no_call no_call (λ old new. Accepts old a (Ok k) new) w b g none_alike none_alike (λ x y s. accepts_spare (no_call g) (no_call g) x y a k s) t

pub cancelling : {S : Type 0} (w b : World S) (g k : ℕ) → CancelsIn w g k b → SparesAll no_call no_call w b
cancelling w b g k t =
    going_spares no_call no_call (λ old new. (answer : Cancelled) × Cancels old k answer new) w b g none_alike none_alike (λ x y s. cancels_spare (no_call g) (no_call g) x y k s.0 s.1) t

pub marking : {S : Type 0} (c : Bool) (w b : World S) (g k : ℕ) → CancelsMarked c w g k b → SparesAll no_call no_call w b
marking true w b g k t = cancelling w b g k t
marking false w b g k t = all_same no_call no_call w b (ap (λ (z : World _). z.groups) t)

pub orphaning : {S : Type 0} (w b : World S) (g k : ℕ) → OrphansIn w g k b → SparesAll no_call (one_call g k) w b
orphaning w b g k t =
    going_spares no_call (one_call g k) (λ old new. (answer : Orphaned) × Orphans old k answer new) w b g none_alike (one_alike g k)
    (λ x y s. orphans_spare (no_call g) (one_call g k g) x y k s.0 (refl, refl) s.1) t

pub taking_one : {S : Type 0} (w b : World S) (g k : ℕ) (r : Taking) → GoesOn (λ old new. Takes old k r new) w g b → SparesAll (one_call g k) no_call w b
taking_one w b g k r t =
    going_spares (one_call g k) no_call (λ old new. Takes old k r new) w b g (one_alike g k) none_alike
    (λ x y s. takes_spare (one_call g k g) (no_call g) x y k r (refl, refl) s) t

pub taking_none : {S : Type 0} (w b : World S) (g k : ℕ) (r : Taking) → IsUntaken r → GoesOn (λ old new. Takes old k r new) w g b → SparesAll no_call no_call w b
taking_none w b g k r none t =
    going_spares no_call no_call (λ old new. Takes old k r new) w b g none_alike none_alike
    (λ x y s. untaken_spare (no_call g) (no_call g) x y k r none s) t

pub ending : (service : Service) (w b : World service.State) (g k : ℕ) (results : List Outcome) (said : Said) → SettlesIn service w g (End k results said) b
    → SparesAll no_call no_call w b
ending service w b g k results said t =
    set_spares w b no_call no_call g t.past none_alike none_alike (ends_spare (no_call g) (no_call g) (journal w g) (whole (home_of w g) t.past) k results said t.rest t.settles)
    (ap (λ (z : World service.State). z.groups) t.after)

pub leaving : (service : Service) (o : Option Member) (w b : World service.State) → LeavesIts service o w b → SparesAll no_call no_call w b
leaving service None w b t = all_same no_call no_call w b (ap (λ (z : World service.State). z.groups) t)
leaving service (Some m) w b t =
    set_spares w b no_call no_call m.group t.past none_alike none_alike (leaves_spare (no_call m.group) (no_call m.group) (journal w m.group) (whole (home_of w m.group) t.past) m.number t.rest t.settles)
    (ap (λ (z : World service.State). z.groups) t.after)

-- a connection joins a group
joins_at : {S : Type 0} (w u : World S) (g n : ℕ) → ((h : ℕ) → past_of u h ≡ past_of w h) → SparesAll no_call no_call w (with_past u g (Join n ∷ past_of u g))
joins_at w u g n pasts h =
    elim (at_set u.groups (g - 1) (h - 1) (Join n ∷ past_of u g)) [
      | inl e ↦ record { es = []; is = e ∙ pasts h; each = tt }
      | inr e ↦ record {
        es = Join n ∷ [];
        is = e.1 ∙ ap (λ (l : List Entry). Join n ∷ l) (ap (λ (i : ℕ). get_or u.groups i []) e.0 ∙ pasts h);
        each = (tt, tt);
      }
    ]

pub joining : {S : Type 0} (w : World S) (asked : ℕ) → bind_refusal w asked ≡ None → SparesAll no_call no_call w (joined w asked)
joining w asked allowed =
    joins_at w (with_group_for w asked) (group_for w asked) (next_conn (with_group_for w asked) (group_for w asked)) ((group_of w asked allowed).pasts)

pub both_spare : {S : Type 0} (T O : ℕ → ℕ → Type 0) (w u b : World S) → SparesAll T O w u → SparesAll T O u b → SparesAll T O w b
both_spare T O w u b s t h = twice (T h) (O h) (past_of w h) (past_of u h) (past_of b h) (s h) (t h)

-- Journals that go on, where no other calls than some are taken, and no other calls than some are orphaned.
use Rattle.std.proofs.Common.{◌≡◌, ℕ, ◌==◌, true, false, Some, Ok, List, [], ◌∷◌, ◌++◌, append_assoc, refl, sym, ap, subst, ◌∙◌, inl, inr}
use Rattle.std.specs.Prelude.{⊤}
use Rattle.std.proofs.lemmas.Bool.Decides.{eqb_tells}
use Rattle.handle_model.specs.declared.entry.Home.{Home}
use Rattle.handle_model.specs.declared.entry.Asked.{Asked}
use Rattle.handle_model.specs.declared.entry.Outcome.{Outcome}
use Rattle.handle_model.specs.declared.entry.Said.{Said}
use Rattle.handle_model.specs.declared.entry.Entry.{Entry}
use Rattle.handle_model.specs.declared.entry.Entry.TheVariants.{Join, Accept, Take, Deny, Cancel, Orphan, End, Leave, Shut}
use Rattle.handle_model.specs.History.{History}
use Rattle.handle_model.specs.Journal.{is_orphaned, cookies_for, slots}
use Rattle.conn_histories.specs.Tales.{whole}
use Rattle.group_core.specs.declared.answer.Taking.{Taking}
use Rattle.group_core.specs.declared.answer.Taking.TheVariants as taking
use Rattle.group_core.specs.declared.answer.Cancelled.{Cancelled}
use Rattle.group_core.specs.declared.answer.Cancelled.TheVariants as cancelled
use Rattle.group_core.specs.declared.answer.Orphaned.{Orphaned}
use Rattle.group_core.specs.declared.answer.Orphaned.TheVariants as orphaned
use Rattle.group_core.specs.declared.answer.Rest.{Rest}
use Rattle.group_core.specs.declared.answer.Rest.TheVariants as rest
use Rattle.group_core.specs.Adds.{Adds}
use Rattle.group_core.specs.Calls.{Accepts, Takes, Cancels, Orphans, numbered}
use Rattle.group_core.specs.Conns.{Settles}
use Rattle.replay_world.specs.Groups.{taken_with}
use Rattle.replay_world.proofs.Pasts.{Grows}

-- ---- entries

abbrev pub SparesEntry : (ℕ → Type 0) → (ℕ → Type 0) → Entry → Type 0
SparesEntry T O (Take m cookies) = T m
SparesEntry T O (Orphan m) = O m
SparesEntry T O _ = ⊤

abbrev pub SparesEach : (ℕ → Type 0) → (ℕ → Type 0) → List Entry → Type 0
SparesEach T O [] = ⊤
SparesEach T O (e ∷ es) = SparesEntry T O e × SparesEach T O es

-- further entries, the newest first, of which none takes another call than the first, and none orphans another than the second
pub record Spares (T O : ℕ → Type 0) (old new : List Entry) : Type 0 where
  pub es : List Entry
  pub is : new ≡ es ++ old
  pub each : SparesEach T O es

pub spares_none : (T O : ℕ → Type 0) (past : List Entry) → Spares T O past past
spares_none T O past = record { es = []; is = refl; each = tt }

each_more : (T O : ℕ → Type 0) (es fs : List Entry) → SparesEach T O es → SparesEach T O fs → SparesEach T O (es ++ fs)
each_more T O [] fs a b = b
each_more T O (e ∷ es) fs a b = (a.0, each_more T O es fs a.1 b)

pub twice : (T O : ℕ → Type 0) (a b c : List Entry) → Spares T O a b → Spares T O b c → Spares T O a c
twice T O a b c s t = record {
  es = t.es ++ s.es;
  is = t.is ∙ ap (λ (l : List Entry). t.es ++ l) s.is ∙ sym (append_assoc t.es s.es a);
  each = each_more T O t.es s.es t.each s.each;
}

pub grown : (T O : ℕ → Type 0) (old new : List Entry) → Spares T O old new → Grows old new
grown T O old new s = record { es = s.es; is = s.is }

other : (Own : ℕ → Type 0) (m k : ℕ) → Own m → (Own k → ⊥) → (m == k) ≡ false
other Own m k own n = elim (eqb_tells m k) [ inl e ↦ absurd (n (subst Own e.1 own)) | inr e ↦ e.0 ]

one_taken : (T O : ℕ → Type 0) (e : Entry) (past : List Entry) (k : ℕ) → SparesEntry T O e → (T k → ⊥) → taken_with (e ∷ past) k ≡ taken_with past k
one_taken T O (Take m cookies) past k own n = rw (other T m k own n) refl
one_taken T O (Join c) past k own n = refl
one_taken T O (Accept m a) past k own n = refl
one_taken T O (Deny m slot) past k own n = refl
one_taken T O (Cancel m) past k own n = refl
one_taken T O (Orphan m) past k own n = refl
one_taken T O (End m results said) past k own n = refl
one_taken T O (Leave c) past k own n = refl
one_taken T O (Shut items) past k own n = refl

one_orphaned : (T O : ℕ → Type 0) (e : Entry) (past : List Entry) (home home' : Home) (k : ℕ) → SparesEntry T O e → (O k → ⊥)
    → is_orphaned (whole home (e ∷ past)) k ≡ is_orphaned (whole home' past) k
one_orphaned T O (Orphan m) past home home' k own n = rw (other O m k own n) refl
one_orphaned T O (Take m cookies) past home home' k own n = refl
one_orphaned T O (Join c) past home home' k own n = refl
one_orphaned T O (Accept m a) past home home' k own n = refl
one_orphaned T O (Deny m slot) past home home' k own n = refl
one_orphaned T O (Cancel m) past home home' k own n = refl
one_orphaned T O (End m results said) past home home' k own n = refl
one_orphaned T O (Leave c) past home home' k own n = refl
one_orphaned T O (Shut items) past home home' k own n = refl

each_taken : (T O : ℕ → Type 0) (es past : List Entry) (k : ℕ) → SparesEach T O es → (T k → ⊥) → taken_with (es ++ past) k ≡ taken_with past k
each_taken T O [] past k each n = refl
each_taken T O (e ∷ es) past k each n = one_taken T O e (es ++ past) k each.0 n ∙ each_taken T O es past k each.1 n

each_orphaned : (T O : ℕ → Type 0) (es past : List Entry) (home home' : Home) (k : ℕ) → SparesEach T O es → (O k → ⊥)
    → is_orphaned (whole home (es ++ past)) k ≡ is_orphaned (whole home' past) k
each_orphaned T O [] past home home' k each n = refl
each_orphaned T O (e ∷ es) past home home' k each n = one_orphaned T O e (es ++ past) home home k each.0 n ∙ each_orphaned T O es past home home' k each.1 n

pub same_taken : (T O : ℕ → Type 0) (old new : List Entry) (k : ℕ) → Spares T O old new → (T k → ⊥) → taken_with new k ≡ taken_with old k
same_taken T O old new k s n = ap (λ (l : List Entry). taken_with l k) s.is ∙ each_taken T O s.es old k s.each n

pub same_orphaned : (T O : ℕ → Type 0) (old new : List Entry) (home home' : Home) (k : ℕ) → Spares T O old new → (O k → ⊥)
    → is_orphaned (whole home new) k ≡ is_orphaned (whole home' old) k
same_orphaned T O old new home home' k s n = ap (λ (l : List Entry). is_orphaned (whole home l) k) s.is ∙ each_orphaned T O s.es old home home' k s.each n

-- ---- what a group answers

by_adds : (old new : History) (es : List Entry) (T O : ℕ → Type 0) → Adds old es new → SparesEach T O es → Spares T O old.past new.past
by_adds old new es T O adds each = record { es = es; is = ap (λ (z : History). z.past) adds; each = each }

pub accepts_spare : (T O : ℕ → Type 0) (old new : History) (a : Asked) (k : ℕ) → Accepts old a (Ok k) new → Spares T O old.past new.past
accepts_spare T O old new a k t = by_adds old new (Accept k (numbered old a) ∷ []) T O t.2 (tt, tt)

pub takes_spare : (T O : ℕ → Type 0) (old new : History) (k : ℕ) (r : Taking) → T k → Takes old k r new → Spares T O old.past new.past
takes_spare T O old new k (taking.Run row serial) own t = by_adds old new (Take k (cookies_for old (slots old k)) ∷ []) T O t.5 (own, tt)
takes_spare T O old new k (taking.Denied slot) own t = by_adds old new (Deny k slot ∷ []) T O t.3 (tt, tt)
takes_spare T O old new k taking.Dropped own t = by_adds old new [] T O t.1 tt
takes_spare T O old new k (taking.Wait m) own t = by_adds old new [] T O t.2 tt

-- it isn't taken
abbrev pub IsUntaken : Taking → Type 0
IsUntaken (taking.Run row serial) = ⊥
IsUntaken _ = ⊤

pub untaken_spare : (T O : ℕ → Type 0) (old new : History) (k : ℕ) (r : Taking) → IsUntaken r → Takes old k r new → Spares T O old.past new.past
untaken_spare T O old new k (taking.Run row serial) none t = absurd none
untaken_spare T O old new k (taking.Denied slot) none t = by_adds old new (Deny k slot ∷ []) T O t.3 (tt, tt)
untaken_spare T O old new k taking.Dropped none t = by_adds old new [] T O t.1 tt
untaken_spare T O old new k (taking.Wait m) none t = by_adds old new [] T O t.2 tt

pub cancels_spare : (T O : ℕ → Type 0) (old new : History) (k : ℕ) (r : Cancelled) → Cancels old k r new → Spares T O old.past new.past
cancels_spare T O old new k cancelled.Ended t = by_adds old new (Cancel k ∷ []) T O t.1 (tt, tt)
cancels_spare T O old new k cancelled.Flagged t = by_adds old new (Cancel k ∷ []) T O t.1 (tt, tt)
cancels_spare T O old new k cancelled.Late t = by_adds old new [] T O t.2 tt

pub orphans_spare : (T O : ℕ → Type 0) (old new : History) (k : ℕ) (r : Orphaned) → O k → Orphans old k r new → Spares T O old.past new.past
orphans_spare T O old new k orphaned.Dropped own t = by_adds old new (Orphan k ∷ []) T O t.1 (own, tt)
orphans_spare T O old new k orphaned.Running own t = by_adds old new (Orphan k ∷ []) T O t.1 (own, tt)
orphans_spare T O old new k orphaned.Late own t = by_adds old new [] T O t.2 tt

pub ends_spare : (T O : ℕ → Type 0) (old new : History) (k : ℕ) (results : List Outcome) (said : Said) (r : Rest) → Settles old (End k results said) r new
    → Spares T O old.past new.past
ends_spare T O old new k results said rest.Stays t = by_adds old new (End k results said ∷ []) T O t.1 (tt, tt)
ends_spare T O old new k results said (rest.Shut items) t = by_adds old new (Shut items ∷ End k results said ∷ []) T O t.2 (tt, (tt, tt))

pub leaves_spare : (T O : ℕ → Type 0) (old new : History) (n : ℕ) (r : Rest) → Settles old (Leave n) r new → Spares T O old.past new.past
leaves_spare T O old new n rest.Stays t = by_adds old new (Leave n ∷ []) T O t.1 (tt, tt)
leaves_spare T O old new n (rest.Shut items) t = by_adds old new (Shut items ∷ Leave n ∷ []) T O t.2 (tt, (tt, tt))

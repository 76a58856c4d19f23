-- What the calls that were taken name.
use Rattle.std.proofs.Common.{◌≡◌, ℕ, ◌+◌, ◌<◌, true, ◌==◌, List, [], ◌∷◌, subst, arith, inl, inr}
use Rattle.std.proofs.lemmas.Bool.{eqb-true}
use Rattle.handle_model.specs.declared.entry.Home.{Home}
use Rattle.handle_model.specs.declared.entry.Slot.{Slot}
use Rattle.handle_model.specs.declared.entry.Entry.{Entry}
use Rattle.handle_model.specs.declared.entry.Entry.TheVariants.{Accept, Take}
use Rattle.handle_model.specs.declared.base.Base.{Base}
use Rattle.handle_model.specs.History.{History, since, with_entry}
use Rattle.handle_model.specs.Journal.{Legal, issues_in, is_issued, is_taken, is_usable, accept_count, slots}
use Rattle.handle_model.proofs.Held.{or_right, or_cases}
use Rattle.handle_model.proofs.BaseFacts.{known_before}
use Rattle.handle_model.specs.Running.{AllUsable, NamesIssued, AllIssued}
use Rattle.handle_model.proofs.Apart.{slots_kept, taken_within}
use Rattle.handle_model.proofs.LiveNames.{known_all, taken_all}
use Rattle.handle_model.proofs.Usable.{usable_named, live_issued}

names_issued : (j : History) (s : Slot) → is_usable j s ≡ true → NamesIssued j s
names_issued j s u = let w = usable_named j s u in record { serial = w.serial; name = w.name; issued = live_issued j w.serial w.live }

-- what is live was issued
all_issued : (j : History) (ss : List Slot) → AllUsable j ss → AllIssued j ss
all_issued j [] a = tt
all_issued j (s ∷ ss) a = (λ n. names_issued j s (a.0 n), all_issued j ss a.1)

-- and what was issued stays so
issued_later : (j : History) (e : Entry) (s : Slot) → NamesIssued j s → NamesIssued (with_entry j e) s
issued_later j e s w = record { serial = w.serial; name = w.name; issued = or_right (issues_in w.serial e) (is_issued j w.serial) w.issued }

all_later : (j : History) (e : Entry) (ss : List Slot) → AllIssued j ss → AllIssued (with_entry j e) ss
all_later j e [] a = tt
all_later j e (s ∷ ss) a = (λ n. issued_later j e s (a.0 n), all_later j e ss a.1)

issued_since : (home : Home) (base : Base) (past : List Entry) (k : ℕ) → Legal (since home base past) → is_taken (since home base past) k ≡ true → AllIssued (since home base past) (slots (since home base past) k)
issued_since home base [] k l t =
    let j : History = since home base [] in all_issued j (slots j k) (known_all home base (slots j k) l (known_before home base k l t))
issued_since home base (Take m cookies ∷ past) k l t =
    let j : History = since home base past in
    all_later j (Take m cookies) (slots j k) (elim (or_cases (m == k) (is_taken j k) t) [
      | inl e ↦ subst (λ i. AllIssued j (slots j i)) (eqb-true m k e) (all_issued j (slots j m) (taken_all j (slots j m) [] (slots j m) l.0.fits.2))
      | inr r ↦ issued_since home base past k l.1 r
    ])
issued_since home base (Accept m a ∷ past) k l t =
    let j : History = since home base past in
    let low = taken_within home base past k l.1 t in
    let number : m ≡ accept_count j + 1 = l.0.fits.0 in
    let below : k < m = omega arith in
    rw (slots_kept j m k a below) (all_later j (Accept m a) (slots j k) (issued_since home base past k l.1 t))
issued_since home base (e ∷ past) k l t = all_later (since home base past) e (slots (since home base past) k) (issued_since home base past k l.1 t)

pub taken_issued : (j : History) (k : ℕ) → Legal j → is_taken j k ≡ true → AllIssued j (slots j k)
taken_issued j k l t = issued_since j.home j.base j.past k l t

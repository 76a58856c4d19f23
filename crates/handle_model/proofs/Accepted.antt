-- What a call asked is said by one Accept, and stays.
use Rattle.std.proofs.Common.{◌≡◌, ℕ, ◌+◌, ◌≤◌, true, Option, Some, None, is_some, List, [], ◌∷◌, length, refl, arith, inl, inr}
use Rattle.std.specs.List.{list_any, filter}
use Rattle.std.proofs.lemmas.Grind.{common_steps}
use Rattle.std.proofs.lemmas.Bool.{eq-eqb, false_from_ne_true}
use Rattle.std.proofs.lemmas.Bool.Decides.{eqb_tells}
use Rattle.handle_model.specs.declared.entry.Home.{Home}
use Rattle.handle_model.specs.declared.entry.Asked.{Asked}
use Rattle.handle_model.specs.declared.entry.Entry.{Entry}
use Rattle.handle_model.specs.declared.entry.Entry.TheVariants.{Accept}
use Rattle.handle_model.specs.declared.base.Base.{Base}
use Rattle.handle_model.specs.Bases.{asked_before}
use Rattle.handle_model.specs.History.{History, since, with_entry}
use Rattle.handle_model.specs.Journal.{Legal, asked, accept_count}
use Rattle.handle_model.proofs.BaseFacts.{asked_before_within}
use Rattle.handle_model.specs.CallLaws.{accepts}
use Rattle.handle_model.specs.Further.{with_entries, once_where}
use Rattle.handle_model.proofs.Apart.{asked_within}
use Rattle.handle_model.proofs.Older.{older_legal}
use Rattle.handle_model.proofs.Once.{once_since, once_start}

-- one entry more leaves what an accepted call asked
pub asked_kept : (j : History) (e : Entry) (k : ℕ) (a : Asked) → Legal (with_entry j e) → asked j k ≡ Some a → asked (with_entry j e) k ≡ Some a
asked_kept j (Accept m b) k a l s =
    let low = asked_within j.home j.base j.past k a l.1 s in
    let number = l.0.fits.0 in
    elim (eqb_tells m k) [
      | inl q ↦ let same = q.1 in absurd (omega arith)
      | inr q ↦ rw q.0 s
    ]
asked_kept j _ k a l s = s

pub asked_stays : (j : History) (newer : List Entry) (k : ℕ) (a : Asked) → Legal (with_entries j newer) → asked j k ≡ Some a → asked (with_entries j newer) k ≡ Some a
asked_stays j [] k a l s = s
asked_stays j (e ∷ newer) k a l s = asked_kept (with_entries j newer) e k a l (asked_stays j newer k a l.1 s)

-- a call asks what its Accept says
pub asks_as_accepted : (j : History) (newer : List Entry) (k : ℕ) (a : Asked) → Legal (with_entries (with_entry j (Accept k a)) newer) → asked (with_entries (with_entry j (Accept k a)) newer) k ≡ Some a
asks_as_accepted j newer k a l = asked_stays (with_entry j (Accept k a)) newer k a l (let q = eq-eqb k k refl in rw q refl)

-- a further call has asked nothing
pub fresh_unasked : (j : History) (m : ℕ) (o : Option Asked) → Legal j → m ≡ accept_count j + 1 → asked j m ≡ o → asked j m ≡ None
fresh_unasked j m None l q e = e
fresh_unasked j m (Some a) l q e = let low = asked_within j.home j.base j.past m a l e in absurd (omega arith)

pub accepts_new : (j : History) (newer : List Entry) (k : ℕ) (a : Asked) → Legal (with_entries (with_entry j (Accept k a)) newer) → asked j k ≡ None
accepts_new j newer k a l =
    let here = older_legal (with_entry j (Accept k a)) newer l in fresh_unasked j k (asked j k) here.1 here.0.fits.0 refl

-- numbers of calls go up to how many were accepted
accepts_within : (home : Home) (base : Base) (past : List Entry) (k : ℕ) → Legal (since home base past) → list_any (accepts k) past ≡ true → k ≤ accept_count (since home base past)
accepts_within home base [] k l h = absurd (cc)
accepts_within home base (Accept m a ∷ past) k l h = let number = l.0.fits.0 in grind (arith, common_steps, accepts_within home base past k l.1)
accepts_within home base (_ ∷ past) k l h = accepts_within home base past k l.1 h

-- and those of a base's calls go no further
asked_low : (home : Home) (base : Base) (k : ℕ) (o : Option Asked) → Legal (since home base []) → asked_before base k ≡ o → is_some o ≡ true → k ≤ base.accepts
asked_low home base k None l e s = absurd (cc)
asked_low home base k (Some a) l e s = asked_before_within home base k a l e

base_low : (home : Home) (base : Base) (past : List Entry) (k : ℕ) → Legal (since home base past) → is_some (asked_before base k) ≡ true → k ≤ accept_count (since home base past)
base_low home base [] k l s = asked_low home base k (asked_before base k) l refl s
base_low home base (Accept m a ∷ past) k l s = let low = base_low home base past k l.1 s in omega arith
base_low home base (_ ∷ past) k l s = base_low home base past k l.1 s

accepted_once : (home : Home) (base : Base) (past : List Entry) (k : ℕ) → Legal (since home base past) → once_where (is_some (asked_before base k)) + length (filter (accepts k) past) ≤ 1
accepted_once home base [] k l = once_start (is_some (asked_before base k))
accepted_once home base (Accept m a ∷ past) k l =
    let number = l.0.fits.0 in
    once_since (is_some (asked_before base k)) (accepts k) (Accept m a) past (λ t. false_from_ne_true (is_some (asked_before base k)) (λ again.
    let low = base_low home base past k l.1 again in
    elim (eqb_tells m k) [ inl e ↦ let same = e.1 in absurd (omega arith) | inr e ↦ let f = e.0 in cc ])) (λ t. false_from_ne_true (list_any (accepts k) past) (λ again.
    let low = accepts_within home base past k l.1 again in
    elim (eqb_tells m k) [ inl e ↦ let same = e.1 in absurd (omega arith) | inr e ↦ let f = e.0 in cc ])) (accepted_once home base past k l.1)
accepted_once home base (_ ∷ past) k l = accepted_once home base past k l.1

pub accepts_once : (j : History) (k : ℕ) → Legal j → once_where (is_some (asked_before j.base k)) + length (filter (accepts k) j.past) ≤ 1
accepts_once j k l = accepted_once j.home j.base j.past k l

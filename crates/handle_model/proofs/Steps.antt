-- An entry that may come keeps a history sound.
use Rattle.std.proofs.Common.{◌≡◌, ℕ, ◌<◌, Bool, true, false, ◌&&◌, ◌||◌, not, Option, Some, None, List, [], ◌∷◌, ◌++◌, refl, sym, ◌∙◌, ap, subst, arith, reverse, inl, inr}
use Rattle.std.specs.List.{list_any}
use Rattle.std.proofs.lemmas.Grind.{common_steps}
use Rattle.handle_model.specs.declared.entry.Home.{Home}
use Rattle.handle_model.specs.declared.entry.Asked.{Asked}
use Rattle.handle_model.specs.declared.entry.Outcome.{Outcome}
use Rattle.handle_model.specs.declared.entry.Said.{Said}
use Rattle.handle_model.specs.declared.entry.DueItem.{DueItem}
use Rattle.handle_model.specs.declared.entry.Entry.{Entry}
use Rattle.handle_model.specs.declared.entry.Entry.TheVariants.{Join, Accept, Take, Deny, Cancel, Orphan, End, Leave, Shut}
use Rattle.handle_model.specs.declared.base.Base.{Base}
use Rattle.handle_model.specs.Bases.{empty_base}
use Rattle.handle_model.specs.Sound.{IsSoundBase}
use Rattle.handle_model.specs.Journal.{leaves, join_count, is_open, is_cancelled, is_orphaned, asked, waits, runs, due, is_shut, Allowed, Legal, Fits, due_items}
use Rattle.handle_model.specs.History.{History, IsSound, since, with_entry, history_of}
use Rattle.handle_model.proofs.Tests.{and_left, or_cases}
use Rattle.handle_model.proofs.Held.{left_joined, joined_within, open_not_due, runs_not_due, waits_open}
use Rattle.handle_model.proofs.Reversed.{reverse-snoc}

-- an entry that may come next keeps the history legal
pub legal_more : (j : History) (e : Entry) → IsSound j → list_any is_shut j.past ≡ false → Fits j e → Legal (with_entry j e)
legal_more j e s u f = (record { before_shut = u; shut_when_due = λ d. cc; fits = f }, s.legal)

fresh_not_left : (j : History) (c : ℕ) (b : Bool) → Legal j → join_count j < c → list_any (leaves c) j.past ≡ b → b ≡ false
fresh_not_left j c false l f h = refl
fresh_not_left j c true l f h =
    let w = joined_within j.home j.base j.past c l (left_joined j.home j.base j.past c l h) in absurd (omega arith)

pub join_sound : (j : History) (c : ℕ) → IsSound j → list_any is_shut j.past ≡ false → Fits j (Join c) → IsSound (with_entry j (Join c))
join_sound j c s u f =
    let e = f.0 in
    let left : list_any (leaves c) j.past ≡ false = fresh_not_left j c _ s.legal (omega arith) refl in
    record { legal = legal_more j (Join c) s u f; settled = open_not_due (with_entry j (Join c)) c (grind (arith, common_steps)) }

-- while a connection is open, or a call runs, there is no Shut
pub open_unshut : (home : Home) (base : Base) (past : List Entry) (c : ℕ) → Legal (since home base past) → is_open (since home base past) c ≡ true → list_any is_shut past ≡ false
open_unshut home base [] c l h = refl
open_unshut home base (Shut items ∷ past) c l h = let d = open_not_due (since home base past) c h in let e = l.0.fits.0 in cc
open_unshut home base (_ ∷ past) c l h = l.0.before_shut

pub runs_unshut : (home : Home) (base : Base) (past : List Entry) (k : ℕ) → Legal (since home base past) → runs (since home base past) k ≡ true → list_any is_shut past ≡ false
runs_unshut home base [] k l h = refl
runs_unshut home base (Shut items ∷ past) k l h = let d = runs_not_due (since home base past) k h in let e = l.0.fits.0 in cc
runs_unshut home base (_ ∷ past) k l h = l.0.before_shut

-- a waiting call has a connection, which is open
waits_has : (j : History) (k : ℕ) (o : Option Asked) → Legal j → asked j k ≡ o → waits j k ≡ true → (c : ℕ) × (is_open j c ≡ true)
waits_has j k None l e h = grind (arith, common_steps)
waits_has j k (Some a) l e h = (a.conn, waits_open j k a l e h)

pub waits_conn : (j : History) (k : ℕ) → Legal j → waits j k ≡ true → (c : ℕ) × (is_open j c ≡ true)
waits_conn j k l h = waits_has j k (asked j k) l refl h

pub accept_sound : (j : History) (k : ℕ) (a : Asked) → IsSound j → Fits j (Accept k a) → IsSound (with_entry j (Accept k a))
accept_sound j k a s f =
    record {
      legal = legal_more j (Accept k a) s (open_unshut j.home j.base j.past a.conn s.legal f.1) f;
      settled = open_not_due (with_entry j (Accept k a)) a.conn f.1;
    }

pub take_sound : (j : History) (k : ℕ) (cookies : List (Option ℕ)) → IsSound j → Fits j (Take k cookies) → IsSound (with_entry j (Take k cookies))
take_sound j k cookies s f =
    let o = waits_conn j k s.legal f.0 in
    record {
      legal = legal_more j (Take k cookies) s (open_unshut j.home j.base j.past o.0 s.legal o.1) f;
      settled = open_not_due (with_entry j (Take k cookies)) o.0 o.1;
    }

pub deny_sound : (j : History) (k slot : ℕ) → IsSound j → Fits j (Deny k slot) → IsSound (with_entry j (Deny k slot))
deny_sound j k slot s f =
    let o = waits_conn j k s.legal f.0 in
    record {
      legal = legal_more j (Deny k slot) s (open_unshut j.home j.base j.past o.0 s.legal o.1) f;
      settled = open_not_due (with_entry j (Deny k slot)) o.0 o.1;
    }

-- a call that waits or runs finds no Shut
pub active_unshut : (j : History) (k : ℕ) (b : Bool) → Legal j → (waits j k || runs j k && b) ≡ true → list_any is_shut j.past ≡ false
active_unshut j k b l h =
    elim (or_cases (waits j k) (runs j k && b) h) [
      | inl w ↦ let o = waits_conn j k l w in open_unshut j.home j.base j.past o.0 l o.1
      | inr r ↦ runs_unshut j.home j.base j.past k l (and_left (runs j k) b r)
    ]

pub cancel_sound : (j : History) (k : ℕ) → IsSound j → Fits j (Cancel k) → IsSound (with_entry j (Cancel k))
cancel_sound j k s f =
    let u = active_unshut j k (not (is_cancelled j k)) s.legal f in
    record { legal = legal_more j (Cancel k) s u f; settled = s.settled }

pub orphan_sound : (j : History) (k : ℕ) → IsSound j → Fits j (Orphan k) → IsSound (with_entry j (Orphan k))
orphan_sound j k s f =
    let u = active_unshut j k (not (is_orphaned j k)) s.legal f in
    record { legal = legal_more j (Orphan k) s u f; settled = s.settled }

-- an End or a Leave leaves a history sound where no Shut is due, and else a Shut does
pub end_sound : (j : History) (k : ℕ) (results : List Outcome) (said : Said) → IsSound j → Fits j (End k results said) → due (with_entry j (End k results said)) ≡ false → IsSound (with_entry j (End k results said))
end_sound j k results said s f d =
    record { legal = legal_more j (End k results said) s (runs_unshut j.home j.base j.past k s.legal f.0) f; settled = d }

shut_not_due : (j : History) (items : List DueItem) → due (with_entry j (Shut items)) ≡ false
shut_not_due j items = grind (arith, common_steps)

pub end_shut_sound : (j : History) (k : ℕ) (results : List Outcome) (said : Said) → IsSound j → Fits j (End k results said) → due (with_entry j (End k results said)) ≡ true → IsSound (with_entry (with_entry j (End k results said)) (Shut (due_items (with_entry j (End k results said)))))
end_shut_sound j k results said s f d =
    let u = runs_unshut j.home j.base j.past k s.legal f.0 in
    record {
      legal = (record { before_shut = u; shut_when_due = λ _. refl; fits = (d, refl) }, legal_more j (End k results said) s u f);
      settled = shut_not_due (with_entry j (End k results said)) (due_items (with_entry j (End k results said)));
    }

pub leave_sound : (j : History) (c : ℕ) → IsSound j → Fits j (Leave c) → due (with_entry j (Leave c)) ≡ false → IsSound (with_entry j (Leave c))
leave_sound j c s f d =
    record { legal = legal_more j (Leave c) s (open_unshut j.home j.base j.past c s.legal f) f; settled = d }

pub leave_shut_sound : (j : History) (c : ℕ) → IsSound j → Fits j (Leave c) → due (with_entry j (Leave c)) ≡ true → IsSound (with_entry (with_entry j (Leave c)) (Shut (due_items (with_entry j (Leave c)))))
leave_shut_sound j c s f d =
    let u = open_unshut j.home j.base j.past c s.legal f in
    record {
      legal = (record { before_shut = u; shut_when_due = λ _. refl; fits = (d, refl) }, legal_more j (Leave c) s u f);
      settled = shut_not_due (with_entry j (Leave c)) (due_items (with_entry j (Leave c)));
    }

-- an entry that is allowed keeps a history sound where it leaves no Shut due
pub next_sound : (j : History) (e : Entry) → IsSound j → Allowed j e → due (with_entry j e) ≡ false → IsSound (with_entry j e)
next_sound j e s a d = record { legal = (a, s.legal); settled = d }

-- a new group's base is sound, and so is its empty history
pub empty_base_sound : (home : Home) → IsSoundBase home empty_base
empty_base_sound home =
    record {
      joins_small = omega arith;
      accepts_small = omega arith;
      opens_small = omega arith;
      conns_rise = refl;
      conns_within = refl;
      calls_rise = refl;
      calls_within = refl;
      fresh = refl;
      within = refl;
      apart = refl;
      names_once = refl;
      known = refl;
      serials_rise = refl;
      serials_within = refl;
      openings_differ = refl;
      openings_counted = refl;
      openings_within = refl;
      openings_free = refl;
      held = λ _. refl;
    }

pub empty_sound : (home : Home) → IsSound (since home empty_base [])
empty_sound home = record { legal = empty_base_sound home; settled = refl }

-- THE SAME OVER THE ENTRIES OLDEST FIRST, AS A VECTOR KEEPS THEM

pub pushed : (home : Home) (base : Base) (xs ys : List Entry) (e : Entry) → ys ≡ xs ++ e ∷ [] → IsSound (with_entry (history_of home base xs) e) → IsSound (history_of home base ys)
pushed home base xs ys e q s = subst (λ (zs : List Entry). IsSound (since home base zs)) (sym (ap reverse q ∙ reverse-snoc xs e)) s

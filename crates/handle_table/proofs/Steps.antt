-- What each entry does to the list of the live handles.
use Rattle.std.proofs.Common.{◌≡◌, ℕ, ◌+◌, ◌≤◌, Bool, true, false, not, ◌&&◌, ◌||◌, Option, Some, None, List, [], ◌∷◌, length, map, refl, sym, ◌∙◌, ap, arith, inl, inr}
use Rattle.std.specs.List.{filter, list_any, find}
use Rattle.std.proofs.lemmas.List.{length-append}
use Rattle.std.proofs.lemmas.Bool.Decides.{nat_tests}
use Rattle.std.proofs.lemmas.Bool.{cases_Bool}
use Rattle.handle_model.specs.declared.entry.Home.{Home}
use Rattle.handle_model.specs.declared.entry.Slot.{Slot}
use Rattle.handle_model.specs.declared.entry.Slot.TheVariants.{Shares, Holds, Changes, Opens}
use Rattle.handle_model.specs.declared.entry.Asked.{Asked}
use Rattle.handle_model.specs.declared.entry.Outcome.{Outcome}
use Rattle.handle_model.specs.declared.entry.Outcome.TheVariants.{Keep, Close, Issue, Nothing}
use Rattle.handle_model.specs.declared.entry.Said.{Said}
use Rattle.handle_model.specs.declared.entry.DueItem.{DueItem}
use Rattle.handle_model.specs.declared.entry.Entry.{Entry}
use Rattle.handle_model.specs.declared.entry.Entry.TheVariants.{Join, Accept, Take, Deny, Cancel, Orphan, End, Leave, Shut}
use Rattle.handle_model.specs.Slots.{kind_of, opens}
use Rattle.handle_model.specs.History.{History, with_entry}
use Rattle.handle_model.specs.Journal.{Legal, is_item_of, is_live, is_issued, is_closed, runs_down, suit, suits, slots, due_item, due_items}
use Rattle.handle_model.proofs.Held.{and_right}
use Rattle.handle_table.specs.Handles.{is_below, is_above, is_other, with_item, cookie_set}
use Rattle.handle_table.specs.Uses.{item_named}
use Rattle.handle_table.specs.Ended.{issues_one, issue_count, kept, closed, after_outcome, ended}
use Rattle.handle_table.specs.Laws.{left_by}
use Rattle.handle_table.proofs.Items.{same_items}
use Rattle.handle_table.proofs.Live.{due_item_at, due_rises, same_due, end_due}

-- all entries but an End and a Shut leave it as it was
pub join_due : (j : History) (c : ℕ) → Legal (with_entry j (Join c)) → due_items (with_entry j (Join c)) ≡ due_items j
join_due j c l = same_due j (with_entry j (Join c)) l.1 l (λ h. refl)

pub accept_due : (j : History) (k : ℕ) (a : Asked) → Legal (with_entry j (Accept k a)) → due_items (with_entry j (Accept k a)) ≡ due_items j
accept_due j k a l = same_due j (with_entry j (Accept k a)) l.1 l (λ h. refl)

pub take_due : (j : History) (k : ℕ) (cookies : List (Option ℕ)) → Legal (with_entry j (Take k cookies)) → due_items (with_entry j (Take k cookies)) ≡ due_items j
take_due j k cookies l = same_due j (with_entry j (Take k cookies)) l.1 l (λ h. refl)

pub deny_due : (j : History) (k slot : ℕ) → Legal (with_entry j (Deny k slot)) → due_items (with_entry j (Deny k slot)) ≡ due_items j
deny_due j k slot l = same_due j (with_entry j (Deny k slot)) l.1 l (λ h. refl)

pub cancel_due : (j : History) (k : ℕ) → Legal (with_entry j (Cancel k)) → due_items (with_entry j (Cancel k)) ≡ due_items j
cancel_due j k l = same_due j (with_entry j (Cancel k)) l.1 l (λ h. refl)

pub orphan_due : (j : History) (k : ℕ) → Legal (with_entry j (Orphan k)) → due_items (with_entry j (Orphan k)) ≡ due_items j
orphan_due j k l = same_due j (with_entry j (Orphan k)) l.1 l (λ h. refl)

pub leave_due : (j : History) (c : ℕ) → Legal (with_entry j (Leave c)) → due_items (with_entry j (Leave c)) ≡ due_items j
leave_due j c l = same_due j (with_entry j (Leave c)) l.1 l (λ h. refl)

-- a Shut leaves none
found_any : (q : DueItem → Bool) (items : List DueItem) (x : DueItem) → find q items ≡ Some x → list_any q items ≡ true
found_any q [] x e = absurd (cc)
found_any q (i ∷ items) x e =
    elim (cases_Bool (q i)) [
      | inl t ↦ rw t refl
      | inr f ↦ rw f (found_any q items x (rw f at e))
    ]

and_off : (a : Bool) → (a && false) ≡ false
and_off true = refl
and_off false = refl

shut_off : (i c d t : Bool) → ((i && not c && not d) ≡ true → t ≡ true) → (i && not c && not (t || d)) ≡ false
shut_off true true d t h = refl
shut_off true false true true h = refl
shut_off true false true false h = refl
shut_off true false false true h = refl
shut_off true false false false h = sym (h refl)
shut_off false c d t h = refl

pub shut_due : (j : History) (items : List DueItem) → Legal (with_entry j (Shut items)) → due_items (with_entry j (Shut items)) ≡ []
shut_due j items l =
    same_items 0 (due_items (with_entry j (Shut items))) [] (due_rises (with_entry j (Shut items)) l) tt (λ h.
    let there : is_live j h ≡ true → list_any (is_item_of h) items ≡ true =
    λ v. ap (list_any (is_item_of h)) l.0.fits.1 ∙ found_any (is_item_of h) (due_items j) (due_item j h) (due_item_at j h l.1 ∙ rw v refl) in
    let gone : is_live (with_entry j (Shut items)) h ≡ false = shut_off (is_issued j h) (is_closed j h) (list_any (runs_down h) j.past) (list_any (is_item_of h) items) there in
    due_item_at (with_entry j (Shut items)) h l ∙ rw gone refl)

-- HOW MANY

filters_within : (g : ℕ) (items : List DueItem) → length (filter (is_below g) items) + length (filter (is_above g) items) ≤ length items
filters_within g [] = omega arith
filters_within g (i ∷ items) = let more = filters_within g items in grind (arith, nat_tests)

with_within : (i : DueItem) (items : List DueItem) → length (with_item i items) ≤ length items + 1
with_within i items =
    let e = length-append (filter (is_below i.serial) items) (i ∷ filter (is_above i.serial) items) in
    let w = filters_within i.serial items in omega arith

filter_within : {X : Type 0} (p : X → Bool) (xs : List X) → length (filter p xs) ≤ length xs
filter_within p [] = omega arith
filter_within p (x ∷ xs) = let more = filter_within p xs in elim (cases_Bool (p x)) [ inl e ↦ rw e (omega arith) | inr e ↦ rw e (omega arith) ]

map_within : {X : Type 0} (f : X → X) (xs : List X) → length (map f xs) ≤ length xs
map_within f [] = omega arith
map_within f (x ∷ xs) = let more = map_within f xs in omega arith

kept_within : (c : ℕ) (o : Option DueItem) (items : List DueItem) → length (kept c o items) ≤ length items
kept_within c None items = omega arith
kept_within c (Some i) items = let e = map_within (cookie_set i.serial c) items in omega arith

closed_within : (o : Option DueItem) (items : List DueItem) → length (closed o items) ≤ length items
closed_within None items = omega arith
closed_within (Some i) items = filter_within (is_other i.serial) items

settled_within : (home : Home) (s : Slot) (o : Outcome) (items : List DueItem) → length (after_outcome home s o items) ≤ length items + issues_one o
settled_within home s (Issue g c) items = with_within (record { serial = g; kind = kind_of s; cookie = c }) items
settled_within home s (Keep c) items = let w = kept_within c (item_named home items s) items in omega arith
settled_within home s Close items = let w = closed_within (item_named home items s) items in omega arith
settled_within home s Nothing items = omega arith

pub ended_within : (home : Home) (ss : List Slot) (os : List Outcome) (items : List DueItem) → length (ended home ss os items) ≤ length items + issue_count os
ended_within home [] os items = omega arith
ended_within home (s ∷ ss) [] items = omega arith
ended_within home (s ∷ ss) (o ∷ os) items =
    let one = settled_within home s o (ended home ss os items) in let rest = ended_within home ss os items in omega arith

-- no more are issued than the slots may issue
pub issued_within : (ss : List Slot) (os : List Outcome) → suit ss os ≡ true → issue_count os ≤ length (filter opens ss)
issued_within [] [] u = omega arith
issued_within [] (o ∷ os) u = absurd (cc)
issued_within (s ∷ ss) [] u = absurd (cc)
issued_within (Opens k g ∷ ss) (o ∷ os) u = let more = issued_within ss os (and_right (suits (Opens k g) o) (suit ss os) u) in let one = issues_low o in omega arith
  where
    issues_low : (o : Outcome) → issues_one o ≤ 1
    issues_low (Issue g c) = omega arith
    issues_low (Keep c) = omega arith
    issues_low Close = omega arith
    issues_low Nothing = omega arith
issued_within (Shares k w ∷ ss) (Nothing ∷ os) u = let more = issued_within ss os u in omega arith
issued_within (Shares k w ∷ ss) (Keep c ∷ os) u = absurd (cc)
issued_within (Shares k w ∷ ss) (Close ∷ os) u = absurd (cc)
issued_within (Shares k w ∷ ss) (Issue g c ∷ os) u = absurd (cc)
issued_within (Holds k w ∷ ss) (Nothing ∷ os) u = let more = issued_within ss os u in omega arith
issued_within (Holds k w ∷ ss) (Keep c ∷ os) u = absurd (cc)
issued_within (Holds k w ∷ ss) (Close ∷ os) u = absurd (cc)
issued_within (Holds k w ∷ ss) (Issue g c ∷ os) u = absurd (cc)
issued_within (Changes k w ∷ ss) (Keep c ∷ os) u = let more = issued_within ss os u in omega arith
issued_within (Changes k w ∷ ss) (Close ∷ os) u = let more = issued_within ss os u in omega arith
issued_within (Changes k w ∷ ss) (Nothing ∷ os) u = absurd (cc)
issued_within (Changes k w ∷ ss) (Issue g c ∷ os) u = absurd (cc)

pub end_within : (j : History) (k : ℕ) (os : List Outcome) (said : Said) → Legal (with_entry j (End k os said)) → length (due_items (with_entry j (End k os said))) ≤ length (due_items j) + length (filter opens (slots j k))
end_within j k os said l =
    let all = ap (λ (xs : List DueItem). length xs) (end_due j k os said l) in
    let most = ended_within j.home (slots j k) os (due_items j) in
    let few = issued_within (slots j k) os l.0.fits.1 in omega arith

pub follows : (j : History) (e : Entry) → Legal (with_entry j e) → due_items (with_entry j e) ≡ left_by j (due_items j) e
follows j (Join c) l = join_due j c l
follows j (Accept k a) l = accept_due j k a l
follows j (Take k cookies) l = take_due j k cookies l
follows j (Deny k slot) l = deny_due j k slot l
follows j (Cancel k) l = cancel_due j k l
follows j (Orphan k) l = orphan_due j k l
follows j (End k results said) l = end_due j k results said l
follows j (Leave c) l = leave_due j c l
follows j (Shut items) l = shut_due j items l

-- What shows the counts of journals does so once a call has come to one of them.
use Rattle.std.proofs.Common.{◌≡◌, ℕ, zero, suc, ◌+◌, ◌-◌, ◌<◌, Option, Result, Ok, Err, List, [], ◌∷◌, ◌++◌, length, get_or, reverse, slice_set, refl, sym, ap, subst, ◌∙◌, arith}
use Rattle.std.proofs.lemmas.List.{reverse-append}
use Rattle.std.proofs.lemmas.Grind.{common_steps}
use Rattle.handle_model.specs.declared.entry.Home.{Home}
use Rattle.handle_model.specs.declared.entry.Asked.{Asked}
use Rattle.handle_model.specs.declared.entry.DueItem.{DueItem}
use Rattle.handle_model.specs.declared.entry.Entry.{Entry}
use Rattle.handle_model.specs.declared.entry.Entry.TheVariants.{Join, Accept, Take, Deny, Cancel, Orphan, Leave, Shut}
use Rattle.handle_model.specs.Bases.{empty_base}
use Rattle.handle_model.specs.Journal.{cookies_for, slots}
use Rattle.handle_model.specs.History.{History, since}
use Rattle.replay_script.specs.declared.counts.Counts.{Counts}
use Rattle.replay_script.specs.Counting as tally
use Rattle.replay_script.specs.Counting.{AddsGroup, TellsJournals, shown, with_entry}
use Rattle.replay_script.proofs.Counting.{quiet_count, tells_more}
use Rattle.group_core.specs.declared.answer.Taking.{Taking}
use Rattle.group_core.specs.declared.answer.Taking.TheVariants as taking
use Rattle.group_core.specs.declared.answer.Cancelled.{Cancelled}
use Rattle.group_core.specs.declared.answer.Cancelled.TheVariants as cancelled
use Rattle.group_core.specs.declared.answer.Orphaned.{Orphaned}
use Rattle.group_core.specs.declared.answer.Orphaned.TheVariants as orphaned
use Rattle.group_core.specs.declared.answer.AcceptRefusal.{AcceptRefusal}
use Rattle.group_core.specs.declared.answer.AcceptRefusal.TheVariants as refusal
use Rattle.group_core.specs.declared.answer.JoinRefusal.{JoinRefusal}
use Rattle.group_core.specs.declared.answer.JoinRefusal.TheVariants as join_refusal
use Rattle.group_core.specs.declared.answer.Rest.{Rest}
use Rattle.group_core.specs.declared.answer.Rest.TheVariants as rest
use Rattle.group_core.specs.Adds.{Adds}
use Rattle.group_core.specs.Conns.{Settles}
use Rattle.group_core.specs.Calls.{Accepts, Takes, Cancels, Orphans, numbered}
use Rattle.hub_story.specs.Answers.{JoinsWhole}
use Rattle.replay_groups.specs.Keeps.{AddsRest, Counted, newest_due}

-- ---- one journal of a list

set_same : (pasts : List (List Entry)) (i : ℕ) → slice_set pasts i (get_or pasts i []) ≡ pasts
set_same [] i = refl
set_same (past ∷ more) zero = refl
set_same (past ∷ more) (suc i) = ap (λ (l : List (List Entry)). past ∷ l) (set_same more i)

set_twice : (pasts : List (List Entry)) (i : ℕ) (a b : List Entry) → slice_set (slice_set pasts i a) i b ≡ slice_set pasts i b
set_twice [] i a b = refl
set_twice (past ∷ more) zero a b = refl
set_twice (past ∷ more) (suc i) a b = ap (λ (l : List (List Entry)). past ∷ l) (set_twice more i a b)

get_set : (pasts : List (List Entry)) (i : ℕ) (a : List Entry) → i < length pasts → get_or (slice_set pasts i a) i [] ≡ a
get_set [] i a low = absurd (omega (arith, low))
get_set (past ∷ more) zero a low = refl
get_set (past ∷ more) (suc i) a low = get_set more i a (omega (arith, low))

length_set : (pasts : List (List Entry)) (i : ℕ) (a : List Entry) → length (slice_set pasts i a) ≡ length pasts
length_set [] i a = refl
length_set (past ∷ more) zero a = refl
length_set (past ∷ more) (suc i) a = ap suc (length_set more i a)

-- ---- entries that were added

abbrev At : Home → List Entry → History
At home past = since home empty_base past

none_more : (x : Counts) (home : Home) (pasts : List (List Entry)) (i : ℕ) (new : List Entry) → Adds (At home (get_or pasts i [])) [] (At home new) → TellsJournals x pasts → TellsJournals x (slice_set pasts i new)
none_more x home pasts i new adds t =
    subst (λ (l : List Entry). TellsJournals x (slice_set pasts i l)) (sym (ap (λ (z : History). z.past) adds)) (subst (TellsJournals x) (sym (set_same pasts i)) t)

one_more : (e : Entry) (x y : Counts) → tally.Adds e x y → (home : Home) (pasts : List (List Entry)) (i : ℕ) (new : List Entry) → i < length pasts → Adds (At home (get_or pasts i [])) (e ∷ []) (At home new) → TellsJournals x pasts
    → TellsJournals y (slice_set pasts i new)
one_more e x y c home pasts i new low adds t =
    subst (λ (l : List Entry). TellsJournals y (slice_set pasts i l)) (sym (ap (λ (z : History). z.past) adds)) (tells_more.entry pasts i e x y low t c)

two_more : (d e : Entry) (x c y : Counts) → tally.Adds e x c → tally.Adds d c y → (home : Home) (pasts : List (List Entry)) (i : ℕ) (new : List Entry) → i < length pasts → Adds (At home (get_or pasts i [])) (d ∷ e ∷ []) (At home new) → TellsJournals x pasts
    → TellsJournals y (slice_set pasts i new)
two_more d e x c y first second home pasts i new low adds t =
    let past : List Entry = get_or pasts i [] in
    let one : TellsJournals c (slice_set pasts i (e ∷ past)) = tells_more.entry pasts i e x c low t first in
    let two : TellsJournals y (slice_set (slice_set pasts i (e ∷ past)) i (d ∷ get_or (slice_set pasts i (e ∷ past)) i [])) =
    tells_more.entry (slice_set pasts i (e ∷ past)) i d c y (let n = length_set pasts i (e ∷ past) in omega (arith, n, low)) one second in
    subst (λ (l : List Entry). TellsJournals y (slice_set pasts i l)) (sym (ap (λ (z : History). z.past) adds))
    (subst (TellsJournals y) (set_twice pasts i (e ∷ past) (d ∷ e ∷ past)) (subst (λ (l : List Entry). TellsJournals y (slice_set (slice_set pasts i (e ∷ past)) i (d ∷ l))) (get_set pasts i (e ∷ past) low) two))

-- entries that count nothing
join_adds : (x : Counts) (n : ℕ) → tally.Adds (Join n) x x
join_adds x n = λ z told. told ∙ ap shown (sym (quiet_count z n).0)

pub leave_adds : (x : Counts) (n : ℕ) → tally.Adds (Leave n) x x
leave_adds x n = λ z told. told ∙ ap shown (sym (quiet_count z n).1)

orphan_adds : (x : Counts) (n : ℕ) → tally.Adds (Orphan n) x x
orphan_adds x n = λ z told. told ∙ ap shown (sym (quiet_count z n).2)

-- ---- each call

abbrev AcceptAdds : Counts → Counts → Type 0
AcceptAdds x y = (k : ℕ) (a : Asked) → tally.Adds (Accept k a) x y

pub accept_counted : (a : Asked) (n : ℕ) (x y : Counts) → AcceptAdds x y → Counted (λ j h. Accepts j a (Ok n) h) x y
accept_counted a n x y c home pasts i new low t = one_more (Accept n (numbered (At home (get_or pasts i [])) a)) x y (c n (numbered (At home (get_or pasts i [])) a)) home pasts i new low t.2

pub refusal_counted : (a b : Asked) (r : AcceptRefusal) (x : Counts) → Counted (λ j h. Accepts j a (Err (b, r)) h) x x
refusal_counted a b refusal.Calls x home pasts i new low t = none_more x home pasts i new t.2
refusal_counted a b refusal.Handles x home pasts i new low t = none_more x home pasts i new t.2
refusal_counted a b refusal.Numbers x home pasts i new low t = none_more x home pasts i new t.2
refusal_counted a b refusal.Memory x home pasts i new low t = none_more x home pasts i new t.1

pub run_counted : (k : ℕ) (row : List (Option ℕ)) (serial : ℕ) (x y : Counts) → ((n : ℕ) (cookies : List (Option ℕ)) → tally.Adds (Take n cookies) x y) → Counted (λ j h. Takes j k (taking.Run row serial) h) x y
run_counted k row serial x y c home pasts i new low t =
    let j : History = At home (get_or pasts i []) in
    one_more (Take k (cookies_for j (slots j k))) x y (c k (cookies_for j (slots j k))) home pasts i new low t.5

pub denied_counted : (k slot : ℕ) (x y : Counts) → ((n s : ℕ) → tally.Adds (Deny n s) x y) → Counted (λ j h. Takes j k (taking.Denied slot) h) x y
denied_counted k slot x y c home pasts i new low t = one_more (Deny k slot) x y (c k slot) home pasts i new low t.3

pub dropped_counted : (k : ℕ) (x : Counts) → Counted (λ j h. Takes j k taking.Dropped h) x x
dropped_counted k x home pasts i new low t = none_more x home pasts i new t.1

pub wait_counted : (k m : ℕ) (x : Counts) → Counted (λ j h. Takes j k (taking.Wait m) h) x x
wait_counted k m x home pasts i new low t = none_more x home pasts i new t.2

abbrev CancelAdds : Counts → Counts → Type 0
CancelAdds x y = (k : ℕ) → tally.Adds (Cancel k) x y

pub ended_counted : (k : ℕ) (x y : Counts) → CancelAdds x y → Counted (λ j h. Cancels j k cancelled.Ended h) x y
ended_counted k x y c home pasts i new low t = one_more (Cancel k) x y (c k) home pasts i new low t.1

pub flagged_counted : (k : ℕ) (x y : Counts) → CancelAdds x y → Counted (λ j h. Cancels j k cancelled.Flagged h) x y
flagged_counted k x y c home pasts i new low t = one_more (Cancel k) x y (c k) home pasts i new low t.1

pub late_counted : (k : ℕ) (x : Counts) → Counted (λ j h. Cancels j k cancelled.Late h) x x
late_counted k x home pasts i new low t = none_more x home pasts i new t.2

pub orphan_counted : (k : ℕ) (r : Orphaned) (x y : Counts) → y ≡ x → Counted (λ j h. Orphans j k r h) x y
orphan_counted k r x y same = subst (λ (z : Counts). Counted (λ j h. Orphans j k r h) x z) (sym same) (at r)
  where
    at : (r : Orphaned) → Counted (λ j h. Orphans j k r h) x x
    at orphaned.Dropped home pasts i new low t = one_more (Orphan k) x x (orphan_adds x k) home pasts i new low t.1
    at orphaned.Running home pasts i new low t = one_more (Orphan k) x x (orphan_adds x k) home pasts i new low t.1
    at orphaned.Late home pasts i new low t = none_more x home pasts i new t.2

pub join_counted : (r : Result ℕ JoinRefusal) (x y : Counts) → y ≡ x → Counted (λ j h. JoinsWhole j r h) x y
join_counted r x y same = subst (λ (z : Counts). Counted (λ j h. JoinsWhole j r h) x z) (sym same) (at r)
  where
    at : (r : Result ℕ JoinRefusal) → Counted (λ j h. JoinsWhole j r h) x x
    at (Ok c) home pasts i new low t = one_more (Join c) x x (join_adds x c) home pasts i new low t.2
    at (Err join_refusal.TooMany) home pasts i new low t = none_more x home pasts i new t.1
    at (Err join_refusal.Numbers) home pasts i new low t = none_more x home pasts i new t.1
    at (Err join_refusal.Memory) home pasts i new low t = none_more x home pasts i new t

pub settle_counted : (e : Entry) (r : Rest) (x c y : Counts) → tally.Adds e x c → AddsRest r c y → Counted (λ j h. Settles j e r h) x y
settle_counted e rest.Stays x c y first same home pasts i new low t = one_more e x y (subst (λ (z : Counts). tally.Adds e x z) (sym same) first) home pasts i new low t.1
settle_counted e (rest.Shut items) x c y first second home pasts i new low t = two_more (Shut items) e x c y first second home pasts i new low t.2

-- the Shut is the newest entry
pub rest_adds : (old new : History) (e : Entry) (items : List DueItem) (n : ℕ) (x y : Counts) → Settles old e (rest.Shut items) new → n ≡ newest_due new.past → ((due : List DueItem) → length due ≡ n → tally.Adds (Shut due) x y)
    → tally.Adds (Shut items) x y
rest_adds old new e items n x y t is c = c items (sym (is ∙ ap (λ (z : History). newest_due z.past) t.2))

-- ---- a group that is opened and joined

set_last : (pasts : List (List Entry)) (new : List Entry) → slice_set (pasts ++ [] ∷ []) (length pasts) new ≡ pasts ++ new ∷ []
set_last [] new = refl
set_last (past ∷ more) new = ap (λ (l : List (List Entry)). past ∷ l) (set_last more new)

get_last : (pasts : List (List Entry)) → get_or (pasts ++ [] ∷ []) (length pasts) [] ≡ []
get_last [] = refl
get_last (past ∷ more) = get_last more

low_last : (pasts : List (List Entry)) → length pasts < length (pasts ++ [] ∷ [])
low_last [] = omega arith
low_last (past ∷ more) = let n = low_last more in omega (arith, n)

pub opened_counted : (x y : Counts) (pasts : List (List Entry)) (n : ℕ) → AddsGroup x y → TellsJournals x pasts → TellsJournals y (pasts ++ (Join n ∷ []) ∷ [])
opened_counted x y pasts n adds t =
    let one : TellsJournals y (pasts ++ [] ∷ []) = tells_more.group pasts x y t adds in
    let two : TellsJournals y (slice_set (pasts ++ [] ∷ []) (length pasts) (Join n ∷ get_or (pasts ++ [] ∷ []) (length pasts) [])) = tells_more.entry (pasts ++ [] ∷ []) (length pasts) (Join n) y y (low_last pasts) one (join_adds y n) in
    subst (TellsJournals y) (set_last pasts (Join n ∷ [])) (subst (λ (l : List Entry). TellsJournals y (slice_set (pasts ++ [] ∷ []) (length pasts) (Join n ∷ l))) (get_last pasts) two)

-- ---- the newest entry

pub newest_first : (older : List Entry) (e : Entry) → reverse (older ++ e ∷ []) ≡ e ∷ reverse older
newest_first older e = reverse-append older (e ∷ [])

pub ruleset newest = (newest_first, common_steps)

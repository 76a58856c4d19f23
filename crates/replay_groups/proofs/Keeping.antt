-- Where one group changed, the groups keep the journals of a list in which one changed.
use Rattle.std.proofs.Common.{◌≡◌, ℕ, zero, suc, ◌+◌, ◌-◌, ◌<◌, Bool, true, false, not, ◌||◌, if◌then◌else◌, Result, Ok, Err, List, [], ◌∷◌, ◌++◌, length, filter, get_or, slice_set, slice_index_or, refl, sym, ap, subst, ◌∙◌, arith}
use Rattle.std.specs.List.{list_any}
use Rattle.std.proofs.lemmas.List.Folds.{list_any-append}
use Rattle.handle_model.specs.declared.entry.Home.{Home}
use Rattle.handle_model.specs.declared.entry.Asked.{Asked}
use Rattle.handle_model.specs.declared.entry.Outcome.{Outcome}
use Rattle.handle_model.specs.declared.entry.Said.{Said}
use Rattle.handle_model.specs.declared.entry.Entry.{Entry}
use Rattle.handle_model.specs.declared.entry.Entry.TheVariants.{Join, Accept, Take, Deny, Cancel, Orphan, End, Leave}
use Rattle.handle_model.specs.Bases.{empty_base}
use Rattle.handle_model.specs.Entries.{is_shut}
use Rattle.handle_model.specs.Journal.{cookies_for, slots, is_open, runs, suit}
use Rattle.handle_model.proofs.Steps.{open_unshut, runs_unshut}
use Rattle.handle_model.specs.History.{History, IsSound, since, with_entry}
use Rattle.group_core.specs.declared.answer.Taking.{Taking}
use Rattle.group_core.specs.declared.answer.Taking.TheVariants as taking
use Rattle.group_core.specs.declared.answer.Cancelled.{Cancelled}
use Rattle.group_core.specs.declared.answer.Cancelled.TheVariants as cancelled
use Rattle.group_core.specs.declared.answer.Orphaned.{Orphaned}
use Rattle.group_core.specs.declared.answer.Orphaned.TheVariants as orphaned
use Rattle.group_core.specs.declared.answer.AcceptRefusal.{AcceptRefusal}
use Rattle.group_core.specs.declared.answer.AcceptRefusal.TheVariants as refusal
use Rattle.group_core.specs.declared.answer.JoinRefusal.{JoinRefusal}
use Rattle.group_core.specs.declared.answer.JoinRefusal.TheVariants as join_refusal
use Rattle.group_core.specs.declared.answer.Rest.{Rest}
use Rattle.group_core.specs.declared.answer.Rest.TheVariants as rest
use Rattle.group_core.specs.Adds.{Adds}
use Rattle.group_core.specs.Conns.{Joins, Settles}
use Rattle.group_core.specs.Calls.{Accepts, Takes, Cancels, Orphans, numbered}
use Rattle.hub_story.specs.Answers.{JoinsWhole}
use Rattle.hub_story.specs.Folded.{kept_since, kept_with}
use Rattle.hub_story.proofs.WholeLemmas as kept
use Rattle.hub_story.proofs.WholeLemmas.{accepts_whole, takes_whole, cancels_whole, orphans_whole, settles_whole, joins_whole, open_kept, runs_mine, suit_kept}
use Rattle.hub_story.proofs.FoldLemmas.{kept_folds}
use Rattle.replay_world.specs.Worlds.{goes_on}
use Rattle.replay_world.specs.Replays.{journals_from}
use Rattle.replay_groups.specs.Keeps.{GroupsView, home_in, whole_of, past_at, AllSound, Keeps, Has, no_journal, group_at, Known, GoesOn, Answers, Touched, Counted, AddsSettled, left_open}
use Rattle.replay_groups.proofs.Tallies.{join_counted, orphan_counted, settle_counted}

-- ---- journals in a row

at_from : (boot id : ℕ) (pasts : List (List Entry)) (i : ℕ) → i < length pasts → slice_index_or (journals_from boot id pasts) i no_journal ≡ kept_since (home_in boot (id + i)) (get_or pasts i [])
at_from boot id [] i low = absurd (omega arith)
at_from boot id (past ∷ more) zero low = ap (λ (n : ℕ). kept_since (home_in boot n) past) (let e : id ≡ id + 0 = omega arith in e)
at_from boot id (past ∷ more) (suc i) low =
    at_from boot (suc id) more i (omega arith) ∙ ap (λ (n : ℕ). kept_since (home_in boot n) (get_or more i [])) (let e : suc id + i ≡ id + suc i = omega arith in e)

set_from : (boot id : ℕ) (pasts : List (List Entry)) (i : ℕ) (new : List Entry) → slice_set (journals_from boot id pasts) i (kept_since (home_in boot (id + i)) new) ≡ journals_from boot id (slice_set pasts i new)
set_from boot id [] i new = refl
set_from boot id (past ∷ more) zero new = ap (λ (n : ℕ). kept_since (home_in boot n) new ∷ journals_from boot (suc id) more) (let e : id + 0 ≡ id = omega arith in e)
set_from boot id (past ∷ more) (suc i) new =
    ap (λ (n : ℕ). kept_since (home_in boot id) past ∷ slice_set (journals_from boot (suc id) more) i (kept_since (home_in boot n) new)) (let e : id + suc i ≡ suc id + i = omega arith in e)
    ∙ ap (λ (js : List History). kept_since (home_in boot id) past ∷ js) (set_from boot (suc id) more i new)

pub length_from : (boot id : ℕ) (pasts : List (List Entry)) → length (journals_from boot id pasts) ≡ length pasts
length_from boot id [] = refl
length_from boot id (past ∷ more) = ap suc (length_from boot (suc id) more)

sound_from : (boot id : ℕ) (pasts : List (List Entry)) (i : ℕ) → i < length pasts → AllSound boot id pasts → IsSound (whole_of boot (id + i) (get_or pasts i []))
sound_from boot id [] i low all = absurd (omega arith)
sound_from boot id (past ∷ more) zero low all = subst (λ (n : ℕ). IsSound (whole_of boot n past)) (let e : id ≡ id + 0 = omega arith in e) all.0
sound_from boot id (past ∷ more) (suc i) low all =
    subst (λ (n : ℕ). IsSound (whole_of boot n (get_or more i []))) (let e : suc id + i ≡ id + suc i = omega arith in e) (sound_from boot (suc id) more i (omega arith) all.1)

sound_set : (boot id : ℕ) (pasts : List (List Entry)) (i : ℕ) (new : List Entry) → IsSound (whole_of boot (id + i) new) → AllSound boot id pasts → AllSound boot id (slice_set pasts i new)
sound_set boot id [] i new is all = all
sound_set boot id (past ∷ more) zero new is all = (subst (λ (n : ℕ). IsSound (whole_of boot n new)) (let e : id + 0 ≡ id = omega arith in e) is, all.1)
sound_set boot id (past ∷ more) (suc i) new is all =
    (all.0, sound_set boot (suc id) more i new (subst (λ (n : ℕ). IsSound (whole_of boot n new)) (let e : id + suc i ≡ suc id + i = omega arith in e) is) all.1)

-- ---- how many are open

abbrev pub counted : Bool → ℕ → ℕ
counted b n = if b then suc n else n

pub count_first : (b : Bool) (past : List Entry) (more : List (List Entry)) → length (if b then past ∷ filter goes_on more else filter goes_on more) ≡ counted b (length (filter goes_on more))
count_first true past more = refl
count_first false past more = refl

count_set : (pasts : List (List Entry)) (i : ℕ) (new : List Entry) → i < length pasts → goes_on new ≡ goes_on (get_or pasts i []) → length (filter goes_on (slice_set pasts i new)) ≡ length (filter goes_on pasts)
count_set [] i new low same = absurd (omega arith)
count_set (past ∷ more) zero new low same =
    count_first (goes_on new) new more ∙ ap (λ (b : Bool). counted b (length (filter goes_on more))) same ∙ sym (count_first (goes_on past) past more)
count_set (past ∷ more) (suc i) new low same =
    count_first (goes_on past) past (slice_set more i new) ∙ ap (counted (goes_on past)) (count_set more i new (omega arith) same) ∙ sym (count_first (goes_on past) past more)

pub suc_counted : (b : Bool) (n : ℕ) → suc (counted b n) ≡ counted b (suc n)
suc_counted true n = refl
suc_counted false n = refl

count_less : (pasts : List (List Entry)) (i : ℕ) (new : List Entry) → i < length pasts → goes_on (get_or pasts i []) ≡ true → goes_on new ≡ false
    → suc (length (filter goes_on (slice_set pasts i new))) ≡ length (filter goes_on pasts)
count_less [] i new low goes ends = absurd (omega arith)
count_less (past ∷ more) zero new low goes ends =
    ap suc (count_first (goes_on new) new more ∙ ap (λ (b : Bool). counted b (length (filter goes_on more))) ends)
    ∙ sym (count_first (goes_on past) past more ∙ ap (λ (b : Bool). counted b (length (filter goes_on more))) goes)
count_less (past ∷ more) (suc i) new low goes ends =
    ap suc (count_first (goes_on past) past (slice_set more i new)) ∙ suc_counted (goes_on past) (length (filter goes_on (slice_set more i new)))
    ∙ ap (counted (goes_on past)) (count_less more i new (omega arith) goes ends) ∙ sym (count_first (goes_on past) past more)

-- ---- one group changes

is_low : (x : GroupsView) (g : ℕ) (pasts : List (List Entry)) → Has x g → Keeps x pasts → g - 1 < length pasts
is_low x g pasts has k = let count : length x.groups ≡ length pasts = ap length k.journals ∙ length_from x.boot 1 pasts in omega (arith, count, has.1)

or_none : (a b : Bool) → b ≡ false → (a || b) ≡ a
or_none true b none = refl
or_none false b none = none

-- the journal as the group keeps it, and the whole one
pub here_is : (x : GroupsView) (g : ℕ) (pasts : List (List Entry)) → Has x g → Keeps x pasts → group_at x g ≡ kept_since (home_in x.boot g) (past_at pasts g)
here_is x g pasts has k =
    let id : 1 + (g - 1) ≡ g = omega (arith, has.0) in
    ap (λ (js : List History). slice_index_or js (g - 1) no_journal) k.journals ∙ at_from x.boot 1 pasts (g - 1) (is_low x g pasts has k)
    ∙ ap (λ (m : ℕ). kept_since (home_in x.boot m) (past_at pasts g)) id

pub sound_is : (x : GroupsView) (g : ℕ) (pasts : List (List Entry)) → Has x g → Keeps x pasts → IsSound (whole_of x.boot g (past_at pasts g))
sound_is x g pasts has k =
    let id : 1 + (g - 1) ≡ g = omega (arith, has.0) in
    subst (λ (m : ℕ). IsSound (whole_of x.boot m (past_at pasts g))) id (sound_from x.boot 1 pasts (g - 1) (is_low x g pasts has k) k.sound)

-- a Shut stands in both or in neither
pub shut_same : (home : Home) (past : List Entry) → IsSound (since home empty_base past) → list_any is_shut (kept_since home past).past ≡ list_any is_shut past
shut_same home past s =
    let f = kept_folds home past s.legal in
    ap (λ (z : History). list_any is_shut z.past) f.fold_is
    ∙ sym (or_none (list_any is_shut f.newer) (list_any is_shut f.older) f.open_is)
    ∙ sym (list_any-append is_shut f.newer f.older) ∙ sym (ap (list_any is_shut) f.past_is)

-- the group goes on by all journals that it keeps, where it does by some
pub goes_all : (x : GroupsView) (g : ℕ) → Has x g → GoesOn x g → (pasts : List (List Entry)) → Keeps x pasts → list_any is_shut (past_at pasts g) ≡ false
goes_all x g has goes pasts k =
    let home = home_in x.boot g in
    sym (shut_same home (past_at pasts g) (sound_is x g pasts has k))
    ∙ ap (λ (j : History). list_any is_shut j.past) (sym (here_is x g pasts has k) ∙ here_is x g goes.0 has goes.1)
    ∙ shut_same home (past_at goes.0 g) (sound_is x g goes.0 has goes.1) ∙ goes.2

pub unshut_at : (x : GroupsView) (g : ℕ) → Has x g → GoesOn x g → list_any is_shut (group_at x g).past ≡ false
unshut_at x g has goes =
    ap (λ (j : History). list_any is_shut j.past) (here_is x g goes.0 has goes.1)
    ∙ shut_same (home_in x.boot g) (past_at goes.0 g) (sound_is x g goes.0 has goes.1) ∙ goes.2

-- where a connection is open, or a call runs
pub open_goes : (x : GroupsView) (g c : ℕ) → Has x g → Known x g (λ j. is_open j c ≡ true) → GoesOn x g
open_goes x g c has o = (o.0, o.1, open_unshut (home_in x.boot g) empty_base (past_at o.0 g) c (sound_is x g o.0 has o.1).legal o.2)

pub open_at : (x : GroupsView) (g c : ℕ) → Has x g → Known x g (λ j. is_open j c ≡ true) → is_open (group_at x g) c ≡ true
open_at x g c has o =
    ap (λ (j : History). is_open j c) (here_is x g o.0 has o.1) ∙ open_kept (home_in x.boot g) (past_at o.0 g) c (sound_is x g o.0 has o.1) o.2

abbrev pub Ending : ℕ → List Outcome → History → Type 0
Ending k results j = (runs j k ≡ true) × (suit (slots j k) results ≡ true)

pub runs_goes : (x : GroupsView) (g k : ℕ) (results : List Outcome) → Has x g → Known x g (Ending k results) → GoesOn x g
runs_goes x g k results has r = (r.0, r.1, runs_unshut (home_in x.boot g) empty_base (past_at r.0 g) k (sound_is x g r.0 has r.1).legal r.2.0)

pub runs_at : (x : GroupsView) (g k : ℕ) (results : List Outcome) → Has x g → Known x g (Ending k results) → Ending k results (group_at x g)
runs_at x g k results has r =
    let home = home_in x.boot g in
    let past = past_at r.0 g in
    let s = sound_is x g r.0 has r.1 in
    subst (Ending k results) (sym (here_is x g r.0 has r.1)) (runs_mine home past k s r.2.0, suit_kept home past k results s r.2.0 r.2.1)

abbrev pub Goes : GroupsView → ℕ → (History → History → Type 0) → List (List Entry) → List Entry → Type 0
Goes x g Says pasts es = Says (whole_of x.boot g (past_at pasts g)) (whole_of x.boot g (es ++ past_at pasts g))

abbrev pub Counts : GroupsView → ℕ → (History → History → Type 0) → ℕ → Type 0
Counts x g Says n = (pasts : List (List Entry)) → Keeps x pasts → (es : List Entry) → Goes x g Says pasts es → n ≡ length (filter goes_on (slice_set pasts (g - 1) (es ++ past_at pasts g)))

kept_on : (x y : GroupsView) (g : ℕ) (j : History) (n : ℕ) (Says : History → History → Type 0) → Has x g → GoesOn x g → Touched x g j n y
    → ((past : List Entry) → IsSound (whole_of x.boot g past) → list_any is_shut past ≡ false → group_at x g ≡ kept_since (home_in x.boot g) past → kept.Keeps (home_in x.boot g) past j Says)
    → Counts x g Says n → Counted Says x.counts y.counts
    → (pasts : List (List Entry)) → Keeps x pasts → (new : List Entry) × Says (whole_of x.boot g (past_at pasts g)) (whole_of x.boot g new) × Keeps y (slice_set pasts (g - 1) new)
kept_on x y g j n Says has goes touched each counts tally pasts k =
    let groups : y.groups ≡ slice_set x.groups (g - 1) j = ap (λ (z : GroupsView). z.groups) touched.0 in
    let boot : y.boot ≡ x.boot = ap (λ (z : GroupsView). z.boot) touched.0 in
    let id : 1 + (g - 1) ≡ g = omega (arith, has.0) in
    let past = past_at pasts g in
    let w = each past (sound_is x g pasts has k) (goes_all x g has goes pasts k) (here_is x g pasts has k) in
    let new = w.es ++ past in
    let new_is : kept_since (home_in x.boot g) new ≡ kept_since (home_in x.boot (1 + (g - 1))) new = ap (λ (m : ℕ). kept_since (home_in x.boot m) new) (sym id) in (
      new,
      w.answers,
      record {
        journals =
            groups ∙ ap (λ (js : List History). slice_set js (g - 1) j) k.journals
            ∙ ap (λ (z : History). slice_set (journals_from x.boot 1 pasts) (g - 1) z) (w.kept_is ∙ new_is)
            ∙ set_from x.boot 1 pasts (g - 1) new ∙ ap (λ (b : ℕ). journals_from b 1 (slice_set pasts (g - 1) new)) (sym boot);
        sound = subst (λ (b : ℕ). AllSound b 1 (slice_set pasts (g - 1) new)) (sym boot)
            (sound_set x.boot 1 pasts (g - 1) new (subst (λ (m : ℕ). IsSound (whole_of x.boot m new)) (sym id) w.sound) k.sound);
        open_is = ap (λ (z : GroupsView). z.open_groups) touched.0 ∙ counts pasts k w.es w.answers;
        counted = tally (home_in x.boot g) pasts (g - 1) new (is_low x g pasts has k) w.answers k.counted;
      },
    )

pub answered : (x y : GroupsView) (g : ℕ) (j : History) (n : ℕ) (Says : History → History → Type 0) → Has x g → GoesOn x g → Touched x g j n y
    → ((past : List Entry) → IsSound (whole_of x.boot g past) → list_any is_shut past ≡ false → group_at x g ≡ kept_since (home_in x.boot g) past → kept.Keeps (home_in x.boot g) past j Says)
    → Counts x g Says n → Counted Says x.counts y.counts → Answers x g Says y
answered x y g j n Says has goes touched each counts tally = (ap (λ (z : GroupsView). z.boot) touched.0, kept_on x y g j n Says has goes touched each counts tally)

-- as many are open where no group ends, and one fewer where one does
same_count : (x : GroupsView) (g : ℕ) (Says : History → History → Type 0) → Has x g
    → ((past es : List Entry) → Says (whole_of x.boot g past) (whole_of x.boot g (es ++ past)) → list_any is_shut (es ++ past) ≡ list_any is_shut past) → Counts x g Says x.open_groups
same_count x g Says has quiet = λ pasts k es says.
    k.open_is ∙ sym (count_set pasts (g - 1) (es ++ past_at pasts g) (is_low x g pasts has k) (ap not (quiet (past_at pasts g) es says)))

less_count : (x : GroupsView) (g : ℕ) (Says : History → History → Type 0) → Has x g → GoesOn x g
    → ((past es : List Entry) → Says (whole_of x.boot g past) (whole_of x.boot g (es ++ past)) → list_any is_shut (es ++ past) ≡ true) → Counts x g Says (x.open_groups - 1)
less_count x g Says has goes loud = λ pasts k es says.
    let less = count_less pasts (g - 1) (es ++ past_at pasts g) (is_low x g pasts has k) (ap not (goes_all x g has goes pasts k)) (ap not (loud (past_at pasts g) es says)) in
    omega (arith, k.open_is, less)

-- ---- what doesn't end a group

added : (home : Home) (past es ds : List Entry) → list_any is_shut (ds ++ past) ≡ list_any is_shut past → Adds (since home empty_base past) ds (since home empty_base (es ++ past))
    → list_any is_shut (es ++ past) ≡ list_any is_shut past
added home past es ds none adds = ap (λ (z : History). list_any is_shut z.past) adds ∙ none

take_quiet : (home : Home) (past es : List Entry) (k : ℕ) (r : Taking) → Takes (since home empty_base past) k r (since home empty_base (es ++ past)) → list_any is_shut (es ++ past) ≡ list_any is_shut past
take_quiet home past es k (taking.Run row serial) t = added home past es (Take k (cookies_for (since home empty_base past) (slots (since home empty_base past) k)) ∷ []) refl t.5
take_quiet home past es k (taking.Denied slot) t = added home past es (Deny k slot ∷ []) refl t.3
take_quiet home past es k taking.Dropped t = added home past es [] refl t.1
take_quiet home past es k (taking.Wait m) t = added home past es [] refl t.2

cancel_quiet : (home : Home) (past es : List Entry) (k : ℕ) (r : Cancelled) → Cancels (since home empty_base past) k r (since home empty_base (es ++ past)) → list_any is_shut (es ++ past) ≡ list_any is_shut past
cancel_quiet home past es k cancelled.Ended t = added home past es (Cancel k ∷ []) refl t.1
cancel_quiet home past es k cancelled.Flagged t = added home past es (Cancel k ∷ []) refl t.1
cancel_quiet home past es k cancelled.Late t = added home past es [] refl t.2

orphan_quiet : (home : Home) (past es : List Entry) (k : ℕ) (r : Orphaned) → Orphans (since home empty_base past) k r (since home empty_base (es ++ past)) → list_any is_shut (es ++ past) ≡ list_any is_shut past
orphan_quiet home past es k orphaned.Dropped t = added home past es (Orphan k ∷ []) refl t.1
orphan_quiet home past es k orphaned.Running t = added home past es (Orphan k ∷ []) refl t.1
orphan_quiet home past es k orphaned.Late t = added home past es [] refl t.2

join_quiet : (home : Home) (past es : List Entry) (r : Result ℕ JoinRefusal) → JoinsWhole (since home empty_base past) r (since home empty_base (es ++ past)) → list_any is_shut (es ++ past) ≡ list_any is_shut past
join_quiet home past es (Ok c) t = added home past es (Join c ∷ []) refl t.2
join_quiet home past es (Err join_refusal.TooMany) t = added home past es [] refl t.1
join_quiet home past es (Err join_refusal.Numbers) t = added home past es [] refl t.1
join_quiet home past es (Err join_refusal.Memory) t = added home past es [] refl t

accept_quiet : (home : Home) (past es : List Entry) (a : Asked) (r : Result ℕ (Asked × AcceptRefusal)) → Accepts (since home empty_base past) a r (since home empty_base (es ++ past)) → list_any is_shut (es ++ past) ≡ list_any is_shut past
accept_quiet home past es a (Ok n) t = added home past es (Accept n (numbered (since home empty_base past) a) ∷ []) refl t.2
accept_quiet home past es a (Err (b, refusal.Calls)) t = added home past es [] refl t.2
accept_quiet home past es a (Err (b, refusal.Handles)) t = added home past es [] refl t.2
accept_quiet home past es a (Err (b, refusal.Numbers)) t = added home past es [] refl t.2
accept_quiet home past es a (Err (b, refusal.Memory)) t = added home past es [] refl t.1

-- an entry that may make an end due
abbrev pub IsStep : Entry → Type 0
IsStep e = (is_shut e ≡ false) × ((x : History) → kept_with e x ≡ with_entry x e)

quiet_by : (b c : Bool) → b ≡ false → (b || c) ≡ c
quiet_by b c h = rw h refl

settle_counts : (x : GroupsView) (g : ℕ) (e : Entry) (r : Rest) → Has x g → GoesOn x g → IsStep e → Counts x g (λ a b. Settles a e r b) (left_open x.open_groups r)
settle_counts x g e rest.Stays has goes step =
    same_count x g (λ a b. Settles a e rest.Stays b) has
    (λ past es t. added (home_in x.boot g) past es (e ∷ []) (quiet_by (is_shut e) (list_any is_shut past) step.0) t.1)
settle_counts x g e (rest.Shut items) has goes step =
    less_count x g (λ a b. Settles a e (rest.Shut items) b) has goes (λ past es t. ap (λ (z : History). list_any is_shut z.past) t.2)

-- ---- each call

pub taken : (x y : GroupsView) (g k : ℕ) (j : History) (r : Taking) → Has x g → GoesOn x g → Touched x g j x.open_groups y → Takes (group_at x g) k r j → Counted (λ a b. Takes a k r b) x.counts y.counts → Answers x g (λ a b. Takes a k r b) y
taken x y g k j r has goes touched t tally =
    answered x y g j x.open_groups (λ a b. Takes a k r b) has goes touched
    (λ past sound unshut here. takes_whole (home_in x.boot g) past k r j sound unshut (subst (λ (z : History). Takes z k r j) here t) touched.1)
    (same_count x g (λ a b. Takes a k r b) has (λ past es says. take_quiet (home_in x.boot g) past es k r says)) tally

pub cancelled_is : (x y : GroupsView) (g k : ℕ) (j : History) (r : Cancelled) → Has x g → GoesOn x g → Touched x g j x.open_groups y → Cancels (group_at x g) k r j → Counted (λ a b. Cancels a k r b) x.counts y.counts → Answers x g (λ a b. Cancels a k r b) y
cancelled_is x y g k j r has goes touched t tally =
    answered x y g j x.open_groups (λ a b. Cancels a k r b) has goes touched
    (λ past sound unshut here. cancels_whole (home_in x.boot g) past k r j sound unshut (subst (λ (z : History). Cancels z k r j) here t) touched.1)
    (same_count x g (λ a b. Cancels a k r b) has (λ past es says. cancel_quiet (home_in x.boot g) past es k r says)) tally

pub orphaned_is : (x y : GroupsView) (g k : ℕ) (j : History) (r : Orphaned) → Has x g → GoesOn x g → Touched x g j x.open_groups y → Orphans (group_at x g) k r j → y.counts ≡ x.counts → Answers x g (λ a b. Orphans a k r b) y
orphaned_is x y g k j r has goes touched t same =
    answered x y g j x.open_groups (λ a b. Orphans a k r b) has goes touched
    (λ past sound unshut here. orphans_whole (home_in x.boot g) past k r j sound unshut (subst (λ (z : History). Orphans z k r j) here t) touched.1)
    (same_count x g (λ a b. Orphans a k r b) has (λ past es says. orphan_quiet (home_in x.boot g) past es k r says)) (orphan_counted k r x.counts y.counts same)

pub accepted_is : (x y : GroupsView) (g : ℕ) (asked : Asked) (j : History) (r : Result ℕ (Asked × AcceptRefusal)) → Has x g → GoesOn x g → Touched x g j x.open_groups y → Accepts (group_at x g) asked r j
    → Counted (λ a b. Accepts a asked r b) x.counts y.counts → Answers x g (λ a b. Accepts a asked r b) y
accepted_is x y g asked j r has goes touched t tally =
    answered x y g j x.open_groups (λ a b. Accepts a asked r b) has goes touched
    (λ past sound unshut here. accepts_whole (home_in x.boot g) past asked r j sound unshut (subst (λ (z : History). Accepts z asked r j) here t) touched.1)
    (same_count x g (λ a b. Accepts a asked r b) has (λ past es says. accept_quiet (home_in x.boot g) past es asked r says)) tally

pub settled_is : (x y : GroupsView) (g : ℕ) (e : Entry) (j : History) (r : Rest) → Has x g → GoesOn x g → IsStep e → Touched x g j (left_open x.open_groups r) y → Settles (group_at x g) e r j
    → AddsSettled e r x.counts y.counts → Answers x g (λ a b. Settles a e r b) y
settled_is x y g e j r has goes step touched t tally =
    answered x y g j (left_open x.open_groups r) (λ a b. Settles a e r b) has goes touched
    (λ past sound unshut here. settles_whole (home_in x.boot g) past e r j (step.1 (kept_since (home_in x.boot g) past)) sound (subst (λ (z : History). Settles z e r j) here t) touched.1)
    (settle_counts x g e r has goes step) (settle_counted e r x.counts tally.0 y.counts tally.1 tally.2)

pub end_step : (k : ℕ) (results : List Outcome) (said : Said) → IsStep (End k results said)
end_step k results said = (refl, λ x. refl)

pub leave_step : (c : ℕ) → IsStep (Leave c)
leave_step c = (refl, λ x. refl)

pub joined_is : (x y : GroupsView) (g : ℕ) (j : History) (r : Result ℕ JoinRefusal) → Has x g → GoesOn x g → Touched x g j x.open_groups y → Joins (group_at x g) r j
    → y.counts ≡ x.counts → Answers x g (λ a b. JoinsWhole a r b) y
joined_is x y g j r has goes touched t same =
    answered x y g j x.open_groups (λ a b. JoinsWhole a r b) has goes touched
    (λ past sound unshut here. joins_whole (home_in x.boot g) past r j sound unshut (subst (λ (z : History). Joins z r j) here t) touched.1)
    (same_count x g (λ a b. JoinsWhole a r b) has (λ past es says. join_quiet (home_in x.boot g) past es r says)) (join_counted r x.counts y.counts same)

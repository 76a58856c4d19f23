-- Of which calls a folded journal says that they were asked to end.
use Rattle.std.proofs.Common.{◌≡◌, ℕ, suc, ◌≤◌, ◌<◌, Bool, true, false, ◌&&◌, ◌||◌, not, ◌==◌, Option, Some, None, is_some, List, [], ◌∷◌, ◌++◌, reverse, refl, sym, ◌∙◌, ap, subst, arith, inl, inr}
use Rattle.std.specs.List.{list_any, filter_map, cons_option, find}
use Rattle.std.specs.Option.{option_map}
use Rattle.std.proofs.lemmas.Grind.{common_steps}
use Rattle.std.proofs.lemmas.Bool.{cases_Bool, false_from_ne_true}
use Rattle.std.proofs.lemmas.Bool.Decides.{eqb_tells}
use Rattle.handle_model.specs.declared.entry.Home.{Home}
use Rattle.handle_model.specs.declared.entry.Asked.{Asked}
use Rattle.handle_model.specs.declared.entry.Entry.{Entry}
use Rattle.handle_model.specs.declared.entry.Entry.TheVariants.{Accept, Take, Cancel}
use Rattle.handle_model.specs.declared.base.BaseCall.{BaseCall}
use Rattle.handle_model.specs.declared.base.Base.{Base}
use Rattle.handle_model.specs.Bases.{is_call, is_cancelled_call, asked_before, cancelled_before, taken_before}
use Rattle.handle_model.specs.Folds.{call_as, call_in, open_calls, base_of}
use Rattle.handle_model.specs.Sound.{IsSoundBase}
use Rattle.handle_model.specs.History.{History, since}
use Rattle.handle_model.specs.Journal.{any_since, takes, asked, is_taken, is_cancelled, is_decided, accept_count, accepted, waits, runs, Legal}
use Rattle.handle_model.proofs.Tests.{or_cases}
use Rattle.call_table.specs.Rows.{row_at}
use Rattle.call_table.specs.Shown.{rows_of}
use Rattle.call_table.proofs.Calls.{cancels_decided, decided_within, runs_taken, runs_asked, waits_asked}
use Rattle.journal_tables.specs.Folding.{with_entries}
use Rattle.journal_tables.specs.Tables.{Tables, waits_in, runs_in}
use Rattle.journal_tables.specs.Shown.{tables_of}
use Rattle.journal_tables.proofs.Shown.{waits_row, runs_row}
use Rattle.journal_tables.specs.Unplaced.{unplaced}
use Rattle.journal_tables.specs.Folding.{Stands}
use Rattle.journal_tables.proofs.Places.{row_waits, row_runs}
use Rattle.journal_tables.proofs.Going.{goes_on}
use Rattle.group_core.specs.Stages.{is_asked_since}
use Rattle.group_core.proofs.Owing.{waits_untaken}

-- IN ONE JOURNAL

cancelled_of : (home : Home) (base : Base) (past : List Entry) (k : ℕ) → is_asked_since base past k ≡ true → is_cancelled (since home base past) k ≡ true
cancelled_of home base [] k h = h
cancelled_of home base (Cancel m ∷ past) k h =
    elim (eqb_tells m k) [
      | inl s ↦ rw s.0 refl
      | inr s ↦ rw s.0 (cancelled_of home base past k (rw s.0 at h))
    ]
cancelled_of home base (_ ∷ past) k h = cancelled_of home base past k h

undecided : (j : History) (k : ℕ) → waits j k ≡ true → is_decided j k ≡ false
undecided j k w = grind (arith, common_steps)

-- of a call that was taken a Cancel came after its Take
asked_cancelled : (home : Home) (base : Base) (past : List Entry) (k : ℕ) → Legal (since home base past) → is_taken (since home base past) k ≡ true → is_asked_since base past k ≡ is_cancelled (since home base past) k
asked_cancelled home base [] k l t = refl
asked_cancelled home base (Cancel m ∷ past) k l t =
    elim (eqb_tells m k) [
      | inl s ↦ let there : any_since (taken_before base k) (takes k) past ≡ true = t in rw (s.0, there) refl
      | inr s ↦ rw s.0 (asked_cancelled home base past k l.1 t)
    ]
asked_cancelled home base (Take m cookies ∷ past) k l t =
    elim (eqb_tells m k) [
      | inl s ↦
          let j : History = since home base past in
          let open_ : is_decided j k ≡ false = subst (λ n. is_decided j n ≡ false) s.1 (undecided j m l.0.fits.0) in
          let off : is_cancelled j k ≡ false = false_from_ne_true (is_cancelled j k) (λ c. let d = cancels_decided j k l.1 c in cc) in
          let none : is_asked_since base past k ≡ false = false_from_ne_true (is_asked_since base past k) (λ a. let c = cancelled_of home base past k a in cc) in
          none ∙ sym off
      | inr s ↦ asked_cancelled home base past k l.1 (rw s.0 at t)
    ]
asked_cancelled home base (_ ∷ past) k l t = asked_cancelled home base past k l.1 t

-- it has a number that was given
pub asked_low : (j : History) (k : ℕ) → Legal j → is_asked_since j.base j.past k ≡ true → k ≤ accept_count j
asked_low j k l a = decided_within j k l (cancels_decided j k l (cancelled_of j.home j.base j.past k a))

either : (w r : Bool) → (w || r) ≡ true → r ≡ false → w ≡ true
either true r h f = refl
either false true h f = cc
either false false h f = h

-- an open call was asked to end where it is cancelled
open_asked : (j : History) (k : ℕ) → Legal j → (waits j k || runs j k) ≡ true → is_asked_since j.base j.past k ≡ is_cancelled j k
open_asked j k l c =
    elim (cases_Bool (runs j k)) [
      | inl r ↦ asked_cancelled j.home j.base j.past k l (runs_taken j k r)
      | inr r ↦
          let open_ = undecided j k (either (waits j k) (runs j k) c r) in
          let off : is_cancelled j k ≡ false = false_from_ne_true (is_cancelled j k) (λ x. let d = cancels_decided j k l x in cc) in
          let none : is_asked_since j.base j.past k ≡ false = false_from_ne_true (is_asked_since j.base j.past k) (λ a. let x = cancelled_of j.home j.base j.past k a in cc) in
          none ∙ sym off
    ]

-- IN THE BASE THAT IT GIVES

pub found_any : (k : ℕ) (cs : List BaseCall) → is_some (option_map (λ (c : BaseCall). c.asked) (find (is_call k) cs)) ≡ list_any (is_call k) cs
found_any k [] = refl
found_any k (c ∷ cs) = elim (cases_Bool (is_call k c)) [ inl t ↦ rw t refl | inr t ↦ rw t (found_any k cs) ]

mark_bools : (t x c l : Bool) → l ≡ (c && x) → ((t && x) || l) ≡ ((t || c) && x)
mark_bools true true c l e = refl
mark_bools true false true l e = e
mark_bools true false false l e = e
mark_bools false x c l e = e

marks_as : (j : History) (k m : ℕ) (o : Option Asked) (cs : List BaseCall) → list_any (is_cancelled_call k) cs ≡ (list_any (is_call k) cs && is_cancelled j k) → list_any (is_cancelled_call k) (cons_option (call_as j m o) cs) ≡ (list_any (is_call k) (cons_option (call_as j m o) cs) && is_cancelled j k)
marks_as j k m None cs e = e
marks_as j k m (Some a) cs e =
    elim (cases_Bool (waits j m || runs j m)) [
      | inr c ↦ rw c e
      | inl c ↦
          rw c
          (elim (eqb_tells m k) [
            | inl s ↦ subst (λ b. ((m == k) && b || list_any (is_cancelled_call k) cs) ≡ ((m == k || list_any (is_call k) cs) && is_cancelled j k)) (ap (is_cancelled j) (sym s.1)) (mark_bools (m == k) (is_cancelled j k) (list_any (is_call k) cs) (list_any (is_cancelled_call k) cs) e)
            | inr s ↦ rw s.0 e
          ])
    ]

marks_in : (j : History) (k : ℕ) (ms : List ℕ) → list_any (is_cancelled_call k) (filter_map (call_in j) ms) ≡ (list_any (is_call k) (filter_map (call_in j) ms) && is_cancelled j k)
marks_in j k [] = refl
marks_in j k (m ∷ ms) = marks_as j k m (asked j m) (filter_map (call_in j) ms) (marks_in j k ms)

open_as : (j : History) (k m : ℕ) (o : Option Asked) (cs : List BaseCall) → (list_any (is_call k) cs ≡ true → (waits j k || runs j k) ≡ true) → list_any (is_call k) (cons_option (call_as j m o) cs) ≡ true → (waits j k || runs j k) ≡ true
open_as j k m None cs f h = f h
open_as j k m (Some a) cs f h =
    elim (cases_Bool (waits j m || runs j m)) [
      | inr c ↦ f (rw c at h)
      | inl c ↦
          elim (eqb_tells m k) [
            | inl s ↦ subst (λ n. (waits j n || runs j n) ≡ true) s.1 c
            | inr s ↦ let g : (m == k || list_any (is_call k) cs) ≡ true = rw c at h in f (rw s.0 at g)
          ]
    ]

open_in : (j : History) (k : ℕ) (ms : List ℕ) → list_any (is_call k) (filter_map (call_in j) ms) ≡ true → (waits j k || runs j k) ≡ true
open_in j k [] h = absurd (cc)
open_in j k (m ∷ ms) h = open_as j k m (asked j m) (filter_map (call_in j) ms) (open_in j k ms) h

same_where : (s x y : Bool) → (s ≡ true → x ≡ y) → (s && x) ≡ (s && y)
same_where true x y f = f refl
same_where false x y f = refl

base_asked : (j : History) (k : ℕ) → Legal j → is_asked_since (base_of j) [] k ≡ (is_some (asked_before (base_of j) k) && is_asked_since j.base j.past k)
base_asked j k l =
    let some : is_some (asked_before (base_of j) k) ≡ list_any (is_call k) (open_calls j) = found_any k (open_calls j) in
    let marks : cancelled_before (base_of j) k ≡ (list_any (is_call k) (open_calls j) && is_cancelled j k) = marks_in j k (reverse (accepted j)) in
    marks
    ∙ (same_where (list_any (is_call k) (open_calls j)) (is_cancelled j k) (is_asked_since j.base j.past k) (λ h. sym (open_asked j k l (open_in j k (reverse (accepted j)) h)))
    ∙ ap (λ b. b && is_asked_since j.base j.past k) (sym some))

-- AND SINCE THEN

waits_alike : (new old : History) (k : ℕ) → unplaced (tables_of new) ≡ unplaced (tables_of old) → waits new k ≡ waits old k
waits_alike new old k q = sym (waits_row new k) ∙ (sym (row_waits (rows_of new) k) ∙ (ap (λ (t : Tables). waits_in (row_at t.rows k)) q ∙ (row_waits (rows_of old) k ∙ waits_row old k)))

runs_alike : (new old : History) (k : ℕ) → Legal new → Legal old → unplaced (tables_of new) ≡ unplaced (tables_of old) → runs new k ≡ runs old k
runs_alike new old k l m q = sym (runs_row new k l) ∙ (sym (row_runs (rows_of new) k) ∙ (ap (λ (t : Tables). runs_in (row_at t.rows k)) q ∙ (row_runs (rows_of old) k ∙ runs_row old k m)))

left_bool : (w r x : Bool) → (w || r && x) ≡ true → (w || r) ≡ true
left_bool true r x h = refl
left_bool false true x h = refl
left_bool false false x h = h

-- at a Cancel: where the call runs it is asked to end in both, and where it waits nothing changes
at_cancel : (new old : History) (k : ℕ) → Legal new → Legal old → unplaced (tables_of new) ≡ unplaced (tables_of old) → (waits new k || runs new k) ≡ true → is_asked_since new.base new.past k ≡ (is_some (asked new k) && is_asked_since old.base old.past k) → (is_taken new k || is_asked_since new.base new.past k) ≡ (is_some (asked new k) && (is_taken old k || is_asked_since old.base old.past k))
at_cancel new old k l m q c e =
    elim (cases_Bool (runs new k)) [
      | inl r ↦
          let here = runs_taken new k r in
          let there = runs_taken old k (sym (runs_alike new old k l m q) ∙ r) in
          let some = runs_asked new k (asked new k) l refl r in
          rw (here, there, some) refl
      | inr r ↦
          let w = either (waits new k) (runs new k) c r in
          let here = waits_untaken new k w in
          let there = waits_untaken old k (sym (waits_alike new old k q) ∙ w) in
          rw (here, there) e
    ]

and_none : (b x : Bool) → x ≡ false → (b && x) ≡ false
and_none true x e = e
and_none false x e = refl

more_count : (n m : ℕ) → n ≤ m → n ≤ suc m
more_count n m h = omega (arith, h)

pub grown_count : (j : History) (newer : List Entry) → accept_count j ≤ accept_count (with_entries j newer)
grown_count j [] = omega arith
grown_count j (Accept m a ∷ newer) = more_count (accept_count j) (accept_count (with_entries j newer)) (grown_count j newer)
grown_count j (_ ∷ newer) = grown_count j newer

-- a folded journal says so of the calls that it knows, and of no others
pub asked_stays : (j : History) (newer : List Entry) (k : ℕ) → IsSoundBase j.home (base_of j) → Stands (base_of j) j → Legal (with_entries j newer) → is_asked_since (base_of j) newer k ≡ (is_some (asked (since j.home (base_of j) newer) k) && is_asked_since j.base (newer ++ j.past) k)
asked_stays j [] k s t l = base_asked j k l
asked_stays j (Cancel m ∷ newer) k s t l =
    let new : History = since j.home (base_of j) newer in
    let old : History = with_entries j newer in
    let g = goes_on j (base_of j) newer s t l.1 in
    let both = goes_on j (base_of j) (Cancel m ∷ newer) s t l in
    let e = asked_stays j newer k s t l.1 in
    elim (eqb_tells m k) [
      | inr n ↦ rw n.0 e
      | inl n ↦
          let c : (waits new k || runs new k) ≡ true = subst (λ x. (waits new x || runs new x) ≡ true) n.1 (left_bool (waits new m) (runs new m) (not (is_cancelled new m)) both.legal.0.fits) in
          rw n.0 (at_cancel new old k g.legal l.1 g.tables c e)
    ]
asked_stays j (Accept m a ∷ newer) k s t l =
    let new : History = since j.home (base_of j) newer in
    let old : History = with_entries j newer in
    let e = asked_stays j newer k s t l.1 in
    elim (eqb_tells m k) [
      | inr n ↦ rw n.0 e
      | inl n ↦
          let none : is_asked_since j.base (newer ++ j.past) k ≡ false = false_from_ne_true (is_asked_since j.base (newer ++ j.past) k) (λ h. let low = asked_low old k l.1 h in let number = l.0.fits.0 in absurd (omega (arith, low, number, n.1))) in
          rw n.0 (e ∙ (and_none (is_some (asked new k)) (is_asked_since j.base (newer ++ j.past) k) none ∙ sym none))
    ]
asked_stays j (_ ∷ newer) k s t l = asked_stays j newer k s t l.1

open_known : (j : History) (k : ℕ) → Legal j → (waits j k || runs j k) ≡ true → is_some (asked j k) ≡ true
open_known j k l c =
    elim (or_cases (waits j k) (runs j k) c) [
      | inl w ↦ waits_asked j k w
      | inr r ↦ runs_asked j k (asked j k) l refl r
    ]

-- it knows those that were accepted since then
pub later_asked : (j : History) (newer : List Entry) (k : ℕ) → IsSoundBase j.home (base_of j) → Stands (base_of j) j → Legal (with_entries j newer) → accept_count j < k → is_asked_since j.base (newer ++ j.past) k ≡ true → is_some (asked (since j.home (base_of j) newer) k) ≡ true
later_asked j [] k s t l lt a = absurd (let low = asked_low j k l a in omega (arith, low, lt))
later_asked j (Accept m b ∷ newer) k s t l lt a = elim (eqb_tells m k) [ inl n ↦ rw n.0 refl | inr n ↦ rw n.0 (later_asked j newer k s t l.1 lt a) ]
later_asked j (Cancel m ∷ newer) k s t l lt a =
    let new : History = since j.home (base_of j) newer in
    let g = goes_on j (base_of j) newer s t l.1 in
    let both = goes_on j (base_of j) (Cancel m ∷ newer) s t l in
    elim (eqb_tells m k) [
      | inl n ↦
          let c : (waits new k || runs new k) ≡ true = subst (λ x. (waits new x || runs new x) ≡ true) n.1 (left_bool (waits new m) (runs new m) (not (is_cancelled new m)) both.legal.0.fits) in
          open_known new k g.legal c
      | inr n ↦ later_asked j newer k s t l.1 lt (rw n.0 at a)
    ]
later_asked j (_ ∷ newer) k s t l lt a = later_asked j newer k s t l.1 lt a

both_bools : (s a : Bool) → (a ≡ true → s ≡ true) → (s && a) ≡ a
both_bools true a f = refl
both_bools false true f = let e = f refl in absurd (cc)
both_bools false false f = refl

-- and says of them what the whole journal says
pub later_stays : (j : History) (newer : List Entry) (k : ℕ) → IsSoundBase j.home (base_of j) → Stands (base_of j) j → Legal (with_entries j newer) → accept_count j < k → is_asked_since (base_of j) newer k ≡ is_asked_since j.base (newer ++ j.past) k
later_stays j newer k s t l lt =
    asked_stays j newer k s t l
    ∙ both_bools (is_some (asked (since j.home (base_of j) newer) k)) (is_asked_since j.base (newer ++ j.past) k) (later_asked j newer k s t l lt)

-- of the calls up to those of the base, it knows those of the base
pub early_known : (j : History) (newer : List Entry) (k : ℕ) → Legal (with_entries j newer) → k ≤ accept_count j → asked (since j.home (base_of j) newer) k ≡ asked_before (base_of j) k
early_known j [] k l le = refl
early_known j (Accept m a ∷ newer) k l le =
    elim (eqb_tells m k) [
      | inl n ↦ absurd (let more = grown_count j newer in let number = l.0.fits.0 in omega (arith, more, number, le, n.1))
      | inr n ↦ rw n.0 (early_known j newer k l.1 le)
    ]
early_known j (_ ∷ newer) k l le = early_known j newer k l.1 le

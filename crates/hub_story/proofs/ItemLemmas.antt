-- The items of a history, and the entries of its journals.
use Rattle.std.proofs.Common.{◌≡◌, ◌≢◌, ◌==◌, ℕ, zero, suc, ◌+◌, ◌≤◌, ◌<◌, ◌||◌, Bool, true, false, if◌then◌else◌, List, [], ◌∷◌, ◌++◌, length, map, reverse, take, drop, Option, Some, None, refl, sym, ap, ◌∙◌, subst, arith, inl, inr, append_assoc, length-append}
use Rattle.std.specs.List.{filter_map, list_any, cons_option}
use Rattle.std.proofs.lemmas.Bool.Decides.{eqb_tells, nat_tests}
use Rattle.std.proofs.lemmas.Bool.{or_parts}
use Rattle.std.proofs.lemmas.List.{append-nil, take-append-drop, reverse-append, reverse-reverse, length-reverse}
use Rattle.std.proofs.lemmas.List.Elements.{filter_map-append}
use Rattle.std.proofs.lemmas.List.Folds.{list_any-append}
use mathlib.Core.Option.{some, some-ne-none}
use lib.ListN.{get_elem?}
use Rattle.atomic_table.proofs.Lists.{drop_at}
use Rattle.handle_model.specs.declared.entry.Entry.{Entry}
use Rattle.handle_model.proofs.Reversed.{list_any-reverse}
use Rattle.hub_story.specs.declared.item.Mark.{Mark}
use Rattle.hub_story.specs.declared.item.Item.{Item}
use Rattle.hub_story.specs.declared.item.Item.TheVariants.{Begun, Listed, Of}
use Rattle.hub_story.specs.Histories.{mark_of, entry_of, marks_in, past_in, items_of}

-- PARTS OF A HISTORY

pub past-append : (g : ℕ) (xs ys : List Item) → past_in g (xs ++ ys) ≡ past_in g ys ++ past_in g xs
past-append g xs ys = ap reverse (filter_map-append (entry_of g) xs ys) ∙ reverse-append (filter_map (entry_of g) xs) (filter_map (entry_of g) ys)

pub marks-append : (xs ys : List Item) → marks_in (xs ++ ys) ≡ marks_in ys ++ marks_in xs
marks-append xs ys = ap reverse (filter_map-append mark_of xs ys) ∙ reverse-append (filter_map mark_of xs) (filter_map mark_of ys)

pub own_entry : (g : ℕ) (e : Entry) → entry_of g (Of g e) ≡ Some e
own_entry g e = let same : (g == g) ≡ true = grind (arith, nat_tests) in rw same refl

one_entry : (g : ℕ) (e : Entry) → past_in g (Of g e ∷ []) ≡ e ∷ []
one_entry g e = let same : (g == g) ≡ true = grind (arith, nat_tests) in rw same refl

-- an entry of the group stands in its journal behind what was entered before
pub past_there : (g : ℕ) (xs : List Item) (e : Entry) (ys : List Item) → past_in g (xs ++ Of g e ∷ ys) ≡ past_in g ys ++ e ∷ past_in g xs
past_there g xs e ys =
    past-append g xs (Of g e ∷ ys)
    ∙ (ap (λ l. l ++ past_in g xs) (past-append g (Of g e ∷ []) ys ∙ ap (λ l. past_in g ys ++ l) (one_entry g e)) ∙ append_assoc (past_in g ys) (e ∷ []) (past_in g xs))

pub split_at : {A : Type 0} (log : List A) (p : ℕ) (a : A) → get_elem? log p ≡ some a → log ≡ take p log ++ a ∷ drop (suc p) log
split_at log p a at = sym (take-append-drop p log) ∙ ap (λ l. take p log ++ l) (drop_at log p a at)

-- the journal at an item of the group
pub past_at : (g : ℕ) (log : List Item) (p : ℕ) (e : Entry) → get_elem? log p ≡ some (Of g e) → past_in g log ≡ past_in g (drop (suc p) log) ++ e ∷ past_in g (take p log)
past_at g log p e at = ap (past_in g) (split_at log p (Of g e) at) ∙ past_there g (take p log) e (drop (suc p) log)

pub at_front : {A : Type 0} (log : List A) (n q : ℕ) (a : A) → q < n → get_elem? log q ≡ some a → get_elem? (take n log) q ≡ some a
at_front [] n q a l e = absurd (some-ne-none a (sym e))
at_front (x ∷ xs) zero q a l e = absurd (omega arith)
at_front (x ∷ xs) (suc n) zero a l e = e
at_front (x ∷ xs) (suc n) (suc q) a l e = at_front xs n q a (omega arith) e

pub at_whole : {A : Type 0} (log : List A) (n q : ℕ) (a : A) → get_elem? (take n log) q ≡ some a → (q < n) × (get_elem? log q ≡ some a)
at_whole [] zero q a e = absurd (some-ne-none a (sym e))
at_whole [] (suc n) q a e = absurd (some-ne-none a (sym e))
at_whole (x ∷ xs) zero q a e = absurd (some-ne-none a (sym e))
at_whole (x ∷ xs) (suc n) zero a e = (omega arith, e)
at_whole (x ∷ xs) (suc n) (suc q) a e = let r = at_whole xs n q a e in let low = r.0 in (omega arith, r.1)

-- ENTRIES OF A KIND

any_in : (test : Entry → Bool) (xs : List Entry) (e : Entry) (ys : List Entry) → test e ≡ true → list_any test (xs ++ e ∷ ys) ≡ true
any_in test [] e ys h = rw h refl
any_in test (x ∷ xs) e ys h = let rest = any_in test xs e ys h in or_true (test x) (list_any test (xs ++ e ∷ ys)) rest
  where
    or_true : (a b : Bool) → b ≡ true → (a || b) ≡ true
    or_true true b h = refl
    or_true false b h = h

-- an entry of the history stands in its group's journal
pub has_there : (g : ℕ) (log : List Item) (p : ℕ) (e : Entry) (test : Entry → Bool) → get_elem? log p ≡ some (Of g e) → test e ≡ true → list_any test (past_in g log) ≡ true
has_there g log p e test at passes = ap (list_any test) (past_at g log p e at) ∙ any_in test (past_in g (drop (suc p) log)) e (past_in g (take p log)) passes

pub record Found (g : ℕ) (test : Entry → Bool) (log : List Item) : Type 0 where
  pub place : ℕ
  pub entry : Entry
  pub at : get_elem? log place ≡ some (Of g entry)
  pub passes : test entry ≡ true

later : (g : ℕ) (test : Entry → Bool) (a : Item) (log : List Item) → Found g test log → Found g test (a ∷ log)
later g test a log f = record { place = suc f.place; entry = f.entry; at = f.at; passes = f.passes }

found_by : (g : ℕ) (test : Entry → Bool) (k : ℕ) (e : Entry) (log : List Item) (same now : Bool) → (list_any test (filter_map (entry_of g) log) ≡ true → Found g test log)
    → (k == g) ≡ same → test e ≡ now → list_any test (filter_map (entry_of g) (Of k e ∷ log)) ≡ true → Found g test (Of k e ∷ log)
found_by g test k e log true true rest is now h =
    let eq : k ≡ g = grind (arith, nat_tests) in record { place = 0; entry = e; at = ap (λ (z : ℕ). some (Of z e)) eq; passes = now }
found_by g test k e log true false rest is now h = later g test (Of k e) log (rest (rw now at (rw is at h)))
found_by g test k e log false now rest is t h = later g test (Of k e) log (rest (rw is at h))

found_in : (g : ℕ) (log : List Item) (test : Entry → Bool) → list_any test (filter_map (entry_of g) log) ≡ true → Found g test log
found_in g [] test h = absurd cc
found_in g (Listed m ∷ log) test h = later g test (Listed m) log (found_in g log test h)
found_in g (Begun boot s ∷ log) test h = later g test (Begun boot s) log (found_in g log test h)
found_in g (Of k e ∷ log) test h = found_by g test k e log (k == g) (test e) (λ l. found_in g log test l) refl refl h

-- and the other way round
pub found : (g : ℕ) (log : List Item) (test : Entry → Bool) → list_any test (past_in g log) ≡ true → Found g test log
found g log test h = found_in g log test (sym (list_any-reverse test (filter_map (entry_of g) log)) ∙ h)

-- MARKS

pub record FoundMark (test : Mark → Bool) (log : List Item) : Type 0 where
  pub place : ℕ
  pub mark : Mark
  pub at : get_elem? log place ≡ some (Listed mark)
  pub passes : test mark ≡ true

later_mark : (test : Mark → Bool) (a : Item) (log : List Item) → FoundMark test log → FoundMark test (a ∷ log)
later_mark test a log f = record { place = suc f.place; mark = f.mark; at = f.at; passes = f.passes }

mark_by : (test : Mark → Bool) (m : Mark) (log : List Item) (now : Bool) → (list_any test (filter_map mark_of log) ≡ true → FoundMark test log)
    → test m ≡ now → list_any test (filter_map mark_of (Listed m ∷ log)) ≡ true → FoundMark test (Listed m ∷ log)
mark_by test m log true rest now h = record { place = 0; mark = m; at = refl; passes = now }
mark_by test m log false rest now h = later_mark test (Listed m) log (rest (rw now at h))

mark_in : (log : List Item) (test : Mark → Bool) → list_any test (filter_map mark_of log) ≡ true → FoundMark test log
mark_in [] test h = absurd cc
mark_in (Of k e ∷ log) test h = later_mark test (Of k e) log (mark_in log test h)
mark_in (Begun boot s ∷ log) test h = later_mark test (Begun boot s) log (mark_in log test h)
mark_in (Listed m ∷ log) test h = mark_by test m log (test m) (λ l. mark_in log test l) refl h

pub found_mark : (log : List Item) (test : Mark → Bool) → list_any test (marks_in log) ≡ true → FoundMark test log
found_mark log test h = mark_in log test (sym (list_any-reverse test (filter_map mark_of log)) ∙ h)

-- ITEMS OF ONE GROUP

kept : Bool → Entry → List Entry → List Entry
kept b d es = cons_option (if b then Some d else None) es

entries_of : (g : ℕ) (es : List Entry) → filter_map (entry_of g) (map (Of g) es) ≡ es
entries_of g [] = refl
entries_of g (e ∷ es) = let same : (g == g) ≡ true = grind (arith, nat_tests) in let rest = entries_of g es in rw same (ap (λ l. e ∷ l) rest)

pub past_items : (g : ℕ) (es : List Entry) → past_in g (items_of g es) ≡ es
past_items g es = ap reverse (entries_of g (reverse es)) ∙ reverse-reverse es

others_of : (g h : ℕ) (es : List Entry) → g ≢ h → filter_map (entry_of h) (map (Of g) es) ≡ []
others_of g h [] n = refl
others_of g h (e ∷ es) n = elim (eqb_tells g h) [ inl same ↦ absurd (n same.1) | inr apart ↦ rw apart.0 (others_of g h es n) ]

pub past_others : (g h : ℕ) (es : List Entry) → g ≢ h → past_in h (items_of g es) ≡ []
past_others g h es n = ap reverse (others_of g h (reverse es) n)

no_marks : (g : ℕ) (es : List Entry) → filter_map mark_of (map (Of g) es) ≡ []
no_marks g [] = refl
no_marks g (e ∷ es) = no_marks g es

pub marks_items : (g : ℕ) (es : List Entry) → marks_in (items_of g es) ≡ []
marks_items g es = ap reverse (no_marks g (reverse es))

length_of : (g : ℕ) (es : List Entry) → length (map (Of g) es) ≡ length es
length_of g [] = refl
length_of g (e ∷ es) = let rest = length_of g es in omega arith

pub length_items : (g : ℕ) (es : List Entry) → length (items_of g es) ≡ length es
length_items g es = length_of g (reverse es) ∙ length-reverse es

entries_few : (g : ℕ) (xs : List Item) → length (filter_map (entry_of g) xs) ≤ length xs
unfolding kept
entries_few g [] = omega arith
entries_few g (Listed m ∷ xs) = let r = entries_few g xs in omega arith
entries_few g (Begun boot s ∷ xs) = let r = entries_few g xs in omega arith
entries_few g (Of k d ∷ xs) = by_key (k == g) (entries_few g xs)
  where
    by_key : (b : Bool) → length (filter_map (entry_of g) xs) ≤ length xs → length (kept b d (filter_map (entry_of g) xs)) ≤ suc (length xs)
    by_key true h = omega arith
    by_key false h = omega arith

exact_entries : (g : ℕ) (es : List Entry) (more : List Item) → length more ≡ length es → filter_map (entry_of g) more ≡ es → more ≡ map (Of g) es
unfolding kept
exact_entries g [] [] n is = refl
exact_entries g (e ∷ es) [] n is = absurd (omega arith)
exact_entries g es (Listed m ∷ more) n is = let low = entries_few g more in let same : length (filter_map (entry_of g) more) ≡ length es = ap length is in absurd (omega arith)
exact_entries g es (Begun boot s ∷ more) n is = let low = entries_few g more in let same : length (filter_map (entry_of g) more) ≡ length es = ap length is in absurd (omega arith)
exact_entries g es (Of k d ∷ more) n is = by_key (λ xs. exact_entries g xs more) (k == g) refl es n is
  where
    by_key : ((xs : List Entry) → length more ≡ length xs → filter_map (entry_of g) more ≡ xs → more ≡ map (Of g) xs)
        → (b : Bool) → (k == g) ≡ b → (xs : List Entry) → suc (length more) ≡ length xs → kept b d (filter_map (entry_of g) more) ≡ xs → Of k d ∷ more ≡ map (Of g) xs
    by_key again true h [] n is = absurd (omega arith)
    by_key again true h (x ∷ xs) n is =
        let eq : k ≡ g = grind (arith, nat_tests) in
        let first : d ≡ x = cc in
        let rest : filter_map (entry_of g) more ≡ xs = cc in
        let tail : more ≡ map (Of g) xs = again xs (omega arith) rest in cc
    by_key again false h xs n is = let low = entries_few g more in let same : length (filter_map (entry_of g) more) ≡ length xs = ap length is in absurd (omega arith)

-- items that are as many as the entries of the group among them are these
pub exact_items : (g : ℕ) (es : List Entry) (more : List Item) → length more ≡ length es → past_in g more ≡ es → more ≡ items_of g es
exact_items g es more n is =
    exact_entries g (reverse es) more (n ∙ sym (length-reverse es)) (sym (reverse-reverse (filter_map (entry_of g) more)) ∙ ap reverse is)

-- one item that is a mark is that mark
pub exact_mark : (m : Mark) (more : List Item) → length more ≡ 1 → marks_in more ≡ m ∷ [] → more ≡ Listed m ∷ []
exact_mark m [] n is = absurd (omega arith)
exact_mark m (Listed d ∷ []) n is = let same : d ≡ m = cc in ap (λ k. Listed k ∷ []) same
exact_mark m (Of g e ∷ []) n is = absurd cc
exact_mark m (Begun boot s ∷ []) n is = absurd cc
exact_mark m (x ∷ y ∷ more) n is = absurd (omega arith)

pub no_more : (more : List Item) → length more ≡ 0 → more ≡ []
no_more [] n = refl
no_more (x ∷ more) n = absurd (omega arith)

-- Advancing a base by the entries of a legal journal gives the base that its selections give.
use Rattle.std.proofs.Common.{◌≡◌, ℕ, ◌+◌, ◌≤◌, ◌<◌, suc, Bool, true, false, ◌&&◌, ◌||◌, not, List, [], ◌∷◌, ◌++◌, length, refl, sym, ◌∙◌, ap, subst, arith, inl, inr, ◌⊎◌}
use Rattle.std.specs.List.{list_any}
use Rattle.std.proofs.lemmas.Grind.{common_steps}
use Rattle.std.proofs.lemmas.Bool.{cases_Bool, or_parts}
use Rattle.handle_model.specs.declared.entry.Home.{Home}
use Rattle.handle_model.specs.declared.entry.Entry.{Entry}
use Rattle.handle_model.specs.declared.entry.Entry.TheVariants.{Join, Accept, Take, Deny, Cancel, Orphan, End, Leave, Shut}
use Rattle.handle_model.specs.declared.base.Base.{Base}
use Rattle.handle_model.specs.Bases.{empty_base}
use Rattle.handle_model.specs.Folds.{base_of, advance}
use Rattle.handle_model.specs.History.{History, since, with_entry, size}
use Rattle.handle_model.specs.Journal.{Legal, is_shut, join_count, due}
use Rattle.handle_model.specs.Further.{with_entries}
use Rattle.journal_tables.specs.Folding.{HasBegun, BaseBegun}
use Rattle.journal_tables.proofs.Going.{goes_on}
use Rattle.journal_tables.proofs.Sounds.{base_sound}
use Rattle.journal_tables.proofs.Unmoved.{none_moved}
use Rattle.journal_tables.proofs.Stood.{stands, asked_newer, base_alike}

-- a journal of a group that has begun

joins_grow : (home : Home) (base : Base) (past : List Entry) → base.joins ≤ join_count (since home base past)
joins_grow home base [] = omega arith
joins_grow home base (Join c ∷ past) = let more = joins_grow home base past in omega (arith, more)
joins_grow home base (_ ∷ past) = joins_grow home base past

first_joins : (home : Home) (e : Entry) (past : List Entry) → Legal (since home empty_base (e ∷ past)) → 0 < join_count (since home empty_base (e ∷ past))
first_joins home (Join c) past l = omega arith
first_joins home (Accept k a) [] l = absurd (let f = l.0.fits.1 in cc)
first_joins home (Take k cookies) [] l = absurd (let f = l.0.fits.0 in cc)
first_joins home (Deny k slot) [] l = absurd (let f = l.0.fits.0 in cc)
first_joins home (Cancel k) [] l = absurd (let f = l.0.fits in cc)
first_joins home (Orphan k) [] l = absurd (let f = l.0.fits in cc)
first_joins home (End k results said) [] l = absurd (let f = l.0.fits.0 in cc)
first_joins home (Leave c) [] l = absurd (let f = l.0.fits in cc)
first_joins home (Shut items) [] l = absurd (let f = l.0.fits.0 in cc)
first_joins home (Accept k a) (d ∷ past) l = first_joins home d past l.1
first_joins home (Take k cookies) (d ∷ past) l = first_joins home d past l.1
first_joins home (Deny k slot) (d ∷ past) l = first_joins home d past l.1
first_joins home (Cancel k) (d ∷ past) l = first_joins home d past l.1
first_joins home (Orphan k) (d ∷ past) l = first_joins home d past l.1
first_joins home (End k results said) (d ∷ past) l = first_joins home d past l.1
first_joins home (Leave c) (d ∷ past) l = first_joins home d past l.1
first_joins home (Shut items) (d ∷ past) l = first_joins home d past l.1

begun_empty : (home : Home) (past : List Entry) → Legal (since home empty_base past) → HasBegun (since home empty_base past)
begun_empty home [] l = inr refl
begun_empty home (e ∷ past) l = inl (first_joins home e past l)

pub has_begun : (home : Home) (base : Base) (past : List Entry) → BaseBegun base → Legal (since home base past) → HasBegun (since home base past)
has_begun home base past (inl lt) l = let more = joins_grow home base past in inl (omega (arith, lt, more))
has_begun home base past (inr e) l = subst (λ b. HasBegun (since home b past)) (sym e) (begun_empty home past (subst (λ b. Legal (since home b past)) e l))

-- ONE ENTRY

one_more : (j : History) (e : Entry) → BaseBegun j.base → Legal (with_entry j e) → is_shut e ≡ false → base_of (since j.home (base_of j) (e ∷ [])) ≡ base_of (with_entry j e)
one_more j e b l n =
    let u = l.0.before_shut in
    let quiet : due j ≡ false = elim (cases_Bool (due j)) [ inl d ↦ absurd (let f = l.0.shut_when_due d in cc) | inr d ↦ d ] in
    let s = base_sound j l.1 u quiet (has_begun j.home j.base j.past b l.1) in
    let new : History = since j.home (base_of j) (e ∷ []) in
    let w = goes_on j (base_of j) (e ∷ []) s (stands j u) l in
    let count : size new ≡ size (with_entry j e) = omega arith in
    base_alike new (with_entry j e) count w.tables (λ k c. asked_newer j (e ∷ []) k s l c)

pub advance_since : (home : Home) (base : Base) (past : List Entry) → BaseBegun base → Legal (since home base past) → list_any is_shut past ≡ false → advance home base past ≡ base_of (since home base past)
advance_since home base [] b l u = sym (none_moved home base l)
advance_since home base (e ∷ past) b l u =
    let parts = or_parts (is_shut e) (list_any is_shut past) u in
    ap (λ x. base_of (since home x (e ∷ []))) (advance_since home base past b l.1 parts.1) ∙ one_more (since home base past) e b l parts.0

-- two runs of entries are both
pub advance_twice : (home : Home) (base : Base) (newer older : List Entry) → advance home base (newer ++ older) ≡ advance home (advance home base older) newer
advance_twice home base [] older = refl
advance_twice home base (e ∷ newer) older = ap (λ x. base_of (since home x (e ∷ []))) (advance_twice home base newer older)

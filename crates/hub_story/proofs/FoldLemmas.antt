-- A group's journal as it keeps it is a fold of the whole one; what both show.
use Rattle.std.proofs.Common.{◌≡◌, ℕ, ◌-◌, Bool, true, false, ◌||◌, List, [], ◌∷◌, ◌++◌, refl, sym, ◌∙◌, ap, subst, inl, inr}
use Rattle.std.specs.List.{list_any}
use Rattle.std.proofs.lemmas.Bool.{cases_Bool, or_parts}
use Rattle.std.proofs.lemmas.List.Folds.{list_any-append}
use Rattle.handle_model.specs.declared.entry.Home.{Home}
use Rattle.handle_model.specs.declared.entry.Entry.{Entry}
use Rattle.handle_model.specs.declared.base.Base.{Base}
use Rattle.handle_model.specs.Folds.{base_of, advance, fold}
use Rattle.handle_model.specs.History.{History, IsSound, since}
use Rattle.handle_model.specs.Journal.{Legal, asked, is_join, is_shut, waits, runs, due}
use Rattle.handle_model.specs.Further.{with_entries}
use Rattle.journal_tables.specs.Shown.{tables_of}
use Rattle.journal_tables.specs.Unplaced.{unplaced}
use Rattle.journal_tables.specs.Folding.{BaseBegun, SaysSame}
use Rattle.journal_tables.proofs.Going.{goes_on}
use Rattle.journal_tables.proofs.Sounds.{base_sound}
use Rattle.journal_tables.proofs.Stood.{stands, asked_newer}
use Rattle.journal_tables.proofs.Advanced.{has_begun, advance_since}
use Rattle.journal_tables.proofs.Folded.{front_legal, Moved, moved}
use Rattle.journal_tables.specs.FoldOf.{IsFoldOf, StandsFor}
pub use Rattle.journal_tables.proofs.Alike.{folds_stand, folds_once, folds_on, folds_twice, folds_again}
use Rattle.journal_tables.proofs.Back.{folds_back}
use Rattle.handle_model.specs.Bases.{empty_base}
use Rattle.handle_model.specs.Folds.{folded, floor}
use Rattle.handle_model.specs.History.{with_entry}
use Rattle.handle_model.specs.declared.entry.Entry.TheVariants.{Join, Accept, Take, Deny, Cancel, Orphan, End, Leave, Shut}
use Rattle.hub_story.specs.Folded.{kept_since}

-- WHAT BOTH SAY

-- the same rows, but for places, and the same asked by each call that is not over
pub record Alike (x j : History) : Type 0 where
  pub tables : unplaced (tables_of x) ≡ unplaced (tables_of j)
  pub asked_same : (k : ℕ) → (waits j k || runs j k) ≡ true → asked x k ≡ asked j k

alike_to : (home : Home) (base : Base) (newer older : List Entry) → BaseBegun base → Legal (since home base (newer ++ older)) → list_any is_shut older ≡ false → due (since home base older) ≡ false
    → Alike (since home (advance home base older) newer) (since home base (newer ++ older))
alike_to home base newer older b l u q =
    let j : History = since home base older in
    let l1 = front_legal j newer l in
    let same : base_of j ≡ advance home base older = sym (advance_since home base older b l1 u) in
    let sound = base_sound j l1 u q (has_begun home base older b l1) in
    let w = goes_on j (base_of j) newer sound (stands j u) l in
    let old : History = since home base (newer ++ older) in
    subst (λ a. Alike (since home a newer) old) same (record { tables = w.tables; asked_same = λ k c. asked_newer j newer k sound l c })

pub alike : (x j : History) → IsFoldOf x j → BaseBegun j.base → Legal j → Alike x j
alike x j f b l =
    subst (λ z. Alike z j) (sym f.fold_is) (subst (λ p. Alike (since j.home (advance j.home j.base f.older) f.newer) (since j.home j.base p)) (sym f.past_is)
    (alike_to j.home j.base f.newer f.older b (subst (λ p. Legal (since j.home j.base p)) f.past_is l) f.open_is f.settled_is))

-- of a journal that goes on
pub says : (x j : History) → IsFoldOf x j → BaseBegun j.base → IsSound j → list_any is_shut j.past ≡ false → SaysSame x j
says x j f b s u =
    let w = moved j.home j.base f.newer f.older (subst (λ p. IsSound (since j.home j.base p)) f.past_is s) (subst (λ p. list_any is_shut p ≡ false) f.past_is u) b in
    subst (λ z. SaysSame z j) (sym f.fold_is) (subst (λ p. SaysSame (since j.home (advance j.home j.base f.older) f.newer) (since j.home j.base p)) (sym f.past_is) w.says)

-- FOLDS

pub sound_more : (x j : History) (es : List Entry) → IsFoldOf x j → BaseBegun j.base → Legal j → IsSound (with_entries x es) → IsSound (with_entries j es)
sound_more x j es f b l k =
    let legal = folds_back x j es l b f k.legal in
    record { legal = legal; settled = sym (folds_stand (with_entries x es) (with_entries j es) legal b (folds_on x j es f)).due_same ∙ k.settled }

pub shut_kept : (x j : History) → IsFoldOf x j → list_any is_shut j.past ≡ false → list_any is_shut x.past ≡ false
shut_kept x j f u =
    let parts = or_parts (list_any is_shut f.newer) (list_any is_shut f.older) (sym (list_any-append is_shut f.newer f.older) ∙ subst (λ l. list_any is_shut l ≡ false) f.past_is u) in
    ap (λ (z : History). list_any is_shut z.past) f.fold_is ∙ parts.0

-- one that is folded further
pub refold : (x j : History) (n : ℕ) → IsFoldOf x j → BaseBegun j.base → IsSound j → list_any is_shut j.past ≡ false → IsFoldOf (fold n x) j
refold x j n f b s u =
    let w = folds_stand x j s.legal b f in
    folds_twice (fold n x) x j s.legal b (folds_once x n (record { legal = w.legal; settled = w.due_same ∙ s.settled }) (shut_kept x j f u)) f

-- AS THE GROUP KEEPS IT

begun : BaseBegun empty_base
begun = inr refl

fold_of_itself : (home : Home) → IsFoldOf (since home empty_base []) (since home empty_base [])
fold_of_itself home = record { newer = []; older = []; past_is = refl; open_is = refl; settled_is = refl; fold_is = refl }

-- what stood before a Join was legal, and nothing was due
before_join : (j : History) (c : ℕ) → Legal (with_entry j (Join c)) → IsSound j
before_join j c l = record {
  legal = l.1;
  settled = elim (cases_Bool (due j)) [ inl t ↦ absurd (let f = l.0.shut_when_due t in cc) | inr t ↦ t ];
}

pub kept_folds : (home : Home) (past : List Entry) → Legal (since home empty_base past) → IsFoldOf (kept_since home past) (since home empty_base past)
kept_folds home [] l = fold_of_itself home
kept_folds home (Join c ∷ past) l =
    let j : History = since home empty_base past in
    let before = kept_folds home past l.1 in
    folds_again (kept_since home past) j (floor (kept_since home past) - (kept_since home past).base.count) (Join c ∷ []) (before_join j c l) l.0.before_shut begun before
kept_folds home (Accept k a ∷ past) l = folds_on (kept_since home past) (since home empty_base past) (Accept k a ∷ []) (kept_folds home past l.1)
kept_folds home (Take k cookies ∷ past) l = folds_on (kept_since home past) (since home empty_base past) (Take k cookies ∷ []) (kept_folds home past l.1)
kept_folds home (Deny k slot ∷ past) l = folds_on (kept_since home past) (since home empty_base past) (Deny k slot ∷ []) (kept_folds home past l.1)
kept_folds home (Cancel k ∷ past) l = folds_on (kept_since home past) (since home empty_base past) (Cancel k ∷ []) (kept_folds home past l.1)
kept_folds home (Orphan k ∷ past) l = folds_on (kept_since home past) (since home empty_base past) (Orphan k ∷ []) (kept_folds home past l.1)
kept_folds home (End k results said ∷ past) l = folds_on (kept_since home past) (since home empty_base past) (End k results said ∷ []) (kept_folds home past l.1)
kept_folds home (Leave c ∷ past) l = folds_on (kept_since home past) (since home empty_base past) (Leave c ∷ []) (kept_folds home past l.1)
kept_folds home (Shut items ∷ past) l = folds_on (kept_since home past) (since home empty_base past) (Shut items ∷ []) (kept_folds home past l.1)

-- the last Join stands among the entries
pub kept_join : (home : Home) (past : List Entry) → list_any is_join past ≡ true → list_any is_join (kept_since home past).past ≡ true
kept_join home [] h = h
kept_join home (Join c ∷ past) h = refl
kept_join home (Accept k a ∷ past) h = kept_join home past h
kept_join home (Take k cookies ∷ past) h = kept_join home past h
kept_join home (Deny k slot ∷ past) h = kept_join home past h
kept_join home (Cancel k ∷ past) h = kept_join home past h
kept_join home (Orphan k ∷ past) h = kept_join home past h
kept_join home (End k results said ∷ past) h = kept_join home past h
kept_join home (Leave c ∷ past) h = kept_join home past h
kept_join home (Shut items ∷ past) h = kept_join home past h

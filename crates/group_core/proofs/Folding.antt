-- What is kept where a group folds its journal.
use Rattle.std.proofs.Common.{◌≡◌, ℕ, ◌+◌, ◌-◌, false, min, unwrap_or, Option, List, ◌++◌, length, take, drop, reverse, refl, sym, ◌∙◌, ap, subst, arith}
use Rattle.std.specs.List.{list_any}
use Rattle.std.proofs.Math.Seq.{take-append_seam, drop-append_seam}
use Rattle.std.proofs.lemmas.Bool.{or_parts}
use Rattle.std.proofs.lemmas.List.{take-append-drop, reverse-append, length-reverse}
use Rattle.std.proofs.lemmas.List.Folds.{list_any-append}
use Rattle.std.proofs.lemmas.Grind.{common_steps}
use Rattle.handle_model.specs.declared.entry.Home.{Home}
use Rattle.handle_model.specs.declared.entry.Entry.{Entry}
use Rattle.handle_model.specs.declared.base.Base.{Base}
use Rattle.handle_model.specs.Folds.{base_of, advance, floor, folded}
use Rattle.handle_model.specs.Sound.{IsSoundBase}
use Rattle.handle_model.specs.History.{History, IsSound, since, history_of}
use Rattle.handle_model.specs.Journal.{Legal, is_shut, least}
use Rattle.call_table.specs.declared.row.Row.{Row}
use Rattle.call_table.specs.Rows.{running_places}
use Rattle.call_table.specs.Shown.{rows_of}
use Rattle.journal_tables.specs.Folding.{with_entries}
use Rattle.journal_tables.specs.declared.conns.OpenConn.{OpenConn}
use Rattle.journal_tables.specs.Floor.{open_places, lesser_of}
use Rattle.journal_tables.specs.Shown.{conns_of}
use Rattle.journal_tables.proofs.Floors.{floor_shown}
use Rattle.journal_tables.specs.Folding.{BaseBegun}
use Rattle.journal_tables.proofs.Folded.{Moved, moved, front_legal}
use Rattle.journal_tables.proofs.Fronts.{sound_base}
use Rattle.journal_tables.proofs.Advanced.{advance_since}
use Rattle.group_core.specs.Kept.{Logged, logged}
use Rattle.group_core.specs.Folds.{older_count, base_after, rest_after}

-- THE TWO PARTS OF THE ENTRIES

pub parts : (es : List Entry) (n : ℕ) → reverse es ≡ reverse (drop n es) ++ reverse (take n es)
parts es n = ap reverse (sym (take-append-drop n es)) ∙ reverse-append (take n es) (drop n es)

-- the front is legal
pub older_legal : (home : Home) (log : Logged) (n : ℕ) → Legal (logged home log) → Legal (history_of home log.base (take n log.entries))
older_legal home log n l =
    front_legal (history_of home log.base (take n log.entries)) (reverse (drop n log.entries)) (subst (λ p. Legal (since home log.base p)) (parts log.entries n) l)

unshut_parts : (log : Logged) (n : ℕ) → list_any is_shut (reverse log.entries) ≡ false → (list_any is_shut (reverse (drop n log.entries)) ≡ false) × (list_any is_shut (reverse (take n log.entries)) ≡ false)
unshut_parts log n u =
    or_parts (list_any is_shut (reverse (drop n log.entries))) (list_any is_shut (reverse (take n log.entries)))
    (sym (list_any-append is_shut (reverse (drop n log.entries)) (reverse (take n log.entries))) ∙ (sym (ap (list_any is_shut) (parts log.entries n)) ∙ u))

-- neither part ends the group
pub older_unshut : (log : Logged) (n : ℕ) → list_any is_shut (reverse log.entries) ≡ false → list_any is_shut (reverse (take n log.entries)) ≡ false
older_unshut log n u = (unshut_parts log n u).1

pub newer_unshut : (log : Logged) (n : ℕ) → list_any is_shut (reverse log.entries) ≡ false → list_any is_shut (reverse (drop n log.entries)) ≡ false
newer_unshut log n u = (unshut_parts log n u).0

-- what is left keeps all
pub rest_moved : (home : Home) (log : Logged) (n : ℕ) → IsSound (logged home log) → BaseBegun log.base → list_any is_shut (reverse log.entries) ≡ false → Moved home log.base (reverse (drop n log.entries)) (reverse (take n log.entries))
rest_moved home log n s b u =
    moved home log.base (reverse (drop n log.entries)) (reverse (take n log.entries))
    (subst (λ p. IsSound (since home log.base p)) (parts log.entries n) s)
    (subst (λ p. list_any is_shut p ≡ false) (parts log.entries n) u) b

-- ITS BASE

-- the journal of the older entries
abbrev pub front_of : Home → Logged → ℕ → History
front_of home log n = history_of home log.base (take n log.entries)

pub base_is : (home : Home) (log : Logged) (n : ℕ) → IsSound (logged home log) → BaseBegun log.base → list_any is_shut (reverse log.entries) ≡ false → base_after home log n ≡ base_of (front_of home log n)
base_is home log n s b u = advance_since home log.base (reverse (take n log.entries)) b (older_legal home log n s.legal) (older_unshut log n u)

pub base_sound : (home : Home) (log : Logged) (n : ℕ) → IsSound (logged home log) → BaseBegun log.base → list_any is_shut (reverse log.entries) ≡ false → IsSoundBase home (base_of (front_of home log n))
base_sound home log n s b u =
    subst (IsSoundBase home) (base_is home log n s b u) (sound_base home (base_after home log n) (drop n log.entries) (rest_moved home log n s b u).sound.legal)

pub whole_legal : (home : Home) (log : Logged) (n : ℕ) → Legal (logged home log) → Legal (with_entries (front_of home log n) (reverse (drop n log.entries)))
whole_legal home log n l = subst (λ p. Legal (since home log.base p)) (parts log.entries n) l

-- IT IS THE FOLDED JOURNAL

-- the journal whose newest entries alone stay
abbrev pub fold_by : ℕ → History → History
fold_by newer j = since j.home (advance j.home j.base (drop newer j.past)) (take newer j.past)

seam : (home : Home) (base : Base) (newer older : List Entry) (n : ℕ) → n ≡ length newer → since home (advance home base older) newer ≡ fold_by n (since home base (newer ++ older))
seam home base newer older n e =
    subst (λ m. since home (advance home base older) newer ≡ fold_by m (since home base (newer ++ older))) (sym e)
    (ap (λ p. since home (advance home base p) newer) (sym (drop-append_seam newer older))
    ∙ ap (λ p. since home (advance home base (drop (length newer) (newer ++ older))) p) (sym (take-append_seam newer older)))

newer_count : (es : List Entry) (n : ℕ) → length es - n ≡ length (reverse (drop n es))
newer_count es n = let turned = length-reverse (drop n es) in grind (arith, common_steps)

rest_by : (home : Home) (log : Logged) (n : ℕ) → rest_after home log n ≡ fold_by (length log.entries - n) (logged home log)
rest_by home log n =
    seam home log.base (reverse (drop n log.entries)) (reverse (take n log.entries)) (length log.entries - n) (newer_count log.entries n)
    ∙ ap (λ p. fold_by (length log.entries - n) (since home log.base p)) (sym (parts log.entries n))

few_left : (f c m : ℕ) → m - min (f - c) m ≡ m - (f - c)
few_left f c m = omega arith

pub rest_folded : (home : Home) (log : Logged) (rows : List Row) (conns : List OpenConn) → Legal (logged home log) → rows ≡ rows_of (logged home log) → conns ≡ conns_of (logged home log) → rest_after home log (older_count log rows conns) ≡ folded (logged home log)
rest_folded home log rows conns l r o =
    let j : History = logged home log in
    let all : length j.past ≡ length log.entries = length-reverse log.entries in
    let at : Option ℕ = lesser_of (least (open_places conns)) (least (running_places rows)) in
    let found : at ≡ lesser_of (least (open_places (conns_of j))) (least (running_places (rows_of j))) = rw (o, r) refl in
    let f : unwrap_or at (log.base.count + length log.entries) ≡ floor j =
    ap (λ (x : Option ℕ). unwrap_or x (log.base.count + length log.entries)) found ∙ (ap (λ n. unwrap_or (lesser_of (least (open_places (conns_of j))) (least (running_places (rows_of j)))) (log.base.count + n)) (sym all) ∙ floor_shown j l) in
    rest_by home log (older_count log rows conns)
    ∙ ap (λ n. fold_by n j) (few_left (unwrap_or at (log.base.count + length log.entries)) log.base.count (length log.entries)
    ∙ (ap (λ n. length log.entries - (n - log.base.count)) f ∙ ap (λ n. n - (floor j - log.base.count)) (sym all)))

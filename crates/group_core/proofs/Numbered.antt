-- One slot more is numbered.
use Rattle.std.proofs.Common.{◌≡◌, ℕ, ◌+◌, ◌<◌, ◌≤◌, List, [], ◌∷◌, ◌++◌, length, take, drop, slice_get, get_or, Some, refl, arith, ap, sym, ◌∙◌, add-one, append_assoc}
use Rattle.std.specs.Prelude.{slice_set}
use Rattle.std.specs.List.{filter}
use Rattle.std.proofs.lemmas.Grind.{common_steps}
use Rattle.std.proofs.lemmas.List.{take_more_set}
use Rattle.std.proofs.lemmas.Option.{slice_get_within, get_or_from_slice_get}
use Rattle.std.proofs.Math.Seq.{drop-cons}
use Rattle.handle_model.specs.declared.entry.Slot.{Slot}
use Rattle.handle_model.specs.Slots.{opens, with_serial}
use Rattle.handle_model.specs.Journal.{filled, next_serial}

-- the slot at a place begins what is left there
pub left_at : (ss : List Slot) (i : ℕ) (s : Slot) → slice_get ss i ≡ Some s → drop i ss ≡ s ∷ drop (i + 1) ss
left_at ss i s h =
    let lt : i < length ss = slice_get_within ss i s h in
    let at : get_or ss i s ≡ s = get_or_from_slice_get ss i s s h in
    drop-cons ss i s lt ∙ (rw (at, add-one) refl)

pub record Step (n i : ℕ) (ss : List Slot) (s : Slot) (n' : ℕ) (s' : Slot) (ss' : List Slot) : Type 0 where
  pub at : slice_get ss i ≡ Some s
  pub next : n' ≡ next_serial n s
  pub one : s' ≡ with_serial n' s
  pub all : ss' ≡ slice_set ss i s'

pub numbered_more : {n i n' : ℕ} {ss ss' : List Slot} {s s' : Slot} (from : ℕ) (os : List Slot) → Step n i ss s n' s' ss' → take i ss ++ filled n (drop i ss) ≡ filled from os → take (i + 1) ss' ++ filled n' (drop (i + 1) ss') ≡ filled from os
numbered_more {n} {i} {n'} {ss} {ss'} {s} {s'} from os st h =
    let lt : i < length ss = slice_get_within ss i s st.at in
    let front : take (i + 1) ss' ≡ take i ss ++ s' ∷ [] = ap (take (i + 1)) st.all ∙ take_more_set ss i s' lt in
    let back : drop (i + 1) ss' ≡ drop (i + 1) ss = rw st.all (grind (arith, common_steps)) in
    let left : filled n (drop i ss) ≡ s' ∷ filled n' (drop (i + 1) ss) = rw (left_at ss i s st.at) cc in
    rw (front, back) (append_assoc (take i ss) (s' ∷ []) (filled n' (drop (i + 1) ss)) ∙ (ap (λ xs. take i ss ++ xs) (sym left) ∙ h))

pub counted_more : {n i n' : ℕ} {ss ss' : List Slot} {s s' : Slot} (m : ℕ) → Step n i ss s n' s' ss' → n + length (filter opens (drop i ss)) ≡ m → n' + length (filter opens (drop (i + 1) ss')) ≡ m
counted_more {n} {i} {n'} {ss} {ss'} {s} {s'} m st h =
    let back : drop (i + 1) ss' ≡ drop (i + 1) ss = rw st.all (grind (arith, common_steps)) in
    let g = rw (left_at ss i s st.at) at h in
    rw (back, st.next) (grind (arith, common_steps, g))

pub kept_length : {n i n' : ℕ} {ss ss' : List Slot} {s s' : Slot} (m : ℕ) → Step n i ss s n' s' ss' → length ss ≡ m → length ss' ≡ m
kept_length {n} {i} {n'} {ss} {ss'} {s} {s'} m st h = rw st.all (grind (arith, common_steps))

-- the next serial is one of those that were counted
pub next_within : (n n' i : ℕ) (ss : List Slot) (s : Slot) → slice_get ss i ≡ Some s → n' ≡ next_serial n s → n' ≤ n + length (filter opens (drop i ss))
next_within n n' i ss s h e = rw (e, left_at ss i s h) (grind (arith, common_steps))

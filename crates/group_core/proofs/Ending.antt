-- Where a call ended, entry by entry.
use Rattle.std.proofs.Common.{◌≡◌, ℕ, ◌+◌, ◌<◌, Bool, true, Option, Some, None, List, [], ◌∷◌, ◌++◌, length, take, drop, reverse, get_or, ◌∙◌, ap, sym, refl, subst, arith}
use Rattle.std.proofs.lemmas.List.{reverse-append, take-append-drop, length-reverse, length-take}
use Rattle.std.proofs.lemmas.Grind.{common_steps}
use Rattle.handle_model.specs.declared.entry.Entry.{Entry}
use Rattle.handle_model.specs.declared.base.Base.{Base}
use Rattle.handle_model.proofs.Reversed.{past_more}
use Rattle.group_core.specs.Ended.{ends_call, was_taken, place_where, first_of_two, ended_since}

-- an end stays the first, whatever comes behind it
ended_stays : (base : Base) (newer older : List Entry) (k p : ℕ) → ended_since base older k ≡ Some p → ended_since base (newer ++ older) k ≡ Some p
ended_stays base [] older k p h = h
ended_stays base (e ∷ newer) older k p h =
    ap (λ found. first_of_two found (place_where (ends_call (was_taken base (newer ++ older) k) k e) (base.count + length (newer ++ older)))) (ended_stays base newer older k p h)

-- the entries up to one, and those behind it
parted : (es : List Entry) (i : ℕ) (e : Entry) → i < length es → e ≡ get_or es i e → reverse es ≡ reverse (drop (i + 1) es) ++ e ∷ reverse (take i es)
parted es i e lt is =
    ap reverse (sym (take-append-drop (i + 1) es)) ∙ (reverse-append (take (i + 1) es) (drop (i + 1) es)
    ∙ ap (λ front. reverse (drop (i + 1) es) ++ front) (past_more es i e lt ∙ ap (λ x. x ∷ reverse (take i es)) (sym is)))

-- none of the first entries ended the call, and the next one does
pub ended_here : (base : Base) (es : List Entry) (i k : ℕ) (taken : Bool) (e : Entry) → i < length es → e ≡ get_or es i e
    → ended_since base (reverse (take i es)) k ≡ None → taken ≡ was_taken base (reverse (take i es)) k → ends_call taken k e ≡ true
    → Some (base.count + i) ≡ ended_since base (reverse es) k
ended_here base es i k taken e lt is none was ends =
    let turned = length-reverse (take i es) in
    let few : length (take i es) ≡ i = grind (arith, common_steps) in
    let many : length (reverse (take i es)) ≡ i = turned ∙ few in
    let does : ends_call (was_taken base (reverse (take i es)) k) k e ≡ true = subst (λ t. ends_call t k e ≡ true) was ends in
    let here : ended_since base (e ∷ reverse (take i es)) k ≡ Some (base.count + i) = rw (none, does, many) refl in
    sym (ap (λ past. ended_since base past k) (parted es i e lt is)
    ∙ ended_stays base (reverse (drop (i + 1) es)) (e ∷ reverse (take i es)) k (base.count + i) here)

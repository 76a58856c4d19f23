-- The tables of a legal journal, entry by entry.
use Rattle.std.proofs.Common.{◌≡◌, ℕ, ◌+◌, ◌-◌, ◌≤◌, ◌<◌, List, [], ◌∷◌, ◌++◌, length, take, drop, get_or, reverse, refl, sym, ◌∙◌, ap, subst, arith}
use Rattle.std.proofs.lemmas.List.{take-append-drop, reverse-append, length-reverse}
use Rattle.std.proofs.lemmas.Grind.{common_steps}
use Rattle.handle_model.specs.declared.entry.Home.{Home}
use Rattle.handle_model.specs.declared.entry.Entry.{Entry}
use Rattle.handle_model.specs.declared.base.Base.{Base}
use Rattle.handle_model.specs.Sound.{IsSoundBase}
use Rattle.handle_model.specs.History.{History, since, with_entry, history_of, size}
use Rattle.handle_model.specs.Journal.{Legal}
use Rattle.handle_model.proofs.Reversed.{past_more}
use Rattle.handle_model.specs.Further.{with_entries}
use Rattle.journal_tables.specs.Tables.{Tables, Admits, entered}
use Rattle.journal_tables.specs.Shown.{tables_of, base_tables}
use Rattle.journal_tables.proofs.Shown.{admits_shown, follows, base_shown}
use Rattle.journal_tables.proofs.Folded.{front_legal}

-- the base of a legal journal is sound
pub sound_base : (home : Home) (base : Base) (es : List Entry) → Legal (history_of home base es) → IsSoundBase home base
sound_base home base es l = front_legal (since home base []) (reverse es) (subst (λ p. Legal (since home base p)) (sym (append_none (reverse es))) l)
  where
    append_none : (xs : List Entry) → xs ++ [] ≡ xs
    append_none [] = refl
    append_none (x ∷ xs) = ap (λ ys. x ∷ ys) (append_none xs)

-- and so is each part of it
part_legal : (home : Home) (base : Base) (es : List Entry) (i : ℕ) → Legal (history_of home base es) → Legal (history_of home base (take i es))
part_legal home base es i l =
    let parts : reverse es ≡ reverse (drop i es) ++ reverse (take i es) = ap reverse (sym (take-append-drop i es)) ∙ reverse-append (take i es) (drop i es) in
    front_legal (history_of home base (take i es)) (reverse (drop i es)) (subst (λ p. Legal (since home base p)) parts l)

next_legal : (home : Home) (base : Base) (es : List Entry) (i : ℕ) (d : Entry) → i < length es → Legal (history_of home base es) → Legal (with_entry (history_of home base (take i es)) (get_or es i d))
next_legal home base es i d lt l = subst (λ p. Legal (since home base p)) (past_more es i d lt) (part_legal home base es (i + 1) l)

-- the next entry is admitted
pub next_admits : (home : Home) (base : Base) (es : List Entry) (i : ℕ) (d : Entry) (t : Tables) → i < length es → Legal (history_of home base es) → t ≡ tables_of (history_of home base (take i es)) → Admits t (get_or es i d)
next_admits home base es i d t lt l e =
    let j : History = history_of home base (take i es) in
    let w = next_legal home base es i d lt l in
    subst (λ x. Admits x (get_or es i d)) (sym e) ((admits_shown j (get_or es i d) w.1).1 w.0)

sized : (home : Home) (base : Base) (es : List Entry) (i : ℕ) → i < length es → size (history_of home base (take i es)) ≡ base.count + i
sized home base es i lt = let turned = length-reverse (take i es) in let few : length (take i es) ≡ i = grind (arith, common_steps) in omega (arith, turned, few)

-- and changes them
pub next_enters : (home : Home) (base : Base) (es : List Entry) (i : ℕ) (d : Entry) (t u : Tables) (place : ℕ) → i < length es → Legal (history_of home base es) → t ≡ tables_of (history_of home base (take i es)) → place ≡ base.count + i → u ≡ entered t place (get_or es i d) → u ≡ tables_of (history_of home base (take (i + 1) es))
next_enters home base es i d t u place lt l e p f =
    let j : History = history_of home base (take i es) in
    let w = next_legal home base es i d lt l in
    let at : place ≡ size j = p ∙ sym (sized home base es i lt) in
    f ∙ (ap (λ x. entered x place (get_or es i d)) e ∙ (ap (λ n. entered (tables_of j) n (get_or es i d)) at ∙ (sym (follows j (get_or es i d) w) ∙ ap (λ p. tables_of (since home base p)) (sym (past_more es i d lt)))))

-- at the front there is none
pub none_entered : (home : Home) (base : Base) (es : List Entry) (t : Tables) → Legal (history_of home base es) → t ≡ base_tables home base → t ≡ tables_of (history_of home base (take 0 es))
none_entered home base es t l e = e ∙ sym (base_shown home base (sound_base home base es l))

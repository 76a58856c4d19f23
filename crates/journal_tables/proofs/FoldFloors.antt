-- No fold passes what is still open.
use Rattle.std.proofs.Common.{◌≡◌, ℕ, ◌+◌, ◌-◌, ◌≤◌, ◌<◌, true, Option, Some, None, unwrap_or, zero, suc, List, [], ◌∷◌, ◌++◌, length, take, refl, sym, ◌∙◌, ap, subst, arith, inl, inr}
use Rattle.std.specs.Prelude.{min}
use Rattle.std.proofs.lemmas.Bool.{cases_Bool}
use Rattle.std.proofs.lemmas.List.{length-append}
use Rattle.handle_model.specs.declared.entry.Asked.{Asked}
use Rattle.handle_model.specs.declared.entry.Entry.{Entry}
use Rattle.handle_model.specs.declared.entry.Entry.TheVariants.{Join, Accept}
use Rattle.handle_model.specs.Folds.{begins, places, floor, folded}
use Rattle.handle_model.specs.History.{History, size}
use Rattle.handle_model.specs.Journal.{least, lesser, is_open, runs}
use Rattle.journal_tables.specs.Kept.{Keeps}

-- THE LEAST PLACE

-- there is one, of at most m
pub record IsUpTo (o : Option ℕ) (m : ℕ) : Type 0 where
  pub place : ℕ
  pub is : o ≡ Some place
  pub within : place ≤ m

lesser_first : (n : ℕ) (o : Option ℕ) → IsUpTo (lesser n o) n
lesser_first n None = record { place = n; is = refl; within = omega arith }
lesser_first n (Some m) =
    record { place = min n m; is = refl; within = grind arith }

lesser_later : (n m : ℕ) (o : Option ℕ) → IsUpTo o m → IsUpTo (lesser n o) m
lesser_later n m None u = absurd (let e = u.is in cc)
lesser_later n m (Some p) u =
    let e : p ≡ u.place = (let f = u.is in cc) in
    let w = u.within in
    record { place = min n p; is = refl; within = grind arith }

-- what begins there is among the places
placed : (j : History) (newer older : List Entry) (e : Entry) → begins j e ≡ true → IsUpTo (least (places j (newer ++ e ∷ older))) (j.base.count + length older)
placed j [] older e b = rw b (lesser_first (j.base.count + length older) (least (places j older)))
placed j (x ∷ newer) older e b =
    let more = placed j newer older e b in
    elim (cases_Bool (begins j x)) [
      | inl t ↦ rw t (lesser_later (j.base.count + length (newer ++ e ∷ older)) (j.base.count + length older) (least (places j (newer ++ e ∷ older))) more)
      | inr f ↦ rw f more
    ]

unwrapped : (o : Option ℕ) (m s : ℕ) → IsUpTo o m → unwrap_or o s ≤ m
unwrapped None m s u = absurd (let e = u.is in cc)
unwrapped (Some p) m s u = let e : p ≡ u.place = (let f = u.is in cc) in let w = u.within in omega arith

-- FRONTS

front : (newer : List Entry) (e : Entry) (older : List Entry) (m : ℕ) → length newer < m → (rest : List Entry) × (take m (newer ++ e ∷ older) ≡ newer ++ e ∷ rest)
front [] e older zero lt = absurd (omega (arith, lt))
front [] e older (suc m) lt = (take m older, refl)
front (x ∷ newer) e older zero lt = absurd (omega (arith, lt))
front (x ∷ newer) e older (suc m) lt =
    let more = front newer e older m (omega (arith, lt)) in (more.0, ap (λ xs. x ∷ xs) more.1)

keeps : (j : History) (newer older : List Entry) (e : Entry) → j.past ≡ newer ++ e ∷ older → begins j e ≡ true → Keeps (folded j) newer e
keeps j newer older e p b =
    let low : floor j ≤ j.base.count + length older = unwrapped (least (places j j.past)) (j.base.count + length older) (size j) (subst (λ past. IsUpTo (least (places j past)) (j.base.count + length older)) (sym p) (placed j newer older e b)) in
    let m : ℕ = length j.past - (floor j - j.base.count) in
    let long : length j.past ≡ length newer + (length older + 1) = ap length p ∙ (length-append newer (e ∷ older) ∙ omega arith) in
    let within : length newer < m = omega arith in
    let f = front newer e older m within in
    record { rest = f.0; past_is = ap (take m) p ∙ f.1 }

pub keeps_joins : (j : History) (newer older : List Entry) (c : ℕ) → j.past ≡ newer ++ Join c ∷ older → is_open j c ≡ true → Keeps (folded j) newer (Join c)
keeps_joins j newer older c p o = keeps j newer older (Join c) p o

pub keeps_accepts : (j : History) (newer older : List Entry) (k : ℕ) (a : Asked) → j.past ≡ newer ++ Accept k a ∷ older → runs j k ≡ true → Keeps (folded j) newer (Accept k a)
keeps_accepts j newer older k a p r = keeps j newer older (Accept k a) p r

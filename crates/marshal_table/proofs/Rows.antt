-- Rows of forms and arms, and what arms hold.
use Rattle.std.proofs.Common.{◌≡◌, ℕ, suc, ◌+◌, ◌<◌, ◌≤◌, List, [], ◌∷◌, ◌++◌, length, refl, ap, sym, ◌∙◌, arith, map, get_or, drop, length-append, append_assoc, add-one, drop-cons, Some, None}
use Rattle.std.proofs.lemmas.List.{map-append}
use Rattle.idl_outline.specs.declared.field.Field.{Field}
use Rattle.ndr_value.specs.declared.shape.Shape.{Shape}
use Rattle.ndr_value.specs.declared.shape.Arm.{Arm}
use Rattle.ndr_value.specs.Forms.{OfStruct, holds, then_form, then_arm, form, forms, face, body, arms_of}
use Rattle.marshal_table.specs.Bodies.{Face, row, arm_row, held}

pub row_is : (ss : List Shape) → forms ss ≡ row (map form ss)
row_is [] = refl
row_is (s ∷ ss) = ap (then_form (form s)) (row_is ss)

pub arm_row_is : (as' : List Arm) → arms_of as' ≡ arm_row (map face as')
arm_row_is [] = refl
arm_row_is (a ∷ rest) = ap (then_arm a.cases a.default (body a.shape)) (arm_row_is rest)

pub held_none : (xs : List Shape) → xs ≡ [] → body None ≡ held (map form xs)
held_none xs e = ap (λ (ys : List Shape). held (map form ys)) (sym e)

held_last : (ys : List Shape) (x : Shape) → length (ys ++ x ∷ []) ≤ 1 → body (Some x) ≡ held (map form (ys ++ x ∷ []))
held_last [] x few = refl
held_last (y ∷ ys) x few = let more = length-append ys (x ∷ []) in absurd (omega (arith, more, few))

pub held_one : (xs ys : List Shape) (x : Shape) → xs ≡ ys ++ x ∷ [] → length xs ≤ 1 → body (Some x) ≡ held (map form xs)
held_one xs ys x e few =
    held_last ys x (omega (arith, few, ap length e)) ∙ ap (λ (zs : List Shape). held (map form zs)) (sym e)

pub held_many : (xs : List Shape) (s : Shape) → 1 < length xs → form s ≡ OfStruct (row (map form xs)) → body (Some s) ≡ held (map form xs)
held_many [] s many e = absurd (omega (arith, many))
held_many (x ∷ []) s many e = absurd (omega (arith, many))
held_many (x ∷ y ∷ xs) s many e = ap holds e

pub ruleset helds = (held_none, held_one, held_many)

-- ---- one arm more

face_more : (f : Field → Face) (all : List Arm) (a : Arm) (x : Field) (rest : List Field) → face a ≡ f x → map face (all ++ a ∷ []) ++ map f rest ≡ map face all ++ map f (x ∷ rest)
face_more f all a x rest one =
    ap (λ (ys : List Face). ys ++ map f rest) (map-append face all (a ∷ []))
    ∙ (append_assoc (map face all) (face a ∷ []) (map f rest) ∙ ap (λ (y : Face). map face all ++ y ∷ map f rest) one)

pub faces_more : (f : Field → Face) (all new : List Arm) (a : Arm) (x : Field) (fs : List Field) (i : ℕ) → i < length fs → x ≡ get_or fs i x → new ≡ all ++ a ∷ [] → face a ≡ f x
    → map face all ++ map f (drop i fs) ≡ map f fs → map face new ++ map f (drop (i + 1) fs) ≡ map f fs
faces_more f all new a x fs i here is more one before =
    let next : drop i fs ≡ x ∷ drop (suc i) fs = drop-cons fs i x here ∙ ap (λ (y : Field). y ∷ drop (suc i) fs) (sym is) in
    ap (λ (n : ℕ). map face new ++ map f (drop n fs)) (add-one i)
    ∙ (ap (λ (as' : List Arm). map face as' ++ map f (drop (suc i) fs)) more
    ∙ (face_more f all a x (drop (suc i) fs) one ∙ (ap (λ (zs : List Field). map face all ++ map f zs) (sym next) ∙ before)))

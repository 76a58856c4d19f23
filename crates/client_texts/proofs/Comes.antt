-- Handles that came have names.
use Rattle.std.proofs.Common.{◌≡◌, ℕ, zero, suc, ◌<◌, ◌==◌, Bool, true, false, List, [], ◌∷◌, ◌++◌, length, Some, refl, ap, sym, ◌∙◌, arith}
use Rattle.std.specs.Prelude.{slice_get, ◌||◌}
use Rattle.std.specs.List.{list_any}
use Rattle.std.proofs.lemmas.Bool.Decides.{nat_tests}
use Rattle.rpc_base.specs.declared.identifiers.WireHandle.{WireHandle}
use Rattle.client_texts.specs.Handles.{is_null, is_same, is_that, is_among, has_name, with_handle, with_handles}

or_right : (a b : Bool) → b ≡ true → (a || b) ≡ true
or_right true b h = refl
or_right false b h = h

or_more : (a b c : Bool) → (b ≡ true → c ≡ true) → (a || b) ≡ true → (a || c) ≡ true
or_more true b c f h = refl
or_more false b c f h = f h

any_front : (p : WireHandle → Bool) (xs ys : List WireHandle) → list_any p xs ≡ true → list_any p (xs ++ ys) ≡ true
any_front p [] ys h = absurd cc
any_front p (x ∷ xs) ys h = or_more (p x) (list_any p xs) (list_any p (xs ++ ys)) (any_front p xs ys) h

any_end : (p : WireHandle → Bool) (xs : List WireHandle) (y : WireHandle) → p y ≡ true → list_any p (xs ++ y ∷ []) ≡ true
any_end p [] y h = rw h refl
any_end p (x ∷ xs) y h = or_right (p x) (list_any p (xs ++ y ∷ [])) (any_end p xs y h)

itself : (w : WireHandle) → is_that w w ≡ true
itself w = grind (arith, nat_tests)

-- one that has a name keeps one
keeps_by : (b : Bool) (known : List WireHandle) (v w : WireHandle) → has_name known v ≡ b → has_name known w ≡ true → has_name (with_handle known v) w ≡ true
keeps_by true known v w e h = rw e h
keeps_by false known v w e h = rw e (or_more (is_null w) (is_among known w) (is_among (known ++ v ∷ []) w) (any_front (is_that w) known (v ∷ [])) h)

comes_by : (b : Bool) (known : List WireHandle) (w : WireHandle) → has_name known w ≡ b → has_name (with_handle known w) w ≡ true
comes_by true known w e = rw e e
comes_by false known w e = rw e (or_right (is_null w) (is_among (known ++ w ∷ []) w) (any_end (is_that w) known w (itself w)))

keeps : (ws known : List WireHandle) (w : WireHandle) → has_name known w ≡ true → has_name (with_handles known ws) w ≡ true
keeps [] known w h = h
keeps (v ∷ ws) known w h = keeps ws (with_handle known v) w (keeps_by (has_name known v) known v w refl h)

some_is : (v w : WireHandle) → Some v ≡ Some w → v ≡ w
some_is v w e = cc

pub comes : (ws known : List WireHandle) (k : ℕ) (w : WireHandle) → slice_get ws k ≡ Some w → has_name (with_handles known ws) w ≡ true
comes [] known k w e = absurd cc
comes (v ∷ ws) known zero w e =
    keeps ws (with_handle known v) w (ap (has_name (with_handle known v)) (sym (some_is v w e)) ∙ comes_by (has_name known v) known v refl)
comes (v ∷ ws) known (suc k) w e = comes ws (with_handle known v) k w e

pub there : (ws : List WireHandle) (k : ℕ) → k < length ws → (w : WireHandle) × (slice_get ws k ≡ Some w)
there [] k h = absurd (omega (arith, h))
there (w ∷ ws) zero h = (w, refl)
there (w ∷ ws) (suc k) h = there ws k (omega (arith, h))

-- Ids that were met stay met: a longer table finds the same.
use Rattle.std.proofs.Common.{◌≡◌, ℕ, suc, ◌+◌, ◌<◌, Bool, true, false, cond, List, [], ◌∷◌, ◌++◌, length, append_assoc, Option, Some, None, sym, ap, subst, ◌∙◌, arith}
use Rattle.std.specs.Prelude.{◌==◌}
use Rattle.std.proofs.lemmas.List.{append-nil}
use Rattle.ndr_value.specs.Forms.{Form}
use Rattle.ndr_model.specs.Places.{look_from}

abbrev pub Mets : Type 0
Mets = List (ℕ × Form)

-- the second begins with the first
abbrev pub Ext : Mets → Mets → Type 0
Ext ms ns = (more : Mets) × (ns ≡ ms ++ more)

pub ext_self : (ms : Mets) → Ext ms ms
ext_self ms = ([], sym (append-nil ms))

pub ext_then : (a b c : Mets) → Ext a b → Ext b c → Ext a c
ext_then a b c p q = (p.0 ++ q.0, q.1 ∙ ap (λ (x : Mets). x ++ q.0) p.1 ∙ append_assoc a p.0 q.0)

pub eq_self : (n : ℕ) → (n == n) ≡ true
eq_self n = grind (arith)

pub less_not : (a b : ℕ) → a < b → (a == b) ≡ false
less_not a b lt = grind (arith)

step_on : (b : Bool) (x y : ℕ × Form) (l r : Option (ℕ × Form)) → (l ≡ Some y → r ≡ Some y) → cond b (Some x) l ≡ Some y → cond b (Some x) r ≡ Some y
step_on true x y l r go e = e
step_on false x y l r go e = go e

pub found_on : (n : ℕ) (ms more : Mets) (id : ℕ) (y : ℕ × Form) → look_from n ms id ≡ Some y → look_from n (ms ++ more) id ≡ Some y
found_on n [] more id y e = absurd cc
found_on n (m ∷ ms) more id y e = step_on (m.0 == id) (n, m.1) y (look_from (suc n) ms id) (look_from (suc n) (ms ++ more) id) (found_on (suc n) ms more id y) e

step_last : (b : Bool) (x y : ℕ × Form) (l r : Option (ℕ × Form)) → (l ≡ None → r ≡ Some y) → cond b (Some x) l ≡ None → cond b (Some x) r ≡ Some y
step_last true x y l r go e = absurd cc
step_last false x y l r go e = go e

pub found_last : (n : ℕ) (ms : Mets) (id : ℕ) (s : Form) → look_from n ms id ≡ None → look_from n (ms ++ (id, s) ∷ []) id ≡ Some (n + length ms, s)
found_last n [] id s e = ap (λ (b : Bool). cond b (Some (n, s)) None) (eq_self id) ∙ ap (λ (k : ℕ). Some (k, s)) (let z : n ≡ n + 0 = omega arith in z)
found_last n (m ∷ ms) id s e =
    let k : suc n + length ms ≡ n + suc (length ms) = omega arith in
    step_last (m.0 == id) (n, m.1) (n + suc (length ms), s) (look_from (suc n) ms id) (look_from (suc n) (ms ++ (id, s) ∷ []) id) (λ h. found_last (suc n) ms id s h ∙ ap (λ (x : ℕ). Some (x, s)) k) e

step_less : (b : Bool) (x y : ℕ × Form) (l : Option (ℕ × Form)) (k : ℕ) → x.0 < k → (l ≡ Some y → y.0 < k) → cond b (Some x) l ≡ Some y → y.0 < k
step_less true x y l k lt go e = let same : x ≡ y = cc in subst (λ (z : ℕ × Form). z.0 < k) same lt
step_less false x y l k lt go e = go e

pub found_less : (n : ℕ) (ms : Mets) (id : ℕ) (y : ℕ × Form) → look_from n ms id ≡ Some y → y.0 < n + length ms
found_less n [] id y e = absurd cc
found_less n (m ∷ ms) id y e =
    step_less (m.0 == id) (n, m.1) y (look_from (suc n) ms id) (n + suc (length ms)) (omega arith) (λ h. let k = found_less (suc n) ms id y h in omega (arith, k)) e

-- The names of handles: no two handles that have names have the same.
use Rattle.std.proofs.Common.{◌≡◌, ℕ, zero, suc, ◌+◌, ◌-◌, ◌^◌, ◌<◌, ◌≤◌, ◌==◌, Bool, true, false, List, [], ◌∷◌, ◌++◌, length, refl, ap, sym, ◌∙◌, subst, arith, decimal, codes, Some}
use Rattle.std.specs.Prelude.{slice_get, ◌||◌}
use Rattle.std.specs.List.{All}
use Rattle.std.proofs.lemmas.Bool.{and_parts}
use Rattle.std.proofs.lemmas.Bool.Decides.{nat_tests}
use Rattle.std.proofs.lemmas.Fmt.{decimal_injective}
use Rattle.rpc_base.specs.declared.identifiers.WireHandle.{WireHandle}
use Rattle.value_text.specs.Marks.{heads_digit}
use Rattle.client_texts.specs.Handles.{name, has_name, place, is_null, is_same, is_among}
use Rattle.client_texts.proofs.Lacks.{head_is, tail_is, same_digits, decimal_digits}

abbrev pub wire_of : ℕ → ℕ → WireHandle
wire_of a i = record { attributes = a; id = i }

same_wire : (w v : WireHandle) → w.attributes ≡ v.attributes → w.id ≡ v.id → w ≡ v
same_wire w v a i = ap (λ (x : ℕ). wire_of x w.id) a ∙ ap (λ (x : ℕ). wire_of v.attributes x) i

eq_is : (m n : ℕ) → (m == n) ≡ true → m ≡ n
eq_is m n h = grind (arith, nat_tests)

pub is_wire : (k w : WireHandle) → is_same k w ≡ true → k ≡ w
is_wire k w h =
    let both = and_parts (k.attributes == w.attributes) (k.id == w.id) h in
    same_wire k w (eq_is k.attributes w.attributes both.0) (eq_is k.id w.id both.1)

pub one_null : (w v : WireHandle) → is_null w ≡ true → is_null v ≡ true → w ≡ v
one_null w v h k =
    let p = and_parts (w.attributes == 0) (w.id == 0) h in
    let q = and_parts (v.attributes == 0) (v.id == 0) k in
    same_wire w v (eq_is w.attributes 0 p.0 ∙ sym (eq_is v.attributes 0 q.0)) (eq_is w.id 0 p.1 ∙ sym (eq_is v.id 0 q.1))

pub null_from : (w v : WireHandle) → w.attributes ≡ 0 → w.id ≡ 0 → w ≡ v → is_null v ≡ true
null_from w v a i e = let n : is_null w ≡ true = rw (a, i) refl in subst (λ (x : WireHandle). is_null x ≡ true) e n

pub clash : {A : Type 0} (b : Bool) → b ≡ true → b ≡ false → A
clash b e f = let g : true ≡ false = sym e ∙ f in absurd cc

-- ---- places

pub record At (known : List WireHandle) (w : WireHandle) : Type 0 where
  pub got : slice_get known (place known w - 1) ≡ Some w
  pub some : 1 ≤ place known w
  pub most : place known w ≤ length known

one_on : {A : Type 0} (k w : A) (ks : List A) (n : ℕ) → 1 ≤ n → slice_get ks (n - 1) ≡ Some w → slice_get (k ∷ ks) ((n + 1) - 1) ≡ Some w
one_on k w ks zero some e = absurd (omega (arith, some))
one_on k w ks (suc m) some e =
    let p : (suc m + 1) - 1 ≡ suc m = omega arith in
    let q : suc m - 1 ≡ m = omega arith in
    ap (slice_get (k ∷ ks)) p ∙ (ap (slice_get ks) (sym q) ∙ e)

at_by : (b : Bool) (k : WireHandle) (ks : List WireHandle) (w : WireHandle) → is_same k w ≡ b → (b || is_among ks w) ≡ true → (is_among ks w ≡ true → At ks w) → At (k ∷ ks) w
at_by true k ks w e h on =
    let p : place (k ∷ ks) w ≡ 1 = rw e refl in
    let g : slice_get (k ∷ ks) (1 - 1) ≡ Some w = ap Some (is_wire k w e) in
    record { got = ap (λ (n : ℕ). slice_get (k ∷ ks) (n - 1)) p ∙ g; some = omega (arith, p); most = let l : length (k ∷ ks) ≡ suc (length ks) = refl in omega (arith, p, l) }
at_by false k ks w e h on =
    let a = on h in
    let p : place (k ∷ ks) w ≡ place ks w + 1 = rw e refl in
    record {
      got = ap (λ (n : ℕ). slice_get (k ∷ ks) (n - 1)) p ∙ one_on k w ks (place ks w) a.some a.got;
      some = omega (arith, p);
      most = let m = a.most in let l : length (k ∷ ks) ≡ suc (length ks) = refl in omega (arith, p, m, l);
    }

pub at_place : (known : List WireHandle) (w : WireHandle) → is_among known w ≡ true → At known w
at_place [] w h = absurd cc
at_place (k ∷ ks) w h = at_by (is_same k w) k ks w refl h (at_place ks w)

pub among_is : (known : List WireHandle) (w : WireHandle) → is_null w ≡ false → has_name known w ≡ true → is_among known w ≡ true
among_is known w came has = let e : (false || is_among known w) ≡ true = sym (ap (λ (b : Bool). b || is_among known w) came) ∙ has in e

-- the handle at that place
pub came_is : (known : List WireHandle) (w : WireHandle) (number at : ℕ) (v : WireHandle) → is_among known w ≡ true → place known w ≡ number → at ≡ number - 1 → slice_get known at ≡ Some v → v ≡ w
came_is known w number at v h p e there =
    let f : at ≡ place known w - 1 = e ∙ ap (λ (k : ℕ). k - 1) (sym p) in
    let same : Some v ≡ Some w = sym there ∙ (ap (slice_get known) f ∙ (at_place known w h).got) in
    cc

-- handles at the same place are the same
pub same_place : (known : List WireHandle) (w v : WireHandle) → is_among known w ≡ true → is_among known v ≡ true → place known w ≡ place known v → w ≡ v
same_place known w v h k e =
    let p = (at_place known w h).got in
    let q = (at_place known v k).got in
    let r : Some w ≡ Some v = sym p ∙ (ap (λ (n : ℕ). slice_get known (n - 1)) e ∙ q) in
    cc

-- ---- names

pub null_name : (known : List WireHandle) (w : WireHandle) → is_null w ≡ true → name known w ≡ codes "null"
unfolding name
null_name known w h = rw h refl

pub come_name : (known : List WireHandle) (w : WireHandle) → is_null w ≡ false → name known w ≡ 104 ∷ decimal (place known w)
unfolding name
come_name known w h = rw h refl

pub few_of : (known : List WireHandle) (count : ℕ) → count < 2 ^ 64 → count ≡ length known → length known < 2 ^ 64
few_of known count lt e = omega (arith, lt, e)

module _ (known : List WireHandle) (few : length known < 2 ^ 64) where
  pub small_place : (w : WireHandle) → is_among known w ≡ true → place known w < 2 ^ 64
  small_place w h = let m = (at_place known w h).most in omega (arith, m, few)

  -- of what begins with a name: which, and what stands after it
  same_by : (b c : Bool) (w v : WireHandle) (x y : List ℕ) → is_null w ≡ b → is_null v ≡ c → has_name known w ≡ true → has_name known v ≡ true → heads_digit x ≡ false → heads_digit y ≡ false → name known w ++ x ≡ name known v ++ y → (w ≡ v) × (x ≡ y)
  same_by true true w v x y n m h k hx hy e =
      let f : codes "null" ++ x ≡ codes "null" ++ y = sym (ap (λ (l : List ℕ). l ++ x) (null_name known w n)) ∙ (e ∙ ap (λ (l : List ℕ). l ++ y) (null_name known v m)) in
      (one_null w v n m, cc)
  same_by true false w v x y n m h k hx hy e =
      let f : 110 ∷ 117 ∷ 108 ∷ 108 ∷ x ≡ 104 ∷ (decimal (place known v) ++ y) = sym (ap (λ (l : List ℕ). l ++ x) (null_name known w n)) ∙ (e ∙ ap (λ (l : List ℕ). l ++ y) (come_name known v m)) in
      let g = head_is 110 104 (117 ∷ 108 ∷ 108 ∷ x) (decimal (place known v) ++ y) f in absurd (omega (arith, g))
  same_by false true w v x y n m h k hx hy e =
      let f : 104 ∷ (decimal (place known w) ++ x) ≡ 110 ∷ 117 ∷ 108 ∷ 108 ∷ y = sym (ap (λ (l : List ℕ). l ++ x) (come_name known w n)) ∙ (e ∙ ap (λ (l : List ℕ). l ++ y) (null_name known v m)) in
      let g = head_is 104 110 (decimal (place known w) ++ x) (117 ∷ 108 ∷ 108 ∷ y) f in absurd (omega (arith, g))
  same_by false false w v x y n m h k hx hy e =
      let f : 104 ∷ (decimal (place known w) ++ x) ≡ 104 ∷ (decimal (place known v) ++ y) = sym (ap (λ (l : List ℕ). l ++ x) (come_name known w n)) ∙ (e ∙ ap (λ (l : List ℕ). l ++ y) (come_name known v m)) in
      let a = among_is known w n h in
      let b = among_is known v m k in
      let s = small_place w a in
      let t = small_place v b in
      let r = same_digits (decimal (place known w)) (decimal (place known v)) x y (decimal_digits (place known w) s) (decimal_digits (place known v) t) hx hy
      (tail_is 104 104 (decimal (place known w) ++ x) (decimal (place known v) ++ y) f) in
      (same_place known w v a b (decimal_injective (place known w) (place known v) s t r.0), r.1)

  pub same_name : (w v : WireHandle) (x y : List ℕ) → has_name known w ≡ true → has_name known v ≡ true → heads_digit x ≡ false → heads_digit y ≡ false → name known w ++ x ≡ name known v ++ y → (w ≡ v) × (x ≡ y)
  same_name w v x y h k hx hy e = same_by (is_null w) (is_null v) w v x y refl refl h k hx hy e

  -- a handle whose name begins so: it is null
  pub null_by : (b : Bool) (w : WireHandle) (x y : List ℕ) → is_null w ≡ b → name known w ++ x ≡ codes "null" ++ y → (b ≡ true) × (x ≡ y)
  null_by true w x y n e =
      let f : codes "null" ++ x ≡ codes "null" ++ y = sym (ap (λ (l : List ℕ). l ++ x) (null_name known w n)) ∙ e in (refl, cc)
  null_by false w x y n e =
      let f : 104 ∷ (decimal (place known w) ++ x) ≡ 110 ∷ 117 ∷ 108 ∷ 108 ∷ y = sym (ap (λ (l : List ℕ). l ++ x) (come_name known w n)) ∙ e in
      let g = head_is 104 110 (decimal (place known w) ++ x) (117 ∷ 108 ∷ 108 ∷ y) f in absurd (omega (arith, g))

  -- one whose name doesn't begin with `null` came
  pub comes_by : (b : Bool) (w : WireHandle) (x t : List ℕ) → is_null w ≡ b → ((r : List ℕ) → t ≡ codes "null" ++ r → ⊥) → t ≡ name known w ++ x → (b ≡ false) × (t ≡ 104 ∷ (decimal (place known w) ++ x))
  comes_by true w x t n not_null e = absurd (not_null x (e ∙ ap (λ (l : List ℕ). l ++ x) (null_name known w n)))
  comes_by false w x t n not_null e = (refl, e ∙ ap (λ (l : List ℕ). l ++ x) (come_name known w n))

  -- no other handle came at the place that is written so
  pub no_other : (w : WireHandle) (x after ds : List ℕ) (rest : List ℕ) → is_null w ≡ false → has_name known w ≡ true → heads_digit x ≡ false → heads_digit after ≡ false → All (λ c. Rattle.value_text.specs.Marks.is_digit c ≡ true) ds
      → rest ≡ decimal (place known w) ++ x → rest ≡ ds ++ after → decimal (place known w) ≡ ds
  no_other w x after ds rest n h hx ha all e f =
      (same_digits (decimal (place known w)) ds x after (decimal_digits (place known w) (small_place w (among_is known w n h))) all hx ha (sym e ∙ f)).0

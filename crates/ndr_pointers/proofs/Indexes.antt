-- The index of the ids that were met.
use Rattle.std.proofs.Common.{◌≡◌, ℕ, suc, ◌+◌, ◌<◌, ◌^◌, Bool, true, false, List, [], ◌∷◌, ◌++◌, length, map, Option, Some, None, refl, sym, ap, ◌∙◌, cond, subst, get_or, add-one, arith}
use Rattle.std.specs.Prelude.{◌==◌, nat_lt, slice_get, option_map, if◌then◌else◌}
use Rattle.std.proofs.lemmas.Bool.{lt-ltb, ltb-true}
use Rattle.std.specs.Ordering.{nat_cmp}
use Rattle.std.specs.BTreeMap.{BTreeMap, get, is_at, Updates}
use Rattle.std.proofs.lemmas.Grind.{common_steps}
use Rattle.std.proofs.lemmas.Option.{slice_get-map, slice_get-get_or, slice_get_within}
use Rattle.std.proofs.lemmas.List.{length-append, length-map}
use Rattle.ndr_value.specs.Forms.{Form, form}
use Rattle.ndr_model.specs.Places.{look, look_from}
use Rattle.ndr_pointers.specs.Known.{number_of, IsIndex, mets}
use Rattle.ndr_pointers.specs.declared.full.FullPointer.{FullPointer}

abbrev more : ℕ → Bool → Option (ℕ × Form) → Form → Option (ℕ × Form)
more n here None s = if here then Some (n, s) else None
more n here (Some m) s = Some m

over : (b : Bool) (x : ℕ × Form) (n : ℕ) (here : Bool) (r o : Option (ℕ × Form)) (s : Form) → r ≡ more n here o s → (if b then Some x else r) ≡ more n here (if b then Some x else o) s
over true x n here r o s e = refl
over false x n here r o s e = e

-- what is looked for behind one more
look_more : (n : ℕ) (ms : List (ℕ × Form)) (id : ℕ) (s : Form) (q : ℕ) → look_from n (ms ++ (id, s) ∷ []) q ≡ more (n + length ms) (id == q) (look_from n ms q) s
look_more n [] id s q = let e : n + 0 ≡ n = omega arith in rw e refl
look_more n (m ∷ ms) id s q =
    let e : n + suc (length ms) ≡ suc n + length ms = omega arith in
    rw e (over (m.0 == q) (n, m.1) (suc n + length ms) (id == q) (look_from (suc n) (ms ++ (id, s) ∷ []) q) (look_from (suc n) ms q) s (look_more (suc n) ms id s q))

is_at_is : (id q : ℕ) → is_at (nat_cmp id) q ≡ (id == q)
is_at_is id q = grind (arith, common_steps)

at_more : (b : Bool) (n : ℕ) (o : Option (ℕ × Form)) (s : Form) → (b ≡ true → o ≡ None) → cond b (Some n) (number_of o) ≡ number_of (more n b o s)
at_more true n o s h = rw (h refl) refl
at_more false n None s h = refl
at_more false n (Some m) s h = refl

same_number : (a b : ℕ) → (a == b) ≡ true → a ≡ b
same_number a b e = grind (arith)

pub index_more : (index new : BTreeMap ℕ ℕ) (ms : List (ℕ × Form)) (id n : ℕ) (s : Form) → IsIndex index ms → look ms id ≡ None → n ≡ length ms → suc n < 2 ^ 32 → Updates nat_cmp index new id (Some n) → IsIndex new (ms ++ (id, s) ∷ [])
index_more index new ms id n s is none n_is few up =
    let e : length (ms ++ (id, s) ∷ []) ≡ suc n = length-append ms ((id, s) ∷ []) ∙ ap (λ (k : ℕ). k + 1) (sym n_is) ∙ add-one n in
    record {
      each = λ q.
          up.0 q ∙ ap (λ (b : Bool). cond b (Some n) (get nat_cmp index q)) (is_at_is id q) ∙ ap (λ (o : Option ℕ). cond (id == q) (Some n) o) (is.each q)
          ∙ at_more (id == q) n (look ms q) s (λ h. rw (sym (same_number id q h)) none) ∙ sym (ap number_of (look_more 0 ms id s q) ∙ ap (λ (k : ℕ). number_of (more k (id == q) (look ms q) s)) (let z : 0 + length ms ≡ n = omega (arith, n_is) in z));
      few = rw e (omega arith);
    }

-- ---- a number that the index has

same_pair : (x y : ℕ × Form) → Some x ≡ Some y → x ≡ y
same_pair x y e = cc

look_by : (k : ℕ) (m : ℕ × Form) (ms : List (ℕ × Form)) (id n : ℕ) (s : Form) (b : Bool) → (m.0 == id) ≡ b
    → (look_from (suc k) ms id ≡ Some (n, s) → (i : ℕ) × (n ≡ suc k + i) × (slice_get ms i ≡ Some (id, s)))
    → (if b then Some (k, m.1) else look_from (suc k) ms id) ≡ Some (n, s) → (i : ℕ) × (n ≡ k + i) × (slice_get (m ∷ ms) i ≡ Some (id, s))
look_by k m ms id n s true h rest e =
    let a : id ≡ m.0 = sym (same_number m.0 id h) in
    let p : (k, m.1) ≡ (n, s) = same_pair (k, m.1) (n, s) e in
    let b : k ≡ n = ap (λ (x : ℕ × Form). x.0) p in
    let c : m.1 ≡ s = ap (λ (x : ℕ × Form). x.1) p in
    (0, omega (arith, b), ap (λ (x : ℕ × Form). Some x) (rw (a, sym c) refl))
look_by k m ms id n s false h rest e = let x = rest e in (suc x.0, omega (arith, x.1), x.2)

look_at : (k : ℕ) (ms : List (ℕ × Form)) (id n : ℕ) (s : Form) → look_from k ms id ≡ Some (n, s) → (i : ℕ) × (n ≡ k + i) × (slice_get ms i ≡ Some (id, s))
look_at k [] id n s e = absurd cc
look_at k (m ∷ ms) id n s e = look_by k m ms id n s (m.0 == id) refl (λ f. look_at (suc k) ms id n s f) e

some_number : (o : Option (ℕ × Form)) (n : ℕ) → Some n ≡ number_of o → (s : Form) × (o ≡ Some (n, s))
some_number None n e = absurd cc
some_number (Some m) n e = (m.1, let k : n ≡ m.0 = cc in rw k refl)

pub numbered : (index : BTreeMap ℕ ℕ) (ms : List (ℕ × Form)) (id n : ℕ) → IsIndex index ms → Some n ≡ get nat_cmp index id → (s : Form) × (look ms id ≡ Some (n, s)) × (slice_get ms n ≡ Some (id, s))
numbered index ms id n is e =
    let x = some_number (look ms id) n (e ∙ is.each id) in
    let y = look_at 0 ms id n x.0 x.1 in
    let k : y.0 ≡ n = omega (arith, y.1) in
    (x.0, x.1, subst (λ (j : ℕ). slice_get ms j ≡ Some (id, x.0)) k y.2)

no_number : (o : Option (ℕ × Form)) → None ≡ number_of o → None ≡ o
no_number None e = refl
no_number (Some m) e = absurd cc

pub not_numbered : (index : BTreeMap ℕ ℕ) (ms : List (ℕ × Form)) (id : ℕ) → IsIndex index ms → None ≡ get nat_cmp index id → None ≡ look ms id
not_numbered index ms id is e = no_number (look ms id) (e ∙ is.each id)

-- ---- items that are seen

module _ {A B : Type 0} (f : A → B) (xs ys : List A) (n : ℕ) (same : ys ≡ xs) where
  pub within : (y : B) → false ≡ nat_lt n (length ys) → slice_get (map f xs) n ≡ Some y → ⊥
  within y past e =
      let k : n < length xs = subst (λ (k : ℕ). n < k) (length-map xs f) (slice_get_within (map f xs) n y e) in
      let l : nat_lt n (length xs) ≡ true = lt-ltb n (length xs) k in
      let p : false ≡ nat_lt n (length xs) = past ∙ ap (λ (zs : List A). nat_lt n (length zs)) same in
      absurd cc

  pub seen : (x : A) (y : B) → true ≡ nat_lt n (length ys) → x ≡ get_or ys n x → slice_get (map f xs) n ≡ Some y → f x ≡ y
  seen x y in' is e =
      let l : n < length xs = ltb-true n (length xs) (sym (in' ∙ ap (λ (zs : List A). nat_lt n (length zs)) same)) in
      let g : slice_get xs n ≡ Some x = slice_get-get_or xs n x l ∙ ap (λ (z : A). Some z) (sym (is ∙ ap (λ (zs : List A). get_or zs n x) same)) in
      let h : Some (f x) ≡ Some y = ap (option_map f) (sym g) ∙ sym (slice_get-map f xs n) ∙ e in
      cc

pub mets_more : (ms : List FullPointer) (m : FullPointer) → mets (ms ++ m ∷ []) ≡ mets ms ++ (m.id, form m.shape.now) ∷ []
mets_more [] m = refl
mets_more (x ∷ xs) m = ap (λ (ys : List (ℕ × Form)). (x.id, form x.shape.now) ∷ ys) (mets_more xs m)

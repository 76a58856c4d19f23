-- Entries at the numbers of their values: what is found there, and what edits leave.
use Rattle.std.proofs.Common.{◌≡◌, ℕ, ◌+◌, ◌<◌, ◌≤◌, ◌^◌, Bool, true, false, not, ◌==◌, nat_lt, Some, None, is_some, List, [], ◌∷◌, ◌++◌, refl, sym, ◌∙◌, ap, subst, arith, inl, inr}
use Rattle.std.specs.List.{find, filter, list_any}
use Rattle.std.specs.Map.{values_of, lookup, remove_entry}
use Rattle.std.specs.BTreeMap.{insert_entry, is_at}
use Rattle.std.specs.Ordering.{nat_cmp}
use Rattle.std.specs.declared.cmp.Ordering.TheVariants.{Less, Equal, Greater}
use Rattle.std.proofs.lemmas.Bool.{cases_order, cases_Bool, or_parts, not-false, ltb-true}
use Rattle.std.proofs.lemmas.Bool.Decides.{nat_tests}
use Rattle.audit_tables.specs.Keyed.{Keyed, Rises, IsTable}

-- ORDER OF NUMBERS

pub cmp_less : (a b : ℕ) → a < b → nat_cmp a b ≡ Less
cmp_less a b h = let t : nat_lt a b ≡ true = grind (arith, nat_tests) in rw t refl

pub cmp_same : (a b : ℕ) → a ≡ b → nat_cmp a b ≡ Equal
cmp_same a b h =
    let f : nat_lt a b ≡ false = grind (arith, nat_tests) in
    let t : (a == b) ≡ true = grind (arith, nat_tests) in
    rw (f, t) refl

pub cmp_greater : (a b : ℕ) → b < a → nat_cmp a b ≡ Greater
cmp_greater a b h =
    let f : nat_lt a b ≡ false = grind (arith, nat_tests) in
    let t : (a == b) ≡ false = grind (arith, nat_tests) in
    rw (f, t) refl

module _ {X : Type 0} (number : X → ℕ) where
  -- the value of the number k, and any other; those below and above
  abbrev pub is : ℕ → X → Bool
  is k x = number x == k

  abbrev pub is_not : ℕ → X → Bool
  is_not k x = not (number x == k)

  abbrev pub below : ℕ → X → Bool
  below k x = nat_lt (number x) k

  abbrev pub above : ℕ → X → Bool
  above k x = nat_lt k (number x)

  -- WHAT IS FOUND

  pub found : (k : ℕ) (es : List (ℕ × X)) → Keyed number es → lookup (is_at (nat_cmp k)) es ≡ find (is k) (values_of es)
  found k [] h = refl
  found k (e ∷ es) h =
      let own = h.0 in
      let more = found k es h.1 in
      elim (cases_order k e.0) [
        | inl same ↦ let t : is k e.1 ≡ true = grind (arith, nat_tests) in rw (cmp_same k e.0 same, t) refl
        | inr (inl low) ↦ let t : is k e.1 ≡ false = grind (arith, nat_tests) in rw (cmp_less k e.0 low, t) more
        | inr (inr high) ↦ let t : is k e.1 ≡ false = grind (arith, nat_tests) in rw (cmp_greater k e.0 high, t) more
      ]

  -- THOSE ABOVE

  others_kept : (k low : ℕ) (es : List (ℕ × X)) → Keyed number es → Rises low es → k < low → filter (is_not k) (values_of es) ≡ values_of es
  others_kept k low [] h r lt = refl
  others_kept k low (e ∷ es) h r lt =
      let own = h.0 in
      let first = r.0 in
      let t : is_not k e.1 ≡ true = grind (arith, nat_tests) in
      rw t (ap (λ xs. e.1 ∷ xs) (others_kept k (e.0 + 1) es h.1 r.2 (omega arith)))

  none_below : (k low : ℕ) (es : List (ℕ × X)) → Keyed number es → Rises low es → k ≤ low → filter (below k) (values_of es) ≡ []
  none_below k low [] h r le = refl
  none_below k low (e ∷ es) h r le =
      let own = h.0 in
      let first = r.0 in
      let t : below k e.1 ≡ false = grind (arith, nat_tests) in
      rw t (none_below k (e.0 + 1) es h.1 r.2 (omega arith))

  all_above : (k low : ℕ) (es : List (ℕ × X)) → Keyed number es → Rises low es → k < low → filter (above k) (values_of es) ≡ values_of es
  all_above k low [] h r lt = refl
  all_above k low (e ∷ es) h r lt =
      let own = h.0 in
      let first = r.0 in
      let t : above k e.1 ≡ true = grind (arith, nat_tests) in
      rw t (ap (λ xs. e.1 ∷ xs) (all_above k (e.0 + 1) es h.1 r.2 (omega arith)))

  -- A VALUE GOES

  removed_from : (k low : ℕ) (es : List (ℕ × X)) → Keyed number es → Rises low es → values_of (remove_entry (is_at (nat_cmp k)) es) ≡ filter (is_not k) (values_of es)
  removed_from k low [] h r = refl
  removed_from k low (e ∷ es) h r =
      let own = h.0 in
      let more = removed_from k (e.0 + 1) es h.1 r.2 in
      elim (cases_order k e.0) [
        | inl same ↦
            let t : is_not k e.1 ≡ false = grind (arith, nat_tests) in
            rw (cmp_same k e.0 same, t) (sym (others_kept k (e.0 + 1) es h.1 r.2 (omega arith)))
        | inr (inl low) ↦
            let t : is_not k e.1 ≡ true = grind (arith, nat_tests) in
            rw (cmp_less k e.0 low, t) (ap (λ xs. e.1 ∷ xs) more)
        | inr (inr high) ↦
            let t : is_not k e.1 ≡ true = grind (arith, nat_tests) in
            rw (cmp_greater k e.0 high, t) (ap (λ xs. e.1 ∷ xs) more)
      ]

  pub removed : (k : ℕ) (es : List (ℕ × X)) → IsTable number es → values_of (remove_entry (is_at (nat_cmp k)) es) ≡ filter (is_not k) (values_of es)
  removed k es t = removed_from k 0 es t.keyed t.rises

  -- A VALUE COMES

  put_from : (k low : ℕ) (v : X) (es : List (ℕ × X)) → Keyed number es → Rises low es → values_of (insert_entry nat_cmp es k v) ≡ filter (below k) (values_of es) ++ v ∷ filter (above k) (values_of es)
  put_from k low v [] h r = refl
  put_from k low v (e ∷ es) h r =
      let own = h.0 in
      elim (cases_order k e.0) [
        | inl same ↦
            let b : below k e.1 ≡ false = grind (arith, nat_tests) in
            let a : above k e.1 ≡ false = grind (arith, nat_tests) in
            rw (cmp_same k e.0 same, b, a, none_below k (e.0 + 1) es h.1 r.2 (omega arith), all_above k (e.0 + 1) es h.1 r.2 (omega arith)) refl
        | inr (inl lt) ↦
            let b : below k e.1 ≡ false = grind (arith, nat_tests) in
            let a : above k e.1 ≡ true = grind (arith, nat_tests) in
            rw (cmp_less k e.0 lt, b, a, none_below k (e.0 + 1) es h.1 r.2 (omega arith), all_above k (e.0 + 1) es h.1 r.2 (omega arith)) refl
        | inr (inr gt) ↦
            let b : below k e.1 ≡ true = grind (arith, nat_tests) in
            let a : above k e.1 ≡ false = grind (arith, nat_tests) in
            rw (cmp_greater k e.0 gt, b, a) (ap (λ xs. e.1 ∷ xs) (put_from k (e.0 + 1) v es h.1 r.2))
      ]

  pub put_is : (k : ℕ) (v : X) (es : List (ℕ × X)) → IsTable number es → values_of (insert_entry nat_cmp es k v) ≡ filter (below k) (values_of es) ++ v ∷ filter (above k) (values_of es)
  put_is k v es t = put_from k 0 v es t.keyed t.rises

  -- THE TABLE STAYS ONE

  keyed_put : (k : ℕ) (v : X) (es : List (ℕ × X)) → Keyed number es → k ≡ number v → Keyed number (insert_entry nat_cmp es k v)
  keyed_put k v [] h q = (q, tt)
  keyed_put k v (e ∷ es) h q =
      elim (cases_order k e.0) [
        | inl same ↦ rw (cmp_same k e.0 same) (sym same ∙ q, h.1)
        | inr (inl lt) ↦ rw (cmp_less k e.0 lt) (q, h)
        | inr (inr gt) ↦ rw (cmp_greater k e.0 gt) (h.0, keyed_put k v es h.1 q)
      ]

  rises_put : (k low : ℕ) (v : X) (es : List (ℕ × X)) → Rises low es → low ≤ k → k < 2 ^ 32 → Rises low (insert_entry nat_cmp es k v)
  rises_put k low v [] r le small = (le, small, tt)
  rises_put k low v (e ∷ es) r le small =
      elim (cases_order k e.0) [
        | inl same ↦ rw (cmp_same k e.0 same) r
        | inr (inl lt) ↦ rw (cmp_less k e.0 lt) (le, small, (omega arith, r.1, r.2))
        | inr (inr gt) ↦ rw (cmp_greater k e.0 gt) (r.0, r.1, rises_put k (e.0 + 1) v es r.2 (omega arith) small)
      ]

  pub table_put : (k : ℕ) (v : X) (es : List (ℕ × X)) → IsTable number es → k ≡ number v → k < 2 ^ 32 → IsTable number (insert_entry nat_cmp es k v)
  table_put k v es t q small = record { keyed = keyed_put k v es t.keyed q; rises = rises_put k 0 v es t.rises (omega arith) small }

  keyed_removed : (test : ℕ → Bool) (es : List (ℕ × X)) → Keyed number es → Keyed number (remove_entry test es)
  keyed_removed test [] h = tt
  keyed_removed test (e ∷ es) h =
      elim (cases_Bool (test e.0)) [
        | inl t ↦ rw t h.1
        | inr f ↦ rw f (h.0, keyed_removed test es h.1)
      ]

  rises_weaken : (low more : ℕ) (es : List (ℕ × X)) → low ≤ more → Rises more es → Rises low es
  rises_weaken low more [] le r = tt
  rises_weaken low more (e ∷ es) le r = let first = r.0 in (omega arith, r.1, r.2)

  rises_removed : (test : ℕ → Bool) (low : ℕ) (es : List (ℕ × X)) → Rises low es → Rises low (remove_entry test es)
  rises_removed test low [] r = tt
  rises_removed test low (e ∷ es) r =
      let first = r.0 in
      elim (cases_Bool (test e.0)) [
        | inl t ↦ rw t (rises_weaken low (e.0 + 1) es (omega arith) r.2)
        | inr f ↦ rw f (r.0, r.1, rises_removed test (e.0 + 1) es r.2)
      ]

  pub table_removed : (test : ℕ → Bool) (es : List (ℕ × X)) → IsTable number es → IsTable number (remove_entry test es)
  table_removed test es t = record { keyed = keyed_removed test es t.keyed; rises = rises_removed test 0 es t.rises }

  -- ALL ARE BELOW

  pub over_below : (k : ℕ) (xs : List X) → list_any (λ x. not (below k x)) xs ≡ false → filter (below k) xs ≡ xs
  over_below k [] h = refl
  over_below k (x ∷ xs) h =
      let p = or_parts (not (below k x)) (list_any (λ y. not (below k y)) xs) h in
      rw (not-false (below k x) p.0) (ap (λ ys. x ∷ ys) (over_below k xs p.1))

  pub over_above : (k : ℕ) (xs : List X) → list_any (λ x. not (below k x)) xs ≡ false → filter (above k) xs ≡ []
  over_above k [] h = refl
  over_above k (x ∷ xs) h =
      let p = or_parts (not (below k x)) (list_any (λ y. not (below k y)) xs) h in
      let lt = ltb-true (number x) k (not-false (below k x) p.0) in
      let a : above k x ≡ false = grind (arith, nat_tests) in
      rw a (over_above k xs p.1)

  -- a value above all comes last
  pub put_last : (k : ℕ) (v : X) (es : List (ℕ × X)) → IsTable number es → list_any (λ x. not (below k x)) (values_of es) ≡ false → values_of (insert_entry nat_cmp es k v) ≡ values_of es ++ v ∷ []
  put_last k v es t over =
      put_is k v es t ∙ (ap (λ xs. xs ++ v ∷ filter (above k) (values_of es)) (over_below k (values_of es) over) ∙ ap (λ xs. values_of es ++ v ∷ xs) (over_above k (values_of es) over))

  -- whether one is found
  pub any_found : (k : ℕ) (es : List (ℕ × X)) → Keyed number es → is_some (lookup (is_at (nat_cmp k)) es) ≡ list_any (is k) (values_of es)
  any_found k [] h = refl
  any_found k (e ∷ es) h =
      let own = h.0 in
      let more = any_found k es h.1 in
      elim (cases_order k e.0) [
        | inl same ↦ let t : is k e.1 ≡ true = grind (arith, nat_tests) in rw (cmp_same k e.0 same, t) refl
        | inr (inl low) ↦ let t : is k e.1 ≡ false = grind (arith, nat_tests) in rw (cmp_less k e.0 low, t) more
        | inr (inr high) ↦ let t : is k e.1 ≡ false = grind (arith, nat_tests) in rw (cmp_greater k e.0 high, t) more
      ]

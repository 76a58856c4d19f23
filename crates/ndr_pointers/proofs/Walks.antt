-- Steps of a walk over a flat part.
use Rattle.std.proofs.Common.{◌≡◌, ℕ, zero, suc, ◌+◌, ◌-◌, ◌<◌, ◌≤◌, Bool, false, List, [], ◌∷◌, length, drop, get_or, add-one, drop-cons, Option, None, Result, Ok, Err, refl, sym, ap, subst, ◌∙◌, arith}
use Rattle.std.specs.Prelude.{◌==◌, ℤ, if◌then◌else◌}
use Rattle.std.proofs.lemmas.List.{drop_all}
use Rattle.std.proofs.lemmas.Grind.{common_steps}
use Rattle.ndr_value.specs.declared.shape.Shape.{Shape}
use Rattle.ndr_value.specs.declared.shape.Arm.{Arm}
use Rattle.ndr_value.specs.Forms.{Form, OfStruct, OfUnion, ArmForms, Body, Forms, form, forms, arms_of}
use Rattle.rpc_base.specs.declared.identifiers.Order.{Order}
use Rattle.ndr_value.specs.Fits.{arm_of}
use Rattle.ndr_scalars.specs.Scalars.{up}
use Rattle.ndr_arrays.specs.Bind.{◌>>=◌}
use Rattle.ndr_model.specs.declared.departure.Departure.{Departure}
use Rattle.ndr_model.specs.Part.{for_last, in_place, tag_size}
use Rattle.ndr_model.specs.Reading.{struct_at, tag_at}
use Rattle.ndr_model.specs.Places.{Place, past}
use Rattle.ndr_model.specs.Scan.{Scanned, scan, scan_at, each, times, arm_scan}
use Rattle.ndr_pointers.specs.declared.scan_fault.ReadError.{ReadError}
use Rattle.ndr_pointers.specs.declared.scan_fault.ReadError.TheVariants as errors
use Rattle.ndr_pointers.specs.Gives.{Fails}

-- the arm of a union for a tag, told by equals of its parts
pub arm_again : (kind same_kind : Shape) (arms same_arms : List Arm) (tag same_tag : ℤ) (arm : Option Body) → kind ≡ same_kind → arms ≡ same_arms → tag ≡ same_tag
    → arm_of (OfUnion (form kind) (arms_of arms)) tag ≡ arm → arm_of (OfUnion (form same_kind) (arms_of same_arms)) same_tag ≡ arm
arm_again kind same_kind arms same_arms tag same_tag arm k a z is = rw (← k, ← a, ← z) is

-- ---- as many of one shape

pub once_more : (go : Place → Scanned) (count i : ℕ) (p h : Place) (total : Scanned) → i < count → go p ≡ Ok h → times go (count - i) p ≡ total → times go (count - (i + 1)) h ≡ total
once_more go count i p h total lt e so_far =
    let k : count - i ≡ suc (count - (i + 1)) = omega arith in
    let one : times go (count - i) p ≡ times go (count - (i + 1)) h = rw (k, e) refl in
    sym one ∙ so_far

pub once_fails : (err : ReadError) (go : Place → Scanned) (count i : ℕ) (p : Place) (total : Scanned) → i < count → Fails err (go p) → times go (count - i) p ≡ total → Fails err total
once_fails errors.Memory go count i p total lt e so_far = tt
once_fails (errors.Departs d) go count i p total lt e so_far =
    let k : count - i ≡ suc (count - (i + 1)) = omega arith in
    let one : times go (count - i) p ≡ Err d = rw (k, e) refl in
    sym so_far ∙ one

pub no_more : (go : Place → Scanned) (count i : ℕ) (p : Place) (total : Scanned) → count ≤ i → times go (count - i) p ≡ total → total ≡ Ok p
no_more go count i p total le so_far =
    let k : count - i ≡ 0 = omega arith in
    let one : times go (count - i) p ≡ Ok p = rw k refl in
    sym so_far ∙ one

-- ---- shapes in order, of which the last has what moved

pub drop_more : {A : Type 0} (xs : List A) (i : ℕ) (x : A) → i < length xs → x ≡ get_or xs i x → drop i xs ≡ x ∷ drop (i + 1) xs
drop_more xs i x lt is = rw (add-one, drop-cons xs i x lt, ← is) refl

last_is : (own : Option ℕ) (ss : List Shape) (b : Bool) → b ≡ (length ss == 0) → (if b then own else None) ≡ for_last (forms ss) own
last_is own [] b e = rw e refl
last_is own (s ∷ ss) b e = let k : (length (s ∷ ss) == 0) ≡ false = grind (arith, common_steps) in rw (e, k) refl

-- what moved, for the shape at that place
pub moved_is : (own : Option ℕ) (ss : List Shape) (left i : ℕ) → left + (i + 1) ≡ length ss → (if left == 0 then own else None) ≡ for_last (forms (drop (i + 1) ss)) own
moved_is own ss left i e =
    let k : length (drop (i + 1) ss) ≡ left = grind (arith, common_steps, e) in
    last_is own (drop (i + 1) ss) (left == 0) (ap (λ (n : ℕ). n == 0) (sym k))

pub each_more : (go : Option ℕ → Form → Place → Scanned) (own moved : Option ℕ) (shapes : List Shape) (i : ℕ) (s : Shape) (p h : Place) (total : Scanned) → i < length shapes → s ≡ get_or shapes i s
    → moved ≡ for_last (forms (drop (i + 1) shapes)) own → go moved (form s) p ≡ Ok h → each go own (forms (drop i shapes)) p ≡ total → each go own (forms (drop (i + 1) shapes)) h ≡ total
each_more go own moved shapes i s p h total lt is m e so_far =
    let k : drop i shapes ≡ s ∷ drop (i + 1) shapes = drop_more shapes i s lt is in
    let one : each go own (forms (drop i shapes)) p ≡ each go own (forms (drop (i + 1) shapes)) h = rw (k, ← m, e) refl in
    sym one ∙ so_far

pub each_fails : (err : ReadError) (go : Option ℕ → Form → Place → Scanned) (own moved : Option ℕ) (shapes : List Shape) (i : ℕ) (s : Shape) (p : Place) (total : Scanned) → i < length shapes → s ≡ get_or shapes i s
    → moved ≡ for_last (forms (drop (i + 1) shapes)) own → Fails err (go moved (form s) p) → each go own (forms (drop i shapes)) p ≡ total → Fails err total
each_fails errors.Memory go own moved shapes i s p total lt is m e so_far = tt
each_fails (errors.Departs d) go own moved shapes i s p total lt is m e so_far =
    let k : drop i shapes ≡ s ∷ drop (i + 1) shapes = drop_more shapes i s lt is in
    let one : each go own (forms (drop i shapes)) p ≡ Err d = rw (k, ← m, e) refl in
    sym so_far ∙ one

pub each_done : (go : Option ℕ → Form → Place → Scanned) (own : Option ℕ) (shapes : List Shape) (i : ℕ) (p : Place) (total : Scanned) → length shapes ≤ i → each go own (forms (drop i shapes)) p ≡ total → total ≡ Ok p
each_done go own shapes i p total le so_far =
    let k : drop i shapes ≡ [] = drop_all i shapes le in
    let one : each go own (forms (drop i shapes)) p ≡ Ok p = rw k refl in
    sym so_far ∙ one

-- ---- one step

module _ (types : List Form) (order : Order) (octets : List ℕ) where
  pub scan_step : (n room : ℕ) (moved : Option ℕ) (s : Form) (p : Place) → (n ≡ 0 → ⊥) → scan types order octets n room moved s p ≡ scan_at types order octets room moved (scan types order octets (n - 1) room) s p
  unfolding scan
  scan_step zero room moved s p h = absurd (h refl)
  scan_step (suc n) room moved s p h = let e : suc n - 1 ≡ n = omega arith in rw e refl

  pub struct_scan : (room : ℕ) (moved own : Option ℕ) (go : Option ℕ → Form → Place → Scanned) (s : Form) (ss : Forms) (p : Place) (i : ℕ) → s ≡ OfStruct ss → struct_at order octets types ss moved p.at ≡ Ok (own, i)
      → scan_at types order octets room moved go s p ≡ each go own ss (past p i)
  struct_scan room moved own go s ss p i is e =
      ap (λ (t : Form). scan_at types order octets room moved go t p) is ∙ ap (λ (r : Result (Option ℕ × ℕ) Departure). r >>= λ x. each go x.0 ss (past p x.1)) e

  pub union_scan : (room : ℕ) (moved : Option ℕ) (go : Option ℕ → Form → Place → Scanned) (s t : Form) (arms : ArmForms) (p : Place) (tag : ℤ) (i : ℕ) (b : Option Body) → s ≡ OfUnion t arms → tag_at order octets t arms (in_place types s p.at) ≡ Ok (tag, i)
      → i ≡ up (in_place types s p.at) (tag_size t) + tag_size t → arm_of (OfUnion t arms) tag ≡ b → scan_at types order octets room moved go s p ≡ arm_scan b (i - tag_size t) (past p i) (go None)
  union_scan room moved go s t arms p tag i b is e i_is b_is =
      let f : tag_at order octets t arms (in_place types (OfUnion t arms) p.at) ≡ Ok (tag, i) = subst (λ (u : Form). tag_at order octets t arms (in_place types u p.at) ≡ Ok (tag, i)) is e in
      let g : i ≡ up (in_place types (OfUnion t arms) p.at) (tag_size t) + tag_size t = subst (λ (u : Form). i ≡ up (in_place types u p.at) (tag_size t) + tag_size t) is i_is in
      let k : up (in_place types (OfUnion t arms) p.at) (tag_size t) ≡ i - tag_size t = omega (arith, g) in
      ap (λ (u : Form). scan_at types order octets room moved go u p) is
      ∙ ap (λ (r : Result (ℤ × ℕ) Departure). r >>= λ x. arm_scan (arm_of (OfUnion t arms) x.0) (up (in_place types (OfUnion t arms) p.at) (tag_size t)) (past p x.1) (go None)) f
      ∙ ap (λ (c : Option Body). arm_scan c (up (in_place types (OfUnion t arms) p.at) (tag_size t)) (past p i) (go None)) b_is
      ∙ ap (λ (j : ℕ). arm_scan b j (past p i) (go None)) k

  -- its tag departs
  pub union_fails : (err : ReadError) (room : ℕ) (moved : Option ℕ) (go : Option ℕ → Form → Place → Scanned) (s t : Form) (arms : ArmForms) (p : Place) → s ≡ OfUnion t arms
      → Fails err (tag_at order octets t arms (in_place types s p.at)) → Fails err (scan_at types order octets room moved go s p)
  union_fails errors.Memory room moved go s t arms p is e = tt
  union_fails (errors.Departs d) room moved go s t arms p is e =
      let f : tag_at order octets t arms (in_place types (OfUnion t arms) p.at) ≡ Err d = subst (λ (u : Form). tag_at order octets t arms (in_place types u p.at) ≡ Err d) is e in
      ap (λ (u : Form). scan_at types order octets room moved go u p) is
      ∙ ap (λ (r : Result (ℤ × ℕ) Departure). r >>= λ x. arm_scan (arm_of (OfUnion t arms) x.0) (up (in_place types (OfUnion t arms) p.at) (tag_size t)) (past p x.1) (go None)) f

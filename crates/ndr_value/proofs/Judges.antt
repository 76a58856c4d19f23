-- The test of a value tells whether it is of its shape.
use Rattle.std.proofs.Common.{◌≡◌, ℕ, zero, suc, ◌+◌, ◌<◌, Bool, true, false, List, length, Option, Some, None, ℤ, refl, ap, subst, ◌∙◌, arith}
use Rattle.std.specs.Prelude.{◌&&◌, not, nat_lt, slice_get}
use Rattle.std.proofs.lemmas.Bool.{ltb-true, lt-ltb}
use Rattle.ndr_value.specs.declared.shape.Count.{Count}
use Rattle.ndr_value.specs.Forms.{Form, OfBool, OfByte, OfChar, OfInt, OfUint, OfEnum, OfNamed, OfStruct, OfUnion, OfArray, OfText, OfRef, OfUnique, OfFull, OfHandle, Forms, no_form, then_form, Body, empty, holds}
use Rattle.ndr_value.specs.Values.{Val, VBool, VByte, VChar, VInt, VUint, VEnum, VStruct, VEmpty, VUnion, VArray, VText, VNull, VPtr, VFull, VHandle, Vals, no_val, then_val, count_of}
use Rattle.ndr_value.specs.Fits.{limit, fits_count, fits_text, has_nul, arm_of}
use Rattle.ndr_value.specs.Typed.{Typed, EachTyped, AllTyped, a_bool, a_byte, a_char, an_int, a_uint, an_enum, a_name, a_struct, an_empty_arm, an_arm, an_array, a_text, a_ref, a_null, a_pointer, a_null_full, a_full, a_handle, no_more, one_more, none_left, one_of}
use Rattle.ndr_value.specs.Judged.{is_done, behind_refs, named, or_else, plain, is_bool, is_byte, is_char, is_handle, holds_int, holds_uint, holds_enum, holds_text, holds_item, is_struct, members, holds_items, is_unique, inner, is_empty, is_held, held, typed, each_typed, all_typed}
use Rattle.ndr_value.proofs.Names.{past_name}

and_is : (a b : Bool) → (a && b) ≡ true → (a ≡ true) × (b ≡ true)
and_is true b e = (refl, e)
and_is false b e = absurd cc

and_so : (a b : Bool) → a ≡ true → b ≡ true → (a && b) ≡ true
and_so a b e f = ap (λ x. x && b) e ∙ f

not_is : (b : Bool) → not b ≡ true → b ≡ false
not_is true e = absurd cc
not_is false e = refl

is_empty_is : (o : Option Body) → is_empty o ≡ true → o ≡ Some empty
is_empty_is None e = absurd cc
is_empty_is (Some empty) e = refl
is_empty_is (Some (holds s)) e = absurd cc

is_held_is : (o : Option Body) → is_held o ≡ true → o ≡ Some (holds (held o))
is_held_is None e = absurd cc
is_held_is (Some empty) e = absurd cc
is_held_is (Some (holds s)) e = refl

done_by : (f : Form → Bool) → ((s : Form) → f (OfRef s) ≡ false) → ((c : ℕ) (switch : Option Count) → f (OfNamed c switch) ≡ false) → (p : Form) → f p ≡ true → is_done p ≡ true
done_by f r n (OfRef s) e = let g = r s in absurd cc
done_by f r n (OfNamed c switch) e = let g = n c switch in absurd cc
done_by f r n _ e = refl

plain_done : (types : List Form) (n : ℕ) (p : Form) → is_done p ≡ true → plain types n p ≡ p
plain_done types zero (OfRef s) e = absurd cc
plain_done types zero (OfNamed c switch) e = absurd cc
plain_done types zero _ e = refl
plain_done types (suc n) (OfRef s) e = absurd cc
plain_done types (suc n) (OfNamed c switch) e = absurd cc
plain_done types (suc n) _ e = refl

plain_ref : (types : List Form) (n : ℕ) (s : Form) → plain types n (OfRef s) ≡ plain types n s
plain_ref types zero s = refl
plain_ref types (suc n) s = refl

module _ (types : List Form) (heap : ℕ) where
  -- ---- what the test takes is of the shape

  refs_up : {level : ℕ} (s : Form) (v : Val) → Typed types heap level (behind_refs s) v → Typed types heap level s v
  refs_up (OfRef s) v t = a_ref (refs_up s v t)
  refs_up _ v t = t

  found_up : {level : ℕ} (c : ℕ) (switch : Option Count) (go : Form → Form) (v : Val) → ((u : Form) → Typed types heap level (go u) v → Typed types heap level u v)
      → (o : Option Form) → slice_get types c ≡ o → Typed types heap level (or_else o (OfNamed c switch) go) v → Typed types heap level (OfNamed c switch) v
  found_up c switch go v so None e t = t
  found_up c switch go v so (Some u) e t = a_name e (so u t)

  name_up : {level : ℕ} (p : Form) (go : Form → Form) (v : Val) → ((u : Form) → Typed types heap level (go u) v → Typed types heap level u v)
      → Typed types heap level (or_else (named types p) p go) v → Typed types heap level p v
  name_up (OfNamed c switch) go v so t = found_up c switch go v so (slice_get types c) refl t
  name_up _ go v so t = t

  plain_up : {level : ℕ} (n : ℕ) (s : Form) (v : Val) → Typed types heap level (plain types n s) v → Typed types heap level s v
  plain_up zero s v t = refs_up s v t
  plain_up (suc n) s v t = refs_up s v (name_up (behind_refs s) (λ u. plain types n u) v (λ u. plain_up n u v) t)

  bool_at : (level : ℕ) (p : Form) (b : Bool) → is_bool p ≡ true → Typed types heap level p (VBool b)
  bool_at level OfBool b e = a_bool
  bool_at level _ b e = absurd cc

  byte_at : (level : ℕ) (p : Form) (n : ℕ) → is_byte p ≡ true → Typed types heap level p (VByte n)
  byte_at level OfByte n e = a_byte
  byte_at level _ n e = absurd cc

  char_at : (level : ℕ) (p : Form) (n : ℕ) → is_char p ≡ true → Typed types heap level p (VChar n)
  char_at level OfChar n e = a_char
  char_at level _ n e = absurd cc

  int_at : (level : ℕ) (p : Form) (z : ℤ) → holds_int p z ≡ true → Typed types heap level p (VInt z)
  int_at level (OfInt size) z e = an_int e
  int_at level _ z e = absurd cc

  uint_at : (level : ℕ) (p : Form) (n : ℕ) → holds_uint p n ≡ true → Typed types heap level p (VUint n)
  uint_at level (OfUint size) n e = a_uint (ltb-true n (limit size) e)
  uint_at level _ n e = absurd cc

  enum_at : (level : ℕ) (p : Form) (n : ℕ) → holds_enum p n ≡ true → Typed types heap level p (VEnum n)
  enum_at level (OfEnum count) n e = an_enum (ltb-true n count e)
  enum_at level _ n e = absurd cc

  struct_at : (level : ℕ) (p : Form) (vs : Vals) → is_struct p ≡ true → EachTyped types heap level (members p) vs → Typed types heap level p (VStruct vs)
  struct_at level (OfStruct ss) vs e t = a_struct t
  struct_at level _ vs e t = absurd cc

  empty_at : (level : ℕ) (p : Form) (tag : ℤ) → is_empty (arm_of p tag) ≡ true → Typed types heap level p (VEmpty tag)
  empty_at level (OfUnion t arms) tag e = an_empty_arm (is_empty_is (arm_of (OfUnion t arms) tag) e)
  empty_at level _ tag e = absurd cc

  arm_at : (level : ℕ) (p : Form) (tag : ℤ) (v : Val) → is_held (arm_of p tag) ≡ true → Typed types heap level (held (arm_of p tag)) v → Typed types heap level p (VUnion tag v)
  arm_at level (OfUnion t arms) tag v e h = an_arm (is_held_is (arm_of (OfUnion t arms) tag) e) h
  arm_at level _ tag v e h = absurd cc

  array_at : (level : ℕ) (p : Form) (vs : Vals) → holds_items p (count_of vs) ≡ true → AllTyped types heap level (inner p) vs → Typed types heap level p (VArray vs)
  array_at level (OfArray kind s) vs e t = an_array e t
  array_at level _ vs e t = absurd cc

  text_at : (level : ℕ) (p : Form) (text : List ℕ) → holds_text p text ≡ true → Typed types heap level p (VText text)
  text_at level (OfText most) text e = let h = and_is (fits_text most (length text)) (not (has_nul text)) e in a_text h.0 (not_is (has_nul text) h.1)
  text_at level _ text e = absurd cc

  null_at : (level : ℕ) (p : Form) → is_unique p ≡ true → Typed types heap level p VNull
  null_at level (OfUnique s) e = a_null
  null_at level _ e = absurd cc

  pointer_at : (level : ℕ) (p : Form) (v : Val) → is_unique p ≡ true → level < 256 → Typed types heap (suc level) (inner p) v → Typed types heap level p (VPtr v)
  pointer_at level (OfUnique s) v e few t = a_pointer few t
  pointer_at level _ v e few t = absurd cc

  item_at : (level : ℕ) (p : Form) (o : Option ℕ) → holds_item p o heap ≡ true → Typed types heap level p (VFull o)
  item_at level (OfFull s) None e = a_null_full
  item_at level (OfFull s) (Some n) e = a_full (ltb-true n heap e)
  item_at level _ o e = absurd cc

  handle_at : (level : ℕ) (p : Form) (slot : ℕ) → is_handle p ≡ true → Typed types heap level p (VHandle slot)
  handle_at level (OfHandle kind) slot e = a_handle
  handle_at level _ slot e = absurd cc

  mutual
    pub stands : (v : Val) (level : ℕ) (s : Form) → typed types heap level v s ≡ true → Typed types heap level s v
    stands (VBool b) level s e = plain_up (length types) s (VBool b) (bool_at level (plain types (length types) s) b e)
    stands (VByte n) level s e = plain_up (length types) s (VByte n) (byte_at level (plain types (length types) s) n e)
    stands (VChar n) level s e = plain_up (length types) s (VChar n) (char_at level (plain types (length types) s) n e)
    stands (VInt z) level s e = plain_up (length types) s (VInt z) (int_at level (plain types (length types) s) z e)
    stands (VUint n) level s e = plain_up (length types) s (VUint n) (uint_at level (plain types (length types) s) n e)
    stands (VEnum n) level s e = plain_up (length types) s (VEnum n) (enum_at level (plain types (length types) s) n e)
    stands (VStruct vs) level s e =
        let p = plain types (length types) s in
        let h = and_is (is_struct p) (each_typed types heap level vs (members p)) e in
        plain_up (length types) s (VStruct vs) (struct_at level p vs h.0 (each_stands vs level (members p) h.1))
    stands (VEmpty tag) level s e = plain_up (length types) s (VEmpty tag) (empty_at level (plain types (length types) s) tag e)
    stands (VUnion tag v) level s e =
        let p = plain types (length types) s in
        let h = and_is (is_held (arm_of p tag)) (typed types heap level v (held (arm_of p tag))) e in
        plain_up (length types) s (VUnion tag v) (arm_at level p tag v h.0 (stands v level (held (arm_of p tag)) h.1))
    stands (VArray vs) level s e =
        let p = plain types (length types) s in
        let h = and_is (holds_items p (count_of vs)) (all_typed types heap level vs (inner p)) e in
        plain_up (length types) s (VArray vs) (array_at level p vs h.0 (all_stand vs level (inner p) h.1))
    stands (VText text) level s e = plain_up (length types) s (VText text) (text_at level (plain types (length types) s) text e)
    stands VNull level s e = plain_up (length types) s VNull (null_at level (plain types (length types) s) e)
    stands (VPtr v) level s e =
        let p = plain types (length types) s in
        let h = and_is (is_unique p && nat_lt level 256) (typed types heap (level + 1) v (inner p)) e in
        let g = and_is (is_unique p) (nat_lt level 256) h.0 in
        let one : level + 1 ≡ suc level = omega arith in
        let t = subst (λ l. Typed types heap l (inner p) v) one (stands v (level + 1) (inner p) h.1) in
        plain_up (length types) s (VPtr v) (pointer_at level p v g.0 (ltb-true level 256 g.1) t)
    stands (VFull o) level s e = plain_up (length types) s (VFull o) (item_at level (plain types (length types) s) o e)
    stands (VHandle slot) level s e = plain_up (length types) s (VHandle slot) (handle_at level (plain types (length types) s) slot e)

    each_stands : (vs : Vals) (level : ℕ) (ss : Forms) → each_typed types heap level vs ss ≡ true → EachTyped types heap level ss vs
    each_stands no_val level no_form e = no_more
    each_stands no_val level (then_form s ss) e = absurd cc
    each_stands (then_val v vs) level no_form e = absurd cc
    each_stands (then_val v vs) level (then_form s ss) e =
        let h = and_is (typed types heap level v s) (each_typed types heap level vs ss) e in
        one_more (stands v level s h.0) (each_stands vs level ss h.1)

    all_stand : (vs : Vals) (level : ℕ) (s : Form) → all_typed types heap level vs s ≡ true → AllTyped types heap level s vs
    all_stand no_val level s e = none_left
    all_stand (then_val v vs) level s e =
        let h = and_is (typed types heap level v s) (all_typed types heap level vs s) e in
        one_of (stands v level s h.0) (all_stand vs level s h.1)

  -- ---- and what is of the shape is taken

  -- the shape that is looked at is no name
  done_for : (v : Val) (level : ℕ) (s : Form) → typed types heap level v s ≡ true → is_done (plain types (length types) s) ≡ true
  done_for (VBool b) level s e = done_by is_bool (λ s. refl) (λ c switch. refl) (plain types (length types) s) e
  done_for (VByte n) level s e = done_by is_byte (λ s. refl) (λ c switch. refl) (plain types (length types) s) e
  done_for (VChar n) level s e = done_by is_char (λ s. refl) (λ c switch. refl) (plain types (length types) s) e
  done_for (VInt z) level s e = done_by (λ p. holds_int p z) (λ s. refl) (λ c switch. refl) (plain types (length types) s) e
  done_for (VUint n) level s e = done_by (λ p. holds_uint p n) (λ s. refl) (λ c switch. refl) (plain types (length types) s) e
  done_for (VEnum n) level s e = done_by (λ p. holds_enum p n) (λ s. refl) (λ c switch. refl) (plain types (length types) s) e
  done_for (VStruct vs) level s e = done_by (λ p. is_struct p && each_typed types heap level vs (members p)) (λ s. refl) (λ c switch. refl) (plain types (length types) s) e
  done_for (VEmpty tag) level s e = done_by (λ p. is_empty (arm_of p tag)) (λ s. refl) (λ c switch. refl) (plain types (length types) s) e
  done_for (VUnion tag v) level s e = done_by (λ p. is_held (arm_of p tag) && typed types heap level v (held (arm_of p tag))) (λ s. refl) (λ c switch. refl) (plain types (length types) s) e
  done_for (VArray vs) level s e = done_by (λ p. holds_items p (count_of vs) && all_typed types heap level vs (inner p)) (λ s. refl) (λ c switch. refl) (plain types (length types) s) e
  done_for (VText text) level s e = done_by (λ p. holds_text p text) (λ s. refl) (λ c switch. refl) (plain types (length types) s) e
  done_for VNull level s e = done_by is_unique (λ s. refl) (λ c switch. refl) (plain types (length types) s) e
  done_for (VPtr v) level s e = done_by (λ p. is_unique p && nat_lt level 256 && typed types heap (level + 1) v (inner p)) (λ s. refl) (λ c switch. refl) (plain types (length types) s) e
  done_for (VFull o) level s e = done_by (λ p. holds_item p o heap) (λ s. refl) (λ c switch. refl) (plain types (length types) s) e
  done_for (VHandle slot) level s e = done_by is_handle (λ s. refl) (λ c switch. refl) (plain types (length types) s) e

  -- the test sees what stands behind names and Refs alone
  same_test : (v : Val) (level : ℕ) (s t : Form) → plain types (length types) s ≡ plain types (length types) t → typed types heap level v s ≡ typed types heap level v t
  same_test (VBool b) level s t e = ap is_bool e
  same_test (VByte n) level s t e = ap is_byte e
  same_test (VChar n) level s t e = ap is_char e
  same_test (VInt z) level s t e = ap (λ p. holds_int p z) e
  same_test (VUint n) level s t e = ap (λ p. holds_uint p n) e
  same_test (VEnum n) level s t e = ap (λ p. holds_enum p n) e
  same_test (VStruct vs) level s t e = ap (λ p. is_struct p && each_typed types heap level vs (members p)) e
  same_test (VEmpty tag) level s t e = ap (λ p. is_empty (arm_of p tag)) e
  same_test (VUnion tag v) level s t e = ap (λ p. is_held (arm_of p tag) && typed types heap level v (held (arm_of p tag))) e
  same_test (VArray vs) level s t e = ap (λ p. holds_items p (count_of vs) && all_typed types heap level vs (inner p)) e
  same_test (VText text) level s t e = ap (λ p. holds_text p text) e
  same_test VNull level s t e = ap is_unique e
  same_test (VPtr v) level s t e = ap (λ p. is_unique p && nat_lt level 256 && typed types heap (level + 1) v (inner p)) e
  same_test (VFull o) level s t e = ap (λ p. holds_item p o heap) e
  same_test (VHandle slot) level s t e = ap is_handle e

  at_done : {B : Type 0} (f : Form → B) (p : Form) → is_done p ≡ true → f (plain types (length types) p) ≡ f p
  at_done f p e = ap f (plain_done types (length types) p e)

  mutual
    pub judged : {level : ℕ} {s : Form} {v : Val} → Typed types heap level s v → typed types heap level v s ≡ true
    judged a_bool = at_done is_bool OfBool refl
    judged a_byte = at_done is_byte OfByte refl
    judged a_char = at_done is_char OfChar refl
    judged (an_int {size = size} {z = z} e) = at_done (λ p. holds_int p z) (OfInt size) refl ∙ e
    judged (a_uint {size = size} {n = n} e) = at_done (λ p. holds_uint p n) (OfUint size) refl ∙ lt-ltb n (limit size) e
    judged (an_enum {count = count} {n = n} e) = at_done (λ p. holds_enum p n) (OfEnum count) refl ∙ lt-ltb n count e
    judged (a_name {level = level} {number = c} {switch = switch} {s = s} {v = v} e t) =
        let h = judged t in
        same_test v level (OfNamed c switch) s (past_name types c switch s e (done_for v level s h)) ∙ h
    judged (a_struct {level = level} {ss = ss} {vs = vs} t) = at_done (λ p. is_struct p && each_typed types heap level vs (members p)) (OfStruct ss) refl ∙ each_judged t
    judged (an_empty_arm {t = t} {arms = arms} {tag = tag} e) = at_done (λ p. is_empty (arm_of p tag)) (OfUnion t arms) refl ∙ ap is_empty e
    judged (an_arm {level = level} {t = t} {s = s} {arms = arms} {tag = tag} {v = v} e h) =
        at_done (λ p. is_held (arm_of p tag) && typed types heap level v (held (arm_of p tag))) (OfUnion t arms) refl
        ∙ ap (λ o. is_held o && typed types heap level v (held o)) e ∙ judged h
    judged (an_array {level = level} {kind = kind} {s = s} {vs = vs} e t) =
        at_done (λ p. holds_items p (count_of vs) && all_typed types heap level vs (inner p)) (OfArray kind s) refl
        ∙ and_so (fits_count kind (count_of vs)) (all_typed types heap level vs s) e (all_judged t)
    judged (a_text {most = most} {text = text} e f) =
        at_done (λ p. holds_text p text) (OfText most) refl ∙ and_so (fits_text most (length text)) (not (has_nul text)) e (ap not f)
    judged (a_ref {level = level} {s = s} {v = v} t) = same_test v level (OfRef s) s (plain_ref types (length types) s) ∙ judged t
    judged (a_null {s = s}) = at_done is_unique (OfUnique s) refl
    judged (a_pointer {level = level} {s = s} {v = v} few t) =
        let one : suc level ≡ level + 1 = omega arith in
        let h : typed types heap (level + 1) v s ≡ true = subst (λ l. typed types heap l v s ≡ true) one (judged t) in
        at_done (λ p. is_unique p && nat_lt level 256 && typed types heap (level + 1) v (inner p)) (OfUnique s) refl
        ∙ and_so (nat_lt level 256) (typed types heap (level + 1) v s) (lt-ltb level 256 few) h
    judged (a_null_full {s = s}) = at_done (λ p. holds_item p None heap) (OfFull s) refl
    judged (a_full {item = n} {s = s} e) = at_done (λ p. holds_item p (Some n) heap) (OfFull s) refl ∙ lt-ltb n heap e
    judged (a_handle {kind = kind}) = at_done is_handle (OfHandle kind) refl

    each_judged : {level : ℕ} {ss : Forms} {vs : Vals} → EachTyped types heap level ss vs → each_typed types heap level vs ss ≡ true
    each_judged no_more = refl
    each_judged (one_more {level = level} {s = s} {v = v} {ss = ss} {vs = vs} t ts) = and_so (typed types heap level v s) (each_typed types heap level vs ss) (judged t) (each_judged ts)

    all_judged : {level : ℕ} {s : Form} {vs : Vals} → AllTyped types heap level s vs → all_typed types heap level vs s ≡ true
    all_judged none_left = refl
    all_judged (one_of {level = level} {s = s} {v = v} {vs = vs} t ts) = and_so (typed types heap level v s) (all_typed types heap level vs s) (judged t) (all_judged ts)

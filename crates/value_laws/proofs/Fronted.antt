-- Reading with a look at the first octet, before anything else: where no value's text begins with it, that is the departure, however
-- little depth is left.
use Rattle.std.proofs.Common.{◌≡◌, ℕ, zero, suc, ◌+◌, ◌≤◌, Bool, true, false, List, [], ◌∷◌, ◌++◌, length, Option, Some, None, Result, Ok, Err, refl, ap, ◌∙◌, arith, codes, decimal}
use Rattle.std.specs.Prelude.{ℤ, pos, negsuc, if◌then◌else◌, nat_lt, slice_get}
use Rattle.ndr_value.specs.declared.shape.ArrayKind.{ArrayKind}
use Rattle.ndr_value.specs.Forms.{Form, OfBool, OfByte, OfChar, OfInt, OfUint, OfEnum, OfNamed, OfStruct, OfUnion, OfArray, OfText, OfRef, OfUnique, OfFull, OfHandle, Forms, no_form, then_form, Body, empty, holds}
use Rattle.ndr_value.specs.Values.{Val, VBool, VByte, VChar, VInt, VUint, VEnum, VStruct, VEmpty, VUnion, VArray, VText, VNull, VPtr, VFull, VHandle, no_val, then_val}
use Rattle.ndr_value.specs.Fits.{fits_count}
use Rattle.value_text.specs.declared.departure.Departure.{Departure}
use Rattle.value_text.specs.declared.departure.Departure.TheVariants.{Syntax, Kind, TooDeep}
use Rattle.value_text.specs.Bind.{◌>>=◌}
use Rattle.value_text.specs.Texts.{value_text, Sized}
use Rattle.value_text.specs.Marks.{begins, heads, heads_digit, wrong, mark, marks, opened, closed}
use Rattle.value_text.specs.Numbers.{number_at, signed}
use Rattle.value_text.specs.Reading.{Found, Row, of_type, takes, next_at, with_item, member_at, members_end, members_on, members_at, item_at, items_on, items_at, arm_by, arm_at, held_at, union_at, pointer_at, in_struct, in_array, struct_at, array_at, read_at, read}
use Rattle.value_text.specs.Stands.{Stands}
use Rattle.value_text.specs.Causes.{goes}
use Rattle.value_text.proofs.Steps.{bind_ok, through, if_true, if_false}
use Rattle.value_text.proofs.Numerals.{heads_decimal}
use Rattle.value_text.proofs.Sound.{found, most_items}
use Rattle.value_text.proofs.Complete.{Outcome, reads, too_deep, inside}
use Rattle.value_text.proofs.Tells.{outcome}

module _ (types : List Form) where
  unfoldable pub fronted : ℕ → ℕ → Form → List ℕ → Found
  fronted zero level s t = if goes begins t then Err TooDeep else Err (Syntax (length t))
  fronted (suc n) level s t = if goes begins t then read_at types (fronted n) level s t else Err (Syntax (length t))

  pub front_off : (n level : ℕ) (s : Form) (t : List ℕ) → goes begins t ≡ false → fronted n level s t ≡ Err (Syntax (length t))
  unfolding fronted
  front_off zero level s t h = if_false (goes begins t) (Err TooDeep) (Err (Syntax (length t))) h
  front_off (suc n) level s t h = if_false (goes begins t) (read_at types (fronted n) level s t) (Err (Syntax (length t))) h

  pub front_on : (n level : ℕ) (s : Form) (t : List ℕ) → goes begins t ≡ true → fronted (suc n) level s t ≡ read_at types (fronted n) level s t
  unfolding fronted
  front_on n level s t h = if_true (goes begins t) (read_at types (fronted n) level s t) (Err (Syntax (length t))) h

-- ---- the text of a value begins so

digit_begins : (t : List ℕ) → heads_digit t ≡ true → goes begins t ≡ true
digit_begins [] h = absurd cc
digit_begins (c ∷ t) h = rw h refl

begins_value : (v : Val) (u : List ℕ) → Sized v → goes begins (value_text v ++ u) ≡ true
unfolding value_text Sized
begins_value (VBool true) u z = refl
begins_value (VBool false) u z = refl
begins_value (VByte n) u z = digit_begins (decimal n ++ u) (heads_decimal n u (omega (arith, z)))
begins_value (VChar n) u z = digit_begins (decimal n ++ u) (heads_decimal n u (omega (arith, z)))
begins_value (VInt (pos n)) u z = digit_begins (decimal n ++ u) (heads_decimal n u z)
begins_value (VInt (negsuc n)) u z = refl
begins_value (VUint n) u z = digit_begins (decimal n ++ u) (heads_decimal n u z)
begins_value (VEnum n) u z = digit_begins (decimal n ++ u) (heads_decimal n u z)
begins_value (VStruct vs) u z = refl
begins_value (VEmpty tag) u z = refl
begins_value (VUnion tag v) u z = refl
begins_value (VArray vs) u z = refl
begins_value (VText text) u z = refl
begins_value VNull u z = refl
begins_value (VPtr v) u z = refl
begins_value (VFull None) u z = refl
begins_value (VFull (Some n)) u z = refl
begins_value (VHandle slot) u z = refl

pub stands_begins : (types : List Form) (heap level : ℕ) (s : Form) (t : List ℕ) (v : Val) (rest : List ℕ) → Stands types heap level s t v rest → goes begins t ≡ true
stands_begins types heap level s t v rest h = ap (goes begins) h.whole ∙ begins_value v rest h.sized

-- ---- what is read without that look is read with it

abbrev Below : {A : Type 0} → Result A Departure → Result A Departure → Type 0
Below {A} r s = (x : A) → r ≡ Ok x → s ≡ Ok x

same : {A : Type 0} (r : Result A Departure) → Below r r
same r x e = e

both : {A B : Type 0} (r s : Result A Departure) (f g : A → Result B Departure) → Below r s → ((x : A) → Below (f x) (g x)) → Below (r >>= f) (s >>= g)
both r s f g h k y e = let b = bind_ok r f y e in through s g b.0 (h b.0 b.1) ∙ k b.0 y b.2

either : {A : Type 0} (b : Bool) (r r2 s s2 : Result A Departure) → Below r r2 → Below s s2 → Below (if b then r else s) (if b then r2 else s2)
either true r r2 s s2 h k = h
either false r r2 s s2 h k = k

first : {A B : Type 0} (r s : Result A Departure) (f : A → Result B Departure) → Below r s → Below (r >>= f) (s >>= f)
first r s f h = both r s f f h (λ x. same (f x))

last : {A B : Type 0} (r : Result A Departure) (f g : A → Result B Departure) → ((x : A) → Below (f x) (g x)) → Below (r >>= f) (r >>= g)
last r f g h = both r r f g (same r) h

item_below : (v : Val) (r s : Row) → Below r s → Below (with_item v r) (with_item v s)
item_below v r s h = first r s (λ y. Ok (then_val v y.0, y.1)) h

module _ (go to : Form → List ℕ → Found) (h : (s : Form) (t : List ℕ) → Below (go s t) (to s t)) where
  member_below : (s : Form) (t : List ℕ) → Below (member_at (go s) t) (member_at (to s) t)
  member_below s t =
      either (heads 125 t) (Err (Kind (length t))) (Err (Kind (length t))) (marks (codes ", ") t >>= λ u. go s u) (marks (codes ", ") t >>= λ u. to s u) (same (Err (Kind (length t)))) (last (marks (codes ", ") t) (λ u. go s u) (λ u. to s u) (h s))

  on_below : (ss : Forms) (t : List ℕ) → Below (members_on go ss t) (members_on to ss t)
  on_below no_form t = same (members_end t >>= λ u. Ok (no_val, u))
  on_below (then_form s ss) t =
      both (member_at (go s) t) (member_at (to s) t) (λ x. with_item x.0 (members_on go ss x.1)) (λ x. with_item x.0 (members_on to ss x.1)) (member_below s t)
      (λ x. item_below x.0 (members_on go ss x.1) (members_on to ss x.1) (on_below ss x.1))

  members_below : (ss : Forms) (t : List ℕ) → Below (members_at go ss t) (members_at to ss t)
  members_below no_form t = same (opened 125 t >>= λ u. Ok (no_val, u))
  members_below (then_form s ss) t =
      either (heads 125 t) (Err (Kind (length t))) (Err (Kind (length t))) (go s t >>= λ x. with_item x.0 (members_on go ss x.1)) (to s t >>= λ x. with_item x.0 (members_on to ss x.1)) (same (Err (Kind (length t))))
      (both (go s t) (to s t) (λ x. with_item x.0 (members_on go ss x.1)) (λ x. with_item x.0 (members_on to ss x.1)) (h s t) (λ x. item_below x.0 (members_on go ss x.1) (members_on to ss x.1) (on_below ss x.1)))

  struct_below : (ss : Forms) (t : List ℕ) → Below (struct_at go ss t) (struct_at to ss t)
  struct_below ss t =
      last (opened 123 t) (λ u. in_struct (members_at go ss u)) (λ u. in_struct (members_at to ss u)) (λ u. first (members_at go ss u) (members_at to ss u) (λ x. Ok (VStruct x.0, x.1)) (members_below ss u))

  item_at_below : (s : Form) (may : Bool) (t : List ℕ) → Below (item_at (go s) may t) (item_at (to s) may t)
  item_at_below s may t = last (next_at may t) (λ u. go s u) (λ u. to s u) (h s)

  items_on_below : (n : ℕ) (s : Form) (kind : ArrayKind) (m : ℕ) (t : List ℕ) → Below (items_on n (go s) kind m t) (items_on n (to s) kind m t)
  unfolding items_on
  items_on_below zero s kind m t = same (Err (Syntax (length t)))
  items_on_below (suc n) s kind m t =
      either (heads 93 t) (closed (fits_count kind m) t >>= λ u. Ok (no_val, u)) (closed (fits_count kind m) t >>= λ u. Ok (no_val, u))
      (item_at (go s) (takes kind m) t >>= λ x. with_item x.0 (items_on n (go s) kind (m + 1) x.1)) (item_at (to s) (takes kind m) t >>= λ x. with_item x.0 (items_on n (to s) kind (m + 1) x.1)) (same (closed (fits_count kind m) t >>= λ u. Ok (no_val, u)))
      (both (item_at (go s) (takes kind m) t) (item_at (to s) (takes kind m) t) (λ x. with_item x.0 (items_on n (go s) kind (m + 1) x.1)) (λ x. with_item x.0 (items_on n (to s) kind (m + 1) x.1)) (item_at_below s (takes kind m) t)
      (λ x. item_below x.0 (items_on n (go s) kind (m + 1) x.1) (items_on n (to s) kind (m + 1) x.1) (items_on_below n s kind (m + 1) x.1)))

  items_below : (s : Form) (kind : ArrayKind) (t : List ℕ) → Below (items_at (go s) kind t) (items_at (to s) kind t)
  items_below s kind t =
      let f : Val × List ℕ → Row = λ x. with_item x.0 (items_on (length x.1 + 1) (go s) kind 1 x.1) in
      let g : Val × List ℕ → Row = λ x. with_item x.0 (items_on (length x.1 + 1) (to s) kind 1 x.1) in
      either (heads 93 t) (closed (fits_count kind 0) t >>= λ u. Ok (no_val, u)) (closed (fits_count kind 0) t >>= λ u. Ok (no_val, u)) (if takes kind 0 then (go s t >>= f) else Err (wrong t)) (if takes kind 0 then (to s t >>= g) else Err (wrong t))
      (same (closed (fits_count kind 0) t >>= λ u. Ok (no_val, u)))
      (either (takes kind 0) (go s t >>= f) (to s t >>= g) (Err (wrong t)) (Err (wrong t))
      (both (go s t) (to s t) f g (h s t) (λ x. item_below x.0 (items_on (length x.1 + 1) (go s) kind 1 x.1) (items_on (length x.1 + 1) (to s) kind 1 x.1) (items_on_below (length x.1 + 1) s kind 1 x.1))) (same (Err (wrong t))))

  array_below : (s : Form) (kind : ArrayKind) (t : List ℕ) → Below (array_at (go s) kind t) (array_at (to s) kind t)
  array_below s kind t =
      last (opened 91 t) (λ u. in_array (items_at (go s) kind u)) (λ u. in_array (items_at (to s) kind u)) (λ u. first (items_at (go s) kind u) (items_at (to s) kind u) (λ x. Ok (VArray x.0, x.1)) (items_below s kind u))

  held_below : (tag : ℤ) (s : Form) (t : List ℕ) → Below (held_at tag (go s) t) (held_at tag (to s) t)
  held_below tag s t =
      let f : Val × List ℕ → Found = λ x. mark 41 x.1 >>= λ r. Ok (VUnion tag x.0, r) in
      either (heads 41 t) (Err (Kind (length t))) (Err (Kind (length t))) (marks (codes ": ") t >>= λ u. go s u >>= f) (marks (codes ": ") t >>= λ u. to s u >>= f) (same (Err (Kind (length t))))
      (last (marks (codes ": ") t) (λ u. go s u >>= f) (λ u. to s u >>= f) (λ u. first (go s u) (to s u) f (h s u)))

  arm_below : (o : Option Body) (tag : ℤ) (left : ℕ) (t : List ℕ) → Below (arm_at o tag left go t) (arm_at o tag left to t)
  arm_below None tag left t = λ x e. e
  arm_below (Some empty) tag left t = λ x e. e
  arm_below (Some (holds s)) tag left t = held_below tag s t

  union_below : (s : Form) (t : List ℕ) → Below (union_at go s t) (union_at to s t)
  union_below s t =
      last (opened 40 t) (λ u. number_at u >>= λ x. arm_at (arm_by s x.0) (signed x.0) (length u) go x.1) (λ u. number_at u >>= λ x. arm_at (arm_by s x.0) (signed x.0) (length u) to x.1)
      (λ u. last (number_at u) (λ x. arm_at (arm_by s x.0) (signed x.0) (length u) go x.1) (λ x. arm_at (arm_by s x.0) (signed x.0) (length u) to x.1) (λ x. arm_below (arm_by s x.0) (signed x.0) (length u) x.1))

  type_below : (o : Option Form) (t : List ℕ) → Below (of_type o t (λ s. go s t)) (of_type o t (λ s. to s t))
  type_below None t = λ x e. e
  type_below (Some s) t = h s t

pointer_below : (level : ℕ) (go to : List ℕ → Found) → ((t : List ℕ) → Below (go t) (to t)) → (t : List ℕ) → Below (pointer_at level go t) (pointer_at level to t)
pointer_below level go to h t =
    let f : Val × List ℕ → Found = λ x. Ok (VPtr x.0, x.1) in
    let a : List ℕ → Found = λ u. if nat_lt level 256 then (go u >>= f) else Err (Kind (length t)) in
    let b : List ℕ → Found = λ u. if nat_lt level 256 then (to u >>= f) else Err (Kind (length t)) in
    either (heads 110 t) (marks (codes "null") t >>= λ u. Ok (VNull, u)) (marks (codes "null") t >>= λ u. Ok (VNull, u)) (opened 38 t >>= a) (opened 38 t >>= b) (same (marks (codes "null") t >>= λ u. Ok (VNull, u)))
    (last (opened 38 t) a b (λ u. either (nat_lt level 256) (go u >>= f) (to u >>= f) (Err (Kind (length t))) (Err (Kind (length t))) (first (go u) (to u) f (h u)) (same (Err (Kind (length t))))))

module _ (types : List Form) where
  step_below : (go to : ℕ → Form → List ℕ → Found) → ((level : ℕ) (s : Form) (t : List ℕ) → Below (go level s t) (to level s t)) → (level : ℕ) (s : Form) (t : List ℕ) → Below (read_at types go level s t) (read_at types to level s t)
  step_below go to h level (OfNamed c switch) t = type_below (go level) (to level) (h level) (slice_get types c) t
  step_below go to h level (OfStruct ss) t = struct_below (go level) (to level) (h level) ss t
  step_below go to h level (OfUnion k arms) t = union_below (go level) (to level) (h level) (OfUnion k arms) t
  step_below go to h level (OfArray kind s) t = array_below (go level) (to level) (h level) s kind t
  step_below go to h level (OfRef s) t = h level s t
  step_below go to h level (OfUnique s) t = pointer_below level (go (level + 1) s) (to (level + 1) s) (h (level + 1) s) t
  step_below go to h level OfBool t = λ x e. e
  step_below go to h level OfByte t = λ x e. e
  step_below go to h level OfChar t = λ x e. e
  step_below go to h level (OfInt size) t = λ x e. e
  step_below go to h level (OfUint size) t = λ x e. e
  step_below go to h level (OfEnum count) t = λ x e. e
  step_below go to h level (OfText most) t = λ x e. e
  step_below go to h level (OfFull s) t = λ x e. e
  step_below go to h level (OfHandle kind) t = λ x e. e

  read_fronted : (n level : ℕ) (s : Form) (t : List ℕ) (x : Val × List ℕ) → read types n level s t ≡ Ok x → fronted types n level s t ≡ Ok x
  unfolding read
  read_fronted zero level s t x e = absurd cc
  read_fronted (suc n) level s t x e =
      let b = stands_begins types most_items level s t x.0 x.1 (found types (suc n) level s t x e) in
      front_on types n level s t b ∙ step_below (read types n) (fronted types n) (λ l r u y. read_fronted n l r u y) level s t x e

  is_read : (r : Found) (x : Val × List ℕ) (n e : ℕ) → e ≤ n → Outcome r x n e → r ≡ Ok x
  is_read r x n e le (reads h) = h
  is_read r x n e le (too_deep h lt) = absurd (omega (arith, le, lt))

  -- a value that stands there is read, where as much depth is left
  pub stands_read : (heap level : ℕ) (s : Form) (t : List ℕ) (v : Val) (rest : List ℕ) → Stands types heap level s t v rest → (k : ℕ) × ((n : ℕ) → k ≤ n → fronted types n level s t ≡ Ok (v, rest))
  stands_read heap level s t v rest h =
      let k = suc (inside types heap h.typed) in
      (k, λ n le. read_fronted n level s t (v, rest) (is_read (read types n level s t) (v, rest) n k le (outcome types heap level s t v rest h n)))

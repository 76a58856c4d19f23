-- Readings of octets beside the same readings of their front: they go alike, or the front ends too early.
use Rattle.std.proofs.Common.{◌≡◌, ℕ, ◌+◌, ◌-◌, ◌^◌, ◌<◌, ◌≤◌, Bool, true, false, List, ◌++◌, length, length-append, take, drop, Option, Some, None, Result, Ok, Err, refl, sym, ap, subst, ◌∙◌, arith}
use Rattle.std.specs.Prelude.{nat_lt, position, ◌==◌, if◌then◌else◌, pos}
use Rattle.std.proofs.lemmas.Bool.{ltb-false, le-ltb}
use Rattle.std.proofs.lemmas.List.{drop-append-le, take-append-le, length-drop}
use Rattle.rpc_base.specs.declared.identifiers.Order.{Order}
use Rattle.rpc_base.specs.Fields.{wire_of}
use Rattle.ndr_value.specs.declared.shape.ArrayKind.{ArrayKind}
use Rattle.ndr_value.specs.declared.shape.ArrayKind.TheVariants.{Fixed, Varying, Conformant, ConformantVarying}
use Rattle.ndr_value.specs.Forms.{Form, OfBool, OfChar, OfInt, OfUint, OfEnum, OfStruct, Forms, Body, ArmForms}
use Rattle.ndr_value.specs.Fits.{selected}
use Rattle.ndr_table.specs.Sound.{is_tag}
use Rattle.ndr_scalars.specs.Scalars.{up, octets_of, number_in, number_at}
use Rattle.ndr_arrays.specs.declared.counts.Counts.{Counts}
use Rattle.ndr_arrays.specs.declared.counts.CountFault.{CountFault}
use Rattle.ndr_arrays.specs.declared.counts.CountFault.TheVariants as counting
use Rattle.ndr_arrays.specs.declared.texts.TextFault.{TextFault}
use Rattle.ndr_arrays.specs.declared.texts.TextFault.TheVariants as texts
use Rattle.ndr_arrays.specs.Bind.{◌>>=◌}
use Rattle.ndr_arrays.specs.Counted.{counts, or_short, word_at, most_at, within_most, actual_at, counts_at}
use Rattle.ndr_arrays.specs.Texts.{in_text, before_nul, cells_at, limit_at, counted_at}
use Rattle.ndr_model.specs.declared.departure.Departure.{Departure}
use Rattle.ndr_model.specs.declared.departure.Departure.TheVariants.{Short, Bound, Tag, Pointer, Text, TooDeep, Trailing}
use Rattle.ndr_model.specs.Part.{opens_with, in_place}
use Rattle.ndr_model.specs.Reading.{unless_short, of_counts, of_text, unnamed, number, name_at, wire_at, chars_at, array_at, tag_at, opened_at, struct_at}
use Rattle.ndr_arrays.proofs.Steps.{bind_ok, unless_ok, when_ok, ok_is}
use Rattle.ndr_scalars.proofs.Laws.{number_stands}
use Rattle.ndr_model.proofs.Pieces.{number_is}

-- a departure at a number that stands before index k
abbrev pub Before : ℕ → Departure → Type 0
Before k (Short n) = ⊥
Before k (Bound i) = i < k
Before k (Tag i) = i < k
Before k (Pointer i) = i < k
Before k (Text i) = i < k
Before k (TooDeep i) = i < k
Before k (Trailing n) = ⊥

-- the second reading is of the front, which has k octets
pub data Cut (k : ℕ) {A : Type 0} : Result A Departure → Result A Departure → Type 0 where
  ended : {r : Result A Departure} → Cut k r (Err (Short k))
  alike : {x : A} → Cut k (Ok x) (Ok x)
  departed : {d : Departure} → Before k d → Cut k (Err d) (Err d)

pub bind_cut : {k : ℕ} {A B : Type 0} {r r' : Result A Departure} {f f' : A → Result B Departure} → Cut k r r' → ((x : A) → r' ≡ Ok x → Cut k (f x) (f' x)) → Cut k (r >>= f) (r' >>= f')
bind_cut ended h = ended
bind_cut (alike {x = x}) h = h x refl
bind_cut (departed b) h = departed b

-- where the front has enough
pub unless_cut : {k : ℕ} {A : Type 0} (a b : Bool) (n : ℕ) (x y : A) → (b ≡ false → (a ≡ false) × (x ≡ y)) → Cut k (if a then Err (Short n) else Ok x) (if b then Err (Short k) else Ok y)
unless_cut a true n x y h = ended
unless_cut {k} {A} a false n x y h =
    let g = h refl in
    subst (λ (c : Bool). Cut k (if c then Err (Short n) else Ok x) (Ok y)) (sym g.0) (subst (λ (z : A). Cut k (Ok x) (Ok z)) g.1 alike)

when_cut : {k : ℕ} {A : Type 0} (b : Bool) (x : A) (d : Departure) → Before k d → Cut k (if b then Ok x else Err d) (if b then Ok x else Err d)
when_cut true x d h = alike
when_cut false x d h = departed h

-- sizes are of one octet at least
octets_some : (size : ℕ) → 1 ≤ octets_of size
octets_some size = first (size == 1)
  where
    third : (b : Bool) → 1 ≤ (if b then 4 else 8)
    third true = omega arith
    third false = omega arith

    second : (b : Bool) → 1 ≤ (if b then 2 else (if size == 4 then 4 else 8))
    second true = omega arith
    second false = third (size == 4)

    first : (b : Bool) → 1 ≤ (if b then 1 else (if size == 2 then 2 else (if size == 4 then 4 else 8)))
    first true = omega arith
    first false = second (size == 2)

pub some_octets : (size i k : ℕ) → i + octets_of size ≤ k → i < k
some_octets size i k le = let one = octets_some size in omega (arith, le, one)

unnamed_before : (k : ℕ) (arm : Option Body) (i : ℕ) → i < k → Before k (unnamed arm i)
unnamed_before k None i lt = lt
unnamed_before k (Some arm) i lt = lt

-- octets of the front
same_octets : (i n : ℕ) (front more : List ℕ) → i + n ≤ length front → take n (drop i (front ++ more)) ≡ take n (drop i front)
same_octets i n front more le =
    ap (take n) (drop-append-le i front more (omega (arith, le))) ∙ take-append-le n (drop i front) more (omega (arith, le, length-drop i front))

-- what is too long for the whole is too long for its front
longer : (e : ℕ) (front more : List ℕ) → nat_lt (length front) e ≡ false → nat_lt (length (front ++ more)) e ≡ false
longer e front more is = let le = ltb-false _ _ is in le-ltb _ _ (omega (arith, le, length-append front more))

or_short_cut : {k : ℕ} {A : Type 0} (a b : Bool) (n : ℕ) (x y : A) → (b ≡ false → (a ≡ false) × (x ≡ y)) → Cut k (unless_short n (if a then None else Some x)) (unless_short k (if b then None else Some y))
or_short_cut a true n x y h = ended
or_short_cut {k} {A} a false n x y h =
    let g = h refl in
    subst (λ (c : Bool). Cut k (unless_short n (if c then None else Some x)) (Ok y)) (sym g.0) (subst (λ (z : A). Cut k (Ok x) (Ok z)) g.1 alike)

short_ok : {A : Type 0} (n : ℕ) (o : Option A) (x : A) → or_short n o ≡ Ok x → o ≡ Some x
short_ok n None x e = absurd cc
short_ok n (Some y) x e = cc

in_text_ok : {A : Type 0} (r : Result A CountFault) (x : A) → in_text r ≡ Ok x → r ≡ Ok x
in_text_ok (Ok y) x e = cc
in_text_ok (Err (counting.Short n)) x e = absurd cc
in_text_ok (Err (counting.Bound i)) x e = absurd cc

-- counts and texts have faults of their own
pub data CutCount (k : ℕ) {A : Type 0} : Result A CountFault → Result A CountFault → Type 0 where
  count_ended : {r : Result A CountFault} → CutCount k r (Err (counting.Short k))
  count_alike : {x : A} → CutCount k (Ok x) (Ok x)
  count_off : {i : ℕ} → i < k → CutCount k (Err (counting.Bound i)) (Err (counting.Bound i))

bind_count : {k : ℕ} {A B : Type 0} {r r' : Result A CountFault} {f f' : A → Result B CountFault} → CutCount k r r' → ((x : A) → r' ≡ Ok x → CutCount k (f x) (f' x)) → CutCount k (r >>= f) (r' >>= f')
bind_count count_ended h = count_ended
bind_count (count_alike {x = x}) h = h x refl
bind_count (count_off lt) h = count_off lt

of_counts_cut : {k : ℕ} {A : Type 0} {r r' : Result A CountFault} → CutCount k r r' → Cut k (of_counts r) (of_counts r')
of_counts_cut count_ended = ended
of_counts_cut count_alike = alike
of_counts_cut (count_off lt) = departed lt

count_short : {k : ℕ} {A : Type 0} (a b : Bool) (n : ℕ) (x y : A) → (b ≡ false → (a ≡ false) × (x ≡ y)) → CutCount k (or_short n (if a then None else Some x)) (or_short k (if b then None else Some y))
count_short a true n x y h = count_ended
count_short {k} {A} a false n x y h =
    let g = h refl in
    subst (λ (c : Bool). CutCount k (or_short n (if c then None else Some x)) (Ok y)) (sym g.0) (subst (λ (z : A). CutCount k (Ok x) (Ok z)) g.1 count_alike)

count_when : {k : ℕ} {A : Type 0} (b : Bool) (r r' : Result A CountFault) (i : ℕ) → i < k → CutCount k r r' → CutCount k (if b then r else Err (counting.Bound i)) (if b then r' else Err (counting.Bound i))
count_when true r r' i lt c = c
count_when false r r' i lt c = count_off lt

count_unless : {k : ℕ} {A : Type 0} (b : Bool) (x : A) (i : ℕ) → i < k → CutCount k (if b then Err (counting.Bound i) else Ok x) (if b then Err (counting.Bound i) else Ok x)
count_unless true x i lt = count_off lt
count_unless false x i lt = count_alike

pub data CutText (k : ℕ) {A : Type 0} : Result A TextFault → Result A TextFault → Type 0 where
  text_ended : {r : Result A TextFault} → CutText k r (Err (texts.Short k))
  text_alike : {x : A} → CutText k (Ok x) (Ok x)
  text_bound : {i : ℕ} → i < k → CutText k (Err (texts.Bound i)) (Err (texts.Bound i))
  text_off : {i : ℕ} → i < k → CutText k (Err (texts.Text i)) (Err (texts.Text i))

bind_text : {k : ℕ} {A B : Type 0} {r r' : Result A TextFault} {f f' : A → Result B TextFault} → CutText k r r' → ((x : A) → r' ≡ Ok x → CutText k (f x) (f' x)) → CutText k (r >>= f) (r' >>= f')
bind_text text_ended h = text_ended
bind_text (text_alike {x = x}) h = h x refl
bind_text (text_bound lt) h = text_bound lt
bind_text (text_off lt) h = text_off lt

of_text_cut : {k : ℕ} {A : Type 0} {r r' : Result A TextFault} → CutText k r r' → Cut k (of_text r) (of_text r')
of_text_cut text_ended = ended
of_text_cut text_alike = alike
of_text_cut (text_bound lt) = departed lt
of_text_cut (text_off lt) = departed lt

in_text_cut : {k : ℕ} {A : Type 0} {r r' : Result A CountFault} → CutCount k r r' → CutText k (in_text r) (in_text r')
in_text_cut count_ended = text_ended
in_text_cut count_alike = text_alike
in_text_cut (count_off lt) = text_bound lt

text_unless : {k : ℕ} {A : Type 0} (a b : Bool) (n : ℕ) (x y : A) → (b ≡ false → (a ≡ false) × (x ≡ y)) → CutText k (if a then Err (texts.Short n) else Ok x) (if b then Err (texts.Short k) else Ok y)
text_unless a true n x y h = text_ended
text_unless {k} {A} a false n x y h =
    let g = h refl in
    subst (λ (c : Bool). CutText k (if c then Err (texts.Short n) else Ok x) (Ok y)) (sym g.0) (subst (λ (z : A). CutText k (Ok x) (Ok z)) g.1 text_alike)

nul_cut : {k : ℕ} (cells : List ℕ) (i : ℕ) (o : Option ℕ) → i < k → CutText k (before_nul cells i o) (before_nul cells i o)
nul_cut cells i None lt = text_off lt
nul_cut cells i (Some n) lt = text_alike

module _ (order : Order) (front more : List ℕ) where
  abbrev k : ℕ
  k = length front

  abbrev octets : List ℕ
  octets = front ++ more

  -- the number in octets that was looked for from index i on, and the index behind it
  abbrev pair_in : ℕ → ℕ → List ℕ → ℕ × ℕ
  pair_in size i cells = (number_in order size cells, up i (octets_of size) + octets_of size)

  number_front : (size i : ℕ) → nat_lt k (up i (octets_of size) + octets_of size) ≡ false
      → (nat_lt (length octets) (up i (octets_of size) + octets_of size) ≡ false)
      × (pair_in size i (take (octets_of size) (drop (up i (octets_of size)) octets)) ≡ pair_in size i (take (octets_of size) (drop (up i (octets_of size)) front)))
  number_front size i is =
      (longer (up i (octets_of size) + octets_of size) front more is, ap (pair_in size i) (same_octets (up i (octets_of size)) (octets_of size) front more (ltb-false _ _ is)))

  pub number_cut : (size i : ℕ) → Cut k (number order octets size i) (number order front size i)
  unfolding number_at
  number_cut size i =
      or_short_cut (nat_lt (length octets) (up i (octets_of size) + octets_of size)) (nat_lt k (up i (octets_of size) + octets_of size)) (length octets) (pair_in size i (take (octets_of size) (drop (up i (octets_of size)) octets)))
      (pair_in size i (take (octets_of size) (drop (up i (octets_of size)) front))) (number_front size i)

  word_cut : (i : ℕ) → CutCount k (word_at order octets i) (word_at order front i)
  unfolding number_at
  word_cut i =
      count_short (nat_lt (length octets) (up i 4 + 4)) (nat_lt k (up i 4 + 4)) (length octets) (pair_in 4 i (take 4 (drop (up i 4) octets))) (pair_in 4 i (take 4 (drop (up i 4) front))) (number_front 4 i)

  -- where a number of the front stands
  pub number_in_front : (size i : ℕ) (x : ℕ × ℕ) → number order front size i ≡ Ok x → up i (octets_of size) + octets_of size ≤ k
  number_in_front size i x e = let s = number_is order front size i x e in omega (arith, s.ends, s.within)

  pub pointer_in_front : (i : ℕ) (x : ℕ × ℕ) → number order front 4 i ≡ Ok x → up i 4 < k
  pointer_in_front i x e = let le = number_in_front 4 i x e in omega (arith, le)

  word_in_front : (i : ℕ) (x : ℕ × ℕ) → word_at order front i ≡ Ok x → (up i 4 + 4 ≤ k) × (x.1 ≡ up i 4 + 4)
  word_in_front i x e = let s = number_stands order 4 front i x (short_ok k (number_at order 4 front i) x e) in (omega (arith, s.ends, s.within), s.ends)

  pub name_cut : (count i : ℕ) → Cut k (name_at order octets count i) (name_at order front count i)
  name_cut count i =
      bind_cut (number_cut 2 i) (λ x e. when_cut (nat_lt x.0 count) x (Text (up i 2)) (let le = number_in_front 2 i x e in omega (arith, le)))

  pub wire_cut : (i : ℕ) → Cut k (wire_at order octets i) (wire_at order front i)
  wire_cut i =
      unless_cut (nat_lt (length octets) (up i 4 + 20)) (nat_lt k (up i 4 + 20)) (length octets) (wire_of order (take 20 (drop (up i 4) octets)), up i 4 + 20) (wire_of order (take 20 (drop (up i 4) front)), up i 4 + 20)
      (λ is. (longer (up i 4 + 20) front more is, ap (λ (cells : List ℕ). (wire_of order cells, up i 4 + 20)) (same_octets (up i 4) 20 front more (ltb-false _ _ is))))

  most_cut : (moved : Option ℕ) (i : ℕ) → CutCount k (most_at order octets moved i) (most_at order front moved i)
  most_cut None i = word_cut i
  most_cut (Some most) i = count_alike

  actual_cut : (most i : ℕ) → CutCount k (actual_at order octets most i) (actual_at order front most i)
  actual_cut most i =
      bind_count (word_cut i) (λ x e. count_when (x.0 == 0) (within_most order octets most x.1) (within_most order front most x.1) (up i 4) (let w = (word_in_front i x e).0 in omega (arith, w))
      (bind_count (word_cut x.1) (λ y f. count_unless (nat_lt most y.0) (counts most y.0, y.1) (up x.1 4) (let w = (word_in_front x.1 y f).0 in omega (arith, w)))))

  kinds_cut : (kind : ArrayKind) (moved : Option ℕ) (i : ℕ) → CutCount k (counts_at order octets kind moved i) (counts_at order front kind moved i)
  kinds_cut (Fixed n) moved i = count_alike
  kinds_cut (Varying n c) moved i = actual_cut n i
  kinds_cut (Conformant c) moved i = bind_count (most_cut moved i) (λ x e. count_alike)
  kinds_cut (ConformantVarying c d) moved i = bind_count (most_cut moved i) (λ x e. actual_cut x.0 x.1)

  pub array_cut : (kind : ArrayKind) (moved : Option ℕ) (i : ℕ) → Cut k (array_at order octets kind moved i) (array_at order front kind moved i)
  array_cut kind moved i = of_counts_cut (kinds_cut kind moved i)

  limit_cut : (size moved : Option ℕ) (i : ℕ) → CutCount k (limit_at order octets size moved i) (limit_at order front size moved i)
  limit_cut (Some most) moved i = count_alike
  limit_cut None moved i = most_cut moved i

  counted_cut : (size moved : Option ℕ) (i : ℕ) → CutCount k (counted_at order octets size moved i) (counted_at order front size moved i)
  counted_cut size moved i = bind_count (limit_cut size moved i) (λ x e. actual_cut x.0 x.1)

  -- the actual_count of a text of the front
  actual_in_front : (most i : ℕ) (x : Counts × ℕ) → actual_at order front most i ≡ Ok x → x.1 - 4 < k
  actual_in_front most i x e =
      let a = bind_ok (word_at order front i) (λ y. (if y.0 == 0 then within_most order front most y.1 else Err (counting.Bound (up i 4)))) x e in
      let w = when_ok (a.0.0 == 0) (counting.Bound (up i 4)) (within_most order front most a.0.1) x a.2 in
      let b = bind_ok (word_at order front a.0.1) (λ y. (if nat_lt most y.0 then Err (counting.Bound (up a.0.1 4)) else Ok (counts most y.0, y.1))) x w.1 in
      let u = unless_ok (nat_lt most b.0.0) (counting.Bound (up a.0.1 4)) (Ok (counts most b.0.0, b.0.1)) x b.2 in
      let f = word_in_front a.0.1 b.0 b.1 in
      subst (λ (y : Counts × ℕ). y.1 - 4 < k) (ok_is CountFault (counts most b.0.0, b.0.1) x u.1) (omega (arith, f.0, f.1))

  counted_in_front : (size moved : Option ℕ) (i : ℕ) (x : Counts × ℕ) → in_text (counted_at order front size moved i) ≡ Ok x → x.1 - 4 < k
  counted_in_front size moved i x e =
      let l = bind_ok (limit_at order front size moved i) (λ y. actual_at order front y.0 y.1) x (in_text_ok (counted_at order front size moved i) x e) in
      actual_in_front l.0.0 l.0.1 x l.2

  cells_cut : (i n : ℕ) → CutText k (cells_at octets i n) (cells_at front i n)
  cells_cut i n =
      text_unless (nat_lt (length octets) (i + n)) (nat_lt k (i + n)) (length octets) (take n (drop i octets), i + n) (take n (drop i front), i + n)
      (λ is. (longer (i + n) front more is, ap (λ (cells : List ℕ). (cells, i + n)) (same_octets i n front more (ltb-false _ _ is))))

  pub chars_cut : (size moved : Option ℕ) (i : ℕ) → Cut k (chars_at order octets size moved i) (chars_at order front size moved i)
  chars_cut size moved i =
      of_text_cut (bind_text (in_text_cut (counted_cut size moved i)) (λ x e. bind_text (cells_cut x.1 x.0.actual) (λ y f.
      bind_text (nul_cut y.0 (x.1 - 4) (position (λ c. c == 0) y.0) (counted_in_front size moved i x e)) (λ text g. text_alike))))

  pub tag_cut : (t : Form) (arms : ArmForms) (i : ℕ) → is_tag t ≡ true → Cut k (tag_at order octets t arms i) (tag_at order front t arms i)
  tag_cut OfBool arms i is = bind_cut (number_cut 1 i) (λ x e. alike)
  tag_cut OfChar arms i is = bind_cut (number_cut 1 i) (λ x e. alike)
  tag_cut (OfInt size) arms i is = bind_cut (number_cut size i) (λ x e. alike)
  tag_cut (OfUint size) arms i is =
      bind_cut (number_cut size i) (λ x e. when_cut (nat_lt x.0 (2 ^ 63)) (pos x.0, x.1) (Tag (up i (octets_of size))) (some_octets size (up i (octets_of size)) k (number_in_front size i x e)))
  tag_cut (OfEnum count) arms i is =
      bind_cut (number_cut 2 i) (λ x e. when_cut (nat_lt x.0 count) (pos x.0, x.1) (unnamed (selected arms (pos x.0)) (up i 2)) (unnamed_before k (selected arms (pos x.0)) (up i 2) (some_octets 2 (up i 2) k (number_in_front 2 i x e))))
  tag_cut _ arms i is = absurd cc

  abbrev unopened : ℕ → Result (Option ℕ × ℕ) Departure
  unopened i = Ok (None, i)

  opened_by : (b : Bool) (i : ℕ) → Cut k (if b then (number order octets 4 i >>= λ x. Ok (Some x.0, x.1)) else unopened i) (if b then (number order front 4 i >>= λ x. Ok (Some x.0, x.1)) else unopened i)
  opened_by true i = bind_cut (number_cut 4 i) (λ x e. alike)
  opened_by false i = alike

  opened_cut : (types : List Form) (ss : Forms) (moved : Option ℕ) (i : ℕ) → Cut k (opened_at order octets types ss moved i) (opened_at order front types ss moved i)
  opened_cut types ss (Some most) i = alike
  opened_cut types ss None i = opened_by (opens_with types ss) i

  pub struct_cut : (types : List Form) (ss : Forms) (moved : Option ℕ) (i : ℕ) → Cut k (struct_at order octets types ss moved i) (struct_at order front types ss moved i)
  struct_cut types ss moved i =
      bind_cut (opened_cut types ss moved i) (λ x e. let j = in_place types (OfStruct ss) x.1 in
      unless_cut (nat_lt (length octets) j) (nat_lt k j) (length octets) (x.0, j) (x.0, j) (λ is. (longer j front more is, refl)))

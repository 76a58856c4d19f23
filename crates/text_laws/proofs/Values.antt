-- Values that suit shapes of a table are of these shapes, and have no handle in them.
use Rattle.std.proofs.Common.{◌≡◌, ℕ, zero, suc, ◌+◌, ◌<◌, ◌≤◌, ◌^◌, Bool, true, false, List, [], ◌∷◌, length, Option, Some, None, ℤ, refl, sym, ap, subst, ◌∙◌, arith}
use Rattle.std.specs.Prelude.{◌&&◌, ◌||◌, ◌==◌, slice_get}
use Rattle.std.specs.List.{list_all}
use Rattle.std.proofs.lemmas.Bool.{and_parts, lt-ltb, le-leb}
use Rattle.std.proofs.lemmas.Bool.Decides.{nat_tests}
use Rattle.ndr_value.specs.declared.shape.Count.{Count}
use Rattle.ndr_value.specs.declared.shape.ArrayKind.{ArrayKind}
use Rattle.ndr_value.specs.Forms.{Form, Forms, Body, ArmForms, no_arm, then_arm, empty, holds}
use Rattle.ndr_value.specs.Values.{Val, Vals}
use Rattle.ndr_value.specs.Fits.{limit, fits_int, fits_count, fits_text}
use Rattle.ndr_value.specs.Typed.{Typed, EachTyped, AllTyped, a_bool, a_byte, a_char, an_int, a_uint, an_enum, a_name, a_struct, an_empty_arm, an_arm, an_array, a_text, a_ref, a_null, a_pointer, a_null_full, a_full, no_more, one_more, none_left, one_of}
use Rattle.ndr_table.specs.Ordered.{is_size, is_below, each_below, arms_below, body_below, is_body, ordered_from, ordered}
use Rattle.ndr_table.specs.Sound.{has_member, has_element, is_tag, is_sound, each_sound, arms_sound, body_sound}
use Rattle.ndr_laws.proofs.Grounded.{HasBody, EachArm, arm_has}
use Rattle.ndr_model.specs.Named.{Call, nth}
use Rattle.ndr_model.specs.Fits.{Seen, Holds, HoldsInt, SuitsText, SuitsCounts, counts_fixed, counts_varying, counts_conformant, counts_both, Suits, suits_bool, suits_byte, suits_char, suits_int, suits_uint, suits_enum, suits_handle, suits_text, suits_name, suits_struct, suits_empty_arm, suits_arm, suits_array, suits_ref, suits_null, suits_unique, suits_null_full, suits_new, suits_repeat, SuitEach, no_member, then_member, SuitAll, no_element, then_element}
use Rattle.value_text.specs.Texts.{Sized, AllSized}
use Rattle.client_texts.proofs.Slots.{Below, AllBelow}

-- ---- numbers, texts and counts

data IsSize : ℕ → Type 0 where
  is_1 : IsSize 1
  is_2 : IsSize 2
  is_4 : IsSize 4
  is_8 : IsSize 8

pub same_number : (m n : ℕ) → (m == n) ≡ true → m ≡ n
same_number m n h = grind (arith, nat_tests)

size_by : (n : ℕ) (a b c d : Bool) → (n == 1) ≡ a → (n == 2) ≡ b → (n == 4) ≡ c → (n == 8) ≡ d → (a || (b || (c || d))) ≡ true → IsSize n
size_by n true b c d e f g i h = subst IsSize (sym (same_number n 1 e)) is_1
size_by n false true c d e f g i h = subst IsSize (sym (same_number n 2 f)) is_2
size_by n false false true d e f g i h = subst IsSize (sym (same_number n 4 g)) is_4
size_by n false false false true e f g i h = subst IsSize (sym (same_number n 8 i)) is_8
size_by n false false false false e f g i h = absurd cc

size_of : (n : ℕ) → is_size n ≡ true → IsSize n
size_of n h = size_by n (n == 1) (n == 2) (n == 4) (n == 8) refl refl refl refl h

int_by : (n : ℕ) (z : ℤ) → IsSize n → HoldsInt n z → fits_int n z ≡ true
int_by n z is_1 h = h
int_by n z is_2 h = h
int_by n z is_4 h = h
int_by n z is_8 h = h

uint_by : (n m : ℕ) → IsSize n → Holds n m → m < limit n
uint_by n m is_1 h = h
uint_by n m is_2 h = h
uint_by n m is_4 h = h
uint_by n m is_8 h = h

text_fits : (size : Option ℕ) (text : List ℕ) → SuitsText size text → fits_text size (length text) ≡ true
text_fits None text s = lt-ltb (length text + 1) (2 ^ 32) s.small
text_fits (Some n) text s = le-leb (length text + 1) n (s.room n refl)

itself : (n : ℕ) → (n == n) ≡ true
itself n = grind (arith, nat_tests)

counts_fit : {call : Call} {body : Vals} {kind : ArrayKind} {n : ℕ} → SuitsCounts call body kind n → fits_count kind n ≡ true
counts_fit (counts_fixed {n = n}) = itself n
counts_fit (counts_varying {n = n} {m = m} lt le is) = le-leb m n le
counts_fit (counts_conformant {m = m} lt is) = lt-ltb m (2 ^ 32) lt
counts_fit (counts_both {most = most} {m = m} lt le is so) = lt-ltb m (2 ^ 32) (omega (arith, lt, le))

-- ---- what a table says of its types, and of the arms of unions

pub all_at : {A : Type 0} (f : A → Bool) (xs : List A) (n : ℕ) (x : A) → list_all f xs ≡ true → slice_get xs n ≡ Some x → f x ≡ true
all_at f [] n x h e = absurd cc
all_at f (y ∷ ys) zero x h e = let p = and_parts (f y) (list_all f ys) h in let q : y ≡ x = cc in ap f (sym q) ∙ p.0
all_at f (y ∷ ys) (suc n) x h e = all_at f ys n x (and_parts (f y) (list_all f ys) h).1 e

pub type_below : (number far : ℕ) (types : List Form) (c : ℕ) (s : Form) → ordered_from number far types ≡ true → slice_get types c ≡ Some s → (near : ℕ) × (is_below near far s ≡ true)
type_below number far [] c s h e = absurd cc
type_below number far (x ∷ xs) zero s h e =
    let p = and_parts (is_body x) (is_below number far x && ordered_from (number + 1) far xs) h in
    let q = and_parts (is_below number far x) (ordered_from (number + 1) far xs) p.1 in
    let same : x ≡ s = cc in
    (number, subst (λ (y : Form). is_below number far y ≡ true) same q.0)
type_below number far (x ∷ xs) (suc c) s h e =
    let p = and_parts (is_body x) (is_below number far x && ordered_from (number + 1) far xs) h in
    let q = and_parts (is_below number far x) (ordered_from (number + 1) far xs) p.1 in
    type_below (number + 1) far xs c s q.1 e

abbrev pub Sound : Form → Type 0
Sound s = is_sound s ≡ true

body_has : (b : Body) → body_sound b ≡ true → HasBody Sound b
body_has empty h = tt
body_has (holds s) h = h

pub arms_have : (arms : ArmForms) → arms_sound arms ≡ true → EachArm Sound arms
arms_have no_arm h = tt
arms_have (then_arm cases default b rest) h = let p = and_parts (body_sound b) (arms_sound rest) h in (body_has b p.0, arms_have rest p.1)

module _ (near far : ℕ) where
  abbrev pub Ahead : Form → Type 0
  Ahead s = is_below near far s ≡ true

  body_ahead : (b : Body) → body_below near far b ≡ true → HasBody Ahead b
  body_ahead empty h = tt
  body_ahead (holds s) h = h

  pub arms_ahead : (arms : ArmForms) → arms_below near far arms ≡ true → EachArm Ahead arms
  arms_ahead no_arm h = tt
  arms_ahead (then_arm cases default b rest) h = let p = and_parts (body_below near far b) (arms_below near far rest) h in (body_ahead b p.0, arms_ahead rest p.1)

-- ---- values

-- a value is of its shape, no handle is in it, and none was seen in it
pub record Fine (types : List Form) (level : ℕ) (s : Form) (v : Val) (p p' q q' : Seen) : Type 0 where
  pub typed : Typed types (2 ^ 32) level s v
  pub free : Below 0 v
  pub flat : p'.wires ≡ p.wires
  pub behind : q'.wires ≡ q.wires

record FineEach (types : List Form) (level : ℕ) (ss : Forms) (vs : Vals) (p p' q q' : Seen) : Type 0 where
  pub typed : EachTyped types (2 ^ 32) level ss vs
  pub free : AllBelow 0 vs
  pub flat : p'.wires ≡ p.wires
  pub behind : q'.wires ≡ q.wires

record FineAll (types : List Form) (level : ℕ) (s : Form) (vs : Vals) (p p' q q' : Seen) : Type 0 where
  pub typed : AllTyped types (2 ^ 32) level s vs
  pub free : AllBelow 0 vs
  pub flat : p'.wires ≡ p.wires
  pub behind : q'.wires ≡ q.wires

here : {types : List Form} {level : ℕ} {s : Form} {v : Val} (p q : Seen) → Typed types (2 ^ 32) level s v → Below 0 v → Fine types level s v p p q q
here p q t b = record { typed = t; free = b; flat = refl; behind = refl }

module _ {types : List Form} {call : Call} (sound : list_all is_sound types ≡ true) (order : ordered types ≡ true) (items : (n : ℕ) (v : Val) → nth call.said.heap n ≡ Some v → Sized v) where
  mutual
    unfolding Sized

    pub fine : {room : ℕ} {body : Vals} {link : Option Count} {s : Form} {v : Val} {p p' q q' : Seen} (near level : ℕ) → is_sound s ≡ true → is_below near (length types) s ≡ true → Sized v → level + room ≤ 256
        → Suits types call room body link s v p p' q q' → Fine types level s v p p' q q'
    fine near level h b z r (suits_bool {p = p} {q = q}) = here p q a_bool tt
    fine near level h b z r (suits_byte {p = p} {q = q} x) = here p q a_byte tt
    fine near level h b z r (suits_char {p = p} {q = q} x) = here p q a_char tt
    fine near level h b z r (suits_int {size = size} {z = i} {p = p} {q = q} x) = here p q (an_int (int_by size i (size_of size b) x)) tt
    fine near level h b z r (suits_uint {size = size} {n = n} {p = p} {q = q} x) = here p q (a_uint (uint_by size n (size_of size b) x)) tt
    fine near level h b z r (suits_enum {p = p} {q = q} x y) = here p q (an_enum y) tt
    fine near level h b z r (suits_handle x) = absurd cc
    fine near level h b z r (suits_text {size = size} {text = text} {p = p} {q = q} x) = here p q (a_text (text_fits size text x) x.no_nul) tt
    fine near level h b z r (suits_name {c = c} {s = s} is x) =
        let t = type_below 0 (length types) types c s order is in
        let f = fine t.0 level (all_at is_sound types c s sound is) t.1 z r x in
        record { typed = a_name is f.typed; free = f.free; flat = f.flat; behind = f.behind }
    fine near level h b z r (suits_struct {ss = ss} x) =
        let f = fine_each near level (and_parts (has_member ss) (each_sound ss) h).1 b z r x in
        record { typed = a_struct f.typed; free = f.free; flat = f.flat; behind = f.behind }
    fine near level h b z r (suits_empty_arm {p = p} {q = q} x y is) = here p q (an_empty_arm is) tt
    fine near level h b z r (suits_arm {t = t} {s = s} {arms = arms} {tag = tag} x y is w) =
        let hs = arm_has Sound s t arms tag is (arms_have arms (and_parts (is_tag t && is_sound t) (arms_sound arms) h).1) in
        let bs = arm_has (Ahead near (length types)) s t arms tag is (arms_ahead near (length types) arms (and_parts (is_below near (length types) t) (arms_below near (length types) arms) b).1) in
        let f = fine near level hs bs z.1 r w in
        record { typed = an_arm is f.typed; free = f.free; flat = f.flat; behind = f.behind }
    fine near level h b z r (suits_array {kind = kind} {s = s} c x) =
        let f = fine_all near level (and_parts (has_element kind) (is_sound s) h).1 b z r x in
        record { typed = an_array (counts_fit c) f.typed; free = f.free; flat = f.flat; behind = f.behind }
    fine near level h b z r (suits_ref {room = room} x) =
        let f = fine {room = room} (length types) level h b z (omega (arith, r)) x in
        record { typed = a_ref f.typed; free = f.free; flat = refl; behind = f.behind ∙ f.flat }
    fine near level h b z r (suits_null {p = p} {q = q}) = here p q a_null tt
    fine near level h b z r (suits_unique {room = room} x) =
        let f = fine {room = room} (length types) (suc level) h b z (omega (arith, r)) x in
        record { typed = a_pointer (omega (arith, r)) f.typed; free = f.free; flat = refl; behind = f.behind ∙ f.flat }
    fine near level h b z r (suits_null_full {p = p} {q = q}) = here p q a_null_full tt
    fine near level h b z r (suits_new {room = room} {v = v} {p = p} is x) =
        let f = fine {room = room} (length types) 0 h b (items (length p.shapes) v is) (omega (arith, r)) x in
        record { typed = a_full z; free = tt; flat = refl; behind = f.behind ∙ f.flat }
    fine near level h b z r (suits_repeat {p = p} {q = q} is same) = here p q (a_full z) tt

    fine_each : {room : ℕ} {body : Vals} {ss : Forms} {vs : Vals} {p p' q q' : Seen} (near level : ℕ) → each_sound ss ≡ true → each_below near (length types) ss ≡ true → AllSized vs → level + room ≤ 256
        → SuitEach types call room body ss vs p p' q q' → FineEach types level ss vs p p' q q'
    fine_each near level h b z r no_member = record { typed = no_more; free = tt; flat = refl; behind = refl }
    fine_each near level h b z r (then_member {s = s} {ss = ss} x xs) =
        let c = and_parts (is_sound s) (each_sound ss) h in
        let d = and_parts (is_below near (length types) s) (each_below near (length types) ss) b in
        let f = fine near level c.0 d.0 z.0 r x in
        let g = fine_each near level c.1 d.1 z.1 r xs in
        record { typed = one_more f.typed g.typed; free = (f.free, g.free); flat = g.flat ∙ f.flat; behind = g.behind ∙ f.behind }

    fine_all : {room : ℕ} {body : Vals} {s : Form} {vs : Vals} {p p' q q' : Seen} (near level : ℕ) → is_sound s ≡ true → is_below near (length types) s ≡ true → AllSized vs → level + room ≤ 256
        → SuitAll types call room body s vs p p' q q' → FineAll types level s vs p p' q q'
    fine_all near level h b z r no_element = record { typed = none_left; free = tt; flat = refl; behind = refl }
    fine_all near level h b z r (then_element x xs) =
        let f = fine near level h b z.0 r x in
        let g = fine_all near level h b z.1 r xs in
        record { typed = one_of f.typed g.typed; free = (f.free, g.free); flat = g.flat ∙ f.flat; behind = g.behind ∙ f.behind }

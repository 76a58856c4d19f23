-- A field that is read is the field that stands there, and a field that stands there is read.
use Rattle.std.proofs.Common.{◌≡◌, ℕ, zero, suc, ◌^◌, ◌<◌, ◌≤◌, Bool, true, false, cond, ltb, List, [], ◌∷◌, ◌++◌, length, take, drop, Option, Some, None, refl, sym, ap, subst, ◌∙◌, append_assoc, arith}
use Rattle.std.specs.Int.{w16, w32}
use Rattle.std.specs.List.{flat_map, AllByRecursion}
use Rattle.std.proofs.lemmas.Bool.{ltb-false, le-ltb}
use Rattle.std.proofs.lemmas.List.{take_at, drop_at, take-append-drop, length-append, length-take}
use Rattle.rpc_base.specs.declared.identifiers.Order.{Order}
use Rattle.rpc_base.specs.declared.identifiers.SyntaxId.{SyntaxId}
use Rattle.rpc_base.specs.Fields.{IsOctets, number_of, u16_octets, u32_octets, uuid_octets, syntax_octets, syntax_of, FitsSyntax}
use Rattle.rpc_base.proofs.FieldLaws.{IsOctets-take, IsOctets-drop, wide16, wide32, length-uuid_octets, uuid_octets_twice, length-syntax_octets, syntax_back, syntax_again}
use Rattle.pdu_codec.specs.Pdus.{AreSpelled}
use Rattle.pdu_codec.specs.Reading.{◌>>=◌, field_at, u16_at, u32_at, uuid_at, syntax_at, piece_at, items_at}

-- the value of a step that gave one
pub bind_ok : {A B : Type 0} (r : Option A) (f : A → Option B) (y : B) → (r >>= f) ≡ Some y → (x : A) × (r ≡ Some x) × (f x ≡ Some y)
bind_ok (Some x) f y e = (x, refl, e)
bind_ok None f y e = absurd cc

guard_ok : {A : Type 0} (b : Bool) (x y : A) → cond b None (Some x) ≡ Some y → (b ≡ false) × (x ≡ y)
guard_ok true x y e = absurd cc
guard_ok false x y e = (refl, cc)

abbrev given : {A : Type 0} → A → Option A
given x = Some x

pub some_is : {A : Type 0} (x y : A) → given x ≡ given y → x ≡ y
some_is x y e = cc

-- going on after a step
pub through : {A B : Type 0} (r : Option A) (f : A → Option B) (x : A) → r ≡ Some x → (r >>= f) ≡ f x
through r f x e = ap (λ s. s >>= f) e

-- what was taken from the front
pub record Takes (octets text rest : List ℕ) : Type 0 where
  pub parts : octets ≡ text ++ rest
  pub fits : IsOctets rest

pub Takes-then : (a x b y c : List ℕ) → Takes a x b → Takes b y c → Takes a (x ++ y) c
Takes-then a x b y c p q = record { parts = p.parts ∙ ap (λ (t : List ℕ). x ++ t) q.parts ∙ sym (append_assoc x y c); fits = q.fits }

-- ---- one field

record Has (size : ℕ) (octets front rest : List ℕ) : Type 0 where
  len : length front ≡ size
  front_fits : IsOctets front
  parts : octets ≡ front ++ rest
  rest_fits : IsOctets rest

field_takes : {A : Type 0} (size : ℕ) (f : List ℕ → A) (octets : List ℕ) (x : A × List ℕ) → IsOctets octets → field_at size f octets ≡ Some x
    → Has size octets (take size octets) x.1 × (f (take size octets) ≡ x.0)
field_takes {A} size f octets x fits e =
    let g = guard_ok (ltb (length octets) size) (f (take size octets), drop size octets) x e in
    let long : size ≤ length octets = ltb-false _ _ g.0 in
    let value : f (take size octets) ≡ x.0 = ap (λ (p : A × List ℕ). p.0) g.1 in
    let rest : drop size octets ≡ x.1 = ap (λ (p : A × List ℕ). p.1) g.1 in
    let has : Has size octets (take size octets) (drop size octets) = record {
      len = omega (arith, length-take size octets);
      front_fits = IsOctets-take size octets fits;
      parts = sym (take-append-drop size octets);
      rest_fits = IsOctets-drop size octets fits;
    } in
    (subst (λ (r : List ℕ). Has size octets (take size octets) r) rest has, value)

field_again : {A : Type 0} (size : ℕ) (f : List ℕ → A) (front rest : List ℕ) → length front ≡ size → field_at size f (front ++ rest) ≡ Some (f front, rest)
field_again size f front rest len =
    let long : ltb (length (front ++ rest)) size ≡ false = le-ltb _ _ (omega (arith, length-append front rest)) in
    rw (long, take_at front rest size len, drop_at front rest size len) refl

pub u16_takes : (order : Order) (octets : List ℕ) (x : ℕ × List ℕ) → IsOctets octets → u16_at order octets ≡ Some x → Takes octets (u16_octets order x.0) x.1 × (x.0 < 2 ^ 16)
unfolding u16_at
u16_takes order octets x fits e =
    let h = field_takes 2 (number_of order w16) octets x fits e in
    let front = take 2 octets in
    let text : u16_octets order x.0 ≡ front = ap (u16_octets order) (sym h.1) ∙ wide16.back order front h.0.len h.0.front_fits in
    let made : Takes octets front x.1 = record { parts = h.0.parts; fits = h.0.rest_fits } in
    (subst (λ (t : List ℕ). Takes octets t x.1) (sym text) made, subst (λ n. n < 2 ^ 16) h.1 (wide16.below order front h.0.front_fits))

pub u16_again : (order : Order) (n : ℕ) (rest : List ℕ) → n < 2 ^ 16 → u16_at order (u16_octets order n ++ rest) ≡ Some (n, rest)
unfolding u16_at
u16_again order n rest lt = field_again 2 (number_of order w16) (u16_octets order n) rest (wide16.len order n) ∙ ap (λ m. Some (m, rest)) (wide16.again order n lt)

pub u32_takes : (order : Order) (octets : List ℕ) (x : ℕ × List ℕ) → IsOctets octets → u32_at order octets ≡ Some x → Takes octets (u32_octets order x.0) x.1 × (x.0 < 2 ^ 32)
unfolding u32_at
u32_takes order octets x fits e =
    let h = field_takes 4 (number_of order w32) octets x fits e in
    let front = take 4 octets in
    let text : u32_octets order x.0 ≡ front = ap (u32_octets order) (sym h.1) ∙ wide32.back order front h.0.len h.0.front_fits in
    let made : Takes octets front x.1 = record { parts = h.0.parts; fits = h.0.rest_fits } in
    (subst (λ (t : List ℕ). Takes octets t x.1) (sym text) made, subst (λ n. n < 2 ^ 32) h.1 (wide32.below order front h.0.front_fits))

pub u32_again : (order : Order) (n : ℕ) (rest : List ℕ) → n < 2 ^ 32 → u32_at order (u32_octets order n ++ rest) ≡ Some (n, rest)
unfolding u32_at
u32_again order n rest lt = field_again 4 (number_of order w32) (u32_octets order n) rest (wide32.len order n) ∙ ap (λ m. Some (m, rest)) (wide32.again order n lt)

pub uuid_takes : (order : Order) (octets : List ℕ) (x : List ℕ × List ℕ) → IsOctets octets → uuid_at order octets ≡ Some x → Takes octets (uuid_octets order x.0) x.1 × (length x.0 ≡ 16)
unfolding uuid_at
uuid_takes order octets x fits e =
    let h = field_takes 16 (uuid_octets order) octets x fits e in
    let front = take 16 octets in
    let text : uuid_octets order x.0 ≡ front = ap (uuid_octets order) (sym h.1) ∙ uuid_octets_twice order front h.0.len in
    let made : Takes octets front x.1 = record { parts = h.0.parts; fits = h.0.rest_fits } in
    (subst (λ (t : List ℕ). Takes octets t x.1) (sym text) made, ap length (sym h.1) ∙ length-uuid_octets order front h.0.len)

pub uuid_again : (order : Order) (id rest : List ℕ) → length id ≡ 16 → uuid_at order (uuid_octets order id ++ rest) ≡ Some (id, rest)
unfolding uuid_at
uuid_again order id rest len =
    field_again 16 (uuid_octets order) (uuid_octets order id) rest (length-uuid_octets order id len) ∙ ap (λ (t : List ℕ). Some (t, rest)) (uuid_octets_twice order id len)

syntax_fits : (order : Order) (octets : List ℕ) → length octets ≡ 20 → IsOctets octets → FitsSyntax (syntax_of order octets)
unfolding syntax_of
syntax_fits order octets len fits =
    let word : number_of order w32 (drop 16 octets) < 4294967296 = wide32.below order (drop 16 octets) (IsOctets-drop 16 octets fits) in
    record {
      id = length-uuid_octets order (take 16 octets) (omega (arith, length-take 16 octets));
      major = omega arith;
      minor = omega arith;
    }

pub syntax_takes : (order : Order) (octets : List ℕ) (x : SyntaxId × List ℕ) → IsOctets octets → syntax_at order octets ≡ Some x → Takes octets (syntax_octets order x.0) x.1 × FitsSyntax x.0
unfolding syntax_at
syntax_takes order octets x fits e =
    let h = field_takes 20 (syntax_of order) octets x fits e in
    let front = take 20 octets in
    let text : syntax_octets order x.0 ≡ front = ap (syntax_octets order) (sym h.1) ∙ syntax_back order front h.0.len h.0.front_fits in
    let made : Takes octets front x.1 = record { parts = h.0.parts; fits = h.0.rest_fits } in
    (subst (λ (t : List ℕ). Takes octets t x.1) (sym text) made, subst (λ (s : SyntaxId). FitsSyntax s) h.1 (syntax_fits order front h.0.len h.0.front_fits))

pub syntax_read_again : (order : Order) (s : SyntaxId) (rest : List ℕ) → FitsSyntax s → syntax_at order (syntax_octets order s ++ rest) ≡ Some (s, rest)
unfolding syntax_at
syntax_read_again order s rest fits =
    field_again 20 (syntax_of order) (syntax_octets order s) rest (length-syntax_octets order s fits) ∙ ap (λ (t : SyntaxId). Some (t, rest)) (syntax_again order s fits)

pub piece_takes : (size : ℕ) (octets : List ℕ) (x : List ℕ × List ℕ) → IsOctets octets → piece_at size octets ≡ Some x → Takes octets x.0 x.1 × (length x.0 ≡ size)
unfolding piece_at
piece_takes size octets x fits e =
    let h = field_takes size (λ (xs : List ℕ). xs) octets x fits e in
    let made : Takes octets (take size octets) x.1 = record { parts = h.0.parts; fits = h.0.rest_fits } in
    (subst (λ (t : List ℕ). Takes octets t x.1) h.1 made, ap length (sym h.1) ∙ h.0.len)

pub piece_again : (size : ℕ) (front rest : List ℕ) → length front ≡ size → piece_at size (front ++ rest) ≡ Some (front, rest)
unfolding piece_at
piece_again size front rest len = field_again size (λ (xs : List ℕ). xs) front rest len

-- ---- items, one after the other

-- what reading an item gives is spelled by what was taken
pub record Reads {A : Type 0} (Spells : A → List ℕ → Type 0) (Fits : A → Type 0) (octets : List ℕ) (x : A × List ℕ) : Type 0 where
  pub text : List ℕ
  pub spelled : Spells x.0 text
  pub fits : Fits x.0
  pub taken : Takes octets text x.1

pub record ReadsAll {A : Type 0} (Spells : A → List ℕ → Type 0) (Fits : A → Type 0) (count : ℕ) (octets : List ℕ) (x : List A × List ℕ) : Type 0 where
  pub text : List ℕ
  pub spelled : AreSpelled Spells x.0 text
  pub fits : AllByRecursion Fits x.0
  pub taken : Takes octets text x.1
  pub count_is : length x.0 ≡ count

pub items_takes : {A : Type 0} (Spells : A → List ℕ → Type 0) (Fits : A → Type 0) (read : List ℕ → Option (A × List ℕ))
    → ((octets : List ℕ) (x : A × List ℕ) → IsOctets octets → read octets ≡ Some x → Reads Spells Fits octets x)
    → (count : ℕ) (octets : List ℕ) (x : List A × List ℕ) → IsOctets octets → items_at read count octets ≡ Some x → ReadsAll Spells Fits count octets x
unfolding items_at
items_takes {A} Spells Fits read each zero octets x fits e =
    let made : List A × List ℕ = ([], octets) in
    let all : ReadsAll Spells Fits 0 octets made = record { text = []; spelled = refl; fits = tt; taken = record { parts = refl; fits = fits }; count_is = refl } in
    subst (λ (y : List A × List ℕ). ReadsAll Spells Fits 0 octets y) (some_is made x e) all
items_takes {A} Spells Fits read each (suc n) octets x fits e =
    let a = bind_ok (read octets) (λ first. items_at read n first.1 >>= λ others. Some (first.0 ∷ others.0, others.1)) x e in
    let b = bind_ok (items_at read n a.0.1) (λ others. Some (a.0.0 ∷ others.0, others.1)) x a.2 in
    let p = each octets a.0 fits a.1 in
    let q = items_takes Spells Fits read each n a.0.1 b.0 p.taken.fits b.1 in
    let made : List A × List ℕ = (a.0.0 ∷ b.0.0, b.0.1) in
    let all : ReadsAll Spells Fits (suc n) octets made = record {
      text = p.text ++ q.text;
      spelled = (p.text, q.text, refl, p.spelled, q.spelled);
      fits = (p.fits, q.fits);
      taken = Takes-then octets p.text a.0.1 q.text b.0.1 p.taken q.taken;
      count_is = ap suc q.count_is;
    } in
    subst (λ (y : List A × List ℕ). ReadsAll Spells Fits (suc n) octets y) (some_is made x b.2) all

pub items_again : {A : Type 0} (Spells : A → List ℕ → Type 0) (Fits : A → Type 0) (read : List ℕ → Option (A × List ℕ))
    → ((x : A) (text rest : List ℕ) → Spells x text → Fits x → read (text ++ rest) ≡ Some (x, rest))
    → (xs : List A) (text rest : List ℕ) → AreSpelled Spells xs text → AllByRecursion Fits xs → items_at read (length xs) (text ++ rest) ≡ Some (xs, rest)
unfolding items_at
items_again {A} Spells Fits read each [] text rest are fit = ap (λ (t : List ℕ). Some ([], t ++ rest)) are
items_again {A} Spells Fits read each (x ∷ xs) text rest are fit =
    let first = are.0 in
    let others = are.1 in
    let parts : text ++ rest ≡ first ++ (others ++ rest) = ap (λ (t : List ℕ). t ++ rest) are.2 ∙ append_assoc first others rest in
    let one : read (text ++ rest) ≡ Some (x, others ++ rest) = ap read parts ∙ each x first (others ++ rest) are.3 fit.0 in
    let more : items_at read (length xs) (others ++ rest) ≡ Some (xs, rest) = items_again Spells Fits read each xs others rest are.4 fit.1 in
    through (read (text ++ rest)) (λ y. items_at read (length xs) y.1 >>= λ ys. Some (y.0 ∷ ys.0, ys.1)) (x, others ++ rest) one
    ∙ through (items_at read (length xs) (others ++ rest)) (λ ys. Some (x ∷ ys.0, ys.1)) (xs, rest) more

-- items with one spelling each
abbrev pub IsText : {A : Type 0} → (A → List ℕ) → A → List ℕ → Type 0
IsText text x octets = octets ≡ text x

pub spelled-flat_map : {A : Type 0} (text : A → List ℕ) (xs : List A) (octets : List ℕ) → AreSpelled (IsText text) xs octets → octets ≡ flat_map text xs
spelled-flat_map text [] octets are = are
spelled-flat_map text (x ∷ xs) octets are = are.2 ∙ (λ i. are.3 i ++ spelled-flat_map text xs are.1 are.4 i)

pub flat_map-spelled : {A : Type 0} (text : A → List ℕ) (xs : List A) → AreSpelled (IsText text) xs (flat_map text xs)
flat_map-spelled text [] = refl
flat_map-spelled text (x ∷ xs) = (text x, flat_map text xs, refl, refl, flat_map-spelled text xs)

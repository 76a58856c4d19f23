-- Counts and texts that suit stand where they are written, and counts agree with what names them.
use Rattle.std.proofs.Common.{◌≡◌, ℕ, zero, suc, ◌+◌, ◌^◌, ◌<◌, ◌≤◌, ℤ, pos, Bool, true, false, cond, List, [], ◌∷◌, ◌++◌, length, take, drop, length-append, length-take, Option, Some, None, refl, sym, ap, subst, ◌∙◌, arith}
use Rattle.std.specs.Prelude.{◌==◌, ◌||◌, nat_lt, not, position, if◌then◌else◌}
use Rattle.std.specs.List.{position_or_len}
use Rattle.std.proofs.lemmas.Bool.{lt-ltb}
use Rattle.std.proofs.lemmas.List.Quantifiers.{position-Some}
use Rattle.rpc_base.specs.declared.identifiers.Order.{Order}
use Rattle.rpc_base.specs.Fields.{IsOctets}
use Rattle.ndr_value.specs.declared.shape.Count.{Count}
use Rattle.ndr_value.specs.declared.shape.ArrayKind.{ArrayKind}
use Rattle.ndr_value.specs.declared.shape.ArrayKind.TheVariants.{Fixed, Conformant, ConformantVarying}
use Rattle.ndr_value.specs.Forms.{Form}
use Rattle.ndr_value.specs.Values.{Vals}
use Rattle.ndr_scalars.specs.Scalars.{Scalar}
use Rattle.ndr_arrays.specs.declared.counts.Counts.{Counts}
use Rattle.ndr_arrays.specs.Counted.{counts, HasMost, moved_most, a_most, HasActual, HasCounts, of_fixed, of_varying, of_conformant, of_both}
use Rattle.ndr_arrays.specs.Texts.{HasLimit, of_size, of_count, IsText}
use Rattle.ndr_arrays.specs.Written.{both, word, actual_octets, most_octets, size_octets, text_octets}
use Rattle.ndr_model.specs.declared.mark.Mark.{Mark}
use Rattle.ndr_model.specs.declared.mark.Mark.TheVariants.{Number}
use Rattle.ndr_model.specs.Part.{count_marks}
use Rattle.ndr_model.specs.Named.{Call, named}
use Rattle.ndr_model.specs.Agree.{Stood, most_in_front, most_here, AgreesCounts, agrees_fixed, agrees_varying, agrees_conformant, agrees_both}
use Rattle.ndr_model.specs.Pieces.{fitting, counted}
use Rattle.ndr_model.specs.Fronts.{size_of, array_counts}
use Rattle.ndr_model.specs.Written.{text}
use Rattle.ndr_value.specs.Fits.{has_nul}
use Rattle.ndr_model.specs.Fits.{SuitsText, SuitsCounts, counts_fixed, counts_varying, counts_conformant, counts_both}
use Rattle.ndr_laws.proofs.Texts.{Has, has_first, has_second, has_within, has_there, scalar_fits, fitting_is, number_stands}

-- a max_count in front of a structure, in the octets that are written
pub data Front (w : ℕ) : Bool → Option ℕ → Option Stood → Type 0 where
  front_none : Front w false None None
  front_some : {k : ℕ} → Front w true (Some w) (Some (k, pos w))

-- the same of a max_count that is written
pub data Placed (w : ℕ) : Bool → Option ℕ → Type 0 where
  placed_here : Placed w false None
  placed_front : Placed w true (Some w)

module _ (order : Order) (octets : List ℕ) where
  pub word_stands : {n i : ℕ} → n < 2 ^ 32 → Has octets i (word order n i) → Scalar order octets 4 n i (i + length (word order n i))
  word_stands {n} {i} lt h = number_stands order octets 4 n i lt h

  -- an offset of 0 and an actual_count
  pub actual_stands : (most actual i : ℕ) → actual < 2 ^ 32 → actual ≤ most → Has octets i (actual_octets order actual i) → HasActual order octets most actual i (i + length (actual_octets order actual i))
  actual_stands most actual i lt fits h =
      let a = word order 0 i in
      let j = i + length a in
      let b = word order actual j in
      let ends : j + length b ≡ i + length (a ++ b) = omega (arith, length-append a b) in
      subst (λ (k : ℕ). HasActual order octets most actual i k) ends
      (record { h = j; offset = word_stands (omega arith) (has_first octets i a b h); actual_count = word_stands lt (has_second octets i a b h); fits = fits })

  pub nothing_stands : (i : ℕ) → i ≡ i + length {A = ℕ} []
  nothing_stands i = omega arith

  -- two pieces
  pub both_ends : (i : ℕ) (a b : List ℕ) → (i + length a) + length b ≡ i + length (a ++ b)
  both_ends i a b = omega (arith, length-append a b)

-- ---- texts

abbrev first_nul : List ℕ → ℕ
first_nul cells = position_or_len (λ c. c == 0) cells

nul_by : (c : ℕ) (cells : List ℕ) (b : Bool) → (c == 0) ≡ b → ((n : ℕ) → first_nul cells ≡ n → n < length cells → (first_nul (take n cells ++ 0 ∷ []) ≡ n) × (length (take n cells) ≡ n))
    → (k : ℕ) → cond (not b) (1 + first_nul cells) 0 ≡ k → k < length (c ∷ cells) → (first_nul (take k (c ∷ cells) ++ 0 ∷ []) ≡ k) × (length (take k (c ∷ cells)) ≡ k)
nul_by c cells true t go zero e lt = (refl, refl)
nul_by c cells true t go (suc k) e lt = absurd (omega (arith, e))
nul_by c cells false t go zero e lt = absurd (omega (arith, e))
nul_by c cells false t go (suc k) e lt =
    let r = go k (omega (arith, e)) (omega (arith, lt)) in
    (ap (λ (b : Bool). cond (not b) (1 + first_nul (take k cells ++ 0 ∷ [])) 0) t ∙ (let z = r.0 in omega (arith, z)), ap suc r.1)

-- up to the first NUL, which is added again
no_nul : (cells : List ℕ) (k : ℕ) → first_nul cells ≡ k → k < length cells → (first_nul (take k cells ++ 0 ∷ []) ≡ k) × (length (take k cells) ≡ k)
no_nul [] k e lt = absurd (omega (arith, lt))
no_nul (c ∷ cells) k e lt = nul_by c cells (c == 0) refl (no_nul cells) k e lt

pub placed_nul : (b : Bool) (n k : ℕ) → cond b (Some n) None ≡ Some k → n ≡ k
placed_nul true n k e = cc
placed_nul false n k e = absurd cc

take_front : (xs ys : List ℕ) → take (length xs) (xs ++ ys) ≡ xs
take_front [] ys = refl
take_front (x ∷ xs) ys = ap (λ (zs : List ℕ). x ∷ zs) (take_front xs ys)

record Sized (order : Order) (octets : List ℕ) (size now : Option ℕ) (n i j : ℕ) : Type 0 where
  most : ℕ
  h : ℕ
  limit : HasLimit order octets now size most i h
  actual : HasActual order octets most n h j

module _ (order : Order) (octets : List ℕ) where
  -- a text and its NUL, behind the counts
  chars_stand : (size now : Option ℕ) (octs : List ℕ) (i k : ℕ) → Sized order octets size now (length octs + 1) i k → position (λ c. c == 0) (octs ++ 0 ∷ []) ≡ Some (length octs)
      → Has octets k (octs ++ 0 ∷ []) → IsText order octets size now octs i (k + length (octs ++ 0 ∷ []))
  chars_stand size now octs i k s nul at =
      let long : length (octs ++ 0 ∷ []) ≡ length octs + 1 = length-append octs (0 ∷ []) in
      let there = has_there octets k (length octs + 1) (octs ++ 0 ∷ []) long at in
      record {
        most = s.most;
        actual = length octs + 1;
        h = s.h;
        k = k;
        limit = s.limit;
        counted = s.actual;
        ends = ap (λ (x : ℕ). k + x) long;
        within = has_within octets k (octs ++ 0 ∷ []) at;
        nul = length octs;
        first_nul = ap (position (λ c. c == 0)) there ∙ nul;
        is = sym (ap (take (length octs)) there ∙ take_front octs (0 ∷ []));
      }

  size_stands : (size now : Option ℕ) (moved : Bool) (n i : ℕ) → n < 2 ^ 32 → ((m : ℕ) → size ≡ Some m → n ≤ m) → Placed n moved now → Has octets i (size_octets order size n (not moved) i)
      → Sized order octets size now n i (i + length (size_octets order size n (not moved) i))
  size_stands (Some m) now moved n i lt le p at = record { most = m; h = i; limit = of_size; actual = actual_stands order octets m n i lt (le m refl) at }
  size_stands None None false n i lt le placed_here at =
      let a = word order n i in
      let j = i + length a in
      let b = actual_octets order n j in
      record {
        most = n;
        h = j;
        limit = of_count (a_most (word_stands order octets lt (has_first octets i a b at)));
        actual = subst (λ (k : ℕ). HasActual order octets n n j k) (both_ends order octets i a b) (actual_stands order octets n n j lt (omega arith) (has_second octets i a b at));
      }
  size_stands None None true n i lt le p at = elim p [ ]
  size_stands None (Some m) false n i lt le p at = elim p [ ]
  size_stands None (Some m) true n i lt le placed_front at =
      let j : ℕ = i + length {A = ℕ} [] in
      let b = actual_octets order n j in
      record {
        most = n;
        h = j;
        limit = subst (λ (k : ℕ). HasLimit order octets (Some n) None n i k) (nothing_stands order octets i) (of_count moved_most);
        actual = subst (λ (k : ℕ). HasActual order octets n n j k) (both_ends order octets i [] b) (actual_stands order octets n n j lt (omega arith) (has_second octets i [] b at));
      }

  text_stands : (size now : Option ℕ) (moved : Bool) (octs : List ℕ) (i : ℕ) → length octs + 1 < 2 ^ 32 → ((m : ℕ) → size ≡ Some m → length octs + 1 ≤ m) → Placed (length octs + 1) moved now
      → position (λ c. c == 0) (octs ++ 0 ∷ []) ≡ Some (length octs) → Has octets i (text_octets order size octs (not moved) i) → IsText order octets size now octs i (i + length (text_octets order size octs (not moved) i))
  text_stands size now moved octs i lt le p nul at =
      let a = size_octets order size (length octs + 1) (not moved) i in
      let b : List ℕ = octs ++ 0 ∷ [] in
      subst (λ (k : ℕ). IsText order octets size now octs i k) (both_ends order octets i a b)
      (chars_stand size now octs i (i + length a) (size_stands size now moved (length octs + 1) i lt le p (has_first octets i a b at)) nul (has_second octets i a b at))

limit_room : {order : Order} {octets : List ℕ} {size moved : Option ℕ} {most i j : ℕ} (n : ℕ) → HasLimit order octets moved size most i j → n ≤ most → (m : ℕ) → size ≡ Some m → n ≤ m
limit_room n (of_size {most = most}) le m e = let f : most ≡ m = cc in omega (arith, le, f)
limit_room n (of_count c) le m e = absurd cc

nul_placed : (octs : List ℕ) → first_nul (octs ++ 0 ∷ []) ≡ length octs → position (λ c. c == 0) (octs ++ 0 ∷ []) ≡ Some (length octs)
nul_placed octs e =
    ap (λ (n : ℕ). cond (nat_lt n (length (octs ++ 0 ∷ []))) (Some n) None) e ∙ ap (λ (b : Bool). cond b (Some (length octs)) None) (lt-ltb _ _ (omega (arith, length-append octs (0 ∷ []))))

-- what holds of a text that stood in octets
pub record Texted (size : Option ℕ) (octs : List ℕ) : Type 0 where
  pub small : length octs + 1 < 2 ^ 32
  pub room : (m : ℕ) → size ≡ Some m → length octs + 1 ≤ m
  pub nul : position (λ c. c == 0) (octs ++ 0 ∷ []) ≡ Some (length octs)

pub texted : (order : Order) (octets : List ℕ) (size moved : Option ℕ) (octs : List ℕ) (i j : ℕ) → IsOctets octets → IsText order octets size moved octs i j → Texted size octs
texted order octets size moved octs i j fits t =
    let cells = take t.actual (drop t.k octets) in
    let inside = (position-Some (λ c. c == 0) cells t.nul 0 t.first_nul).0 in
    let first : first_nul cells ≡ t.nul = placed_nul (nat_lt (first_nul cells) (length cells)) (first_nul cells) t.nul t.first_nul in
    let r = no_nul cells t.nul first inside in
    let few : length cells ≤ t.actual = omega (arith, length-take t.actual (drop t.k octets)) in
    let long : length octs ≡ t.nul = ap length t.is ∙ r.1 in
    let counted = t.counted in
    let low : t.actual < 2 ^ 32 = scalar_fits order octets 4 t.actual counted.h t.k fits counted.actual_count in
    let le : length octs + 1 ≤ t.actual = omega (arith, long, few, inside) in
    record {
      small = omega (arith, le, low);
      room = limit_room (length octs + 1) t.limit (omega (arith, le, counted.fits));
      nul = subst (λ (x : List ℕ). position (λ c. c == 0) (x ++ 0 ∷ []) ≡ Some (length x)) (sym t.is) (nul_placed (take t.nul cells) (r.0 ∙ sym r.1));
    }

module _ (types : List Form) (order : Order) (call : Call) (octets : List ℕ) where
  pub text_again : (size now : Option ℕ) (moved : Bool) (octs : List ℕ) (i : ℕ) → Texted size octs → Placed (length octs + 1) moved now → Has octets i (text types order call size octs moved i)
      → IsText order octets size now octs i (i + length (text types order call size octs moved i))
  text_again size now moved octs i t p at =
      let plain = text_octets order size octs (not moved) i in
      let e : (if nat_lt (length octs + 1) (2 ^ 32) then plain else []) ≡ plain = ap (λ (b : Bool). if b then plain else []) (lt-ltb _ _ t.small) in
      subst (λ (x : List ℕ). IsText order octets size now octs i (i + length x)) (sym e) (text_stands order octets size now moved octs i t.small t.room p t.nul (subst (λ (x : List ℕ). Has octets i x) e at))

-- ---- counts

counted_is : (o : Option ℤ) (n : ℕ) → n < 2 ^ 32 → o ≡ Some (pos n) → counted o ≡ n
counted_is o n lt e = ap counted e ∙ fitting_is 4 n lt

-- a text that suits
nul_more : (c : ℕ) (octs : List ℕ) (b : Bool) → (c == 0) ≡ b → (b || has_nul octs) ≡ false → (has_nul octs ≡ false → first_nul (octs ++ 0 ∷ []) ≡ length octs) → first_nul ((c ∷ octs) ++ 0 ∷ []) ≡ suc (length octs)
nul_more c octs true e f go = absurd cc
nul_more c octs false e f go = ap (λ (b : Bool). cond (not b) (1 + first_nul (octs ++ 0 ∷ [])) 0) e ∙ (let z = go f in omega (arith, z))

nul_behind : (octs : List ℕ) → has_nul octs ≡ false → first_nul (octs ++ 0 ∷ []) ≡ length octs
nul_behind [] e = refl
nul_behind (c ∷ octs) e = nul_more c octs (c == 0) refl e (nul_behind octs)

pub texted_by : (size : Option ℕ) (octs : List ℕ) → SuitsText size octs → Texted size octs
texted_by size octs t = record { small = t.small; room = t.room; nul = nul_placed octs (nul_behind octs t.no_nul) }

pub mark_is : (i i' : ℕ) (z z' : ℤ) (ms ms' : List Mark) → Number i z ∷ ms ≡ Number i' z' ∷ ms' → (z ≡ z') × (ms ≡ ms')
mark_is i i' z z' ms ms' e = (cc, cc)

-- the counts that are written, and the marks of them
pub record CountsStand (types : List Form) (order : Order) (call : Call) (octets : List ℕ) (body : Vals) (kind : ArrayKind) (n : ℕ) (flag : Bool) (now : Option ℕ) (known : Option Stood) (i : ℕ) : Type 0 where
  pub k : Counts
  pub actual_is : k.actual ≡ n
  pub stand : HasCounts order octets now kind k i (i + length (array_counts types order call body flag kind n i))
  pub agree : (more : List Mark) → AgreesCounts call body known kind (count_marks kind now k i (i + length (array_counts types order call body flag kind n i)) ++ more) more

module _ (types : List Form) (order : Order) (call : Call) (octets : List ℕ) (body : Vals) where
  actual_again : (most actual i : ℕ) → actual < 2 ^ 32 → actual ≤ most → Has octets i (actual_octets order (fitting 4 actual) i) → HasActual order octets most actual i (i + length (actual_octets order (fitting 4 actual) i))
  actual_again most actual i lt le at =
      let e = fitting_is 4 actual lt in
      subst (λ (x : ℕ). HasActual order octets most actual i (i + length (actual_octets order x i))) (sym e) (actual_stands order octets most actual i lt le (subst (λ (x : ℕ). Has octets i (actual_octets order x i)) e at))

  most_again : (most m i : ℕ) → m ≡ most → most < 2 ^ 32 → Has octets i (word order m i) → HasMost order octets None most i (i + length (word order m i))
  most_again most m i e lt at =
      subst (λ (x : ℕ). HasMost order octets None most i (i + length (word order x i))) (sym e) (a_most (word_stands order octets lt (subst (λ (x : ℕ). Has octets i (word order x i)) e at)))

  both_again : (c d : Count) (now : Option ℕ) (flag : Bool) (most m actual i : ℕ) → actual < 2 ^ 32 → actual ≤ most → ((at : Has octets i (most_octets order (not flag) m i)) → HasMost order octets now most i (i + length (most_octets order (not flag) m i)))
      → Has octets i (both (most_octets order (not flag) m) (actual_octets order (fitting 4 actual)) i)
      → HasCounts order octets now (ConformantVarying c d) (counts most actual) i (i + length (both (most_octets order (not flag) m) (actual_octets order (fitting 4 actual)) i))
  both_again c d now flag most m actual i lt le go at =
      let a = most_octets order (not flag) m i in
      let j = i + length a in
      let b = actual_octets order (fitting 4 actual) j in
      subst (λ (x : ℕ). HasCounts order octets now (ConformantVarying c d) (counts most actual) i x) (both_ends order octets i a b)
      (of_both (go (has_first octets i a b at)) (actual_again most actual j lt le (has_second octets i a b at)))

  pub counts_written : {flag : Bool} {now : Option ℕ} {known : Option Stood} {kind : ArrayKind} {n : ℕ} (w i : ℕ) → SuitsCounts call body kind n → Front w flag now known → w ≡ fitting 4 (size_of types order call body kind n)
      → Has octets i (array_counts types order call body flag kind n i) → CountsStand types order call octets body kind n flag now known i
  counts_written {now = now} w i (counts_fixed {n = n}) f we at = record {
    k = counts n n;
    actual_is = refl;
    stand = subst (λ (j : ℕ). HasCounts order octets now (Fixed n) (counts n n) i j) (nothing_stands order octets i) of_fixed;
    agree = λ more. agrees_fixed;
  }
  counts_written w i (counts_varying {n = n} {m = m} lt le is) f we at = record {
    k = counts n m;
    actual_is = refl;
    stand = of_varying (actual_again n m i lt le at);
    agree = λ more. agrees_varying is;
  }
  counts_written w i (counts_conformant {m = m} {c = c} lt is) (front_some {k = k}) we at =
      let big = fitting_is 4 m lt in
      let same : w ≡ m = we ∙ ap (fitting 4) big ∙ big in
      subst (λ (x : ℕ). CountsStand types order call octets body (Conformant c) m true (Some x) (Some (k, pos x)) i) (sym same) (record {
        k = counts m m;
        actual_is = refl;
        stand = subst (λ (j : ℕ). HasCounts order octets (Some m) (Conformant c) (counts m m) i j) (nothing_stands order octets i) (of_conformant moved_most);
        agree = λ more. agrees_conformant (most_in_front is);
      })
  counts_written w i (counts_conformant {m = m} lt is) front_none we at = record {
    k = counts m m;
    actual_is = refl;
    stand = of_conformant (most_again m (fitting 4 m) i (fitting_is 4 m lt) lt at);
    agree = λ more. agrees_conformant (most_here is);
  }
  counts_written w i (counts_both {most = most} {m = m} {c = c} {d = d} lt le is too) (front_some {k = k}) we at =
      let size = counted_is (named call body c) most lt is in
      let same : w ≡ most = we ∙ ap (fitting 4) size ∙ fitting_is 4 most lt in
      subst (λ (x : ℕ). CountsStand types order call octets body (ConformantVarying c d) m true (Some x) (Some (k, pos x)) i) (sym same) (record {
        k = counts most m;
        actual_is = refl;
        stand = both_again c d (Some most) true most (counted (named call body c)) m i (omega (arith, lt, le)) le
            (λ a. subst (λ (j : ℕ). HasMost order octets (Some most) most i j) (nothing_stands order octets i) moved_most) at;
        agree = λ more. agrees_both (most_in_front is) too;
      })
  counts_written w i (counts_both {most = most} {m = m} {c = c} {d = d} lt le is too) front_none we at =
      let size = counted_is (named call body c) most lt is in
      record {
        k = counts most m;
        actual_is = refl;
        stand = both_again c d None false most (counted (named call body c)) m i (omega (arith, lt, le)) le (λ a. most_again most (counted (named call body c)) i size lt a) at;
        agree = λ more. agrees_both (most_here is) too;
      }

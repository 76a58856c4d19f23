-- Structures and unions begin where they are written: at their alignment, behind a max_count that has moved in front.
use Rattle.std.proofs.Common.{◌≡◌, ℕ, ◌+◌, ◌≤◌, ℤ, pos, Bool, true, false, List, [], ◌++◌, length, Option, Some, None, refl, sym, subst, ◌∙◌, arith}
use Rattle.std.specs.Prelude.{◌==◌, ◌||◌, if◌then◌else◌}
use Rattle.rpc_base.specs.declared.identifiers.Order.{Order}
use Rattle.ndr_value.specs.Forms.{Form, OfStruct, Forms}
use Rattle.ndr_value.specs.Values.{Val, Vals}
use Rattle.ndr_table.specs.Aligned.{align_of, alignments}
use Rattle.ndr_table.proofs.Sizes.{alignments_size}
use Rattle.ndr_scalars.specs.Scalars.{up}
use Rattle.ndr_arrays.specs.Written.{both}
use Rattle.ndr_model.specs.declared.mark.Mark.{Mark}
use Rattle.ndr_model.specs.Part.{IsTag, opens_with, in_place, Opens, in_a_greater, not_open, Begins, opened_marks}
use Rattle.ndr_model.specs.Part as part
use Rattle.ndr_model.specs.Named.{Call}
use Rattle.ndr_model.specs.Agree.{Stood, Fronts, fronts_greater, fronts, fronts_none}
use Rattle.ndr_model.specs.Pieces.{fitting, gap, number}
use Rattle.ndr_model.specs.Fronts.{front_last}
use Rattle.ndr_model.specs.Written.{tag, opening}
use Rattle.ndr_laws.proofs.Texts.{Has, has_first, has_second, has_within, fitting_4, gap_end, number_stands}
use Rattle.ndr_laws.proofs.Leaves.{tag_stands}
use Rattle.ndr_laws.proofs.Counts.{Front, front_none, front_some}
use Rattle.ndr_laws.proofs.Places.{ends_both}
use Rattle.ndr_model.specs.Fits.{HoldsTag}

eq_is : (n m : ℕ) → (n == m) ≡ true → n ≡ m
eq_is n m e = grind (arith)

up_size : (a b c d : Bool) (i n : ℕ) → (a || (b || (c || d))) ≡ true → (n == 1) ≡ a → (n == 2) ≡ b → (n == 4) ≡ c → (n == 8) ≡ d → i ≤ up i n
up_size true b c d i n e p q r s = subst (λ (m : ℕ). i ≤ up i m) (sym (eq_is n 1 p)) (omega arith)
up_size false true c d i n e p q r s = subst (λ (m : ℕ). i ≤ up i m) (sym (eq_is n 2 q)) (omega arith)
up_size false false true d i n e p q r s = subst (λ (m : ℕ). i ≤ up i m) (sym (eq_is n 4 r)) (omega arith)
up_size false false false true i n e p q r s = subst (λ (m : ℕ). i ≤ up i m) (sym (eq_is n 8 s)) (omega arith)
up_size false false false false i n e p q r s = absurd cc

module _ (types : List Form) where
  place_ge : (s : Form) (i : ℕ) → i ≤ in_place types s i
  place_ge s i =
      let n = align_of (alignments types) s in
      up_size (n == 1) (n == 2) (n == 4) (n == 8) i n (alignments_size types s) refl refl refl refl

  -- the gap in front of a structure or a union
  pub space_ends : (s : Form) (i : ℕ) → i + length (gap (align_of (alignments types) s) i) ≡ in_place types s i
  space_ends s i = gap_end i (in_place types s i) (place_ge s i)

module _ (types : List Form) (call : Call) (order : Order) (octets : List ℕ) where
  -- a tag, at the alignment of its union
  pub placed_tag : (u : Form) {t : Form} {z : ℤ} (i : ℕ) → HoldsTag t z → Has octets i (both (gap (align_of (alignments types) u)) (tag types order call t z) i)
      → IsTag order octets t z (in_place types u i) (i + length (both (gap (align_of (alignments types) u)) (tag types order call t z) i))
  placed_tag u {t} {z} i s at =
      let space = gap (align_of (alignments types) u) i in
      let ends = space_ends types u i in
      let text = tag types order call t z (i + length space) in
      let there = tag_stands types call order octets (i + length space) s (has_second octets i space text at) in
      subst (λ (k : ℕ). IsTag order octets t z (in_place types u i) k) (ends_both i space text)
      (subst (λ (k : ℕ). IsTag order octets t z k ((i + length space) + length text)) ends there)

  -- how a structure begins, and what is noted of it
  pub record Begun (ss : Forms) (w : ℕ) (flag : Bool) (now : Option ℕ) (known : Option Stood) (text : List ℕ) (i : ℕ) : Type 0 where
    pub own_now : Option ℕ
    pub own_known : Option Stood
    pub front : Front w flag own_now own_known
    pub begins : Begins types order octets ss now own_now i (i + length text)
    pub fronts_again : (more : List Mark) → Fronts types ss known own_known (opened_marks now own_now i ++ more) more

  -- the gap alone
  space_begins : (ss : Forms) (now own_now : Option ℕ) (i : ℕ) → Opens types order octets ss now own_now i i → Has octets i ([] ++ gap (align_of (alignments types) (OfStruct ss)) (i + length {A = ℕ} []))
      → Begins types order octets ss now own_now i (i + length ([] ++ gap (align_of (alignments types) (OfStruct ss)) (i + length {A = ℕ} [])))
  space_begins ss now own_now i opens at =
      let z : i ≡ i + length {A = ℕ} [] = omega arith in
      subst (λ (k : ℕ). Begins types order octets ss now own_now i (i + length (gap (align_of (alignments types) (OfStruct ss)) k))) z (record {
        k = i;
        opens = opens;
        ends = space_ends types (OfStruct ss) i;
        within = has_within octets i (gap (align_of (alignments types) (OfStruct ss)) i) (subst (λ (k : ℕ). Has octets i (gap (align_of (alignments types) (OfStruct ss)) k)) (sym z) at);
      })

  -- a max_count, and the gap
  word_begins : (ss : Forms) (n i : ℕ) → opens_with types ss ≡ true → Has octets i (both (number order 4 n) (gap (align_of (alignments types) (OfStruct ss))) i)
      → Begins types order octets ss None (Some (fitting 4 n)) i (i + length (both (number order 4 n) (gap (align_of (alignments types) (OfStruct ss))) i))
  word_begins ss n i is at =
      let word = number order 4 n i in
      let space = gap (align_of (alignments types) (OfStruct ss)) (i + length word) in
      record {
        k = i + length word;
        opens = part.in_front is (number_stands order octets 4 (fitting 4 n) i (fitting_4 n) (has_first octets i word space at));
        ends = sym (ends_both i word space) ∙ space_ends types (OfStruct ss) (i + length word);
        within = has_within octets i (word ++ space) at;
      }

  -- by whether a max_count is written
  abbrev opening_by : (Vals → Form → Val → ℕ) → Bool → Forms → Vals → ℕ → List ℕ
  opening_by size b ss vs i = both (if b then number order 4 (front_last types order call size vs ss vs) else (λ j. [])) (gap (align_of (alignments types) (OfStruct ss))) i

  begun_by : (size : Vals → Form → Val → ℕ) (vs : Vals) (ss : Forms) (b : Bool) (w i : ℕ) → opens_with types ss ≡ b → w ≡ fitting 4 (front_last types order call size vs ss vs)
      → Has octets i (opening_by size b ss vs i) → Begun ss w b None None (opening_by size b ss vs i) i
  begun_by size vs ss true w i is we at = record {
    own_now = Some w;
    own_known = Some (up i 4, pos w);
    front = front_some;
    begins = subst (λ (x : ℕ). Begins types order octets ss None (Some x) i (i + length (opening_by size true ss vs i))) (sym we) (word_begins ss (front_last types order call size vs ss vs) i is at);
    fronts_again = λ more. fronts is;
  }
  begun_by size vs ss false w i is we at = record {
    own_now = None;
    own_known = None;
    front = front_none;
    begins = space_begins ss None None i (not_open is) at;
    fronts_again = λ more. fronts_none is;
  }

  pub begun : (size : Vals → Form → Val → ℕ) (vs : Vals) {ss : Forms} {now : Option ℕ} {known : Option Stood} {flag : Bool} (w i : ℕ) → Front w flag now known → w ≡ fitting 4 (front_last types order call size vs ss vs)
      → Has octets i (opening types order call size flag ss vs i) → Begun ss w (flag || opens_with types ss) now known (opening types order call size flag ss vs i) i
  begun size vs {ss} w i front_none we at = begun_by size vs ss (opens_with types ss) w i refl we at
  begun size vs {ss} w i (front_some {k = k}) we at = record {
    own_now = Some w;
    own_known = Some (k, pos w);
    front = front_some;
    begins = space_begins ss (Some w) (Some w) i in_a_greater at;
    fronts_again = λ more. fronts_greater;
  }

-- Numbers, handles and tags stand where they are written.
use Rattle.std.proofs.Common.{◌≡◌, ℕ, zero, suc, ◌+◌, ◌-◌, ◌*◌, ◌^◌, ◌<◌, ◌≤◌, ℤ, pos, negsuc, Bool, true, false, cond, List, ◌++◌, length, take, drop, length-append, Some, refl, sym, ap, subst, ◌∙◌, arith}
use Rattle.std.specs.Prelude.{◌==◌, nat_lt, neg_ℤ, if◌then◌else◌}
use Rattle.std.specs.Int.{Width, w8, w16, w32, w64, w128, cast_signed, cast_unsigned, from_be_bytes}
use Rattle.std.proofs.lemmas.Int.{ints, to_z-of_z}
use lib.Signed.{mag}
use mir.Val.{bits}
use Rattle.std.proofs.lemmas.Bool.{ltb-false}
use Rattle.rpc_base.specs.declared.identifiers.Order.{Order}
use Rattle.rpc_base.specs.declared.identifiers.WireHandle.{WireHandle}
use Rattle.rpc_base.specs.Fields.{IsOctets, FitsHandle, uuid_octets, handle_octets, wire_of}
use Rattle.rpc_base.proofs.FieldLaws.{IsOctets-drop, IsOctets-take, IsOctets-uuid_octets, wide32, length-handle_octets, handle_again}
use Rattle.ndr_value.specs.Forms.{Form, OfBool, OfInt}
use Rattle.ndr_value.specs.Fits.{within}
use Rattle.ndr_scalars.specs.Scalars.{up, octets_of, signed, unsigned, Scalar, written}
use Rattle.ndr_model.specs.Named.{Call}
use Rattle.ndr_model.specs.Part.{IsWire, IsTag, tag_bool, tag_char, tag_int, tag_uint, tag_enum}
use Rattle.ndr_model.specs.Pieces.{half, fitting_int, gap, number, signed_number}
use Rattle.ndr_model.specs.Written.{wire, tag}
use Rattle.ndr_model.specs.Fits.{HoldsInt, HoldsTag}
use Rattle.ndr_model.specs.Fits as holding
use Rattle.ndr_laws.proofs.Texts.{Has, has_second, has_within, has_there, fitting_is, gap_end, number_stands}

-- ---- signed numbers

within_by : (h n : ℕ) (b : Bool) → n < h + h → nat_lt n h ≡ b → within (neg_ℤ (pos h)) (pos h) (cond b (pos n) (negsuc (h + h - suc n))) ≡ true
within_by h n true lt e = grind (arith, ints)
within_by h n false lt e = grind (arith, ints, ltb-false n h e)

signed_by : (n : ℕ) (a b c : Bool) → n < 2 ^ (8 * (if a then 1 else (if b then 2 else (if c then 4 else 8))))
    → within (neg_ℤ (pos (2 ^ (8 * (if a then 1 else (if b then 2 else (if c then 4 else 8))) - 1)))) (pos (2 ^ (8 * (if a then 1 else (if b then 2 else (if c then 4 else 8))) - 1)))
    (cast_signed (if a then w8 else (if b then w16 else (if c then w32 else w64))) n) ≡ true
signed_by n true b c lt = within_by (2 ^ 7) n (nat_lt n (2 ^ 7)) lt refl
signed_by n false true c lt = within_by (2 ^ 15) n (nat_lt n (2 ^ 15)) lt refl
signed_by n false false true lt = within_by (2 ^ 31) n (nat_lt n (2 ^ 31)) lt refl
signed_by n false false false lt = within_by (2 ^ 63) n (nat_lt n (2 ^ 63)) lt refl

pub signed_fits : (size n : ℕ) → n < 2 ^ (8 * octets_of size) → within (neg_ℤ (pos (half size))) (pos (half size)) (signed size n) ≡ true
signed_fits size n lt = signed_by n (size == 1) (size == 2) (size == 4) lt

module _ (order : Order) (octets : List ℕ) where
  pub number_again : {size n i : ℕ} → n < 2 ^ (8 * octets_of size) → Has octets i (number order size n i) → Scalar order octets size n i (i + length (number order size n i))
  number_again {size} {n} {i} lt h =
      let e = fitting_is size n lt in
      subst (λ (m : ℕ). Scalar order octets size n i (i + length (written order size m i))) (sym e) (number_stands order octets size n i lt (subst (λ (m : ℕ). Has octets i (written order size m i)) e h))

-- ---- handles

id_fits : (octets : List ℕ) → IsOctets octets → from_be_bytes w128 octets < 2 ^ 128
id_fits octets f =
    omega (arith, f 0, f 1, f 2, f 3, f 4, f 5, f 6, f 7, f 8, f 9, f 10, f 11, f 12, f 13, f 14, f 15)

pub handle_fits : (order : Order) (octets : List ℕ) → IsOctets octets → FitsHandle (wire_of order octets)
unfolding wire_of
handle_fits order octets f = record {
  attributes = wide32.below order (take 4 octets) (IsOctets-take 4 octets f);
  id = id_fits (uuid_octets order (drop 4 octets)) (IsOctets-uuid_octets order (drop 4 octets) (IsOctets-drop 4 octets f));
}

up_4 : (i : ℕ) → i ≤ up i 4
up_4 i = omega arith

-- ---- a signed number and its octets

half_fits : (h : ℕ) (z : ℤ) → within (neg_ℤ (pos h)) (pos h) z ≡ true → mag z < h
half_fits h (pos n) e = grind (arith, ints)
half_fits h (negsuc n) e = grind (arith, ints)

signed_of : (z : ℤ) (a b c : Bool) → within (neg_ℤ (pos (2 ^ (8 * (if a then 1 else (if b then 2 else (if c then 4 else 8))) - 1)))) (pos (2 ^ (8 * (if a then 1 else (if b then 2 else (if c then 4 else 8))) - 1))) z ≡ true
    → cast_signed (if a then w8 else (if b then w16 else (if c then w32 else w64))) (cast_unsigned (if a then w8 else (if b then w16 else (if c then w32 else w64))) z) ≡ z
signed_of z true b c e = to_z-of_z w8 z (record { sfits = half_fits (2 ^ 7) z e })
signed_of z false true c e = to_z-of_z w16 z (record { sfits = half_fits (2 ^ 15) z e })
signed_of z false false true e = to_z-of_z w32 z (record { sfits = half_fits (2 ^ 31) z e })
signed_of z false false false e = to_z-of_z w64 z (record { sfits = half_fits (2 ^ 63) z e })

below_of : (h : ℕ) (z : ℤ) (w : Width) → 2 ^ bits w ≡ h + h → mag z < h → cast_unsigned w z < h + h
below_of h (pos n) w e lt = omega (arith, lt)
below_of h (negsuc n) w e lt = omega (arith, lt, e)

unsigned_of : (z : ℤ) (a b c : Bool) → within (neg_ℤ (pos (2 ^ (8 * (if a then 1 else (if b then 2 else (if c then 4 else 8))) - 1)))) (pos (2 ^ (8 * (if a then 1 else (if b then 2 else (if c then 4 else 8))) - 1))) z ≡ true
    → cast_unsigned (if a then w8 else (if b then w16 else (if c then w32 else w64))) z < 2 ^ (8 * (if a then 1 else (if b then 2 else (if c then 4 else 8))))
unsigned_of z true b c e = below_of (2 ^ 7) z w8 refl (half_fits (2 ^ 7) z e)
unsigned_of z false true c e = below_of (2 ^ 15) z w16 refl (half_fits (2 ^ 15) z e)
unsigned_of z false false true e = below_of (2 ^ 31) z w32 refl (half_fits (2 ^ 31) z e)
unsigned_of z false false false e = below_of (2 ^ 63) z w64 refl (half_fits (2 ^ 63) z e)

pub signed_is : (size : ℕ) (z : ℤ) → HoldsInt size z → signed size (unsigned size z) ≡ z
signed_is size z e = signed_of z (size == 1) (size == 2) (size == 4) e

-- a signed number stands where it is written
pub signed_stands : (order : Order) (octets : List ℕ) (size i : ℕ) (z : ℤ) → HoldsInt size z → Has octets i (signed_number order size z i) → Scalar order octets size (unsigned size z) i (i + length (signed_number order size z i))
signed_stands order octets size i z e h =
    let same : fitting_int size z ≡ z = ap (λ (b : Bool). if b then z else pos 0) e in
    subst (λ (y : ℤ). Scalar order octets size (unsigned size z) i (i + length (written order size (unsigned size y) i))) (sym same)
    (number_stands order octets size (unsigned size z) i (unsigned_of z (size == 1) (size == 2) (size == 4) e) (subst (λ (y : ℤ). Has octets i (written order size (unsigned size y) i)) same h))

-- ---- handles and tags

flag_again : (n : ℕ) → n < 2 → (if n == 0 then 0 else 1) ≡ n
flag_again zero lt = refl
flag_again (suc zero) lt = refl
flag_again (suc (suc n)) lt = absurd (omega (arith, lt))

module _ (types : List Form) (call : Call) (order : Order) (octets : List ℕ) where
  pub wire_stands : (w : WireHandle) (k : ℕ) → FitsHandle w → Has octets k (wire types order call (Some w) k) → IsWire order octets w k (k + length (wire types order call (Some w) k))
  wire_stands w k held h =
      let space : List ℕ = gap 4 k in
      let text = handle_octets order w in
      let at = subst (λ (x : ℕ). Has octets x text) (gap_end k (up k 4) (up_4 k)) (has_second octets k space text h) in
      record {
        ends = omega (arith, length-append space text, gap_end k (up k 4) (up_4 k), length-handle_octets order w);
        within = has_within octets k (space ++ text) h;
        is = sym (ap (wire_of order) (has_there octets (up k 4) 20 text (length-handle_octets order w) at) ∙ handle_again order w held);
      }

  pub tag_stands : {t : Form} {z : ℤ} (k : ℕ) → HoldsTag t z → Has octets k (tag types order call t z k) → IsTag order octets t z k (k + length (tag types order call t z k))
  tag_stands k (holding.tag_bool {n = n} lt) h =
      subst (λ (m : ℕ). IsTag order octets OfBool (pos m) k (k + length (number order 1 n k))) (flag_again n lt) (tag_bool (number_again order octets {size = 1} {n = n} (omega (arith, lt)) h))
  tag_stands k (holding.tag_char {n = n} lt) h = tag_char (number_again order octets {size = 1} {n = n} lt h)
  tag_stands k (holding.tag_int {size = size} {z = z} fits) h =
      subst (λ (y : ℤ). IsTag order octets (OfInt size) y k (k + length (signed_number order size z k))) (signed_is size z fits) (tag_int (signed_stands order octets size k z fits h))
  tag_stands k (holding.tag_uint {size = size} {n = n} lt small) h = tag_uint (number_again order octets {size = size} {n = n} lt h) small
  tag_stands k (holding.tag_enum {n = n} lt few) h = tag_enum (number_again order octets {size = 2} {n = n} lt h) few

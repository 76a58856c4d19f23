-- Identifiers and pointers suit their shapes.
use Rattle.std.proofs.Common.{◌≡◌, ℕ, zero, suc, ◌+◌, ◌<◌, ◌^◌, List, [], ◌∷◌, ◌++◌, length, length-append, length-drop, take, drop, Some, None, refl, sym, ap, subst, ◌∙◌, arith}
use Rattle.std.specs.Int.{w16, w32, from_be_bytes}
use Rattle.rpc_base.specs.declared.identifiers.Order.TheVariants.{Big}
use Rattle.rpc_base.specs.Fields.{IsOctets, number_of}
use Rattle.rpc_base.proofs.FieldLaws.{IsOctets-take, IsOctets-drop, wide16, wide32}
use Rattle.ndr_value.specs.declared.shape.ArrayKind.TheVariants.{Fixed}
use Rattle.ndr_value.specs.Forms.{Form, OfFull}
use Rattle.ndr_value.specs.Values.{Val, VUint, VArray, VFull, Vals, no_val, then_val, bytes, count_of}
use Rattle.ndr_model.specs.Named.{Call, nth}
use Rattle.ndr_model.specs.Fits.{Seen, with_item, Suits, suits_uint, suits_name, suits_struct, suits_array, suits_new, no_member, then_member, SuitsCounts, counts_fixed, SuitAll, no_element, then_element}
use Rattle.desk_kit.specs.MessageParts.{uuid_value, pointers}
use Rattle.desk_kit.specs.Typed.{IsUuid, IsSyntax}
use Rattle.desk_kit.specs.ResponseParts.{UuidSuits, SyntaxSuits, EachSuits, with_items, PointersSuit}
use Rattle.desk_kit.proofs.Suits.{bytes_count, bytes_suit}

-- ---- numbers of octets

word_small : (octets : List ℕ) → IsOctets octets → from_be_bytes w32 octets < 2 ^ 32
unfolding number_of
word_small octets fits = wide32.below Big octets fits

half_small : (octets : List ℕ) → IsOctets octets → from_be_bytes w16 octets < 2 ^ 16
unfolding number_of
half_small octets fits = wide16.below Big octets fits

-- ---- identifiers

abbrev members_of : List ℕ → Vals
members_of id = then_val (VUint (from_be_bytes w32 (take 4 id)))
    (then_val (VUint (from_be_bytes w16 (take 2 (drop 4 id))))
    (then_val (VUint (from_be_bytes w16 (take 2 (drop 6 id))))
    (then_val (VArray (bytes (drop 8 id))) no_val)))

pub uuid_suits : UuidSuits
uuid_suits types call room body id p q at is =
    let fits = is.octets in
    let rest = drop 8 id in
    let eight : 8 ≡ count_of (bytes rest) = omega (arith, bytes_count rest, length-drop 8 id, is.size) in
    suits_name at (suits_struct
    (then_member (suits_uint (word_small (take 4 id) (IsOctets-take 4 id fits)))
    (then_member (suits_uint (half_small (take 2 (drop 4 id)) (IsOctets-take 2 (drop 4 id) (IsOctets-drop 4 id fits))))
    (then_member (suits_uint (half_small (take 2 (drop 6 id)) (IsOctets-take 2 (drop 6 id) (IsOctets-drop 6 id fits))))
    (then_member (suits_array (subst (λ (n : ℕ). SuitsCounts call (members_of id) (Fixed 8) n) eight counts_fixed) (bytes_suit types call room (members_of id) rest p q (IsOctets-drop 8 id fits)))
    no_member)))))

pub syntax_suits : SyntaxSuits
syntax_suits types call room body n s p q uuid at is =
    suits_name at (suits_struct
    (then_member (uuid_suits types call room _ s.id p q uuid is.id)
    (then_member (suits_uint is.major)
    (then_member (suits_uint is.minor)
    no_member))))

-- ---- pointers

pub pointers_suit : PointersSuit
pointers_suit types call room body s no_val n p q at there each = no_element
pointers_suit types call room body s (then_val v vs) n p q at there each =
    let none : n + 0 ≡ n = omega arith in
    let first : nth call.said.heap (length p.shapes) ≡ Some v = ap (nth call.said.heap) (at ∙ sym none) ∙ there 0 in
    let more : length (p.shapes ++ s ∷ []) ≡ suc n = omega (arith, length-append p.shapes (s ∷ []), at) in
    let shift : (i : ℕ) → suc n + i ≡ n + suc i = λ i. omega arith in
    then_element (subst (λ (k : ℕ). Suits types call (suc room) body None (OfFull s) (VFull (Some k)) p (with_item p s) q q) at (suits_new first (each.0 q)))
    (pointers_suit types call room body s vs (suc n) (with_item p s) q more (λ i. ap (nth call.said.heap) (shift i) ∙ there (suc i)) each.1)

-- how many items were seen, and which handles
pub items_long : (p : Seen) (s : Form) (n : ℕ) → length (with_items p s n).shapes ≡ length p.shapes + n
items_long p s zero = omega arith
items_long p s (suc n) = omega (arith, items_long (with_item p s) s n, length-append p.shapes (s ∷ []))

pub items_wires : (p : Seen) (s : Form) (n : ℕ) → (with_items p s n).wires ≡ p.wires
items_wires p s zero = refl
items_wires p s (suc n) = items_wires (with_item p s) s n

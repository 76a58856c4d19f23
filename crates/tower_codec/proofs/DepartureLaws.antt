-- Octets that hold to the encoding, field by field, and where they depart.
use Rattle.std.specs.Prelude.{nat_lt}
use Rattle.std.proofs.Common.{◌≡◌, ◌≢◌, ℕ, ◌+◌, ◌<◌, ◌≤◌, Bool, true, false, not, if◌then◌else◌, Option, Some, List, [], ◌∷◌, ◌++◌, length, take, drop, refl, sym, ap, ◌∙◌, subst, arith, append_assoc}
use Rattle.std.proofs.lemmas.List.{length-append}
use Rattle.std.proofs.Math.Seq.{take-append_seam, drop-append_seam}
use Rattle.std.proofs.lemmas.Bool.Decides.{nat_tests}
use Rattle.std.proofs.lemmas.Slice.Eq.{bytes_eq-Decides}
use Rattle.std.specs.Str.{bytes_eq}
use Rattle.rpc_base.specs.declared.identifiers.Order.TheVariants.{Little}
use Rattle.rpc_base.specs.Fields.{u16_octets}
use Rattle.tower_codec.specs.declared.fault.TowerFault.{TowerFault}
use Rattle.tower_codec.specs.declared.fault.TowerFault.TheVariants.{Short, FloorKind}
use Rattle.tower_codec.specs.Towers.{floor}
use Rattle.tower_codec.specs.Departures.{Field, Fixed, Free, floor_fields, departs}

chosen : (b c : Bool) (x y z : Option TowerFault) → b ≡ false → c ≡ true → (if b then x else (if c then y else z)) ≡ y
chosen false true x y z off on = refl
chosen false false x y z off on = absurd cc
chosen true c x y z off on = absurd cc

other_chosen : (b c : Bool) (x y z : Option TowerFault) → b ≡ false → c ≡ false → (if b then x else (if c then y else z)) ≡ z
other_chosen false false x y z off on = refl
other_chosen false true x y z off on = absurd cc
other_chosen true c x y z off on = absurd cc

is_false : (b : Bool) → ¬ (b ≡ true) → b ≡ false
is_false true never = absurd (never refl)
is_false false never = refl

not_less : (m n : ℕ) → n ≤ m → nat_lt m n ≡ false
not_less m n le = grind (arith, nat_tests)

-- the octets of a fixed field are there
pub pass_fixed : (wanted rest octets : List ℕ) (fault : TowerFault) (behind : List Field) → octets ≡ wanted ++ rest → departs (Fixed wanted fault ∷ behind) octets ≡ departs behind rest
unfolding departs
pass_fixed wanted rest octets fault behind is =
    let long : length wanted ≤ length octets = omega (arith, length-append wanted rest, ap length is) in
    let front : take (length wanted) octets ≡ wanted = ap (take (length wanted)) is ∙ take-append_seam wanted rest in
    let tail : drop (length wanted) octets ≡ rest = ap (drop (length wanted)) is ∙ drop-append_seam wanted rest in
    chosen (nat_lt (length octets) (length wanted)) (bytes_eq (take (length wanted) octets) wanted) (Some Short) (departs behind (drop (length wanted) octets)) (Some fault)
    (not_less (length octets) (length wanted) long) ((bytes_eq-Decides (take (length wanted) octets) wanted).1 front)
    ∙ ap (departs behind) tail

pub short_fixed : (wanted octets : List ℕ) (fault : TowerFault) (behind : List Field) → length octets < length wanted → departs (Fixed wanted fault ∷ behind) octets ≡ Some Short
unfolding departs
short_fixed wanted octets fault behind less = grind (arith, nat_tests)

pub stop_fixed : (wanted octets : List ℕ) (fault : TowerFault) (behind : List Field) → length wanted ≤ length octets → take (length wanted) octets ≢ wanted
    → departs (Fixed wanted fault ∷ behind) octets ≡ Some fault
unfolding departs
stop_fixed wanted octets fault behind long other =
    other_chosen (nat_lt (length octets) (length wanted)) (bytes_eq (take (length wanted) octets) wanted) (Some Short) (departs behind (drop (length wanted) octets)) (Some fault)
    (not_less (length octets) (length wanted) long)
    (is_false (bytes_eq (take (length wanted) octets) wanted) (λ same. other ((bytes_eq-Decides (take (length wanted) octets) wanted).0 same)))

free_chosen : (b : Bool) (x y : Option TowerFault) → b ≡ false → (if b then x else y) ≡ y
free_chosen false x y off = refl
free_chosen true x y off = absurd cc

pub pass_free : (size : ℕ) (part rest octets : List ℕ) (behind : List Field) → length part ≡ size → octets ≡ part ++ rest → departs (Free size ∷ behind) octets ≡ departs behind rest
unfolding departs
pass_free size part rest octets behind long is =
    let enough : size ≤ length octets = omega (arith, long, length-append part rest, ap length is) in
    let tail : drop size octets ≡ rest = ap (λ n. drop n octets) (sym long) ∙ (ap (drop (length part)) is ∙ drop-append_seam part rest) in
    free_chosen (nat_lt (length octets) size) (Some Short) (departs behind (drop size octets)) (not_less (length octets) size enough) ∙ ap (departs behind) tail

pub short_free : (size : ℕ) (octets : List ℕ) (behind : List Field) → length octets < size → departs (Free size ∷ behind) octets ≡ Some Short
unfolding departs
short_free size octets behind less = grind (arith, nat_tests)

-- a floor is there
exact_floor : (number protocol : ℕ) (left right rest octets : List ℕ) (behind : List Field) → octets ≡ floor protocol left right ++ rest
    → departs (floor_fields number protocol (length left) (length right) behind) octets ≡ departs behind rest
exact_floor number protocol left right rest octets behind is =
    let lefts = u16_octets Little (length left + 1) in
    let rights = u16_octets Little (length right) in
    let fault = FloorKind number in
    let parts : octets ≡ lefts ++ ((protocol ∷ left) ++ (rights ++ (right ++ rest))) =
    is ∙ (append_assoc lefts ((protocol ∷ left) ++ (rights ++ right)) rest
    ∙ ap (λ l. lefts ++ l) (append_assoc (protocol ∷ left) (rights ++ right) rest ∙ ap (λ l. (protocol ∷ left) ++ l) (append_assoc rights right rest))) in
    pass_fixed lefts ((protocol ∷ left) ++ (rights ++ (right ++ rest))) octets fault _ parts
    ∙ (pass_fixed (protocol ∷ []) (left ++ (rights ++ (right ++ rest))) ((protocol ∷ left) ++ (rights ++ (right ++ rest))) fault _ refl
    ∙ (pass_free (length left) left (rights ++ (right ++ rest)) (left ++ (rights ++ (right ++ rest))) _ refl refl
    ∙ (pass_fixed rights (right ++ rest) (rights ++ (right ++ rest)) fault _ refl
    ∙ pass_free (length right) right rest (right ++ rest) behind refl refl)))

pub pass_floor : (number protocol l r : ℕ) (left right rest octets : List ℕ) (behind : List Field) → length left ≡ l → length right ≡ r → octets ≡ floor protocol left right ++ rest
    → departs (floor_fields number protocol l r behind) octets ≡ departs behind rest
pass_floor number protocol l r left right rest octets behind long_left long_right is =
    subst (λ n. departs (floor_fields number protocol n r behind) octets ≡ departs behind rest) long_left
    (subst (λ n. departs (floor_fields number protocol (length left) n behind) octets ≡ departs behind rest) long_right (exact_floor number protocol left right rest octets behind is))

-- the parts of a floor that was read, one after the other
pub floor_parts : (protocol l r : ℕ) (left right octets rest1 rest2 rest3 rest4 rest5 : List ℕ) → length left ≡ l → length right ≡ r
    → octets ≡ u16_octets Little (l + 1) ++ rest1 → rest1 ≡ (protocol ∷ []) ++ rest2 → rest2 ≡ left ++ rest3 → rest3 ≡ u16_octets Little r ++ rest4 → rest4 ≡ right ++ rest5
    → octets ≡ floor protocol left right ++ rest5
floor_parts protocol l r left right octets rest1 rest2 rest3 rest4 rest5 long_left long_right e1 e2 e3 e4 e5 =
    let lefts = u16_octets Little (length left + 1) in
    let rights = u16_octets Little (length right) in
    let third : rest3 ≡ rights ++ (right ++ rest5) = e4 ∙ (ap (λ n. u16_octets Little n ++ rest4) (sym long_right) ∙ ap (λ l. rights ++ l) e5) in
    let first : rest1 ≡ (protocol ∷ left) ++ (rights ++ (right ++ rest5)) = e2 ∙ ap (λ l. protocol ∷ l) (e3 ∙ ap (λ l. left ++ l) third) in
    e1 ∙ (ap (λ n. u16_octets Little (n + 1) ++ rest1) (sym long_left) ∙ (ap (λ l. lefts ++ l) first
    ∙ sym (append_assoc lefts ((protocol ∷ left) ++ (rights ++ right)) rest5
    ∙ ap (λ l. lefts ++ l) (append_assoc (protocol ∷ left) (rights ++ right) rest5 ∙ ap (λ l. (protocol ∷ left) ++ l) (append_assoc rights right rest5)))))

pub differs : (equal other : Bool) → other ≡ true → other ≡ not equal → equal ≡ true → ⊥
differs true other is not_is same = let never : false ≡ true = sym not_is ∙ is in absurd cc
differs false other is not_is same = absurd cc

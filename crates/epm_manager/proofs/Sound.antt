-- What holds of all entries holds of those that are found and given.
use Rattle.std.proofs.Common.{◌≡◌, ℕ, zero, suc, ◌+◌, ◌<◌, ◌^◌, Bool, true, false, List, [], ◌∷◌, ◌++◌, length, take, filter, refl, arith, if◌then◌else◌}
use Rattle.std.specs.Prelude.{◌&&◌}
use Rattle.std.specs.Int.{byte_at}
use Rattle.rpc_base.specs.declared.identifiers.Order.{Order}
use Rattle.rpc_base.specs.declared.identifiers.Order.TheVariants.{Big, Little}
use Rattle.rpc_base.specs.declared.identifiers.SyntaxId.{SyntaxId}
use Rattle.rpc_base.specs.Fields.{IsOctets, FitsSyntax, number_octets, u16_octets, uuid_octets}
use Rattle.rpc_base.proofs.FieldLaws.{IsOctets-cons}
use Rattle.desk_kit.specs.Typed.{IsSyntax}
use Rattle.tower_codec.specs.declared.tower.Tower.{Tower}
use Rattle.tower_codec.specs.Towers.{floor, syntax_floor, tower_octets, FitsTower, uuid_protocol, rpc_protocol, tcp_protocol, ip_protocol}
use Rattle.epm_manager.specs.declared.entry.MapEntry.{MapEntry}
use Rattle.epm_manager.specs.declared.entry.Numbered.{Numbered}
use Rattle.epm_manager.proofs.TowerLemmas.{tower_long}
use Rattle.epm_manager.specs.Wholes.{IsTyped, AllTyped, has_note, all_noted}

-- ---- octets

no_octets : IsOctets []
no_octets i = omega arith

octets_append : (xs ys : List ℕ) → IsOctets xs → IsOctets ys → IsOctets (xs ++ ys)
octets_append [] ys f g = g
octets_append (x ∷ xs) ys f g = IsOctets-cons x (xs ++ ys) (f 0) (octets_append xs ys (λ i. f (suc i)) g)

byte_below : (i n : ℕ) → byte_at i n < 256
byte_below zero n = omega arith
byte_below (suc i) n = omega arith

half_octets : (order : Order) (n : ℕ) → IsOctets (u16_octets order n)
unfolding number_octets
half_octets Big n = IsOctets-cons (byte_at 1 n) (byte_at 0 n ∷ []) (byte_below 1 n) (IsOctets-cons (byte_at 0 n) [] (byte_below 0 n) no_octets)
half_octets Little n = IsOctets-cons (byte_at 0 n) (byte_at 1 n ∷ []) (byte_below 0 n) (IsOctets-cons (byte_at 1 n) [] (byte_below 1 n) no_octets)

abbrev Each : List ℕ → Type 0
Each [] = Unit {0}
Each (x ∷ xs) = (x < 256) × Each xs

each_octets : (xs : List ℕ) → Each xs → IsOctets xs
each_octets [] each = no_octets
each_octets (x ∷ xs) each = IsOctets-cons x xs each.0 (each_octets xs each.1)

swapped : (id : List ℕ) → IsOctets id → IsOctets (uuid_octets Little id)
unfolding uuid_octets
swapped id f = each_octets (uuid_octets Little id) (f 3, (f 2, (f 1, (f 0, (f 5, (f 4, (f 7, (f 6, (f 8, (f 9, (f 10, (f 11, (f 12, (f 13, (f 14, (f 15, tt))))))))))))))))

floor_octets : (p : ℕ) (l r : List ℕ) → p < 256 → IsOctets l → IsOctets r → IsOctets (floor p l r)
floor_octets p l r lt left right =
    octets_append _ _ (half_octets Little (length l + 1)) (octets_append (p ∷ l) _ (IsOctets-cons p l lt left) (octets_append _ _ (half_octets Little (length r)) right))

syntax_octets : (s : SyntaxId) → IsOctets s.id → IsOctets (syntax_floor s)
syntax_octets s id = floor_octets uuid_protocol _ _ (omega arith) (octets_append _ _ (swapped s.id id) (half_octets Little s.major)) (half_octets Little s.minor)

fits_syntax : (s : SyntaxId) → IsSyntax s → FitsSyntax s
fits_syntax s is = record { id = is.id.size; major = is.major; minor = is.minor }

-- what the octets of an entry's tower are
pub record TowerFits (t : Tower) : Type 0 where
  pub octets : IsOctets (tower_octets t)
  pub long : length (tower_octets t) ≡ 75

pub tower_fits : (e : MapEntry) → IsTyped e → TowerFits e.tower
unfolding tower_octets
tower_fits e typed = record {
  octets = octets_append _ _ (half_octets Little 5)
      (octets_append _ _ (syntax_octets e.tower.iface typed.iface.id.octets)
      (octets_append _ _ (syntax_octets e.tower.transfer typed.transfer.id.octets)
      (octets_append _ _ (floor_octets rpc_protocol [] _ (omega arith) no_octets (half_octets Little e.tower.minor))
      (octets_append _ _ (floor_octets tcp_protocol [] _ (omega arith) no_octets (half_octets Big e.tower.port))
      (floor_octets ip_protocol [] e.tower.ip (omega arith) no_octets typed.ip)))));
  long = tower_long e.tower (record { iface = fits_syntax e.tower.iface typed.iface; transfer = fits_syntax e.tower.transfer typed.transfer; minor = typed.minor; port = typed.port; ip = typed.ip_size });
}

-- ---- types

typed_if : (b : Bool) (n : Numbered) (ns : List Numbered) → IsTyped n.entry → AllTyped ns → AllTyped (if b then n ∷ ns else ns)
typed_if true n ns one all = (one, all)
typed_if false n ns one all = all

pub typed_filter : (p : Numbered → Bool) (ns : List Numbered) → AllTyped ns → AllTyped (filter p ns)
typed_filter p [] all = tt
typed_filter p (n ∷ ns) all = typed_if (p n) n (filter p ns) all.0 (typed_filter p ns all.1)

pub typed_take : (m : ℕ) (ns : List Numbered) → AllTyped ns → AllTyped (take m ns)
typed_take zero ns all = tt
typed_take (suc m) [] all = tt
typed_take (suc m) (n ∷ ns) all = (all.0, typed_take m ns all.1)

-- ---- notes

pub both : (a b : Bool) → (a && b) ≡ true → (a ≡ true) × (b ≡ true)
both true b e = (refl, e)
both false b e = absurd (cc)

pub and_true : (a b : Bool) → a ≡ true → b ≡ true → (a && b) ≡ true
and_true true b e f = f
and_true false b e f = absurd (cc)

noted_if : (b : Bool) (n : Numbered) (ns : List Numbered) → has_note n.entry ≡ true → all_noted ns ≡ true → all_noted (if b then n ∷ ns else ns) ≡ true
noted_if true n ns one all = and_true (has_note n.entry) (all_noted ns) one all
noted_if false n ns one all = all

pub noted_filter : (p : Numbered → Bool) (ns : List Numbered) → all_noted ns ≡ true → all_noted (filter p ns) ≡ true
noted_filter p [] all = refl
noted_filter p (n ∷ ns) all =
    let b = both (has_note n.entry) (all_noted ns) all in
    noted_if (p n) n (filter p ns) b.0 (noted_filter p ns b.1)

pub noted_take : (m : ℕ) (ns : List Numbered) → all_noted ns ≡ true → all_noted (take m ns) ≡ true
noted_take zero ns all = refl
noted_take (suc m) [] all = refl
noted_take (suc m) (n ∷ ns) all =
    let b = both (has_note n.entry) (all_noted ns) all in
    and_true (has_note n.entry) (all_noted (take m ns)) b.0 (noted_take m ns b.1)

-- ---- both

pub record IsSound (e : MapEntry) : Type 0 where
  pub typed : IsTyped e
  pub note : has_note e ≡ true

abbrev pub AllSound : List Numbered → Type 0
AllSound [] = Unit {0}
AllSound (n ∷ ns) = IsSound n.entry × AllSound ns

pub all_sound : (ns : List Numbered) → AllTyped ns → all_noted ns ≡ true → AllSound ns
all_sound [] typed noted = tt
all_sound (n ∷ ns) typed noted =
    let b = both (has_note n.entry) (all_noted ns) noted in
    (record { typed = typed.0; note = b.0 }, all_sound ns typed.1 b.1)

-- what is given of those that are found
pub given_sound : (m : ℕ) (p : Numbered → Bool) (ns : List Numbered) → AllTyped ns → all_noted ns ≡ true → AllSound (take m (filter p ns))
given_sound m p ns typed noted = all_sound (take m (filter p ns)) (typed_take m (filter p ns) (typed_filter p ns typed)) (noted_take m (filter p ns) (noted_filter p ns noted))

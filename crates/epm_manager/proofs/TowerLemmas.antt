-- The tower of octets is the one that they spell.
use Rattle.std.proofs.Common.{◌≡◌, ℕ, suc, ◌+◌, ◌^◌, ◌<◌, ◌≤◌, Bool, true, false, Option, Some, None, List, [], ◌∷◌, ◌++◌, length, take, drop, length-append, append_assoc, refl, sym, ap, subst, ◌∙◌, arith}
use Rattle.std.specs.Prelude.{◌&&◌, ◌==◌, bytes_eq, if◌then◌else◌, Result, Ok, Err}
use Rattle.std.specs.Int.{w16}
use Rattle.std.proofs.lemmas.List.{take_at, drop_at, append-nil}
use Rattle.std.proofs.lemmas.Bool.Decides.{nat_tests}
use Rattle.std.proofs.lemmas.Slice.Eq.{bytes_eq-Decides}
use Rattle.rpc_base.specs.declared.identifiers.Order.{Order}
use Rattle.rpc_base.specs.declared.identifiers.Order.TheVariants.{Big, Little}
use Rattle.rpc_base.specs.declared.identifiers.SyntaxId.{SyntaxId}
use Rattle.rpc_base.specs.Fields.{IsOctets, FitsSyntax, number_of, uuid_octets, u16_octets}
use Rattle.rpc_base.proofs.FieldLaws.{IsPart, part_at, wide16, length-uuid_octets, uuid_octets_twice}
use Rattle.tower_codec.specs.declared.tower.Tower.{Tower}
use Rattle.tower_codec.specs.declared.fault.TowerFault.{TowerFault}
use Rattle.tower_codec.specs.Towers.{rpc_protocol, tcp_protocol, ip_protocol, uuid_protocol, floor, syntax_floor, tower_octets, FitsTower, IsTower}
use Rattle.epm_manager.specs.Asked.{syntax_at, tower_at, tower_of}
use Rattle.epm_manager.specs.RequestLaws.{TowerIsSpelled, SpelledIsTower}

-- ---- octets at a place

record Has (octets : List ℕ) (i : ℕ) (text : List ℕ) : Type 0 where
  front : List ℕ
  more : List ℕ
  parts : octets ≡ front ++ (text ++ more)
  place : length front ≡ i

has_there : {octets : List ℕ} {i : ℕ} (n : ℕ) (text : List ℕ) → length text ≡ n → Has octets i text → take n (drop i octets) ≡ text
has_there {octets = octets} {i = i} n text len h =
    let rest : drop i octets ≡ text ++ h.more = ap (drop i) h.parts ∙ drop_at h.front (text ++ h.more) i h.place in
    ap (take n) rest ∙ take_at text h.more n len

has_first : {octets : List ℕ} {i : ℕ} (a b : List ℕ) → Has octets i (a ++ b) → Has octets i a
has_first a b h = record { front = h.front; more = b ++ h.more; parts = h.parts ∙ ap (λ (x : List ℕ). h.front ++ x) (append_assoc a b h.more); place = h.place }

has_second : {octets : List ℕ} {i : ℕ} (a b : List ℕ) (j : ℕ) → Has octets i (a ++ b) → i + length a ≡ j → Has octets j b
has_second a b j h at = record {
  front = h.front ++ a;
  more = h.more;
  parts = h.parts ∙ ap (λ (x : List ℕ). h.front ++ x) (append_assoc a b h.more) ∙ sym (append_assoc h.front a (b ++ h.more));
  place = length-append h.front a ∙ ap (λ (x : ℕ). x + length a) h.place ∙ at;
}

has_all : (octets text : List ℕ) → octets ≡ text → Has octets 0 text
has_all octets text e = record { front = []; more = []; parts = e ∙ sym (append-nil text); place = refl }

-- ---- floors

len16 : (order : Order) (n : ℕ) → length (u16_octets order n) ≡ 2
len16 order n = wide16.len order n

-- what stands on the sides of a floor, and behind it
record Sides (octets : List ℕ) (i : ℕ) (l r : List ℕ) (m k : ℕ) : Type 0 where
  left : Has octets (i + 3) l
  right : Has octets (i + 5 + m) r
  size : (p : ℕ) → length (floor p l r) ≡ 5 + m + k

sides : {octets : List ℕ} (i p : ℕ) (l r : List ℕ) (m k : ℕ) → length l ≡ m → length r ≡ k → Has octets i (floor p l r) → Sides octets i l r m k
sides i p l r m k long_l long_r h =
    let count = u16_octets Little (length l + 1) in
    let behind = u16_octets Little (length r) ++ r in
    let one = has_second count ((p ∷ l) ++ behind) (i + 2) h (omega (arith, len16 Little (length l + 1))) in
    let two = has_second (p ∷ l) behind (i + 3 + m) one (omega (arith, long_l)) in
    record {
      left = has_second (p ∷ []) l (i + 3) (has_first (p ∷ l) behind one) (omega arith);
      right = has_second (u16_octets Little (length r)) r (i + 5 + m) two (omega (arith, len16 Little (length r)));
      size = λ q. omega (arith, long_l, long_r, length-append count ((q ∷ l) ++ behind), length-append (q ∷ l) behind, length-append (u16_octets Little (length r)) r, len16 Little (length l + 1), len16 Little (length r));
    }

long_left : (s : SyntaxId) → FitsSyntax s → length (uuid_octets Little s.id ++ u16_octets Little s.major) ≡ 18
long_left s fits = omega (arith, length-append (uuid_octets Little s.id) (u16_octets Little s.major), length-uuid_octets Little s.id fits.id, len16 Little s.major)

syntax_sides : {octets : List ℕ} (i : ℕ) (s : SyntaxId) → FitsSyntax s → Has octets i (syntax_floor s) → Sides octets i (uuid_octets Little s.id ++ u16_octets Little s.major) (u16_octets Little s.minor) 18 2
syntax_sides i s fits h = sides i uuid_protocol (uuid_octets Little s.id ++ u16_octets Little s.major) (u16_octets Little s.minor) 18 2 (long_left s fits) (len16 Little s.minor) h

number_there : (order : Order) (octets : List ℕ) (i n : ℕ) → n < 2 ^ 16 → Has octets i (u16_octets order n) → number_of order w16 (take 2 (drop i octets)) ≡ n
number_there order octets i n lt h = ap (number_of order w16) (has_there 2 (u16_octets order n) (len16 order n) h) ∙ wide16.again order n lt

syntax_there : (octets : List ℕ) (i : ℕ) (s : SyntaxId) → FitsSyntax s → Has octets i (syntax_floor s) → syntax_at i octets ≡ s
syntax_there octets i s fits h =
    let at = syntax_sides i s fits h in
    let uuid = uuid_octets Little s.id in
    let major = u16_octets Little s.major in
    let id : uuid_octets Little (take 16 (drop (i + 3) octets)) ≡ s.id =
    ap (uuid_octets Little) (has_there 16 uuid (length-uuid_octets Little s.id fits.id) (has_first uuid major at.left)) ∙ uuid_octets_twice Little s.id fits.id in
    let major_is : number_of Little w16 (take 2 (drop (i + 19) octets)) ≡ s.major =
    number_there Little octets (i + 19) s.major fits.major (has_second uuid major (i + 19) at.left (omega (arith, length-uuid_octets Little s.id fits.id))) in
    let minor_at : Has octets (i + 23) (u16_octets Little s.minor) = subst (λ (n : ℕ). Has octets n (u16_octets Little s.minor)) (omega arith) at.right in
    let minor_is : number_of Little w16 (take 2 (drop (i + 23) octets)) ≡ s.minor = number_there Little octets (i + 23) s.minor fits.minor minor_at in
    λ j. record { id = id j; major = major_is j; minor = minor_is j }

-- ---- towers

-- the fields of what spells a tower are the tower's
record Fields (octets : List ℕ) (t : Tower) : Type 0 where
  same : tower_at octets ≡ t
  size : length octets ≡ 75

fields : (octets : List ℕ) (t : Tower) → IsTower t octets → Fields octets t
unfolding tower_octets
fields octets t is =
    let fits = is.fits in
    let five = floor ip_protocol [] t.ip in
    let port = u16_octets Big t.port in
    let minor = u16_octets Little t.minor in
    let four = floor tcp_protocol [] port ++ five in
    let three = floor rpc_protocol [] minor ++ four in
    let two = syntax_floor t.transfer ++ three in
    let one = syntax_floor t.iface ++ two in
    let at0 : Has octets 0 (u16_octets Little 5 ++ one) = has_all octets (u16_octets Little 5 ++ one) is.spelled in
    let at1 = has_second (u16_octets Little 5) one 2 at0 (omega (arith, len16 Little 5)) in
    let iface = has_first (syntax_floor t.iface) two at1 in
    let iface_sides = syntax_sides 2 t.iface fits.iface iface in
    let at2 = has_second (syntax_floor t.iface) two 27 at1 (omega (arith, iface_sides.size uuid_protocol)) in
    let transfer = has_first (syntax_floor t.transfer) three at2 in
    let transfer_sides = syntax_sides 27 t.transfer fits.transfer transfer in
    let at3 = has_second (syntax_floor t.transfer) three 52 at2 (omega (arith, transfer_sides.size uuid_protocol)) in
    let minor_sides = sides 52 rpc_protocol [] minor 0 2 refl (len16 Little t.minor) (has_first (floor rpc_protocol [] minor) four at3) in
    let at4 = has_second (floor rpc_protocol [] minor) four 59 at3 (omega (arith, minor_sides.size rpc_protocol)) in
    let port_sides = sides 59 tcp_protocol [] port 0 2 refl (len16 Big t.port) (has_first (floor tcp_protocol [] port) five at4) in
    let at5 = has_second (floor tcp_protocol [] port) five 66 at4 (omega (arith, port_sides.size tcp_protocol)) in
    let ip_sides = sides 66 ip_protocol [] t.ip 0 4 refl fits.ip at5 in
    let iface_is = syntax_there octets 2 t.iface fits.iface iface in
    let transfer_is = syntax_there octets 27 t.transfer fits.transfer transfer in
    let minor_is = number_there Little octets 57 t.minor fits.minor minor_sides.right in
    let port_is = number_there Big octets 64 t.port fits.port port_sides.right in
    let ip_is : take 4 (drop 71 octets) ≡ t.ip = has_there 4 t.ip fits.ip ip_sides.right in
    record {
      same = λ j. record { iface = iface_is j; transfer = transfer_is j; minor = minor_is j; port = port_is j; ip = ip_is j };
      size = omega (
        arith,
        ap length is.spelled,
        length-append (u16_octets Little 5) one,
        len16 Little 5,
        length-append (syntax_floor t.iface) two,
        iface_sides.size uuid_protocol,
        length-append (syntax_floor t.transfer) three,
        transfer_sides.size uuid_protocol,
        length-append (floor rpc_protocol [] minor) four,
        minor_sides.size rpc_protocol,
        length-append (floor tcp_protocol [] port) five,
        port_sides.size tcp_protocol,
        ip_sides.size ip_protocol,
      );
    }

-- ---- which towers are read

chosen : (a b : Bool) (t : Tower) → a ≡ true → b ≡ true → (if a && b then Some t else None) ≡ Some t
chosen true true t e f = refl
chosen true false t e f = absurd (cc)
chosen false b t e f = absurd (cc)

record Both (a b : Bool) (s t : Tower) : Type 0 where
  first : a ≡ true
  second : b ≡ true
  same : s ≡ t

both : (a b : Bool) (s t : Tower) → (if a && b then Some s else None) ≡ Some t → Both a b s t
both true true s t e = record { first = refl; second = refl; same = cc }
both true false s t e = absurd (cc)
both false b s t e = absurd (cc)

eq_true : (m n : ℕ) → m ≡ n → (m == n) ≡ true
eq_true m n e = grind (arith, nat_tests)

true_eq : (m n : ℕ) → (m == n) ≡ true → m ≡ n
true_eq m n e = grind (arith, nat_tests)

pub spelled_is : SpelledIsTower
spelled_is octets t is =
    let f = fields octets t is in
    let again : tower_octets (tower_at octets) ≡ octets = ap tower_octets f.same ∙ sym is.spelled in
    chosen (length octets == 75) (bytes_eq (tower_octets (tower_at octets)) octets) (tower_at octets) (eq_true (length octets) 75 f.size) ((bytes_eq-Decides (tower_octets (tower_at octets)) octets).1 again) ∙ ap Some f.same

fits_at : (i : ℕ) (octets : List ℕ) → i + 25 ≤ length octets → IsOctets octets → FitsSyntax (syntax_at i octets)
fits_at i octets le fits =
    let id = part_at 16 (i + 3) octets (omega arith) fits in
    record {
      id = length-uuid_octets Little (take 16 (drop (i + 3) octets)) id.len;
      major = wide16.below Little (take 2 (drop (i + 19) octets)) (part_at 2 (i + 19) octets (omega arith) fits).fits;
      minor = wide16.below Little (take 2 (drop (i + 23) octets)) (part_at 2 (i + 23) octets (omega arith) fits).fits;
    }

fits_tower : (octets : List ℕ) → length octets ≡ 75 → IsOctets octets → FitsTower (tower_at octets)
fits_tower octets size fits = record {
  iface = fits_at 2 octets (omega arith) fits;
  transfer = fits_at 27 octets (omega arith) fits;
  minor = wide16.below Little (take 2 (drop 57 octets)) (part_at 2 57 octets (omega arith) fits).fits;
  port = wide16.below Big (take 2 (drop 64 octets)) (part_at 2 64 octets (omega arith) fits).fits;
  ip = (part_at 4 71 octets (omega arith) fits).len;
}

pub tower_is : TowerIsSpelled
tower_is octets t fits e =
    let b = both (length octets == 75) (bytes_eq (tower_octets (tower_at octets)) octets) (tower_at octets) t e in
    let size : length octets ≡ 75 = true_eq (length octets) 75 b.first in
    let spelled : tower_octets (tower_at octets) ≡ octets = (bytes_eq-Decides (tower_octets (tower_at octets)) octets).0 b.second in
    subst (λ (s : Tower). IsTower s octets) b.same (record { fits = fits_tower octets size fits; spelled = sym spelled })

-- what is read is the tower of the octets
pub read_none : (octets : List ℕ) (fault : TowerFault) (o : Option Tower) → o ≡ tower_of octets → IsOctets octets → ((t : Tower) → IsTower t octets → Err fault ≡ Ok t) → None ≡ o
read_none octets fault None e fits only = refl
read_none octets fault (Some t) e fits only = absurd (let no = only t (tower_is octets t fits (sym e)) in cc)

-- a tower has 75 octets
pub tower_long : (t : Tower) → FitsTower t → length (tower_octets t) ≡ 75
tower_long t fits = (fields (tower_octets t) t (record { fits = fits; spelled = refl })).size

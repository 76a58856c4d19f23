-- A tower and its octets tell each other.
use Rattle.std.specs.Prelude.{Result, Ok, Err, IfOk, IfErr}
use Rattle.std.specs.Int.{w16}
use Rattle.std.proofs.Common.{◌≡◌, ℕ, zero, suc, ◌+◌, ◌≤◌, ◌^◌, ◌<◌, Some, None, List, [], ◌∷◌, ◌++◌, length, take, drop, refl, sym, ap, ◌∙◌, arith}
use Rattle.std.proofs.lemmas.List.{append-nil, length-append, length-take, length-drop, take-append-drop}
use Rattle.std.proofs.Math.Seq.{take-append_seam, drop-append_seam}
use Rattle.rpc_base.specs.declared.identifiers.Order.{Order}
use Rattle.rpc_base.specs.declared.identifiers.Order.TheVariants.{Big, Little}
use Rattle.rpc_base.specs.declared.identifiers.SyntaxId.{SyntaxId}
use Rattle.rpc_base.specs.Fields.{FitsSyntax, uuid_octets, u16_octets}
use Rattle.rpc_base.proofs.FieldLaws.{wide16, number_told, length-uuid_octets, uuid_octets_twice}
use Rattle.tower_codec.specs.declared.tower.Tower.{Tower}
use Rattle.tower_codec.specs.declared.fault.TowerFault.{TowerFault}
use Rattle.tower_codec.specs.declared.fault.TowerFault.TheVariants.{Floors, Trailing}
use Rattle.tower_codec.specs.Towers.{uuid_protocol, rpc_protocol, tcp_protocol, ip_protocol, floor, syntax_floor, tower_octets, IsTower, IsSyntaxFloor}
use Rattle.tower_codec.specs.Departures.{Field, floor_fields, departs, departure}
use Rattle.tower_codec.proofs.DepartureLaws.{pass_fixed, pass_floor}

pub len16 : (order : Order) (n : ℕ) → length (u16_octets order n) ≡ 2
len16 order n = wide16.len order n

-- the data on the left of a syntax's floor
pub left_long : (syntax : SyntaxId) → FitsSyntax syntax → length (uuid_octets Little syntax.id ++ u16_octets Little syntax.major) ≡ 18
left_long syntax fits = omega (arith, length-append (uuid_octets Little syntax.id) (u16_octets Little syntax.major), length-uuid_octets Little syntax.id fits.id, len16 Little syntax.major)

-- the parts of a tower that was read, one after the other
pub whole_tower : (tower : Tower) (octets rest0 rest1 rest2 rest3 rest4 rest5 : List ℕ)
    → octets ≡ u16_octets Little 5 ++ rest0 → rest0 ≡ syntax_floor tower.iface ++ rest1 → rest1 ≡ syntax_floor tower.transfer ++ rest2
    → rest2 ≡ floor rpc_protocol [] (u16_octets Little tower.minor) ++ rest3 → rest3 ≡ floor tcp_protocol [] (u16_octets Big tower.port) ++ rest4
    → rest4 ≡ floor ip_protocol [] tower.ip ++ rest5 → rest5 ≡ [] → octets ≡ tower_octets tower
unfolding tower_octets
whole_tower tower octets rest0 rest1 rest2 rest3 rest4 rest5 e0 e1 e2 e3 e4 e5 none =
    e0 ∙ ap (λ l. u16_octets Little 5 ++ l) (e1 ∙ ap (λ l. syntax_floor tower.iface ++ l) (e2 ∙ ap (λ l. syntax_floor tower.transfer ++ l)
    (e3 ∙ ap (λ l. floor rpc_protocol [] (u16_octets Little tower.minor) ++ l) (e4 ∙ ap (λ l. floor tcp_protocol [] (u16_octets Big tower.port) ++ l)
    (e5 ∙ (ap (λ l. floor ip_protocol [] tower.ip ++ l) none ∙ append-nil (floor ip_protocol [] tower.ip)))))))

pub pass_syntax : (number : ℕ) (syntax : SyntaxId) (rest octets : List ℕ) (behind : List Field) → FitsSyntax syntax → octets ≡ syntax_floor syntax ++ rest
    → departs (floor_fields number uuid_protocol 18 2 behind) octets ≡ departs behind rest
pass_syntax number syntax rest octets behind fits is =
    pass_floor number uuid_protocol 18 2 (uuid_octets Little syntax.id ++ u16_octets Little syntax.major) (u16_octets Little syntax.minor) rest octets behind
    (left_long syntax fits) (len16 Little syntax.minor) is

pub pass_number : (number protocol value : ℕ) (order : Order) (rest octets : List ℕ) (behind : List Field) → octets ≡ floor protocol [] (u16_octets order value) ++ rest
    → departs (floor_fields number protocol 0 2 behind) octets ≡ departs behind rest
pass_number number protocol value order rest octets behind is =
    pass_floor number protocol 0 2 [] (u16_octets order value) rest octets behind refl (len16 order value) is

pub pass_address : (number : ℕ) (address rest octets : List ℕ) (behind : List Field) → length address ≡ 4 → octets ≡ floor ip_protocol [] address ++ rest
    → departs (floor_fields number ip_protocol 0 4 behind) octets ≡ departs behind rest
pass_address number address rest octets behind long is = pass_floor number ip_protocol 0 4 [] address rest octets behind refl long is

ends : departs [] [] ≡ None
unfolding departs
ends = refl

-- the octets of a tower don't depart
pub no_departure : (tower : Tower) (octets : List ℕ) → IsTower tower octets → departure octets ≡ None
unfolding tower_octets
no_departure tower octets is =
    let fits = is.fits in
    let five = floor ip_protocol [] tower.ip in
    let four = floor tcp_protocol [] (u16_octets Big tower.port) ++ five in
    let three = floor rpc_protocol [] (u16_octets Little tower.minor) ++ four in
    let two = syntax_floor tower.transfer ++ three in
    let one = syntax_floor tower.iface ++ two in
    pass_fixed (u16_octets Little 5) one octets Floors _ is.spelled
    ∙ (pass_syntax 1 tower.iface two one _ fits.iface refl
    ∙ (pass_syntax 2 tower.transfer three two _ fits.transfer refl
    ∙ (pass_number 3 rpc_protocol tower.minor Little four three _ refl
    ∙ (pass_number 4 tcp_protocol tower.port Big five four _ refl
    ∙ (pass_address 5 tower.ip [] five [] fits.ip (sym (append-nil five)) ∙ ends)))))

-- lists that begin with parts of one length
split : (xs ys r s : List ℕ) → length xs ≡ length ys → xs ++ r ≡ ys ++ s → (xs ≡ ys) × (r ≡ s)
split xs ys r s long same = (
  sym (take-append_seam xs r) ∙ (ap (λ n. take n (xs ++ r)) long ∙ (ap (take (length ys)) same ∙ take-append_seam ys s)),
  sym (drop-append_seam xs r) ∙ (ap (λ n. drop n (xs ++ r)) long ∙ (ap (drop (length ys)) same ∙ drop-append_seam ys s)),
)

floor_told : (protocol : ℕ) (l r k s : List ℕ) → length l ≡ length k → length r ≡ length s → floor protocol l r ≡ floor protocol k s → (l ≡ k) × (r ≡ s)
floor_told protocol l r k s left right same =
    let counted = split (u16_octets Little (length l + 1)) (u16_octets Little (length k + 1)) _ _ (len16 Little (length l + 1) ∙ sym (len16 Little (length k + 1))) same in
    let sides = split (protocol ∷ l) (protocol ∷ k) (u16_octets Little (length r) ++ r) (u16_octets Little (length s) ++ s) (ap suc left) counted.1 in
    let last = split (u16_octets Little (length r)) (u16_octets Little (length s)) r s (len16 Little (length r) ∙ sym (len16 Little (length s))) sides.1 in
    (ap (drop 1) sides.0, last.1)

floor_long : (protocol : ℕ) (l r k s : List ℕ) → length l ≡ length k → length r ≡ length s → length (floor protocol l r) ≡ length (floor protocol k s)
floor_long protocol l r k s left right =
    let one = length-append (u16_octets Little (length l + 1)) ((protocol ∷ l) ++ (u16_octets Little (length r) ++ r)) in
    let two = length-append (protocol ∷ l) (u16_octets Little (length r) ++ r) in
    let three = length-append (u16_octets Little (length r)) r in
    let four = length-append (u16_octets Little (length k + 1)) ((protocol ∷ k) ++ (u16_octets Little (length s) ++ s)) in
    let five = length-append (protocol ∷ k) (u16_octets Little (length s) ++ s) in
    let six = length-append (u16_octets Little (length s)) s in
    omega (arith, left, right, one, two, three, four, five, six, len16 Little (length l + 1), len16 Little (length k + 1), len16 Little (length r), len16 Little (length s))

-- two floors at the front of octets
front_told : (protocol : ℕ) (l r k s more rest : List ℕ) → length l ≡ length k → length r ≡ length s → floor protocol l r ++ more ≡ floor protocol k s ++ rest
    → (l ≡ k) × (r ≡ s) × (more ≡ rest)
front_told protocol l r k s more rest left right same =
    let parts = split (floor protocol l r) (floor protocol k s) more rest (floor_long protocol l r k s left right) same in
    let sides = floor_told protocol l r k s left right parts.0 in
    (sides.0, sides.1, parts.1)

uuid_told : (x y : List ℕ) → length x ≡ 16 → length y ≡ 16 → uuid_octets Little x ≡ uuid_octets Little y → x ≡ y
uuid_told x y long_x long_y same = sym (uuid_octets_twice Little x long_x) ∙ (ap (uuid_octets Little) same ∙ uuid_octets_twice Little y long_y)

u16_told : (order : Order) (m n : ℕ) → m < 2 ^ 16 → n < 2 ^ 16 → u16_octets order m ≡ u16_octets order n → m ≡ n
u16_told order m n m_fits n_fits same = number_told w16 (2 ^ 16) wide16 order m n m_fits n_fits same

syntax_told : (s t : SyntaxId) (more rest : List ℕ) → FitsSyntax s → FitsSyntax t → syntax_floor s ++ more ≡ syntax_floor t ++ rest → (s ≡ t) × (more ≡ rest)
syntax_told s t more rest s_fits t_fits same =
    let parts = front_told uuid_protocol (uuid_octets Little s.id ++ u16_octets Little s.major) (u16_octets Little s.minor) (uuid_octets Little t.id ++ u16_octets Little t.major) (u16_octets Little t.minor) more rest
    (left_long s s_fits ∙ sym (left_long t t_fits)) (len16 Little s.minor ∙ sym (len16 Little t.minor)) same in
    let left = split (uuid_octets Little s.id) (uuid_octets Little t.id) (u16_octets Little s.major) (u16_octets Little t.major)
    (length-uuid_octets Little s.id s_fits.id ∙ sym (length-uuid_octets Little t.id t_fits.id)) parts.0 in
    let id = uuid_told s.id t.id s_fits.id t_fits.id left.0 in
    let major = u16_told Little s.major t.major s_fits.major t_fits.major left.1 in
    let minor = u16_told Little s.minor t.minor s_fits.minor t_fits.minor parts.1 in
    (λ i. record { id = id i; major = major i; minor = minor i }, parts.2)

-- octets spell one tower
pub one_tower : (s t : Tower) (octets : List ℕ) → IsTower s octets → IsTower t octets → s ≡ t
unfolding tower_octets
one_tower s t octets s_is t_is =
    let s_fits = s_is.fits in
    let t_fits = t_is.fits in
    let counted = split (u16_octets Little 5) (u16_octets Little 5) _ _ refl (sym s_is.spelled ∙ t_is.spelled) in
    let iface = syntax_told s.iface t.iface _ _ s_fits.iface t_fits.iface counted.1 in
    let transfer = syntax_told s.transfer t.transfer _ _ s_fits.transfer t_fits.transfer iface.1 in
    let minor = front_told rpc_protocol [] (u16_octets Little s.minor) [] (u16_octets Little t.minor) _ _ refl (len16 Little s.minor ∙ sym (len16 Little t.minor)) transfer.1 in
    let port = front_told tcp_protocol [] (u16_octets Big s.port) [] (u16_octets Big t.port) _ _ refl (len16 Big s.port ∙ sym (len16 Big t.port)) minor.2 in
    let ip = floor_told ip_protocol [] s.ip [] t.ip refl (s_fits.ip ∙ sym t_fits.ip) port.2 in
    let minor_is = u16_told Little s.minor t.minor s_fits.minor t_fits.minor minor.1 in
    let port_is = u16_told Big s.port t.port s_fits.port t_fits.port port.1 in
    λ i. record { iface = iface.0 i; transfer = transfer.0 i; minor = minor_is i; port = port_is i; ip = ip.1 i }

-- what is read where it is found, and where a fault is a departure
pub only_tower : (result : Result Tower TowerFault) (octets : List ℕ) → IfOk result (λ tower. IsTower tower octets) → IfErr result (λ fault. departure octets ≡ Some fault)
    → (tower : Tower) → IsTower tower octets → result ≡ Ok tower
only_tower (Ok found) octets found_is fault_is tower is = ap Ok (one_tower found tower octets found_is is)
only_tower (Err fault) octets found_is fault_is tower is = absurd (let none = no_departure tower octets is in cc)

pub trailing : (rest : List ℕ) → 0 < length rest → departs [] rest ≡ Some Trailing
unfolding departs
trailing [] some = absurd (omega arith)
trailing (x ∷ rest) some = refl

take_all : (n : ℕ) (xs : List ℕ) → length xs ≡ n → take n xs ≡ xs
take_all zero [] long = refl
take_all (suc n) [] long = refl
take_all zero (x ∷ xs) long = absurd (omega arith)
take_all (suc n) (x ∷ xs) long = ap (λ l. x ∷ l) (take_all n xs (omega arith))

-- the fields that were read of the sides of a floor
pub sides_read : (left right id : List ℕ) (major minor : ℕ) → length left ≡ 18 → length right ≡ 2 → id ≡ uuid_octets Little (take 16 (drop 0 left)) → uuid_octets Little id ≡ take 16 (drop 0 left)
    → u16_octets Little major ≡ take 2 (drop 16 left) → u16_octets Little minor ≡ take 2 (drop 0 right)
    → (length id ≡ 16) × (left ≡ uuid_octets Little id ++ u16_octets Little major) × (right ≡ u16_octets Little minor)
sides_read left right id major minor long_left long_right id_is id_octets major_octets minor_octets = (
  ap length id_is ∙ length-uuid_octets Little (take 16 left) (omega (arith, length-take 16 left)),
  sym (take-append-drop 16 left)
      ∙ (ap (λ l. l ++ drop 16 left) (sym id_octets) ∙ ap (λ l. uuid_octets Little id ++ l) (sym (take_all 2 (drop 16 left) (omega (arith, length-drop 16 left))) ∙ sym major_octets)),
  sym (take_all 2 right long_right) ∙ sym minor_octets,
)

-- a floor whose sides say a syntax is that syntax's floor
pub syntax_here : (syntax : SyntaxId) (left right octets rest : List ℕ) → IsSyntaxFloor syntax left right → octets ≡ floor uuid_protocol left right ++ rest → octets ≡ syntax_floor syntax ++ rest
syntax_here syntax left right octets rest says is = is ∙ (λ i. floor uuid_protocol (says.left_is i) (says.right_is i) ++ rest)

pub nothing_left : (rest : List ℕ) → length rest ≤ 0 → rest ≡ []
nothing_left [] none = refl
nothing_left (x ∷ rest) none = absurd (omega arith)

-- What writing adds, and what stays where it fails.
use Rattle.std.proofs.Common.{◌≡◌, ℕ, ◌+◌, ◌≤◌, List, [], ◌∷◌, ◌++◌, length, take, sym, ap, ◌∙◌, append_assoc, arith}
use Rattle.std.proofs.lemmas.List.{length-append, take-take}
use Rattle.std.proofs.Math.Seq.{take-append_seam}
use Rattle.rpc_base.specs.declared.identifiers.Order.{Order}
use Rattle.rpc_base.specs.declared.identifiers.Order.TheVariants.{Little}
use Rattle.rpc_base.specs.declared.identifiers.SyntaxId.{SyntaxId}
use Rattle.rpc_base.specs.Fields.{uuid_octets, u16_octets}
use Rattle.rpc_base.proofs.FieldLaws.{length-uuid_octets}
use Rattle.tower_codec.specs.Towers.{uuid_protocol, floor, syntax_floor}
use Rattle.tower_codec.specs.Writing.{KeepsFront}
use Rattle.tower_codec.proofs.TowerLaws.{len16}

pub keeps_then : (old more mid new : List ℕ) → mid ≡ old ++ more → KeepsFront mid new → KeepsFront old new
keeps_then old more mid new mid_is kept =
    let within : length old ≤ length mid = omega (arith, ap length mid_is, length-append old more) in
    sym (take-take (length old) (length mid) new within) ∙ ap (take (length old)) (kept ∙ mid_is) ∙ take-append_seam old more

-- four parts, one after the other
four : (old a b c d first second third new : List ℕ) → first ≡ old ++ a → second ≡ first ++ b → third ≡ second ++ c → new ≡ third ++ d → new ≡ old ++ (a ++ (b ++ (c ++ d)))
four old a b c d first second third new e1 e2 e3 e4 =
    e4 ∙ (ap (λ m. m ++ d) e3 ∙ (append_assoc second c d
    ∙ (ap (λ m. m ++ (c ++ d)) e2 ∙ (append_assoc first b (c ++ d)
    ∙ (ap (λ m. m ++ (b ++ (c ++ d))) e1 ∙ append_assoc old a (b ++ (c ++ d)))))))

pub number_put : (protocol value : ℕ) (order : Order) (old first second third new : List ℕ) → first ≡ old ++ u16_octets Little 1 → second ≡ first ++ protocol ∷ [] → third ≡ second ++ u16_octets Little 2
    → new ≡ third ++ u16_octets order value → new ≡ old ++ floor protocol [] (u16_octets order value)
number_put protocol value order old first second third new e1 e2 e3 e4 =
    four old (u16_octets Little 1) (protocol ∷ []) (u16_octets Little 2) (u16_octets order value) first second third new e1 e2 e3 e4
    ∙ ap (λ n. old ++ (u16_octets Little 1 ++ ((protocol ∷ []) ++ (u16_octets Little n ++ u16_octets order value)))) (sym (len16 order value))

pub syntax_put : (syntax : SyntaxId) (old first second third fourth fifth new : List ℕ) → length syntax.id ≡ 16 → first ≡ old ++ u16_octets Little 19 → second ≡ first ++ uuid_protocol ∷ []
    → third ≡ second ++ uuid_octets Little syntax.id → fourth ≡ third ++ u16_octets Little syntax.major → fifth ≡ fourth ++ u16_octets Little 2 → new ≡ fifth ++ u16_octets Little syntax.minor
    → new ≡ old ++ syntax_floor syntax
syntax_put syntax old first second third fourth fifth new long e1 e2 e3 e4 e5 e6 =
    let id = uuid_octets Little syntax.id in
    let major = u16_octets Little syntax.major in
    let minor = u16_octets Little syntax.minor in
    let left : List ℕ = id ++ major in
    let left_long : 18 ≡ length left = omega (arith, length-append id major, length-uuid_octets Little syntax.id long, len16 Little syntax.major) in
    let sides : fourth ≡ first ++ (uuid_protocol ∷ left) =
    e4 ∙ (ap (λ m. m ++ major) e3 ∙ (append_assoc second id major ∙ (ap (λ m. m ++ left) e2 ∙ append_assoc first (uuid_protocol ∷ []) left))) in
    four old (u16_octets Little 19) (uuid_protocol ∷ left) (u16_octets Little 2) minor first fourth fifth new e1 sides e5 e6
    ∙ (ap (λ n. old ++ (u16_octets Little (n + 1) ++ ((uuid_protocol ∷ left) ++ (u16_octets Little 2 ++ minor)))) left_long
    ∙ ap (λ n. old ++ (u16_octets Little (length left + 1) ++ ((uuid_protocol ∷ left) ++ (u16_octets Little n ++ minor)))) (sym (len16 Little syntax.minor)))

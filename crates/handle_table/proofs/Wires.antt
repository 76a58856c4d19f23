-- A wire handle of the group tells its serial.
use Rattle.std.proofs.Common.{◌≡◌, ◌≢◌, ℕ, ◌+◌, ◌*◌, ◌%◌, ◌^◌, ◌<◌, true, false, ◌==◌, None, List, [], ◌∷◌, refl, sym, ◌∙◌, ap, arith, inl, inr}
use Rattle.std.proofs.lemmas.Nat.{mod-mul-add}
use Rattle.std.proofs.lemmas.Grind.{common_steps}
use Rattle.std.proofs.lemmas.Bool.Decides.{eqb_tells}
use Rattle.std.proofs.lemmas.Bool.{false_from_ne_true}
use Rattle.rpc_base.specs.declared.identifiers.WireHandle.{WireHandle}
use Rattle.handle_model.specs.declared.entry.Home.{Home}
use Rattle.handle_model.specs.declared.entry.DueItem.{DueItem}
use Rattle.handle_model.specs.Slots.{wire_of, same_wire}
use Rattle.handle_model.proofs.Apart.{same_wire_is, same_wire_from}
use Rattle.handle_table.specs.Handles.{item_at, item_of, is_wire}
use Rattle.handle_table.specs.Kept.{Rises}

pub wire_is : (a b : WireHandle) → same_wire a b ≡ true → a ≡ b
wire_is a b h =
    let e = same_wire_is a b h in
    let made : ℕ → ℕ → WireHandle = λ x y. record { attributes = x; id = y } in
    ap (λ x. made x a.id) e.0 ∙ ap (made b.attributes) e.1

wire_serial : (home : Home) (s : ℕ) → s < 2 ^ 32 → (wire_of home s).id % 2 ^ 32 ≡ s
wire_serial home s small =
    let e : (wire_of home s).id ≡ (home.boot * 2 ^ 32 + home.group) * 2 ^ 32 + s = omega arith in
    ap (λ n. n % 2 ^ 32) e ∙ mod-mul-add (home.boot * 2 ^ 32 + home.group) (2 ^ 32) s small

-- two handles of a group are known alike where they have one serial
pub same_serial_wire : (home : Home) (g h : ℕ) → same_wire (wire_of home g) (wire_of home h) ≡ (h == g)
same_serial_wire home g h =
    elim (eqb_tells h g) [
      | inl e ↦ let q = e.1 in rw e.0 (same_wire_from (wire_of home g) (wire_of home h) refl (omega arith))
      | inr e ↦
          let d = e.1 in
          rw e.0 (false_from_ne_true (same_wire (wire_of home g) (wire_of home h)) (λ s. let w = same_wire_is (wire_of home g) (wire_of home h) s in let id = w.1 in let same : h ≡ g = omega arith in d same))
    ]

pub known : (home : Home) (items : List DueItem) (h : ℕ) → item_of home items (wire_of home h) ≡ item_at items h
known home [] h = refl
known home (i ∷ items) h = rw (same_serial_wire home h i.serial, known home items h) refl

pub not_known : (home : Home) (low : ℕ) (items : List DueItem) (wire : WireHandle) (h : ℕ) → Rises low items → h ≡ wire.id % 2 ^ 32 → wire ≢ wire_of home h → item_of home items wire ≡ None
not_known home low [] wire h r e n = refl
not_known home low (i ∷ items) wire h r e n =
    let here : is_wire home wire i ≡ false =
    false_from_ne_true (is_wire home wire i) (λ s.
    let same = wire_is wire (wire_of home i.serial) s in
    let serial : h ≡ i.serial = e ∙ (ap (λ (w : WireHandle). w.id % 2 ^ 32) same ∙ wire_serial home i.serial r.1) in
    n (same ∙ ap (wire_of home) (sym serial))) in
    rw here (not_known home (i.serial + 1) items wire h r.2 e n)

pub ruleset naming = (known, not_known, common_steps)

-- The slots of a request, before they have serials.
use Rattle.std.proofs.Common.{◌≡◌, ℕ, zero, suc, ◌+◌, ◌≤◌, ◌<◌, Bool, true, false, List, [], ◌∷◌, length, Option, Some, None, refl, sym, ap, subst, ◌∙◌, arith}
use Rattle.std.specs.Prelude.{map, slice_get, nat_le, if◌then◌else◌}
use Rattle.std.specs.List.{list_all}
use Rattle.std.proofs.lemmas.Option.{slice_get_past}
use Rattle.std.proofs.lemmas.Grind.{common_steps}
use Rattle.std.proofs.lemmas.Bool.Decides.{nat_tests}
use Rattle.rpc_base.specs.declared.identifiers.Order.{Order}
use Rattle.rpc_base.specs.declared.identifiers.WireHandle.{WireHandle}
use Rattle.handle_model.specs.declared.entry.Slot.{Slot}
use Rattle.handle_model.specs.declared.entry.Slot.TheVariants.{Shares, Holds, Changes, Opens}
use Rattle.handle_model.specs.Slots.{is_null, with_serial}
use Rattle.ndr_value.specs.Values.{Msg}
use Rattle.ndr_table.specs.declared.operation.HandleUse.{HandleUse}
use Rattle.ndr_table.specs.Tables.{OpForm, TableForm, IsTable}
use Rattle.ndr_model.specs.declared.way.Way.TheVariants.{Request}
use Rattle.ndr_model.specs.Message.{IsStub}
use Rattle.manager_api.specs.Calls.{uses_at, uses_or}
use Rattle.conn_histories.specs.Requests.{kind_in, opening, slot_for, slots_for, types_in, op_in, uses_in, HasSlots, IsAsked}
use Rattle.server_calls.specs.Suited.{Opened}
use Rattle.server_calls.proofs.Wires.{all_at}

-- ---- serials

chosen : (iface kind : ℕ) (u : HandleUse) (w : WireHandle) (o n s : Bool)
    → with_serial 0 (if o then (if n then opening iface u else Changes kind w) else (if s then Holds kind w else Shares kind w))
    ≡ (if o then (if n then opening iface u else Changes kind w) else (if s then Holds kind w else Shares kind w))
chosen iface kind u w true true s = refl
chosen iface kind u w true false s = refl
chosen iface kind u w false n true = refl
chosen iface kind u w false n false = refl

one_bare : (iface : ℕ) (u : HandleUse) (w : WireHandle) → with_serial 0 (slot_for iface u w) ≡ slot_for iface u w
one_bare iface u w = chosen iface (kind_in iface u) u w u.outward (is_null w) u.serialised

abbrev Bare : List Slot → Type 0
Bare ss = map (with_serial 0) ss ≡ ss

both_bare : (s : Slot) (ss : List Slot) → with_serial 0 s ≡ s → Bare ss → Bare (s ∷ ss)
both_bare s ss e f = cc

-- no more than handle parameters
abbrev Few : List HandleUse → List Slot → Type 0
Few us ss = length ss ≤ length us

abbrev Fine : List HandleUse → List Slot → Type 0
Fine us ss = Bare ss × Few us ss

more : (u : HandleUse) (us : List HandleUse) (s : Slot) (ss : List Slot) → with_serial 0 s ≡ s → Fine us ss → Fine (u ∷ us) (s ∷ ss)
more u us s ss e f = (both_bare s ss e f.0, omega (arith, f.1))

lone : (iface : ℕ) (u : HandleUse) (us : List HandleUse) (b : Bool) → Fine us (slots_for iface us []) → Fine (u ∷ us) (if b then [] else opening iface u ∷ slots_for iface us [])
lone iface u us true f = (refl, omega arith)
lone iface u us false f = more u us (opening iface u) (slots_for iface us []) refl f

pair : (iface : ℕ) (u : HandleUse) (us : List HandleUse) (w : WireHandle) (ws : List WireHandle) (b : Bool)
    → Fine us (slots_for iface us ws) → Fine us (slots_for iface us (w ∷ ws))
    → Fine (u ∷ us) (if b then slot_for iface u w ∷ slots_for iface us ws else opening iface u ∷ slots_for iface us (w ∷ ws))
pair iface u us w ws true f g = more u us (slot_for iface u w) (slots_for iface us ws) (one_bare iface u w) f
pair iface u us w ws false f g = more u us (opening iface u) (slots_for iface us (w ∷ ws)) refl g

fine : (iface : ℕ) (us : List HandleUse) (ws : List WireHandle) → Fine us (slots_for iface us ws)
fine iface [] ws = (refl, omega arith)
fine iface (u ∷ us) [] = lone iface u us u.inward (fine iface us [])
fine iface (u ∷ us) (w ∷ ws) = pair iface u us w ws u.inward (fine iface us ws) (fine iface us (w ∷ ws))

-- ---- the slots of a request

pub some_op : (ops : List OpForm) (n : ℕ) → n < length ops → (o : OpForm) × (slice_get ops n ≡ Some o)
some_op [] n lt = absurd (omega (arith, lt))
some_op (o ∷ ops) zero lt = (o, refl)
some_op (o ∷ ops) (suc n) lt = some_op ops n (omega (arith, lt))

few_uses : (uses : List (List HandleUse)) (n : ℕ) (us : List HandleUse) → list_all (λ (vs : List HandleUse). nat_le (length vs) 4) uses ≡ true → slice_get uses n ≡ Some us → length us ≤ 4
few_uses uses n us h e =
    let f : nat_le (length us) 4 ≡ true = all_at (λ (vs : List HandleUse). nat_le (length vs) 4) uses n us h e in
    grind (arith, nat_tests)

pub opened : (tables : List TableForm) (t : TableForm) (iface op : ℕ) (order : Order) (stub : List ℕ) (o : OpForm) (us : List HandleUse) (m : Msg) (ss : List Slot)
    → slice_get tables iface ≡ Some t → IsTable t.types t.ops t.uses → slice_get t.ops op ≡ Some o → slice_get t.uses op ≡ Some us
    → IsStub t.types o Request order None m stub → ss ≡ slots_for iface us m.wires → Opened tables iface op order stub ss
opened tables t iface op order stub o us m ss at whole is uses decoded e =
    let f : uses_in (slice_get tables iface) op ≡ us = ap (λ (x : Option TableForm). uses_in x op) at ∙ ap uses_or uses in
    let g = fine iface us m.wires in
    let bare : map (with_serial 0) ss ≡ ss = subst Bare (sym e) g.0 in
    let asked : IsAsked tables iface op order stub m = record {
      operation = o;
      found = ap (λ (x : Option TableForm). op_in x op) at ∙ is;
      decoded = subst (λ (x : Option TableForm). IsStub (types_in x) o Request order None m stub) (sym at) decoded;
    } in
    let four = few_uses t.uses op us whole.few_uses uses in
    record {
      has = record { message = m; asked = asked; slots_are = bare ∙ e ∙ ap (λ (x : List HandleUse). slots_for iface x m.wires) (sym f) };
      unnumbered = bare;
      few = omega (arith, g.1, four, ap length e);
    }

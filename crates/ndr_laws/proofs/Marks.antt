-- What is noted of a part stands behind what was noted before it.
use Rattle.std.proofs.Common.{◌≡◌, ℕ, true, false, List, [], ◌∷◌, ◌++◌, append_assoc, Option, refl, sym, ap, ◌∙◌}
use Rattle.std.proofs.lemmas.List.{append-nil, append_cancel_left}
use Rattle.rpc_base.specs.declared.identifiers.Order.{Order}
use Rattle.ndr_value.specs.Forms.{Form, Forms}
use Rattle.ndr_value.specs.Values.{Val, Vals}
use Rattle.ndr_model.specs.declared.mark.Mark.{Mark}
use Rattle.ndr_model.specs.declared.mark.Mark.TheVariants.{Referent}
use Rattle.ndr_model.specs.Places.{Place, Last}
use Rattle.ndr_model.specs.Part.{Part, a_bool, a_byte, a_char, an_int, a_uint, an_enum, a_handle, a_text, a_name, a_struct, an_empty_arm, an_arm, an_array, a_ref, a_null, a_unique, a_null_full, a_new, a_repeat, Parts, no_part, then_part, Items, no_item, then_item, opened_marks}

abbrev pub Noted : List Mark → List Mark → Type 0
Noted ms ns = (own : List Mark) × (ns ≡ ms ++ own)

none_noted : (ms : List Mark) → Noted ms ms
none_noted ms = ([], sym (append-nil ms))

those_noted : (ms own : List Mark) → Noted ms (ms ++ own)
those_noted ms own = (own, refl)

pub noted_then : (a b c : List Mark) → Noted a b → Noted b c → Noted a c
noted_then a b c p q = (p.0 ++ q.0, q.1 ∙ ap (λ (x : List Mark). x ++ q.0) p.1 ∙ append_assoc a p.0 q.0)

module _ (types : List Form) (order : Order) (octets : List ℕ) where
  mutual
    pub part_notes : {room : ℕ} {moved : Option ℕ} {s : Form} {v : Val} {p p' : Place} {q q' : Last} → Part types order octets room moved s v p p' q q' → Noted q.marks q'.marks
    part_notes (a_bool {q = q} at) = none_noted q.marks
    part_notes (a_byte {q = q} at) = none_noted q.marks
    part_notes (a_char {q = q} at) = none_noted q.marks
    part_notes (an_int {q = q} at) = none_noted q.marks
    part_notes (a_uint {q = q} at) = none_noted q.marks
    part_notes (an_enum {q = q} at lt) = none_noted q.marks
    part_notes (a_handle {q = q} at) = none_noted q.marks
    part_notes (a_text {q = q} at) = none_noted q.marks
    part_notes (a_name is part) = part_notes part
    part_notes (a_struct {moved = moved} {own = own} {p = p} {q = q} {q' = q'} b ps) = noted_then q.marks (q.marks ++ opened_marks moved own p.at) q'.marks (those_noted q.marks (opened_marks moved own p.at)) (parts_note ps)
    part_notes (an_empty_arm {q = q} at is) = those_noted q.marks _
    part_notes (an_arm {q = q} {q' = q'} at is part) = noted_then q.marks _ q'.marks (those_noted q.marks _) (part_notes part)
    part_notes (an_array {q = q} {q' = q'} at ps) = noted_then q.marks _ q'.marks (those_noted q.marks _) (items_note ps)
    part_notes (a_ref at part) = part_notes part
    part_notes (a_null {q = q} at) = none_noted q.marks
    part_notes (a_unique at part) = part_notes part
    part_notes (a_null_full {q = q} at) = none_noted q.marks
    part_notes (a_new {q = q} {q' = q'} at is part) = noted_then q.marks (q.marks ++ Referent true ∷ []) q'.marks (those_noted q.marks (Referent true ∷ [])) (part_notes part)
    part_notes (a_repeat {q = q} at is alike) = those_noted q.marks (Referent false ∷ [])

    pub parts_note : {room : ℕ} {moved : Option ℕ} {ss : Forms} {vs : Vals} {p p' : Place} {q q' : Last} → Parts types order octets room moved ss vs p p' q q' → Noted q.marks q'.marks
    parts_note (no_part {q = q}) = none_noted q.marks
    parts_note (then_part {q = q} {g = g} {q' = q'} part ps) = noted_then q.marks g.marks q'.marks (part_notes part) (parts_note ps)

    pub items_note : {room n : ℕ} {s : Form} {vs : Vals} {p p' : Place} {q q' : Last} → Items types order octets room n s vs p p' q q' → Noted q.marks q'.marks
    items_note (no_item {q = q}) = none_noted q.marks
    items_note (then_item {q = q} {g = g} {q' = q'} part ps) = noted_then q.marks g.marks q'.marks (part_notes part) (items_note ps)

-- the marks that are left, where some were noted before the rest
pub tied_first : (a own b ms rest : List Mark) → a ++ ms ≡ b ++ rest → Noted (a ++ own) b → (more : List Mark) × (own ++ more ≡ ms) × ((a ++ own) ++ more ≡ b ++ rest)
tied_first a own b ms rest e n =
    let more = n.0 ++ rest in
    let all : b ++ rest ≡ (a ++ own) ++ more = ap (λ (x : List Mark). x ++ rest) n.1 ∙ append_assoc (a ++ own) n.0 rest in
    (more, sym (append_cancel_left a ms (own ++ more) (e ∙ all ∙ append_assoc a own more)), sym all)

-- Ids that were met stay met.
use Rattle.std.proofs.Common.{ℕ, List, Option, refl}
use Rattle.rpc_base.specs.declared.identifiers.Order.{Order}
use Rattle.ndr_value.specs.Forms.{Form, Forms}
use Rattle.ndr_value.specs.Values.{Val, Vals}
use Rattle.ndr_model.specs.Places.{Place, Last}
use Rattle.ndr_model.specs.Part.{Part, a_bool, a_byte, a_char, an_int, a_uint, an_enum, a_handle, a_text, a_name, a_struct, an_empty_arm, an_arm, an_array, a_ref, a_null, a_unique, a_null_full, a_new, a_repeat, Parts, no_part, then_part, Items, no_item, then_item}
use Rattle.ndr_model.proofs.Mets.{Ext, ext_self, ext_then}

abbrev pub Grown : Place → Place → Last → Last → Type 0
Grown p p' q q' = Ext p.met p'.met × Ext q.here.met q'.here.met

module _ (types : List Form) (order : Order) (octets : List ℕ) where
  same_ids : (p : Place) (q : Last) → Ext p.met p.met × Ext q.here.met q.here.met
  same_ids p q = (ext_self p.met, ext_self q.here.met)

  grown_then : (p h p' : Place) (q g q' : Last) → Grown p h q g → Grown h p' g q' → Grown p p' q q'
  grown_then p h p' q g q' a b = (ext_then p.met h.met p'.met a.0 b.0, ext_then q.here.met g.here.met q'.here.met a.1 b.1)

  mutual
    pub part_grows : {room : ℕ} {moved : Option ℕ} {s : Form} {v : Val} {p p' : Place} {q q' : Last} → Part types order octets room moved s v p p' q q' → Grown p p' q q'
    part_grows (a_bool {p = p} {q = q} at) = same_ids p q
    part_grows (a_byte {p = p} {q = q} at) = same_ids p q
    part_grows (a_char {p = p} {q = q} at) = same_ids p q
    part_grows (an_int {p = p} {q = q} at) = same_ids p q
    part_grows (a_uint {p = p} {q = q} at) = same_ids p q
    part_grows (an_enum {p = p} {q = q} at lt) = same_ids p q
    part_grows (a_handle {p = p} {q = q} at) = same_ids p q
    part_grows (a_text {p = p} {q = q} at) = same_ids p q
    part_grows (a_name is part) = part_grows part
    part_grows (a_struct b ps) = parts_grow ps
    part_grows (an_empty_arm {p = p} {q = q} at is) = same_ids p q
    part_grows (an_arm at is part) = part_grows part
    part_grows (an_array at ps) = items_grow ps
    part_grows (a_ref {p = p} {h = h} {q = q} {q' = q'} at part) = let g = part_grows part in (ext_self p.met, ext_then q.here.met h.met q'.here.met g.0 g.1)
    part_grows (a_null {p = p} {q = q} at) = same_ids p q
    part_grows (a_unique {p = p} {h = h} {q = q} {q' = q'} at part) = let g = part_grows part in (ext_self p.met, ext_then q.here.met h.met q'.here.met g.0 g.1)
    part_grows (a_null_full {p = p} {q = q} at) = same_ids p q
    part_grows (a_new {id = id} {s = s} {p = p} {h = h} {q = q} {q' = q'} at is part) = let g = part_grows part in ((_, refl), ext_then q.here.met h.met q'.here.met g.0 g.1)
    part_grows (a_repeat {p = p} {q = q} at is alike) = same_ids p q

    pub parts_grow : {room : ℕ} {moved : Option ℕ} {ss : Forms} {vs : Vals} {p p' : Place} {q q' : Last} → Parts types order octets room moved ss vs p p' q q' → Grown p p' q q'
    parts_grow (no_part {p = p} {q = q}) = same_ids p q
    parts_grow (then_part {p = p} {h = h} {p' = p'} {q = q} {g = g} {q' = q'} part ps) = grown_then p h p' q g q' (part_grows part) (parts_grow ps)

    pub items_grow : {room n : ℕ} {s : Form} {vs : Vals} {p p' : Place} {q q' : Last} → Items types order octets room n s vs p p' q q' → Grown p p' q q'
    items_grow (no_item {p = p} {q = q}) = same_ids p q
    items_grow (then_item {p = p} {h = h} {p' = p'} {q = q} {g = g} {q' = q'} part ps) = grown_then p h p' q g q' (part_grows part) (items_grow ps)

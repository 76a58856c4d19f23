use Rattle.std.proofs.Common.{◌≡◌, length, ap, sym, subst, ◌∙◌, refl}
use Rattle.std.specs.Prelude.{OnOk, ◌||◌}
use Rattle.ndr_value.specs.Forms.{Form, OfStruct, form, forms}
use Rattle.ndr_value.specs.Values.{val, vals, bytes}
use Rattle.ndr_value.proofs.Mirror.{count-vals}
use Rattle.ndr_table.specs.Aligned.{align_of, alignments}
use Rattle.ndr_table.specs.Tails.{ends_open, tails_of}
use Rattle.ndr_model.specs.Part.{opens_with}
use Rattle.ndr_agree.specs.Views.{types_in, call_of}
use Rattle.ndr_agree.proofs.Items.{struct_is, union_is, value_struct, value_array}
use Rattle.ndr_model.specs.Fronts.{front}
use Rattle.ndr_model.specs.Written as spec
use Rattle.ndr_write.specs.Views.{followed, piece_of}
use Rattle.ndr_write.proofs.Chains.{count-bytes}
use Rattle.ndr_write.proofs.Steps.{then_so, flat_so, struct_so, array_so, members_done, AsLeaf}
use Rattle.ndr_write.proofs.flat.+flat.Goals as goal

pub flat_value-returns : goal.flat_value-returns
flat_value-returns t c =
    let w = c.args.writer.now in
    then_so c.flat_one.result
    (flat_so (types_in w.call) w.order (call_of w.call) c.args.fuel (vals c.args.body.now) c.args.moved (form c.args.shape.now) (val c.args.value.now) (piece_of c.args.out.now c.args.behind.now.items) (piece_of c.flat_one.new.out c.flat_one.new.behind.items) c.if-fuel-eq0.false)
    c.flat_one.ensures

pub flat_members-returns : goal.flat_members-returns
flat_members-returns t c =
    let w = c.args.writer.now in
    members_done (types_in w.call) w.order (call_of w.call) (spec.flat (types_in w.call) w.order (call_of w.call) c.args.fuel) (vals c.args.values.now) c.args.moved c.loop-value.rest.now c.args.values.now c.loop-value.value-index
    (piece_of c.loop-value.out c.loop-value.behind.items) _ c.loop-value-test.false c.loop-value.invariant

pub flat_one-returns-in-Struct : goal.flat_one-returns-in-Struct
flat_one-returns-in-Struct t c =
    let w = c.args.writer.now in
    let types = types_in w.call in
    let s = struct_is c.args.shape.now _ c.deref.result.now c.in-Struct.is c.deref.ensures.value in
    let e : c.ends_open-opens.result ≡ opens_with types (forms c.deref.result.now) = c.ends_open-opens.ensures ∙ ap (ends_open (tails_of types)) s in
    let f : c.align-align.result ≡ align_of (alignments types) (OfStruct (forms c.deref.result.now)) = c.align-align.ensures.exact ∙ ap (align_of (alignments types)) s in
    subst (λ (x : Form). OnOk c.flat_struct.result (piece_of c.flat_struct.new.out c.flat_struct.new.behind.items ≡ followed (piece_of c.args.out.now c.args.behind.now.items) (spec.flat_at types w.order (call_of w.call) (front types w.order (call_of w.call) c.args.fuel) (spec.flat types w.order (call_of w.call) c.args.fuel) (vals c.args.body.now) c.args.moved x (val c.args.value.now)))) (sym s)
    (c.flat_struct.ensures e f)

pub flat_one-returns-in-Union : goal.flat_one-returns-in-Union
flat_one-returns-in-Union t c =
    let w = c.args.writer.now in
    let types = types_in w.call in
    let s = union_is c.args.shape.now _ _ c.deref-in-Union.result.now c.deref-in-Union-2.result.now c.in-Union.is c.deref-in-Union.ensures c.deref-in-Union-2.ensures.value in
    subst (λ (x : Form). OnOk c.flat_union.result (piece_of c.flat_union.new.out c.flat_union.new.behind.items ≡ followed (piece_of c.args.out.now c.args.behind.now.items) (spec.flat_at types w.order (call_of w.call) (front types w.order (call_of w.call) c.args.fuel) (spec.flat types w.order (call_of w.call) c.args.fuel) (vals c.args.body.now) c.args.moved x (val c.args.value.now)))) (sym s)
    (c.flat_union.ensures (c.align-align-in-Union.ensures.exact ∙ ap (align_of (alignments types)) s))

pub flat_struct-returns-in_ok-put_opening-in-Struct : goal.flat_struct-returns-in_ok-put_opening-in-Struct
flat_struct-returns-in_ok-put_opening-in-Struct t c = λ e f.
    let w = c.args.writer.now in
    let types = types_in w.call in
    let fronted = c.is_fronted-fronted.ensures ∙ ap (λ b. c.args.moved || b) e in
    then_so c.flat_members.result
    (struct_so types w.order (call_of w.call) (front types w.order (call_of w.call) c.args.fuel) (spec.flat types w.order (call_of w.call) c.args.fuel) c.args.moved c.is_fronted-fronted.result (forms c.args.members.now) (val c.args.value.now) (vals c.in-Struct.values.items) (vals c.deref.result.now) (vals c.deref-in-Struct.result.now)
    (piece_of c.args.out.now c.args.behind.now.items) (piece_of c.flat_members.new.out c.flat_members.new.behind.items) c.put_opening.new.into.items (value_struct c.args.value.now _ c.in-Struct.values.items c.in-Struct.is refl) (ap vals c.deref.ensures.value) (ap vals c.deref-in-Struct.ensures.value) fronted
    (c.in_ok-put_opening-in-Struct.ensures e f))
    c.flat_members.ensures

pub flat_array-returns-in_ok-put_counts-in-Array : goal.flat_array-returns-in_ok-put_counts-in-Array
flat_array-returns-in_ok-put_counts-in-Array t c =
    let w = c.args.writer.now in
    then_so c.flat_elements.result
    (array_so (types_in w.call) w.order (call_of w.call) (spec.flat (types_in w.call) w.order (call_of w.call) c.args.fuel) (vals c.args.body.now) c.args.moved c.args.kind.now (form c.args.inner.now) c.len-count.result (val c.args.value.now) (vals c.in-Array.values.items) (vals c.deref.result.now)
    (piece_of c.args.out.now c.args.behind.now.items) (piece_of c.flat_elements.new.out c.flat_elements.new.behind.items) c.put_counts.new.into.items (value_array c.args.value.now _ c.in-Array.values.items c.in-Array.is refl) (ap vals c.deref.ensures.value)
    (c.len-count.ensures ∙ sym c.deref.ensures.len ∙ ap length c.deref.ensures.value ∙ sym (count-vals c.in-Array.values.items)) c.in_ok-put_counts-in-Array.ensures)
    c.flat_elements.ensures

pub flat_array-returns-in_ok-put_counts-in-Octets : goal.flat_array-returns-in_ok-put_counts-in-Octets
flat_array-returns-in_ok-put_counts-in-Octets t c =
    let w = c.args.writer.now in
    then_so c.flat_octets.result
    (array_so (types_in w.call) w.order (call_of w.call) (spec.flat (types_in w.call) w.order (call_of w.call) c.args.fuel) (vals c.args.body.now) c.args.moved c.args.kind.now (form c.args.inner.now) c.len-count-in-Octets.result (val c.args.value.now) (bytes c.in-Octets.octets) (bytes c.as_slice.result.now)
    (piece_of c.args.out.now c.args.behind.now.items) (piece_of c.flat_octets.new.out c.flat_octets.new.behind.items) c.put_counts-in-Octets.new.into.items (ap val c.in-Octets.is) (ap bytes c.as_slice.ensures)
    (c.len-count-in-Octets.ensures ∙ sym (count-bytes c.in-Octets.octets)) c.in_ok-put_counts-in-Octets.ensures)
    c.flat_octets.ensures

pub flat_one-returns-in-Bool : goal.flat_one-returns-in-Bool
flat_one-returns-in-Bool t c =
    let w = c.args.writer.now in
    let q = piece_of c.flat_leaf.new.out c.args.behind.now.items in
    then_so c.flat_leaf.result
    (subst (AsLeaf (types_in w.call) w.order (call_of w.call) c.args.fuel (vals c.args.body.now) c.args.moved (val c.args.value.now) (piece_of c.args.out.now c.args.behind.now.items) q) (sym c.in-Bool.is) (λ e. e))
    (c.flat_leaf.ensures c.args.behind.now.items)

pub flat_one-returns-in-Byte : goal.flat_one-returns-in-Byte
flat_one-returns-in-Byte t c =
    let w = c.args.writer.now in
    let q = piece_of c.flat_leaf-in-Byte.new.out c.args.behind.now.items in
    then_so c.flat_leaf-in-Byte.result
    (subst (AsLeaf (types_in w.call) w.order (call_of w.call) c.args.fuel (vals c.args.body.now) c.args.moved (val c.args.value.now) (piece_of c.args.out.now c.args.behind.now.items) q) (sym c.in-Byte.is) (λ e. e))
    (c.flat_leaf-in-Byte.ensures c.args.behind.now.items)

pub flat_one-returns-in-Char : goal.flat_one-returns-in-Char
flat_one-returns-in-Char t c =
    let w = c.args.writer.now in
    let q = piece_of c.flat_leaf-in-Char.new.out c.args.behind.now.items in
    then_so c.flat_leaf-in-Char.result
    (subst (AsLeaf (types_in w.call) w.order (call_of w.call) c.args.fuel (vals c.args.body.now) c.args.moved (val c.args.value.now) (piece_of c.args.out.now c.args.behind.now.items) q) (sym c.in-Char.is) (λ e. e))
    (c.flat_leaf-in-Char.ensures c.args.behind.now.items)

pub flat_one-returns-in-Int : goal.flat_one-returns-in-Int
flat_one-returns-in-Int t c =
    let w = c.args.writer.now in
    let q = piece_of c.flat_leaf-in-Int.new.out c.args.behind.now.items in
    then_so c.flat_leaf-in-Int.result
    (subst (AsLeaf (types_in w.call) w.order (call_of w.call) c.args.fuel (vals c.args.body.now) c.args.moved (val c.args.value.now) (piece_of c.args.out.now c.args.behind.now.items) q) (sym c.in-Int.is) (λ e. e))
    (c.flat_leaf-in-Int.ensures c.args.behind.now.items)

pub flat_one-returns-in-Uint : goal.flat_one-returns-in-Uint
flat_one-returns-in-Uint t c =
    let w = c.args.writer.now in
    let q = piece_of c.flat_leaf-in-Uint.new.out c.args.behind.now.items in
    then_so c.flat_leaf-in-Uint.result
    (subst (AsLeaf (types_in w.call) w.order (call_of w.call) c.args.fuel (vals c.args.body.now) c.args.moved (val c.args.value.now) (piece_of c.args.out.now c.args.behind.now.items) q) (sym c.in-Uint.is) (λ e. e))
    (c.flat_leaf-in-Uint.ensures c.args.behind.now.items)

pub flat_one-returns-in-Enum : goal.flat_one-returns-in-Enum
flat_one-returns-in-Enum t c =
    let w = c.args.writer.now in
    let q = piece_of c.flat_leaf-in-Enum.new.out c.args.behind.now.items in
    then_so c.flat_leaf-in-Enum.result
    (subst (AsLeaf (types_in w.call) w.order (call_of w.call) c.args.fuel (vals c.args.body.now) c.args.moved (val c.args.value.now) (piece_of c.args.out.now c.args.behind.now.items) q) (sym c.in-Enum.is) (λ e. e))
    (c.flat_leaf-in-Enum.ensures c.args.behind.now.items)

pub flat_one-returns-in-Text : goal.flat_one-returns-in-Text
flat_one-returns-in-Text t c =
    let w = c.args.writer.now in
    let q = piece_of c.flat_leaf-in-Text.new.out c.args.behind.now.items in
    then_so c.flat_leaf-in-Text.result
    (subst (AsLeaf (types_in w.call) w.order (call_of w.call) c.args.fuel (vals c.args.body.now) c.args.moved (val c.args.value.now) (piece_of c.args.out.now c.args.behind.now.items) q) (sym c.in-Text.is) (λ e. e))
    (c.flat_leaf-in-Text.ensures c.args.behind.now.items)

pub flat_one-returns-in-Handle : goal.flat_one-returns-in-Handle
flat_one-returns-in-Handle t c =
    let w = c.args.writer.now in
    let q = piece_of c.flat_leaf-in-Handle.new.out c.args.behind.now.items in
    then_so c.flat_leaf-in-Handle.result
    (subst (AsLeaf (types_in w.call) w.order (call_of w.call) c.args.fuel (vals c.args.body.now) c.args.moved (val c.args.value.now) (piece_of c.args.out.now c.args.behind.now.items) q) (sym c.in-Handle.is) (λ e. e))
    (c.flat_leaf-in-Handle.ensures c.args.behind.now.items)

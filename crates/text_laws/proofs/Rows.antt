-- The row of a message's values, parameter by parameter.
use Rattle.std.proofs.Common.{◌≡◌, ℕ, suc, ◌^◌, Bool, true, false, List, [], ◌∷◌, ◌++◌, length, Option, Some, None, refl, sym, ap, subst, ◌∙◌, append_assoc, arith}
use Rattle.std.specs.Prelude.{slice_get, if◌then◌else◌}
use Rattle.std.specs.List.{list_all}
use Rattle.std.proofs.lemmas.Bool.{and_parts}
use Rattle.std.proofs.lemmas.List.{append-nil}
use Rattle.rpc_base.specs.declared.identifiers.WireHandle.{WireHandle}
use Rattle.ndr_value.specs.declared.shape.Count.{Count}
use Rattle.ndr_value.specs.Forms.{Form, OfHandle, OfRef, Forms, no_form, then_form}
use Rattle.ndr_value.specs.Values.{Val, VHandle, Vals, no_val, then_val, Msg}
use Rattle.ndr_value.specs.Typed.{Typed, EachTyped, a_ref, a_handle, no_more, one_more}
use Rattle.ndr_table.specs.declared.operation.HandleUse.{HandleUse}
use Rattle.ndr_table.specs.Tables.{ParamForm, OpForm, param_below, result_below, op_below, IsTable}
use Rattle.ndr_table.specs.Ordered.{ordered}
use Rattle.ndr_table.specs.Sound.{is_sound, own_kind, handle_kind, range_sound, param_sound, result_sound, op_sound, IsSound}
use Rattle.ndr_model.specs.declared.way.Way.TheVariants.{Request}
use Rattle.ndr_model.specs.Stub.{Entry, of_param, param_entry, entries_of}
use Rattle.ndr_model.specs.Named.{Call, nth}
use Rattle.ndr_model.specs.Fits.{Seen, Suits, suits_handle, SuitEntries, no_entry, then_entry, nothing_seen, IsOfOp}
use Rattle.ndr_model.specs.Written.{call_of}
use Rattle.value_text.specs.Texts.{Sized, AllSized}
use Rattle.client_texts.specs.Heaps.{heap_text, each_aims}
use Rattle.client_texts.specs.Texts.{inwards, row_text, IsRequestText}
use Rattle.client_texts.proofs.Slots.{Below}
use Rattle.text_laws.specs.Requests.{HaveNames}
use Rattle.text_laws.proofs.Octets.{Placed, no_place, own_place, without, row_placed, heap_reads}
use Rattle.text_laws.proofs.Values.{all_at, fine}
use Rattle.text_laws.proofs.Meeting.{front_same}
use Rattle.text_laws.proofs.Heaps.{kind_or_sound, sound_behind, below_behind, sized_at, params_met, heap_items}

-- ---- one parameter

-- a value is the next handle, or has none
data Puts (q g : Seen) : Val → Type 0 where
  puts_handle : (w : WireHandle) → g.wires ≡ q.wires ++ w ∷ [] → Puts q g (VHandle (length q.wires))
  puts_none : {v : Val} → Below 0 v → g.wires ≡ q.wires → Puts q g v

record One (types : List Form) (s : Form) (v : Val) (q g : Seen) : Type 0 where
  pub typed : Typed types (2 ^ 32) 0 s v
  pub puts : Puts q g v

module _ {types : List Form} {call : Call} where
  handle_met : {room kind : ℕ} {body : Vals} {link : Option Count} {v : Val} {q h g : Seen} → Suits types call room body link (OfHandle kind) v q h h g → One types (OfHandle kind) v q g
  handle_met (suits_handle {w = w} {p = q} x) = record { typed = a_handle; puts = puts_handle w refl }

  own_met : {room kind : ℕ} {body : Vals} {link : Option Count} {v : Val} {q h g : Seen} (s : Form) → own_kind s ≡ Some kind → Suits types call room body link s v q h h g → One types s v q g
  own_met (OfHandle k) e x = handle_met x
  own_met _ e x = absurd cc

  kind_met : {room kind : ℕ} {body : Vals} {link : Option Count} {v : Val} {q h g : Seen} (s : Form) → handle_kind s ≡ Some kind → Suits types call room body link (of_param s) v q h h g → One types s v q g
  kind_met (OfRef s) e x = let o = own_met s e x in record { typed = a_ref o.typed; puts = o.puts }
  kind_met (OfHandle k) e x = handle_met x
  kind_met _ e x = absurd cc

typed_behind : (types : List Form) (s : Form) (v : Val) → Typed types (2 ^ 32) 0 (of_param s) v → Typed types (2 ^ 32) 0 s v
typed_behind types (OfRef s) v t = a_ref t
typed_behind types _ v t = t

-- ---- all parameters that go in

record Made (types : List Form) (ss : Forms) (vs : Vals) (q g : Seen) : Type 0 where
  pub typed : EachTyped types (2 ^ 32) 0 ss vs
  pub more : List WireHandle
  pub wires : g.wires ≡ q.wires ++ more
  pub placed : Placed (length q.wires) more vs

one_longer : (ws : List WireHandle) (w : WireHandle) → length (ws ++ w ∷ []) ≡ suc (length ws)
one_longer [] w = refl
one_longer (v ∷ ws) w = ap suc (one_longer ws w)

joined : (types : List Form) (s : Form) (ss : Forms) (v : Val) (vs : Vals) (q m g : Seen) → Typed types (2 ^ 32) 0 s v → Puts q m v → Made types ss vs m g → Made types (then_form s ss) (then_val v vs) q g
joined types s ss v vs q m g t (puts_handle w is) made = record {
  typed = one_more t made.typed;
  more = w ∷ made.more;
  wires = made.wires ∙ (ap (λ (x : List WireHandle). x ++ made.more) is ∙ append_assoc q.wires (w ∷ []) made.more);
  placed = own_place (subst (λ (k : ℕ). Placed k made.more vs) (ap (λ (x : List WireHandle). length x) is ∙ one_longer q.wires w) made.placed);
}
joined types s ss v vs q m g t (puts_none b is) made = record {
  typed = one_more t made.typed;
  more = made.more;
  wires = made.wires ∙ ap (λ (x : List WireHandle). x ++ made.more) is;
  placed = without b (subst (λ (k : ℕ). Placed k made.more vs) (ap (λ (x : List WireHandle). length x) is) made.placed);
}

module _ (types : List Form) (call : Call) (sound : list_all is_sound types ≡ true) (order : ordered types ≡ true) (items : (n : ℕ) (v : Val) → nth call.said.heap n ≡ Some v → Sized v) (result : Option Form) where
  one_by : (p : ParamForm) (o : Option ℕ) → handle_kind p.shape ≡ o → param_sound p ≡ true → param_below (length types) p ≡ true
      → (v : Val) (q h g : Seen) → Sized v → Suits types call 256 no_val None (of_param p.shape) v q h h g → One types p.shape v q g
  one_by p (Some kind) is s b v q h g z x = kind_met p.shape is x
  one_by p None is s b v q h g z x =
      let f = fine sound order items (length types) 0 (sound_behind p.shape (kind_or_sound (handle_kind p.shape) (is_sound p.shape) (range_sound p.shape p.range) s is)) (below_behind (length types) p.shape b) z (omega arith) x in
      record { typed = typed_behind types p.shape v f.typed; puts = puts_none f.free (f.behind ∙ f.flat) }

  abbrev Makes : List Entry → Forms → Type 0
  Makes es ss = (vs : Vals) (q g : Seen) → AllSized vs → SuitEntries types call es vs q g → Made types ss vs q g

  entry_made : (b : Bool) (p : ParamForm) (es : List Entry) (ss : Forms) → param_sound p ≡ true → param_below (length types) p ≡ true → Makes es ss
      → Makes (if b then param_entry p ∷ es else es) (if b then then_form p.shape ss else ss)
  unfolding Sized
  entry_made true p es ss s b go _ _ _ z (then_entry {v = v} {vs = vs} {q = q} {h = h} {g = m} {q' = g} x r xs) =
      let one = one_by p (handle_kind p.shape) refl s b v q h m z.0 x in
      joined types p.shape ss v vs q m g one.typed one.puts (go vs m g z.1 xs)
  entry_made false p es ss s b go vs q g z xs = go vs q g z xs

  none_made : Makes [] no_form
  none_made _ _ _ z (no_entry {q = q}) = record { typed = no_more; more = []; wires = sym (append-nil q.wires); placed = no_place }

  params_made : (ps : List ParamForm) → list_all param_sound ps ≡ true → list_all (param_below (length types)) ps ≡ true → Makes (entries_of Request ps result) (inwards ps)
  params_made [] h b = none_made
  params_made (p ∷ ps) h b =
      let c = and_parts (param_sound p) (list_all param_sound ps) h in
      let d = and_parts (param_below (length types) p) (list_all (param_below (length types)) ps) b in
      entry_made p.inward p (entries_of Request ps result) (inwards ps) c.0 d.0 (params_made ps c.1 d.1)

-- ---- the text of a request

pub each_has_a_text : (types : List Form) (ops : List OpForm) (uses : List (List HandleUse)) (number : ℕ) (op : OpForm) (asked : Option Msg) (m : Msg) (known : List WireHandle)
    → IsTable types ops uses → IsSound types ops uses → slice_get ops number ≡ Some op → IsOfOp types op Request asked m → AllSized m.values → AllSized m.heap → HaveNames known m.wires
    → (text : List ℕ) × IsRequestText types (inwards op.params) known m text
each_has_a_text types ops uses number op asked m known table sound at is sized heap_sized has =
    let s = and_parts (list_all param_sound op.params) (result_sound op.result) (all_at op_sound ops number op sound.ops_are at) in
    let b = and_parts (list_all (param_below (length types)) op.params) (result_below (length types) op.result) (all_at (op_below (length types)) ops number op table.ops_are at) in
    let call = call_of op Request asked m in
    let made = params_made types call sound.types_are table.types_are (sized_at m.heap heap_sized) op.result op.params s.0 b.0 m.values nothing_seen is.end sized is.suits in
    let before = each_aims types (inwards op.params) m.values in
    let facts = params_met types is.end.shapes m.heap before call refl sound.types_are table.types_are (sized_at m.heap heap_sized) op.result op.params s.0 b.0 m.values nothing_seen is.end sized (front_same is.end.shapes) is.suits in
    let heap = heap_items types is.end.shapes m.heap before facts is.heap refl in
    let wires : m.wires ≡ made.more = is.wires ∙ made.wires in
    let placed = subst (λ (ws : List WireHandle). Placed 0 ws m.values) (sym wires) made.placed in
    let text = row_placed known m.wires m.values (heap_text m.heap) placed has (heap_reads known m.heap heap.1) in (
      text.0,
      record {
        places = row_text m.values ++ heap_text m.heap;
        behind = heap_text m.heap;
        row = record { typed = made.typed; sized = sized; whole = refl };
        heap = record { items = heap.0; sized = heap_sized; whole = refl };
        named = text.1;
      },
    )

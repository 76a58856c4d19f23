-- A request's text, once its handles have places, its values are read and its heap is.
use Rattle.std.proofs.Common.{◌≡◌, ℕ, List, ◌++◌, sym, subst, codes, Option, Some, None, Result, Ok, Err}
use Rattle.std.specs.Prelude.{IfOk, MatchOption}
use Rattle.rpc_base.specs.declared.identifiers.WireHandle.{WireHandle}
use Rattle.ndr_value.specs.Forms.{Form, Forms}
use Rattle.ndr_value.specs.Values.{Vals, Msg}
use Rattle.client_texts.specs.Heaps.{Aims, each_aims, IsHeap, AreListed}
use Rattle.client_texts.specs.Texts.{NamedFrom, IsRow, IsRequestText}
use Rattle.client_texts.proofs.Listed.{listed_is, heap_is}
use Rattle.client_texts.proofs.Once.{one_values}

-- the heap is what is listed after its word
pub heap_found : {E V : Type 0} (r : Result (Option V) E) (view : V → Vals) (types : List Form) (aims before : Aims) (text list : List ℕ) → text ≡ codes " heap [" ++ list → aims ≡ before
    → IfOk r (λ found. MatchOption found ((vs : Vals) → AreListed types aims vs list → ⊥) (λ v. AreListed types aims (view v) list))
    → IfOk r (λ found. MatchOption found ((vs : Vals) → IsHeap types before vs text → ⊥) (λ v. IsHeap types before (view v) text))
heap_found (Err e) view types aims before text list is same h = tt
heap_found (Ok None) view types aims before text list is same h = λ vs heap. h vs (subst (λ (b : Aims). AreListed types b vs list) (sym same) (heap_is types before text list is vs heap))
heap_found (Ok (Some v)) view types aims before text list is same h = subst (λ (b : Aims). IsHeap types b (view v) text) same (listed_is types aims text list is (view v) h)

module _ (types : List Form) (shapes : Forms) (known : List WireHandle) (text : List ℕ) where
  pub no_places : ((wires : List WireHandle) (places : List ℕ) → NamedFrom known 0 wires places text → ⊥) → (m : Msg) → IsRequestText types shapes known m text → ⊥
  no_places none m r = none m.wires r.places r.named

  abbrev pub OnlyPlaces : List WireHandle → List ℕ → Type 0
  OnlyPlaces wires plain = (ws : List WireHandle) (places : List ℕ) → NamedFrom known 0 ws places text → (ws ≡ wires) × (places ≡ plain)

  module _ (wires : List WireHandle) (plain : List ℕ) (only : OnlyPlaces wires plain) where
    row_of : (m : Msg) (r : IsRequestText types shapes known m text) → IsRow types shapes m.values plain r.behind
    row_of m r = subst (λ (x : List ℕ). IsRow types shapes m.values x r.behind) (only m.wires r.places r.named).1 r.row

    pub no_row_there : ((vs : Vals) (rest : List ℕ) → IsRow types shapes vs plain rest → ⊥) → (m : Msg) → IsRequestText types shapes known m text → ⊥
    no_row_there none m r = none m.values r.behind (row_of m r)

    pub no_heap_there : (vs : Vals) (rest : List ℕ) → IsRow types shapes vs plain rest → ((hs : Vals) → IsHeap types (each_aims types shapes vs) hs rest → ⊥) → (m : Msg) → IsRequestText types shapes known m text → ⊥
    no_heap_there vs rest row none m r =
        let v = one_values types shapes m.values vs plain r.behind rest (row_of m r) row in
        let behind = subst (λ (x : List ℕ). IsHeap types (each_aims types shapes m.values) m.heap x) v.1 r.heap in
        none m.heap (subst (λ (x : Vals). IsHeap types (each_aims types shapes x) m.heap rest) v.0 behind)

-- Handles that were met stay met, in their order.
use Rattle.std.proofs.Common.{◌≡◌, ℕ, List, [], ◌∷◌, ◌++◌, length, append_assoc, Option, Some, refl, sym, ap, ◌∙◌}
use Rattle.std.specs.Prelude.{slice_get}
use Rattle.std.proofs.lemmas.List.{append-nil}
use Rattle.ndr_value.specs.declared.shape.Count.{Count}
use Rattle.rpc_base.specs.declared.identifiers.WireHandle.{WireHandle}
use Rattle.ndr_value.specs.Forms.{Form, Forms}
use Rattle.ndr_value.specs.Values.{Val, Vals}
use Rattle.ndr_model.specs.Named.{Call}
use Rattle.ndr_model.specs.Fits.{Seen, Suits, suits_bool, suits_byte, suits_char, suits_int, suits_uint, suits_enum, suits_handle, suits_text, suits_name, suits_struct, suits_empty_arm, suits_arm, suits_array, suits_ref, suits_null, suits_unique, suits_null_full, suits_new, suits_repeat, SuitEach, no_member, then_member, SuitAll, no_element, then_element}

-- the second begins with the first
abbrev pub Begin : List WireHandle → List WireHandle → Type 0
Begin ws xs = (more : List WireHandle) × (xs ≡ ws ++ more)

pub begin_self : (ws : List WireHandle) → Begin ws ws
begin_self ws = ([], sym (append-nil ws))

pub begin_then : (a b c : List WireHandle) → Begin a b → Begin b c → Begin a c
begin_then a b c p q = (p.0 ++ q.0, q.1 ∙ ap (λ (x : List WireHandle). x ++ q.0) p.1 ∙ append_assoc a p.0 q.0)

last_of : (ws more : List WireHandle) (w : WireHandle) → slice_get ((ws ++ w ∷ []) ++ more) (length ws) ≡ Some w
last_of [] more w = refl
last_of (x ∷ ws) more w = last_of ws more w

-- the handle that was met last stands in its place
pub handle_is : (ws all : List WireHandle) (w : WireHandle) → Begin (ws ++ w ∷ []) all → slice_get all (length ws) ≡ Some w
handle_is ws all w b = ap (λ (xs : List WireHandle). slice_get xs (length ws)) b.1 ∙ last_of ws b.0 w

abbrev pub Holds : Seen → Seen → Seen → Seen → Type 0
Holds p p' q q' = Begin p.wires p'.wires × Begin q.wires q'.wires

same_wires : (p q : Seen) → Begin p.wires p.wires × Begin q.wires q.wires
same_wires p q = (begin_self p.wires, begin_self q.wires)

holds_then : (p h p' q g q' : Seen) → Holds p h q g → Holds h p' g q' → Holds p p' q q'
holds_then p h p' q g q' a b = (begin_then p.wires h.wires p'.wires a.0 b.0, begin_then q.wires g.wires q'.wires a.1 b.1)

module _ {types : List Form} {call : Call} where
  mutual
    pub suits_hold : {room : ℕ} {body : Vals} {link : Option Count} {s : Form} {v : Val} {p p' q q' : Seen} → Suits types call room body link s v p p' q q' → Holds p p' q q'
    suits_hold (suits_bool {p = p} {q = q}) = same_wires p q
    suits_hold (suits_byte {p = p} {q = q} x) = same_wires p q
    suits_hold (suits_char {p = p} {q = q} x) = same_wires p q
    suits_hold (suits_int {p = p} {q = q} x) = same_wires p q
    suits_hold (suits_uint {p = p} {q = q} x) = same_wires p q
    suits_hold (suits_enum {p = p} {q = q} x y) = same_wires p q
    suits_hold (suits_handle {w = w} {p = p} {q = q} x) = ((w ∷ [], refl), begin_self q.wires)
    suits_hold (suits_text {p = p} {q = q} x) = same_wires p q
    suits_hold (suits_name is s) = suits_hold s
    suits_hold (suits_struct ss) = each_hold ss
    suits_hold (suits_empty_arm {p = p} {q = q} x y z) = same_wires p q
    suits_hold (suits_arm x y z s) = suits_hold s
    suits_hold (suits_array x ss) = all_hold ss
    suits_hold (suits_ref {p = p} {q = q} {h = h} {q' = q'} s) = let g = suits_hold s in (begin_self p.wires, begin_then q.wires h.wires q'.wires g.0 g.1)
    suits_hold (suits_null {p = p} {q = q}) = same_wires p q
    suits_hold (suits_unique {p = p} {q = q} {h = h} {q' = q'} s) = let g = suits_hold s in (begin_self p.wires, begin_then q.wires h.wires q'.wires g.0 g.1)
    suits_hold (suits_null_full {p = p} {q = q}) = same_wires p q
    suits_hold (suits_new {p = p} {q = q} {h = h} {q' = q'} is s) = let g = suits_hold s in (begin_self p.wires, begin_then q.wires h.wires q'.wires g.0 g.1)
    suits_hold (suits_repeat {p = p} {q = q} is alike) = same_wires p q

    pub each_hold : {room : ℕ} {body : Vals} {ss : Forms} {vs : Vals} {p p' q q' : Seen} → SuitEach types call room body ss vs p p' q q' → Holds p p' q q'
    each_hold (no_member {p = p} {q = q}) = same_wires p q
    each_hold (then_member {p = p} {h = h} {p' = p'} {q = q} {g = g} {q' = q'} s ss) = holds_then p h p' q g q' (suits_hold s) (each_hold ss)

    pub all_hold : {room : ℕ} {body : Vals} {s : Form} {vs : Vals} {p p' q q' : Seen} → SuitAll types call room body s vs p p' q q' → Holds p p' q q'
    all_hold (no_element {p = p} {q = q}) = same_wires p q
    all_hold (then_element {p = p} {h = h} {p' = p'} {q = q} {g = g} {q' = q'} s ss) = holds_then p h p' q g q' (suits_hold s) (all_hold ss)

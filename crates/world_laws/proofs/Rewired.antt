-- A message with other handles in place of its own is of the same operation, in each of its places.
use Rattle.std.proofs.Common.{◌≡◌, ℕ, zero, suc, List, [], ◌∷◌, ◌++◌, length, Option, Some, None, refl, sym, ap, subst, ◌∙◌, arith}
use Rattle.std.specs.Prelude.{ℤ, slice_get, unwrap_or}
use Rattle.rpc_base.specs.declared.identifiers.WireHandle.{WireHandle}
use Rattle.rpc_base.specs.Fields.{FitsHandle}
use Rattle.ndr_value.specs.declared.shape.Count.{Count}
use Rattle.ndr_value.specs.declared.shape.Count.TheVariants as counts
use Rattle.ndr_value.specs.declared.shape.ArrayKind.{ArrayKind}
use Rattle.ndr_value.specs.Forms.{Form, OfHandle, Forms}
use Rattle.ndr_value.specs.Values.{Val, VHandle, Vals, Msg}
use Rattle.ndr_table.specs.Tables.{OpForm}
use Rattle.ndr_model.specs.declared.way.Way.{Way}
use Rattle.ndr_model.specs.Stub.{Entry}
use Rattle.ndr_model.specs.Named.{Call, named}
use Rattle.ndr_model.specs.Agree.{IsTied}
use Rattle.ndr_model.specs.Fits.{SuitsCounts, counts_fixed, counts_varying, counts_conformant, counts_both, Seen, with_wire, Suits, suits_bool, suits_byte, suits_char, suits_int, suits_uint, suits_enum, suits_handle, suits_text, suits_name, suits_struct, suits_empty_arm, suits_arm, suits_array, suits_ref, suits_null, suits_unique, suits_null_full, suits_new, suits_repeat, SuitEach, no_member, then_member, SuitAll, no_element, then_element, SuitEntries, no_entry, then_entry, IsOfOp}
use Rattle.ndr_model.specs.Written.{call_of}
use Rattle.manager_api.specs.Responses.{null_handle}
use Rattle.conn_histories.specs.Ends.{with_wires}

-- ---- handles by their number

-- the first n
abbrev pub firsts : (ℕ → WireHandle) → ℕ → List WireHandle
firsts f zero = []
firsts f (suc n) = f zero ∷ firsts (λ i. f (suc i)) n

firsts_count : (n : ℕ) (f : ℕ → WireHandle) → length (firsts f n) ≡ n
firsts_count zero f = refl
firsts_count (suc n) f = ap suc (firsts_count n (λ i. f (suc i)))

one_more : (n : ℕ) (f : ℕ → WireHandle) → firsts f (suc n) ≡ firsts f n ++ f n ∷ []
one_more zero f = refl
one_more (suc n) f = ap (λ (ws : List WireHandle). f zero ∷ ws) (one_more n (λ i. f (suc i)))

long_more : (ws : List WireHandle) (w : WireHandle) → length (ws ++ w ∷ []) ≡ suc (length ws)
long_more [] w = refl
long_more (x ∷ ws) w = ap suc (long_more ws w)

-- what was seen, with other handles
abbrev pub rewired : (ℕ → WireHandle) → Seen → Seen
rewired f p = record { shapes = p.shapes; wires = firsts f (length p.wires) }

wired_more : (f : ℕ → WireHandle) (p : Seen) (w : WireHandle) → with_wire (rewired f p) (f (length p.wires)) ≡ rewired f (with_wire p w)
wired_more f p w = sym (ap (λ (ws : List WireHandle). record { shapes = p.shapes; wires = ws }) (ap (firsts f) (long_more p.wires w) ∙ one_more (length p.wires) f))

-- ---- counts and tags name no handle

named_same : (op : OpForm) (way : Way) (asked : Option Msg) (m : Msg) (ws : List WireHandle) (body : Vals) (c : Count) → named (call_of op way asked (with_wires m ws)) body c ≡ named (call_of op way asked m) body c
named_same op way asked m ws body (counts.Number n) = refl
named_same op way asked m ws body (counts.Param index through plus) = refl
named_same op way asked m ws body (counts.Member index plus) = refl

tied_same : (op : OpForm) (way : Way) (asked : Option Msg) (m : Msg) (ws : List WireHandle) (body : Vals) (link : Option Count) (tag : ℤ) → IsTied (call_of op way asked m) body link tag → IsTied (call_of op way asked (with_wires m ws)) body link tag
tied_same op way asked m ws body None tag h = h
tied_same op way asked m ws body (Some c) tag h = named_same op way asked m ws body c ∙ h

counts_same : (op : OpForm) (way : Way) (asked : Option Msg) (m : Msg) (ws : List WireHandle) {body : Vals} {kind : ArrayKind} {n : ℕ} → SuitsCounts (call_of op way asked m) body kind n → SuitsCounts (call_of op way asked (with_wires m ws)) body kind n
counts_same op way asked m ws counts_fixed = counts_fixed
counts_same op way asked m ws {body = body} (counts_varying {c = c} a b is) = counts_varying a b (named_same op way asked m ws body c ∙ is)
counts_same op way asked m ws {body = body} (counts_conformant {c = c} a is) = counts_conformant a (named_same op way asked m ws body c ∙ is)
counts_same op way asked m ws {body = body} (counts_both {c = c} {d = d} a b is is2) = counts_both a b (named_same op way asked m ws body c ∙ is) (named_same op way asked m ws body d ∙ is2)

-- ---- values

module _ (types : List Form) (op : OpForm) (way : Way) (asked : Option Msg) (m : Msg) (ws : List WireHandle) (f : ℕ → WireHandle) (fit : (n : ℕ) → FitsHandle (f n)) where
  handle_swaps : (room kind : ℕ) (body : Vals) (link : Option Count) (w : WireHandle) (p q : Seen)
      → Suits types (call_of op way asked (with_wires m ws)) room body link (OfHandle kind) (VHandle (length p.wires)) (rewired f p) (rewired f (with_wire p w)) (rewired f q) (rewired f q)
  handle_swaps room kind body link w p q =
      subst (λ (k : ℕ). Suits types (call_of op way asked (with_wires m ws)) room body link (OfHandle kind) (VHandle k) (rewired f p) (rewired f (with_wire p w)) (rewired f q) (rewired f q)) (firsts_count (length p.wires) f)
      (subst (λ (x : Seen). Suits types (call_of op way asked (with_wires m ws)) room body link (OfHandle kind) (VHandle (length (firsts f (length p.wires)))) (rewired f p) x (rewired f q) (rewired f q)) (wired_more f p w)
      (suits_handle {p = rewired f p} (fit (length p.wires))))

  mutual
    swaps : {room : ℕ} {body : Vals} {link : Option Count} {s : Form} {v : Val} {p p' q q' : Seen} → Suits types (call_of op way asked m) room body link s v p p' q q'
        → Suits types (call_of op way asked (with_wires m ws)) room body link s v (rewired f p) (rewired f p') (rewired f q) (rewired f q')
    swaps suits_bool = suits_bool
    swaps (suits_byte x) = suits_byte x
    swaps (suits_char x) = suits_char x
    swaps (suits_int x) = suits_int x
    swaps (suits_uint x) = suits_uint x
    swaps (suits_enum x y) = suits_enum x y
    swaps (suits_handle {room = room} {kind = kind} {body = body} {link = link} {w = w} {p = p} {q = q} x) = handle_swaps room kind body link w p q
    swaps (suits_text x) = suits_text x
    swaps (suits_name is s) = suits_name is (swaps s)
    swaps (suits_struct ss) = suits_struct (each_swaps ss)
    swaps (suits_empty_arm {body = body} {link = link} {tag = tag} x y z) = suits_empty_arm x (tied_same op way asked m ws body link tag y) z
    swaps (suits_arm {body = body} {link = link} {tag = tag} x y z s) = suits_arm x (tied_same op way asked m ws body link tag y) z (swaps s)
    swaps (suits_array x ss) = suits_array (counts_same op way asked m ws x) (all_swaps ss)
    swaps (suits_ref s) = suits_ref (swaps s)
    swaps suits_null = suits_null
    swaps (suits_unique s) = suits_unique (swaps s)
    swaps suits_null_full = suits_null_full
    swaps (suits_new is s) = suits_new is (swaps s)
    swaps (suits_repeat is alike) = suits_repeat is alike

    each_swaps : {room : ℕ} {body : Vals} {ss : Forms} {vs : Vals} {p p' q q' : Seen} → SuitEach types (call_of op way asked m) room body ss vs p p' q q'
        → SuitEach types (call_of op way asked (with_wires m ws)) room body ss vs (rewired f p) (rewired f p') (rewired f q) (rewired f q')
    each_swaps no_member = no_member
    each_swaps (then_member s ss) = then_member (swaps s) (each_swaps ss)

    all_swaps : {room : ℕ} {body : Vals} {s : Form} {vs : Vals} {p p' q q' : Seen} → SuitAll types (call_of op way asked m) room body s vs p p' q q'
        → SuitAll types (call_of op way asked (with_wires m ws)) room body s vs (rewired f p) (rewired f p') (rewired f q) (rewired f q')
    all_swaps no_element = no_element
    all_swaps (then_element s ss) = then_element (swaps s) (all_swaps ss)

  entries_swap : {es : List Entry} {vs : Vals} {q q' : Seen} → SuitEntries types (call_of op way asked m) es vs q q' → SuitEntries types (call_of op way asked (with_wires m ws)) es vs (rewired f q) (rewired f q')
  entries_swap no_entry = no_entry
  entries_swap (then_entry s r ss) = then_entry (swaps s) r (entries_swap ss)

-- ---- a message

abbrev pub AllFit : List WireHandle → Type 0
AllFit [] = Unit {0}
AllFit (w ∷ ws) = FitsHandle w × AllFit ws

pub null_fits : FitsHandle null_handle
null_fits = record { attributes = omega arith; id = omega arith }

-- the handle of that number, null where there is none
abbrev handle_at : List WireHandle → ℕ → WireHandle
handle_at ws n = unwrap_or (slice_get ws n) null_handle

handles_fit : (ws : List WireHandle) (n : ℕ) → AllFit ws → FitsHandle (handle_at ws n)
handles_fit [] n h = null_fits
handles_fit (w ∷ ws) zero h = h.0
handles_fit (w ∷ ws) (suc n) h = handles_fit ws n h.1

all_firsts : (ws : List WireHandle) → firsts (handle_at ws) (length ws) ≡ ws
all_firsts [] = refl
all_firsts (w ∷ ws) = ap (λ (xs : List WireHandle). w ∷ xs) (all_firsts ws)

pub with_others : (types : List Form) (op : OpForm) (way : Way) (asked : Option Msg) (m : Msg) (ws : List WireHandle) → IsOfOp types op way asked m → length ws ≡ length m.wires → AllFit ws → IsOfOp types op way asked (with_wires m ws)
with_others types op way asked m ws h count fit =
    let f = handle_at ws in
    record {
      end = rewired f h.end;
      suits = entries_swap types op way asked m ws f (λ n. handles_fit ws n fit) h.suits;
      heap = h.heap;
      wires = sym (all_firsts ws) ∙ ap (firsts f) (count ∙ ap length h.wires);
    }

-- ---- the handles of a message fit their octets

fit_more : (ws : List WireHandle) (w : WireHandle) → AllFit ws → FitsHandle w → AllFit (ws ++ w ∷ [])
fit_more [] w h x = (x, tt)
fit_more (y ∷ ws) w h x = (h.0, fit_more ws w h.1 x)

abbrev Fit : Seen → Seen → Type 0
Fit p q = AllFit p.wires → AllFit q.wires

module _ {types : List Form} {call : Call} where
  mutual
    fits : {room : ℕ} {body : Vals} {link : Option Count} {s : Form} {v : Val} {p p' q q' : Seen} → Suits types call room body link s v p p' q q' → Fit p p' × Fit q q'
    fits suits_bool = (λ h. h, λ h. h)
    fits (suits_byte x) = (λ h. h, λ h. h)
    fits (suits_char x) = (λ h. h, λ h. h)
    fits (suits_int x) = (λ h. h, λ h. h)
    fits (suits_uint x) = (λ h. h, λ h. h)
    fits (suits_enum x y) = (λ h. h, λ h. h)
    fits (suits_handle {w = w} {p = p} x) = (λ h. fit_more p.wires w h x, λ h. h)
    fits (suits_text x) = (λ h. h, λ h. h)
    fits (suits_name is s) = fits s
    fits (suits_struct ss) = each_fits ss
    fits (suits_empty_arm x y z) = (λ h. h, λ h. h)
    fits (suits_arm x y z s) = fits s
    fits (suits_array x ss) = all_fits ss
    fits (suits_ref s) = let g = fits s in (λ h. h, λ h. g.1 (g.0 h))
    fits suits_null = (λ h. h, λ h. h)
    fits (suits_unique s) = let g = fits s in (λ h. h, λ h. g.1 (g.0 h))
    fits suits_null_full = (λ h. h, λ h. h)
    fits (suits_new is s) = let g = fits s in (λ h. h, λ h. g.1 (g.0 h))
    fits (suits_repeat is alike) = (λ h. h, λ h. h)

    each_fits : {room : ℕ} {body : Vals} {ss : Forms} {vs : Vals} {p p' q q' : Seen} → SuitEach types call room body ss vs p p' q q' → Fit p p' × Fit q q'
    each_fits no_member = (λ h. h, λ h. h)
    each_fits (then_member s ss) = let a = fits s in let b = each_fits ss in (λ h. b.0 (a.0 h), λ h. b.1 (a.1 h))

    all_fits : {room : ℕ} {body : Vals} {s : Form} {vs : Vals} {p p' q q' : Seen} → SuitAll types call room body s vs p p' q q' → Fit p p' × Fit q q'
    all_fits no_element = (λ h. h, λ h. h)
    all_fits (then_element s ss) = let a = fits s in let b = all_fits ss in (λ h. b.0 (a.0 h), λ h. b.1 (a.1 h))

  entries_fit : {es : List Entry} {vs : Vals} {q q' : Seen} → SuitEntries types call es vs q q' → Fit q q'
  entries_fit no_entry = λ h. h
  entries_fit (then_entry s r ss) = let g = fits s in let more = entries_fit ss in λ h. more (g.1 (g.0 h))

pub wires_fit : (types : List Form) (op : OpForm) (way : Way) (asked : Option Msg) (m : Msg) → IsOfOp types op way asked m → AllFit m.wires
wires_fit types op way asked m h = subst AllFit (sym h.wires) (entries_fit h.suits tt)

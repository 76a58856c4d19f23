-- A message has a handle for each handle parameter that goes its way.
use Rattle.std.proofs.Common.{◌≡◌, ℕ, zero, suc, ◌+◌, Bool, true, false, List, [], ◌∷◌, length, Option, Some, None, refl, sym, ap, subst, ◌∙◌, arith, length-append}
use Rattle.std.specs.Prelude.{◌&&◌, ◌||◌, ◌==◌, slice_get, is_some, ℤ, if◌then◌else◌}
use Rattle.std.specs.Bool.{beq}
use Rattle.std.specs.List.{list_all}
use Rattle.ndr_value.specs.declared.shape.Count.{Count}
use Rattle.ndr_value.specs.Forms.{Form, OfHandle, OfRef, OfUnion, Forms, Body, ArmForms, no_arm, then_arm, empty, holds}
use Rattle.ndr_value.specs.Values.{Val, Vals, no_val, Msg}
use Rattle.ndr_value.specs.Fits.{arm_of}
use Rattle.ndr_table.specs.declared.operation.HandleUse.{HandleUse}
use Rattle.ndr_table.specs.Tables.{ParamForm, OpForm}
use Rattle.ndr_table.specs.Sound.{has_member, has_element, is_tag, is_sound, each_sound, arms_sound, body_sound, own_kind, handle_kind, range_sound, param_sound, result_sound, op_sound, is_use, behind_kind, if_left, are_uses, each_uses, IsSound}
use Rattle.ndr_laws.proofs.Grounded.{HasBody, EachArm, arm_has}
use Rattle.ndr_model.specs.declared.way.Way.{Way}
use Rattle.ndr_model.specs.declared.way.Way.TheVariants.{Request, Response}
use Rattle.ndr_model.specs.Stub.{Entry, of_param, param_entry, goes, last_entry, entries_of}
use Rattle.ndr_model.specs.Named.{Call}
use Rattle.ndr_model.specs.Fits.{Seen, Suits, suits_bool, suits_byte, suits_char, suits_int, suits_uint, suits_enum, suits_handle, suits_text, suits_name, suits_struct, suits_empty_arm, suits_arm, suits_array, suits_ref, suits_null, suits_unique, suits_null_full, suits_new, suits_repeat, SuitEach, no_member, then_member, SuitAll, no_element, then_element, SuitEntries, no_entry, then_entry, nothing_seen, IsOfOp}
use Rattle.ndr_model.specs.Written.{call_of}
use Rattle.manager_api.specs.Calls.{uses_or}

both : (a b : Bool) → (a && b) ≡ true → (a ≡ true) × (b ≡ true)
both true true e = (refl, refl)
both true false e = absurd cc
both false b e = absurd cc

clash : {A : Type 0} {b : Bool} → b ≡ true → b ≡ false → A
clash p q = absurd cc

-- ---- what is sound in a list

all_at : {A : Type 0} (f : A → Bool) (xs : List A) (n : ℕ) (x : A) → list_all f xs ≡ true → slice_get xs n ≡ Some x → f x ≡ true
all_at f [] n x h e = absurd cc
all_at f (y ∷ ys) zero x h e = let p = both (f y) (list_all f ys) h in let q : y ≡ x = cc in ap f (sym q) ∙ p.0
all_at f (y ∷ ys) (suc n) x h e = all_at f ys n x (both (f y) (list_all f ys) h).1 e

-- ---- the arm that a tag selects

abbrev Sound : Form → Type 0
Sound s = is_sound s ≡ true

body_has : (b : Body) → body_sound b ≡ true → HasBody Sound b
body_has empty h = tt
body_has (holds s) h = h

arms_have : (arms : ArmForms) → arms_sound arms ≡ true → EachArm Sound arms
arms_have no_arm h = tt
arms_have (then_arm cases default b rest) h =
    let p = both (body_sound b) (arms_sound rest) h in (body_has b p.0, arms_have rest p.1)

arm_sound : (t : Form) (arms : ArmForms) (tag : ℤ) (s : Form) → arms_sound arms ≡ true → arm_of (OfUnion t arms) tag ≡ Some (holds s) → is_sound s ≡ true
arm_sound t arms tag s h e = arm_has Sound s t arms tag e (arms_have arms h)

-- ---- a shape without handles

abbrev Same : Seen → Seen → Type 0
Same p q = q.wires ≡ p.wires

then_same : (p h q : Seen) → Same p h → Same h q → Same p q
then_same p h q a b = b ∙ a

module _ {types : List Form} {call : Call} (sound : list_all is_sound types ≡ true) where
  mutual
    none_met : {room : ℕ} {body : Vals} {link : Option Count} {s : Form} {v : Val} {p p' q q' : Seen} → is_sound s ≡ true
        → Suits types call room body link s v p p' q q' → Same p p' × Same q q'
    none_met h (suits_bool) = (refl, refl)
    none_met h (suits_byte x) = (refl, refl)
    none_met h (suits_char x) = (refl, refl)
    none_met h (suits_int x) = (refl, refl)
    none_met h (suits_uint x) = (refl, refl)
    none_met h (suits_enum x y) = (refl, refl)
    none_met h (suits_handle x) = absurd cc
    none_met h (suits_text x) = (refl, refl)
    none_met h (suits_name {c = c} {s = s} is x) = none_met (all_at is_sound types c s sound is) x
    none_met h (suits_struct {ss = ss} x) = each_met (both (has_member ss) (each_sound ss) h).1 x
    none_met h (suits_empty_arm x y z) = (refl, refl)
    none_met h (suits_arm {t = t} {s = s} {arms = arms} {tag = tag} x y is z) =
        none_met (arm_sound t arms tag s (both (is_tag t && is_sound t) (arms_sound arms) h).1 is) z
    none_met h (suits_array {kind = kind} {s = s} x y) = all_met (both (has_element kind) (is_sound s) h).1 y
    none_met h (suits_ref {q = q} {h = m} {q' = q'} x) = let f = none_met h x in (refl, then_same q m q' f.0 f.1)
    none_met h (suits_null) = (refl, refl)
    none_met h (suits_unique {q = q} {h = m} {q' = q'} x) = let f = none_met h x in (refl, then_same q m q' f.0 f.1)
    none_met h (suits_null_full) = (refl, refl)
    none_met h (suits_new {q = q} {h = m} {q' = q'} is x) = let f = none_met h x in (refl, then_same q m q' f.0 f.1)
    none_met h (suits_repeat x y) = (refl, refl)

    each_met : {room : ℕ} {body : Vals} {ss : Forms} {vs : Vals} {p p' q q' : Seen} → each_sound ss ≡ true
        → SuitEach types call room body ss vs p p' q q' → Same p p' × Same q q'
    each_met h (no_member) = (refl, refl)
    each_met h (then_member {s = s} {ss = ss} {p = p} {h = m} {p' = p'} {q = q} {g = g} {q' = q'} x xs) =
        let b = both (is_sound s) (each_sound ss) h in
        let f = none_met b.0 x in
        let k = each_met b.1 xs in
        (then_same p m p' f.0 k.0, then_same q g q' f.1 k.1)

    all_met : {room : ℕ} {body : Vals} {s : Form} {vs : Vals} {p p' q q' : Seen} → is_sound s ≡ true
        → SuitAll types call room body s vs p p' q q' → Same p p' × Same q q'
    all_met h (no_element) = (refl, refl)
    all_met h (then_element {p = p} {h = m} {p' = p'} {q = q} {g = g} {q' = q'} x xs) =
        let f = none_met h x in
        let k = all_met h xs in
        (then_same p m p' f.0 k.0, then_same q g q' f.1 k.1)

-- ---- parameters

abbrev pub use_goes : Way → HandleUse → Bool
use_goes Request u = u.inward
use_goes Response u = u.outward

-- how many of the handles go that way
abbrev pub count_in : Way → List HandleUse → ℕ
count_in way [] = 0
count_in way (u ∷ us) = if use_goes way u then suc (count_in way us) else count_in way us

-- one parameter's value adds so many handles
abbrev Adds : ℕ → Seen → Seen → Type 0
Adds n q g = length g.wires ≡ length q.wires + n

module _ {types : List Form} {call : Call} where
  -- a handle adds itself
  handle_met : {room kind : ℕ} {body : Vals} {link : Option Count} {v : Val} {q h g : Seen} → Suits types call room body link (OfHandle kind) v q h h g → Adds 1 q g
  handle_met (suits_handle {w = w} {p = q} x) = length-append q.wires (w ∷ [])

  own_met : {room kind : ℕ} {body : Vals} {link : Option Count} {v : Val} {q h g : Seen} (s : Form) → own_kind s ≡ Some kind → Suits types call room body link s v q h h g → Adds 1 q g
  own_met (OfHandle k) e x = handle_met x
  own_met _ e x = absurd cc

  kind_met : {room kind : ℕ} {body : Vals} {link : Option Count} {v : Val} {q h g : Seen} (s : Form) → handle_kind s ≡ Some kind → Suits types call room body link (of_param s) v q h h g → Adds 1 q g
  kind_met (OfRef s) e x = own_met s e x
  kind_met (OfHandle k) e x = handle_met x
  kind_met _ e x = absurd cc

-- what a sound parameter's own Ref points to is sound
sound_behind : (s : Form) → is_sound s ≡ true → is_sound (of_param s) ≡ true
sound_behind (OfRef s) e = e
sound_behind _ e = e

-- so many where it goes in
abbrev added : Bool → ℕ → ℕ
added b n = if b then n else 0

none_added : (b : Bool) → added b 0 ≡ 0
none_added true = refl
none_added false = refl

same_bool : (a b : Bool) → beq a b ≡ true → a ≡ b
same_bool true true e = refl
same_bool false false e = refl
same_bool true false e = absurd cc
same_bool false true e = absurd cc

one_more : (way : Way) (u : HandleUse) (us : List HandleUse) (b : Bool) → use_goes way u ≡ b → count_in way (u ∷ us) ≡ added b 1 + count_in way us
one_more way u us true e = rw e (omega arith)
one_more way u us false e = rw e (omega arith)

module _ (types : List Form) (call : Call) (way : Way) where
  abbrev AddsEach : List Entry → ℕ → Type 0
  AddsEach es n = (vs : Vals) (q g : Seen) → SuitEntries types call es vs q g → Adds n q g

  abbrev AddsOne : Form → ℕ → Type 0
  AddsOne s n = (v : Val) (q h g : Seen) → Suits types call 256 no_val None s v q h h g → Adds n q g

  entry_adds : (b : Bool) (e : Entry) (es : List Entry) (n k : ℕ) → AddsOne e.shape n → AddsEach es k → (vs : Vals) (q g : Seen)
      → SuitEntries types call (if b then e ∷ es else es) vs q g → Adds (added b n + k) q g
  entry_adds true e es n k one more _ _ _ (then_entry {v = v} {vs = vs} {q = q} {h = h} {g = m} {q' = g} x r xs) =
      let a : Adds n q m = one v q h m x in let b : Adds k m g = more vs m g xs in omega (arith, a, b)
  entry_adds false e es n k one more vs q g xs = let b : Adds k q g = more vs q g xs in omega (arith, b)

  sound_one : list_all is_sound types ≡ true → (s : Form) → is_sound s ≡ true → AddsOne (of_param s) 0
  sound_one sound s h v q m g x =
      let f = none_met sound (sound_behind s h) x in
      let e : length g.wires ≡ length q.wires = ap length (then_same q m g f.0 f.1) in
      omega (arith, e)

  no_use : list_all is_sound types ≡ true → (p : ParamForm) (es : List Entry) (us : List HandleUse) → is_sound p.shape ≡ true → AddsEach es (count_in way us)
      → AddsEach (if goes way p then param_entry p ∷ es else es) (count_in way us)
  no_use sound p es us h more vs q g xs =
      let f = entry_adds (goes way p) (param_entry p) es 0 (count_in way us) (sound_one sound p.shape h) more vs q g xs in
      omega (arith, f, none_added (goes way p))

  own_use : (p : ParamForm) (es : List Entry) (kind : ℕ) (u : HandleUse) (us : List HandleUse) → handle_kind p.shape ≡ Some kind → use_goes way u ≡ goes way p
      → AddsEach es (count_in way us) → AddsEach (if goes way p then param_entry p ∷ es else es) (count_in way (u ∷ us))
  own_use p es kind u us is e more vs q g xs =
      let f = entry_adds (goes way p) (param_entry p) es 1 (count_in way us) (λ v a b d x. kind_met p.shape is x) more vs q g xs in
      omega (arith, f, one_more way u us (goes way p) e)

kind_or_sound : (o : Option ℕ) (b c : Bool) → ((is_some o || b) && c) ≡ true → o ≡ None → b ≡ true
kind_or_sound None true c h e = refl
kind_or_sound None false c h e = absurd cc
kind_or_sound (Some k) b c h e = absurd cc

-- a use goes where its parameter does
use_as : (way : Way) (p : ParamForm) (u : HandleUse) → u.inward ≡ p.inward → u.outward ≡ p.outward → use_goes way u ≡ goes way p
use_as Request p u a b = a
use_as Response p u a b = b

module _ (types : List Form) (call : Call) (way : Way) (sound : list_all is_sound types ≡ true) (result : Option Form) (fine : result_sound result ≡ true) where
  abbrev Rest : List ParamForm → List HandleUse → Type 0
  Rest ps us = AddsEach types call way (entries_of way ps result) (count_in way us)

  abbrev Goes : List ParamForm → Type 0
  Goes ps = (us : List HandleUse) → are_uses ps us ≡ true → Rest ps us

  by_use : (p : ParamForm) (ps : List ParamForm) (kind : ℕ) (u : HandleUse) (us : List HandleUse) (b : Bool) → is_use kind p u ≡ b
      → handle_kind p.shape ≡ Some kind → if_left (are_uses ps) (if b then Some us else None) ≡ true → Goes ps → Rest (p ∷ ps) (u ∷ us)
  by_use p ps kind u us true is k a go =
      let w = both (u.kind == kind) (beq u.inward p.inward && beq u.outward p.outward) is in
      let x = both (beq u.inward p.inward) (beq u.outward p.outward) w.1 in
      let e = use_as way p u (same_bool u.inward p.inward x.0) (same_bool u.outward p.outward x.1) in
      own_use types call way p (entries_of way ps result) kind u us k e (go us a)
  by_use p ps kind u us false is k a go = absurd cc

  by_kind : (p : ParamForm) (ps : List ParamForm) (us : List HandleUse) (o : Option ℕ) → handle_kind p.shape ≡ o → param_sound p ≡ true
      → if_left (are_uses ps) (behind_kind o p us) ≡ true → Goes ps → Rest (p ∷ ps) us
  by_kind p ps us None is h a go =
      let s = kind_or_sound (handle_kind p.shape) (is_sound p.shape) (range_sound p.shape p.range) h is in
      no_use types call way sound p (entries_of way ps result) us s (go us a)
  by_kind p ps [] (Some kind) is h a go = absurd cc
  by_kind p ps (u ∷ us) (Some kind) is h a go = by_use p ps kind u us (is_use kind p u) refl is a go

  none_adds : (vs : Vals) (q g : Seen) → SuitEntries types call [] vs q g → Adds 0 q g
  none_adds _ _ _ (no_entry {q = q}) = omega arith

  sound_adds : (s : Form) → is_sound s ≡ true → (vs : Vals) (q g : Seen) → SuitEntries types call (record { shape = s; range = None } ∷ []) vs q g → Adds 0 q g
  sound_adds s h _ _ _ (then_entry {v = v} {vs = vs} {q = q} {h = m} {g = k} {q' = g} x r xs) =
      let f = none_met sound h x in
      let e : length k.wires ≡ length q.wires = ap length (then_same q m k f.0 f.1) in
      let n : Adds 0 k g = none_adds vs k g xs in
      omega (arith, e, n)

  -- the result has no handle
  last_adds : (w : Way) (r : Option Form) → result_sound r ≡ true → (vs : Vals) (q g : Seen) → SuitEntries types call (last_entry w r) vs q g → Adds 0 q g
  last_adds Request None h vs q g xs = none_adds vs q g xs
  last_adds Request (Some s) h vs q g xs = none_adds vs q g xs
  last_adds Response None h vs q g xs = none_adds vs q g xs
  last_adds Response (Some s) h vs q g xs = sound_adds s h vs q g xs

  params_add : (ps : List ParamForm) → list_all param_sound ps ≡ true → Goes ps
  params_add [] h [] a = last_adds way result fine
  params_add [] h (u ∷ us) a = absurd cc
  params_add (p ∷ ps) h us a =
      let b = both (param_sound p) (list_all param_sound ps) h in
      by_kind p ps us (handle_kind p.shape) refl b.0 a (params_add ps b.1)

-- ---- a message

uses_at_op : (ops : List OpForm) (uses : List (List HandleUse)) (n : ℕ) (o : OpForm) → each_uses ops uses ≡ true → slice_get ops n ≡ Some o
    → are_uses o.params (uses_or (slice_get uses n)) ≡ true
uses_at_op [] uses n o h e = absurd cc
uses_at_op (x ∷ ops) [] n o h e = absurd cc
uses_at_op (x ∷ ops) (us ∷ uses) zero o h e =
    let same : x ≡ o = cc in
    subst (λ (y : OpForm). are_uses y.params us ≡ true) same (both (are_uses x.params us) (each_uses ops uses) h).0
uses_at_op (x ∷ ops) (us ∷ uses) (suc n) o h e = uses_at_op ops uses n o (both (are_uses x.params us) (each_uses ops uses) h).1 e

-- as many handles as go its way
pub wires_are : (way : Way) (types : List Form) (ops : List OpForm) (uses : List (List HandleUse)) (n : ℕ) (o : OpForm) (asked : Option Msg) (m : Msg)
    → IsSound types ops uses → slice_get ops n ≡ Some o → IsOfOp types o way asked m → length m.wires ≡ count_in way (uses_or (slice_get uses n))
wires_are way types ops uses n o asked m sound at is =
    let good = all_at op_sound ops n o sound.ops_are at in
    let params = both (list_all param_sound o.params) (result_sound o.result) good in
    let mine = uses_at_op ops uses n o sound.uses_are at in
    let e : length is.end.wires ≡ 0 + count_in way (uses_or (slice_get uses n)) =
    params_add types (call_of o way asked m) way sound.types_are o.result params.1 o.params params.0 (uses_or (slice_get uses n)) mine m.values nothing_seen is.end is.suits in
    let f : length m.wires ≡ length is.end.wires = ap length is.wires in
    omega (arith, e, f)

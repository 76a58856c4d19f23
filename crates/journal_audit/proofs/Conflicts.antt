-- Which of a call's slots clash with those of taken calls, by the serials that these use.
use Rattle.std.proofs.Common.{◌≡◌, ℕ, ◌<◌, Bool, true, false, ◌&&◌, ◌||◌, not, ◌==◌, Option, Some, None, List, [], ◌∷◌, refl, sym, ◌∙◌, ap, subst, arith, inl, inr}
use Rattle.std.specs.List.{list_any}
use Rattle.std.proofs.lemmas.Grind.{common_steps}
use Rattle.std.proofs.lemmas.Bool.{cases_Bool, eq-eqb, eqb-true, false_from_ne_true}
use Rattle.rpc_base.specs.declared.identifiers.WireHandle.{WireHandle}
use Rattle.handle_model.specs.declared.entry.Home.{Home}
use Rattle.handle_model.specs.declared.entry.Slot.{Slot}
use Rattle.handle_model.specs.declared.entry.Slot.TheVariants.{Shares, Holds, Changes, Opens}
use Rattle.handle_model.specs.declared.base.BaseCall.{BaseCall}
use Rattle.handle_model.specs.Slots.{wire_of, same_wire, is_null, named, is_exclusive, same_handle, clash}
use Rattle.handle_model.specs.Calls.{any_clash}
use Rattle.handle_model.proofs.Held.{and_right}
use Rattle.handle_table.proofs.Wires.{wire_is}
use Rattle.journal_audit.specs.Numbered.{uses_at, holds_at, uses_in, holds_in, uses, holds}

-- one slot beside those of the calls
abbrev pub clashes : Slot → List BaseCall → Bool
clashes s cs = list_any (λ (d : BaseCall). list_any (λ x. clash x s) d.asked.slots) cs

-- THE SLOTS OF A CALL ONE BY ONE

none_clash : (xs : List Slot) → any_clash xs [] ≡ false
none_clash [] = refl
none_clash (x ∷ xs) = none_clash xs

pub none_clashes : (cs : List BaseCall) → list_any (λ (d : BaseCall). any_clash d.asked.slots []) cs ≡ false
none_clashes [] = refl
none_clashes (d ∷ cs) = rw (none_clash d.asked.slots, none_clashes cs) refl

parted : (a b p q : Bool) → ((a || b) || (p || q)) ≡ ((a || p) || (b || q))
parted true b p q = refl
parted false true true q = refl
parted false true false q = refl
parted false false p q = refl

clash_turned : (xs : List Slot) (s : Slot) (ss : List Slot) → any_clash xs (s ∷ ss) ≡ (list_any (λ x. clash x s) xs || any_clash xs ss)
clash_turned [] s ss = refl
clash_turned (x ∷ xs) s ss =
    ap (λ b. (clash x s || list_any (clash x) ss) || b) (clash_turned xs s ss) ∙ parted (clash x s) (list_any (clash x) ss) (list_any (λ y. clash y s) xs) (any_clash xs ss)

pub clashes_turned : (cs : List BaseCall) (s : Slot) (ss : List Slot) → list_any (λ (d : BaseCall). any_clash d.asked.slots (s ∷ ss)) cs ≡ (clashes s cs || list_any (λ (d : BaseCall). any_clash d.asked.slots ss) cs)
clashes_turned [] s ss = refl
clashes_turned (d ∷ cs) s ss =
    rw (clash_turned d.asked.slots s ss, clashes_turned cs s ss) (parted (list_any (λ x. clash x s) d.asked.slots) (any_clash d.asked.slots ss) (clashes s cs) (list_any (λ (e : BaseCall). any_clash e.asked.slots ss) cs))

-- A SLOT THAT NAMES A HANDLE OF THE GROUP

not_null : (home : Home) (h : ℕ) (w : WireHandle) → 0 < h → same_wire w (wire_of home h) ≡ true → is_null w ≡ false
not_null home h w lt e =
    let same = wire_is w (wire_of home h) e in
    subst (λ v. is_null v ≡ false) (sym same) (false_from_ne_true (is_null (wire_of home h)) (λ t. let zero = eqb-true (wire_of home h).id 0 (and_right ((wire_of home h).attributes == 0) ((wire_of home h).id == 0) t) in absurd (omega arith)))

named_not_null : (home : Home) (h : ℕ) (w : WireHandle) → 0 < h → (not (is_null w) && same_wire w (wire_of home h)) ≡ same_wire w (wire_of home h)
named_not_null home h w lt =
    elim (cases_Bool (same_wire w (wire_of home h))) [
      | inl t ↦ rw (t, not_null home h w lt t) refl
      | inr f ↦ elim (cases_Bool (is_null w)) [ inl n ↦ rw (n, f) refl | inr n ↦ rw (n, f) refl ]
    ]

beside_shared : (a e : Bool) → (a && (false || e)) ≡ ((a && false) || (e && a))
beside_shared true true = refl
beside_shared true false = refl
beside_shared false true = refl
beside_shared false false = refl

beside_held : (a e : Bool) → (a && (true || e)) ≡ ((a && true) || (e && a))
beside_held true e = refl
beside_held false true = refl
beside_held false false = refl

beside_none : (e : Bool) → false ≡ (false || (e && false))
beside_none true = refl
beside_none false = refl

-- `e` says whether the slot's call alone may use the handle
slot_clash : (home : Home) (h : ℕ) (e : Bool) (x : Slot) → 0 < h → (same_handle (named x) (Some (wire_of home h)) && (is_exclusive x || e)) ≡ (holds_at home h x || (e && uses_at home h x))
slot_clash home h e (Shares kind w) lt = rw (named_not_null home h w lt) (beside_shared (same_wire w (wire_of home h)) e)
slot_clash home h e (Holds kind w) lt = rw (named_not_null home h w lt) (beside_held (same_wire w (wire_of home h)) e)
slot_clash home h e (Changes kind w) lt = rw (named_not_null home h w lt) (beside_held (same_wire w (wire_of home h)) e)
slot_clash home h e (Opens kind serial) lt = beside_none e

joined : (a b p q e : Bool) → ((a || (e && b)) || (p || (e && q))) ≡ ((a || p) || (e && (b || q)))
joined true b p q e = refl
joined false b p q false = refl
joined false true true q true = refl
joined false true false q true = refl
joined false false p q true = refl

no_more : (e : Bool) → false ≡ (false || (e && false))
no_more e = beside_none e

slots_clash : (home : Home) (h : ℕ) (e : Bool) (xs : List Slot) → 0 < h → list_any (λ x. same_handle (named x) (Some (wire_of home h)) && (is_exclusive x || e)) xs ≡ (list_any (holds_at home h) xs || (e && list_any (uses_at home h) xs))
slots_clash home h e [] lt = no_more e
slots_clash home h e (x ∷ xs) lt =
    rw (slot_clash home h e x lt, slots_clash home h e xs lt) (joined (holds_at home h x) (uses_at home h x) (list_any (holds_at home h) xs) (list_any (uses_at home h) xs) e)

pub calls_clash : (home : Home) (h : ℕ) (e : Bool) (cs : List BaseCall) → 0 < h → list_any (λ (d : BaseCall). list_any (λ x. same_handle (named x) (Some (wire_of home h)) && (is_exclusive x || e)) d.asked.slots) cs ≡ (holds home h cs || (e && uses home h cs))
calls_clash home h e [] lt = no_more e
calls_clash home h e (d ∷ cs) lt =
    rw (slots_clash home h e d.asked.slots lt, calls_clash home h e cs lt) (joined (holds_in home h d) (uses_in home h d) (holds home h cs) (uses home h cs) e)

-- ONE THAT NAMES NONE

unnamed : (kind serial : ℕ) (x : Slot) → clash x (Opens kind serial) ≡ false
unnamed kind serial (Shares k w) = refl
unnamed kind serial (Holds k w) = refl
unnamed kind serial (Changes k w) = refl
unnamed kind serial (Opens k n) = refl

slots_unnamed : (kind serial : ℕ) (xs : List Slot) → list_any (λ x. clash x (Opens kind serial)) xs ≡ false
slots_unnamed kind serial [] = refl
slots_unnamed kind serial (x ∷ xs) = rw (unnamed kind serial x, slots_unnamed kind serial xs) refl

pub opens_clashes : (kind serial : ℕ) (cs : List BaseCall) → clashes (Opens kind serial) cs ≡ false
opens_clashes kind serial [] = refl
opens_clashes kind serial (d ∷ cs) = rw (slots_unnamed kind serial d.asked.slots, opens_clashes kind serial cs) refl

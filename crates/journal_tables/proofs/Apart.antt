-- A call whose slots repeat no name with an exclusive use names each handle once, or shares it.
use Rattle.std.proofs.Common.{◌≡◌, ℕ, Bool, true, false, ◌&&◌, ◌||◌, not, Option, Some, None, is_some, List, [], ◌∷◌, ◌++◌, refl, sym, ◌∙◌, ap, subst, inl, inr}
use Rattle.std.specs.List.{list_any}
use Rattle.std.proofs.lemmas.Bool.{cases_Bool, false_from_ne_true}
use Rattle.std.proofs.lemmas.List.{append_assoc}
use Rattle.std.proofs.lemmas.List.Folds.{list_any-append}
use Rattle.rpc_base.specs.declared.identifiers.WireHandle.{WireHandle}
use Rattle.handle_model.specs.declared.entry.Slot.{Slot}
use Rattle.handle_model.specs.declared.entry.Slot.TheVariants.{Shares, Holds, Changes, Opens}
use Rattle.handle_model.specs.Slots.{named, names, same_name, same_wire, same_handle, is_null, is_exclusive, clash}
use Rattle.handle_model.specs.Sound.{names_apart}
use Rattle.handle_model.specs.Journal.{repeats}
use Rattle.handle_model.proofs.Tests.{and_left, and_right, or_right, or_cases}
use Rattle.handle_model.proofs.Apart.{same_wire_from}
use Rattle.handle_model.proofs.OneSlot.{Unrepeated}

-- a slot among these
abbrev pub Within : List Slot → Slot → Type 0
Within xs s = (q : Slot → Bool) → q s ≡ true → list_any q xs ≡ true

in_front : (q : Slot → Bool) (xs ys : List Slot) → list_any q xs ≡ true → list_any q (xs ++ ys) ≡ true
in_front q xs ys h = list_any-append q xs ys ∙ rw h refl

behind : (q : Slot → Bool) (xs ys : List Slot) → list_any q ys ≡ true → list_any q (xs ++ ys) ≡ true
behind q xs ys h = list_any-append q xs ys ∙ or_right (list_any q xs) (list_any q ys) h

names_by : (w v : WireHandle) (s : Slot) → named s ≡ Some v → names w s ≡ same_wire v w
names_by w v (Shares k x) e = ap (λ o. wire_or o w) e
  where
    wire_or : Option WireHandle → WireHandle → Bool
    wire_or None w = false
    wire_or (Some x) w = same_wire x w
names_by w v (Holds k x) e = ap (λ o. wire_or o w) e
  where
    wire_or : Option WireHandle → WireHandle → Bool
    wire_or None w = false
    wire_or (Some x) w = same_wire x w
names_by w v (Changes k x) e = ap (λ o. wire_or o w) e
  where
    wire_or : Option WireHandle → WireHandle → Bool
    wire_or None w = false
    wire_or (Some x) w = same_wire x w
names_by w v (Opens k x) e = absurd (cc)

self_named : (w : WireHandle) (s : Slot) → named s ≡ Some w → names w s ≡ true
self_named w s e = names_by w w s e ∙ same_wire_from w w refl refl

-- a slot that clashes with an earlier one repeats its name
repeated_by : (earlier all : List Slot) (s t : Slot) (v w : WireHandle) → named s ≡ Some v → named t ≡ Some w → (same_handle (Some v) (Some w) && (is_exclusive s || is_exclusive t)) ≡ true → Within earlier s → Within all s → Within all t → repeats earlier all t ≡ true
repeated_by earlier all s t v w e f c i j k =
    let wires : same_wire v w ≡ true = and_right (not (is_null v)) (same_wire v w) (and_left (same_handle (Some v) (Some w)) (is_exclusive s || is_exclusive t) c) in
    let name_s : same_name (named t) s ≡ true = rw f (names_by w v s e ∙ wires) in
    let name_t : same_name (named t) t ≡ true = rw f (self_named w t f) in
    let first = i (same_name (named t)) name_s in
    let alone : list_any (λ x. same_name (named t) x && is_exclusive x) all ≡ true =
    elim (or_cases (is_exclusive s) (is_exclusive t) (and_right (same_handle (Some v) (Some w)) (is_exclusive s || is_exclusive t) c)) [
      | inl x ↦ j (λ y. same_name (named t) y && is_exclusive y) (rw (name_s, x) refl)
      | inr x ↦ k (λ y. same_name (named t) y && is_exclusive y) (rw (name_t, x) refl)
    ] in
    rw (first, alone) refl

repeated : (earlier all : List Slot) (s t : Slot) (o p : Option WireHandle) → named s ≡ o → named t ≡ p → clash s t ≡ true → Within earlier s → Within all s → Within all t → (is_some p ≡ true) × (repeats earlier all t ≡ true)
repeated earlier all s t None p e f c i j k = absurd (let d = rw e at c in cc)
repeated earlier all s t (Some v) None e f c i j k = absurd (let d = rw (e, f) at c in cc)
repeated earlier all s t (Some v) (Some w) e f c i j k = (refl, repeated_by earlier all s t v w e f (rw (e, f) at c) i j k)

none_clash : (all earlier rest : List Slot) (s : Slot) → all ≡ earlier ++ rest → Within earlier s → Unrepeated all earlier rest → list_any (clash s) rest ≡ false
none_clash all earlier [] s e i u = refl
none_clash all earlier (t ∷ rest) s e i u =
    let all_s : Within all s = λ q h. subst (λ xs. list_any q xs ≡ true) (sym e) (in_front q earlier (t ∷ rest) (i q h)) in
    let all_t : Within all t = λ q h. subst (λ xs. list_any q xs ≡ true) (sym e) (behind q earlier (t ∷ rest) (rw h refl)) in
    let here : clash s t ≡ false =
    false_from_ne_true (clash s t) (λ c.
    let r = repeated earlier all s t (named s) (named t) refl refl c i all_s all_t in
    let off = u.0 r.0 in
    let on = r.1 in cc) in
    let longer : all ≡ (earlier ++ t ∷ []) ++ rest = e ∙ sym (append_assoc earlier (t ∷ []) rest) in
    rw here (none_clash all (earlier ++ t ∷ []) rest s longer (λ q h. in_front q earlier (t ∷ []) (i q h)) u.1)

names_from : (all earlier later : List Slot) → all ≡ earlier ++ later → Unrepeated all earlier later → names_apart later ≡ true
names_from all earlier [] e u = refl
names_from all earlier (s ∷ later) e u =
    let longer : all ≡ (earlier ++ s ∷ []) ++ later = e ∙ sym (append_assoc earlier (s ∷ []) later) in
    let none = none_clash all (earlier ++ s ∷ []) later s longer (λ q h. behind q earlier (s ∷ []) (rw h refl)) u.1 in
    rw none (names_from all (earlier ++ s ∷ []) later longer u.1)

pub unrepeated_apart : (ss : List Slot) → Unrepeated ss [] ss → names_apart ss ≡ true
unrepeated_apart ss u = names_from ss [] ss refl u

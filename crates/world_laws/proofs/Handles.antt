-- What becomes of the handles of a call, parameter by parameter.
use Rattle.std.proofs.Common.{◌≡◌, ℕ, zero, suc, Bool, true, false, not, ◌&&◌, ◌||◌, eqb, Some, List, [], ◌∷◌, ◌++◌, length, map, refl, sym, ap, subst, ◌∙◌, arith}
use Rattle.std.specs.Prelude.{slice_get, if◌then◌else◌}
use Rattle.std.specs.List.{list_any, list_all}
use Rattle.std.specs.Bool.{beq}
use Rattle.std.proofs.lemmas.Bool.{eq-eqb}
use Rattle.rpc_base.specs.declared.identifiers.WireHandle.{WireHandle}
use Rattle.rpc_base.specs.Fields.{FitsHandle}
use Rattle.handle_model.specs.declared.entry.Home.{Home}
use Rattle.handle_model.specs.declared.entry.Slot.{Slot}
use Rattle.handle_model.specs.declared.entry.Slot.TheVariants.{Shares, Holds, Changes, Opens}
use Rattle.handle_model.specs.declared.entry.Outcome.{Outcome}
use Rattle.handle_model.specs.declared.entry.Outcome.TheVariants.{Keep, Close, Issue, Nothing}
use Rattle.handle_model.specs.Slots.{wire_of, is_null, names, with_serial}
use Rattle.handle_model.specs.Entries.{issues}
use Rattle.handle_model.specs.Rules.{next_serial, filled, suits, suit}
use Rattle.handle_model.proofs.OneSlot.{wire_is}
use Rattle.ndr_table.specs.declared.operation.HandleUse.{HandleUse}
use Rattle.ndr_model.specs.declared.way.Way.TheVariants.{Request, Response}
use Rattle.manager_api.specs.declared.answer.Kept.{Kept}
use Rattle.manager_api.specs.Calls.{is_stays, has_kepts}
use Rattle.manager_api.specs.Responses.{null_handle}
use Rattle.conn_histories.specs.Requests.{opening, slot_for, slots_for, kind_in}
use Rattle.conn_histories.specs.Ends.{outcome_of, outcomes_of, wire_at, wires_at}
use Rattle.world_laws.specs.Keeping.{goes_somewhere, changed_in, returned_in}
use Rattle.world_laws.proofs.Lists.{some_is}
use Rattle.world_laws.proofs.WireCount.{count_in}
use Rattle.world_laws.proofs.Rewired.{AllFit, null_fits}

-- ---- serials don't matter

same_serial : (n : ℕ) (s : Slot) → with_serial 0 (with_serial n s) ≡ with_serial 0 s
same_serial n (Opens kind serial) = refl
same_serial n (Shares kind w) = refl
same_serial n (Holds kind w) = refl
same_serial n (Changes kind w) = refl

pub filled_same : (n : ℕ) (ss : List Slot) → map (with_serial 0) (filled n ss) ≡ map (with_serial 0) ss
filled_same n [] = refl
filled_same n (s ∷ ss) = λ i. same_serial (next_serial n s) s i ∷ filled_same (next_serial n s) ss i

-- ---- a slot by its parameter

-- a handle goes out of it
abbrev pub is_out : Slot → Bool
is_out (Shares kind w) = false
is_out (Holds kind w) = false
is_out (Changes kind w) = true
is_out (Opens kind serial) = true

out_serial : (s : Slot) → is_out (with_serial 0 s) ≡ is_out s
out_serial (Opens kind serial) = refl
out_serial (Shares kind w) = refl
out_serial (Holds kind w) = refl
out_serial (Changes kind w) = refl

-- the slot of a parameter that goes in, with that handle
pub data Place (u : HandleUse) (w : WireHandle) (s : Slot) : Type 0 where
  stays : u.outward ≡ false → is_out s ≡ false → Place u w s
  opens : u.outward ≡ true → (kind serial : ℕ) → s ≡ Opens kind serial → Place u w s
  changes : u.outward ≡ true → (kind : ℕ) → s ≡ Changes kind w → Place u w s

opened_is : (s : Slot) (kind n : ℕ) → with_serial 0 s ≡ Opens kind n → (k : ℕ) × (m : ℕ) × (s ≡ Opens k m)
opened_is (Opens kind serial) k n e = (kind, serial, refl)
opened_is (Shares kind w) k n e = absurd (cc (e))
opened_is (Holds kind w) k n e = absurd (cc (e))
opened_is (Changes kind w) k n e = absurd (cc (e))

changed_is : (s : Slot) (kind : ℕ) (w : WireHandle) → with_serial 0 s ≡ Changes kind w → s ≡ Changes kind w
changed_is (Changes kind x) k w e = e
changed_is (Opens kind serial) k w e = absurd (cc (e))
changed_is (Shares kind x) k w e = absurd (cc (e))
changed_is (Holds kind x) k w e = absurd (cc (e))

place_by : (iface : ℕ) (u : HandleUse) (w : WireHandle) (s : Slot) (out null serialised : Bool) → u.outward ≡ out
    → with_serial 0 s ≡ (if out then (if null then opening iface u else Changes (kind_in iface u) w) else (if serialised then Holds (kind_in iface u) w else Shares (kind_in iface u) w)) → Place u w s
place_by iface u w s true true serialised out e = let (kind, serial, is) = opened_is s (kind_in iface u) 0 e in opens out kind serial is
place_by iface u w s true false serialised out e = changes out (kind_in iface u) (changed_is s (kind_in iface u) w e)
place_by iface u w s false null true out e = stays out (sym (out_serial s) ∙ ap is_out e)
place_by iface u w s false null false out e = stays out (sym (out_serial s) ∙ ap is_out e)

place_of : (iface : ℕ) (u : HandleUse) (w : WireHandle) (s : Slot) → with_serial 0 s ≡ slot_for iface u w → Place u w s
place_of iface u w s e = place_by iface u w s u.outward (is_null w) u.serialised refl e

-- ---- the slots of a call by its parameters and its handles

pub data AreSlots : List HandleUse → List WireHandle → List Slot → Type 0 where
  no_slot : AreSlots [] [] []
  inward : {u : HandleUse} {us : List HandleUse} {w : WireHandle} {ws : List WireHandle} {s : Slot} {ss : List Slot} → u.inward ≡ true → Place u w s → AreSlots us ws ss → AreSlots (u ∷ us) (w ∷ ws) (s ∷ ss)
  outward : {u : HandleUse} {us : List HandleUse} {ws : List WireHandle} {s : Slot} {ss : List Slot} → u.inward ≡ false → (kind serial : ℕ) → s ≡ Opens kind serial → AreSlots us ws ss → AreSlots (u ∷ us) ws (s ∷ ss)

same_head : (a b : Slot) (xs ys : List Slot) → a ∷ xs ≡ b ∷ ys → a ≡ b
same_head a b xs ys e = cc

same_tail : (a b : Slot) (xs ys : List Slot) → a ∷ xs ≡ b ∷ ys → xs ≡ ys
same_tail a b xs ys e = cc

empty_some : (b : Slot) (ys : List Slot) → (let xs : List Slot = [] in xs) ≡ b ∷ ys → ⊥
empty_some b ys e = absurd (cc (e))

-- it only goes out
only_out : (iface : ℕ) (u : HandleUse) (us : List HandleUse) (ws : List WireHandle) (slots rest : List Slot) → u.inward ≡ false → map (with_serial 0) slots ≡ opening iface u ∷ rest
    → ((ss : List Slot) → map (with_serial 0) ss ≡ rest → AreSlots us ws ss) → AreSlots (u ∷ us) ws slots
only_out iface u us ws [] rest no_in e go = absurd (empty_some (opening iface u) rest e)
only_out iface u us ws (s ∷ ss) rest no_in e go =
    let (kind, serial, is) = opened_is s (kind_in iface u) 0 (same_head (with_serial 0 s) (opening iface u) (map (with_serial 0) ss) rest e) in
    outward no_in kind serial is (go ss (same_tail (with_serial 0 s) (opening iface u) (map (with_serial 0) ss) rest e))

no_handle : (iface : ℕ) (u : HandleUse) (us : List HandleUse) (slots : List Slot) (n : ℕ) (b : Bool) → u.inward ≡ b → 0 ≡ (if b then suc n else n) → map (with_serial 0) slots ≡ (if b then [] else opening iface u ∷ slots_for iface us [])
    → (0 ≡ n → (ss : List Slot) → map (with_serial 0) ss ≡ slots_for iface us [] → AreSlots us [] ss) → AreSlots (u ∷ us) [] slots
no_handle iface u us slots n true b count e go = absurd (omega (arith, count))
no_handle iface u us slots n false b count e go = only_out iface u us [] slots (slots_for iface us []) b e (go count)

a_handle : (iface : ℕ) (u : HandleUse) (us : List HandleUse) (w : WireHandle) (ws : List WireHandle) (slots : List Slot) (n : ℕ) (b : Bool) → u.inward ≡ b → length (w ∷ ws) ≡ (if b then suc n else n)
    → map (with_serial 0) slots ≡ (if b then slot_for iface u w ∷ slots_for iface us ws else opening iface u ∷ slots_for iface us (w ∷ ws))
    → ((xs : List WireHandle) → length xs ≡ n → (ss : List Slot) → map (with_serial 0) ss ≡ slots_for iface us xs → AreSlots us xs ss) → AreSlots (u ∷ us) (w ∷ ws) slots
a_handle iface u us w ws [] n true b count e go = absurd (empty_some (slot_for iface u w) (slots_for iface us ws) e)
a_handle iface u us w ws (s ∷ ss) n true b count e go =
    inward b (place_of iface u w s (same_head (with_serial 0 s) (slot_for iface u w) (map (with_serial 0) ss) (slots_for iface us ws) e))
    (go ws (omega (arith, count)) ss (same_tail (with_serial 0 s) (slot_for iface u w) (map (with_serial 0) ss) (slots_for iface us ws) e))
a_handle iface u us w ws slots n false b count e go = only_out iface u us (w ∷ ws) slots (slots_for iface us (w ∷ ws)) b e (go (w ∷ ws) count)

pub are_slots : (iface : ℕ) (uses : List HandleUse) (ws : List WireHandle) (slots : List Slot) → length ws ≡ count_in Request uses → map (with_serial 0) slots ≡ slots_for iface uses ws → AreSlots uses ws slots
are_slots iface [] [] [] count e = no_slot
are_slots iface [] [] (s ∷ ss) count e = absurd (empty_some (with_serial 0 s) (map (with_serial 0) ss) (sym e))
are_slots iface [] (w ∷ ws) slots count e = absurd (omega (arith, count))
are_slots iface (u ∷ us) [] slots count e = no_handle iface u us slots (count_in Request us) u.inward refl count e (λ none ss is. are_slots iface us [] ss none is)
are_slots iface (u ∷ us) (w ∷ ws) slots count e = a_handle iface u us w ws slots (count_in Request us) u.inward refl count e (λ xs long ss is. are_slots iface us xs ss long is)

-- ---- the handles that go out

no_wire : (home : Home) (s : Slot) (o : Outcome) → is_out s ≡ false → wire_at home s o ≡ []
no_wire home (Shares kind w) o h = refl
no_wire home (Holds kind w) o h = refl
no_wire home (Changes kind w) o h = absurd (cc (h))
no_wire home (Opens kind serial) o h = absurd (cc (h))

one_wire : (home : Home) (s : Slot) (o : Outcome) → is_out s ≡ true → (w : WireHandle) × (wire_at home s o ≡ w ∷ [])
one_wire home (Shares kind w) o h = absurd (cc (h))
one_wire home (Holds kind w) o h = absurd (cc (h))
one_wire home (Changes kind w) (Keep cookie) h = (w, refl)
one_wire home (Changes kind w) Close h = (null_handle, refl)
one_wire home (Changes kind w) (Issue n cookie) h = (null_handle, refl)
one_wire home (Changes kind w) Nothing h = (null_handle, refl)
one_wire home (Opens kind serial) (Keep cookie) h = (null_handle, refl)
one_wire home (Opens kind serial) Close h = (null_handle, refl)
one_wire home (Opens kind serial) (Issue n cookie) h = (wire_of home n, refl)
one_wire home (Opens kind serial) Nothing h = (null_handle, refl)

place_out : (u : HandleUse) (w : WireHandle) (s : Slot) → Place u w s → is_out s ≡ u.outward
place_out u w s (stays out none) = none ∙ sym out
place_out u w s (opens out kind serial is) = ap is_out is ∙ sym out
place_out u w s (changes out kind is) = ap is_out is ∙ sym out

wire_count : (home : Home) (u : HandleUse) (us : List HandleUse) (s : Slot) (o : Outcome) (rest : List WireHandle) (b : Bool) → u.outward ≡ b → is_out s ≡ b → length rest ≡ count_in Response us → length (wire_at home s o ++ rest) ≡ count_in Response (u ∷ us)
wire_count home u us s o rest true out is more =
    let (w, one) = one_wire home s o is in
    ap (λ (x : List WireHandle). length (x ++ rest)) one ∙ (ap suc more ∙ sym (ap (λ (b : Bool). if b then suc (count_in Response us) else count_in Response us) out))
wire_count home u us s o rest false out is more =
    ap (λ (x : List WireHandle). length (x ++ rest)) (no_wire home s o is) ∙ (more ∙ sym (ap (λ (b : Bool). if b then suc (count_in Response us) else count_in Response us) out))

and_parts : (a b : Bool) → (a && b) ≡ true → (a ≡ true) × (b ≡ true)
and_parts true b e = (refl, e)
and_parts false b e = absurd (cc (e))

goes_out : (u : HandleUse) (a b : Bool) → u.inward ≡ a → u.outward ≡ b → goes_somewhere u ≡ true → a ≡ false → u.outward ≡ true
goes_out u true b i o g e = absurd (cc (e))
goes_out u false true i o g e = o
goes_out u false false i o g e = let none : goes_somewhere u ≡ false = rw (i, o) refl in absurd (cc (none, g))

-- as many as go out
pub outs_count : (home : Home) {uses : List HandleUse} {ws : List WireHandle} {slots : List Slot} (kepts : List Kept) → AreSlots uses ws slots → has_kepts uses kepts ≡ true → list_all goes_somewhere uses ≡ true
    → length (wires_at home slots (outcomes_of slots kepts)) ≡ count_in Response uses
outs_count home [] no_slot h g = refl
outs_count home (k ∷ ks) no_slot h g = absurd (cc (h))
outs_count home [] (inward {u = u} {us = us} i p more) h g = absurd (cc (h))
outs_count home (k ∷ ks) (inward {u = u} {us = us} {w = w} {s = s} {ss = ss} i p more) h g =
    wire_count home u us s (outcome_of s k) (wires_at home ss (outcomes_of ss ks)) u.outward refl (place_out u w s p)
    (outs_count home ks more (and_parts (beq (is_stays k) (not u.outward)) (has_kepts us ks) h).1 (and_parts (goes_somewhere u) (list_all goes_somewhere us) g).1)
outs_count home [] (outward {u = u} {us = us} i kind serial is more) h g = absurd (cc (h))
outs_count home (k ∷ ks) (outward {u = u} {us = us} {s = s} {ss = ss} i kind serial is more) h g =
    wire_count home u us s (outcome_of s k) (wires_at home ss (outcomes_of ss ks)) true (goes_out u u.inward u.outward refl refl (and_parts (goes_somewhere u) (list_all goes_somewhere us) g).0 i) (ap is_out is)
    (outs_count home ks more (and_parts (beq (is_stays k) (not u.outward)) (has_kepts us ks) h).1 (and_parts (goes_somewhere u) (list_all goes_somewhere us) g).1)

-- ---- they fit their octets

fit_both : (a b : List WireHandle) → AllFit a → AllFit b → AllFit (a ++ b)
fit_both [] b h k = k
fit_both (w ∷ a) b h k = (h.0, fit_both a b h.1 k)

-- of each handle that is issued
abbrev pub IssuesFit : Home → List Outcome → Type 0
IssuesFit home os = (n : ℕ) → list_any (issues n) os ≡ true → FitsHandle (wire_of home n)

later_fit : (home : Home) (o : Outcome) (os : List Outcome) → IssuesFit home (o ∷ os) → IssuesFit home os
later_fit home o os h n e = h n (or_true (issues n o) (list_any (issues n) os) e)
  where
    or_true : (a b : Bool) → b ≡ true → (a || b) ≡ true
    or_true true b e = refl
    or_true false b e = e

or_first : (a b : Bool) → a ≡ true → (a || b) ≡ true
or_first true b e = refl
or_first false b e = absurd (cc (e))

opens_fit : (home : Home) (s : Slot) (o : Outcome) (os : List Outcome) (kind serial : ℕ) → s ≡ Opens kind serial → IssuesFit home (o ∷ os) → AllFit (wire_at home s o)
opens_fit home s (Issue n cookie) os kind serial is h = subst (λ (x : Slot). AllFit (wire_at home x (Issue n cookie))) (sym is) (h n (or_first (eqb n n) (list_any (issues n) os) (eq-eqb n n refl)), tt)
opens_fit home s (Keep cookie) os kind serial is h = subst (λ (x : Slot). AllFit (wire_at home x (Keep cookie))) (sym is) (null_fits, tt)
opens_fit home s Close os kind serial is h = subst (λ (x : Slot). AllFit (wire_at home x Close)) (sym is) (null_fits, tt)
opens_fit home s Nothing os kind serial is h = subst (λ (x : Slot). AllFit (wire_at home x Nothing)) (sym is) (null_fits, tt)

changes_fit : (home : Home) (s : Slot) (o : Outcome) (kind : ℕ) (w : WireHandle) → s ≡ Changes kind w → FitsHandle w → AllFit (wire_at home s o)
changes_fit home s (Keep cookie) kind w is h = subst (λ (x : Slot). AllFit (wire_at home x (Keep cookie))) (sym is) (h, tt)
changes_fit home s Close kind w is h = subst (λ (x : Slot). AllFit (wire_at home x Close)) (sym is) (null_fits, tt)
changes_fit home s (Issue n cookie) kind w is h = subst (λ (x : Slot). AllFit (wire_at home x (Issue n cookie))) (sym is) (null_fits, tt)
changes_fit home s Nothing kind w is h = subst (λ (x : Slot). AllFit (wire_at home x Nothing)) (sym is) (null_fits, tt)

place_fits : (home : Home) (u : HandleUse) (w : WireHandle) (s : Slot) (o : Outcome) (os : List Outcome) → Place u w s → FitsHandle w → IssuesFit home (o ∷ os) → AllFit (wire_at home s o)
place_fits home u w s o os (stays out none) f h = subst AllFit (sym (no_wire home s o none)) tt
place_fits home u w s o os (opens out kind serial is) f h = opens_fit home s o os kind serial is h
place_fits home u w s o os (changes out kind is) f h = changes_fit home s o kind w is f

pub outs_fit : (home : Home) {uses : List HandleUse} {ws : List WireHandle} {slots : List Slot} (os : List Outcome) → AreSlots uses ws slots → AllFit ws → IssuesFit home os → AllFit (wires_at home slots os)
outs_fit home [] no_slot f h = tt
outs_fit home (o ∷ os) no_slot f h = tt
outs_fit home [] (inward i p more) f h = tt
outs_fit home (o ∷ os) (inward {u = u} {w = w} {s = s} {ss = ss} i p more) f h =
    fit_both (wire_at home s o) (wires_at home ss os) (place_fits home u w s o os p f.0 h) (outs_fit home os more f.1 (later_fit home o os h))
outs_fit home [] (outward i kind serial is more) f h = tt
outs_fit home (o ∷ os) (outward {s = s} {ss = ss} i kind serial is more) f h =
    fit_both (wire_at home s o) (wires_at home ss os) (opens_fit home s o os kind serial is h) (outs_fit home os more f (later_fit home o os h))

-- ---- a handle that was changed and closed comes back as null

none_changed : (us : List HandleUse) → changed_in us [] ≡ []
none_changed [] = refl
none_changed (u ∷ us) = refl

none_returned : (us : List HandleUse) → returned_in us [] ≡ []
none_returned [] = refl
none_returned (u ∷ us) = refl

changed_by : (u : HandleUse) (us : List HandleUse) (w : WireHandle) (ws : List WireHandle) (a b : Bool) → u.inward ≡ a → u.outward ≡ b
    → changed_in (u ∷ us) (w ∷ ws) ≡ (if a then (if b then w ∷ changed_in us ws else changed_in us ws) else changed_in us (w ∷ ws))
changed_by u us w ws a b i o = rw (i, o) refl

changed_past : (u : HandleUse) (us : List HandleUse) (ws : List WireHandle) → u.inward ≡ false → changed_in (u ∷ us) ws ≡ changed_in us ws
changed_past u us [] i = sym (none_changed us)
changed_past u us (w ∷ ws) i = rw i refl

returned_by : (u : HandleUse) (us : List HandleUse) (w : WireHandle) (ws : List WireHandle) (a b : Bool) → u.inward ≡ a → u.outward ≡ b
    → returned_in (u ∷ us) (w ∷ ws) ≡ (if b then (if a then w ∷ returned_in us ws else returned_in us ws) else returned_in us (w ∷ ws))
returned_by u us w ws a b i o = rw (i, o) refl

returned_past : (u : HandleUse) (us : List HandleUse) (ws : List WireHandle) → u.outward ≡ false → returned_in (u ∷ us) ws ≡ returned_in us ws
returned_past u us [] o = sym (none_returned us)
returned_past u us (w ∷ ws) o = rw o refl

pub record ComesNull (uses : List HandleUse) (ws outs : List WireHandle) (wire : WireHandle) : Type 0 where
  pub place : ℕ
  pub changed : slice_get (changed_in uses ws) place ≡ Some wire
  pub returned : slice_get (returned_in uses outs) place ≡ Some null_handle

-- the same at one place more
moved : (uses us : List HandleUse) (ws xs outs rest : List WireHandle) (w x wire : WireHandle) → changed_in uses ws ≡ w ∷ changed_in us xs → returned_in uses outs ≡ x ∷ returned_in us rest → ComesNull us xs rest wire → ComesNull uses ws outs wire
moved uses us ws xs outs rest w x wire a b n = record {
  place = suc n.place;
  changed = ap (λ (y : List WireHandle). slice_get y (suc n.place)) a ∙ n.changed;
  returned = ap (λ (y : List WireHandle). slice_get y (suc n.place)) b ∙ n.returned;
}

kept_place : (uses us : List HandleUse) (ws xs outs rest : List WireHandle) (wire : WireHandle) → changed_in uses ws ≡ changed_in us xs → returned_in uses outs ≡ returned_in us rest → ComesNull us xs rest wire → ComesNull uses ws outs wire
kept_place uses us ws xs outs rest wire a b n = record {
  place = n.place;
  changed = ap (λ (y : List WireHandle). slice_get y n.place) a ∙ n.changed;
  returned = ap (λ (y : List WireHandle). slice_get y n.place) b ∙ n.returned;
}

-- a slot more, of a parameter that goes in
inward_more : (home : Home) (u : HandleUse) (us : List HandleUse) (w : WireHandle) (ws : List WireHandle) (s : Slot) (o : Outcome) (rest : List WireHandle) (wire : WireHandle) → u.inward ≡ true → Place u w s → ComesNull us ws rest wire
    → ComesNull (u ∷ us) (w ∷ ws) (wire_at home s o ++ rest) wire
inward_more home u us w ws s o rest wire i (stays out none) n =
    kept_place (u ∷ us) us (w ∷ ws) ws (wire_at home s o ++ rest) rest wire (changed_by u us w ws true false i out)
    (ap (λ (x : List WireHandle). returned_in (u ∷ us) (x ++ rest)) (no_wire home s o none) ∙ returned_past u us rest out) n
inward_more home u us w ws s o rest wire i (opens out kind serial is) n =
    let (x, one) = one_wire home s o (ap is_out is) in
    moved (u ∷ us) us (w ∷ ws) ws (wire_at home s o ++ rest) rest w x wire (changed_by u us w ws true true i out)
    (ap (λ (y : List WireHandle). returned_in (u ∷ us) (y ++ rest)) one ∙ returned_by u us x rest true true i out) n
inward_more home u us w ws s o rest wire i (changes out kind is) n =
    let (x, one) = one_wire home s o (ap is_out is) in
    moved (u ∷ us) us (w ∷ ws) ws (wire_at home s o ++ rest) rest w x wire (changed_by u us w ws true true i out)
    (ap (λ (y : List WireHandle). returned_in (u ∷ us) (y ++ rest)) one ∙ returned_by u us x rest true true i out) n

-- of one that only goes out
outward_more : (home : Home) (u : HandleUse) (us : List HandleUse) (ws : List WireHandle) (s : Slot) (o : Outcome) (rest : List WireHandle) (wire : WireHandle) (kind serial : ℕ) → u.inward ≡ false → u.outward ≡ true → s ≡ Opens kind serial
    → ComesNull us ws rest wire → ComesNull (u ∷ us) ws (wire_at home s o ++ rest) wire
outward_more home u us ws s o rest wire kind serial i out is n =
    let (x, one) = one_wire home s o (ap is_out is) in
    kept_place (u ∷ us) us ws ws (wire_at home s o ++ rest) rest wire (changed_past u us ws i)
    (ap (λ (y : List WireHandle). returned_in (u ∷ us) (y ++ rest)) one ∙ returned_by u us x rest false true i out) n

opens_changes : (k m kind : ℕ) (w : WireHandle) → Opens k m ≡ Changes kind w → ⊥
opens_changes k m kind w e = absurd (cc (e))

same_change : (a b : ℕ) (v w : WireHandle) → Changes a v ≡ Changes b w → v ≡ w
same_change a b v w e = cc

-- the slot itself
here_null : (home : Home) (u : HandleUse) (us : List HandleUse) (w : WireHandle) (ws : List WireHandle) (s : Slot) (o : Outcome) (rest : List WireHandle) (wire : WireHandle) (kind : ℕ) → u.inward ≡ true → Place u w s → s ≡ Changes kind wire → o ≡ Close
    → ComesNull (u ∷ us) (w ∷ ws) (wire_at home s o ++ rest) wire
here_null home u us w ws s o rest wire kind i (stays out none) is close = absurd (cc (none, ap is_out is))
here_null home u us w ws s o rest wire kind i (opens out k serial was) is close = absurd (opens_changes k serial kind wire (sym was ∙ is))
here_null home u us w ws s o rest wire kind i (changes out k was) is close =
    let null : wire_at home s o ≡ null_handle ∷ [] = ap (λ (x : Slot). wire_at home x o) was ∙ ap (λ (x : Outcome). wire_at home (Changes k w) x) close in
    record {
      place = zero;
      changed = ap (λ (y : List WireHandle). slice_get y zero) (changed_by u us w ws true true i out) ∙ ap (λ (x : WireHandle). Some x) (same_change k kind w wire (sym was ∙ is));
      returned = ap (λ (y : List WireHandle). slice_get y zero) (ap (λ (y : List WireHandle). returned_in (u ∷ us) (y ++ rest)) null ∙ returned_by u us null_handle rest true true i out);
    }

pub closed_comes_null : (home : Home) {uses : List HandleUse} {ws : List WireHandle} {slots : List Slot} (os : List Outcome) (n kind : ℕ) (wire : WireHandle) → AreSlots uses ws slots → list_all goes_somewhere uses ≡ true
    → slice_get slots n ≡ Some (Changes kind wire) → slice_get os n ≡ Some Close → ComesNull uses ws (wires_at home slots os) wire
closed_comes_null home os n kind wire no_slot g s c = absurd (cc (s))
closed_comes_null home [] n kind wire (inward i p more) g s c = absurd (cc (c))
closed_comes_null home (o ∷ os) zero kind wire (inward {u = u} {us = us} {w = w} {ws = ws} {s = t} {ss = ss} i p more) g s c =
    here_null home u us w ws t o (wires_at home ss os) wire kind i p (some_is t (Changes kind wire) s) (some_is o Close c)
closed_comes_null home (o ∷ os) (suc n) kind wire (inward {u = u} {us = us} {w = w} {ws = ws} {s = t} {ss = ss} i p more) g s c =
    inward_more home u us w ws t o (wires_at home ss os) wire i p (closed_comes_null home os n kind wire more (and_parts (goes_somewhere u) (list_all goes_somewhere us) g).1 s c)
closed_comes_null home [] n kind wire (outward i k serial is more) g s c = absurd (cc (c))
closed_comes_null home (o ∷ os) zero kind wire (outward {s = t} i k serial is more) g s c = absurd (opens_changes k serial kind wire (sym is ∙ some_is t (Changes kind wire) s))
closed_comes_null home (o ∷ os) (suc n) kind wire (outward {u = u} {us = us} {ws = ws} {s = t} {ss = ss} i k serial is more) g s c =
    outward_more home u us ws t o (wires_at home ss os) wire k serial i (goes_out u u.inward u.outward refl refl (and_parts (goes_somewhere u) (list_all goes_somewhere us) g).0 i) is
    (closed_comes_null home os n kind wire more (and_parts (goes_somewhere u) (list_all goes_somewhere us) g).1 s c)

-- a slot that changes a handle is one of an [in, out] parameter that named it
pub record ChangedAt (uses : List HandleUse) (ws : List WireHandle) (wire : WireHandle) : Type 0 where
  pub place : ℕ
  pub changed : slice_get (changed_in uses ws) place ≡ Some wire

named_later : (uses us : List HandleUse) (ws xs : List WireHandle) (w wire : WireHandle) → changed_in uses ws ≡ w ∷ changed_in us xs → ChangedAt us xs wire → ChangedAt uses ws wire
named_later uses us ws xs w wire a n = record { place = suc n.place; changed = ap (λ (y : List WireHandle). slice_get y (suc n.place)) a ∙ n.changed }

named_same : (uses us : List HandleUse) (ws xs : List WireHandle) (wire : WireHandle) → changed_in uses ws ≡ changed_in us xs → ChangedAt us xs wire → ChangedAt uses ws wire
named_same uses us ws xs wire a n = record { place = n.place; changed = ap (λ (y : List WireHandle). slice_get y n.place) a ∙ n.changed }

named_more : (u : HandleUse) (us : List HandleUse) (w : WireHandle) (ws : List WireHandle) (s : Slot) (wire : WireHandle) → u.inward ≡ true → Place u w s → ChangedAt us ws wire → ChangedAt (u ∷ us) (w ∷ ws) wire
named_more u us w ws s wire i (stays out none) n = named_same (u ∷ us) us (w ∷ ws) ws wire (changed_by u us w ws true false i out) n
named_more u us w ws s wire i (opens out kind serial is) n = named_later (u ∷ us) us (w ∷ ws) ws w wire (changed_by u us w ws true true i out) n
named_more u us w ws s wire i (changes out kind is) n = named_later (u ∷ us) us (w ∷ ws) ws w wire (changed_by u us w ws true true i out) n

named_here : (u : HandleUse) (us : List HandleUse) (w : WireHandle) (ws : List WireHandle) (s : Slot) (wire : WireHandle) (kind : ℕ) → u.inward ≡ true → Place u w s → s ≡ Changes kind wire → ChangedAt (u ∷ us) (w ∷ ws) wire
named_here u us w ws s wire kind i (stays out none) is = absurd (cc (none, ap is_out is))
named_here u us w ws s wire kind i (opens out k serial was) is = absurd (opens_changes k serial kind wire (sym was ∙ is))
named_here u us w ws s wire kind i (changes out k was) is = record {
  place = zero;
  changed = ap (λ (y : List WireHandle). slice_get y zero) (changed_by u us w ws true true i out) ∙ ap (λ (x : WireHandle). Some x) (same_change k kind w wire (sym was ∙ is));
}

pub changed_at : {uses : List HandleUse} {ws : List WireHandle} {slots : List Slot} (n kind : ℕ) (wire : WireHandle) → AreSlots uses ws slots → slice_get slots n ≡ Some (Changes kind wire) → ChangedAt uses ws wire
changed_at n kind wire no_slot s = absurd (cc (s))
changed_at zero kind wire (inward {u = u} {us = us} {w = w} {ws = ws} {s = t} i p more) s = named_here u us w ws t wire kind i p (some_is t (Changes kind wire) s)
changed_at (suc n) kind wire (inward {u = u} {us = us} {w = w} {ws = ws} {s = t} i p more) s = named_more u us w ws t wire i p (changed_at n kind wire more s)
changed_at zero kind wire (outward {s = t} i k serial is more) s = absurd (opens_changes k serial kind wire (sym is ∙ some_is t (Changes kind wire) s))
changed_at (suc n) kind wire (outward {u = u} {us = us} {ws = ws} i k serial is more) s = named_same (u ∷ us) us ws ws wire (changed_past u us ws i) (changed_at n kind wire more s)

-- ---- where a handle comes from

pub data CameFrom (home : Home) (slots : List Slot) (os : List Outcome) (h : WireHandle) : Type 0 where
  issued : (n cookie serial : ℕ) → slice_get os n ≡ Some (Issue serial cookie) → h ≡ wire_of home serial → CameFrom home slots os h
  kept : (n kind : ℕ) → slice_get slots n ≡ Some (Changes kind h) → CameFrom home slots os h

shifted : (home : Home) (s : Slot) (slots : List Slot) (o : Outcome) (os : List Outcome) (h : WireHandle) → CameFrom home slots os h → CameFrom home (s ∷ slots) (o ∷ os) h
shifted home s slots o os h (issued n cookie serial at is) = issued (suc n) cookie serial at is
shifted home s slots o os h (kept n kind at) = kept (suc n) kind at

null_is : (h : WireHandle) → Some null_handle ≡ Some h → is_null h ≡ false → ⊥
null_is h e n = absurd (cc (ap is_null (some_is null_handle h e), n))

-- where nothing goes out but null
none_came : (home : Home) (s : Slot) (slots : List Slot) (o : Outcome) (os : List Outcome) (rest : List WireHandle) (q : ℕ) (h : WireHandle) → slice_get (null_handle ∷ rest) q ≡ Some h → is_null h ≡ false
    → ((n : ℕ) → slice_get rest n ≡ Some h → CameFrom home slots os h) → CameFrom home (s ∷ slots) (o ∷ os) h
none_came home s slots o os rest zero h at nn go = absurd (null_is h at nn)
none_came home s slots o os rest (suc q) h at nn go = shifted home s slots o os h (go q at)

pub came_from : (home : Home) (slots : List Slot) (os : List Outcome) (q : ℕ) (h : WireHandle) → slice_get (wires_at home slots os) q ≡ Some h → is_null h ≡ false → CameFrom home slots os h
came_from home [] os q h at nn = absurd (cc (at))
came_from home (s ∷ slots) [] q h at nn = absurd (cc (at))
came_from home (Shares kind w ∷ slots) (o ∷ os) q h at nn = shifted home (Shares kind w) slots o os h (came_from home slots os q h at nn)
came_from home (Holds kind w ∷ slots) (o ∷ os) q h at nn = shifted home (Holds kind w) slots o os h (came_from home slots os q h at nn)
came_from home (Changes kind w ∷ slots) (Keep cookie ∷ os) zero h at nn = kept zero kind (ap (λ (x : WireHandle). Some (Changes kind x)) (some_is w h at))
came_from home (Changes kind w ∷ slots) (Keep cookie ∷ os) (suc q) h at nn = shifted home (Changes kind w) slots (Keep cookie) os h (came_from home slots os q h at nn)
came_from home (Changes kind w ∷ slots) (Close ∷ os) q h at nn = none_came home (Changes kind w) slots Close os (wires_at home slots os) q h at nn (λ n found. came_from home slots os n h found nn)
came_from home (Changes kind w ∷ slots) (Issue n cookie ∷ os) q h at nn = none_came home (Changes kind w) slots (Issue n cookie) os (wires_at home slots os) q h at nn (λ m found. came_from home slots os m h found nn)
came_from home (Changes kind w ∷ slots) (Nothing ∷ os) q h at nn = none_came home (Changes kind w) slots Nothing os (wires_at home slots os) q h at nn (λ n found. came_from home slots os n h found nn)
came_from home (Opens kind serial ∷ slots) (Issue n cookie ∷ os) zero h at nn = issued zero cookie n refl (sym (some_is (wire_of home n) h at))
came_from home (Opens kind serial ∷ slots) (Issue n cookie ∷ os) (suc q) h at nn = shifted home (Opens kind serial) slots (Issue n cookie) os h (came_from home slots os q h at nn)
came_from home (Opens kind serial ∷ slots) (Keep cookie ∷ os) q h at nn = none_came home (Opens kind serial) slots (Keep cookie) os (wires_at home slots os) q h at nn (λ n found. came_from home slots os n h found nn)
came_from home (Opens kind serial ∷ slots) (Close ∷ os) q h at nn = none_came home (Opens kind serial) slots Close os (wires_at home slots os) q h at nn (λ n found. came_from home slots os n h found nn)
came_from home (Opens kind serial ∷ slots) (Nothing ∷ os) q h at nn = none_came home (Opens kind serial) slots Nothing os (wires_at home slots os) q h at nn (λ n found. came_from home slots os n h found nn)

-- ---- a slot that closes a handle changes it

pub suit_at : (ss : List Slot) (os : List Outcome) (n : ℕ) (s : Slot) (o : Outcome) → suit ss os ≡ true → slice_get ss n ≡ Some s → slice_get os n ≡ Some o → suits s o ≡ true
suit_at [] os n s o h a b = absurd (cc (a))
suit_at (t ∷ ss) [] n s o h a b = absurd (cc (b))
suit_at (t ∷ ss) (p ∷ os) zero s o h a b = subst (λ (x : Slot). suits x o ≡ true) (some_is t s a) (subst (λ (y : Outcome). suits t y ≡ true) (some_is p o b) (and_parts (suits t p) (suit ss os) h).0)
suit_at (t ∷ ss) (p ∷ os) (suc n) s o h a b = suit_at ss os n s o (and_parts (suits t p) (suit ss os) h).1 a b

pub closer_changes : (s : Slot) (w : WireHandle) → suits s Close ≡ true → names w s ≡ true → (kind : ℕ) × (s ≡ Changes kind w)
closer_changes (Changes kind x) w u n = (kind, ap (λ (y : WireHandle). Changes kind y) (wire_is x w n))
closer_changes (Shares kind x) w u n = absurd (cc (u))
closer_changes (Holds kind x) w u n = absurd (cc (u))
closer_changes (Opens kind serial) w u n = absurd (cc (u))

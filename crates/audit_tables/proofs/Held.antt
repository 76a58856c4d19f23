-- Handles and connections as they come and go.
use Rattle.std.proofs.Common.{◌≡◌, ℕ, ◌+◌, ◌<◌, ◌≤◌, ◌^◌, Bool, true, false, not, ◌==◌, nat_lt, nat_le, Some, None, List, [], ◌∷◌, ◌++◌, map, length, append_assoc, ◌%◌, ◌&&◌, refl, sym, ◌∙◌, ap, subst, arith, inl, inr}
use Rattle.std.specs.List.{filter, find, list_any, list_all}
use Rattle.std.specs.Map.{values_of}
use Rattle.std.proofs.lemmas.Bool.{cases_Bool, and_parts, eq-eqb, or_parts, or_from, not-true, not-false, not_from_true, not_from_false, eqb-true, lt-ltb, ltb-true, leb-true, false_from_ne_true}
use Rattle.std.proofs.lemmas.Bool.Decides.{nat_tests}
use Rattle.std.proofs.lemmas.List.{length-append}
use Rattle.rpc_base.specs.declared.identifiers.WireHandle.{WireHandle}
use Rattle.handle_model.specs.Slots.{wire_of, same_wire}
use Rattle.handle_model.proofs.Apart.{same_wire_from}
use Rattle.handle_table.proofs.Wires.{wire_is, known, not_known}
use Rattle.handle_model.specs.declared.entry.Home.{Home}
use Rattle.handle_model.specs.declared.entry.Slot.{Slot}
use Rattle.handle_model.specs.declared.entry.Slot.TheVariants.{Shares, Holds, Changes, Opens}
use Rattle.handle_model.specs.declared.entry.DueItem.{DueItem}
use Rattle.handle_model.specs.Journal.{is_item_of}
use Rattle.handle_model.specs.Sound.{at_most}
use Rattle.handle_model.proofs.Held.{and_left, and_right}
use Rattle.handle_table.specs.Kept.{Rises}
use Rattle.handle_table.specs.Handles.{item_at, item_of, is_wire, is_below, is_above, cookie_set, with_cookie, with_item}
use Rattle.handle_table.specs.Uses.{item_named}
use Rattle.journal_tables.specs.declared.conns.OpenConn.{OpenConn}
use Rattle.journal_tables.specs.Conns.{is_other, without}
use Rattle.journal_tables.specs.Shown.{base_conn}
use Rattle.audit_tables.specs.Keyed as keyed
use Rattle.audit_tables.specs.Handles.{serial_of}
use Rattle.audit_tables.specs.Conns.{over}
use Rattle.audit_tables.specs.Conns as conns

-- HANDLES

items_rise : (low : ℕ) (es : List (ℕ × DueItem)) → keyed.Keyed serial_of es → keyed.Rises low es → Rises low (values_of es)
items_rise low [] h r = tt
items_rise low (e ∷ es) h r =
    let own = h.0 in
    (subst (λ n. low ≤ n) own r.0, subst (λ n. n < 2 ^ 32) own r.1, items_rise (e.1.serial + 1) es h.1 (subst (λ n. keyed.Rises (n + 1) es) own r.2))

pub table_rises : (es : List (ℕ × DueItem)) → keyed.IsTable serial_of es → Rises 0 (values_of es)
table_rises es t = items_rise 0 es t.keyed t.rises

item_low : (low : ℕ) (q : DueItem → Bool) (items : List DueItem) (x : DueItem) → Rises low items → find q items ≡ Some x → low ≤ x.serial
item_low low q [] x r h = absurd (cc)
item_low low q (i ∷ items) x r h =
    let first = r.0 in
    elim (cases_Bool (q i)) [
      | inl t ↦ let same : i ≡ x = let e = rw t at h in cc in subst (λ (y : DueItem). low ≤ y.serial) same first
      | inr f ↦ let more = item_low (i.serial + 1) q items x r.2 (rw f at h) in omega arith
    ]

-- what is found stands at its serial
found_at : (low : ℕ) (q : DueItem → Bool) (items : List DueItem) (x : DueItem) → Rises low items → find q items ≡ Some x → item_at items x.serial ≡ Some x
found_at low q [] x r h = absurd (cc)
found_at low q (i ∷ items) x r h =
    elim (cases_Bool (q i)) [
      | inl t ↦
          let same : i ≡ x = let e = rw t at h in cc in
          let own : is_item_of x.serial i ≡ true = let n = ap (λ (y : DueItem). y.serial) same in grind (arith, nat_tests) in
          rw own (ap (λ y. Some y) same)
      | inr f ↦
          let there = rw f at h in
          let later = item_low (i.serial + 1) q items x r.2 there in
          let other : is_item_of x.serial i ≡ false = grind (arith, nat_tests) in
          rw other (found_at (i.serial + 1) q items x r.2 there)
    ]

pub named_at : (home : Home) (items : List DueItem) (s : Slot) (x : DueItem) → Rises 0 items → item_named home items s ≡ Some x → item_at items x.serial ≡ Some x
named_at home items (Shares k w) x r h = found_at 0 (is_wire home w) items x r h
named_at home items (Holds k w) x r h = found_at 0 (is_wire home w) items x r h
named_at home items (Changes k w) x r h = found_at 0 (is_wire home w) items x r h
named_at home items (Opens k n) x r h = absurd (cc)

-- BY A WIRE HANDLE

pub by_wire : (home : Home) (items : List DueItem) (w made : WireHandle) → made ≡ wire_of home (w.id % 2 ^ 32) → same_wire w made ≡ true → item_at items (w.id % 2 ^ 32) ≡ item_of home items w
by_wire home items w made e t =
    let same : w ≡ wire_of home (w.id % 2 ^ 32) = wire_is w made t ∙ e in
    sym (ap (item_of home items) same ∙ known home items (w.id % 2 ^ 32))

pub not_wire : (home : Home) (items : List DueItem) (w made : WireHandle) → Rises 0 items → made ≡ wire_of home (w.id % 2 ^ 32) → same_wire w made ≡ false → None ≡ item_of home items w
not_wire home items w made r e f =
    sym (not_known home 0 items w (w.id % 2 ^ 32) r refl (λ q.
    let t : same_wire w w ≡ true = same_wire_from w w refl refl in
    let g : same_wire w w ≡ false = subst (λ (x : WireHandle). same_wire w x ≡ false) (e ∙ sym q) f in absurd (cc)))

-- LISTS SIDE BY SIDE

abbrev pub same_test : DueItem → DueItem → Bool
same_test a b = (a.serial == b.serial) && ((a.kind == b.kind) && (a.cookie == b.cookie))

same_item : (a b : DueItem) → same_test a b ≡ true → a ≡ b
same_item a b h =
    let p = and_parts (a.serial == b.serial) ((a.kind == b.kind) && (a.cookie == b.cookie)) h in
    let q = and_parts (a.kind == b.kind) (a.cookie == b.cookie) p.1 in
    let made : ℕ → ℕ → ℕ → DueItem = λ s k c. record { serial = s; kind = k; cookie = c } in
    ap (λ s. made s a.kind a.cookie) (eqb-true a.serial b.serial p.0) ∙ (ap (λ k. made b.serial k a.cookie) (eqb-true a.kind b.kind q.0) ∙ ap (λ c. made b.serial b.kind c) (eqb-true a.cookie b.cookie q.1))

heads : (front : List DueItem) (a b : DueItem) (xs ys : List DueItem) → front ++ a ∷ xs ≡ front ++ b ∷ ys → a ≡ b
heads [] a b xs ys e = cc
heads (f ∷ front) a b xs ys e = heads front a b xs ys (let t : front ++ a ∷ xs ≡ front ++ b ∷ ys = cc in t)

-- all items of both lists so far are the same
abbrev pub SideBySide : List DueItem → List DueItem → List DueItem → List DueItem → Type 0
SideBySide items all rest left = (front : List DueItem) × (items ≡ front ++ rest) × (all ≡ front ++ left)

pub sides_start : (items all : List DueItem) → SideBySide items all items all
sides_start items all = ([], refl, refl)

pub sides_more : (items all rest left : List DueItem) (a b : DueItem) (xs ys : List DueItem) → SideBySide items all rest left → rest ≡ a ∷ xs → left ≡ b ∷ ys → same_test a b ≡ true → SideBySide items all xs ys
sides_more items all rest left a b xs ys s r l t =
    let same = same_item a b t in (
      s.0 ++ b ∷ [],
      s.1 ∙ (ap (λ zs. s.0 ++ zs) r ∙ (ap (λ x. s.0 ++ x ∷ xs) same ∙ sym (append_assoc s.0 (b ∷ []) xs))),
      s.2 ∙ (ap (λ zs. s.0 ++ zs) l ∙ sym (append_assoc s.0 (b ∷ []) ys)),
    )

pub sides_differ : (items all rest left : List DueItem) (a b : DueItem) (xs ys : List DueItem) → SideBySide items all rest left → rest ≡ a ∷ xs → left ≡ b ∷ ys → same_test a b ≡ false → items ≡ all → ⊥
sides_differ items all rest left a b xs ys s r l f e =
    let both : s.0 ++ a ∷ xs ≡ s.0 ++ b ∷ ys = ap (λ zs. s.0 ++ zs) (sym r) ∙ (sym s.1 ∙ (e ∙ (s.2 ∙ ap (λ zs. s.0 ++ zs) l))) in
    let same = heads s.0 a b xs ys both in
    let t : same_test b b ≡ true = (let x = eq-eqb b.serial b.serial refl in let y = eq-eqb b.kind b.kind refl in let z = eq-eqb b.cookie b.cookie refl in rw (x, y, z) refl) in
    let g : same_test b b ≡ false = subst (λ (x : DueItem). same_test x b ≡ false) same f in absurd (cc)

pub sides_short : (items all rest left : List DueItem) (b : DueItem) (ys : List DueItem) → SideBySide items all rest left → length rest ≡ 0 → left ≡ b ∷ ys → items ≡ all → ⊥
sides_short items all rest left b ys s r l e =
    let one = ap length s.1 ∙ length-append s.0 rest in
    let two = ap length s.2 ∙ (length-append s.0 left ∙ ap (λ zs. length s.0 + length zs) l) in
    let three = ap length e in
    absurd (omega (arith, one, two, three, r))

empty_list : (xs : List DueItem) → length xs ≡ 0 → xs ≡ []
empty_list [] h = refl
empty_list (x ∷ xs) h = absurd (omega (arith, h))

pub sides_end : (items all rest left : List DueItem) (b : Bool) → SideBySide items all rest left → left ≡ [] → b ≡ (length rest == 0) → (b ≡ true → items ≡ all) × (items ≡ all → b ≡ true)
sides_end items all rest left b s l e = (
  λ t. let none = empty_list rest (eqb-true (length rest) 0 (sym e ∙ t)) in s.1 ∙ (ap (λ zs. s.0 ++ zs) (none ∙ sym l) ∙ sym s.2),
  λ q.
      let one = ap length s.1 ∙ length-append s.0 rest in
      let two = ap length s.2 ∙ (length-append s.0 left ∙ ap (λ (zs : List DueItem). length s.0 + length zs) l) in
      let three = ap length q in
      e ∙ eq-eqb (length rest) 0 (omega (arith, one, two, three)),
)

-- A COOKIE

none_below : (h low : ℕ) (items : List DueItem) → Rises low items → h ≤ low → filter (is_below h) items ≡ []
none_below h low [] r le = refl
none_below h low (i ∷ items) r le =
    let first = r.0 in
    let f : is_below h i ≡ false = grind (arith, nat_tests) in rw f (none_below h (i.serial + 1) items r.2 (omega arith))

all_above : (h low : ℕ) (items : List DueItem) → Rises low items → h < low → filter (is_above h) items ≡ items
all_above h low [] r lt = refl
all_above h low (i ∷ items) r lt =
    let first = r.0 in
    let t : is_above h i ≡ true = grind (arith, nat_tests) in
    rw t (ap (λ xs. i ∷ xs) (all_above h (i.serial + 1) items r.2 (omega arith)))

cookies_kept : (h c low : ℕ) (items : List DueItem) → Rises low items → h < low → map (cookie_set h c) items ≡ items
cookies_kept h c low [] r lt = refl
cookies_kept h c low (i ∷ items) r lt =
    let first = r.0 in
    let f : (i.serial == h) ≡ false = grind (arith, nat_tests) in
    rw f (ap (λ xs. i ∷ xs) (cookies_kept h c (i.serial + 1) items r.2 (omega arith)))

put_cookie : (h c low : ℕ) (items : List DueItem) (x : DueItem) → Rises low items → item_at items h ≡ Some x → filter (is_below h) items ++ record { serial = h; kind = x.kind; cookie = c } ∷ filter (is_above h) items ≡ with_cookie h c items
put_cookie h c low [] x r e = absurd (cc)
put_cookie h c low (i ∷ items) x r e =
    elim (cases_Bool (is_item_of h i)) [
      | inl t ↦
          let serial = eqb-true i.serial h t in
          let same : i ≡ x = let q = rw t at e in cc in
          let made : ℕ → ℕ → DueItem = λ n k. record { serial = n; kind = k; cookie = c } in
          let b : is_below h i ≡ false = grind (arith, nat_tests) in
          let a : is_above h i ≡ false = grind (arith, nat_tests) in
          let new : made h x.kind ≡ made i.serial i.kind = ap (λ n. made n x.kind) (sym serial) ∙ ap (λ (y : DueItem). made i.serial y.kind) (sym same) in
          rw (b, a, t, none_below h (i.serial + 1) items r.2 (omega arith), all_above h (i.serial + 1) items r.2 (omega arith), cookies_kept h c (i.serial + 1) items r.2 (omega arith)) (ap (λ y. y ∷ items) new)
      | inr f ↦
          let there = rw f at e in
          let later = item_low (i.serial + 1) (is_item_of h) items x r.2 there in
          let number = found_serial items h x there in
          let b : is_below h i ≡ true = grind (arith, nat_tests) in
          let a : is_above h i ≡ false = grind (arith, nat_tests) in
          rw (b, a, f) (ap (λ xs. i ∷ xs) (put_cookie h c (i.serial + 1) items x r.2 there))
    ]
  where
    found_serial : (items : List DueItem) (h : ℕ) (x : DueItem) → item_at items h ≡ Some x → x.serial ≡ h
    found_serial [] h x e = absurd (cc)
    found_serial (i ∷ items) h x e =
        elim (cases_Bool (is_item_of h i)) [
          | inl t ↦ let same : i ≡ x = let q = rw t at e in cc in ap (λ (y : DueItem). y.serial) (sym same) ∙ eqb-true i.serial h t
          | inr f ↦ found_serial items h x (rw f at e)
        ]

-- a named handle with another cookie
pub kept_cookie : (home : Home) (items : List DueItem) (s : Slot) (c : ℕ) (x : DueItem) → Rises 0 items → item_named home items s ≡ Some x → with_item (record { serial = x.serial; kind = x.kind; cookie = c }) items ≡ with_cookie x.serial c items
kept_cookie home items s c x r e = put_cookie x.serial c 0 items x r (named_at home items s x r e)

-- CONNECTIONS

pub conn_below : (c : ℕ) (all : List OpenConn) → over c all ≡ true → list_any (λ o. not (conns.is_below c o)) all ≡ false
conn_below c all h = not-true (list_any (λ o. not (conns.is_below c o)) all) h

over_more : (c d : ℕ) (all : List OpenConn) → c ≤ d → list_any (λ o. not (conns.is_below c o)) all ≡ false → list_any (λ o. not (conns.is_below d o)) all ≡ false
over_more c d [] le h = refl
over_more c d (o ∷ all) le h =
    let p = or_parts (not (conns.is_below c o)) (list_any (λ x. not (conns.is_below c x)) all) h in
    let lt = ltb-true o.conn c (not-false (conns.is_below c o) p.0) in
    let t : conns.is_below d o ≡ true = lt-ltb o.conn d (omega arith) in
    or_from (not (conns.is_below d o)) (list_any (λ x. not (conns.is_below d x)) all) (not_from_true (conns.is_below d o) t) (over_more c d all le p.1)

last_over : (c p : ℕ) (all : List OpenConn) → list_any (λ o. not (conns.is_below (c + 1) o)) all ≡ false → list_any (λ o. not (conns.is_below (c + 1) o)) (all ++ record { conn = c; place = p } ∷ []) ≡ false
last_over c p [] h = let t : nat_lt c (c + 1) ≡ true = lt-ltb c (c + 1) (omega arith) in rw t refl
last_over c p (o ∷ all) h =
    let q = or_parts (not (conns.is_below (c + 1) o)) (list_any (λ x. not (conns.is_below (c + 1) x)) all) h in
    or_from (not (conns.is_below (c + 1) o)) (list_any (λ x. not (conns.is_below (c + 1) x)) (all ++ record { conn = c; place = p } ∷ [])) q.0 (last_over c p all q.1)

pub joined_over : (c p : ℕ) (all : List OpenConn) → over c all ≡ true → over (c + 1) (all ++ record { conn = c; place = p } ∷ []) ≡ true
joined_over c p all h =
    not_from_false (list_any (λ o. not (conns.is_below (c + 1) o)) (all ++ record { conn = c; place = p } ∷ [])) (last_over c p all (over_more c (c + 1) all (omega arith) (conn_below c all h)))

filter_over : (d c : ℕ) (all : List OpenConn) → list_any (λ o. not (conns.is_below d o)) all ≡ false → list_any (λ o. not (conns.is_below d o)) (without c all) ≡ false
filter_over d c [] h = refl
filter_over d c (o ∷ all) h =
    let q = or_parts (not (conns.is_below d o)) (list_any (λ x. not (conns.is_below d x)) all) h in
    elim (cases_Bool (is_other c o)) [
      | inl t ↦ rw t (or_from (not (conns.is_below d o)) (list_any (λ x. not (conns.is_below d x)) (without c all)) q.0 (filter_over d c all q.1))
      | inr f ↦ rw f (filter_over d c all q.1)
    ]

pub left_over : (d c : ℕ) (all : List OpenConn) → over d all ≡ true → over d (without c all) ≡ true
left_over d c all h = not_from_false (list_any (λ o. not (conns.is_below d o)) (without c all)) (filter_over d c all (conn_below d all h))

base_below : (place top : ℕ) (ns : List ℕ) → at_most top ns ≡ true → list_any (λ o. not (conns.is_below (top + 1) o)) (map (base_conn place) ns) ≡ false
base_below place top [] h = refl
base_below place top (n ∷ ns) h =
    let le = leb-true n top (and_left (nat_le n top) (at_most top ns) h) in
    let t : nat_lt n (top + 1) ≡ true = lt-ltb n (top + 1) (omega arith) in
    or_from (not (nat_lt n (top + 1))) (list_any (λ o. not (conns.is_below (top + 1) o)) (map (base_conn place) ns)) (not_from_true (nat_lt n (top + 1)) t) (base_below place top ns (and_right (nat_le n top) (at_most top ns) h))

pub base_over : (place top : ℕ) (ns : List ℕ) → at_most top ns ≡ true → over (top + 1) (map (base_conn place) ns) ≡ true
base_over place top ns h = not_from_false (list_any (λ o. not (conns.is_below (top + 1) o)) (map (base_conn place) ns)) (base_below place top ns h)

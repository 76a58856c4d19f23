-- What an edit of a cell makes of the live handles, and what is found among them.
use Rattle.std.proofs.Common.{◌≡◌, ℕ, zero, suc, ◌+◌, ◌≤◌, ◌<◌, ◌^◌, Bool, true, false, not, ◌==◌, if◌then◌else◌, Option, Some, None, List, [], ◌∷◌, ◌++◌, length, map, set, get_or, take, drop, refl, sym, ◌∙◌, ap, subst, arith, inl, inr}
use Rattle.std.specs.List.{filter, find, list_any, insert}
use Rattle.std.proofs.lemmas.Grind.{common_steps}
use Rattle.std.proofs.lemmas.List.{get_or_default}
use Rattle.std.proofs.lemmas.Bool.{cases_lt, cases_Bool, eq-eqb, eqb-true, lt-ltb}
use Rattle.std.proofs.lemmas.Bool.Decides.{nat_tests, eqb_tells}
use Rattle.handle_model.specs.declared.entry.Home.{Home}
use Rattle.handle_model.specs.declared.entry.DueItem.{DueItem}
use Rattle.handle_model.specs.Journal.{is_item_of}
use Rattle.handle_table.specs.Handles.{Handles, has, item_at, is_below, is_above, is_other, with_item, without, cookie_set, with_cookie}
use Rattle.handle_table.specs.Kept.{Rises}
use Rattle.handle_table.specs.Cells.{Cell, live_cell, dead_cell, living, item_in, fresh, is_live, Climb, IsAt, IsGap, IsLiveAt}
use Rattle.handle_table.proofs.Edits.{rises_more, none_below}
use Rattle.handle_table.proofs.Items.{item_low}
use Rattle.handle_table.proofs.Wires.{known, not_known}
use Rattle.handle_table.proofs.Search.{climb_low, no_cell}

-- THE LIVE ONES RISE

pub rises_living : (low : ℕ) (cells : List Cell) → Climb low cells → Rises low (living cells)
rises_living low [] r = tt
rises_living low (c ∷ cells) r =
    let rest = rises_living (c.item.serial + 1) cells r.2 in
    let first = r.0 in
    elim (cases_Bool c.live) [
      | inl e ↦ rw e (r.0, r.1, rest)
      | inr e ↦ rw e (rises_more low (c.item.serial + 1) (living cells) (omega arith) rest)
    ]

pub ruleset wiring = (known, not_known, rises_living, common_steps)

climb_more : (low more : ℕ) (cells : List Cell) → low ≤ more → Climb more cells → Climb low cells
climb_more low more [] le r = tt
climb_more low more (c ∷ cells) le r = let first = r.0 in (omega arith, r.1, r.2)

-- LOWER SERIALS

without_low : (low h : ℕ) (items : List DueItem) → Rises low items → h < low → without h items ≡ items
without_low low h [] r lt = refl
without_low low h (i ∷ items) r lt =
    let first = r.0 in
    elim (eqb_tells i.serial h) [
      | inl e ↦ let same = e.1 in absurd (omega arith)
      | inr e ↦ rw (e.0, without_low (i.serial + 1) h items r.2 (omega arith)) refl
    ]

cookie_low : (low h c : ℕ) (items : List DueItem) → Rises low items → h < low → with_cookie h c items ≡ items
cookie_low low h c [] r lt = refl
cookie_low low h c (i ∷ items) r lt =
    let first = r.0 in
    elim (eqb_tells i.serial h) [
      | inl e ↦ let same = e.1 in absurd (omega arith)
      | inr e ↦ rw (e.0, cookie_low (i.serial + 1) h c items r.2 (omega arith)) refl
    ]

above_low : (low h : ℕ) (items : List DueItem) → Rises low items → h < low → filter (is_above h) items ≡ items
above_low low h [] r lt = refl
above_low low h (i ∷ items) r lt =
    let first = r.0 in
    let up : is_above h i ≡ true = lt-ltb h i.serial (omega arith) in
    rw up (ap (λ xs. i ∷ xs) (above_low (i.serial + 1) h items r.2 (omega arith)))

with_low : (low : ℕ) (x : DueItem) (items : List DueItem) → Rises low items → x.serial < low → with_item x items ≡ x ∷ items
with_low low x items r lt = rw (none_below x.serial low items (omega arith) r, above_low low x.serial items r lt) refl

-- A CELL AND THE ONES AFTER IT

head_at : (h : ℕ) (y : Cell) (cells : List Cell) → IsAt (y ∷ cells) h 0 → y.item.serial ≡ h
head_at h y cells w = w.here y

tail_at : (h i : ℕ) (y : Cell) (cells : List Cell) → IsAt (y ∷ cells) h (suc i) → IsAt cells h i
tail_at h i y cells w = let lt = w.within in record { within = omega arith; here = w.here }

lower : (low h i : ℕ) (y : Cell) (cells : List Cell) → Climb low (y ∷ cells) → IsAt cells h i → y.item.serial < h
lower low h i y cells r w =
    let above = climb_low (y.item.serial + 1) cells i no_cell r.2 w.within in
    let here = w.here no_cell in omega arith

tail_gap : (h i : ℕ) (y : Cell) (cells : List Cell) → IsGap (y ∷ cells) h (suc i) → IsGap cells h i
tail_gap h i y cells w =
    let le = w.within in
    record { within = omega arith; low = λ j d lt. w.low (suc j) d (omega arith); high = λ j d le' lt. w.high (suc j) d (omega arith) (omega arith) }

-- all serials are above h
gap_climb : (low h : ℕ) (cells : List Cell) → Climb low cells → IsGap cells h 0 → Climb (h + 1) cells
gap_climb low h [] r w = tt
gap_climb low h (c ∷ cells) r w = let up = w.high 0 c (omega arith) (omega arith) in (omega arith, r.1, r.2)

not_same : (h : ℕ) (i : DueItem) → i.serial < h → is_item_of h i ≡ false
not_same h i lt = elim (eqb_tells i.serial h) [ inl e ↦ let same = e.1 in absurd (omega arith) | inr e ↦ e.0 ]

-- WHAT IS FOUND

pub found_at : (low : ℕ) (cells : List Cell) (h i : ℕ) (x : Cell) → Climb low cells → IsAt cells h i → x ≡ get_or cells i x → item_at (living cells) h ≡ item_in x
found_at low [] h i x r w e = let lt = w.within in absurd (omega arith)
found_at low (y ∷ cells) h zero x r w e =
    let here = head_at h y cells w in
    let q : is_item_of h y.item ≡ true = eq-eqb y.item.serial h here in
    let none = item_low (y.item.serial + 1) (living cells) h (rises_living (y.item.serial + 1) cells r.2) (omega arith) in
    let there : item_at (living (y ∷ cells)) h ≡ item_in y =
    elim (cases_Bool y.live) [
      | inl l ↦ rw (l, q) refl
      | inr l ↦ rw l none
    ] in there ∙ ap item_in (sym e)
found_at low (y ∷ cells) h (suc i) x r w e =
    let t = tail_at h i y cells w in
    let off = not_same h y.item (lower low h i y cells r t) in
    let rest = found_at (y.item.serial + 1) cells h i x r.2 t e in
    elim (cases_Bool y.live) [
      | inl l ↦ rw (l, off) rest
      | inr l ↦ rw l rest
    ]

pub found_gap : (low : ℕ) (cells : List Cell) (h i : ℕ) → Climb low cells → IsGap cells h i → item_at (living cells) h ≡ None
found_gap low cells h zero r w = item_low (h + 1) (living cells) h (rises_living (h + 1) cells (gap_climb low h cells r w)) (omega arith)
found_gap low [] h (suc i) r w = refl
found_gap low (y ∷ cells) h (suc i) r w =
    let below = w.low 0 y (omega arith) in
    let off = not_same h y.item below in
    let rest = found_gap (y.item.serial + 1) cells h i r.2 (tail_gap h i y cells w) in
    elim (cases_Bool y.live) [
      | inl l ↦ rw (l, off) rest
      | inr l ↦ rw l rest
    ]

-- what is not found is not there
pub none_has : (items : List DueItem) (h : ℕ) → item_at items h ≡ None → has items h ≡ false
none_has [] h e = refl
none_has (i ∷ items) h e = grind (arith, common_steps, none_has items h)

pub has_live : (cells : List Cell) (h i : ℕ) (x : Cell) → Climb 0 cells → IsAt cells h i → x ≡ get_or cells i x → has (living cells) h ≡ true → x.live ≡ true
has_live cells h i x r w e t =
    elim (cases_Bool x.live) [
      | inl l ↦ l
      | inr l ↦ absurd (let f = none_has (living cells) h (found_at 0 cells h i x r w e ∙ rw l refl) in cc)
    ]

pub found_read : (cells : List Cell) (h i : ℕ) (d : Cell) → Climb 0 cells → IsAt cells h i → item_at (living cells) h ≡ item_in (get_or cells i d)
found_read cells h i d r w = found_at 0 cells h i (get_or cells i d) r w (get_or_default cells i d (get_or cells i d) w.within)

pub found_none : (cells : List Cell) (h i : ℕ) → Climb 0 cells → IsGap cells h i → item_at (living cells) h ≡ None
found_none cells h i r w = found_gap 0 cells h i r w

-- a live handle stands at no gap
pub no_gap : (cells : List Cell) (h i : ℕ) → Climb 0 cells → IsGap cells h i → has (living cells) h ≡ true → ⊥
no_gap cells h i r w t = let f = none_has (living cells) h (found_gap 0 cells h i r w) in cc

-- EDITS OF A CELL

pub closed_at : (low : ℕ) (cells : List Cell) (h i : ℕ) (y : Cell) → Climb low cells → IsAt cells h i → y.live ≡ false → living (set cells i y) ≡ without h (living cells)
closed_at low [] h i y r w f = let lt = w.within in absurd (omega arith)
closed_at low (c ∷ cells) h zero y r w f =
    let here = head_at h c cells w in
    let q : (c.item.serial == h) ≡ true = eq-eqb c.item.serial h here in
    let rest = sym (without_low (c.item.serial + 1) h (living cells) (rises_living (c.item.serial + 1) cells r.2) (omega arith)) in
    elim (cases_Bool c.live) [
      | inl l ↦ rw (f, l, q) rest
      | inr l ↦ rw (f, l) rest
    ]
closed_at low (c ∷ cells) h (suc i) y r w f =
    let t = tail_at h i c cells w in
    let off = not_same h c.item (lower low h i c cells r t) in
    let rest = closed_at (c.item.serial + 1) cells h i y r.2 t f in
    elim (cases_Bool c.live) [
      | inl l ↦ rw (l, off) (ap (λ xs. c.item ∷ xs) rest)
      | inr l ↦ rw l rest
    ]

pub cookie_at : (low : ℕ) (cells : List Cell) (h i k : ℕ) (x y : Cell) → Climb low cells → IsAt cells h i → x ≡ get_or cells i x → x.live ≡ true → y.live ≡ true → y.item ≡ record { serial = h; kind = x.item.kind; cookie = k } → living (set cells i y) ≡ with_cookie h k (living cells)
cookie_at low [] h i k x y r w e l f m = let lt = w.within in absurd (omega arith)
cookie_at low (c ∷ cells) h zero k x y r w e l f m =
    let here = head_at h c cells w in
    let q : (c.item.serial == h) ≡ true = eq-eqb c.item.serial h here in
    let rest = sym (cookie_low (c.item.serial + 1) h k (living cells) (rises_living (c.item.serial + 1) cells r.2) (omega arith)) in
    let same : x ≡ c = e in
    let live : c.live ≡ true = ap (λ (z : Cell). z.live) (sym same) ∙ l in
    let made : y.item ≡ record { serial = c.item.serial; kind = c.item.kind; cookie = k } = m ∙ rw (same, here) refl in
    rw (f, live, q) (ap (λ z. z ∷ living cells) made ∙ ap (λ xs. record { serial = c.item.serial; kind = c.item.kind; cookie = k } ∷ xs) rest)
cookie_at low (c ∷ cells) h (suc i) k x y r w e l f m =
    let t = tail_at h i c cells w in
    let off = not_same h c.item (lower low h i c cells r t) in
    let rest = cookie_at (c.item.serial + 1) cells h i k x y r.2 t e l f m in
    elim (cases_Bool c.live) [
      | inl v ↦ rw (v, off) (ap (λ xs. c.item ∷ xs) rest)
      | inr v ↦ rw v rest
    ]

-- a lower handle stays before the one that comes
with_more : (x i : DueItem) (items : List DueItem) → i.serial < x.serial → with_item x (i ∷ items) ≡ i ∷ with_item x items
with_more x i items lt =
    let below : is_below x.serial i ≡ true = lt-ltb i.serial x.serial lt in
    let above : is_above x.serial i ≡ false = grind (arith, nat_tests) in
    rw (below, above) refl

pub put_at : (low : ℕ) (cells : List Cell) (i : ℕ) (y : Cell) → Climb low cells → IsAt cells y.item.serial i → y.live ≡ true → living (set cells i y) ≡ with_item y.item (living cells)
put_at low [] i y r w f = let lt = w.within in absurd (omega arith)
put_at low (c ∷ cells) zero y r w f =
    let here = head_at y.item.serial c cells w in
    let rest = sym (with_low (c.item.serial + 1) y.item (living cells) (rises_living (c.item.serial + 1) cells r.2) (omega arith)) in
    elim (cases_Bool c.live) [
      | inl l ↦
          let below : is_below y.item.serial c.item ≡ false = grind (arith, nat_tests) in
          let above : is_above y.item.serial c.item ≡ false = grind (arith, nat_tests) in
          rw (f, l, below, above) rest
      | inr l ↦ rw (f, l) rest
    ]
put_at low (c ∷ cells) (suc i) y r w f =
    let t = tail_at y.item.serial i c cells w in
    let lt = lower low y.item.serial i c cells r t in
    let rest = put_at (c.item.serial + 1) cells i y r.2 t f in
    elim (cases_Bool c.live) [
      | inl l ↦ rw l (ap (λ xs. c.item ∷ xs) rest ∙ sym (with_more y.item c.item (living cells) lt))
      | inr l ↦ rw l rest
    ]

pub put_gap : (low : ℕ) (cells : List Cell) (i : ℕ) (y : Cell) → Climb low cells → IsGap cells y.item.serial i → y.live ≡ true → living (insert cells i y) ≡ with_item y.item (living cells)
put_gap low cells zero y r w f =
    rw f (sym (with_low (y.item.serial + 1) y.item (living cells) (rises_living (y.item.serial + 1) cells (gap_climb low y.item.serial cells r w)) (omega arith)))
put_gap low [] (suc i) y r w f = let le = w.within in absurd (omega arith)
put_gap low (c ∷ cells) (suc i) y r w f =
    let lt = w.low 0 c (omega arith) in
    let rest = put_gap (c.item.serial + 1) cells i y r.2 (tail_gap y.item.serial i c cells w) f in
    elim (cases_Bool c.live) [
      | inl l ↦ rw l (ap (λ xs. c.item ∷ xs) rest ∙ sym (with_more y.item c.item (living cells) lt))
      | inr l ↦ rw l rest
    ]

-- ORDER

pub climb_set : (low : ℕ) (cells : List Cell) (h i : ℕ) (y : Cell) → Climb low cells → IsAt cells h i → y.item.serial ≡ h → Climb low (set cells i y)
climb_set low [] h i y r w e = r
climb_set low (c ∷ cells) h zero y r w e =
    let here = head_at h c cells w in
    let first = r.0 in
    let small = r.1 in
    (omega arith, omega arith, subst (λ n. Climb (n + 1) cells) (here ∙ sym e) r.2)
climb_set low (c ∷ cells) h (suc i) y r w e = (r.0, r.1, climb_set (c.item.serial + 1) cells h i y r.2 (tail_at h i c cells w) e)

pub climb_insert : (low : ℕ) (cells : List Cell) (i : ℕ) (y : Cell) → Climb low cells → IsGap cells y.item.serial i → low ≤ y.item.serial → y.item.serial < 2 ^ 32 → Climb low (insert cells i y)
climb_insert low cells zero y r w le small = (le, small, gap_climb low y.item.serial cells r w)
climb_insert low [] (suc i) y r w le small = let lt = w.within in absurd (omega arith)
climb_insert low (c ∷ cells) (suc i) y r w le small =
    let lt = w.low 0 c (omega arith) in
    (r.0, r.1, climb_insert (c.item.serial + 1) cells i y r.2 (tail_gap y.item.serial i c cells w) (omega arith) small)

pub climb_filter : (low : ℕ) (cells : List Cell) → Climb low cells → Climb low (filter is_live cells)
climb_filter low [] r = tt
climb_filter low (c ∷ cells) r =
    let rest = climb_filter (c.item.serial + 1) cells r.2 in
    let first = r.0 in
    elim (cases_Bool c.live) [
      | inl l ↦ rw l (r.0, r.1, rest)
      | inr l ↦ rw l (climb_more low (c.item.serial + 1) (filter is_live cells) (omega arith) rest)
    ]

pub living_filter : (cells : List Cell) → living (filter is_live cells) ≡ living cells
living_filter [] = refl
living_filter (c ∷ cells) = elim (cases_Bool c.live) [ inl l ↦ rw l (ap (λ xs. c.item ∷ xs) (living_filter cells)) | inr l ↦ rw l (living_filter cells) ]

-- COUNTS

abbrev one : Bool → ℕ
one b = if b then 1 else 0

length_set : (cells : List Cell) (i : ℕ) (x y : Cell) → i < length cells → x ≡ get_or cells i x → length (living (set cells i y)) + one x.live ≡ length (living cells) + one y.live
length_set [] i x y lt e = absurd (omega arith)
length_set (c ∷ cells) zero x y lt e =
    let same : x.live ≡ c.live = ap (λ (z : Cell). z.live) e in
    elim (cases_Bool c.live) [
      | inl l ↦ elim (cases_Bool y.live) [
        | inl m ↦ let n : x.live ≡ true = same ∙ l in rw (l, m, n) (omega arith)
        | inr m ↦ let n : x.live ≡ true = same ∙ l in rw (l, m, n) (omega arith)
      ]
      | inr l ↦ elim (cases_Bool y.live) [
        | inl m ↦ let n : x.live ≡ false = same ∙ l in rw (l, m, n) (omega arith)
        | inr m ↦ let n : x.live ≡ false = same ∙ l in rw (l, m, n) (omega arith)
      ]
    ]
length_set (c ∷ cells) (suc i) x y lt e =
    let rest = length_set cells i x y (omega arith) e in
    elim (cases_Bool c.live) [
      | inl l ↦ rw l (omega arith)
      | inr l ↦ rw l rest
    ]

pub length_insert : (cells : List Cell) (i : ℕ) (y : Cell) → i ≤ length cells → y.live ≡ true → length (living (insert cells i y)) ≡ length (living cells) + 1
length_insert cells zero y le m = rw m (omega arith)
length_insert [] (suc i) y le m = absurd (omega arith)
length_insert (c ∷ cells) (suc i) y le m =
    let rest = length_insert cells i y (omega arith) m in
    elim (cases_Bool c.live) [
      | inl l ↦ rw l (omega arith)
      | inr l ↦ rw l rest
    ]

read_set : (cells : List Cell) (i : ℕ) (y : Cell) → i < length cells → length (living (set cells i y)) + one (get_or cells i y).live ≡ length (living cells) + one y.live
read_set cells i y lt = length_set cells i (get_or cells i y) y lt (get_or_default cells i y (get_or cells i y) lt)

-- as many live, one more, one less
pub length_kept : (cells : List Cell) (i : ℕ) (y : Cell) → i < length cells → IsLiveAt cells i true → y.live ≡ true → length (living (set cells i y)) ≡ length (living cells)
length_kept cells i y lt was m =
    let n = read_set cells i y lt in
    let a : one (get_or cells i y).live ≡ 1 = ap one (was y) in
    let b : one y.live ≡ 1 = ap one m in omega arith

pub length_more : (cells : List Cell) (i : ℕ) (y : Cell) → i < length cells → IsLiveAt cells i false → y.live ≡ true → length (living (set cells i y)) ≡ length (living cells) + 1
length_more cells i y lt was m =
    let n = read_set cells i y lt in
    let a : one (get_or cells i y).live ≡ 0 = ap one (was y) in
    let b : one y.live ≡ 1 = ap one m in omega arith

pub length_less : (cells : List Cell) (i : ℕ) (y : Cell) → i < length cells → IsLiveAt cells i true → y.live ≡ false → length (living (set cells i y)) + 1 ≡ length (living cells)
length_less cells i y lt was m =
    let n = read_set cells i y lt in
    let a : one (get_or cells i y).live ≡ 1 = ap one (was y) in
    let b : one y.live ≡ 0 = ap one m in omega arith

-- FRESH CELLS

pub fresh_count : (items : List DueItem) → length (living (fresh items)) ≡ length (fresh items)
fresh_count [] = refl
fresh_count (i ∷ items) = let more = fresh_count items in omega arith

pub living_fresh : (items : List DueItem) → living (fresh items) ≡ items
living_fresh [] = refl
living_fresh (i ∷ items) = ap (λ xs. i ∷ xs) (living_fresh items)

pub climb_fresh : (low : ℕ) (items : List DueItem) → Rises low items → Climb low (fresh items)
climb_fresh low [] r = tt
climb_fresh low (i ∷ items) r = (r.0, r.1, climb_fresh (i.serial + 1) items r.2)

-- WHAT STANDS AT A PLACE

some_live : (c : Cell) (x : DueItem) → item_in c ≡ Some x → (c.live ≡ true) × (c.item ≡ x)
some_live c x e =
    elim (cases_Bool c.live) [
      | inl l ↦ let f = rw l at e in (l, cc)
      | inr l ↦ absurd (let f = rw l at e in cc)
    ]

none_live : (c : Cell) → item_in c ≡ None → c.live ≡ false
none_live c e =
    elim (cases_Bool c.live) [
      | inl l ↦ absurd (let f = rw l at e in cc)
      | inr l ↦ l
    ]

-- a cell of which an item was read is live, and one of which none was is dead
pub live_as : (cells : List Cell) (i : ℕ) (x : DueItem) → ((c : Cell) → Some x ≡ item_in (get_or cells i c)) → IsLiveAt cells i true
live_as cells i x e = λ d. (some_live (get_or cells i d) x (sym (e d))).0

pub dead_as : (cells : List Cell) (i : ℕ) → ((c : Cell) → None ≡ item_in (get_or cells i c)) → IsLiveAt cells i false
dead_as cells i e = λ d. none_live (get_or cells i d) (sym (e d))

-- the cell of a live handle is live
pub live_at : (cells : List Cell) (h i : ℕ) → Climb 0 cells → IsAt cells h i → has (living cells) h ≡ true → IsLiveAt cells i true
live_at cells h i r w t = λ d. has_live cells h i (get_or cells i d) r w (get_or_default cells i d (get_or cells i d) w.within) t

pub not_dead : (cells : List Cell) (h i : ℕ) → Climb 0 cells → IsAt cells h i → has (living cells) h ≡ true → ((c : Cell) → None ≡ item_in (get_or cells i c)) → ⊥
not_dead cells h i r w t e = let l = live_at cells h i r w t no_cell in let d = dead_as cells i e no_cell in cc

-- the item that was read has the serial of the place
pub read_serial : (cells : List Cell) (h i : ℕ) (x : DueItem) → IsAt cells h i → ((c : Cell) → Some x ≡ item_in (get_or cells i c)) → x.serial ≡ h
read_serial cells h i x w e = ap (λ (z : DueItem). z.serial) (sym (some_live (get_or cells i no_cell) x (sym (e no_cell))).1) ∙ w.here no_cell

pub at_serial : (cells : List Cell) (h i : ℕ) (x : DueItem) → IsAt cells h i → ((c : Cell) → Some x ≡ item_in (get_or cells i c)) → IsAt cells x.serial i
at_serial cells h i x w e = subst (λ n. IsAt cells n i) (sym (read_serial cells h i x w e)) w

pub cookie_written : (cells : List Cell) (h i k : ℕ) (x : DueItem) → Climb 0 cells → IsAt cells h i → ((c : Cell) → Some x ≡ item_in (get_or cells i c)) → living (set cells i (live_cell (record { serial = x.serial; kind = x.kind; cookie = k }))) ≡ with_cookie h k (living cells)
cookie_written cells h i k x r w e =
    let c : Cell = get_or cells i no_cell in
    let there = some_live c x (sym (e no_cell)) in
    let y : DueItem = record { serial = x.serial; kind = x.kind; cookie = k } in
    let made : y ≡ record { serial = h; kind = c.item.kind; cookie = k } =
    ap (λ (z : DueItem). record { serial = z.serial; kind = z.kind; cookie = k }) (sym there.1) ∙ ap (λ n. record { serial = n; kind = c.item.kind; cookie = k }) (w.here no_cell) in
    cookie_at 0 cells h i k c (live_cell y) r w (get_or_default cells i no_cell c w.within) there.0 refl made

abbrev pub handles_with : Home → ℕ → List DueItem → Handles
handles_with home room items = record { home = home; items = items; room = room }

pub ruleset beginning = (climb_fresh, living_fresh, common_steps)

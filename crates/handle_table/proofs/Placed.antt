-- Handles under the keys of an index: one comes, goes or changes.
use Rattle.std.proofs.Common.{◌≡◌, ◌≢◌, ℕ, zero, suc, ◌+◌, ◌<◌, ◌≤◌, Bool, true, false, not, ◌==◌, if◌then◌else◌, Option, Some, None, MatchOption, List, [], ◌∷◌, ◌++◌, length, map, get_or, set, rules, is_some, cond, count_by, refl, sym, ◌∙◌, ap, subst, arith, inl, inr}
use Rattle.std.specs.Prelude.{Vec, vec_len, vec_capacity}
use Rattle.std.specs.declared.alloc.Global.{Global}
use Rattle.std.specs.List.{AllByRecursion, filter, insert}
use Rattle.std.proofs.lemmas.List.{map-set, get_or-map}
use Rattle.std.proofs.lemmas.List.Sums.{sum_by-set}
use Rattle.std.proofs.lemmas.Bool.{cases_eq, cases_Bool}
use Rattle.std.proofs.lemmas.Bool.Decides.{eqb_tells}
use Rattle.slab.specs.Slab.{Slab, get, Updates, with_value, HasRoomFor}
use Rattle.slab.proofs.SlabLemmas.{ContainsKey-within, Updates-with_value}
use Rattle.handle_model.specs.declared.entry.DueItem.{DueItem}
use Rattle.handle_table.specs.declared.places.Place.{Place}
use Rattle.handle_table.specs.Cells.{Cell, live_cell, dead_cell, living, item_in, is_live, IsLiveAt}
use Rattle.handle_table.specs.Places.{no_key, held, cell_of, cell_at, cells_in, Stands, Apart, IsStored, IsGrown}

-- ONE PLACE

pub held_none : (s : Slab DueItem) (p : Place) → p.key ≡ no_key → held s p ≡ None
held_none s p e = elim (eqb_tells p.key no_key) [ inl q ↦ rw q.0 refl | inr q ↦ absurd (q.1 e) ]

pub held_some : (s : Slab DueItem) (p : Place) → p.key ≢ no_key → held s p ≡ get s p.key
held_some s p d = elim (eqb_tells p.key no_key) [ inl q ↦ absurd (d q.1) | inr q ↦ rw q.0 refl ]

some_item : (o : Option DueItem) (h : ℕ) → MatchOption o ⊥ (λ i. i.serial ≡ h) → (i : DueItem) × (o ≡ Some i) × (i.serial ≡ h)
some_item None h m = absurd m
some_item (Some i) h m = (i, refl, m)

pub item_there : (s : Slab DueItem) (p : Place) → p.key ≢ no_key → Stands s p → (i : DueItem) × (get s p.key ≡ Some i) × (i.serial ≡ p.serial)
item_there s p d h = some_item (get s p.key) p.serial (h d)

stands_as : (s : Slab DueItem) (p : Place) (i : DueItem) → get s p.key ≡ Some i → i.serial ≡ p.serial → Stands s p
stands_as s p i e c = λ d. subst (λ o. MatchOption o ⊥ (λ (x : DueItem). x.serial ≡ p.serial)) (sym e) c

stands_none : (s : Slab DueItem) (p : Place) → p.key ≡ no_key → Stands s p
stands_none s p e = λ d. absurd (d e)

-- the handle of a cell is the one that is held
pub item_of_cell : (h : ℕ) (o : Option DueItem) → item_in (cell_of h o) ≡ o
item_of_cell h None = refl
item_of_cell h (Some i) = refl

pub cell_serial : (s : Slab DueItem) (p : Place) → Stands s p → (cell_at s p).item.serial ≡ p.serial
cell_serial s p h =
    elim (eqb_tells p.key no_key) [
      | inl q ↦ ap (λ o. (cell_of p.serial o).item.serial) (held_none s p q.1)
      | inr q ↦
          let i = item_there s p q.1 h in
          ap (λ o. (cell_of p.serial o).item.serial) (held_some s p q.1 ∙ i.1) ∙ i.2
    ]

dead_one : (o : Option DueItem) (h : ℕ) → o ≡ None → is_live (cell_of h o) ≡ false
dead_one o h e = ap (λ x. is_live (cell_of h x)) e

-- a live cell has a key, and a dead one has none
live_key : (s : Slab DueItem) (p : Place) → is_live (cell_at s p) ≡ true → p.key ≢ no_key
live_key s p l e = let d = dead_one (held s p) p.serial (held_none s p e) in cc

-- a key without a handle is none of the index
free_key : (s : Slab DueItem) (n : ℕ) (p : Place) → n ≢ no_key → get s n ≡ None → Stands s p → p.key ≢ n
free_key s n p d none h e =
    let i = item_there s p (λ q. d (sym e ∙ q)) h in
    let some : get s n ≡ Some i.0 = subst (λ m. get s m ≡ Some i.0) e i.1 in cc

pub free_keys : (s : Slab DueItem) (n : ℕ) (ps : List Place) → n ≢ no_key → get s n ≡ None → AllByRecursion (Stands s) ps → AllByRecursion (λ q. q.key ≢ n) ps
free_keys s n [] d none h = tt
free_keys s n (p ∷ ps) d none h = (free_key s n p d none h.0, free_keys s n ps d none h.1)

-- LISTS

all_set : (P : Place → Type 0) (ps : List Place) (i : ℕ) (q : Place) → P q → AllByRecursion P ps → AllByRecursion P (set ps i q)
all_set P [] i q h a = tt
all_set P (p ∷ ps) zero q h a = (h, a.1)
all_set P (p ∷ ps) (suc i) q h a = (a.0, all_set P ps i q h a.1)

all_insert : (P : Place → Type 0) (ps : List Place) (i : ℕ) (q : Place) → P q → AllByRecursion P ps → AllByRecursion P (insert ps i q)
all_insert P ps zero q h a = (h, a)
all_insert P [] (suc i) q h a = (h, tt)
all_insert P (p ∷ ps) (suc i) q h a = (a.0, all_insert P ps i q h a.1)

all_filter : (P : Place → Type 0) (f : Place → Bool) (ps : List Place) → AllByRecursion P ps → AllByRecursion P (filter f ps)
all_filter P f [] a = tt
all_filter P f (p ∷ ps) a =
    let rest = all_filter P f ps a.1 in
    elim (cases_Bool (f p)) [
      | inl e ↦ rw e (a.0, rest)
      | inr e ↦ rw e rest
    ]

map_insert : {X Y : Type 0} (f : X → Y) (xs : List X) (i : ℕ) (y : X) → map f (insert xs i y) ≡ insert (map f xs) i (f y)
map_insert f xs zero y = refl
map_insert f [] (suc i) y = refl
map_insert f (x ∷ xs) (suc i) y = ap (λ zs. f x ∷ zs) (map_insert f xs i y)

pub size_in : (s : Slab DueItem) (ps : List Place) → length (cells_in s ps) ≡ length ps
size_in s [] = refl
size_in s (p ∷ ps) = ap suc (size_in s ps)

pub place_stands : (s : Slab DueItem) (ps : List Place) (i : ℕ) (p : Place) → AllByRecursion (Stands s) ps → i < length ps → p ≡ get_or ps i p → Stands s p
place_stands s [] i p h lt e = absurd (omega arith)
place_stands s (m ∷ ps) zero p h lt e = subst (Stands s) (sym e) h.0
place_stands s (m ∷ ps) (suc i) p h lt e = place_stands s ps i p h.1 (omega arith) e

-- the cell of a place that was read
pub cell_read : (s : Slab DueItem) (ps : List Place) (i : ℕ) (p : Place) (c : Cell) → i < length ps → p ≡ get_or ps i p → get_or (cells_in s ps) i c ≡ cell_at s p
cell_read s ps i p c lt e = get_or-map (cell_at s) ps i p c lt ∙ ap (cell_at s) (sym e)

pub serial_read : (s : Slab DueItem) (ps : List Place) (i : ℕ) (p : Place) (c : Cell) → AllByRecursion (Stands s) ps → i < length ps → p ≡ get_or ps i p → (get_or (cells_in s ps) i c).item.serial ≡ p.serial
serial_read s ps i p c h lt e = ap (λ (x : Cell). x.item.serial) (cell_read s ps i p c lt e) ∙ cell_serial s p (place_stands s ps i p h lt e)

pub item_read : (s : Slab DueItem) (ps : List Place) (i : ℕ) (p : Place) (c : Cell) → i < length ps → p ≡ get_or ps i p → held s p ≡ item_in (get_or (cells_in s ps) i c)
item_read s ps i p c lt e = sym (ap item_in (cell_read s ps i p c lt e) ∙ item_of_cell p.serial (held s p))

pub live_read : (s : Slab DueItem) (ps : List Place) (i : ℕ) (p : Place) → i < length ps → p ≡ get_or ps i p → IsLiveAt (cells_in s ps) i true → p.key ≢ no_key
live_read s ps i p lt e l = live_key s p (ap is_live (sym (cell_read s ps i p (cell_at s p) lt e)) ∙ l (cell_at s p))

-- the handle of a live place is there, and has the serial
pub live_there : (s : Slab DueItem) (ps : List Place) (i : ℕ) (p : Place) → AllByRecursion (Stands s) ps → i < length ps → p ≡ get_or ps i p → IsLiveAt (cells_in s ps) i true → (x : DueItem) × (get s p.key ≡ Some x) × (x.serial ≡ p.serial)
live_there s ps i p h lt e l = item_there s p (live_read s ps i p lt e l) (place_stands s ps i p h lt e)

-- WHAT STAYS

same_held : (s t : Slab DueItem) (p : Place) → get t p.key ≡ get s p.key → held t p ≡ held s p
same_held s t p e = ap (λ o. if p.key == no_key then None else o) e

pub same_cells : (s t : Slab DueItem) (n : ℕ) (slot : Option DueItem) (ps : List Place) → Updates s t n slot → AllByRecursion (λ q. q.key ≢ n) ps → cells_in t ps ≡ cells_in s ps
same_cells s t n slot [] u off = refl
same_cells s t n slot (p ∷ ps) u off =
    ap (λ o. cell_of p.serial o ∷ cells_in t ps) (same_held s t p (u.others p.key off.0)) ∙ ap (λ cs. cell_at s p ∷ cs) (same_cells s t n slot ps u off.1)

kept_stand : (s t : Slab DueItem) (p : Place) → get t p.key ≡ get s p.key → Stands s p → Stands t p
kept_stand s t p e h = λ d. subst (λ o. MatchOption o ⊥ (λ (x : DueItem). x.serial ≡ p.serial)) (sym e) (h d)

pub same_stand : (s t : Slab DueItem) (n : ℕ) (slot : Option DueItem) (ps : List Place) → Updates s t n slot → AllByRecursion (λ q. q.key ≢ n) ps → AllByRecursion (Stands s) ps → AllByRecursion (Stands t) ps
same_stand s t n slot [] u off h = tt
same_stand s t n slot (p ∷ ps) u off h = (kept_stand s t p (u.others p.key off.0) h.0, same_stand s t n slot ps u off.1 h.1)

-- in a slab with the same slots
slot_get : (s t : Slab DueItem) (n : ℕ) → t.slots ≡ s.slots → get t n ≡ get s n
slot_get s t n e = ap (λ xs. get_or xs n None) e

pub grown_cells : (s t : Slab DueItem) (ps : List Place) → t.slots ≡ s.slots → cells_in t ps ≡ cells_in s ps
grown_cells s t [] e = refl
grown_cells s t (p ∷ ps) e =
    ap (λ o. cell_of p.serial o ∷ cells_in t ps) (same_held s t p (slot_get s t p.key e)) ∙ ap (λ cs. cell_at s p ∷ cs) (grown_cells s t ps e)

pub grown_stand : (s t : Slab DueItem) (ps : List Place) → t.slots ≡ s.slots → AllByRecursion (Stands s) ps → AllByRecursion (Stands t) ps
grown_stand s t [] e h = tt
grown_stand s t (p ∷ ps) e h = (kept_stand s t p (slot_get s t p.key e) h.0, grown_stand s t ps e h.1)

-- A HANDLE COMES

live_new : (t : Slab DueItem) (q : Place) (x : DueItem) → q.key ≢ no_key → get t q.key ≡ Some x → cell_at t q ≡ live_cell x
live_new t q x d e = ap (cell_of q.serial) (held_some t q d ∙ e)

pub cells_insert : (s t : Slab DueItem) (ps : List Place) (i : ℕ) (q : Place) (x : DueItem) → Updates s t q.key (Some x) → q.key ≢ no_key → AllByRecursion (λ p. p.key ≢ q.key) ps → cells_in t (insert ps i q) ≡ insert (cells_in s ps) i (live_cell x)
cells_insert s t ps i q x u d off =
    map_insert (cell_at t) ps i q
    ∙ (ap (λ c. insert (cells_in t ps) i c) (live_new t q x d u.changed) ∙ ap (λ cs. insert cs i (live_cell x)) (same_cells s t q.key (Some x) ps u off))

pub stand_insert : (s t : Slab DueItem) (ps : List Place) (i : ℕ) (q : Place) (x : DueItem) → Updates s t q.key (Some x) → x.serial ≡ q.serial → AllByRecursion (λ p. p.key ≢ q.key) ps → AllByRecursion (Stands s) ps → AllByRecursion (Stands t) (insert ps i q)
stand_insert s t ps i q x u c off h = all_insert (Stands t) ps i q (stands_as t q x u.changed c) (same_stand s t q.key (Some x) ps u off h)

pub apart_insert : (ps : List Place) (i : ℕ) (q : Place) → AllByRecursion (λ p. p.key ≢ q.key) ps → Apart ps → Apart (insert ps i q)
apart_insert ps zero q off a = (λ d. off, a)
apart_insert [] (suc i) q off a = (λ d. tt, tt)
apart_insert (p ∷ ps) (suc i) q off a =
    (λ d. all_insert (λ m. m.key ≢ p.key) ps i q (λ e. off.0 (sym e)) (a.0 d), apart_insert ps i q off.1 a.1)

-- it comes back to its place
pub cells_fill : (s t : Slab DueItem) (ps : List Place) (i : ℕ) (q : Place) (x : DueItem) → Updates s t q.key (Some x) → q.key ≢ no_key → AllByRecursion (λ p. p.key ≢ q.key) ps → cells_in t (set ps i q) ≡ set (cells_in s ps) i (live_cell x)
cells_fill s t ps i q x u d off =
    map-set (cell_at t) ps i q
    ∙ (ap (λ c. set (cells_in t ps) i c) (live_new t q x d u.changed) ∙ ap (λ cs. set cs i (live_cell x)) (same_cells s t q.key (Some x) ps u off))

pub stand_fill : (s t : Slab DueItem) (ps : List Place) (i : ℕ) (q : Place) (x : DueItem) → Updates s t q.key (Some x) → x.serial ≡ q.serial → AllByRecursion (λ p. p.key ≢ q.key) ps → AllByRecursion (Stands s) ps → AllByRecursion (Stands t) (set ps i q)
stand_fill s t ps i q x u c off h = all_set (Stands t) ps i q (stands_as t q x u.changed c) (same_stand s t q.key (Some x) ps u off h)

pub apart_fill : (ps : List Place) (i : ℕ) (q : Place) → AllByRecursion (λ p. p.key ≢ q.key) ps → Apart ps → Apart (set ps i q)
apart_fill [] i q off a = tt
apart_fill (p ∷ ps) zero q off a = (λ d. off.1, a.1)
apart_fill (p ∷ ps) (suc i) q off a =
    (λ d. all_set (λ m. m.key ≢ p.key) ps i q (λ e. off.0 (sym e)) (a.0 d), apart_fill ps i q off.1 a.1)

-- A HANDLE GOES

off_at : (n : ℕ) (ps : List Place) (i : ℕ) (p : Place) → AllByRecursion (λ m. m.key ≢ n) ps → i < length ps → p ≡ get_or ps i p → p.key ≢ n
off_at n [] i p h lt e = absurd (omega arith)
off_at n (m ∷ ps) zero p h lt e = subst (λ (y : Place). y.key ≢ n) (sym e) h.0
off_at n (m ∷ ps) (suc i) p h lt e = off_at n ps i p h.1 (omega arith) e

-- an earlier place has another key
earlier_off : (ps : List Place) (m : Place) (i : ℕ) (p : Place) → (m.key ≢ no_key → AllByRecursion (λ q. q.key ≢ m.key) ps) → i < length ps → p ≡ get_or ps i p → p.key ≢ no_key → m.key ≢ p.key
earlier_off ps m i p a lt e d = λ q. off_at m.key ps i p (a (λ z. d (sym q ∙ z))) lt e (sym q)

-- where the place is changed, no other has its key
off_rest : (ps : List Place) (i : ℕ) (p q : Place) → Apart ps → i < length ps → p ≡ get_or ps i p → p.key ≢ no_key → q.key ≢ p.key → AllByRecursion (λ x. x.key ≢ p.key) (set ps i q)
off_rest [] i p q a lt e d o = absurd (omega arith)
off_rest (m ∷ ps) zero p q a lt e d o =
    let off = a.0 (subst (λ (y : Place). y.key ≢ no_key) e d) in
    (o, subst (λ (y : Place). AllByRecursion (λ x. x.key ≢ y.key) ps) (sym e) off)
off_rest (m ∷ ps) (suc i) p q a lt e d o =
    (earlier_off ps m i p a.0 (omega arith) e d, off_rest ps i p q a.1 (omega arith) e d o)

none_new : (s : Slab DueItem) (h : ℕ) (q : Place) → q.key ≡ no_key → q.serial ≡ h → cell_at s q ≡ dead_cell h
none_new s h q e c = ap (cell_of q.serial) (held_none s q e) ∙ ap dead_cell c

pub cells_close : (s t : Slab DueItem) (ps : List Place) (i : ℕ) (p q : Place) → Updates s t p.key None → Apart ps → i < length ps → p ≡ get_or ps i p → p.key ≢ no_key → q.key ≡ no_key → cells_in t (set ps i q) ≡ set (cells_in s ps) i (dead_cell q.serial)
cells_close s t ps i p q u a lt e d none =
    same_cells s t p.key None (set ps i q) u (off_rest ps i p q a lt e d (λ z. d (sym z ∙ none)))
    ∙ (map-set (cell_at s) ps i q ∙ ap (λ c. set (cells_in s ps) i c) (none_new s q.serial q none refl))

pub stand_close : (s t : Slab DueItem) (ps : List Place) (i : ℕ) (p q : Place) → Updates s t p.key None → Apart ps → AllByRecursion (Stands s) ps → i < length ps → p ≡ get_or ps i p → p.key ≢ no_key → q.key ≡ no_key → AllByRecursion (Stands t) (set ps i q)
stand_close s t ps i p q u a h lt e d none =
    same_stand s t p.key None (set ps i q) u (off_rest ps i p q a lt e d (λ z. d (sym z ∙ none))) (all_set (Stands s) ps i q (stands_none s q none) h)

pub apart_close : (ps : List Place) (i : ℕ) (q : Place) → q.key ≡ no_key → Apart ps → Apart (set ps i q)
apart_close [] i q none a = tt
apart_close (p ∷ ps) zero q none a = (λ d. absurd (d none), a.1)
apart_close (p ∷ ps) (suc i) q none a =
    (λ d. all_set (λ m. m.key ≢ p.key) ps i q (λ e. d (sym e ∙ none)) (a.0 d), apart_close ps i q none a.1)

-- A HANDLE CHANGES

pub cells_write : (s t : Slab DueItem) (ps : List Place) (i : ℕ) (p : Place) (x : DueItem) → Updates s t p.key (Some x) → Apart ps → i < length ps → p ≡ get_or ps i p → p.key ≢ no_key → cells_in t ps ≡ set (cells_in s ps) i (live_cell x)
cells_write s t [] i p x u a lt e d = absurd (omega arith)
cells_write s t (m ∷ ps) zero p x u a lt e d =
    let live : m.key ≢ no_key = subst (λ (y : Place). y.key ≢ no_key) e d in
    let now : get t m.key ≡ Some x = subst (λ (y : Place). get t y.key ≡ Some x) e u.changed in
    let off = subst (λ (y : Place). AllByRecursion (λ q. q.key ≢ y.key) ps) (sym e) (a.0 live) in
    ap (λ c. c ∷ cells_in t ps) (live_new t m x live now) ∙ ap (λ cs. live_cell x ∷ cs) (same_cells s t p.key (Some x) ps u off)
cells_write s t (m ∷ ps) (suc i) p x u a lt e d =
    let here = same_held s t m (u.others m.key (earlier_off ps m i p a.0 (omega arith) e d)) in
    ap (λ o. cell_of m.serial o ∷ cells_in t ps) here ∙ ap (λ cs. cell_at s m ∷ cs) (cells_write s t ps i p x u a.1 (omega arith) e d)

abbrev serial_or : Option DueItem → ℕ
serial_or None = 0
serial_or (Some i) = i.serial

pub stand_write : (s t : Slab DueItem) (ps : List Place) (n : ℕ) (z x : DueItem) → get s n ≡ Some z → Updates s t n (Some x) → x.serial ≡ z.serial → AllByRecursion (Stands s) ps → AllByRecursion (Stands t) ps
stand_write s t [] n z x g u c h = tt
stand_write s t (m ∷ ps) n z x g u c h = (
  elim (cases_eq m.key n) [
    | inl e ↦ λ d.
        let y = item_there s m d h.0 in
        let one : Some y.0 ≡ Some z = sym y.1 ∙ (ap (get s) e ∙ g) in
        stands_as t m x (ap (get t) e ∙ u.changed) (c ∙ (sym (ap serial_or one) ∙ y.2)) d
    | inr o ↦ kept_stand s t m (u.others m.key o) h.0
  ],
  stand_write s t ps n z x g u c h.1,
)

pub wrote : (s : Slab DueItem) (n : ℕ) (z x : DueItem) → get s n ≡ Some z → Updates s (with_value s n x) n (Some x)
wrote s n z x g = Updates-with_value s n x (rw g (search rules))

-- as many stand afterwards
count_set : (slots : List (Option DueItem)) (n : ℕ) (z x : DueItem) → n < length slots → get_or slots n None ≡ Some z → count_by is_some (set slots n (Some x)) ≡ count_by is_some slots
count_set slots n z x lt g =
    let one : Option DueItem → ℕ = λ o. cond (is_some o) 1 0 in
    let sum = sum_by-set one slots n (Some x) None lt in
    let was = ap one g in omega arith

pub count_write : (s : Slab DueItem) (n : ℕ) (z x : DueItem) → get s n ≡ Some z → count_by is_some (with_value s n x).slots ≡ count_by is_some s.slots
count_write s n z x g = count_set s.slots n z x (ContainsKey-within s n (rw g (search rules))) g

-- DEAD PLACES GO

abbrev pub is_kept : Place → Bool
is_kept p = not (p.key == no_key)

filter_keeps : {X : Type 0} (f : X → Bool) (x : X) (xs : List X) → f x ≡ true → filter f (x ∷ xs) ≡ x ∷ filter f xs
filter_keeps f x xs e = rw e refl

filter_drops : {X : Type 0} (f : X → Bool) (x : X) (xs : List X) → f x ≡ false → filter f (x ∷ xs) ≡ filter f xs
filter_drops f x xs e = rw e refl

pub cells_sweep : (s : Slab DueItem) (ps : List Place) → AllByRecursion (Stands s) ps → cells_in s (filter is_kept ps) ≡ filter is_live (cells_in s ps)
cells_sweep s [] h = refl
cells_sweep s (p ∷ ps) h =
    let rest = cells_sweep s ps h.1 in
    elim (eqb_tells p.key no_key) [
      | inl q ↦
          let dead = dead_one (held s p) p.serial (held_none s p q.1) in
          ap (cells_in s) (filter_drops is_kept p ps (ap not q.0)) ∙ (rest ∙ sym (filter_drops is_live (cell_at s p) (cells_in s ps) dead))
      | inr q ↦
          let i = item_there s p q.1 h.0 in
          let live : is_live (cell_at s p) ≡ true = ap is_live (live_new s p i.0 q.1 i.1) in
          ap (cells_in s) (filter_keeps is_kept p ps (ap not q.0)) ∙ (ap (λ cs. cell_at s p ∷ cs) rest ∙ sym (filter_keeps is_live (cell_at s p) (cells_in s ps) live))
    ]

pub stand_sweep : (s : Slab DueItem) (ps : List Place) → AllByRecursion (Stands s) ps → AllByRecursion (Stands s) (filter is_kept ps)
stand_sweep s ps h = all_filter (Stands s) is_kept ps h

pub apart_sweep : (ps : List Place) → Apart ps → Apart (filter is_kept ps)
apart_sweep [] a = tt
apart_sweep (p ∷ ps) a =
    let rest = apart_sweep ps a.1 in
    elim (cases_Bool (is_kept p)) [
      | inl e ↦ rw e (λ d. all_filter (λ m. m.key ≢ p.key) is_kept ps (a.0 d), rest)
      | inr e ↦ rw e rest
    ]

-- MORE ROOM

pub stored_grown : (s t : Slab DueItem) (ps qs : Vec Place Global) (room n : ℕ) → IsStored s ps room → IsGrown s t n → qs.items ≡ ps.items → vec_len qs + n ≤ vec_capacity qs → IsStored t qs n
stored_grown s t ps qs room n st g e more =
    record {
      stand = rw e (grown_stand s t ps.items g.same st.stand);
      apart = rw e st.apart;
      counted = rw e (ap (count_by is_some) g.same ∙ (st.counted ∙ sym (ap (λ cs. length (living cs)) (grown_cells s t ps.items g.same))));
      room_there = more;
      spare = g.room;
      narrow = g.narrow;
    }

pub stored_more : (s : Slab DueItem) (ps qs : Vec Place Global) (room n : ℕ) → IsStored s ps room → HasRoomFor s n → qs.items ≡ ps.items → vec_len qs + n ≤ vec_capacity qs → IsStored s qs n
stored_more s ps qs room n st fits e more = stored_grown s s ps qs room n st (record { same = refl; room = fits; narrow = st.narrow }) e more

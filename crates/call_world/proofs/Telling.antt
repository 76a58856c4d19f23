-- What is known of a call that was started, as the program has it.
use Rattle.std.proofs.Common.{◌≡◌, ℕ, zero, suc, ◌<◌, ◌≤◌, Option, Some, None, List, [], ◌∷◌, length, map, get_or, refl, sym, ap, subst, ◌∙◌, arith}
use Rattle.std.proofs.lemmas.Option.{slice_get_read, slice_get_past}
use Rattle.std.specs.Prelude.{slice_get}
use Rattle.world_laws.specs.Moves.{Fate}
use Rattle.world_laws.specs.Ends.{Line, number_in}
use Rattle.world_laws.specs.Worlds.{World, Started}
use Rattle.world_laws.proofs.Lists.{some_is, within, there}
use Rattle.world_ends.specs.Callers.{fate_of, fate_in}
use Rattle.world_ends.specs.declared.fate.Fate.{Fate as Told}
use Rattle.call_world.specs.declared.line.Line.{Line as Wire}
use Rattle.call_world.specs.declared.world.World.{World as Machine}
use Rattle.call_world.specs.declared.world.Started.{Started as Place}
use Rattle.call_world.specs.Rows.{IsFate}
use Rattle.call_world.specs.Worlds.{HasRow, IsWorld, started_of}
use Rattle.call_world.proofs.Lining.{line_at, wire_at}
use Rattle.call_world.proofs.Moving.{many_rows}

-- what was read
pub read_at : {A : Type 0} (xs ys : List A) (i : ℕ) (x : A) → xs ≡ ys → i < length xs → x ≡ get_or xs i x → slice_get ys i ≡ Some x
read_at xs ys i x same lt read = subst (λ (zs : List _). slice_get zs i ≡ Some x) same (slice_get_read xs (length xs) i x refl lt read)

pub read_none : {A : Type 0} (xs ys : List A) (i : ℕ) → xs ≡ ys → length xs ≤ i → slice_get ys i ≡ None
read_none xs ys i same all = subst (λ (zs : List _). slice_get zs i ≡ None) same (slice_get_past xs i all)

get_map : {A B : Type 0} (f : A → B) (xs : List A) (i : ℕ) (x : A) → slice_get xs i ≡ Some x → slice_get (map f xs) i ≡ Some (f x)
get_map f [] i x at = absurd (cc (at))
get_map f (y ∷ ys) zero x at = ap (λ z. Some (f z)) (some_is y x at)
get_map f (y ∷ ys) (suc i) x at = get_map f ys i x at

pub fate_is : (x : Machine) (w : World) (at : ℕ) (p : Place) (t : Wire) (f : Told) (call : Option ℕ) → IsWorld x w → slice_get x.starts.items at ≡ Some p → slice_get x.lines.items p.line ≡ Some t
    → slice_get t.caller.fates.items p.place ≡ Some f → call ≡ number_in (slice_get t.serving.numbers.items p.place) → IsFate w at (fate_of f) t.name call
fate_is x w at p t f call is begun on told number =
    let l = line_at x.lines.items w.lines p.line t is.lines on in
    let known : slice_get (map fate_in l.0.caller.rows) p.place ≡ Some (fate_of f) = ap (λ (fs : List Fate). slice_get fs p.place) l.2.caller.fates_are ∙ get_map fate_of t.caller.fates.items p.place f told in
    let r = there l.0.caller.rows p.place (omega (arith, within t.caller.fates.items p.place f told, many_rows t.caller l.0.caller l.2.caller)) in
    record {
      started = started_of p;
      is_started = ap (λ (ss : List Started). slice_get ss at) (sym is.starts) ∙ get_map started_of x.starts.items at p begun;
      line = l.0;
      is_line = l.1;
      row = r.0;
      is_row = r.1;
      fate_is = some_is (fate_of f) (fate_in r.0) (sym known ∙ get_map fate_in l.0.caller.rows p.place r.0 r.1);
      conn_is = l.2.name;
      call_is = number ∙ ap (λ (ns : List (Option ℕ)). number_in (slice_get ns p.place)) l.2.serves.place.numbers_are;
    }

-- ---- nothing is known only behind the last call that was started

not_none : {A : Type 0} (x : A) (o : Option A) → o ≡ Some x → o ≡ None → ⊥
not_none x o found none = absurd (cc (found, none))

-- the row of a call that was started
row_of : (x : Machine) (w : World) (at : ℕ) (p : Place) → IsWorld x w → slice_get x.starts.items at ≡ Some p → HasRow w.lines (started_of p)
row_of x w at p is begun = is.rows at (started_of p) (ap (λ (ss : List Started). slice_get ss at) (sym is.starts) ∙ get_map started_of x.starts.items at p begun)

pub has_line : (x : Machine) (w : World) (at : ℕ) (p : Place) → IsWorld x w → slice_get x.starts.items at ≡ Some p → slice_get x.lines.items p.line ≡ None → ⊥
has_line x w at p is begun none =
    let h = row_of x w at p is begun in
    let t = wire_at x.lines.items w.lines p.line h.0 is.lines h.1 in
    not_none t.0 (slice_get x.lines.items p.line) t.1 none

pub has_fate : (x : Machine) (w : World) (at : ℕ) (p : Place) (t : Wire) → IsWorld x w → slice_get x.starts.items at ≡ Some p → slice_get x.lines.items p.line ≡ Some t → slice_get t.caller.fates.items p.place ≡ None → ⊥
has_fate x w at p t is begun on none =
    let h = row_of x w at p is begun in
    let l = line_at x.lines.items w.lines p.line t is.lines on in
    let alike : h.0 ≡ l.0 = some_is h.0 l.0 (sym h.1 ∙ l.1) in
    let same : length h.0.caller.rows ≡ length l.0.caller.rows = ap (λ (z : Line). length z.caller.rows) alike in
    let few : p.place < length t.caller.fates.items = omega (arith, h.2, same, many_rows t.caller l.0.caller l.2.caller) in
    let f = there t.caller.fates.items p.place few in
    not_none f.0 (slice_get t.caller.fates.items p.place) f.1 none

-- Connections of a program, and those of the world that it is.
use Rattle.std.proofs.Common.{◌≡◌, ◌≢◌, ℕ, ◌+◌, ◌<◌, ◌≤◌, ◌⊎◌, inl, inr, Bool, true, false, eqb, Some, List, [], ◌∷◌, ◌++◌, length, map, refl, sym, ap, subst, ◌∙◌, arith}
use Rattle.std.specs.Prelude.{slice_get, slice_set}
use Rattle.std.proofs.lemmas.Bool.{eq-eqb, eqb-true}
use Rattle.std.proofs.lemmas.List.{length-set}
use Rattle.handle_model.specs.declared.entry.Entry.{Entry}
use Rattle.ndr_table.specs.Shown.{shown}
use Rattle.ndr_table.specs.Tables.{TableForm}
use Rattle.conn_histories.specs.Histories.{Event}
use Rattle.conn_histories.specs.Histories.Event.{Came, Paused, Did, Decided}
use Rattle.world_laws.specs.Ends.{Line}
use Rattle.world_laws.specs.Serving.{ServerDoes, ServerGoesOn, ServerGoesBy}
use Rattle.world_laws.specs.Worlds.{World, Started, OfLine, with_line, IsNew}
use Rattle.world_laws.proofs.Lists.{some_is, set_same, set_other, within, there, OfMore, of_more, more_before, length_more}
use Rattle.world_laws.proofs.Lists.OfMore.{before, last}
use Rattle.world_server.specs.Servers.{seen, IsWhole}
use Rattle.call_world.specs.declared.line.Line.{Line as Wire}
use Rattle.call_world.specs.declared.world.World.{World as Machine}
use Rattle.call_world.specs.Lines.{IsLine, HappensWith, Fails}
use Rattle.call_world.specs.Worlds.{AreLines, AreApart, HasRow, HaveRows, IsWorld, started_of}

-- ---- a list with another item at a place

pub data OfSet {A : Type 0} (xs : List A) (i : ℕ) (m : A) (j : ℕ) (x : A) : Type 0 where
  here : j ≡ i → x ≡ m → OfSet xs i m j x
  still : j ≢ i → slice_get xs j ≡ Some x → OfSet xs i m j x

pub decided : (i j : ℕ) (b : Bool) → eqb j i ≡ b → (j ≡ i) ⊎ (j ≢ i)
decided i j true e = inl (eqb-true j i e)
decided i j false e = inr (λ same. absurd (cc (e, eq-eqb j i same)))

pub of_set : {A : Type 0} (xs : List A) (i : ℕ) (m : A) (j : ℕ) (x : A) → i < length xs → slice_get (slice_set xs i m) j ≡ Some x → OfSet xs i m j x
of_set xs i m j x lt at = elim (decided i j (eqb j i) refl) [
  | inl same ↦ here same (sym (some_is m x (sym (set_same xs i m lt) ∙ (ap (λ (n : ℕ). slice_get (slice_set xs i m) n) (sym same) ∙ at))))
  | inr other ↦ still other (sym (set_other xs i j m other) ∙ at)
]

-- ---- the connections at one place

pub line_at : (ts : List Wire) (ls : List Line) (i : ℕ) (t : Wire) → AreLines ts ls → slice_get ts i ≡ Some t → (l : Line) × (slice_get ls i ≡ Some l) × IsLine t l
line_at ts ls i t a at =
    let f = there ls i (omega (arith, within ts i t at, a.count)) in
    (f.0, f.1, a.each i t f.0 at f.1)

pub wire_at : (ts : List Wire) (ls : List Line) (i : ℕ) (l : Line) → AreLines ts ls → slice_get ls i ≡ Some l → (t : Wire) × (slice_get ts i ≡ Some t) × IsLine t l
wire_at ts ls i l a at =
    let f = there ts i (omega (arith, within ls i l at, a.count)) in
    (f.0, f.1, a.each i f.0 l f.1 at)

pub lines_set : (ts : List Wire) (ls : List Line) (i : ℕ) (t : Wire) (l : Line) → AreLines ts ls → i < length ls → IsLine t l → AreLines (slice_set ts i t) (slice_set ls i l)
lines_set ts ls i t l a lt is = record {
  count = length-set ts i t ∙ a.count ∙ sym (length-set ls i l);
  each = λ j s m at_s at_m. each j s m (of_set ts i t j s (omega (arith, lt, a.count)) at_s) (of_set ls i l j m lt at_m);
}
  where
    each : (j : ℕ) (s : Wire) (m : Line) → OfSet ts i t j s → OfSet ls i l j m → IsLine s m
    each j s m (here e same) (here f alike) = subst (λ (z : Wire). IsLine z m) (sym same) (subst (λ (z : Line). IsLine t z) (sym alike) is)
    each j s m (here e same) (still ne at) = absurd (ne e)
    each j s m (still ne at) (here f alike) = absurd (ne f)
    each j s m (still ne at) (still nf at_m) = a.each j s m at at_m

pub lines_more : (ts : List Wire) (ls : List Line) (t : Wire) (l : Line) → AreLines ts ls → IsLine t l → AreLines (ts ++ t ∷ []) (ls ++ l ∷ [])
lines_more ts ls t l a is = record {
  count = length_more ts t ∙ ap (λ (n : ℕ). n + 1) a.count ∙ sym (length_more ls l);
  each = λ j s m at_s at_m. each j s m (of_more ts t j s at_s) (of_more ls l j m at_m);
}
  where
    each : (j : ℕ) (s : Wire) (m : Line) → OfMore ts t j s → OfMore ls l j m → IsLine s m
    each j s m (before at) (before at_m) = a.each j s m at at_m
    each j s m (before at) (last e alike) = absurd (omega (arith, within ts j s at, e, a.count))
    each j s m (last e same) (before at_m) = absurd (omega (arith, within ls j m at_m, e, a.count))
    each j s m (last e same) (last f alike) = subst (λ (z : Wire). IsLine z m) (sym same) (subst (λ (z : Line). IsLine t z) (sym alike) is)

-- ---- names

pub apart_set : (ls : List Line) (i : ℕ) (l n : Line) → AreApart ls → slice_get ls i ≡ Some l → n.name ≡ l.name → AreApart (slice_set ls i n)
apart_set ls i l n a at named j k x y at_x at_y same = apart j k x y (of_set ls i n j x lt at_x) (of_set ls i n k y lt at_y) same
  where
    lt : i < length ls
    lt = within ls i l at

    apart : (j k : ℕ) (x y : Line) → OfSet ls i n j x → OfSet ls i n k y → x.name ≡ y.name → j ≡ k
    apart j k x y (here e same) (here f alike) name = e ∙ sym f
    apart j k x y (here e same) (still nf at_k) name = e ∙ a i k l y at at_k (sym named ∙ ap (λ (z : Line). z.name) (sym same) ∙ name)
    apart j k x y (still ne at_j) (here f alike) name = a j i x l at_j at (name ∙ ap (λ (z : Line). z.name) alike ∙ named) ∙ sym f
    apart j k x y (still ne at_j) (still nf at_k) name = a j k x y at_j at_k name

pub apart_more : (w : World) (c : ℕ) (n : Line) → AreApart w.lines → IsNew w c → n.name ≡ c → AreApart (w.lines ++ n ∷ [])
apart_more w c n a fresh named j k x y at_x at_y same = apart j k x y (of_more w.lines n j x at_x) (of_more w.lines n k y at_y) same
  where
    apart : (j k : ℕ) (x y : Line) → OfMore w.lines n j x → OfMore w.lines n k y → x.name ≡ y.name → j ≡ k
    apart j k x y (before at_j) (before at_k) name = a j k x y at_j at_k name
    apart j k x y (before at_j) (last f alike) name = absurd (fresh j x at_j (name ∙ ap (λ (z : Line). z.name) alike ∙ named))
    apart j k x y (last e same) (before at_k) name = absurd (fresh k y at_k (sym name ∙ ap (λ (z : Line). z.name) same ∙ named))
    apart j k x y (last e same) (last f alike) name = e ∙ sym f

-- ---- calls that were started

-- a connection that goes on keeps its name, and each of its calls
pub record Stays (l n : Line) : Type 0 where
  pub named : n.name ≡ l.name
  pub rows : length l.caller.rows ≤ length n.caller.rows

pub row_set : (ls : List Line) (i : ℕ) (l n : Line) (s : Started) → slice_get ls i ≡ Some l → length l.caller.rows ≤ length n.caller.rows → HasRow ls s → HasRow (slice_set ls i n) s
row_set ls i l n s at more (k, k_at, few) = placed (decided i s.line (eqb s.line i) refl)
  where
    placed : (s.line ≡ i) ⊎ (s.line ≢ i) → HasRow (slice_set ls i n) s
    placed (inl same) =
        let alike : k ≡ l = some_is k l (sym k_at ∙ ap (slice_get ls) same ∙ at) in
        let rows : length k.caller.rows ≡ length l.caller.rows = ap (λ (z : Line). length z.caller.rows) alike in
        (n, ap (slice_get (slice_set ls i n)) same ∙ set_same ls i n (within ls i l at), omega (arith, few, more, rows))
    placed (inr other) = (k, set_other ls i s.line n other ∙ k_at, few)

pub rows_more : (ls : List Line) (l : Line) (ss : List Started) → HaveRows ls ss → HaveRows (ls ++ l ∷ []) ss
rows_more ls l ss rows n s at = let h = rows n s at in (h.0, more_before ls l s.line h.0 h.1, h.2)

pub rows_start : (ls : List Line) (ss : List Started) (new : Started) → HaveRows ls ss → HasRow ls new → HaveRows ls (ss ++ new ∷ [])
rows_start ls ss new rows has n s at = placed (of_more ss new n s at)
  where
    placed : OfMore ss new n s → HasRow ls s
    placed (before found) = rows n s found
    placed (last e same) = subst (λ (z : Started). HasRow ls z) (sym same) has

-- ---- a connection of a world changes

pub world_set : (x y : Machine) (w : World) (i : ℕ) (t : Wire) (l n : Line) (new : List Entry) → IsWorld x w → slice_get w.lines i ≡ Some l → Stays l n → IsLine t n
    → y.lines.items ≡ slice_set x.lines.items i t → (seen y.server).past ≡ new → IsWhole (seen y.server) → (seen y.server).tables ≡ (seen x.server).tables → shown y.table ≡ shown x.table → y.starts ≡ x.starts
    → IsWorld y (with_line w i n new)
world_set x y w i t l n new is at stays is_line lines past is_whole tables table starts = record {
  lines = subst (λ (ts : List Wire). AreLines ts (slice_set w.lines i n)) (sym lines) (lines_set x.lines.items w.lines i t n is.lines (within w.lines i l at) is_line);
  apart = apart_set w.lines i l n is.apart at stays.named;
  past = past;
  is_whole = is_whole;
  tables = tables ∙ is.tables ∙ ap (λ (z : TableForm). z ∷ []) (sym table);
  starts = ap (λ z. map started_of z.items) starts ∙ is.starts;
  rows = λ k s found. row_set w.lines i l n s at stays.rows (is.rows k s found);
}

-- what happens on the one connection of that name that stands
abbrev pub OnLine : (Line → List Entry → Line → List Entry → Type 0) → World → ℕ → World → Type 0
OnLine Does w c v = OfLine w c (λ i l. (n : Line) × (new : List Entry) × Does l w.past n new × (v ≡ with_line w i n new))

module _ (Does : Line → List Entry → Line → List Entry → Type 0) (x y : Machine) (w : World) (c i : ℕ) (s t : Wire) (is : IsWorld x w) (at : slice_get x.lines.items i ≡ Some s) (named : s.name ≡ c) (stands : s.standing ≡ true) where
  pub on_line : ((l n : Line) (past new : List Entry) → Does l past n new → Stays l n) → HappensWith Does (seen x.server) s (seen y.server) t → y.lines.items ≡ slice_set x.lines.items i t
      → shown y.table ≡ shown x.table → y.starts ≡ x.starts → (v : World) × OnLine Does w c v × IsWorld y v
  on_line stays tried lines table starts =
      let f = line_at x.lines.items w.lines i s is.lines at in
      let l = f.0 in
      let d = tried.2 l f.2 in
      let n = d.0 in
      let new = (seen y.server).past in
      let does : Does l w.past n new = subst (λ (p : List Entry). Does l p n new) is.past d.1 in
      let v = with_line w i n new in (
        v,
        (i, l, f.1, sym f.2.name ∙ named, sym f.2.standing ∙ stands, (n, new, does, refl)),
        world_set x y w i t l n new is f.1 (stays l n w.past new does) d.2 lines refl tried.0 tried.1 table starts,
      )

-- the condition fails on the connection of that name
pub off_line : (May : Line → Type 0) (x : Machine) (w : World) (c i : ℕ) (s : Wire) → IsWorld x w → slice_get x.lines.items i ≡ Some s → s.name ≡ c → Fails May s → OfLine w c (λ j l. May l) → ⊥
off_line May x w c i s is at named fails (j, m, at_m, name, stand, may) =
    let f = line_at x.lines.items w.lines i s is.lines at in
    let same : i ≡ j = is.apart i j f.0 m f.1 at_m (sym f.2.name ∙ named ∙ sym name) in
    let alike : f.0 ≡ m = some_is f.0 m (sym f.1 ∙ ap (slice_get w.lines) same ∙ at_m) in
    fails f.0 f.2 (subst May (sym alike) may)

-- none of that name stands
abbrev pub NoneStandsAs : List Wire → ℕ → Type 0
NoneStandsAs ts c = (i : ℕ) (t : Wire) → slice_get ts i ≡ Some t → t.name ≡ c → t.standing ≡ true → ⊥

pub none_stands : (x : Machine) (w : World) (c : ℕ) (P : ℕ → Line → Type 0) → IsWorld x w → NoneStandsAs x.lines.items c → OfLine w c P → ⊥
none_stands x w c P is none (j, m, at, name, stand, p) =
    let f = wire_at x.lines.items w.lines j m is.lines at in
    none j f.0 f.1 (f.2.name ∙ name) (f.2.standing ∙ stand)

-- ---- what the server does on a connection leaves the rest of it

abbrev pub SameElse : Line → Line → Type 0
SameElse l n = n ≡ record l { server = n.server; down = n.down }

does_else : (tables : List TableForm) (l n : Line) (event : Event) (past new : List Entry) → ServerDoes tables l past event n new → SameElse l n
does_else tables l n event past new d = subst (SameElse l) (sym d.then_) refl

else_on : (l m n : Line) → SameElse l m → SameElse m n → SameElse l n
else_on l m n a b = b ∙ ap (λ (z : Line). record z { server = n.server; down = n.down }) a

goes_else_by : (events : List Event) (tables : List TableForm) (l n : Line) (past new : List Entry) → ServerGoesBy tables l past events n new → SameElse l n
goes_else_by [] tables l n past new d = does_else tables l n Paused past new d
goes_else_by (Did act ∷ more) tables l n past new (m, next, d, later) = else_on l m n (does_else tables l m (Did act) past next d) (goes_else_by more tables m n next new later)
goes_else_by (Decided decision octets ∷ more) tables l n past new (m, next, d, later) =
    else_on l m n (does_else tables l m (Decided decision octets) past next d) (goes_else_by more tables m n next new later)
goes_else_by (Came octets ∷ more) tables l n past new d = absurd d
goes_else_by (Paused ∷ more) tables l n past new d = absurd d

pub goes_else : (tables : List TableForm) (l n : Line) (past new : List Entry) → ServerGoesOn tables l past n new → SameElse l n
goes_else tables l n past new g = goes_else_by g.0 tables l n past new g.1

pub came_else : (tables : List TableForm) (l m n : Line) (event : Event) (past next new : List Entry) → ServerDoes tables l past event m next → ServerGoesOn tables m next n new → SameElse l n
came_else tables l m n event past next new d g = else_on l m n (does_else tables l m event past next d) (goes_else tables m n next new g)

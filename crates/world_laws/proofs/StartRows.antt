-- Each call that a move starts has a row, and no row is there beside these.
use Rattle.std.proofs.Common.{◌≡◌, ◌≢◌, ℕ, zero, suc, ◌<◌, ◌⊎◌, inl, inr, Bool, true, false, eqb, Some, List, [], ◌∷◌, ◌++◌, length, refl, sym, ap, subst, ◌∙◌, append-nil, append_assoc, arith}
use Rattle.std.specs.Prelude.{slice_get, slice_set}
use Rattle.std.proofs.lemmas.Bool.{eq-eqb, eqb-true}
use Rattle.ndr_value.specs.Values.{Msg}
use Rattle.ndr_table.specs.Tables.{TableForm}
use Rattle.client_core.specs.States as callers
use Rattle.client_core.specs.States.{ClientState}
use Rattle.world_laws.specs.Moves.{Move}
use Rattle.world_laws.specs.Moves.{Move as moves}
use Rattle.world_laws.specs.Ends.{Row, Line, new_row, new_server}
use Rattle.world_laws.specs.Worlds.{World, Started, empty, with_line, opened, starting, Opens, Starts, Plays, PlaysAll}
use Rattle.world_laws.specs.Starts.{Asking, starts_in, IsRowOf, AreRowsOf, IsStarted, AllStartsAreRows}
use Rattle.world_laws.proofs.Lists.{some_is, within, there, set_same, set_other, OfMore, of_more, more_before, more_last}
use Rattle.world_laws.proofs.Lists.OfMore.{before, last}
use Rattle.world_laws.proofs.Holds.{OfSet, of_set}
use Rattle.world_laws.proofs.Holds.OfSet.{here, there_still}
use Rattle.world_laws.proofs.Walking.{OnLines, plays_on}
use Rattle.world_laws.proofs.SameRows.{IsSameLine, same_line, stays_same}

-- ---- of lists

rows_map : (w v : World) (asked : List Asking) (starts : List Started) → ((a : Asking) (s : Started) → IsRowOf w a s → IsRowOf v a s) → AreRowsOf w asked starts → AreRowsOf v asked starts
rows_map w v [] [] f h = tt
rows_map w v (a ∷ later) (s ∷ more) f h = (f a s h.0, rows_map w v later more f h.1)
rows_map w v [] (s ∷ more) f h = absurd h
rows_map w v (a ∷ later) [] f h = absurd h

rows_more : (w : World) (asked : List Asking) (starts : List Started) (a : Asking) (s : Started) → AreRowsOf w asked starts → IsRowOf w a s → AreRowsOf w (asked ++ a ∷ []) (starts ++ s ∷ [])
rows_more w [] [] a s h r = (r, tt)
rows_more w (b ∷ later) (t ∷ more) a s h r = (h.0, rows_more w later more a s h.1 r)
rows_more w [] (t ∷ more) a s h r = absurd h
rows_more w (b ∷ later) [] a s h r = absurd h

row_at : (w : World) (asked : List Asking) (starts : List Started) (n : ℕ) (s : Started) → AreRowsOf w asked starts → slice_get starts n ≡ Some s → (a : Asking) × IsRowOf w a s
row_at w [] [] n s h at = absurd (cc (at))
row_at w (a ∷ later) (t ∷ more) zero s h at = (a, subst (λ (x : Started). IsRowOf w a x) (some_is t s at) h.0)
row_at w (a ∷ later) (t ∷ more) (suc n) s h at = row_at w later more n s h.1 at
row_at w [] (t ∷ more) n s h at = absurd h
row_at w (a ∷ later) [] n s h at = absurd h

-- ---- what holds

record Rows (w : World) (asked : List Asking) : Type 0 where
  rows : AreRowsOf w asked w.starts
  apart : (m n : ℕ) (s : Started) → slice_get w.starts m ≡ Some s → slice_get w.starts n ≡ Some s → m ≡ n
  each : (i x : ℕ) (l : Line) (r : Row) → slice_get w.lines i ≡ Some l → slice_get l.caller.rows x ≡ Some r → IsStarted w i x

-- ---- a move that neither opens a connection nor starts a call

line_on : (table : TableForm) (w v : World) → ((k : Line) → OnLines (λ (m : Line). IsSameLine k m) w v) → (i : ℕ) (l : Line) → slice_get w.lines i ≡ Some l → (m : Line) × (slice_get v.lines i ≡ Some m) × IsSameLine l m
line_on table w v on i l at =
    let o = on l in
    let found = there v.lines i (omega (arith, within w.lines i l at, o.count)) in
    let back = o.lines i found.0 found.1 in
    let same : back.0 ≡ l = some_is back.0 l (sym back.1 ∙ at) in
    (found.0, found.1, back.2 (subst (λ (x : Line). IsSameLine l x) (sym same) (same_line l)))

anything : TableForm → Line
anything table = record {
  name = 0;
  caller = record { events = []; state = callers.at_start table; rest = []; rows = [] };
  up = [];
  down = [];
  server = new_server [];
  standing = false;
}

others : (table : TableForm) (w v : World) (asked : List Asking) → ((k : Line) → OnLines (λ (m : Line). IsSameLine k m) w v) → Rows w asked → Rows v asked
others table w v asked on h =
    let starts : v.starts ≡ w.starts = (on (anything table)).starts in
    record {
      rows = subst (λ (ss : List Started). AreRowsOf v asked ss) (sym starts) (rows_map w v asked w.starts forth h.rows);
      apart = λ m n s a b. h.apart m n s (ap (λ (ss : List Started). slice_get ss m) (sym starts) ∙ a) (ap (λ (ss : List Started). slice_get ss n) (sym starts) ∙ b);
      each = λ i x m r at row. each starts i x m r at row;
    }
  where
    forth : (a : Asking) (s : Started) → IsRowOf w a s → IsRowOf v a s
    forth a s r =
        let (m, at, same) = line_on table w v on s.line r.line r.there in
        let c = same.rows.each s.place r.row r.is_row in
        record { line = m; there = at; named = same.name ∙ r.named; row = c.row; is_row = c.at; op = c.op ∙ r.op; message = c.message ∙ r.message }

    each : v.starts ≡ w.starts → (i x : ℕ) (m : Line) (r : Row) → slice_get v.lines i ≡ Some m → slice_get m.caller.rows x ≡ Some r → IsStarted v i x
    each starts i x m r at row =
        let back = (on (anything table)).lines i m at in
        let l = back.0 in
        let (n, again, same) = line_on table w v on i l back.1 in
        let is : n ≡ m = some_is n m (sym again ∙ at) in
        let count : length m.caller.rows ≡ length l.caller.rows = subst (λ (y : Line). length y.caller.rows ≡ length l.caller.rows) is same.rows.count in
        let found = there l.caller.rows x (omega (arith, within m.caller.rows x r row, count)) in
        let s = h.each i x l found.0 back.1 found.1 in
        record { number = s.number; is = ap (λ (ss : List Started). slice_get ss s.number) starts ∙ s.is }

-- ---- a connection is opened

opens : (table : TableForm) (w v : World) (c group : ℕ) (asked : List Asking) → Opens table w c group v → Rows w asked → Rows v asked
opens table w v c group asked o h = subst (λ (x : World). Rows x asked) (sym o.after) (record {
  rows = rows_map w (record w { lines = w.lines ++ new ∷ [] }) asked w.starts forth h.rows;
  apart = h.apart;
  each = λ i x l r at row. by i x l r row (of_more w.lines new i l at);
})
  where
    new : Line
    new = opened table c group o.octets o.state

    forth : (a : Asking) (s : Started) → IsRowOf w a s → IsRowOf (record w { lines = w.lines ++ opened table c group o.octets o.state ∷ [] }) a s
    forth a s r = record { line = r.line; there = more_before w.lines (opened table c group o.octets o.state) s.line r.line r.there; named = r.named; row = r.row; is_row = r.is_row; op = r.op; message = r.message }

    none : (x : ℕ) (r : Row) → (let rs : List Row = [] in slice_get rs x) ≡ Some r → ⊥
    none x r e = absurd (cc (e))

    by : (i x : ℕ) (l : Line) (r : Row) → slice_get l.caller.rows x ≡ Some r → OfMore w.lines (opened table c group o.octets o.state) i l → IsStarted (record w { lines = w.lines ++ opened table c group o.octets o.state ∷ [] }) i x
    by i x l r row (before found) = let s = h.each i x l r found row in record { number = s.number; is = s.is }
    by i x l r row (last place is) = absurd (none x r (ap (λ (y : Line). slice_get y.caller.rows x) (sym is) ∙ row))

-- ---- a call is started

abbrev this : ℕ → Line → Started
this i l = record { line = i; place = length l.caller.rows }

abbrev after_start : TableForm → World → ℕ → Line → ℕ → Msg → List ℕ → ClientState → World
after_start table w i l op m octets state = record (with_line w i (starting table l op m octets state) w.past) { starts = w.starts ++ this i l ∷ [] }

is_or_not : (i j : ℕ) (b : Bool) → eqb j i ≡ b → (j ≡ i) ⊎ (j ≢ i)
is_or_not i j true e = inl (eqb-true j i e)
is_or_not i j false e = inr (λ same. absurd (cc (e, eq-eqb j i same)))

moved : (table : TableForm) (w : World) (i : ℕ) (l : Line) (op : ℕ) (m : Msg) (octets : List ℕ) (state : ClientState) → slice_get w.lines i ≡ Some l → (a : Asking) (s : Started) → IsRowOf w a s → (s.line ≡ i) ⊎ (s.line ≢ i)
    → IsRowOf (after_start table w i l op m octets state) a s
moved table w i l op m octets state at a s r (inl same) =
    let is : r.line ≡ l = sym (some_is l r.line (sym at ∙ (ap (λ (n : ℕ). slice_get w.lines n) (sym same) ∙ r.there))) in
    let now_ = starting table l op m octets state in
    record {
      line = now_;
      there = ap (λ (n : ℕ). slice_get (slice_set w.lines i now_) n) same ∙ set_same w.lines i now_ (within w.lines i l at);
      named = ap (λ (y : Line). y.name) (sym is) ∙ r.named;
      row = r.row;
      is_row = more_before l.caller.rows (new_row op m) s.place r.row (ap (λ (y : Line). slice_get y.caller.rows s.place) (sym is) ∙ r.is_row);
      op = r.op;
      message = r.message;
    }
moved table w i l op m octets state at a s r (inr other) =
    record { line = r.line; there = set_other w.lines i s.line (starting table l op m octets state) other ∙ r.there; named = r.named; row = r.row; is_row = r.is_row; op = r.op; message = r.message }

-- the new call is none of those before
is_new : (w : World) (i : ℕ) (l : Line) (asked : List Asking) (n : ℕ) (s : Started) → slice_get w.lines i ≡ Some l → AreRowsOf w asked w.starts → slice_get w.starts n ≡ Some s → s ≡ this i l → ⊥
is_new w i l asked n s at rows found is =
    let (a, r) = row_at w asked w.starts n s rows found in
    let same : r.line ≡ l = some_is r.line l (sym r.there ∙ (ap (λ (x : Started). slice_get w.lines x.line) is ∙ at)) in
    let lt : s.place < length r.line.caller.rows = within r.line.caller.rows s.place r.row r.is_row in
    absurd (omega (arith, lt, ap (λ (x : Started). x.place) is, ap (λ (y : Line). length y.caller.rows) same))

apart_more : (w : World) (i : ℕ) (l : Line) (asked : List Asking) (x y : ℕ) (s : Started) → slice_get w.lines i ≡ Some l → Rows w asked → OfMore w.starts (this i l) x s → OfMore w.starts (this i l) y s → x ≡ y
apart_more w i l asked x y s at h (before p) (before q) = h.apart x y s p q
apart_more w i l asked x y s at h (before p) (last q is) = absurd (is_new w i l asked x s at h.rows p is)
apart_more w i l asked x y s at h (last p is) (before q) = absurd (is_new w i l asked y s at h.rows q is)
apart_more w i l asked x y s at h (last p is) (last q is2) = p ∙ sym q

each_old : (table : TableForm) (w : World) (i : ℕ) (l : Line) (op : ℕ) (m : Msg) (octets : List ℕ) (state : ClientState) (j x : ℕ) → IsStarted w j x → IsStarted (after_start table w i l op m octets state) j x
each_old table w i l op m octets state j x s = record { number = s.number; is = more_before w.starts (this i l) s.number (record { line = j; place = x }) s.is }

each_here : (table : TableForm) (w : World) (i : ℕ) (l : Line) (op : ℕ) (m : Msg) (octets : List ℕ) (state : ClientState) (asked : List Asking) (x : ℕ) (r : Row) → slice_get w.lines i ≡ Some l → Rows w asked
    → OfMore l.caller.rows (new_row op m) x r → IsStarted (after_start table w i l op m octets state) i x
each_here table w i l op m octets state asked x r at h (before found) = each_old table w i l op m octets state i x (h.each i x l r at found)
each_here table w i l op m octets state asked x r at h (last place is) =
    record { number = length w.starts; is = subst (λ (n : ℕ). slice_get (w.starts ++ this i l ∷ []) (length w.starts) ≡ Some (record { line = i; place = n })) (sym place) (more_last w.starts (this i l)) }

each_start : (table : TableForm) (w : World) (i : ℕ) (l : Line) (op : ℕ) (m : Msg) (octets : List ℕ) (state : ClientState) (asked : List Asking) (j x : ℕ) (k : Line) (r : Row) → slice_get w.lines i ≡ Some l → Rows w asked
    → slice_get k.caller.rows x ≡ Some r → OfSet w.lines i (starting table l op m octets state) j k → IsStarted (after_start table w i l op m octets state) j x
each_start table w i l op m octets state asked j x k r at h row (here same is) =
    let now_ = starting table l op m octets state in
    let row_now : slice_get (l.caller.rows ++ new_row op m ∷ []) x ≡ Some r = ap (λ (y : Line). slice_get y.caller.rows x) (sym is) ∙ row in
    subst (λ (n : ℕ). IsStarted (after_start table w i l op m octets state) n x) (sym same)
    (each_here table w i l op m octets state asked x r at h (of_more l.caller.rows (new_row op m) x r row_now))
each_start table w i l op m octets state asked j x k r at h row (there_still other found) = each_old table w i l op m octets state j x (h.each j x k r found row)

starts : (table : TableForm) (w v : World) (c op : ℕ) (m : Msg) (i : ℕ) (l : Line) (asked : List Asking) → slice_get w.lines i ≡ Some l → l.name ≡ c → Starts table w op m i l v → Rows w asked
    → Rows v (asked ++ record { conn = c; op = op; message = m } ∷ [])
starts table w v c op m i l asked at named s h =
    let now_ = starting table l op m s.octets s.state in
    let lt = within w.lines i l at in
    let after_ = after_start table w i l op m s.octets s.state in
    let a : Asking = record { conn = c; op = op; message = m } in
    let new : IsRowOf after_ a (this i l) =
    record { line = now_; there = set_same w.lines i now_ lt; named = named; row = new_row op m; is_row = more_last l.caller.rows (new_row op m); op = refl; message = refl } in
    subst (λ (x : World). Rows x (asked ++ a ∷ [])) (sym s.after) (record {
      rows = rows_more after_ asked w.starts a (this i l) (rows_map w after_ asked w.starts (λ b t r. moved table w i l op m s.octets s.state at b t r (is_or_not i t.line (eqb t.line i) refl)) h.rows) new;
      apart = λ x y t p q. apart_more w i l asked x y t at h (of_more w.starts (this i l) x t p) (of_more w.starts (this i l) y t q);
      each = λ j x k r found row. each_start table w i l op m s.octets s.state asked j x k r at h row (of_set w.lines i now_ j k lt found);
    })

-- ---- every move

with_none : (w : World) (asked : List Asking) → Rows w asked → Rows w (asked ++ [])
with_none w asked h = subst (λ (x : List Asking). Rows w x) (sym (append-nil asked)) h

goes_on : (table : TableForm) (w v : World) (asked : List Asking) → ((k : Line) → OnLines (λ (m : Line). IsSameLine k m) w v) → Rows w asked → Rows v (asked ++ [])
goes_on table w v asked on h = with_none v asked (others table w v asked on h)

plays : (table : TableForm) (move : Move) (w v : World) (asked : List Asking) → Plays table w move v → Rows w asked → Rows v (asked ++ starts_in (move ∷ []))
plays table (moves.Open c group) w v asked p h = with_none v asked (opens table w v c group asked p h)
plays table (moves.Start c op m) w v asked (i, l, at, named, stands, p) h = starts table w v c op m i l asked at named p h
plays table (moves.ToServer c n) w v asked p h = goes_on table w v asked (λ k. plays_on table (λ (m : Line). IsSameLine k m) (moves.ToServer c n) w v (stays_same table k) p) h
plays table (moves.ToCaller c n) w v asked p h = goes_on table w v asked (λ k. plays_on table (λ (m : Line). IsSameLine k m) (moves.ToCaller c n) w v (stays_same table k) p) h
plays table (moves.Cancel c) w v asked p h = goes_on table w v asked (λ k. plays_on table (λ (m : Line). IsSameLine k m) (moves.Cancel c) w v (stays_same table k) p) h
plays table (moves.Lose c) w v asked p h = goes_on table w v asked (λ k. plays_on table (λ (m : Line). IsSameLine k m) (moves.Lose c) w v (stays_same table k) p) h
plays table moves.Restart w v asked p h = goes_on table w v asked (λ k. plays_on table (λ (m : Line). IsSameLine k m) moves.Restart w v (stays_same table k) p) h
plays table (moves.Take n) w v asked p h = goes_on table w v asked (λ k. plays_on table (λ (m : Line). IsSameLine k m) (moves.Take n) w v (stays_same table k) p) h
plays table (moves.Finish n kepts m) w v asked p h = goes_on table w v asked (λ k. plays_on table (λ (l : Line). IsSameLine k l) (moves.Finish n kepts m) w v (stays_same table k) p) h

one_first : (move : Move) (more : List Move) → starts_in (move ∷ []) ++ starts_in more ≡ starts_in (move ∷ more)
one_first (moves.Open c group) more = refl
one_first (moves.Start c op m) more = refl
one_first (moves.ToServer c n) more = refl
one_first (moves.ToCaller c n) more = refl
one_first (moves.Cancel c) more = refl
one_first (moves.Lose c) more = refl
one_first moves.Restart more = refl
one_first (moves.Take k) more = refl
one_first (moves.Finish k kepts m) more = refl

all_rows : (played : List Move) (table : TableForm) (w v : World) (asked : List Asking) → PlaysAll table w played v → Rows w asked → Rows v (asked ++ starts_in played)
all_rows [] table w v asked is h = with_none v asked (subst (λ (x : World). Rows x asked) (sym is) h)
all_rows (move ∷ more) table w v asked (u, first, later) h =
    subst (λ (x : List Asking). Rows v x) (append_assoc asked (starts_in (move ∷ [])) (starts_in more) ∙ ap (λ (x : List Asking). asked ++ x) (one_first move more))
    (all_rows more table u v (asked ++ starts_in (move ∷ [])) later (plays table move w u asked first h))

nothing : {A : Type 0} (i : ℕ) (x : A) → (let xs : List A = [] in slice_get xs i) ≡ Some x → ⊥
nothing i x e = absurd (cc (e))

pub starts_are_rows : AllStartsAreRows
starts_are_rows table played w p =
    let first : Rows empty [] = record { rows = tt; apart = λ m n s a b. absurd (nothing m s a); each = λ i x l r at row. absurd (nothing i l at) } in
    let h = all_rows played table empty w [] p first in
    record { rows = h.rows; apart = h.apart; each = h.each }

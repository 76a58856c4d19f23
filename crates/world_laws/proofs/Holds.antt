-- What holds in every world: of each connection, and of the numbers of its calls.
use Rattle.std.proofs.Common.{◌≡◌, ◌≢◌, ℕ, ◌^◌, ◌<◌, ◌≤◌, ◌⊎◌, inl, inr, Bool, true, false, eqb, Option, Some, None, List, [], ◌∷◌, ◌++◌, length, refl, sym, ap, subst, ◌∙◌, arith}
use Rattle.std.specs.Prelude.{slice_get, slice_set}
use Rattle.std.specs.List.{list_any}
use Rattle.std.proofs.lemmas.Bool.{eq-eqb, eqb-true}
use Rattle.handle_model.specs.declared.entry.Entry.{Entry}
use Rattle.ndr_table.specs.Tables.{TableForm}
use Rattle.conn_asks.specs.States as conns
use Rattle.conn_histories.specs.Histories.{stream}
use Rattle.conn_histories.specs.Histories as serving
use Rattle.client_core.specs.States as callers
use Rattle.client_core.specs.Histories.{ClientEvent, sent}
use Rattle.client_core.specs.Histories.ClientEvent.{DidBind}
use Rattle.client_core.specs.Histories as calling
use Rattle.client_laws.specs.Sending.{BindsOnce, offers}
use Rattle.world_laws.specs.Ends.{Line, number_in, number_at}
use Rattle.world_laws.specs.Worlds.{World, with_line}
use Rattle.world_laws.specs.Clauses.{CallsAreApart}
use Rattle.world_laws.specs.Counts.{started, done}
use Rattle.world_laws.proofs.Lists.{some_is, set_same, set_other, within, OfMore, of_more, more_before, more_last}
use Rattle.world_laws.proofs.Lists.OfMore.{before, last}
use Rattle.world_laws.proofs.Quiet.{AllAccepts, accepts_map, accepts, Quiet}

-- a bind came first, and no other behind it
pub record Begun (events : List ClientEvent) : Type 0 where
  pub group : ℕ
  pub octets : List ℕ
  pub later : List ClientEvent
  pub is : events ≡ DidBind group octets ∷ later
  pub small : group < 2 ^ 32
  pub only : list_any offers later ≡ false

pub binds_once : (events : List ClientEvent) → Begun events → BindsOnce events
binds_once events b = subst (λ (x : List ClientEvent). BindsOnce x) (sym b.is) (b.small, b.only)

-- Both ends have lived; what the caller sent came to the server or is on the way; and of the calls that the caller started
-- the server did a front.
pub record LineHolds (table : TableForm) (l : Line) : Type 0 where
  pub began : calling.Lives (callers.at_start table) l.caller.events l.caller.state
  pub once : Begun l.caller.events
  pub served : serving.Lives (conns.at_start (table.id ∷ [])) l.server.events l.server.state
  pub ways : l.standing ≡ true → sent l.caller.events ≡ stream l.server.events ++ l.up
  pub rows : length l.caller.rows ≡ started l.caller.events
  pub numbers : length l.server.numbers ≡ done l.server.events
  pub fewer : length l.server.numbers ≤ length l.caller.rows

pub record IsNumbered (w : World) (k : ℕ) : Type 0 where
  pub line : ℕ
  pub conn : Line
  pub is : slice_get w.lines line ≡ Some conn
  pub place : ℕ
  pub number : number_at conn place ≡ Some k

pub record Holds (table : TableForm) (w : World) : Type 0 where
  pub lines : (i : ℕ) (l : Line) → slice_get w.lines i ≡ Some l → LineHolds table l
  pub apart : CallsAreApart w
  pub below : (i x k : ℕ) (l : Line) → slice_get w.lines i ≡ Some l → number_at l x ≡ Some k → k ≤ accepts w.past
  pub are : AllAccepts (IsNumbered w) w.past

-- ---- what a connection with another in its place has

-- at each place: the new one, or what was there
pub data OfSet (lines : List Line) (i : ℕ) (m : Line) (j : ℕ) (x : Line) : Type 0 where
  here : j ≡ i → x ≡ m → OfSet lines i m j x
  there_still : j ≢ i → slice_get lines j ≡ Some x → OfSet lines i m j x

decided : (i j : ℕ) (b : Bool) → eqb j i ≡ b → (j ≡ i) ⊎ (j ≢ i)
decided i j true e = inl (eqb-true j i e)
decided i j false e = inr (λ same. absurd (cc (e, eq-eqb j i same)))

pub of_set : (lines : List Line) (i : ℕ) (m : Line) (j : ℕ) (x : Line) → i < length lines → slice_get (slice_set lines i m) j ≡ Some x → OfSet lines i m j x
of_set lines i m j x lt at = elim (decided i j (eqb j i) refl) [
  | inl same ↦ here same (sym (some_is m x (sym (set_same lines i m lt) ∙ (ap (λ (n : ℕ). slice_get (slice_set lines i m) n) (sym same) ∙ at))))
  | inr other ↦ there_still other (sym (set_other lines i j m other) ∙ at)
]

-- ---- the same numbers

-- m comes in l's place with the same numbers, and no call is accepted
pub kept : (table : TableForm) (w : World) (i : ℕ) (l m : Line) (new : List Entry) → slice_get w.lines i ≡ Some l → LineHolds table m → m.server.numbers ≡ l.server.numbers → Quiet w.past new
    → Holds table w → Holds table (with_line w i m new)
kept table w i l m new at holds same quiet h = record {
  lines = λ j x found. lines j x (of_set w.lines i m j x lt found);
  apart = λ a b x y k la lb fa fb na nb. (let p = was a x k la fa na in let q = was b y k lb fb nb in h.apart a b x y k p.0 q.0 p.1 q.1 p.2 q.2);
  below = λ j x k lj found number. (let p = was j x k lj found number in omega (arith, h.below j x k p.0 p.1 p.2, quiet.count));
  are = accepts_map (IsNumbered w) (IsNumbered (with_line w i m new)) new on (quiet.all (IsNumbered w) h.are);
}
  where
    lt : i < length w.lines
    lt = within w.lines i l at

    lines : (j : ℕ) (x : Line) → OfSet w.lines i m j x → LineHolds table x
    lines j x (here same is) = subst (λ (y : Line). LineHolds table y) (sym is) holds
    lines j x (there_still other found) = h.lines j x found

    back : (j x k : ℕ) (lj : Line) → number_at lj x ≡ Some k → OfSet w.lines i m j lj → (before : Line) × (slice_get w.lines j ≡ Some before) × (number_at before x ≡ Some k)
    back j x k lj number (here j_is is) =
        (l, ap (λ (n : ℕ). slice_get w.lines n) j_is ∙ at, ap (λ (ns : List (Option ℕ)). number_in (slice_get ns x)) (sym same) ∙ (ap (λ (y : Line). number_at y x) (sym is) ∙ number))
    back j x k lj number (there_still other found) = (lj, found, number)

    was : (j x k : ℕ) (lj : Line) → slice_get (slice_set w.lines i m) j ≡ Some lj → number_at lj x ≡ Some k → (before : Line) × (slice_get w.lines j ≡ Some before) × (number_at before x ≡ Some k)
    was j x k lj found number = back j x k lj number (of_set w.lines i m j lj lt found)

    forth : (k : ℕ) (n : IsNumbered w k) → (n.line ≡ i) ⊎ (n.line ≢ i) → IsNumbered (with_line w i m new) k
    forth k n (inl j_is) =
        let is : n.conn ≡ l = sym (some_is l n.conn (sym at ∙ (ap (λ (j : ℕ). slice_get w.lines j) (sym j_is) ∙ n.is))) in
        record {
          line = i;
          conn = m;
          is = set_same w.lines i m lt;
          place = n.place;
          number = ap (λ (ns : List (Option ℕ)). number_in (slice_get ns n.place)) same ∙ (ap (λ (y : Line). number_at y n.place) (sym is) ∙ n.number);
        }
    forth k n (inr other) = record { line = n.line; conn = n.conn; is = set_other w.lines i n.line m other ∙ n.is; place = n.place; number = n.number }

    on : (k : ℕ) → IsNumbered w k → IsNumbered (with_line w i m new) k
    on k n = forth k n (decided i n.line (eqb n.line i) refl)

-- ---- one number more

number_is : (v : Option (Option ℕ)) (k : ℕ) → number_in v ≡ Some k → v ≡ Some (Some k)
number_is None k e = absurd (cc (e))
number_is (Some number) k e = ap (λ (n : Option ℕ). Some n) e

-- a call of that number was there before, or it is the new one
pub data WasOrNew (w : World) (i : ℕ) (l : Line) (number : Option ℕ) (a x k : ℕ) : Type 0 where
  was : (before : Line) → slice_get w.lines a ≡ Some before → number_at before x ≡ Some k → WasOrNew w i l number a x k
  new_one : a ≡ i → x ≡ length l.server.numbers → number ≡ Some k → WasOrNew w i l number a x k

-- m comes in l's place with one number more
pub grown : (table : TableForm) (w : World) (i : ℕ) (l m : Line) (new : List Entry) (number : Option ℕ) → slice_get w.lines i ≡ Some l → LineHolds table m
    → m.server.numbers ≡ l.server.numbers ++ number ∷ [] → accepts w.past ≤ accepts new → ((k : ℕ) → number ≡ Some k → (accepts w.past < k) × (k ≤ accepts new))
    → (((k : ℕ) → IsNumbered w k → IsNumbered (with_line w i m new) k) → ((k : ℕ) → number ≡ Some k → IsNumbered (with_line w i m new) k) → AllAccepts (IsNumbered (with_line w i m new)) new)
    → Holds table w → Holds table (with_line w i m new)
grown table w i l m new number at holds same count fresh all h = record {
  lines = λ j x found. lines j x (of_set w.lines i m j x lt found);
  apart = λ a b x y k la lb fa fb na nb. apart a b x y k (was_at a x k la fa na) (was_at b y k lb fb nb);
  below = λ j x k lj found n. below j x k (was_at j x k lj found n);
  are = all on newest;
}
  where
    lt : i < length w.lines
    lt = within w.lines i l at

    lines : (j : ℕ) (x : Line) → OfSet w.lines i m j x → LineHolds table x
    lines j x (here is_i is) = subst (λ (y : Line). LineHolds table y) (sym is) holds
    lines j x (there_still other found) = h.lines j x found

    in_new : (j x k : ℕ) → j ≡ i → OfMore l.server.numbers number x (Some k) → WasOrNew w i l number j x k
    in_new j x k is_i (before found) = was l (ap (λ (n : ℕ). slice_get w.lines n) is_i ∙ at) (ap number_in found)
    in_new j x k is_i (last place is) = new_one is_i place (sym is)

    back : (j x k : ℕ) (lj : Line) → number_at lj x ≡ Some k → OfSet w.lines i m j lj → WasOrNew w i l number j x k
    back j x k lj n (here is_i is) =
        in_new j x k is_i (of_more l.server.numbers number x (Some k)
        (ap (λ (ns : List (Option ℕ)). slice_get ns x) (sym same) ∙ (ap (λ (y : Line). slice_get y.server.numbers x) (sym is) ∙ number_is (slice_get lj.server.numbers x) k n)))
    back j x k lj n (there_still other found) = was lj found n

    was_at : (j x k : ℕ) (lj : Line) → slice_get (slice_set w.lines i m) j ≡ Some lj → number_at lj x ≡ Some k → WasOrNew w i l number j x k
    was_at j x k lj found n = back j x k lj n (of_set w.lines i m j lj lt found)

    apart : (a b x y k : ℕ) → WasOrNew w i l number a x k → WasOrNew w i l number b y k → (a ≡ b) × (x ≡ y)
    apart a b x y k (was la fa na) (was lb fb nb) = h.apart a b x y k la lb fa fb na nb
    apart a b x y k (was la fa na) (new_one is_i place is) = absurd (omega (arith, h.below a x k la fa na, fresh k is))
    apart a b x y k (new_one is_i place is) (was lb fb nb) = absurd (omega (arith, h.below b y k lb fb nb, fresh k is))
    apart a b x y k (new_one ai ax is) (new_one bi by_ is2) = (ai ∙ sym bi, ax ∙ sym by_)

    below : (j x k : ℕ) → WasOrNew w i l number j x k → k ≤ accepts new
    below j x k (was lj found n) = omega (arith, h.below j x k lj found n, count)
    below j x k (new_one is_i place is) = (fresh k is).1

    forth : (k : ℕ) (n : IsNumbered w k) → (n.line ≡ i) ⊎ (n.line ≢ i) → IsNumbered (with_line w i m new) k
    forth k n (inl j_is) =
        let is : n.conn ≡ l = sym (some_is l n.conn (sym at ∙ (ap (λ (j : ℕ). slice_get w.lines j) (sym j_is) ∙ n.is))) in
        let found : slice_get l.server.numbers n.place ≡ Some (Some k) = ap (λ (y : Line). slice_get y.server.numbers n.place) (sym is) ∙ number_is (slice_get n.conn.server.numbers n.place) k n.number in
        record {
          line = i;
          conn = m;
          is = set_same w.lines i m lt;
          place = n.place;
          number = ap number_in (ap (λ (ns : List (Option ℕ)). slice_get ns n.place) same ∙ more_before l.server.numbers number n.place (Some k) found);
        }
    forth k n (inr other) = record { line = n.line; conn = n.conn; is = set_other w.lines i n.line m other ∙ n.is; place = n.place; number = n.number }

    on : (k : ℕ) → IsNumbered w k → IsNumbered (with_line w i m new) k
    on k n = forth k n (decided i n.line (eqb n.line i) refl)

    newest : (k : ℕ) → number ≡ Some k → IsNumbered (with_line w i m new) k
    newest k is = record {
      line = i;
      conn = m;
      is = set_same w.lines i m lt;
      place = length l.server.numbers;
      number = ap number_in (ap (λ (ns : List (Option ℕ)). slice_get ns (length l.server.numbers)) same ∙ more_last l.server.numbers number) ∙ is;
    }

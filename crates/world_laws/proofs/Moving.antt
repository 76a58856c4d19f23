-- Each move keeps what holds.
use Rattle.std.proofs.Common.{◌≡◌, ℕ, zero, suc, ◌^◌, ◌<◌, ◌≤◌, Bool, true, false, Option, Some, Ok, List, [], ◌∷◌, ◌++◌, length, refl, sym, ap, subst, ◌∙◌, append-nil, append_assoc, arith}
use Rattle.std.specs.Prelude.{slice_get}
use Rattle.rpc_base.specs.Fields.{FitsSyntax}
use Rattle.handle_model.specs.declared.entry.Entry.{Entry}
use Rattle.handle_model.specs.declared.entry.Said.TheVariants.{Out}
use Rattle.ndr_value.specs.Values.{Msg}
use Rattle.ndr_table.specs.Tables.{TableForm}
use Rattle.conn_histories.specs.Histories.{stream}
use Rattle.conn_histories.specs.Histories.Event.{Came}
use Rattle.conn_histories.proofs.Along.{put_in_order}
use Rattle.client_core.specs.States as callers
use Rattle.client_core.specs.States.{ClientState}
use Rattle.client_core.specs.Calls.{Calls, Cancels}
use Rattle.client_core.specs.Histories.{ClientEvent, sent}
use Rattle.client_core.specs.Histories.ClientEvent.{DidCall, DidCancel}
use Rattle.world_laws.specs.Moves.{Move}
use Rattle.world_laws.specs.Moves.{Move as moves}
use Rattle.world_laws.specs.Ends.{CallerEnd, Line, new_row, number_in, number_at}
use Rattle.world_laws.specs.Calling.{IfBroken, lost_line, LosesLine}
use Rattle.world_laws.specs.Worlds.{World, empty, group_wanted, with_line, entered, LosesAt, LosesAll, opened, Opens, starting, Starts, cancelling, CallsOff, Arrives, Comes, GoesOnFor, Tries, Plays, PlaysAll, Played}
use Rattle.world_laws.specs.Worlds.GoesOnFor.{answered, unheard}
use Rattle.world_laws.specs.Worlds.Tries.{taken, denied}
use Rattle.world_laws.specs.Clauses.{AllCallsAreRows}
use Rattle.world_laws.proofs.Lists.{set_same, set_twice, within, there, OfMore, of_more, more_before, length_more}
use Rattle.world_laws.proofs.Lists.OfMore.{before, last}
use Rattle.world_laws.proofs.Quiet.{AllAccepts, all_accepts, accepts_map, Quiet, still, leave_quiet, end_quiet, take_quiet, deny_quiet}
use Rattle.world_laws.proofs.Holds.{LineHolds, Holds, IsNumbered, kept}
use Rattle.world_laws.proofs.Counting.{started_append}
use Rattle.world_laws.proofs.Callers.{lives_more, sent_more, begun_more, Goes, hears_octets, loses}
use Rattle.world_laws.proofs.Serving.Brings.{same, refused, accepts_it}
use Rattle.world_laws.proofs.Serving.{Brings, brings, brought, count_of, line_on, goes_by}

-- ---- a connection with its caller's end changed

-- the caller's end went on, nothing was sent, and as much is on the way to the server; or the connection is lost
pub caller_on : (table : TableForm) (l : Line) (c : CallerEnd) (up down : List ℕ) (standing : Bool) → LineHolds table l → Goes l.caller c → (standing ≡ true → (l.standing ≡ true) × (up ≡ l.up))
    → LineHolds table (record l { caller = c; up = up; down = down; standing = standing })
caller_on table l c up down standing h g stands = record {
  began = g.lives (callers.at_start table) h.began;
  once = g.begun h.once;
  served = h.served;
  ways = λ s. g.sent_is ∙ (h.ways (stands s).0 ∙ ap (λ (x : List ℕ). stream l.server.events ++ x) (sym (stands s).1));
  rows = omega (arith, g.rows, g.started_is, h.rows);
  numbers = h.numbers;
  fewer = omega (arith, g.rows, h.fewer);
}

lost_on : (table : TableForm) (l : Line) → LineHolds table l → LineHolds table (lost_line l)
lost_on table l h = caller_on table l _ [] [] false h (loses l.caller) (λ s. absurd (cc (s)))

-- ---- losses

loses_at : (table : TableForm) (w v : World) (c : ℕ) → LosesAt w c v → Holds table w → Holds table v
loses_at table w v c (i, l, at, named, stands, (m, past, (is, leaves), after)) h =
    subst (λ (x : World). Holds table x) (sym after)
    (subst (λ (x : Line). Holds table (with_line w i x past)) (sym is)
    (kept table w i l (lost_line l) past at (lost_on table l (h.lines i l at)) refl (leave_quiet w.past past l.server.member leaves) h))

loses_all : (names : List ℕ) (table : TableForm) (w v : World) → LosesAll w names v → Holds table w → Holds table v
loses_all [] table w v (is, none) h = subst (λ (x : World). Holds table x) (sym is) h
loses_all (c ∷ cs) table w v (least, (u, first, later)) h = loses_all cs table u v later (loses_at table w u c first h)

-- ---- the caller's moves

-- what is sent is on the way
way_on : (events : List ClientEvent) (event : ClientEvent) (octets came up : List ℕ) → sent (event ∷ []) ≡ octets → sent events ≡ came ++ up → sent (events ++ event ∷ []) ≡ came ++ (up ++ octets)
way_on events event octets came up is ways = sent_more events event ∙ ((λ i. ways i ++ is i) ∙ append_assoc came up octets)

group_small : (lines : List Line) → group_wanted lines < 2 ^ 32
group_small [] = omega arith
group_small (l ∷ lines) = omega arith

opens : (table : TableForm) (w v : World) (c group : ℕ) → Opens table w c group v → Holds table w → Holds table v
opens table w v c group o h = subst (λ (x : World). Holds table x) (sym o.after) (record {
  lines = λ i l found. lines i l (of_more w.lines new i l found);
  apart = λ i j x y k l m fl fm nl nm. h.apart i j x y k l m (was i x k l (of_more w.lines new i l fl) nl) (was j y k m (of_more w.lines new j m fm) nm) nl nm;
  below = λ i x k l found n. h.below i x k l (was i x k l (of_more w.lines new i l found) n) n;
  are = accepts_map (IsNumbered w) (IsNumbered (record w { lines = w.lines ++ new ∷ [] })) w.past on h.are;
})
  where
    new : Line
    new = opened table c group o.octets o.state

    new_holds : LineHolds table (opened table c group o.octets o.state)
    new_holds = record {
      began = (o.state, o.binds, refl);
      once = record { group = group; octets = o.octets; later = []; is = refl; small = omega (arith, o.wanted, group_small w.lines); only = refl };
      served = refl;
      ways = λ s. append-nil o.octets;
      rows = refl;
      numbers = refl;
      fewer = omega arith;
    }

    lines : (i : ℕ) (l : Line) → OfMore w.lines (opened table c group o.octets o.state) i l → LineHolds table l
    lines i l (before found) = h.lines i l found
    lines i l (last at is) = subst (λ (x : Line). LineHolds table x) (sym is) new_holds

    none_there : (x k : ℕ) → number_in (slice_get [] x) ≡ Some k → ⊥
    none_there x k e = absurd (cc (e))

    was : (i x k : ℕ) (l : Line) → OfMore w.lines (opened table c group o.octets o.state) i l → number_at l x ≡ Some k → slice_get w.lines i ≡ Some l
    was i x k l (before found) n = found
    was i x k l (last at is) n = absurd (none_there x k (ap (λ (y : Line). number_at y x) (sym is) ∙ n))

    on : (k : ℕ) → IsNumbered w k → IsNumbered (record w { lines = w.lines ++ opened table c group o.octets o.state ∷ [] }) k
    on k n = record { line = n.line; conn = n.conn; is = more_before w.lines (opened table c group o.octets o.state) n.line n.conn n.is; place = n.place; number = n.number }

starting_on : (table : TableForm) (l : Line) (op : ℕ) (m : Msg) (octets : List ℕ) (state : ClientState) → LineHolds table l → Calls l.caller.state op m (Ok octets) state → LineHolds table (starting table l op m octets state)
starting_on table l op m octets state h calls =
    let event = DidCall op m octets in
    record {
      began = lives_more l.caller.events (callers.at_start table) l.caller.state state event h.began calls;
      once = begun_more l.caller.events event h.once refl;
      served = h.served;
      ways = λ s. way_on l.caller.events event octets (stream l.server.events) l.up (append-nil octets) (h.ways s);
      rows = omega (arith, length_more l.caller.rows (new_row op m), started_append l.caller.events (event ∷ []), h.rows);
      numbers = h.numbers;
      fewer = omega (arith, length_more l.caller.rows (new_row op m), h.fewer);
    }

cancelling_on : (table : TableForm) (l : Line) (octets : List ℕ) (state : ClientState) → LineHolds table l → Cancels l.caller.state (Ok octets) state → LineHolds table (cancelling table l octets state)
cancelling_on table l octets state h cancels =
    let event = DidCancel octets in
    record {
      began = lives_more l.caller.events (callers.at_start table) l.caller.state state event h.began cancels;
      once = begun_more l.caller.events event h.once refl;
      served = h.served;
      ways = λ s. way_on l.caller.events event octets (stream l.server.events) l.up (append-nil octets) (h.ways s);
      rows = omega (arith, started_append l.caller.events (event ∷ []), h.rows);
      numbers = h.numbers;
      fewer = h.fewer;
    }

starts : (table : TableForm) (w v : World) (op : ℕ) (m : Msg) (i : ℕ) (l : Line) → slice_get w.lines i ≡ Some l → Starts table w op m i l v → Holds table w → Holds table v
starts table w v op m i l at s h =
    let k = kept table w i l (starting table l op m s.octets s.state) w.past at (starting_on table l op m s.octets s.state (h.lines i l at) s.calls) refl (still w.past) h in
    subst (λ (x : World). Holds table x) (sym s.after) (record { lines = k.lines; apart = k.apart; below = k.below; are = accepts_map _ _ w.past (λ n is. record { line = is.line; conn = is.conn; is = is.is; place = is.place; number = is.number }) k.are })

calls_off : (table : TableForm) (w v : World) (i : ℕ) (l : Line) → slice_get w.lines i ≡ Some l → CallsOff table w i l v → Holds table w → Holds table v
calls_off table w v i l at s h =
    subst (λ (x : World). Holds table x) (sym s.after)
    (kept table w i l (cancelling table l s.octets s.state) w.past at (cancelling_on table l s.octets s.state (h.lines i l at) s.cancels) refl (still w.past) h)

-- ---- octets arrive

twice : (w : World) (i : ℕ) (l m : Line) (past new : List Entry) → with_line (with_line w i l past) i m new ≡ with_line w i m new
twice w i l m past new = ap (λ (ls : List Line). record w { lines = ls; past = new }) (set_twice w.lines i l m)

pub arrived : (table : TableForm) (w v : World) (n i : ℕ) (l : Line) → FitsSyntax table.id → length table.ops ≤ 2 ^ 16 → slice_get w.lines i ≡ Some l → l.standing ≡ true → (a : Arrives table w n i l v) → Holds table w → Holds table (with_line w i a.came a.then_)
arrived table w v n i l fits few at stands a h =
    let here = h.lines i l at in
    let event = Came a.front in
    let b = brings table w.past a.then_ l.server a.comes.after event a.comes.means in
    let m : Line = record l { up = a.left; server = record a.comes.after { events = l.server.events ++ event ∷ []; state = a.comes.state }; down = l.down ++ [] } in
    let came : sent l.caller.events ≡ stream (l.server.events ++ event ∷ []) ++ a.left =
    here.ways stands ∙ (ap (λ (x : List ℕ). stream l.server.events ++ x) a.way.0 ∙ (sym (append_assoc (stream l.server.events) a.front a.left)
    ∙ ap (λ (x : List ℕ). x ++ a.left) (sym ((put_in_order l.server.events (event ∷ [])).0.came ∙ ap (λ (x : List ℕ). stream l.server.events ++ x) (append-nil a.front))))) in
    let holds : LineHolds table m = line_on table l event a.comes.state a.comes.after a.left (l.down ++ []) fits few here a.comes.happens (count_of w.past a.then_ l.server a.comes.after 0 b) came in
    let first : Holds table (with_line w i m a.then_) = brought table w i l m a.then_ 0 at holds (renamed b) h in
    subst (λ (x : Line). Holds table (with_line w i x a.then_)) (sym a.comes.then_) first
  where
    renamed : Brings w.past a.then_ l.server a.comes.after 0 → Brings w.past a.then_ l.server (record a.comes.after { events = l.server.events ++ Came a.front ∷ []; state = a.comes.state }) 0
    renamed (same is quiet none) = same is quiet none
    renamed (refused is quiet one) = refused is quiet one
    renamed (accepts_it k is x one) = accepts_it k is x one

arrives : (table : TableForm) (w v : World) (n i : ℕ) (l : Line) → FitsSyntax table.id → length table.ops ≤ 2 ^ 16 → slice_get w.lines i ≡ Some l → l.standing ≡ true → Arrives table w n i l v → Holds table w → Holds table v
arrives table w v n i l fits few at stands a h =
    let stood : a.came.standing ≡ true = ap (λ (x : Line). x.standing) a.comes.then_ ∙ stands in
    subst (λ (x : World). Holds table x) (sym (a.after ∙ sym (twice w i a.came a.line a.then_ a.past)))
    (goes_by a.goes_on.0 table (with_line w i a.came a.then_) i a.came a.line a.past fits few (set_same w.lines i a.came (within w.lines i l at)) stood a.goes_on.1 (arrived table w v n i l fits few at stands a h))

comes : (table : TableForm) (w v : World) (n i : ℕ) (l : Line) → slice_get w.lines i ≡ Some l → l.standing ≡ true → Comes table w n i l v → Holds table w → Holds table v
comes table w v n i l at stands a h = subst (λ (x : World). Holds table x) (sym a.after) (behind a.broken a.is_line)
  where
    heard : LineHolds table (record l { caller = a.caller; down = a.left })
    heard = caller_on table l a.caller l.up a.left l.standing (h.lines i l at) (hears_octets l.caller a.caller a.front a.broken a.hears) (λ s. (s, refl))

    behind : (b : Bool) → IfBroken b (LosesLine (record l { caller = a.caller; down = a.left }) w.past a.line a.past) ((a.line ≡ record l { caller = a.caller; down = a.left }) × (a.past ≡ w.past)) → Holds table (with_line w i a.line a.past)
    behind true (is, leaves) =
        subst (λ (x : Line). Holds table (with_line w i x a.past)) (sym is)
        (kept table w i l (lost_line (record l { caller = a.caller; down = a.left })) a.past at (lost_on table (record l { caller = a.caller; down = a.left }) heard) refl (leave_quiet w.past a.past l.server.member leaves) h)
    behind false (is, same_past) =
        subst (λ (x : Line). Holds table (with_line w i x a.past)) (sym is)
        (kept table w i l (record l { caller = a.caller; down = a.left }) a.past at heard refl (subst (λ (x : List Entry). Quiet w.past x) (sym same_past) (still w.past)) h)

-- ---- the server's moves

-- entries come that accept no call
pub entering : (table : TableForm) (w : World) (past : List Entry) → Quiet w.past past → Holds table w → Holds table (entered w past)
entering table w past q h = record {
  lines = h.lines;
  apart = h.apart;
  below = λ i x k l found n. omega (arith, h.below i x k l found n, q.count);
  are = accepts_map (IsNumbered w) (IsNumbered (entered w past)) past (λ k is. record { line = is.line; conn = is.conn; is = is.is; place = is.place; number = is.number }) (q.all (IsNumbered w) h.are);
}

goes_on_for : (table : TableForm) (k : ℕ) (w v : World) → FitsSyntax table.id → length table.ops ≤ 2 ^ 16 → GoesOnFor table k w v → Holds table w → Holds table v
goes_on_for table k w v fits few (answered i l m past at stands waits goes after) h =
    subst (λ (x : World). Holds table x) (sym after) (goes_by goes.0 table w i l m past fits few at stands goes.1 h)
goes_on_for table k w v fits few (unheard none is) h = subst (λ (x : World). Holds table x) (sym is) h

tries : (table : TableForm) (w v : World) (k : ℕ) → FitsSyntax table.id → length table.ops ≤ 2 ^ 16 → Tries table w k v → Holds table w → Holds table v
tries table w v k fits few (taken row serial past takes is) h = subst (λ (x : World). Holds table x) (sym is) (entering table w past (take_quiet w.past past k serial row takes) h)
tries table w v k fits few (denied slot past takes goes) h = goes_on_for table k (entered w past) v fits few goes (entering table w past (deny_quiet w.past past k slot takes) h)

-- ---- every move

pub plays : (table : TableForm) (move : Move) (w v : World) → FitsSyntax table.id → length table.ops ≤ 2 ^ 16 → Plays table w move v → Holds table w → Holds table v
plays table (moves.Open c group) w v fits few p h = opens table w v c group p h
plays table (moves.Start c op m) w v fits few (i, l, at, named, stands, p) h = starts table w v op m i l at p h
plays table (moves.ToServer c n) w v fits few (i, l, at, named, stands, p) h = arrives table w v n i l fits few at stands p h
plays table (moves.ToCaller c n) w v fits few (i, l, at, named, stands, p) h = comes table w v n i l at stands p h
plays table (moves.Cancel c) w v fits few (i, l, at, named, stands, p) h = calls_off table w v i l at p h
plays table (moves.Lose c) w v fits few p h = loses_at table w v c p h
plays table moves.Restart w v fits few (names, p) h = loses_all names table w v p h
plays table (moves.Take k) w v fits few p h = tries table w v k fits few p h
plays table (moves.Finish k kepts m) w v fits few (past, ends, goes) h =
    goes_on_for table k (entered w past) v fits few goes (entering table w past (end_quiet w.past past k ends.results (Out ends.octets) ends.short ends.enters) h)

plays_all : (played : List Move) (table : TableForm) (w v : World) → FitsSyntax table.id → length table.ops ≤ 2 ^ 16 → PlaysAll table w played v → Holds table w → Holds table v
plays_all [] table w v fits few is h = subst (λ (x : World). Holds table x) (sym is) h
plays_all (move ∷ more) table w v fits few (u, first, later) h = plays_all more table u v fits few later (plays table move w u fits few first h)

nothing : {A : Type 0} (i : ℕ) (x : A) → (let xs : List A = [] in slice_get xs i) ≡ Some x → ⊥
nothing i x e = absurd (cc (e))

pub at_first : (table : TableForm) → Holds table empty
at_first table = record {
  lines = λ i l found. absurd (nothing i l found);
  apart = λ i j x y k l m fl fm nl nm. absurd (nothing i l fl);
  below = λ i x k l found n. absurd (nothing i l found);
  are = tt;
}

pub holds : (table : TableForm) (played : List Move) (w : World) → FitsSyntax table.id → length table.ops ≤ 2 ^ 16 → Played table played w → Holds table w
holds table played w fits few p = plays_all played table empty w fits few p (at_first table)

-- ---- whose each call is

number_within : (numbers : List (Option ℕ)) (x k : ℕ) → number_in (slice_get numbers x) ≡ Some k → x < length numbers
number_within [] x k e = absurd (nothing_numbered x k e)
  where
    nothing_numbered : (y j : ℕ) → number_in (slice_get [] y) ≡ Some j → ⊥
    nothing_numbered y j e = absurd (cc (e))
number_within (n ∷ numbers) zero k e = omega arith
number_within (n ∷ numbers) (suc x) k e = omega (arith, number_within numbers x k e)

pub calls_are_rows : AllCallsAreRows
calls_are_rows table played w fits few p =
    let h = holds table played w fits few p in
    record {
      apart = h.apart;
      rows = λ k a newer older is.
          (let n = all_accepts (IsNumbered w) k a newer older (subst (λ (x : List Entry). AllAccepts (IsNumbered w) x) is h.are) in
          let here = h.lines n.line n.conn n.is in
          let r = there n.conn.caller.rows n.place (omega (arith, here.fewer, number_within n.conn.server.numbers n.place k n.number)) in
          record { line = n.line; conn = n.conn; there = n.is; place = n.place; row = r.0; is_row = r.1; number = n.number });
    }

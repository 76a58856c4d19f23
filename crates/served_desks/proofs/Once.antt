-- What the chains of a server's connections come to.
use Rattle.std.proofs.Common.{◌≡◌, ℕ, Option, Some, None, List, [], ◌∷◌, ◌++◌, length, map, refl, sym, ap, subst, arith}
use Rattle.std.specs.Prelude.{is_some}
use Rattle.std.specs.List.{AllByRecursion, flat_map}
use Rattle.turn_lock.specs.Histories.{StartsWith}
use Rattle.rpc_outside.specs.Links.{Shown}
use Rattle.group_hub.specs.declared.pass.Pass.{Pass}
use Rattle.server_calls.specs.Chains.{Deed, Chain, stays, Takes, StartsFrom}
use Rattle.server_run.specs.Deeds.{HadIn}
use Rattle.server_rounds.specs.declared.settled.Settled.{Settled}
use Rattle.server_rounds.specs.Desks.{AreDealt}
use Rattle.desk_told.specs.Deeds.{DeedForm}
use Rattle.desk_told.specs.Passes.{PassForm, history}
use Rattle.desk_locks.specs.declared.pass.SharedPass.{SharedPass}
use Rattle.desk_locks.specs.declared.shared.SharedDesks.{SharedDesks}
use Rattle.desk_locks.specs.Calls.{tables_of}
use Rattle.desk_locks.specs.Entering.{Enters}
use Rattle.desk_locks.specs.Passes.{Splits, Joins}
use Rattle.desk_locks.specs.Rundowns.{RanDown}
use Rattle.desk_locks.specs.Tellings.{Ascends, Gains, EachGains, EachHasAll, Course, deeds_of}
use Rattle.desk_locks.proofs.Standing.{stand_more}
use Rattle.desk_locks.proofs.Tellings.{takes, chains_gain, each_stands_once}
use Rattle.served_desks.specs.Once.{TellsIn, StandInOrder, EachInOrder, AreDone, EachDeedStandsOnce}

-- ---- one service

from_none : (low : ℕ) (ns : List ℕ) → Ascends low ns → Ascends 0 ns
from_none low [] a = tt
from_none low (n ∷ ns) a = (omega arith, a.1)

in_order : {S : Type 0} (p q : PassForm S) (whole deeds : List (DeedForm S)) → StartsWith whole (history q) → Gains p deeds q → StandInOrder whole deeds
in_order p q whole deeds w g = record {
  places = g.places;
  stand = stand_more (history q) whole g.places deeds w g.stand;
  ascends = from_none (length (history p)) g.places g.ascends;
}

-- ---- all of them

module _ (d : SharedDesks) (boot : ℕ) where
  -- the deeds of which a connection's entries tell, and by which its pass became the last
  record HasDone (joined : Option (ℕ × ℕ)) (began now : Pass) (p q : SharedPass) : Type 0 where
    deeds : List Deed
    tells : TellsIn (tables_of d) boot joined began now deeds
    chain : Chain (Enters d) (RanDown d) Splits Joins p deeds q

  done_by : (joined : Option (ℕ × ℕ)) (began now : Pass) (p q : SharedPass)
      → HadIn tables_of Enters RanDown (λ d before kept other. Splits before kept other) (λ d before other after. Joins before other after) d boot joined began p now q → HasDone joined began now p q
  done_by (Some (g, c)) began now p q h = record { deeds = h.deeds; tells = record { items = h.items; grown = h.grown; tells = h.tells }; chain = h.chain }
  done_by None began now p q h = record { deeds = []; tells = refl; chain = subst (λ r. Chain (Enters d) (RanDown d) Splits Joins p [] r) (sym h) stays }

  module _ (first last : SharedPass) where
    -- the last pass has seen what these have
    abbrev AreSeen : List SharedPass → Type 0
    AreSeen ts =
        AllByRecursion (λ o. StartsWith (history last.probe) (history o.probe)) ts × AllByRecursion (λ o. StartsWith (history last.store) (history o.store)) ts
        × AllByRecursion (λ o. StartsWith (history last.endpoints) (history o.endpoints)) ts

    stand_in : (p q : SharedPass) (deeds : List Deed) → StartsWith (history last.probe) (history q.probe) → StartsWith (history last.store) (history q.store) → StartsWith (history last.endpoints) (history q.endpoints)
        → EachGains (is_some d.echo) p deeds q → EachInOrder (is_some d.echo) first deeds last
    stand_in p q deeds probe store endpoints g = record {
      probe = in_order p.probe q.probe (history last.probe) (deeds_of 0 (is_some d.echo) deeds) probe g.probe;
      store = in_order p.store q.store (history last.store) (deeds_of 1 (is_some d.echo) deeds) store g.store;
      endpoints = in_order p.endpoints q.endpoints (history last.endpoints) (deeds_of 2 (is_some d.echo) deeds) endpoints g.endpoints;
    }

    module _ {K : Type 0} where
      -- the courses of connections, by their last passes
      record Courses (cs : List (Settled K)) (ts : List SharedPass) : Type 0 where
        made : List (Course SharedPass)
        each : AllByRecursion (λ c. StartsFrom Splits Joins first c.began × Chain (Enters d) (RanDown d) Splits Joins c.began c.deeds c.last) made
        lasts : map (λ c. c.last) made ≡ ts
        deeds : List (List Deed)
        all : flat_map (λ ds. ds) deeds ≡ flat_map (λ c. c.deeds) made
        done : AreDone (tables_of d) boot (is_some d.echo) first last cs deeds

      courses : (cs : List (Settled K)) (ts : List SharedPass)
          → AreDealt tables_of Enters RanDown (λ d before kept other. Splits before kept other) (λ d before other after. Joins before other after) d boot first cs ts → AreSeen ts → Courses cs ts
      courses [] [] x seen = record { made = []; each = tt; lasts = refl; deeds = []; all = refl; done = tt }
      courses (c ∷ cs) (t ∷ ts) x seen =
          let h = done_by c.joined c.began.value c.pass.value x.0.began t x.0.had in
          let more = courses cs ts x.1 (seen.0.1, seen.1.1, seen.2.1) in
          record {
            made = record { began = x.0.began; deeds = h.deeds; last = t } ∷ more.made;
            each = ((x.0.starts, h.chain), more.each);
            lasts = ap (λ l. t ∷ l) more.lasts;
            deeds = h.deeds ∷ more.deeds;
            all = ap (λ l. h.deeds ++ l) more.all;
            done = (record { tells = h.tells; in_order = stand_in x.0.began t h.deeds seen.0.0 seen.1.0 seen.2.0 (chains_gain d x.0.began t h.deeds h.chain) }, more.done);
          }
      courses [] (t ∷ ts) x seen = absurd x
      courses (c ∷ cs) [] x seen = absurd x

pub each_deed_stands_once : {K : Type 0} (shows : K → Shown) → EachDeedStandsOnce shows
each_deed_stands_once shows echo boot a at most b out log status s =
    let d = s.desks in
    let first = s.first in
    let last = s.had.last in
    let had = s.had.had in
    let probe = takes Splits Joins (λ r. r.probe) (λ p q o x. x.probe) (λ p o q x. x.probe) first last had.lasts had.takes in
    let store = takes Splits Joins (λ r. r.store) (λ p q o x. x.store) (λ p o q x. x.store) first last had.lasts had.takes in
    let endpoints = takes Splits Joins (λ r. r.endpoints) (λ p q o x. x.endpoints) (λ p o q x. x.endpoints) first last had.lasts had.takes in
    let all = courses d s.had.serves.hub.boot first last s.had.serves.round.finished.items had.lasts had.dealt (probe.1, store.1, endpoints.1) in
    record {
      deeds = all.deeds;
      done = all.done;
      once = subst (λ ds. EachHasAll (is_some d.echo) first ds last) (sym all.all)
          (each_stands_once d first last all.made all.each (subst (λ ts. Takes Splits Joins first ts last) (sym all.lasts) had.takes) s.had.last_pass);
    }

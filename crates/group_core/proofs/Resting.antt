-- What the tables and marks show once the older entries are in the base.
use Rattle.std.proofs.Common.{◌≡◌, ℕ, suc, ◌+◌, ◌-◌, ◌≤◌, ◌<◌, false, ◌&&◌, nat_le, min, unwrap_or, Option, is_some, List, [], ◌∷◌, ◌++◌, length, map, take, drop, reverse, refl, sym, ◌∙◌, ap, subst, arith, inl, inr}
use Rattle.std.specs.List.{list_any}
use Rattle.std.proofs.lemmas.Bool.{cases_Bool, leb-true, leb-false}
use Rattle.std.proofs.lemmas.List.{length-reverse, length-take}
use Rattle.handle_model.specs.declared.entry.Home.{Home}
use Rattle.handle_model.specs.declared.entry.Asked.{Asked}
use Rattle.handle_model.specs.declared.entry.Entry.{Entry}
use Rattle.handle_model.specs.declared.entry.Entry.TheVariants.{Accept}
use Rattle.handle_model.specs.declared.base.Base.{Base}
use Rattle.handle_model.specs.Bases.{is_call}
use Rattle.handle_model.specs.Folds.{base_of}
use Rattle.handle_model.specs.History.{History, IsSound, since}
use Rattle.handle_model.specs.Journal.{Legal, asked, is_shut, conns, least, due_items, accept_count}
use Rattle.call_table.specs.declared.row.Row.{Row}
use Rattle.call_table.specs.Rows.{running_places, owed_of}
use Rattle.call_table.specs.Shown.{rows_of}
use Rattle.journal_tables.specs.declared.conns.OpenConn.{OpenConn}
use Rattle.journal_tables.specs.Floor.{open_places, lesser_of}
use Rattle.journal_tables.specs.Tables.{Tables}
use Rattle.journal_tables.specs.Shown.{open_conn, conns_of}
use Rattle.journal_tables.specs.Folding.{BaseBegun}
use Rattle.journal_tables.proofs.Stood.{stands}
use Rattle.group_core.specs.Owed.{owed, shut_owed}
use Rattle.group_core.specs.Stages.{is_asked_since}
use Rattle.group_core.specs.Marks.{Marked, MarksTell}
use Rattle.group_core.specs.Kept.{Logged, logged, accepted_in}
use Rattle.group_core.specs.Folds.{older_count, base_after, rest_after, MarksLeft}
use Rattle.group_core.proofs.Folding.{parts, front_of, older_unshut, newer_unshut, rest_moved, base_is, base_sound, whole_legal}
use Rattle.group_core.proofs.Staying.{AllFrom, floor_from, conns_stay, rows_stay, places_stay}
use Rattle.group_core.proofs.Pruning.{found_any, asked_stays, later_stays, early_known, grown_count}

-- THE TABLES

-- the new base's count is no greater than the place of anything open
count_low : (c f m n : ℕ) → n ≡ min (f - c) m → 0 < n → c + n ≤ f
count_low c f m n e lt = omega (arith, e, lt)

few_of : (n f m : ℕ) → n ≡ min f m → min n m ≡ n
few_of n f m e = omega (arith, e)

pub record Stays (home : Home) (log : Logged) (n : ℕ) : Type 0 where
  pub rows_same : rows_of (rest_after home log n) ≡ rows_of (logged home log)
  pub conns_same : conns_of (rest_after home log n) ≡ conns_of (logged home log)
  pub items_same : due_items (rest_after home log n) ≡ due_items (logged home log)

pub rest_stays : (home : Home) (log : Logged) (n : ℕ) (os : List OpenConn) (rows : List Row) → IsSound (logged home log) → BaseBegun log.base → list_any is_shut (reverse log.entries) ≡ false → os ≡ conns_of (logged home log) → rows ≡ rows_of (logged home log) → n ≡ older_count log rows os → 0 < n → Stays home log n
rest_stays home log n os rows s b u o r e lt =
    let older : List Entry = reverse (take n log.entries) in
    let newer : List Entry = reverse (drop n log.entries) in
    let base : Base = base_after home log n in
    let old : History = since home log.base (newer ++ older) in
    let new : History = since home base newer in
    let m = rest_moved home log n s b u in
    let whole : reverse log.entries ≡ newer ++ older = parts log.entries n in
    let counted : base.count ≡ log.base.count + length older = ap (λ (x : Base). x.count) (base_is home log n s b u) in
    let many : length older ≡ n = length-reverse (take n log.entries) ∙ (length-take n log.entries ∙ few_of n (unwrap_or (lesser_of (least (open_places os)) (least (running_places rows))) (log.base.count + length log.entries) - log.base.count) (length log.entries) e) in
    let low = count_low log.base.count (unwrap_or (lesser_of (least (open_places os)) (least (running_places rows))) (log.base.count + length log.entries)) (length log.entries) n e lt in
    let from = floor_from base.count (log.base.count + length log.entries) os rows (omega (arith, counted, many, low)) in
    let cs : AllFrom base.count (open_places (conns_of old)) = subst (λ (xs : List OpenConn). AllFrom base.count (open_places xs)) (o ∙ ap (λ p. conns_of (since home log.base p)) whole) from.0 in
    let rs : AllFrom base.count (running_places (rows_of old)) = subst (λ (xs : List Row). AllFrom base.count (running_places xs)) (r ∙ ap (λ p. rows_of (since home log.base p)) whole) from.1 in
    let keep = places_stay home log.base base newer older counted in
    let legal : Legal old = subst (λ p. Legal (since home log.base p)) whole s.legal in
    let rows_stayed : rows_of new ≡ rows_of old = rows_stay base.count old new legal keep.1 cs rs (ap (λ (t : Tables). t.rows) m.tables) in
    let conns_stayed : conns_of new ≡ conns_of old = ap (λ (ns : List ℕ). map (open_conn new) (reverse ns)) m.says.conns_same ∙ conns_stay base.count old new (reverse (conns old)) keep.0 cs in
    record {
      rows_same = rows_stayed ∙ ap (λ p. rows_of (since home log.base p)) (sym whole);
      conns_same = conns_stayed ∙ ap (λ p. conns_of (since home log.base p)) (sym whole);
      items_same = m.says.live ∙ ap (λ p. due_items (since home log.base p)) (sym whole);
    }

-- as many entries may still come
pub rest_owed : (home : Home) (log : Logged) (n : ℕ) → IsSound (logged home log) → BaseBegun log.base → list_any is_shut (reverse log.entries) ≡ false → Stays home log n → owed (rest_after home log n) ≡ owed (logged home log)
rest_owed home log n s b u st =
    let m = rest_moved home log n s b u in
    let rows : owed_of (rows_of (rest_after home log n)) ≡ owed_of (rows_of (logged home log)) = ap owed_of st.rows_same in
    let open_ : length (conns (rest_after home log n)) ≡ length (conns (logged home log)) =
    ap (λ (ns : List ℕ). length ns) m.says.conns_same ∙ ap (λ p. length (conns (since home log.base p))) (sym (parts log.entries n)) in
    let one : shut_owed (rest_after home log n) ≡ 1 = rw (newer_unshut log n u) refl in
    let other : shut_owed (logged home log) ≡ 1 = rw u refl in
    omega (arith, rows, open_, one, other)

-- THE MARKS

tells_at : (home : Home) (log : Logged) (n more : ℕ) (m : Marked) → IsSound (logged home log) → BaseBegun log.base → list_any is_shut (reverse log.entries) ≡ false → MarksLeft log (base_of (front_of home log n)) more m → MarksTell m (base_of (front_of home log n)) (reverse (drop n log.entries))
tells_at home log n more m s b u left =
    let j : History = front_of home log n in
    let newer : List Entry = reverse (drop n log.entries) in
    let sound = base_sound home log n s b u in
    let stand = stands j (older_unshut log n u) in
    let legal = whole_legal home log n s.legal in
    let whole : reverse log.entries ≡ newer ++ j.past = parts log.entries n in
    let moved = rest_moved home log n s b u in
    let accepted : accept_count (since home (base_of j) newer) ≡ accept_count (since home log.base (newer ++ j.past)) =
    subst (λ (x : Base). accept_count (since home x newer) ≡ accept_count (since home log.base (newer ++ j.past))) (base_is home log n s b u) moved.says.accepts in
    record {
      first_is = left.first_is;
      counts = left.counts ∙ (ap (λ p. accept_count (since home log.base p)) whole ∙ sym accepted);
      marked = λ k.
          let at : is_asked_since log.base (newer ++ j.past) k ≡ is_asked_since log.base (reverse log.entries) k = ap (λ p. is_asked_since log.base p k) (sym whole) in
          elim (cases_Bool (nat_le k (accept_count j))) [
            | inl t ↦
                let le = leb-true k (accept_count j) t in
                let known : is_some (asked (since home (base_of j) newer) k) ≡ list_any (is_call k) (base_of j).calls = ap (λ (o : Option Asked). is_some o) (early_known j newer k legal le) ∙ found_any k (base_of j).calls in
                left.early_is k le ∙ (ap (λ x. list_any (is_call k) (base_of j).calls && x) (sym at) ∙ (ap (λ x. x && is_asked_since log.base (newer ++ j.past) k) (sym known) ∙ sym (asked_stays j newer k sound stand legal)))
            | inr t ↦
                let lt = leb-false k (accept_count j) t in left.later_is k lt ∙ (sym at ∙ sym (later_stays j newer k sound stand legal lt))
          ];
    }

pub rest_tells : (home : Home) (log : Logged) (n more : ℕ) (base : Base) (m : Marked) → IsSound (logged home log) → BaseBegun log.base → list_any is_shut (reverse log.entries) ≡ false → base ≡ base_after home log n → MarksLeft log base more m → MarksTell m base (reverse (drop n log.entries))
rest_tells home log n more base m s b u e left =
    let same : base ≡ base_of (front_of home log n) = e ∙ base_is home log n s b u in
    subst (λ (x : Base). MarksTell m x (reverse (drop n log.entries))) (sym same) (tells_at home log n more m s b u (subst (λ (x : Base). MarksLeft log x more m) same left))

at_least : (n m : ℕ) → n ≤ m → n ≤ suc m
at_least n m h = omega (arith, h)

from_base : (home : Home) (base : Base) (past : List Entry) → base.accepts ≤ accept_count (since home base past)
from_base home base [] = omega arith
from_base home base (Accept k a ∷ past) = at_least base.accepts (accept_count (since home base past)) (from_base home base past)
from_base home base (_ ∷ past) = from_base home base past

-- the base's calls are among those that were accepted
pub base_within : (home : Home) (log : Logged) (n : ℕ) → IsSound (logged home log) → BaseBegun log.base → list_any is_shut (reverse log.entries) ≡ false → (log.base.accepts ≤ (base_after home log n).accepts) × ((base_after home log n).accepts ≤ accepted_in log)
base_within home log n s b u =
    let j : History = front_of home log n in
    let newer : List Entry = reverse (drop n log.entries) in
    let at : (base_after home log n).accepts ≡ accept_count j = ap (λ (x : Base). x.accepts) (base_is home log n s b u) in
    let whole : accept_count (since home log.base (newer ++ j.past)) ≡ accepted_in log = ap (λ p. accept_count (since home log.base p)) (sym (parts log.entries n)) in
    let low = from_base home log.base j.past in
    let high = grown_count j newer in
    (omega (arith, at, low), omega (arith, at, whole, high))

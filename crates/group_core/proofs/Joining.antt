-- A connection joins, once the older entries are folded away.
use Rattle.std.proofs.Common.{◌≡◌, ℕ, ◌+◌, ◌≤◌, ◌<◌, false, None, List, [], ◌∷◌, ◌++◌, take, drop, reverse, refl, sym, ◌∙◌, ap, subst, arith}
use Rattle.std.specs.List.{list_any}
use Rattle.handle_model.specs.declared.entry.Home.{Home}
use Rattle.handle_model.specs.declared.entry.Entry.{Entry}
use Rattle.handle_model.specs.declared.entry.Entry.TheVariants.{Join}
use Rattle.handle_model.specs.declared.base.Base.{Base}
use Rattle.handle_model.specs.Limits.{join_limit}
use Rattle.handle_model.specs.Journal.{is_shut, join_count, accept_count, opened, Fits}
use Rattle.handle_model.specs.Folds.{folded}
use Rattle.handle_model.specs.History.{History, IsSound, since, history_of, with_entry, size}
use Rattle.handle_model.proofs.Steps.{join_sound}
use Rattle.handle_table.specs.Handles.{Handles}
use Rattle.call_table.specs.declared.row.Row.{Row}
use Rattle.call_table.specs.Rows.{OpenCalls, openings_of}
use Rattle.journal_tables.specs.Conns.{OpenConns}
use Rattle.journal_tables.specs.Folding.{BaseBegun}
use Rattle.group_core.specs.declared.counts.Counts.{Counts}
use Rattle.group_core.specs.Adds.{Adds}
use Rattle.group_core.specs.Owed.{owed}
use Rattle.group_core.specs.Kept.{IsKept, Logged, Came, Same, logged, Shows}
use Rattle.group_core.specs.Marks.{Marked, MarksTell}
use Rattle.group_core.specs.Folds.{older_count, base_after, rest_after, MarksLeft, IsReady, IsUnready}
use Rattle.group_core.proofs.Owing.{join_owed}
use Rattle.group_core.proofs.Limits.{join_numbers}
use Rattle.group_core.proofs.Shown.{join_shows}
use Rattle.group_core.proofs.Keeping.{grown, newest, same_is}
use Rattle.group_core.proofs.Folding.{parts, rest_moved, newer_unshut, rest_folded}
use Rattle.group_core.proofs.Resting.{rest_stays, rest_owed, rest_tells}

-- nothing needs the older entries: they stay
pub ready_same : (home : Home) (log new : Logged) (handles : Handles) (calls : OpenCalls) (counts : Counts) (conns : OpenConns) → IsKept home log handles calls counts → list_any is_shut (logged home log).past ≡ false → older_count log calls.rows counts.conns.conns ≡ 0 → Same log new → new.spare ≡ log.spare + 2 → conns.conns ≡ counts.conns.conns → 1 ≤ conns.room → IsReady home log new handles calls counts (record { conns = conns; joined = counts.joined; accepted = counts.accepted; opened = counts.opened })
ready_same home log new handles calls counts conns kept u none same spare c room =
    let j : History = logged home log in
    let e : logged home new ≡ j = same_is home log new same in
    let first : rest_after home log 0 ≡ folded j = ap (rest_after home log) (sym none) ∙ rest_folded home log calls.rows counts.conns.conns kept.sound.legal kept.shows.rows_are kept.shows.conns_are in
    record {
      folds = e ∙ first;
      sound = subst IsSound (sym e) kept.sound;
      begun = subst BaseBegun (sym same.0) kept.begun;
      unshut = subst (λ (x : History). list_any is_shut x.past ≡ false) (sym e) u;
      owes = let o : owed (logged home new) ≡ owed j = ap owed e in omega (arith, o, kept.owes, spare);
      shows = subst (λ (x : History). Shows x handles calls (record { conns = conns; joined = counts.joined; accepted = counts.accepted; opened = counts.opened })) (sym e) (record {
        home_is = kept.shows.home_is;
        items_are = kept.shows.items_are;
        rows_are = kept.shows.rows_are;
        joined_is = kept.shows.joined_is;
        conns_are = c ∙ kept.shows.conns_are;
        accepted_is = kept.shows.accepted_is;
        opened_is = kept.shows.opened_is;
        issues = kept.shows.issues;
      });
      conn_room = room;
      joined_same = refl;
    }

-- the n older entries are in the base
pub ready_fold : (home : Home) (log mid new : Logged) (n : ℕ) (base : Base) (handles : Handles) (calls : OpenCalls) (counts : Counts) (conns : OpenConns) → IsKept home log handles calls counts → list_any is_shut (logged home log).past ≡ false → n ≡ older_count log calls.rows counts.conns.conns → 0 < n → base ≡ base_after home log n → Same log mid → mid.spare ≡ log.spare + 2 → new.base ≡ base → new.entries ≡ drop n mid.entries → new.spare ≡ mid.spare → conns.conns ≡ counts.conns.conns → 1 ≤ conns.room → IsReady home log new handles calls counts (record { conns = conns; joined = counts.joined; accepted = counts.accepted; opened = counts.opened })
ready_fold home log mid new n base handles calls counts conns kept u nis lt bis same spare nb ne ns cis room =
    let j : History = logged home log in
    let at : new.base ≡ base_after home log n = nb ∙ bis in
    let entries : new.entries ≡ drop n log.entries = ne ∙ ap (λ es. drop n es) same.1 in
    let e : logged home new ≡ rest_after home log n =
    ap (λ (b : Base). history_of home b new.entries) at ∙ ap (λ (es : List Entry). history_of home (base_after home log n) es) entries in
    let m = rest_moved home log n kept.sound kept.begun u in
    let st = rest_stays home log n counts.conns.conns calls.rows kept.sound kept.begun u kept.shows.conns_are kept.shows.rows_are nis lt in
    let whole : reverse log.entries ≡ reverse (drop n log.entries) ++ reverse (take n log.entries) = parts log.entries n in
    record {
      folds = e ∙ (ap (rest_after home log) nis ∙ rest_folded home log calls.rows counts.conns.conns kept.sound.legal kept.shows.rows_are kept.shows.conns_are);
      sound = subst IsSound (sym e) m.sound;
      begun = subst BaseBegun (sym at) m.begun;
      unshut = subst (λ (x : History). list_any is_shut x.past ≡ false) (sym e) (newer_unshut log n u);
      owes = let o : owed (logged home new) ≡ owed (rest_after home log n) = ap owed e in omega (arith, o, rest_owed home log n kept.sound kept.begun u st, kept.owes, spare, ns);
      shows = subst (λ (x : History). Shows x handles calls (record { conns = conns; joined = counts.joined; accepted = counts.accepted; opened = counts.opened })) (sym e) (record {
        home_is = kept.shows.home_is;
        items_are = kept.shows.items_are ∙ sym st.items_same;
        rows_are = kept.shows.rows_are ∙ sym st.rows_same;
        joined_is = kept.shows.joined_is ∙ (ap (λ p. join_count (since home log.base p)) whole ∙ sym m.says.joins);
        conns_are = cis ∙ (kept.shows.conns_are ∙ sym st.conns_same);
        accepted_is = kept.shows.accepted_is ∙ (ap (λ p. accept_count (since home log.base p)) whole ∙ sym m.says.accepts);
        opened_is = kept.shows.opened_is ∙ (ap (λ p. opened (since home log.base p)) whole ∙ sym m.says.opens);
        issues = λ _. subst (λ (rs : List Row). openings_of rs ≤ handles.room) (sym st.rows_same) (kept.shows.issues u);
      });
      conn_room = room;
      joined_same = refl;
    }

-- the marks are those of what is left
pub fold_tells : (home : Home) (log mid : Logged) (n : ℕ) (base : Base) (m : Marked) (handles : Handles) (calls : OpenCalls) (counts : Counts) → IsKept home log handles calls counts → list_any is_shut (logged home log).past ≡ false → base ≡ base_after home log n → MarksLeft log base 2 m → Same log mid → MarksTell m base (reverse (drop n mid.entries))
fold_tells home log mid n base m handles calls counts kept u e left same =
    subst (λ (es : List Entry). MarksTell m base (reverse (drop n es))) (sym same.1) (rest_tells home log n 2 base m kept.sound kept.begun u e left)

-- nothing is changed
pub unready_kept : (home : Home) (log new : Logged) (handles : Handles) (calls : OpenCalls) (counts counts' : Counts) → IsKept home log handles calls counts → IsUnready log new counts counts' → IsKept home new handles calls counts'
unready_kept home log new handles calls counts counts' kept u =
    let e = sym (same_is home log new u.same) in
    record {
      sound = subst IsSound e kept.sound;
      begun = subst BaseBegun (sym u.same.0) kept.begun;
      owes = subst (λ (x : History). owed x ≡ new.spare) e (kept.owes ∙ sym u.spare);
      shows = subst (λ (x : History). Shows x handles calls counts') e (record {
        home_is = kept.shows.home_is;
        items_are = kept.shows.items_are;
        rows_are = kept.shows.rows_are;
        joined_is = u.joined_same ∙ kept.shows.joined_is;
        conns_are = u.conns_same ∙ kept.shows.conns_are;
        accepted_is = u.accepted_same ∙ kept.shows.accepted_is;
        opened_is = u.opened_same ∙ kept.shows.opened_is;
        issues = kept.shows.issues;
      });
    }

-- THE JOIN

number_is : (home : Home) (log mid : Logged) (handles : Handles) (calls : OpenCalls) (counts counts' : Counts) → IsReady home log mid handles calls counts counts' → counts'.joined + 1 ≡ join_count (logged home mid) + 1
number_is home log mid handles calls counts counts' r = ap (λ n. n + 1) r.shows.joined_is

fits : (home : Home) (log mid : Logged) (handles : Handles) (calls : OpenCalls) (counts counts' : Counts) → IsReady home log mid handles calls counts counts' → join_limit (logged home log) ≡ None → counts.joined ≡ join_count (logged home log) → Fits (logged home mid) (Join (counts'.joined + 1))
fits home log mid handles calls counts counts' r free before =
    (number_is home log mid handles calls counts counts' r, (let small = join_numbers (logged home log) free in omega (arith, small, r.joined_same, before)))

pub joined_kept : (home : Home) (log mid new : Logged) (handles : Handles) (calls : OpenCalls) (counts counts' : Counts) (conns : OpenConns) (place : ℕ) → IsReady home log mid handles calls counts counts' → join_limit (logged home log) ≡ None → counts.joined ≡ join_count (logged home log) → place ≡ size (logged home mid) → conns.conns ≡ counts'.conns.conns ++ record { conn = counts'.joined + 1; place = place } ∷ [] → Came mid (Join (counts'.joined + 1)) new → new.spare + 1 ≡ mid.spare → IsKept home new handles calls (record { joined = counts'.joined + 1; conns = conns; accepted = counts'.accepted; opened = counts'.opened })
joined_kept home log mid new handles calls counts counts' conns place r free before at o entries spare =
    let j : History = logged home mid in
    let c : ℕ = counts'.joined + 1 in
    let fit = fits home log mid handles calls counts counts' r free before in
    let sound = join_sound j c r.sound r.unshut fit in
    let there : conns.conns ≡ counts'.conns.conns ++ record { conn = c; place = size j } ∷ [] = o ∙ ap (λ p. counts'.conns.conns ++ record { conn = c; place = p } ∷ []) at in
    grown home mid new (Join c) handles calls (record { joined = c; conns = conns; accepted = counts'.accepted; opened = counts'.opened })
    (record {
      sound = sound;
      begun = r.begun;
      entries = entries;
      owes = omega (arith, join_owed j c r.sound.legal fit.0, r.owes, spare);
      shows = join_shows j c handles calls counts' conns r.shows sound.legal there;
    })

pub joined_adds : (home : Home) (log mid new : Logged) (handles : Handles) (calls : OpenCalls) (counts counts' : Counts) (c : ℕ) → IsReady home log mid handles calls counts counts' → Came mid (Join c) new → Adds (folded (logged home log)) (Join c ∷ []) (logged home new)
joined_adds home log mid new handles calls counts counts' c r entries = newest home mid new (Join c) entries ∙ ap (λ (x : History). with_entry x (Join c)) r.folds

pub joined_number : (home : Home) (log mid : Logged) (handles : Handles) (calls : OpenCalls) (counts counts' : Counts) → IsReady home log mid handles calls counts counts' → counts.joined ≡ join_count (logged home log) → counts'.joined + 1 ≡ join_count (logged home log) + 1
joined_number home log mid handles calls counts counts' r before = ap (λ n. n + 1) (r.joined_same ∙ before)

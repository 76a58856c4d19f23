-- A group is kept by each entry that fits.
use Rattle.std.proofs.Common.{◌≡◌, ℕ, ◌+◌, ◌≤◌, true, false, Option, List, [], ◌∷◌, ◌++◌, length, refl, sym, ◌∙◌, ap, subst, arith, reverse}
use Rattle.std.specs.List.{filter}
use Rattle.std.proofs.lemmas.List.{length-reverse}
use Rattle.handle_model.specs.declared.entry.Home.{Home}
use Rattle.handle_model.specs.declared.entry.Asked.{Asked}
use Rattle.handle_model.specs.declared.entry.Entry.{Entry}
use Rattle.handle_model.specs.declared.base.Base.{Base}
use Rattle.handle_model.specs.declared.entry.Entry.TheVariants.{Accept, Take, Deny, Cancel, Orphan}
use Rattle.handle_model.specs.Slots.{opens}
use Rattle.handle_model.specs.Journal.{waits, runs, Fits}
use Rattle.handle_model.specs.History.{History, IsSound, since, with_entry, size}
use Rattle.handle_model.proofs.Reversed.{reverse-snoc}
use Rattle.handle_model.proofs.Tests.{and_left, or_right}
use Rattle.handle_model.proofs.Steps.{accept_sound, take_sound, deny_sound, cancel_sound, orphan_sound}
use Rattle.handle_table.specs.Handles.{Handles}
use Rattle.call_table.specs.Rows.{OpenCalls, openings_of, with_start, with_cancel, with_orphan, without}
use Rattle.journal_tables.specs.Folding.{BaseBegun}
use Rattle.group_core.specs.declared.counts.Counts.{Counts}
use Rattle.group_core.specs.Owed.{owed}
use Rattle.group_core.specs.Kept.{IsKept, Logged, Came, Same, logged, Shows}
use Rattle.group_core.specs.Calls.{is_cancellable, is_orphanable}
use Rattle.group_core.proofs.Owing.{accept_owed, take_owed, deny_owed, ended_owed, flagged_owed, dropped_owed, unanswered_owed}
use Rattle.group_core.proofs.Shown.{accept_shows, take_shows, deny_shows, ended_shows, flagged_shows, dropped_shows, unanswered_shows}

-- what one entry more needs
pub record Grows (home : Home) (log new : Logged) (entry : Entry) (handles : Handles) (calls : OpenCalls) (counts : Counts) : Type 0 where
  pub sound : IsSound (with_entry (logged home log) entry)
  pub begun : BaseBegun log.base
  pub entries : Came log entry new
  pub owes : owed (with_entry (logged home log) entry) ≡ new.spare
  pub shows : Shows (with_entry (logged home log) entry) handles calls counts

pub newest : (home : Home) (log new : Logged) (entry : Entry) → Came log entry new → logged home new ≡ with_entry (logged home log) entry
newest home log new entry c =
    ap (λ (b : Base). since home b (reverse new.entries)) c.0 ∙ ap (λ (es : List Entry). since home log.base es) (ap reverse c.1 ∙ reverse-snoc log.entries entry)

pub grown : (home : Home) (log new : Logged) (entry : Entry) (handles : Handles) (calls : OpenCalls) (counts : Counts) → Grows home log new entry handles calls counts → IsKept home new handles calls counts
grown home log new entry handles calls counts g =
    let e = sym (newest home log new entry g.entries) in
    record {
      sound = subst IsSound e g.sound;
      begun = subst BaseBegun (sym g.entries.0) g.begun;
      owes = subst (λ (x : History). owed x ≡ new.spare) e g.owes;
      shows = subst (λ (x : History). Shows x handles calls counts) e g.shows;
    }

-- an entry that comes after more room was made
pub came_after : (log new : Logged) (base : Base) (entries : List Entry) (entry : Entry) → (base ≡ log.base) × (entries ≡ log.entries) → (new.base ≡ base) × (new.entries ≡ entries ++ entry ∷ []) → Came log entry new
came_after log new base entries entry s c = (c.0 ∙ s.0, c.1 ∙ ap (λ (es : List Entry). es ++ entry ∷ []) s.1)

-- the place of that entry
pub place_is : (home : Home) (log mid : Logged) (place : ℕ) → Same log mid → place ≡ mid.base.count + length mid.entries → place ≡ size (logged home log)
place_is home log mid place s e =
    let b : mid.base.count ≡ log.base.count = ap (λ (x : Base). x.count) s.0 in
    let n : length mid.entries ≡ length log.entries = ap length s.1 in
    let r : length (reverse log.entries) ≡ length log.entries = length-reverse log.entries in omega (arith, e, b, n, r)

pub same_is : (home : Home) (log new : Logged) → Same log new → logged home new ≡ logged home log
same_is home log new c = ap (λ (b : Base). since home b (reverse new.entries)) c.0 ∙ ap (λ (es : List Entry). since home log.base (reverse es)) c.1

-- a group whose tables have more room
pub roomier : (home : Home) (log new : Logged) (handles handles' : Handles) (calls calls' : OpenCalls) (counts : Counts) → IsKept home log handles calls counts → Same log new → log.spare ≡ new.spare → handles'.home ≡ handles.home → handles'.items ≡ handles.items → handles.room ≤ handles'.room → calls'.rows ≡ calls.rows → IsKept home new handles' calls' counts
roomier home log new handles handles' calls calls' counts kept same spare h i room r =
    let e = sym (same_is home log new same) in
    record {
      sound = subst IsSound e kept.sound;
      begun = subst BaseBegun (sym same.0) kept.begun;
      owes = subst (λ (x : History). owed x ≡ new.spare) e (kept.owes ∙ spare);
      shows = subst (λ (x : History). Shows x handles' calls' counts) e (record {
        home_is = h ∙ kept.shows.home_is;
        items_are = i ∙ kept.shows.items_are;
        rows_are = r ∙ kept.shows.rows_are;
        joined_is = kept.shows.joined_is;
        conns_are = kept.shows.conns_are;
        accepted_is = kept.shows.accepted_is;
        opened_is = kept.shows.opened_is;
        issues = λ u. omega (arith, kept.shows.issues u, room);
      });
    }

pub accept_kept : (home : Home) (log new : Logged) (k : ℕ) (a : Asked) (handles handles' : Handles) (calls calls' : OpenCalls) (counts : Counts) (n : ℕ) → IsKept home log handles calls counts → Fits (logged home log) (Accept k a) → Came log (Accept k a) new → log.spare + 4 ≡ new.spare → handles'.home ≡ handles.home → handles'.items ≡ handles.items → calls'.rows ≡ calls.rows ++ record { call = k; conn = a.conn; slots = a.slots; place = size (logged home log); runs = false; cancelled = false; orphaned = false } ∷ [] → n ≡ length (filter opens a.slots) → openings_of calls.rows + n ≤ handles'.room → IsKept home new handles' calls' (record { joined = counts.joined; conns = counts.conns; accepted = counts.accepted + 1; opened = counts.opened + n })
accept_kept home log new k a handles handles' calls calls' counts n kept fits entries spare h i r o room =
    let j = logged home log in
    let sound = accept_sound (logged home log) k a kept.sound fits in
    grown home log new (Accept k a) handles' calls' (record { joined = counts.joined; conns = counts.conns; accepted = counts.accepted + 1; opened = counts.opened + n })
    (record {
      sound = sound;
      begun = kept.begun;
      entries = entries;
      owes = omega (arith, accept_owed j k a sound.legal, kept.owes, spare);
      shows = accept_shows j k a handles handles' calls calls' counts n kept.shows sound.legal h i r o room;
    })

-- while a call waits, there is room for its Take
pub take_room : (home : Home) (log : Logged) (k : ℕ) (handles : Handles) (calls : OpenCalls) (counts : Counts) → IsKept home log handles calls counts → waits (logged home log) k ≡ true → 1 ≤ log.spare
take_room home log k handles calls counts kept w = let j = logged home log in omega (arith, take_owed j k [] kept.sound.legal w, kept.owes)

pub take_kept : (home : Home) (log new : Logged) (k : ℕ) (cookies : List (Option ℕ)) (handles : Handles) (calls calls' : OpenCalls) (counts : Counts) → IsKept home log handles calls counts → Fits (logged home log) (Take k cookies) → Came log (Take k cookies) new → new.spare + 1 ≡ log.spare → calls'.rows ≡ with_start k calls.rows → IsKept home new handles calls' counts
take_kept home log new k cookies handles calls calls' counts kept fits entries spare r =
    let j = logged home log in
    let sound = take_sound (logged home log) k cookies kept.sound fits in
    grown home log new (Take k cookies) handles calls' counts (record {
      sound = sound;
      begun = kept.begun;
      entries = entries;
      owes = omega (arith, take_owed j k cookies kept.sound.legal fits.0, kept.owes, spare);
      shows = take_shows j k cookies handles calls calls' counts kept.shows sound.legal r;
    })

-- and, if it is over, for all that might have come
pub over_room : (home : Home) (log : Logged) (k : ℕ) (handles : Handles) (calls : OpenCalls) (counts : Counts) → IsKept home log handles calls counts → waits (logged home log) k ≡ true → 4 ≤ log.spare
over_room home log k handles calls counts kept w = let j = logged home log in omega (arith, deny_owed j k 0 kept.sound.legal w, kept.owes)

pub deny_kept : (home : Home) (log new : Logged) (k v : ℕ) (handles : Handles) (calls calls' : OpenCalls) (counts : Counts) → IsKept home log handles calls counts → Fits (logged home log) (Deny k v) → Came log (Deny k v) new → new.spare + 4 ≡ log.spare → calls'.rows ≡ without k calls.rows → IsKept home new handles calls' counts
deny_kept home log new k v handles calls calls' counts kept fits entries spare r =
    let j = logged home log in
    let sound = deny_sound (logged home log) k v kept.sound fits in
    grown home log new (Deny k v) handles calls' counts (record {
      sound = sound;
      begun = kept.begun;
      entries = entries;
      owes = omega (arith, deny_owed j k v kept.sound.legal fits.0, kept.owes, spare);
      shows = deny_shows j k v handles calls calls' counts kept.shows sound.legal r;
    })

pub ended_kept : (home : Home) (log new : Logged) (k : ℕ) (handles : Handles) (calls calls' : OpenCalls) (counts : Counts) → IsKept home log handles calls counts → waits (logged home log) k ≡ true → Came log (Cancel k) new → new.spare + 4 ≡ log.spare → calls'.rows ≡ without k calls.rows → IsKept home new handles calls' counts
ended_kept home log new k handles calls calls' counts kept w entries spare r =
    let j = logged home log in
    let sound = cancel_sound (logged home log) k kept.sound (rw w refl) in
    grown home log new (Cancel k) handles calls' counts (record {
      sound = sound;
      begun = kept.begun;
      entries = entries;
      owes = omega (arith, ended_owed j k kept.sound.legal w, kept.owes, spare);
      shows = ended_shows j k handles calls calls' counts kept.shows sound.legal w r;
    })

pub flagged_room : (home : Home) (log : Logged) (k : ℕ) (handles : Handles) (calls : OpenCalls) (counts : Counts) → IsKept home log handles calls counts → is_cancellable (logged home log) k ≡ true → 1 ≤ log.spare
flagged_room home log k handles calls counts kept c =
    let j = logged home log in omega (arith, flagged_owed j k kept.sound.legal c, kept.owes)

pub flagged_kept : (home : Home) (log new : Logged) (k : ℕ) (handles : Handles) (calls calls' : OpenCalls) (counts : Counts) → IsKept home log handles calls counts → is_cancellable (logged home log) k ≡ true → Came log (Cancel k) new → new.spare + 1 ≡ log.spare → calls'.rows ≡ with_cancel k calls.rows → IsKept home new handles calls' counts
flagged_kept home log new k handles calls calls' counts kept c entries spare r =
    let j = logged home log in
    let sound = cancel_sound (logged home log) k kept.sound (or_right (waits j k) _ c) in
    grown home log new (Cancel k) handles calls' counts (record {
      sound = sound;
      begun = kept.begun;
      entries = entries;
      owes = omega (arith, flagged_owed j k kept.sound.legal c, kept.owes, spare);
      shows = flagged_shows j k handles calls calls' counts kept.shows sound.legal (and_left (runs j k) _ c) r;
    })

pub dropped_kept : (home : Home) (log new : Logged) (k : ℕ) (handles : Handles) (calls calls' : OpenCalls) (counts : Counts) → IsKept home log handles calls counts → waits (logged home log) k ≡ true → Came log (Orphan k) new → new.spare + 4 ≡ log.spare → calls'.rows ≡ without k calls.rows → IsKept home new handles calls' counts
dropped_kept home log new k handles calls calls' counts kept w entries spare r =
    let j = logged home log in
    let sound = orphan_sound (logged home log) k kept.sound (rw w refl) in
    grown home log new (Orphan k) handles calls' counts (record {
      sound = sound;
      begun = kept.begun;
      entries = entries;
      owes = omega (arith, dropped_owed j k kept.sound.legal w, kept.owes, spare);
      shows = dropped_shows j k handles calls calls' counts kept.shows sound.legal w r;
    })

pub unanswered_room : (home : Home) (log : Logged) (k : ℕ) (handles : Handles) (calls : OpenCalls) (counts : Counts) → IsKept home log handles calls counts → is_orphanable (logged home log) k ≡ true → 1 ≤ log.spare
unanswered_room home log k handles calls counts kept c =
    let j = logged home log in omega (arith, unanswered_owed j k kept.sound.legal c, kept.owes)

pub unanswered_kept : (home : Home) (log new : Logged) (k : ℕ) (handles : Handles) (calls calls' : OpenCalls) (counts : Counts) → IsKept home log handles calls counts → is_orphanable (logged home log) k ≡ true → Came log (Orphan k) new → new.spare + 1 ≡ log.spare → calls'.rows ≡ with_orphan k calls.rows → IsKept home new handles calls' counts
unanswered_kept home log new k handles calls calls' counts kept c entries spare r =
    let j = logged home log in
    let sound = orphan_sound (logged home log) k kept.sound (or_right (waits j k) _ c) in
    grown home log new (Orphan k) handles calls' counts (record {
      sound = sound;
      begun = kept.begun;
      entries = entries;
      owes = omega (arith, unanswered_owed j k kept.sound.legal c, kept.owes, spare);
      shows = unanswered_shows j k handles calls calls' counts kept.shows sound.legal (and_left (runs j k) _ c) r;
    })

-- The limits by the tables are those of the journal, and where none is reached the numbers fit.
use Rattle.std.proofs.Common.{◌≡◌, ℕ, ◌+◌, ◌<◌, ◌≤◌, ◌^◌, true, None, Some, Err, List, [], ◌∷◌, length, map, refl, ◌∙◌, ap, arith}
use Rattle.std.specs.List.{filter}
use Rattle.std.proofs.lemmas.Grind.{common_steps}
use Rattle.handle_model.specs.declared.entry.Home.{Home}
use Rattle.handle_model.specs.declared.entry.Slot.{Slot}
use Rattle.handle_model.specs.declared.entry.Asked.{Asked}
use Rattle.handle_model.specs.declared.entry.Entry.TheVariants.{Join, Accept}
use Rattle.handle_model.specs.Slots.{opens}
use Rattle.handle_model.specs.Journal.{Fits, is_open, conns, join_count, accept_count, opened, waiting, running, live, due_item}
use Rattle.handle_model.specs.Limits.{join_limit_at, join_limit, accept_limit_at, accept_limit, openings}
use Rattle.handle_model.proofs.Held.{follow-filled, count-filled, length-filled}
use Rattle.handle_table.specs.Handles.{Handles}
use Rattle.call_table.specs.Rows.{OpenCalls, openings_of}
use Rattle.call_table.proofs.Counts.{count_shown, openings_shown}
use Rattle.journal_tables.specs.declared.conns.OpenConn.{OpenConn}
use Rattle.journal_tables.proofs.Joined.{count_shown as conns_counted}
use Rattle.group_core.specs.declared.counts.Counts.{Counts}
use Rattle.handle_model.specs.declared.limits.AcceptLimit.{AcceptLimit}
use Rattle.handle_model.specs.declared.limits.AcceptLimit.TheVariants as limit
use Rattle.handle_model.specs.History.{History}
use Rattle.group_core.specs.Refusals.{refusal_of}
use Rattle.group_core.specs.Calls.{numbered, Accepts}
use Rattle.group_core.specs.Kept.{IsKept, Logged, logged}

pub join_limit_is : (home : Home) (log : Logged) (handles : Handles) (calls : OpenCalls) (counts : Counts) → IsKept home log handles calls counts → join_limit_at (length counts.conns.conns) (counts.joined + 1) ≡ join_limit (logged home log)
join_limit_is home log handles calls counts kept =
    let open_ : length counts.conns.conns ≡ length (conns (logged home log)) = ap (λ (os : List OpenConn). length os) kept.shows.conns_are ∙ conns_counted (logged home log) in
    rw (open_, kept.shows.joined_is) refl

item_count : (j : History) (hs : List ℕ) → length (map (due_item j) hs) ≡ length hs
item_count j [] = refl
item_count j (h ∷ hs) = let more = item_count j hs in grind (arith, common_steps)

pub accept_limit_is : (home : Home) (log : Logged) (handles : Handles) (calls : OpenCalls) (counts : Counts) (ss : List Slot) (n : ℕ) → IsKept home log handles calls counts → n ≡ length (filter opens ss) → accept_limit_at (length calls.rows) (length handles.items + openings_of calls.rows + n) (counts.accepted + 1) (counts.opened + n) ≡ accept_limit (logged home log) ss
accept_limit_is home log handles calls counts ss n kept e =
    let j = logged home log in
    let busy : length calls.rows ≡ length (waiting j) + length (running j) = ap length kept.shows.rows_are ∙ count_shown j kept.sound.legal in
    let many : length handles.items ≡ length (live j) = ap length kept.shows.items_are ∙ item_count j (live j) in
    let more : openings_of calls.rows ≡ openings j (waiting j) + openings j (running j) = ap openings_of kept.shows.rows_are ∙ openings_shown j kept.sound.legal in
    let all : length handles.items + openings_of calls.rows + n ≡ length (live j) + openings j (waiting j) + openings j (running j) + length (filter opens ss) = omega (arith, many, more, e) in
    rw (all, busy, kept.shows.accepted_is, kept.shows.opened_is, e) refl

pub join_numbers : (j : History) → join_limit j ≡ None → join_count j + 1 < 2 ^ 32
join_numbers j h = grind (arith, common_steps)

pub fits_join : (j : History) (c : ℕ) → join_limit j ≡ None → c ≡ join_count j + 1 → Fits j (Join c)
fits_join j c h e = (e, rw e (join_numbers j h))

pub accept_numbers : (j : History) (ss : List Slot) → accept_limit j ss ≡ None → (accept_count j + 1 < 2 ^ 32) × (opened j + length (filter opens ss) < 2 ^ 32)
accept_numbers j ss h = grind (arith, common_steps)

pub fits_accept : (j : History) (a b : Asked) (k : ℕ) → is_open j a.conn ≡ true → length a.slots ≤ 4 → accept_limit j a.slots ≡ None → k ≡ accept_count j + 1 → b ≡ numbered j a → Fits j (Accept k b)
fits_accept j a b k o f h e q =
    let w = accept_numbers j a.slots h in
    rw q (e, o, rw (length-filled (opened j) a.slots) f, follow-filled (opened j) a.slots, rw (count-filled (opened j) a.slots) w.1, rw e w.0)

-- numbered slots are as many, and open as many handles
pub opens_numbered : (j : History) (a b : Asked) (n : ℕ) → b ≡ numbered j a → n ≡ length (filter opens a.slots) → n ≡ length (filter opens b.slots)
opens_numbered j a b n q e = rw (q, count-filled (opened j) a.slots) e

pub few_numbered : (j : History) (a b : Asked) → b ≡ numbered j a → length a.slots ≤ 4 → length b.slots ≤ 4
few_numbered j a b q f = rw (q, length-filled (opened j) a.slots) f

-- what is refused comes back
pub refused : (h : History) (a : Asked) (l : AcceptLimit) → accept_limit h a.slots ≡ Some l → Accepts h a (Err (a, refusal_of l)) h
refused h a limit.Calls e = (e, refl, refl)
refused h a limit.Handles e = (e, refl, refl)
refused h a limit.Numbers e = (e, refl, refl)

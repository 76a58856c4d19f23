-- What a group's tables say of a call, and what its calls add.
use Rattle.std.proofs.Common.{◌≡◌, ℕ, ◌+◌, ◌≤◌, Bool, true, false, ◌||◌, if◌then◌else◌, Option, Some, None, List, [], ◌∷◌, length, take, refl, sym, ◌∙◌, ap, subst, arith, inl, inr}
use Rattle.std.proofs.lemmas.Bool.{cases_Bool}
use Rattle.std.proofs.lemmas.Grind.{common_steps}
use Rattle.handle_model.specs.declared.entry.Home.{Home}
use Rattle.handle_model.specs.declared.entry.Slot.{Slot}
use Rattle.handle_model.specs.declared.entry.DueItem.{DueItem}
use Rattle.handle_model.specs.declared.entry.Asked.{Asked}
use Rattle.handle_model.specs.declared.entry.Entry.{Entry}
use Rattle.handle_model.specs.declared.entry.Entry.TheVariants.{Take, Deny}
use Rattle.handle_model.specs.Journal.{is_cancelled, is_orphaned, asked, waits, runs, slots, blocker, fault, cookies_for, due_items, Fits}
use Rattle.handle_model.specs.History.{History}
use Rattle.handle_model.proofs.Held.{slots_few}
use Rattle.handle_table.specs.Handles.{Handles}
use Rattle.handle_table.specs.Uses.{fault_at, cookies_at}
use Rattle.handle_table.proofs.Named.{fault_shown, cookies_shown}
use Rattle.call_table.specs.declared.row.Row.{Row}
use Rattle.call_table.specs.Rows.{OpenCalls, row_at, slots_in, slots_at, conflict_of, waits_at, runs_at, no_cookies}
use Rattle.call_table.specs.Ahead.{greatest, calls_ahead, last_ahead, last_at}
use Rattle.call_table.specs.Shown.{row_in, row_as, call_row}
use Rattle.call_table.specs.Based.{asked_at}
use Rattle.call_table.specs.Laws.{open_asked}
use Rattle.call_table.proofs.Stored.{asked_shown}
use Rattle.call_table.proofs.Lasting.{last_shown}
use Rattle.call_table.proofs.Found.{row_shown, slots_shown, waits_shown, runs_shown, conflict_shown}
use Rattle.group_core.specs.declared.counts.Counts.{Counts}
use Rattle.group_core.specs.declared.judge.Judged.{Judged}
use Rattle.group_core.specs.declared.judge.Judged.TheVariants.{Free, AtFault, Blocked, NotWaiting}
use Rattle.group_core.specs.Adds.{Adds}
use Rattle.group_core.specs.Calls.{cookie_row, first_serial, is_cancellable, is_orphanable}
use Rattle.group_core.specs.Judges.{Judges, waits_in, runs_in, tells_in, drops_in, left_in, stage_in, ahead_in}
use Rattle.group_core.specs.Stages.{stage_of}
use Rattle.group_core.specs.Kept.{IsKept, Logged, Came, logged}
use Rattle.group_core.proofs.Found.{waits_row, runs_row, tells_row, drops_row, left_row}
use Rattle.group_core.proofs.Keeping.{newest}

-- one entry came
pub adds_one : (home : Home) (log new : Logged) (entry : Entry) → Came log entry new → Adds (logged home log) (entry ∷ []) (logged home new)
adds_one home log new entry c = newest home log new entry c

-- THE ROW OF A CALL

row_is : (home : Home) (log : Logged) (handles : Handles) (calls : OpenCalls) (counts : Counts) (k : ℕ) → IsKept home log handles calls counts → row_at calls.rows k ≡ row_in (logged home log) k
row_is home log handles calls counts k kept = ap (λ (rs : List Row). row_at rs k) kept.shows.rows_are ∙ row_shown (logged home log) k

pub waits_is : (home : Home) (log : Logged) (handles : Handles) (calls : OpenCalls) (counts : Counts) (k : ℕ) → IsKept home log handles calls counts → waits_in (row_at calls.rows k) ≡ waits (logged home log) k
waits_is home log handles calls counts k kept = ap waits_in (row_is home log handles calls counts k kept) ∙ waits_row (logged home log) k

pub runs_is : (home : Home) (log : Logged) (handles : Handles) (calls : OpenCalls) (counts : Counts) (k : ℕ) → IsKept home log handles calls counts → runs_in (row_at calls.rows k) ≡ runs (logged home log) k
runs_is home log handles calls counts k kept =
    ap runs_in (row_is home log handles calls counts k kept) ∙ runs_row (logged home log) k kept.sound.legal

pub tells_is : (home : Home) (log : Logged) (handles : Handles) (calls : OpenCalls) (counts : Counts) (k : ℕ) → IsKept home log handles calls counts → tells_in (row_at calls.rows k) ≡ is_cancellable (logged home log) k
tells_is home log handles calls counts k kept =
    ap tells_in (row_is home log handles calls counts k kept) ∙ tells_row (logged home log) k kept.sound.legal

pub drops_is : (home : Home) (log : Logged) (handles : Handles) (calls : OpenCalls) (counts : Counts) (k : ℕ) → IsKept home log handles calls counts → drops_in (row_at calls.rows k) ≡ is_orphanable (logged home log) k
drops_is home log handles calls counts k kept =
    ap drops_in (row_is home log handles calls counts k kept) ∙ drops_row (logged home log) k kept.sound.legal

pub left_is : (home : Home) (log : Logged) (handles : Handles) (calls : OpenCalls) (counts : Counts) (k : ℕ) → IsKept home log handles calls counts → runs (logged home log) k ≡ true → left_in (row_at calls.rows k) ≡ (if is_cancelled (logged home log) k then 0 else 1) + (if is_orphaned (logged home log) k then 0 else 1)
left_is home log handles calls counts k kept r =
    ap left_in (row_is home log handles calls counts k kept) ∙ left_row (logged home log) k kept.sound.legal r

pub waits_there : (home : Home) (log : Logged) (handles : Handles) (calls : OpenCalls) (counts : Counts) (k : ℕ) → IsKept home log handles calls counts → waits_at calls.rows k ≡ waits (logged home log) k
waits_there home log handles calls counts k kept = ap (λ (rs : List Row). waits_at rs k) kept.shows.rows_are ∙ waits_shown (logged home log) k

pub runs_there : (home : Home) (log : Logged) (handles : Handles) (calls : OpenCalls) (counts : Counts) (k : ℕ) → IsKept home log handles calls counts → runs_at calls.rows k ≡ runs (logged home log) k
runs_there home log handles calls counts k kept =
    ap (λ (rs : List Row). runs_at rs k) kept.shows.rows_are ∙ runs_shown (logged home log) k kept.sound.legal

pub slots_there : (home : Home) (log : Logged) (handles : Handles) (calls : OpenCalls) (counts : Counts) (k : ℕ) → IsKept home log handles calls counts → (waits (logged home log) k || runs (logged home log) k) ≡ true → slots_at calls.rows k ≡ slots (logged home log) k
slots_there home log handles calls counts k kept a =
    ap (λ (rs : List Row). slots_at rs k) kept.shows.rows_are ∙ slots_shown (logged home log) k kept.sound.legal a

-- THE CALL MAY BE TAKEN, OR NOT

abbrev pub JudgesPast : History → ℕ → Judged → Type 0
JudgesPast j k (Free row serial) =
    Fits j (Take k (cookies_for j (slots j k))) × (row ≡ cookie_row (cookies_for j (slots j k))) × (serial ≡ first_serial (slots j k))
JudgesPast j k (AtFault v) = Fits j (Deny k v)
JudgesPast j k (Blocked m) = (waits j k ≡ true) × (blocker j k ≡ Some m)
JudgesPast j k NotWaiting = waits j k ≡ false

blocker_is : (home : Home) (log : Logged) (handles : Handles) (calls : OpenCalls) (counts : Counts) (k : ℕ) → IsKept home log handles calls counts → waits (logged home log) k ≡ true → conflict_of calls.rows k ≡ blocker (logged home log) k
blocker_is home log handles calls counts k kept w =
    ap (λ (rs : List Row). conflict_of rs k) kept.shows.rows_are ∙ conflict_shown (logged home log) k kept.sound.legal w

-- the last in its way
pub ahead_is : (home : Home) (log : Logged) (handles : Handles) (calls : OpenCalls) (counts : Counts) (k : ℕ) → IsKept home log handles calls counts → ahead_in calls.rows k ≡ last_ahead (logged home log) k
ahead_is home log handles calls counts k kept =
    let j = logged home log in
    let w : waits_in (row_at calls.rows k) ≡ waits j k = waits_is home log handles calls counts k kept in
    elim (cases_Bool (waits j k)) [
      | inl t ↦
          ap (λ b. if b then last_at calls.rows k else None) (w ∙ t)
          ∙ (ap (λ (rs : List Row). last_at rs k) kept.shows.rows_are ∙ last_shown j k kept.sound.legal t)
      | inr f ↦ ap (λ b. if b then last_at calls.rows k else None) (w ∙ f) ∙ sym (ap (λ b. if b then greatest (calls_ahead j k) else None) f)
    ]

fault_is : (home : Home) (log : Logged) (handles : Handles) (calls : OpenCalls) (counts : Counts) (k : ℕ) → IsKept home log handles calls counts → waits (logged home log) k ≡ true → fault_at handles.home handles.items (slots_at calls.rows k) ≡ fault (logged home log) k
fault_is home log handles calls counts k kept w =
    let j = logged home log in
    let there = slots_there home log handles calls counts k kept (rw w refl) in
    ap (λ (h : Home). fault_at h handles.items (slots_at calls.rows k)) kept.shows.home_is
    ∙ (ap (λ (is : List DueItem). fault_at home is (slots_at calls.rows k)) kept.shows.items_are
    ∙ (ap (λ (ss : List Slot). fault_at home (due_items j) ss) there ∙ fault_shown j (slots j k) kept.sound.legal))

cookies_are : (home : Home) (log : Logged) (handles : Handles) (calls : OpenCalls) (counts : Counts) (k : ℕ) → IsKept home log handles calls counts → waits (logged home log) k ≡ true → fault (logged home log) k ≡ None → cookies_at handles.home handles.items (slots_at calls.rows k) ≡ cookies_for (logged home log) (slots (logged home log) k)
cookies_are home log handles calls counts k kept w f =
    let j = logged home log in
    let there = slots_there home log handles calls counts k kept (rw w refl) in
    ap (λ (h : Home). cookies_at h handles.items (slots_at calls.rows k)) kept.shows.home_is
    ∙ (ap (λ (is : List DueItem). cookies_at home is (slots_at calls.rows k)) kept.shows.items_are
    ∙ (ap (λ (ss : List Slot). cookies_at home (due_items j) ss) there ∙ cookies_shown j (slots j k) kept.sound.legal f))

pub judged : (home : Home) (log : Logged) (handles : Handles) (calls : OpenCalls) (counts : Counts) (k : ℕ) (v : Judged) → IsKept home log handles calls counts → Judges handles.home handles.items calls.rows k v → JudgesPast (logged home log) k v
judged home log handles calls counts k (Free row serial) kept v =
    let j = logged home log in
    let w : waits j k ≡ true = sym (waits_is home log handles calls counts k kept) ∙ v.0 in
    let b : blocker j k ≡ None = sym (blocker_is home log handles calls counts k kept w) ∙ v.1 in
    let f : fault j k ≡ None = sym (fault_is home log handles calls counts k kept w) ∙ v.2 in
    let there = slots_there home log handles calls counts k kept (rw w refl) in
    ((w, b, f, refl), v.3 ∙ ap cookie_row (cookies_are home log handles calls counts k kept w f), v.4 ∙ ap first_serial there)
judged home log handles calls counts k (AtFault i) kept v =
    let j = logged home log in
    let w : waits j k ≡ true = sym (waits_is home log handles calls counts k kept) ∙ v.0 in
    (w, sym (blocker_is home log handles calls counts k kept w) ∙ v.1, sym (fault_is home log handles calls counts k kept w) ∙ v.2)
judged home log handles calls counts k (Blocked m) kept v =
    let j = logged home log in
    let w : waits j k ≡ true = sym (waits_is home log handles calls counts k kept) ∙ v.0 in
    (w, sym (blocker_is home log handles calls counts k kept w) ∙ v.1)
judged home log handles calls counts k NotWaiting kept v = sym (waits_is home log handles calls counts k kept) ∙ v

-- what is written in the list of a call is what it was handed
row_back : (cs : List (Option ℕ)) (n : ℕ) → n ≡ length cs → length cs ≤ 4 → take n (cookie_row cs) ≡ cs
row_back [] n e f = rw e refl
row_back (a ∷ []) n e f = rw e refl
row_back (a ∷ b ∷ []) n e f = rw e refl
row_back (a ∷ b ∷ c ∷ []) n e f = rw e refl
row_back (a ∷ b ∷ c ∷ d ∷ []) n e f = rw e refl
row_back (a ∷ b ∷ c ∷ d ∷ x ∷ cs) n e f = absurd (omega (arith, f))

same_length : (j : History) (ss : List Slot) → length (no_cookies ss) ≡ length (cookies_for j ss)
same_length j [] = refl
same_length j (s ∷ ss) = let more = same_length j ss in grind (arith, common_steps)

cookie_count : (j : History) (ss : List Slot) → length (cookies_for j ss) ≡ length ss
cookie_count j [] = refl
cookie_count j (s ∷ ss) = let more = cookie_count j ss in grind (arith, common_steps)

pub handed : (home : Home) (log : Logged) (handles : Handles) (calls : OpenCalls) (counts : Counts) (k : ℕ) (row list cookies : List (Option ℕ)) → IsKept home log handles calls counts → waits (logged home log) k ≡ true → row ≡ cookie_row (cookies_for (logged home log) (slots (logged home log) k)) → list ≡ no_cookies (slots_at calls.rows k) → cookies ≡ take (length list) row → cookies ≡ cookies_for (logged home log) (slots (logged home log) k)
handed home log handles calls counts k row list cookies kept w e n c =
    let j = logged home log in
    let cs = cookies_for j (slots j k) in
    let there = slots_there home log handles calls counts k kept (rw w refl) in
    let many : length list ≡ length cs = ap length (n ∙ ap no_cookies there) ∙ same_length j (slots j k) in
    let few = slots_few j.home j.base j.past k kept.sound.legal in
    c ∙ (ap (take (length list)) e ∙ row_back cs (length list) many (omega (arith, few, cookie_count j (slots j k))))

blank_count : (ss : List Slot) → length (no_cookies ss) ≡ length ss
blank_count [] = refl
blank_count (s ∷ ss) = let more = blank_count ss in grind (arith, common_steps)

pub few_blanks : (home : Home) (log : Logged) (handles : Handles) (calls : OpenCalls) (counts : Counts) (k : ℕ) (list : List (Option ℕ)) → IsKept home log handles calls counts → waits (logged home log) k ≡ true → list ≡ no_cookies (slots_at calls.rows k) → length list ≤ 4
few_blanks home log handles calls counts k list kept w n =
    let j = logged home log in
    let there = slots_there home log handles calls counts k kept (rw w refl) in
    let many : length list ≡ length (slots j k) = ap length (n ∙ ap no_cookies there) ∙ blank_count (slots j k) in
    omega (arith, many, slots_few j.home j.base j.past k kept.sound.legal)

-- where a call is
pub stage_is : (home : Home) (log : Logged) (handles : Handles) (calls : OpenCalls) (counts : Counts) (k : ℕ) → IsKept home log handles calls counts → stage_in (row_at calls.rows k) ≡ stage_of (logged home log) k
stage_is home log handles calls counts k kept =
    rw (waits_is home log handles calls counts k kept, runs_is home log handles calls counts k kept) refl

-- at most four slots, where the call is there
few_pick : (b : Bool) (x : Row) → length x.slots ≤ 4 → length (slots_in (if b then Some x else None)) ≤ 4
few_pick true x f = f
few_pick false x f = omega arith

few_row : (j : History) (k : ℕ) (o : Option Asked) → asked j k ≡ o → length (slots j k) ≤ 4 → length (slots_in (row_as j k o)) ≤ 4
few_row j k None e f = omega arith
few_row j k (Some a) e f = few_pick (waits j k || runs j k) (call_row j k a) (rw e at f)

pub few_there : (home : Home) (log : Logged) (handles : Handles) (calls : OpenCalls) (counts : Counts) (k : ℕ) → IsKept home log handles calls counts → length (slots_at calls.rows k) ≤ 4
few_there home log handles calls counts k kept =
    let j = logged home log in
    subst (λ (o : Option Row). length (slots_in o) ≤ 4) (sym (row_is home log handles calls counts k kept))
    (few_row j k (asked j k) refl (slots_few j.home j.base j.past k kept.sound.legal))

-- what a call asked is found by its row
pub asked_there : (home : Home) (log : Logged) (handles : Handles) (calls : OpenCalls) (counts : Counts) (k : ℕ) → IsKept home log handles calls counts → asked_at log.base log.entries calls.rows k ≡ open_asked (logged home log) k
asked_there home log handles calls counts k kept =
    ap (λ (rs : List Row). asked_at log.base log.entries rs k) kept.shows.rows_are ∙ asked_shown home log.base log.entries k kept.sound.legal

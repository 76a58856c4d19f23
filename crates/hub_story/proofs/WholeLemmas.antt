-- What a group answers by the journal as it keeps it, it answers by the whole one.
use Rattle.std.proofs.Common.{◌≡◌, ℕ, ◌+◌, ◌-◌, ◌≤◌, ◌<◌, Bool, true, false, ◌&&◌, ◌||◌, not, Option, Some, None, Result, Ok, Err, List, [], ◌∷◌, ◌++◌, length, map, refl, sym, ◌∙◌, ap, subst, arith, inl, inr, length-append}
use Rattle.std.specs.List.{list_any, filter}
use Rattle.std.proofs.lemmas.Bool.{cases_Bool, false_from_ne_true}
use Rattle.handle_model.specs.declared.entry.Home.{Home}
use Rattle.handle_model.specs.declared.entry.Slot.{Slot}
use Rattle.handle_model.specs.declared.entry.Asked.{Asked}
use Rattle.handle_model.specs.declared.entry.Outcome.{Outcome}
use Rattle.handle_model.specs.declared.entry.Said.{Said}
use Rattle.handle_model.specs.declared.entry.DueItem.{DueItem}
use Rattle.handle_model.specs.declared.entry.Entry.{Entry}
use Rattle.handle_model.specs.declared.entry.Entry.TheVariants.{Join, Accept, Take, Deny, Cancel, Orphan, End, Leave, Shut}
use Rattle.handle_model.specs.Bases.{empty_base}
use Rattle.handle_model.specs.Folds.{folded, floor}
use Rattle.handle_model.specs.Slots.{opens}
use Rattle.handle_model.specs.History.{History, IsSound, since, with_entry}
use Rattle.handle_model.specs.Journal.{Legal, Allowed, asked, slots, slots_in, is_shut, waits, runs, waiting, running, is_open, is_cancelled, is_orphaned, blocker, fault, fault_in, cookies_for, conns, join_count, accept_count, opened, live, due, due_item, due_items, suit}
use Rattle.handle_model.specs.Limits.{join_limit, join_limit_at, accept_limit, accept_limit_at, openings}
use Rattle.handle_model.proofs.Tests.{and_left, and_right}
use Rattle.handle_model.proofs.Held.{open_not_due, runs_not_due}
use Rattle.handle_model.proofs.Steps.{open_unshut, runs_unshut}
use Rattle.call_table.specs.declared.row.Row.{Row}
use Rattle.call_table.specs.Rows.{openings_of}
use Rattle.call_table.specs.Shown.{rows_of}
use Rattle.call_table.proofs.Calls.{waits_idle}
use Rattle.call_table.proofs.Counts.{count_shown, openings_shown}
use Rattle.handle_model.specs.Further.{with_entries}
use Rattle.journal_tables.specs.Tables.{Tables}
use Rattle.journal_tables.specs.Shown.{tables_of}
use Rattle.journal_tables.specs.Unplaced.{row_unplaced, unplaced}
use Rattle.journal_tables.specs.Folding.{BaseBegun, SaysSame}
use Rattle.group_core.specs.declared.answer.AcceptRefusal.TheVariants as refusal
use Rattle.group_core.specs.declared.answer.JoinRefusal.TheVariants as join_refusal
use Rattle.group_core.specs.declared.answer.AcceptRefusal.{AcceptRefusal}
use Rattle.group_core.specs.declared.answer.JoinRefusal.{JoinRefusal}
use Rattle.group_core.specs.declared.answer.Taking.{Taking}
use Rattle.group_core.specs.declared.answer.Taking.TheVariants as taking
use Rattle.group_core.specs.declared.answer.Cancelled.{Cancelled}
use Rattle.group_core.specs.declared.answer.Cancelled.TheVariants as cancelled
use Rattle.group_core.specs.declared.answer.Orphaned.{Orphaned}
use Rattle.group_core.specs.declared.answer.Orphaned.TheVariants as orphaned
use Rattle.group_core.specs.declared.answer.Rest.{Rest}
use Rattle.group_core.specs.declared.answer.Rest.TheVariants as rest
use Rattle.group_core.specs.Adds.{Adds}
use Rattle.group_core.specs.Conns.{Joins, Settles}
use Rattle.group_core.specs.Calls.{Accepts, Takes, Cancels, Orphans, numbered, cookie_row, first_serial, is_cancellable, is_orphanable}
use Rattle.group_core.specs.Stages.{stage_of}
use Rattle.hub_story.specs.Folded.{kept_since, kept_with, kept}
use Rattle.hub_story.specs.Answers.{JoinsWhole}
use Rattle.journal_tables.specs.FoldOf.{IsFoldOf, StandsFor}
use Rattle.journal_tables.proofs.Alike.{folds_stand, folds_on}
use Rattle.journal_tables.proofs.Back.{folds_back}
use Rattle.hub_story.proofs.FoldLemmas.{Alike, alike, says, sound_more, refold, shut_kept, kept_folds}

-- the group, which kept the journal of these entries, keeps it with some more, and answers so by the whole one
pub record Keeps (home : Home) (past : List Entry) (y : History) (Answers : History → History → Type 0) : Type 0 where
  pub es : List Entry
  pub kept_is : y ≡ kept_since home (es ++ past)
  pub new_is : length es ≤ length y.past
  pub sound : IsSound (since home empty_base (es ++ past))
  pub answers : Answers (since home empty_base past) (since home empty_base (es ++ past))

begun : BaseBegun empty_base
begun = inr refl

or_first : (a b : Bool) → a ≡ true → (a || b) ≡ true
or_first a b h = rw h refl

or_second : (a b : Bool) → b ≡ true → (a || b) ≡ true
or_second true b h = refl
or_second false b h = h

more_is : (x y : History) (es : List Entry) → y ≡ with_entries x es → length es ≤ length y.past
more_is x y es e = let n : length y.past ≡ length (es ++ x.past) = ap (λ (z : History). length z.past) e in let m = length-append es x.past in omega arith

module _ (home : Home) (past : List Entry) where
  abbrev pub whole : History
  whole = since home empty_base past

  abbrev pub mine : History
  mine = kept_since home past

  -- behind the journal as it was kept
  keeps : (y : History) (es : List Entry) (Answers : History → History → Type 0) → IsSound whole → y ≡ with_entries mine es → kept_since home (es ++ past) ≡ with_entries mine es → IsSound y
      → Answers whole (with_entries whole es) → Keeps home past y Answers
  keeps y es Answers s e k ys a = record {
    es = es;
    kept_is = e ∙ sym k;
    new_is = more_is mine y es e;
    sound = sound_more mine whole es (kept_folds home past s.legal) begun s.legal (subst IsSound e ys);
    answers = a;
  }

  pub says_kept : IsSound whole → list_any is_shut past ≡ false → SaysSame mine whole
  says_kept s u = says mine whole (kept_folds home past s.legal) begun s u

  pub alike_kept : Legal whole → Alike mine whole
  alike_kept l = alike mine whole (kept_folds home past l) begun l

  stands_kept : Legal whole → StandsFor mine whole
  stands_kept l = folds_stand mine whole l begun (kept_folds home past l)

  pub waits_kept : Legal whole → (k : ℕ) → waits mine k ≡ waits whole k
  waits_kept l k = (stands_kept l).waits_same k

  pub runs_kept : Legal whole → (k : ℕ) → runs mine k ≡ runs whole k
  runs_kept l k = (stands_kept l).runs_same k

  pub stage_kept : Legal whole → (k : ℕ) → stage_of mine k ≡ stage_of whole k
  stage_kept l k = rw (waits_kept l k, runs_kept l k) refl

  -- CONDITIONS

  pub unshut_kept : Legal whole → list_any is_shut past ≡ false → list_any is_shut mine.past ≡ false
  unshut_kept l u = shut_kept mine whole (kept_folds home past l) u

  pub open_kept : (c : ℕ) → IsSound whole → is_open whole c ≡ true → is_open mine c ≡ true
  open_kept c s o =
      let u = open_unshut home empty_base past c s.legal o in
      let quiet = open_not_due whole c o in
      let a : Allowed whole (Leave c) = record { before_shut = u; shut_when_due = λ d. absurd (let f = sym d ∙ quiet in cc); fits = o } in
      (((says_kept s u).allows (Leave c)).1 a).fits

  pub runs_mine : (k : ℕ) → IsSound whole → runs whole k ≡ true → runs mine k ≡ true
  runs_mine k s r = runs_kept s.legal k ∙ r

  pub slots_kept : (k : ℕ) → Legal whole → (waits whole k || runs whole k) ≡ true → slots mine k ≡ slots whole k
  slots_kept k l w = ap slots_in ((alike_kept l).asked_same k w)

  pub suit_kept : (k : ℕ) (results : List Outcome) → IsSound whole → runs whole k ≡ true → suit (slots whole k) results ≡ true → suit (slots mine k) results ≡ true
  suit_kept k results s r h = ap (λ ss. suit ss results) (slots_kept k s.legal (or_second (waits whole k) (runs whole k) r)) ∙ h

  -- ANSWERS

  pub takes_whole : (k : ℕ) (r : Taking) (y : History) → IsSound whole → list_any is_shut past ≡ false → Takes mine k r y → IsSound y → Keeps home past y (λ a b. Takes a k r b)
  takes_whole k (taking.Run row serial) y s u t ys =
      let q = says_kept s u in
      let w : waits whole k ≡ true = sym (q.waits_same k) ∙ t.0 in
      let ss = slots_kept k s.legal (or_first (waits whole k) (runs whole k) w) in
      let f : fault whole k ≡ None = sym (q.faults (slots whole k)) ∙ (ap (fault_in mine) (sym ss) ∙ t.2) in
      let c : cookies_for mine (slots mine k) ≡ cookies_for whole (slots whole k) = ap (cookies_for mine) ss ∙ q.cookies (slots whole k) f in
      let es : List Entry = Take k (cookies_for whole (slots whole k)) ∷ [] in
      keeps y es (λ a b. Takes a k (taking.Run row serial) b) s (t.5 ∙ ap (λ l. with_entries mine (Take k l ∷ [])) c) refl ys
      (w, sym (q.blockers k w) ∙ t.1, f, t.3 ∙ ap cookie_row c, t.4 ∙ ap first_serial ss, refl)
  takes_whole k (taking.Denied slot) y s u t ys =
      let q = says_kept s u in
      let w : waits whole k ≡ true = sym (q.waits_same k) ∙ t.0 in
      let ss = slots_kept k s.legal (or_first (waits whole k) (runs whole k) w) in
      let f : fault whole k ≡ Some slot = sym (q.faults (slots whole k)) ∙ (ap (fault_in mine) (sym ss) ∙ t.2) in
      keeps y (Deny k slot ∷ []) (λ a b. Takes a k (taking.Denied slot) b) s t.3 refl ys (w, sym (q.blockers k w) ∙ t.1, f, refl)
  takes_whole k taking.Dropped y s u t ys = keeps y [] (λ a b. Takes a k taking.Dropped b) s t.1 refl ys (sym (waits_kept s.legal k) ∙ t.0, refl)
  takes_whole k (taking.Wait m) y s u t ys =
      let q = says_kept s u in
      let w : waits whole k ≡ true = sym (q.waits_same k) ∙ t.0 in
      keeps y [] (λ a b. Takes a k (taking.Wait m) b) s t.2 refl ys (w, sym (q.blockers k w) ∙ t.1, refl)

  -- a running call without a mark may be cancelled
  may_cancel : (j : History) (k : ℕ) → due j ≡ false → list_any is_shut j.past ≡ false → is_cancellable j k ≡ true → Allowed j (Cancel k)
  may_cancel j k quiet u h = record { before_shut = u; shut_when_due = λ d. absurd (let f = sym d ∙ quiet in cc); fits = or_second (waits j k) (is_cancellable j k) h }

  may_orphan : (j : History) (k : ℕ) → due j ≡ false → list_any is_shut j.past ≡ false → is_orphanable j k ≡ true → Allowed j (Orphan k)
  may_orphan j k quiet u h = record { before_shut = u; shut_when_due = λ d. absurd (let f = sym d ∙ quiet in cc); fits = or_second (waits j k) (is_orphanable j k) h }

  second_of : (a b : Bool) → (a ≡ true → ⊥) → (a || b) ≡ true → b ≡ true
  second_of true b n h = absurd (n refl)
  second_of false b n h = h

  not_waiting : (j : History) (k : ℕ) → runs j k ≡ true → waits j k ≡ true → ⊥
  not_waiting j k r w = let idle = waits_idle j k w in let f = sym r ∙ idle in absurd cc

  cancellable_whole : (k : ℕ) → IsSound whole → list_any is_shut past ≡ false → is_cancellable mine k ≡ true → is_cancellable whole k ≡ true
  cancellable_whole k s u h =
      let q = says_kept s u in
      let r = runs_kept s.legal k in
      let a = (q.allows (Cancel k)).0 (may_cancel mine k (q.dues ∙ s.settled) (unshut_kept s.legal u) h) in
      second_of (waits whole k) (is_cancellable whole k) (not_waiting whole k (sym r ∙ and_left (runs mine k) (not (is_cancelled mine k)) h)) a.fits

  cancellable_mine : (k : ℕ) → IsSound whole → list_any is_shut past ≡ false → is_cancellable whole k ≡ true → is_cancellable mine k ≡ true
  cancellable_mine k s u h =
      let q = says_kept s u in
      let r = runs_kept s.legal k in
      let a = (q.allows (Cancel k)).1 (may_cancel whole k s.settled u h) in
      second_of (waits mine k) (is_cancellable mine k) (not_waiting mine k (r ∙ and_left (runs whole k) (not (is_cancelled whole k)) h)) a.fits

  orphanable_whole : (k : ℕ) → IsSound whole → list_any is_shut past ≡ false → is_orphanable mine k ≡ true → is_orphanable whole k ≡ true
  orphanable_whole k s u h =
      let q = says_kept s u in
      let r = runs_kept s.legal k in
      let a = (q.allows (Orphan k)).0 (may_orphan mine k (q.dues ∙ s.settled) (unshut_kept s.legal u) h) in
      second_of (waits whole k) (is_orphanable whole k) (not_waiting whole k (sym r ∙ and_left (runs mine k) (not (is_orphaned mine k)) h)) a.fits

  orphanable_mine : (k : ℕ) → IsSound whole → list_any is_shut past ≡ false → is_orphanable whole k ≡ true → is_orphanable mine k ≡ true
  orphanable_mine k s u h =
      let q = says_kept s u in
      let r = runs_kept s.legal k in
      let a = (q.allows (Orphan k)).1 (may_orphan whole k s.settled u h) in
      second_of (waits mine k) (is_orphanable mine k) (not_waiting mine k (r ∙ and_left (runs whole k) (not (is_orphaned whole k)) h)) a.fits

  pub cancels_whole : (k : ℕ) (r : Cancelled) (y : History) → IsSound whole → list_any is_shut past ≡ false → Cancels mine k r y → IsSound y → Keeps home past y (λ a b. Cancels a k r b)
  cancels_whole k cancelled.Ended y s u t ys = keeps y (Cancel k ∷ []) (λ a b. Cancels a k cancelled.Ended b) s t.1 refl ys (sym (waits_kept s.legal k) ∙ t.0, refl)
  cancels_whole k cancelled.Flagged y s u t ys = keeps y (Cancel k ∷ []) (λ a b. Cancels a k cancelled.Flagged b) s t.1 refl ys (cancellable_whole k s u t.0, refl)
  cancels_whole k cancelled.Late y s u t ys =
      keeps y [] (λ a b. Cancels a k cancelled.Late b) s t.2 refl ys
      (sym (waits_kept s.legal k) ∙ t.0, false_from_ne_true (is_cancellable whole k) (λ h. let f = sym (cancellable_mine k s u h) ∙ t.1 in absurd cc), refl)

  pub orphans_whole : (k : ℕ) (r : Orphaned) (y : History) → IsSound whole → list_any is_shut past ≡ false → Orphans mine k r y → IsSound y → Keeps home past y (λ a b. Orphans a k r b)
  orphans_whole k orphaned.Dropped y s u t ys = keeps y (Orphan k ∷ []) (λ a b. Orphans a k orphaned.Dropped b) s t.1 refl ys (sym (waits_kept s.legal k) ∙ t.0, refl)
  orphans_whole k orphaned.Running y s u t ys = keeps y (Orphan k ∷ []) (λ a b. Orphans a k orphaned.Running b) s t.1 refl ys (orphanable_whole k s u t.0, refl)
  orphans_whole k orphaned.Late y s u t ys =
      keeps y [] (λ a b. Orphans a k orphaned.Late b) s t.2 refl ys
      (sym (waits_kept s.legal k) ∙ t.0, false_from_ne_true (is_orphanable whole k) (λ h. let f = sym (orphanable_mine k s u h) ∙ t.1 in absurd cc), refl)

  -- an End or a Leave, and the Shut behind it
  legal_next : (e : Entry) → IsSound whole → Legal (with_entry mine e) → Legal (with_entry whole e)
  legal_next e s l = folds_back mine whole (e ∷ []) s.legal begun (kept_folds home past s.legal) l

  stands_next : (e : Entry) → IsSound whole → Legal (with_entry mine e) → StandsFor (with_entry mine e) (with_entry whole e)
  stands_next e s l = folds_stand (with_entry mine e) (with_entry whole e) (legal_next e s l) begun (folds_on mine whole (e ∷ []) (kept_folds home past s.legal))

  pub settles_whole : (e : Entry) (r : Rest) (y : History) → kept_with e mine ≡ with_entry mine e → IsSound whole → Settles mine e r y → IsSound y → Keeps home past y (λ a b. Settles a e r b)
  settles_whole e rest.Stays y k s t ys =
      let l : Legal (with_entry mine e) = (subst IsSound t.1 ys).legal in
      keeps y (e ∷ []) (λ a b. Settles a e rest.Stays b) s t.1 k ys (sym (stands_next e s l).due_same ∙ t.0, refl)
  settles_whole e (rest.Shut items) y k s t ys =
      let l : Legal (with_entry mine e) = ((subst IsSound t.2 ys).legal).1 in
      let a = stands_next e s l in
      keeps y (Shut items ∷ e ∷ []) (λ a b. Settles a e (rest.Shut items) b) s t.2 (ap (λ z. with_entry z (Shut items)) k) ys
      (sym a.due_same ∙ t.0, t.1 ∙ a.live_same, refl)

  -- LIMITS

  item_count : (j : History) (hs : List ℕ) → length (map (due_item j) hs) ≡ length hs
  item_count j [] = refl
  item_count j (h ∷ hs) = let more = item_count j hs in omega arith

  openings_unplaced : (rows : List Row) → openings_of (map row_unplaced rows) ≡ openings_of rows
  openings_unplaced [] = refl
  openings_unplaced (r ∷ rows) = ap (λ n. length (filter opens r.slots) + n) (openings_unplaced rows)

  rows_counted : (rows : List Row) → length (map row_unplaced rows) ≡ length rows
  rows_counted [] = refl
  rows_counted (r ∷ rows) = let more = rows_counted rows in omega arith

  accept_limit_kept : (ss : List Slot) → IsSound whole → list_any is_shut past ≡ false → accept_limit mine ss ≡ accept_limit whole ss
  accept_limit_kept ss s u =
      let q = says_kept s u in
      let a = alike_kept s.legal in
      let l = (stands_kept s.legal).legal in
      let busy : length (waiting mine) + length (running mine) ≡ length (waiting whole) + length (running whole) =
      sym (count_shown mine l) ∙ (sym (rows_counted (rows_of mine)) ∙ (ap (λ (t : Tables). length t.rows) a.tables ∙ (rows_counted (rows_of whole) ∙ count_shown whole s.legal))) in
      let many : length (live mine) ≡ length (live whole) = sym (item_count mine (live mine)) ∙ (ap length q.live ∙ item_count whole (live whole)) in
      let more : openings mine (waiting mine) + openings mine (running mine) ≡ openings whole (waiting whole) + openings whole (running whole) =
      sym (openings_shown mine l) ∙ (sym (openings_unplaced (rows_of mine)) ∙ (ap (λ (t : Tables). openings_of t.rows) a.tables ∙ (openings_unplaced (rows_of whole) ∙ openings_shown whole s.legal))) in
      let all : length (live mine) + openings mine (waiting mine) + openings mine (running mine) + length (filter opens ss) ≡ length (live whole) + openings whole (waiting whole) + openings whole (running whole) + length (filter opens ss) = omega (arith, many, more) in
      rw (all, busy, q.accepts, q.opens) refl

  pub accepts_whole : (a : Asked) (r : Result ℕ (Asked × AcceptRefusal)) (y : History) → IsSound whole → list_any is_shut past ≡ false → Accepts mine a r y → IsSound y → Keeps home past y (λ j k. Accepts j a r k)
  accepts_whole a (Ok n) y s u t ys =
      let q = says_kept s u in
      let is : numbered mine a ≡ numbered whole a = rw q.opens refl in
      keeps y (Accept n (numbered whole a) ∷ []) (λ j k. Accepts j a (Ok n) k) s (t.2 ∙ ap (λ b. with_entries mine (Accept n b ∷ [])) is) refl ys
      (sym (accept_limit_kept a.slots s u) ∙ t.0, t.1 ∙ ap (λ m. m + 1) q.accepts, refl)
  accepts_whole a (Err (b, refusal.Calls)) y s u t ys = keeps y [] (λ j k. Accepts j a (Err (b, refusal.Calls)) k) s t.2 refl ys (sym (accept_limit_kept a.slots s u) ∙ t.0, t.1, refl)
  accepts_whole a (Err (b, refusal.Handles)) y s u t ys = keeps y [] (λ j k. Accepts j a (Err (b, refusal.Handles)) k) s t.2 refl ys (sym (accept_limit_kept a.slots s u) ∙ t.0, t.1, refl)
  accepts_whole a (Err (b, refusal.Numbers)) y s u t ys = keeps y [] (λ j k. Accepts j a (Err (b, refusal.Numbers)) k) s t.2 refl ys (sym (accept_limit_kept a.slots s u) ∙ t.0, t.1, refl)
  accepts_whole a (Err (b, refusal.Memory)) y s u t ys = keeps y [] (λ j k. Accepts j a (Err (b, refusal.Memory)) k) s t.1 refl ys (t.0, refl)

  join_limit_kept : IsSound whole → list_any is_shut past ≡ false → join_limit mine ≡ join_limit whole
  join_limit_kept s u = let q = says_kept s u in rw (q.conns_same, q.joins) refl

  pub joins_whole : (r : Result ℕ JoinRefusal) (y : History) → IsSound whole → list_any is_shut past ≡ false → Joins mine r y → IsSound y → Keeps home past y (λ a b. JoinsWhole a r b)
  joins_whole (Ok c) y s u t ys =
      let q = says_kept s u in
      let f = refold mine whole (floor mine - mine.base.count) (kept_folds home past s.legal) begun s u in
      record {
        es = Join c ∷ [];
        kept_is = t.2;
        new_is = more_is (folded mine) y (Join c ∷ []) t.2;
        sound = sound_more (folded mine) whole (Join c ∷ []) f begun s.legal (subst IsSound t.2 ys);
        answers = (sym (join_limit_kept s u) ∙ t.0, t.1 ∙ ap (λ m. m + 1) q.joins, refl);
      }
  joins_whole (Err join_refusal.TooMany) y s u t ys = keeps y [] (λ a b. JoinsWhole a (Err join_refusal.TooMany) b) s t.1 refl ys (sym (join_limit_kept s u) ∙ t.0, refl)
  joins_whole (Err join_refusal.Numbers) y s u t ys = keeps y [] (λ a b. JoinsWhole a (Err join_refusal.Numbers) b) s t.1 refl ys (sym (join_limit_kept s u) ∙ t.0, refl)
  joins_whole (Err join_refusal.Memory) y s u t ys = keeps y [] (λ a b. JoinsWhole a (Err join_refusal.Memory) b) s t refl ys refl

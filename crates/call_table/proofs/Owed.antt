-- What is owed of the calls after an edit.
use Rattle.std.proofs.Common.{◌≡◌, ℕ, ◌+◌, ◌≤◌, Bool, true, false, Option, Some, None, List, [], ◌∷◌, ◌++◌, map, refl, sym, ◌∙◌, ap, subst, arith, inl, inr}
use Rattle.std.specs.List.{filter}
use Rattle.std.proofs.lemmas.Grind.{common_steps}
use Rattle.std.proofs.lemmas.Bool.{cases_Bool, eqb-true}
use Rattle.handle_model.specs.declared.entry.Home.{Home}
use Rattle.handle_model.specs.declared.entry.Asked.{Asked}
use Rattle.handle_model.specs.declared.entry.Entry.{Entry}
use Rattle.handle_model.specs.declared.entry.Entry.TheVariants.{Join, Accept, Take, Deny, Cancel, Orphan, End, Leave, Shut}
use Rattle.handle_model.specs.declared.base.Base.{Base}
use Rattle.handle_model.specs.History.{History, since, with_entry, size}
use Rattle.handle_model.specs.Journal.{Legal, asked, waits, runs, is_decided, is_cancelled, is_orphaned}
use Rattle.handle_model.proofs.Tests.{or_right}
use Rattle.call_table.specs.declared.row.Row.{Row}
use Rattle.call_table.specs.Rows.{is_call, is_other, row_at, at_call, taken, cancelled, orphaned, without, stays, owed_by, owed_of}
use Rattle.call_table.specs.Kept.{Rises}
use Rattle.call_table.specs.Shown.{call_row, row_as, rows_of}
use Rattle.call_table.specs.Laws.{left_by, speaks_of_running}
use Rattle.call_table.proofs.Calls.{waits_idle, cancels_decided, orphans_decided, runs_asked}
use Rattle.call_table.proofs.Marks.{Marks, above_kept, others_kept, rises_marked, rises_filter, rises_push}
use Rattle.call_table.proofs.Steps.{row_there}
use Rattle.call_table.proofs.Found.{row_shown, over_shown}
use Rattle.call_table.proofs.Follows.{follows}
use Rattle.call_table.proofs.Started.{base_shown, base_rises}

-- THE ROWS RISE

rises_mark : (k : ℕ) (f : Row → Row) (rows : List Row) → Marks f → Rises 0 rows → Rises 0 (map (at_call k f) rows)
rises_mark k f rows m r = rises_marked k f 0 rows m r

rises_left : (j : History) (e : Entry) (b : Bool) → Legal (with_entry j e) → Rises 0 (rows_of j) → Rises 0 (left_by (rows_of j) (size j) e b)
rises_left j (Join c) b l r = r
rises_left j (Accept k a) b l r =
    let first = l.0.fits.0 in
    rises_push 0 (rows_of j) (record { call = k; conn = a.conn; slots = a.slots; place = size j; runs = false; cancelled = false; orphaned = false }) r
    (over_shown j k l.1 (omega (arith, first))) (omega arith) l.0.fits.5
rises_left j (Take k cookies) b l r = rises_mark k taken (rows_of j) (record { call = λ x. refl; slots = λ x. refl }) r
rises_left j (Deny k slot) b l r = rises_filter (is_other k) 0 (rows_of j) r
rises_left j (Cancel k) true l r = rises_mark k cancelled (rows_of j) (record { call = λ x. refl; slots = λ x. refl }) r
rises_left j (Cancel k) false l r = rises_filter (is_other k) 0 (rows_of j) r
rises_left j (Orphan k) true l r = rises_mark k orphaned (rows_of j) (record { call = λ x. refl; slots = λ x. refl }) r
rises_left j (Orphan k) false l r = rises_filter (is_other k) 0 (rows_of j) r
rises_left j (End k results said) b l r = rises_filter (is_other k) 0 (rows_of j) r
rises_left j (Leave c) b l r = rises_filter (stays c) 0 (rows_of j) r
rises_left j (Shut items) b l r = r

rises_since : (home : Home) (base : Base) (past : List Entry) → Legal (since home base past) → Rises 0 (rows_of (since home base past))
rises_since home base [] l = subst (Rises 0) (sym (base_shown home base l)) (base_rises home base l)
rises_since home base (e ∷ past) l =
    let j : History = since home base past in
    subst (Rises 0) (sym (follows j e l)) (rises_left j e (speaks_of_running j e) l (rises_since home base past l.1))

pub rises_shown : (j : History) → Legal j → Rises 0 (rows_of j)
rises_shown j l = rises_since j.home j.base j.past l

-- EDITS

abbrev said_by : (Row → ℕ) → Option Row → ℕ
said_by f None = 0
said_by f (Some r) = f r

pub owed_append : (rows : List Row) (r : Row) → owed_of (rows ++ r ∷ []) ≡ owed_of rows + owed_by r
owed_append [] r = omega arith
owed_append (x ∷ rows) r = let more = owed_append rows r in omega (arith, more)

-- one call is marked
pub owed_marked : (f : Row → Row) (low : ℕ) (rows : List Row) (k : ℕ) (r : Row) → Rises low rows → row_at rows k ≡ Some r → owed_of (map (at_call k f) rows) + owed_by r ≡ owed_of rows + owed_by (f r)
owed_marked f low [] k r s e = absurd (cc)
owed_marked f low (x ∷ rows) k r s e =
    elim (cases_Bool (is_call k x)) [
      | inl t ↦ let here = rw t at e in
          let before : owed_by x ≡ owed_by r = ap (said_by owed_by) here in
          let after : owed_by (f x) ≡ owed_by (f r) = ap (said_by (λ y. owed_by (f y))) here in
          let same = eqb-true x.call k t in
          rw (t, above_kept (x.call + 1) k f rows s.2 (omega arith)) (omega (arith, before, after))
      | inr t ↦ let more = owed_marked f (x.call + 1) rows k r s.2 (rw t at e) in rw t (omega (arith, more))
    ]

-- one call goes
pub owed_without : (low : ℕ) (rows : List Row) (k : ℕ) (r : Row) → Rises low rows → row_at rows k ≡ Some r → owed_of (without k rows) + owed_by r ≡ owed_of rows
owed_without low [] k r s e = absurd (cc)
owed_without low (x ∷ rows) k r s e =
    elim (cases_Bool (is_call k x)) [
      | inl t ↦ let here = rw t at e in
          let before : owed_by x ≡ owed_by r = ap (said_by owed_by) here in
          let same = eqb-true x.call k t in
          rw (t, others_kept (x.call + 1) k rows s.2 (omega arith)) (omega (arith, before))
      | inr t ↦ let more = owed_without (x.call + 1) rows k r s.2 (rw t at e) in rw t (omega (arith, more))
    ]

pub owed_filter : (p : Row → Bool) (rows : List Row) → owed_of (filter p rows) ≤ owed_of rows
owed_filter p [] = omega arith
owed_filter p (x ∷ rows) =
    let more = owed_filter p rows in elim (cases_Bool (p x)) [ inl t ↦ rw t (omega (arith, more)) | inr t ↦ rw t (omega (arith, more)) ]

-- THE ROW OF A CALL

pub record WaitingRow (j : History) (k : ℕ) : Type 0 where
  pub row : Row
  pub there : row_at (rows_of j) k ≡ Some row
  pub waits_ : row.runs ≡ false
  pub uncancelled : row.cancelled ≡ false
  pub unorphaned : row.orphaned ≡ false

pub record RunningRow (j : History) (k : ℕ) : Type 0 where
  pub row : Row
  pub there : row_at (rows_of j) k ≡ Some row
  pub runs_ : row.runs ≡ true
  pub cancelled_ : row.cancelled ≡ is_cancelled j k
  pub orphaned_ : row.orphaned ≡ is_orphaned j k

undecided : (j : History) (k : ℕ) (b : Bool) → waits j k ≡ true → (b ≡ true → is_decided j k ≡ true) → b ≡ false
undecided j k false w h = refl
undecided j k true w h = let d = h refl in grind (arith, common_steps)

waiting_as : (j : History) (k : ℕ) (o : Option Asked) → Legal j → asked j k ≡ o → waits j k ≡ true → WaitingRow j k
waiting_as j k None l e w = absurd (let f = rw e at w in cc)
waiting_as j k (Some a) l e w =
    record {
      row = call_row j k a;
      there = row_shown j k ∙ (ap (row_as j k) e ∙ row_there j k a (rw w refl));
      waits_ = waits_idle j k w;
      uncancelled = undecided j k (is_cancelled j k) w (cancels_decided j k l);
      unorphaned = undecided j k (is_orphaned j k) w (orphans_decided j k l);
    }

pub waiting_row : (j : History) (k : ℕ) → Legal j → waits j k ≡ true → WaitingRow j k
waiting_row j k l w = waiting_as j k (asked j k) l refl w

running_as : (j : History) (k : ℕ) (o : Option Asked) → Legal j → asked j k ≡ o → runs j k ≡ true → RunningRow j k
running_as j k None l e r = absurd (let s = runs_asked j k None l e r in cc)
running_as j k (Some a) l e r =
    record {
      row = call_row j k a;
      there = row_shown j k ∙ (ap (row_as j k) e ∙ row_there j k a (or_right (waits j k) (runs j k) r));
      runs_ = r;
      cancelled_ = refl;
      orphaned_ = refl;
    }

pub running_row : (j : History) (k : ℕ) → Legal j → runs j k ≡ true → RunningRow j k
running_row j k l r = running_as j k (asked j k) l refl r

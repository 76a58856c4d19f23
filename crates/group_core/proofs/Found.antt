-- What the row of a call says of it.
use Rattle.std.proofs.Common.{◌≡◌, ℕ, ◌+◌, Bool, true, false, ◌&&◌, ◌||◌, not, if◌then◌else◌, Option, Some, None, List, ◌∷◌, refl, sym, subst}
use Rattle.std.specs.List.{list_any}
use Rattle.handle_model.specs.declared.entry.Home.{Home}
use Rattle.handle_model.specs.declared.entry.Asked.{Asked}
use Rattle.handle_model.specs.declared.entry.Entry.{Entry}
use Rattle.handle_model.specs.declared.base.Base.{Base}
use Rattle.handle_model.specs.History.{History, since}
use Rattle.handle_model.specs.Journal.{asked, waits, runs, is_cancelled, is_orphaned, is_shut, Legal}
use Rattle.call_table.specs.declared.row.Row.{Row}
use Rattle.call_table.specs.Shown.{call_row, row_as, row_in}
use Rattle.call_table.proofs.Calls.{runs_asked}
use Rattle.call_table.proofs.Calls.{waits_idle}
use Rattle.group_core.specs.Calls.{is_cancellable, is_orphanable}
use Rattle.group_core.specs.Judges.{waits_in, runs_in, tells_in, drops_in, left_in}

abbrev pub picked : Bool → Bool → Row → Option Row
picked w r x = if w || r then Some x else None

pick_waits : (w r : Bool) (x : Row) → x.runs ≡ r → (w ≡ true → r ≡ false) → waits_in (picked w r x) ≡ w
pick_waits true true x e h = let f = h refl in cc
pick_waits true false x e h = rw e refl
pick_waits false true x e h = rw e refl
pick_waits false false x e h = refl

pick_runs : (w r : Bool) (x : Row) → x.runs ≡ r → runs_in (picked w r x) ≡ r
pick_runs true r x e = e
pick_runs false true x e = e
pick_runs false false x e = refl

pick_tells : (w r d : Bool) (x : Row) → x.runs ≡ r → x.cancelled ≡ d → tells_in (picked w r x) ≡ (r && not d)
pick_tells true r d x e f = rw (e, f) refl
pick_tells false true d x e f = rw (e, f) refl
pick_tells false false d x e f = refl

pick_drops : (w r d : Bool) (x : Row) → x.runs ≡ r → x.orphaned ≡ d → drops_in (picked w r x) ≡ (r && not d)
pick_drops true r d x e f = rw (e, f) refl
pick_drops false true d x e f = rw (e, f) refl
pick_drops false false d x e f = refl

pick_left : (w r d b : Bool) (x : Row) → x.cancelled ≡ d → x.orphaned ≡ b → r ≡ true → left_in (picked w r x) ≡ (if d then 0 else 1) + (if b then 0 else 1)
pick_left true r d b x e f t = rw (e, f) refl
pick_left false true d b x e f t = rw (e, f) refl
pick_left false false d b x e f t = cc

not_true : (b : Bool) → (b ≡ true → ⊥) → b ≡ false
not_true true h = absurd (h refl)
not_true false h = refl

unasked_waits : (j : History) (k : ℕ) → asked j k ≡ None → waits j k ≡ false
unasked_waits j k e = rw e refl

unasked_runs : (j : History) (k : ℕ) → Legal j → asked j k ≡ None → runs j k ≡ false
unasked_runs j k l e = not_true (runs j k) (λ r. let s = runs_asked j k None l e r in cc)

waits_row_of : (j : History) (k : ℕ) (o : Option Asked) → asked j k ≡ o → waits_in (row_as j k o) ≡ waits j k
waits_row_of j k None e = sym (unasked_waits j k e)
waits_row_of j k (Some a) e = pick_waits (waits j k) (runs j k) (call_row j k a) refl (waits_idle j k)

runs_row_of : (j : History) (k : ℕ) (o : Option Asked) → Legal j → asked j k ≡ o → runs_in (row_as j k o) ≡ runs j k
runs_row_of j k None l e = sym (unasked_runs j k l e)
runs_row_of j k (Some a) l e = pick_runs (waits j k) (runs j k) (call_row j k a) refl

tells_row_of : (j : History) (k : ℕ) (o : Option Asked) → Legal j → asked j k ≡ o → tells_in (row_as j k o) ≡ is_cancellable j k
tells_row_of j k None l e = let r = unasked_runs j k l e in sym (rw r refl)
tells_row_of j k (Some a) l e = pick_tells (waits j k) (runs j k) (is_cancelled j k) (call_row j k a) refl refl

drops_row_of : (j : History) (k : ℕ) (o : Option Asked) → Legal j → asked j k ≡ o → drops_in (row_as j k o) ≡ is_orphanable j k
drops_row_of j k None l e = let r = unasked_runs j k l e in sym (rw r refl)
drops_row_of j k (Some a) l e = pick_drops (waits j k) (runs j k) (is_orphaned j k) (call_row j k a) refl refl

left_row_of : (j : History) (k : ℕ) (o : Option Asked) → Legal j → asked j k ≡ o → runs j k ≡ true → left_in (row_as j k o) ≡ (if is_cancelled j k then 0 else 1) + (if is_orphaned j k then 0 else 1)
left_row_of j k None l e r = let f = unasked_runs j k l e in cc
left_row_of j k (Some a) l e r =
    pick_left (waits j k) (runs j k) (is_cancelled j k) (is_orphaned j k) (call_row j k a) refl refl r

or_false : (b : Bool) → (b || false) ≡ b
or_false true = refl
or_false false = refl

pub waits_row : (j : History) (k : ℕ) → waits_in (row_in j k) ≡ waits j k
waits_row j k = waits_row_of j k (asked j k) refl

pub runs_row : (j : History) (k : ℕ) → Legal j → runs_in (row_in j k) ≡ runs j k
runs_row j k l = runs_row_of j k (asked j k) l refl

pub tells_row : (j : History) (k : ℕ) → Legal j → tells_in (row_in j k) ≡ is_cancellable j k
tells_row j k l = tells_row_of j k (asked j k) l refl

pub drops_row : (j : History) (k : ℕ) → Legal j → drops_in (row_in j k) ≡ is_orphanable j k
drops_row j k l = drops_row_of j k (asked j k) l refl

pub left_row : (j : History) (k : ℕ) → Legal j → runs j k ≡ true → left_in (row_in j k) ≡ (if is_cancelled j k then 0 else 1) + (if is_orphaned j k then 0 else 1)
left_row j k l r = left_row_of j k (asked j k) l refl r

-- a Shut is the newest entry
shut_since : (home : Home) (base : Base) (past before : List Entry) (e : Entry) → Legal (since home base past) → past ≡ e ∷ before → list_any is_shut past ≡ is_shut e
shut_since home base past before e l q =
    let unshut = (subst (λ (es : List Entry). Legal (since home base es)) q l).0.before_shut in
    rw (q, unshut) (or_false (is_shut e))

pub shut_newest : (j : History) (before : List Entry) (e : Entry) → Legal j → j.past ≡ e ∷ before → list_any is_shut j.past ≡ is_shut e
shut_newest j before e l q = shut_since j.home j.base j.past before e l q

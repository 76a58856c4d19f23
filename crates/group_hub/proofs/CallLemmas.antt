-- What the calls on a group enter, and that they may.
use Rattle.std.proofs.Common.{◌≡◌, ℕ, ◌≤◌, ◌<◌, Bool, true, false, ◌&&◌, not, Result, Ok, Err, List, [], ◌∷◌, ◌++◌, length, refl, sym, ◌∙◌, ap, subst}
use Rattle.std.specs.List.{list_any}
use Rattle.std.proofs.lemmas.List.{append_cancel_right, append-nil}
use Rattle.handle_model.specs.declared.entry.Home.{Home}
use Rattle.handle_model.specs.declared.entry.Asked.{Asked}
use Rattle.handle_model.specs.declared.entry.Outcome.{Outcome}
use Rattle.handle_model.specs.declared.entry.Said.{Said}
use Rattle.handle_model.specs.declared.entry.Entry.{Entry}
use Rattle.handle_model.specs.declared.entry.Entry.TheVariants as entry
use Rattle.handle_model.specs.Bases.{empty_base}
use Rattle.handle_model.specs.Journal.{is_open, runs, decides, slots, cookies_for}
use Rattle.handle_model.specs.History.{History, since}
use Rattle.handle_model.proofs.Steps.{open_unshut}
use Rattle.handle_model.specs.Further.{with_entries}
use Rattle.group_core.specs.declared.answer.AcceptRefusal.{AcceptRefusal}
use Rattle.group_core.specs.declared.answer.AcceptRefusal.TheVariants as refusal
use Rattle.group_core.specs.declared.answer.Taking.{Taking}
use Rattle.group_core.specs.declared.answer.Taking.TheVariants as taking
use Rattle.group_core.specs.declared.answer.Cancelled.{Cancelled}
use Rattle.group_core.specs.declared.answer.Cancelled.TheVariants as cancelled
use Rattle.group_core.specs.declared.answer.Orphaned.{Orphaned}
use Rattle.group_core.specs.declared.answer.Orphaned.TheVariants as orphaned
use Rattle.group_core.specs.Adds.{Adds}
use Rattle.group_core.specs.Calls.{Accepts, Takes, Cancels, Orphans, numbered}
use Rattle.hub_story.specs.declared.item.Item.{Item}
use Rattle.hub_story.specs.declared.item.Item.TheVariants.{Of}
use Rattle.hub_story.specs.Histories.{marks_in, past_in, journal_in, home_of, items_of}
use Rattle.hub_story.specs.Directories.{is_opened_id, is_retired_id}
use Rattle.hub_story.specs.Folded.{kept}
use Rattle.hub_story.proofs.AskedLemmas.{told_whole, told_running}
use Rattle.handle_model.proofs.Tests.{and_right}
use Rattle.group_core.specs.Stages.{is_asked}
use Rattle.hub_story.specs.Ties.{ties}
use Rattle.turn_lock.specs.Histories.{times}
use Rattle.hub_story.specs.Passes.{Seen, Serves, HasCall, Knows, Runs, HasShut}
use Rattle.hub_story.proofs.HaveLemmas.{shut_new}
use Rattle.group_hub.specs.ShardPasses.{HasItsShut}
use Rattle.hub_story.specs.Calls.{Met, TiesOwn, Enters, Calls}
use Rattle.hub_story.proofs.ItemLemmas.{past_items, length_items, exact_items, no_more}
use Rattle.hub_story.proofs.OwnLemmas.{own_opened, serves_open, accept_ties, leave_ties, decides_ties, end_ties, ties_none, ties_one, ties_two}
use Rattle.hub_story.proofs.PlaceLemmas.{self_is}
use Rattle.hub_shard.specs.declared.answer.HubRest.{HubRest}
use Rattle.hub_shard.specs.declared.answer.HubRest.TheVariants.{Stays, Shut}
use Rattle.hub_shard.specs.Answers.{Answers, GoesOn, SettlesWith}
use Rattle.group_hub.specs.Turns.{IsSame, Ran}

-- WHAT WAS ENTERED

pub ran_calls : (boot s g : ℕ) (v w : Seen) (Says : History → History → Type 0) → Ran boot s v w (λ log more. Answers boot g log more Says) → Calls boot s v w g Says
ran_calls boot s g v w Says r =
    let es : List Entry = r.gives.0 in
    let is = r.gives.1 in
    let n : length r.entered ≡ length es = r.same.count ∙ (ap length is ∙ length_items g es) in
    let past : past_in g r.entered ≡ es = r.same.entries g ∙ (ap (past_in g) is ∙ past_items g es) in
    (r.between, es, subst (Enters boot s v w r.between) (exact_items g es r.entered n past) r.enters, r.gives.2)

-- nothing
pub ran_none : (boot s : ℕ) (v w : Seen) (Says : List Item → Type 0) → Ran boot s v w (λ log more. (more ≡ []) × Says log) → (between : List Item) × Enters boot s v w between [] × Says (v.log ++ between)
ran_none boot s v w Says r =
    (r.between, subst (Enters boot s v w r.between) (no_more r.entered (r.same.count ∙ ap length r.gives.0)) r.enters, r.gives.1)

-- WHAT AN ANSWER ADDS

pub added : (home : Home) (past es ds : List Entry) → Adds (since home empty_base past) ds (since home empty_base (es ++ past)) → es ≡ ds
added home past es ds a = append_cancel_right es ds past (ap (λ (z : History). z.past) a)

module _ (boot s : ℕ) (v : Seen) (log : List Item) (met : Met boot s v log) (g : ℕ) where
  abbrev j : History
  j = journal_in boot g log

  none : (es : List Entry) (more : List Item) → more ≡ items_of g es → es ≡ [] → TiesOwn v log more
  none es more is e = subst (TiesOwn v log) (sym (is ∙ ap (items_of g) e)) (ties_none v log)

  one : (e : Entry) (es : List Entry) (more : List Item) → more ≡ items_of g es → es ≡ e ∷ [] → TiesOwn v log (Of g e ∷ []) → TiesOwn v log more
  one e es more is d t = subst (TiesOwn v log) (sym (is ∙ ap (items_of g) d)) t

  -- the pass's connection
  pub asked_accept : (a : Asked) → Serves v g a.conn → (is_opened_id (marks_in log) g ≡ true) × (is_open j a.conn ≡ true)
  asked_accept a serves = (own_opened boot s v log met g (entry.Join a.conn) serves.joined, serves_open boot s v log met g a.conn serves)

  pub asked_call : (c k : ℕ) → HasCall v g c k → GoesOn g log
  asked_call c k has =
      (own_opened boot s v log met g (entry.Join c) has.serves.joined, open_unshut (home_of boot g) empty_base (past_in g log) c (met.story.sound g).legal (serves_open boot s v log met g c has.serves))

  pub accept_may : (a : Asked) (r : Result ℕ (Asked × AcceptRefusal)) (more : List Item) → Serves v g a.conn → Answers boot g log more (λ i k. Accepts i a r k) → TiesOwn v log more
  accept_may a (Ok n) more serves d =
      one (entry.Accept n (numbered j a)) d.0 more d.1 (added (home_of boot g) (past_in g log) d.0 (entry.Accept n (numbered j a) ∷ []) d.2.2)
      (ties_one v log (Of g (entry.Accept n (numbered j a))) (accept_ties boot s v log met g a.conn n (numbered j a) serves refl))
  accept_may a (Err (b, refusal.Calls)) more serves d = none d.0 more d.1 (added (home_of boot g) (past_in g log) d.0 [] d.2.2)
  accept_may a (Err (b, refusal.Handles)) more serves d = none d.0 more d.1 (added (home_of boot g) (past_in g log) d.0 [] d.2.2)
  accept_may a (Err (b, refusal.Numbers)) more serves d = none d.0 more d.1 (added (home_of boot g) (past_in g log) d.0 [] d.2.2)
  accept_may a (Err (b, refusal.Memory)) more serves d = none d.0 more d.1 (added (home_of boot g) (past_in g log) d.0 [] d.2.1)

  decided : (c k : ℕ) (e : Entry) (es : List Entry) (more : List Item) → HasCall v g c k → decides k e ≡ true → more ≡ items_of g es → es ≡ e ∷ [] → TiesOwn v log more
  decided c k e es more has d is f = one e es more is f (ties_one v log (Of g e) (decides_ties boot s v log met g c k e has d))

  pub take_may : (c k : ℕ) (r : Taking) (more : List Item) → HasCall v g c k → Answers boot g log more (λ i m. Takes i k r m) → TiesOwn v log more
  take_may c k (taking.Run row serial) more has d =
      decided c k (entry.Take k (cookies_for j (slots j k))) d.0 more has (self_is k) d.1 (added (home_of boot g) (past_in g log) d.0 (entry.Take k (cookies_for j (slots j k)) ∷ []) d.2.5)
  take_may c k (taking.Denied slot) more has d = decided c k (entry.Deny k slot) d.0 more has (self_is k) d.1 (added (home_of boot g) (past_in g log) d.0 (entry.Deny k slot ∷ []) d.2.3)
  take_may c k taking.Dropped more has d = none d.0 more d.1 (added (home_of boot g) (past_in g log) d.0 [] d.2.1)
  take_may c k (taking.Wait m) more has d = none d.0 more d.1 (added (home_of boot g) (past_in g log) d.0 [] d.2.2)

  pub cancel_may : (c k : ℕ) (r : Cancelled) (more : List Item) → HasCall v g c k → Answers boot g log more (λ i m. Cancels i k r m) → TiesOwn v log more
  cancel_may c k cancelled.Ended more has d = decided c k (entry.Cancel k) d.0 more has (self_is k) d.1 (added (home_of boot g) (past_in g log) d.0 (entry.Cancel k ∷ []) d.2.1)
  cancel_may c k cancelled.Flagged more has d = decided c k (entry.Cancel k) d.0 more has (self_is k) d.1 (added (home_of boot g) (past_in g log) d.0 (entry.Cancel k ∷ []) d.2.1)
  cancel_may c k cancelled.Late more has d = none d.0 more d.1 (added (home_of boot g) (past_in g log) d.0 [] d.2.2)

  pub orphan_may : (c k : ℕ) (r : Orphaned) (more : List Item) → HasCall v g c k → Answers boot g log more (λ i m. Orphans i k r m) → TiesOwn v log more
  orphan_may c k orphaned.Dropped more has d = decided c k (entry.Orphan k) d.0 more has (self_is k) d.1 (added (home_of boot g) (past_in g log) d.0 (entry.Orphan k ∷ []) d.2.1)
  orphan_may c k orphaned.Running more has d = decided c k (entry.Orphan k) d.0 more has (self_is k) d.1 (added (home_of boot g) (past_in g log) d.0 (entry.Orphan k ∷ []) d.2.1)
  orphan_may c k orphaned.Late more has d = none d.0 more d.1 (added (home_of boot g) (past_in g log) d.0 [] d.2.2)

  -- an End or a Leave, and the Shut behind it
  settle_may : (e : Entry) (r : HubRest) (more : List Item) → ((p : ℕ) → ties log (Of g e) p → 0 < times p v.own) → Answers boot g log more (SettlesWith g e r) → TiesOwn v log more
  settle_may e Stays more own d = one e d.0 more d.1 (added (home_of boot g) (past_in g log) d.0 (e ∷ []) d.2.1) (ties_one v log (Of g e) own)
  settle_may e (Shut items key) more own d =
      let es = added (home_of boot g) (past_in g log) d.0 (entry.Shut items ∷ e ∷ []) d.2.1.2 in
      subst (TiesOwn v log) (sym (d.1 ∙ ap (items_of g) es)) (ties_two v log (Of g e) (Of g (entry.Shut items)) own (λ before a t. t))

  pub end_may : (k : ℕ) (results : List Outcome) (said : Said) (r : HubRest) (more : List Item) → Runs v g k results → Answers boot g log more (SettlesWith g (entry.End k results said) r) → TiesOwn v log more
  end_may k results said r more runs d = settle_may (entry.End k results said) r more (end_ties boot s v log met g k results results said runs) d

  pub leave_may : (c : ℕ) (r : HubRest) (more : List Item) → Serves v g c → Answers boot g log more (SettlesWith g (entry.Leave c) r) → TiesOwn v log more
  leave_may c r more serves d = settle_may (entry.Leave c) r more (leave_ties boot s v log met g c serves) d

  pub nothing_may : (more : List Item) → more ≡ [] → TiesOwn v log more
  nothing_may more is = subst (TiesOwn v log) (sym is) (ties_none v log)

-- WHETHER A CALL WAS ASKED TO END

live : (b a : Bool) → b ≡ false → (not b && a) ≡ a
live b a h = rw h refl

module _ (boot s g k : ℕ) (v w : Seen) (r : Bool)
    (a : (between : List Item) × Enters boot s v w between [] × (r ≡ (not (is_retired_id (marks_in (v.log ++ between)) g) && is_asked (kept (journal_in boot g (v.log ++ between))) k))) where
  whole : w.log ≡ v.log ++ a.0
  whole = a.1.log ∙ append-nil (v.log ++ a.0)

  said : r ≡ (not (is_retired_id (marks_in w.log) g) && is_asked (kept (journal_in boot g w.log)) k)
  said = a.2 ∙ ap (λ l. not (is_retired_id (marks_in l) g) && is_asked (kept (journal_in boot g l)) k) (sym whole)

  pub asked_told : r ≡ true → is_asked (journal_in boot g w.log) k ≡ true
  asked_told t = told_whole boot g w.log k (a.1.story.sound g).legal (and_right (not (is_retired_id (marks_in w.log) g)) (is_asked (kept (journal_in boot g w.log)) k) (sym said ∙ t))

  pub asked_running : is_retired_id (marks_in w.log) g ≡ false → runs (journal_in boot g w.log) k ≡ true → r ≡ is_asked (journal_in boot g w.log) k
  asked_running open_ run = said ∙ (live (is_retired_id (marks_in w.log) g) (is_asked (kept (journal_in boot g w.log)) k) open_ ∙ told_running boot g w.log k (a.1.story.sound g).legal run)

-- THE SHUT OF A GROUP THAT HAS ENDED

pub settled_shut : (boot s g : ℕ) (v w : Seen) (e : Entry) (r : HubRest) → Calls boot s v w g (SettlesWith g e r) → HasItsShut w r
settled_shut boot s g v w e Stays d = tt
settled_shut boot s g v w e (Shut items key) d =
    let log : List Item = v.log ++ d.0 in
    let es : d.1 ≡ entry.Shut items ∷ e ∷ [] = added (home_of boot g) (past_in g log) d.1 (entry.Shut items ∷ e ∷ []) d.3.1.2 in
    let enters : Enters boot s v w d.0 (Of g e ∷ Of g (entry.Shut items) ∷ []) = subst (λ l. Enters boot s v w d.0 (items_of g l)) es d.2 in
    subst (HasShut w) (sym d.3.0) (shut_new boot s v w d.0 (Of g e ∷ Of g (entry.Shut items) ∷ []) enters g items 1 refl refl)

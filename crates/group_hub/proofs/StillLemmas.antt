-- What a pass has to call with after a call on a group.
use Rattle.std.proofs.Common.{◌≡◌, ℕ, ◌+◌, ◌<◌, ◌==◌, ◌&&◌, ◌||◌, Bool, true, false, Option, Result, Ok, Err, IfOk, List, [], ◌∷◌, ◌++◌, length, take, refl, sym, ◌∙◌, ap, subst, arith, length-append}
use Rattle.std.specs.List.{list_any}
use Rattle.std.proofs.lemmas.Bool.{false_from_ne_true}
use Rattle.std.proofs.lemmas.List.{append-nil}
use mathlib.Core.Option.{some}
use lib.ListN.{get_elem?}
use Rattle.turn_lock.specs.Histories.{Within}
use Rattle.turn_lock.proofs.HistoryLemmas.{at_within}
use Rattle.turn_lock.proofs.AddingLemmas.{at_behind}
use Rattle.handle_model.specs.declared.entry.Asked.{Asked}
use Rattle.handle_model.specs.declared.entry.Outcome.{Outcome}
use Rattle.handle_model.specs.declared.entry.Said.{Said}
use Rattle.handle_model.specs.declared.entry.Entry.{Entry}
use Rattle.handle_model.specs.declared.entry.Entry.TheVariants as entry
use Rattle.handle_model.specs.Bases.{empty_base}
use Rattle.handle_model.proofs.Steps.{active_unshut, runs_unshut}
use Rattle.handle_model.specs.Journal.{takes, is_shut, waits, runs, opened, slots, slots_in, asked_since, suit, cookies_for}
use Rattle.handle_model.specs.History.{History}
use Rattle.handle_model.specs.CallLaws.{accepts}
use Rattle.group_core.specs.declared.answer.AcceptRefusal.{AcceptRefusal}
use Rattle.group_core.specs.declared.answer.AcceptRefusal.TheVariants as refusal
use Rattle.group_core.specs.declared.answer.Taking.{Taking}
use Rattle.group_core.specs.declared.answer.Taking.TheVariants as taking
use Rattle.group_core.specs.declared.answer.Cancelled.{Cancelled}
use Rattle.group_core.specs.declared.answer.Cancelled.TheVariants as cancelled
use Rattle.group_core.specs.declared.answer.Orphaned.{Orphaned}
use Rattle.group_core.specs.declared.answer.Orphaned.TheVariants as orphaned
use Rattle.group_core.specs.declared.answer.Stage.{Stage}
use Rattle.group_core.specs.declared.answer.Stage.TheVariants as stage
use Rattle.group_core.specs.Stages.{stage_of}
use Rattle.group_core.specs.Calls.{Accepts, Takes, Cancels, Orphans, numbered, first_serial}
use Rattle.hub_story.specs.declared.item.Item.{Item}
use Rattle.hub_story.specs.declared.item.Mark.TheVariants.{Retired}
use Rattle.hub_story.specs.declared.item.Item.TheVariants.{Listed, Of}
use Rattle.hub_story.specs.Directories.{is_retired_id, retires_id}
use Rattle.hub_story.specs.Histories.{marks_in, past_in, journal_in, home_of, items_of, IsStory}
use Rattle.hub_story.specs.Passes.{Seen, HasOwn, accepts_of, Serves, Runs, slots_seen}
use Rattle.hub_story.specs.Calls.{IsNewCall, Enters, Calls}
use Rattle.hub_story.specs.Still.{StillHas, IsAccepted, IsTaken, IfTaken}
use Rattle.hub_story.proofs.ItemLemmas.{past-append, past_items, at_whole, has_there, Found, found, FoundMark, found_mark}
use Rattle.hub_story.proofs.PlaceLemmas.{self_is, one_place, taken_once, taken_before_end, asked_in}
use Rattle.hub_story.proofs.OwnLemmas.{a_retired}
use Rattle.hub_story.proofs.HaveLemmas.{own_entered, seen_entered}
use Rattle.hub_story.proofs.StillLemmas.{is_last, still_first, still_has}
use Rattle.hub_story.proofs.NewLemmas.{new_call}
use Rattle.hub_shard.specs.declared.answer.HubRest.{HubRest}
use Rattle.hub_shard.specs.declared.answer.HubRest.TheVariants.{Stays, Shut}
use Rattle.hub_shard.specs.Answers.{SettlesWith}
use Rattle.group_hub.proofs.CallLemmas.{added}

-- WHAT STAYS

module _ (boot s g : ℕ) (v w : Seen) (within : Within v.own (length v.log)) where
  exact : (between : List Item) (es ds : List Entry) → Enters boot s v w between (items_of g es) → es ≡ ds → StillHas v w (items_of g ds)
  exact between es ds e is = still_has boot s v w between (items_of g ds) (subst (λ l. Enters boot s v w between (items_of g l)) is e) within

  none : (between : List Item) (es : List Entry) → Enters boot s v w between (items_of g es) → es ≡ [] → StillHas v w []
  none between es e is = exact between es [] e is

  one : (between : List Item) (es : List Entry) (d : Entry) → Enters boot s v w between (items_of g es) → es ≡ d ∷ [] → is_last (Of g d) ≡ false → StillHas v w []
  one between es d e is off = still_first v w [] (Of g d ∷ []) (rw off refl) (exact between es (d ∷ []) e is)

  pub accept_still : (a : Asked) (r : Result ℕ (Asked × AcceptRefusal)) → Calls boot s v w g (λ j k. Accepts j a r k) → StillHas v w []
  accept_still a (Ok k) d =
      let log : List Item = v.log ++ d.0 in
      let e : Entry = entry.Accept k (numbered (journal_in boot g log) a) in
      one d.0 d.1 e d.2 (added (home_of boot g) (past_in g log) d.1 (e ∷ []) d.3.2) refl
  accept_still a (Err (b, refusal.Calls)) d = none d.0 d.1 d.2 (added (home_of boot g) (past_in g (v.log ++ d.0)) d.1 [] d.3.2)
  accept_still a (Err (b, refusal.Handles)) d = none d.0 d.1 d.2 (added (home_of boot g) (past_in g (v.log ++ d.0)) d.1 [] d.3.2)
  accept_still a (Err (b, refusal.Numbers)) d = none d.0 d.1 d.2 (added (home_of boot g) (past_in g (v.log ++ d.0)) d.1 [] d.3.2)
  accept_still a (Err (b, refusal.Memory)) d = none d.0 d.1 d.2 (added (home_of boot g) (past_in g (v.log ++ d.0)) d.1 [] d.3.1)

  pub take_still : (k : ℕ) (r : Taking) → Calls boot s v w g (λ i m. Takes i k r m) → StillHas v w []
  take_still k (taking.Run row serial) d =
      let j : History = journal_in boot g (v.log ++ d.0) in
      let e : Entry = entry.Take k (cookies_for j (slots j k)) in
      one d.0 d.1 e d.2 (added (home_of boot g) (past_in g (v.log ++ d.0)) d.1 (e ∷ []) d.3.5) refl
  take_still k (taking.Denied slot) d = one d.0 d.1 (entry.Deny k slot) d.2 (added (home_of boot g) (past_in g (v.log ++ d.0)) d.1 (entry.Deny k slot ∷ []) d.3.3) refl
  take_still k taking.Dropped d = none d.0 d.1 d.2 (added (home_of boot g) (past_in g (v.log ++ d.0)) d.1 [] d.3.1)
  take_still k (taking.Wait m) d = none d.0 d.1 d.2 (added (home_of boot g) (past_in g (v.log ++ d.0)) d.1 [] d.3.2)

  pub cancel_still : (k : ℕ) (r : Cancelled) → Calls boot s v w g (λ i m. Cancels i k r m) → StillHas v w []
  cancel_still k cancelled.Ended d = one d.0 d.1 (entry.Cancel k) d.2 (added (home_of boot g) (past_in g (v.log ++ d.0)) d.1 (entry.Cancel k ∷ []) d.3.1) refl
  cancel_still k cancelled.Flagged d = one d.0 d.1 (entry.Cancel k) d.2 (added (home_of boot g) (past_in g (v.log ++ d.0)) d.1 (entry.Cancel k ∷ []) d.3.1) refl
  cancel_still k cancelled.Late d = none d.0 d.1 d.2 (added (home_of boot g) (past_in g (v.log ++ d.0)) d.1 [] d.3.2)

  pub orphan_still : (k : ℕ) (r : Orphaned) → Calls boot s v w g (λ i m. Orphans i k r m) → StillHas v w []
  orphan_still k orphaned.Dropped d = one d.0 d.1 (entry.Orphan k) d.2 (added (home_of boot g) (past_in g (v.log ++ d.0)) d.1 (entry.Orphan k ∷ []) d.3.1) refl
  orphan_still k orphaned.Running d = one d.0 d.1 (entry.Orphan k) d.2 (added (home_of boot g) (past_in g (v.log ++ d.0)) d.1 (entry.Orphan k ∷ []) d.3.1) refl
  orphan_still k orphaned.Late d = none d.0 d.1 d.2 (added (home_of boot g) (past_in g (v.log ++ d.0)) d.1 [] d.3.2)

  -- all but what an End or a Leave ends
  pub settle_still : (e : Entry) (r : HubRest) → Calls boot s v w g (SettlesWith g e r) → StillHas v w (Of g e ∷ [])
  settle_still e Stays d = exact d.0 d.1 (e ∷ []) d.2 (added (home_of boot g) (past_in g (v.log ++ d.0)) d.1 (e ∷ []) d.3.1)
  settle_still e (Shut items key) d =
      let all : List Entry = entry.Shut items ∷ e ∷ [] in
      still_first v w (Of g e ∷ []) (Of g (entry.Shut items) ∷ []) refl (exact d.0 d.1 all d.2 (added (home_of boot g) (past_in g (v.log ++ d.0)) d.1 all d.3.1.2))

-- A CALL THAT WAS ACCEPTED

module _ (boot s g : ℕ) (v w : Seen) (a : Asked) where
  entered : (k : ℕ) → (d : Calls boot s v w g (λ i m. Accepts i a (Ok k) m)) → Enters boot s v w d.0 (Of g (entry.Accept k (numbered (journal_in boot g (v.log ++ d.0)) a)) ∷ [])
  entered k d =
      let e : Entry = entry.Accept k (numbered (journal_in boot g (v.log ++ d.0)) a) in
      subst (λ l. Enters boot s v w d.0 (items_of g l)) (added (home_of boot g) (past_in g (v.log ++ d.0)) d.1 (e ∷ []) d.3.2) d.2

  pub accept_new : (r : Result ℕ (Asked × AcceptRefusal)) → (d : Calls boot s v w g (λ i m. Accepts i a r m)) → IfOk r (λ k. IsNewCall k (journal_in boot g (v.log ++ d.0)))
  accept_new (Ok k) d =
      let asked : Asked = numbered (journal_in boot g (v.log ++ d.0)) a in
      new_call boot s v w d.0 (Of g (entry.Accept k asked) ∷ []) (entered k d) g 0 k asked refl
  accept_new (Err e) d = tt

  pub accepted_so : (r : Result ℕ (Asked × AcceptRefusal)) → Calls boot s v w g (λ i m. Accepts i a r m) → Serves w g a.conn → IfOk r (λ k. IsAccepted w g a.conn k a.slots)
  accepted_so (Ok k) d serves =
      let j : History = journal_in boot g (v.log ++ d.0) in
      let e : Entry = entry.Accept k (numbered j a) in
      let enters = entered k d in
      let own = own_entered boot s v w d.0 (Of g e ∷ []) enters 0 (Of g e) refl in
      record {
        has = record { serves = serves; accepted = seen_entered boot s v w d.0 (Of g e ∷ []) enters g (accepts_of a.conn k) 0 e refl (rw (self_is k, self_is a.conn) refl) };
        knows = seen_entered boot s v w d.0 (Of g e ∷ []) enters g (accepts k) 0 e refl (self_is k);
        before = opened j;
        asks = ap slots_in (asked_in boot g w.log own.0 k (numbered j a) (enters.story.sound g).legal own.2);
      }
  accepted_so (Err e) d serves = tt

-- A CALL THAT WAS TAKEN

module _ (boot s g k : ℕ) (v w : Seen) (row : List (Option ℕ)) (serial : ℕ) (d : Calls boot s v w g (λ i m. Takes i k (taking.Run row serial) m)) where
  abbrev log : List Item
  log = v.log ++ d.0

  abbrev j : History
  j = journal_in boot g log

  abbrev e : Entry
  e = entry.Take k (cookies_for j (slots j k))

  enters : Enters boot s v w d.0 (Of g e ∷ [])
  enters = subst (λ l. Enters boot s v w d.0 (items_of g l)) (added (home_of boot g) (past_in g log) d.1 (e ∷ []) d.3.5) d.2

  past : past_in g w.log ≡ e ∷ past_in g log
  past = ap (past_in g) enters.log ∙ (past-append g log (Of g e ∷ []) ∙ ap (λ l. l ++ past_in g log) (past_items g (e ∷ [])))

  slots_same : slots j k ≡ slots_seen w g k
  slots_same = sym (ap (λ p. slots_in (asked_since empty_base p k)) past)

  no_end : (others : List Outcome) (said : Said) → HasOwn w (Of g (entry.End k others said)) → ⊥
  no_end others said h =
      let legal = (enters.story.sound g).legal in
      let f = taken_before_end boot g w.log h.0 k (entry.End k others said) legal h.2 (self_is k) in
      let t = at_whole w.log h.0 f.place (Of g f.entry) f.at in
      let here : get_elem? w.log (length log + 0) ≡ some (Of g e) = ap (λ l. get_elem? l (length log + 0)) enters.log ∙ at_behind log (Of g e ∷ []) 0 in
      let same : f.place ≡ length log + 0 = one_place g w.log (takes k) f.place (length log + 0) f.entry e (taken_once boot g w.log k legal) t.1 f.passes here (self_is k) in
      let low = at_within w.log h.0 (Of g (entry.End k others said)) h.2 in
      let size : length w.log ≡ length log + 1 = ap length enters.log ∙ length-append log (Of g e ∷ []) in
      let before = t.0 in
      absurd (omega arith)

  run_taken : IsTaken w g k serial
  run_taken = record {
    runs = λ results suits. record {
      cookies = cookies_for j (slots j k);
      taken = own_entered boot s v w d.0 (Of g e ∷ []) enters 0 (Of g e) refl;
      runs = no_end;
      suits = suits;
    };
    serial_is = d.3.4 ∙ ap first_serial slots_same;
  }

pub take_taken : (boot s g k : ℕ) (v w : Seen) (r : Taking) → Calls boot s v w g (λ i m. Takes i k r m) → IfTaken w g k r
take_taken boot s g k v w (taking.Run row serial) d = run_taken boot s g k v w row serial d
take_taken boot s g k v w (taking.Denied slot) d = tt
take_taken boot s g k v w taking.Dropped d = tt
take_taken boot s g k v w (taking.Wait m) d = tt

-- A GROUP THAT WAS RETIRED

retired_shut : (boot s g : ℕ) (log : List Item) → IsStory boot s log → is_retired_id (marks_in log) g ≡ true → list_any is_shut (past_in g log) ≡ true
retired_shut boot s g log story gone =
    let m = found_mark log (retires_id g) gone in
    let there : get_elem? log m.place ≡ some (Listed (Retired g)) = m.at ∙ ap (λ d. some (Listed d)) (a_retired g m.mark m.passes) in
    let f = found g (take m.place log) is_shut (story.ended m.place g there) in
    has_there g log f.place f.entry is_shut (at_whole log m.place f.place (Of g f.entry) f.at).1 f.passes

-- each of its calls is over
pub stage_over : (boot s g k : ℕ) (v w : Seen) (r : Stage) (between : List Item) → Enters boot s v w between [] → r ≡ stage_of (journal_in boot g (v.log ++ between)) k → is_retired_id (marks_in w.log) g ≡ true → r ≡ stage.Over
stage_over boot s g k v w r between e is gone =
    let j : History = journal_in boot g w.log in
    let legal = (e.story.sound g).legal in
    let shut = retired_shut boot s g w.log e.story gone in
    let idle : waits j k ≡ false = false_from_ne_true (waits j k) (λ t. let open_ = active_unshut j k true legal (ap (λ b. b || runs j k && true) t) in absurd cc) in
    let off : runs j k ≡ false = false_from_ne_true (runs j k) (λ t. let open_ = runs_unshut (home_of boot g) empty_base (past_in g w.log) k legal t in absurd cc) in
    let over : stage_of j k ≡ stage.Over = rw (idle, off) refl in
    is ∙ (ap (λ l. stage_of (journal_in boot g l) k) (sym (e.log ∙ append-nil (v.log ++ between))) ∙ over)

-- What the acts on a group add, by their answers.
use Rattle.std.proofs.Common.{◌≡◌, ℕ, ◌+◌, ◌≤◌, Bool, true, false, ◌&&◌, not, Option, Some, None, Result, Ok, Err, List, [], ◌∷◌, ◌++◌, length, refl, sym, ◌∙◌, ap, subst, arith, length-append}
use Rattle.std.specs.List.{list_any}
use Rattle.handle_model.specs.declared.entry.Home.{Home}
use Rattle.handle_model.specs.declared.entry.DueItem.{DueItem}
use Rattle.handle_model.specs.declared.entry.Asked.{Asked}
use Rattle.handle_model.specs.declared.entry.Outcome.{Outcome}
use Rattle.handle_model.specs.declared.entry.Said.{Said}
use Rattle.handle_model.specs.declared.entry.Entry.{Entry}
use Rattle.handle_model.specs.declared.entry.Entry.TheVariants as entry
use Rattle.handle_model.specs.Bases.{empty_base}
use Rattle.handle_model.specs.Journal.{is_open, is_shut, runs, suit, slots, cookies_for}
use Rattle.handle_model.specs.History.{History, IsSound, since, with_entry}
use Rattle.handle_model.proofs.Steps.{open_unshut, runs_unshut}
use Rattle.call_table.specs.Ahead.{last_ahead}
use Rattle.call_table.proofs.Lasting.{last_alike}
use Rattle.group_core.specs.declared.answer.AcceptRefusal.{AcceptRefusal}
use Rattle.group_core.specs.declared.answer.AcceptRefusal.TheVariants as refusal
use Rattle.group_core.specs.declared.answer.Taking.{Taking}
use Rattle.group_core.specs.declared.answer.Taking.TheVariants as taking
use Rattle.group_core.specs.declared.answer.Cancelled.{Cancelled}
use Rattle.group_core.specs.declared.answer.Cancelled.TheVariants as cancelled
use Rattle.group_core.specs.declared.answer.Orphaned.{Orphaned}
use Rattle.group_core.specs.declared.answer.Orphaned.TheVariants as orphaned
use Rattle.group_core.specs.declared.answer.Stage.{Stage}
use Rattle.group_core.specs.declared.answer.Rest.{Rest}
use Rattle.group_core.specs.declared.answer.Rest.TheVariants as rest
use Rattle.group_core.specs.Adds.{Adds}
use Rattle.group_core.specs.Calls.{Accepts, Takes, Cancels, Orphans, numbered}
use Rattle.group_core.specs.Conns.{Settles}
use Rattle.group_core.specs.Stages.{stage_of, is_asked}
use Rattle.hub_story.specs.declared.item.Item.{Item}
use Rattle.hub_story.specs.Directories.{is_opened_id, is_retired_id, index_of}
use Rattle.hub_story.specs.Histories.{marks_in, past_in, journal_in, home_of}
use Rattle.hub_story.specs.Folded.{kept_with, kept_since, kept}
use Rattle.hub_story.proofs.WholeLemmas.{Keeps, accepts_whole, takes_whole, cancels_whole, orphans_whole, settles_whole, alike_kept, waits_kept, runs_kept, stage_kept, open_kept, runs_mine, suit_kept, slots_kept}
use Rattle.hub_shard.specs.declared.answer.HubRest.{HubRest}
use Rattle.hub_shard.specs.declared.answer.HubRest.TheVariants.{Stays, Shut}
use Rattle.hub_shard.specs.declared.shard.Listed.{Listed}
use Rattle.hub_shard.specs.Shards.{ShardView, listed_at, group_of, Told, Acted, Touched}
use Rattle.hub_shard.specs.Counts.{taken_count, cancelled_count, orphaned_count, accepted_count}
use Rattle.hub_shard.specs.Answers.{Answers, GoesOn, SettlesWith}
use Rattle.hub_shard.proofs.TellLemmas.{opened_keeps, opened_flag, acted}

-- HOW MANY ITEMS

-- what was added is as long as what the answer says
pub adds_count : (home : Home) (past es ds : List Entry) → Adds (since home empty_base past) ds (since home empty_base (es ++ past)) → length es ≡ length ds
adds_count home past es ds a =
    let n : length (es ++ past) ≡ length (ds ++ past) = ap (λ (z : History). length z.past) a in
    let m = length-append es past in let k = length-append ds past in omega arith

taken_is : (home : Home) (past es : List Entry) (k : ℕ) (r : Taking) → Takes (since home empty_base past) k r (since home empty_base (es ++ past)) → length es ≡ taken_count r
taken_is home past es k (taking.Run row serial) t = adds_count home past es (entry.Take k (cookies_for (since home empty_base past) (slots (since home empty_base past) k)) ∷ []) t.5
taken_is home past es k (taking.Denied slot) t = adds_count home past es (entry.Deny k slot ∷ []) t.3
taken_is home past es k taking.Dropped t = adds_count home past es [] t.1
taken_is home past es k (taking.Wait m) t = adds_count home past es [] t.2

cancelled_is : (home : Home) (past es : List Entry) (k : ℕ) (r : Cancelled) → Cancels (since home empty_base past) k r (since home empty_base (es ++ past)) → length es ≡ cancelled_count r
cancelled_is home past es k cancelled.Ended t = adds_count home past es (entry.Cancel k ∷ []) t.1
cancelled_is home past es k cancelled.Flagged t = adds_count home past es (entry.Cancel k ∷ []) t.1
cancelled_is home past es k cancelled.Late t = adds_count home past es [] t.2

orphaned_is : (home : Home) (past es : List Entry) (k : ℕ) (r : Orphaned) → Orphans (since home empty_base past) k r (since home empty_base (es ++ past)) → length es ≡ orphaned_count r
orphaned_is home past es k orphaned.Dropped t = adds_count home past es (entry.Orphan k ∷ []) t.1
orphaned_is home past es k orphaned.Running t = adds_count home past es (entry.Orphan k ∷ []) t.1
orphaned_is home past es k orphaned.Late t = adds_count home past es [] t.2

accepted_is : (home : Home) (past es : List Entry) (a : Asked) (r : Result ℕ (Asked × AcceptRefusal)) → Accepts (since home empty_base past) a r (since home empty_base (es ++ past)) → length es ≡ accepted_count r
accepted_is home past es a (Ok k) t = adds_count home past es (entry.Accept k (numbered (since home empty_base past) a) ∷ []) t.2
accepted_is home past es a (Err (b, refusal.Calls)) t = adds_count home past es [] t.2
accepted_is home past es a (Err (b, refusal.Handles)) t = adds_count home past es [] t.2
accepted_is home past es a (Err (b, refusal.Numbers)) t = adds_count home past es [] t.2
accepted_is home past es a (Err (b, refusal.Memory)) t = adds_count home past es [] t.1

-- THE ACTS

module _ (x y : ShardView) (log : List Item) (g : ℕ) (l : Listed) where
  pub acts_accept : (a : Asked) (r : Result ℕ (Asked × AcceptRefusal)) → Told x log → is_opened_id (marks_in log) g ≡ true → is_open (journal_in x.boot g log) a.conn ≡ true → Touched x g l y
      → Accepts (group_of x g) a r l.group → Acted x y log (accepted_count r) (λ more. Answers x.boot g log more (λ j k. Accepts j a r k))
  acts_accept a r t o c touched did =
      let unshut = open_unshut (home_of x.boot g) empty_base (past_in g log) a.conn (t.story.sound g).legal c in
      let k = accepts_whole (home_of x.boot g) (past_in g log) a r l.group (t.story.sound g) unshut (subst (λ z. Accepts z a r l.group) (opened_keeps x log g t o) did) touched.sound in
      acted x y log g l (λ i j. Accepts i a r j) (accepted_count r) t o touched k (accepted_is (home_of x.boot g) (past_in g log) k.es a r k.answers)

  pub acts_take : (call : ℕ) (r : Taking) → Told x log → GoesOn g log → Touched x g l y → Takes (group_of x g) call r l.group
      → Acted x y log (taken_count r) (λ more. Answers x.boot g log more (λ j k. Takes j call r k))
  acts_take call r t o touched did =
      let k = takes_whole (home_of x.boot g) (past_in g log) call r l.group (t.story.sound g) o.1 (subst (λ z. Takes z call r l.group) (opened_keeps x log g t o.0) did) touched.sound in
      acted x y log g l (λ i j. Takes i call r j) (taken_count r) t o.0 touched k (taken_is (home_of x.boot g) (past_in g log) k.es call r k.answers)

  pub acts_cancel : (call : ℕ) (r : Cancelled) → Told x log → GoesOn g log → Touched x g l y → Cancels (group_of x g) call r l.group
      → Acted x y log (cancelled_count r) (λ more. Answers x.boot g log more (λ j k. Cancels j call r k))
  acts_cancel call r t o touched did =
      let k = cancels_whole (home_of x.boot g) (past_in g log) call r l.group (t.story.sound g) o.1 (subst (λ z. Cancels z call r l.group) (opened_keeps x log g t o.0) did) touched.sound in
      acted x y log g l (λ i j. Cancels i call r j) (cancelled_count r) t o.0 touched k (cancelled_is (home_of x.boot g) (past_in g log) k.es call r k.answers)

  pub acts_orphan : (call : ℕ) (r : Orphaned) → Told x log → GoesOn g log → Touched x g l y → Orphans (group_of x g) call r l.group
      → Acted x y log (orphaned_count r) (λ more. Answers x.boot g log more (λ j k. Orphans j call r k))
  acts_orphan call r t o touched did =
      let k = orphans_whole (home_of x.boot g) (past_in g log) call r l.group (t.story.sound g) o.1 (subst (λ z. Orphans z call r l.group) (opened_keeps x log g t o.0) did) touched.sound in
      acted x y log g l (λ i j. Orphans i call r j) (orphaned_count r) t o.0 touched k (orphaned_is (home_of x.boot g) (past_in g log) k.es call r k.answers)

  -- an End or a Leave
  pub acts_stay : (e : Entry) → ((z : History) → kept_with e z ≡ with_entry z e) → Told x log → is_opened_id (marks_in log) g ≡ true → Touched x g l y → Settles (group_of x g) e rest.Stays l.group
      → Acted x y log 1 (λ more. Answers x.boot g log more (SettlesWith g e Stays))
  acts_stay e plain t o touched did =
      let home = home_of x.boot g in
      let k = settles_whole home (past_in g log) e rest.Stays l.group (plain (kept_since home (past_in g log))) (t.story.sound g) (subst (λ z. Settles z e rest.Stays l.group) (opened_keeps x log g t o) did) touched.sound in
      acted x y log g l (SettlesWith g e Stays) 1 t o touched (record { es = k.es; kept_is = k.kept_is; new_is = k.new_is; sound = k.sound; answers = k.answers }) (adds_count home (past_in g log) k.es (e ∷ []) k.answers.1)

  pub acts_shut : (e : Entry) (items : List DueItem) (key : ℕ) → key ≡ g → ((z : History) → kept_with e z ≡ with_entry z e) → Told x log → is_opened_id (marks_in log) g ≡ true → Touched x g l y
      → Settles (group_of x g) e (rest.Shut items) l.group → Acted x y log 2 (λ more. Answers x.boot g log more (SettlesWith g e (Shut items key)))
  acts_shut e items key is plain t o touched did =
      let home = home_of x.boot g in
      let k = settles_whole home (past_in g log) e (rest.Shut items) l.group (plain (kept_since home (past_in g log))) (t.story.sound g) (subst (λ z. Settles z e (rest.Shut items) l.group) (opened_keeps x log g t o) did) touched.sound in
      acted x y log g l (SettlesWith g e (Shut items key)) 2 t o touched (record { es = k.es; kept_is = k.kept_is; new_is = k.new_is; sound = k.sound; answers = (is, k.answers) }) (adds_count home (past_in g log) k.es (entry.Shut items ∷ e ∷ []) k.answers.2)

-- CONDITIONS

module _ (x : ShardView) (log : List Item) (g : ℕ) (t : Told x log) (o : is_opened_id (marks_in log) g ≡ true) where
  pub open_there : (c : ℕ) → is_open (journal_in x.boot g log) c ≡ true → is_open (group_of x g) c ≡ true
  open_there c h = ap (λ z. is_open z c) (opened_keeps x log g t o) ∙ open_kept (home_of x.boot g) (past_in g log) c (t.story.sound g) h

  pub runs_there : (k : ℕ) → runs (journal_in x.boot g log) k ≡ true → runs (group_of x g) k ≡ true
  runs_there k h = ap (λ z. runs z k) (opened_keeps x log g t o) ∙ runs_mine (home_of x.boot g) (past_in g log) k (t.story.sound g) h

  pub suit_there : (k : ℕ) (results : List Outcome) → runs (journal_in x.boot g log) k ≡ true → suit (slots (journal_in x.boot g log) k) results ≡ true → suit (slots (group_of x g) k) results ≡ true
  suit_there k results r h = ap (λ z. suit (slots z k) results) (opened_keeps x log g t o) ∙ suit_kept (home_of x.boot g) (past_in g log) k results (t.story.sound g) r h

  pub stage_there : (k : ℕ) → stage_of (group_of x g) k ≡ stage_of (journal_in x.boot g log) k
  stage_there k = ap (λ z. stage_of z k) (opened_keeps x log g t o) ∙ stage_kept (home_of x.boot g) (past_in g log) (t.story.sound g).legal k

  pub asked_there : (k : ℕ) → (not (listed_at x (index_of g)).retired && is_asked (group_of x g) k) ≡ (not (is_retired_id (marks_in log) g) && is_asked (kept (journal_in x.boot g log)) k)
  asked_there k = λ i. not (opened_flag x log g t o i) && is_asked (opened_keeps x log g t o i) k

  pub last_there : (k : ℕ) → last_ahead (group_of x g) k ≡ last_ahead (journal_in x.boot g log) k
  last_there k =
      let l = (t.story.sound g).legal in
      ap (λ z. last_ahead z k) (opened_keeps x log g t o)
      ∙ last_alike (kept (journal_in x.boot g log)) (journal_in x.boot g log) k (waits_kept (home_of x.boot g) (past_in g log) l) (runs_kept (home_of x.boot g) (past_in g log) l)
      (alike_kept (home_of x.boot g) (past_in g log) l).asked_same

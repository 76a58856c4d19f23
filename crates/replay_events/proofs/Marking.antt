-- What comes to a call, and what its client is then told.
use Rattle.std.proofs.Common.{◌≡◌, ◌≢◌, ℕ, zero, suc, ◌-◌, ◌+◌, ◌≤◌, Bool, true, false, ◌||◌, Option, Some, None, Ok, List, [], ◌∷◌, ◌++◌, get_or, slice_set, not, refl, sym, ap, subst, ◌∙◌}
use Rattle.std.proofs.lemmas.Bool.{eq-eqb, false_from_ne_true}
use Rattle.std.proofs.lemmas.List.{set-get_or}
use Rattle.ndr_table.specs.Tables.{TableForm}
use Rattle.handle_model.specs.declared.entry.Home.{Home}
use Rattle.handle_model.specs.declared.entry.Entry.{Entry}
use Rattle.handle_model.specs.declared.entry.Entry.TheVariants.{Cancel, Deny, Orphan}
use Rattle.handle_model.specs.declared.reply.Reply.{Reply}
use Rattle.handle_model.specs.declared.reply.Reply.TheVariants.{Never, Dropped}
use Rattle.handle_model.specs.History.{History, with_entry, IsSound}
use Rattle.handle_model.specs.Journal.{Legal, waits, runs, asked, accept_count, is_decided, is_orphaned}
use Rattle.handle_model.specs.Replies.{replies, cancelled, context_mismatch}
use Rattle.handle_model.proofs.Tests.{and_left}
use Rattle.handle_model.proofs.Accepted.{fresh_unasked}
use Rattle.handle_model.proofs.Stages.{undecided, decided_some}
use Rattle.handle_model.proofs.ReplyStays.{cancelled_reply, orphaned_reply, denied_reply}
use Rattle.conn_histories.specs.Tales.{whole}
use Rattle.desk_service.specs.State.{Services}
use Rattle.group_core.specs.Calls.{Cancels, Orphans}
use Rattle.group_core.specs.declared.answer.Cancelled.TheVariants as cancels
use Rattle.group_core.specs.declared.answer.Orphaned.TheVariants as orphans
use Rattle.replay_world.specs.declared.peer.Member.{Member}
use Rattle.replay_world.specs.Worlds.{World, home_of, past_of, journal}
use Rattle.replay_world.specs.Groups.{GoesOn}
use Rattle.replay_groups.specs.declared.realm.Realm.{Realm}
use Rattle.replay_groups.specs.Holding.{Holds, Moves, Going}
use Rattle.replay_events.specs.Marked.{TellsReply, CancelsAs, OrphansAs}
use Rattle.replay_events.proofs.Minding.{sound_of}

-- ---- a call is told nothing new

pub untold : (v : World Services) (m : Member) (k : ℕ) → TellsReply v m k None
untold v m k reply e = absurd (cc)

-- ---- the journal that was set

pub set_kept : (l : List (List Entry)) (i : ℕ) (x : List Entry) → get_or l i [] ≢ [] → get_or (slice_set l i x) i [] ≡ x
set_kept [] i x n = absurd (n refl)
set_kept (y ∷ l) zero x n = refl
set_kept (y ∷ l) (suc i) x n = set_kept l i x n

pub set_now : {S : Type 0} (w v : World S) (g : ℕ) (past : List Entry) → v.groups ≡ slice_set w.groups (g - 1) past → past_of w g ≢ [] → past_of v g ≡ past
set_now w v g past groups some = ap (λ (l : List (List Entry)). get_or l (g - 1) []) groups ∙ set_kept w.groups (g - 1) past some

-- of a group in which something was entered
module _ {S : Type 0} (w v : World S) (g : ℕ) (Says : History → History → Type 0) (t : GoesOn Says w g v) (some : past_of w g ≢ []) where
  pub past_now : past_of v g ≡ t.0
  past_now = set_now w v g t.0 (ap (λ (z : World S). z.groups) t.2) some

  pub home_now : home_of v g ≡ home_of w g
  home_now = ap (λ (z : World S). home_of z g) t.2

  pub journal_now : journal v g ≡ whole (home_of w g) t.0
  journal_now = λ i. whole (home_now i) (past_now i)

-- a call that waits or runs is in a journal that has entries
none_waits : (home : Home) (past : List Entry) (k : ℕ) → past ≡ [] → waits (whole home past) k ≡ true → ⊥
none_waits home past k e w = let n : waits (whole home []) k ≡ true = subst (λ (l : List Entry). waits (whole home l) k ≡ true) e w in absurd (cc)

none_runs : (home : Home) (past : List Entry) (k : ℕ) → past ≡ [] → runs (whole home past) k ≡ true → ⊥
none_runs home past k e w = let n : runs (whole home []) k ≡ true = subst (λ (l : List Entry). runs (whole home l) k ≡ true) e w in absurd (cc)

pub waits_some : {S : Type 0} (w : World S) (g k : ℕ) → waits (journal w g) k ≡ true → past_of w g ≢ []
waits_some w g k t e = none_waits (home_of w g) (past_of w g) k e t

pub runs_some : {S : Type 0} (w : World S) (g k : ℕ) → runs (journal w g) k ≡ true → past_of w g ≢ []
runs_some w g k t e = none_runs (home_of w g) (past_of w g) k e t

-- ---- a cancel

module _ (old new : Realm) (m : Member) (k : ℕ) (low : 1 ≤ m.group) where
  pub cancel_ends : Moves old (Going m.group (λ a b. Cancels a k cancels.Ended b)) new → Moves old (CancelsAs m k (Some (Never cancelled))) new
  cancel_ends moves echo w h =
      let x = moves echo w h in
      let t = x.1 in
      let j = journal w m.group in
      let sound = sound_of echo old w h m.group low in
      let now : journal x.0 m.group ≡ with_entry j (Cancel k) =
      journal_now w x.0 m.group (λ a b. Cancels a k cancels.Ended b) t (waits_some w m.group k t.1.0) ∙ t.1.1 in
      let told : replies (journal x.0 m.group) k ≡ Never cancelled = ap (λ (z : History). replies z k) now ∙ cancelled_reply j k sound.legal t.1.0 in
      (x.0, ((t.0, (cancels.Ended, t.1), t.2), λ reply e. let is : Never cancelled ≡ reply = cc in told ∙ is), x.2, x.3)

  pub cancel_flags : Moves old (Going m.group (λ a b. Cancels a k cancels.Flagged b)) new → Moves old (CancelsAs m k None) new
  cancel_flags moves echo w h = let x = moves echo w h in (x.0, ((x.1.0, (cancels.Flagged, x.1.1), x.1.2), untold x.0 m k), x.2, x.3)

  pub cancel_late : Moves old (Going m.group (λ a b. Cancels a k cancels.Late b)) new → Moves old (CancelsAs m k None) new
  cancel_late moves echo w h = let x = moves echo w h in (x.0, ((x.1.0, (cancels.Late, x.1.1), x.1.2), untold x.0 m k), x.2, x.3)

-- ---- an orphaning

first_orphaned : (home : Home) (past : List Entry) (k : ℕ) → is_orphaned (whole home (Orphan k ∷ past)) k ≡ true
first_orphaned home past k = let q = eq-eqb k k refl in rw q refl

same_entries : {S : Type 0} (w v : World S) (g k : ℕ) (past : List Entry) → past ≡ past_of w g → v.groups ≡ slice_set w.groups (g - 1) past → past_of v g ≡ past_of w g
same_entries w v g k past same groups =
    ap (λ (l : List (List Entry)). get_or l (g - 1) []) groups ∙ ap (λ (x : List Entry). get_or (slice_set w.groups (g - 1) x) (g - 1) []) same
    ∙ ap (λ (l : List (List Entry)). get_or l (g - 1) []) (set-get_or w.groups (g - 1) [])

module _ (old new : Realm) (m : Member) (k : ℕ) (low : 1 ≤ m.group) where
  pub orphan_drops : Moves old (Going m.group (λ a b. Orphans a k orphans.Dropped b)) new → Moves old (OrphansAs m k (Some Dropped) true) new
  orphan_drops moves echo w h =
      let x = moves echo w h in
      let t = x.1 in
      let j = journal w m.group in
      let now : journal x.0 m.group ≡ with_entry j (Orphan k) =
      journal_now w x.0 m.group (λ a b. Orphans a k orphans.Dropped b) t (waits_some w m.group k t.1.0) ∙ t.1.1 in
      let legal : Legal (with_entry j (Orphan k)) = subst (λ (z : History). Legal z) now (sound_of echo new x.0 x.3 m.group low).legal in
      let told : replies (journal x.0 m.group) k ≡ Dropped = ap (λ (z : History). replies z k) now ∙ orphaned_reply j k legal in (
        x.0,
        (
          (t.0, (orphans.Dropped, t.1), t.2),
          λ reply e. let is : Dropped ≡ reply = cc in told ∙ is,
          ap (λ (z : History). is_orphaned z k) now ∙ first_orphaned (home_of w m.group) (past_of w m.group) k,
        ),
        x.2,
        x.3,
      )

  pub orphan_runs : Moves old (Going m.group (λ a b. Orphans a k orphans.Running b)) new → Moves old (OrphansAs m k None true) new
  orphan_runs moves echo w h =
      let x = moves echo w h in
      let t = x.1 in
      let j = journal w m.group in
      let running : runs j k ≡ true = and_left (runs j k) (not (is_orphaned j k)) t.1.0 in
      let now : journal x.0 m.group ≡ with_entry j (Orphan k) =
      journal_now w x.0 m.group (λ a b. Orphans a k orphans.Running b) t (runs_some w m.group k running) ∙ t.1.1 in (
        x.0,
        (
          (t.0, (orphans.Running, t.1), t.2),
          untold x.0 m k,
          ap (λ (z : History). is_orphaned z k) now ∙ first_orphaned (home_of w m.group) (past_of w m.group) k,
        ),
        x.2,
        x.3,
      )

  pub orphan_late : Moves old (Going m.group (λ a b. Orphans a k orphans.Late b)) new → Moves old (OrphansAs m k None false) new
  orphan_late moves echo w h =
      let x = moves echo w h in
      let t = x.1 in
      let same : past_of x.0 m.group ≡ past_of w m.group =
      same_entries w x.0 m.group k t.0 (ap (λ (z : History). z.past) t.1.2) (ap (λ (z : World Services). z.groups) t.2) in (
        x.0,
        ((t.0, (orphans.Late, t.1), t.2), untold x.0 m k, λ i. is_orphaned (whole (home_of w m.group) (same i)) k),
        x.2,
        x.3,
      )

-- ---- a further call

-- nothing was entered of it
pub fresh_unorphaned : (j : History) (k : ℕ) → Legal j → k ≡ accept_count j + 1 → is_orphaned j k ≡ false
fresh_unorphaned j k legal is =
    let none = fresh_unasked j k (asked j k) legal is refl in
    let still : is_decided j k ≡ false =
    false_from_ne_true (is_decided j k) (λ d. let some = decided_some j k legal d in let no = rw none at some in absurd (cc)) in
    (undecided j k legal still).unorphaned

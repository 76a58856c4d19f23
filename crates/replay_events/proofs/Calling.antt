-- The call of the connection in hand is taken, and ends.
use Rattle.std.proofs.Common.{◌≡◌, ◌≢◌, ℕ, ◌-◌, ◌≤◌, ◌==◌, Bool, true, false, not, ◌&&◌, ◌||◌, if◌then◌else◌, Option, Some, None, List, [], ◌∷◌, refl, sym, ap, subst, ◌∙◌}
use Rattle.std.specs.List.{find, list_any, AllByRecursion}
use Rattle.std.proofs.lemmas.Bool.{eq-eqb}
use Rattle.std.proofs.lemmas.List.{set-get_or}
use Rattle.ndr_table.specs.Tables.{TableForm}
use Rattle.desk_counts.specs.Numbers.{Numbers}
use Rattle.handle_model.specs.declared.entry.Home.{Home}
use Rattle.handle_model.specs.declared.entry.Slot.{Slot}
use Rattle.handle_model.specs.declared.entry.Asked.{Asked}
use Rattle.handle_model.specs.declared.entry.Outcome.{Outcome}
use Rattle.handle_model.specs.declared.entry.Said.{Said}
use Rattle.handle_model.specs.declared.entry.Entry.{Entry}
use Rattle.handle_model.specs.declared.entry.Entry.TheVariants.{Take, Deny, End, Shut}
use Rattle.handle_model.specs.declared.reply.Reply.{Reply}
use Rattle.handle_model.specs.declared.reply.Reply.TheVariants.{Never, Ran, Dropped}
use Rattle.handle_model.specs.History.{History, with_entry}
use Rattle.handle_model.specs.Calls.{slots_in}
use Rattle.handle_model.specs.Journal.{Legal, asked, slots, cookies_for, waits, runs, is_open, has_left, leaves, due, is_orphaned}
use Rattle.handle_model.specs.Replies.{replies, is_lost, context_mismatch}
use Rattle.handle_model.proofs.ReplyStays.{denied_reply, ended_reply}
use Rattle.conn_histories.specs.Tales.{whole}
use Rattle.replay_groups.specs.Rows.{AreIn, HasCookies}
use Rattle.replay_groups.specs.Rows as rows
use Rattle.replay_groups.proofs.Taken.{taken_suit}
use Rattle.manager_api.specs.Answers.{Ans}
use Rattle.manager_api.specs.Calls.{Call as Given}
use Rattle.conn_histories.specs.Ends.{Meets}
use Rattle.manager_api.specs.Served.{tables_in}
use Rattle.desk_service.specs.State.{Services, tables_with, tables_of}
use Rattle.desk_service.specs.Views.{services}
use Rattle.group_core.specs.declared.answer.Taking.{Taking}
use Rattle.group_core.specs.declared.answer.Taking.TheVariants.{Run, Denied, Wait}
use Rattle.group_core.specs.declared.answer.Taking.TheVariants as taking
use Rattle.group_core.specs.Calls.{Takes}
use Rattle.group_core.specs.declared.answer.Stage.{Stage}
use Rattle.group_core.specs.declared.answer.Stage.TheVariants as stage
use Rattle.group_core.specs.Stages.{is_asked, stage_of}
use Rattle.replay_world.specs.declared.peer.Member.{Member}
use Rattle.replay_world.specs.declared.peer.Unanswered.TheVariants.{Call}
use Rattle.replay_world.specs.declared.peer.Standing.TheVariants.{Open}
use Rattle.replay_world.specs.Worlds.{Peer, World, is_named, peer_at, home_of, past_of, journal, with_past}
use Rattle.replay_groups.specs.Keeps as groups
use Rattle.replay_world.specs.Groups.{GoesOn, taken_with}
use Rattle.replay_world.specs.Plays.{MayAnswer, Ends}
use Rattle.replay_world.specs.Printing.{out_text}
use Rattle.replay_world.specs.Counting.{CountAll}
use Rattle.replay_world.specs.Answered.{FitsPrinted}
use Rattle.replay_groups.specs.Service.{service_of}
use Rattle.replay_world.specs.Moments.{IsAs, Coheres}
use Rattle.replay_world.proofs.Pasts.{asked_grows}
use Rattle.replay_world.proofs.Keep.{some_is}
use Rattle.replay_world.proofs.Lines.{takes_keep, ends_keep}
use Rattle.replay_events.specs.declared.played.Kept.{Kept}
use Rattle.replay_events.specs.declared.played.Played.{Played}
use Rattle.replay_events.specs.Tables.{has_name, ShowOthers}
use Rattle.replay_groups.specs.declared.realm.Realm.{Realm}
use Rattle.replay_groups.specs.Holding.{Holds, Frames, Moves, Going, Known}
use Rattle.replay_groups.specs.Ends.{EndsIn}
use Rattle.replay_events.specs.declared.player.Player.{Player}
use Rattle.replay_events.specs.Standing.{KeepsRow, KeepsCall, Minds, IsTold, Handles}
use Rattle.replay_events.specs.Hands.{IsInHand, Leads, TakesIn}
use Rattle.replay_events.specs.Hands as hands
use Rattle.replay_events.specs.Marked.{TellsReply, with_cookies, told_of, told_by}
use Rattle.replay_events.proofs.Sparing.{grown, same_taken, same_orphaned}
use Rattle.replay_events.proofs.Spared.{SparesAll, no_call, one_call, taking_one, taking_none, ending}
use Rattle.replay_events.proofs.Minding.{sound_of, KeepsOthers, call_kept, others_spared, others_untaken}
use Rattle.replay_events.proofs.Staging.{stage_in, no_wait}
use Rattle.replay_events.proofs.Living.{with_call, recall}
use Rattle.replay_events.proofs.Marking.{untold, journal_now, past_now, waits_some, runs_some}
use Rattle.replay_events.proofs.Offing.{told_as}

-- ---- the realm goes on, and the connection stays

pub record Reheld (echo : Option TableForm) (x : Player) (t : Played) (w : World Services) (h : Handles echo x t w) (realm : Realm) (v : World Services) (call : Option Kept) (told : Option Reply) : Type 0 where
  pub holds : Holds echo realm v
  pub frames : Frames w v
  pub coheres : Coheres v
  pub minds : Minds echo v h.peer call
  pub tells : IsTold v h.peer told
  pub others : KeepsOthers echo t.name w v

pub reheld : (echo : Option TableForm) (x : Player) (t : Played) (w : World Services) (h : Handles echo x t w) (realm : Realm) (v : World Services) (call : Option Kept) (told : Option Reply)
    → Reheld echo x t w h realm v call told → Handles echo (record x { realm = realm; told = told }) (with_call t call) v
reheld echo x t w h realm v call told e =
    let back : (d : ℕ) → peer_at v d ≡ peer_at w d = λ d. ap (λ (ps : List Peer). find (is_named d) ps) e.frames.peers in
    record {
      holds = e.holds;
      coheres = e.coheres;
      peer = h.peer;
      there = back t.name ∙ h.there;
      shows = recall t call h.peer h.shows;
      minds = e.minds;
      told = e.tells;
      others = subst (λ (ps : List Peer). ShowOthers t.name x.peers ps) (sym e.frames.peers) h.others;
      minds_others = λ d p s other at found. let was = sym (back d) ∙ at in e.others d p s.call other was (h.minds_others d p s other was found);
      totals = subst (λ (ps : List Peer). CountAll ps x.totals) (sym e.frames.peers) h.totals;
      printed = h.printed ∙ ap out_text (sym e.frames.out);
      fit = subst (AllByRecursion FitsPrinted) (sym e.frames.out) h.fit;
    }

module _ (x : Player) (t : Played) (m : Member) (k : ℕ) (is : t.member ≡ Some m) (call : t.unanswered ≡ Call k) where
  pub member_is : (echo : Option TableForm) (w : World Services) (h : Handles echo x t w) → h.peer.member ≡ Some m
  member_is echo w h = sym h.shows.member ∙ is

  pub call_is : (echo : Option TableForm) (w : World Services) (h : Handles echo x t w) → h.peer.unanswered ≡ Call k
  call_is echo w h = sym h.shows.unanswered ∙ call

  pub as_is : (echo : Option TableForm) (w : World Services) (h : Handles echo x t w) → IsAs w t.name h.peer m
  as_is echo w h = record { there = h.there; member = member_is echo w h }

  pub low_is : (echo : Option TableForm) (w : World Services) (h : Handles echo x t w) → 1 ≤ m.group
  low_is echo w h = h.coheres.grouped t.name h.peer m (as_is echo w h)

  -- what is kept of the call, said of the connection's
  pub own_minds : (echo : Option TableForm) (w v : World Services) (h : Handles echo x t w) (kept : Kept) → KeepsCall echo (journal v m.group) k kept → Minds echo v h.peer (Some kept)
  own_minds echo w v h kept own n l other member unanswered e =
      let same : m ≡ n = some_is m n (sym (member_is echo w h) ∙ member) in
      let one : k ≡ l = (let f : Call k ≡ Call l = sym (call_is echo w h) ∙ unanswered in cc) in
      let two : kept ≡ other = some_is kept other e in
      subst (λ (z : Member). KeepsCall echo (journal v z.group) l other) same
      (subst (λ (y : ℕ). KeepsCall echo (journal v m.group) y other) one (subst (λ (y : Kept). KeepsCall echo (journal v m.group) k y) two own))

  none_minds : (echo : Option TableForm) (w v : World Services) (h : Handles echo x t w) → Minds echo v h.peer None
  none_minds echo w v h n l other member unanswered e = absurd (cc)

  -- ---- the call is taken, or isn't
  module _ (realm : Realm) where
    first_taken : (cookies : List (Option ℕ)) (past : List Entry) → taken_with (Take k cookies ∷ past) k ≡ Some cookies
    first_taken cookies past = let q = eq-eqb k k refl in rw q refl

    run_minds : (echo : Option TableForm) (w v : World Services) (h : Handles echo x t w) (row : List (Option ℕ)) (serial : ℕ) (o : Option Kept) → t.call ≡ o → Holds echo realm v
        → TakesIn m k (Run row serial) echo w v → Minds echo v h.peer (with_cookies (Run row serial) o)
    run_minds echo w v h row serial None e holds g = none_minds echo w v h
    run_minds echo w v h row serial (Some kept) e holds g =
        let own = h.minds m k kept (member_is echo w h) (call_is echo w h) e in
        let i = m.group in
        let j = journal w i in
        let cookies = cookies_for j (slots j k) in
        let low = low_is echo w h in
        let sound = sound_of echo realm v holds in
        let spares = taking_one w v i k (Run row serial) g i in
        let some = waits_some w i k g.1.0 in
        let past : past_of v i ≡ Take k cookies ∷ past_of w i =
        past_now w v i (λ a b. Takes a k (Run row serial) b) g some ∙ ap (λ (z : History). z.past) g.1.5 in
        let legal : Legal (whole (home_of w i) g.0) =
        subst (λ (z : History). Legal z) (journal_now w v i (λ a b. Takes a k (Run row serial) b) g some) ((sound i low).legal) in
        let suits : AreIn row (slots j k) cookies = taken_suit j (whole (home_of w i) g.0) k serial row legal g.1 in
        let same : slots j k ≡ kept.asked.slots = ap slots_in own.asked in
        own_minds echo w v h (record kept { cookies = Some row })
        (record {
          asked = asked_grows (home_of w i) (home_of v i) k kept.asked (past_of w i) (past_of v i) (grown (one_call i k i) (no_call i) (past_of w i) (past_of v i) spares) ((sound i low).legal) own.asked;
          is_request = own.is_request;
          cookies = (
            cookies,
            ap (λ (l : List Entry). taken_with l k) past ∙ first_taken cookies (past_of w i),
            subst (λ (s : List Slot). AreIn row s cookies) same suits,
          );
          orphaned = own.orphaned ∙ sym (same_orphaned (one_call i k i) (no_call i) (past_of w i) (past_of v i) (home_of v i) (home_of w i) k spares (λ o. o));
        })

    still_minds : (echo : Option TableForm) (w v : World Services) (h : Handles echo x t w) (o : Option Kept) → t.call ≡ o → Holds echo realm v → SparesAll no_call no_call w v → Minds echo v h.peer o
    still_minds echo w v h None e holds spares = none_minds echo w v h
    still_minds echo w v h (Some kept) e holds spares =
        let own = h.minds m k kept (member_is echo w h) (call_is echo w h) e in
        own_minds echo w v h kept (call_kept echo w v no_call no_call m.group k kept (low_is echo w h) (sound_of echo realm v holds) spares (λ o. o) (λ o. o) own)

    take_minds : (echo : Option TableForm) (w v : World Services) (h : Handles echo x t w) (r : Taking) → Holds echo realm v → TakesIn m k r echo w v → Minds echo v h.peer (with_cookies r t.call)
    take_minds echo w v h (Run row serial) holds g = run_minds echo w v h row serial t.call refl holds g
    take_minds echo w v h (Denied slot) holds g = still_minds echo w v h t.call refl holds (taking_none w v m.group k (Denied slot) tt g)
    take_minds echo w v h taking.Dropped holds g = still_minds echo w v h t.call refl holds (taking_none w v m.group k taking.Dropped tt g)
    take_minds echo w v h (Wait other) holds g = still_minds echo w v h t.call refl holds (taking_none w v m.group k (Wait other) tt g)

    take_told : (echo : Option TableForm) (w v : World Services) (h : Handles echo x t w) (r : Taking) → TakesIn m k r echo w v → TellsReply v m k (told_of r)
    take_told echo w v h (Run row serial) g = untold v m k
    take_told echo w v h taking.Dropped g = untold v m k
    take_told echo w v h (Wait other) g = untold v m k
    take_told echo w v h (Denied slot) g =
        λ reply e.
        let j = journal w m.group in
        let now : journal v m.group ≡ with_entry j (Deny k slot) = journal_now w v m.group (λ a b. Takes a k (Denied slot) b) g (waits_some w m.group k g.1.0) ∙ g.1.3 in
        let is : Never context_mismatch ≡ reply = cc in
        ap (λ (z : History). replies z k) now ∙ denied_reply j k slot ∙ is

    pub takes : (r : Taking) → Moves x.realm (Going m.group (λ old new. Takes old k r new)) realm
        → Leads (TakesIn m k r) x t (record x { realm = realm; told = told_of r }) (with_call t (with_cookies r t.call))
    takes r moves = (
      refl,
      λ echo w h.
          let q = moves echo w h.holds in
          let v = q.0 in
          let sound = sound_of echo realm v q.3 in (
            v,
            q.1,
            reheld echo x t w h realm v (with_cookies r t.call) (told_of r)
                (record {
                  holds = q.3;
                  frames = q.2;
                  coheres = takes_keep (service_of echo) w v m.group k r sound q.1 h.coheres;
                  minds = take_minds echo w v h r q.3 q.1;
                  tells = told_as v h.peer m k (told_of r) (member_is echo w h) (call_is echo w h) (take_told echo w v h r q.1);
                  others = others_untaken echo w v t.name h.coheres sound h.peer m k (as_is echo w h) (call_is echo w h) (taking_one w v m.group k r q.1);
                }),
          ),
    )

-- it doesn't wait, and nothing changes
pub drops : (x : Player) (t : Played) (m : Member) (k : ℕ) (at : Stage) → at ≢ stage.Waiting → groups.Told x.realm.groups m.group (λ j. at ≡ stage_of j k) → Leads (TakesIn m k taking.Dropped) x t x t
drops x t m k at other told = (
  refl,
  λ echo w h.
      let over = no_wait w m k at other (stage_in echo x.realm w m k at h.holds told) in
      let same : w ≡ with_past w m.group (past_of w m.group) = ap (λ (l : List (List Entry)). record w { groups = l }) (sym (set-get_or w.groups (m.group - 1) [])) in
      (w, (past_of w m.group, (over, refl), same), h),
)

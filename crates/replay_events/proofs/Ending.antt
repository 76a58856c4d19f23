-- The call of the connection in hand ends.
use Rattle.std.proofs.Common.{◌≡◌, ◌≢◌, ℕ, ◌≤◌, Bool, true, false, ◌||◌, if◌then◌else◌, Option, Some, None, List, [], ◌∷◌, length, refl, sym, ap, subst, ◌∙◌}
use Rattle.std.specs.List.{list_any}
use Rattle.ndr_table.specs.Tables.{TableForm}
use Rattle.desk_counts.specs.Numbers.{Numbers}
use Rattle.handle_model.specs.declared.entry.Slot.{Slot}
use Rattle.handle_model.specs.declared.entry.Asked.{Asked}
use Rattle.handle_model.specs.declared.entry.Outcome.{Outcome}
use Rattle.handle_model.specs.declared.entry.Said.{Said}
use Rattle.handle_model.specs.declared.entry.Entry.{Entry}
use Rattle.handle_model.specs.declared.entry.Entry.TheVariants.{End}
use Rattle.handle_model.specs.declared.reply.Reply.{Reply}
use Rattle.handle_model.specs.declared.reply.Reply.TheVariants.{Ran, Dropped}
use Rattle.handle_model.specs.History.{History, with_entry}
use Rattle.handle_model.specs.Journal.{Legal, asked, runs, is_open, has_left, leaves, due, is_orphaned}
use Rattle.handle_model.specs.Replies.{replies, is_lost}
use Rattle.handle_model.proofs.Held.{open_not_due}
use Rattle.handle_model.proofs.ReplyStays.{ended_reply}
use Rattle.conn_histories.specs.Tales.{whole}
use Rattle.group_core.specs.declared.answer.Rest.{Rest}
use Rattle.group_core.specs.declared.answer.Rest.TheVariants as rest
use Rattle.group_core.specs.declared.answer.Stage.{Stage}
use Rattle.group_core.specs.declared.answer.Stage.TheVariants as stage
use Rattle.group_core.specs.Stages.{is_asked, stage_of}
use Rattle.group_core.specs.Conns.{Settles}
use Rattle.replay_groups.specs.Rows.{AreIn, HasCookies}
use Rattle.replay_groups.specs.Rows as rows
use Rattle.manager_api.specs.Answers.{Ans}
use Rattle.manager_api.specs.Calls.{Call as Given}
use Rattle.conn_histories.specs.Requests.{HasSlots}
use Rattle.conn_histories.specs.Ends.{Meets}
use Rattle.manager_api.specs.Served.{tables_in}
use Rattle.desk_service.specs.State.{Services, tables_with, tables_of}
use Rattle.desk_service.specs.Views.{services}
use Rattle.replay_world.specs.declared.peer.Member.{Member}
use Rattle.replay_world.specs.declared.peer.Unanswered.TheVariants.{Call}
use Rattle.replay_world.specs.declared.peer.Standing.{Standing}
use Rattle.replay_world.specs.declared.peer.Standing.TheVariants.{Open, Closed, Lost}
use Rattle.replay_world.specs.Worlds.{Peer, World, home_of, past_of, journal}
use Rattle.replay_world.specs.Plays.{MayAnswer, Ends}
use Rattle.replay_world.specs.Groups.{SettlesIn, taken_with}
use Rattle.replay_world.specs.Counting.{CountAll}
use Rattle.replay_groups.specs.Service.{service_of}
use Rattle.replay_world.proofs.Pasts.{open_unleft}
use Rattle.replay_world.proofs.Keep.{some_is}
use Rattle.replay_world.proofs.Lines.{ends_keep}
use Rattle.replay_events.specs.declared.played.Kept.{Kept}
use Rattle.replay_events.specs.declared.played.Played.{Played}
use Rattle.replay_groups.specs.Keeps as groups
use Rattle.replay_groups.specs.declared.realm.Realm.{Realm}
use Rattle.replay_groups.specs.Holding.{Holds, Moves, Known}
use Rattle.replay_groups.specs.Ends.{EndsIn}
use Rattle.replay_events.specs.declared.player.Player.{Player}
use Rattle.replay_events.specs.Standing.{KeepsRow, KeepsCall, Minds, IsTold, Handles}
use Rattle.replay_events.specs.Hands.{IsInHand, Leads, Runs, EndsAs}
use Rattle.replay_events.specs.Hands as hands
use Rattle.replay_events.specs.Marked.{TellsReply, told_by, told_at}
use Rattle.replay_events.proofs.Spared.{no_call, ending}
use Rattle.replay_events.proofs.Minding.{sound_of, call_kept, others_spared}
use Rattle.replay_events.proofs.Living.{with_call}
use Rattle.replay_events.proofs.Staging.{stage_in, runs_now, no_run}
use Rattle.replay_events.proofs.Marking.{untold, set_now, runs_some}
use Rattle.replay_events.proofs.Offing.{told_as}
use Rattle.replay_events.proofs.Calling.{Reheld, reheld, member_is, call_is, as_is, low_is, own_minds}

-- what is known of the answer, by the desks that the realm has
meets_as : (w : World Services) (echo : Option TableForm) (numbers : Numbers) (cancelled : Bool) (desks : Services) (a : Asked) (cookies : List (Option ℕ)) (results : List Outcome) (said : Said) (g : ℕ)
    → w.desks.echo ≡ echo → CountAll w.peers numbers
    → Meets (home_of w g) (tables_with echo) (rows.MayAnswer w.desks numbers cancelled desks) a cookies cancelled results said
    → Meets (home_of w g) (tables_with echo) (MayAnswer (service_of echo) w cancelled desks) a cookies cancelled results said
meets_as w echo numbers cancelled desks a cookies results said g is counted m = record {
  message = m.message;
  asked = m.asked;
  told = m.told;
  cause = m.cause;
  answer = m.answer;
  answers = (m.answers.0, (numbers, counted, (is, m.answers.1)));
  blames = m.blames;
  results_are = m.results_are;
  says = m.says;
}

or_off : (a : Bool) → (a || false) ≡ a
or_off true = refl
or_off false = refl

module _ (x : Player) (t : Played) (m : Member) (k : ℕ) (is : t.member ≡ Some m) (call : t.unanswered ≡ Call k) where
  module _ (kept : Kept) (row : List (Option ℕ)) (has : t.call ≡ Some kept) (given : kept.cookies ≡ Some row) where
    own : (echo : Option TableForm) (w : World Services) (h : Handles echo x t w) → KeepsCall echo (journal w m.group) k kept
    own echo w h = h.minds m k kept (member_is x t m k is call echo w h) (call_is x t m k is call echo w h) has

    own_row : (echo : Option TableForm) (w : World Services) (h : Handles echo x t w) → KeepsRow (Some row) kept.asked.slots (taken_with (past_of w m.group) k)
    own_row echo w h = subst (λ (o : Option (List (Option ℕ))). KeepsRow o kept.asked.slots (taken_with (past_of w m.group) k)) given (own echo w h).cookies

    pub known_runs : IsInHand x t → Runs x t m k → Known x.realm (λ w. (runs (journal w m.group) k ≡ true) × (asked (journal w m.group) k ≡ Some kept.asked))
    known_runs q running = (q.0, q.1, q.2.holds, (running q.0 q.1 q.2, (own q.0 q.1 q.2).asked))

    pub served_is : IsInHand x t → tables_in x.realm.served ≡ tables_of (services x.realm.desks)
    served_is q =
        let h = q.2.holds in
        let e : (services x.realm.desks).echo ≡ q.0 = ap (λ (s : Services). s.echo) h.desks ∙ h.echo_is in
        h.tables ∙ ap tables_with (sym e)

    pub slots_are : IsInHand x t → HasSlots (tables_in x.realm.served) kept.asked.iface kept.asked.op kept.asked.order kept.asked.stub kept.asked.slots
    slots_are q =
        subst (λ (l : List TableForm). HasSlots l kept.asked.iface kept.asked.op kept.asked.order kept.asked.stub kept.asked.slots) (sym q.2.holds.tables)
        (own q.0 q.1 q.2).is_request.has

    pub slots_few : IsInHand x t → length kept.asked.slots ≤ 4
    slots_few q = (own q.0 q.1 q.2).is_request.few

    pub cookies_are : IsInHand x t → HasCookies row kept.asked.slots
    cookies_are q = let r = own_row q.0 q.1 q.2 in (r.0, r.2)

    -- ---- what the client is told

    module _ (echo : Option TableForm) (w : World Services) (h : Handles echo x t w) (realm : Realm) (v : World Services) (said : Said) (results : List Outcome) (desks : Services) (holds : Holds echo realm v)
        (running : runs (journal w m.group) k ≡ true) (s : SettlesIn (service_of echo) (record w { desks = desks }) m.group (End k results said) v) where
      abbrev j : History
      j = journal w m.group

      here : t.standing ≡ Open → is_open j m.number ≡ true
      here open_ = h.coheres.here t.name h.peer m (as_is x t m k is call echo w h) (sym h.shows.standing ∙ open_)

      stays_open : is_open j m.number ≡ true → is_open (with_entry j (End k results said)) m.number ≡ true
      stays_open o = o

      entered : (r : Rest) → t.standing ≡ Open → Settles j (End k results said) r (whole (home_of w m.group) s.past) → whole (home_of w m.group) s.past ≡ with_entry j (End k results said)
      entered rest.Stays open_ q = q.1
      entered (rest.Shut items) open_ q = let n = open_not_due (with_entry j (End k results said)) m.number (stays_open (here open_)) in let y = q.0 in absurd (cc (n, y))

      journal_is : t.standing ≡ Open → journal v m.group ≡ with_entry j (End k results said)
      journal_is open_ =
          let past : past_of v m.group ≡ s.past = set_now w v m.group s.past (ap (λ (z : World Services). z.groups) s.after) (runs_some w m.group k running) in
          let home : home_of v m.group ≡ home_of w m.group = ap (λ (z : World Services). home_of z m.group) s.after in
          (λ i. whole (home i) (past i)) ∙ entered s.rest open_ s.settles

      lost_as : t.standing ≡ Open → is_lost j k ≡ kept.orphaned
      lost_as open_ =
          let o = own echo w h in
          let c = h.coheres.calls t.name k h.peer m (as_is x t m k is call echo w h) (call_is x t m k is call echo w h) in
          let what : c.what ≡ kept.asked = some_is c.what kept.asked (sym c.asks ∙ o.asked) in
          let number : kept.asked.conn ≡ m.number = sym (ap (λ (a : Asked). a.conn) what) ∙ c.conn in
          let unleft : list_any (leaves kept.asked.conn) (past_of w m.group) ≡ false =
          ap (λ (n : ℕ). list_any (leaves n) (past_of w m.group)) number ∙ open_unleft (home_of w m.group) m.number (past_of w m.group) (here open_) in
          let left : has_left j (asked j k) ≡ false = ap (λ (a : Option Asked). has_left j a) o.asked ∙ unleft in
          ap (λ (b : Bool). is_orphaned j k || b) left ∙ or_off (is_orphaned j k) ∙ sym o.orphaned

      pub ended_told : t.standing ≡ Open → TellsReply v m k (Some (told_by kept.orphaned said))
      ended_told open_ reply e =
          let now = journal_is open_ in
          let legal : Legal (with_entry j (End k results said)) = subst (λ (z : History). Legal z) now (sound_of echo realm v holds m.group (low_is x t m k is call echo w h)).legal in
          let one : told_by kept.orphaned said ≡ reply = some_is (told_by kept.orphaned said) reply e in
          ap (λ (z : History). replies z k) now ∙ ended_reply j k results said legal ∙ ap (λ (b : Bool). if b then Dropped else Ran said) (lost_as open_) ∙ one

    -- ---- the call ends

    abbrev IsKnown : Option Reply → Said → Type 0
    IsKnown told said = (reply : Reply) → told ≡ Some reply → (t.standing ≡ Open) × (reply ≡ told_by kept.orphaned said)

    pub ends : (realm : Realm) (said : Said) (told : Option Reply) → Runs x t m k → Moves x.realm (EndsIn m k kept.asked row x.totals said) realm → IsKnown told said
        → EndsAs m k true x t (record x { realm = realm; told = told }) t
    ends realm said told running moves known = (
      refl,
      λ echo w h.
          let q = moves echo w h.holds in
          let v = q.0 in
          let e = q.1 in
          let runs_now = running echo w h in
          let r = own_row echo w h in
          let cancelled = is_asked (journal w m.group) k in
          let world_ends : Ends (service_of echo) w m k v =
          record {
            asked = kept.asked;
            asks = (own echo w h).asked;
            cookies = r.0;
            taken = r.1;
            desks = e.desks;
            results = e.results;
            said = said;
            meets = meets_as w echo x.totals cancelled e.desks kept.asked r.0 e.results said m.group h.holds.echo_is h.totals (e.meets r.0 r.2);
            memory = e.memory;
            settles = e.settles;
          } in
          let sound = sound_of echo realm v q.3 in
          let spares = ending (service_of echo) (record w { desks = e.desks }) v m.group k e.results said e.settles in
          let minds : Minds echo v h.peer t.call =
          subst (λ (o : Option Kept). Minds echo v h.peer o) (sym has)
          (own_minds x t m k is call echo w v h kept (call_kept echo w v no_call no_call m.group k kept (low_is x t m k is call echo w h) sound spares (λ o. o) (λ o. o) (own echo w h))) in
          let tells : TellsReply v m k told =
          λ reply is_reply.
          let f = known reply is_reply in
          ended_told echo w h realm v said e.results e.desks q.3 runs_now e.settles f.0 reply (ap (λ (z : Reply). Some z) (sym f.1)) in (
            v,
            (runs_now, world_ends),
            reheld echo x t w h realm v t.call told
                (record {
                  holds = q.3;
                  frames = q.2;
                  coheres = ends_keep (service_of echo) w v m k sound world_ends h.coheres;
                  minds = minds;
                  tells = told_as v h.peer m k told (member_is x t m k is call echo w h) (call_is x t m k is call echo w h) tells;
                  others = others_spared echo w v t.name h.coheres sound spares;
                }),
          ),
    )

pub known_at : (standing : Standing) (orphaned : Bool) (said : Said) (reply : Reply) → told_at standing orphaned said ≡ Some reply → (standing ≡ Open) × (reply ≡ told_by orphaned said)
known_at Open orphaned said reply e = (refl, sym (some_is (told_by orphaned said) reply e))
known_at Closed orphaned said reply e = absurd (cc)
known_at Lost orphaned said reply e = absurd (cc)

-- ---- where the call is

pub it_runs : (x : Player) (t : Played) (m : Member) (k : ℕ) → groups.Told x.realm.groups m.group (λ j. stage.Running ≡ stage_of j k) → Runs x t m k
it_runs x t m k told echo w h = runs_now w m k (stage_in echo x.realm w m k stage.Running h.holds told)

pub runs_not : (x : Player) (t : Played) (m : Member) (k : ℕ) (at : Stage) → at ≢ stage.Running → t.member ≡ Some m → groups.Told x.realm.groups m.group (λ j. at ≡ stage_of j k) → EndsAs m k false x t x t
runs_not x t m k at other member told = (
  refl,
  refl,
  λ echo w h.
      let low = h.coheres.grouped t.name h.peer m (record { there = h.there; member = sym h.shows.member ∙ member }) in
      no_run w m k at other ((sound_of echo x.realm w h.holds m.group low).legal) (stage_in echo x.realm w m k at h.holds told),
)

-- A call is taken, and one ends: what the turns tell then.
use Rattle.std.proofs.Common.{◌≡◌, ◌≢◌, ℕ, ◌-◌, ◌≤◌, Bool, true, false, ◌||◌, Option, Some, None, List, [], ◌∷◌, ◌++◌, get_or, slice_set, refl, sym, ap, subst, ◌∙◌, ◌⊎◌, inl, inr}
use Rattle.std.specs.Prelude.{⊤}
use Rattle.std.specs.List.{list_any, AllByRecursion}
use Rattle.handle_model.specs.declared.entry.Home.{Home}
use Rattle.handle_model.specs.declared.entry.Slot.{Slot}
use Rattle.handle_model.specs.declared.entry.Asked.{Asked}
use Rattle.handle_model.specs.declared.entry.Entry.{Entry}
use Rattle.handle_model.specs.declared.entry.Entry.TheVariants.{Join, End}
use Rattle.pdu_stream.specs.declared.joined.Joined.{Joined}
use Rattle.conn_histories.specs.declared.turn.Off.{Off}
use Rattle.conn_histories.specs.declared.turn.Fate.{Fate}
use Rattle.conn_histories.specs.declared.turn.Turn.{Turn}
use Rattle.conn_histories.specs.Stories.{Server}
use Rattle.conn_histories.specs.Tales.{whole}
use Rattle.conn_histories.specs.declared.turn.Fate.TheVariants.{Waiting, Denied, Cancelled, Orphaned, LeftWaiting, Running, LeftRunning, Ended, LeftEnded}
use Rattle.conn_histories.specs.declared.turn.Deed.TheVariants as deeds
use Rattle.conn_histories.specs.declared.turn.Turn.TheVariants.{Binding, Bound, NotBound, Answered, Called, Closed as ClosedTurn}
use Rattle.replay_world.specs.declared.peer.Member.{Member}
use Rattle.replay_world.specs.declared.peer.Unanswered.{Unanswered}
use Rattle.replay_world.specs.declared.peer.Unanswered.TheVariants.{Nothing, Call}
use Rattle.replay_world.specs.declared.peer.Standing.{Standing}
use Rattle.replay_world.specs.declared.peer.Standing.TheVariants.{Open, Closed, Lost}
use Rattle.replay_world.specs.Services.{Service}
use Rattle.replay_world.specs.Worlds.{Peer, World, peer_at, home_of, past_of, journal}
use Rattle.replay_world.specs.Moments.{AreSound, Coheres}
use Rattle.group_core.specs.declared.answer.Taking.{Taking}
use Rattle.group_core.specs.declared.answer.Taking.TheVariants as taking
use Rattle.group_core.specs.Calls.{Takes}
use Rattle.group_core.specs.Conns.{Settles}
use Rattle.handle_model.specs.Journal.{has_joined, runs}
use Rattle.conn_asks.specs.States.{ConnState, caller_of}
use Rattle.conn_asks.specs.declared.events.Waits.TheVariants as waiting
use Rattle.group_core.specs.Stages.{is_asked}
use Rattle.conn_histories.specs.Ends.{Meets}
use Rattle.conn_histories.specs.Entries.{is_cancel, has_left, is_open, is_running, asked_as, turn_left, turn_runs, fate_entries}
use Rattle.conn_histories.specs.Events.{all_events}
use Rattle.conn_histories.specs.Stories.{Made}
use Rattle.conn_histories.specs.Tales.{Stands}
use Rattle.conn_turns.proofs.TaleFacts.{any_first}
use Rattle.replay_world.specs.Groups.{GoesOn}
use Rattle.replay_world.specs.Plays.{Ends}
use Rattle.replay_world.specs.Promised.{as_server}
use Rattle.conn_turns.proofs.Staged.{Stage, marked_running, marked_left}
use Rattle.replay.proofs.Cookies.{taken_running, taken_left}
use Rattle.conn_turns.proofs.Making.{called}
use Rattle.conn_turns.proofs.Whose.{AskedOf}
use Rattle.conn_turns.proofs.Stepping.{no_behind, Onward, staged, taken, OpensBy, TakenSo, given, EndSo, EndsWell, ended_fate}
use Rattle.conn_turns.proofs.StepEnding.{ended_so}
use Rattle.replay.proofs.Reaching.{Reaches, Below, below}
use Rattle.conn_turns.specs.Done.{IsDone}
use Rattle.conn_turns.proofs.Done.{done_runs}
use Rattle.replay.proofs.Telling.{Asking, Behind, RestsAs, newest_open, is_gone, not_free, IsTold, TellsTurns, call_apart, set_there}
use Rattle.replay.proofs.Doing.{others_by, on_set, off_set}

pub true_is : (b : Bool) → b ≡ true → b ≡ false → ⊥
true_is b h i = absurd (cc (h, i))

abbrev pub IsDenied : Taking → Type 0
IsDenied (taking.Denied slot) = ⊤
IsDenied _ = ⊥

pub neither : (x y : Bool) → x ≡ false → y ≡ false → (x || y) ≡ false
neither x y h i = rw (h, i) refl

-- ---- of a connection with a call

pub calling_never : (k : ℕ) → Call k ≡ Nothing → ⊥
calling_never k e = absurd cc

abbrev pub asking_by : (s : Standing) (k : ℕ) (turns : List Turn) (m : ConnState) → Behind s (Call k) turns m → Asking k turns
asking_by Open k turns m b = b.0
asking_by Closed k turns m b = absurd (calling_never k b.0)
asking_by Lost k turns m b = b.0

-- the same with another turn in the place of the newest
pub behind_by : (s : Standing) (k : ℕ) (turns turns' : List Turn) (m : ConnState) (b : Behind s (Call k) turns m) (a : Asking k turns') → a.joined ≡ (asking_by s k turns m b).joined → has_left a.fate ≡ is_gone s → Behind s (Call k) turns' m
behind_by Open k turns turns' m b a same left = (a, b.1 ∙ ap (λ (x : Joined). waiting.Call (caller_of x) x.maybe) (sym same))
behind_by Closed k turns turns' m b a same left = absurd (calling_never k b.0)
behind_by Lost k turns turns' m b a same left = (a, left)

pub gone_left : (s : Standing) (k : ℕ) (turns : List Turn) (m : ConnState) (b : Behind s (Call k) turns m) → (is_gone s ≡ false → has_left (asking_by s k turns m b).fate ≡ false) → has_left (asking_by s k turns m b).fate ≡ is_gone s
gone_left Open k turns m b f = f refl
gone_left Closed k turns m b f = absurd (calling_never k b.0)
gone_left Lost k turns m b f = b.1

module _ (service : Service) (end w u : World service.State) (c : ℕ) (p : Peer) (m : Member) (k : ℕ) (h : Coheres w) (ends : AreSound end) (from : Reaches w end) (reach : Reaches u end) (was : peer_at w c ≡ Some p)
    (is : p.member ≡ Some m) (x_is : p.unanswered ≡ Call k) (free : Bool) (t : TellsTurns service end w p free) where
  abbrev server : Server
  server = as_server service end

  abbrev gone : Bool
  gone = is_gone p.standing

  abbrev pub behind : Behind p.standing (Call k) t.turns p.state
  behind = subst (λ (x : Unanswered). Behind p.standing x t.turns p.state) x_is t.behind

  abbrev pub at : Asking k t.turns
  at = asking_by p.standing k t.turns p.state behind

  pub mine : IsTold service end w (Some m) gone t.turns
  mine = subst (λ (mem : Option Member). IsTold service end w mem gone t.turns) is t.told

  pub made : Made server (home_of end m.group) m.number (past_of w m.group) gone (called at.joined at.iface at.offs (deeds.Accepted k at.slots at.fate) None ∷ at.older) mine.0
  made = subst (λ (l : List Turn). Made server (home_of end m.group) m.number (past_of w m.group) gone l mine.0) at.is mine.1

  pub left : has_left at.fate ≡ gone
  left = gone_left p.standing k t.turns p.state behind (λ g. any_first (has_left at.fate) (list_any turn_left at.older) (made.stand.none_left g))

  pub low : 1 ≤ m.group
  low = h.grouped c p m (record { there = was; member = is })

  pub there : has_joined (journal w m.group) m.number ≡ true
  there = h.joined c p m (record { there = was; member = is })

  pub homes : home_of w m.group ≡ home_of end m.group
  homes = ap (λ (boot : ℕ). record { boot = boot; group = m.group }) (sym from.boot)

  pub low_u : Below end u
  low_u = below end u ends reach

  abbrev asked_is : Asked
  asked_is = asked_as m.number (record { joined = at.joined; iface = at.iface; offs = at.offs; deed = deeds.Accepted k at.slots at.fate; answer = None }) at.slots

  pub stage : Stage (home_of w m.group) (past_of w m.group) k asked_is at.fate
  stage = staged server (home_of end m.group) (home_of w m.group) m.number gone at.joined at.iface k at.older (past_of w m.group) at.offs at.slots at.fate mine.0 left made

  pub asked_here : AskedOf m.number (past_of w m.group) k
  asked_here = record { what = asked_is; asks = stage.asks; theirs = refl }

  -- it goes on
  pub record Went (So : List Off → List Slot → Fate → Type 0) : Type 0 where
    pub on : Onward server (home_of end m.group) m.number gone at.joined at.iface k at.older (past_of w m.group) (past_of u m.group) mine.0 So
    pub elsewhere : (g : ℕ) → 1 ≤ g → g ≢ m.group → past_of u g ≡ past_of w g

  module _ (So : List Off → List Slot → Fate → Type 0) (g : Went So) (same : g.on.offs ≡ at.offs) (left' : has_left g.on.fate ≡ gone) (may : is_open g.on.fate ≡ true → at.joined.cancel ≡ false) where
    abbrev pub turns' : List Turn
    turns' = called at.joined at.iface g.on.offs (deeds.Accepted k g.on.slots g.on.fate) None ∷ at.older

    abbrev pub asking' : Asking k turns'
    asking' = record { joined = at.joined; iface = at.iface; offs = g.on.offs; slots = g.on.slots; fate = g.on.fate; older = at.older; is = refl; done = at.done; may = may; apart = at.apart }

    pub events' : all_events t.turns ≡ all_events turns'
    events' = ap all_events at.is ∙ sym (λ i. all_events (called at.joined at.iface (same i) (deeds.Accepted k g.on.slots g.on.fate) None ∷ at.older))

    abbrev pub went_tells : (free' : Bool) → (free' ≡ true → RestsAs p.standing (Call k) turns' p.state) → TellsTurns service end u p free'
    went_tells free' rests = record {
      turns = turns';
      lives = t.lives;
      events = t.events ∙ events';
      behind = subst (λ (x : Unanswered). Behind p.standing x turns' p.state) (sym x_is) (behind_by p.standing k t.turns turns' p.state behind asking' refl left');
      bound = t.bound;
      told = subst (λ (mem : Option Member). IsTold service end u mem gone turns') (sym is) (g.on.own, g.on.made);
      rests = λ e. subst (λ (x : Unanswered). RestsAs p.standing x turns' p.state) (sym x_is) (rests e);
    }

    pub went_others : (d : ℕ) (x : Peer) → d ≢ c → peer_at w d ≡ Some x → (gone' : Bool) (ts : List Turn) → IsTold service end w x.member gone' ts → IsTold service end u x.member gone' ts
    went_others =
        others_by service end w u c p h was m is
        (record { call = Some k; es = g.on.es; at = g.on.is; by = g.on.by; elsewhere = g.elsewhere; apart = call_apart w m.group m.number k asked_here }) low_u

  -- ---- it is taken

  pub takes_went : (answer : Taking) → GoesOn (λ old new. Takes old k answer new) w m.group u → Went (TakenSo server (home_of end m.group) (home_of w m.group) m.number gone at.joined at.iface k at.older at.apart at.offs at.slots (given server (home_of end m.group) (home_of w m.group) m.number gone at.joined at.iface k at.older at.apart (past_of w m.group)) answer at.fate)
  takes_went answer says = record {
    on =
        taken server (home_of end m.group) (home_of w m.group) m.number gone at.joined at.iface k at.older at.apart (past_of w m.group) (past_of u m.group) at.offs at.slots at.fate mine.0 answer (low_u.legal m.group low) left at.may
        (on_set (λ old new. Takes old k answer new) w u m.group m.number there says) made;
    elsewhere = λ g up d. off_set w u m.group g says.0 (ap (λ (z : World service.State). z.groups) says.2) low up d;
  }

  pub rests_so : (s : Standing) (turns : List Turn) → (s ≡ Open → newest_open turns ≡ true) → RestsAs s (Call k) turns p.state
  rests_so Open turns f = f refl
  rests_so Closed turns f = tt
  rests_so Lost turns f = tt

  -- as open as it was
  pub was_open : (s : Standing) → s ≡ Open → RestsAs s (Call k) t.turns p.state → is_open at.fate ≡ true
  was_open Open e r = subst (λ (l : List Turn). newest_open l ≡ true) at.is r
  was_open Closed e r = absurd cc
  was_open Lost e r = absurd cc

  pub open_before : free ≡ true → p.standing ≡ Open → is_open at.fate ≡ true
  open_before f o = was_open p.standing o (subst (λ (x : Unanswered). RestsAs p.standing x t.turns p.state) x_is (t.rests f))

  pub opens_after : (answer : Taking) (fate : Fate) → (IsDenied answer → ⊥) → OpensBy server (home_of end m.group) (home_of w m.group) m.number gone at.joined at.iface k at.older at.apart answer at.fate fate → is_open at.fate ≡ true → is_open fate ≡ true
  opens_after (taking.Run row serial) fate granted o before = o
  opens_after (taking.Denied slot) fate granted o before = absurd (granted tt)
  opens_after taking.Dropped fate granted o before = ap is_open o ∙ before
  opens_after (taking.Wait n) fate granted o before = ap is_open o ∙ before

  pub taken_tells : (answer : Taking) → GoesOn (λ old new. Takes old k answer new) w m.group u → TellsTurns service end u p false
  taken_tells answer says = let g = takes_went answer says in went_tells _ g g.on.so.0 g.on.so.1 g.on.so.2 false (λ e. absurd cc)

  pub taken_rests : (answer : Taking) → GoesOn (λ old new. Takes old k answer new) w m.group u → free ≡ true → (IsDenied answer → ⊥) → TellsTurns service end u p true
  taken_rests answer says f granted =
      let g = takes_went answer says in
      went_tells _ g g.on.so.0 g.on.so.1 g.on.so.2 true (λ e. rests_so p.standing _ (λ o. opens_after answer g.on.fate granted g.on.so.3 (open_before f o)))

  pub taken_others : (answer : Taking) → GoesOn (λ old new. Takes old k answer new) w m.group u → (d : ℕ) (x : Peer) → d ≢ c → peer_at w d ≡ Some x → (gone' : Bool) (ts : List Turn)
      → IsTold service end w x.member gone' ts → IsTold service end u x.member gone' ts
  taken_others answer says = let g = takes_went answer says in went_others _ g g.on.so.0 g.on.so.1 g.on.so.2

  -- ---- it ends

  abbrev told_entries : List Off → Fate → List Entry
  told_entries offs fate = fate_entries k asked_is offs fate

  module _ (e : Ends service w m k u) where
    -- its cookies and marks
    record Ran (fate : Fate) : Type 0 where
      pub which : (fate ≡ Running e.cookies) ⊎ (fate ≡ LeftRunning e.cookies)
      pub told : is_asked (journal w m.group) k ≡ list_any is_cancel at.offs

    some_cookies : (a b : List (Option ℕ)) → Some a ≡ Some b → a ≡ b
    some_cookies a b h = cc

    ran : (fate : Fate) → fate ≡ at.fate → is_running fate ≡ true → Ran fate
    ran (Running cookies) same r =
        let stands = subst (λ (f : Fate). Stands m.number gone (past_of w m.group) (called at.joined at.iface at.offs (deeds.Accepted k at.slots f) None)) (sym same) made.stand.stand.0 in
        let tells = stands ∙ ap (λ l. l ++ told_entries at.offs (Running cookies) ++ Join m.number ∷ []) (no_behind m.number gone false (ap has_left same ∙ left)) in
        let marked = marked_running (home_of w m.group) k asked_is (past_of w m.group) at.offs cookies tells in
        let one : cookies ≡ e.cookies = some_cookies cookies e.cookies (sym (taken_running k asked_is (past_of w m.group) at.offs cookies tells) ∙ e.taken) in
        record { which = inl (ap (λ (x : List (Option ℕ)). Running x) one); told = marked.told }
    ran (LeftRunning cookies) same r =
        let stands = subst (λ (f : Fate). Stands m.number gone (past_of w m.group) (called at.joined at.iface at.offs (deeds.Accepted k at.slots f) None)) (sym same) made.stand.stand.0 in
        let tells = stands ∙ ap (λ l. l ++ told_entries at.offs (LeftRunning cookies) ++ Join m.number ∷ []) (no_behind m.number gone true (ap has_left same ∙ left)) in
        let marked = marked_left (home_of w m.group) k asked_is (past_of w m.group) at.offs cookies tells in
        let one : cookies ≡ e.cookies = some_cookies cookies e.cookies (sym (taken_left k asked_is (past_of w m.group) at.offs cookies tells) ∙ e.taken) in
        record { which = inr (ap (λ (x : List (Option ℕ)). LeftRunning x) one); told = marked.told }
    ran Waiting same r = absurd cc
    ran (Denied slot) same r = absurd cc
    ran Cancelled same r = absurd cc
    ran Orphaned same r = absurd cc
    ran LeftWaiting same r = absurd cc
    ran (Ended run) same r = absurd cc
    ran (LeftEnded run) same r = absurd cc

    some_asked : (a b : Asked) → Some a ≡ Some b → a ≡ b
    some_asked a b h = cc

    well : is_running at.fate ≡ true → EndsWell server (home_of end m.group) (home_of w m.group) m.number gone at.joined at.iface k at.older at.apart at.offs at.slots e.cookies e.results e.said
    well r =
        let one : e.asked ≡ asked_is = some_asked e.asked asked_is (sym e.asks ∙ stage.asks) in
        let told = (ran at.fate refl r).told in
        let x = e.meets in
        let y : Meets (home_of w m.group) service.tables server.may e.asked e.cookies (is_asked (journal w m.group) k) e.results e.said =
        record {
          message = x.message;
          asked = x.asked;
          told = x.told;
          cause = x.cause;
          answer = x.answer;
          answers = (w.desks, e.desks, x.answers.1.0, x.answers.1.2);
          blames = x.blames;
          results_are = x.results_are;
          says = x.says;
        } in
        subst (λ (home : Home). Meets home service.tables server.may asked_is e.cookies (list_any is_cancel at.offs) e.results e.said) homes
        (subst (λ (b : Bool). Meets (home_of w m.group) service.tables server.may asked_is e.cookies b e.results e.said) told
        (subst (λ (a : Asked). Meets (home_of w m.group) service.tables server.may a e.cookies (is_asked (journal w m.group) k) e.results e.said) one y))

    pub ends_went : runs (journal w m.group) k ≡ true → Went (EndSo server (home_of end m.group) (home_of w m.group) m.number gone at.joined at.iface k at.older at.apart at.offs at.slots (ended_fate e.results e.said at.fate))
    ends_went r =
        let r' : is_running at.fate ≡ true = sym stage.runs_is ∙ r in
        let s = e.settles in
        let groups' : u.groups ≡ slice_set w.groups (m.group - 1) s.past = ap (λ (z : World service.State). z.groups) s.after in
        let now : past_of u m.group ≡ s.past = ap (λ (l : List (List Entry)). get_or l (m.group - 1) []) groups' ∙ set_there (home_of w m.group) w.groups (m.group - 1) m.number s.past there in
        let settles : Settles (whole (home_of w m.group) (past_of w m.group)) (End k e.results e.said) s.rest (whole (home_of w m.group) (past_of u m.group)) =
        subst (λ (past : List Entry). Settles (whole (home_of w m.group) (past_of w m.group)) (End k e.results e.said) s.rest (whole (home_of w m.group) past)) (sym now) s.settles in
        record {
          on =
              ended_so server (home_of end m.group) (home_of w m.group) m.number gone at.joined at.iface k at.older at.apart (past_of w m.group) (past_of u m.group) at.offs at.slots mine.0 e.results e.said (low_u.legal m.group low)
              at.fate e.cookies s.rest r' left (ran at.fate refl r').which (well r') settles made;
          elsewhere = λ g up d. off_set w u m.group g s.past groups' low up d;
        }

    pub no_open : (b : Bool) → b ≡ false → b ≡ true → at.joined.cancel ≡ false
    no_open b f o = absurd (true_is b o f)

    abbrev pub ended_tells : runs (journal w m.group) k ≡ true → TellsTurns service end u p false
    ended_tells r = let g = ends_went r in went_tells _ g g.on.so.0 g.on.so.1 (no_open (is_open g.on.fate) g.on.so.2) false (λ e. absurd (not_free e))

    pub ended_others : runs (journal w m.group) k ≡ true → (d : ℕ) (x : Peer) → d ≢ c → peer_at w d ≡ Some x → (gone' : Bool) (ts : List Turn) → IsTold service end w x.member gone' ts → IsTold service end u x.member gone' ts
    ended_others r = let g = ends_went r in went_others _ g g.on.so.0 g.on.so.1 (no_open (is_open g.on.fate) g.on.so.2)

    -- and no call of it runs then
    pub ended_none : (r : runs (journal w m.group) k ≡ true) → list_any turn_runs (ended_tells r).turns ≡ false
    ended_none r = let g = ends_went r in neither (is_running g.on.fate) (list_any turn_runs at.older) g.on.so.3 (done_runs at.older at.done)

  -- nor where it runs no longer
  pub over_none : runs (journal w m.group) k ≡ false → list_any turn_runs t.turns ≡ false
  over_none r = ap (list_any turn_runs) at.is ∙ neither (is_running at.fate) (list_any turn_runs at.older) (sym stage.runs_is ∙ r) (done_runs at.older at.done)

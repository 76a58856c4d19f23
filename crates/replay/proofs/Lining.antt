-- Each line of a script keeps what the turns of all connections tell.
use Rattle.std.proofs.Common.{◌≡◌, ◌≢◌, ℕ, Bool, true, false, Option, Some, None, List, [], ◌∷◌, refl, sym, ap, subst, ◌∙◌, inl, inr, arith}
use Rattle.std.proofs.lemmas.List.{append-nil}
use Rattle.std.proofs.lemmas.Bool.Decides.{eqb_tells}
use Rattle.handle_model.specs.declared.entry.Entry.{Entry}
use Rattle.handle_model.specs.declared.entry.Entry.TheVariants.{End, Leave}
use Rattle.handle_model.specs.History.{History}
use Rattle.replay_world.specs.declared.peer.Member.{Member}
use Rattle.replay_world.specs.declared.peer.Unanswered.{Unanswered}
use Rattle.replay_world.specs.declared.peer.Unanswered.TheVariants.{Nothing, Bind, Refused, Call}
use Rattle.replay_world.specs.declared.peer.Standing.{Standing}
use Rattle.replay_world.specs.declared.peer.Standing.TheVariants.{Open, Closed, Lost}
use Rattle.replay_world.specs.Services.{Service}
use Rattle.replay_world.specs.Worlds.{Peer, Printed, World, peer_at, with_peer, home_of, past_of, journal, printing, booted, opened_peer}
use Rattle.replay_world.specs.Moments.{AreSound, IsAs, IsCallOf, Coheres}
use Rattle.group_core.specs.declared.answer.Taking.{Taking}
use Rattle.group_core.specs.declared.answer.Taking.TheVariants as taking
use Rattle.group_core.specs.Calls.{Takes}
use Rattle.handle_model.specs.Journal.{runs, has_joined, is_open as is_open_in}
use Rattle.pdu_stream.specs.Cuts.{IsPartial}
use Rattle.conn_histories.specs.Histories.Event.{Came}
use Rattle.conn_histories.specs.Requests.{ids_of}
use Rattle.conn_histories.specs.declared.turn.Fate.{Fate}
use Rattle.conn_histories.specs.declared.turn.Fate.TheVariants as fates
use Rattle.conn_histories.specs.declared.turn.Deed.TheVariants as deeds
use Rattle.conn_histories.specs.declared.turn.Turn.{Turn}
use Rattle.conn_histories.specs.Entries.{is_open, has_left}
use Rattle.conn_histories.specs.Events.{all_events}
use Rattle.conn_histories.specs.Stories.{Made}
use Rattle.conn_turns.specs.Steps.{left_fate, OnlyNewestOpen}
use Rattle.replay_script.specs.declared.line.Line.{Line}
use Rattle.replay_script.specs.declared.line.Line.TheVariants as lines
use Rattle.replay_world.specs.Groups.{GoesOn, SettlesIn}
use Rattle.replay_world.specs.Events.{LeavesIts}
use Rattle.replay_world.specs.Plays.{idles, Opens, SendsAt, TriedAs, Tries, Ends, GoesOnIfOpen, EndsAt, IfRuns, Finishes, lost, Loses, LosesAt, Plays}
use Rattle.replay_world.specs.Promised.{as_server}
use Rattle.replay_world.proofs.Peers.{put_found, put_others}
use Rattle.replay_world.proofs.Lines.{opens_keep, takes_keep, ends_keep, loses_keep, starts}
use Rattle.conn_turns.proofs.Making.{called, MayLeave}
use Rattle.conn_turns.proofs.StepEnding.{Leaving}
use Rattle.replay.proofs.Reaching.{Reaches, reaches_none, reaches_twice, reaches_same, leaves_reach, takes_reach, settles_reach, below}
use Rattle.replay.proofs.Still.{still_on, still_left}
use Rattle.replay.proofs.Telling.{Front, Left, Behind, RestsBy, RestsAs, newest_open, is_gone, IsTold, TellsTurns, busy, retold, same_told}
use Rattle.conn_turns.proofs.Done.{only_done, done_may, done_stay, done_closed}
use Rattle.replay.proofs.Acting.{quiet_called}
use Rattle.replay.proofs.Doing.{others_same, own_before, leaving, left_others}
use Rattle.replay.proofs.Happening.{Inv, Busy, begin_busy, some_peer, inv_put, idle_inv, happens_busy, event_reach, goes_reach, goes_inv}
use Rattle.replay.proofs.Running.{true_is, IsDenied, taken_tells, taken_rests, taken_others, ended_tells, ended_others}

-- ---- what is printed makes no difference

coheres_same : {S : Type 0} (w v : World S) → v.boot ≡ w.boot → v.peers ≡ w.peers → v.groups ≡ w.groups → Coheres w → Coheres v
coheres_same w v boot peers groups h =
    let at : (c : ℕ) → peer_at v c ≡ peer_at w c = λ c. ap (λ (ps : List Peer). peer_at (record w { peers = ps }) c) peers in
    let back : (c : ℕ) (p : Peer) (m : Member) → IsAs v c p m → IsAs w c p m = λ c p m i. record { there = sym (at c) ∙ i.there; member = i.member } in
    let same : (g : ℕ) → journal v g ≡ journal w g = λ g i. journal (record w { boot = boot i; groups = groups i }) g in
    record {
      grouped = λ c p m i. h.grouped c p m (back c p m i);
      joined = λ c p m i. ap (λ (j : History). has_joined j m.number) (same m.group) ∙ h.joined c p m (back c p m i);
      apart = λ c d p q m i k. h.apart c d p q m (back c p m i) (back d q m k);
      here = λ c p m i o. ap (λ (j : History). is_open_in j m.number) (same m.group) ∙ h.here c p m (back c p m i) o;
      calls = λ c k p m i u. subst (λ (j : History). IsCallOf j m k) (sym (same m.group)) (h.calls c k p m (back c p m i) u);
    }

pub printing_inv : (service : Service) (end w : World service.State) (lines : List Printed) → Inv service end w → Inv service end (printing w lines)
printing_inv service end w lines i = record {
  coheres = coheres_same w (printing w lines) refl refl refl i.coheres;
  tells = λ d x at. retold service end w (printing w lines) x true (same_told service end w (printing w lines) x.member (λ m e. refl)) (i.tells d x at);
}

-- ---- the connections stay, and one of them has another story

module _ (service : Service) (end w u : World service.State) (c : ℕ) (p : Peer) (was : peer_at w c ≡ Some p) (peers : u.peers ≡ w.peers) where
  pub same_at : (d : ℕ) → peer_at u d ≡ peer_at w d
  same_at d = ap (λ (ps : List Peer). peer_at (record w { peers = ps }) d) peers

  pub inv_same : Coheres u → TellsTurns service end u p true → ((d : ℕ) (x : Peer) → d ≢ c → peer_at w d ≡ Some x → (gone : Bool) (ts : List Turn) → IsTold service end w x.member gone ts → IsTold service end u x.member gone ts)
      → ((d : ℕ) (x : Peer) → peer_at w d ≡ Some x → TellsTurns service end w x true) → Inv service end u
  inv_same h own others tells = record {
    coheres = h;
    tells =
        λ d x at.
        let there : peer_at w d ≡ Some x = sym (same_at d) ∙ at in
        elim (eqb_tells d c) [
          | inl e ↦ let one : p ≡ x = some_peer p x (sym was ∙ subst (λ (n : ℕ). peer_at w n ≡ Some x) e.1 there) in subst (λ (y : Peer). TellsTurns service end u y true) one own
          | inr e ↦ retold service end w u x true (others d x e.1 there) (tells d x there)
        ];
  }

  pub busy_same : Coheres u → TellsTurns service end u p false → ((d : ℕ) (x : Peer) → d ≢ c → peer_at w d ≡ Some x → (gone : Bool) (ts : List Turn) → IsTold service end w x.member gone ts → IsTold service end u x.member gone ts)
      → ((d : ℕ) (x : Peer) → peer_at w d ≡ Some x → TellsTurns service end w x true) → Busy service end u c
  busy_same h own others tells = record {
    coheres = h;
    tells = λ d x other at. let there : peer_at w d ≡ Some x = sym (same_at d) ∙ at in retold service end w u x true (others d x other there) (tells d x there);
    mine = λ x at. let one : p ≡ x = some_peer p x (sym was ∙ (sym (same_at c) ∙ at)) in subst (λ (y : Peer). TellsTurns service end u y false) one own;
  }

-- ---- a connection is opened

starts_at_rest : IsPartial []
starts_at_rest = inl (omega arith)

pub opens_inv : (service : Service) (end w v : World service.State) (c : ℕ) → AreSound end → Reaches v end → Opens service c w v → Inv service end w → Inv service end v
opens_inv service end w v c ends reach t i =
    let q : Peer = opened_peer (ids_of service.tables) c in
    let low = below end v ends reach in
    let told : (x : Peer) (free : Bool) → TellsTurns service end w x free → TellsTurns service end v x free =
    λ x free s. retold service end w v x free (same_told service end w v x.member (λ m e. ap (λ (z : World service.State). past_of z m.group) t.1)) s in
    record {
      coheres = opens_keep service c w v low.sound t i.coheres;
      tells =
          λ d x at.
          let at' : peer_at (with_peer w q) d ≡ Some x = ap (λ (z : World service.State). peer_at z d) (sym t.1) ∙ at in
          elim (eqb_tells d c) [
            | inl e ↦
                let one : q ≡ x = some_peer q x (sym (put_found q w.peers) ∙ subst (λ (n : ℕ). peer_at (with_peer w q) n ≡ Some x) e.1 at') in
                subst (λ (y : Peer). TellsTurns service end v y true) one
                (record { turns = []; lives = refl; events = refl; behind = (tt, refl); bound = tt; told = (tt, tt); rests = λ f. starts_at_rest })
            | inr e ↦ told x true (i.tells d x (sym (put_others d q w.peers (λ f. e.1 (sym f))) ∙ at'))
          ];
    }

-- ---- a connection is lost

printed_nothing : {S : Type 0} (x : World S) → printing x [] ≡ x
printed_nothing x = λ i. record x { out = append-nil x.out i }

left_is : (fate : Fate) → is_open fate ≡ true → (has_left (left_fate fate) ≡ true) × (is_open (left_fate fate) ≡ false)
left_is fates.Waiting o = (refl, refl)
left_is (fates.Running cookies) o = (refl, refl)
left_is (fates.Denied slot) o = absurd cc
left_is fates.Cancelled o = absurd cc
left_is fates.Orphaned o = absurd cc
left_is fates.LeftWaiting o = absurd cc
left_is (fates.LeftRunning cookies) o = absurd cc
left_is (fates.Ended run) o = absurd cc
left_is (fates.LeftEnded run) o = absurd cc

module _ (service : Service) (end w u : World service.State) (c : ℕ) (p : Peer) (h : Coheres w) (ends : AreSound end) (from : Reaches w end) (reach : Reaches u end) (was : peer_at w c ≡ Some p) (opens : p.standing ≡ Open)
    (t : TellsTurns service end w p true) where
  front : Front p.unanswered t.turns p.state.waits
  front = subst (λ (s : Standing). Behind s p.unanswered t.turns p.state) opens t.behind

  told : IsTold service end w p.member false t.turns
  told = subst (λ (s : Standing). IsTold service end w p.member (is_gone s) t.turns) opens t.told

  rests : RestsBy p.unanswered t.turns p.state
  rests = subst (λ (s : Standing). RestsAs s p.unanswered t.turns p.state) opens (t.rests refl)

  abbrev mine : TellsTurns service end w p false
  mine = busy service end w p true t

  abbrev Others : Type 0
  Others = (d : ℕ) (x : Peer) → d ≢ c → peer_at w d ≡ Some x → (gone : Bool) (ts : List Turn) → IsTold service end w x.member gone ts → IsTold service end u x.member gone ts

  -- what its turns tell then
  built : (turns : List Turn) → all_events t.turns ≡ all_events turns → Left p.unanswered turns p.state → IsTold service end u p.member true turns → TellsTurns service end u (lost service p) true
  built turns events left told' = record {
    turns = turns;
    lives = t.lives;
    events = t.events ∙ events;
    behind = left;
    bound = t.bound;
    told = told';
    rests = λ e. tt;
  }

  none_lost : p.member ≡ None → u ≡ w → (x : Unanswered) → p.unanswered ≡ x → Front x t.turns p.state.waits → RestsBy x t.turns p.state → TellsTurns service end u (lost service p) true
  none_lost alone same Nothing x_is f r =
      let quiet : IsTold service end w None false t.turns = subst (λ (mem : Option Member). IsTold service end w mem false t.turns) alone told in
      let quiet' : IsTold service end w None true t.turns = quiet in
      built t.turns refl (subst (λ (x : Unanswered). Left x t.turns p.state) (sym x_is) (f.0, f.1, r))
      (subst (λ (z : World service.State). IsTold service end z p.member true t.turns) (sym same) (subst (λ (mem : Option Member). IsTold service end w mem true t.turns) (sym alone) quiet'))
  none_lost alone same (Bind asked) x_is f r = absurd r
  none_lost alone same (Refused status) x_is f r = absurd r
  none_lost alone same (Call k) x_is f r =
      let quiet : IsTold service end w None false t.turns = subst (λ (mem : Option Member). IsTold service end w mem false t.turns) alone told in
      absurd (quiet_called f.0.joined f.0.iface f.0.offs _ None f.0.older t.turns f.0.is quiet.0)

  module _ (m : Member) (is : p.member ≡ Some m) (s : SettlesIn service w m.group (Leave m.number) u) where
    abbrev before : List Entry
    before = own_before service end w u c p p.state h ends from reach was mine front told m is

    leave_with : (turns : List Turn) → OnlyNewestOpen turns → MayLeave (as_server service end) (home_of end m.group) m.number turns → turns ≡ t.turns
        → Leaving (as_server service end) (home_of end m.group) m.number turns (past_of w m.group) (past_of u m.group) before
    leave_with turns newest may same = leaving service end w u c p p.state h ends from reach was mine front told m is turns newest may same s

    others_with : (turns : List Turn) → Leaving (as_server service end) (home_of end m.group) m.number turns (past_of w m.group) (past_of u m.group) before → Others
    others_with turns l = left_others service end w u c p p.state h ends from reach was mine front told m is turns l s

    some_lost : (x : Unanswered) → p.unanswered ≡ x → Front x t.turns p.state.waits → RestsBy x t.turns p.state → TellsTurns service end u (lost service p) true × Others
    some_lost Nothing x_is f r =
        let l = leave_with t.turns (done_closed t.turns f.0) (done_may (as_server service end) (home_of end m.group) m.number t.turns f.0) refl in (
          built t.turns refl (subst (λ (x : Unanswered). Left x t.turns p.state) (sym x_is) (f.0, f.1, r))
              (subst (λ (mem : Option Member). IsTold service end u mem true t.turns) (sym is)
              (l.own, subst (λ (ts : List Turn). Made (as_server service end) (home_of end m.group) m.number (past_of u m.group) true ts l.own) (done_stay t.turns f.0) l.made)),
          others_with t.turns l,
        )
    some_lost (Bind asked) x_is f r = absurd r
    some_lost (Refused status) x_is f r = absurd r
    some_lost (Call k) x_is f r =
        let a = f.0 in
        let newest : Turn = called a.joined a.iface a.offs (deeds.Accepted k a.slots a.fate) None in
        let o : is_open a.fate ≡ true = subst (λ (ts : List Turn). newest_open ts ≡ true) a.is r in
        let l = leave_with (newest ∷ a.older) (only_done newest a.older a.done) (λ x. a.may o) (sym a.is) in
        let turns : List Turn = called a.joined a.iface a.offs (deeds.Accepted k a.slots (left_fate a.fate)) None ∷ a.older in
        let both = left_is a.fate o in (
          built turns (ap all_events a.is)
              (subst (λ (x : Unanswered). Left x turns p.state) (sym x_is) (
                record {
                  joined = a.joined;
                  iface = a.iface;
                  offs = a.offs;
                  slots = a.slots;
                  fate = left_fate a.fate;
                  older = a.older;
                  is = refl;
                  done = a.done;
                  may = λ x. absurd (true_is (is_open (left_fate a.fate)) x both.1);
                  apart = a.apart;
                },
                both.0,
              ))
              (subst (λ (mem : Option Member). IsTold service end u mem true turns) (sym is) (l.own, l.made)),
          others_with (newest ∷ a.older) l,
        )

  pub lost_tells : (o : Option Member) → p.member ≡ o → LeavesIts service o w u → TellsTurns service end u (lost service p) true × Others
  lost_tells None is l = (none_lost is l p.unanswered refl front rests, others_same service end w u c p h was l)
  lost_tells (Some m) is l = some_lost m is l p.unanswered refl front rests

-- ---- the lines

module _ (service : Service) (end : World service.State) (ends : AreSound end) where
  reach_as : (w v : World service.State) → v ≡ w → Reaches w v
  reach_as w v t = subst (λ (z : World service.State). Reaches w z) (sym t) (reaches_none w)

  inv_as : (w v : World service.State) → v ≡ w → Inv service end w → Inv service end v
  inv_as w v t i = subst (λ (z : World service.State). Inv service end z) (sym t) i

  pub loses_reach : (w v : World service.State) (p : Peer) → Loses service w p v → Reaches w v
  loses_reach w v p t = reaches_twice w t.0 v (leaves_reach service w t.0 p.member t.1) (reaches_same t.0 v (ap (λ (z : World service.State). z.boot) t.2) (ap (λ (z : World service.State). z.groups) t.2))

  pub loses_inv : (c : ℕ) (w v : World service.State) (p : Peer) → Reaches v end → peer_at w c ≡ Some p → p.standing ≡ Open → Loses service w p v → Inv service end w → Inv service end v
  loses_inv c w v p reach was opens t i =
      let u : World service.State = t.0 in
      let to_u = leaves_reach service w u p.member t.1 in
      let on = reaches_same u v (ap (λ (z : World service.State). z.boot) t.2) (ap (λ (z : World service.State). z.groups) t.2) in
      let from_u : Reaches u end = reaches_twice u v end on reach in
      let from_w : Reaches w end = reaches_twice w u end to_u from_u in
      let low = below end v ends reach in
      let l = lost_tells service end w u c p i.coheres ends from_w from_u was opens (i.tells c p was) p.member refl t.1 in
      inv_put service end w u v c p (lost service p) was refl (still_left service w u p.member t.1).peers [] (t.2 ∙ sym (printed_nothing (with_peer u (lost service p))))
      (loses_keep service c w v p low.sound was t i.coheres) l.0 l.1 (λ d x other at. i.tells d x at)

  -- a call is tried
  printed_reach : (u v : World service.State) (ls : List Printed) → v ≡ printing u ls → Reaches u v
  printed_reach u v ls t = reaches_same u v (ap (λ (z : World service.State). z.boot) t) (ap (λ (z : World service.State). z.groups) t)

  tried_reach : (c : ℕ) (u v : World service.State) (answer : Taking) → TriedAs service c u answer v → Reaches u v
  tried_reach c u v (taking.Run row serial) t = reach_as u v t
  tried_reach c u v (taking.Denied slot) t = goes_reach service end ends c u v t
  tried_reach c u v (taking.Wait m) t = printed_reach u v _ t
  tried_reach c u v taking.Dropped t = printed_reach u v _ t

  tries_reach : (c : ℕ) (w v : World service.State) (o : Option Member) (x : Unanswered) → Tries service c w o x v → Reaches w v
  tries_reach c w v None x t = printed_reach w v _ t
  tries_reach c w v (Some m) Nothing t = printed_reach w v _ t
  tries_reach c w v (Some m) (Bind asked) t = printed_reach w v _ t
  tries_reach c w v (Some m) (Refused status) t = printed_reach w v _ t
  tries_reach c w v (Some m) (Call k) t = reaches_twice w t.1 v (takes_reach w t.1 m.group k t.0 t.2) (tried_reach c t.1 v t.0 t.3)

  module _ (c : ℕ) (w v : World service.State) (p : Peer) (reach : Reaches v end) (was : peer_at w c ≡ Some p) (i : Inv service end w) where
    idle_inv' : v ≡ idles c w → Inv service end v
    idle_inv' t = inv_as (idles c w) v t (printing_inv service end w _ i)

    module _ (m : Member) (k : ℕ) (u : World service.State) (a : Taking) (is : p.member ≡ Some m) (x_is : p.unanswered ≡ Call k) (from : Reaches u end) (says : GoesOn (λ old new. Takes old k a new) w m.group u) where
      from_w : Reaches w end
      from_w = reaches_twice w u end (takes_reach w u m.group k a says) from

      coheres_u : Coheres u
      coheres_u = takes_keep service w u m.group k a (below end u ends from).sound says i.coheres

      others_u : (d : ℕ) (x : Peer) → d ≢ c → peer_at w d ≡ Some x → (gone : Bool) (ts : List Turn) → IsTold service end w x.member gone ts → IsTold service end u x.member gone ts
      others_u = taken_others service end w u c p m k i.coheres ends from_w from was is x_is true (i.tells c p was) a says

      peers_u : u.peers ≡ w.peers
      peers_u = (still_on (λ old new. Takes old k a new) w u m.group says).peers

      free_u : (IsDenied a → ⊥) → Inv service end u
      free_u granted = inv_same service end w u c p was peers_u coheres_u (taken_rests service end w u c p m k i.coheres ends from_w from was is x_is true (i.tells c p was) a says refl granted) others_u i.tells

      held_u : Busy service end u c
      held_u = busy_same service end w u c p was peers_u coheres_u (taken_tells service end w u c p m k i.coheres ends from_w from was is x_is true (i.tells c p was) a says) others_u i.tells

    tried : (m : Member) (k : ℕ) (u : World service.State) (a : Taking) → p.member ≡ Some m → p.unanswered ≡ Call k → GoesOn (λ old new. Takes old k a new) w m.group u → TriedAs service c u a v → Inv service end v
    tried m k u (taking.Run row serial) is x_is says t =
        inv_as u v t (free_u m k u (taking.Run row serial) is x_is (reaches_twice u v end (tried_reach c u v (taking.Run row serial) t) reach) says (λ d. d))
    tried m k u (taking.Denied slot) is x_is says t =
        goes_inv service end ends c u v reach t (held_u m k u (taking.Denied slot) is x_is (reaches_twice u v end (tried_reach c u v (taking.Denied slot) t) reach) says)
    tried m k u (taking.Wait n) is x_is says t =
        inv_as (printing u _) v t (printing_inv service end u _ (free_u m k u (taking.Wait n) is x_is (reaches_twice u v end (tried_reach c u v (taking.Wait n) t) reach) says (λ d. d)))
    tried m k u taking.Dropped is x_is says t =
        inv_as (idles c u) v t (printing_inv service end u _ (free_u m k u taking.Dropped is x_is (reaches_twice u v end (tried_reach c u v taking.Dropped t) reach) says (λ d. d)))

    tries_inv : (o : Option Member) (x : Unanswered) → p.member ≡ o → p.unanswered ≡ x → Tries service c w o x v → Inv service end v
    tries_inv None x is x_is t = idle_inv' t
    tries_inv (Some m) Nothing is x_is t = idle_inv' t
    tries_inv (Some m) (Bind asked) is x_is t = idle_inv' t
    tries_inv (Some m) (Refused status) is x_is t = idle_inv' t
    tries_inv (Some m) (Call k) is x_is t = tried m k t.1 t.0 is x_is t.2 t.3

  -- ---- a running call ends

  pub ends_reach : (w u : World service.State) (m : Member) (k : ℕ) → Ends service w m k u → Reaches w u
  ends_reach w u m k e = let r = settles_reach service (record w { desks = e.desks }) u m.group (End k e.results e.said) refl e.settles in record { boot = r.boot; pasts = r.pasts; count = r.count }

  if_open_reach : (c : ℕ) (u v : World service.State) (s : Standing) → GoesOnIfOpen service c u s v → Reaches u v
  if_open_reach c u v Open t = goes_reach service end ends c u v t
  if_open_reach c u v Closed t = reach_as u v t
  if_open_reach c u v Lost t = reach_as u v t

  ends_at_reach : (c : ℕ) (w v : World service.State) (p : Peer) (m : Member) (k : ℕ) → EndsAt service c w p m k v → Reaches w v
  ends_at_reach c w v p m k t = reaches_twice w t.0 v (ends_reach w t.0 m k t.1) (if_open_reach c t.0 v p.standing t.2)

  if_open_inv : (c : ℕ) (u v : World service.State) (p : Peer) (s : Standing) → peer_at u c ≡ Some p → p.standing ≡ s → Reaches v end → GoesOnIfOpen service c u s v → Busy service end u c → Inv service end v
  if_open_inv c u v p Open was is reach t i = goes_inv service end ends c u v reach t i
  if_open_inv c u v p Closed was is reach t i = inv_as u v t (idle_inv service end ends c u p was (λ e. absurd (cc (is, e))) i)
  if_open_inv c u v p Lost was is reach t i = inv_as u v t (idle_inv service end ends c u p was (λ e. absurd (cc (is, e))) i)

  ends_at_inv : (c : ℕ) (w v : World service.State) (p : Peer) (m : Member) (k : ℕ) → Reaches v end → peer_at w c ≡ Some p → p.member ≡ Some m → p.unanswered ≡ Call k → runs (journal w m.group) k ≡ true → EndsAt service c w p m k v → Inv service end w → Inv service end v
  ends_at_inv c w v p m k reach was is x_is r t i =
      let u : World service.State = t.0 in
      let from : Reaches u end = reaches_twice u v end (if_open_reach c u v p.standing t.2) reach in
      let from_w : Reaches w end = reaches_twice w u end (ends_reach w u m k t.1) from in
      let peers : u.peers ≡ w.peers = ap (λ (z : World service.State). z.peers) t.1.settles.after in
      let h = ends_keep service w u m k (below end u ends from).sound t.1 i.coheres in
      let held : Busy service end u c = busy_same service end w u c p was peers h (ended_tells service end w u c p m k i.coheres ends from_w from was is x_is true (i.tells c p was) t.1 r) (ended_others service end w u c p m k i.coheres ends from_w from was is x_is true (i.tells c p was) t.1 r) i.tells in
      if_open_inv c u v p p.standing (ap (λ (ps : List Peer). peer_at (record w { peers = ps }) c) peers ∙ was) refl reach t.2 held

  if_runs_reach : (b : Bool) (c : ℕ) (w v otherwise : World service.State) (p : Peer) (m : Member) (k : ℕ) → Reaches w otherwise → IfRuns service b (EndsAt service c w p m k v) (v ≡ otherwise) → Reaches w v
  if_runs_reach true c w v otherwise p m k r t = ends_at_reach c w v p m k t
  if_runs_reach false c w v otherwise p m k r t = subst (λ (z : World service.State). Reaches w z) (sym t) r

  other_reach : (w v otherwise : World service.State) → Reaches w otherwise → v ≡ otherwise → Reaches w v
  other_reach w v otherwise r t = subst (λ (z : World service.State). Reaches w z) (sym t) r

  pub finishes_reach : (c : ℕ) (w v otherwise : World service.State) (p : Peer) (o : Option Member) (x : Unanswered) → Reaches w otherwise → Finishes service c w p o x otherwise v → Reaches w v
  finishes_reach c w v otherwise p None x r t = other_reach w v otherwise r t
  finishes_reach c w v otherwise p (Some m) Nothing r t = other_reach w v otherwise r t
  finishes_reach c w v otherwise p (Some m) (Bind asked) r t = other_reach w v otherwise r t
  finishes_reach c w v otherwise p (Some m) (Refused status) r t = other_reach w v otherwise r t
  finishes_reach c w v otherwise p (Some m) (Call k) r t = if_runs_reach (runs (journal w m.group) k) c w v otherwise p m k r t

  module _ (c : ℕ) (w v otherwise : World service.State) (p : Peer) (reach : Reaches v end) (was : peer_at w c ≡ Some p) (i : Inv service end w) (j : Inv service end otherwise) where
    other_inv : v ≡ otherwise → Inv service end v
    other_inv t = inv_as otherwise v t j

    if_runs_inv : (b : Bool) (m : Member) (k : ℕ) → p.member ≡ Some m → p.unanswered ≡ Call k → runs (journal w m.group) k ≡ b → IfRuns service b (EndsAt service c w p m k v) (v ≡ otherwise) → Inv service end v
    if_runs_inv true m k is x_is r t = ends_at_inv c w v p m k reach was is x_is r t i
    if_runs_inv false m k is x_is r t = other_inv t

    finishes_inv : (o : Option Member) (x : Unanswered) → p.member ≡ o → p.unanswered ≡ x → Finishes service c w p o x otherwise v → Inv service end v
    finishes_inv None x is x_is t = other_inv t
    finishes_inv (Some m) Nothing is x_is t = other_inv t
    finishes_inv (Some m) (Bind asked) is x_is t = other_inv t
    finishes_inv (Some m) (Refused status) is x_is t = other_inv t
    finishes_inv (Some m) (Call k) is x_is t = if_runs_inv (runs (journal w m.group) k) m k is x_is refl t

  -- ---- a line

  sends_reach : (c : ℕ) (octets : List ℕ) (w v : World service.State) (s : Standing) → SendsAt service c octets w s v → Reaches w v
  sends_reach c octets w v Open t = reaches_twice w t.0 v (event_reach service end ends c w t.0 (Came octets) t.1) (goes_reach service end ends c t.0 v t.2)
  sends_reach c octets w v Closed t = reach_as w v t
  sends_reach c octets w v Lost t = absurd t

  sends_inv : (c : ℕ) (octets : List ℕ) (w v : World service.State) (s : Standing) → Reaches v end → SendsAt service c octets w s v → Inv service end w → Inv service end v
  sends_inv c octets w v Open reach t i =
      let from : Reaches t.0 end = reaches_twice t.0 v end (goes_reach service end ends c t.0 v t.2) reach in
      goes_inv service end ends c t.0 v reach t.2 (happens_busy service end ends c w t.0 (Came octets) from t.1 (begin_busy service end w c i))
  sends_inv c octets w v Closed reach t i = inv_as w v t i
  sends_inv c octets w v Lost reach t i = absurd t

  lose_reach : (w v : World service.State) (p : Peer) (s : Standing) → LosesAt service w p s v → Reaches w v
  lose_reach w v p Open t = loses_reach w v p t
  lose_reach w v p Closed t = reach_as w v t
  lose_reach w v p Lost t = absurd t

  lose_inv : (c : ℕ) (w v : World service.State) (p : Peer) (s : Standing) → p.standing ≡ s → Reaches v end → peer_at w c ≡ Some p → LosesAt service w p s v → Inv service end w → Inv service end v
  lose_inv c w v p Open is reach was t i = loses_inv c w v p reach was is t i
  lose_inv c w v p Closed is reach was t i = inv_as w v t i
  lose_inv c w v p Lost is reach was t i = absurd t

  pub line_reach : (w v : World service.State) (line : Line) → Plays service w line v → Reaches w v
  line_reach w v (lines.Boot word) t = absurd t
  line_reach w v (lines.Open c) t = reaches_same w v (ap (λ (z : World service.State). z.boot) t.1) (ap (λ (z : World service.State). z.groups) t.1)
  line_reach w v (lines.Send c octets) t = sends_reach c octets w v t.0.standing t.2
  line_reach w v (lines.Run c) t = tries_reach c w v t.0.member t.0.unanswered t.2
  line_reach w v (lines.Finish c) t = finishes_reach c w v (idles c w) t.0 t.0.member t.0.unanswered (reaches_same w (idles c w) refl refl) t.2
  line_reach w v (lines.Lose c) t = lose_reach w v t.0 t.0.standing t.2

  pub line_inv : (w v : World service.State) (line : Line) → Reaches v end → Plays service w line v → Inv service end w → Inv service end v
  line_inv w v (lines.Boot word) reach t i = absurd t
  line_inv w v (lines.Open c) reach t i = opens_inv service end w v c ends reach t i
  line_inv w v (lines.Send c octets) reach t i = sends_inv c octets w v t.0.standing reach t.2 i
  line_inv w v (lines.Run c) reach t i = tries_inv c w v t.0 reach t.1 i t.0.member t.0.unanswered refl refl t.2
  line_inv w v (lines.Finish c) reach t i =
      finishes_inv c w v (idles c w) t.0 reach t.1 i (printing_inv service end w _ i) t.0.member t.0.unanswered refl refl t.2
  line_inv w v (lines.Lose c) reach t i = lose_inv c w v t.0 t.0.standing refl reach t.1 t.2 i

pub starts_inv : (service : Service) (end : World service.State) (boot : ℕ) → Inv service end (booted boot service.start)
starts_inv service end boot = record { coheres = starts service boot; tells = λ d x at. absurd (none_there d x at) }
  where
    none_there : (d : ℕ) (x : Peer) → peer_at (booted boot service.start) d ≡ Some x → ⊥
    none_there d x at = absurd (cc (at))

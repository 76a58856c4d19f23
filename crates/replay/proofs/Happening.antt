-- What happens on a connection keeps what its turns and those of the others tell.
use Rattle.std.proofs.Common.{◌≡◌, ◌≢◌, ℕ, Bool, true, false, Option, Some, None, List, [], ◌∷◌, ◌++◌, refl, sym, ap, subst, ◌∙◌, inl, inr}
use Rattle.std.proofs.lemmas.List.{append-nil}
use Rattle.std.proofs.lemmas.Bool.Decides.{eqb_tells}
use Rattle.conn_asks.specs.declared.events.ConnFault.{ConnFault}
use Rattle.conn_asks.specs.declared.events.Act.{Act}
use Rattle.conn_asks.specs.declared.events.Act.TheVariants as acts
use Rattle.conn_asks.specs.States.{ConnState}
use Rattle.conn_histories.specs.Histories.{Decision, Event, Happens, IsAtRest, seen}
use Rattle.conn_histories.specs.Histories.Event.{Came, Paused, Did, Decided}
use Rattle.conn_histories.specs.Histories.Decision.{ToGroup, RefuseGroup, Reply}
use Rattle.replay_world.specs.declared.peer.Member.{Member}
use Rattle.replay_world.specs.declared.peer.Unanswered.{Unanswered}
use Rattle.replay_world.specs.declared.peer.Unanswered.TheVariants.{Nothing, Bind, Refused, Call}
use Rattle.replay_world.specs.declared.peer.Standing.{Standing}
use Rattle.replay_world.specs.declared.peer.Standing.TheVariants.{Open, Closed, Lost}
use Rattle.replay_world.specs.Services.{Service}
use Rattle.replay_world.specs.Worlds.{Peer, Printed, World, peer_at, with_peer, home_of, past_of, journal, printing}
use Rattle.replay_world.specs.Moments.{AreSound, Coheres}
use Rattle.replay_world.specs.Groups.{member_for, CancelsIn, OrphansIn}
use Rattle.replay_world.specs.Events.{is_over, is_word_due, awaiting, closed, bound, OfMember, OfCall, LeavesIts, Requests, ActMeans, Says, Decides, Means, lived, HappensOn, RestsAt, HappenOn, GoesOnAt}
use Rattle.replay_world.specs.Promised.{as_server}
use Rattle.handle_model.specs.Replies.{replies}
use Rattle.conn_histories.specs.declared.turn.Turn.{Turn}
use Rattle.conn_histories.specs.Events.{all_events}
use Rattle.conn_histories.specs.Stories.{Made}
use Rattle.replay_world.proofs.Peers.{found_name, put_found, put_others}
use Rattle.replay_world.proofs.Events.{events_keep}
use Rattle.conn_turns.proofs.Hearing.{bound_stays, paused_waits}
use Rattle.replay.proofs.Reaching.{Reaches, reaches_none, reaches_twice, reaches_same, means_reach, below, of_member}
use Rattle.replay.proofs.Still.{means_still}
use Rattle.replay.proofs.Telling.{Front, Behind, RestsBy, RestsAs, is_gone, IsTold, TellsTurns, busy, retold, same_told}
use Rattle.replay.proofs.Acting.{bound_by, lives_on, seen_on, built, front_same, open_is, quiet_called}
use Rattle.replay.proofs.Doing.{Acted, others_same, answers, groups, refused, accepted, cancelled, orphaned, shuts, shuts_alone}
use Rattle.replay.proofs.Deciding.{joins, turned_down, faulted, replied}

-- of all connections, where nothing more happens for now; and where it does on one of them
pub record Inv (service : Service) (end w : World service.State) : Type 0 where
  pub coheres : Coheres w
  pub tells : (d : ℕ) (x : Peer) → peer_at w d ≡ Some x → TellsTurns service end w x true

pub record Busy (service : Service) (end w : World service.State) (c : ℕ) : Type 0 where
  pub coheres : Coheres w
  pub tells : (d : ℕ) (x : Peer) → d ≢ c → peer_at w d ≡ Some x → TellsTurns service end w x true
  pub mine : (x : Peer) → peer_at w c ≡ Some x → TellsTurns service end w x false

pub begin_busy : (service : Service) (end w : World service.State) (c : ℕ) → Inv service end w → Busy service end w c
begin_busy service end w c i = record {
  coheres = i.coheres;
  tells = λ d x other at. i.tells d x at;
  mine = λ x at. busy service end w x true (i.tells c x at);
}

pub some_peer : (a b : Peer) → Some a ≡ Some b → a ≡ b
some_peer a b e = cc

-- ---- one connection is put back

module _ (service : Service) (end w b v : World service.State) (c : ℕ) (p q : Peer) (was : peer_at w c ≡ Some p) (name : q.name ≡ p.name) (peers : b.peers ≡ w.peers) (lines : List Printed) (is : v ≡ printing (with_peer b q) lines) where
  named : q.name ≡ c
  named = name ∙ found_name c w.peers p was

  pub put_is : peer_at v c ≡ Some q
  put_is = ap (λ (z : World service.State). peer_at z c) is ∙ subst (λ (n : ℕ). peer_at (printing (with_peer b q) lines) n ≡ Some q) named (put_found q b.peers)

  pub put_other : (d : ℕ) → d ≢ c → peer_at v d ≡ peer_at w d
  put_other d other =
      ap (λ (z : World service.State). peer_at z d) is
      ∙ (put_others d q b.peers (λ e. other (sym e ∙ named)) ∙ ap (λ (ps : List Peer). peer_at (record w { peers = ps }) d) peers)

  pub pasts : (g : ℕ) → past_of v g ≡ past_of b g
  pasts g = ap (λ (z : World service.State). past_of z g) is

  pub put_tells : (x : Peer) (free : Bool) → TellsTurns service end b x free → TellsTurns service end v x free
  put_tells x free t = retold service end b v x free (same_told service end b v x.member (λ m e. pasts m.group)) t

  pub others_put : Acted service end w b c q → ((d : ℕ) (x : Peer) → d ≢ c → peer_at w d ≡ Some x → TellsTurns service end w x true) → (d : ℕ) (x : Peer) → d ≢ c → peer_at v d ≡ Some x → TellsTurns service end v x true
  others_put a tells d x other at =
      let there : peer_at w d ≡ Some x = sym (put_other d other) ∙ at in
      put_tells x true (retold service end w b x true (a.others d x other there) (tells d x other there))

  pub busy_put : Coheres v → Acted service end w b c q → ((d : ℕ) (x : Peer) → d ≢ c → peer_at w d ≡ Some x → TellsTurns service end w x true) → Busy service end v c
  busy_put h a tells = record {
    coheres = h;
    tells = others_put a tells;
    mine = λ x at. let one : q ≡ x = some_peer q x (sym put_is ∙ at) in subst (λ (y : Peer). TellsTurns service end v y false) one (put_tells q false a.own);
  }

  pub inv_put : Coheres v → TellsTurns service end b q true → ((d : ℕ) (x : Peer) → d ≢ c → peer_at w d ≡ Some x → (gone : Bool) (turns : List Turn) → IsTold service end w x.member gone turns → IsTold service end b x.member gone turns)
      → ((d : ℕ) (x : Peer) → d ≢ c → peer_at w d ≡ Some x → TellsTurns service end w x true) → Inv service end v
  inv_put h own others tells = record {
    coheres = h;
    tells =
        λ d x at.
        elim (eqb_tells d c) [
          | inl e ↦
              let here : peer_at v c ≡ Some x = subst (λ (n : ℕ). peer_at v n ≡ Some x) e.1 at in
              let one : q ≡ x = some_peer q x (sym put_is ∙ here) in subst (λ (y : Peer). TellsTurns service end v y true) one (put_tells q true own)
          | inr e ↦ let there : peer_at w d ≡ Some x = sym (put_other d e.1) ∙ at in put_tells x true (retold service end w b x true (others d x e.1 there) (tells d x e.1 there))
        ];
  }

-- ---- an event

behind_open : (s : Standing) (x : Unanswered) (turns : List Turn) (m : ConnState) → s ≡ Open → Behind s x turns m → Front x turns m.waits
behind_open s x turns m e t = subst (λ (z : Standing). Behind z x turns m) e t

member_by : (o : Option Member) (P : Member → Type 0) (Q : Type 0) → ((m : Member) → o ≡ Some m → P m → Q) → OfMember o P → Q
member_by None P Q f t = absurd t
member_by (Some m) P Q f t = f m refl t

call_by : (o : Option Member) (x : Unanswered) (P : ℕ → ℕ → Type 0) (Q : Type 0) → ((m : Member) (k : ℕ) → o ≡ Some m → x ≡ Call k → P m.group k → Q) → OfCall o x P → Q
call_by None x P Q f t = absurd t
call_by (Some m) Nothing P Q f t = absurd t
call_by (Some m) (Bind n) P Q f t = absurd t
call_by (Some m) (Refused s) P Q f t = absurd t
call_by (Some m) (Call k) P Q f t = f m k refl refl t

module _ (service : Service) (end w b : World service.State) (c : ℕ) (p a : Peer) (state : ConnState) (h : Coheres w) (ends : AreSound end) (from : Reaches w end) (reach : Reaches b end) (was : peer_at w c ≡ Some p)
    (opens : p.standing ≡ Open) (t : TellsTurns service end w p false) where
  front : Front p.unanswered t.turns p.state.waits
  front = behind_open p.standing p.unanswered t.turns p.state opens t.behind

  told : IsTold service end w p.member false t.turns
  told = subst (λ (s : Standing). IsTold service end w p.member (is_gone s) t.turns) opens t.told

  abbrev acted : Event → Type 0
  acted event = Acted service end w b c (lived service a event state)

  -- as it is said of the connection
  shaped : (event : Event) (x : Unanswered) → a ≡ awaiting p x → Acted service end w b c (lived service (record p { member = p.member; unanswered = x; standing = Open }) event state) → acted event
  shaped event x e r =
      let same : record p { member = p.member; unanswered = x; standing = Open } ≡ a = sym (λ i. record p { unanswered = x; standing = opens i }) ∙ sym e in
      subst (λ (z : Peer). Acted service end w b c (lived service z event state)) same r

  shaped_same : (event : Event) → a ≡ p → Acted service end w b c (lived service (record p { member = p.member; unanswered = p.unanswered; standing = Open }) event state) → acted event
  shaped_same event e r = shaped event p.unanswered e r

  shaped_closed : (event : Event) → a ≡ closed p → Acted service end w b c (lived service (record p { member = p.member; unanswered = Nothing; standing = Closed }) event state) → acted event
  shaped_closed event e r = subst (λ (z : Peer). Acted service end w b c (lived service z event state)) (sym e) r

  shaped_bound : (event : Event) (m : Member) → a ≡ bound p m → Acted service end w b c (lived service (record p { member = Some m; unanswered = Nothing; standing = Open }) event state) → acted event
  shaped_bound event m e r =
      let same : record p { member = Some m; unanswered = Nothing; standing = Open } ≡ a = sym (λ i. record p { member = Some m; unanswered = Nothing; standing = opens i }) ∙ sym e in
      subst (λ (z : Peer). Acted service end w b c (lived service z event state)) same r

  -- nothing comes of it
  quiet : (event : Event) → seen (event ∷ []) ≡ [] → Happens p.state event state → state.waits ≡ p.state.waits → b ≡ w → Acted service end w b c (lived service (record p { member = p.member; unanswered = p.unanswered; standing = Open }) event state)
  quiet event none happens waits same = record {
    own =
        built service end w b p event state happens t p.member p.unanswered Open t.turns (ap (λ (l : List Event). all_events t.turns ++ l) none ∙ append-nil (all_events t.turns))
        (front_same p.unanswered t.turns p.state.waits state.waits waits front)
        (bound_by p.member p.unanswered p.state state (bound_stays p.state state event happens) t.bound)
        (subst (λ (z : World service.State). IsTold service end z p.member false t.turns) (sym same) told);
    others = others_same service end w b c p h was same;
  }

  leaves : (octets : List ℕ) (why : ConnFault) (o : Option Member) → p.member ≡ o → Happens p.state (Did (acts.Close octets why)) state → LeavesIts service o w b
      → Acted service end w b c (lived service (record p { member = p.member; unanswered = Nothing; standing = Closed }) (Did (acts.Close octets why)) state)
  leaves octets why None is happens l = shuts_alone service end w b c p state h ends from reach was t front told octets why is happens l
  leaves octets why (Some m) is happens l = shuts service end w b c p state h ends from reach was t front told m is octets why happens l

  -- whether the word of its call is due
  over_due : (m : Member) (k : ℕ) (due : Bool) → p.member ≡ Some m → p.unanswered ≡ Call k → is_word_due w p.member p.unanswered ≡ due → is_over w m k ≡ due
  over_due m k due is x_is d = (λ i. is_word_due w (sym is i) (sym x_is i)) ∙ d

  asking : (k : ℕ) → p.unanswered ≡ Call k → Front (Call k) t.turns p.state.waits
  asking k x_is = subst (λ (x : Unanswered). Front x t.turns p.state.waits) x_is front

  does : (act : Act) → is_word_due w p.member p.unanswered ≡ false → Happens p.state (Did act) state → ActMeans service w p act a b → acted (Did act)
  does (acts.Answer octets) due happens t' = shaped_same (Did (acts.Answer octets)) t'.0 (answers service end w b c p state h ends from reach was t front told octets happens t'.1)
  does (acts.Group asked) due happens t' = shaped (Did (acts.Group asked)) (Bind asked) t'.0 (groups service end w b c p state h ends from reach was t front told asked happens t'.1)
  does (acts.Call j iface) due happens t' =
      member_by p.member (λ m. Requests service w p j iface m a b) (acted (Did (acts.Call j iface)))
      (λ m is r. elim r [
        | inl f ↦ shaped (Did (acts.Call j iface)) (Refused f.0) f.2 (refused service end w b c p state h ends from reach was t front told m is j iface f.0 happens f.1 f.3)
        | inr f ↦ shaped (Did (acts.Call j iface)) (Call f.0) f.2 (accepted service end w b c p state h ends from reach was t front told m is j iface f.0 happens f.1)
      ]) t'
  does (acts.Cancel id) due happens t' =
      shaped_same (Did (acts.Cancel id)) t'.0
      (call_by p.member p.unanswered (λ g k. CancelsIn w g k b) (Acted service end w b c (lived service (record p { member = p.member; unanswered = p.unanswered; standing = Open }) (Did (acts.Cancel id)) state))
      (λ m k is x_is r.
      let f = asking k x_is in
      cancelled service end w b c p state h ends from reach was t front told m is k f.0 f.1 (over_due m k false is x_is due) id happens r x_is) t'.1)
  does (acts.Orphan id) due happens t' =
      shaped_same (Did (acts.Orphan id)) t'.0
      (call_by p.member p.unanswered (λ g k. OrphansIn w g k b) (Acted service end w b c (lived service (record p { member = p.member; unanswered = p.unanswered; standing = Open }) (Did (acts.Orphan id)) state))
      (λ m k is x_is r.
      let f = asking k x_is in
      orphaned service end w b c p state h ends from reach was t front told m is k f.0 f.1 (over_due m k false is x_is due) id happens r x_is) t'.1)
  does (acts.Close octets why) due happens t' = shaped_closed (Did (acts.Close octets why)) t'.0 (leaves octets why p.member refl happens t'.1)

  decides : (x : Unanswered) (decision : Decision) (octets : List ℕ) → p.unanswered ≡ x → is_word_due w p.member p.unanswered ≡ true → Happens p.state (Decided decision octets) state → Decides service w p x decision a b
      → acted (Decided decision octets)
  decides Nothing decision octets x_is due happens t' = absurd t'
  decides (Bind asked) (ToGroup group) octets x_is due happens t' =
      shaped_bound (Decided (ToGroup group) octets) _ t'.2 (joins service end w b c p state h ends from reach was t front told asked x_is group octets happens t'.0 t'.1 t'.3)
  decides (Bind asked) (RefuseGroup reason) octets x_is due happens t' =
      shaped_closed (Decided (RefuseGroup reason) octets) t'.1 (turned_down service end w b c p state h ends from reach was t front told asked x_is reason octets happens t'.0 t'.2)
  decides (Bind asked) (Reply said' executed) octets x_is due happens t' = absurd t'
  decides (Refused status) decision octets x_is due happens t' =
      shaped (Decided decision octets) Nothing t'.0.0 (faulted service end w b c p state h ends from reach was t front told status decision octets x_is happens t'.0.1 t'.1)
  decides (Call k) decision octets x_is due happens t' =
      member_by p.member (λ m. Says service (replies (journal w m.group) k) p a decision) (acted (Decided decision octets))
      (λ m is s. shaped (Decided decision octets) Nothing s.0 (replied service end w b c p state h ends from reach was t front told m k decision octets is x_is (over_due m k true is x_is due) happens s.1 t'.1)) t'.0

  pub means_acted : (event : Event) → Happens p.state event state → Means service w p event a b → acted event
  means_acted (Came octets) happens t' = shaped_same (Came octets) t'.0 (quiet (Came octets) refl happens (ap (λ (x : ConnState). x.waits) happens) t'.1)
  means_acted Paused happens t' = shaped_same Paused t'.1 (quiet Paused refl happens (paused_waits p.state state happens) t'.2)
  means_acted (Did act) happens t' = does act t'.0 happens t'.1
  means_acted (Decided decision octets) happens t' = decides p.unanswered decision octets refl t'.0 happens t'.1

  -- where nothing is to be done it rests
  resting : (x : Unanswered) → p.unanswered ≡ x → is_word_due w p.member p.unanswered ≡ false → IsAtRest state → RestsBy x t.turns state
  resting Nothing x_is due rest = rest
  resting (Bind asked) x_is due rest = let d : is_word_due w p.member (Bind asked) ≡ false = ap (is_word_due w p.member) (sym x_is) ∙ due in absurd cc
  resting (Refused status) x_is due rest = let d : is_word_due w p.member (Refused status) ≡ false = ap (is_word_due w p.member) (sym x_is) ∙ due in absurd cc
  resting (Call k) x_is due rest = by p.member refl told
    where
      r : Front (Call k) t.turns p.state.waits
      r = asking k x_is

      by : (o : Option Member) → p.member ≡ o → IsTold service end w o false t.turns → RestsBy (Call k) t.turns state
      by None is s = absurd (quiet_called r.0.joined r.0.iface r.0.offs _ None r.0.older t.turns r.0.is s.0)
      by (Some m) is s =
          let made = subst (λ (l : List Turn). Made (as_server service end) (home_of end m.group) m.number (past_of w m.group) false l s.0) r.0.is s.1 in
          let o = open_is (as_server service end) (home_of end m.group) w m r.0.joined r.0.iface k r.0.offs r.0.slots r.0.fate r.0.older s.0 made (over_due m k false is x_is due) in
          subst (λ (l : List Turn). RestsBy (Call k) l state) (sym r.0.is) o

  pub paused_tells : Happens p.state Paused state → Means service w p Paused a b → TellsTurns service end b (lived service a Paused state) true
  paused_tells happens t' =
      let waits = paused_waits p.state state happens in
      let same : record p { member = p.member; unanswered = p.unanswered; standing = Open } ≡ a = sym (λ i. record p { standing = opens i }) ∙ sym t'.1 in
      subst (λ (z : Peer). TellsTurns service end b (lived service z Paused state) true) same
      (record {
        turns = t.turns;
        lives = lives_on service end w b p Paused state happens t;
        events = seen_on service end w b p Paused state happens t ∙ append-nil (all_events t.turns);
        behind = front_same p.unanswered t.turns p.state.waits state.waits waits front;
        bound = bound_by p.member p.unanswered p.state state (bound_stays p.state state Paused happens) t.bound;
        told = subst (λ (z : World service.State). IsTold service end z p.member false t.turns) (sym t'.2) told;
        rests = λ e. resting p.unanswered refl t'.0 happens.2;
      })

-- ---- its name and its history stay

pub record Same (p a : Peer) : Type 0 where
  pub name : a.name ≡ p.name
  pub events : a.events ≡ p.events

as_same : (p a b : Peer) → a ≡ b → Same p b → Same p a
as_same p a b e s = subst (λ (z : Peer). Same p z) (sym e) s

module _ (service : Service) (w b : World service.State) (p a : Peer) where
  plainly : Same p p
  plainly = record { name = refl; events = refl }

  act_same : (act : Act) → ActMeans service w p act a b → Same p a
  act_same (acts.Answer octets) t = as_same p a p t.0 plainly
  act_same (acts.Group n) t = as_same p a (awaiting p (Bind n)) t.0 (record { name = refl; events = refl })
  act_same (acts.Call j iface) t =
      of_member p.member (λ m. Requests service w p j iface m a b) (Same p a)
      (λ m r. elim r [
        | inl f ↦ as_same p a (awaiting p (Refused f.0)) f.2 (record { name = refl; events = refl })
        | inr f ↦ as_same p a (awaiting p (Call f.0)) f.2 (record { name = refl; events = refl })
      ]) t
  act_same (acts.Cancel id) t = as_same p a p t.0 plainly
  act_same (acts.Orphan id) t = as_same p a p t.0 plainly
  act_same (acts.Close octets why) t = as_same p a (closed p) t.0 (record { name = refl; events = refl })

  decides_same : (x : Unanswered) (decision : Decision) → Decides service w p x decision a b → Same p a
  decides_same Nothing decision t = absurd t
  decides_same (Bind asked) (ToGroup group) t = as_same p a (bound p (member_for w asked)) t.2 (record { name = refl; events = refl })
  decides_same (Bind asked) (RefuseGroup reason) t = as_same p a (closed p) t.1 (record { name = refl; events = refl })
  decides_same (Bind asked) (Reply said' executed) t = absurd t
  decides_same (Refused status) decision t = as_same p a (awaiting p Nothing) t.0.0 (record { name = refl; events = refl })
  decides_same (Call k) decision t =
      of_member p.member (λ m. Says service (replies (journal w m.group) k) p a decision) (Same p a) (λ m s. as_same p a (awaiting p Nothing) s.0 (record { name = refl; events = refl })) t.0

  pub means_same : (event : Event) → Means service w p event a b → Same p a
  means_same (Came octets) t = as_same p a p t.0 plainly
  means_same Paused t = as_same p a p t.1 plainly
  means_same (Did act) t = act_same act t.1
  means_same (Decided decision octets) t = decides_same p.unanswered decision t.1

-- ---- what happens on it

module _ (service : Service) (end : World service.State) (ends : AreSound end) (c : ℕ) where
  pub event_reach : (w v : World service.State) (event : Event) → HappensOn service c w event v → Reaches w v
  event_reach w v event t =
      reaches_twice w t.between v (means_reach service w t.between t.peer t.after event t.means)
      (reaches_same t.between v (ap (λ (z : World service.State). z.boot) t.then_) (ap (λ (z : World service.State). z.groups) t.then_))

  module _ (w v : World service.State) (event : Event) (reach : Reaches v end) (t : HappensOn service c w event v) where
    between_end : Reaches t.between end
    between_end = reaches_twice t.between v end (reaches_same t.between v (ap (λ (z : World service.State). z.boot) t.then_) (ap (λ (z : World service.State). z.groups) t.then_)) reach

    pub step_end : Reaches w end
    step_end = reaches_twice w v end (event_reach w v event t) reach

    keeps : Coheres w → Coheres v
    keeps h = events_keep service c w v event (below end w ends step_end).sound (below end v ends reach).sound t h

    acts_on : (i : Busy service end w c) → Acted service end w t.between c (lived service t.after event t.state)
    acts_on i = means_acted service end w t.between c t.peer t.after t.state i.coheres ends step_end between_end t.there t.is_open (i.mine t.peer t.there) event t.happens t.means

    pub happens_busy : Busy service end w c → Busy service end v c
    happens_busy i =
        busy_put service end w t.between v c t.peer (lived service t.after event t.state) t.there (means_same service w t.between t.peer t.after event t.means).name
        (means_still service w t.between t.peer t.after event t.means).peers t.lines t.then_ (keeps i.coheres) (acts_on i) i.tells

  pub paused_inv : (w v : World service.State) → Reaches v end → HappensOn service c w Paused v → Busy service end w c → Inv service end v
  paused_inv w v reach t i =
      inv_put service end w t.between v c t.peer (lived service t.after Paused t.state) t.there (means_same service w t.between t.peer t.after Paused t.means).name
      (means_still service w t.between t.peer t.after Paused t.means).peers t.lines t.then_ (keeps w v Paused reach t i.coheres)
      (paused_tells service end w t.between c t.peer t.after t.state i.coheres ends (step_end w v Paused reach t) (between_end w v Paused reach t) t.there t.is_open (i.mine t.peer t.there) t.happens t.means)
      (acts_on w v Paused reach t i).others i.tells

  -- ---- until it rests

  rests_away : (s : Standing) → s ≢ Open → (x : Unanswered) (turns : List Turn) (m : ConnState) → RestsAs s x turns m
  rests_away Open gone x turns m = absurd (gone refl)
  rests_away Closed gone x turns m = tt
  rests_away Lost gone x turns m = tt

  -- one that isn't there rests
  pub idle_inv : (w : World service.State) (p : Peer) → peer_at w c ≡ Some p → p.standing ≢ Open → Busy service end w c → Inv service end w
  idle_inv w p was gone i = record {
    coheres = i.coheres;
    tells =
        λ d x at.
        elim (eqb_tells d c) [
          | inl e ↦
              let here : peer_at w c ≡ Some x = subst (λ (n : ℕ). peer_at w n ≡ Some x) e.1 at in
              let one : p ≡ x = some_peer p x (sym was ∙ here) in
              let t = i.mine x here in
              record {
                turns = t.turns;
                lives = t.lives;
                events = t.events;
                behind = t.behind;
                bound = t.bound;
                told = t.told;
                rests = λ f. rests_away x.standing (λ o. gone (ap (λ (y : Peer). y.standing) one ∙ o)) x.unanswered t.turns x.state;
              }
          | inr e ↦ i.tells d x e.1 at
        ];
  }

  rests_reach : (w v : World service.State) (s : Standing) → RestsAt service c w s v → Reaches w v
  rests_reach w v Open r = event_reach w v Paused r
  rests_reach w v Closed r = subst (λ (z : World service.State). Reaches w z) (sym r) (reaches_none w)
  rests_reach w v Lost r = subst (λ (z : World service.State). Reaches w z) (sym r) (reaches_none w)

  pub happen_reach : (events : List Event) (w v : World service.State) → HappenOn service c w events v → Reaches w v
  happen_reach [] w v r = rests_reach w v r.0.standing r.2
  happen_reach (Did act ∷ more) w v r = reaches_twice w r.0 v (event_reach w r.0 (Did act) r.1) (happen_reach more r.0 v r.2)
  happen_reach (Decided decision octets ∷ more) w v r = reaches_twice w r.0 v (event_reach w r.0 (Decided decision octets) r.1) (happen_reach more r.0 v r.2)
  happen_reach (Came octets ∷ more) w v r = absurd r
  happen_reach (Paused ∷ more) w v r = absurd r

  rests_inv : (w v : World service.State) (p : Peer) (s : Standing) → peer_at w c ≡ Some p → p.standing ≡ s → Reaches v end → RestsAt service c w s v → Busy service end w c → Inv service end v
  rests_inv w v p Open was is reach r i = paused_inv w v reach r i
  rests_inv w v p Closed was is reach r i = subst (λ (z : World service.State). Inv service end z) (sym r) (idle_inv w p was (λ e. absurd (cc (is, e))) i)
  rests_inv w v p Lost was is reach r i = subst (λ (z : World service.State). Inv service end z) (sym r) (idle_inv w p was (λ e. absurd (cc (is, e))) i)

  pub happen_inv : (events : List Event) (w v : World service.State) → Reaches v end → HappenOn service c w events v → Busy service end w c → Inv service end v
  happen_inv [] w v reach r i = rests_inv w v r.0 r.0.standing r.1 refl reach r.2 i
  happen_inv (Did act ∷ more) w v reach r i =
      let from : Reaches r.0 end = reaches_twice r.0 v end (happen_reach more r.0 v r.2) reach in
      happen_inv more r.0 v reach r.2 (happens_busy w r.0 (Did act) from r.1 i)
  happen_inv (Decided decision octets ∷ more) w v reach r i =
      let from : Reaches r.0 end = reaches_twice r.0 v end (happen_reach more r.0 v r.2) reach in
      happen_inv more r.0 v reach r.2 (happens_busy w r.0 (Decided decision octets) from r.1 i)
  happen_inv (Came octets ∷ more) w v reach r i = absurd r
  happen_inv (Paused ∷ more) w v reach r i = absurd r

  pub goes_reach : (w v : World service.State) → GoesOnAt service c w v → Reaches w v
  goes_reach w v r = happen_reach r.0 w v r.1

  pub goes_inv : (w v : World service.State) → Reaches v end → GoesOnAt service c w v → Busy service end w c → Inv service end v
  goes_inv w v reach r i = happen_inv r.0 w v reach r.1 i

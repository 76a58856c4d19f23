-- All lines, and what follows behind the last one.
use Rattle.std.proofs.Common.{◌≡◌, ◌≢◌, ◌==◌, ℕ, Bool, true, false, if◌then◌else◌, Option, Some, None, List, [], ◌∷◌, ◌++◌, map, refl, sym, ap, subst, ◌∙◌, inl, inr, append_assoc}
use Rattle.std.specs.List.{list_any, find, AllByRecursion}
use Rattle.std.proofs.lemmas.List.{append-nil}
use Rattle.std.proofs.lemmas.Bool.Decides.{eqb_tells}
use Rattle.replay_world.specs.declared.peer.Member.{Member}
use Rattle.replay_world.specs.declared.peer.Unanswered.{Unanswered}
use Rattle.replay_world.specs.declared.peer.Unanswered.TheVariants.{Nothing, Bind, Refused, Call}
use Rattle.replay_world.specs.declared.peer.Standing.{Standing}
use Rattle.replay_world.specs.declared.peer.Standing.TheVariants.{Open, Closed, Lost}
use Rattle.replay_world.specs.Services.{Service}
use Rattle.replay_world.specs.Worlds.{Peer, World, peer_at, with_peer, journal, booted, is_named}
use Rattle.replay_world.specs.Moments.{AreSound, Coheres}
use Rattle.replay_world.specs.Plays.{Ends, GoesOnIfOpen, EndsAt, IfRuns, Finishes, lost}
use Rattle.handle_model.specs.Journal.{runs}
use Rattle.conn_asks.specs.States.{ConnState}
use Rattle.conn_histories.specs.declared.turn.Turn.{Turn}
use Rattle.conn_histories.specs.declared.turn.Turn.TheVariants.{Binding, Bound, NotBound, Answered, Called, Closed as ClosedTurn}
use Rattle.conn_histories.specs.Entries.{turn_runs}
use Rattle.replay_script.specs.declared.line.Line.{Line}
use Rattle.replay_script.specs.declared.line.Line.TheVariants.{Boot}
use Rattle.replay_world.specs.Replays.{name_of, names_of, Leads, LosesIfOpen, LosesAll, FinishesAll, PlaysTo, EndsAs}
use Rattle.replay_world.specs.Promised.{sent_in, sent_to}
use Rattle.replay_world.proofs.Peers.{found_name, put_found, put_others}
use Rattle.replay_world.proofs.Lines.{ends_keep}
use Rattle.conn_turns.specs.Quiet.{IsQuiet}
use Rattle.replay.proofs.Reaching.{Reaches, reaches_none, reaches_twice, below}
use Rattle.replay.proofs.Still.{still_left}
use Rattle.replay.proofs.Telling.{Behind, RestsAs, IsTold, TellsTurns, is_gone, retold}
use Rattle.replay.proofs.Happening.{Inv, some_peer}
use Rattle.conn_turns.proofs.Done.{done_runs}
use Rattle.replay.proofs.Running.{ended_tells, ended_others, ended_none, over_none}
use Rattle.replay.proofs.Lining.{loses_reach, loses_inv, ends_reach, finishes_reach, line_reach, line_inv, starts_inv}
use Rattle.replay.proofs.Heard.{Heard, heard_is, none_more, line_heard, loses_heard, finishes_heard, starts_heard}

-- ---- the lines

module _ (service : Service) (end : World service.State) (ends : AreSound end) where
  pub leads_reach : (ls : List Line) (w v : World service.State) → Leads service w ls v → Reaches w v
  leads_reach [] w v t = subst (λ (z : World service.State). Reaches w z) (sym t) (reaches_none w)
  leads_reach (line ∷ more) w v t = reaches_twice w t.0 v (line_reach service end ends w t.0 line t.1) (leads_reach more t.0 v t.2)

  pub leads_inv : (ls : List Line) (w v : World service.State) → Reaches v end → Leads service w ls v → Inv service end w → Inv service end v
  leads_inv [] w v reach t i = subst (λ (z : World service.State). Inv service end z) (sym t) i
  leads_inv (line ∷ more) w v reach t i =
      leads_inv more t.0 v reach t.2 (line_inv service end ends w t.0 line (reaches_twice t.0 v end (leads_reach more t.0 v t.2) reach) t.1 i)

pub leads_heard : (service : Service) (ls : List Line) (w v : World service.State) (sent : ℕ → List ℕ) → Leads service w ls v → Heard w sent → Heard v (λ c. sent c ++ sent_to c ls)
leads_heard service [] w v sent t h = none_more v sent (λ c. sent c ++ []) (λ c. sym (append-nil (sent c))) (heard_is w v sent t h)
leads_heard service (line ∷ more) w v sent t h =
    none_more v (λ c. (sent c ++ sent_in c line) ++ sent_to c more) (λ c. sent c ++ (sent_in c line ++ sent_to c more)) (λ c. append_assoc (sent c) (sent_in c line) (sent_to c more))
    (leads_heard service more t.0 v (λ c. sent c ++ sent_in c line) t.2 (line_heard service w t.0 line sent t.1 h))

-- ---- connections are lost

abbrev pub NoneOf : ℕ → List ℕ → Type 0
NoneOf d cs = AllByRecursion (λ c. c ≢ d) cs

-- each that is there has its name among the names
pub named_there : (d : ℕ) (x : Peer) (ps : List Peer) → find (is_named d) ps ≡ Some x → NoneOf d (map name_of ps) → ⊥
named_there d x [] f none = absurd (cc (f))
named_there d x (q ∷ ps) f none = by (q.name == d) (elim (eqb_tells q.name d) [ inl e ↦ absurd (none.0 e.1) | inr e ↦ e.0 ]) f (λ g. named_there d x ps g none.1)
  where
    by : (b : Bool) → b ≡ false → (if b then Some q else find (is_named d) ps) ≡ Some x → (find (is_named d) ps ≡ Some x → ⊥) → ⊥
    by true e f r = absurd cc
    by false e f r = r f

module _ (service : Service) (end : World service.State) (ends : AreSound end) where
  lose_reach' : (w u : World service.State) (p : Peer) (s : Standing) → LosesIfOpen service w p s u → Reaches w u
  lose_reach' w u p Open t = loses_reach service end ends w u p t
  lose_reach' w u p Closed t = subst (λ (z : World service.State). Reaches w z) (sym t) (reaches_none w)
  lose_reach' w u p Lost t = subst (λ (z : World service.State). Reaches w z) (sym t) (reaches_none w)

  pub lose_all_reach : (cs : List ℕ) (w v : World service.State) → LosesAll service w cs v → Reaches w v
  lose_all_reach [] w v t = subst (λ (z : World service.State). Reaches w z) (sym t) (reaches_none w)
  lose_all_reach (c ∷ cs) w v t = reaches_twice w t.0 v (lose_reach' w t.0 t.1.0 t.1.0.standing t.1.2) (lose_all_reach cs t.0 v t.2)

  lose_inv' : (c : ℕ) (w u : World service.State) (p : Peer) (s : Standing) → p.standing ≡ s → Reaches u end → peer_at w c ≡ Some p → LosesIfOpen service w p s u → Inv service end w → Inv service end u
  lose_inv' c w u p Open is reach was t i = loses_inv service end ends c w u p reach was is t i
  lose_inv' c w u p Closed is reach was t i = subst (λ (z : World service.State). Inv service end z) (sym t) i
  lose_inv' c w u p Lost is reach was t i = subst (λ (z : World service.State). Inv service end z) (sym t) i

  pub lose_all_inv : (cs : List ℕ) (w v : World service.State) → Reaches v end → LosesAll service w cs v → Inv service end w → Inv service end v
  lose_all_inv [] w v reach t i = subst (λ (z : World service.State). Inv service end z) (sym t) i
  lose_all_inv (c ∷ cs) w v reach t i =
      lose_all_inv cs t.0 v reach t.2
      (lose_inv' c w t.0 t.1.0 t.1.0.standing refl (reaches_twice t.0 v end (lose_all_reach cs t.0 v t.2) reach) t.1.1 t.1.2 i)

module _ (service : Service) where
  lose_heard' : (c : ℕ) (w u : World service.State) (p : Peer) (s : Standing) (sent : ℕ → List ℕ) → p.standing ≡ s → peer_at w c ≡ Some p → LosesIfOpen service w p s u → Heard w sent → Heard u sent
  lose_heard' c w u p Open sent is was t h = loses_heard service c w u p sent was is t h
  lose_heard' c w u p Closed sent is was t h = heard_is w u sent t h
  lose_heard' c w u p Lost sent is was t h = heard_is w u sent t h

  pub lose_all_heard : (cs : List ℕ) (w v : World service.State) (sent : ℕ → List ℕ) → LosesAll service w cs v → Heard w sent → Heard v sent
  lose_all_heard [] w v sent t h = heard_is w v sent t h
  lose_all_heard (c ∷ cs) w v sent t h = lose_all_heard cs t.0 v sent t.2 (lose_heard' c w t.0 t.1.0 t.1.0.standing sent refl t.1.1 t.1.2 h)

  -- one that is open then was open before, and is none of them
  pub record StillOpen (w : World service.State) (d : ℕ) (x : Peer) (cs : List ℕ) : Type 0 where
    pub there : peer_at w d ≡ Some x
    pub none : NoneOf d cs

  still_there : (c : ℕ) (w u : World service.State) (p : Peer) (d : ℕ) (x : Peer) (cs : List ℕ) → p.standing ≢ Open → peer_at w c ≡ Some p → u ≡ w → x.standing ≡ Open → StillOpen u d x cs → StillOpen w d x (c ∷ cs)
  still_there c w u p d x cs gone was t o s =
      let there : peer_at w d ≡ Some x = ap (λ (z : World service.State). peer_at z d) (sym t) ∙ s.there in
      record { there = there; none = ((λ e. let one : p ≡ x = some_peer p x (sym was ∙ (ap (λ (n : ℕ). peer_at w n) e ∙ there)) in gone (ap (λ (y : Peer). y.standing) one ∙ o)), s.none) }

  one_open : (c : ℕ) (w u : World service.State) (p : Peer) (s : Standing) (d : ℕ) (x : Peer) (cs : List ℕ) → p.standing ≡ s → peer_at w c ≡ Some p → LosesIfOpen service w p s u → x.standing ≡ Open → StillOpen u d x cs
      → StillOpen w d x (c ∷ cs)
  one_open c w u p Open d x cs is was t o s =
      let q : Peer = lost service p in
      let k = still_left service w t.0 p.member t.1 in
      let named : p.name ≡ c = found_name c w.peers p was in
      elim (eqb_tells c d) [
        | inl e ↦
            let now : peer_at u c ≡ Some q = ap (λ (z : World service.State). peer_at z c) t.2 ∙ subst (λ (n : ℕ). peer_at (with_peer t.0 q) n ≡ Some q) named (put_found q t.0.peers) in
            let one : x ≡ q = some_peer x q (sym s.there ∙ subst (λ (n : ℕ). peer_at u n ≡ Some q) e.1 now) in
            let gone : x.standing ≡ Lost = ap (λ (y : Peer). y.standing) one in
            absurd (cc (gone, o))
        | inr e ↦ record {
          there =
              sym (ap (λ (ps : List Peer). peer_at (record w { peers = ps }) d) k.peers)
              ∙ (sym (put_others d q t.0.peers (λ f. e.1 (sym named ∙ f))) ∙ (ap (λ (z : World service.State). peer_at z d) (sym t.2) ∙ s.there));
          none = (e.1, s.none);
        }
      ]
  one_open c w u p Closed d x cs is was t o s = still_there c w u p d x cs (λ e. absurd (cc (e, is))) was t o s
  one_open c w u p Lost d x cs is was t o s = still_there c w u p d x cs (λ e. absurd (cc (e, is))) was t o s

  still_open : (cs : List ℕ) (w v : World service.State) (d : ℕ) (x : Peer) → LosesAll service w cs v → peer_at v d ≡ Some x → x.standing ≡ Open → StillOpen w d x cs
  still_open [] w v d x t at o = record { there = ap (λ (z : World service.State). peer_at z d) (sym t) ∙ at; none = tt }
  still_open (c ∷ cs) w v d x t at o = one_open c w t.0 t.1.0 t.1.0.standing d x cs refl t.1.1 t.1.2 o (still_open cs t.0 v d x t.2 at o)

  -- none is open any more
  pub none_open : (w v : World service.State) → LosesAll service w (names_of w) v → (d : ℕ) (x : Peer) → peer_at v d ≡ Some x → x.standing ≢ Open
  none_open w v t d x at o = let s = still_open (names_of w) w v d x t at o in absurd (named_there d x w.peers s.there s.none)

-- ---- calls are finished

quiet_runs : (ts : List Turn) → AllByRecursion IsQuiet ts → list_any turn_runs ts ≡ false
quiet_runs [] q = refl
quiet_runs (Binding asked ∷ ts) q = quiet_runs ts q.1
quiet_runs (Bound asked group octets ∷ ts) q = absurd q.0
quiet_runs (NotBound asked reason octets ∷ ts) q = quiet_runs ts q.1
quiet_runs (Answered octets ∷ ts) q = quiet_runs ts q.1
quiet_runs (Called r ∷ ts) q = absurd q.0
quiet_runs (ClosedTurn octets why ∷ ts) q = quiet_runs ts q.1

-- one that isn't there has a call, or only turns that are over
without_call : (s : Standing) (x : Unanswered) (turns : List Turn) (m : ConnState) → s ≢ Open → ((k : ℕ) → x ≡ Call k → ⊥) → Behind s x turns m → list_any turn_runs turns ≡ false
without_call Open x turns m gone none b = absurd (gone refl)
without_call Closed x turns m gone none b = done_runs turns b.2
without_call Lost Nothing turns m gone none b = done_runs turns b.0
without_call Lost (Bind asked) turns m gone none b = absurd b
without_call Lost (Refused status) turns m gone none b = absurd b
without_call Lost (Call k) turns m gone none b = absurd (none k refl)

-- what the turns of a connection tell, and that none runs where it is none of these
pub record Quiet (service : Service) (end w : World service.State) (d : ℕ) (x : Peer) (cs : List ℕ) : Type 0 where
  pub tells : TellsTurns service end w x true
  pub none : NoneOf d cs → list_any turn_runs tells.turns ≡ false

-- no connection is there
pub record Over (service : Service) (end w : World service.State) (cs : List ℕ) : Type 0 where
  pub coheres : Coheres w
  pub none_open : (d : ℕ) (x : Peer) → peer_at w d ≡ Some x → x.standing ≢ Open
  pub quiet : (d : ℕ) (x : Peer) → peer_at w d ≡ Some x → Quiet service end w d x cs

module _ (service : Service) (end : World service.State) (ends : AreSound end) where
  rests_away : (s : Standing) (x : Unanswered) (turns : List Turn) (m : ConnState) → s ≢ Open → RestsAs s x turns m
  rests_away Open x turns m gone = absurd (gone refl)
  rests_away Closed x turns m gone = tt
  rests_away Lost x turns m gone = tt

  abbrev away : (w : World service.State) (p : Peer) → p.standing ≢ Open → TellsTurns service end w p false → TellsTurns service end w p true
  away w p gone t = record {
    turns = t.turns;
    lives = t.lives;
    events = t.events;
    behind = t.behind;
    bound = t.bound;
    told = t.told;
    rests = λ f. rests_away p.standing p.unanswered t.turns p.state gone;
  }

  pub finish_reach : (cs : List ℕ) (w v : World service.State) → FinishesAll service w cs v → Reaches w v
  finish_reach [] w v t = subst (λ (z : World service.State). Reaches w z) (sym t) (reaches_none w)
  finish_reach (c ∷ cs) w v t = reaches_twice w t.0 v (finishes_reach service end ends c w t.0 w t.1.0 t.1.0.member t.1.0.unanswered (reaches_none w) t.1.2) (finish_reach cs t.0 v t.2)

  module _ (c : ℕ) (cs : List ℕ) (w u : World service.State) (p : Peer) (was : peer_at w c ≡ Some p) (reach : Reaches u end) (o : Over service end w (c ∷ cs)) where
    same_peer : (d : ℕ) (x : Peer) → peer_at w d ≡ Some x → d ≡ c → p ≡ x
    same_peer d x at e = some_peer p x (sym was ∙ subst (λ (m : ℕ). peer_at w m ≡ Some x) e at)

    -- where its call, if any, runs no longer
    stays : list_any turn_runs (o.quiet c p was).tells.turns ≡ false → u ≡ w → Over service end u cs
    stays none e =
        subst (λ (z : World service.State). Over service end z cs) (sym e)
        (record {
          coheres = o.coheres;
          none_open = o.none_open;
          quiet =
              λ d x at.
              elim (eqb_tells d c) [
                | inl f ↦ subst (λ (y : Peer). Quiet service end w d y cs) (same_peer d x at f.1) (record { tells = (o.quiet c p was).tells; none = λ n. none })
                | inr f ↦ let q = o.quiet d x at in record { tells = q.tells; none = λ n. q.none ((λ g. f.1 (sym g)), n) }
              ];
        })

    -- where it ends
    module _ (m : Member) (k : ℕ) (is : p.member ≡ Some m) (x_is : p.unanswered ≡ Call k) (r : runs (journal w m.group) k ≡ true) (v : World service.State) (e : Ends service w m k v) (last : u ≡ v) where
      reach_v : Reaches v end
      reach_v = subst (λ (z : World service.State). Reaches z end) last reach

      from_w : Reaches w end
      from_w = reaches_twice w v end (ends_reach service end ends w v m k e) reach_v

      peers : v.peers ≡ w.peers
      peers = ap (λ (z : World service.State). z.peers) e.settles.after

      at_w : (d : ℕ) (x : Peer) → peer_at v d ≡ Some x → peer_at w d ≡ Some x
      at_w d x at = sym (ap (λ (ps : List Peer). peer_at (record w { peers = ps }) d) peers) ∙ at

      here : TellsTurns service end w p true
      here = (o.quiet c p was).tells

      ended : Over service end u cs
      ended =
          subst (λ (z : World service.State). Over service end z cs) (sym last)
          (record {
            coheres = ends_keep service w v m k (below end v ends reach_v).sound e o.coheres;
            none_open = λ d x at. o.none_open d x (at_w d x at);
            quiet =
                λ d x at.
                elim (eqb_tells d c) [
                  | inl f ↦
                      subst (λ (y : Peer). Quiet service end v d y cs) (same_peer d x (at_w d x at) f.1)
                      (record {
                        tells = away v p (o.none_open c p was) (ended_tells service end w v c p m k o.coheres ends from_w reach_v was is x_is true here e r);
                        none = λ n. ended_none service end w v c p m k o.coheres ends from_w reach_v was is x_is true here e r;
                      })
                  | inr f ↦
                      let q = o.quiet d x (at_w d x at) in
                      record {
                        tells = retold service end w v x true (ended_others service end w v c p m k o.coheres ends from_w reach_v was is x_is true here e r d x f.1 (at_w d x at)) q.tells;
                        none = λ n. q.none ((λ g. f.1 (sym g)), n);
                      }
                ];
          })

    after_open : (v : World service.State) (s : Standing) → s ≢ Open → GoesOnIfOpen service c v s u → u ≡ v
    after_open v Open gone t = absurd (gone refl)
    after_open v Closed gone t = t
    after_open v Lost gone t = t

    if_runs : (b : Bool) (m : Member) (k : ℕ) → p.member ≡ Some m → p.unanswered ≡ Call k → runs (journal w m.group) k ≡ b → IfRuns service b (EndsAt service c w p m k u) (u ≡ w) → Over service end u cs
    if_runs true m k is x_is r t = ended m k is x_is r t.0 t.1 (after_open t.0 p.standing (o.none_open c p was) t.2)
    if_runs false m k is x_is r t =
        stays (over_none service end w w c p m k o.coheres ends (from_here t) (from_here t) was is x_is true (o.quiet c p was).tells r) t
      where
        from_here : u ≡ w → Reaches w end
        from_here e = subst (λ (z : World service.State). Reaches z end) e reach

    none_call : (x : Unanswered) → p.unanswered ≡ x → ((k : ℕ) → x ≡ Call k → ⊥) → list_any turn_runs (o.quiet c p was).tells.turns ≡ false
    none_call x x_is none =
        let t = (o.quiet c p was).tells in
        without_call p.standing x t.turns p.state (o.none_open c p was) none (subst (λ (y : Unanswered). Behind p.standing y t.turns p.state) x_is t.behind)

    told_alone : p.member ≡ None → list_any turn_runs (o.quiet c p was).tells.turns ≡ false
    told_alone is =
        let t = (o.quiet c p was).tells in
        quiet_runs t.turns (alone (is_gone p.standing) t.turns p.member is t.told)
      where
        alone : (gone : Bool) (ts : List Turn) (mem : Option Member) → mem ≡ None → IsTold service end w mem gone ts → AllByRecursion IsQuiet ts
        alone gone ts None e s = s.0
        alone gone ts (Some m) e s = absurd cc

    pub finished : (mem : Option Member) (x : Unanswered) → p.member ≡ mem → p.unanswered ≡ x → Finishes service c w p mem x w u → Over service end u cs
    finished None x is x_is t = stays (told_alone is) t
    finished (Some m) Nothing is x_is t = stays (none_call Nothing x_is (λ k e. absurd cc)) t
    finished (Some m) (Bind asked) is x_is t = stays (none_call (Bind asked) x_is (λ k e. absurd cc)) t
    finished (Some m) (Refused status) is x_is t = stays (none_call (Refused status) x_is (λ k e. absurd cc)) t
    finished (Some m) (Call k) is x_is t = if_runs (runs (journal w m.group) k) m k is x_is refl t

  pub finish_over : (cs : List ℕ) (w v : World service.State) → Reaches v end → FinishesAll service w cs v → Over service end w cs → Over service end v []
  finish_over [] w v reach t o = subst (λ (z : World service.State). Over service end z []) (sym t) o
  finish_over (c ∷ cs) w v reach t o =
      let from : Reaches t.0 end = reaches_twice t.0 v end (finish_reach cs t.0 v t.2) reach in
      finish_over cs t.0 v reach t.2 (finished c cs w t.0 t.1.0 t.1.1 from o t.1.0.member t.1.0.unanswered refl refl t.1.2)

pub finish_heard : (service : Service) (cs : List ℕ) (w v : World service.State) (sent : ℕ → List ℕ) → FinishesAll service w cs v → Heard w sent → Heard v sent
finish_heard service [] w v sent t h = heard_is w v sent t h
finish_heard service (c ∷ cs) w v sent t h =
    finish_heard service cs t.0 v sent t.2 (finishes_heard service c w t.0 w t.1.0 t.1.0.member t.1.0.unanswered sent h t.1.2 h)

-- ---- a whole script

module _ (service : Service) where
  pub ends_over : (lines : List Line) (end : World service.State) → EndsAs service lines end → AreSound end → Over service end end []
  ends_over [] end t ends = absurd t.plays
  ends_over (line ∷ more) end t ends = by line t.plays
    where
      last : World service.State
      last = t.last

      between : World service.State
      between = t.closes.0

      to_end : Reaches between end
      to_end = finish_reach service end ends (names_of between) between end t.closes.2

      last_end : Reaches last end
      last_end = reaches_twice last between end (lose_all_reach service end ends (names_of last) last between t.closes.1) to_end

      close : Inv service end last → Over service end end []
      close i =
          let j = lose_all_inv service end ends (names_of last) last between to_end t.closes.1 i in
          finish_over service end ends (names_of between) between end (reaches_none end) t.closes.2
          (record {
            coheres = j.coheres;
            none_open = none_open service last between t.closes.1;
            quiet = λ d x at. record { tells = j.tells d x at; none = λ n. absurd (named_there d x between.peers at n) };
          })

      by : (l : Line) → PlaysTo service (l ∷ more) last → Over service end end []
      by (Boot word) p = close (leads_inv service end ends more (booted word service.start) last last_end p (starts_inv service end word))
      by _ p = absurd p

  pub ends_heard : (lines : List Line) (end : World service.State) → EndsAs service lines end → Heard end (λ c. sent_to c lines)
  ends_heard [] end t = absurd t.plays
  ends_heard (line ∷ more) end t = by line t.plays
    where
      close : Heard t.last (λ c. sent_to c more) → Heard end (λ c. sent_to c more)
      close h =
          finish_heard service (names_of t.closes.0) t.closes.0 end (λ c. sent_to c more) t.closes.2
          (lose_all_heard service (names_of t.last) t.last t.closes.0 (λ c. sent_to c more) t.closes.1 h)

      by : (l : Line) → PlaysTo service (l ∷ more) t.last → Heard end (λ c. sent_to c (l ∷ more))
      by (Boot word) p = close (leads_heard service more (booted word service.start) t.last (λ c. []) p (starts_heard service word))
      by _ p = absurd p

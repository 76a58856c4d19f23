-- What each line of a script does.
use Rattle.std.specs.Prelude.{◌≡◌, ◌≢◌, ℕ, Bool, true, false, Option, Some, None, List, [], ◌∷◌, ⊤}
use Rattle.handle_model.specs.declared.entry.Asked.{Asked}
use Rattle.handle_model.specs.declared.entry.Outcome.{Outcome}
use Rattle.handle_model.specs.declared.entry.Said.{Said}
use Rattle.handle_model.specs.declared.entry.Said.TheVariants.{Fault}
use Rattle.handle_model.specs.declared.entry.Entry.TheVariants.{End}
use Rattle.handle_model.specs.Journal as journals
use Rattle.manager_api.specs.Answers.{Ans}
use Rattle.manager_api.specs.Calls as calls
use Rattle.desk_counts.specs.Numbers.{Numbers}
use Rattle.conn_histories.specs.Histories.Event.{Came}
use Rattle.group_core.specs.declared.answer.Taking.{Taking}
use Rattle.group_core.specs.declared.answer.Taking.TheVariants as taking
use Rattle.group_core.specs.Calls.{Takes}
use Rattle.group_core.specs.Stages.{is_asked}
use Rattle.conn_histories.specs.Requests.{ids_of, no_memory}
use Rattle.conn_histories.specs.Ends.{Meets}
use Rattle.replay_script.specs.declared.line.Line.{Line}
use Rattle.replay_script.specs.declared.line.Line.TheVariants as lines
use Rattle.replay_world.specs.declared.peer.Unanswered.{Unanswered}
use Rattle.replay_world.specs.declared.peer.Unanswered.TheVariants.{Call}
use Rattle.replay_world.specs.declared.peer.Member.{Member}
use Rattle.replay_world.specs.declared.peer.Standing.{Standing}
use Rattle.replay_world.specs.declared.peer.Standing.TheVariants.{Open, Closed, Lost}
use Rattle.replay_world.specs.Services.{Service}
use Rattle.replay_world.specs.Worlds.{Peer, World, opened_peer, peer_at, with_peer, home_of, past_of, journal, printing}
use Rattle.replay_world.specs.Worlds.Printed.{Waits, Idle}
use Rattle.replay_world.specs.Counting.{CountAll}
use Rattle.replay_world.specs.Groups.{taken_with, GoesOn, SettlesIn}
use Rattle.replay_world.specs.Events.{LeavesIts, HappensOn, GoesOnAt}

-- the connection has no call that may be run, or none that runs
abbrev pub idles : {S : Type 0} → ℕ → World S → World S
idles c w = printing w (Idle c ∷ [])

module _ (service : Service) where
  -- OPEN

  -- a connection is opened once
  abbrev pub Opens : ℕ → World service.State → World service.State → Type 0
  Opens c w v = (peer_at w c ≡ None) × (v ≡ with_peer w (opened_peer (ids_of service.tables) c))

  -- SEND

  -- Octets come to a connection that is there, and all is done that they ask for, up to a call that has to wait. To one
  -- that the server closed they make no difference, and to one that was lost none may come.
  abbrev pub SendsAt : ℕ → List ℕ → World service.State → Standing → World service.State → Type 0
  SendsAt c octets w Open v = (u : World service.State) × HappensOn service c w (Came octets) u × GoesOnAt service c u v
  SendsAt c octets w Closed v = v ≡ w
  SendsAt c octets w Lost v = ⊥

  -- RUN

  -- A call is taken; or it is denied, which is answered; or it waits for another.
  abbrev pub TriedAs : ℕ → World service.State → Taking → World service.State → Type 0
  TriedAs c u (taking.Run row serial) v = v ≡ u
  TriedAs c u (taking.Denied slot) v = GoesOnAt service c u v
  TriedAs c u (taking.Wait m) v = v ≡ printing u (Waits c m ∷ [])
  TriedAs c u taking.Dropped v = v ≡ idles c u

  -- the connection's call is tried, if it has one
  abbrev pub Tries : ℕ → World service.State → Option Member → Unanswered → World service.State → Type 0
  Tries c w (Some m) (Call k) v =
      (answer : Taking) × (u : World service.State) × GoesOn (λ old new. Takes old k answer new) w m.group u × TriedAs c u answer v
  Tries c w _ _ v = v ≡ idles c w

  -- FINISH

  -- The desks may give the answer, and then keep this, where the numbers are those of all connections so far. The probe
  -- tells of a cancel exactly where there was one.
  abbrev pub MayAnswer : World service.State → Bool → service.State → calls.Call → Bool → Ans → Type 0
  MayAnswer w cancelled desks call told answer =
      (told ≡ cancelled) × ((numbers : Numbers) × CountAll w.peers numbers × service.may w.desks numbers call told answer desks)

  -- A running call ends as its manager answers it, with the cookies of its Take. In a replay there is memory.
  pub record Ends (w : World service.State) (m : Member) (k : ℕ) (v : World service.State) : Type 0 where
    pub asked : Asked
    pub asks : journals.asked (journal w m.group) k ≡ Some asked
    pub cookies : List (Option ℕ)
    pub taken : taken_with (past_of w m.group) k ≡ Some cookies
    pub desks : service.State
    pub results : List Outcome
    pub said : Said
    pub meets : Meets (home_of w m.group) service.tables (MayAnswer w (is_asked (journal w m.group) k) desks) asked cookies (is_asked (journal w m.group) k) results said
    pub memory : said ≢ Fault no_memory
    pub settles : SettlesIn service (record w { desks = desks }) m.group (End k results said) v

  -- What follows on a connection that is there: the answer, and what waited behind it.
  abbrev pub GoesOnIfOpen : ℕ → World service.State → Standing → World service.State → Type 0
  GoesOnIfOpen c u Open v = GoesOnAt service c u v
  GoesOnIfOpen c u _ v = v ≡ u

  abbrev pub EndsAt : ℕ → World service.State → Peer → Member → ℕ → World service.State → Type 0
  EndsAt c w p m k v = (u : World service.State) × Ends w m k u × GoesOnIfOpen c u p.standing v

  -- where the call runs this, and else that
  abbrev pub IfRuns : Bool → Type 0 → Type 0 → Type 0
  IfRuns true This That = This
  IfRuns false This That = That

  -- the connection's call, if it runs; and otherwise this
  abbrev pub Finishes : ℕ → World service.State → Peer → Option Member → Unanswered → World service.State → World service.State → Type 0
  Finishes c w p (Some m) (Call k) otherwise v = IfRuns (journals.runs (journal w m.group) k) (EndsAt c w p m k v) (v ≡ otherwise)
  Finishes c w p _ _ otherwise v = v ≡ otherwise

  -- LOSE

  abbrev pub lost : Peer → Peer
  lost p = record p { standing = Lost }

  abbrev pub Loses : World service.State → Peer → World service.State → Type 0
  Loses w p v = (u : World service.State) × LeavesIts service p.member w u × (v ≡ with_peer u (lost p))

  abbrev pub LosesAt : World service.State → Peer → Standing → World service.State → Type 0
  LosesAt w p Open v = Loses w p v
  LosesAt w p Closed v = v ≡ w
  LosesAt w p Lost v = ⊥

  -- A LINE

  -- P of the connection, which was opened
  abbrev pub OfPeer : ℕ → World service.State → (Peer → Type 0) → Type 0
  OfPeer c w P = (p : Peer) × (peer_at w c ≡ Some p) × P p

  -- The boot word stands first, and in no later line.
  abbrev pub Plays : World service.State → Line → World service.State → Type 0
  Plays w (lines.Boot word) v = ⊥
  Plays w (lines.Open c) v = Opens c w v
  Plays w (lines.Send c octets) v = OfPeer c w (λ p. SendsAt c octets w p.standing v)
  Plays w (lines.Run c) v = OfPeer c w (λ p. Tries c w p.member p.unanswered v)
  Plays w (lines.Finish c) v = OfPeer c w (λ p. Finishes c w p p.member p.unanswered (idles c w) v)
  Plays w (lines.Lose c) v = OfPeer c w (λ p. LosesAt w p p.standing v)

  -- WHICH LINE MAY COME

  -- A connection is opened that wasn't before; and octets come to one that was opened and not lost, or it is lost. The lines
  -- of one that was opened may ask for a run or a finish at any time.
  abbrev pub MayCome : World service.State → Line → Type 0
  MayCome w (lines.Boot word) = ⊥
  MayCome w (lines.Open c) = peer_at w c ≡ None
  MayCome w (lines.Send c octets) = OfPeer c w (λ p. p.standing ≢ Lost)
  MayCome w (lines.Run c) = OfPeer c w (λ p. ⊤)
  MayCome w (lines.Finish c) = OfPeer c w (λ p. ⊤)
  MayCome w (lines.Lose c) = OfPeer c w (λ p. p.standing ≢ Lost)

-- no other line is played
abbrev pub OnlyThese : Service → Type 0
OnlyThese service = (w v : World service.State) (line : Line) → Plays service w line v → MayCome service w line

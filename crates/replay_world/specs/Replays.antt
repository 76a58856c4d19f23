-- Scripts, and what the replay of one leaves.
use Rattle.std.specs.Prelude.{◌≡◌, ℕ, suc, List, [], ◌∷◌, ◌++◌, map, reverse, ⊤}
use Rattle.std.specs.List.{AllByRecursion}
use Rattle.handle_model.specs.declared.entry.Entry.{Entry}
use Rattle.handle_model.specs.History.{History, IsSound}
use Rattle.journal_text.specs.Histories.{journals_text}
use Rattle.hub_story.specs.Folded.{kept_since}
use Rattle.replay_script.specs.declared.line.Line.{Line}
use Rattle.replay_script.specs.declared.line.Line.TheVariants.{Boot}
use Rattle.replay_script.specs.Lines.{FitLines, text_of_lines}
use Rattle.replay_script.specs.Scripts.{DepartsAt}
use Rattle.replay_world.specs.declared.fault.ReplayFault.{ReplayFault}
use Rattle.replay_world.specs.declared.fault.ReplayFault.TheVariants as faults
use Rattle.replay_world.specs.declared.peer.Standing.{Standing}
use Rattle.replay_world.specs.declared.peer.Standing.TheVariants.{Open}
use Rattle.replay_world.specs.Services.{Service, IsDetermined}
use Rattle.replay_world.specs.Worlds.{Peer, World, booted}
use Rattle.replay_world.specs.Printing.{out_text}
use Rattle.replay_world.specs.Plays.{Plays, OfPeer, Loses, Finishes}

abbrev pub name_of : Peer → ℕ
name_of p = p.name

-- the names of the connections, rising
abbrev pub names_of : {S : Type 0} → World S → List ℕ
names_of w = map name_of w.peers

-- THE JOURNALS, by the groups' ids

-- each as its group kept it, where each connection that joined folded what came before
abbrev pub journals_from : ℕ → ℕ → List (List Entry) → List History
journals_from boot id [] = []
journals_from boot id (past ∷ more) = kept_since (record { boot = boot; group = id }) past ∷ journals_from boot (suc id) more

abbrev pub journals_of : {S : Type 0} → World S → List History
journals_of w = journals_from w.boot 1 w.groups

unfoldable pub log_text : {S : Type 0} → World S → List ℕ
log_text w = journals_text (journals_of w)

module _ (service : Service) where
  -- THE LINES, one after the other

  abbrev pub Leads : World service.State → List Line → World service.State → Type 0
  Leads w [] v = v ≡ w
  Leads w (line ∷ more) v = (u : World service.State) × Plays service w line u × Leads u more v

  -- BEHIND THE LAST LINE, where nothing is printed

  -- connections that are there are lost, by rising name
  abbrev pub LosesIfOpen : World service.State → Peer → Standing → World service.State → Type 0
  LosesIfOpen w p Open v = Loses service w p v
  LosesIfOpen w p _ v = v ≡ w

  abbrev pub LosesAll : World service.State → List ℕ → World service.State → Type 0
  LosesAll w [] v = v ≡ w
  LosesAll w (c ∷ cs) v = (u : World service.State) × OfPeer service c w (λ p. LosesIfOpen w p p.standing u) × LosesAll u cs v

  -- and then running calls are finished, in the same order
  abbrev pub FinishesAll : World service.State → List ℕ → World service.State → Type 0
  FinishesAll w [] v = v ≡ w
  FinishesAll w (c ∷ cs) v =
      (u : World service.State) × OfPeer service c w (λ p. Finishes service c w p p.member p.unanswered w u) × FinishesAll u cs v

  abbrev pub Closes : World service.State → World service.State → Type 0
  Closes w v = (u : World service.State) × LosesAll w (names_of w) u × FinishesAll u (names_of u) v

  -- A SCRIPT

  -- the boot word stands in the first line
  abbrev pub PlaysTo : List Line → World service.State → Type 0
  PlaysTo (Boot word ∷ more) last = Leads (booted word service.start) more last
  PlaysTo _ last = ⊥

  -- the lines are those of a script
  abbrev pub IsReplay : List Line → Type 0
  IsReplay lines = (last : World service.State) × PlaysTo lines last

  pub record EndsAs (lines : List Line) (end : World service.State) : Type 0 where
    pub last : World service.State
    pub plays : PlaysTo lines last
    pub closes : Closes last end

  -- The text is a script's. What its lines print is on out, and the journals of its groups, which are legal and settled,
  -- on log.
  pub record Replays (text out log : List ℕ) : Type 0 where
    pub lines : List Line
    pub fits : FitLines lines
    pub written : text ≡ text_of_lines lines
    pub end : World service.State
    pub ends : EndsAs lines end
    pub printed : out ≡ out_text end.out
    pub logged : log ≡ log_text end
    pub sound : AllByRecursion IsSound (journals_of end)

  -- why a text is not replayed: a line departs, which is the first that does
  abbrev pub IsCause : List ℕ → ReplayFault → Type 0
  IsCause text (faults.Line n) = DepartsAt IsReplay n text
  IsCause text faults.Memory = ⊤

-- A text has one replay: what is printed and what is logged follow from its octets, where what the desks answer follows from
-- what they keep and what they are asked.
abbrev pub OneReplay : Service → Type 0
OneReplay service =
    IsDetermined service → (text out log out' log' : List ℕ) → Replays service text out log → Replays service text out' log' → (out ≡ out') × (log ≡ log')

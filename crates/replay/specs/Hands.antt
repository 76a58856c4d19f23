-- What a line does to a player while its connection is in hand.
use Rattle.std.specs.Prelude.{◌≡◌, ℕ, Bool, true, false, Option, Some, List}
use Rattle.ndr_table.specs.Tables.{TableForm}
use Rattle.group_core.specs.declared.answer.Taking.{Taking}
use Rattle.desk_service.specs.State.{Services}
use Rattle.replay_script.specs.declared.line.Line.{Line}
use Rattle.replay_world.specs.declared.peer.Member.{Member}
use Rattle.replay_world.specs.declared.peer.Unanswered.TheVariants.{Call}
use Rattle.replay_world.specs.declared.peer.Standing.{Standing}
use Rattle.replay_world.specs.declared.peer.Standing.TheVariants.{Open, Lost}
use Rattle.replay_world.specs.Worlds.{Peer, Printed, World, printing}
use Rattle.replay_world.specs.Plays as worlds
use Rattle.replay_world.specs.Plays.{OfPeer, TriedAs, GoesOnIfOpen, Finishes}
use Rattle.replay_world.specs.Replays.{LosesIfOpen}
use Rattle.replay_groups.specs.Service.{service_of}
use Rattle.replay_events.specs.declared.played.Played.{Played}
use Rattle.replay_events.specs.declared.player.Player.{Player}
use Rattle.replay_events.specs.Hands.{Leads}

-- a line is played
abbrev pub Does : Line → Option TableForm → World Services → World Services → Type 0
Does line echo w v = worlds.Plays (service_of echo) w line v

-- it is played on the connection in hand, or that one was lost
abbrev pub MayDo : Line → Bool → Player → Played → Player → Played → Type 0
MayDo line true x t y u = Leads (Does line) x t y u
MayDo line false x t y u = t.standing ≡ Lost

-- it is a member of no group, or has no accepted call
abbrev pub HasNoCall : Played → Type 0
HasNoCall t = (m : Member) (k : ℕ) → t.member ≡ Some m → t.unanswered ≡ Call k → ⊥

-- lines are printed
abbrev pub PrintsIn : List Printed → Option TableForm → World Services → World Services → Type 0
PrintsIn lines echo w v = v ≡ printing w lines

-- what follows on the trial of the connection's call
abbrev pub TriesIn : ℕ → Taking → Option TableForm → World Services → World Services → Type 0
TriesIn c answer echo w v = TriedAs (service_of echo) c w answer v

-- what follows on the end of a call, where the connection had this standing
abbrev pub FollowsIn : ℕ → Standing → Option TableForm → World Services → World Services → Type 0
FollowsIn c standing echo w v = GoesOnIfOpen (service_of echo) c w standing v

-- ---- a call that is to end

-- the connection's call ends, if it runs; and otherwise it is this
abbrev pub EndsOrElse : (World Services → World Services) → ℕ → Option TableForm → World Services → World Services → Type 0
EndsOrElse otherwise c echo w v = OfPeer (service_of echo) c w (λ p. Finishes (service_of echo) c w p p.member p.unanswered (otherwise w) v)

-- it ended, whatever else it could be; or it has none that runs, and nothing happened
abbrev pub MayEnd : Bool → Player → Played → Player → Played → Type 0
MayEnd true x t y u = (otherwise : World Services → World Services) → Leads (EndsOrElse otherwise t.name) x t y u
MayEnd false x t y u = (otherwise : World Services → World Services) → Leads (λ echo w v. EndsOrElse otherwise t.name echo w (otherwise w) × (v ≡ w)) x t y u

-- ---- a loss

-- a connection that is there is lost
abbrev pub LosesIfThere : ℕ → Option TableForm → World Services → World Services → Type 0
LosesIfThere c echo w v = OfPeer (service_of echo) c w (λ p. LosesIfOpen (service_of echo) w p p.standing v)

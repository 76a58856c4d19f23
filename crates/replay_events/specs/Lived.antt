-- An event has happened to a connection in hand, before its group knows of it.
use Rattle.std.specs.Prelude.{◌≡◌, ℕ, Bool, true, false, Option, Some, None, List, ⊤}
use Rattle.ndr_table.specs.Tables.{TableForm}
use Rattle.conn_asks.specs.declared.events.Act.{Act}
use Rattle.conn_histories.specs.Histories.{Decision, Event}
use Rattle.conn_histories.specs.Histories.Event.{Did, Decided}
use Rattle.conn_histories.specs.Histories.Decision.{RefuseGroup}
use Rattle.group_core.specs.declared.answer.Stage.{Stage}
use Rattle.group_core.specs.declared.answer.Stage.TheVariants.{Over}
use Rattle.desk_service.specs.State.{Services}
use Rattle.replay_world.specs.declared.peer.Standing.TheVariants.{Open}
use Rattle.replay_world.specs.Worlds.{World}
use Rattle.replay_world.specs.Events.{is_word_due, HappensOn, Rests}
use Rattle.replay_groups.specs.declared.binding.BindRefusal.{BindRefusal}
use Rattle.replay_groups.specs.declared.binding.BindRefusal.TheVariants.{Refused}
use Rattle.replay_groups.specs.Service.{service_of}
use Rattle.replay_events.specs.declared.played.Played.{Played}
use Rattle.replay_events.specs.Living.{Moment, Lives, Decides}
use Rattle.replay_events.specs.declared.player.Player.{Player}
use Rattle.replay_events.specs.Standing.{Handles}

abbrev pub moment_of : Player → Played → Moment
moment_of x t = record { played = t; totals = x.totals; out = x.out.items }

-- What the event answers is printed and counted, and all else stays.
pub record Lived (x : Player) (t : Played) (event : Event) (y : Player) (u : Played) : Type 0 where
  pub player : y ≡ record x { totals = y.totals; out = y.out }
  pub name : u.name ≡ t.name
  pub call : u.call ≡ t.call
  pub lives : Lives (moment_of x t) event (moment_of y u)

-- The same for what the server decides, with whatever is answered.
pub record LivedWord (x : Player) (t : Played) (decision : Decision) (y : Player) (u : Played) : Type 0 where
  pub player : y ≡ record x { totals = y.totals; out = y.out }
  pub name : u.name ≡ t.name
  pub call : u.call ≡ t.call
  pub decides : Decides (moment_of x t) decision (moment_of y u)

-- a bind is refused for the reason that its group gave
abbrev pub RefusesBind : BindRefusal → Player → Played → Player → Played → Type 0
RefusesBind refusal x t y u = (reason : ℕ) × (refusal ≡ Refused reason) × LivedWord x t (RefuseGroup reason) y u

-- It happened in this world, where no word of the server was due.
pub record Midway (echo : Option TableForm) (event : Event) (y : Player) (u : Played) (w : World Services) : Type 0 where
  pub before : Player
  pub was : Played
  pub hand : Handles echo before was w
  pub is_open : was.standing ≡ Open
  pub quiet : is_word_due w was.member was.unanswered ≡ false
  pub lived : Lived before was event y u

abbrev pub IsMidway : Event → Player → Played → Type 0
IsMidway event y u = (echo : Option TableForm) × (w : World Services) × Midway echo event y u w

-- the act means this to its group
abbrev pub Means : Act → Player → Played → Player → Played → Type 0
Means act y u z s =
    (s.name ≡ u.name)
    × ((echo : Option TableForm) (w : World Services) → Midway echo (Did act) y u w
    → (v : World Services) × HappensOn (service_of echo) u.name w (Did act) v × Handles echo z s v)

-- a decision of the server
abbrev pub DecidesIn : ℕ → Option TableForm → World Services → World Services → Type 0
DecidesIn c echo w v = (decision : Decision) × (octets : List ℕ) × HappensOn (service_of echo) c w (Decided decision octets) v

abbrev pub IsStep : Event → Type 0
IsStep (Did act) = ⊤
IsStep (Decided decision octets) = ⊤
IsStep _ = ⊥

-- an act or a decision, or nothing for now
abbrev pub StepsIn : ℕ → Bool → Option TableForm → World Services → World Services → Type 0
StepsIn c true echo w v = (event : Event) × IsStep event × HappensOn (service_of echo) c w event v
StepsIn c false echo w v = Rests (service_of echo) c w v

-- a call at that stage is over
abbrev pub is_end : Stage → Bool
is_end Over = true
is_end _ = false

-- the server's word is due
abbrev pub IsDue : Player → Played → Bool → Type 0
IsDue x t due = (echo : Option TableForm) (w : World Services) → Handles echo x t w → is_word_due w t.member t.unanswered ≡ due

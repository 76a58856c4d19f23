-- What a player comes to by one thing that is done on a connection.
use Rattle.std.specs.Prelude.{◌≡◌, ℕ, ◌++◌, ◌||◌, Bool, true, false, Option, Some, None, Result, Ok, Err, List, slice_get, slice_set, ◌⊎◌}
use Rattle.ndr_value.specs.declared.value.Message.{Message}
use Rattle.ndr_value.specs.Values.{msg}
use Rattle.client_core.specs.declared.told.Told.{Told}
use Rattle.client_core.specs.Calls.{IsMessage}
use Rattle.client_core.specs.States.{Outcome, told, is_calling}
use Rattle.client_core.specs.State.{state}
use Rattle.client_texts.specs.Answers.{IsLine}
use Rattle.client_script.specs.declared.channel.Channel.{Channel}
use Rattle.client_script.specs.declared.channel.Halt.{Halt}
use Rattle.client_script.specs.declared.channel.Halt.TheVariants as halts
use Rattle.client_script.specs.declared.player.Player.{Player}
use Rattle.client_script.specs.declared.player.Stop.{Stop}
use Rattle.client_script.specs.declared.player.Stop.TheVariants as stops
use Rattle.client_script.specs.Steps.{HasOp, IsRequestOf, BarsCall, known_with, is_failure}
use Rattle.client_script.specs.Losses.{lost_text}
use Rattle.client_script.specs.Shows.{IsBoundAs, IsNowhere}

module _ {K : Type 0} where
  -- The connection at that place has no call out, and the text is that of a message of the operation of that name.
  pub record CanStart (p : Player K) (at : ℕ) (name text : List ℕ) (op : ℕ) (m : Message) : Type 0 where
    pub channel : Channel K
    pub there : slice_get p.channels.items at ≡ Some channel
    pub free : is_calling (state channel.wire.client) ≡ false
    pub has_op : HasOp (state channel.wire.client).interface op name
    pub request : IsRequestOf (state channel.wire.client).interface op p.known (msg m) text
    pub message : IsMessage (state channel.wire.client).interface op (msg m)

  -- what bars a call on the connection at that place
  abbrev pub BarsAt : Player K → ℕ → List ℕ → List ℕ → Type 0
  BarsAt p at name text = (c : Channel K) × (slice_get p.channels.items at ≡ Some c) × BarsCall (state c.wire.client) p.known name text

  abbrev pub HasAt : Player K → ℕ → (Channel K → Type 0) → Type 0
  HasAt p at P = (c : Channel K) × (slice_get p.channels.items at ≡ Some c) × P c

  -- the channel at that place becomes another, and nothing else changes
  pub record Touches (old : Player K) (at : ℕ) (R : Channel K → Channel K → Type 0) (new : Player K) : Type 0 where
    pub before : Channel K
    pub after : Channel K
    pub there : slice_get old.channels.items at ≡ Some before
    pub becomes : R before after
    pub named : after.name ≡ before.name
    pub channels : new.channels.items ≡ slice_set old.channels.items at after
    pub others : new ≡ record old { channels = new.channels }

  -- the connection at that place is bound by that name and has a call out
  pub record IsCalling (p : Player K) (name at : ℕ) : Type 0 where
    pub channel : Channel K
    pub there : slice_get p.channels.items at ≡ Some channel
    pub bound : IsBoundAs name channel
    pub calling : is_calling (state channel.wire.client) ≡ true

  -- none of that name is bound, or one is that has no call out
  abbrev pub IsIdle : Player K → ℕ → Type 0
  IsIdle p name = IsNowhere name p.channels.items ⊎ ((at : ℕ) × (c : Channel K) × (slice_get p.channels.items at ≡ Some c) × IsBoundAs name c × (is_calling (state c.wire.client) ≡ false))

  -- the connection isn't bound whose group a bind asks for
  abbrev pub AsksNone : Player K → Option ℕ → Type 0
  AsksNone p group = (other : ℕ) × (group ≡ Some other) × IsNowhere other p.channels.items

  -- the group that a bind asks for
  abbrev pub AsksOf : Player K → Option ℕ → ℕ → Type 0
  AsksOf p None group = group ≡ 0
  AsksOf p (Some other) group = (at : ℕ) × (c : Channel K) × (slice_get p.channels.items at ≡ Some c) × IsBoundAs other c × (group ≡ c.group)

  -- the connection at that place is lost, and that is told where it has a call out
  pub record TellsLost (old : Player K) (name at : ℕ) (new : Player K) : Type 0 where
    pub channel : Channel K
    pub there : slice_get old.channels.items at ≡ Some channel
    pub out : new.out.items ≡ old.out.items ++ lost_text name (is_calling (state channel.wire.client))
    pub others : new ≡ record old { out = new.out }

  -- an outcome is told
  pub record TellsOutcome (old : Player K) (name : ℕ) (outcome : Outcome) (new : Player K) : Type 0 where
    pub line : List ℕ
    pub is_line : IsLine (known_with old.known outcome) name outcome line
    pub known : new.known ≡ known_with old.known outcome
    pub out : new.out.items ≡ old.out.items ++ line
    pub failed : new.failed ≡ (old.failed || is_failure outcome)
    pub channels : new.channels ≡ old.channels
    pub places : new.places ≡ old.places

  -- it is told, unless memory ran out
  abbrev pub LosesAt : Player K → ℕ → ℕ → Stop → Player K → Type 0
  LosesAt old name at stops.Lost new = TellsLost old name at new
  LosesAt old name at stops.Memory new = new.channels ≡ old.channels
  LosesAt old name at stops.Dial new = ⊥

  -- the same where that came to nothing
  abbrev pub StopsBy : Player K → ℕ → ℕ → Halt → Stop → Player K → Type 0
  StopsBy old name at halt stops.Lost new = (halt ≡ halts.Lost) × TellsLost old name at new
  StopsBy old name at halt stops.Memory new = new.channels ≡ old.channels
  StopsBy old name at halt stops.Dial new = ⊥

  abbrev pub Unbegun : Player K → ℕ → ℕ → Halt → Result Bool Stop → Player K → Type 0
  Unbegun old name at halt (Ok true) new = ⊥
  Unbegun old name at halt (Ok false) new = (halt ≡ halts.TooLong) × (new ≡ old)
  Unbegun old name at halt (Err why) new = StopsBy old name at halt why new

  -- what came of a wait is told
  abbrev pub Answered : Player K → ℕ → ℕ → Result Told Halt → Result Unit Stop → Player K → Type 0
  Answered old name at answer (Ok _) new = (t : Told) × (answer ≡ Ok t) × TellsOutcome old name (told t) new
  Answered old name at answer (Err stops.Lost) new = (answer ≡ Err halts.Lost) × TellsLost old name at new
  Answered old name at answer (Err stops.Memory) new = new.channels ≡ old.channels
  Answered old name at answer (Err stops.Dial) new = ⊥

  -- what came of a beginning
  abbrev pub Begun : Player K → ℕ → ℕ → Result Unit Halt → Result Bool Stop → Player K → Type 0
  Begun old name at begun (Ok true) new = (begun ≡ Ok tt) × (new ≡ old)
  Begun old name at begun (Ok false) new = (begun ≡ Err halts.TooLong) × (new ≡ old)
  Begun old name at begun (Err stops.Lost) new = (begun ≡ Err halts.Lost) × TellsLost old name at new
  Begun old name at begun (Err stops.Memory) new = new.channels ≡ old.channels
  Begun old name at begun (Err stops.Dial) new = ⊥

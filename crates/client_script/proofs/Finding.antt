-- The channel that is bound by a name.
use Rattle.std.proofs.Common.{◌≡◌, ℕ, ◌<◌, ◌==◌, ◌&&◌, Bool, true, false, inr, Some, Ok, Err, Result, List, ◌++◌, length, refl, sym, ap, ◌∙◌, subst}
use Rattle.std.specs.Prelude.{slice_get, slice_index_or}
use Rattle.std.proofs.lemmas.Bool.{false≢true, eqb-true, eq-eqb}
use Rattle.ndr_value.specs.declared.value.Message.{Message}
use Rattle.ndr_value.specs.Values.{msg}
use Rattle.client_core.specs.Calls.{IsMessage}
use Rattle.client_core.specs.States.{is_bound, is_calling}
use Rattle.client_core.specs.State.{state}
use Rattle.client_core.specs.declared.told.Told.{Told}
use Rattle.client_script.specs.declared.channel.Channel.{Channel}
use Rattle.client_script.specs.declared.channel.Halt.{Halt}
use Rattle.client_script.specs.declared.channel.Halt.TheVariants as halts
use Rattle.client_script.specs.declared.player.Stop.{Stop}
use Rattle.client_script.specs.declared.player.Stop.TheVariants as stops
use Rattle.client_script.specs.declared.player.Player.{Player}
use Rattle.client_script.specs.Losses.{lost_text}
use Rattle.client_script.specs.Shows.{IsBoundAs, IsThere}
use Rattle.client_script.specs.Steps.{HasOp, IsRequestOf, BarsCall}
use Rattle.client_script.specs.Players.{CanStart, BarsAt, IsCalling, AsksOf, TellsLost, LosesAt, StopsBy, Unbegun, Answered, Begun, IsIdle}
use Rattle.client_script.proofs.Lists.{is_within, read_there}

both : (a b : Bool) → true ≡ (a && b) → (a ≡ true) × (b ≡ true)
both true true h = (refl, refl)
both true false h = absurd (false≢true (sym h))
both false b h = absurd (false≢true (sym h))

neither : (a b : Bool) → false ≡ (a && b) → a ≡ true → b ≡ true → ⊥
neither true true h e f = false≢true h
neither true false h e f = false≢true f
neither false b h e f = false≢true e

module _ {K : Type 0} where
  pub is_bound_as : (c : Channel K) (name : ℕ) → true ≡ (((c.name == name) && c.is_open) && is_bound (state c.wire.client)) → IsBoundAs name c
  is_bound_as c name h =
      let x = both ((c.name == name) && c.is_open) (is_bound (state c.wire.client)) h in
      let y = both (c.name == name) c.is_open (sym x.0) in
      record { named = eqb-true c.name name y.0; is_open = y.1; bound = x.1 }

  pub not_bound_as : (c : Channel K) (name : ℕ) → false ≡ (((c.name == name) && c.is_open) && is_bound (state c.wire.client)) → IsBoundAs name c → ⊥
  not_bound_as c name h b =
      let front : ((c.name == name) && c.is_open) ≡ true = ap (λ (x : Bool). x && c.is_open) (eq-eqb c.name name b.named) ∙ b.is_open in
      neither ((c.name == name) && c.is_open) (is_bound (state c.wire.client)) h front b.bound

  -- ---- what is read of the one that is found

  pub tells_lost : (old new : Player K) (name at : ℕ) (d : Channel K) (called : Bool) → at < length old.channels.items → d ≡ slice_index_or old.channels.items at d → called ≡ is_calling (state d.wire.client)
      → new.out.items ≡ old.out.items ++ lost_text name called → new ≡ record old { out = new.out } → TellsLost old name at new
  tells_lost old new name at d called within e c out others = record { channel = d; there = read_there old.channels.items at d within e; out = out ∙ ap (λ (b : Bool). old.out.items ++ lost_text name b) c; others = others }

  same_read : (cs : List (Channel K)) (at : ℕ) (c d : Channel K) → slice_get cs at ≡ Some c → d ≡ slice_index_or cs at d → c ≡ d
  same_read cs at c d there e = let here : Some c ≡ Some d = sym there ∙ read_there cs at d (is_within cs at c there) e in cc

  pub is_called : (p : Player K) (name at : ℕ) (d : Channel K) → IsThere name p.channels.items at → d ≡ slice_index_or p.channels.items at d → true ≡ is_calling (state d.wire.client) → IsCalling p name at
  is_called p name at d there e c =
      let same = same_read p.channels.items at there.0 d there.1 e in
      record { channel = there.0; there = there.1; bound = there.2; calling = subst (λ (x : Channel K). is_calling (state x.wire.client) ≡ true) (sym same) (sym c) }

  pub idle_there : (p : Player K) (name at : ℕ) (d : Channel K) → IsThere name p.channels.items at → d ≡ slice_index_or p.channels.items at d → false ≡ is_calling (state d.wire.client) → IsIdle p name
  idle_there p name at d there e c =
      let same = same_read p.channels.items at there.0 d there.1 e in
      inr (at, there.0, there.1, there.2, subst (λ (x : Channel K). is_calling (state x.wire.client) ≡ false) (sym same) (sym c))

  -- ---- what comes to nothing

  pub stops_lost : (old : Player K) (name at : ℕ) (halt : Halt) (why : Stop) (new : Player K) → halt ≡ halts.Lost → LosesAt old name at why new → StopsBy old name at halt why new
  stops_lost old name at halt stops.Lost new e h = (e, h)
  stops_lost old name at halt stops.Memory new e h = h
  stops_lost old name at halt stops.Dial new e h = h

  pub answered_not : (old : Player K) (name at : ℕ) (answer : Result Told Halt) (halt : Halt) (why : Stop) (new : Player K) → answer ≡ Err halt → StopsBy old name at halt why new → Answered old name at answer (Err why) new
  answered_not old name at answer halt stops.Lost new e h = (e ∙ ap Err h.0, h.1)
  answered_not old name at answer halt stops.Memory new e h = h
  answered_not old name at answer halt stops.Dial new e h = h

  pub begun_not : (old : Player K) (name at : ℕ) (begun : Result Unit Halt) (halt : Halt) (result : Result Bool Stop) (new : Player K) → begun ≡ Err halt → Unbegun old name at halt result new → Begun old name at begun result new
  begun_not old name at begun halt (Ok true) new e h = absurd h
  begun_not old name at begun halt (Ok false) new e h = (e ∙ ap Err h.0, h.1)
  begun_not old name at begun halt (Err stops.Lost) new e h = (e ∙ ap Err h.0, h.1)
  begun_not old name at begun halt (Err stops.Memory) new e h = h
  begun_not old name at begun halt (Err stops.Dial) new e h = h

  pub asks_of : (p : Player K) (other at : ℕ) (d : Channel K) → IsThere other p.channels.items at → d ≡ slice_index_or p.channels.items at d → AsksOf p (Some other) d.group
  asks_of p other at d there e = let same = same_read p.channels.items at there.0 d there.1 e in (at, there.0, there.1, there.2, ap (λ (x : Channel K). x.group) (sym same))

  pub can_start : (p : Player K) (at : ℕ) (name text : List ℕ) (op : ℕ) (m : Message) (d : Channel K) → at < length p.channels.items → d ≡ slice_index_or p.channels.items at d → false ≡ is_calling (state d.wire.client)
      → HasOp (state d.wire.client).interface op name → IsRequestOf (state d.wire.client).interface op p.known (msg m) text × IsMessage (state d.wire.client).interface op (msg m) → CanStart p at name text op m
  can_start p at name text op m d within e free op_is m_is =
      record { channel = d; there = read_there p.channels.items at d within e; free = sym free; has_op = op_is; request = m_is.0; message = m_is.1 }

  pub bars_at : (p : Player K) (at : ℕ) (name text : List ℕ) (d : Channel K) → at < length p.channels.items → d ≡ slice_index_or p.channels.items at d → BarsCall (state d.wire.client) p.known name text → BarsAt p at name text
  bars_at p at name text d within e bars = (d, read_there p.channels.items at d within e, bars)

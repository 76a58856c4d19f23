-- Turns that are over while their connection goes on.
use Rattle.std.specs.Prelude.{◌≡◌, false, ⊤}
use Rattle.conn_histories.specs.declared.turn.Turn.{Turn}
use Rattle.conn_histories.specs.declared.turn.Turn.TheVariants.{Binding, Called}
use Rattle.conn_histories.specs.Entries.{deed_open, deed_runs}
use Rattle.conn_turns.specs.AnswerLaws.{IsRequestOver}

-- a turn that is over, with no call that is open or runs
abbrev pub IsDone : Turn → Type 0
IsDone (Binding asked) = ⊥
IsDone (Called r) = IsRequestOver r.offs r.deed r.answer × (deed_open r.deed ≡ false) × (deed_runs r.deed ≡ false)
IsDone _ = ⊤

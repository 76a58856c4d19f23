-- What entering a mark does to a pass.
use Rattle.std.specs.Prelude.{◌≡◌, ◌++◌, ◌∷◌, [], List, length, Option}
use Rattle.atomic_table.specs.declared.shared.Seat.{Seat}
use Rattle.turn_lock.specs.declared.views.View.{View}
use Rattle.turn_lock.specs.Passes.{front, own}
use Rattle.lock_tests.specs.declared.register.Mark.{Mark}
use Rattle.lock_tests.specs.declared.register.Register.{Register}

abbrev pub RegisterPass : Type 0
RegisterPass = Seat (Option Register) (View Mark)

-- the mark stands behind what had been seen and what others entered since, at the pass's one new own place
abbrev pub Enters : RegisterPass → Mark → RegisterPass → Type 0
Enters before mark now = (between : List Mark)
    × (front now ≡ (front before ++ between) ++ mark ∷ [])
    × (own now ≡ own before ++ length (front before ++ between) ∷ [])

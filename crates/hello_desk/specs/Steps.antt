-- What the operations of hello do: the state is how many guests there are, and a handle's cookie how many of them it stands for.
use Rattle.std.specs.Prelude.{ℕ, ◌+◌, ◌-◌, ◌==◌, nat_le, Bool, [], ◌∷◌, Option, Some, None, if◌then◌else◌}
use Rattle.manager_api.specs.declared.answer.Kept.TheVariants.{Cookie, Null}
use Rattle.manager_api.specs.Answers.{Ans, Step, AOut}
use Rattle.manager_api.specs.Arguments.{uint_at, cookie_at}
use Rattle.manager_api.specs.Responses.{handle_and_status}
use Rattle.manager_api.specs.Calls.{Call}

-- the room has room for 100
abbrev pub has_room : ℕ → ℕ → Bool
has_room guests more = nat_le more (100 - guests)

abbrev pub entered : ℕ → ℕ → ℕ
entered guests more = if has_room guests more then guests + more else guests

abbrev pub left : ℕ → ℕ → ℕ
left guests some = guests - some

-- a handle that came as null stands for nobody
abbrev pub without : Option ℕ → ℕ → ℕ
without None guests = guests
without (Some cookie) guests = left guests cookie

-- ---- answers

-- a handle and status 0, or no handle and status 1
abbrev pub entering : ℕ → ℕ → Ans
entering guests more =
    if has_room guests more then AOut (handle_and_status 0) (Cookie more ∷ []) else AOut (handle_and_status 1) (Null ∷ [])

abbrev pub leaving : Ans
leaving = AOut (handle_and_status 0) (Null ∷ [])

-- ---- a call

abbrev pub enter_step : ℕ → ℕ → Step ℕ
enter_step guests more = record { answer = entering guests more; next = entered guests more }

abbrev pub leave_step : ℕ → Option ℕ → Step ℕ
leave_step guests cookie = record { answer = leaving; next = without cookie guests }

abbrev pub hello_step : ℕ → Call → Step ℕ
hello_step guests c = if c.op == 0 then enter_step guests (uint_at c.message 0) else leave_step guests (cookie_at c.cookies 0)

-- What the probe does: its state is the number of its handles, of those issued and neither closed nor run down.
use Rattle.std.specs.Prelude.{ℕ, ◌==◌, Bool, [], ◌∷◌, Option, if◌then◌else◌}
use Rattle.ndr_value.specs.Values.{Msg}
use Rattle.manager_api.specs.declared.answer.Kept.TheVariants.{Cookie, Null}
use Rattle.manager_api.specs.Answers.{Step, AOut, cancelled}
use Rattle.manager_api.specs.Arguments.{uint_at, cookie_at}
use Rattle.manager_api.specs.Responses.{handle_and_status}
use Rattle.manager_api.specs.Calls.{Call}
use Rattle.manager_api.specs.Handles.{one_more, without}

-- the first argument is the cookie of the handle that is issued
abbrev pub opened : ℕ → Msg → Step ℕ
opened handles m = record { answer = AOut (handle_and_status 0) (Cookie (uint_at m 0) ∷ []); next = one_more handles }

abbrev pub open_step : ℕ → Msg → Bool → Step ℕ
open_step handles m told = if told then record { answer = cancelled; next = handles } else opened handles m

abbrev pub close_step : ℕ → Option ℕ → Step ℕ
close_step handles cookie = record { answer = AOut (handle_and_status 0) (Null ∷ []); next = without cookie handles }

-- a call, and whether its probe told of a cancel
abbrev pub probe_step : ℕ → Call → Bool → Step ℕ
probe_step handles c told = if c.op == 0 then open_step handles c.message told else close_step handles (cookie_at c.cookies 0)

-- The status of `serve`, where nothing outside failed.
use Rattle.std.specs.Prelude.{ℕ, Bool, true, false, if◌then◌else◌, List}
use Rattle.std.specs.List.{list_any, list_all}
use Rattle.server_ends.specs.declared.ended.Ending.{Ending}
use Rattle.server_ends.specs.declared.ended.Ending.TheVariants.{Closed, Memory}

abbrev pub is_closed : Ending → Bool
is_closed Closed = true
is_closed _ = false

abbrev pub is_memory : Ending → Bool
is_memory Memory = true
is_memory _ = false

-- memory ran out on a connection; or each ended behind a whole PDU; or one didn't
abbrev pub status_by : List Ending → ℕ
status_by whys = if list_any is_memory whys then 5 else (if list_all is_closed whys then 0 else 8)

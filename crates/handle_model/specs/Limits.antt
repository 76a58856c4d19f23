-- When a group takes no further connection, and no further call.
use Rattle.std.specs.Prelude.{ℕ, ◌+◌, ◌^◌, Bool, ◌||◌, nat_le, nat_lt, Option, Some, None, if◌then◌else◌, List, [], ◌∷◌, length, filter}
use Rattle.handle_model.specs.declared.entry.Slot.{Slot}
use Rattle.handle_model.specs.declared.limits.AcceptLimit.{AcceptLimit}
use Rattle.handle_model.specs.declared.limits.AcceptLimit.TheVariants as accept
use Rattle.handle_model.specs.declared.limits.JoinLimit.{JoinLimit}
use Rattle.handle_model.specs.declared.limits.JoinLimit.TheVariants as join
use Rattle.handle_model.specs.Slots.{opens}
use Rattle.handle_model.specs.Since.{History}
use Rattle.handle_model.specs.Calls.{join_count, conns, accept_count, slots, waiting, running}
use Rattle.handle_model.specs.Handles.{opened, live}

-- why a further connection is not taken: so many are open, and this would be its number
abbrev pub join_limit_at : ℕ → ℕ → Option JoinLimit
join_limit_at count number = if nat_le 64 count then Some join.TooMany else (if nat_le (2 ^ 32) number then Some join.Numbers else None)

-- a call's number or its last serial passes 32 bits
abbrev pub is_numbered_out : ℕ → ℕ → Bool
is_numbered_out number last = nat_le (2 ^ 32) number || nat_le (2 ^ 32) last

-- why a further call is not accepted: so many wait or run, so many handles are live or may yet be issued, and these would be
-- its number and its last serial
abbrev pub accept_limit_at : ℕ → ℕ → ℕ → ℕ → Option AcceptLimit
accept_limit_at calls handles number last =
    if nat_le 256 calls then Some accept.Calls
    else (if nat_lt 65536 handles then Some accept.Handles else (if is_numbered_out number last then Some accept.Numbers else None))

-- IN A JOURNAL

abbrev pub join_limit : History → Option JoinLimit
join_limit j = join_limit_at (length (conns j)) (join_count j + 1)

-- how many handles these calls may issue
abbrev pub openings : History → List ℕ → ℕ
openings j [] = 0
openings j (k ∷ ks) = length (filter opens (slots j k)) + openings j ks

-- for a call with these slots
abbrev pub accept_limit : History → List Slot → Option AcceptLimit
accept_limit j new =
    accept_limit_at (length (waiting j) + length (running j))
    (length (live j) + openings j (waiting j) + openings j (running j) + length (filter opens new))
    (accept_count j + 1) (opened j + length (filter opens new))

-- What sockets count and tell.
use Rattle.std.specs.Prelude.{ℕ, ◌<◌, ◌≤◌, None, Result, Ok}
use Rattle.rpc_base.specs.declared.fault.Failed.{Failed}
use Rattle.rpc_outside.specs.declared.link.Taken.{Taken}
use Rattle.rpc_outside.specs.declared.link.Taken.TheVariants.{Bytes}
use Rattle.rpc_outside.specs.Links.{Shown}
use Rattle.rpc_outside.specs.Doors.{DoorShown}
use Rattle.rpc_outside.specs.Dials.{DialShown}
use Rattle.base_system.specs.declared.link.SocketLink.{SocketLink}

-- a link over a socket counts, and doesn't tell what it holds
abbrev pub shown : SocketLink → Shown
shown link = record {
  faults = link.faults;
  quiets = link.quiets;
  ends = link.ends;
  taken = None;
  left = None;
  put = None;
  put_at_end = None;
  closed = link.closed;
}

-- so does a door
abbrev pub door_shown : {L : Type 0} → ℕ → ℕ → DoorShown L
door_shown faults closings = record { faults = faults; closings = closings; listens = None; to_come = None; back = None; out = None }

abbrev pub dial_shown : {L : Type 0} → ℕ → DialShown L
dial_shown faults = record { faults = faults; dialled = None; back = None; out = None }

-- a number of octets, of so many: at least one
abbrev pub IsSome : ℕ → ℕ → Type 0
IsSome most count = (0 < count) × (count ≤ most)

abbrev pub Gives : ℕ → Result Taken Failed → Type 0
Gives most (Ok (Bytes count)) = IsSome most count
Gives most _ = Unit {0}

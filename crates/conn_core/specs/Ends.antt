-- What stays once a connection has ended.
use Rattle.std.specs.Prelude.{◌≡◌, Option, None, Result, Ok, Err}
use Rattle.rpc_base.specs.declared.fault.NoMemory.{NoMemory}
use Rattle.conn_asks.specs.declared.events.Act.{Act}
use Rattle.conn_asks.specs.declared.events.Waits.TheVariants.{Over, Failed}
use Rattle.conn_asks.specs.States.{ConnState, Goes}

-- After a close no act follows, and nothing changes.
abbrev pub ClosedForGood : Type 0
ClosedForGood = (m n : ConnState) (answer : Result (Option Act) NoMemory) → m.waits ≡ Over → Goes m answer n → (answer ≡ Ok None) × (n ≡ m)

-- After want of memory nothing but that is answered.
abbrev pub FailedForGood : Type 0
FailedForGood =
    (m n : ConnState) (answer : Result (Option Act) NoMemory) → m.waits ≡ Failed → Goes m answer n → (e : NoMemory) × (answer ≡ Err e) × (n.waits ≡ Failed)

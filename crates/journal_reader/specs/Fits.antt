-- The values that have a text: their numbers are in their ranges.
use Rattle.std.specs.Prelude.{◌≡◌, ℕ, ◌^◌, ◌<◌, Bool, false, Option, Some, None, List, []}
use Rattle.std.specs.List.{AllByRecursion}
use Rattle.hex.specs.Hex.{IsBytes}
use Rattle.rpc_base.specs.declared.identifiers.WireHandle.{WireHandle}
use Rattle.handle_model.specs.declared.entry.Home.{Home}
use Rattle.handle_model.specs.declared.entry.Slot.{Slot}
use Rattle.handle_model.specs.declared.entry.Slot.TheVariants.{Shares, Holds, Changes, Opens}
use Rattle.handle_model.specs.declared.entry.Outcome.{Outcome}
use Rattle.handle_model.specs.declared.entry.Outcome.TheVariants.{Keep, Close, Issue, Nothing}
use Rattle.handle_model.specs.declared.entry.Asked.{Asked}
use Rattle.handle_model.specs.declared.entry.Said.{Said}
use Rattle.handle_model.specs.declared.entry.Said.TheVariants.{Out, Fault}
use Rattle.handle_model.specs.declared.entry.Entry.{Entry}
use Rattle.handle_model.specs.declared.entry.Entry.TheVariants.{Join, Accept, Take, Deny, Cancel, Orphan, End, Leave, Shut}
use Rattle.handle_model.specs.declared.entry.DueItem.{DueItem}
use Rattle.handle_model.specs.declared.base.BaseCall.{BaseCall}
use Rattle.handle_model.specs.declared.base.Base.{Base}

abbrev pub FitsWire : WireHandle → Type 0
FitsWire w = (w.attributes < 2 ^ 32) × (w.id < 2 ^ 128)

abbrev pub FitsSlot : Slot → Type 0
FitsSlot (Shares kind w) = (kind < 2 ^ 32) × FitsWire w
FitsSlot (Holds kind w) = (kind < 2 ^ 32) × FitsWire w
FitsSlot (Changes kind w) = (kind < 2 ^ 32) × FitsWire w
FitsSlot (Opens kind serial) = (kind < 2 ^ 32) × (serial < 2 ^ 32)

-- a serial with its cookie
abbrev pub FitsIssue : ℕ × ℕ → Type 0
FitsIssue x = (x.0 < 2 ^ 32) × (x.1 < 2 ^ 64)

abbrev pub FitsOutcome : Outcome → Type 0
FitsOutcome (Keep cookie) = cookie < 2 ^ 64
FitsOutcome Close = Unit {0}
FitsOutcome (Issue serial cookie) = FitsIssue (serial, cookie)
FitsOutcome Nothing = Unit {0}

abbrev pub FitsCookie : Option ℕ → Type 0
FitsCookie None = Unit {0}
FitsCookie (Some cookie) = cookie < 2 ^ 64

abbrev pub FitsDue : DueItem → Type 0
FitsDue d = (d.serial < 2 ^ 32) × (d.kind < 2 ^ 32) × (d.cookie < 2 ^ 64)

abbrev pub FitsSaid : Said → Type 0
FitsSaid (Out stub) = IsBytes stub
FitsSaid (Fault status) = status.0 < 2 ^ 32

-- whatever it is
abbrev pub FitsAlways : {X : Type 0} → X → Type 0
FitsAlways x = Unit {0}

-- the numbers of an interface and of its operation
abbrev pub FitsOperation : ℕ × ℕ → Type 0
FitsOperation x = (x.0 < 2 ^ 16) × (x.1 < 2 ^ 16)

abbrev pub FitsAsked : Asked → Type 0
FitsAsked a = (a.conn < 2 ^ 32) × FitsOperation (a.iface, a.op) × AllByRecursion FitsSlot a.slots × IsBytes a.stub

abbrev pub FitsAccept : ℕ × Asked → Type 0
FitsAccept x = (x.0 < 2 ^ 32) × FitsAsked x.1

abbrev pub FitsTake : ℕ × List (Option ℕ) → Type 0
FitsTake x = (x.0 < 2 ^ 32) × AllByRecursion FitsCookie x.1

abbrev pub FitsDeny : ℕ × ℕ → Type 0
FitsDeny x = (x.0 < 2 ^ 32) × (x.1 < 2 ^ 8)

abbrev pub FitsEnd : ℕ × List Outcome × Said → Type 0
FitsEnd x = (x.0 < 2 ^ 32) × AllByRecursion FitsOutcome x.1 × FitsSaid x.2

abbrev pub FitsEntry : Entry → Type 0
FitsEntry (Join conn) = conn < 2 ^ 32
FitsEntry (Accept call asked) = FitsAccept (call, asked)
FitsEntry (Take call cookies) = FitsTake (call, cookies)
FitsEntry (Deny call slot) = FitsDeny (call, slot)
FitsEntry (Cancel call) = call < 2 ^ 32
FitsEntry (Orphan call) = call < 2 ^ 32
FitsEntry (End call results said) = FitsEnd (call, results, said)
FitsEntry (Leave conn) = conn < 2 ^ 32
FitsEntry (Shut items) = AllByRecursion FitsDue items

-- WHAT BEGINS A JOURNAL

abbrev pub FitsHome : Home → Type 0
FitsHome home = (home.group < 2 ^ 32) × (home.boot < 2 ^ 64)

-- a base stands for one entry at least
abbrev pub FitsCount : ℕ → Type 0
FitsCount n = (0 < n) × (n < 2 ^ 63)

abbrev pub FitsConn : ℕ → Type 0
FitsConn c = c < 2 ^ 32

-- a base without its calls
abbrev pub FitsBase : Base → Type 0
FitsBase b =
    FitsCount b.count × (b.joins < 2 ^ 32) × (b.accepts < 2 ^ 32) × (b.opens < 2 ^ 32) × AllByRecursion FitsConn b.conns
    × AllByRecursion FitsDue b.handles × (b.calls ≡ [])

-- a call that was not taken has neither mark
abbrev pub FitsStage : Bool × Bool × Bool → Type 0
FitsStage x = x.0 ≡ false → (x.1 ≡ false) × (x.2 ≡ false)

abbrev pub FitsCalled : Asked × (Bool × Bool × Bool) → Type 0
FitsCalled x = FitsAsked x.0 × FitsStage x.1

abbrev pub FitsCall : BaseCall → Type 0
FitsCall c = (c.call < 2 ^ 32) × FitsCalled (c.asked, (c.taken, c.cancelled, c.orphaned))

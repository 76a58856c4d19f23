-- What is said of a journal, whose entries come oldest first.
use Rattle.std.specs.Prelude.{◌≡◌, ℕ, ◌-◌, ◌≤◌, true, false, Some, None, Option, List, length, take, slice_get}
use Rattle.handle_model.specs.declared.entry.Home.{Home}
use Rattle.handle_model.specs.declared.entry.Entry.{Entry}
use Rattle.handle_model.specs.declared.base.Base.{Base}
use Rattle.handle_model.specs.History.{History, history_of, size}
use Rattle.handle_model.specs.Journal.{Legal, Allowed, due}
use Rattle.journal_audit.specs.declared.verdict.Verdict.{Verdict}
use Rattle.journal_audit.specs.declared.verdict.Verdict.TheVariants as verdicts

-- the entry there is not allowed, or there is none and a Shut is due
abbrev pub IsBreach : History → Option Entry → Type 0
IsBreach j None = due j ≡ true
IsBreach j (Some entry) = ¬ Allowed j entry

-- so many entries are legal, and what is there then is a breach
abbrev pub BreachAt : Home → Base → List Entry → ℕ → Type 0
BreachAt home base entries n =
    let j = history_of home base (take n entries) in (n ≤ length entries) × Legal j × IsBreach j (slice_get entries n)

-- a journal is legal and settled, or a place is the first at which it is neither; places count from the base's count
abbrev pub TellsVerdict : Home → Base → List Entry → Verdict → Type 0
TellsVerdict home base entries (verdicts.Legal n) =
    let j = history_of home base entries in (n ≡ size j) × Legal j × (due j ≡ false)
TellsVerdict home base entries (verdicts.Breach place) = (base.count ≤ place) × BreachAt home base entries (place - base.count)

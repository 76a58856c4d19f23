-- What an audit says of a text is one.
use Rattle.std.specs.Prelude.{◌≡◌, ℕ, List, []}
use Rattle.handle_model.specs.declared.entry.Home.{Home}
use Rattle.handle_model.specs.declared.entry.Entry.{Entry}
use Rattle.handle_model.specs.declared.base.Base.{Base}
use Rattle.handle_model.specs.History.{IsSound, history_of, size}
use Rattle.journal_audit.specs.declared.verdict.Verdict.{Verdict}
use Rattle.journal_audit.specs.declared.verdict.Verdict.TheVariants as verdicts
use Rattle.journal_audit.specs.Verdicts.{TellsVerdict}
use Rattle.journal_audit.specs.Files.{Journal, HasJournals, DepartsAt}

-- a text is journals in one way
abbrev pub OneReading : Type 0
OneReading = (text : List ℕ) (some others : List Journal) → HasJournals some [] text → HasJournals others [] text → some ≡ others

-- a text that departs from journals at a line isn't journals
abbrev pub NeitherBoth : Type 0
NeitherBoth = (text : List ℕ) (n : ℕ) (journals : List Journal) → DepartsAt text n → HasJournals journals [] text → ⊥

-- and departs at one line
abbrev pub OneDeparture : Type 0
OneDeparture = (text : List ℕ) (n m : ℕ) → DepartsAt text n → DepartsAt text m → n ≡ m

-- of a journal one thing is told
abbrev pub OneVerdict : Type 0
OneVerdict =
    (home : Home) (base : Base) (entries : List Entry) (some other : Verdict) → TellsVerdict home base entries some
    → TellsVerdict home base entries other → some ≡ other

-- of a journal that is legal and settled it is told that it is legal, with the number of its entries, and nothing else
abbrev pub GoodIsLegal : Type 0
GoodIsLegal =
    (home : Home) (base : Base) (entries : List Entry) (verdict : Verdict) → IsSound (history_of home base entries)
    → TellsVerdict home base entries verdict → verdict ≡ verdicts.Legal (size (history_of home base entries))

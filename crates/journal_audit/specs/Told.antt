-- What an audit says of the journals of a text.
use Rattle.std.specs.Prelude.{◌≡◌, ℕ, ◌+◌, List, [], ◌∷◌}
use Rattle.handle_model.specs.declared.entry.Home.{Home}
use Rattle.handle_model.specs.declared.base.Base.{Base}
use Rattle.journal_audit.specs.Verdicts.{TellsVerdict}
use Rattle.journal_audit.specs.declared.verdict.GroupVerdict.{GroupVerdict}
use Rattle.journal_audit.specs.declared.verdict.AuditFault.{AuditFault}
use Rattle.journal_audit.specs.declared.verdict.AuditFault.TheVariants as faults
use Rattle.journal_audit.specs.Files.{Journal, GoesOnFrom, BaseDeparts, base_size, HasJournal, JournalDeparts, journal_size, HasJournals, DepartsAt}

-- whether a journal is legal and settled, and the place of its first breach, with the id of its group
abbrev pub TellsOf : Journal → GroupVerdict → Type 0
TellsOf g v = (v.group ≡ g.home.group) × TellsVerdict g.home g.base g.entries v.verdict

-- one verdict for each journal, in their order
abbrev pub TellsAll : List Journal → List GroupVerdict → Type 0
TellsAll [] [] = Unit {0}
TellsAll (g ∷ gs) (v ∷ vs) = TellsOf g v × TellsAll gs vs
TellsAll [] (v ∷ vs) = ⊥
TellsAll (g ∷ gs) [] = ⊥

-- the text is journals, of which these verdicts are told
abbrev pub Audited : List ℕ → List GroupVerdict → Type 0
Audited text verdicts = (journals : List Journal) × HasJournals journals [] text × TellsAll journals verdicts

-- a fault that is no want of memory names the first line that departs
abbrev pub Faulted : List ℕ → AuditFault → Type 0
Faulted text (faults.BadText n) = DepartsAt text n
Faulted text faults.Memory = Unit {0}

-- ONE JOURNAL

-- a journal that begins the text was read up to that line, and this is told of it
abbrev pub ToldOf : ℕ → GroupVerdict → ℕ → List ℕ → List ℕ → Type 0
ToldOf line v now rest text = (g : Journal) × HasJournal g rest text × TellsOf g v × (now ≡ line + journal_size g)

abbrev pub JournalFault : ℕ → List ℕ → AuditFault → Type 0
JournalFault line text (faults.BadText n) = (m : ℕ) × JournalDeparts text m × (n ≡ line + m)
JournalFault line text faults.Memory = Unit {0}

-- a base
abbrev pub BaseRead : Home → ℕ → Base → ℕ → List ℕ → List ℕ → Type 0
BaseRead home line base now rest text = GoesOnFrom home base rest text × (now ≡ line + base_size base)

abbrev pub BaseFault : Home → ℕ → List ℕ → AuditFault → Type 0
BaseFault home line text (faults.BadText n) = (m : ℕ) × BaseDeparts home text m × (n ≡ line + m)
BaseFault home line text faults.Memory = Unit {0}

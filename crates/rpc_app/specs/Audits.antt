-- What an audit says of the journals of a file.
use Rattle.std.specs.Prelude.{◌≡◌, ℕ, Bool, true, false, List, [], ◌∷◌, ◌++◌, codes, decimal}
use Rattle.std.specs.List.{list_all, AllByRecursion}
use Rattle.handle_model.specs.History.{IsSound, history_of}
use Rattle.journal_audit.specs.declared.verdict.Verdict.{Verdict}
use Rattle.journal_audit.specs.declared.verdict.Verdict.TheVariants as verdicts
use Rattle.journal_audit.specs.declared.verdict.GroupVerdict.{GroupVerdict}
use Rattle.journal_audit.specs.Files.{Journal, HasJournals, DepartsAt}
use Rattle.journal_audit.specs.Told.{Audited}

-- whether a verdict is that a journal is legal and settled
abbrev pub is_legal : Verdict → Bool
is_legal (verdicts.Legal n) = true
is_legal (verdicts.Breach place) = false

abbrev pub is_good : GroupVerdict → Bool
is_good v = is_legal v.verdict

-- how a verdict is said: the number of entries, or the place of the breach
abbrev pub verdict_text : Verdict → List ℕ
verdict_text (verdicts.Legal n) = codes " legal " ++ decimal n
verdict_text (verdicts.Breach place) = codes " breach " ++ decimal place

-- a line for each journal, in their order
unfoldable pub verdict_line : GroupVerdict → List ℕ
verdict_line v = codes "group " ++ decimal v.group ++ verdict_text v.verdict ++ codes "\n"

abbrev pub verdict_lines : List GroupVerdict → List ℕ
verdict_lines [] = []
verdict_lines (v ∷ later) = verdict_line v ++ verdict_lines later

unfoldable pub journal_refusal : ℕ → List ℕ
journal_refusal n = codes "refused: journal line " ++ decimal n ++ codes "\n"

-- a journal is legal and settled
abbrev pub IsGood : Journal → Type 0
IsGood g = IsSound (history_of g.home g.base g.entries)

-- The text is journals, each of which is legal and settled.
pub record AreGood (text : List ℕ) : Type 0 where
  pub journals : List Journal
  pub written : HasJournals journals [] text
  pub good : AllByRecursion IsGood journals

-- It is, and that is said of each.
pub record IsAudited (text said : List ℕ) : Type 0 where
  pub verdicts : List GroupVerdict
  pub told : Audited text verdicts
  pub good : list_all is_good verdicts ≡ true
  pub said_is : said ≡ verdict_lines verdicts

-- The text is journals, one of which has a breach, and the verdict on each is said.
pub record HasBreach (text said : List ℕ) : Type 0 where
  pub verdicts : List GroupVerdict
  pub told : Audited text verdicts
  pub breach : list_all is_good verdicts ≡ false
  pub said_is : said ≡ verdict_lines verdicts

-- The text departs from journals at a line, the first that does.
pub record DepartsAtJournalLine (text said : List ℕ) : Type 0 where
  pub line : ℕ
  pub departs : DepartsAt text line
  pub said_is : said ≡ journal_refusal line

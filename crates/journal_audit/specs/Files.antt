-- The texts of journals, one after the other, and the first line that departs from them.
use Rattle.std.specs.Prelude.{◌≡◌, ◌≢◌, ℕ, ◌+◌, true, false, ◌==◌, ◌⊎◌, if◌then◌else◌, List, [], ◌∷◌, ◌++◌, length}
use Rattle.std.specs.List.{AllByRecursion}
use Rattle.handle_model.specs.declared.entry.Home.{Home}
use Rattle.handle_model.specs.declared.entry.Entry.{Entry}
use Rattle.handle_model.specs.declared.base.BaseCall.{BaseCall}
use Rattle.handle_model.specs.declared.base.Base.{Base}
use Rattle.handle_model.specs.Bases.{empty_base}
use Rattle.handle_model.specs.Sound.{is_held}
use Rattle.journal_text.specs.Texts.{base_text, base_calls_text, entries_text}
use Rattle.journal_reader.specs.Fits.{FitsBase, FitsCall, FitsEntry}
use Rattle.journal_reader.specs.Lines.{BeginsWithGroup, BeginsWithNoGroup, BeginsWithBase, BeginsWithNoBase, BeginsWithCall, BeginsWithNoCall, BeginsWithNoEntry}
use Rattle.journal_audit.specs.SoFar.{with_call, IsSoundSoFar}

-- A journal as its lines have it: whose it is, what it goes on from, and its entries, oldest first.
pub record Journal : Type 0 where
  pub home : Home
  pub base : Base
  pub entries : List Entry

-- BASES

-- its own line says nothing of its calls
abbrev pub head_of : Base → Base
head_of b =
    record {
      count = b.count;
      joins = b.joins;
      accepts = b.accepts;
      opens = b.opens;
      conns = b.conns;
      calls = [];
      handles = b.handles;
    }

-- The text begins with the lines of a base, so many as there are, and the rest follows: each of them is as it should be
-- behind those before it.
pub record HasBase (home : Home) (base : Base) (rest text : List ℕ) : Type 0 where
  pub head_fits : FitsBase (head_of base)
  pub calls_fit : AllByRecursion FitsCall base.calls
  pub text_is : text ≡ base_text base ++ base_calls_text base.calls ++ rest
  pub so_far : IsSoundSoFar home base

-- it begins with a base that a journal may go on from, or with none: then the journal is that of a new group
abbrev pub GoesOnFrom : Home → Base → List ℕ → List ℕ → Type 0
GoesOnFrom home base rest text =
    ((base ≡ empty_base) × (rest ≡ text) × BeginsWithNoBase text)
    ⊎ (HasBase home base rest text × (is_held base ≡ true) × BeginsWithNoCall rest)

-- the base's own line is not as it should be
abbrev pub HeadDeparts : Home → List ℕ → ℕ → Type 0
HeadDeparts home text n = (base : Base) × (rest : List ℕ) × BeginsWithBase base rest text × ¬ IsSoundSoFar home base × (n ≡ 1)

-- the line of a call of it is not
abbrev pub CallDeparts : Home → List ℕ → ℕ → Type 0
CallDeparts home text n =
    (base : Base) × (call : BaseCall) × (rest later : List ℕ) × HasBase home base rest text × BeginsWithCall call later rest
    × ¬ IsSoundSoFar home (with_call base call) × (n ≡ length base.calls + 2)

-- nothing is open in it, so its last line departs
abbrev pub UnheldDeparts : Home → List ℕ → ℕ → Type 0
UnheldDeparts home text n =
    (base : Base) × (rest : List ℕ) × HasBase home base rest text × BeginsWithNoCall rest × (is_held base ≡ false)
    × (n ≡ length base.calls + 1)

abbrev pub BaseDeparts : Home → List ℕ → ℕ → Type 0
BaseDeparts home text n = HeadDeparts home text n ⊎ (CallDeparts home text n ⊎ UnheldDeparts home text n)

-- JOURNALS

-- the text begins with these entries' lines, so many as there are, and the rest follows
abbrev pub HasEntries : List Entry → List ℕ → List ℕ → Type 0
HasEntries entries rest text = AllByRecursion FitsEntry entries × (text ≡ entries_text entries ++ rest) × BeginsWithNoEntry rest

-- the text begins with the journal's lines, so many as there are, and the rest follows
abbrev pub HasJournal : Journal → List ℕ → List ℕ → Type 0
HasJournal g rest text =
    (headless baseless : List ℕ) × BeginsWithGroup g.home headless text × GoesOnFrom g.home g.base baseless headless
    × HasEntries g.entries rest baseless

-- how many lines a base has, and a journal
abbrev pub base_size : Base → ℕ
base_size base = if base.count == 0 then 0 else length base.calls + 1

abbrev pub journal_size : Journal → ℕ
journal_size g = 1 + base_size g.base + length g.entries

-- the journal that would begin there departs at its line n
abbrev pub JournalDeparts : List ℕ → ℕ → Type 0
JournalDeparts text n =
    (BeginsWithNoGroup text × (n ≡ 1))
    ⊎ ((home : Home) × (headless : List ℕ) × (m : ℕ) × BeginsWithGroup home headless text × BaseDeparts home headless m × (n ≡ m + 1))

-- FILES

-- journals, one after the other, and the rest follows
abbrev pub HasJournals : List Journal → List ℕ → List ℕ → Type 0
HasJournals [] rest text = text ≡ rest
HasJournals (g ∷ later) rest text = (middle : List ℕ) × HasJournal g middle text × HasJournals later rest middle

abbrev pub sizes : List Journal → ℕ
sizes [] = 0
sizes (g ∷ later) = journal_size g + sizes later

-- Line n is the first that departs: journals stand before it, and it is in what would be the next one.
abbrev pub DepartsAt : List ℕ → ℕ → Type 0
DepartsAt text n =
    (journals : List Journal) × (rest : List ℕ) × (m : ℕ) × HasJournals journals rest text × (rest ≢ []) × JournalDeparts rest m
    × (n ≡ sizes journals + m)

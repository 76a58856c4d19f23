-- A journal as it is watched, entry by entry.
use Rattle.std.specs.Prelude.{◌≡◌, ℕ, ◌+◌, Bool, Option, Some, None, if◌then◌else◌, List, [], ◌∷◌, length, ◌⊎◌}
use Rattle.handle_model.specs.declared.entry.Entry.{Entry}
use Rattle.handle_model.specs.declared.entry.Home.{Home}
use Rattle.handle_model.specs.declared.base.Base.{Base}
use Rattle.journal_audit.specs.declared.verdict.Verdict.{Verdict}
use Rattle.journal_audit.specs.declared.verdict.Verdict.TheVariants as verdicts
use Rattle.journal_tables.specs.Tables.{Tables, Admits, entered, is_due}
use Rattle.journal_tables.specs.Shown.{base_tables}
use Rattle.journal_audit.specs.Files.{HasEntries}

-- its tables up to the first entry that isn't allowed, the place of the next entry, and that of the first that wasn't allowed
pub record Watched : Type 0 where
  pub tables : Tables
  pub place : ℕ
  pub breach : Option ℕ

-- as it begins
abbrev pub started : Home → Base → Watched
started home base = record { tables = base_tables home base; place = base.count; breach = None }

-- what the next entry makes of it
abbrev pub WatchesBy : Option ℕ → Watched → Entry → Watched → Type 0
WatchesBy (Some place) old entry new = new.breach ≡ Some place
WatchesBy None old entry new =
    (Admits old.tables entry × (new.breach ≡ None) × (new.tables ≡ entered old.tables old.place entry))
    ⊎ ((¬ Admits old.tables entry) × (new.breach ≡ Some old.place))

abbrev pub Watches : Watched → Entry → Watched → Type 0
Watches old entry new = (new.place ≡ old.place + 1) × WatchesBy old.breach old entry new

-- and several
abbrev pub WatchesAll : Watched → List Entry → Watched → Type 0
WatchesAll old [] new = new ≡ old
WatchesAll old (e ∷ later) new = (mid : Watched) × Watches old e mid × WatchesAll mid later new

-- what is then said of it
abbrev pub said_by : Option ℕ → Bool → ℕ → Verdict
said_by (Some place) due next = verdicts.Breach place
said_by None due next = if due then verdicts.Breach next else verdicts.Legal next

abbrev pub said_of : Watched → Verdict
said_of w = said_by w.breach (is_due w.tables) w.place

-- the entries that begin the text were watched, and the rest follows
abbrev pub EntriesRead : Watched → ℕ → Watched → ℕ → List ℕ → List ℕ → Type 0
EntriesRead old line new now rest text =
    (entries : List Entry) × HasEntries entries rest text × WatchesAll old entries new × (now ≡ line + length entries)

-- A journal and the same journal with its older entries in its base, as a group keeps it. The newest entry of a
-- history is its first.
use Rattle.std.specs.Prelude.{◌≡◌, ◌↔◌, ℕ, true, false, ◌||◌, None, List, ◌++◌}
use Rattle.std.specs.List.{list_any}
use Rattle.handle_model.specs.declared.entry.Slot.{Slot}
use Rattle.handle_model.specs.declared.entry.Entry.{Entry}
use Rattle.handle_model.specs.Folds.{open_calls, advance, fold}
use Rattle.handle_model.specs.History.{History, IsSound, since, size}
use Rattle.handle_model.specs.Journal.{Legal, Allowed, conns, join_count, accept_count, opened, asked, waits, runs, blocker, due_items, fault_in, cookies_for, is_shut, due}
use Rattle.handle_model.specs.Further.{with_entries}
use Rattle.journal_tables.specs.Folding.{BaseBegun}

-- x is the journal j with its older entries in the base; none of these is a Shut, and no Shut was due behind them
pub record IsFoldOf (x j : History) : Type 0 where
  pub newer : List Entry
  pub older : List Entry
  pub past_is : j.past ≡ newer ++ older
  pub open_is : list_any is_shut older ≡ false
  pub settled_is : due (since j.home j.base older) ≡ false
  pub fold_is : x ≡ since j.home (advance j.home j.base older) newer

-- HOW A FOLD COMES ABOUT

-- a journal that has not ended is folded at any entry
abbrev pub FoldsOnce : Type 0
FoldsOnce = (j : History) (n : ℕ) → IsSound j → list_any is_shut j.past ≡ false → IsFoldOf (fold n j) j

-- it stays one with the same entries behind both, a Shut among them or not
abbrev pub FoldsOn : Type 0
FoldsOn = (x j : History) (more : List Entry) → IsFoldOf x j → IsFoldOf (with_entries x more) (with_entries j more)

-- a fold of a fold is one of the journal
abbrev pub FoldsTwice : Type 0
FoldsTwice = (y x j : History) → Legal j → BaseBegun j.base → IsFoldOf y x → IsFoldOf x j → IsFoldOf y j

-- so is a fold that is folded further and then goes on, again and again
abbrev pub FoldsAgain : Type 0
FoldsAgain =
    (x j : History) (n : ℕ) (more : List Entry) → IsSound j → list_any is_shut j.past ≡ false → BaseBegun j.base → IsFoldOf x j
    → IsFoldOf (with_entries (fold n x) more) (with_entries j more)

-- WHAT BOTH ARE

-- Both are as long, with as many connections, calls and serials; the same connections are open, the same calls wait and run,
-- with what they asked, their marks and what blocks them; the same handles are live, slots at fault and cookies given; the same
-- entries may come next.
pub record StandsFor (x j : History) : Type 0 where
  pub legal : Legal x
  pub begun : BaseBegun x.base
  pub sizes : size x ≡ size j
  pub joins_same : join_count x ≡ join_count j
  pub accepts_same : accept_count x ≡ accept_count j
  pub opens_same : opened x ≡ opened j
  pub conns_same : conns x ≡ conns j
  pub calls_same : open_calls x ≡ open_calls j
  pub asked_same : (k : ℕ) → (waits j k || runs j k) ≡ true → asked x k ≡ asked j k
  pub waits_same : (k : ℕ) → waits x k ≡ waits j k
  pub runs_same : (k : ℕ) → runs x k ≡ runs j k
  pub blockers_same : (k : ℕ) → waits j k ≡ true → blocker x k ≡ blocker j k
  pub live_same : due_items x ≡ due_items j
  pub faults_same : (ss : List Slot) → fault_in x ss ≡ fault_in j ss
  pub cookies_same : (ss : List Slot) → fault_in j ss ≡ None → cookies_for x ss ≡ cookies_for j ss
  pub due_same : due x ≡ due j
  pub allows_same : (e : Entry) → Allowed x e ↔ Allowed j e

abbrev pub FoldsStand : Type 0
FoldsStand = (x j : History) → Legal j → BaseBegun j.base → IsFoldOf x j → StandsFor x j

-- entries that are legal behind a fold are so behind the journal
abbrev pub FoldsBack : Type 0
FoldsBack =
    (x j : History) (more : List Entry) → Legal j → BaseBegun j.base → IsFoldOf x j → Legal (with_entries x more)
    → Legal (with_entries j more)

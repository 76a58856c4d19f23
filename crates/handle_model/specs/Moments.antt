-- A legal history, whose newest entry is its first, at two moments: `newer` came after the history j.
use Rattle.std.specs.Prelude.{◌≡◌, ◌≢◌, ℕ, ◌≤◌, true, is_some, List, [], ◌++◌, length}
use Rattle.handle_model.specs.declared.entry.DueItem.{DueItem}
use Rattle.handle_model.specs.declared.entry.Entry.{Entry}
use Rattle.handle_model.specs.declared.entry.Entry.TheVariants.{Shut}
use Rattle.handle_model.specs.declared.reply.Reply.TheVariants.{Open}
use Rattle.handle_model.specs.History.{History, with_entry}
use Rattle.handle_model.specs.Journal.{Legal, asked, is_issued, kind}
use Rattle.handle_model.specs.Replies.{replies}
use Rattle.handle_model.specs.Further.{with_entries}

-- nothing comes after a Shut
abbrev pub ShutIsLast : Type 0
ShutIsLast = (j : History) (newer : List Entry) (items : List DueItem) → Legal (with_entries (with_entry j (Shut items)) newer) → newer ≡ []

-- what is legal was legal at each earlier moment
abbrev pub OlderIsLegal : Type 0
OlderIsLegal = (j : History) (newer : List Entry) → Legal (with_entries j newer) → Legal j

-- some entries came between two moments
pub record Between (oldest older : List Entry) : Type 0 where
  pub entries : List Entry
  pub joined : older ≡ entries ++ oldest

-- of two moments of one history, that with fewer entries came first
abbrev pub MomentsInOrder : Type 0
MomentsInOrder =
    (newer older newest oldest : List Entry) → newer ++ older ≡ newest ++ oldest → length oldest ≤ length older → Between oldest older

-- a handle's kind stays
abbrev pub KindStays : Type 0
KindStays =
    (j : History) (newer : List Entry) (h : ℕ) → Legal (with_entries j newer) → is_issued j h ≡ true
    → kind (with_entries j newer) h ≡ kind j h

-- two histories say the same of the calls that were accepted in the one before both, of the handles
-- that were issued in it, and of the replies that were given in it
pub record Agree (older a b : History) : Type 0 where
  pub same_asked : (k : ℕ) → is_some (asked older k) ≡ true → asked a k ≡ asked b k
  pub same_kind : (h : ℕ) → is_issued older h ≡ true → kind a h ≡ kind b h
  pub same_reply : (k : ℕ) → replies older k ≢ Open → replies a k ≡ replies b k

-- two legal histories agree on what is common to them
abbrev pub CommonPastAgrees : Type 0
CommonPastAgrees =
    (j : History) (newer newest : List Entry) → Legal (with_entries j newer) → Legal (with_entries j newest)
    → Agree j (with_entries j newer) (with_entries j newest)

-- What each entry of a legal history, whose newest entry is its first, makes the reply of its call.
use Rattle.std.specs.Prelude.{◌≡◌, ◌≢◌, ℕ, true, if◌then◌else◌, Some, List, ◌∷◌, ◌++◌, length, filter}
use Rattle.handle_model.specs.declared.entry.Asked.{Asked}
use Rattle.handle_model.specs.declared.entry.Outcome.{Outcome}
use Rattle.handle_model.specs.declared.entry.Said.{Said}
use Rattle.handle_model.specs.declared.entry.Entry.{Entry}
use Rattle.handle_model.specs.declared.entry.Entry.TheVariants.{Deny, Cancel, Orphan, End, Leave}
use Rattle.handle_model.specs.declared.reply.Reply.TheVariants.{Never, Ran, Dropped, Open}
use Rattle.handle_model.specs.History.{History, with_entry}
use Rattle.rpc_base.specs.declared.identifiers.Status.{Status}
use Rattle.handle_model.specs.Journal.{Legal, asked, waits, takes}
use Rattle.handle_model.specs.Replies.{context_mismatch, cancelled, is_lost, replies}
use Rattle.handle_model.specs.Further.{with_entries}

-- a reply other than "nothing yet" stays, whatever comes after
abbrev pub ReplyStays : Type 0
ReplyStays =
    (j : History) (newer : List Entry) (k : ℕ) → Legal (with_entries j newer) → replies j k ≢ Open
    → replies (with_entries j newer) k ≡ replies j k

-- a Deny makes it a fault of a context mismatch
abbrev pub DenyReplies : Type 0
DenyReplies =
    (j : History) (k place : ℕ) → Legal (with_entry j (Deny k place)) → replies (with_entry j (Deny k place)) k ≡ Never context_mismatch

-- a Cancel of a waiting call makes it a fault of a cancel
abbrev pub CancelReplies : Type 0
CancelReplies =
    (j : History) (k : ℕ) → Legal (with_entry j (Cancel k)) → waits j k ≡ true → replies (with_entry j (Cancel k)) k ≡ Never cancelled

-- an End makes it what the End says, where neither an Orphan of the call nor its connection's Leave came before
abbrev pub EndReplies : Type 0
EndReplies =
    (j : History) (k : ℕ) (results : List Outcome) (said : Said) → Legal (with_entry j (End k results said))
    → replies (with_entry j (End k results said)) k ≡ (if is_lost j k then Dropped else Ran said)

-- an Orphan drops it
abbrev pub OrphanReplies : Type 0
OrphanReplies = (j : History) (k : ℕ) → Legal (with_entry j (Orphan k)) → replies (with_entry j (Orphan k)) k ≡ Dropped

-- and a Leave drops those of the connection's calls to which nothing was said yet
abbrev pub LeaveReplies : Type 0
LeaveReplies =
    (j : History) (c k : ℕ) (a : Asked) → Legal (with_entry j (Leave c)) → asked j k ≡ Some a → a.conn ≡ c → replies j k ≡ Open
    → replies (with_entry j (Leave c)) k ≡ Dropped

-- a call whose caller is told that it never ran has no Take
abbrev pub NeverIsUntaken : Type 0
NeverIsUntaken = (j : History) (k : ℕ) (status : Status) → Legal j → replies j k ≡ Never status → length (filter (takes k) j.past) ≡ 0

-- an End of call k, which said so: the newer entries before it, the older behind it
pub record Ended (past : List Entry) (k : ℕ) (said : Said) : Type 0 where
  pub newer : List Entry
  pub older : List Entry
  pub results : List Outcome
  pub is : past ≡ newer ++ End k results said ∷ older

-- what a call is told that it said is what an End of it says
abbrev pub RanHasEnded : Type 0
RanHasEnded = (j : History) (k : ℕ) (said : Said) → replies j k ≡ Ran said → Ended j.past k said

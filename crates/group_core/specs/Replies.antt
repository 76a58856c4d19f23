-- What each call of a group makes the reply of a call. The journals are legal, before and after.
use Rattle.std.specs.Prelude.{◌≡◌, ◌≢◌, ℕ, if◌then◌else◌, Some, List}
use Rattle.handle_model.specs.declared.entry.Asked.{Asked}
use Rattle.handle_model.specs.declared.entry.Outcome.{Outcome}
use Rattle.handle_model.specs.declared.entry.Said.{Said}
use Rattle.handle_model.specs.declared.reply.Reply.TheVariants.{Never, Ran, Dropped, Open}
use Rattle.handle_model.specs.History.{History}
use Rattle.handle_model.specs.Journal.{Legal, asked}
use Rattle.handle_model.specs.Replies.{context_mismatch, cancelled, is_lost, replies}
use Rattle.group_core.specs.declared.answer.Taking.TheVariants.{Denied}
use Rattle.group_core.specs.declared.answer.Cancelled.TheVariants as cancels
use Rattle.group_core.specs.declared.answer.Orphaned.TheVariants as orphans
use Rattle.group_core.specs.declared.answer.Rest.{Rest}
use Rattle.group_core.specs.Calls.{Takes, Cancels, Orphans, Ends}
use Rattle.group_core.specs.Conns.{Leaves}
use Rattle.group_core.specs.Grows.{Grows}

-- a reply other than "nothing yet" stays, whatever is added
abbrev pub RepliesStay : Type 0
RepliesStay = (old new : History) (k : ℕ) → Grows old new → Legal new → replies old k ≢ Open → replies new k ≡ replies old k

-- a call that is denied never ran
abbrev pub DeniesReply : Type 0
DeniesReply = (old new : History) (k slot : ℕ) → Legal new → Takes old k (Denied slot) new → replies new k ≡ Never context_mismatch

-- nor did one that was cancelled while it waited
abbrev pub CancelsReply : Type 0
CancelsReply = (old new : History) (k : ℕ) → Legal new → Cancels old k cancels.Ended new → replies new k ≡ Never cancelled

-- one that is orphaned gets no answer
abbrev pub DropsReply : Type 0
DropsReply = (old new : History) (k : ℕ) → Legal new → Orphans old k orphans.Dropped new → replies new k ≡ Dropped

abbrev pub OrphansReply : Type 0
OrphansReply = (old new : History) (k : ℕ) → Legal new → Orphans old k orphans.Running new → replies new k ≡ Dropped

-- one that ends gets what its End says, where it was not lost before
abbrev pub EndsReply : Type 0
EndsReply =
    (old new : History) (k : ℕ) (results : List Outcome) (said : Said) (rest : Rest) → Legal new → Ends old k results said rest new
    → replies new k ≡ (if is_lost old k then Dropped else Ran said)

-- one whose connection leaves before anything was said gets none
abbrev pub LeavesReply : Type 0
LeavesReply =
    (old new : History) (c k : ℕ) (a : Asked) (rest : Rest) → Legal new → Leaves old c rest new → asked old k ≡ Some a → a.conn ≡ c
    → replies old k ≡ Open → replies new k ≡ Dropped

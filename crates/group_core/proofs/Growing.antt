-- Each call of a group adds entries or none.
use Rattle.std.proofs.Common.{◌≡◌, ℕ, Result, Ok, Err, List, [], ◌∷◌, ◌++◌, length, drop, refl, sym, ◌∙◌, ap, append_assoc}
use Rattle.handle_model.specs.declared.entry.Entry.{Entry}
use Rattle.handle_model.specs.declared.entry.Asked.{Asked}
use Rattle.handle_model.specs.declared.entry.Outcome.{Outcome}
use Rattle.handle_model.specs.declared.entry.Said.{Said}
use Rattle.handle_model.specs.declared.entry.Entry.TheVariants.{Join, Accept, Take, Deny, Cancel, Orphan, End, Leave, Shut}
use Rattle.handle_model.specs.Folds.{folded}
use Rattle.handle_model.specs.History.{History, since}
use Rattle.group_core.specs.declared.answer.AcceptRefusal.{AcceptRefusal}
use Rattle.group_core.specs.declared.answer.AcceptRefusal.TheVariants as accept
use Rattle.group_core.specs.declared.answer.JoinRefusal.{JoinRefusal}
use Rattle.group_core.specs.declared.answer.JoinRefusal.TheVariants as join
use Rattle.group_core.specs.declared.answer.Taking.{Taking}
use Rattle.group_core.specs.declared.answer.Taking.TheVariants as taking
use Rattle.group_core.specs.declared.answer.Cancelled.{Cancelled}
use Rattle.group_core.specs.declared.answer.Cancelled.TheVariants as cancelled
use Rattle.group_core.specs.declared.answer.Orphaned.{Orphaned}
use Rattle.group_core.specs.declared.answer.Orphaned.TheVariants as orphaned
use Rattle.group_core.specs.declared.answer.Rest.{Rest}
use Rattle.group_core.specs.declared.answer.Rest.TheVariants as rest
use Rattle.group_core.specs.Adds.{Adds}
use Rattle.group_core.specs.Conns.{Joins, Settles, Leaves}
use Rattle.handle_model.specs.Journal.{slots, cookies_for}
use Rattle.group_core.specs.Calls.{numbered, Accepts, Takes, Cancels, Orphans, Ends}
use Rattle.group_core.specs.Grows.{Grows, GrowsByJoin, IsEarlier}

by : (old new : History) (more : List Entry) → Adds old more new → Grows old new
by old new more a = record { more = more; adds = a }

pub joins_grow : (old new : History) (answer : Result ℕ JoinRefusal) → Joins old answer new → GrowsByJoin old answer new
joins_grow old new (Ok c) t = by (folded old) new (Join c ∷ []) t.2
joins_grow old new (Err join.TooMany) t = t.1
joins_grow old new (Err join.Numbers) t = t.1
joins_grow old new (Err join.Memory) t = t

pub accepts_grow : (old new : History) (a : Asked) (answer : Result ℕ (Asked × AcceptRefusal)) → Accepts old a answer new → Grows old new
accepts_grow old new a (Ok k) t = by old new (Accept k (numbered old a) ∷ []) t.2
accepts_grow old new a (Err (b, accept.Calls)) t = by old new [] t.2
accepts_grow old new a (Err (b, accept.Handles)) t = by old new [] t.2
accepts_grow old new a (Err (b, accept.Numbers)) t = by old new [] t.2
accepts_grow old new a (Err (b, accept.Memory)) t = by old new [] t.1

pub takes_grow : (old new : History) (k : ℕ) (answer : Taking) → Takes old k answer new → Grows old new
takes_grow old new k (taking.Run row serial) t = by old new (Take k (cookies_for old (slots old k)) ∷ []) t.5
takes_grow old new k (taking.Denied slot) t = by old new (Deny k slot ∷ []) t.3
takes_grow old new k taking.Dropped t = by old new [] t.1
takes_grow old new k (taking.Wait m) t = by old new [] t.2

pub cancels_grow : (old new : History) (k : ℕ) (answer : Cancelled) → Cancels old k answer new → Grows old new
cancels_grow old new k cancelled.Ended t = by old new (Cancel k ∷ []) t.1
cancels_grow old new k cancelled.Flagged t = by old new (Cancel k ∷ []) t.1
cancels_grow old new k cancelled.Late t = by old new [] t.2

pub orphans_grow : (old new : History) (k : ℕ) (answer : Orphaned) → Orphans old k answer new → Grows old new
orphans_grow old new k orphaned.Dropped t = by old new (Orphan k ∷ []) t.1
orphans_grow old new k orphaned.Running t = by old new (Orphan k ∷ []) t.1
orphans_grow old new k orphaned.Late t = by old new [] t.2

settles_grow : (old new : History) (e : Entry) (answer : Rest) → Settles old e answer new → Grows old new
settles_grow old new e rest.Stays t = by old new (e ∷ []) t.1
settles_grow old new e (rest.Shut items) t = by old new (Shut items ∷ e ∷ []) t.2

pub ends_grow : (old new : History) (k : ℕ) (results : List Outcome) (said : Said) (answer : Rest) → Ends old k results said answer new → Grows old new
ends_grow old new k results said answer t = settles_grow old new (End k results said) answer t

pub leaves_grow : (old new : History) (c : ℕ) (answer : Rest) → Leaves old c answer new → Grows old new
leaves_grow old new c answer t = settles_grow old new (Leave c) answer t

pub grows_on : (oldest old new : History) → Grows oldest old → Grows old new → Grows oldest new
grows_on oldest old new a b =
    record {
      more = b.more ++ a.more;
      adds = b.adds ∙ (ap (λ (h : History). since h.home h.base (b.more ++ h.past)) a.adds ∙ ap (λ past. since oldest.home oldest.base past) (sym (append_assoc b.more a.more oldest.past)));
    }

after : (xs ys : List Entry) → drop (length xs) (xs ++ ys) ≡ ys
after [] ys = refl
after (x ∷ xs) ys = after xs ys

pub stays_earlier : (old new : History) → Grows old new → IsEarlier old new
stays_earlier old new g =
    record {
      newer = length g.more;
      home_is = ap (λ (h : History). h.home) g.adds;
      base_is = ap (λ (h : History). h.base) g.adds;
      past_is = ap (λ (h : History). drop (length g.more) h.past) g.adds ∙ after g.more old.past;
    }

-- How counts go on.
use Rattle.std.proofs.Common.{◌≡◌, ℕ, zero, suc, ◌+◌, ◌-◌, ◌^◌, ◌<◌, Option, List, [], ◌∷◌, ◌++◌, length, filter, get_or, slice_set, sym, ap, ◌∙◌, arith}
use Rattle.std.proofs.lemmas.List.{length-set, length-append}
use Rattle.handle_model.specs.declared.entry.Asked.{Asked}
use Rattle.handle_model.specs.declared.entry.Said.{Said}
use Rattle.handle_model.specs.declared.entry.DueItem.{DueItem}
use Rattle.handle_model.specs.declared.entry.Outcome.{Outcome}
use Rattle.handle_model.specs.declared.entry.Entry.{Entry}
use Rattle.handle_model.specs.declared.entry.Entry.TheVariants.{Join, Accept, Take, Deny, Cancel, Orphan, End, Leave, Shut}
use Rattle.replay_script.specs.declared.counts.Counts.{Counts}
use Rattle.replay_script.specs.Counting.{accepts, takes, denies, cancels, is_issue, is_close, issues, closes, runs_down, count_all, counts_of, with_entry, with_group, stopped, shown, TellsJournals, Adds, AddsGroup, IsWhole}
use Rattle.replay_script.specs.Summary.{summary_text, Told}
use Rattle.replay_script.specs.Laws.{and_entry, EntryCounts, GroupCounts, QuietCount, TellsMore}

count_set : (f : Entry → ℕ) (pasts : List (List Entry)) (i : ℕ) (e : Entry) → i < length pasts → count_all f (and_entry pasts i e) ≡ count_all f pasts + f e
count_set f [] i e low = absurd (omega (arith, low))
count_set f (past ∷ more) zero e low = omega arith
count_set f (past ∷ more) (suc i) e low = let more_is = count_set f more i e (omega (arith, low)) in omega (arith, more_is)

pub entry_counts : EntryCounts
entry_counts pasts i e low = λ j. record {
  groups = length-set pasts i (e ∷ get_or pasts i []) j;
  accepted = count_set accepts pasts i e low j;
  taken = count_set takes pasts i e low j;
  denied = count_set denies pasts i e low j;
  cancelled = count_set cancels pasts i e low j;
  issued = count_set issues pasts i e low j;
  closed = count_set closes pasts i e low j;
  rundown = count_set runs_down pasts i e low j;
}

count_more : (f : Entry → ℕ) (pasts : List (List Entry)) → count_all f (pasts ++ [] ∷ []) ≡ count_all f pasts
count_more f [] = omega arith
count_more f (past ∷ more) = let is = count_more f more in omega (arith, is)

one_more : (pasts : List (List Entry)) → length (pasts ++ [] ∷ []) ≡ length pasts + 1
one_more pasts = length-append pasts ([] ∷ [])

pub group_counts : GroupCounts
group_counts pasts = λ j. record {
  groups = one_more pasts j;
  accepted = count_more accepts pasts j;
  taken = count_more takes pasts j;
  denied = count_more denies pasts j;
  cancelled = count_more cancels pasts j;
  issued = count_more issues pasts j;
  closed = count_more closes pasts j;
  rundown = count_more runs_down pasts j;
}

-- ---- what each entry adds

-- a count that is shown, with nothing more, and with so many more
quiet : (a b : ℕ) → a ≡ stopped b → a ≡ stopped (b + 0)
quiet a b e = omega (arith, e)

more_is : (a b n d : ℕ) → a ≡ stopped b → n ≡ stopped (a + d) → n ≡ stopped (b + d)
more_is a b n d e m = omega (arith, e, m)

module _ (x z : Counts) (told : x ≡ shown z) where
  groups_is : x.groups ≡ stopped z.groups
  groups_is = ap (λ (c : Counts). c.groups) told

  accepted_is : x.accepted ≡ stopped z.accepted
  accepted_is = ap (λ (c : Counts). c.accepted) told

  taken_is : x.taken ≡ stopped z.taken
  taken_is = ap (λ (c : Counts). c.taken) told

  denied_is : x.denied ≡ stopped z.denied
  denied_is = ap (λ (c : Counts). c.denied) told

  cancelled_is : x.cancelled ≡ stopped z.cancelled
  cancelled_is = ap (λ (c : Counts). c.cancelled) told

  issued_is : x.issued ≡ stopped z.issued
  issued_is = ap (λ (c : Counts). c.issued) told

  closed_is : x.closed ≡ stopped z.closed
  closed_is = ap (λ (c : Counts). c.closed) told

  rundown_is : x.rundown ≡ stopped z.rundown
  rundown_is = ap (λ (c : Counts). c.rundown) told

  accepted_same : x.accepted ≡ stopped (z.accepted + 0)
  accepted_same = quiet x.accepted z.accepted accepted_is

  taken_same : x.taken ≡ stopped (z.taken + 0)
  taken_same = quiet x.taken z.taken taken_is

  denied_same : x.denied ≡ stopped (z.denied + 0)
  denied_same = quiet x.denied z.denied denied_is

  cancelled_same : x.cancelled ≡ stopped (z.cancelled + 0)
  cancelled_same = quiet x.cancelled z.cancelled cancelled_is

  issued_same : x.issued ≡ stopped (z.issued + 0)
  issued_same = quiet x.issued z.issued issued_is

  closed_same : x.closed ≡ stopped (z.closed + 0)
  closed_same = quiet x.closed z.closed closed_is

  rundown_same : x.rundown ≡ stopped (z.rundown + 0)
  rundown_same = quiet x.rundown z.rundown rundown_is

pub opened_adds : (x : Counts) (n : ℕ) → n ≡ stopped (x.groups + 1) → AddsGroup x (record x { groups = n })
opened_adds x n e = λ z told j. record { groups = more_is x.groups z.groups n 1 (groups_is x z told) e j; accepted = accepted_is x z told j; taken = taken_is x z told j; denied = denied_is x z told j; cancelled = cancelled_is x z told j; issued = issued_is x z told j; closed = closed_is x z told j; rundown = rundown_is x z told j }

pub accepted_adds : (k : ℕ) (a : Asked) (x : Counts) (n : ℕ) → n ≡ stopped (x.accepted + 1) → Adds (Accept k a) x (record x { accepted = n })
accepted_adds k a x n e = λ z told j. record { groups = groups_is x z told j; accepted = more_is x.accepted z.accepted n 1 (accepted_is x z told) e j; taken = taken_same x z told j; denied = denied_same x z told j; cancelled = cancelled_same x z told j; issued = issued_same x z told j; closed = closed_same x z told j; rundown = rundown_same x z told j }

pub taken_adds : (k : ℕ) (c : List (Option ℕ)) (x : Counts) (n : ℕ) → n ≡ stopped (x.taken + 1) → Adds (Take k c) x (record x { taken = n })
taken_adds k c x n e = λ z told j. record { groups = groups_is x z told j; accepted = accepted_same x z told j; taken = more_is x.taken z.taken n 1 (taken_is x z told) e j; denied = denied_same x z told j; cancelled = cancelled_same x z told j; issued = issued_same x z told j; closed = closed_same x z told j; rundown = rundown_same x z told j }

pub denied_adds : (k s : ℕ) (x : Counts) (n : ℕ) → n ≡ stopped (x.denied + 1) → Adds (Deny k s) x (record x { denied = n })
denied_adds k s x n e = λ z told j. record { groups = groups_is x z told j; accepted = accepted_same x z told j; taken = taken_same x z told j; denied = more_is x.denied z.denied n 1 (denied_is x z told) e j; cancelled = cancelled_same x z told j; issued = issued_same x z told j; closed = closed_same x z told j; rundown = rundown_same x z told j }

pub cancelled_adds : (k : ℕ) (x : Counts) (n : ℕ) → n ≡ stopped (x.cancelled + 1) → Adds (Cancel k) x (record x { cancelled = n })
cancelled_adds k x n e = λ z told j. record { groups = groups_is x z told j; accepted = accepted_same x z told j; taken = taken_same x z told j; denied = denied_same x z told j; cancelled = more_is x.cancelled z.cancelled n 1 (cancelled_is x z told) e j; issued = issued_same x z told j; closed = closed_same x z told j; rundown = rundown_same x z told j }

pub ended_adds : (k : ℕ) (results : List Outcome) (said : Said) (x : Counts) (n m a b : ℕ) → a ≡ length (filter is_issue results) → b ≡ length (filter is_close results) → n ≡ stopped (x.issued + a) → m ≡ stopped (x.closed + b)
    → Adds (End k results said) x (record x { issued = n; closed = m })
ended_adds k results said x n m a b e d p q = λ z told j. record { groups = groups_is x z told j; accepted = accepted_same x z told j; taken = taken_same x z told j; denied = denied_same x z told j; cancelled = cancelled_same x z told j; issued = more_is x.issued z.issued n (length (filter is_issue results)) (issued_is x z told) (p ∙ ap (λ (c : ℕ). stopped (x.issued + c)) e) j; closed = more_is x.closed z.closed m (length (filter is_close results)) (closed_is x z told) (q ∙ ap (λ (c : ℕ). stopped (x.closed + c)) d) j; rundown = rundown_same x z told j }

pub shut_adds : (items : List DueItem) (x : Counts) (n h : ℕ) → length items ≡ h → n ≡ stopped (x.rundown + h) → Adds (Shut items) x (record x { rundown = n })
shut_adds items x n h e p = λ z told j. record { groups = groups_is x z told j; accepted = accepted_same x z told j; taken = taken_same x z told j; denied = denied_same x z told j; cancelled = cancelled_same x z told j; issued = issued_same x z told j; closed = closed_same x z told j; rundown = more_is x.rundown z.rundown n (length items) (rundown_is x z told) (p ∙ ap (λ (c : ℕ). stopped (x.rundown + c)) (sym e)) j }

same : (n : ℕ) → n ≡ n + 0
same n = omega arith

nothing_more : (x : Counts)
    → x
    ≡ record { groups = x.groups; accepted = x.accepted + 0; taken = x.taken + 0; denied = x.denied + 0; cancelled = x.cancelled + 0; issued = x.issued + 0; closed = x.closed + 0; rundown = x.rundown + 0 }
nothing_more x = λ j. record { groups = x.groups; accepted = same x.accepted j; taken = same x.taken j; denied = same x.denied j; cancelled = same x.cancelled j; issued = same x.issued j; closed = same x.closed j; rundown = same x.rundown j }

pub quiet_count : QuietCount
quiet_count x n = (sym (nothing_more x), sym (nothing_more x), sym (nothing_more x))

-- ---- what shows them

tells_entry : (pasts : List (List Entry)) (i : ℕ) (e : Entry) (x y : Counts) → i < length pasts → TellsJournals x pasts → Adds e x y → TellsJournals y (and_entry pasts i e)
tells_entry pasts i e x y low t adds = adds (counts_of pasts) t ∙ ap shown (sym (entry_counts pasts i e low))

tells_group : (pasts : List (List Entry)) (x y : Counts) → TellsJournals x pasts → AddsGroup x y → TellsJournals y (pasts ++ [] ∷ [])
tells_group pasts x y t adds = adds (counts_of pasts) t ∙ ap shown (sym (group_counts pasts))

pub tells_more : TellsMore
tells_more = record { entry = tells_entry; group = tells_group }

-- a count that did not stop is the one that it shows
unstopped : (a b : ℕ) → a ≡ stopped b → a < 2 ^ 64 - 1 → a ≡ b
unstopped a b e low = omega (arith, e, low)

pub is_whole : (x : Counts) → x.groups < 2 ^ 64 - 1 → x.accepted < 2 ^ 64 - 1 → x.taken < 2 ^ 64 - 1 → x.denied < 2 ^ 64 - 1 → x.cancelled < 2 ^ 64 - 1 → x.issued < 2 ^ 64 - 1 → x.closed < 2 ^ 64 - 1 → x.rundown < 2 ^ 64 - 1 → IsWhole x
is_whole x l0 l1 l2 l3 l4 l5 l6 l7 z told = λ j. record { groups = unstopped x.groups z.groups (groups_is x z told) l0 j; accepted = unstopped x.accepted z.accepted (accepted_is x z told) l1 j; taken = unstopped x.taken z.taken (taken_is x z told) l2 j; denied = unstopped x.denied z.denied (denied_is x z told) l3 j; cancelled = unstopped x.cancelled z.cancelled (cancelled_is x z told) l4 j; issued = unstopped x.issued z.issued (issued_is x z told) l5 j; closed = unstopped x.closed z.closed (closed_is x z told) l6 j; rundown = unstopped x.rundown z.rundown (rundown_is x z told) l7 j }

pub told_text : (steps : ℕ) (x : Counts) (old new : List ℕ) → IsWhole x → new ≡ old ++ summary_text steps x → Told steps x old new
told_text steps x old new whole is z told = is ∙ ap (λ (c : Counts). old ++ summary_text steps c) (whole z told)

-- Calls that clash are in one queue.
use Rattle.std.proofs.Common.{◌≡◌, ℕ, zero, suc, ◌≤◌, Bool, true, false, ◌&&◌, ◌||◌, not, ◌==◌, ◌%◌, nat_lt, Option, Some, None, List, [], ◌∷◌, ◌++◌, length, refl, sym, ◌∙◌, ap, arith, inl, inr, append-nil}
use Rattle.std.specs.Prelude.{slice_get}
use Rattle.std.specs.List.{filter, list_any}
use Rattle.std.proofs.lemmas.Bool.{cases_Bool, eqb-true}
use Rattle.rpc_base.specs.declared.identifiers.WireHandle.{WireHandle}
use Rattle.handle_model.specs.declared.entry.Slot.{Slot}
use Rattle.handle_model.specs.Slots.{named, is_exclusive, clash, same_wire, is_null}
use Rattle.handle_model.specs.Journal.{any_clash}
use Rattle.handle_model.proofs.Tests.{and_left, and_right, or_cases}
use Rattle.wait_list.specs.Stands.{is_same}
use Rattle.wait_list.specs.Waiting.{some_of, numbers, has}
use Rattle.call_table.specs.declared.row.Row.{Row}
use Rattle.call_table.specs.declared.blocks.Blockers.{Blockers}
use Rattle.call_table.specs.declared.blocks.Blockers.TheVariants.{Running, WaitingBelow}
use Rattle.call_table.specs.Rows.{blocks_running, blocks_waiting}
use Rattle.call_table.specs.Ahead.{is_ahead}
use Rattle.call_table.specs.Queues.{queue_of, queue_in, queues_of, shares_one, shares, blocks}

-- FOUR QUEUES

pub four_queues : (ss : List Slot) → length ss ≤ 4 → numbers (queue_in (slice_get ss 0)) (queue_in (slice_get ss 1)) (queue_in (slice_get ss 2)) (queue_in (slice_get ss 3)) ≡ queues_of ss
four_queues [] le = refl
four_queues (a ∷ []) le = refl
four_queues (a ∷ b ∷ []) le = refl
four_queues (a ∷ b ∷ c ∷ []) le = refl
four_queues (a ∷ b ∷ c ∷ d ∷ []) le =
    ap (λ ks. some_of (queue_of (named a)) ++ (some_of (queue_of (named b)) ++ (some_of (queue_of (named c)) ++ ks))) (sym (append-nil (some_of (queue_of (named d)))))
four_queues (a ∷ b ∷ c ∷ d ∷ e ∷ ss) le = absurd (omega arith)

-- ONE QUEUE

same_self : (n : ℕ) → is_same n n ≡ true
same_self zero = refl
same_self (suc n) = same_self n

has_more : (q : ℕ) (o : Option ℕ) (ks : List ℕ) → has q ks ≡ true → has q (some_of o ++ ks) ≡ true
has_more q None ks h = h
has_more q (Some k) ks h = elim (cases_Bool (is_same k q)) [ inl e ↦ rw e refl | inr e ↦ rw e h ]

has_first : (q : ℕ) (o : Option ℕ) (ks : List ℕ) → o ≡ Some q → has q (some_of o ++ ks) ≡ true
has_first q o ks e = rw e (rw (same_self q) refl)

same_id : (w v : WireHandle) → same_wire w v ≡ true → w.id ≡ v.id
same_id w v h = eqb-true w.id v.id (and_right (w.attributes == v.attributes) (w.id == v.id) h)

-- a slot that clashes with one that names a handle has its queue
same_queue : (s : Slot) (w : WireHandle) (t : Slot) (o : Option WireHandle) → named t ≡ o → named s ≡ Some w → clash s t ≡ true → queue_of (named t) ≡ Some (w.id % 64)
same_queue s w t None e n h = absurd (let f = rw (e, n) at h in cc)
same_queue s w t (Some v) e n h =
    let c : ((not (is_null w) && same_wire w v) && (is_exclusive s || is_exclusive t)) ≡ true = rw (e, n) at h in
    let q = and_right (not (is_null w)) (same_wire w v) (and_left (not (is_null w) && same_wire w v) (is_exclusive s || is_exclusive t) c) in
    ap queue_of e ∙ ap (λ n. Some (n % 64)) (sym (same_id w v q))

clash_queue : (s : Slot) (w : WireHandle) (ts : List Slot) → named s ≡ Some w → list_any (clash s) ts ≡ true → has (w.id % 64) (queues_of ts) ≡ true
clash_queue s w [] n h = absurd (cc)
clash_queue s w (t ∷ ts) n h =
    elim (cases_Bool (clash s t)) [
      | inl c ↦ has_first (w.id % 64) (queue_of (named t)) (queues_of ts) (same_queue s w t (named t) refl n c)
      | inr c ↦ has_more (w.id % 64) (queue_of (named t)) (queues_of ts) (clash_queue s w ts n (rw c at h))
    ]

-- and one that names none clashes with none
named_clash : (s : Slot) (ts : List Slot) → named s ≡ None → list_any (clash s) ts ≡ false
named_clash s [] n = refl
named_clash s (t ∷ ts) n = rw (n, named_clash s ts n) refl

-- ALL SLOTS

one_shared : (s : Slot) (o : Option WireHandle) (r : Row) → named s ≡ o → list_any (clash s) r.slots ≡ true → shares_one (queue_of o) r ≡ true
one_shared s None r n h = absurd (let f = named_clash s r.slots n in cc)
one_shared s (Some w) r n h = clash_queue s w r.slots n h

clash_shares : (ss : List Slot) (r : Row) → any_clash ss r.slots ≡ true → shares ss r ≡ true
clash_shares [] r h = absurd (cc)
clash_shares (s ∷ ss) r h =
    elim (cases_Bool (list_any (clash s) r.slots)) [
      | inl c ↦ rw (one_shared s (named s) r refl c) refl
      | inr c ↦ rw (clash_shares ss r (rw c at h)) (or_true (shares_one (queue_of (named s)) r))
    ]
  where
    or_true : (b : Bool) → (b || true) ≡ true
    or_true true = refl
    or_true false = refl

and_kept : (b c : Bool) → (c ≡ true → b ≡ true) → (b && c) ≡ c
and_kept true c h = refl
and_kept false true h = h refl
and_kept false false h = refl

blocks_clash : (kind : Blockers) (ss : List Slot) (r : Row) → blocks kind ss r ≡ true → any_clash ss r.slots ≡ true
blocks_clash Running ss r h = and_right r.runs (any_clash ss r.slots) h
blocks_clash (WaitingBelow k) ss r h = and_right (nat_lt r.call k) (any_clash ss r.slots) (and_right (not r.runs) (nat_lt r.call k && any_clash ss r.slots) h)

filter_as : (p q : Row → Bool) (rows : List Row) → ((r : Row) → p r ≡ q r) → filter p rows ≡ filter q rows
filter_as p q [] h = refl
filter_as p q (x ∷ rows) h = rw (h x, filter_as p q rows h) refl

-- what blocks is in a queue of the slots
pub blocks_shared : (kind : Blockers) (ss : List Slot) (rows : List Row) → filter (λ r. shares ss r && blocks kind ss r) rows ≡ filter (blocks kind ss) rows
blocks_shared kind ss rows =
    filter_as (λ r. shares ss r && blocks kind ss r) (blocks kind ss) rows (λ r. and_kept (shares ss r) (blocks kind ss r) (λ h. clash_shares ss r (blocks_clash kind ss r h)))

-- and so is what is ahead
ahead_clash : (ss : List Slot) (k : ℕ) (r : Row) → is_ahead ss k r ≡ true → any_clash ss r.slots ≡ true
ahead_clash ss k r h =
    elim (or_cases (blocks_running ss r) (blocks_waiting ss k r) h) [
      | inl a ↦ blocks_clash Running ss r a
      | inr a ↦ blocks_clash (WaitingBelow k) ss r a
    ]

pub ahead_shared : (ss : List Slot) (k : ℕ) (rows : List Row) → filter (λ r. shares ss r && is_ahead ss k r) rows ≡ filter (is_ahead ss k) rows
ahead_shared ss k rows =
    filter_as (λ r. shares ss r && is_ahead ss k r) (is_ahead ss k) rows (λ r. and_kept (shares ss r) (is_ahead ss k r) (λ h. clash_shares ss r (ahead_clash ss k r h)))

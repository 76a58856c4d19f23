-- The Leave of a connection that is over is its pass's own, and stands once.
use Rattle.std.proofs.Common.{◌≡◌, ◌⊎◌, ◌∙◌, ◌==◌, ◌+◌, ◌<◌, ◌≤◌, ℕ, zero, suc, Bool, true, false, ◌&&◌, ◌||◌, not, List, [], ◌∷◌, ◌++◌, refl, sym, ap, subst, arith, inl, inr, length, map, filter, true≢false, if◌then◌else◌}
use Rattle.std.specs.List.{list_any}
use Rattle.std.proofs.lemmas.Bool.{cases_Bool, eqb-true}
use Rattle.std.proofs.lemmas.Bool.Decides.{nat_tests}
use mathlib.Core.Option.{some, some-ne-none}
use lib.ListN.{get_elem?}
use Rattle.turn_lock.specs.Histories.{times}
use Rattle.handle_model.specs.declared.entry.Home.{Home}
use Rattle.handle_model.specs.declared.entry.Asked.{Asked}
use Rattle.handle_model.specs.declared.entry.Entry.{Entry}
use Rattle.handle_model.specs.declared.entry.Entry.TheVariants.{Join, Accept, Take, Deny, Cancel, Orphan, End, Leave, Shut}
use Rattle.handle_model.specs.Entries.{is_shut}
use Rattle.handle_model.specs.Journal.{Legal, leaves, has_joined}
use Rattle.handle_model.proofs.Held.{and_right, or_right, or_cases}
use Rattle.hub_story.specs.declared.item.Item.{Item}
use Rattle.conn_histories.specs.declared.turn.Off.{Off}
use Rattle.conn_histories.specs.declared.turn.Fate.{Fate}
use Rattle.conn_histories.specs.declared.turn.Fate.TheVariants.{Waiting, Denied, Cancelled, Orphaned, LeftWaiting, Running, LeftRunning, Ended, LeftEnded}
use Rattle.conn_histories.specs.declared.turn.Deed.{Deed}
use Rattle.conn_histories.specs.declared.turn.Deed.TheVariants.{Pending, Refused, Accepted}
use Rattle.conn_histories.specs.declared.turn.Request.{Request}
use Rattle.conn_histories.specs.declared.turn.Turn.{Turn}
use Rattle.conn_histories.specs.declared.turn.Turn.TheVariants.{Called}
use Rattle.conn_histories.specs.Entries.{asked_as, fate_entries, deed_entries, all_entries, has_left, deed_left, turn_left, story_entries}
use Rattle.conn_histories.specs.Tales.{whole}
use Rattle.server_command.proofs.PrintedJournals.{there}
use Rattle.server_command.proofs.Names.{same_number}

-- ---- in what a connection that is gone entered

in_front : (p : Entry → Bool) (xs ys : List Entry) → list_any p xs ≡ true → list_any p (xs ++ ys) ≡ true
in_front p [] ys h = absurd (true≢false (sym h))
in_front p (x ∷ xs) ys h = elim (or_cases (p x) (list_any p xs) h) [
  | inl a ↦ rw a refl
  | inr b ↦ or_right (p x) (list_any p (xs ++ ys)) (in_front p xs ys b)
]

fate_leaves : (k : ℕ) (a : Asked) (offs : List Off) (fate : Fate) → has_left fate ≡ true → list_any (leaves a.conn) (fate_entries k a offs fate) ≡ true
fate_leaves k a offs LeftWaiting h = rw (same_number a.conn) refl
fate_leaves k a offs (LeftRunning cookies) h = rw (same_number a.conn) refl
fate_leaves k a offs (LeftEnded run) h = rw (same_number a.conn) refl
fate_leaves k a offs Waiting h = absurd (true≢false (sym h))
fate_leaves k a offs (Denied slot) h = absurd (true≢false (sym h))
fate_leaves k a offs Cancelled h = absurd (true≢false (sym h))
fate_leaves k a offs Orphaned h = absurd (true≢false (sym h))
fate_leaves k a offs (Running cookies) h = absurd (true≢false (sym h))
fate_leaves k a offs (Ended run) h = absurd (true≢false (sym h))

deed_leaves : (c : ℕ) (r : Request) (d : Deed) → deed_left d ≡ true → list_any (leaves c) (deed_entries c r d) ≡ true
deed_leaves c r (Accepted k slots fate) h = fate_leaves k (asked_as c r slots) r.offs fate h
deed_leaves c r Pending h = absurd (true≢false (sym h))
deed_leaves c r (Refused status) h = absurd (true≢false (sym h))

turns_leave : (c : ℕ) (turns : List Turn) → list_any turn_left turns ≡ true → list_any (leaves c) (all_entries c turns) ≡ true
turns_leave c [] h = absurd (true≢false (sym h))
turns_leave c (Called r ∷ ts) h = elim (or_cases (deed_left r.deed) (list_any turn_left ts) h) [
  | inl a ↦ in_front (leaves c) (deed_entries c r r.deed) (all_entries c ts) (deed_leaves c r r.deed a)
  | inr b ↦ there (leaves c) (deed_entries c r r.deed) (all_entries c ts) (turns_leave c ts b)
]
turns_leave c (_ ∷ ts) h = turns_leave c ts h

pub story_leaves : (c : ℕ) (turns : List Turn) → list_any (leaves c) (story_entries c true turns) ≡ true
story_leaves c turns = elim (cases_Bool (list_any turn_left turns)) [
  | inl t ↦ rw t (turns_leave c turns t)
  | inr f ↦ rw (f, same_number c) refl
]

-- ---- once

none_kept : (p : Entry → Bool) (xs : List Entry) → list_any p xs ≡ false → filter p xs ≡ []
none_kept p [] h = refl
none_kept p (x ∷ xs) h = elim (cases_Bool (p x)) [
  | inl t ↦ absurd (true≢false (rw t at h))
  | inr f ↦ rw f (none_kept p xs (rw f at h))
]

not_left : (b : Bool) → not b ≡ true → b ≡ false
not_left false h = refl
not_left true h = absurd (true≢false (sym h))

pub left_once : (home : Home) (past : List Entry) (c : ℕ) → Legal (whole home past) → length (filter (leaves c) past) ≤ 1
left_once home [] c l = omega arith
left_once home (Leave d ∷ past) c l = elim (cases_Bool (d == c)) [
  | inl t ↦ let same = eqb-true d c t in
      let none : list_any (leaves d) past ≡ false = not_left (list_any (leaves d) past) (and_right (has_joined (whole home past) d) (not (list_any (leaves d) past)) l.0.fits) in
      let empty : filter (leaves c) past ≡ [] = none_kept (leaves c) past (subst (λ x. list_any (leaves x) past ≡ false) same none) in
      rw t (one (filter (leaves c) past) empty)
  | inr f ↦ rw f (left_once home past c l.1)
]
  where
    one : (xs : List Entry) → xs ≡ [] → suc (length xs) ≤ 1
    one xs e = let none = ap length e in omega (arith, none)
left_once home (_ ∷ past) c l = left_once home past c l.1

-- ---- at an own place

-- an own place of a history, where that item stands
pub record OwnPlace (log : List Item) (ps : List ℕ) (a : Item) : Type 0 where
  pub place : ℕ
  pub own : 0 < times place ps
  pub at : get_elem? log place ≡ some a

pub own_place : (log : List Item) (ps : List ℕ) (items : List Item) (i : ℕ) (a : Item) → map (λ p. get_elem? log p) ps ≡ map some items → get_elem? items i ≡ some a → OwnPlace log ps a
own_place log ps [] i a e at = absurd (some-ne-none a (sym at))
own_place log [] (x ∷ xs) i a e at = absurd (cc)
own_place log (p ∷ ps) (x ∷ xs) zero a e at = record { place = p; own = first p ps; at = head_is (get_elem? log p) (some x) _ _ e ∙ at }
  where
    first : (p : ℕ) (ps : List ℕ) → 0 < times p (p ∷ ps)
    first p ps = rw (same_number p) (omega arith)

    head_is : {A : Type 0} (a b : A) (xs ys : List A) → a ∷ xs ≡ b ∷ ys → a ≡ b
    head_is a b xs ys e = cc
own_place log (p ∷ ps) (x ∷ xs) (suc i) a e at =
    let r = own_place log ps xs i a (tail_is (get_elem? log p) (some x) _ _ e) at in
    let own = r.own in record { place = r.place; own = more r.place p (times r.place ps) own; at = r.at }
  where
    more : (q p n : ℕ) → 0 < n → 0 < (if q == p then 1 else 0) + n
    more q p n h = omega (arith, h)

    tail_is : {A : Type 0} (a b : A) (xs ys : List A) → a ∷ xs ≡ b ∷ ys → xs ≡ ys
    tail_is a b xs ys e = cc

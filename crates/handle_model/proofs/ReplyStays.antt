-- What each entry makes the reply of its call, and that a reply stays.
use Rattle.std.proofs.Common.{◌≡◌, ◌≢◌, ℕ, Bool, true, false, ◌&&◌, not, ◌==◌, if◌then◌else◌, Option, Some, None, List, [], ◌∷◌, refl, sym, ◌∙◌, ap, subst, arith, inl, inr}
use Rattle.std.specs.List.{list_any}
use Rattle.std.proofs.lemmas.Grind.{common_steps}
use Rattle.std.proofs.lemmas.Bool.{cases_Bool, eq-eqb, eqb-true, not-true, false_from_ne_true}
use Rattle.handle_model.specs.declared.entry.Home.{Home}
use Rattle.handle_model.specs.declared.entry.Asked.{Asked}
use Rattle.handle_model.specs.declared.entry.Outcome.{Outcome}
use Rattle.handle_model.specs.declared.entry.Said.{Said}
use Rattle.handle_model.specs.declared.entry.Entry.{Entry}
use Rattle.handle_model.specs.declared.entry.Entry.TheVariants.{Accept, Take, Deny, Cancel, Orphan, End, Leave}
use Rattle.handle_model.specs.declared.reply.Reply.{Reply}
use Rattle.handle_model.specs.declared.reply.Reply.TheVariants.{Never, Ran, Dropped, Open}
use Rattle.handle_model.specs.declared.base.Base.{Base}
use Rattle.handle_model.specs.Bases.{cancelled_before}
use Rattle.handle_model.specs.History.{History, since, with_entry}
use Rattle.handle_model.specs.Journal.{Legal, denies, cancels, ends, asked, has_left, is_taken, is_decided, is_cancelled, is_orphaned, waits, runs}
use Rattle.handle_model.specs.Replies.{context_mismatch, cancelled, is_lost, ended_with, reply_by, replies}
use Rattle.handle_model.proofs.Held.{and_left, and_right, or_right, or_cases}
use Rattle.handle_model.specs.Further.{with_entries}
use Rattle.handle_model.proofs.Accepted.{fresh_unasked}
use Rattle.handle_model.proofs.Apart.{runs_taken_before}
use Rattle.handle_model.proofs.Stages.{Undecided, undecided, since_right, waits_fresh, waits_here, taken_undenied, decided_some}

-- CALLS THAT NOTHING IS SAID OF

ends_taken : (home : Home) (base : Base) (past : List Entry) (k : ℕ) → Legal (since home base past) → list_any (ends k) past ≡ true → is_taken (since home base past) k ≡ true
ends_taken home base [] k l e = absurd (cc)
ends_taken home base (End m results said ∷ past) k l e =
    let j : History = since home base past in
    elim (or_cases (m == k) (list_any (ends k) past) e) [
      | inl q ↦ subst (λ n. is_taken j n ≡ true) (eqb-true m k q) (runs_taken_before j m l.0.fits.0)
      | inr r ↦ ends_taken home base past k l.1 r
    ]
ends_taken home base (Take m cookies ∷ past) k l e = or_right (m == k) (is_taken (since home base past) k) (ends_taken home base past k l.1 e)
ends_taken home base (_ ∷ past) k l e = ends_taken home base past k l.1 e

unended : (j : History) (k : ℕ) → Legal j → is_taken j k ≡ false → list_any (ends k) j.past ≡ false
unended j k l n = false_from_ne_true (list_any (ends k) j.past) (λ e. let t = ends_taken j.home j.base j.past k l e in cc)

none_said : (home : Home) (base : Base) (past : List Entry) (k : ℕ) → list_any (ends k) past ≡ false → ended_with (since home base past) k ≡ None
none_said home base [] k n = refl
none_said home base (End m results said ∷ past) k n = grind (arith, common_steps, none_said home base past k)
none_said home base (_ ∷ past) k n = none_said home base past k n

says_none : (j : History) (k : ℕ) → list_any (ends k) j.past ≡ false → ended_with j k ≡ None
says_none j k n = none_said j.home j.base j.past k n

-- nothing is cancelled by an entry where nothing is cancelled
uncancelled_since : (j : History) (k : ℕ) → is_cancelled j k ≡ false → list_any (cancels k) j.past ≡ false
uncancelled_since j k n = since_right (cancelled_before j.base k) (cancels k) j.past n

-- nothing is said to a call that waits, nor to one that was not accepted
idle_open : (j : History) (k : ℕ) → Legal j → Undecided j k → has_left j (asked j k) ≡ false → replies j k ≡ Open
idle_open j k l u h =
    let none = says_none j k (unended j k l u.untaken) in rw (u.undenied, uncancelled_since j k u.uncancelled, none, u.unorphaned, h) refl

waits_reply : (j : History) (k : ℕ) → Legal j → waits j k ≡ true → replies j k ≡ Open
waits_reply j k l w = idle_open j k l (waits_fresh j k l w) (waits_here j k w)

unasked_reply : (j : History) (k : ℕ) → Legal j → asked j k ≡ None → replies j k ≡ Open
unasked_reply j k l e =
    let still : is_decided j k ≡ false =
    false_from_ne_true (is_decided j k) (λ d. let some = decided_some j k l d in let none = rw e at some in cc) in
    idle_open j k l (undecided j k l still) (rw e refl)

-- REPLIES BY THEIR PARTS

abbrev pub reply_of : Bool → Bool → Option Said → Bool → Reply
reply_of denied stopped said lost = if denied then Never context_mismatch else (if stopped then Never cancelled else reply_by said lost)

and_off : (a : Bool) → (a && false) ≡ false
and_off true = refl
and_off false = refl

-- what a running call is told
runs_reply : (j : History) (k : ℕ) → Legal j → runs j k ≡ true → replies j k ≡ (if is_lost j k then Dropped else Open)
runs_reply j k l r =
    let t = and_left (is_taken j k) (not (list_any (ends k) j.past)) r in
    let n = not-true (list_any (ends k) j.past) (and_right (is_taken j k) (not (list_any (ends k) j.past)) r) in
    rw (taken_undenied j k l t, t, and_off (list_any (cancels k) j.past), says_none j k n) refl

-- once a call is lost, what it was told stays
lost_more : (denied stopped : Bool) (said : Option Said) (lost : Bool) → reply_of denied stopped said lost ≢ Open → reply_of denied stopped said true ≡ reply_of denied stopped said lost
lost_more true stopped said lost n = refl
lost_more false true said lost n = refl
lost_more false false (Some said) lost n = refl
lost_more false false None true n = refl
lost_more false false None false n = absurd (n refl)

-- WHAT EACH ENTRY MAKES IT

pub denied_reply : (j : History) (k place : ℕ) → replies (with_entry j (Deny k place)) k ≡ Never context_mismatch
denied_reply j k place = let q = eq-eqb k k refl in rw q refl

pub cancelled_reply : (j : History) (k : ℕ) → Legal j → waits j k ≡ true → replies (with_entry j (Cancel k)) k ≡ Never cancelled
cancelled_reply j k l w =
    let u = waits_fresh j k l w in let q = eq-eqb k k refl in rw (u.undenied, q, u.untaken) refl

pub orphaned_reply : (j : History) (k : ℕ) → Legal (with_entry j (Orphan k)) → replies (with_entry j (Orphan k)) k ≡ Dropped
orphaned_reply j k l =
    let q = eq-eqb k k refl in
    elim (or_cases (waits j k) (runs j k && not (is_orphaned j k)) l.0.fits) [
      | inl w ↦
          let u = waits_fresh j k l.1 w in
          let none = says_none j k (unended j k l.1 u.untaken) in rw (u.undenied, uncancelled_since j k u.uncancelled, none, q) refl
      | inr r ↦ runs_reply (with_entry j (Orphan k)) k l (and_left (runs j k) (not (is_orphaned j k)) r) ∙ rw q refl
    ]

pub ended_reply : (j : History) (k : ℕ) (results : List Outcome) (said : Said) → Legal (with_entry j (End k results said)) → replies (with_entry j (End k results said)) k ≡ (if is_lost j k then Dropped else Ran said)
ended_reply j k results said l =
    let t = and_left (is_taken j k) (not (list_any (ends k) j.past)) l.0.fits.0 in
    let q = eq-eqb k k refl in
    let d = taken_undenied j k l.1 t in
    elim (cases_Bool (is_lost j k)) [
      | inl s ↦ rw (d, t, and_off (list_any (cancels k) j.past), q, s) refl
      | inr s ↦ rw (d, t, and_off (list_any (cancels k) j.past), q, s) refl
    ]

left_lost : (j : History) (c k : ℕ) (a : Asked) → asked j k ≡ Some a → (c == a.conn) ≡ true → is_lost (with_entry j (Leave c)) k ≡ true
left_lost j c k a e q = or_right (is_orphaned j k) (has_left (with_entry j (Leave c)) (asked j k)) (rw (e, q) refl)

open_reply : (d s : Bool) (o : Option Said) (l : Bool) → reply_of d s o l ≡ Open → reply_of d s o true ≡ Dropped
open_reply true s o l e = absurd (cc)
open_reply false true o l e = absurd (cc)
open_reply false false (Some said) l e = absurd (cc)
open_reply false false None l e = refl

pub left_reply : (j : History) (c k : ℕ) (a : Asked) → asked j k ≡ Some a → a.conn ≡ c → replies j k ≡ Open → replies (with_entry j (Leave c)) k ≡ Dropped
left_reply j c k a e q n =
    let lost = left_lost j c k a e (eq-eqb c a.conn (sym q)) in
    ap (λ l. reply_of (list_any (denies k) j.past) (list_any (cancels k) j.past && not (is_taken j k)) (ended_with j k) l) lost ∙ open_reply (list_any (denies k) j.past) (list_any (cancels k) j.past && not (is_taken j k)) (ended_with j k) (is_lost j k) n

-- A REPLY STAYS

leave_kept : (j : History) (c k : ℕ) (o : Option Asked) → asked j k ≡ o → replies j k ≢ Open → replies (with_entry j (Leave c)) k ≡ replies j k
leave_kept j c k None e n = rw e refl
leave_kept j c k (Some a) e n =
    elim (cases_Bool (c == a.conn)) [
      | inl q ↦
          ap (λ l. reply_of (list_any (denies k) j.past) (list_any (cancels k) j.past && not (is_taken j k)) (ended_with j k) l) (left_lost j c k a e q) ∙ lost_more (list_any (denies k) j.past) (list_any (cancels k) j.past && not (is_taken j k)) (ended_with j k) (is_lost j k) n
      | inr q ↦ rw (e, q) refl
    ]

-- a waiting call has no reply yet
still_open : (j : History) (m k : ℕ) → Legal j → (m == k) ≡ true → waits j m ≡ true → replies j k ≢ Open → ⊥
still_open j m k l q w n = n (waits_reply j k l (subst (λ i. waits j i ≡ true) (eqb-true m k q) w))

-- an entry of a running call that leaves nothing to say but that it was dropped
dropped_kept : (lost : Bool) (r now : Reply) → r ≡ (if lost then Dropped else Open) → r ≢ Open → (lost ≡ true → now ≡ Dropped) → now ≡ r
dropped_kept true r now e n f = f refl ∙ sym e
dropped_kept false r now e n f = absurd (n e)

reply_kept : (j : History) (e : Entry) (k : ℕ) → Legal (with_entry j e) → replies j k ≢ Open → replies (with_entry j e) k ≡ replies j k
reply_kept j (Accept m a) k l n =
    elim (cases_Bool (m == k)) [
      | inl q ↦
          let same = eqb-true m k q in
          let none : asked j k ≡ None = subst (λ i. asked j i ≡ None) same (fresh_unasked j m (asked j m) l.1 l.0.fits.0 refl) in
          absurd (n (unasked_reply j k l.1 none))
      | inr q ↦ rw q refl
    ]
reply_kept j (Take m cookies) k l n =
    elim (cases_Bool (m == k)) [
      | inl q ↦ absurd (still_open j m k l.1 q l.0.fits.0 n)
      | inr q ↦ rw q refl
    ]
reply_kept j (Deny m place) k l n =
    elim (cases_Bool (m == k)) [
      | inl q ↦ absurd (still_open j m k l.1 q l.0.fits.0 n)
      | inr q ↦ rw q refl
    ]
reply_kept j (Cancel m) k l n =
    elim (cases_Bool (m == k)) [
      | inl q ↦ elim (or_cases (waits j m) (runs j m && not (is_cancelled j m)) l.0.fits) [
        | inl w ↦ absurd (still_open j m k l.1 q w n)
        | inr r ↦
            let on : runs j k ≡ true = subst (λ i. runs j i ≡ true) (eqb-true m k q) (and_left (runs j m) (not (is_cancelled j m)) r) in
            runs_reply (with_entry j (Cancel m)) k l on ∙ sym (runs_reply j k l.1 on)
      ]
      | inr q ↦ rw q refl
    ]
reply_kept j (Orphan m) k l n =
    elim (cases_Bool (m == k)) [
      | inl q ↦ elim (or_cases (waits j m) (runs j m && not (is_orphaned j m)) l.0.fits) [
        | inl w ↦ absurd (still_open j m k l.1 q w n)
        | inr r ↦
            let on : runs j k ≡ true = subst (λ i. runs j i ≡ true) (eqb-true m k q) (and_left (runs j m) (not (is_orphaned j m)) r) in
            let now : replies (with_entry j (Orphan m)) k ≡ Dropped = runs_reply (with_entry j (Orphan m)) k l on ∙ rw q refl in
            dropped_kept (is_lost j k) (replies j k) (replies (with_entry j (Orphan m)) k) (runs_reply j k l.1 on) n (λ lost. now)
      ]
      | inr q ↦ rw q refl
    ]
reply_kept j (End m results said) k l n =
    elim (cases_Bool (m == k)) [
      | inl q ↦
          let same = eqb-true m k q in
          let on : runs j k ≡ true = subst (λ i. runs j i ≡ true) same l.0.fits.0 in
          let now : replies (with_entry j (End m results said)) k ≡ (if is_lost j k then Dropped else Ran said) =
          subst (λ i. replies (with_entry j (End m results said)) i ≡ (if is_lost j i then Dropped else Ran said)) same (ended_reply j m results said l) in
          dropped_kept (is_lost j k) (replies j k) (replies (with_entry j (End m results said)) k) (runs_reply j k l.1 on) n (λ lost. now ∙ rw lost refl)
      | inr q ↦ rw q refl
    ]
reply_kept j (Leave c) k l n = leave_kept j c k (asked j k) refl n
reply_kept j _ k l n = refl

pub reply_stays : (j : History) (newer : List Entry) (k : ℕ) → Legal (with_entries j newer) → replies j k ≢ Open → replies (with_entries j newer) k ≡ replies j k
reply_stays j [] k l n = refl
reply_stays j (e ∷ newer) k l n =
    let before = reply_stays j newer k l.1 n in
    reply_kept (with_entries j newer) e k l (λ o. n (sym before ∙ o)) ∙ before

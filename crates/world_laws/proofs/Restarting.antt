-- All connections that stand may be lost, by rising name.
use Rattle.std.proofs.Common.{◌≡◌, ℕ, zero, suc, ◌≤◌, ◌⊎◌, inl, inr, Bool, true, false, cond, Some, List, [], ◌∷◌, refl, sym, ap, subst, ◌∙◌, arith}
use Rattle.std.specs.Prelude.{slice_get, slice_set, nat_le}
use Rattle.std.proofs.lemmas.Bool.{leb-true, leb-false}
use Rattle.handle_model.specs.declared.entry.Entry.{Entry}
use Rattle.world_laws.specs.Ends.{Line}
use Rattle.world_laws.specs.Calling.{lost_line}
use Rattle.world_laws.specs.Worlds.{World, with_line, IsLeast, LosesAt, LosesAll}
use Rattle.world_laws.specs.Leading.{RestartsLead}
use Rattle.world_laws.proofs.Lists.{some_is}
use Rattle.world_laws.proofs.Leading.{some_leave}

-- ---- the least name of those that stand

data Least (lines : List Line) : Type 0 where
  none_stands : ((i : ℕ) (l : Line) → slice_get lines i ≡ Some l → l.standing ≡ true → ⊥) → Least lines
  least : (i : ℕ) (l : Line) → slice_get lines i ≡ Some l → l.standing ≡ true → ((j : ℕ) (m : Line) → slice_get lines j ≡ Some m → m.standing ≡ true → l.name ≤ m.name) → Least lines

false_true : {A : Type 0} (b : Bool) → b ≡ false → b ≡ true → A
false_true b f t = absurd (cc (f, t))

le_or : (a b : ℕ) (t : Bool) → nat_le a b ≡ t → (a ≤ b) ⊎ (b ≤ a)
le_or a b true e = inl (leb-true a b e)
le_or a b false e = inr (omega (arith, leb-false a b e))

step : (l : Line) (lines : List Line) (b : Bool) → l.standing ≡ b → Least lines → Least (l ∷ lines)
step l lines false down (none_stands none) = none_stands by
  where
    by : (i : ℕ) (m : Line) → slice_get (l ∷ lines) i ≡ Some m → m.standing ≡ true → ⊥
    by zero m at up = false_true l.standing down (ap (λ (x : Line). x.standing) (some_is l m at) ∙ up)
    by (suc i) m at up = none i m at up
step l lines false down (least i k at up low) = least (suc i) k at up by
  where
    by : (j : ℕ) (m : Line) → slice_get (l ∷ lines) j ≡ Some m → m.standing ≡ true → k.name ≤ m.name
    by zero m found stands = false_true l.standing down (ap (λ (x : Line). x.standing) (some_is l m found) ∙ stands)
    by (suc j) m found stands = low j m found stands
step l lines true up (none_stands none) = least zero l refl up by
  where
    by : (j : ℕ) (m : Line) → slice_get (l ∷ lines) j ≡ Some m → m.standing ≡ true → l.name ≤ m.name
    by zero m found stands = omega (arith, ap (λ (x : Line). x.name) (some_is l m found))
    by (suc j) m found stands = absurd (none j m found stands)
step l lines true up (least i k at stands low) = choose (le_or l.name k.name (nat_le l.name k.name) refl)
  where
    mine : l.name ≤ k.name → (j : ℕ) (m : Line) → slice_get (l ∷ lines) j ≡ Some m → m.standing ≡ true → l.name ≤ m.name
    mine le zero m found s = omega (arith, ap (λ (x : Line). x.name) (some_is l m found))
    mine le (suc j) m found s = omega (arith, le, low j m found s)

    theirs : k.name ≤ l.name → (j : ℕ) (m : Line) → slice_get (l ∷ lines) j ≡ Some m → m.standing ≡ true → k.name ≤ m.name
    theirs le zero m found s = omega (arith, le, ap (λ (x : Line). x.name) (some_is l m found))
    theirs le (suc j) m found s = low j m found s

    choose : (l.name ≤ k.name) ⊎ (k.name ≤ l.name) → Least (l ∷ lines)
    choose (inl le) = least zero l refl up (mine le)
    choose (inr le) = least (suc i) k at stands (theirs le)

nothing : (i : ℕ) (l : Line) → (let xs : List Line = [] in slice_get xs i) ≡ Some l → ⊥
nothing i l e = absurd (cc (e))

least_of : (lines : List Line) → Least lines
least_of [] = none_stands (λ i l at up. nothing i l at)
least_of (l ∷ lines) = step l lines l.standing refl (least_of lines)

-- ---- one after the other

abbrev standing_in : List Line → ℕ
standing_in [] = 0
standing_in (l ∷ lines) = cond l.standing (suc (standing_in lines)) (standing_in lines)

fewer : (lines : List Line) (i : ℕ) (l : Line) → slice_get lines i ≡ Some l → l.standing ≡ true → suc (standing_in (slice_set lines i (lost_line l))) ≡ standing_in lines
fewer [] i l at up = absurd (nothing i l at)
fewer (k ∷ lines) zero l at up = sym (ap (λ (b : Bool). cond b (suc (standing_in lines)) (standing_in lines)) (ap (λ (x : Line). x.standing) (some_is k l at) ∙ up))
fewer (k ∷ lines) (suc i) l at up = by k.standing (fewer lines i l at up)
  where
    by : (b : Bool) → suc (standing_in (slice_set lines i (lost_line l))) ≡ standing_in lines
        → suc (cond b (suc (standing_in (slice_set lines i (lost_line l)))) (standing_in (slice_set lines i (lost_line l)))) ≡ cond b (suc (standing_in lines)) (standing_in lines)
    by true e = ap suc e
    by false e = e

record LosesSome (w : World) : Type 0 where
  names : List ℕ
  after_ : World
  all : LosesAll w names after_

one_first : (w : World) (i : ℕ) (l : Line) (past : List Entry) → slice_get w.lines i ≡ Some l → l.standing ≡ true → IsLeast w l.name → LosesAt w l.name (with_line w i (lost_line l) past) → LosesSome (with_line w i (lost_line l) past) → LosesSome w
one_first w i l past at up low lost more = record { names = l.name ∷ more.names; after_ = more.after_; all = (low, (with_line w i (lost_line l) past, lost, more.all)) }

by_least : (n : ℕ) (w : World) → standing_in w.lines ≤ n → ((k : ℕ) → n ≡ suc k → (u : World) → standing_in u.lines ≤ k → LosesSome u) → Least w.lines → LosesSome w
by_least n w few go (none_stands none) = record { names = []; after_ = w; all = (refl, none) }
by_least zero w few go (least i l at up low) = absurd (omega (arith, few, fewer w.lines i l at up))
by_least (suc n) w few go (least i l at up low) =
    let (past, leaves) = some_leave w.past l.server.member in
    one_first w i l past at up low (i, l, at, refl, up, (lost_line l, past, (refl, leaves), refl)) (go n refl (with_line w i (lost_line l) past) (omega (arith, few, fewer w.lines i l at up)))

same_suc : (n k : ℕ) → suc n ≡ suc k → n ≡ k
same_suc n k e = omega (arith, e)

loses_all : (n : ℕ) (w : World) → standing_in w.lines ≤ n → LosesSome w
loses_all zero w few = by_least zero w few (λ k e u h. absurd (omega (arith, e))) (least_of w.lines)
loses_all (suc n) w few = by_least (suc n) w few (λ k e u h. loses_all n u (subst (λ (x : ℕ). standing_in u.lines ≤ x) (sym (same_suc n k e)) h)) (least_of w.lines)

pub restarts_lead : RestartsLead
restarts_lead table w = let s = loses_all (standing_in w.lines) w (omega arith) in (s.after_, (s.names, s.all))

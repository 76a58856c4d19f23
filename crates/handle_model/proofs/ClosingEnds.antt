-- A handle that was closed was closed by the End of a call, at a slot that names it.
use Rattle.std.proofs.Common.{◌≡◌, ◌≢◌, ℕ, ◌+◌, zero, suc, arith, Bool, true, false, cond, Option, Some, None, List, [], ◌∷◌, ◌++◌, refl, sym, ap, ◌∙◌, ◌⊎◌, inl, inr, subst, slice_get}
use Rattle.rpc_base.specs.declared.identifiers.WireHandle.{WireHandle}
use Rattle.handle_model.specs.declared.entry.Home.{Home}
use Rattle.handle_model.specs.declared.entry.Slot.{Slot}
use Rattle.handle_model.specs.declared.entry.Outcome.{Outcome}
use Rattle.handle_model.specs.declared.entry.Outcome.TheVariants.{Keep, Close, Issue, Nothing}
use Rattle.handle_model.specs.declared.entry.Said.{Said}
use Rattle.handle_model.specs.declared.entry.Entry.{Entry}
use Rattle.handle_model.specs.declared.entry.Entry.TheVariants.{End}
use Rattle.handle_model.specs.declared.base.Base.{Base}
use Rattle.handle_model.specs.Slots.{wire_of, names}
use Rattle.handle_model.specs.History.{History, since}
use Rattle.handle_model.specs.Journal.{slots, closes}
use Rattle.handle_model.specs.Fates.{closed_slots, closings_since, ClosesAt, ClosedBy, ClosingsAreEnds}

-- the first of two counts, or the second, isn't none
one_of : (m n : ℕ) → m + n ≢ zero → (m ≢ zero) ⊎ (n ≢ zero)
one_of zero n u = inr (λ (e : n ≡ zero). u (omega arith))
one_of (suc m) n u = inl (λ (e : suc m ≡ zero). absurd cc)

-- at the head it is closed, or further on
here_or_on : (b : Bool) (n : ℕ) → (cond b 1 0) + n ≢ zero → (b ≡ true) ⊎ (n ≢ zero)
here_or_on true n u = inl refl
here_or_on false n u = inr (λ (e : n ≡ zero). u (omega arith))

is_close : (wire : WireHandle) (s : Slot) (o : Outcome) → closes wire s o ≡ true → (o ≡ Close) × (names wire s ≡ true)
is_close wire s Close e = (refl, e)
is_close wire s (Keep c) e = absurd cc
is_close wire s (Issue n c) e = absurd cc
is_close wire s Nothing e = absurd cc

on : (wire : WireHandle) (s : Slot) (ss : List Slot) (o : Outcome) (os : List Outcome) → ClosesAt wire ss os → ClosesAt wire (s ∷ ss) (o ∷ os)
on wire s ss o os c = record { place = suc c.place; slot = c.slot; is_slot = c.is_slot; names_it = c.names_it; is_closed = c.is_closed }

closes_at : (wire : WireHandle) (ss : List Slot) (os : List Outcome) → closed_slots wire ss os ≢ 0 → ClosesAt wire ss os
closes_at wire [] os u = absurd (u refl)
closes_at wire (s ∷ ss) [] u = absurd (u refl)
closes_at wire (s ∷ ss) (o ∷ os) u =
    elim (here_or_on (closes wire s o) (closed_slots wire ss os) u) [
      | inl e ↦
          let both = is_close wire s o e in
          record { place = 0; slot = s; is_slot = refl; names_it = both.1; is_closed = ap (λ (x : Outcome). Some x) both.0 }
      | inr n ↦ on wire s ss o os (closes_at wire ss os n)
    ]

further : (home : Home) (base : Base) (x : Entry) (past : List Entry) (h : ℕ) → ClosedBy (since home base past) h → ClosedBy (since home base (x ∷ past)) h
further home base x past h c =
    record { call = c.call; results = c.results; said = c.said; newer = x ∷ c.newer; older = c.older; is = ap (λ (es : List Entry). x ∷ es) c.is; at = c.at }

closed_by : (home : Home) (base : Base) (past : List Entry) (h : ℕ) → closings_since home base past h ≢ 0 → ClosedBy (since home base past) h
closed_by home base [] h u = absurd (u refl)
closed_by home base (End k results said ∷ past) h u =
    elim (one_of (closed_slots (wire_of home h) (slots (since home base past) k) results) (closings_since home base past h) u) [
      | inl n ↦
          record { call = k; results = results; said = said; newer = []; older = past; is = refl; at = closes_at (wire_of home h) (slots (since home base past) k) results n }
      | inr n ↦ further home base (End k results said) past h (closed_by home base past h n)
    ]
closed_by home base (x ∷ past) h u = further home base x past h (closed_by home base past h u)

pub closings_are_ends : ClosingsAreEnds
closings_are_ends j h u = closed_by j.home j.base j.past h u

-- What may come next for the least waiting call of a legal history, whose newest entry is its first.
use Rattle.std.specs.Prelude.{◌≡◌, ℕ, Option, Some, None, List, [], MatchOption}
use Rattle.handle_model.specs.declared.entry.Entry.TheVariants.{Take, Deny}
use Rattle.handle_model.specs.History.{History}
use Rattle.handle_model.specs.Journal.{Legal, Allowed, waiting, least, running, blocker, fault, slots, cookies_for}

-- a Take with these cookies is allowed, and no other Take or Deny of the call
pub record OnlyTake (j : History) (k : ℕ) : Type 0 where
  pub allowed : Allowed j (Take k (cookies_for j (slots j k)))
  pub no_other : (cookies : List (Option ℕ)) → Allowed j (Take k cookies) → cookies ≡ cookies_for j (slots j k)
  pub no_deny : (place : ℕ) → Allowed j (Deny k place) → ⊥

-- the Deny at that slot is allowed, and no other Deny or Take of the call
pub record OnlyDeny (j : History) (k place : ℕ) : Type 0 where
  pub allowed : Allowed j (Deny k place)
  pub no_other : (i : ℕ) → Allowed j (Deny k i) → i ≡ place
  pub no_take : (cookies : List (Option ℕ)) → Allowed j (Take k cookies) → ⊥

-- while no call runs, the least waiting call is blocked by none, and can be taken or denied in one way
abbrev pub LeastGoesOn : Type 0
LeastGoesOn =
    (j : History) (k : ℕ) → Legal j → running j ≡ [] → least (waiting j) ≡ Some k
    → (blocker j k ≡ None) × MatchOption (fault j k) (OnlyTake j k) (OnlyDeny j k)

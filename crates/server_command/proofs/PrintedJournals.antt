-- Which connections a legal journal knows, and how it ends.
use Rattle.std.proofs.Common.{◌≡◌, ◌⊎◌, ◌∙◌, ◌==◌, ℕ, Bool, true, false, ◌&&◌, ◌||◌, not, Option, Some, None, List, [], ◌∷◌, ◌++◌, refl, sym, ap, subst, arith, inl, inr, true≢false}
use Rattle.std.specs.List.{list_any, filter}
use Rattle.std.proofs.lemmas.Bool.{cases_Bool, eqb-true}
use Rattle.handle_model.specs.declared.entry.Home.{Home}
use Rattle.handle_model.specs.declared.entry.Asked.{Asked}
use Rattle.handle_model.specs.declared.entry.Entry.{Entry}
use Rattle.handle_model.specs.declared.entry.Entry.TheVariants.{Join, Accept, Take, Deny, Cancel, Orphan, End, Leave, Shut}
use Rattle.handle_model.specs.Since.{any_since}
use Rattle.handle_model.specs.Journal.{Legal, joins, leaves, is_shut, is_open, has_joined, asked}
use Rattle.handle_model.proofs.Held.{and_left, or_right, or_cases}
use Rattle.conn_histories.specs.Tales.{whole}
use Rattle.server_rounds.specs.Endings.{IsThere}
use Rattle.server_command.specs.Groups.{EndsWithShut}

pub there : (p : Entry → Bool) (newer older : List Entry) → list_any p older ≡ true → list_any p (newer ++ older) ≡ true
there p [] older h = h
there p (e ∷ newer) older h = or_right (p e) (list_any p (newer ++ older)) (there p newer older h)

pub any_kept : (p q : Entry → Bool) (xs : List Entry) → list_any p (filter q xs) ≡ true → list_any p xs ≡ true
any_kept p q [] h = h
any_kept p q (x ∷ xs) h = elim (cases_Bool (q x)) [
  | inl t ↦ elim (or_cases (p x) (list_any p (filter q xs)) (rw t at h)) [
    | inl a ↦ rw a refl
    | inr b ↦ or_right (p x) (list_any p xs) (any_kept p q xs b)
  ]
  | inr f ↦ or_right (p x) (list_any p xs) (any_kept p q xs (rw f at h))
]

-- nothing stands behind a Shut
pub shut_ends : (home : Home) (past : List Entry) → Legal (whole home past) → list_any is_shut past ≡ true → EndsWithShut past
shut_ends home [] l h = absurd (true≢false (sym h))
shut_ends home (Shut items ∷ past) l h = tt
shut_ends home (_ ∷ past) l h = absurd (true≢false (sym h ∙ l.0.before_shut))

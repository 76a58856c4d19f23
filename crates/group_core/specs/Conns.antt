-- What is answered when a connection joins a group and leaves it, and what it adds.
use Rattle.std.specs.Prelude.{◌≡◌, ℕ, ◌+◌, true, false, Some, None, Result, Ok, Err, [], ◌∷◌}
use Rattle.handle_model.specs.declared.entry.Entry.{Entry}
use Rattle.handle_model.specs.declared.entry.Entry.TheVariants.{Join, Leave, Shut}
use Rattle.handle_model.specs.declared.limits.JoinLimit.TheVariants as limit
use Rattle.handle_model.specs.Journal.{join_count, due, due_items}
use Rattle.handle_model.specs.History.{History, with_entry}
use Rattle.handle_model.specs.Folds.{folded}
use Rattle.handle_model.specs.Limits.{join_limit}
use Rattle.group_core.specs.declared.answer.JoinRefusal.{JoinRefusal}
use Rattle.group_core.specs.declared.answer.JoinRefusal.TheVariants.{TooMany, Numbers, Memory}
use Rattle.group_core.specs.declared.answer.Rest.{Rest}
use Rattle.group_core.specs.declared.answer.Rest.TheVariants as rest
use Rattle.group_core.specs.Adds.{Adds}

-- a connection joins, with the next number; first the older entries move into the base, as far as nothing open needs them
abbrev pub Joins : History → Result ℕ JoinRefusal → History → Type 0
Joins old (Ok c) new = (join_limit old ≡ None) × (c ≡ join_count old + 1) × Adds (folded old) (Join c ∷ []) new
Joins old (Err TooMany) new = (join_limit old ≡ Some limit.TooMany) × Adds old [] new
Joins old (Err Numbers) new = (join_limit old ≡ Some limit.Numbers) × Adds old [] new
Joins old (Err Memory) new = Adds old [] new

-- an entry comes, and then the Shut where it is due, with the handles that are to be run down
abbrev pub Settles : History → Entry → Rest → History → Type 0
Settles old e rest.Stays new = (due (with_entry old e) ≡ false) × Adds old (e ∷ []) new
Settles old e (rest.Shut items) new =
    (due (with_entry old e) ≡ true) × (items ≡ due_items (with_entry old e)) × Adds old (Shut items ∷ e ∷ []) new

abbrev pub Leaves : History → ℕ → Rest → History → Type 0
Leaves old c rest new = Settles old (Leave c) rest new

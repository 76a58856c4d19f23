-- What a group answers by its whole journal, where that differs from what it answers by the journal as it keeps it.
use Rattle.std.specs.Prelude.{◌≡◌, ℕ, ◌+◌, None, Result, Ok, Err, [], ◌∷◌}
use Rattle.handle_model.specs.declared.entry.Entry.TheVariants.{Join}
use Rattle.handle_model.specs.Journal.{join_count}
use Rattle.handle_model.specs.History.{History}
use Rattle.handle_model.specs.Limits.{join_limit}
use Rattle.group_core.specs.declared.answer.JoinRefusal.{JoinRefusal}
use Rattle.group_core.specs.Adds.{Adds}
use Rattle.group_core.specs.Conns.{Joins}

-- a connection joins, with the next number, behind all that came before
abbrev pub JoinsWhole : History → Result ℕ JoinRefusal → History → Type 0
JoinsWhole old (Ok c) new = (join_limit old ≡ None) × (c ≡ join_count old + 1) × Adds old (Join c ∷ []) new
JoinsWhole old (Err refusal) new = Joins old (Err refusal) new

-- A group's history, and what always holds of it.
use Rattle.std.specs.Prelude.{◌≡◌, false}
pub use Rattle.handle_model.specs.Since.{History, since, with_entry, history_of, size}
use Rattle.handle_model.specs.Rules.{Legal, due}

-- a legal history at whose end no Shut is due
pub record IsSound (j : History) : Type 0 where
  pub legal : Legal j
  pub settled : due j ≡ false

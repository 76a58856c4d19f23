-- The texts of histories, whose entries stand newest first.
use Rattle.std.specs.Prelude.{ℕ, List, [], ◌∷◌, ◌++◌, reverse}
use Rattle.handle_model.specs.History.{History}
use Rattle.journal_text.specs.Texts.{journal_text}

abbrev pub history_text : History → List ℕ
history_text j = journal_text j.home j.base (reverse j.past)

abbrev pub journals_text : List History → List ℕ
journals_text [] = []
journals_text (j ∷ js) = history_text j ++ journals_text js

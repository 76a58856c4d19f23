-- Texts of items in lists.
use Rattle.std.specs.Prelude.{◌≢◌, List, ℕ, codes}
use Rattle.base_words.specs.Reads.{HasNo}

-- an item may have the text: it has no comma, and is not a dash
abbrev pub IsItemText : List ℕ → Type 0
IsItemText w = HasNo 44 w × (w ≢ codes "-")

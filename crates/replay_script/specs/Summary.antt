-- The line of a load.
use Rattle.std.specs.Prelude.{◌≡◌, ℕ, List, [], ◌∷◌, ◌++◌, codes, decimal}
use Rattle.replay_script.specs.declared.counts.Counts.{Counts}
use Rattle.replay_script.specs.Counting.{shown}

-- a word, and a number behind it
unfoldable pub number_text : List ℕ → ℕ → List ℕ
number_text word n = word ++ decimal n

unfoldable pub front_text : ℕ → Counts → List ℕ
front_text steps x = number_text (codes "steps ") steps ++ number_text (codes " groups ") x.groups ++ number_text (codes " accepted ") x.accepted

unfoldable pub calls_text : Counts → List ℕ
calls_text x = number_text (codes " taken ") x.taken ++ number_text (codes " denied ") x.denied ++ number_text (codes " cancelled ") x.cancelled

unfoldable pub handles_text : Counts → List ℕ
handles_text x = number_text (codes " issued ") x.issued ++ number_text (codes " closed ") x.closed ++ number_text (codes " rundown ") x.rundown

abbrev pub summary_text : ℕ → Counts → List ℕ
summary_text steps x = front_text steps x ++ calls_text x ++ handles_text x ++ 10 ∷ []

-- the text is put, of the counts that are shown
abbrev pub Told : ℕ → Counts → List ℕ → List ℕ → Type 0
Told steps x old new = (z : Counts) → x ≡ shown z → new ≡ old ++ summary_text steps z

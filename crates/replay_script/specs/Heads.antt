-- A line as the reader cuts it. Only the reader's own clauses speak of this.
use Rattle.std.specs.Prelude.{ℕ, List, [], ◌∷◌}
use Rattle.std.specs.List.{join_with_byte}
use Rattle.replay_script.specs.declared.line.Line.{Line}
use Rattle.replay_script.specs.Lines.{words_of}

-- the first word, and what stands behind the space after it
abbrev pub cut_first : List (List ℕ) → List (List ℕ)
cut_first [] = []
cut_first (word ∷ words) = word ∷ join_with_byte 32 words ∷ []

abbrev pub head_and_rest : Line → List (List ℕ)
head_and_rest line = cut_first (words_of line)

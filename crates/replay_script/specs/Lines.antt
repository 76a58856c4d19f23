-- The lines of a script and their texts.
use Rattle.std.specs.Prelude.{◌≡◌, ℕ, ◌^◌, ◌<◌, List, [], ◌∷◌, ◌++◌, codes, decimal}
use Rattle.std.specs.List.{join_with_byte, AllByRecursion, flat_map}
use Rattle.hex.specs.Hex.{IsBytes}
use Rattle.base_words.specs.Words.{octets_text, hex_u64, IsBetween}
use Rattle.replay_script.specs.declared.line.Line.{Line}
use Rattle.replay_script.specs.declared.line.Line.TheVariants.{Boot, Open, Send, Run, Finish, Lose}

-- a number that a script may give to a connection
abbrev pub IsConnection : ℕ → Type 0
IsConnection c = IsBetween 1 1000000 c

-- what a line of a script may hold
abbrev pub FitsLine : Line → Type 0
FitsLine (Boot x) = x < 2 ^ 64
FitsLine (Open c) = IsConnection c
FitsLine (Send c octets) = IsConnection c × IsBytes octets
FitsLine (Run c) = IsConnection c
FitsLine (Finish c) = IsConnection c
FitsLine (Lose c) = IsConnection c

abbrev pub words_of : Line → List (List ℕ)
words_of (Boot x) = codes "boot" ∷ hex_u64 x ∷ []
words_of (Open c) = codes "open" ∷ decimal c ∷ []
words_of (Send c octets) = codes "send" ∷ decimal c ∷ octets_text octets ∷ []
words_of (Run c) = codes "run" ∷ decimal c ∷ []
words_of (Finish c) = codes "finish" ∷ decimal c ∷ []
words_of (Lose c) = codes "lose" ∷ decimal c ∷ []

-- the words with one space between each two
abbrev pub line_body : Line → List ℕ
line_body line = join_with_byte 32 (words_of line)

-- a line with its line feed
unfoldable pub line_text : Line → List ℕ
line_text line = line_body line ++ 10 ∷ []

unfoldable pub text_of_lines : List Line → List ℕ
text_of_lines lines = flat_map line_text lines

abbrev pub FitLines : List Line → Type 0
FitLines lines = AllByRecursion FitsLine lines

-- no line of a script begins the text
abbrev pub BeginsWithNoLine : List ℕ → Type 0
BeginsWithNoLine text = (line : Line) (rest : List ℕ) → FitsLine line → text ≡ line_text line ++ rest → ⊥

-- the text begins with the line, and the rest follows it
abbrev pub BeginsWith : Line → List ℕ → List ℕ → Type 0
BeginsWith line rest text = FitsLine line × (text ≡ line_text line ++ rest)

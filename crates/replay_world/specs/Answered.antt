-- The PDUs that were answered, of what was printed.
use Rattle.std.specs.Prelude.{◌≡◌, ℕ, ◌^◌, ◌<◌, Option, Some, None, option_to_list, List, [], ◌∷◌, ◌++◌}
use Rattle.std.specs.List.{AllByRecursion}
use Rattle.hex.specs.Hex.{IsBytes}
use Rattle.replay_world.specs.Worlds.{Printed}
use Rattle.replay_world.specs.Worlds.Printed.{Answered, Waits, Idle}
use Rattle.replay_world.specs.Printing.{printed_body, out_text}

abbrev pub answered : Printed → Option (List ℕ)
answered (Answered c octets) = Some octets
answered _ = None

abbrev pub answered_pdus : List Printed → List (List ℕ)
answered_pdus [] = []
answered_pdus (p ∷ more) = option_to_list (answered p) ++ answered_pdus more

-- ---- as they are read of a text

-- what a printed line may hold
abbrev pub FitsPrinted : Printed → Type 0
FitsPrinted (Answered c octets) = (c < 2 ^ 64) × IsBytes octets
FitsPrinted (Waits c k) = (c < 2 ^ 64) × (k < 2 ^ 64)
FitsPrinted (Idle c) = c < 2 ^ 64

-- of a line without its line feed
abbrev pub LineTells : List ℕ → Option (List ℕ) → Type 0
LineTells line found = (p : Printed) → FitsPrinted p → line ≡ printed_body p → found ≡ answered p

abbrev pub AddsLine : List ℕ → List (List ℕ) → List (List ℕ) → Type 0
AddsLine line old new = (p : Printed) → FitsPrinted p → line ≡ printed_body p → new ≡ old ++ option_to_list (answered p)

-- of the text of lines
abbrev pub AddsText : List ℕ → List (List ℕ) → List (List ℕ) → Type 0
AddsText text old new = (lines : List Printed) → AllByRecursion FitsPrinted lines → text ≡ out_text lines → new ≡ old ++ answered_pdus lines

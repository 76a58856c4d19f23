-- Scripts of a grammar, and the first line at which a text departs from them.
--
-- The grammar P says which lists of lines are scripts. Nothing here reads: a text is compared with
-- the texts of the grammar's own lists.
use Rattle.std.specs.Prelude.{◌≡◌, ℕ, ◌-◌, ◌≤◌, List, ◌++◌, length, take}
use Rattle.replay_script.specs.declared.line.Line.{Line}
use Rattle.replay_script.specs.Lines.{FitLines, text_of_lines}

-- the octets are the text of a script
pub record IsScript (P : List Line → Type 0) (octets : List ℕ) : Type 0 where
  pub lines : List Line
  pub fits : FitLines lines
  pub script : P lines
  pub text : octets ≡ text_of_lines lines

-- the octets begin with the first n lines of a script
pub record BeginsScript (P : List Line → Type 0) (n : ℕ) (octets : List ℕ) : Type 0 where
  pub lines : List Line
  pub fits : FitLines lines
  pub script : P lines
  pub has : n ≤ length lines
  pub rest : List ℕ
  pub text : octets ≡ text_of_lines (take n lines) ++ rest

-- Line n, from 1, is the first that departs: the lines before it are those of a script, and with it they aren't.
pub record DepartsAt (P : List Line → Type 0) (n : ℕ) (octets : List ℕ) : Type 0 where
  pub from_one : 1 ≤ n
  pub before : BeginsScript P (n - 1) octets
  pub here : BeginsScript P n octets → ⊥
  pub whole : IsScript P octets → ⊥

-- the lines are the first lines of some script
pub record IsFront (P : List Line → Type 0) (lines : List Line) : Type 0 where
  pub more : List Line
  pub fits : FitLines (lines ++ more)
  pub script : P (lines ++ more)

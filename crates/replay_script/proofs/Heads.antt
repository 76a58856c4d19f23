-- The first word of a line, and what follows it.
use Rattle.std.proofs.Common.{◌≡◌, ℕ, List, [], ◌∷◌, ◌++◌, refl, ap, sym, ◌∙◌, arith, codes, Option, Some, None, Result, Ok, Err}
use Rattle.std.specs.Prelude.{IfOk}
use Rattle.std.specs.List.{join_with_byte}
use Rattle.base_words.specs.Reads.{HasNo, Reads}
use Rattle.base_words.proofs.Cuts.{same_cut, no_cut}
use Rattle.base_words.proofs.Ink.{HasNo-ink, ink_name}
use Rattle.replay_script.specs.declared.line.Line.{Line}
use Rattle.replay_script.specs.declared.line.Line.TheVariants.{Boot, Open, Send, Run, Finish, Lose}
use Rattle.replay_script.specs.Lines.{FitsLine, line_body}
use Rattle.replay_script.specs.Heads.{head_and_rest}

pub record Head (l : Line) : Type 0 where
  pub name : List ℕ
  pub rest : List ℕ
  pub both : head_and_rest l ≡ name ∷ rest ∷ []
  pub body : line_body l ≡ name ++ (32 ∷ rest)
  pub one_word : HasNo 32 name

head : (l : Line) (name rest : List ℕ) → head_and_rest l ≡ name ∷ rest ∷ [] → line_body l ≡ name ++ (32 ∷ rest) → HasNo 32 name → Head l
head l name rest e f h = record { name = name; rest = rest; both = e; body = f; one_word = h }

pub head_of : (l : Line) → Head l
head_of (Boot x) = head (Boot x) (codes "boot") _ refl refl (HasNo-ink 32 (codes "boot") (omega arith) (ink_name (codes "boot") refl))
head_of (Open c) = head (Open c) (codes "open") _ refl refl (HasNo-ink 32 (codes "open") (omega arith) (ink_name (codes "open") refl))
head_of (Send c octets) = head (Send c octets) (codes "send") _ refl refl (HasNo-ink 32 (codes "send") (omega arith) (ink_name (codes "send") refl))
head_of (Run c) = head (Run c) (codes "run") _ refl refl (HasNo-ink 32 (codes "run") (omega arith) (ink_name (codes "run") refl))
head_of (Finish c) = head (Finish c) (codes "finish") _ refl refl (HasNo-ink 32 (codes "finish") (omega arith) (ink_name (codes "finish") refl))
head_of (Lose c) = head (Lose c) (codes "lose") _ refl refl (HasNo-ink 32 (codes "lose") (omega arith) (ink_name (codes "lose") refl))

pub body_of_head : (l : Line) → join_with_byte 32 (head_and_rest l) ≡ line_body l
body_of_head (Boot x) = refl
body_of_head (Open c) = refl
body_of_head (Send c octets) = refl
body_of_head (Run c) = refl
body_of_head (Finish c) = refl
body_of_head (Lose c) = refl

-- a line has a space
pub no_head : (l : Line) (body : List ℕ) → HasNo 32 body → line_body l ≡ body → ⊥
no_head l body none e = let h = head_of l in no_cut 32 h.name h.rest body none (sym e ∙ h.body)

two : (a b x y : List ℕ) → a ≡ x → b ≡ y → a ∷ b ∷ [] ≡ x ∷ y ∷ []
two a b x y e f = cc

-- a body that is cut at its first space has these two parts alone
pub head_of_cut : (l : Line) (name rest : List ℕ) → HasNo 32 name → line_body l ≡ name ++ (32 ∷ rest) → head_and_rest l ≡ name ∷ rest ∷ []
head_of_cut l name rest none e =
    let h = head_of l in
    let same = same_cut 32 h.name name h.rest rest h.one_word none (sym h.body ∙ e) in
    h.both ∙ two _ _ _ _ same.0 same.1

reads : (body name rest : List ℕ) (found : Option Line) → body ≡ name ++ (32 ∷ rest) → HasNo 32 name → Reads FitsLine head_and_rest (name ∷ rest ∷ []) found → Reads FitsLine line_body body found
reads body name rest None e none h = λ l fits f. h l fits (head_of_cut l name rest none (f ∙ e))
reads body name rest (Some l) e none h = (h.0, sym (body_of_head l) ∙ (ap (join_with_byte 32) h.1 ∙ sym e))

-- what is exact of the two parts is exact of the body
pub reads_body : {E : Type 0} (body name rest : List ℕ) (r : Result (Option Line) E) → body ≡ name ++ (32 ∷ rest) → HasNo 32 name → IfOk r (Reads FitsLine head_and_rest (name ∷ rest ∷ [])) → IfOk r (Reads FitsLine line_body body)
reads_body body name rest (Ok found) e none h = reads body name rest found e none h
reads_body body name rest (Err x) e none h = tt

pub heads_same : (l m : Line) → line_body l ≡ line_body m → head_and_rest l ≡ head_and_rest m
heads_same l m e =
    let h = head_of m in
    head_of_cut l h.name h.rest h.one_word (e ∙ h.body) ∙ sym h.both

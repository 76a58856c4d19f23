-- What is written grows by the next octets of a text.
use Rattle.std.proofs.Common.{◌≡◌, ℕ, ◌+◌, ◌-◌, List, ◌++◌, length, take, drop, refl, ap, sym, ◌∙◌, arith, Option, Some, None, append_assoc, length-drop}
use Rattle.std.specs.Io.KnownBytes.{append_known}
use Rattle.std.proofs.Math.Seq.{take-add}
use Rattle.std.proofs.lemmas.List.{take_all}

append_twice : (o : Option (List ℕ)) (x y : List ℕ) → append_known (append_known o x) y ≡ append_known o (x ++ y)
append_twice None x y = refl
append_twice (Some a) x y = ap Some (append_assoc a x y)

-- `&text[k..]` is the rest of the text
pub rest_is : (t : List ℕ) (k : ℕ) → take (length t - k) (drop k t) ≡ drop k t
rest_is t k = take_all (length t - k) (drop k t) (omega (arith, length-drop k t))

pub grown : (o : Option (List ℕ)) (t piece : List ℕ) (k c : ℕ) → piece ≡ drop k t → append_known (append_known o (take k t)) (take c piece) ≡ append_known o (take (k + c) t)
grown o t piece k c e =
    append_twice o (take k t) (take c piece) ∙ ap (append_known o) (ap (λ p. take k t ++ take c p) e ∙ sym (take-add k c t))

-- The files, and what the desk keeps of them.
use Rattle.std.proofs.Common.{◌≡◌, ℕ, suc, ◌+◌, Bool, true, false, List, [], ◌∷◌, ◌++◌, length, Option, Some, None, refl, ap, ◌∙◌, arith}
use Rattle.std.specs.Prelude.{bytes_eq, if◌then◌else◌}
use Rattle.store_manager.specs.declared.file.File.{File}
use Rattle.store_manager.specs.Files.{named_from}

-- a name that no file had is that of the new one
not_first : (b : Bool) (n : ℕ) (o : Option ℕ) → (if b then Some n else o) ≡ None → (b ≡ false) × (o ≡ None)
not_first true n o e = absurd (cc)
not_first false n o e = (refl, e)

pub named_new : (n : ℕ) (name : List ℕ) (f : File) (fs : List File) → bytes_eq f.name name ≡ true → named_from n name fs ≡ None → named_from n name (fs ++ f ∷ []) ≡ Some (n + length fs)
named_new n name f [] e none = rw e (let z : n ≡ n + 0 = omega arith in ap Some z)
named_new n name f (g ∷ fs) e none =
    let h = not_first (bytes_eq g.name name) n (named_from (n + 1) name fs) none in
    let z : n + 1 + length fs ≡ n + suc (length fs) = omega arith in
    ap (λ (b : Bool). if b then Some n else named_from (n + 1) name (fs ++ f ∷ [])) h.0 ∙ named_new (n + 1) name f fs e h.1 ∙ ap Some z

-- other names stay
pub named_other : (n : ℕ) (name : List ℕ) (f : File) (fs : List File) → bytes_eq f.name name ≡ false → named_from n name (fs ++ f ∷ []) ≡ named_from n name fs
named_other n name f [] e = rw e refl
named_other n name f (g ∷ fs) e = ap (λ (o : Option ℕ). if bytes_eq g.name name then Some n else o) (named_other (n + 1) name f fs e)

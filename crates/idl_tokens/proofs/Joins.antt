-- The machine on one grammar and then another.
use Rattle.std.proofs.Common.{◌≡◌, ℕ, Bool, true, false, ◌&&◌, List, [], ◌∷◌, ◌++◌, refl, ap, sym, ◌∙◌, Option, None, Some, append_assoc}
use Rattle.idl_tokens.specs.Ebnf.{Ebnf}
use Rattle.idl_tokens.specs.Machine.{null, nulls, joined, after, after_all, Next}

pub joined_joined : (o : Option Next) (n : Bool) (t : List Ebnf) (p : Option Next) (m : Bool) (s : List Ebnf) (q : Option Next) → joined (joined o n t p) (n && m) s q ≡ joined o n (t ++ s) (joined p m s q)
joined_joined (Some u) n t p m s q = ap (λ (v : List Ebnf). Some (record { limit = u.limit; wanted = v })) (append_assoc u.wanted t s)
joined_joined None true t p m s q = refl
joined_joined None false t p m s q = refl

and_assoc : (a b c : Bool) → (a && b) && c ≡ a && (b && c)
and_assoc true b c = refl
and_assoc false b c = refl

pub nulls-append : (t s : List Ebnf) → nulls (t ++ s) ≡ (nulls t && nulls s)
nulls-append [] s = refl
nulls-append (g ∷ t) s = ap (λ b. null g && b) (nulls-append t s) ∙ sym (and_assoc (null g) (nulls t) (nulls s))

module _ (body : ℕ → Ebnf) where
  pub after_all-append : (t s : List Ebnf) (k : ℕ) → after_all body (t ++ s) k ≡ joined (after_all body t k) (nulls t) s (after_all body s k)
  after_all-append [] s k = refl
  after_all-append (g ∷ t) s k = ap (joined (after body g k) (null g) (t ++ s)) (after_all-append t s k) ∙ sym (joined_joined (after body g k) (null g) t (after_all body t k) (nulls t) s (after_all body s k))

-- What a grammar begins with.
use Rattle.std.proofs.Common.{◌≡◌, ℕ, Bool, true, false, eqb, cond, ◌&&◌, ◌||◌, List, [], ◌∷◌, refl, ap, sym, ◌∙◌, Option, None, Some}
use Rattle.std.proofs.Math.Bool.{or-false}
use Rattle.std.proofs.lemmas.List.Folds.{list_any-append}
use Rattle.idl_tokens.specs.Ebnf.{Ebnf, Terminal, has}
use Rattle.idl_tokens.specs.Ebnf.Ebnf.{One, Seq, Alt, Opt, Many, Within}
use Rattle.idl_tokens.specs.Machine.{null, joined, or_else, after, there, Next, starts}
use Rattle.idl_tokens.specs.Checks.{first, heads}

there_cond : (b : Bool) (t : Next) → there (cond b (Some t) None) ≡ b
there_cond true t = refl
there_cond false t = refl

there_joined : (o : Option Next) (n : Bool) (s : List Ebnf) (p : Option Next) → there (joined o n s p) ≡ (there o || (n && there p))
there_joined (Some t) n s p = refl
there_joined None true s p = refl
there_joined None false s p = refl

there_or : (o p : Option Next) → there (or_else o p) ≡ (there o || there p)
there_or (Some t) p = refl
there_or None p = refl

has_if : (k : ℕ) (n : Bool) (xs : List ℕ) → has k (cond n xs []) ≡ (n && has k xs)
has_if k true xs = refl
has_if k false xs = refl

module _ (body : ℕ → Ebnf) where
  there_first : (g : Ebnf) (k : ℕ) → there (after body g k) ≡ has k (first g)
  there_first (One cs m) k = there_cond (has k cs) (record { limit = m; wanted = [] })
  there_first (Seq a b) k =
      there_joined (after body a k) (null a) (b ∷ []) (after body b k)
      ∙ (ap (λ x. x || (null a && there (after body b k))) (there_first a k)
      ∙ (ap (λ x. has k (first a) || (null a && x)) (there_first b k)
      ∙ (ap (λ x. has k (first a) || x) (sym (has_if k (null a) (first b))) ∙ sym (list_any-append (eqb k) (first a) (cond (null a) (first b) [])))))
  there_first (Alt a b) k =
      there_or (after body a k) (after body b k)
      ∙ (ap (λ x. x || there (after body b k)) (there_first a k)
      ∙ (ap (λ x. has k (first a) || x) (there_first b k) ∙ sym (list_any-append (eqb k) (first a) (first b))))
  there_first (Opt a) k = there_first a k
  there_first (Many a) k = there_joined (after body a k) false (Many a ∷ []) None ∙ (or-false (there (after body a k)) ∙ there_first a k)
  there_first (Within o r c m) k = there_cond (eqb k o) (record { limit = m; wanted = body r ∷ One (c ∷ []) m ∷ [] }) ∙ sym (or-false (eqb k o))

  pub starts_first : (g : Ebnf) (ks : List Terminal) → starts body g ks ≡ heads (first g) ks
  starts_first g [] = refl
  starts_first g (k ∷ ks) = there_first g k.class

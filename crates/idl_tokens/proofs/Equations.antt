-- The machine's answer on each form of grammar.
use Rattle.std.proofs.Common.{◌≡◌, ℕ, Bool, true, false, eqb, cond, ◌&&◌, ◌||◌, List, [], ◌∷◌, ◌++◌, refl, ap, sym, ◌∙◌, Option, None, Some, append-nil, nat_lt}
use Rattle.std.specs.Prelude.{Result, Ok, Err, if◌then◌else◌}
use Rattle.idl_tokens.specs.Ebnf.{Ebnf, Terminal, has}
use Rattle.idl_tokens.specs.Ebnf.Ebnf.{One, Seq, Alt, Opt, Many, Within}
use Rattle.idl_tokens.specs.Machine.{null, nulls, joined, or_else, after, after_all, Next, Stuck, there, ended, sized, go, parse, ◌>>=◌, token, starts}
use Rattle.std.proofs.Math.Bool.{or-false}
use Rattle.idl_tokens.proofs.Joins.{joined_joined, nulls-append, after_all-append}

abbrev Answer : Type 0
Answer = Result (List Terminal) Stuck

and_assoc : (a b c : Bool) → (a && b) && c ≡ a && (b && c)
and_assoc true b c = refl
and_assoc false b c = refl

sized_then : (b : Bool) (r : Answer) (ks : List Terminal) (f : List Terminal → Answer) → sized b (r >>= f) ks ≡ (sized b r ks >>= f)
sized_then true r ks f = refl
sized_then false r ks f = refl

module _ (body : ℕ → Ebnf) where
  abbrev At : Bool → Terminal → List Terminal → Option Next → Answer
  At n k ks o = elim o as (λ _. Answer) [ Some t ↦ sized (nat_lt k.size t.limit) (go body t.wanted ks) (k ∷ ks) | None ↦ ended n (k ∷ ks) ]

  step_join : (s : List Ebnf) (k : Terminal) (ks : List Terminal) (o q : Option Next) (n m : Bool) → ((u : List Ebnf) → go body (u ++ s) ks ≡ (go body u ks >>= go body s)) → go body s (k ∷ ks) ≡ At m k ks q → At (n && m) k ks (joined o n s q) ≡ (At n k ks o >>= go body s)
  step_join s k ks (Some u) q n m ih e =
      ap (λ (r : Answer). sized (nat_lt k.size u.limit) r (k ∷ ks)) (ih u.wanted) ∙ sized_then (nat_lt k.size u.limit) (go body u.wanted ks) (k ∷ ks) (go body s)
  step_join s k ks None (Some u) true m ih e = sym e
  step_join s k ks None None true m ih e = sym e
  step_join s k ks None q false m ih e = refl

  end_join : (s : List Ebnf) (n m : Bool) → go body s [] ≡ ended m [] → ended (n && m) [] ≡ (ended n [] >>= go body s)
  end_join s true m e = sym e
  end_join s false m e = refl

  -- along one stack and then another
  pub go-append : (t s : List Ebnf) (ks : List Terminal) → go body (t ++ s) ks ≡ (go body t ks >>= go body s)
  unfolding go
  go-append t s [] = ap (λ n. ended n []) (nulls-append t s) ∙ end_join s (nulls t) (nulls s) refl
  go-append t s (k ∷ ks) =
      ap (λ n. At n k ks (after_all body (t ++ s) k.class)) (nulls-append t s) ∙ (ap (At (nulls t && nulls s) k ks) (after_all-append body t s k.class) ∙ step_join s k ks (after_all body t k.class) (after_all body s k.class) (nulls t) (nulls s) (λ u. go-append u s ks) refl)

  -- a stack answers by its parts' first tokens, and whether it may be left out
  same_answers : (s t : List Ebnf) → nulls s ≡ nulls t → ((k : ℕ) → after_all body s k ≡ after_all body t k) → (ks : List Terminal) → go body s ks ≡ go body t ks
  unfolding go
  same_answers s t n a [] = ap (λ m. ended m []) n
  same_answers s t n a (k ∷ ks) = ap (λ m. At m k ks (after_all body s k.class)) n ∙ ap (At (nulls t) k ks) (a k.class)

  pub parse_seq : (a b : Ebnf) (ks : List Terminal) → parse body (Seq a b) ks ≡ (parse body a ks >>= parse body b)
  unfolding parse
  parse_seq a b ks =
      same_answers (Seq a b ∷ []) (a ∷ b ∷ []) (and_assoc (null a) (null b) true) (λ k. joined_joined (after body a k) (null a) (b ∷ []) (after body b k) (null b) [] None) ks ∙ go-append (a ∷ []) (b ∷ []) ks

  one_step : (h : Bool) (m : ℕ) (k : Terminal) (ks : List Terminal) → go body [] ks ≡ Ok ks → At false k ks (joined (cond h (Some (record { limit = m; wanted = [] })) None) false [] None) ≡ (if h then sized (nat_lt k.size m) (Ok ks) (k ∷ ks) else Err (record { odd = false; rest = k ∷ ks }))
  one_step true m k ks e = ap (λ (r : Answer). sized (nat_lt k.size m) r (k ∷ ks)) e
  one_step false m k ks e = refl

  go_nothing : (ks : List Terminal) → go body [] ks ≡ Ok ks
  unfolding go
  go_nothing [] = refl
  go_nothing (k ∷ ks) = refl

  pub parse_one : (cs : List ℕ) (m : ℕ) (ks : List Terminal) → parse body (One cs m) ks ≡ token cs m ks
  unfolding parse go
  parse_one cs m [] = refl
  parse_one cs m (k ∷ ks) = one_step (has k.class cs) m k ks (go_nothing ks)

  pub parse_opt : (a : Ebnf) (ks : List Terminal) → parse body (Opt a) ks ≡ (if starts body a ks then parse body a ks else Ok ks)
  unfolding parse go
  parse_opt a [] = refl
  parse_opt a (k ∷ ks) = opt_step k ks (after body a k.class) (null a)
    where
      opt_step : (k : Terminal) (ks : List Terminal) (o : Option Next) (n : Bool) → At true k ks (joined o true [] None) ≡ (if there o then At (n && true) k ks (joined o n [] None) else Ok (k ∷ ks))
      opt_step k ks (Some t) n = refl
      opt_step k ks None n = refl

  alt_step : (k : Terminal) (ks : List Terminal) (o q : Option Next) (n m : Bool) → m ≡ false → At false k ks (joined (or_else o q) false [] None) ≡ (if there o then At (n && true) k ks (joined o n [] None) else At (m && true) k ks (joined q m [] None))
  alt_step k ks (Some t) q n m e = refl
  alt_step k ks None (Some t) n m e = refl
  alt_step k ks None None n true e = cc
  alt_step k ks None None n false e = refl

  pub parse_alt : (a b : Ebnf) (ks : List Terminal) → null b ≡ false → parse body (Alt a b) ks ≡ (if starts body a ks then parse body a ks else parse body b ks)
  unfolding parse go
  parse_alt a b [] n = ap (λ m. ended (m && true) []) (sym n)
  parse_alt a b (k ∷ ks) n = alt_step k ks (after body a k.class) (after body b k.class) (null a) (null b) n

  many_step : (a : Ebnf) (k : Terminal) (ks : List Terminal) (o : Option Next) (n : Bool) → ((u : List Ebnf) → go body ((u ++ Many a ∷ []) ++ []) ks ≡ (go body (u ++ []) ks >>= parse body (Many a))) → At true k ks (joined (joined o false (Many a ∷ []) None) true [] None) ≡ (if there o then (At (n && true) k ks (joined o n [] None) >>= parse body (Many a)) else Ok (k ∷ ks))
  many_step a k ks (Some t) n ih =
      ap (λ (r : Answer). sized (nat_lt k.size t.limit) r (k ∷ ks)) (ih t.wanted) ∙ sized_then (nat_lt k.size t.limit) (go body (t.wanted ++ []) ks) (k ∷ ks) (parse body (Many a))
  many_step a k ks None n ih = refl

  then_many : (a : Ebnf) (u : List Ebnf) (ks : List Terminal) → go body ((u ++ Many a ∷ []) ++ []) ks ≡ (go body (u ++ []) ks >>= parse body (Many a))
  unfolding parse
  then_many a u ks =
      ap (λ s. go body s ks) (append-nil (u ++ Many a ∷ [])) ∙ (go-append u (Many a ∷ []) ks ∙ ap (λ s. go body s ks >>= go body (Many a ∷ [])) (sym (append-nil u)))

  pub parse_many : (a : Ebnf) (ks : List Terminal) → parse body (Many a) ks ≡ (if starts body a ks then (parse body a ks >>= parse body (Many a)) else Ok ks)
  unfolding parse go
  parse_many a [] = refl
  parse_many a (k ∷ ks) = many_step a k ks (after body a k.class) (null a) (λ u. then_many a u ks)

  bind_same : (x : Answer) (f g : List Terminal → Answer) → ((ks : List Terminal) → f ks ≡ g ks) → (x >>= f) ≡ (x >>= g)
  bind_same (Ok ks) f g e = e ks
  bind_same (Err y) f g e = refl

  bind_split : (x : Answer) (f g h : List Terminal → Answer) → ((ks : List Terminal) → f ks ≡ (g ks >>= h)) → (x >>= f) ≡ ((x >>= g) >>= h)
  bind_split (Ok ks) f g h e = e ks
  bind_split (Err y) f g h e = refl

  within_after : (b d : Bool) (m : ℕ) (s : List Ebnf) (q : Option Next) → d ≡ b → joined (cond b (Some (record { limit = m; wanted = s ++ [] })) None) false [] None ≡ joined (cond d (Some (record { limit = m; wanted = [] })) None) false (s ++ []) q
  within_after true true m s q e = ap (λ (v : List Ebnf). Some (record { limit = m; wanted = v })) (append-nil (s ++ []))
  within_after true false m s q e = cc
  within_after false true m s q e = cc
  within_after false false m s q e = refl

  pub parse_within : (o r c m : ℕ) (ks : List Terminal) → parse body (Within o r c m) ks ≡ ((token (o ∷ []) m ks >>= parse body (body r)) >>= token (c ∷ []) m)
  unfolding parse
  parse_within o r c m ks =
      let shut : Ebnf = One (c ∷ []) m in
      same_answers (Within o r c m ∷ []) (One (o ∷ []) m ∷ body r ∷ shut ∷ []) refl (λ k. within_after (eqb k o) (eqb k o || false) m (body r ∷ shut ∷ []) (after_all body (body r ∷ shut ∷ []) k) (or-false (eqb k o))) ks
      ∙ (go-append (One (o ∷ []) m ∷ []) (body r ∷ shut ∷ []) ks
      ∙ (bind_split (go body (One (o ∷ []) m ∷ []) ks) (go body (body r ∷ shut ∷ [])) (go body (body r ∷ [])) (go body (shut ∷ [])) (λ x. go-append (body r ∷ []) (shut ∷ []) x)
      ∙ (ap (λ (x : Answer). (x >>= go body (body r ∷ [])) >>= go body (shut ∷ [])) (parse_one (o ∷ []) m ks)
      ∙ bind_same (token (o ∷ []) m ks >>= go body (body r ∷ [])) (go body (shut ∷ [])) (token (c ∷ []) m) (λ x. parse_one (c ∷ []) m x))))

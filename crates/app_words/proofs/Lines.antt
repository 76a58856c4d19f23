-- A command's lines, and what the words after its first say.
use Rattle.std.proofs.Common.{◌≡◌, ◌∙◌, ◌+◌, ◌≤◌, ◌||◌, ◌&&◌, append_assoc, Bool, true, false, true≢false, List, [], ◌∷◌, ◌++◌, length, map, refl, sym, subst, ap, ap₂, arith, Option, Some, None, cond, is_some, flat_map, option_to_list, inl, inr, ◌⊎◌}
use Rattle.std.specs.Prelude.{IsPermutation, ⊤}
use Rattle.std.specs.List.{list_any}
use Rattle.std.specs.Str.{bytes_eq}
use Rattle.std.proofs.lemmas.Bool.{cases_Bool}
use Rattle.std.proofs.lemmas.List.Elements.{All-from_recursion, recursion_from_All}
use Rattle.std.proofs.lemmas.List.Sorted.{All-permutation, IsPermutation-cons, IsPermutation-middle, IsPermutation-refl, IsPermutation-sym, IsPermutation-trans, list_any-IsPermutation, sum_by-IsPermutation}
use Rattle.app_words.specs.Asks.{IsLine, Line, Text, option_in}
use Rattle.app_words.specs.Asks as asks
use Rattle.app_words.specs.Usage.{Command}
use Rattle.app_words.proofs.Ends.{AreRequired}
use Rattle.app_words.proofs.Reading.{Fits}
use Rattle.app_words.proofs.Says.{Says}
use Rattle.app_words.proofs.Stages.{AreApartOptions, IsSound, or_true}
use Rattle.app_words.proofs.Uses.{AreKnown, Once, Options, Uses, first_alone, itself, known_differs, knows, one_more, not_more, rest_once, same_text, times, unused, used, value_of}

abbrev pub Given : Type 0
Given = List (Text × Option Text)

-- the options of a command, with what is given of each
abbrev pub options_of : Options → Uses → Given
options_of [] us = []
options_of (o ∷ os) us = (o.0, value_of o.0 us) ∷ options_of os us

-- these are given of them
abbrev pub AreOptions : Options → Given → Type 0
AreOptions [] [] = ⊤
AreOptions (o ∷ os) (g ∷ gs) = (g.0 ≡ o.0) × (o.1 ≡ true → is_some g.1 ≡ true) × AreOptions os gs
AreOptions _ _ = ⊥

-- The line is one of the command.
pub record IsOf (c : Command) (line : Line) : Type 0 where
  pub word : line.word ≡ c.word
  pub count : length line.operands ≡ length c.operands
  pub options : AreOptions c.options line.options

-- ---- one use more

abbrev as_uses : Text → Option Text → Uses
as_uses name o = map (λ value. (name, value)) (option_to_list o)

pub missed : (p : Text × Text) (ps : Uses) (name : Text) → bytes_eq p.0 name ≡ false → value_of name (p ∷ ps) ≡ value_of name ps
missed p ps name e = ap (λ b. cond b (Some p.1) (value_of name ps)) e

met : (p : Text × Text) (ps : Uses) (name : Text) → bytes_eq p.0 name ≡ true → value_of name (p ∷ ps) ≡ Some p.1
met p ps name e = ap (λ b. cond b (Some p.1) (value_of name ps)) e

-- a name that isn't among the options
skipped : (os : Options) (p : Text × Text) (ps : Uses) → knows os p.0 ≡ false → options_of os (p ∷ ps) ≡ options_of os ps
skipped [] p ps k = refl
skipped (o ∷ os) p ps k = by (cases_Bool (bytes_eq o.0 p.0)) (skipped os p ps)
  where
    by : (bytes_eq o.0 p.0 ≡ true) ⊎ (bytes_eq o.0 p.0 ≡ false) → (knows os p.0 ≡ false → options_of os (p ∷ ps) ≡ options_of os ps) → options_of (o ∷ os) (p ∷ ps) ≡ options_of (o ∷ os) ps
    by (inl e) later = absurd (true≢false (sym (ap (λ b. b || knows os p.0) e) ∙ k))
    by (inr e) later =
        ap₂ (λ v gs. (o.0, v) ∷ gs) (missed p ps o.0 (turned e)) (later (sym (ap (λ b. b || knows os p.0) e) ∙ k))
      where
        turned : bytes_eq o.0 p.0 ≡ false → bytes_eq p.0 o.0 ≡ false
        turned f = known_differs p.0 o.0 true (bytes_eq o.0 p.0) refl f (λ same. sym (itself o.0) ∙ ap (bytes_eq o.0) (sym same))

-- what is given stands somewhere in their order
record IsPlaced (os : Options) (p : Text × Text) (ps : Uses) : Type 0 where
  pub before : Uses
  pub after : Uses
  pub with_it : asks.given (options_of os (p ∷ ps)) ≡ before ++ p ∷ after
  pub without : asks.given (options_of os ps) ≡ before ++ after

placed : (os : Options) (p : Text × Text) (ps : Uses) → AreApartOptions os → knows os p.0 ≡ true → value_of p.0 ps ≡ None → IsPlaced os p ps
placed [] p ps apart k none = absurd (true≢false (sym k))
placed (o ∷ os) p ps apart k none = by (cases_Bool (bytes_eq p.0 o.0)) (placed os p ps apart.1)
  where
    here : bytes_eq p.0 o.0 ≡ true → IsPlaced (o ∷ os) p ps
    here e =
        let same : p.0 ≡ o.0 = same_text p.0 o.0 e in
        let rest = skipped os p ps (ap (knows os) same ∙ apart.0) in
        record {
          before = [];
          after = asks.given (options_of os ps);
          with_it = ap₂ (λ (v : Option Text) (gs : Given). as_uses o.0 v ++ asks.given gs) (met p ps o.0 e) rest ∙ ap (λ n. (n, p.1) ∷ asks.given (options_of os ps)) (sym same);
          without = ap (λ (v : Option Text). as_uses o.0 v ++ asks.given (options_of os ps)) (ap (λ n. value_of n ps) (sym same) ∙ none);
        }

    there : bytes_eq p.0 o.0 ≡ false → IsPlaced os p ps → IsPlaced (o ∷ os) p ps
    there e h = record {
      before = as_uses o.0 (value_of o.0 ps) ++ h.before;
      after = h.after;
      with_it = ap₂ (λ (v : Option Text) (gs : Uses). as_uses o.0 v ++ gs) (missed p ps o.0 e) h.with_it ∙ sym (append_assoc (as_uses o.0 (value_of o.0 ps)) h.before (p ∷ h.after));
      without = ap (λ gs. as_uses o.0 (value_of o.0 ps) ++ gs) h.without ∙ sym (append_assoc (as_uses o.0 (value_of o.0 ps)) h.before h.after);
    }

    by : (bytes_eq p.0 o.0 ≡ true) ⊎ (bytes_eq p.0 o.0 ≡ false) → (knows os p.0 ≡ true → value_of p.0 ps ≡ None → IsPlaced os p ps) → IsPlaced (o ∷ os) p ps
    by (inl e) later = here e
    by (inr e) later = there e (later (sym (ap (λ b. b || knows os p.0) (turned e)) ∙ k) none)
      where
        turned : bytes_eq p.0 o.0 ≡ false → bytes_eq o.0 p.0 ≡ false
        turned f = known_differs o.0 p.0 true (bytes_eq p.0 o.0) refl f (λ same. sym (itself p.0) ∙ ap (bytes_eq p.0) (sym same))

nothing_given : (os : Options) → asks.given (options_of os []) ≡ []
nothing_given [] = refl
nothing_given (o ∷ os) = nothing_given os

-- uses of names of the options, each once, are what is given of them, in some order
ordered : (os : Options) (us : Uses) → AreApartOptions os → AreKnown os us → Once us → IsPermutation us (asks.given (options_of os us))
ordered os [] apart known once = subst (IsPermutation []) (sym (nothing_given os)) (IsPermutation-refl [])
ordered os (p ∷ ps) apart known once =
    let more = ordered os ps apart known.1 (rest_once p ps once) in
    let h = placed os p ps apart known.0 (first_alone p ps once) in
    subst (IsPermutation (p ∷ ps)) (sym h.with_it)
    (IsPermutation-trans (p ∷ ps) (p ∷ (h.before ++ h.after)) (h.before ++ p ∷ h.after) (IsPermutation-cons p ps (h.before ++ h.after) (subst (IsPermutation ps) h.without more))
    (IsPermutation-sym (h.before ++ p ∷ h.after) (p ∷ (h.before ++ h.after)) (IsPermutation-middle h.before p h.after)))

-- ---- what is given of options, as uses

abbrev Fresh : Options → Given → Type 0
Fresh os gs = (name : Text) → knows os name ≡ false → value_of name (asks.given gs) ≡ None

unnamed : (os : Options) (gs : Given) → AreOptions os gs → Fresh os gs
unnamed [] [] a name k = refl
unnamed [] (g ∷ gs) a name k = absurd a
unnamed (o ∷ os) [] a name k = absurd a
unnamed (o ∷ os) (g ∷ gs) a name k = by (cases_Bool (bytes_eq o.0 name)) g.1 (unnamed os gs a.2)
  where
    by : (bytes_eq o.0 name ≡ true) ⊎ (bytes_eq o.0 name ≡ false) → (v : Option Text) → Fresh os gs → value_of name (as_uses g.0 v ++ asks.given gs) ≡ None
    by (inl e) v later = absurd (true≢false (sym (ap (λ b. b || knows os name) e) ∙ k))
    by (inr e) None later = later name (sym (ap (λ b. b || knows os name) e) ∙ k)
    by (inr e) (Some x) later =
        missed (g.0, x) (asks.given gs) name (ap (λ n. bytes_eq n name) a.0 ∙ e) ∙ later name (sym (ap (λ b. b || knows os name) e) ∙ k)

given_once : (os : Options) (gs : Given) → AreApartOptions os → AreOptions os gs → Once (asks.given gs)
given_once [] [] apart a name = omega arith
given_once [] (g ∷ gs) apart a name = absurd a
given_once (o ∷ os) [] apart a name = absurd a
given_once (o ∷ os) (g ∷ gs) apart a name = by g.1 (cases_Bool (bytes_eq g.0 name)) (given_once os gs apart.1 a.2 name)
  where
    by : (v : Option Text) → (bytes_eq g.0 name ≡ true) ⊎ (bytes_eq g.0 name ≡ false) → times name (asks.given gs) ≤ 1 → times name (as_uses g.0 v ++ asks.given gs) ≤ 1
    by None c few = few
    by (Some x) (inl e) few =
        let none = unused name (asks.given gs) (unnamed os gs a.2 name (ap (knows os) (sym (same_text g.0 name e) ∙ a.0) ∙ apart.0)) in
        let all = subst (λ n. times name ((n, x) ∷ asks.given gs) ≡ 1 + times name (asks.given gs)) (sym (same_text g.0 name e)) (one_more name x (asks.given gs)) in
        omega (arith, none, all)
    by (Some x) (inr e) few = let all = not_more name g.0 x (asks.given gs) e in omega (arith, all, few)

given_known : (os : Options) (gs : Given) → AreOptions os gs → AreKnown os (asks.given gs)
given_known [] [] a = tt
given_known [] (g ∷ gs) a = absurd a
given_known (o ∷ os) [] a = absurd a
given_known (o ∷ os) (g ∷ gs) a = by g.1 (wider os (asks.given gs) (given_known os gs a.2))
  where
    wider : (os : Options) (us : Uses) → AreKnown os us → AreKnown (o ∷ os) us
    wider os [] k = tt
    wider os (p ∷ ps) k = (or_true (bytes_eq o.0 p.0) (knows os p.0) k.0, wider os ps k.1)

    by : (v : Option Text) → AreKnown (o ∷ os) (asks.given gs) → AreKnown (o ∷ os) (as_uses g.0 v ++ asks.given gs)
    by None k = k
    by (Some x) k = (ap (λ n. bytes_eq o.0 n || knows os n) a.0 ∙ ap (λ b. b || knows os o.0) (itself o.0), k)

-- they give back what was given
given_back : (os : Options) (gs : Given) → AreApartOptions os → AreOptions os gs → options_of os (asks.given gs) ≡ gs
given_back [] [] apart a = refl
given_back [] (g ∷ gs) apart a = absurd a
given_back (o ∷ os) [] apart a = absurd a
given_back (o ∷ os) (g ∷ gs) apart a = by g.1 (given_back os gs apart.1 a.2)
  where
    by : (v : Option Text) → options_of os (asks.given gs) ≡ gs → options_of (o ∷ os) (as_uses g.0 v ++ asks.given gs) ≡ (g.0, v) ∷ gs
    by None later = ap₂ (λ (v : Option Text) (l : Given). (o.0, v) ∷ l) (unnamed os gs a.2 o.0 apart.0) later ∙ ap (λ n. (n, None) ∷ gs) (sym a.0)
    by (Some x) later =
        ap₂ (λ (v : Option Text) (l : Given). (o.0, v) ∷ l) (met (g.0, x) (asks.given gs) o.0 (ap (λ n. bytes_eq n o.0) a.0 ∙ itself o.0))
        (skipped os (g.0, x) (asks.given gs) (ap (knows os) a.0 ∙ apart.0) ∙ later)
        ∙ ap (λ n. (n, Some x) ∷ gs) (sym a.0)

-- ---- uses in another order

abbrev is_pair : Text → Text → Text × Text → Bool
is_pair name v p = bytes_eq p.0 name && bytes_eq p.1 v

pair_used : (name v : Text) (us : Uses) → value_of name us ≡ Some v → list_any (is_pair name v) us ≡ true
pair_used name v [] e = absurd (cc)
pair_used name v (p ∷ ps) e = by (cases_Bool (bytes_eq p.0 name)) (pair_used name v ps)
  where
    by : (bytes_eq p.0 name ≡ true) ⊎ (bytes_eq p.0 name ≡ false) → (value_of name ps ≡ Some v → list_any (is_pair name v) ps ≡ true) → list_any (is_pair name v) (p ∷ ps) ≡ true
    by (inl t) later = ap₂ (λ a b. (a && b) || list_any (is_pair name v) ps) t (ap (λ w. bytes_eq w v) (one_value p.1 v (sym (met p ps name t) ∙ e)) ∙ itself v)
      where
        one_value : (a b : Text) → Some a ≡ Some b → a ≡ b
        one_value a b e = cc
    by (inr f) later = ap (λ a. (a && bytes_eq p.1 v) || list_any (is_pair name v) ps) f ∙ later (sym (missed p ps name f) ∙ e)

used_pair : (name v : Text) (us : Uses) → times name us ≤ 1 → list_any (is_pair name v) us ≡ true → value_of name us ≡ Some v
used_pair name v [] few e = absurd (true≢false (sym e))
used_pair name v (p ∷ ps) few e = by (cases_Bool (bytes_eq p.0 name)) (used_pair name v ps)
  where
    by : (bytes_eq p.0 name ≡ true) ⊎ (bytes_eq p.0 name ≡ false) → (times name ps ≤ 1 → list_any (is_pair name v) ps ≡ true → value_of name ps ≡ Some v) → value_of name (p ∷ ps) ≡ Some v
    by (inl t) later = second (cases_Bool (bytes_eq p.1 v))
      where
        all : times name (p ∷ ps) ≡ 1 + times name ps
        all = subst (λ n. times n (p ∷ ps) ≡ 1 + times n ps) (same_text p.0 name t) (one_more p.0 p.1 ps)

        second : (bytes_eq p.1 v ≡ true) ⊎ (bytes_eq p.1 v ≡ false) → value_of name (p ∷ ps) ≡ Some v
        second (inl w) = met p ps name t ∙ ap (λ x. Some x) (same_text p.1 v w)
        second (inr w) =
            let rest : list_any (is_pair name v) ps ≡ true = sym (ap₂ (λ a b. (a && b) || list_any (is_pair name v) ps) t w) ∙ e in
            let found = later (omega (arith, few, all)) rest in
            let more = used name v ps found in
            absurd (omega (arith, few, all, more))
    by (inr f) later =
        met_not ∙ later (let all = subst (λ n. times name (p ∷ ps) ≡ n) (not_more name p.0 p.1 ps f) refl in omega (arith, few, all)) (sym (ap (λ a. (a && bytes_eq p.1 v) || list_any (is_pair name v) ps) f) ∙ e)
      where
        met_not : value_of name (p ∷ ps) ≡ value_of name ps
        met_not = missed p ps name f

same_times : (name : Text) (us vs : Uses) → IsPermutation us vs → times name us ≡ times name vs
same_times name us vs m = sym (sum_by-IsPermutation (λ p. cond (bytes_eq p.0 name) 1 0) us vs m)

same_values : (us vs : Uses) → IsPermutation us vs → Once vs → (name : Text) → value_of name us ≡ value_of name vs
same_values us vs m once name = by (value_of name us) refl
  where
    by : (o : Option Text) → value_of name us ≡ o → value_of name us ≡ value_of name vs
    by (Some v) e = e ∙ sym (used_pair name v vs (once name) (sym (list_any-IsPermutation (is_pair name v) us vs m) ∙ pair_used name v us e))
    by None e = e ∙ sym (none_there (value_of name vs) refl)
      where
        none_there : (o : Option Text) → value_of name vs ≡ o → value_of name vs ≡ None
        none_there None f = f
        none_there (Some y) f =
            let none = unused name us e in
            let some = used name y vs f in
            let same = same_times name us vs m in
            absurd (omega (arith, none, some, same))

same_options : (os : Options) (us vs : Uses) → ((name : Text) → value_of name us ≡ value_of name vs) → options_of os us ≡ options_of os vs
same_options [] us vs same = refl
same_options (o ∷ os) us vs same = ap₂ (λ (v : Option Text) (gs : Given). (o.0, v) ∷ gs) (same o.0) (same_options os us vs same)

required_of : (os : Options) (us : Uses) (gs : Given) → AreOptions os gs → options_of os us ≡ gs → AreRequired os us
required_of os us gs a e = by os (subst (AreOptions os) (sym e) a)
  where
    by : (os : Options) → AreOptions os (options_of os us) → AreRequired os us
    by [] a = tt
    by (o ∷ os) a = (a.1, by os a.2)

are_options : (os : Options) (us : Uses) → AreRequired os us → AreOptions os (options_of os us)
are_options [] us r = tt
are_options (o ∷ os) us r = (refl, r.0, are_options os us r.1)

-- ---- lines

same_tail : (a b : Text) (xs ys : List Text) → a ∷ xs ≡ b ∷ ys → xs ≡ ys
same_tail a b xs ys e = cc

abbrev pub line_with : Command → List Text → Uses → Line
line_with c ops opts = record { word = c.word; operands = ops; options = options_of c.options opts }

module _ (c : Command) (sound : IsSound c) where
  pub line_of_fits : (ops : List Text) (opts : Uses) → Fits c ops opts → IsOf c (line_with c ops opts)
  line_of_fits ops opts f = record { word = refl; count = f.count; options = are_options c.options opts f.required }

  pub line_said : (rest ops : List Text) (opts : Uses) → Fits c ops opts → Says [] [] rest ops opts → IsLine (c.word ∷ rest) (line_with c ops opts)
  line_said rest ops opts f s = record {
    arguments = s.reads.arguments;
    rest = s.reads.rest;
    written = ap (λ ws. c.word ∷ ws) s.reads.written;
    plain = s.reads.plain;
    operands = s.reads.operands ∙ s.operands;
    options = subst (λ us. IsPermutation us (asks.given (options_of c.options opts))) (sym (s.reads.options ∙ s.options)) (ordered c.options opts sound.options_apart f.known f.once);
  }

  -- what a line of the command says
  pub record IsSaid (rest : List Text) (line : Line) : Type 0 where
    pub opts : Uses
    pub fits : Fits c line.operands opts
    pub says : Says [] [] rest line.operands opts
    pub options : options_of c.options opts ≡ line.options

  pub said_line : (word : Text) (rest : List Text) (line : Line) → IsOf c line → IsLine (word ∷ rest) line → IsSaid rest line
  said_line word rest line of l =
      let us = flat_map option_in l.arguments in
      let vs = asks.given line.options in
      let once = given_once c.options line.options sound.options_apart of.options in
      let values = same_values us vs l.options once in
      let back = same_options c.options us vs values ∙ given_back c.options line.options sound.options_apart of.options in
      record {
        opts = us;
        fits = record {
          count = of.count;
          known = recursion_from_All (λ p. knows c.options p.0 ≡ true) us
              (All-permutation (λ p. knows c.options p.0 ≡ true) vs us (IsPermutation-sym us vs l.options) (All-from_recursion (λ p. knows c.options p.0 ≡ true) vs (given_known c.options line.options of.options)));
          once = λ name. let same = same_times name us vs l.options in let few = once name in omega (arith, same, few);
          required = required_of c.options us line.options of.options back;
        };
        says = record {
          later = line.operands;
          more = us;
          reads = record {
            arguments = l.arguments;
            rest = l.rest;
            written = same_tail word line.word rest _ l.written;
            plain = l.plain;
            operands = l.operands;
            options = refl;
          };
          operands = refl;
          options = refl;
        };
        options = back;
      }

pub head_is : (word : Text) (rest : List Text) (line : Line) → IsLine (word ∷ rest) line → word ≡ line.word
head_is word rest line l = head word line.word rest _ l.written
  where
    head : (a b : Text) (xs ys : List Text) → a ∷ xs ≡ b ∷ ys → a ≡ b
    head a b xs ys e = cc

pub no_line : (line : Line) → IsLine [] line → ⊥
no_line line l = none line.word _ l.written
  where
    none : (a : Text) (xs : List Text) → [] ≡ a ∷ xs → ⊥
    none a xs e = absurd (cc)

-- What the words of a command's arguments say, word for word.
use Rattle.std.proofs.Common.{◌≡◌, ◌∙◌, false, List, [], ◌∷◌, ◌++◌, refl, sym, ap, Option, Some, None, codes}
use Rattle.std.specs.Prelude.{flat_map, unwrap_or}
use Rattle.std.specs.List.{AllByRecursion}
use Rattle.app_words.specs.Asks.{Argument, IsPlain, Text, behind, is_option, joined, operand, operand_in, option_in, valued, words_of}

-- The words are arguments with these operands and options.
pub record Reads (words ops : List Text) (opts : List (Text × Text)) : Type 0 where
  pub arguments : List Argument
  pub rest : Option (List Text)
  pub written : words ≡ flat_map words_of arguments ++ behind rest
  pub plain : AllByRecursion IsPlain arguments
  pub operands : flat_map operand_in arguments ++ unwrap_or rest [] ≡ ops
  pub options : flat_map option_in arguments ≡ opts

-- ---- one argument more

pub nothing_read : Reads [] [] []
nothing_read = record { arguments = []; rest = None; written = refl; plain = tt; operands = refl; options = refl }

pub rest_read : (rest : List Text) → Reads (codes "--" ∷ rest) rest []
rest_read rest = record { arguments = []; rest = Some rest; written = refl; plain = tt; operands = refl; options = refl }

pub operand_read : (word : Text) (words ops : List Text) (opts : List (Text × Text)) → is_option word ≡ false → Reads words ops opts → Reads (word ∷ words) (word ∷ ops) opts
operand_read word words ops opts o r = record {
  arguments = operand word ∷ r.arguments;
  rest = r.rest;
  written = ap (λ ws. word ∷ ws) r.written;
  plain = (o, r.plain);
  operands = ap (λ ws. word ∷ ws) r.operands;
  options = r.options;
}

pub valued_read : (name value : Text) (words ops : List Text) (opts : List (Text × Text)) → is_option value ≡ false → Reads words ops opts → Reads ((codes "--" ++ name) ∷ value ∷ words) ops ((name, value) ∷ opts)
valued_read name value words ops opts o r = record {
  arguments = valued name value ∷ r.arguments;
  rest = r.rest;
  written = ap (λ ws. (codes "--" ++ name) ∷ value ∷ ws) r.written;
  plain = (o, r.plain);
  operands = r.operands;
  options = ap (λ os. (name, value) ∷ os) r.options;
}

pub joined_read : (name value : Text) (words ops : List Text) (opts : List (Text × Text)) → Reads words ops opts → Reads ((codes "--" ++ name ++ codes "=" ++ value) ∷ words) ops ((name, value) ∷ opts)
joined_read name value words ops opts r = record {
  arguments = joined name value ∷ r.arguments;
  rest = r.rest;
  written = ap (λ ws. (codes "--" ++ name ++ codes "=" ++ value) ∷ ws) r.written;
  plain = (tt, r.plain);
  operands = r.operands;
  options = ap (λ os. (name, value) ∷ os) r.options;
}

-- ---- the first argument

same_tail : (a b : Text) (xs ys : List Text) → a ∷ xs ≡ b ∷ ys → xs ≡ ys
same_tail a b xs ys e = cc

same_head : (a b : Text) (xs ys : List Text) → a ∷ xs ≡ b ∷ ys → a ≡ b
same_head a b xs ys e = cc

-- what the first word is
pub data First (word : Text) (rest ops : List Text) (opts : List (Text × Text)) : Type 0 where
  ends : word ≡ codes "--" → ops ≡ rest → opts ≡ [] → First word rest ops opts
  begins : is_option word ≡ false → (later : List Text) → ops ≡ word ∷ later → Reads rest later opts → First word rest ops opts
  takes : (name value : Text) (words : List Text) (later : List (Text × Text)) → word ≡ codes "--" ++ name → rest ≡ value ∷ words → is_option value ≡ false → opts ≡ (name, value) ∷ later → Reads words ops later → First word rest ops opts
  joins : (name value : Text) (later : List (Text × Text)) → word ≡ codes "--" ++ name ++ codes "=" ++ value → opts ≡ (name, value) ∷ later → Reads rest ops later → First word rest ops opts

first_by : (word : Text) (rest ops : List Text) (opts : List (Text × Text)) (arguments : List Argument) (tail : Option (List Text)) → word ∷ rest ≡ flat_map words_of arguments ++ behind tail → AllByRecursion IsPlain arguments
    → flat_map operand_in arguments ++ unwrap_or tail [] ≡ ops → flat_map option_in arguments ≡ opts → First word rest ops opts
first_by word rest ops opts [] None e p o q = absurd (cc)
first_by word rest ops opts [] (Some ws) e p o q = ends (same_head word _ rest _ e) (sym o ∙ sym (same_tail word _ rest ws e)) (sym q)
first_by word rest ops opts (operand w ∷ more) tail e p o q =
    let same = same_head word w rest _ e in
    begins (ap is_option same ∙ p.0) (flat_map operand_in more ++ unwrap_or tail []) (sym o ∙ ap (λ x. x ∷ (flat_map operand_in more ++ unwrap_or tail [])) (sym same))
    (record { arguments = more; rest = tail; written = same_tail word w rest _ e; plain = p.1; operands = refl; options = q })
first_by word rest ops opts (valued name value ∷ more) tail e p o q =
    takes name value (flat_map words_of more ++ behind tail) (flat_map option_in more) (same_head word _ rest _ e) (same_tail word _ rest _ e) p.0 (sym q)
    (record { arguments = more; rest = tail; written = refl; plain = p.1; operands = o; options = refl })
first_by word rest ops opts (joined name value ∷ more) tail e p o q =
    joins name value (flat_map option_in more) (same_head word _ rest _ e) (sym q)
    (record { arguments = more; rest = tail; written = same_tail word _ rest _ e; plain = p.1; operands = o; options = refl })

pub first : (word : Text) (rest ops : List Text) (opts : List (Text × Text)) → Reads (word ∷ rest) ops opts → First word rest ops opts
first word rest ops opts r = first_by word rest ops opts r.arguments r.rest r.written r.plain r.operands r.options

-- no words have neither operands nor options
none_by : (ops : List Text) (opts : List (Text × Text)) (arguments : List Argument) (tail : Option (List Text)) → [] ≡ flat_map words_of arguments ++ behind tail
    → flat_map operand_in arguments ++ unwrap_or tail [] ≡ ops → flat_map option_in arguments ≡ opts → (ops ≡ []) × (opts ≡ [])
none_by ops opts [] None e o q = (sym o, sym q)
none_by ops opts [] (Some ws) e o q = absurd (cc)
none_by ops opts (operand w ∷ more) tail e o q = absurd (cc)
none_by ops opts (valued name value ∷ more) tail e o q = absurd (cc)
none_by ops opts (joined name value ∷ more) tail e o q = absurd (cc)

pub none : (ops : List Text) (opts : List (Text × Text)) → Reads [] ops opts → (ops ≡ []) × (opts ≡ [])
none ops opts r = none_by ops opts r.arguments r.rest r.written r.operands r.options

-- What words say of operands and options, where some of them were read before.
use Rattle.std.proofs.Common.{◌≡◌, ◌∙◌, true, false, true≢false, ℕ, List, [], ◌∷◌, ◌++◌, append-nil, append_assoc, refl, sym, ap, subst, subst₂, codes}
use Rattle.base_words.proofs.Cuts.{same_cut, no_cut}
use Rattle.base_words.specs.Reads.{HasNo}
use Rattle.app_words.specs.Asks.{Text, is_option}
use Rattle.app_words.proofs.Arguments.{First, Reads, begins, ends, first, joined_read, joins, none, nothing_read, operand_read, rest_read, takes, valued_read}
use Rattle.app_words.proofs.Uses.{AreKnown, Options, Uses, known_at, knows}

-- With the operands and the options that were read before them the words give these.
pub record Says (met : List Text) (vals : Uses) (words ops : List Text) (opts : Uses) : Type 0 where
  pub later : List Text
  pub more : Uses
  pub reads : Reads words later more
  pub operands : met ++ later ≡ ops
  pub options : vals ++ more ≡ opts

-- ---- names of options

-- A name isn't empty, and has no `=` (61).
pub record IsName (name : Text) : Type 0 where
  pub mark : HasNo 61 name
  pub some : name ≡ [] → ⊥

abbrev pub AreNames : Options → Type 0
AreNames os = (name : Text) → knows os name ≡ true → IsName name

pub mark_is : (name value : Text) → name ++ codes "=" ++ value ≡ name ++ 61 ∷ value
mark_is name value = append_assoc name (codes "=") value

-- a name isn't one with a value after `=`
no_value : (name other value : Text) → IsName name → name ≡ other ++ codes "=" ++ value → ⊥
no_value name other value n e = no_cut 61 other value name n.mark (e ∙ mark_is other value)

same_tail : (a b c d : ℕ) (xs ys : Text) → a ∷ b ∷ xs ≡ c ∷ d ∷ ys → xs ≡ ys
same_tail a b c d xs ys e = cc

unmarked : (x y : Text) → codes "--" ++ x ≡ codes "--" ++ y → x ≡ y
unmarked x y e = same_tail 45 45 45 45 x y e

no_option : (word tail : Text) → is_option word ≡ false → word ≡ codes "--" ++ tail → ⊥
no_option word tail p w = true≢false (sym (ap is_option w) ∙ p)

next_known : (os : Options) (vals more later opts : Uses) (name value : Text) → more ≡ (name, value) ∷ later → vals ++ more ≡ opts → AreKnown os opts → knows os name ≡ true
next_known os vals more later opts name value q e k =
    known_at os vals later (name, value) (subst (AreKnown os) (sym (ap (λ l. vals ++ l) (sym q) ∙ e)) k)

pushed : (vals later more opts : Uses) (p : Text × Text) → more ≡ p ∷ later → vals ++ more ≡ opts → (vals ++ p ∷ []) ++ later ≡ opts
pushed vals later more opts p q e = append_assoc vals (p ∷ []) later ∙ ap (λ l. vals ++ l) (sym q) ∙ e

-- ---- no words

pub nothing_said : (met : List Text) (vals : Uses) → Says met vals [] met vals
nothing_said met vals = record { later = []; more = []; reads = nothing_read; operands = append-nil met; options = append-nil vals }

pub said_nothing : (met ops : List Text) (vals opts : Uses) → Says met vals [] ops opts → (ops ≡ met) × (opts ≡ vals)
said_nothing met ops vals opts s =
    let n = none s.later s.more s.reads in
    (sym s.operands ∙ ap (λ l. met ++ l) n.0 ∙ append-nil met, sym s.options ∙ ap (λ l. vals ++ l) n.1 ∙ append-nil vals)

-- ---- an operand

pub operand_said : (met : List Text) (vals : Uses) (word : Text) (rest ops : List Text) (opts : Uses) → is_option word ≡ false → Says (met ++ word ∷ []) vals rest ops opts → Says met vals (word ∷ rest) ops opts
operand_said met vals word rest ops opts p s = record {
  later = word ∷ s.later;
  more = s.more;
  reads = operand_read word rest s.later s.more p s.reads;
  operands = sym (append_assoc met (word ∷ []) s.later) ∙ s.operands;
  options = s.options;
}

operand_by : (met : List Text) (vals : Uses) (word : Text) (rest later ops : List Text) (more opts : Uses) → is_option word ≡ false → met ++ later ≡ ops → vals ++ more ≡ opts → First word rest later more
    → Says (met ++ word ∷ []) vals rest ops opts
operand_by met vals word rest later ops more opts p h k (ends e o q) = absurd (no_option word [] p e)
operand_by met vals word rest later ops more opts p h k (begins b after o r) =
    record { later = after; more = more; reads = r; operands = append_assoc met (word ∷ []) after ∙ ap (λ l. met ++ l) (sym o) ∙ h; options = k }
operand_by met vals word rest later ops more opts p h k (takes name value words after e is b q r) = absurd (no_option word name p e)
operand_by met vals word rest later ops more opts p h k (joins name value after e q r) = absurd (no_option word (name ++ codes "=" ++ value) p e)

pub said_operand : (met : List Text) (vals : Uses) (word : Text) (rest ops : List Text) (opts : Uses) → is_option word ≡ false → Says met vals (word ∷ rest) ops opts → Says (met ++ word ∷ []) vals rest ops opts
said_operand met vals word rest ops opts p s = operand_by met vals word rest s.later ops s.more opts p s.operands s.options (first word rest s.later s.more s.reads)

-- ---- `--`

pub dashes_said : (met : List Text) (vals : Uses) (rest ops : List Text) (opts : Uses) → met ++ rest ≡ ops → vals ≡ opts → Says met vals (codes "--" ∷ rest) ops opts
dashes_said met vals rest ops opts h k = record { later = rest; more = []; reads = rest_read rest; operands = h; options = append-nil vals ∙ k }

module _ (os : Options) (names : AreNames os) where
  dashes_by : (met : List Text) (vals : Uses) (rest later ops : List Text) (more opts : Uses) → met ++ later ≡ ops → vals ++ more ≡ opts → AreKnown os opts → First (codes "--") rest later more
      → (met ++ rest ≡ ops) × (vals ≡ opts)
  dashes_by met vals rest later ops more opts h k known (ends e o q) =
      (ap (λ l. met ++ l) (sym o) ∙ h, sym (append-nil vals) ∙ ap (λ l. vals ++ l) (sym q) ∙ k)
  dashes_by met vals rest later ops more opts h k known (begins b after o r) = absurd (true≢false b)
  dashes_by met vals rest later ops more opts h k known (takes name value words after e is b q r) =
      absurd ((names name (next_known os vals more after opts name value q k known)).some (sym (unmarked [] name e)))
  dashes_by met vals rest later ops more opts h k known (joins name value after e q r) = absurd (no_text name value (unmarked [] (name ++ codes "=" ++ value) e))
    where
      no_text : (name value : Text) → [] ≡ name ++ codes "=" ++ value → ⊥
      no_text [] value e = absurd (cc)
      no_text (c ∷ cs) value e = absurd (cc)

  pub said_dashes : (met : List Text) (vals : Uses) (rest ops : List Text) (opts : Uses) → AreKnown os opts → Says met vals (codes "--" ∷ rest) ops opts → (met ++ rest ≡ ops) × (vals ≡ opts)
  said_dashes met vals rest ops opts known s = dashes_by met vals rest s.later ops s.more opts s.operands s.options known (first (codes "--") rest s.later s.more s.reads)

-- ---- `--name=value`

pub joined_said : (met : List Text) (vals : Uses) (name v : Text) (rest ops : List Text) (opts : Uses) → Says met (vals ++ (name, v) ∷ []) rest ops opts → Says met vals ((codes "--" ++ name ++ codes "=" ++ v) ∷ rest) ops opts
joined_said met vals name v rest ops opts s = record {
  later = s.later;
  more = (name, v) ∷ s.more;
  reads = joined_read name v rest s.later s.more s.reads;
  operands = s.operands;
  options = sym (append_assoc vals ((name, v) ∷ []) s.more) ∙ s.options;
}

module _ (os : Options) (names : AreNames os) where
  joined_by : (met : List Text) (vals : Uses) (name v : Text) (rest later ops : List Text) (more opts : Uses) → IsName name → met ++ later ≡ ops → vals ++ more ≡ opts → AreKnown os opts
      → First (codes "--" ++ name ++ codes "=" ++ v) rest later more → Says met (vals ++ (name, v) ∷ []) rest ops opts
  joined_by met vals name v rest later ops more opts n h k known (ends e o q) = absurd (no_text name v (unmarked (name ++ codes "=" ++ v) [] e))
    where
      no_text : (name value : Text) → name ++ codes "=" ++ value ≡ [] → ⊥
      no_text [] value e = absurd (cc)
      no_text (c ∷ cs) value e = absurd (cc)
  joined_by met vals name v rest later ops more opts n h k known (begins b after o r) = absurd (true≢false (sym (marked name v) ∙ b))
    where
      marked : (name v : Text) → is_option (codes "--" ++ name ++ codes "=" ++ v) ≡ true
      marked name v = refl
  joined_by met vals name v rest later ops more opts n h k known (takes other value words after e is b q r) =
      absurd (no_value other name v (names other (next_known os vals more after opts other value q k known)) (sym (unmarked (name ++ codes "=" ++ v) other e)))
  joined_by met vals name v rest later ops more opts n h k known (joins other value after e q r) =
      let m = names other (next_known os vals more after opts other value q k known) in
      let same = same_cut 61 name other v value n.mark m.mark (sym (mark_is name v) ∙ unmarked (name ++ codes "=" ++ v) (other ++ codes "=" ++ value) e ∙ mark_is other value) in
      subst₂ (λ x y. Says met (vals ++ (x, y) ∷ []) rest ops opts) (sym same.0) (sym same.1)
      (record { later = later; more = after; reads = r; operands = h; options = pushed vals after more opts (other, value) q k })

  pub said_joined : (met : List Text) (vals : Uses) (name v : Text) (rest ops : List Text) (opts : Uses) → IsName name → AreKnown os opts → Says met vals ((codes "--" ++ name ++ codes "=" ++ v) ∷ rest) ops opts
      → Says met (vals ++ (name, v) ∷ []) rest ops opts
  said_joined met vals name v rest ops opts n known s =
      joined_by met vals name v rest s.later ops s.more opts n s.operands s.options known (first (codes "--" ++ name ++ codes "=" ++ v) rest s.later s.more s.reads)

-- ---- `--name value`

pub valued_said : (met : List Text) (vals : Uses) (name v : Text) (rest ops : List Text) (opts : Uses) → is_option v ≡ false → Says met (vals ++ (name, v) ∷ []) rest ops opts
    → Says met vals ((codes "--" ++ name) ∷ v ∷ rest) ops opts
valued_said met vals name v rest ops opts p s = record {
  later = s.later;
  more = (name, v) ∷ s.more;
  reads = valued_read name v rest s.later s.more p s.reads;
  operands = s.operands;
  options = sym (append_assoc vals ((name, v) ∷ []) s.more) ∙ s.options;
}

-- the next word is its value
pub record HasValue (met : List Text) (vals : Uses) (name : Text) (rest ops : List Text) (opts : Uses) : Type 0 where
  pub value : Text
  pub words : List Text
  pub is : rest ≡ value ∷ words
  pub plain : is_option value ≡ false
  pub says : Says met (vals ++ (name, value) ∷ []) words ops opts

module _ (os : Options) (names : AreNames os) where
  valued_by : (met : List Text) (vals : Uses) (name : Text) (rest later ops : List Text) (more opts : Uses) → IsName name → met ++ later ≡ ops → vals ++ more ≡ opts → AreKnown os opts
      → First (codes "--" ++ name) rest later more → HasValue met vals name rest ops opts
  valued_by met vals name rest later ops more opts n h k known (ends e o q) = absurd (n.some (unmarked name [] e))
  valued_by met vals name rest later ops more opts n h k known (begins b after o r) = absurd (no_option (codes "--" ++ name) name b refl)
  valued_by met vals name rest later ops more opts n h k known (takes other value words after e is b q r) = record {
    value = value;
    words = words;
    is = is;
    plain = b;
    says = subst (λ x. Says met (vals ++ (x, value) ∷ []) words ops opts) (sym (unmarked name other e))
        (record { later = later; more = after; reads = r; operands = h; options = pushed vals after more opts (other, value) q k });
  }
  valued_by met vals name rest later ops more opts n h k known (joins other value after e q r) = absurd (no_value name other value n (unmarked name (other ++ codes "=" ++ value) e))

  pub said_valued : (met : List Text) (vals : Uses) (name : Text) (rest ops : List Text) (opts : Uses) → IsName name → AreKnown os opts → Says met vals ((codes "--" ++ name) ∷ rest) ops opts
      → HasValue met vals name rest ops opts
  said_valued met vals name rest ops opts n known s = valued_by met vals name rest s.later ops s.more opts n s.operands s.options known (first (codes "--" ++ name) rest s.later s.more s.reads)

-- ---- another option

pub record IsUnknown (os : Options) (word : Text) : Type 0 where
  pub dashes : word ≡ codes "--" → ⊥
  pub option : is_option word ≡ true
  pub bare : (name : Text) → knows os name ≡ true → word ≡ codes "--" ++ name → ⊥
  pub joined : (name value : Text) → knows os name ≡ true → word ≡ codes "--" ++ name ++ codes "=" ++ value → ⊥

module _ (os : Options) where
  never_by : (met : List Text) (vals : Uses) (word : Text) (rest later ops : List Text) (more opts : Uses) → IsUnknown os word → vals ++ more ≡ opts → AreKnown os opts → First word rest later more → ⊥
  never_by met vals word rest later ops more opts u k known (ends e o q) = u.dashes e
  never_by met vals word rest later ops more opts u k known (begins b after o r) = true≢false (sym u.option ∙ b)
  never_by met vals word rest later ops more opts u k known (takes name value words after e is b q r) = u.bare name (next_known os vals more after opts name value q k known) e
  never_by met vals word rest later ops more opts u k known (joins name value after e q r) = u.joined name value (next_known os vals more after opts name value q k known) e

  pub never_said : (met : List Text) (vals : Uses) (word : Text) (rest ops : List Text) (opts : Uses) → IsUnknown os word → AreKnown os opts → Says met vals (word ∷ rest) ops opts → ⊥
  never_said met vals word rest ops opts u known s = never_by met vals word rest s.later ops s.more opts u s.options known (first word rest s.later s.more s.reads)

-- What names stand for at a place of an interface's text. A name stands for what its newest declaration of that kind declares; types,
-- constants and the tags of structures are the kinds.
use Rattle.std.specs.Prelude.{ℕ, ◌+◌, Bool, false, ◌||◌, List, [], ◌∷◌, Option, Some, None, if◌then◌else◌, bytes_eq}
use Rattle.rpc_base.specs.Named.{at_name}
use Rattle.idl_tree.specs.declared.leaf.Ident.{Ident}
use Rattle.idl_tree.specs.declared.leaf.Num.{Num}
use Rattle.idl_names.specs.declared.symbols.Tag.{Tag}
use Rattle.idl_names.specs.declared.symbols.SymbolTable.{SymbolTable}

-- what stands at each name
abbrev pub ByName : Type 0 → Type 0
ByName X = List ℕ → Option X

abbrev pub put : {X : Type 0} → List ℕ → X → ByName X → ByName X
put name x named = λ other. if bytes_eq name other then Some x else named other

-- T: what is known of a type; G: what is known of a structure
pub record Symbols (T G : Type 0) : Type 0 where
  pub types : ByName T
  pub constants : ByName Num
  pub tags : ByName (Tag G)

abbrev pub no_symbols : {T G : Type 0} → Symbols T G
no_symbols = record { types = λ name. None; constants = λ name. None; tags = λ name. None }

-- the same of what the code keeps
abbrev pub symbols : {T G : Type 0} → SymbolTable T G → Symbols T G
symbols k = record { types = λ name. at_name k.types name; constants = λ name. at_name k.constants name; tags = λ name. at_name k.tags name }

-- ---- what declarations add

abbrev pub with_type : {T G : Type 0} → Ident → T → Symbols T G → Symbols T G
with_type i t s = record s { types = put i.text t s.types }

abbrev pub with_constant : {T G : Type 0} → Ident → Num → Symbols T G → Symbols T G
with_constant i n s = record s { constants = put i.text n s.constants }

abbrev pub with_tag : {T G : Type 0} → Ident → Tag G → Symbols T G → Symbols T G
with_tag i t s = record s { tags = put i.text t s.tags }

-- the number of a name of an enumeration, behind so many others
abbrev pub number_of : Ident → ℕ → Num
number_of i n = record { at = i.at; minus = false; value = n }

-- the names of an enumeration stand for the numbers from n on
abbrev pub with_names : {T G : Type 0} → ℕ → List Ident → Symbols T G → Symbols T G
with_names n [] s = s
with_names n (i ∷ is) s = with_names (n + 1) is (with_constant i (number_of i n) s)

-- ---- tags of structures

-- inside of its body a structure is known behind a pointer alone
abbrev pub found : {G : Type 0} → Bool → Option (Tag G) → Option G
found pointed None = None
found pointed (Some t) = if t.whole || pointed then Some t.known else None

-- the structure that a tag stands for. pointed: it stands behind a pointer
abbrev pub tag_named : {T G : Type 0} → Bool → List ℕ → Symbols T G → Option G
tag_named pointed name s = found pointed (s.tags name)

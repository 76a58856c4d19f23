-- Laws of texts and their trees.
use Rattle.std.specs.Prelude.{◌≡◌, ℕ, List, map}
use Rattle.idl_tokens.specs.declared.kinds.Kind.{Kind}
use Rattle.idl_tokens.specs.declared.kinds.Token.{Token}
use Rattle.idl_tree.specs.Idl.{IsTree, IsIdl}
use Rattle.idl_tree.specs.declared.declaration.Ast.{Ast}
use Rattle.idl_forms.specs.Forms.{Same}
use Rattle.idl_forms.specs.Moved.{Alike}

abbrev pub TokensHaveOneTree : Type 0
TokensHaveOneTree = (tokens : List Token) (t u : Ast) → IsTree tokens t → IsTree tokens u → Same t u

abbrev pub TextHasOneTree : Type 0
TextHasOneTree = (text : List ℕ) (t u : Ast) → IsIdl text t → IsIdl text u → Same t u

abbrev pub kinds_of : List Token → List Kind
kinds_of tokens = map (λ t. t.kind) tokens

abbrev pub TokensOfTheSameKinds : Type 0
TokensOfTheSameKinds = (ts us : List Token) (t u : Ast) → kinds_of ts ≡ kinds_of us → IsTree ts t → IsTree us u → Alike t u

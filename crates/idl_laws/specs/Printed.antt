-- Printing and reading again.
use Rattle.std.specs.Prelude.{◌≡◌, ℕ, List}
use Rattle.idl_tree.specs.Idl.{IsIdl}
use Rattle.idl_tree.specs.declared.declaration.Ast.{Ast}
use Rattle.idl_forms.specs.Moved.{Alike}
use Rattle.idl_print.specs.Canonical.{canonical_text}
use Rattle.idl_reader.specs.Causes.{IsCause}
use Rattle.idl_reader.specs.declared.fault.IdlFault.{IdlFault}
use Rattle.idl_reader.specs.declared.fault.IdlFault.TheVariants.{Memory}

abbrev pub PrintedTreeIsTheSame : Type 0
PrintedTreeIsTheSame = (text : List ℕ) (t u : Ast) → IsIdl text t → IsIdl (canonical_text t) u → Alike t u

abbrev pub PrintedTextHasNoFault : Type 0
PrintedTextHasNoFault = (text : List ℕ) (t : Ast) (fault : IdlFault) → IsIdl text t → IsCause (canonical_text t) fault → fault ≡ Memory

abbrev pub PrintedAgainIsTheSame : Type 0
PrintedAgainIsTheSame = (text : List ℕ) (t u : Ast) → IsIdl text t → IsIdl (canonical_text t) u → canonical_text u ≡ canonical_text t

-- What is kept beside the events of an outline, so that names are looked up and not searched for.
use Rattle.std.specs.Prelude.{◌≡◌, ℕ, Bool, is_some, if◌then◌else◌}
use Rattle.std.specs.List.{count_by}
use Rattle.rpc_base.specs.Named.{at_name}
use Rattle.idl_names.specs.Symbols.{symbols}
use Rattle.idl_outline.specs.declared.known.Known.{Known}
use Rattle.idl_outline.specs.Names.{Past, Declarations, declarations, is_operation, is_typedef_event, is_body, is_kind}

abbrev pub shown : Known → Declarations
shown k = record { symbols = symbols k.symbols; operations = λ name. is_some (at_name k.operations name); others = λ name. is_some (at_name k.others name) }

abbrev pub one_if : Bool → ℕ
one_if b = if b then 1 else 0

pub record IsKept (past : Past) (known : Known) (operations typedefs bodies kinds : ℕ) : Type 0 where
  pub declared : shown known ≡ declarations past
  pub operations_are : operations ≡ count_by is_operation past
  pub typedefs_are : typedefs ≡ count_by is_typedef_event past
  pub bodies_are : bodies ≡ count_by is_body past
  pub kinds_are : kinds ≡ count_by is_kind past

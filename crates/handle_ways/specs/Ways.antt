-- The handles of an interface text go in or out.
use Rattle.std.specs.Prelude.{◌≡◌, ℕ, true}
use Rattle.idl_tree.specs.declared.declaration.Ast.{Ast}
use Rattle.idl_rules.specs.Broken.{NoneBroken}
use Rattle.ndr_table.specs.Tables.{TableForm}
use Rattle.marshal_table.specs.Interfaces.{tabled}
use Rattle.world_laws.specs.Keeping.{all_go}

-- each handle parameter of each operation does
abbrev pub EachGoes : TableForm → Type 0
EachGoes table = (op : ℕ) → all_go table op ≡ true

abbrev pub EachHandleGoes : Type 0
EachHandleGoes = (tree : Ast) → NoneBroken tree → EachGoes (tabled tree)

-- What the table of an interface has of it: all of it.
use Rattle.idl_tree.specs.declared.declaration.Ast.{Ast}
use Rattle.idl_rules.specs.Broken.{NoneBroken}
use Rattle.marshal_table.specs.Interfaces.{tabled}
use Rattle.marshal_table.specs.Wholes.{HasEachOperation, HasEachHandle}
use Rattle.marshal_table.specs.Stands.{EachNameStands}

abbrev pub EachOperationIsListed : Type 0
EachOperationIsListed = (tree : Ast) → HasEachOperation tree (tabled tree)

abbrev pub EachHandleIsListed : Type 0
EachHandleIsListed = (tree : Ast) → HasEachHandle tree (tabled tree)

abbrev pub NothingStandsIn : Type 0
NothingStandsIn = (tree : Ast) → NoneBroken tree → EachNameStands tree

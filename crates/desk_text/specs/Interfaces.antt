-- The interface of a text, and why a text has none.
use Rattle.std.specs.Prelude.{◌≡◌, ℕ, List, ⊤}
use Rattle.idl_tree.specs.declared.declaration.Ast.{Ast}
use Rattle.idl_tree.specs.Idl.{IsIdl}
use Rattle.idl_rules.specs.Broken.{NoneBroken}
use Rattle.marshal_table.specs.Interfaces.{tabled}
use Rattle.idl_reader.specs.Causes as reader
use Rattle.idl_check.specs.Firsts as rules
use Rattle.ndr_table.specs.Tables.{TableForm}
use Rattle.desk_text.specs.declared.interface.TextFault.{TextFault}
use Rattle.desk_text.specs.declared.interface.TextFault.TheVariants.{Grammar, Rule, Memory}

-- The text has a tree that breaks no rule, and this is the table of its interface.
pub record IsInterface (text : List ℕ) (table : TableForm) : Type 0 where
  pub tree : Ast
  pub idl : IsIdl text tree
  pub checked : NoneBroken tree
  pub table_is : table ≡ tabled tree

-- the fault is at the text's first departure, or its tree's first breach; or memory ran out
abbrev pub IsWhy : List ℕ → TextFault → Type 0
IsWhy text (Grammar fault) = reader.IsCause text fault
IsWhy text (Rule fault) = (tree : Ast) × IsIdl text tree × rules.IsCause tree fault
IsWhy text Memory = ⊤

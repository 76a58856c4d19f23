-- A tree that breaks no rule, and its outline.
use Rattle.std.specs.Prelude.{◌≡◌}
use Rattle.idl_tree.specs.declared.declaration.Ast.{Ast}
use Rattle.idl_forms.specs.Forms.{tree_form}
use Rattle.idl_outline.specs.Names.{Past}
use Rattle.idl_outline.specs.Outline.{outline}
use Rattle.idl_rules.specs.Broken.{NoneBroken}

pub record IsOutlined (tree : Ast) (past : Past) : Type 0 where
  pub sound : NoneBroken tree
  pub outlined : past ≡ outline (tree_form tree)

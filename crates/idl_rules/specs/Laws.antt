-- What is the same of trees that are the same in every item.
use Rattle.std.specs.Prelude.{◌≡◌, ℕ}
use Rattle.idl_tree.specs.declared.declaration.Ast.{Ast}
use Rattle.idl_forms.specs.Forms.{Same, tree_form}
use Rattle.idl_outline.specs.Outline.{outline}
use Rattle.idl_rules.specs.Broken.{Broken}

abbrev pub SameTreesHaveOneOutline : Type 0
SameTreesHaveOneOutline = (t u : Ast) → Same t u → outline (tree_form t) ≡ outline (tree_form u)

abbrev pub SameTreesBreakTheSameRules : Type 0
SameTreesBreakTheSameRules = (t u : Ast) → Same t u → (number at : ℕ) → Broken t number at → Broken u number at

-- Trees that are the same in every item have one outline, and break the same rules at the same places.
use Rattle.std.proofs.Common.{◌≡◌, ℕ, ap, subst}
use Rattle.idl_tree.specs.declared.declaration.Ast.{Ast}
use Rattle.idl_forms.specs.Forms.{TreeForm, tree_form, Same}
use Rattle.idl_outline.specs.Outline.{outline}
use Rattle.idl_rules.specs.Places.{Among}
use Rattle.idl_rules.specs.Broken.{places, Broken}

pub one_outline : (t u : Ast) → Same t u → outline (tree_form t) ≡ outline (tree_form u)
one_outline t u same = ap outline same

pub broken_too : (t u : Ast) → Same t u → (number at : ℕ) → Broken t number at → Broken u number at
broken_too t u same number at b = record { there = subst (λ (form : TreeForm). Among at (places form number)) same b.there }

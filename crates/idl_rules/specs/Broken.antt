-- Which rules an interface breaks, and where; and the breach that is named.
use Rattle.std.specs.Prelude.{◌≡◌, ℕ, ◌<◌, ◌≤◌, ◌==◌, ◌⊎◌, List, [], ◌++◌, if◌then◌else◌}
use Rattle.idl_tree.specs.declared.declaration.Ast.{Ast}
use Rattle.idl_forms.specs.Forms.{TreeForm, tree_form}
use Rattle.idl_outline.specs.Outline.{outline}
use Rattle.idl_rules.specs.Places.{Among, gathered}
use Rattle.idl_rules.specs.Unknown.{unknown}
use Rattle.idl_rules.specs.Duplicate.{duplicate}
use Rattle.idl_rules.specs.BadAttribute.{bad_attribute, bad_file}
use Rattle.idl_rules.specs.SizeName.{size_name}
use Rattle.idl_rules.specs.HandleUse.{handle_use}
use Rattle.idl_rules.specs.TooManyHandles.{too_many_handles}
use Rattle.idl_rules.specs.Recursion.{recursion}
use Rattle.idl_rules.specs.UnionTag.{union_tag}
use Rattle.idl_rules.specs.OutsideProfile.{outside_profile}

-- the places where an interface of that form breaks the rule of that number
abbrev pub places : TreeForm → ℕ → List ℕ
places tree number =
    if number == 1 then gathered unknown (outline tree) else
    (if number == 2 then gathered duplicate (outline tree) else
    (if number == 3 then bad_file tree ++ gathered bad_attribute (outline tree) else
    (if number == 4 then gathered size_name (outline tree) else
    (if number == 5 then gathered handle_use (outline tree) else
    (if number == 6 then gathered too_many_handles (outline tree) else
    (if number == 7 then gathered recursion (outline tree) else
    (if number == 8 then gathered union_tag (outline tree) else
    (if number == 9 then gathered outside_profile (outline tree) else []))))))))

pub record Broken (tree : Ast) (number at : ℕ) : Type 0 where
  pub there : Among at (places (tree_form tree) number)

-- the breach with the least place, and at that place the least number
pub record IsLeastBreach (tree : Ast) (number at : ℕ) : Type 0 where
  pub broken : Broken tree number at
  pub first : (m b : ℕ) → Broken tree m b → (at < b) ⊎ ((at ≡ b) × (number ≤ m))

pub record NoneBroken (tree : Ast) : Type 0 where
  pub none : (number at : ℕ) → Broken tree number at → ⊥

-- What the table of an interface has of it: all of it.
use Rattle.std.specs.Prelude.{◌≡◌, ℕ, List, [], ◌∷◌, ◌++◌, map}
use Rattle.std.specs.List.{flat_map}
use Rattle.idl_tree.specs.declared.declaration.Ast.{Ast}
use Rattle.idl_forms.specs.Forms as idl
use Rattle.idl_outline.specs.declared.field.Field.{Field}
use Rattle.idl_outline.specs.declared.event.Event.{Event}
use Rattle.idl_outline.specs.declared.event.Event.TheVariants as events
use Rattle.idl_outline.specs.Names.{Past}
use Rattle.idl_outline.specs.Outline.{outline}
use Rattle.ndr_table.specs.Tables.{OpForm, TableForm}
use Rattle.marshal_table.specs.Interfaces.{use_in}

abbrev pub op_name : OpForm → List ℕ
op_name o = o.name

-- the name of the operation that a declaration declares
abbrev pub names_in : idl.DeclKindForm → List (List ℕ)
names_in (idl.OfOp as' s name void ps) = name.text ∷ []
names_in _ = []

abbrev pub op_names : List idl.DeclForm → List (List ℕ)
op_names [] = []
op_names (x ∷ xs) = names_in x.what ++ op_names xs

-- the parameters of the operation that an event declares
abbrev pub parameters_in : Event → List (List Field)
parameters_in (events.Call r fs) = fs ∷ []
parameters_in _ = []

abbrev pub all_parameters : Past → List (List Field)
all_parameters [] = []
all_parameters (e ∷ past) = all_parameters past ++ parameters_in e

-- each operation of the text is one of the table, in order
pub record HasEachOperation (tree : Ast) (table : TableForm) : Type 0 where
  pub names_are : map op_name table.ops ≡ op_names (idl.tree_form tree).decls

-- each parameter of each operation that is a context handle is one of the table's handles, in order: none is left out
pub record HasEachHandle (tree : Ast) (table : TableForm) : Type 0 where
  pub uses_are : table.uses ≡ map (flat_map use_in) (all_parameters (outline (idl.tree_form tree)))

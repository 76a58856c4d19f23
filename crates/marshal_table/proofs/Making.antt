-- What is made of an interface's events is its table.
use Rattle.std.proofs.Common.{◌≡◌, ◌<◌, List, length, reverse, true}
use Rattle.std.specs.List.{list_all, flat_map}
use Rattle.rpc_base.specs.declared.identifiers.SyntaxId.{SyntaxId}
use Rattle.idl_tree.specs.declared.declaration.Ast.{Ast}
use Rattle.idl_forms.specs.Forms.{tree_form}
use Rattle.idl_outline.specs.declared.event.Event.{Event}
use Rattle.idl_outline.specs.Outline.{outline}
use Rattle.ndr_value.specs.Forms.{Form}
use Rattle.ndr_table.specs.declared.operation.HandleUse.{HandleUse}
use Rattle.ndr_table.specs.Tables.{OpForm, TableForm, IsTable}
use Rattle.marshal_table.specs.Bodies.{type_in}
use Rattle.marshal_table.specs.Interfaces.{is_few, op_in, uses_in, syntax_of, tabled}
use Rattle.marshal_table.proofs.Collecting.{collected_of}
use Rattle.marshal_table.proofs.Whole.{is_table}

pub made : (tree : Ast) (es : List Event) (types : List Form) (ops : List OpForm) (uses : List (List HandleUse)) → reverse es ≡ outline (tree_form tree) → types ≡ flat_map type_in es → ops ≡ flat_map op_in es → uses ≡ flat_map uses_in es
    → length ops < 65536 → list_all is_few uses ≡ true → IsTable types ops uses
made tree es types ops uses e t o u few each =
    is_table (tree_form tree) types ops uses (collected_of type_in es (outline (tree_form tree)) types e t) (collected_of op_in es (outline (tree_form tree)) ops e o)
    (collected_of uses_in es (outline (tree_form tree)) uses e u) few each

pub shows : (tree : Ast) (es : List Event) (table : TableForm) (id : SyntaxId) (types : List Form) (ops : List OpForm) (uses : List (List HandleUse)) → table ≡ record { id = id; types = types; ops = ops; uses = uses }
    → reverse es ≡ outline (tree_form tree) → id ≡ syntax_of (tree_form tree).attributes → types ≡ flat_map type_in es → ops ≡ flat_map op_in es → uses ≡ flat_map uses_in es → table ≡ tabled tree
shows tree es table id types ops uses is e i t o u =
    let a = collected_of type_in es (outline (tree_form tree)) types e t in
    let b = collected_of op_in es (outline (tree_form tree)) ops e o in
    let c = collected_of uses_in es (outline (tree_form tree)) uses e u in
    cc

pub ruleset making = (made, shows)

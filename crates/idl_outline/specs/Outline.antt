-- The outline of an interface: its events in the order of the text, the newest first. The outline's reader of declarations, and what it
-- has of them: X_past is the past behind an X, for the past before it.
use Rattle.std.specs.Prelude.{List, [], ◌∷◌, map}
use Rattle.idl_tree.specs.declared.leaf.Ident.{Ident}
use Rattle.idl_tree.specs.declared.leaf.Pk.{Pk}
use Rattle.idl_forms.specs.Forms.{MemberForm, ParamForm, DeclKindForm, DeclForm, TreeForm}
use Rattle.idl_names.specs.declared.place.Place.{Place}
use Rattle.idl_names.specs.declared.place.Place.TheVariants as places
use Rattle.idl_names.specs.Attributes.{pointer_default}
use Rattle.idl_names.specs.Walk.{TextReader}
use Rattle.idl_names.specs.Walk as walk
use Rattle.idl_outline.specs.declared.ty.DataType.{DataType}
use Rattle.idl_outline.specs.declared.field.Mark.{Mark}
use Rattle.idl_outline.specs.declared.field.Declared.{Declared}
use Rattle.idl_outline.specs.declared.field.Field.{Field}
use Rattle.idl_outline.specs.declared.event.Tag.{Tag}
use Rattle.idl_outline.specs.declared.event.Event.TheVariants as events
use Rattle.idl_outline.specs.declared.setting.Setting.{Setting}
use Rattle.idl_outline.specs.Names.{Past}
use Rattle.idl_outline.specs.Specs.{outline_reader, field_in, member_past}

-- what a typedef's declarators declare
abbrev pub types_past : List Declared → Past → Past
types_past [] p = p
types_past (x ∷ xs) p = types_past xs (events.Typedef x.name x.ty ∷ p)

abbrev pub outline_text : TextReader Past DataType Mark Setting Tag Past
outline_text = record {
  specs = outline_reader;
  known = λ p. p;
  constant = λ base name value p. events.Constant base name value ∷ p;
  own = λ default place x p. events.Single (field_in default place x) ∷ types_past (field_in default place x).declared (walk.behind outline_reader x.0 x.1);
  named = λ name p. events.Operation name ∷ p;
  operation = λ default name ns result ps p. events.Call (field_in default places.Operation result) (map (field_in default places.Parameter) ps.0) ∷ ps.1;
}

-- a typedef, or a spec without a declarator
abbrev pub own_past : Pk → Place → MemberForm → Past → Past
own_past default place m p = walk.own_at outline_text default place m p

abbrev pub params_past : Pk → List ParamForm → Past → Past
params_past default ns p = (walk.params_at outline_text default ns p).1

abbrev pub param_fields : Pk → List ParamForm → Past → List Field
param_fields default ns p = map (field_in default places.Parameter) (walk.params_at outline_text default ns p).0

abbrev pub named_past : Pk → MemberForm → Ident → Past → Past
named_past default r name p = events.Operation name ∷ member_past default places.Operation r p

abbrev pub op_past : Pk → MemberForm → Ident → List ParamForm → Past → Past
op_past default r name ns p = walk.op_at outline_text default r name ns p

abbrev pub decl_past : Pk → DeclKindForm → Past → Past
decl_past default x p = walk.decl_at outline_text default x p

abbrev pub decls_past : Pk → List DeclForm → Past → Past
decls_past default xs p = walk.decls_at outline_text default xs p

abbrev pub outline : TreeForm → Past
outline tree = decls_past (pointer_default tree.attributes) tree.decls []

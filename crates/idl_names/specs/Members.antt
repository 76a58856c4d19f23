-- Each declaration is a spec behind attributes and before declarators, as a member of a body is; its place says what it declares. One
-- without a declarator stands alone.
use Rattle.std.specs.Prelude.{List, [], ◌∷◌, None}
use Rattle.idl_tree.specs.declared.leaf.Ident.{Ident}
use Rattle.idl_tree.specs.declared.leaf.Dtor.{Dtor}
use Rattle.idl_forms.specs.Forms.{SpecForm, MemberForm, a_member, AttrForms, ParamForm}

abbrev pub attrs_of : MemberForm → AttrForms
attrs_of (a_member as' s ds) = as'

abbrev pub spec_of : MemberForm → SpecForm
spec_of (a_member as' s ds) = s

abbrev pub dtors_of : MemberForm → List Dtor
dtors_of (a_member as' s ds) = ds

abbrev pub lone_member : AttrForms → SpecForm → MemberForm
lone_member as' s = a_member as' s []

-- an operation's name stands for its result's declarator
abbrev pub result_dtor : Ident → Dtor
result_dtor i = record { stars = 0; name = i; array = None }

abbrev pub result_member : AttrForms → SpecForm → Ident → MemberForm
result_member as' s name = a_member as' s (result_dtor name ∷ [])

abbrev pub param_member : ParamForm → MemberForm
param_member n = a_member n.attrs n.spec (n.dtor ∷ [])

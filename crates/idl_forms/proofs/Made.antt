-- The forms of what code makes of its parts.
use Rattle.std.proofs.Common.{◌≡◌, map, Option, None, Some, Vec, Global, ap}
use Rattle.idl_tree.specs.declared.leaf.Ident.{Ident}
use Rattle.idl_tree.specs.declared.spec.AttrKind.{AttrKind}
use Rattle.idl_tree.specs.declared.spec.SpecKind.{SpecKind}
use Rattle.idl_tree.specs.declared.spec.ArmNode.{ArmNode}
use Rattle.idl_tree.specs.declared.spec.Attr.{Attr}
use Rattle.idl_tree.specs.declared.spec.Member.{Member}
use Rattle.idl_tree.specs.declared.spec.Spec.{Spec}
use Rattle.idl_tree.specs.declared.spec.Switch.{Switch}
use Rattle.idl_tree.specs.declared.spec.AttrKind.TheViews as views
use Rattle.idl_tree.specs.declared.spec.AttrKind.TheOpen as open_
use Rattle.idl_forms.specs.Forms.{a_member, a_switch, struct_form, union_form, if_there, arm_of, kind_form, attrs_form, member_form, spec_form, switch_form, arm_form}
use Rattle.idl_forms.proofs.Layers.{struct_none, struct_some, union_none, union_some}

pub struct_made : (tag : Option Ident) (ms : Option (Vec Member Global)) → kind_form (views.Struct tag ms) ≡ struct_form tag (if_there (λ (v : Vec Member Global). map member_form v.items) ms)
struct_made tag None = struct_none tag
struct_made tag (Some v) = struct_some tag v

pub union_made : (tag : Option Ident) (s : Option Switch) (arms : Vec ArmNode Global) → kind_form (views.Union tag s arms) ≡ union_form tag (if_there switch_form s) (map arm_form arms.items)
union_made tag None arms = union_none tag arms
union_made tag (Some s) arms = union_some tag s arms

pub made_member : (m : open_.Member-F AttrKind SpecKind ArmNode Attr Member Spec Switch) → member_form (views.roll-Member m) ≡ a_member (attrs_form m.attrs.items) (spec_form m.spec) m.dtors.items
made_member m = ap (λ (x : open_.Member-F AttrKind SpecKind ArmNode Attr Member Spec Switch). a_member (attrs_form x.attrs.items) (spec_form x.spec) x.dtors.items) (views.out-roll-Member m)

pub made_switch : (s : open_.Switch-F AttrKind SpecKind ArmNode Attr Member Spec Switch) → switch_form (views.roll-Switch s) ≡ a_switch (spec_form s.spec.value) s.name s.body
made_switch s = ap (λ (x : open_.Switch-F AttrKind SpecKind ArmNode Attr Member Spec Switch). a_switch (spec_form x.spec.value) x.name x.body) (views.out-roll-Switch s)

pub made_arm : (a : open_.ArmNode-F AttrKind SpecKind ArmNode Attr Member Spec Switch) → arm_form (views.roll-ArmNode a) ≡ arm_of a.labels.items (if_there member_form a.member)
made_arm a = ap (λ (x : open_.ArmNode-F AttrKind SpecKind ArmNode Attr Member Spec Switch). arm_of x.labels.items (if_there member_form x.member)) (views.out-roll-ArmNode a)

pub ruleset made = (made_member, made_switch, made_arm)

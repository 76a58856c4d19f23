-- The forms of specs by their parts, for code, which has a slice of the items.
use Rattle.std.proofs.Common.{◌≡◌, List, sym, ◌∙◌, ap, Option, None, Some, Vec, Global}
use Rattle.idl_tree.specs.declared.leaf.Ident.{Ident}
use Rattle.idl_tree.specs.declared.spec.SpecKind.{SpecKind}
use Rattle.idl_tree.specs.declared.spec.ArmNode.{ArmNode}
use Rattle.idl_tree.specs.declared.spec.Member.{Member}
use Rattle.idl_tree.specs.declared.spec.Switch.{Switch}
use Rattle.idl_tree.specs.declared.spec.AttrKind.TheViews as views
use Rattle.idl_forms.specs.Forms.{OfStruct, OfUnion, no_switch, kind_form, members_form, switch_form, arms_form}
use Rattle.idl_forms.proofs.Layers.{struct_some, union_none, union_some}

module _ (k : SpecKind) where
  pub is_struct : (tag : Option Ident) (ms : Option (Vec Member Global)) (v : Vec Member Global) (xs : List Member) → k ≡ views.Struct tag ms → ms ≡ Some v → xs ≡ v.items → kind_form k ≡ OfStruct tag (members_form xs)
  is_struct tag ms v xs is some items = ap kind_form (is ∙ ap (views.Struct tag) some) ∙ struct_some tag v ∙ ap (λ (x : List Member). OfStruct tag (members_form x)) (sym items)

  pub is_bare_union : (tag : Option Ident) (s : Option Switch) (arms : Vec ArmNode Global) (xs : List ArmNode) → k ≡ views.Union tag s arms → s ≡ None → xs ≡ arms.items → kind_form k ≡ OfUnion tag no_switch (arms_form xs)
  is_bare_union tag s arms xs is none items = ap kind_form (is ∙ ap (λ (o : Option Switch). views.Union tag o arms) none) ∙ union_none tag arms ∙ ap (λ (x : List ArmNode). OfUnion tag no_switch (arms_form x)) (sym items)

  pub is_union : (tag : Option Ident) (s : Option Switch) (by : Switch) (arms : Vec ArmNode Global) (xs : List ArmNode) → k ≡ views.Union tag s arms → s ≡ Some by → xs ≡ arms.items → kind_form k ≡ OfUnion tag (switch_form by) (arms_form xs)
  is_union tag s by arms xs is some items = ap kind_form (is ∙ ap (λ (o : Option Switch). views.Union tag o arms) some) ∙ union_some tag by arms ∙ ap (λ (x : List ArmNode). OfUnion tag (switch_form by) (arms_form x)) (sym items)

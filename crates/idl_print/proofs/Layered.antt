-- Specs and attributes printed by their parts.
use Rattle.std.proofs.Common.{◌≡◌, ◌++◌, sym, ◌∙◌, append_assoc, subst, Some, None, Vec, Global, Bool, Box, Option}
use Rattle.std.specs.List.{flat_map}
use Rattle.idl_tokens.specs.declared.words.Word.TheVariants as words
use Rattle.idl_tokens.specs.declared.marks.Mark.TheVariants as marks
use Rattle.idl_tokens.specs.declared.marks.Bracket.TheVariants as brackets
use Rattle.idl_print.specs.declared.page.Page.{Page}
use Rattle.idl_tree.specs.declared.leaf.Ident.{Ident}
use Rattle.idl_tree.specs.declared.leaf.Num.{Num}
use Rattle.idl_tree.specs.declared.leaf.SizeRef.{SizeRef}
use Rattle.idl_tree.specs.declared.spec.ArmNode.{ArmNode}
use Rattle.idl_tree.specs.declared.spec.Member.{Member}
use Rattle.idl_tree.specs.declared.spec.Spec.{Spec}
use Rattle.idl_tree.specs.declared.spec.Switch.{Switch}
use Rattle.idl_tree.specs.declared.spec.AttrKind.TheViews as views
use Rattle.idl_tree.specs.declared.spec.AttrKind.TheVariants as attr_kinds
use Rattle.idl_tree.specs.declared.spec.SpecKind.TheVariants as spec_kinds
use Rattle.idl_tree.specs.Pieces.{Pieces, within, word_pieces, if_ident, if_mark, ident_pieces, ref_pieces, range_pieces, bounds_pieces}
use Rattle.idl_tree.specs.Trees.{kind_pieces, attr_kind_pieces, member_pieces, arm_pieces, switch_pieces, spec_pieces, tag_pieces, names_pieces}
use Rattle.idl_tree.proofs.Layers.{size_is, max_is, length_is, switch_is, switch_type_is, range_is, struct_none, struct_some, union_none, union_some, enum_is}
use Rattle.idl_print.specs.Prints.{Prints}
use Rattle.idl_print.proofs.Printing.{prints_join}

pub prints_struct_none : (tag : Option Ident) (a b : Page) → Prints (word_pieces words.Struct ++ tag_pieces tag) a b → Prints (kind_pieces (views.Struct tag None)) a b
prints_struct_none tag a b p = subst (λ (x : Pieces). Prints x a b) (sym (struct_none tag)) p

pub prints_struct_some : (tag : Option Ident) (ms : Vec Member Global) (a b : Page) → Prints (word_pieces words.Struct ++ (if_ident tag ++ within brackets.Curly (flat_map member_pieces ms.items))) a b → Prints (kind_pieces (views.Struct tag (Some ms))) a b
prints_struct_some tag ms a b p = subst (λ (x : Pieces). Prints x a b) (sym (struct_some tag ms)) p

pub prints_union_none : (tag : Option Ident) (arms : Vec ArmNode Global) (a b c : Page) → Prints (word_pieces words.Union ++ if_ident tag) a b → Prints (within brackets.Curly (flat_map arm_pieces arms.items)) b c → Prints (kind_pieces (views.Union tag None arms)) a c
prints_union_none tag arms a b c p q =
    let body : Pieces = within brackets.Curly (flat_map arm_pieces arms.items) in
    let e : kind_pieces (views.Union tag None arms) ≡ (word_pieces words.Union ++ if_ident tag) ++ body = union_none tag arms ∙ sym (append_assoc (word_pieces words.Union) (if_ident tag) body) in
    subst (λ (x : Pieces). Prints x a c) (sym e) (prints_join _ _ a b c p q)

pub prints_union_some : (tag : Option Ident) (s : Switch) (arms : Vec ArmNode Global) (a b c d : Page) → Prints (word_pieces words.Union ++ if_ident tag) a b → Prints (switch_pieces s) b c → Prints (within brackets.Curly (flat_map arm_pieces arms.items)) c d → Prints (kind_pieces (views.Union tag (Some s) arms)) a d
prints_union_some tag s arms a b c d p q r =
    let body : Pieces = switch_pieces s ++ within brackets.Curly (flat_map arm_pieces arms.items) in
    let e : kind_pieces (views.Union tag (Some s) arms) ≡ (word_pieces words.Union ++ if_ident tag) ++ body = union_some tag s arms ∙ sym (append_assoc (word_pieces words.Union) (if_ident tag) body) in
    subst (λ (x : Pieces). Prints x a d) (sym e) (prints_join _ _ a b d p (prints_join _ _ b c d q r))

pub prints_enum : (tag : Option Ident) (names : Vec Ident Global) (a b : Page) → Prints (word_pieces words.Enum ++ (if_ident tag ++ within brackets.Curly (names_pieces names.items))) a b → Prints (kind_pieces (spec_kinds.Enum tag names)) a b
prints_enum tag names a b p = subst (λ (x : Pieces). Prints x a b) (sym (enum_is tag names)) p

pub ruleset kinds = (prints_struct_none, prints_struct_some, prints_union_none, prints_union_some, prints_enum)

pub prints_size_is : (r : SizeRef) (a b : Page) → Prints (word_pieces words.SizeIs ++ within brackets.Round (ref_pieces r)) a b → Prints (attr_kind_pieces (attr_kinds.SizeIs r)) a b
prints_size_is r a b p = subst (λ (x : Pieces). Prints x a b) (sym (size_is r)) p

pub prints_max_is : (r : SizeRef) (a b : Page) → Prints (word_pieces words.MaxIs ++ within brackets.Round (ref_pieces r)) a b → Prints (attr_kind_pieces (attr_kinds.MaxIs r)) a b
prints_max_is r a b p = subst (λ (x : Pieces). Prints x a b) (sym (max_is r)) p

pub prints_length_is : (r : SizeRef) (a b : Page) → Prints (word_pieces words.LengthIs ++ within brackets.Round (ref_pieces r)) a b → Prints (attr_kind_pieces (attr_kinds.LengthIs r)) a b
prints_length_is r a b p = subst (λ (x : Pieces). Prints x a b) (sym (length_is r)) p

pub prints_switch_is : (star : Bool) (i : Ident) (a b : Page) → Prints (word_pieces words.SwitchIs ++ within brackets.Round (if_mark star marks.Star ++ ident_pieces i)) a b → Prints (attr_kind_pieces (attr_kinds.SwitchIs star i)) a b
prints_switch_is star i a b p = subst (λ (x : Pieces). Prints x a b) (sym (switch_is star i)) p

pub prints_switch_type : (x : Box Spec Global) (a b : Page) → Prints (word_pieces words.SwitchType ++ within brackets.Round (spec_pieces x.value)) a b → Prints (attr_kind_pieces (views.SwitchType x)) a b
prints_switch_type x a b p = subst (λ (y : Pieces). Prints y a b) (sym (switch_type_is x)) p

pub prints_range : (low high : Num) (a b : Page) → Prints (range_pieces ++ within brackets.Round (bounds_pieces low high)) a b → Prints (attr_kind_pieces (attr_kinds.Range low high)) a b
prints_range low high a b p = subst (λ (x : Pieces). Prints x a b) (sym (range_is low high)) p

pub ruleset attributes = (prints_size_is, prints_max_is, prints_length_is, prints_switch_is, prints_switch_type, prints_range)

-- Attributes, specs, members and arms by their parts.
use Rattle.std.proofs.Common.{◌≡◌, ℕ, List, [], ◌∷◌, ◌++◌, refl, sym, ◌∙◌, ap, subst, Option, None, Some, Vec, Global, map, Bool, Box}
use Rattle.std.specs.List.{flat_map}
use Rattle.idl_tokens.specs.declared.words.Word.TheVariants as words
use Rattle.idl_tokens.specs.declared.marks.Mark.TheVariants as marks
use Rattle.idl_tokens.specs.declared.marks.Bracket.TheVariants as brackets
use Rattle.idl_tree.specs.declared.leaf.Ident.{Ident}
use Rattle.idl_tree.specs.declared.leaf.Num.{Num}
use Rattle.idl_tree.specs.declared.leaf.SizeRef.{SizeRef}
use Rattle.idl_tree.specs.declared.spec.AttrKind.{AttrKind}
use Rattle.idl_tree.specs.declared.spec.SpecKind.{SpecKind}
use Rattle.idl_tree.specs.declared.spec.ArmNode.{ArmNode}
use Rattle.idl_tree.specs.declared.spec.Attr.{Attr}
use Rattle.idl_tree.specs.declared.spec.Member.{Member}
use Rattle.idl_tree.specs.declared.spec.Spec.{Spec}
use Rattle.idl_tree.specs.declared.spec.Switch.{Switch}
use Rattle.idl_tree.specs.declared.spec.AttrKind.TheViews as views
use Rattle.idl_tree.specs.declared.spec.AttrKind.TheVariants as attr_kinds
use Rattle.idl_tree.specs.declared.spec.SpecKind.TheVariants as spec_kinds
use Rattle.idl_tree.specs.declared.spec.AttrKind.TheOpen as open_
use Rattle.idl_tree.specs.declared.spec.AttrKind.TheFolds.{fold-AttrKind, fold-SpecKind, fold-ArmNode, fold-Attr, fold-Member, fold-Spec, fold-Switch, fold-roll-AttrKind, fold-roll-SpecKind, map-ArmNode, fold_out-ArmNode, fold_out-Attr, fold_out-Member, fold_out-Spec, fold_out-Switch}
use Rattle.idl_tree.specs.Pieces.{Pieces, Written, BeginsAt, placed, open_pieces, shut_pieces, within, word_pieces, mark_pieces, ref_pieces, if_mark, if_ident, ident_pieces, range_pieces, bounds_pieces}
use Rattle.idl_tokens.specs.declared.kinds.Token.{Token}
use Rattle.idl_tree.proofs.Writing.{write_join, write_placed}
use Rattle.idl_tree.specs.Trees.{attr_kind_step, kind_step, arm_step, attr_step, member_step, spec_step, switch_step, attr_kind_pieces, kind_pieces, spec_pieces, attr_pieces, attrs_pieces, member_pieces, switch_pieces, arm_member_pieces, arm_pieces, label_pieces, dtors_pieces, tag_pieces, names_pieces, in_squares}

-- ---- lists of what was folded

flat_of : {A : Type 0} (f g : A → Pieces) → ((x : A) → f x ≡ g x) → (xs : List A) → flat_map (λ p. p) (map f xs) ≡ flat_map g xs
flat_of f g e [] = refl
flat_of f g e (x ∷ xs) = ap (λ y. y ++ flat_map (λ p. p) (map f xs)) (e x) ∙ ap (λ y. g x ++ y) (flat_of f g e xs)

commas_of : {A : Type 0} (f g : A → Pieces) → ((x : A) → f x ≡ g x) → (xs : List A) → flat_map (λ p. mark_pieces marks.Comma ++ p) (map f xs) ≡ flat_map (λ y. mark_pieces marks.Comma ++ g y) xs
commas_of f g e [] = refl
commas_of f g e (x ∷ xs) = ap (λ y. (mark_pieces marks.Comma ++ y) ++ flat_map (λ p. mark_pieces marks.Comma ++ p) (map f xs)) (e x) ∙ ap (λ y. (mark_pieces marks.Comma ++ g x) ++ y) (commas_of f g e xs)

squares_of : {A : Type 0} (f g : A → Pieces) → ((x : A) → f x ≡ g x) → (xs : List A) → in_squares (λ p. p) (map f xs) ≡ in_squares g xs
squares_of f g e [] = refl
squares_of f g e (x ∷ xs) = ap (λ y. within brackets.Square (y ++ flat_map (λ p. mark_pieces marks.Comma ++ p) (map f xs))) (e x) ∙ ap (λ y. within brackets.Square (g x ++ y)) (commas_of f g e xs)

-- ---- each fold is the pieces

spec_fold : (x : Spec) → fold-Spec Pieces Pieces Pieces Pieces Pieces Pieces Pieces attr_kind_step kind_step arm_step attr_step member_step spec_step switch_step x ≡ spec_pieces x
spec_fold x = fold_out-Spec Pieces Pieces Pieces Pieces Pieces Pieces Pieces attr_kind_step kind_step arm_step attr_step member_step spec_step switch_step x

attr_fold : (x : Attr) → fold-Attr Pieces Pieces Pieces Pieces Pieces Pieces Pieces attr_kind_step kind_step arm_step attr_step member_step spec_step switch_step x ≡ attr_pieces x
attr_fold x = fold_out-Attr Pieces Pieces Pieces Pieces Pieces Pieces Pieces attr_kind_step kind_step arm_step attr_step member_step spec_step switch_step x

member_fold : (m : Member) → fold-Member Pieces Pieces Pieces Pieces Pieces Pieces Pieces attr_kind_step kind_step arm_step attr_step member_step spec_step switch_step m ≡ member_pieces m
member_fold m =
    let end : Pieces = dtors_pieces (views.out-Member m).dtors.items ++ mark_pieces marks.Semicolon in
    fold_out-Member Pieces Pieces Pieces Pieces Pieces Pieces Pieces attr_kind_step kind_step arm_step attr_step member_step spec_step switch_step m
    ∙ (ap (λ (x : Pieces). x ++ (fold-Spec Pieces Pieces Pieces Pieces Pieces Pieces Pieces attr_kind_step kind_step arm_step attr_step member_step spec_step switch_step (views.out-Member m).spec ++ end)) (squares_of (fold-Attr Pieces Pieces Pieces Pieces Pieces Pieces Pieces attr_kind_step kind_step arm_step attr_step member_step spec_step switch_step) attr_pieces attr_fold (views.out-Member m).attrs.items)
    ∙ ap (λ (x : Pieces). attrs_pieces (views.out-Member m).attrs.items ++ (x ++ end)) (spec_fold (views.out-Member m).spec))

switch_fold : (s : Switch) → fold-Switch Pieces Pieces Pieces Pieces Pieces Pieces Pieces attr_kind_step kind_step arm_step attr_step member_step spec_step switch_step s ≡ switch_pieces s
switch_fold s =
    fold_out-Switch Pieces Pieces Pieces Pieces Pieces Pieces Pieces attr_kind_step kind_step arm_step attr_step member_step spec_step switch_step s
    ∙ ap (λ (x : Pieces). word_pieces words.Switch ++ (within brackets.Round (x ++ ident_pieces (views.out-Switch s).name) ++ if_ident (views.out-Switch s).body)) (spec_fold (views.out-Switch s).spec.value)

arm_fold : (a : ArmNode) → fold-ArmNode Pieces Pieces Pieces Pieces Pieces Pieces Pieces attr_kind_step kind_step arm_step attr_step member_step spec_step switch_step a ≡ arm_pieces a
arm_fold a =
    fold_out-ArmNode Pieces Pieces Pieces Pieces Pieces Pieces Pieces attr_kind_step kind_step arm_step attr_step member_step spec_step switch_step a
    ∙ elim (views.out-ArmNode a).member as (λ o. arm_step (map-ArmNode AttrKind SpecKind ArmNode Attr Member Spec Switch Pieces Pieces Pieces Pieces Pieces Pieces Pieces (fold-AttrKind Pieces Pieces Pieces Pieces Pieces Pieces Pieces attr_kind_step kind_step arm_step attr_step member_step spec_step switch_step) (fold-SpecKind Pieces Pieces Pieces Pieces Pieces Pieces Pieces attr_kind_step kind_step arm_step attr_step member_step spec_step switch_step) (fold-ArmNode Pieces Pieces Pieces Pieces Pieces Pieces Pieces attr_kind_step kind_step arm_step attr_step member_step spec_step switch_step) (fold-Attr Pieces Pieces Pieces Pieces Pieces Pieces Pieces attr_kind_step kind_step arm_step attr_step member_step spec_step switch_step) (fold-Member Pieces Pieces Pieces Pieces Pieces Pieces Pieces attr_kind_step kind_step arm_step attr_step member_step spec_step switch_step) (fold-Spec Pieces Pieces Pieces Pieces Pieces Pieces Pieces attr_kind_step kind_step arm_step attr_step member_step spec_step switch_step) (fold-Switch Pieces Pieces Pieces Pieces Pieces Pieces Pieces attr_kind_step kind_step arm_step attr_step member_step spec_step switch_step) (record (views.out-ArmNode a) { member = o })) ≡ flat_map label_pieces (views.out-ArmNode a).labels.items ++ arm_member_pieces o) [
      | None ↦ refl
      | Some m ↦ ap (λ (x : Pieces). flat_map label_pieces (views.out-ArmNode a).labels.items ++ x) (member_fold m)
    ]

-- ---- the variants that hold something

pub size_is : (r : SizeRef) → attr_kind_pieces (attr_kinds.SizeIs r) ≡ word_pieces words.SizeIs ++ within brackets.Round (ref_pieces r)
unfolding views.roll-AttrKind denote.Hole.Carrier.roll
size_is r = fold-roll-AttrKind Pieces Pieces Pieces Pieces Pieces Pieces Pieces attr_kind_step kind_step arm_step attr_step member_step spec_step switch_step (open_.SizeIs r)

pub max_is : (r : SizeRef) → attr_kind_pieces (attr_kinds.MaxIs r) ≡ word_pieces words.MaxIs ++ within brackets.Round (ref_pieces r)
unfolding views.roll-AttrKind denote.Hole.Carrier.roll
max_is r = fold-roll-AttrKind Pieces Pieces Pieces Pieces Pieces Pieces Pieces attr_kind_step kind_step arm_step attr_step member_step spec_step switch_step (open_.MaxIs r)

pub length_is : (r : SizeRef) → attr_kind_pieces (attr_kinds.LengthIs r) ≡ word_pieces words.LengthIs ++ within brackets.Round (ref_pieces r)
unfolding views.roll-AttrKind denote.Hole.Carrier.roll
length_is r = fold-roll-AttrKind Pieces Pieces Pieces Pieces Pieces Pieces Pieces attr_kind_step kind_step arm_step attr_step member_step spec_step switch_step (open_.LengthIs r)

pub switch_is : (star : Bool) (i : Ident) → attr_kind_pieces (attr_kinds.SwitchIs star i) ≡ word_pieces words.SwitchIs ++ within brackets.Round (if_mark star marks.Star ++ ident_pieces i)
unfolding views.roll-AttrKind denote.Hole.Carrier.roll
switch_is star i = fold-roll-AttrKind Pieces Pieces Pieces Pieces Pieces Pieces Pieces attr_kind_step kind_step arm_step attr_step member_step spec_step switch_step (open_.SwitchIs star i)

pub switch_type_is : (b : Box Spec Global) → attr_kind_pieces (views.SwitchType b) ≡ word_pieces words.SwitchType ++ within brackets.Round (spec_pieces b.value)
unfolding views.roll-AttrKind denote.Hole.Carrier.roll
switch_type_is b = fold-roll-AttrKind Pieces Pieces Pieces Pieces Pieces Pieces Pieces attr_kind_step kind_step arm_step attr_step member_step spec_step switch_step (open_.SwitchType b) ∙ ap (λ (x : Pieces). word_pieces words.SwitchType ++ within brackets.Round x) (spec_fold b.value)

pub range_is : (low high : Num) → attr_kind_pieces (attr_kinds.Range low high) ≡ range_pieces ++ within brackets.Round (bounds_pieces low high)
unfolding views.roll-AttrKind denote.Hole.Carrier.roll
range_is low high = fold-roll-AttrKind Pieces Pieces Pieces Pieces Pieces Pieces Pieces attr_kind_step kind_step arm_step attr_step member_step spec_step switch_step (open_.Range low high)

pub void_is : kind_pieces spec_kinds.Void ≡ word_pieces words.Void
unfolding views.roll-SpecKind denote.Hole.Carrier.roll
void_is = fold-roll-SpecKind Pieces Pieces Pieces Pieces Pieces Pieces Pieces attr_kind_step kind_step arm_step attr_step member_step spec_step switch_step open_.Void

pub struct_none : (tag : Option Ident) → kind_pieces (views.Struct tag None) ≡ word_pieces words.Struct ++ tag_pieces tag
unfolding views.roll-SpecKind denote.Hole.Carrier.roll
struct_none tag = fold-roll-SpecKind Pieces Pieces Pieces Pieces Pieces Pieces Pieces attr_kind_step kind_step arm_step attr_step member_step spec_step switch_step (open_.Struct tag None)

pub struct_some : (tag : Option Ident) (ms : Vec Member Global) → kind_pieces (views.Struct tag (Some ms)) ≡ word_pieces words.Struct ++ (if_ident tag ++ within brackets.Curly (flat_map member_pieces ms.items))
unfolding views.roll-SpecKind denote.Hole.Carrier.roll
struct_some tag ms =
    fold-roll-SpecKind Pieces Pieces Pieces Pieces Pieces Pieces Pieces attr_kind_step kind_step arm_step attr_step member_step spec_step switch_step (open_.Struct tag (Some ms))
    ∙ ap (λ (x : Pieces). word_pieces words.Struct ++ (if_ident tag ++ within brackets.Curly x)) (flat_of (fold-Member Pieces Pieces Pieces Pieces Pieces Pieces Pieces attr_kind_step kind_step arm_step attr_step member_step spec_step switch_step) member_pieces member_fold ms.items)

arms_are : (arms : Vec ArmNode Global) → flat_map (λ p. p) (map (fold-ArmNode Pieces Pieces Pieces Pieces Pieces Pieces Pieces attr_kind_step kind_step arm_step attr_step member_step spec_step switch_step) arms.items) ≡ flat_map arm_pieces arms.items
arms_are arms = flat_of (fold-ArmNode Pieces Pieces Pieces Pieces Pieces Pieces Pieces attr_kind_step kind_step arm_step attr_step member_step spec_step switch_step) arm_pieces arm_fold arms.items

pub union_none : (tag : Option Ident) (arms : Vec ArmNode Global) → kind_pieces (views.Union tag None arms) ≡ word_pieces words.Union ++ (if_ident tag ++ within brackets.Curly (flat_map arm_pieces arms.items))
unfolding views.roll-SpecKind denote.Hole.Carrier.roll
union_none tag arms =
    fold-roll-SpecKind Pieces Pieces Pieces Pieces Pieces Pieces Pieces attr_kind_step kind_step arm_step attr_step member_step spec_step switch_step (open_.Union tag None arms)
    ∙ ap (λ (x : Pieces). word_pieces words.Union ++ (if_ident tag ++ within brackets.Curly x)) (arms_are arms)

pub union_some : (tag : Option Ident) (s : Switch) (arms : Vec ArmNode Global) → kind_pieces (views.Union tag (Some s) arms) ≡ word_pieces words.Union ++ (if_ident tag ++ (switch_pieces s ++ within brackets.Curly (flat_map arm_pieces arms.items)))
unfolding views.roll-SpecKind denote.Hole.Carrier.roll
union_some tag s arms =
    fold-roll-SpecKind Pieces Pieces Pieces Pieces Pieces Pieces Pieces attr_kind_step kind_step arm_step attr_step member_step spec_step switch_step (open_.Union tag (Some s) arms)
    ∙ (ap (λ (x : Pieces). word_pieces words.Union ++ (if_ident tag ++ (x ++ within brackets.Curly (flat_map (λ p. p) (map (fold-ArmNode Pieces Pieces Pieces Pieces Pieces Pieces Pieces attr_kind_step kind_step arm_step attr_step member_step spec_step switch_step) arms.items))))) (switch_fold s)
    ∙ ap (λ (x : Pieces). word_pieces words.Union ++ (if_ident tag ++ (switch_pieces s ++ within brackets.Curly x))) (arms_are arms))

pub enum_is : (tag : Option Ident) (names : Vec Ident Global) → kind_pieces (spec_kinds.Enum tag names) ≡ word_pieces words.Enum ++ (if_ident tag ++ within brackets.Curly (names_pieces names.items))
unfolding views.roll-SpecKind denote.Hole.Carrier.roll
enum_is tag names = fold-roll-SpecKind Pieces Pieces Pieces Pieces Pieces Pieces Pieces attr_kind_step kind_step arm_step attr_step member_step spec_step switch_step (open_.Enum tag names)

-- ---- written

pub written_struct_none : (before ts rest : List Token) (tag : Option Ident) → Written (word_pieces words.Struct) before ts → Written (tag_pieces tag) ts rest → Written (kind_pieces (views.Struct tag None)) before rest
written_struct_none before ts rest tag p q = subst (λ (x : Pieces). Written x before rest) (sym (struct_none tag)) (write_join p q)

pub written_struct_some : (before ts mid rest : List Token) (tag : Option Ident) (ms : Vec Member Global) → Written (word_pieces words.Struct) before ts → Written (if_ident tag) ts mid → Written (within brackets.Curly (flat_map member_pieces ms.items)) mid rest → Written (kind_pieces (views.Struct tag (Some ms))) before rest
written_struct_some before ts mid rest tag ms p q r = subst (λ (x : Pieces). Written x before rest) (sym (struct_some tag ms)) (write_join p (write_join q r))

pub written_union_none : (before ts mid rest : List Token) (tag : Option Ident) (arms : Vec ArmNode Global) → Written (word_pieces words.Union) before ts → Written (if_ident tag) ts mid → Written (within brackets.Curly (flat_map arm_pieces arms.items)) mid rest → Written (kind_pieces (views.Union tag None arms)) before rest
written_union_none before ts mid rest tag arms p q r = subst (λ (x : Pieces). Written x before rest) (sym (union_none tag arms)) (write_join p (write_join q r))

pub written_union_some : (before ts mid next rest : List Token) (tag : Option Ident) (s : Switch) (arms : Vec ArmNode Global) → Written (word_pieces words.Union) before ts → Written (if_ident tag) ts mid → Written (switch_pieces s) mid next → Written (within brackets.Curly (flat_map arm_pieces arms.items)) next rest → Written (kind_pieces (views.Union tag (Some s) arms)) before rest
written_union_some before ts mid next rest tag s arms p q r z = subst (λ (x : Pieces). Written x before rest) (sym (union_some tag s arms)) (write_join p (write_join q (write_join r z)))

pub written_enum : (before ts mid rest : List Token) (tag : Option Ident) (names : Vec Ident Global) → Written (word_pieces words.Enum) before ts → Written (if_ident tag) ts mid → Written (within brackets.Curly (names_pieces names.items)) mid rest → Written (kind_pieces (spec_kinds.Enum tag names)) before rest
written_enum before ts mid rest tag names p q r = subst (λ (x : Pieces). Written x before rest) (sym (enum_is tag names)) (write_join p (write_join q r))

pub written_size_is : (ts mid rest : List Token) (r : SizeRef) → Written (word_pieces words.SizeIs) ts mid → Written (within brackets.Round (ref_pieces r)) mid rest → Written (attr_kind_pieces (attr_kinds.SizeIs r)) ts rest
written_size_is ts mid rest r p q = subst (λ (x : Pieces). Written x ts rest) (sym (size_is r)) (write_join p q)

pub written_max_is : (ts mid rest : List Token) (r : SizeRef) → Written (word_pieces words.MaxIs) ts mid → Written (within brackets.Round (ref_pieces r)) mid rest → Written (attr_kind_pieces (attr_kinds.MaxIs r)) ts rest
written_max_is ts mid rest r p q = subst (λ (x : Pieces). Written x ts rest) (sym (max_is r)) (write_join p q)

pub written_length_is : (ts mid rest : List Token) (r : SizeRef) → Written (word_pieces words.LengthIs) ts mid → Written (within brackets.Round (ref_pieces r)) mid rest → Written (attr_kind_pieces (attr_kinds.LengthIs r)) ts rest
written_length_is ts mid rest r p q = subst (λ (x : Pieces). Written x ts rest) (sym (length_is r)) (write_join p q)

pub written_switch_is : (ts mid rest : List Token) (star : Bool) (i : Ident) → Written (word_pieces words.SwitchIs) ts mid → Written (within brackets.Round (if_mark star marks.Star ++ ident_pieces i)) mid rest → Written (attr_kind_pieces (attr_kinds.SwitchIs star i)) ts rest
written_switch_is ts mid rest star i p q = subst (λ (x : Pieces). Written x ts rest) (sym (switch_is star i)) (write_join p q)

pub written_range : (ts mid rest : List Token) (low high : Num) → Written range_pieces ts mid → Written (within brackets.Round (bounds_pieces low high)) mid rest → Written (attr_kind_pieces (attr_kinds.Range low high)) ts rest
written_range ts mid rest low high p q = subst (λ (x : Pieces). Written x ts rest) (sym (range_is low high)) (write_join p q)

-- ---- what code makes of its parts

made_attr : (a : open_.Attr-F AttrKind SpecKind ArmNode Attr Member Spec Switch) → attr_pieces (views.roll-Attr a) ≡ placed a.at (attr_kind_pieces a.what)
made_attr a = refl

made_member : (m : open_.Member-F AttrKind SpecKind ArmNode Attr Member Spec Switch) → member_pieces (views.roll-Member m) ≡ attrs_pieces m.attrs.items ++ (spec_pieces m.spec ++ (dtors_pieces m.dtors.items ++ mark_pieces marks.Semicolon))
made_member m = ap (λ (x : open_.Member-F AttrKind SpecKind ArmNode Attr Member Spec Switch). attrs_pieces x.attrs.items ++ (spec_pieces x.spec ++ (dtors_pieces x.dtors.items ++ mark_pieces marks.Semicolon))) (views.out-roll-Member m)

made_switch : (s : open_.Switch-F AttrKind SpecKind ArmNode Attr Member Spec Switch) → switch_pieces (views.roll-Switch s) ≡ word_pieces words.Switch ++ (within brackets.Round (spec_pieces s.spec.value ++ ident_pieces s.name) ++ if_ident s.body)
made_switch s = ap (λ (x : open_.Switch-F AttrKind SpecKind ArmNode Attr Member Spec Switch). word_pieces words.Switch ++ (within brackets.Round (spec_pieces x.spec.value ++ ident_pieces x.name) ++ if_ident x.body)) (views.out-roll-Switch s)

made_arm : (a : open_.ArmNode-F AttrKind SpecKind ArmNode Attr Member Spec Switch) → arm_pieces (views.roll-ArmNode a) ≡ flat_map label_pieces a.labels.items ++ arm_member_pieces a.member
made_arm a = ap (λ (x : open_.ArmNode-F AttrKind SpecKind ArmNode Attr Member Spec Switch). flat_map label_pieces x.labels.items ++ arm_member_pieces x.member) (views.out-roll-ArmNode a)

pub written_switch_type : (ts a b d rest : List Token) (at : ℕ) (box : Box Spec Global) (s : Spec) → box.value ≡ s → BeginsAt at ts → Written (word_pieces words.SwitchType) ts a → Written (open_pieces brackets.Round) a b → Written (spec_pieces s) b d → Written (shut_pieces brackets.Round) d rest → Written (attr_pieces (views.roll-Attr (record { at = at; what = views.SwitchType box }))) ts rest
written_switch_type ts a b d rest at box s e place p q r z =
    let inner : Written (within brackets.Round (spec_pieces box.value)) a rest = write_join q (write_join (subst (λ (x : Spec). Written (spec_pieces x) b d) (sym e) r) z) in
    let kind : Written (attr_kind_pieces (views.SwitchType box)) ts rest = subst (λ (x : Pieces). Written x ts rest) (sym (switch_type_is box)) (write_join p inner) in
    subst (λ (x : Pieces). Written x ts rest) (sym (made_attr (record { at = at; what = views.SwitchType box }))) (write_placed place kind)

pub written_member : (ts a b d rest : List Token) (m : open_.Member-F AttrKind SpecKind ArmNode Attr Member Spec Switch) → Written (attrs_pieces m.attrs.items) ts a → Written (spec_pieces m.spec) a b → Written (dtors_pieces m.dtors.items) b d → Written (mark_pieces marks.Semicolon) d rest → Written (member_pieces (views.roll-Member m)) ts rest
written_member ts a b d rest m p q r z = subst (λ (x : Pieces). Written x ts rest) (sym (made_member m)) (write_join p (write_join q (write_join r z)))

pub written_switch : (ts a b d e f rest : List Token) (s : open_.Switch-F AttrKind SpecKind ArmNode Attr Member Spec Switch) (spec : Spec) → s.spec.value ≡ spec → Written (word_pieces words.Switch) ts a → Written (open_pieces brackets.Round) a b → Written (spec_pieces spec) b d → Written (ident_pieces s.name) d e → Written (shut_pieces brackets.Round) e f → Written (if_ident s.body) f rest → Written (switch_pieces (views.roll-Switch s)) ts rest
written_switch ts a b d e f rest s spec same p q r n z i =
    let inner : Written (spec_pieces s.spec.value ++ ident_pieces s.name) b e = write_join (subst (λ (x : Spec). Written (spec_pieces x) b d) (sym same) r) n in
    let round : Written (within brackets.Round (spec_pieces s.spec.value ++ ident_pieces s.name)) a f = write_join q (write_join inner z) in
    subst (λ (x : Pieces). Written x ts rest) (sym (made_switch s)) (write_join p (write_join round i))

pub written_arm : (ts a rest : List Token) (m : open_.ArmNode-F AttrKind SpecKind ArmNode Attr Member Spec Switch) → Written (flat_map label_pieces m.labels.items) ts a → Written (arm_member_pieces m.member) a rest → Written (arm_pieces (views.roll-ArmNode m)) ts rest
written_arm ts a rest m p q = subst (λ (x : Pieces). Written x ts rest) (sym (made_arm m)) (write_join p q)

pub ruleset sizes = (written_size_is, written_max_is, written_length_is, written_switch_is, written_range)

-- Type specs and what they hold, off their tokens.
use Rattle.std.proofs.Common.{◌≡◌, ap, ℕ, zero, suc, true, eqb, List, [], ◌∷◌, ◌++◌, map, refl, sym, ◌∙◌, subst, None, Some, Option, Vec, Global, Box, append-nil, arith, inl, inr}
use Rattle.std.specs.Prelude.{if◌then◌else◌, ◌⊎◌}
use Rattle.std.specs.List.{flat_map}
use Rattle.idl_tokens.specs.Checks.{apart}
use Rattle.idl_tokens.specs.declared.words.Word.TheVariants as words
use Rattle.idl_tokens.specs.declared.marks.Mark.TheVariants as marks
use Rattle.idl_tokens.specs.declared.marks.Bracket.TheVariants as brackets
use Rattle.idl_tree.specs.declared.leaf.Ident.{Ident}
use Rattle.idl_tree.specs.declared.leaf.Dtor.{Dtor}
use Rattle.idl_tree.specs.declared.leaf.Pk.{Pk}
use Rattle.idl_tree.specs.declared.leaf.Pk.TheVariants as pks
use Rattle.idl_tree.specs.declared.leaf.SizeRef.{SizeRef}
use Rattle.idl_tree.specs.declared.spec.Label.{Label}
use Rattle.idl_tree.specs.declared.spec.AttrKind.{AttrKind}
use Rattle.idl_tree.specs.declared.spec.SpecKind.{SpecKind}
use Rattle.idl_tree.specs.declared.spec.ArmNode.{ArmNode}
use Rattle.idl_tree.specs.declared.spec.Attr.{Attr}
use Rattle.idl_tree.specs.declared.spec.Member.{Member}
use Rattle.idl_tree.specs.declared.spec.Spec.{Spec}
use Rattle.idl_tree.specs.declared.spec.Switch.{Switch}
use Rattle.idl_tree.specs.declared.spec.AttrKind.TheViews as views
use Rattle.idl_tree.specs.declared.spec.AttrKind.TheOpen as open_
use Rattle.idl_tree.specs.declared.spec.AttrKind.TheFolds.{fold-AttrKind, fold-SpecKind, fold-ArmNode, fold-Attr, fold-Member, fold-Spec, fold-Switch, fold-roll-AttrKind, fold-roll-SpecKind, map-AttrKind, map-SpecKind}
use Rattle.idl_tree.specs.Pieces.{Pieces, word_pieces, mark_pieces, ident_pieces, if_ident, range_pieces, within, pk_pieces, pk_word, base_pieces, open_pieces}
use Rattle.idl_tree.specs.Trees.{attr_kind_step, kind_step, arm_step, attr_step, member_step, spec_step, switch_step, attr_kind_pieces, kind_pieces, spec_pieces, attr_pieces, attrs_pieces, member_pieces, switch_pieces, arm_member_pieces, arm_pieces, label_pieces, dtors_pieces, tag_pieces}
use Rattle.idl_tree.proofs.Layers.{switch_type_is, struct_some, union_none, union_some}
use Rattle.idl_forms.specs.Forms.{then_attr, then_member, then_arm, KindForm, OfBase, OfName, OfVoid, OfHandle, OfStatus, OfStruct, OfUnion, OfEnum, SpecForm, a_spec, MemberForm, a_member, member_forms, SwitchForm, no_switch, a_switch, struct_form, union_form, ArmForm, arm_forms, AttrForm, an_attr, AttrForms, attr_forms, AttrKindForm, OfIn, OfOut, OfPointer, OfText, OfIdempotent, OfMaybe, OfContext, OfSerialize, OfNoserialize, OfSizeIs, OfMaxIs, OfLengthIs, OfSwitchIs, OfSwitchType, OfRange, if_there, arm_of, attr_kind_layer, kind_layer, arm_layer, attr_layer, member_layer, spec_layer, switch_layer, attr_kind_form, kind_form, spec_form, attr_form, attrs_form, member_form, members_form, switch_form, arm_form, arms_form}
use Rattle.idl_forms.specs.Moved.{ident_moved, label_moved, dtor_moved, kind_moved, spec_moved, member_moved, members_moved, switch_moved, arm_moved, arms_moved, attr_moved, attrs_moved, attr_kind_moved}
use Rattle.idl_forms.proofs.Layers as layers
use Rattle.idl_forms.proofs.Stream.{Seen, heads, shown_heads}
use Rattle.idl_forms.proofs.Readers.{mapped, both, behind, upto, chosen, split, maybe, loop, listed, maybe_listed, squares, at_place}
use Rattle.idl_forms.proofs.Reading.{Reads, heads_append, heads_placed, heads_left, heads_right, reads_as, reads_any, reads_left, reads_right, reads_fewer, reads_mapped, reads_both, reads_then, behind_word, behind_range, upto_mark, inside, reads_chosen, split_yes, split_no, reads_bad, maybe_none, maybe_some, reads_placed, reads_loop, reads_squares}
use Rattle.idl_forms.proofs.Leaves.{a_name, a_token, a_pk, a_base, a_dtor, a_ref, a_bounds, a_label, a_tag, range_heads, word_then, word_heads, mark_heads, open_heads, ident_heads, label_heads, dtors_heads, base_heads, reads_name, word_as, mark_as, reads_pk, reads_base, reads_dtors, reads_names, reads_tag, reads_starred, reads_ref, reads_bounds, reads_label}
use Rattle.idl_forms.proofs.Readers.{flag}
use Rattle.idl_tokens.specs.Terminals.{of_word, of_mark, opening, range_class}
use Rattle.idl_tree.specs.Combinators.{name_classes}

-- ---- what each may begin with

abbrev base_firsts : List ℕ
base_firsts = of_word words.Boolean ∷ of_word words.Byte ∷ of_word words.Unsigned ∷ of_word words.Char ∷ of_word words.Small ∷ of_word words.Short ∷ of_word words.Long ∷ of_word words.Hyper ∷ []

abbrev pub spec_firsts : List ℕ
spec_firsts = of_word words.Struct ∷ of_word words.Union ∷ of_word words.Enum ∷ of_word words.Void ∷ (name_classes ++ (of_word words.HandleT ∷ of_word words.ErrorStatusT ∷ base_firsts))

-- `[`, or a spec
abbrev pub member_firsts : List ℕ
member_firsts = opening brackets.Square ∷ spec_firsts

abbrev arm_firsts : List ℕ
arm_firsts = of_word words.Case ∷ of_word words.Default ∷ of_mark marks.Semicolon ∷ member_firsts

abbrev attr_firsts : List ℕ
attr_firsts = of_word words.Ref ∷ of_word words.Unique ∷ of_word words.Ptr ∷ of_word words.In ∷ of_word words.Out ∷ of_word words.String ∷ of_word words.Idempotent ∷ of_word words.Maybe ∷ of_word words.ContextHandle ∷ of_word words.ContextHandleSerialize ∷ of_word words.ContextHandleNoserialize ∷ of_word words.SizeIs ∷ of_word words.MaxIs ∷ of_word words.LengthIs ∷ of_word words.SwitchIs ∷ of_word words.SwitchType ∷ range_class ∷ []

abbrev pk_class : Pk → ℕ
pk_class pks.Ref = of_word words.Ref
pk_class pks.Unique = of_word words.Unique
pk_class pks.Ptr = of_word words.Ptr

-- ---- how each is read, where kinds of spec are read so

abbrev Kinds : Type 0
Kinds = List Seen → KindForm × List Seen

abbrev pub spec_by : Kinds → List Seen → SpecForm × List Seen
spec_by k = mapped (λ p. a_spec p.0 p.1) (at_place k)

abbrev sized_by : (SizeRef → AttrKindForm) → List Seen → AttrKindForm × List Seen
sized_by g = behind (behind (upto (mapped g a_ref)))

abbrev attr_kind_on : Kinds → ℕ → List Seen → AttrKindForm × List Seen
attr_kind_on k c =
    if eqb c (of_word words.In) then a_token OfIn
    else if eqb c (of_word words.Out) then a_token OfOut
    else if eqb c (of_word words.String) then a_token OfText
    else if eqb c (of_word words.Idempotent) then a_token OfIdempotent
    else if eqb c (of_word words.Maybe) then a_token OfMaybe
    else if eqb c (of_word words.ContextHandle) then a_token OfContext
    else if eqb c (of_word words.ContextHandleSerialize) then a_token OfSerialize
    else if eqb c (of_word words.ContextHandleNoserialize) then a_token OfNoserialize
    else if eqb c (of_word words.SizeIs) then sized_by OfSizeIs
    else if eqb c (of_word words.MaxIs) then sized_by OfMaxIs
    else if eqb c (of_word words.LengthIs) then sized_by OfLengthIs
    else if eqb c (of_word words.SwitchIs) then behind (behind (upto (mapped (λ p. OfSwitchIs p.0 p.1) (both (flag (of_mark marks.Star)) a_name))))
    else if eqb c (of_word words.SwitchType) then behind (behind (upto (mapped OfSwitchType (spec_by k))))
    else if eqb c range_class then behind (behind (upto (mapped (λ p. OfRange p.0 p.1) a_bounds)))
    else mapped OfPointer a_pk

abbrev attr_by : Kinds → List Seen → AttrForm × List Seen
attr_by k = mapped (λ p. an_attr p.0 p.1) (at_place (chosen (attr_kind_on k)))

abbrev pub attrs_by : ℕ → Kinds → List Seen → AttrForms × List Seen
attrs_by n k = mapped attr_forms (squares n (attr_by k))

abbrev as_member : AttrForms × (SpecForm × List Dtor) → MemberForm
as_member p = a_member p.0 p.1.0 p.1.1

abbrev member_by : ℕ → Kinds → List Seen → MemberForm × List Seen
member_by n k = mapped as_member (both (attrs_by n k) (both (spec_by k) (upto (listed n (a_dtor n)))))

abbrev as_switch : (SpecForm × Ident) × Option Ident → SwitchForm
as_switch p = a_switch p.0.0 p.0.1 p.1

abbrev switch_by : Kinds → List Seen → SwitchForm × List Seen
switch_by k = behind (mapped as_switch (both (behind (upto (both (spec_by k) a_name))) a_tag))

abbrev as_arm : List Label × Option MemberForm → ArmForm
as_arm p = arm_of p.0 p.1

abbrev arm_by : ℕ → Kinds → List Seen → ArmForm × List Seen
arm_by n k = mapped as_arm (both (loop n (of_word words.Case ∷ of_word words.Default ∷ []) a_label) (split (of_mark marks.Semicolon ∷ []) (a_token None) (mapped Some (member_by n k))))

abbrev struct_by : ℕ → Kinds → List Seen → KindForm × List Seen
struct_by n k = behind (mapped (λ p. struct_form p.0 p.1) (both a_tag (maybe (opening brackets.Curly ∷ []) (behind (upto (loop n member_firsts (member_by n k)))))))

abbrev union_by : ℕ → Kinds → List Seen → KindForm × List Seen
union_by n k = behind (mapped (λ p. union_form p.0 p.1.0 p.1.1) (both a_tag (both (maybe (of_word words.Switch ∷ []) (switch_by k)) (behind (upto (loop n arm_firsts (arm_by n k)))))))

abbrev enum_by : ℕ → List Seen → KindForm × List Seen
enum_by n = behind (mapped (λ p. OfEnum p.0 p.1) (both a_tag (behind (upto (maybe_listed name_classes n a_name)))))

abbrev kind_on : ℕ → Kinds → ℕ → List Seen → KindForm × List Seen
kind_on n k c =
    if eqb c (of_word words.Struct) then struct_by n k
    else if eqb c (of_word words.Union) then union_by n k
    else if eqb c (of_word words.Enum) then enum_by n
    else if eqb c (of_word words.Void) then a_token OfVoid
    else if eqb c (of_word words.HandleT) then a_token OfHandle
    else a_token OfStatus

abbrev kind_by : ℕ → Kinds → List Seen → KindForm × List Seen
kind_by n k = split base_firsts (mapped OfBase a_base) (split name_classes (mapped OfName a_name) (chosen (kind_on n k)))

-- for tokens that are at most n
pub kind_within : ℕ → List Seen → KindForm × List Seen
kind_within zero = a_token OfVoid
kind_within (suc n) = kind_by n (kind_within n)

-- ---- first tokens

kind_step_heads : (s : open_.SpecKind-F Pieces Pieces Pieces Pieces Pieces Pieces Pieces) → heads spec_firsts (kind_step s) ≡ true
unfolding word_pieces
kind_step_heads (open_.Base b) = heads_right (of_word words.Struct ∷ of_word words.Union ∷ of_word words.Enum ∷ of_word words.Void ∷ (name_classes ++ (of_word words.HandleT ∷ of_word words.ErrorStatusT ∷ []))) base_firsts (base_pieces b) (base_heads b)
kind_step_heads (open_.Named i) = heads_right (of_word words.Struct ∷ of_word words.Union ∷ of_word words.Enum ∷ of_word words.Void ∷ []) (name_classes ++ (of_word words.HandleT ∷ of_word words.ErrorStatusT ∷ base_firsts)) (ident_pieces i) (heads_left name_classes (of_word words.HandleT ∷ of_word words.ErrorStatusT ∷ base_firsts) (ident_pieces i) (ident_heads i))
kind_step_heads open_.Void = refl
kind_step_heads open_.HandleT = refl
kind_step_heads open_.ErrorStatus = refl
kind_step_heads (open_.Struct tag None) = refl
kind_step_heads (open_.Struct tag (Some ms)) = refl
kind_step_heads (open_.Union tag switch arms) = refl
kind_step_heads (open_.Enum tag names) = refl

kind_heads : (x : SpecKind) → heads spec_firsts (kind_pieces x) ≡ true
kind_heads x = subst (λ (v : SpecKind). heads spec_firsts (kind_pieces v) ≡ true) (views.roll-out-SpecKind x) (subst (λ (ps : Pieces). heads spec_firsts ps ≡ true) (sym (fold-roll-SpecKind Pieces Pieces Pieces Pieces Pieces Pieces Pieces attr_kind_step kind_step arm_step attr_step member_step spec_step switch_step (views.out-SpecKind x))) (kind_step_heads _))

-- what begins with neither a name nor "void"
abbrev pub other_firsts : List ℕ
other_firsts = of_word words.Struct ∷ of_word words.Union ∷ of_word words.Enum ∷ of_word words.HandleT ∷ of_word words.ErrorStatusT ∷ base_firsts

-- a spec begins so, or is a name or "void" alone
abbrev pub BeginsSpec : Pieces → Type 0
BeginsSpec ps = (heads other_firsts ps ≡ true) ⊎ (((i : Ident) × (ps ≡ ident_pieces i)) ⊎ (ps ≡ word_pieces words.Void))

step_begins : (s : open_.SpecKind-F Pieces Pieces Pieces Pieces Pieces Pieces Pieces) → BeginsSpec (kind_step s)
unfolding word_pieces
step_begins (open_.Base b) = inl (heads_right (of_word words.Struct ∷ of_word words.Union ∷ of_word words.Enum ∷ of_word words.HandleT ∷ of_word words.ErrorStatusT ∷ []) base_firsts (base_pieces b) (base_heads b))
step_begins (open_.Named i) = inr (inl (i, refl))
step_begins open_.Void = inr (inr refl)
step_begins open_.HandleT = inl refl
step_begins open_.ErrorStatus = inl refl
step_begins (open_.Struct tag None) = inl refl
step_begins (open_.Struct tag (Some ms)) = inl refl
step_begins (open_.Union tag switch arms) = inl refl
step_begins (open_.Enum tag names) = inl refl

pub kind_begins : (x : SpecKind) → BeginsSpec (kind_pieces x)
kind_begins x = subst (λ (v : SpecKind). BeginsSpec (kind_pieces v)) (views.roll-out-SpecKind x) (subst BeginsSpec (sym (fold-roll-SpecKind Pieces Pieces Pieces Pieces Pieces Pieces Pieces attr_kind_step kind_step arm_step attr_step member_step spec_step switch_step (views.out-SpecKind x))) (step_begins _))

pk_heads : (p : Pk) → heads (pk_class p ∷ []) (pk_pieces p) ≡ true
unfolding pk_pieces pk_word word_pieces
pk_heads pks.Ref = refl
pk_heads pks.Unique = refl
pk_heads pks.Ptr = refl

attr_step_heads : (s : open_.AttrKind-F Pieces Pieces Pieces Pieces Pieces Pieces Pieces) → heads attr_firsts (attr_kind_step s) ≡ true
unfolding word_pieces range_pieces pk_pieces pk_word
attr_step_heads open_.In = refl
attr_step_heads open_.Out = refl
attr_step_heads (open_.Pointer pks.Ref) = refl
attr_step_heads (open_.Pointer pks.Unique) = refl
attr_step_heads (open_.Pointer pks.Ptr) = refl
attr_step_heads open_.Text = refl
attr_step_heads open_.Idempotent = refl
attr_step_heads open_.Maybe = refl
attr_step_heads open_.Handle = refl
attr_step_heads open_.HandleSerialize = refl
attr_step_heads open_.HandleNoserialize = refl
attr_step_heads (open_.SizeIs r) = refl
attr_step_heads (open_.MaxIs r) = refl
attr_step_heads (open_.LengthIs r) = refl
attr_step_heads (open_.SwitchIs star i) = refl
attr_step_heads (open_.SwitchType spec) = refl
attr_step_heads (open_.Range low high) = refl

attr_kind_heads : (x : AttrKind) → heads attr_firsts (attr_kind_pieces x) ≡ true
attr_kind_heads x = subst (λ (v : AttrKind). heads attr_firsts (attr_kind_pieces v) ≡ true) (views.roll-out-AttrKind x) (subst (λ (ps : Pieces). heads attr_firsts ps ≡ true) (sym (fold-roll-AttrKind Pieces Pieces Pieces Pieces Pieces Pieces Pieces attr_kind_step kind_step arm_step attr_step member_step spec_step switch_step (views.out-AttrKind x))) (attr_step_heads _))

pub spec_heads : (s : Spec) → heads spec_firsts (spec_pieces s) ≡ true
spec_heads s = heads_placed spec_firsts s.at (kind_pieces s.what) (kind_heads s.what)

-- attributes, and a spec
pub typed_heads : (as' : List Attr) (s : Spec) (ps : Pieces) → heads member_firsts (attrs_pieces as' ++ (spec_pieces s ++ ps)) ≡ true
unfolding open_pieces
typed_heads [] s ps = heads_append member_firsts (spec_pieces s) ps (heads_right (opening brackets.Square ∷ []) spec_firsts (spec_pieces s) (spec_heads s))
typed_heads (a ∷ as') s ps = refl

member_heads : (m : Member) → heads member_firsts (member_pieces m) ≡ true
member_heads m = let o = views.out-Member m in typed_heads o.attrs.items o.spec (dtors_pieces o.dtors.items ++ mark_pieces marks.Semicolon)

arm_member_heads : (o : Option Member) → heads (of_mark marks.Semicolon ∷ member_firsts) (arm_member_pieces o) ≡ true
unfolding mark_pieces
arm_member_heads None = refl
arm_member_heads (Some m) = heads_right (of_mark marks.Semicolon ∷ []) member_firsts (member_pieces m) (member_heads m)

arm_heads_of : (ls : List Label) (o : Option Member) → heads arm_firsts (flat_map label_pieces ls ++ arm_member_pieces o) ≡ true
arm_heads_of [] o = heads_right (of_word words.Case ∷ of_word words.Default ∷ []) (of_mark marks.Semicolon ∷ member_firsts) (arm_member_pieces o) (arm_member_heads o)
arm_heads_of (l ∷ ls) o = heads_append arm_firsts (label_pieces l ++ flat_map label_pieces ls) (arm_member_pieces o) (heads_append arm_firsts (label_pieces l) (flat_map label_pieces ls) (heads_left (of_word words.Case ∷ of_word words.Default ∷ []) (of_mark marks.Semicolon ∷ member_firsts) (label_pieces l) (label_heads l)))

arm_heads : (a : ArmNode) → heads arm_firsts (arm_pieces a) ≡ true
arm_heads a = let o = views.out-ArmNode a in arm_heads_of o.labels.items o.member

switch_heads : (s : Switch) → heads (of_word words.Switch ∷ []) (switch_pieces s) ≡ true
switch_heads s = word_then words.Switch _

-- ---- the form of each part, with each place moved

abbrev attr_kind_read : (ℕ → ℕ) → AttrKind → AttrKindForm
attr_kind_read f k = attr_kind_moved f (attr_kind_form k)

abbrev kind_read : (ℕ → ℕ) → SpecKind → KindForm
kind_read f k = kind_moved f (kind_form k)

abbrev pub spec_read : (ℕ → ℕ) → Spec → SpecForm
spec_read f s = spec_moved f (spec_form s)

abbrev attr_read : (ℕ → ℕ) → Attr → AttrForm
attr_read f a = attr_moved f (attr_form a)

abbrev pub attrs_read : (ℕ → ℕ) → List Attr → AttrForms
attrs_read f as' = attrs_moved f (attrs_form as')

abbrev member_read : (ℕ → ℕ) → Member → MemberForm
member_read f m = member_moved f (member_form m)

abbrev switch_read : (ℕ → ℕ) → Switch → SwitchForm
switch_read f s = switch_moved f (switch_form s)

abbrev arm_read : (ℕ → ℕ) → ArmNode → ArmForm
arm_read f a = arm_moved f (arm_form a)

attrs_are : (f : ℕ → ℕ) (as' : List Attr) → attrs_read f as' ≡ attr_forms (map (attr_read f) as')
attrs_are f [] = refl
attrs_are f (a ∷ as') = ap (then_attr (attr_read f a)) (attrs_are f as')

members_are : (f : ℕ → ℕ) (ms : List Member) → members_moved f (members_form ms) ≡ member_forms (map (member_read f) ms)
members_are f [] = refl
members_are f (m ∷ ms) = ap (then_member (member_read f m)) (members_are f ms)

arm_is : (f : ℕ → ℕ) (ls : List Label) (o : Option Member) → arm_moved f (arm_of ls (if_there member_form o)) ≡ arm_of (map (label_moved f) ls) (if_there (member_read f) o)
arm_is f ls None = refl
arm_is f ls (Some m) = refl

arms_are : (f : ℕ → ℕ) (as' : List ArmNode) → arms_moved f (arms_form as') ≡ arm_forms (map (arm_read f) as')
arms_are f [] = refl
arms_are f (a ∷ as') = ap (then_arm (arm_read f a)) (arms_are f as')

attr_rolled : (f : ℕ → ℕ) (o : open_.AttrKind-F AttrKind SpecKind ArmNode Attr Member Spec Switch) → attr_kind_read f (views.roll-AttrKind o) ≡ attr_kind_moved f (attr_kind_layer (map-AttrKind AttrKind SpecKind ArmNode Attr Member Spec Switch AttrKindForm KindForm ArmForm AttrForm MemberForm SpecForm SwitchForm (fold-AttrKind AttrKindForm KindForm ArmForm AttrForm MemberForm SpecForm SwitchForm attr_kind_layer kind_layer arm_layer attr_layer member_layer spec_layer switch_layer) (fold-SpecKind AttrKindForm KindForm ArmForm AttrForm MemberForm SpecForm SwitchForm attr_kind_layer kind_layer arm_layer attr_layer member_layer spec_layer switch_layer) (fold-ArmNode AttrKindForm KindForm ArmForm AttrForm MemberForm SpecForm SwitchForm attr_kind_layer kind_layer arm_layer attr_layer member_layer spec_layer switch_layer) (fold-Attr AttrKindForm KindForm ArmForm AttrForm MemberForm SpecForm SwitchForm attr_kind_layer kind_layer arm_layer attr_layer member_layer spec_layer switch_layer) (fold-Member AttrKindForm KindForm ArmForm AttrForm MemberForm SpecForm SwitchForm attr_kind_layer kind_layer arm_layer attr_layer member_layer spec_layer switch_layer) (fold-Spec AttrKindForm KindForm ArmForm AttrForm MemberForm SpecForm SwitchForm attr_kind_layer kind_layer arm_layer attr_layer member_layer spec_layer switch_layer) (fold-Switch AttrKindForm KindForm ArmForm AttrForm MemberForm SpecForm SwitchForm attr_kind_layer kind_layer arm_layer attr_layer member_layer spec_layer switch_layer) o))
attr_rolled f o = ap (attr_kind_moved f) (fold-roll-AttrKind AttrKindForm KindForm ArmForm AttrForm MemberForm SpecForm SwitchForm attr_kind_layer kind_layer arm_layer attr_layer member_layer spec_layer switch_layer o)

kind_rolled : (f : ℕ → ℕ) (o : open_.SpecKind-F AttrKind SpecKind ArmNode Attr Member Spec Switch) → kind_read f (views.roll-SpecKind o) ≡ kind_moved f (kind_layer (map-SpecKind AttrKind SpecKind ArmNode Attr Member Spec Switch AttrKindForm KindForm ArmForm AttrForm MemberForm SpecForm SwitchForm (fold-AttrKind AttrKindForm KindForm ArmForm AttrForm MemberForm SpecForm SwitchForm attr_kind_layer kind_layer arm_layer attr_layer member_layer spec_layer switch_layer) (fold-SpecKind AttrKindForm KindForm ArmForm AttrForm MemberForm SpecForm SwitchForm attr_kind_layer kind_layer arm_layer attr_layer member_layer spec_layer switch_layer) (fold-ArmNode AttrKindForm KindForm ArmForm AttrForm MemberForm SpecForm SwitchForm attr_kind_layer kind_layer arm_layer attr_layer member_layer spec_layer switch_layer) (fold-Attr AttrKindForm KindForm ArmForm AttrForm MemberForm SpecForm SwitchForm attr_kind_layer kind_layer arm_layer attr_layer member_layer spec_layer switch_layer) (fold-Member AttrKindForm KindForm ArmForm AttrForm MemberForm SpecForm SwitchForm attr_kind_layer kind_layer arm_layer attr_layer member_layer spec_layer switch_layer) (fold-Spec AttrKindForm KindForm ArmForm AttrForm MemberForm SpecForm SwitchForm attr_kind_layer kind_layer arm_layer attr_layer member_layer spec_layer switch_layer) (fold-Switch AttrKindForm KindForm ArmForm AttrForm MemberForm SpecForm SwitchForm attr_kind_layer kind_layer arm_layer attr_layer member_layer spec_layer switch_layer) o))
kind_rolled f o = ap (kind_moved f) (fold-roll-SpecKind AttrKindForm KindForm ArmForm AttrForm MemberForm SpecForm SwitchForm attr_kind_layer kind_layer arm_layer attr_layer member_layer spec_layer switch_layer o)

switch_type_read : (f : ℕ → ℕ) (b : Box Spec Global) → attr_kind_read f (views.roll-AttrKind (open_.SwitchType b)) ≡ OfSwitchType (spec_read f b.value)
unfolding views.roll-AttrKind denote.Hole.Carrier.roll
switch_type_read f b = ap (attr_kind_moved f) (layers.switch_type_is b)

struct_read : (f : ℕ → ℕ) (tag : Option Ident) (ms : Vec Member Global) → kind_read f (views.roll-SpecKind (open_.Struct tag (Some ms))) ≡ OfStruct (if_there (ident_moved f) tag) (member_forms (map (member_read f) ms.items))
unfolding views.roll-SpecKind denote.Hole.Carrier.roll
struct_read f tag ms = ap (kind_moved f) (layers.struct_some tag ms) ∙ ap (OfStruct (if_there (ident_moved f) tag)) (members_are f ms.items)

union_read : (f : ℕ → ℕ) (tag : Option Ident) (arms : Vec ArmNode Global) → kind_read f (views.roll-SpecKind (open_.Union tag None arms)) ≡ OfUnion (if_there (ident_moved f) tag) no_switch (arm_forms (map (arm_read f) arms.items))
unfolding views.roll-SpecKind denote.Hole.Carrier.roll
union_read f tag arms = ap (kind_moved f) (layers.union_none tag arms) ∙ ap (OfUnion (if_there (ident_moved f) tag) no_switch) (arms_are f arms.items)

switched_read : (f : ℕ → ℕ) (tag : Option Ident) (s : Switch) (arms : Vec ArmNode Global) → kind_read f (views.roll-SpecKind (open_.Union tag (Some s) arms)) ≡ OfUnion (if_there (ident_moved f) tag) (switch_read f s) (arm_forms (map (arm_read f) arms.items))
unfolding views.roll-SpecKind denote.Hole.Carrier.roll
switched_read f tag s arms = ap (kind_moved f) (layers.union_some tag s arms) ∙ ap (OfUnion (if_there (ident_moved f) tag) (switch_read f s)) (arms_are f arms.items)

-- ---- each is read off its tokens

switch_type_at : (b : Box Spec Global) → attr_kind_pieces (views.roll-AttrKind (open_.SwitchType b)) ≡ word_pieces words.SwitchType ++ within brackets.Round (spec_pieces b.value)
unfolding views.roll-AttrKind denote.Hole.Carrier.roll
switch_type_at b = switch_type_is b

struct_at : (tag : Option Ident) (ms : Vec Member Global) → kind_pieces (views.roll-SpecKind (open_.Struct tag (Some ms))) ≡ word_pieces words.Struct ++ (if_ident tag ++ within brackets.Curly (flat_map member_pieces ms.items))
unfolding views.roll-SpecKind denote.Hole.Carrier.roll
struct_at tag ms = struct_some tag ms

union_at : (tag : Option Ident) (arms : Vec ArmNode Global) → kind_pieces (views.roll-SpecKind (open_.Union tag None arms)) ≡ word_pieces words.Union ++ (if_ident tag ++ within brackets.Curly (flat_map arm_pieces arms.items))
unfolding views.roll-SpecKind denote.Hole.Carrier.roll
union_at tag arms = union_none tag arms

switched_at : (tag : Option Ident) (s : Switch) (arms : Vec ArmNode Global) → kind_pieces (views.roll-SpecKind (open_.Union tag (Some s) arms)) ≡ word_pieces words.Union ++ (if_ident tag ++ (switch_pieces s ++ within brackets.Curly (flat_map arm_pieces arms.items)))
unfolding views.roll-SpecKind denote.Hole.Carrier.roll
switched_at tag s arms = union_some tag s arms

module _ {f : ℕ → ℕ} where
  module _ (n : ℕ) (k : List Seen → KindForm × List Seen) (kinds' : (x : SpecKind) → Reads f n (of_word words.Int ∷ opening brackets.Curly ∷ []) k (kind_pieces x) (kind_read f x)) where
    pub reads_spec : (s : Spec) → Reads f n (of_word words.Int ∷ opening brackets.Curly ∷ []) (spec_by k) (spec_pieces s) (spec_read f s)
    reads_spec s = (reads_mapped (λ p. a_spec p.0 p.1) (reads_placed spec_firsts s.at (kind_heads s.what) (kinds' s.what)))

    -- ---- attributes

    of_attr : (o : open_.AttrKind-F AttrKind SpecKind ArmNode Attr Member Spec Switch) {ps : Pieces} {a : AttrKindForm} → attr_kind_pieces (views.roll-AttrKind o) ≡ ps → attr_kind_read f (views.roll-AttrKind o) ≡ a
        → (c : ℕ) → heads (c ∷ []) ps ≡ true → Reads f n [] (attr_kind_on k c) ps a → Reads f n [] (chosen (attr_kind_on k)) (attr_kind_pieces (views.roll-AttrKind o)) (attr_kind_read f (views.roll-AttrKind o))
    of_attr o e same c starts r = reads_as e same (reads_chosen (attr_kind_on k) c starts r)

    pointer : (p : Pk) → Reads f n [] (chosen (attr_kind_on k)) (pk_pieces p) (OfPointer p)
    pointer pks.Ref = reads_chosen (attr_kind_on k) (of_word words.Ref) (pk_heads pks.Ref) (reads_mapped OfPointer (reads_pk pks.Ref))
    pointer pks.Unique = reads_chosen (attr_kind_on k) (of_word words.Unique) (pk_heads pks.Unique) (reads_mapped OfPointer (reads_pk pks.Unique))
    pointer pks.Ptr = reads_chosen (attr_kind_on k) (of_word words.Ptr) (pk_heads pks.Ptr) (reads_mapped OfPointer (reads_pk pks.Ptr))

    attr_roll : (o : open_.AttrKind-F AttrKind SpecKind ArmNode Attr Member Spec Switch) → Reads f n [] (chosen (attr_kind_on k)) (attr_kind_pieces (views.roll-AttrKind o)) (attr_kind_read f (views.roll-AttrKind o))
    attr_roll open_.In = of_attr open_.In (fold-roll-AttrKind Pieces Pieces Pieces Pieces Pieces Pieces Pieces attr_kind_step kind_step arm_step attr_step member_step spec_step switch_step open_.In) (attr_rolled f open_.In) (of_word words.In) (word_heads words.In) (word_as OfIn words.In)
    attr_roll open_.Out = of_attr open_.Out (fold-roll-AttrKind Pieces Pieces Pieces Pieces Pieces Pieces Pieces attr_kind_step kind_step arm_step attr_step member_step spec_step switch_step open_.Out) (attr_rolled f open_.Out) (of_word words.Out) (word_heads words.Out) (word_as OfOut words.Out)
    attr_roll (open_.Pointer p) = reads_as (fold-roll-AttrKind Pieces Pieces Pieces Pieces Pieces Pieces Pieces attr_kind_step kind_step arm_step attr_step member_step spec_step switch_step (open_.Pointer p)) (attr_rolled f (open_.Pointer p)) (pointer p)
    attr_roll open_.Text = of_attr open_.Text (fold-roll-AttrKind Pieces Pieces Pieces Pieces Pieces Pieces Pieces attr_kind_step kind_step arm_step attr_step member_step spec_step switch_step open_.Text) (attr_rolled f open_.Text) (of_word words.String) (word_heads words.String) (word_as OfText words.String)
    attr_roll open_.Idempotent = of_attr open_.Idempotent (fold-roll-AttrKind Pieces Pieces Pieces Pieces Pieces Pieces Pieces attr_kind_step kind_step arm_step attr_step member_step spec_step switch_step open_.Idempotent) (attr_rolled f open_.Idempotent) (of_word words.Idempotent) (word_heads words.Idempotent) (word_as OfIdempotent words.Idempotent)
    attr_roll open_.Maybe = of_attr open_.Maybe (fold-roll-AttrKind Pieces Pieces Pieces Pieces Pieces Pieces Pieces attr_kind_step kind_step arm_step attr_step member_step spec_step switch_step open_.Maybe) (attr_rolled f open_.Maybe) (of_word words.Maybe) (word_heads words.Maybe) (word_as OfMaybe words.Maybe)
    attr_roll open_.Handle = of_attr open_.Handle (fold-roll-AttrKind Pieces Pieces Pieces Pieces Pieces Pieces Pieces attr_kind_step kind_step arm_step attr_step member_step spec_step switch_step open_.Handle) (attr_rolled f open_.Handle) (of_word words.ContextHandle) (word_heads words.ContextHandle) (word_as OfContext words.ContextHandle)
    attr_roll open_.HandleSerialize = of_attr open_.HandleSerialize (fold-roll-AttrKind Pieces Pieces Pieces Pieces Pieces Pieces Pieces attr_kind_step kind_step arm_step attr_step member_step spec_step switch_step open_.HandleSerialize) (attr_rolled f open_.HandleSerialize) (of_word words.ContextHandleSerialize) (word_heads words.ContextHandleSerialize) (word_as OfSerialize words.ContextHandleSerialize)
    attr_roll open_.HandleNoserialize = of_attr open_.HandleNoserialize (fold-roll-AttrKind Pieces Pieces Pieces Pieces Pieces Pieces Pieces attr_kind_step kind_step arm_step attr_step member_step spec_step switch_step open_.HandleNoserialize) (attr_rolled f open_.HandleNoserialize) (of_word words.ContextHandleNoserialize) (word_heads words.ContextHandleNoserialize) (word_as OfNoserialize words.ContextHandleNoserialize)
    attr_roll (open_.SizeIs r) = of_attr (open_.SizeIs r) (fold-roll-AttrKind Pieces Pieces Pieces Pieces Pieces Pieces Pieces attr_kind_step kind_step arm_step attr_step member_step spec_step switch_step (open_.SizeIs r)) (attr_rolled f (open_.SizeIs r)) (of_word words.SizeIs) (word_then words.SizeIs _) (behind_word words.SizeIs (reads_fewer (inside brackets.Round refl (reads_mapped OfSizeIs (reads_ref r)))))
    attr_roll (open_.MaxIs r) = of_attr (open_.MaxIs r) (fold-roll-AttrKind Pieces Pieces Pieces Pieces Pieces Pieces Pieces attr_kind_step kind_step arm_step attr_step member_step spec_step switch_step (open_.MaxIs r)) (attr_rolled f (open_.MaxIs r)) (of_word words.MaxIs) (word_then words.MaxIs _) (behind_word words.MaxIs (reads_fewer (inside brackets.Round refl (reads_mapped OfMaxIs (reads_ref r)))))
    attr_roll (open_.LengthIs r) = of_attr (open_.LengthIs r) (fold-roll-AttrKind Pieces Pieces Pieces Pieces Pieces Pieces Pieces attr_kind_step kind_step arm_step attr_step member_step spec_step switch_step (open_.LengthIs r)) (attr_rolled f (open_.LengthIs r)) (of_word words.LengthIs) (word_then words.LengthIs _) (behind_word words.LengthIs (reads_fewer (inside brackets.Round refl (reads_mapped OfLengthIs (reads_ref r)))))
    attr_roll (open_.SwitchIs star i) = of_attr (open_.SwitchIs star i) (fold-roll-AttrKind Pieces Pieces Pieces Pieces Pieces Pieces Pieces attr_kind_step kind_step arm_step attr_step member_step spec_step switch_step (open_.SwitchIs star i)) (attr_rolled f (open_.SwitchIs star i)) (of_word words.SwitchIs) (word_then words.SwitchIs _) (behind_word words.SwitchIs (reads_fewer (inside brackets.Round refl (reads_mapped (λ p. OfSwitchIs p.0 p.1) (reads_starred star i)))))
    attr_roll (open_.SwitchType b) = of_attr (open_.SwitchType b) (switch_type_at b) (switch_type_read f b) (of_word words.SwitchType) (word_then words.SwitchType _) (behind_word words.SwitchType (reads_fewer (inside brackets.Round refl (reads_mapped OfSwitchType (reads_spec b.value)))))
    attr_roll (open_.Range low high) = of_attr (open_.Range low high) (fold-roll-AttrKind Pieces Pieces Pieces Pieces Pieces Pieces Pieces attr_kind_step kind_step arm_step attr_step member_step spec_step switch_step (open_.Range low high)) (attr_rolled f (open_.Range low high)) range_class (range_heads _) (behind_range (reads_fewer (inside brackets.Round refl (reads_mapped (λ p. OfRange p.0 p.1) (reads_bounds low high)))))

    reads_attr_kind : (x : AttrKind) → Reads f n [] (chosen (attr_kind_on k)) (attr_kind_pieces x) (attr_kind_read f x)
    reads_attr_kind x = subst (λ (v : AttrKind). Reads f n [] (chosen (attr_kind_on k)) (attr_kind_pieces v) (attr_kind_read f v)) (views.roll-out-AttrKind x) (attr_roll (views.out-AttrKind x))

    reads_attr : (a : Attr) → Reads f n [] (attr_by k) (attr_pieces a) (attr_read f a)
    reads_attr a = (reads_mapped (λ p. an_attr p.0 p.1) (reads_placed attr_firsts a.at (attr_kind_heads a.what) (reads_attr_kind a.what)))

    pub reads_attrs : (as' : List Attr) → Reads f n (opening brackets.Square ∷ []) (attrs_by n k) (attrs_pieces as') (attrs_read f as')
    reads_attrs as' = reads_as refl (attrs_are f as') (reads_mapped attr_forms (reads_squares attr_pieces (attr_read f) n [] (attr_by k) refl reads_attr as' refl))

    -- ---- members and arms

    reads_member : (m : Member) → Reads f n [] (member_by n k) (member_pieces m) (member_read f m)
    reads_member m =
        let o = views.out-Member m in
        let ds = dtors_pieces o.dtors.items ++ mark_pieces marks.Semicolon in
        (reads_mapped as_member (reads_both spec_firsts (heads_append spec_firsts (spec_pieces o.spec) ds (spec_heads o.spec)) refl (reads_attrs o.attrs.items)
        (reads_both (of_mark marks.Star ∷ name_classes) (heads_append (of_mark marks.Star ∷ name_classes) (dtors_pieces o.dtors.items) (mark_pieces marks.Semicolon) (dtors_heads o.dtors.items)) refl (reads_spec o.spec) (upto_mark marks.Semicolon refl (reads_dtors n o.dtors.items)))))

    reads_arm_member : (o : Option Member) → Reads f n [] (split (of_mark marks.Semicolon ∷ []) (a_token None) (mapped Some (member_by n k))) (arm_member_pieces o) (if_there (member_read f) o)
    reads_arm_member None = split_yes (of_mark marks.Semicolon ∷ []) _ (mark_heads marks.Semicolon) (mark_as None marks.Semicolon)
    reads_arm_member (Some m) = split_no (of_mark marks.Semicolon ∷ []) member_firsts _ (member_heads m) refl (reads_mapped Some (reads_member m))

    reads_arm : (a : ArmNode) → Reads f n [] (arm_by n k) (arm_pieces a) (arm_read f a)
    reads_arm a =
        let o = views.out-ArmNode a in
        reads_as refl (arm_is f o.labels.items o.member)
        (reads_mapped as_arm (reads_both (of_mark marks.Semicolon ∷ member_firsts) (arm_member_heads o.member) refl (reads_loop label_pieces (label_moved f) n (of_word words.Case ∷ of_word words.Default ∷ []) [] a_label label_heads refl reads_label o.labels.items) (reads_arm_member o.member)))

    -- ---- kinds of spec

    reads_switch : (s : Switch) → Reads f (suc n) name_classes (switch_by k) (switch_pieces s) (switch_read f s)
    reads_switch s =
        let o = views.out-Switch s in
        (behind_word words.Switch (reads_mapped as_switch (reads_then (inside brackets.Round refl (reads_both name_classes (ident_heads o.name) refl (reads_spec o.spec.value) (reads_name o.name))) (reads_tag o.body))))

    -- a structure's tag alone
    tag_alone : (tag : Option Ident) → Reads f (suc n) (of_word words.Int ∷ opening brackets.Curly ∷ []) (both a_tag (maybe (opening brackets.Curly ∷ []) (behind (upto (loop n member_firsts (member_by n k)))))) (tag_pieces tag) (if_there (ident_moved f) tag, None)
    unfolding tag_pieces
    tag_alone None = reads_bad
    tag_alone (Some i) = reads_as (sym (append-nil (ident_pieces i))) refl (reads_then (maybe_some name_classes (ident_heads i) (reads_name i)) (reads_right (of_word words.Int ∷ []) (maybe_none (opening brackets.Curly ∷ []) _)))

    members_in : (ms : List Member) → Reads f (suc n) [] (behind (upto (loop n member_firsts (member_by n k)))) (within brackets.Curly (flat_map member_pieces ms)) (map (member_read f) ms)
    members_in ms = inside brackets.Curly refl (reads_loop member_pieces (member_read f) n member_firsts [] (member_by n k) member_heads refl reads_member ms)

    arms_in : (as' : List ArmNode) → Reads f (suc n) [] (behind (upto (loop n arm_firsts (arm_by n k)))) (within brackets.Curly (flat_map arm_pieces as')) (map (arm_read f) as')
    arms_in as' = inside brackets.Curly refl (reads_loop arm_pieces (arm_read f) n arm_firsts [] (arm_by n k) arm_heads refl reads_arm as')

    of_kind : (o : open_.SpecKind-F AttrKind SpecKind ArmNode Attr Member Spec Switch) {ps : Pieces} {a : KindForm} → kind_pieces (views.roll-SpecKind o) ≡ ps → kind_read f (views.roll-SpecKind o) ≡ a
        → (c : ℕ) → heads (c ∷ []) ps ≡ true → apart (c ∷ []) base_firsts ≡ true → apart (c ∷ []) name_classes ≡ true → Reads f (suc n) (of_word words.Int ∷ opening brackets.Curly ∷ []) (kind_on n k c) ps a → Reads f (suc n) (of_word words.Int ∷ opening brackets.Curly ∷ []) (kind_by n k) (kind_pieces (views.roll-SpecKind o)) (kind_read f (views.roll-SpecKind o))
    of_kind o e same c starts far off r = reads_as e same (split_no base_firsts (c ∷ []) _ starts far (split_no name_classes (c ∷ []) _ starts off (reads_chosen (kind_on n k) c starts r)))

    kind_roll : (o : open_.SpecKind-F AttrKind SpecKind ArmNode Attr Member Spec Switch) → Reads f (suc n) (of_word words.Int ∷ opening brackets.Curly ∷ []) (kind_by n k) (kind_pieces (views.roll-SpecKind o)) (kind_read f (views.roll-SpecKind o))
    kind_roll (open_.Base b) = reads_as (fold-roll-SpecKind Pieces Pieces Pieces Pieces Pieces Pieces Pieces attr_kind_step kind_step arm_step attr_step member_step spec_step switch_step (open_.Base b)) (kind_rolled f (open_.Base b)) (split_yes base_firsts _ (base_heads b) (reads_mapped OfBase (reads_left (opening brackets.Curly ∷ []) (reads_base b))))
    kind_roll (open_.Named i) = reads_as (fold-roll-SpecKind Pieces Pieces Pieces Pieces Pieces Pieces Pieces attr_kind_step kind_step arm_step attr_step member_step spec_step switch_step (open_.Named i)) (kind_rolled f (open_.Named i)) (split_no base_firsts name_classes _ (ident_heads i) refl (split_yes name_classes _ (ident_heads i) (reads_any _ (reads_mapped OfName (reads_name i)))))
    kind_roll open_.Void = of_kind open_.Void (fold-roll-SpecKind Pieces Pieces Pieces Pieces Pieces Pieces Pieces attr_kind_step kind_step arm_step attr_step member_step spec_step switch_step open_.Void) (kind_rolled f open_.Void) (of_word words.Void) (word_heads words.Void) refl refl (reads_any _ (word_as OfVoid words.Void))
    kind_roll open_.HandleT = of_kind open_.HandleT (fold-roll-SpecKind Pieces Pieces Pieces Pieces Pieces Pieces Pieces attr_kind_step kind_step arm_step attr_step member_step spec_step switch_step open_.HandleT) (kind_rolled f open_.HandleT) (of_word words.HandleT) (word_heads words.HandleT) refl refl (reads_any _ (word_as OfHandle words.HandleT))
    kind_roll open_.ErrorStatus = of_kind open_.ErrorStatus (fold-roll-SpecKind Pieces Pieces Pieces Pieces Pieces Pieces Pieces attr_kind_step kind_step arm_step attr_step member_step spec_step switch_step open_.ErrorStatus) (kind_rolled f open_.ErrorStatus) (of_word words.ErrorStatusT) (word_heads words.ErrorStatusT) refl refl (reads_any _ (word_as OfStatus words.ErrorStatusT))
    kind_roll (open_.Struct tag None) = of_kind (open_.Struct tag None) (fold-roll-SpecKind Pieces Pieces Pieces Pieces Pieces Pieces Pieces attr_kind_step kind_step arm_step attr_step member_step spec_step switch_step (open_.Struct tag None)) (kind_rolled f (open_.Struct tag None)) (of_word words.Struct) (word_then words.Struct _) refl refl (behind_word words.Struct (reads_mapped (λ p. struct_form p.0 p.1) (tag_alone tag)))
    kind_roll (open_.Struct tag (Some ms)) = of_kind (open_.Struct tag (Some ms)) (struct_at tag ms) (struct_read f tag ms) (of_word words.Struct) (word_then words.Struct _) refl refl
        (behind_word words.Struct (reads_mapped (λ p. struct_form p.0 p.1) (reads_both (opening brackets.Curly ∷ []) (open_heads brackets.Curly _) refl (reads_tag tag) (maybe_some (opening brackets.Curly ∷ []) (open_heads brackets.Curly _) (reads_any _ (members_in ms.items))))))
    kind_roll (open_.Union tag None arms) = of_kind (open_.Union tag None arms) (union_at tag arms) (union_read f tag arms) (of_word words.Union) (word_then words.Union _) refl refl
        (behind_word words.Union (reads_mapped (λ p. union_form p.0 p.1.0 p.1.1) (reads_both (opening brackets.Curly ∷ []) (open_heads brackets.Curly _) refl (reads_tag tag) (reads_both (opening brackets.Curly ∷ []) (open_heads brackets.Curly _) refl (maybe_none (of_word words.Switch ∷ []) (switch_by k)) (reads_any _ (arms_in arms.items))))))
    kind_roll (open_.Union tag (Some s) arms) = of_kind (open_.Union tag (Some s) arms) (switched_at tag s arms) (switched_read f tag s arms) (of_word words.Union) (word_then words.Union _) refl refl
        (behind_word words.Union (reads_mapped (λ p. union_form p.0 p.1.0 p.1.1) (reads_both (of_word words.Switch ∷ []) (heads_append (of_word words.Switch ∷ []) (switch_pieces s) _ (switch_heads s)) refl (reads_tag tag)
        (reads_both (opening brackets.Curly ∷ []) (open_heads brackets.Curly _) refl (maybe_some (of_word words.Switch ∷ []) (switch_heads s) (reads_switch s)) (reads_any _ (arms_in arms.items))))))
    kind_roll (open_.Enum tag names) = of_kind (open_.Enum tag names) (fold-roll-SpecKind Pieces Pieces Pieces Pieces Pieces Pieces Pieces attr_kind_step kind_step arm_step attr_step member_step spec_step switch_step (open_.Enum tag names)) (kind_rolled f (open_.Enum tag names)) (of_word words.Enum) (word_then words.Enum _) refl refl
        (behind_word words.Enum (reads_mapped (λ p. OfEnum p.0 p.1) (reads_both (opening brackets.Curly ∷ []) (open_heads brackets.Curly _) refl (reads_tag tag) (reads_any _ (inside brackets.Curly refl (reads_names n names.items))))))

  pub reads_kind : (n : ℕ) (x : SpecKind) → Reads f n (of_word words.Int ∷ opening brackets.Curly ∷ []) (kind_within n) (kind_pieces x) (kind_read f x)
  unfolding kind_within
  reads_kind zero x = record { read = λ ss rest l c o h. let p = shown_heads f spec_firsts (kind_pieces x) ss rest (kind_heads x) h c in let q = p.1 in absurd (omega arith) }
  reads_kind (suc n) x = subst (λ (v : SpecKind). Reads f (suc n) (of_word words.Int ∷ opening brackets.Curly ∷ []) (kind_by n (kind_within n)) (kind_pieces v) (kind_read f v)) (views.roll-out-SpecKind x) (kind_roll n (kind_within n) (reads_kind n) (views.out-SpecKind x))

-- The tokens of type specs, attributes, members and arms, which hold one another.
use Rattle.std.specs.Prelude.{List, [], ◌∷◌, ◌++◌, Option, Some, None}
use Rattle.std.specs.List.{flat_map}
use Rattle.idl_tokens.specs.declared.words.Word.TheVariants as words
use Rattle.idl_tokens.specs.declared.marks.Mark.TheVariants as marks
use Rattle.idl_tokens.specs.declared.marks.Bracket.TheVariants as brackets
use Rattle.idl_tokens.specs.declared.kinds.Kind.TheVariants as kinds
use Rattle.idl_tree.specs.Pieces.{Pieces, alone, placed, within, commas, word_pieces, mark_pieces, ident_pieces, if_ident, if_mark, num_pieces, pk_pieces, base_pieces, dtor_pieces, ref_pieces, range_pieces, bounds_pieces}
use Rattle.idl_tree.specs.declared.leaf.Ident.{Ident}
use Rattle.idl_tree.specs.declared.leaf.Dtor.{Dtor}
use Rattle.idl_tree.specs.declared.spec.SpecKind.{SpecKind}
use Rattle.idl_tree.specs.declared.spec.AttrKind.{AttrKind}
use Rattle.idl_tree.specs.declared.spec.ArmNode.{ArmNode}
use Rattle.idl_tree.specs.declared.spec.Attr.{Attr}
use Rattle.idl_tree.specs.declared.spec.Member.{Member}
use Rattle.idl_tree.specs.declared.spec.Spec.{Spec}
use Rattle.idl_tree.specs.declared.spec.Switch.{Switch}
use Rattle.idl_tree.specs.declared.spec.Label.{Label}
use Rattle.idl_tree.specs.declared.spec.LabelKind.{LabelKind}
use Rattle.idl_tree.specs.declared.spec.LabelKind.TheVariants as labels
use Rattle.idl_tree.specs.declared.spec.AttrKind.TheOpen as open_
use Rattle.idl_tree.specs.declared.spec.AttrKind.TheFolds.{fold-AttrKind, fold-SpecKind}
use Rattle.idl_tree.specs.declared.spec.AttrKind.TheViews.{out-Member, out-Switch, out-ArmNode}

unfoldable pub label_kind_pieces : LabelKind → Pieces
label_kind_pieces (labels.Number n) = word_pieces words.Case ++ (num_pieces n ++ mark_pieces marks.Colon)
label_kind_pieces (labels.Named i) = word_pieces words.Case ++ (ident_pieces i ++ mark_pieces marks.Colon)
label_kind_pieces labels.Default = word_pieces words.Default ++ mark_pieces marks.Colon

unfoldable pub label_pieces : Label → Pieces
label_pieces l = placed l.at (label_kind_pieces l.what)

-- one declarator at least: of none there is what no grammar takes
unfoldable pub dtors_pieces : List Dtor → Pieces
dtors_pieces [] = alone kinds.Bad ∷ []
dtors_pieces (d ∷ ds) = commas dtor_pieces (d ∷ ds)

-- the tag of a structure without members, which has to have one
unfoldable pub tag_pieces : Option Ident → Pieces
tag_pieces None = alone kinds.Bad ∷ []
tag_pieces (Some i) = ident_pieces i

unfoldable pub names_pieces : List Ident → Pieces
names_pieces is = commas ident_pieces is

-- in square brackets, where there are any
abbrev pub in_squares : {A : Type 0} → (A → Pieces) → List A → Pieces
in_squares f [] = []
in_squares f (x ∷ xs) = within brackets.Square (commas f (x ∷ xs))

-- ---- one layer, with the pieces of what it holds

abbrev pub attr_kind_step : open_.AttrKind-F Pieces Pieces Pieces Pieces Pieces Pieces Pieces → Pieces
attr_kind_step open_.In = word_pieces words.In
attr_kind_step open_.Out = word_pieces words.Out
attr_kind_step (open_.Pointer p) = pk_pieces p
attr_kind_step open_.Text = word_pieces words.String
attr_kind_step open_.Idempotent = word_pieces words.Idempotent
attr_kind_step open_.Maybe = word_pieces words.Maybe
attr_kind_step open_.Handle = word_pieces words.ContextHandle
attr_kind_step open_.HandleSerialize = word_pieces words.ContextHandleSerialize
attr_kind_step open_.HandleNoserialize = word_pieces words.ContextHandleNoserialize
attr_kind_step (open_.SizeIs r) = word_pieces words.SizeIs ++ within brackets.Round (ref_pieces r)
attr_kind_step (open_.MaxIs r) = word_pieces words.MaxIs ++ within brackets.Round (ref_pieces r)
attr_kind_step (open_.LengthIs r) = word_pieces words.LengthIs ++ within brackets.Round (ref_pieces r)
attr_kind_step (open_.SwitchIs star i) = word_pieces words.SwitchIs ++ within brackets.Round (if_mark star marks.Star ++ ident_pieces i)
attr_kind_step (open_.SwitchType spec) = word_pieces words.SwitchType ++ within brackets.Round spec.value
attr_kind_step (open_.Range low high) = range_pieces ++ within brackets.Round (bounds_pieces low high)

abbrev pub if_switch : Option Pieces → Pieces
if_switch None = []
if_switch (Some s) = s

abbrev pub kind_step : open_.SpecKind-F Pieces Pieces Pieces Pieces Pieces Pieces Pieces → Pieces
kind_step (open_.Base b) = base_pieces b
kind_step (open_.Named i) = ident_pieces i
kind_step open_.Void = word_pieces words.Void
kind_step open_.HandleT = word_pieces words.HandleT
kind_step open_.ErrorStatus = word_pieces words.ErrorStatusT
kind_step (open_.Struct tag None) = word_pieces words.Struct ++ tag_pieces tag
kind_step (open_.Struct tag (Some ms)) = word_pieces words.Struct ++ (if_ident tag ++ within brackets.Curly (flat_map (λ p. p) ms.items))
kind_step (open_.Union tag switch arms) = word_pieces words.Union ++ (if_ident tag ++ (if_switch switch ++ within brackets.Curly (flat_map (λ p. p) arms.items)))
kind_step (open_.Enum tag names) = word_pieces words.Enum ++ (if_ident tag ++ within brackets.Curly (names_pieces names.items))

-- a member, or a semicolon alone
abbrev pub member_or_mark : Option Pieces → Pieces
member_or_mark None = mark_pieces marks.Semicolon
member_or_mark (Some m) = m

abbrev pub arm_step : open_.ArmNode-F Pieces Pieces Pieces Pieces Pieces Pieces Pieces → Pieces
arm_step a = flat_map label_pieces a.labels.items ++ member_or_mark a.member

abbrev pub attr_step : open_.Attr-F Pieces Pieces Pieces Pieces Pieces Pieces Pieces → Pieces
attr_step a = placed a.at a.what

abbrev pub member_step : open_.Member-F Pieces Pieces Pieces Pieces Pieces Pieces Pieces → Pieces
member_step m = in_squares (λ p. p) m.attrs.items ++ (m.spec ++ (dtors_pieces m.dtors.items ++ mark_pieces marks.Semicolon))

abbrev pub spec_step : open_.Spec-F Pieces Pieces Pieces Pieces Pieces Pieces Pieces → Pieces
spec_step s = placed s.at s.what

abbrev pub switch_step : open_.Switch-F Pieces Pieces Pieces Pieces Pieces Pieces Pieces → Pieces
switch_step s = word_pieces words.Switch ++ (within brackets.Round (s.spec.value ++ ident_pieces s.name) ++ if_ident s.body)

-- ---- the tokens of each

abbrev pub attr_kind_pieces : AttrKind → Pieces
attr_kind_pieces = fold-AttrKind Pieces Pieces Pieces Pieces Pieces Pieces Pieces attr_kind_step kind_step arm_step attr_step member_step spec_step switch_step

abbrev pub kind_pieces : SpecKind → Pieces
kind_pieces = fold-SpecKind Pieces Pieces Pieces Pieces Pieces Pieces Pieces attr_kind_step kind_step arm_step attr_step member_step spec_step switch_step

abbrev pub spec_pieces : Spec → Pieces
spec_pieces s = placed s.at (kind_pieces s.what)

abbrev pub attr_pieces : Attr → Pieces
attr_pieces a = placed a.at (attr_kind_pieces a.what)

abbrev pub attrs_pieces : List Attr → Pieces
attrs_pieces as' = in_squares attr_pieces as'

abbrev pub member_pieces : Member → Pieces
member_pieces m = attrs_pieces (out-Member m).attrs.items ++ (spec_pieces (out-Member m).spec ++ (dtors_pieces (out-Member m).dtors.items ++ mark_pieces marks.Semicolon))

abbrev pub switch_pieces : Switch → Pieces
switch_pieces s = word_pieces words.Switch ++ (within brackets.Round (spec_pieces (out-Switch s).spec.value ++ ident_pieces (out-Switch s).name) ++ if_ident (out-Switch s).body)

abbrev pub arm_member_pieces : Option Member → Pieces
arm_member_pieces None = mark_pieces marks.Semicolon
arm_member_pieces (Some m) = member_pieces m

abbrev pub arm_pieces : ArmNode → Pieces
arm_pieces a = flat_map label_pieces (out-ArmNode a).labels.items ++ arm_member_pieces (out-ArmNode a).member

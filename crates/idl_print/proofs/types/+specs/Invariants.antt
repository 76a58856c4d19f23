use Rattle.std.proofs.Common.{◌++◌, ◌+◌, ◌*◌, take}
use Rattle.std.specs.List.{flat_map}
use Rattle.idl_tokens.specs.declared.marks.Mark.TheVariants as marks
use Rattle.idl_tree.specs.Pieces.{mark_pieces}
use Rattle.idl_tree.specs.Trees.{member_pieces, attr_pieces, arm_pieces}
use Rattle.idl_print.specs.Prints.{Prints}
use Rattle.idl_print.proofs.types.+specs.Given as goal

-- those before this one were printed

abbrev pub invariant-members-loop-one : goal.invariant-members-loop-one
invariant-members-loop-one l = Prints (flat_map member_pieces (take l.one-index l.members)) l.initial.page l.page

abbrev pub invariant-more_attrs-loop-one : goal.invariant-more_attrs-loop-one
invariant-more_attrs-loop-one l = Prints (flat_map (λ y. mark_pieces marks.Comma ++ attr_pieces y) (take l.one-index l.attrs)) l.initial.page l.page

abbrev pub invariant-arms-loop-one : goal.invariant-arms-loop-one
invariant-arms-loop-one l = Prints (flat_map arm_pieces (take l.one-index l.arms)) l.initial.page l.page

-- how deep what is printed is; a function that hands on all of it stands above the one that it calls

abbrev pub decreases-spec : goal.decreases-spec
decreases-spec l = 3 * goal.size-spec l

abbrev pub decreases-kind : goal.decreases-kind
decreases-kind l = 3 * goal.size-kind l

abbrev pub decreases-structure : goal.decreases-structure
decreases-structure l = 3 * goal.size-structure l + 2

abbrev pub decreases-members : goal.decreases-members
decreases-members l = 3 * goal.size-members l + 1

abbrev pub decreases-member : goal.decreases-member
decreases-member l = 3 * goal.size-member l

abbrev pub decreases-attrs : goal.decreases-attrs
decreases-attrs l = 3 * goal.size-attrs l + 2

abbrev pub decreases-more_attrs : goal.decreases-more_attrs
decreases-more_attrs l = 3 * goal.size-more_attrs l + 1

abbrev pub decreases-attr : goal.decreases-attr
decreases-attr l = 3 * goal.size-attr l

abbrev pub decreases-attr_kind : goal.decreases-attr_kind
decreases-attr_kind l = 3 * goal.size-attr_kind l

abbrev pub decreases-switch_type : goal.decreases-switch_type
decreases-switch_type l = 3 * goal.size-switch_type l + 1

abbrev pub decreases-switch : goal.decreases-switch
decreases-switch l = 3 * goal.size-switch l

abbrev pub decreases-union_body : goal.decreases-union_body
decreases-union_body l = 3 * goal.size-union_body l + 2

abbrev pub decreases-arms : goal.decreases-arms
decreases-arms l = 3 * goal.size-arms l + 1

abbrev pub decreases-arm : goal.decreases-arm
decreases-arm l = 3 * goal.size-arm l

use Rattle.std.proofs.Common.{◌≡◌, ◌+◌, ◌*◌, [], ◌∷◌, ◌++◌, ◌<◌, ◌≤◌, length}
use Rattle.idl_tokens.specs.Machine.{token, ◌>>=◌}
use Rattle.std.specs.List.{flat_map}
use Rattle.idl_tokens.specs.declared.marks.Bracket.TheVariants as brackets
use Rattle.idl_tokens.specs.Terminals.{terminals}
use Rattle.idl_tree.specs.Grammar.{attr}
use Rattle.idl_tree.specs.Pieces.{Written, open_pieces, commas}
use Rattle.idl_tree.specs.Trees.{member_pieces, arm_pieces, attr_pieces}
use Rattle.idl_parts.specs.Along.{more_of, open_at}
use Rattle.idl_reader.specs.TypesAlong.{members_at, more_members_at, arm_list_at, more_arms_at, attr_list_at}
use Rattle.idl_reader.proofs.types.+specs.Given as goal

abbrev pub decreases-member : goal.decreases-member
decreases-member l = 4 * length l.tokens.now + 3

abbrev pub decreases-spec : goal.decreases-spec
decreases-spec l = 4 * length l.tokens.now + 2

abbrev pub decreases-struct_rest : goal.decreases-struct_rest
decreases-struct_rest l = 4 * length l.tokens.now + 1

abbrev pub decreases-union_rest : goal.decreases-union_rest
decreases-union_rest l = 4 * length l.tokens.now + 1

abbrev pub decreases-body : goal.decreases-body
decreases-body l = 4 * length l.tokens.now

abbrev pub decreases-attrs : goal.decreases-attrs
decreases-attrs l = 4 * length l.tokens.now

abbrev pub decreases-attr : goal.decreases-attr
decreases-attr l = 4 * length l.tokens.now

abbrev pub decreases-switch : goal.decreases-switch
decreases-switch l = 4 * length l.tokens.now

abbrev pub decreases-arms : goal.decreases-arms
decreases-arms l = 4 * length l.tokens.now

abbrev pub decreases-arm : goal.decreases-arm
decreases-arm l = 4 * length l.tokens.now

abbrev pub invariant-body-more : goal.invariant-body-more
invariant-body-more l =
    Written (open_pieces brackets.Curly ++ flat_map member_pieces l.list.items) l.tokens l.rest
    × (more_members_at (terminals l.rest) ≡ (open_at brackets.Curly (terminals l.tokens) >>= members_at))
    × (length l.rest < length l.tokens)

abbrev pub decreases-body-more : goal.decreases-body-more
decreases-body-more l = length l.rest

abbrev pub invariant-arms-more : goal.invariant-arms-more
invariant-arms-more l =
    Written (open_pieces brackets.Curly ++ flat_map arm_pieces l.list.items) l.tokens l.rest
    × (more_arms_at (terminals l.rest) ≡ (open_at brackets.Curly (terminals l.tokens) >>= arm_list_at))
    × (length l.rest < length l.tokens)

abbrev pub decreases-arms-more : goal.decreases-arms-more
decreases-arms-more l = length l.rest

abbrev pub invariant-attrs-more : goal.invariant-attrs-more
invariant-attrs-more l =
    (1 ≤ length l.list.items)
    × Written (open_pieces brackets.Square ++ commas attr_pieces l.list.items) l.tokens l.rest
    × (more_of attr (terminals l.rest) ≡ (open_at brackets.Square (terminals l.tokens) >>= attr_list_at))
    × (length l.rest < length l.tokens)

abbrev pub decreases-attrs-more : goal.decreases-attrs-more
decreases-attrs-more l = length l.rest

-- The loops of the readers: what each has written and where the machine is.
use Rattle.std.proofs.Common.{List, [], ◌∷◌, ◌++◌, ◌≤◌, length}
use Rattle.std.specs.List.{flat_map}
use Rattle.idl_tokens.specs.declared.kinds.Token.{Token}
use Rattle.idl_tokens.specs.declared.marks.Mark.TheVariants as marks
use Rattle.idl_tokens.specs.declared.marks.Bracket.TheVariants as brackets
use Rattle.idl_tree.specs.declared.spec.Member.{Member}
use Rattle.idl_tree.specs.declared.spec.ArmNode.{ArmNode}
use Rattle.idl_tree.specs.declared.spec.Attr.{Attr}
use Rattle.idl_tree.specs.Pieces.{Written, within, commas, open_pieces, shut_pieces, mark_pieces}
use Rattle.idl_tree.specs.Trees.{member_pieces, arm_pieces, attr_pieces, attrs_pieces}
use Rattle.idl_tree.proofs.Writing.{write_join, write_none, write_placed, write_shut, write_squares, write_flat_none, write_flat_more, write_commas_one, write_commas_more}
use Rattle.idl_reader.proofs.TypesOrders.{more_attrs, more_members, more_arms, body_law, switch_law, attrs_law, arms_law}

pub members_one : (m : Member) (ts mid rest : List Token) → Written (open_pieces brackets.Curly) ts mid → Written (member_pieces m) mid rest → Written (open_pieces brackets.Curly ++ flat_map member_pieces (m ∷ [])) ts rest
members_one m ts mid rest p q = write_flat_more member_pieces (open_pieces brackets.Curly) [] m ts mid rest (write_flat_none member_pieces (open_pieces brackets.Curly) ts mid p) q

pub members_more : (ms : List Member) (m : Member) (ts mid rest : List Token) → Written (open_pieces brackets.Curly ++ flat_map member_pieces ms) ts mid → Written (member_pieces m) mid rest → Written (open_pieces brackets.Curly ++ flat_map member_pieces (ms ++ m ∷ [])) ts rest
members_more ms m ts mid rest p q = write_flat_more member_pieces (open_pieces brackets.Curly) ms m ts mid rest p q

pub members_shut : (ms : List Member) (ts mid rest : List Token) → Written (open_pieces brackets.Curly ++ flat_map member_pieces ms) ts mid → Written (shut_pieces brackets.Curly) mid rest → Written (within brackets.Curly (flat_map member_pieces ms)) ts rest
members_shut ms ts mid rest p q = write_shut brackets.Curly (flat_map member_pieces ms) ts mid rest p q

pub arms_one : (m : ArmNode) (ts mid rest : List Token) → Written (open_pieces brackets.Curly) ts mid → Written (arm_pieces m) mid rest → Written (open_pieces brackets.Curly ++ flat_map arm_pieces (m ∷ [])) ts rest
arms_one m ts mid rest p q = write_flat_more arm_pieces (open_pieces brackets.Curly) [] m ts mid rest (write_flat_none arm_pieces (open_pieces brackets.Curly) ts mid p) q

pub arms_more : (ms : List ArmNode) (m : ArmNode) (ts mid rest : List Token) → Written (open_pieces brackets.Curly ++ flat_map arm_pieces ms) ts mid → Written (arm_pieces m) mid rest → Written (open_pieces brackets.Curly ++ flat_map arm_pieces (ms ++ m ∷ [])) ts rest
arms_more ms m ts mid rest p q = write_flat_more arm_pieces (open_pieces brackets.Curly) ms m ts mid rest p q

pub arms_shut : (ms : List ArmNode) (ts mid rest : List Token) → Written (open_pieces brackets.Curly ++ flat_map arm_pieces ms) ts mid → Written (shut_pieces brackets.Curly) mid rest → Written (within brackets.Curly (flat_map arm_pieces ms)) ts rest
arms_shut ms ts mid rest p q = write_shut brackets.Curly (flat_map arm_pieces ms) ts mid rest p q

pub attrs_one : (a : Attr) (ts mid rest : List Token) → Written (open_pieces brackets.Square) ts mid → Written (attr_pieces a) mid rest → Written (open_pieces brackets.Square ++ commas attr_pieces (a ∷ [])) ts rest
attrs_one a ts mid rest p q = write_commas_one attr_pieces (open_pieces brackets.Square) a ts mid rest p q

pub attrs_more : (xs : List Attr) (a : Attr) (ts mid next rest : List Token) → 1 ≤ length xs → Written (open_pieces brackets.Square ++ commas attr_pieces xs) ts mid → Written (mark_pieces marks.Comma) mid next → Written (attr_pieces a) next rest → Written (open_pieces brackets.Square ++ commas attr_pieces (xs ++ a ∷ [])) ts rest
attrs_more xs a ts mid next rest h p q r = write_commas_more attr_pieces (open_pieces brackets.Square) xs a ts mid rest h p (write_join q r)

pub attrs_shut : (xs : List Attr) (ts mid rest : List Token) → 1 ≤ length xs → Written (open_pieces brackets.Square ++ commas attr_pieces xs) ts mid → Written (shut_pieces brackets.Square) mid rest → Written (attrs_pieces xs) ts rest
attrs_shut xs ts mid rest h p q = write_squares attr_pieces xs ts mid rest h p q

pub ruleset members = (body_law, more_members, members_one, members_more, members_shut)

pub ruleset arms = (arms_law, more_arms, arms_one, arms_more, arms_shut)

pub ruleset attrs = (attrs_law, more_attrs, attrs_one, attrs_more, attrs_shut, write_none)

pub ruleset switches = (switch_law, write_join, write_none)

pub ruleset cycle = (write_join, write_none, write_placed)

use Rattle.std.proofs.Common.{◌≡◌, drop}
use Rattle.ndr_value.specs.Forms.{forms, arms_of}
use Rattle.ndr_table.specs.Nested.{each_reaches, arms_reach}
use Rattle.ndr_table.proofs.nesting.+reach.Given as goal

abbrev pub invariant-each_reaches-loop-member : goal.invariant-each_reaches-loop-member
invariant-each_reaches-loop-member l = each_reaches 256 l.depths (forms (drop l.member-index l.members)) ≡ each_reaches 256 l.depths (forms l.members)

abbrev pub invariant-arms_reach-loop-arm : goal.invariant-arms_reach-loop-arm
invariant-arms_reach-loop-arm l = arms_reach 256 l.depths (arms_of (drop l.arm-index l.arms)) ≡ arms_reach 256 l.depths (arms_of l.arms)

use Rattle.std.proofs.Common.{◌≡◌, ◌≤◌, drop}
use Rattle.std.specs.Prelude.{max, min}
use Rattle.ndr_value.specs.Forms.{forms, arms_of}
use Rattle.ndr_table.specs.Nested.{members_levels, arms_levels}
use Rattle.ndr_table.proofs.nesting.+levels.Given as goal

abbrev pub invariant-members_levels-loop-member : goal.invariant-members_levels-loop-member
invariant-members_levels-loop-member l =
    record {
      within : l.found ≤ l.most;
      largest : min (max l.found (members_levels l.depths (forms (drop l.member-index l.members)))) l.most ≡ min (members_levels l.depths (forms l.members)) l.most;
    }

abbrev pub invariant-arms_levels-loop-arm : goal.invariant-arms_levels-loop-arm
invariant-arms_levels-loop-arm l =
    record {
      within : l.found ≤ l.most;
      largest : min (max l.found (arms_levels l.depths (arms_of (drop l.arm-index l.arms)))) l.most ≡ min (arms_levels l.depths (arms_of l.arms)) l.most;
    }

use Rattle.std.proofs.Common.{◌≡◌, ◌+◌, ◌≤◌, length, drop}
use Rattle.std.specs.Prelude.{max}
use Rattle.ndr_value.specs.Forms.{forms, arms_of}
use Rattle.ndr_table.specs.Aligned.{members_align, arms_align}
use Rattle.ndr_table.proofs.align.+align.Given as goal

abbrev pub invariant-members_at-loop-member : goal.invariant-members_at-loop-member
invariant-members_at-loop-member l =
    record {
      counted : l.left + l.member-index ≡ length l.members;
      from_1 : 1 ≤ l.most;
      largest : max l.most (members_align l.aligns (forms (drop l.member-index l.members))) ≡ members_align l.aligns (forms l.members);
    }

abbrev pub invariant-arms_at-loop-arm : goal.invariant-arms_at-loop-arm
invariant-arms_at-loop-arm l =
    record {
      from_1 : 1 ≤ l.most;
      largest : max l.most (arms_align l.aligns (arms_of (drop l.arm-index l.arms))) ≡ arms_align l.aligns (arms_of l.arms);
    }

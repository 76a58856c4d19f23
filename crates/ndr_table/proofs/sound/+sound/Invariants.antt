use Rattle.std.proofs.Common.{◌≡◌, drop}
use Rattle.ndr_value.specs.Forms.{forms, arms_of}
use Rattle.ndr_table.specs.Sound.{each_sound, arms_sound}
use Rattle.ndr_table.proofs.sound.+sound.Given as goal

abbrev pub invariant-each_sound-loop-member : goal.invariant-each_sound-loop-member
invariant-each_sound-loop-member l = each_sound (forms (drop l.member-index l.members)) ≡ each_sound (forms l.members)

abbrev pub invariant-arms_sound-loop-arm : goal.invariant-arms_sound-loop-arm
invariant-arms_sound-loop-arm l = arms_sound (arms_of (drop l.arm-index l.arms)) ≡ arms_sound (arms_of l.arms)

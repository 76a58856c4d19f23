use Rattle.std.proofs.Common.{◌≡◌, drop}
use Rattle.std.specs.Prelude.{if◌then◌else◌}
use Rattle.ndr_value.specs.Forms.{forms}
use Rattle.ndr_table.specs.Aligned.{is_last}
use Rattle.ndr_table.specs.Tails.{last_open}
use Rattle.ndr_table.proofs.tails.+ends.Given as goal

-- the last one decides: what is left, or the one before where none is left
abbrev pub invariant-last_by-loop-member : goal.invariant-last_by-loop-member
invariant-last_by-loop-member l = (if is_last (forms (drop l.member-index l.members)) then l.ends else last_open l.tails (forms (drop l.member-index l.members))) ≡ last_open l.tails (forms l.members)

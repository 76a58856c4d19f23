use Rattle.std.proofs.Common.{◌≡◌, ◌+◌, ◌-◌, length}
use Rattle.value_text.specs.Quoted.{chars_at}
use Rattle.value_text.proofs.Rows.{with_chars}
use Rattle.value_text.proofs.quoted.chars.Given as goal

abbrev pub invariant-loop-count : goal.invariant-loop-count
invariant-loop-count l = with_chars l.octets.items (chars_at (length l.text + 1 - l.count) l.most l.count l.rest) ≡ chars_at (length l.text + 1) l.most 0 l.text

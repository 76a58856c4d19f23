use Rattle.std.proofs.Common.{◌≡◌, drop, map}
use Rattle.ndr_table.specs.Sound.{are_uses}
use Rattle.ndr_table.specs.Tables.{param_form}
use Rattle.ndr_table.proofs.sound.are_uses.Given as goal

abbrev pub invariant-loop-param : goal.invariant-loop-param
invariant-loop-param l = are_uses (map param_form (drop l.param-index l.params)) l.rest ≡ are_uses (map param_form l.params) l.uses

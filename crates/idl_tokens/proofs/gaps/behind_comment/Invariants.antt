use Rattle.std.proofs.Common.{◌≡◌, ◌≤◌, length}
use Rattle.idl_tokens.specs.Tokens.{after_comment}
use Rattle.idl_tokens.proofs.gaps.behind_comment.Given as goal

abbrev pub invariant-octets : goal.invariant-octets
invariant-octets l = record { same : after_comment l.text ≡ after_comment l.inside; within : length l.text ≤ length l.inside }

abbrev pub decreases-octets : goal.decreases-octets
decreases-octets l = length l.text

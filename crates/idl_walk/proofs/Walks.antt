-- Lists that are walked from the front.
use Rattle.std.proofs.Common.{append_assoc, append-nil}

pub ruleset lists = (append_assoc, append-nil)

use Rattle.std.proofs.Common.{◌∙◌}
use Rattle.idl_rules.proofs.Seen.{seen_more}
use Rattle.idl_rules.proofs.duplicates.was_seen.Goals as goal

pub returns-clause-now : goal.returns-clause-now
returns-clause-now c =
    λ text. seen_more c.args.seen.now c.insert.new.self c.into_vec-key.result c.args.name.now.text text (c.into_vec-key.ensures ∙ c.in_ok-copy.ensures) c.in-Ok.ensures.keys

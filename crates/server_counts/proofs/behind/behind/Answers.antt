use Rattle.std.proofs.Common.{◌∙◌, arith}
use Rattle.server_counts.proofs.Heads.{head_found, head_size, head_len, head_call}
use Rattle.server_counts.proofs.behind.behind.Goals as goal

pub returns-in-Ok-clause-behind : goal.returns-in-Ok-clause-behind
returns-in-Ok-clause-behind c =
    let h = c.in-Ok.head in
    let is = c.in-Ok.ensures.head in
    c.entered.ensures.enters c.args.head (head_found h c.args.head is) (omega (arith, head_size h c.args.head is, head_len h c.args.head is, is.long)) (c.ends_call.ensures ∙ head_call h c.args.head is)

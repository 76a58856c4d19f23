use Rattle.std.proofs.Common.{◌≡◌, ◌<◌, ◌-◌, length, rules, arith}
use Rattle.world_ends.proofs.Told.{last_set}
use Rattle.world_ends.proofs.caller.set_last.Goals as goal

pub returns-then-count-gt0 : goal.returns-then-count-gt0
returns-then-count-gt0 c =
    let n : c.len-count.result ≡ length c.args.fates.now.items = search rules in
    let p : 0 < c.len-count.result = search rules in
    last_set c.args.fate c.args.fates.now.items (c.len-count.result - 1) (omega (arith, n, p))

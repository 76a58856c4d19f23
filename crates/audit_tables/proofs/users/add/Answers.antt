use Rattle.std.specs.BTreeMap.{is_at}
use Rattle.audit_tables.specs.Users.{use_cmp, has, is_use}
use Rattle.audit_tables.proofs.Using.{same_use, added}
use Rattle.audit_tables.proofs.users.add.Goals as goal

pub returns : goal.returns
returns c =
    λ w b k. added (is_at (use_cmp (c.args.wire.attributes, c.args.wire.id, c.args.waits, c.args.call)) (w.attributes, w.id, b, k)) (is_use c.args.wire c.args.waits c.args.call w b k) (has c.args.users.now w b k) (has c.insert.new.self w b k) (same_use c.args.wire w c.args.waits b c.args.call k) (c.in_ok-insert.ensures.updates.0 (w.attributes, w.id, b, k))

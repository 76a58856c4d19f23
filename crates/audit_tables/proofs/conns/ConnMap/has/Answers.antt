use Rattle.std.proofs.Common.{◌∙◌, ap}
use Rattle.journal_tables.specs.Conns.{has_open}
use Rattle.audit_tables.specs.Conns.{number_of}
use Rattle.audit_tables.proofs.Keyed.{any_found}
use Rattle.audit_tables.proofs.conns.ConnMap.has.Goals as goal

pub returns : goal.returns
returns c =
    c.contains_key.ensures ∙ (any_found number_of c.args.conn c.self.inside.conns.entries c.self.invariant.keyed ∙ ap (λ l. has_open l c.args.conn) c.self.view_is)

use Rattle.std.proofs.Common.{◌∷◌, [], ◌++◌, ◌∙◌, ap, sym, subst, refl}
use Rattle.std.specs.Map.{values_of}
use Rattle.journal_tables.specs.declared.conns.OpenConn.{OpenConn}
use Rattle.audit_tables.specs.Conns.{number_of, over}
use Rattle.audit_tables.specs.Keyed.{IsTable}
use Rattle.audit_tables.proofs.Keyed.{put_last, table_put}
use Rattle.audit_tables.proofs.Held.{conn_below}
use Rattle.audit_tables.proofs.conns.ConnMap.join.Goals as goal

pub invariant_of-self-2 : goal.invariant_of-self-2
invariant_of-self-2 c =
    subst (λ es. IsTable number_of es) (sym c.in_ok-insert.ensures.entries) (table_put number_of c.args.conn (record { conn = c.args.conn; place = c.args.place }) c.self.inside.conns.entries c.self.invariant refl c.ranges.conn.fits)

pub returns : goal.returns
returns c =
    let v : OpenConn = record { conn = c.args.conn; place = c.args.place } in
    let low = conn_below c.args.conn (values_of c.self.inside.conns.entries) (ap (over c.args.conn) c.self.view_is ∙ c.requires) in
    ap values_of c.in_ok-insert.ensures.entries ∙ (put_last number_of c.args.conn v c.self.inside.conns.entries c.self.invariant low ∙ ap (λ l. l ++ v ∷ []) c.self.view_is)

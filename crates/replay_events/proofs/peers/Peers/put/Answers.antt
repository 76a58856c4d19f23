use Rattle.std.proofs.Common.{◌≡◌, ◌∙◌, ap, sym, subst, refl, List, arith}
use Rattle.std.specs.Map.{values_of}
use Rattle.audit_tables.specs.Keyed.{IsTable}
use Rattle.audit_tables.proofs.Keyed.{put_is, table_put}
use Rattle.replay_events.specs.declared.played.Played.{Played}
use Rattle.replay_events.specs.Tables.{name_in, placed}
use Rattle.replay_events.proofs.PeerTables.{puts_back, puts_fresh}
use Rattle.replay_events.proofs.peers.Peers.put.Goals as goal

pub invariant_of-self-2 : goal.invariant_of-self-2
invariant_of-self-2 c =
    subst (λ es. IsTable name_in es) (sym c.in_ok-insert.ensures.entries) (table_put name_in c.args.played.name c.args.played c.self.inside.peers.entries c.self.invariant refl (omega arith))

pub returns-clause-list : goal.returns-clause-list
returns-clause-list c =
    ap values_of c.in_ok-insert.ensures.entries ∙ (put_is name_in c.args.played.name c.args.played c.self.inside.peers.entries c.self.invariant ∙ ap (placed c.args.played) c.self.view_is)

pub returns-clause-back : goal.returns-clause-back
returns-clause-back c = puts_back c.args.played c.args.self.now _ (returns-clause-list c)

pub returns-clause-fresh : goal.returns-clause-fresh
returns-clause-fresh c = puts_fresh c.args.played c.args.self.now _ (returns-clause-list c)

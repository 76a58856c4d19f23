use Rattle.std.proofs.Common.{◌≡◌, ◌∙◌, ap, sym, subst, List, filter}
use Rattle.std.specs.Map.{values_of}
use Rattle.std.specs.List.{find}
use Rattle.std.specs.BTreeMap.{is_at}
use Rattle.std.specs.Ordering.{nat_cmp}
use Rattle.audit_tables.specs.Keyed.{IsTable}
use Rattle.audit_tables.proofs.Keyed.{found, removed, table_removed}
use Rattle.replay_events.specs.declared.played.Played.{Played}
use Rattle.replay_events.specs.Tables.{name_in, has_name, has_other_name, TakesOut}
use Rattle.replay_events.proofs.PeerTables.{taken_out, takes}
use Rattle.replay_events.proofs.peers.Peers.take.Goals as goal

pub invariant_of-self : goal.invariant_of-self
invariant_of-self c =
    subst (λ es. IsTable name_in es) (sym c.remove.ensures.entries) (table_removed name_in (is_at (nat_cmp c.args.name)) c.self.inside.peers.entries c.self.invariant)

pub returns-clause-out : goal.returns-clause-out
returns-clause-out c =
    taken_out c.args.name c.args.self.now c.remove.result _
    (c.remove.ensures.value ∙ (found name_in c.args.name c.self.inside.peers.entries c.self.invariant.keyed ∙ ap (λ (ts : List Played). find (has_name c.args.name) ts) c.self.view_is))
    (ap values_of c.remove.ensures.entries ∙ (removed name_in c.args.name c.self.inside.peers.entries c.self.invariant ∙ ap (λ (ts : List Played). filter (has_other_name c.args.name) ts) c.self.view_is))

pub returns-clause-shown : goal.returns-clause-shown
returns-clause-shown c = takes c.args.name c.args.self.now c.remove.result _ (returns-clause-out c)

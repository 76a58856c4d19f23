use Rattle.std.proofs.Common.{◌∙◌, ap, List}
use Rattle.std.specs.List.{find}
use Rattle.audit_tables.proofs.Keyed.{found}
use Rattle.replay_events.specs.declared.played.Played.{Played}
use Rattle.replay_events.specs.Tables.{name_in, has_name}
use Rattle.replay_events.proofs.PeerTables.{finds}
use Rattle.replay_events.proofs.peers.Peers.get.Goals as goal

pub returns : goal.returns
returns c ps show =
    finds c.args.name c.args.self.now ps _
    (c.get.ensures.value ∙ (found name_in c.args.name c.self.inside.peers.entries c.self.invariant.keyed ∙ ap (λ (ts : List Played). find (has_name c.args.name) ts) c.self.view_is)) show

use Rattle.std.proofs.Common.{◌∙◌, ap, map, List}
use Rattle.replay_events.specs.declared.played.Played.{Played}
use Rattle.replay_events.specs.Tables.{name_in}
use Rattle.replay_events.proofs.PeerTables.{same_names}
use Rattle.replay_events.proofs.peers.Peers.names.Goals as goal

pub returns : goal.returns
returns c ps show = c.in_ok-names.ensures ∙ (ap (λ (ts : List Played). map name_in ts) c.self.view_is ∙ same_names c.args.self.now ps show.each)

use Rattle.std.proofs.Common.{◌<◌, List, []}
use Rattle.rpc_outside.specs.Links.{Counts}
use Rattle.ndr_table.specs.Tables.{TableForm}
use Rattle.client_core.specs.States.{ClientState}
use Rattle.client_core.specs.Histories.{ClientEvent}
use Rattle.client_link.specs.Wires.{IsOpen, Stays, Lived, RoseBy, most_quiets}
use Rattle.client_link.proofs.WireLemmas.{Waited}
use Rattle.client_link.proofs.wire.Wire.wait.Given as goal

abbrev pub invariant-loop : goal.invariant-loop
invariant-loop g l = record {
  stays : Stays l.initial.self l.self;
  is_open : IsOpen g.K.Link.shows l.self.link;
  counts : Counts (g.K.Link.shows l.initial.self.link) (g.K.Link.shows l.self.link);
  few : l.quiets < most_quiets;
  rose : RoseBy l.quiets (g.K.Link.shows l.initial.self.link).quiets (g.K.Link.shows l.self.link).quiets;
  waited : (interface : TableForm) (events : List ClientEvent) (m : ClientState) → Lived g.K.Link.shows interface l.initial.self events m [] → Waited g.K.Link.shows interface events l.self;
}

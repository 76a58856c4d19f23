use Rattle.std.proofs.Common.{refl}
use Rattle.client_script.proofs.Lists.{read_at}
use Rattle.client_script.proofs.player.Player.wait_at.Goals as goal

pub returns-clause-touches : goal.returns-clause-touches
returns-clause-touches g c = record {
  before = c.index_mut.result.now;
  after = c.wait.new.self;
  there = read_at c.args.self.now.channels.items c.args.at c.index_mut.result.now c.requires.0 c.requires.1 c.index_mut.ensures.value;
  becomes = c.wait.ensures.hears;
  named = c.wait.ensures.name;
  channels = refl;
  others = refl;
}

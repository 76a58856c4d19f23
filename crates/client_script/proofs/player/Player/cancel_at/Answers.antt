use Rattle.std.proofs.Common.{refl}
use Rattle.client_script.proofs.Lists.{read_at}
use Rattle.client_script.proofs.player.Player.cancel_at.Goals as goal

pub returns : goal.returns
returns g c = record {
  before = c.index_mut.result.now;
  after = c.cancel.new.self;
  there = read_at c.args.self.now.channels.items c.args.at c.index_mut.result.now c.requires.0 c.requires.1 c.index_mut.ensures.value;
  becomes = c.cancel.ensures.begins;
  named = c.cancel.ensures.name;
  channels = refl;
  others = refl;
}

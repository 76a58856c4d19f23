use Rattle.std.proofs.Common.{sym, ◌∙◌}
use Rattle.client_script.proofs.Finding.{is_called, idle_there}
use Rattle.client_script.proofs.player.Player.calling.Goals as goal

pub returns-then-is_calling : goal.returns-then-is_calling
returns-then-is_calling g c = is_called c.args.self.now c.args.name c.in_ok-at.at c.index.result.now c.in_ok-at.ensures c.index.ensures (sym c.if-is_calling.true ∙ c.is_calling.ensures)

pub returns-else-is_calling : goal.returns-else-is_calling
returns-else-is_calling g c = idle_there c.args.self.now c.args.name c.in_ok-at.at c.index.result.now c.in_ok-at.ensures c.index.ensures (sym c.if-is_calling.false ∙ c.is_calling.ensures)

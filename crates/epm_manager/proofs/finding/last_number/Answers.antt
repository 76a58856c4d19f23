use Rattle.epm_manager.proofs.Filters.{last_more}
use Rattle.epm_manager.proofs.finding.last_number.Goals as goal

pub loop-numbered-preserved : goal.loop-numbered-preserved
loop-numbered-preserved c = last_more c.args.before c.args.entries.now c.loop-numbered.numbered-index c.numbered-item.result c.loop-numbered-test.true c.numbered-item.is

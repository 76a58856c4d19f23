use Rattle.journal_audit.proofs.Sounds.{behind_last}
use Rattle.journal_audit.proofs.calls.comes_behind.Goals as goal

pub returns-in-Some : goal.returns-in-Some
returns-in-Some c = behind_last c.in-Some._front.now c.in-Some.last.now c.args.call.now c.args.calls.now c.in-Some.ensures.cases.0 c.requires

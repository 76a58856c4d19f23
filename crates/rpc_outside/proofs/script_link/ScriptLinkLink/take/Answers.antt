use Rattle.std.proofs.Common.{rules, arith, refl}
use Rattle.rpc_outside.proofs.PlayLemmas.{takes_bytes, takes_quiet, takes_end, end_or}
use Rattle.rpc_outside.proofs.script_link.ScriptLinkLink.take.Goals as goal

pub returns-in-Bytes-clause-takes : goal.returns-in-Bytes-clause-takes
returns-in-Bytes-clause-takes c = takes_bytes _ _ c.args.self.now.script c.take-taken.new.self _ _ _ c.in-Bytes.is c.take-taken.ensures refl refl refl refl (search (rules, arith)) refl refl refl

pub returns-in-Quiet-clause-takes : goal.returns-in-Quiet-clause-takes
returns-in-Quiet-clause-takes c = takes_quiet _ _ c.args.self.now.script c.take-taken.new.self _ _ c.in-Quiet.is c.take-taken.ensures refl refl refl refl (search (rules, arith)) (search (rules, arith)) refl refl refl

pub returns-in-End-clause-takes : goal.returns-in-End-clause-takes
returns-in-End-clause-takes c = takes_end _ _ c.args.self.now.script c.take-taken.new.self _ _ c.in-End.is c.take-taken.ensures refl refl refl refl (search (rules, arith)) (search (rules, arith)) refl (end_or _ _ _ _ c.len.ensures c.or-self.ensures) refl

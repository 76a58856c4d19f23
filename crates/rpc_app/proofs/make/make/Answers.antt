use Rattle.std.proofs.Common.{sym, subst, IfOk}
use Rattle.server_command.specs.Tables.{shown_by}
use Rattle.rpc_app.specs.declared.command.Command.{Command}
use Rattle.rpc_app.specs.Commands.{Makes}
use Rattle.rpc_app.proofs.Made.{printed_made, audited_made}
use Rattle.rpc_app.proofs.make.make.Goals as goal

pub returns-in-Idl-clause-made : goal.returns-in-Idl-clause-made
returns-in-Idl-clause-made c = printed_made (shown_by (λ t. t.now) c.args.echo) c.args.command c.args.octets.now c.reprint.result c.in-Idl.is c.reprint.ensures.out c.reprint.ensures.log

pub returns-in-Audit-clause-made : goal.returns-in-Audit-clause-made
returns-in-Audit-clause-made c = audited_made (shown_by (λ t. t.now) c.args.echo) c.args.command c.args.octets.now c.judge.result c.in-Audit.is c.judge.ensures.out c.judge.ensures.log

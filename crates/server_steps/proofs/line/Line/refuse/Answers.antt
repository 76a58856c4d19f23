use Rattle.std.proofs.Common.{rules}
use Rattle.server_steps.proofs.Saying.{refused_so}
use Rattle.server_steps.proofs.line.Line.refuse.Goals as goal

pub put_close-requires : goal.put_close-requires
put_close-requires g c = (search rules, (search rules, (c.requires.turns, c.requires.closing)))

pub returns-clause-stops : goal.returns-clause-stops
returns-clause-stops g c =
    let x = c.requires in
    refused_so g.K.Link.shows (g.M.Manager.may c.args.manager.now) (g.M.Manager.tables c.args.manager.now) c.args._hub.now c.args.self.now c.put_close.new.wire c.args.octets.now c.args.fault c.put_close.result x
    (c.put_close.ensures.halted x.turns x.closing)

use Rattle.rpc_outside.proofs.ScriptLemmas.{passed, next_rest}
use Rattle.rpc_outside.proofs.script.Script.advance.Goals as goal

pub returns-then-self-len-clause-taken : goal.returns-then-self-len-clause-taken
returns-then-self-len-clause-taken c = passed c.self.inside.steps c.self.inside.at c.self.inside.done c.args.self.now c.self.view_is

pub returns-then-self-len-clause-rest : goal.returns-then-self-len-clause-rest
returns-then-self-len-clause-rest c = next_rest c.self.inside.steps c.self.inside.at c.self.inside.done c.args.self.now c.self.view_is

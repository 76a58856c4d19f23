use Rattle.std.proofs.Common.{sym, ◌∙◌}
use Rattle.idl_tokens.proofs.Steps.{only_uuid}
use Rattle.idl_tokens.proofs.lexer.token.Goals as goal

pub returns-in-None : goal.returns-in-None
returns-in-None c = λ before t kind rest h.
    let u = only_uuid before c.args.text.now kind rest (sym t.wants ∙ c.if-context.true) h in c.in-None.ensures u.0 rest u.2

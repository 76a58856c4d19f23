use Rattle.std.proofs.Common.{sym, ◌∙◌, subst}
use Rattle.idl_tokens.specs.Tokens.{Spells}
use Rattle.idl_tokens.proofs.FirstOctets.{begins_none}
use Rattle.idl_tokens.proofs.firsts.first_token.Goals as goal

pub returns-in-None-mark_or_bracket : goal.returns-in-None-mark_or_bracket
returns-in-None-mark_or_bracket c = λ kind rest h.
    begins_none c.args.depth c.in-Some.first.now c.in-Some.after.now (sym c.is_letter.ensures ∙ c.if-is_letter.false) (sym c.is_ascii_digit.ensures.value ∙ c.if-is_ascii_digit.false) c.if-first-eq34.false c.in-None-mark_or_bracket.ensures kind rest
    (subst (λ text. Spells c.args.depth text kind rest) c.in-Some.ensures.cases.0 h)

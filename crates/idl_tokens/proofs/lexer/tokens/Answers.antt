use Rattle.std.proofs.Common.{[], sym, ap, ◌∙◌, subst, arith}
use Rattle.idl_tokens.specs.Contexts.{TellsContext, kinds_behind}
use Rattle.idl_tokens.proofs.Shorter.{BeginsWith-lt, gap-le}
use Rattle.idl_tokens.proofs.Steps.{grows, kinds_behind-push}
use Rattle.idl_tokens.proofs.lexer.tokens.Goals as goal

pub tokens-smaller : goal.tokens-smaller
tokens-smaller c =
    let before = kinds_behind [] c.tokens.tokens.items in
    let s = (rw c.in-More.is at c.in_ok-token.ensures) before c.tokens.invariant.tells in
    omega (arith, gap-le {here = s.0} {text = c.tokens.rest.now} s.1, BeginsWith-lt before s.0 c.in-More.token.kind c.in-More.after.now s.3)

pub tokens-preserved : goal.tokens-preserved
tokens-preserved c =
    let before = kinds_behind [] c.tokens.tokens.items in
    let s = (rw c.in-More.is at c.in_ok-token.ensures) before c.tokens.invariant.tells in
    let pushed = c.in_ok-push-in-More.ensures.items in
    record {
      tells = subst (TellsContext c.behind-context.result) (sym (ap (kinds_behind []) pushed ∙ kinds_behind-push [] c.tokens.tokens.items c.in-More.token)) (c.behind-context.ensures.tells before c.tokens.invariant.tells);
      room = omega (arith, gap-le {here = s.0} {text = c.tokens.rest.now} s.1, BeginsWith-lt before s.0 c.in-More.token.kind c.in-More.after.now s.3);
      cut = grows _ _ _ _ _ _ _ c.in-More.token pushed s.1 s.2 s.3 c.tokens.invariant.cut;
    }

use Rattle.std.proofs.Common.{sym, ◌∙◌}
use Rattle.idl_tokens.proofs.Separators.{blank_of, block_of, line_of, two}
use Rattle.idl_tokens.proofs.gaps.behind_separator.Goals as goal

pub returns-then-is_blank-clause-value : goal.returns-then-is_blank-clause-value
returns-then-is_blank-clause-value c =
    blank_of _ _ _ c.in_ok-first.ensures.cases.0 (sym c.if-is_blank.true ∙ c.is_blank.ensures)

pub returns-in-42-clause-value : goal.returns-in-42-clause-value
returns-in-42-clause-value c =
    block_of _ _ _ (two c.in_ok-first.ensures.cases.0 c.in_ok-second.ensures.cases.0 c.if-first-ne47.false c.in-42.is) c.behind_comment.ensures.value

pub returns-in-47-clause-value : goal.returns-in-47-clause-value
returns-in-47-clause-value c =
    line_of _ _ _ (two c.in_ok-first.ensures.cases.0 c.in_ok-second.ensures.cases.0 c.if-first-ne47.false c.in-47.is) c.cut.ensures.behind

use Rattle.std.proofs.Common.{arith}
use Rattle.idl_tokens.specs.Tokens.Gap.{none, more}
use Rattle.idl_tokens.proofs.gaps.behind_gap.Goals as goal

pub separators-preserved : goal.separators-preserved
separators-preserved c = record { gap = λ rest g. c.separators.invariant.gap rest (more c.in-Some.ensures.value g); within = omega (arith, c.in-Some.ensures.shorter) }

pub returns-clause-gap : goal.returns-clause-gap
returns-clause-gap c = c.separators.invariant.gap _ none

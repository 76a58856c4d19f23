use Rattle.std.proofs.Common.{sym, subst}
use Rattle.idl_tokens.specs.Runs.{radix_of}
use Rattle.std.specs.Str.Parse.{AllDigits}
use Rattle.idl_tokens.proofs.Digits.{AllDigits-front}
use Rattle.idl_tokens.proofs.numbers.numeral.Goals as goal

pub value-requires-clause-each : goal.value-requires-clause-each
value-requires-clause-each c = subst (AllDigits (radix_of c.args.radix)) (sym c.cut.ensures.front) (AllDigits-front (radix_of c.args.radix) c.args.text.now)

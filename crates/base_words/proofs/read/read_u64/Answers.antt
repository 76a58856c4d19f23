use Rattle.std.proofs.Common.{sym, ◌∙◌}
use Rattle.std.proofs.lemmas.Bool.{false≢true}
use Rattle.base_words.proofs.Decimals.{begins, IsUtf8-decimal, read_parsed}
use Rattle.base_words.proofs.read.read_u64.Goals as goal

pub returns-then-not-begins_as_decimal : goal.returns-then-not-begins_as_decimal
returns-then-not-begins_as_decimal c = λ n small e.
    let front = begins n c.args.text.now small e in
    false≢true (sym c.if-not-begins_as_decimal.true ∙ c.begins_as_decimal.ensures.1 front)

pub returns-in_default : goal.returns-in_default
returns-in_default c = λ n small e. c.in_default.ensures.cases.0 (IsUtf8-decimal n c.args.text.now small e)

pub returns : goal.returns
returns c =
    let front = c.begins_as_decimal.ensures.0 c.if-not-begins_as_decimal.false in
    rw c.in-Ok.ensures.cases.0 at (read_parsed c.in-Ok.digits.now c.parse.result c.ok.result c.parse.ensures.value.0 (rw c.in-Ok.ensures.cases.0 front.0) (rw c.in-Ok.ensures.cases.0 front.1) c.ok.ensures.value)

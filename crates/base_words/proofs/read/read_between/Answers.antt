use Rattle.std.proofs.Common.{sym, ◌∙◌, arith}
use Rattle.std.proofs.lemmas.Fmt.{decimal_injective}
use Rattle.base_words.proofs.read.read_between.Goals as goal

pub returns-else-least-number : goal.returns-else-least-number
returns-else-least-number c = λ n fits e.
    let found = c.in_ok-number.ensures in
    let same = decimal_injective n c.in_ok-number.number (omega arith) found.0 (e ∙ sym found.1) in
    omega arith

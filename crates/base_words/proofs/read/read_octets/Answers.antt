use Rattle.std.proofs.Common.{length, sym, ◌∙◌, ap, arith}
use Rattle.std.proofs.lemmas.Bool.{eqb-true}
use Rattle.std.proofs.lemmas.Bool.Decides.{nat_tests}
use Rattle.base_words.proofs.Compares.{differ}
use Rattle.base_words.proofs.Octets.{octets_text-length, word_of_hex}
use Rattle.base_words.proofs.read.read_octets.Goals as goal

pub returns-then-is_empty : goal.returns-then-is_empty
returns-then-is_empty c = λ xs bytes e.
    let none = eqb-true (length c.args.text.now) 0 (sym c.is_empty.ensures ∙ c.if-is_empty.true) in
    omega (arith, octets_text-length xs, ap length e)

pub returns-else-is_empty : goal.returns-else-is_empty
returns-else-is_empty c =
    word_of_hex c.args.text.now c.read_hex.result (grind (arith, nat_tests)) (λ same. differ c.args.text.now c.as_slice.result.now c.eq.result c.eq.ensures c.if-eq.false (same ∙ sym c.as_slice.ensures)) c.read_hex.ensures

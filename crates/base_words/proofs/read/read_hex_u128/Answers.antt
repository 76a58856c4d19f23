use Rattle.std.proofs.Common.{◌∙◌, sym, arith}
use Rattle.base_words.proofs.Wide.{halves, joined, rest_of}
use Rattle.base_words.proofs.read.read_hex_u128.Goals as goal

pub returns-then-text-ne32 : goal.returns-then-text-ne32
returns-then-text-ne32 c = λ n small e. let h = halves n c.args.text.now e in c.if-text-ne32.true h.long

pub returns-in_err-high : goal.returns-in_err-high
returns-in_err-high c = rw c.from_residual.ensures (λ n small e.
    let h = halves n c.args.text.now e in
    c.in_err-high.ensures _ (omega arith) h.high)

pub returns-in_err-low : goal.returns-in_err-low
returns-in_err-low c = rw c.from_residual-in_err-low.ensures (λ n small e.
    let h = halves n c.args.text.now e in
    c.in_err-low.ensures _ (omega arith) (h.low ∙ sym (rest_of c.args.text.now)))

pub returns : goal.returns
returns c =
    let high = c.in_ok-high.ensures in
    let low = c.in_ok-low.ensures in
    (omega (arith, high.0, low.0), joined c.in_ok-high.high c.in_ok-low.low c.args.text.now low.0 high.1 (low.1 ∙ rest_of c.args.text.now))

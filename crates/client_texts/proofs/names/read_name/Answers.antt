use Rattle.std.proofs.Common.{◌≡◌, ◌++◌, refl, sym, ◌∙◌, decimal}
use Rattle.client_texts.specs.Handles as spec
use Rattle.client_texts.proofs.Apart.{comes_by, no_other}
use Rattle.client_texts.proofs.Lacks.{tail_is}
use Rattle.client_texts.proofs.names.read_name.Goals as goal

pub returns-in_err-wire-clause-found : goal.returns-in_err-wire-clause-found
returns-in_err-wire-clause-found c =
    rw c.from_residual-in_err-wire.ensures (λ w rest e stops has.
    let came = comes_by c.args.known.now c.in_err-wire.ensures.few (spec.is_null w) w rest c.args.text.now refl c.in_default.ensures e in
    let digits = c.cut_digits.ensures in
    let behind : decimal (spec.place c.args.known.now w) ++ rest ≡ c.in_ok-behind.field-0.now = tail_is 104 104 (decimal (spec.place c.args.known.now w) ++ rest) c.in_ok-behind.field-0.now (sym came.1 ∙ c.in_ok-behind.ensures) in
    c.in_err-wire.ensures.found w came.0 has
    (no_other c.args.known.now c.in_err-wire.ensures.few w rest c.cut_digits.result.1.now c.cut_digits.result.0.now c.in_ok-behind.field-0.now came.0 has stops digits.behind digits.digits (sym behind) digits.text))

use Rattle.std.proofs.Common.{◌≡◌, ◌↔◌, ◌∙◌, IfOk, IsTrue, sym, ap, subst, true}
use Rattle.ndr_value.specs.Values.{msg}
use Rattle.ndr_table.specs.Shown.{shown}
use Rattle.manager_api.specs.Answers.{ans}
use Rattle.manager_api.specs.declared.answer.Answer.{Answer}
use Rattle.manager_api.specs.Calls.{has_kepts, uses_at}
use Rattle.desk_text.specs.Suited as spec
use Rattle.desk_text.proofs.Suiting.{out_suits}
use Rattle.desk_text.proofs.suited.suits.Goals as goal

pub returns-else-not-suit_handles : goal.returns-else-not-suit_handles
returns-else-not-suit_handles c =
    let t = shown c.args.table.now in
    let has : has_kepts (uses_at t c.args.op) c.in-Out.kepts ≡ true = ap (has_kepts (uses_at t c.args.op)) (sym c.as_slice.ensures) ∙ sym c.suit_handles.ensures ∙ c.if-not-suit_handles.false in
    subst (λ (a : Answer). IfOk c.is_response.result (λ b. IsTrue b ↔ spec.Suits t c.args.op (msg c.args.asked.now) (ans a))) (sym c.in-Out.is)
    (out_suits t c.args.op (msg c.args.asked.now) (msg c.in-Out.message) c.in-Out.kepts c.is_response.result has c.is_response.ensures)

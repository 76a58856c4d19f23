use Rattle.std.proofs.Common.{◌∙◌}
use Rattle.base_words.proofs.Compares.{agree}
use Rattle.journal_reader.proofs.Words.{accept_alone, take_alone, deny_alone, end_alone}
use Rattle.journal_reader.proofs.entries.entry_of.Goals as goal

pub returns-in_default : goal.returns-in_default
returns-in_default c = λ l fits e.
    let name = agree c.args.name.now c.as_slice-else-eq.result.now c.eq-else-eq.result c.eq-else-eq.ensures c.if-eq-2.true in
    let none = rw c.in_default.is at c.in_ok-call.ensures in
    accept_alone l c.args.name.now c.args.rest.now fits (name ∙ c.as_slice-else-eq.ensures) e none

pub returns-in_default-2 : goal.returns-in_default-2
returns-in_default-2 c = λ l fits e.
    let name = agree c.args.name.now c.as_slice-else-eq-2.result.now c.eq-else-eq-2.result c.eq-else-eq-2.ensures c.if-eq-3.true in
    let none = rw c.in_default-2.is at c.in_ok-call-2.ensures in
    take_alone l c.args.name.now c.args.rest.now fits (name ∙ c.as_slice-else-eq-2.ensures) e none

pub returns-in_default-read_deny : goal.returns-in_default-read_deny
returns-in_default-read_deny c = λ l fits e.
    let name = agree c.args.name.now c.as_slice-else-eq-3.result.now c.eq-else-eq-3.result c.eq-else-eq-3.ensures c.if-eq-4.true in
    deny_alone l c.args.name.now c.args.rest.now fits (name ∙ c.as_slice-else-eq-3.ensures) e c.in_default-read_deny.ensures

pub returns-in_default-3 : goal.returns-in_default-3
returns-in_default-3 c = λ l fits e.
    let name = agree c.args.name.now c.as_slice-else-eq-6.result.now c.eq-else-eq-6.result c.eq-else-eq-6.ensures c.if-eq-7.true in
    let none = rw c.in_default-3.is at c.in_ok-call-3.ensures in
    end_alone l c.args.name.now c.args.rest.now fits (name ∙ c.as_slice-else-eq-6.ensures) e none

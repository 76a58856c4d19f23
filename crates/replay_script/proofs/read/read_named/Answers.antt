use Rattle.std.proofs.Common.{◌∙◌}
use Rattle.base_words.proofs.Compares.{agree}
use Rattle.replay_script.proofs.Fronts.{send_alone}
use Rattle.replay_script.proofs.read.read_named.Goals as goal

pub returns-in_default : goal.returns-in_default
returns-in_default c = λ l fits e.
    let name = agree c.args.name.now c.as_slice-else-eq-2.result.now c.eq-else-eq-2.result c.eq-else-eq-2.ensures c.if-eq-3.true in
    let none = rw c.in_default.is at c.in_ok-connection.ensures in
    send_alone l c.args.name.now c.args.rest.now fits (name ∙ c.as_slice-else-eq-2.ensures) e (λ number octets p q f. none (number, octets) (p, q) f)

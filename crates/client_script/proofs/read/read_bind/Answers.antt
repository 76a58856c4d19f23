use Rattle.std.proofs.Common.{◌∙◌}
use Rattle.client_script.specs.Lines.{group_text}
use Rattle.client_script.proofs.Parts.{no_number, number_of_cut}
use Rattle.client_script.proofs.read.read_bind.Goals as goal

pub returns-in_err-connection : goal.returns-in_err-connection
returns-in_err-connection c = rw c.from_residual.ensures (λ x fits e. no_number x.0 (group_text x.1) c.args.text.now c.in_err-connection.ensures e)

pub returns-in_err-connection-2 : goal.returns-in_err-connection-2
returns-in_err-connection-2 c = rw c.from_residual-in_err-connection-2.ensures (λ x fits e.
    let cut = c.in_ok-connection.ensures in
    let parts = number_of_cut x.0 (group_text x.1) c.in_ok-connection.connection.now c.in_ok-connection.group.now fits.0 cut.1 (e ∙ cut.0) in
    c.in_err-connection-2.ensures x.0 fits.0 parts.0)

pub returns-in_err-group : goal.returns-in_err-group
returns-in_err-group c = rw c.from_residual-in_err-group.ensures (λ x fits e.
    let cut = c.in_ok-connection.ensures in
    let parts = number_of_cut x.0 (group_text x.1) c.in_ok-connection.connection.now c.in_ok-connection.group.now fits.0 cut.1 (e ∙ cut.0) in
    c.in_err-group.ensures x.1 fits.1 parts.1)

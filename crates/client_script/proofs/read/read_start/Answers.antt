use Rattle.std.proofs.Common.{◌++◌, ◌∷◌, ◌∙◌, sym}
use Rattle.base_words.proofs.Cuts.{no_cut}
use Rattle.client_script.proofs.Parts.{no_number, number_of_cut}
use Rattle.client_script.proofs.read.read_start.Goals as goal

pub returns-in_err-connection : goal.returns-in_err-connection
returns-in_err-connection c = rw c.from_residual.ensures (λ k name values fits e. no_number k (name ++ (32 ∷ values)) c.args.text.now c.in_err-connection.ensures e)

pub returns-in_err-connection-2 : goal.returns-in_err-connection-2
returns-in_err-connection-2 c = rw c.from_residual-in_err-connection-2.ensures (λ k name values fits e.
    let cut = c.in_ok-connection.ensures in
    let parts = number_of_cut k (name ++ (32 ∷ values)) c.in_ok-connection.connection.now c.in_ok-connection.rest.now fits.0 cut.1 (e ∙ cut.0) in
    c.in_err-connection-2.ensures k fits.0 parts.0)

pub returns-in_err-name : goal.returns-in_err-name
returns-in_err-name c = rw c.from_residual-in_err-name.ensures (λ k name values fits e.
    let cut = c.in_ok-connection.ensures in
    let parts = number_of_cut k (name ++ (32 ∷ values)) c.in_ok-connection.connection.now c.in_ok-connection.rest.now fits.0 cut.1 (e ∙ cut.0) in
    no_cut 32 name values c.in_ok-connection.rest.now c.in_err-name.ensures (sym parts.1))

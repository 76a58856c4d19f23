use Rattle.std.proofs.Common.{sym, ◌∙◌, decimal}
use Rattle.base_words.specs.Words.{octets_text}
use Rattle.base_words.proofs.Cuts.{no_cut}
use Rattle.replay_script.proofs.Fronts.{arrival_of_cut}
use Rattle.replay_script.proofs.read.read_arrival.Goals as goal

pub returns-in_default : goal.returns-in_default
returns-in_default c = λ x fits e.
    no_cut 32 (decimal x.0) (octets_text x.1) c.args.text.now c.in_default.ensures (sym e)

pub returns-in_default-read_connection : goal.returns-in_default-read_connection
returns-in_default-read_connection c = λ x fits e.
    let cut = c.in-Some.ensures in
    let parts = arrival_of_cut x.0 x.1 c.in-Some.connection.now c.in-Some.octets.now fits.0 cut.1 (e ∙ cut.0) in
    c.in_default-read_connection.ensures x.0 fits.0 parts.0

pub returns-in_default-2 : goal.returns-in_default-2
returns-in_default-2 c = λ x fits e.
    let cut = c.in-Some.ensures in
    let parts = arrival_of_cut x.0 x.1 c.in-Some.connection.now c.in-Some.octets.now fits.0 cut.1 (e ∙ cut.0) in
    let none = rw c.in_default-2.is at c.in_ok-octets.ensures in
    none x.1 fits.1 parts.1

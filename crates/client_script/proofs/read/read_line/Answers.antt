use Rattle.client_script.proofs.Parts.{no_parts, reads_body}
use Rattle.client_script.proofs.read.read_line.Goals as goal

pub returns-in_default : goal.returns-in_default
returns-in_default c = λ l fits e. no_parts l c.args.body.now c.in_default.ensures e

pub returns : goal.returns
returns c =
    let cut = c.in-Some.ensures in
    reads_body c.args.body.now c.in-Some.name.now c.in-Some.rest.now c.read_named.result cut.0 cut.1 c.read_named.ensures

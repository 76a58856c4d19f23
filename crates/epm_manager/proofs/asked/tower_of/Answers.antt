use Rattle.std.proofs.Common.{rules, sym, refl}
use Rattle.rpc_base.specs.Fields.{IsOctets}
use Rattle.epm_manager.specs.Asked.{tower_of}
use Rattle.epm_manager.proofs.TowerLemmas.{spelled_is, read_none}
use Rattle.epm_manager.proofs.asked.tower_of.Goals as goal

pub returns-in-Ok : goal.returns-in-Ok
returns-in-Ok c = sym (spelled_is c.args.octets.now c.in-Ok.tower c.in-Ok.ensures.found)

pub returns-in-Err : goal.returns-in-Err
returns-in-Err c =
    let fits : IsOctets c.args.octets.now = search rules in
    read_none c.args.octets.now c.in-Err.field-0 (tower_of c.args.octets.now) refl fits c.in-Err.ensures.only

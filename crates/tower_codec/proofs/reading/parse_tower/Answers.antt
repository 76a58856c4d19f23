use Rattle.std.proofs.Common.{rules, ◌≡◌, ◌∙◌, [], Some}
use Rattle.rpc_base.specs.declared.identifiers.Order.TheVariants.{Big, Little}
use Rattle.rpc_base.specs.Fields.{u16_octets}
use Rattle.tower_codec.specs.declared.fault.TowerFault.TheVariants.{Floors}
use Rattle.tower_codec.specs.Towers.{uuid_protocol, rpc_protocol, tcp_protocol}
use Rattle.tower_codec.specs.Departures.{departure, fields_1, fields_2, fields_3, fields_4, fields_5}
use Rattle.tower_codec.proofs.DepartureLaws.{pass_fixed, pass_floor}
use Rattle.tower_codec.proofs.TowerLaws.{pass_number, pass_address, whole_tower, syntax_here}
use Rattle.tower_codec.proofs.reading.parse_tower.Goals as goal

pub returns-in_err-rest-clause-fault : goal.returns-in_err-rest-clause-fault
returns-in_err-rest-clause-fault c =
    let departs_so : departure c.args.octets.now ≡ Some c.in_err-rest.field-0.0 = c.in_err-rest.ensures.err fields_1 in search rules

pub returns-in_err-first-clause-fault : goal.returns-in_err-first-clause-fault
returns-in_err-first-clause-fault c =
    let departs_so : departure c.args.octets.now ≡ Some c.in_err-first.field-0.0 = pass_fixed (u16_octets Little 5) c.in_ok-rest.rest.now c.args.octets.now Floors _ c.in_ok-rest.ensures.ok
    ∙ (c.in_err-first.ensures.err fields_2) in search rules

pub returns-in_err-second-clause-fault : goal.returns-in_err-second-clause-fault
returns-in_err-second-clause-fault c =
    let departs_so : departure c.args.octets.now ≡ Some c.in_err-second.field-0.0 = pass_fixed (u16_octets Little 5) c.in_ok-rest.rest.now c.args.octets.now Floors _ c.in_ok-rest.ensures.ok
    ∙ (pass_floor 1 uuid_protocol 18 2 c.in_ok-first.first.left.now c.in_ok-first.first.right.now c.in_ok-first.first.rest.now c.in_ok-rest.rest.now _ c.in_ok-first.ensures.ok.0 c.in_ok-first.ensures.ok.1 c.in_ok-first.ensures.ok.2
    ∙ (c.in_err-second.ensures.err fields_3)) in search rules

pub returns-in_err-minor-clause-fault : goal.returns-in_err-minor-clause-fault
returns-in_err-minor-clause-fault c =
    let departs_so : departure c.args.octets.now ≡ Some c.in_err-minor.field-0.0 = pass_fixed (u16_octets Little 5) c.in_ok-rest.rest.now c.args.octets.now Floors _ c.in_ok-rest.ensures.ok
    ∙ (pass_floor 1 uuid_protocol 18 2 c.in_ok-first.first.left.now c.in_ok-first.first.right.now c.in_ok-first.first.rest.now c.in_ok-rest.rest.now _ c.in_ok-first.ensures.ok.0 c.in_ok-first.ensures.ok.1 c.in_ok-first.ensures.ok.2
    ∙ (pass_floor 2 uuid_protocol 18 2 c.in_ok-second.second.left.now c.in_ok-second.second.right.now c.in_ok-second.second.rest.now c.in_ok-first.first.rest.now _ c.in_ok-second.ensures.ok.0 c.in_ok-second.ensures.ok.1 c.in_ok-second.ensures.ok.2
    ∙ (c.in_err-minor.ensures.err fields_4))) in search rules

pub returns-in_err-port-clause-fault : goal.returns-in_err-port-clause-fault
returns-in_err-port-clause-fault c =
    let departs_so : departure c.args.octets.now ≡ Some c.in_err-port.field-0.0 = pass_fixed (u16_octets Little 5) c.in_ok-rest.rest.now c.args.octets.now Floors _ c.in_ok-rest.ensures.ok
    ∙ (pass_floor 1 uuid_protocol 18 2 c.in_ok-first.first.left.now c.in_ok-first.first.right.now c.in_ok-first.first.rest.now c.in_ok-rest.rest.now _ c.in_ok-first.ensures.ok.0 c.in_ok-first.ensures.ok.1 c.in_ok-first.ensures.ok.2
    ∙ (pass_floor 2 uuid_protocol 18 2 c.in_ok-second.second.left.now c.in_ok-second.second.right.now c.in_ok-second.second.rest.now c.in_ok-first.first.rest.now _ c.in_ok-second.ensures.ok.0 c.in_ok-second.ensures.ok.1 c.in_ok-second.ensures.ok.2
    ∙ (pass_number 3 rpc_protocol c.in_ok-minor.minor Little c.in_ok-minor.rest.now c.in_ok-second.second.rest.now _ c.in_ok-minor.ensures.ok.1
    ∙ (c.in_err-port.ensures.err fields_5)))) in search rules

pub returns-in_err-ip-clause-fault : goal.returns-in_err-ip-clause-fault
returns-in_err-ip-clause-fault c =
    let departs_so : departure c.args.octets.now ≡ Some c.in_err-ip.field-0.0 = pass_fixed (u16_octets Little 5) c.in_ok-rest.rest.now c.args.octets.now Floors _ c.in_ok-rest.ensures.ok
    ∙ (pass_floor 1 uuid_protocol 18 2 c.in_ok-first.first.left.now c.in_ok-first.first.right.now c.in_ok-first.first.rest.now c.in_ok-rest.rest.now _ c.in_ok-first.ensures.ok.0 c.in_ok-first.ensures.ok.1 c.in_ok-first.ensures.ok.2
    ∙ (pass_floor 2 uuid_protocol 18 2 c.in_ok-second.second.left.now c.in_ok-second.second.right.now c.in_ok-second.second.rest.now c.in_ok-first.first.rest.now _ c.in_ok-second.ensures.ok.0 c.in_ok-second.ensures.ok.1 c.in_ok-second.ensures.ok.2
    ∙ (pass_number 3 rpc_protocol c.in_ok-minor.minor Little c.in_ok-minor.rest.now c.in_ok-second.second.rest.now _ c.in_ok-minor.ensures.ok.1
    ∙ (pass_number 4 tcp_protocol c.in_ok-port.port Big c.in_ok-port.rest.now c.in_ok-minor.rest.now _ c.in_ok-port.ensures.ok.1
    ∙ (c.in_err-ip.ensures.err []))))) in search rules

pub returns-in_err-take_end-clause-fault : goal.returns-in_err-take_end-clause-fault
returns-in_err-take_end-clause-fault c =
    let departs_so : departure c.args.octets.now ≡ Some c.in_err-take_end.field-0.0 = pass_fixed (u16_octets Little 5) c.in_ok-rest.rest.now c.args.octets.now Floors _ c.in_ok-rest.ensures.ok
    ∙ (pass_floor 1 uuid_protocol 18 2 c.in_ok-first.first.left.now c.in_ok-first.first.right.now c.in_ok-first.first.rest.now c.in_ok-rest.rest.now _ c.in_ok-first.ensures.ok.0 c.in_ok-first.ensures.ok.1 c.in_ok-first.ensures.ok.2
    ∙ (pass_floor 2 uuid_protocol 18 2 c.in_ok-second.second.left.now c.in_ok-second.second.right.now c.in_ok-second.second.rest.now c.in_ok-first.first.rest.now _ c.in_ok-second.ensures.ok.0 c.in_ok-second.ensures.ok.1 c.in_ok-second.ensures.ok.2
    ∙ (pass_number 3 rpc_protocol c.in_ok-minor.minor Little c.in_ok-minor.rest.now c.in_ok-second.second.rest.now _ c.in_ok-minor.ensures.ok.1
    ∙ (pass_number 4 tcp_protocol c.in_ok-port.port Big c.in_ok-port.rest.now c.in_ok-minor.rest.now _ c.in_ok-port.ensures.ok.1
    ∙ (pass_address 5 c.in_ok-ip.ip c.in_ok-ip.rest.now c.in_ok-port.rest.now [] c.in_ok-ip.ensures.ok.0 c.in_ok-ip.ensures.ok.1
    ∙ (c.in_err-take_end.ensures.err)))))) in search rules

pub returns-clause-found : goal.returns-clause-found
returns-clause-found c = record {
  fits = record {
    iface = c.read_syntax.ensures.fits;
    transfer = c.read_syntax-2.ensures.fits;
    minor = c.in_ok-minor.ensures.ok.0;
    port = c.in_ok-port.ensures.ok.0;
    ip = c.in_ok-ip.ensures.ok.0;
  };
  spelled = whole_tower _ c.args.octets.now c.in_ok-rest.rest.now c.in_ok-first.first.rest.now c.in_ok-second.second.rest.now c.in_ok-minor.rest.now c.in_ok-port.rest.now c.in_ok-ip.rest.now
      c.in_ok-rest.ensures.ok
      (syntax_here c.read_syntax.result c.in_ok-first.first.left.now c.in_ok-first.first.right.now c.in_ok-rest.rest.now c.in_ok-first.first.rest.now c.read_syntax.ensures c.in_ok-first.ensures.ok.2)
      (syntax_here c.read_syntax-2.result c.in_ok-second.second.left.now c.in_ok-second.second.right.now c.in_ok-first.first.rest.now c.in_ok-second.second.rest.now c.read_syntax-2.ensures c.in_ok-second.ensures.ok.2)
      c.in_ok-minor.ensures.ok.1 c.in_ok-port.ensures.ok.1 c.in_ok-ip.ensures.ok.1 c.in_ok-take_end.ensures.ok;
}

use Rattle.std.proofs.Common.{Option, Bor, sym, subst}
use Rattle.ndr_value.specs.Values.{Msg, msg}
use Rattle.ndr_value.specs.declared.value.Message.{Message}
use Rattle.ndr_table.specs.Shown.{shown}
use Rattle.ndr_table.specs.Tables.{op_form}
use Rattle.ndr_model.specs.Message.{read_stub}
use Rattle.ndr_agree.specs.Views.{asked_of}
use Rattle.ndr_model.specs.declared.fault.NdrFault.{NdrFault}
use Rattle.ndr_model.specs.Faults.{IsFault}
use Rattle.ndr_read.specs.Views.{last_of}
use Rattle.ndr_codec.proofs.Decoding.{read_decodes, error_decodes}
use Rattle.ndr_codec.proofs.stub.decode_by.Goals as goal

pub returns-in-Err : goal.returns-in-Err
returns-in-Err c =
    let asked : Option Msg = asked_of {A = Bor Message} (λ m. m.now) c.args.asked in
    subst (λ (f : NdrFault). IsFault f (read_stub (shown c.args.table.now).types (op_form c.args.op.now) c.args.way c.args.order asked c.args.stub.now)) (sym c.unread.ensures)
    (error_decodes (shown c.args.table.now).types (op_form c.args.op.now) c.args.way c.args.order asked c.args.stub.now c.in-Err.error c.in-Err.ensures)

pub returns-in-Ok : goal.returns-in-Ok
returns-in-Ok c =
    let asked : Option Msg = asked_of {A = Bor Message} (λ m. m.now) c.args.asked in
    read_decodes (shown c.args.table.now).types (op_form c.args.op.now) c.args.way c.args.order asked c.args.stub.now (msg c.in-Ok.message, (last_of c.read.new.tail).marks) c.compared.result c.in-Ok.ensures c.compared.ensures

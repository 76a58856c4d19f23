use Rattle.std.proofs.Common.{Option, Bor, arith}
use Rattle.ndr_value.specs.Values.{Msg}
use Rattle.ndr_value.specs.declared.value.Message.{Message}
use Rattle.ndr_table.specs.Shown.{shown}
use Rattle.ndr_agree.specs.Views.{asked_of}
use Rattle.ndr_codec.proofs.Decoding.{found_all, of_op_all, stub_decoded, cause_all}
use Rattle.ndr_codec.proofs.stub.decode.Goals as goal

pub returns-clause-found : goal.returns-clause-found
returns-clause-found c =
    let asked : Option Msg = asked_of {A = Bor Message} (λ m. m.now) c.args.asked in
    found_all (shown c.args.table.now).types (shown c.args.table.now).ops c.args.op c.args.way c.args.order asked c.args.stub.now c.decode_at.result c.decode_at.ensures

pub returns-clause-only : goal.returns-clause-only
returns-clause-only c = λ o m is s.
    let asked : Option Msg = asked_of {A = Bor Message} (λ n. n.now) c.args.asked in
    stub_decoded (shown c.args.table.now).types o c.args.way c.args.order asked c.args.stub.now c.decode_at.result m
    (record { ops = (shown c.args.table.now).ops; uses = (shown c.args.table.now).uses; number = c.args.op; table = c.is_whole.ensures; shallow = c.is_shallow.ensures; is = is }) s (c.decode_at.ensures o is)

pub returns-clause-of_op : goal.returns-clause-of_op
returns-clause-of_op c =
    let asked : Option Msg = asked_of {A = Bor Message} (λ m. m.now) c.args.asked in
    of_op_all (shown c.args.table.now).types (shown c.args.table.now).ops c.args.op c.args.way c.args.order asked c.args.stub.now c.decode_at.result (λ i. omega (arith, c.type_inv.stub i)) c.decode_at.ensures

pub returns-clause-cause : goal.returns-clause-cause
returns-clause-cause c =
    let asked : Option Msg = asked_of {A = Bor Message} (λ m. m.now) c.args.asked in
    let t = shown c.args.table.now in
    cause_all t.types t.ops c.args.op c.args.way c.args.order asked c.args.stub.now c.decode_at.result
    (λ o is. record { is = record { ops = t.ops; uses = t.uses; number = c.args.op; table = c.is_whole.ensures; shallow = c.is_shallow.ensures; is = is }; sound = c.is_sound.ensures }) c.decode_at.ensures

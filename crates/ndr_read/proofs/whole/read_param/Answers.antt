use Rattle.std.proofs.Common.{◌≡◌, ◌∙◌, Bool, true, Ok, sym, ap, subst, arith}
use Rattle.std.proofs.lemmas.Grind.{common_steps}
use Rattle.ndr_value.specs.Forms.{Form}
use Rattle.ndr_value.specs.Values.{Vals, val, vals, no_val, then_val}
use Rattle.ndr_table.specs.Tables.{param_form}
use Rattle.ndr_arrays.specs.Bind.{◌>>=◌}
use Rattle.ndr_model.specs.Stub.{goes, param_entry}
use Rattle.ndr_model.specs.Build.{Found}
use Rattle.ndr_model.specs.Places.{Last}
use Rattle.ndr_model.specs.Message.{enough}
use Rattle.ndr_read.specs.Readings.{join, Followed, entry_at, param_at}
use Rattle.ndr_pointers.specs.Views.{types_in}
use Rattle.ndr_read.specs.Views.{last_of}
use Rattle.ndr_read.proofs.Rows.{vals_push}
use Rattle.ndr_read.proofs.whole.read_param.Goals as goal

abbrev as_row : Vals → Last → Followed
as_row vs q = Ok (vs, q)

pub returns : goal.returns
returns c =
    let p = param_form c.args.param.now in
    let front = vals c.args.values.now.items in
    let v = val c.in_ok-value.value in
    let q = last_of c.read_entry.new.tail in
    let g : goes c.args.way p ≡ true = grind (arith, common_steps, c.if-not-goes.false, c.goes.ensures) in
    let e : entry_at (types_in c.args.reader.now) c.args.reader.now.order c.args.reader.now.octets.now enough (param_entry p) (last_of c.args.tail.now) ≡ Ok (v, q) =
    subst (λ (s : Form). entry_at (types_in c.args.reader.now) c.args.reader.now.order c.args.reader.now.octets.now enough (record { shape = s; range = p.range }) (last_of c.args.tail.now) ≡ Ok (v, q)) c.in_place.ensures c.in_ok-value.ensures in
    let pushed : vals c.push.new.self.items ≡ join front (then_val v no_val) = ap vals c.in_ok-push.ensures.items ∙ vals_push c.args.values.now.items c.in_ok-value.value in
    ap (λ (b : Bool). param_at (types_in c.args.reader.now) c.args.reader.now.order c.args.reader.now.octets.now enough b (param_entry p) front (last_of c.args.tail.now)) g
    ∙ ap (λ (r : Found). r >>= λ x. as_row (join front (then_val x.0 no_val)) x.1) e
    ∙ ap (λ (vs : Vals). as_row vs q) (sym pushed)

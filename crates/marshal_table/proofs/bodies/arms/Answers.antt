use Rattle.marshal_table.specs.Bodies as spec
use Rattle.marshal_table.proofs.Rows.{faces_more}
use Rattle.marshal_table.proofs.bodies.arms.Goals as goal

pub loop-field-preserved : goal.loop-field-preserved
loop-field-preserved c =
    faces_more (spec.face c.args.names.now) c.loop-field.all.items c.push.new.self.items c.in_ok-arm_of.field-0 c.field-item.result c.args.fields.now c.loop-field.field-index
    c.loop-field-test.true c.field-item.is c.in_ok-push.ensures.items c.in_ok-arm_of.ensures c.loop-field.invariant

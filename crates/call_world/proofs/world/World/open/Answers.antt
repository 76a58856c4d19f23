use Rattle.std.proofs.Common.{List, sym, ap, ◌∙◌}
use Rattle.std.specs.Prelude.{position}
use Rattle.call_world.specs.declared.line.Line.{Line as Wire}
use Rattle.call_world.specs.Rows.{is_named}
use Rattle.call_world.proofs.Places.{some_named}
use Rattle.call_world.proofs.Moving.{named_already}
use Rattle.call_world.proofs.world.World.open.Goals as goal

pub returns-in-Some : goal.returns-in-Some
returns-in-Some c =
    let r = some_named c.as_slice.result.now c.args.self.now.lines.items c.args.name c.in-Some.field-0 c.as_slice.ensures.value c.in-Some.ensures in
    named_already c.args.self.now c.args.self.now c.args.name c.args.group c.in-Some.field-0 r.0 r.1 r.2

pub open_new-requires-clause-fresh : goal.open_new-requires-clause-fresh
open_new-requires-clause-fresh c = sym (c.in-None.ensures ∙ ap (λ (ts : List Wire). position (is_named c.args.name) ts) c.as_slice.ensures.value)

use Rattle.std.proofs.Common.{List, sym, ap, ◌∙◌}
use Rattle.std.specs.Prelude.{position}
use Rattle.ndr_value.specs.Values.{msg}
use Rattle.call_world.specs.declared.line.Line.{Line as Wire}
use Rattle.call_world.specs.Rows.{stands_as}
use Rattle.call_world.proofs.Places.{none_found}
use Rattle.call_world.proofs.Moving.{none_starts}
use Rattle.call_world.proofs.world.World.start.Goals as goal

pub returns-in-None : goal.returns-in-None
returns-in-None c =
    none_starts c.args.self.now c.args.self.now c.args.name c.args.op (msg c.args.message.now) (none_found c.as_slice.result.now c.args.self.now.lines.items c.args.name c.as_slice.ensures.value c.in-None.ensures)

pub start_at-requires-clause-found : goal.start_at-requires-clause-found
start_at-requires-clause-found c = sym (c.in-Some.ensures ∙ ap (λ (ts : List Wire). position (stands_as c.args.name) ts) c.as_slice.ensures.value)

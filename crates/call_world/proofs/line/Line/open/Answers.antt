use Rattle.std.proofs.Common.{map, refl, sym, ap, ◌∙◌}
use Rattle.ndr_table.specs.Shown.{shown}
use Rattle.ndr_table.specs.Tables.{TableForm}
use Rattle.client_core.specs.States.{at_start, is_bound}
use Rattle.world_laws.specs.Ends.{new_server}
use Rattle.call_world.proofs.Lines.{opened_is}
use Rattle.call_world.proofs.line.Line.open.Goals as goal

pub bind-requires : goal.bind-requires
bind-requires c = ap is_bound c.new-caller.ensures.state

pub returns : goal.returns
returns c =
    opened_is (shown c.args.table.now) c.args.name c.args.group _ c.new-caller.result c.in_ok-octets.octets c.in_ok-ids.ids (c.new-caller.ensures.state ∙ ap at_start c.in_ok-copy.ensures) c.new-caller.ensures.rest c.new-caller.ensures.fates
    c.in_ok-octets.ensures.binds c.in_ok-octets.ensures.same c.into_vec.ensures (c.in_ok-ids.ensures.exact ∙ ap (map (λ (t : TableForm). t.id)) (c.served.ensures ∙ c.requires)) (λ l e d. c.in_ok-serving.ensures l (e ∙ ap new_server (sym c.as_slice.ensures)) d) refl refl

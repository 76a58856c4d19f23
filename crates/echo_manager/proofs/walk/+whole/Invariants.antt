use Rattle.std.proofs.Common.{◌≡◌, ◌+◌, ◌*◌, drop, map}
use Rattle.ndr_value.specs.Forms.{types_of}
use Rattle.ndr_value.specs.Values.{vals}
use Rattle.echo_manager.specs.Met as spec
use Rattle.echo_manager.specs.Views.{lead_of}
use Rattle.echo_manager.proofs.walk.+whole.Given as goal

abbrev pub decreases-whole : goal.decreases-whole
decreases-whole l = 4 * l.levels

abbrev pub decreases-each_behind : goal.decreases-each_behind
decreases-each_behind l = 4 * l.levels + 1

abbrev pub decreases-whole_value : goal.decreases-whole_value
decreases-whole_value l = 4 * l.levels + 2

abbrev pub decreases-whole_item : goal.decreases-whole_item
decreases-whole_item l = 4 * l.levels + 3

abbrev pub invariant-each_behind-loop-lead : goal.invariant-each_behind-loop-lead
invariant-each_behind-loop-lead l =
    let all = spec.each_behind (types_of l.walk.types.now) (spec.whole (types_of l.walk.types.now) (vals l.walk.heap.now) l.levels) in
    all (map lead_of (drop l.lead-index l.behind)) l.met ≡ all (map lead_of l.behind) l.initial.met

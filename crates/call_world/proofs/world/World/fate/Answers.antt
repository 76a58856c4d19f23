use Rattle.std.proofs.Common.{ℕ, List, Option, ap, ◌∙◌}
use Rattle.std.specs.Prelude.{slice_get}
use Rattle.world_laws.specs.Ends.{number_in}
use Rattle.call_world.proofs.Telling.{read_at, read_none, has_line, has_fate, fate_is}
use Rattle.call_world.proofs.world.World.fate.Goals as goal

pub returns-in_err-line : goal.returns-in_err-line
returns-in_err-line c w is =
    let x = c.args.self.now in
    let p = c.in_ok-started.started.now in
    let begun = read_at c.deref.result.now x.starts.items c.args.at p c.deref.ensures.value c.in_ok-started.ensures.lookup.3.0 c.in_ok-started.ensures.lookup.1 in
    absurd (has_line x w c.args.at p is begun (read_none c.deref-2.result.now x.lines.items p.line c.deref-2.ensures.value c.in_err-line.ensures.lookup.3))

pub returns-in_err-fate : goal.returns-in_err-fate
returns-in_err-fate c w is =
    let x = c.args.self.now in
    let p = c.in_ok-started.started.now in
    let t = c.in_ok-line.line.now in
    let begun = read_at c.deref.result.now x.starts.items c.args.at p c.deref.ensures.value c.in_ok-started.ensures.lookup.3.0 c.in_ok-started.ensures.lookup.1 in
    let on = read_at c.deref-2.result.now x.lines.items p.line t c.deref-2.ensures.value c.in_ok-line.ensures.lookup.3.0 c.in_ok-line.ensures.lookup.1 in
    absurd (has_fate x w c.args.at p t is begun on (read_none c.deref-3.result.now t.caller.fates.items p.place c.deref-3.ensures.value c.in_err-fate.ensures.lookup.3))

pub returns : goal.returns
returns c w is =
    let x = c.args.self.now in
    let p = c.in_ok-started.started.now in
    let t = c.in_ok-line.line.now in
    let f = c.in_ok-fate.fate.now in
    let begun = read_at c.deref.result.now x.starts.items c.args.at p c.deref.ensures.value c.in_ok-started.ensures.lookup.3.0 c.in_ok-started.ensures.lookup.1 in
    let on = read_at c.deref-2.result.now x.lines.items p.line t c.deref-2.ensures.value c.in_ok-line.ensures.lookup.3.0 c.in_ok-line.ensures.lookup.1 in
    let known = read_at c.deref-3.result.now t.caller.fates.items p.place f c.deref-3.ensures.value c.in_ok-fate.ensures.lookup.3.0 c.in_ok-fate.ensures.lookup.1 in
    fate_is x w c.args.at p t f c.number_at-call.result is begun on known (c.number_at-call.ensures ∙ ap (λ (ns : List (Option ℕ)). number_in (slice_get ns p.place)) c.as_slice.ensures.value)

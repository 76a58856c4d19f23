use Rattle.std.proofs.Common.{◌∙◌, ◌<◌, List, Bool, length, reverse, refl, sym, ap, subst, arith}
use Rattle.std.proofs.lemmas.List.{reverse-reverse}
use Rattle.ndr_table.specs.Shown.{shown}
use Rattle.call_world.specs.declared.moves.Move.{Move as Step}
use Rattle.call_world.specs.Moves.{move_of}
use Rattle.call_world.specs.Worlds.{Tries}
use Rattle.call_world.proofs.Playing.{world_ready}
use Rattle.call_world.proofs.Runs.{Midway, begun, goes_on, stops, next_left, few_played, none_left, all_played}
use Rattle.call_world.proofs.play.play_on.Goals as goal

pub loop-step-init : goal.loop-step-init
loop-step-init c =
    let table = shown c.args.world.table in
    let same = ap reverse c.reverse.ensures.items ∙ reverse-reverse c.args.moves.items in
    subst (λ (left : List Step). Midway table c.args.moves.items left 0 c.args.world) (sym same) (begun table c.args.moves.items c.args.world refl c.requires)

pub play-requires : goal.play-requires
play-requires c = world_ready c.loop-step.world c.loop-step.invariant.world c.loop-step.invariant.is

pub overflow_add-place : goal.overflow_add-place
overflow_add-place c =
    let table = shown c.args.world.table in
    let rest = reverse c.pop.new.self.items in
    let all = c.args.moves.items in
    let midway = subst (λ (left : List Step). Midway table all left c.loop-step.place c.loop-step.world) (next_left c.loop-step.left.items c.pop.new.self.items c.in-Some.step c.in-Some.ensures.items) c.loop-step.invariant in
    let few : c.loop-step.place < length all = few_played table all rest c.loop-step.place c.loop-step.world c.in-Some.step midway in
    omega (arith, few, c.args.moves.ok.0)

pub loop-step-preserved : goal.loop-step-preserved
loop-step-preserved c =
    let table = shown c.args.world.table in
    let rest = reverse c.pop.new.self.items in
    let all = c.args.moves.items in
    let midway = subst (λ (left : List Step). Midway table all left c.loop-step.place c.loop-step.world) (next_left c.loop-step.left.items c.pop.new.self.items c.in-Some.step c.in-Some.ensures.items) c.loop-step.invariant in
    goes_on table all rest c.loop-step.place c.loop-step.world c.play.new.self c.in-Some.step midway
    (subst (λ (b : Bool). Tries (move_of c.in-Some.step) b c.loop-step.world c.play.new.self) c.in-Ok-true.field-0-test c.in-Ok-true.ensures)

pub returns-in-Ok-false-clause-stops : goal.returns-in-Ok-false-clause-stops
returns-in-Ok-false-clause-stops c =
    let table = shown c.args.world.table in
    let rest = reverse c.pop.new.self.items in
    let all = c.args.moves.items in
    let midway = subst (λ (left : List Step). Midway table all left c.loop-step.place c.loop-step.world) (next_left c.loop-step.left.items c.pop.new.self.items c.in-Some.step c.in-Some.ensures.items) c.loop-step.invariant in
    stops table all rest c.loop-step.place c.loop-step.world c.play.new.self c.in-Some.step midway
    (subst (λ (b : Bool). Tries (move_of c.in-Some.step) b c.loop-step.world c.play.new.self) c.in-Ok-false.field-0-test c.in-Ok-false.ensures)

pub returns-clause-played : goal.returns-clause-played
returns-clause-played c =
    let table = shown c.args.world.table in
    let all = c.args.moves.items in
    let none = none_left c.loop-step.left.items (omega (arith, c.in_default.ensures.cases.0, c.loop-step.left.ok.0)) in
    all_played table all c.loop-step.place c.loop-step.world (subst (λ (left : List Step). Midway table all left c.loop-step.place c.loop-step.world) none c.loop-step.invariant)

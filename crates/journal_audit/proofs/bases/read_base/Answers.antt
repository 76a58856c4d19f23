use Rattle.std.proofs.Common.{refl, sym, subst, arith}
use Rattle.handle_model.specs.declared.entry.Home.{Home}
use Rattle.journal_audit.specs.SoFar.{with_call, IsSoundSoFar}
use Rattle.journal_audit.proofs.Read.{base_shorter, call_shorter, based_start, based_more, call_departs}
use Rattle.journal_audit.proofs.bases.read_base.Goals as goal

pub overflow_add-result : goal.overflow_add-result
overflow_add-result c =
    let found = rw c.in-Some.is at c.in_ok-base.ensures in
    let short = base_shorter c.in-Some.base c.in-Some.after.now c.args.text.now found.1 in
    let room = c.requires in omega arith

pub overflow_add-now : goal.overflow_add-now
overflow_add-now c =
    let found = rw c.in-Some.is at c.in_ok-base.ensures in
    let short = base_shorter c.in-Some.base c.in-Some.after.now c.args.text.now found.1 in
    let room = c.requires in omega arith

pub of-requires-clause-sound : goal.of-requires-clause-sound
of-requires-clause-sound c = c.is_sound_head.ensures.0 c.if-not-is_sound_head.false

pub of-requires-clause-none : goal.of-requires-clause-none
of-requires-clause-none c = let found = rw c.in-Some.is at c.in_ok-base.ensures in found.0.6

pub loop-growing-init : goal.loop-growing-init
loop-growing-init c =
    let found = rw c.in-Some.is at c.in_ok-base.ensures in
    let sound = c.is_sound_head.ensures.0 c.if-not-is_sound_head.false in
    rw c.in_ok-growing.ensures (based_start c.args.home c.args.line c.args.text.now c.in-Some.base c.in-Some.after.now found sound, refl)

pub goes_on-requires : goal.goes_on-requires
goes_on-requires c =
    subst (λ (h : Home). IsSoundSoFar h c.loop-growing.growing.base) (sym c.loop-growing.invariant.1) c.loop-growing.invariant.0.has.so_far

pub overflow_add-result-then-not-goes_on : goal.overflow_add-result-then-not-goes_on
overflow_add-result-then-not-goes_on c =
    let found = rw c.in-Some-2.is at c.in_ok-call.ensures in
    let short = call_shorter c.in-Some-2.call c.in-Some-2.later.now c.loop-growing.rest.now found.1 in
    let here = c.loop-growing.invariant.0.room in
    let room = c.requires in omega arith

pub returns-then-not-goes_on-clause-exact : goal.returns-then-not-goes_on-clause-exact
returns-then-not-goes_on-clause-exact c =
    let found = rw c.in-Some-2.is at c.in_ok-call.ensures in
    let same = c.loop-growing.invariant.1 in
    let unsound : IsSoundSoFar c.args.home (with_call c.loop-growing.growing.base c.in-Some-2.call) → ⊥ = λ s. let on = c.goes_on.ensures.1 (subst (λ (h : Home). IsSoundSoFar h (with_call c.loop-growing.growing.base c.in-Some-2.call)) (sym same) s) in let off = c.if-not-goes_on.true in cc in
    call_departs c.args.home c.args.line c.args.text.now c.loop-growing.growing.base c.loop-growing.now c.loop-growing.rest.now c.in-Some-2.call c.in-Some-2.later.now c.loop-growing.invariant.0 found unsound

pub with-requires : goal.with-requires
with-requires c = c.goes_on.ensures.0 c.if-not-goes_on.false

pub overflow_add-now-in-Some-2 : goal.overflow_add-now-in-Some-2
overflow_add-now-in-Some-2 c =
    let found = rw c.in-Some-2.is at c.in_ok-call.ensures in
    let short = call_shorter c.in-Some-2.call c.in-Some-2.later.now c.loop-growing.rest.now found.1 in
    let here = c.loop-growing.invariant.0.room in
    let room = c.requires in omega arith

pub loop-growing-smaller : goal.loop-growing-smaller
loop-growing-smaller c =
    let found = rw c.in-Some-2.is at c.in_ok-call.ensures in
    let short = call_shorter c.in-Some-2.call c.in-Some-2.later.now c.loop-growing.rest.now found.1 in omega arith

pub loop-growing-preserved : goal.loop-growing-preserved
loop-growing-preserved c =
    let found = rw c.in-Some-2.is at c.in_ok-call.ensures in
    let same = c.loop-growing.invariant.1 in
    let sound = subst (λ (h : Home). IsSoundSoFar h (with_call c.loop-growing.growing.base c.in-Some-2.call)) same (c.goes_on.ensures.0 c.if-not-goes_on.false) in
    rw c.in_ok-growing-2.ensures (based_more c.args.home c.args.line c.args.text.now c.loop-growing.growing.base c.loop-growing.now c.loop-growing.rest.now c.in-Some-2.call c.in-Some-2.later.now c.loop-growing.invariant.0 found sound, same)

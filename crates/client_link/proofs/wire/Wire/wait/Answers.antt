use Rattle.std.proofs.Common.{Ok, Err, refl, ap, arith}
use Rattle.std.proofs.lemmas.Result.{err_from_is_err_and}
use Rattle.rpc_outside.proofs.LinkLemmas.{counts_then}
use Rattle.client_link.proofs.WireLemmas.{none_yet, goes_quiet, goes_silent, goes_told, goes_wrong, ends_quiet, ends_short, stays_then, rose_more, rose_still}
use Rattle.client_link.proofs.wire.Wire.wait.Goals as goal
use Rattle.client_link.proofs.wire.Wire.wait.Goals.{in-Nothing, in-Quiet+else-quiets-eq-MOST_QUIETS}

pub loop-init : goal.loop-init
loop-init g c = record {
  stays = refl;
  is_open = c.requires.open;
  counts = record { faults = omega arith; quiets = omega arith; ends = omega arith };
  few = omega arith;
  rose = omega arith;
  waited = λ interface events m l. none_yet g.K.Link.shows interface c.args.self.now events m l;
}

pub returns-in_err-told-clause-waits : goal.returns-in_err-told-clause-waits
returns-in_err-told-clause-waits g c =
    let p = err_from_is_err_and c.from_residual.result c.from_residual.ensures.1 in
    rw (p.1, p.2) (λ interface events m l. goes_wrong g.K.Link.shows interface c.loop.self c.look.new.self events (c.loop.invariant.waited interface events m l) (Err c.in_err-told.field-0.0) (c.in_err-told.ensures.looks interface)
    c.args.self.now m c.in_err-told.field-0.0 c.loop.invariant.counts refl)

pub returns-in-Outcome-clause-waits : goal.returns-in-Outcome-clause-waits
returns-in-Outcome-clause-waits g c = λ interface events m l.
    goes_told g.K.Link.shows interface c.loop.self c.look.new.self events (c.loop.invariant.waited interface events m l) (Ok c.in_ok-told.field-0) (c.in_ok-told.ensures.looks interface) c.args.self.now m c.in-Outcome.told
    (ap Ok c.in-Outcome.is)

pub returns-then-quiets-eq-MOST_QUIETS-clause-waits : goal.returns-then-quiets-eq-MOST_QUIETS-clause-waits
returns-then-quiets-eq-MOST_QUIETS-clause-waits g c = λ interface events m l.
    let rose = rw c.in-Quiet.is at c.in_ok-told.ensures.quieter in
    let many = c.if-quiets-eq-MOST_QUIETS.true in
    ends_quiet g.K.Link.shows interface c.loop.self c.look.new.self events (c.loop.invariant.waited interface events m l) (Ok c.in_ok-told.field-0) (c.in_ok-told.ensures.looks interface) c.args.self.now m
    (ap Ok c.in-Quiet.is) (rose_more c.loop.quiets 6000 _ _ _ c.loop.invariant.rose rose (omega arith))

pub loop-preserved : goal.loop-preserved
loop-preserved g c =
    elim c.match-branch-2.branch [
      | in-Nothing w ↦ (let same = w.quiets-is in let few = c.loop.invariant.few in record {
        stays = stays_then c.args.self.now c.loop.self c.look.new.self c.loop.invariant.stays c.look.ensures.stays;
        is_open = c.look.ensures.open;
        counts = counts_then _ _ _ c.loop.invariant.counts c.look.ensures.counts;
        few = omega arith;
        rose = rose_still c.loop.quiets _ _ _ _ c.loop.invariant.rose c.look.ensures.counts.quiets same;
        waited = λ interface events m l.
            goes_silent g.K.Link.shows interface c.loop.self c.look.new.self events (c.loop.invariant.waited interface events m l) (Ok c.in_ok-told.field-0) (c.in_ok-told.ensures.looks interface) (ap Ok w.in-Nothing.is);
      })
      | in-Quiet+else-quiets-eq-MOST_QUIETS w ↦ (let same = w.quiets-is in let few = c.loop.invariant.few in let not_yet = w.if-quiets-eq-MOST_QUIETS.false in record {
        stays = stays_then c.args.self.now c.loop.self c.look.new.self c.loop.invariant.stays c.look.ensures.stays;
        is_open = c.look.ensures.open;
        counts = counts_then _ _ _ c.loop.invariant.counts c.look.ensures.counts;
        few = omega arith;
        rose = rose_more c.loop.quiets _ _ _ _ c.loop.invariant.rose (rw w.in-Quiet.is at c.in_ok-told.ensures.quieter) same;
        waited = λ interface events m l.
            goes_quiet g.K.Link.shows interface c.loop.self c.look.new.self events (c.loop.invariant.waited interface events m l) (Ok c.in_ok-told.field-0) (c.in_ok-told.ensures.looks interface) (ap Ok w.in-Quiet.is);
      })
    ]

pub returns-clause-waits : goal.returns-clause-waits
returns-clause-waits g c = λ interface events m l. ends_short g.K.Link.shows interface c.args.self.now c.loop.self events m (c.loop.invariant.waited interface events m l)

pub returns-in-Outcome-clause-answer : goal.returns-in-Outcome-clause-answer
returns-in-Outcome-clause-answer g c = rw c.in-Outcome.is at c.in_ok-told.ensures.answer

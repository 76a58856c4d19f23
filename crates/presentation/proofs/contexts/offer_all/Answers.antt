use Rattle.std.proofs.Common.{sym, ◌∙◌}
use Rattle.std.proofs.lemmas.Result.{err_from_is_err_and}
use Rattle.presentation.proofs.Offered.{contexts_more, results_more, front_more, contexts_done, results_done}
use Rattle.presentation.proofs.contexts.offer_all.Goals as goal

pub returns-in_err-push-clause-err : goal.returns-in_err-push-clause-err
returns-in_err-push-clause-err c =
    let r = err_from_is_err_and c.from_residual-in_err-push.result c.from_residual-in_err-push.ensures.1 in
    rw r.1 (front_more c.args.ids.now c.args.accepted.now.items c.loop-element.accepted.items c.offer_one.new.accepted.items c.element-item.result c.loop-element.invariant.front c.in_ok-offer_one.ensures.ok)

pub loop-element-preserved : goal.loop-element-preserved
loop-element-preserved c =
    let ids = c.args.ids.now in
    let a = c.loop-element.accepted.items in
    let b = c.offer_one.new.accepted.items in
    let es = c.args.elements.now in
    let i = c.loop-element.element-index in
    let e = c.element-item.result in
    let new = c.in_ok-offer_one.ensures.ok in
    record {
      results = rw (c.in_ok-push.ensures.ok, c.in_ok-offer_one.ensures.answer) (sym (results_more ids a b es i e c.loop-element.results c.loop-element-test.true c.element-item.is new) ∙ c.loop-element.invariant.results);
      contexts = sym (contexts_more ids a b es i e c.loop-element-test.true c.element-item.is new) ∙ c.loop-element.invariant.contexts;
      front = front_more ids c.args.accepted.now.items a b e c.loop-element.invariant.front new;
    }

pub returns-clause-results : goal.returns-clause-results
returns-clause-results c =
    results_done c.args.ids.now c.loop-element.accepted.items c.args.elements.now c.loop-element.element-index c.loop-element.results _ c.loop-element-test.false c.loop-element.invariant.results

pub returns-clause-ok : goal.returns-clause-ok
returns-clause-ok c =
    contexts_done c.args.ids.now c.loop-element.accepted.items c.args.elements.now c.loop-element.element-index _ c.loop-element-test.false c.loop-element.invariant.contexts

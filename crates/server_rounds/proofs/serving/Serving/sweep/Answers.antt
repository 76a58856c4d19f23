use Rattle.std.proofs.Common.{rules, ◌≡◌, ◌∙◌, arith, refl, sym, ap}
use Rattle.std.specs.VecDeque.{deque_len, deque_capacity}
use Rattle.server_rounds.proofs.Servings.{swept_first, swept_kept, swept_more, swept_end, none_long}
use Rattle.server_rounds.proofs.Desks.{swept_first_had, swept_kept_had, swept_more_had, swept_end_had}
use Rattle.server_rounds.proofs.serving.Serving.sweep.Goals as goal

pub loop-running-init : goal.loop-running-init
loop-running-init g c =
    let put = c.replace-waiting.ensures.after in
    let had = c.replace-waiting.ensures.value in
    let wide = c.in-Ok.ensures.capacity in
    let count = c.len.ensures in
    let same : deque_capacity c.replace-waiting.new.dest ≡ deque_capacity c.in-Ok.swept = ap (λ q. deque_capacity q) put in (
      swept_first g.K.Link.shows g.S.Manager.may g.S.Manager.tables c.args.hub.now c.args.self.now _ _ _ c.requires.serving refl refl refl refl refl
          (ap (λ q. q.items) put ∙ c.in-Ok.ensures.items) (ap (λ q. deque_len q) put ∙ c.in-Ok.ensures.len) (ap (λ q. q.items) had) (ap (λ q. deque_len q) had) (omega (arith, wide, count, same)),
      swept_first_had g.S.Manager.tables g.S.Manager.is_pass g.S.Manager.enters g.S.Manager.runs_down g.S.Manager.splits g.S.Manager.joins c.args.hub.now c.args.self.now _ _ c.requires.had refl refl refl refl (ap (λ q. q.items) put ∙ c.in-Ok.ensures.items) (ap (λ q. q.items) had),
    )

pub returns-clause-serving : goal.returns-clause-serving
returns-clause-serving g c =
    let none : deque_len c.loop-running.waiting ≡ 0 = search rules in
    (swept_end g.K.Link.shows g.S.Manager.may g.S.Manager.tables c.args.hub.now c.args.self.now c.loop-running.self c.loop-running.waiting.items _ c.requires.serving c.loop-running.invariant.0 none (sym c.loop-running.waiting.ok.0)).0

pub returns-clause-links : goal.returns-clause-links
returns-clause-links g c =
    let none : deque_len c.loop-running.waiting ≡ 0 = search rules in
    (swept_end g.K.Link.shows g.S.Manager.may g.S.Manager.tables c.args.hub.now c.args.self.now c.loop-running.self c.loop-running.waiting.items _ c.requires.serving c.loop-running.invariant.0 none (sym c.loop-running.waiting.ok.0)).2

pub returns-clause-len : goal.returns-clause-len
returns-clause-len g c =
    let none : deque_len c.loop-running.waiting ≡ 0 = search rules in
    (swept_end g.K.Link.shows g.S.Manager.may g.S.Manager.tables c.args.hub.now c.args.self.now c.loop-running.self c.loop-running.waiting.items _ c.requires.serving c.loop-running.invariant.0 none (sym c.loop-running.waiting.ok.0)).3

pub rest-requires-clause-kept : goal.rest-requires-clause-kept
rest-requires-clause-kept g c κs within =
    swept_kept g.K.Link.shows g.S.Manager.may g.S.Manager.tables c.args.hub.now c.args.self.now c.loop-running.self c.loop-running.waiting.items c.pop_front.new.self.items _ c.in-Some.running c.loop-running.invariant.0 c.in-Some.ensures.items

pub rest-requires-clause-had : goal.rest-requires-clause-had
rest-requires-clause-had g c κs within =
    swept_kept_had g.S.Manager.tables g.S.Manager.is_pass g.S.Manager.enters g.S.Manager.runs_down g.S.Manager.splits g.S.Manager.joins c.args.hub.now c.args.self.now c.loop-running.self c.loop-running.waiting.items c.pop_front.new.self.items c.in-Some.running c.loop-running.invariant.1 c.in-Some.ensures.items

pub loop-running-preserved : goal.loop-running-preserved
loop-running-preserved g c = (
  swept_more g.K.Link.shows g.S.Manager.may g.S.Manager.tables c.args.hub.now c.args.self.now c.loop-running.self _ c.loop-running.waiting.items c.pop_front.new.self.items _ _ c.in-Some.running c.rest.result
      c.loop-running.invariant.0 c.in-Some.ensures.items c.in-Some.ensures.cases refl refl refl refl refl c.push_back_reserved.ensures.items c.push_back_reserved.ensures.len c.push_back_reserved.ensures.capacity c.rest.ensures.promise c.rest.ensures.kept,
  swept_more_had g.S.Manager.tables g.S.Manager.is_pass g.S.Manager.enters g.S.Manager.runs_down g.S.Manager.splits g.S.Manager.joins c.args.hub.now c.args.self.now c.loop-running.self _ c.loop-running.waiting.items c.pop_front.new.self.items c.in-Some.running c.rest.result
      c.loop-running.invariant.1 c.in-Some.ensures.items refl refl refl refl c.push_back_reserved.ensures.items c.rest.ensures.promise c.rest.ensures.had,
)

pub returns-clause-had : goal.returns-clause-had
returns-clause-had g c =
    let none : deque_len c.loop-running.waiting ≡ 0 = search rules in
    swept_end_had g.S.Manager.tables g.S.Manager.is_pass g.S.Manager.enters g.S.Manager.runs_down g.S.Manager.splits g.S.Manager.joins c.args.hub.now c.args.self.now c.loop-running.self c.loop-running.waiting.items c.requires.had c.loop-running.invariant.1 (none_long c.loop-running.waiting.items (sym c.loop-running.waiting.ok.0 ∙ none))

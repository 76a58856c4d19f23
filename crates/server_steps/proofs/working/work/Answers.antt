use Rattle.std.proofs.Common.{ℕ, true, Option, List, ◌≡◌, sym, ◌∙◌, subst}
use Rattle.ndr_table.specs.Tables.{TableForm}
use Rattle.hub_story.specs.Histories.{home_of}
use Rattle.conn_histories.specs.Ends.{Meets}
use Rattle.server_calls.specs.Suited.{suit_cookies}
use Rattle.server_steps.proofs.Cookies.{suit_length}
use Rattle.server_steps.proofs.working.work.Goals as goal

pub run-desks-requires-clause-cookies : goal.run-desks-requires-clause-cookies
run-desks-requires-clause-cookies g c = λ κs within.
    let s = c.requires.ready.given.suits in
    let slots = c.args.running.asked.now.slots in
    let same : c.first_cookies-cookies.result.now ≡ s.0 = c.first_cookies-cookies.ensures s.0 s.1 (suit_length slots s.0 s.2 ∙ sym c.len.ensures) in
    subst (λ z. suit_cookies slots z ≡ true) (sym same) s.2

pub returns-clause-works : goal.returns-clause-works
returns-clause-works g c = λ cookies row count.
    let same : c.first_cookies-cookies.result.now ≡ cookies = c.first_cookies-cookies.ensures cookies row (count ∙ sym c.len.ensures) in
    let a = c.run-desks.result.1 in
    record {
      pass = c.into_pass-pass.ensures.asks.pass;
      none = c.into_pass-pass.ensures.asks.none;
      told = c.run-desks.new.probe.told;
      asked = λ t. c.into_pass-pass.ensures.told t;
      meets =
          subst (λ (z : ℕ × List TableForm × List (Option ℕ)). Meets (home_of z.0 c.args.running.group) z.1 (g.M.Manager.may c.args.server.manager.now) c.args.running.asked.now z.2 c.run-desks.new.probe.told a.results a.said)
          (λ i. (c.boot.ensures i, sym c.requires.ready.served i, same i)) c.run-desks.ensures.meets;
      suits = c.run-desks.ensures.suit;
      same = c.run-desks.ensures.told;
      fits = c.run-desks.ensures.fits;
    }

pub returns-clause-answers : goal.returns-clause-answers
returns-clause-answers g c = (
  c.run-desks.ensures.pass,
  λ cookies row count.
      let same : c.first_cookies-cookies.result.now ≡ cookies = c.first_cookies-cookies.ensures cookies row (count ∙ sym c.len.ensures) in
      let a = c.run-desks.result.1 in (
        c.run-desks.new.probe.told,
        subst (λ (z : ℕ × List TableForm × List (Option ℕ)). Meets (home_of z.0 c.args.running.group) z.1 (λ k t x. g.M.Manager.enters c.args.server.manager.now c.args.task.desks k t x c.run-desks.result.0) c.args.running.asked.now z.2 c.run-desks.new.probe.told a.results a.said)
            (λ i. (c.boot.ensures i, sym c.requires.ready.served i, same i)) c.run-desks.ensures.enters,
      ),
)

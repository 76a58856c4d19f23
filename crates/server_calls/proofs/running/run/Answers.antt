use Rattle.ndr_value.specs.Values.{msg}
use Rattle.manager_api.specs.Answers.{ans}
use Rattle.manager_api.specs.Served.{tables_in}
use Rattle.server_calls.proofs.ReadyLemmas.{may_is, says_again, says_fit}
use Rattle.server_calls.proofs.running.run.Goals as goal

pub returns-clause-meets : goal.returns-clause-meets
returns-clause-meets g c = record {
  message = msg c.args.again.now;
  asked = c.requires.again;
  told = g.P.Probe.told c.call-pass.new.probe;
  cause = λ t. t;
  answer = ans c.call-pass.result.1;
  answers = may_is (λ x. g.M.Manager.may c.args.manager.now x (g.P.Probe.told c.call-pass.new.probe) (ans c.call-pass.result.1)) c.args.asked.now (msg c.args.again.now) (msg c.args.message) c.args.cookies.now c.row_for-row.result
      c.same_message.ensures c.row_for-row.ensures.row c.call-pass.ensures.may;
  blames = λ is. c.call-pass.ensures.told is;
  results_are = c.end_of-results.ensures.results;
  says = says_again c.args.home (tables_in c.args.served.now) c.args.asked.now _ (msg c.args.again.now) c.end_of-results.result.results (ans c.call-pass.result.1) c.end_of-results.result.said c.twice-said.result.0
      (c.end_of-results.ensures.says c.requires.again.operation c.requires.again.found) c.twice-said.ensures.repeats;
}

pub returns-clause-enters : goal.returns-clause-enters
returns-clause-enters g c = record {
  message = msg c.args.again.now;
  asked = c.requires.again;
  told = g.P.Probe.told c.call-pass.new.probe;
  cause = λ t. t;
  answer = ans c.call-pass.result.1;
  answers = may_is (λ x. g.M.Manager.enters c.args.manager.now c.args.pass x (g.P.Probe.told c.call-pass.new.probe) (ans c.call-pass.result.1) c.call-pass.result.0) c.args.asked.now (msg c.args.again.now) (msg c.args.message) c.args.cookies.now c.row_for-row.result
      c.same_message.ensures c.row_for-row.ensures.row c.call-pass.ensures.enters;
  blames = λ is. c.call-pass.ensures.told is;
  results_are = c.end_of-results.ensures.results;
  says = says_again c.args.home (tables_in c.args.served.now) c.args.asked.now _ (msg c.args.again.now) c.end_of-results.result.results (ans c.call-pass.result.1) c.end_of-results.result.said c.twice-said.result.0
      (c.end_of-results.ensures.says c.requires.again.operation c.requires.again.found) c.twice-said.ensures.repeats;
}

pub returns-clause-fits : goal.returns-clause-fits
returns-clause-fits g c =
    says_fit c.args.home (tables_in c.args.served.now) c.args.asked.now _ (msg c.args.again.now) c.end_of-results.result.results (ans c.call-pass.result.1) c.twice-said.result.0
    (says_again c.args.home (tables_in c.args.served.now) c.args.asked.now _ (msg c.args.again.now) c.end_of-results.result.results (ans c.call-pass.result.1) c.end_of-results.result.said c.twice-said.result.0
    (c.end_of-results.ensures.says c.requires.again.operation c.requires.again.found) c.twice-said.ensures.repeats)

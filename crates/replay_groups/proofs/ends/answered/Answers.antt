use Rattle.std.proofs.Common.{refl}
use Rattle.ndr_value.specs.Values.{msg}
use Rattle.manager_api.specs.Answers.{ans}
use Rattle.manager_api.specs.Served.{tables_in}
use Rattle.desk_service.specs.State.{tables_of}
use Rattle.desk_service.specs.Views.{services}
use Rattle.replay_groups.proofs.Finishing.{call_is, owed_is, may_is, echo_stays}
use Rattle.replay_groups.proofs.ends.answered.Goals as goal

pub answer-answer-requires : goal.answer-answer-requires
answer-answer-requires c =
    call_is (tables_in c.args.served.now) (tables_of (services c.args.desks.now)) c.args.asked.now (msg c.args.message.now) (msg c.args.given) c.args.cookies.now c.row_for-row.result
    c.requires.served c.requires.given c.row_for-row.ensures.row c.row_for-row.ensures.call

pub end_of-requires-clause-owes : goal.end_of-requires-clause-owes
end_of-requires-clause-owes c =
    owed_is (tables_in c.args.served.now) (tables_of (services c.args.desks.now)) c.args.asked.now (msg c.args.message.now) (msg c.args.given) c.args.cookies.now c.row_for-row.result (ans c.answer-answer.result)
    c.requires.served c.requires.given c.row_for-row.ensures.row c.answer-answer.ensures.owes

pub returns-clause-meets : goal.returns-clause-meets
returns-clause-meets c = record {
  message = msg c.args.message.now;
  asked = c.requires.asked;
  told = c.args.cancelled;
  cause = λ t. t;
  answer = ans c.answer-answer.result;
  answers = (
    refl,
    may_is (services c.args.desks.now) (services c.answer-answer.new.self) c.args.numbers c.args.cancelled c.args.asked.now (msg c.args.message.now) (msg c.args.given) c.args.cookies.now c.row_for-row.result
        (ans c.answer-answer.result) c.requires.given c.row_for-row.ensures.row c.answer-answer.ensures.may,
  );
  blames = c.answer-answer.ensures.told;
  results_are = c.end_of.ensures.results;
  says = c.end_of.ensures.says c.requires.asked.operation c.requires.asked.found;
}

pub returns-clause-echo : goal.returns-clause-echo
returns-clause-echo c = echo_stays (services c.args.desks.now) (services c.answer-answer.new.self) c.args.numbers _ c.args.cancelled (ans c.answer-answer.result) c.answer-answer.ensures.may

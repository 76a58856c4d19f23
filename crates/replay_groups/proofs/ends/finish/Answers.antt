use Rattle.std.proofs.Common.{sym, ◌∙◌}
use Rattle.manager_api.specs.Served.{tables_in}
use Rattle.desk_service.specs.Views.{services}
use Rattle.replay_groups.specs.Rows.{MayAnswer}
use Rattle.replay_groups.proofs.Finishing.{first_suit, first_is, meets_with}
use Rattle.replay_groups.proofs.ends.finish.Goals as goal

pub answered-ended-requires-clause-cookies : goal.answered-ended-requires-clause-cookies
answered-ended-requires-clause-cookies c =
    first_suit c.args.asked.now.slots c.args.cookies.now c.first_cookies-cookies.result.now (λ cs row many. c.first_cookies-cookies.ensures cs row (many ∙ sym c.len.ensures)) c.requires.cookies

pub returns-clause-meets : goal.returns-clause-meets
returns-clause-meets c given are =
    meets_with c.args.home (tables_in c.args.served.now) (MayAnswer (services c.args.desks.now) c.args.numbers c.args.cancelled (services c.answered-ended.new.desks)) c.args.asked.now
    c.first_cookies-cookies.result.now given c.args.cancelled c.answered-ended.result.results c.answered-ended.result.said
    (first_is c.args.asked.now.slots c.args.cookies.now c.first_cookies-cookies.result.now given (λ cs row many. c.first_cookies-cookies.ensures cs row (many ∙ sym c.len.ensures)) are)
    c.answered-ended.ensures.meets

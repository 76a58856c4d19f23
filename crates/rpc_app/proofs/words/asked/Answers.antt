use Rattle.std.proofs.Common.{map, string_bytes, sym}
use Rattle.rpc_app.specs.Words.{told_wanted}
use Rattle.rpc_app.proofs.Carried.{asked, alone, unasked}
use Rattle.rpc_app.proofs.words.asked.Goals as goal

pub returns-in-Some-clause-asked : goal.returns-in-Some-clause-asked
returns-in-Some-clause-asked c =
    asked (map string_bytes c.args.words.now) c.in-Some.asked (told_wanted c.wanted_in.result) (sym c.wanted_in.ensures) (rw c.in-Some.is at c.in_ok-asked.ensures.asked)

pub returns-in-Some-clause-alone : goal.returns-in-Some-clause-alone
returns-in-Some-clause-alone c =
    alone (map string_bytes c.args.words.now) c.in-Some.asked (told_wanted c.wanted_in.result) (sym c.wanted_in.ensures) (rw c.in-Some.is at c.in_ok-asked.ensures.asked) (rw c.in-Some.is at c.in_ok-asked.ensures.alone)

pub returns-in-None-clause-nothing : goal.returns-in-None-clause-nothing
returns-in-None-clause-nothing c = unasked (map string_bytes c.args.words.now) (rw c.in-None.is at c.in_ok-asked.ensures.nothing)

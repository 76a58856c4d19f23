use Rattle.std.proofs.Common.{rules, arith, refl, ap, Some}
use Rattle.std.proofs.lemmas.Bool.Decides.{nat_tests}
use Rattle.rpc_outside.proofs.PlayLemmas.{put_stays}
use Rattle.rpc_outside.proofs.script_link.ScriptLinkLink.put.Goals as goal

pub returns-clause-puts : goal.returns-clause-puts
returns-clause-puts c = let some = c.args.self.now.takes_some in (
  search (rules, arith, nat_tests),
  search (rules, arith, nat_tests),
  record {
    counts = search (rules, arith);
    taken = ap Some c.see_put.ensures.taken;
    left = ap Some (put_stays c.args.self.now.script.rest c.see_put.new.self.rest c.see_put.ensures.rest);
    put = ap Some (search rules);
    put_at_end = refl;
    closed = refl;
  },
)

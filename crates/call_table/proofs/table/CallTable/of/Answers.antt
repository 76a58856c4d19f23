use Rattle.std.proofs.Common.{◌≡◌, sym, subst, arith, rules}
use Rattle.call_table.specs.Kept.{Rises, AllFew}
use Rattle.call_table.specs.Shown.{base_rows}
use Rattle.call_table.proofs.Order.{waits_few}
use Rattle.call_table.proofs.Started.{calls_rise, calls_few}
use Rattle.call_table.proofs.table.CallTable.of.Goals as goal

pub queued_rows-requires : goal.queued_rows-requires
queued_rows-requires c =
    let made : c.in_ok-rows.rows.items ≡ base_rows c.args.base.now = c.in_ok-rows.ensures in
    subst AllFew (sym made) (calls_few c.args.base.now c.args.base.now.count c.args.base.now.calls c.requires.within)

pub of-tally-requires-clause-rise : goal.of-tally-requires-clause-rise
of-tally-requires-clause-rise c =
    let made : c.in_ok-rows.rows.items ≡ base_rows c.args.base.now = c.in_ok-rows.ensures in
    subst (Rises 0) (sym made) (calls_rise c.args.base.now.count c.args.base.now.accepts c.args.base.now.calls c.requires.rise c.requires.counted c.requires.small)

pub of-tally-requires-clause-few : goal.of-tally-requires-clause-few
of-tally-requires-clause-few c =
    let made : c.in_ok-rows.rows.items ≡ base_rows c.args.base.now = c.in_ok-rows.ensures in
    subst AllFew (sym made) (calls_few c.args.base.now c.args.base.now.count c.args.base.now.calls c.requires.within)

pub invariant_of-result : goal.invariant_of-result
invariant_of-result c =
    let made : c.in_ok-rows.rows.items ≡ base_rows c.args.base.now = c.in_ok-rows.ensures in
    let wait = waits_few c.in_ok-rows.rows.items in
    let enough = c.in_ok-fill.ensures.ok in (
      record {
        rises = subst (Rises 0) (sym made) (calls_rise c.args.base.now.count c.args.base.now.accepts c.args.base.now.calls c.requires.rise c.requires.counted c.requires.small);
        few = subst AllFew (sym made) (calls_few c.args.base.now c.args.base.now.count c.args.base.now.calls c.requires.within);
        places = omega arith;
        enough = search rules;
        blanks = c.in_ok-fill.ensures.blanks;
      },
      c.of-tally.ensures,
      record { calls_are = c.in_ok-queues.ensures; enough = omega arith },
      record { has_waiting = c.in_ok-waiting.ensures; enough = omega arith },
      c.in_ok-running.ensures,
    )

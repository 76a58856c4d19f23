use Rattle.std.proofs.Common.{◌≡◌, ◌+◌, ◌<◌, length, get_or, take, ◌∙◌, sym, ap, subst, arith, rules}
use Rattle.handle_model.specs.History.{history_of}
use Rattle.journal_tables.specs.Tables.{Admits, entered}
use Rattle.journal_tables.specs.Shown.{tables_of}
use Rattle.journal_tables.proofs.Fronts.{sound_base, none_entered, next_admits, next_enters}
use Rattle.journal_tables.proofs.front.tables_after.Goals as goal

pub of-requires : goal.of-requires
of-requires c = sound_base c.args.home c.args.base.now c.args.entries.now c.requires

pub loop-i-init : goal.loop-i-init
loop-i-init c = none_entered c.args.home c.args.base.now c.args.entries.now _ c.requires c.in_ok-tables.ensures

pub enter-requires-clause-admits : goal.enter-requires-clause-admits
enter-requires-clause-admits c =
    let lt : c.loop-i.i < length c.args.entries.now = search rules in
    let same : get_or c.args.entries.now c.loop-i.i c.index-entries-i-in-loop-i.result ≡ c.index-entries-i-in-loop-i.result = search rules in
    let before : c.reserve.new.self.tables ≡ tables_of (history_of c.args.home c.args.base.now (take c.loop-i.i c.args.entries.now)) = c.reserve.ensures.same ∙ c.loop-i.invariant in
    subst (λ e. Admits c.reserve.new.self.tables e) same (next_admits c.args.home c.args.base.now c.args.entries.now c.loop-i.i c.index-entries-i-in-loop-i.result _ lt c.requires before)

pub loop-i-preserved : goal.loop-i-preserved
loop-i-preserved c =
    let lt : c.loop-i.i < length c.args.entries.now = search rules in
    let same : get_or c.args.entries.now c.loop-i.i c.index-entries-i-in-loop-i.result ≡ c.index-entries-i-in-loop-i.result = search rules in
    let before : c.reserve.new.self.tables ≡ tables_of (history_of c.args.home c.args.base.now (take c.loop-i.i c.args.entries.now)) = c.reserve.ensures.same ∙ c.loop-i.invariant in
    let place : c.from.result + c.loop-i.i ≡ c.args.base.now.count + c.loop-i.i = ap (λ n. n + c.loop-i.i) c.from.ensures in
    next_enters c.args.home c.args.base.now c.args.entries.now c.loop-i.i c.index-entries-i-in-loop-i.result c.reserve.new.self.tables c.enter.new.self.tables _ lt c.requires before place (c.enter.ensures ∙ ap (entered c.reserve.new.self.tables (c.from.result + c.loop-i.i)) (sym same))

use Rattle.std.proofs.Common.{rules, ◌∙◌, ap}
use Rattle.std.proofs.lemmas.Fn.{filter_same}
use Rattle.journal_tables.specs.Conns.{is_other, without}
use Rattle.journal_tables.proofs.conns.ConnTable.leave.Goals as goal

pub returns-clause-conns : goal.returns-clause-conns
returns-clause-conns c =
    filter_same _ (is_other c.args.conn) _ (λ x b f' k. search rules) _ _ c.retain.ensures.filtered ∙ ap (λ v. without c.args.conn v.conns) c.self.view_is

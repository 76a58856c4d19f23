use Rattle.std.proofs.Common.{◌∙◌, sym, ap, reverse}
use Rattle.handle_model.specs.Folds.{base_of}
use Rattle.handle_model.specs.History.{history_of}
use Rattle.journal_tables.specs.Tables.{Tables}
use Rattle.journal_tables.proofs.Advanced.{advance_since}
use Rattle.journal_tables.proofs.front.folded_base.Goals as goal

pub returns : goal.returns
returns c =
    c.in_ok-made.ensures
    ∙ (ap (λ (t : Tables). base_of (history_of t.home c.args.base.now c.args.entries.now)) c.in_ok-tables.ensures
    ∙ sym (advance_since c.args.home c.args.base.now (reverse c.args.entries.now) c.requires.begun c.requires.legal c.requires.goes_on))

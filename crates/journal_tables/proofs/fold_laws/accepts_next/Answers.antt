use Rattle.handle_model.specs.History.{with_entry}
use Rattle.handle_model.specs.declared.entry.Entry.TheVariants.{Accept}
use Rattle.handle_model.proofs.Older.{older_legal}
use Rattle.journal_tables.proofs.fold_laws.accepts_next.Goals as goal

pub returns : goal.returns
returns g = λ j newer k a l. (older_legal (with_entry j (Accept k a)) newer l).0.fits.0

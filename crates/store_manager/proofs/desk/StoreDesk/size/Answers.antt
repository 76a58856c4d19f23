use Rattle.std.proofs.Common.{sym, subst, arith}
use Rattle.manager_api.specs.Calls.{Owes}
use Rattle.store_manager.specs.Table.{store_table}
use Rattle.store_manager.proofs.Owed.{size_owes}
use Rattle.store_manager.proofs.desk.StoreDesk.size.Goals as goal

pub returns-in_default-clause-owes : goal.returns-in_default-clause-owes
returns-in_default-clause-owes c = λ asked. subst (Owes store_table 5 asked) (sym c.in_ok-null.ensures.answer) (size_owes asked _ 4 c.in_ok-null.ensures.fits (omega arith))

pub returns-in_default-file_of-clause-owes : goal.returns-in_default-file_of-clause-owes
returns-in_default-file_of-clause-owes c = λ asked. subst (Owes store_table 5 asked) (sym c.in_ok-absent.ensures.answer) (size_owes asked _ 4 c.in_ok-absent.ensures.fits (omega arith))

pub returns-clause-owes : goal.returns-clause-owes
returns-clause-owes c = λ asked. subst (Owes store_table 5 asked) (sym c.in_ok-answer.ensures.answer) (size_owes asked _ 0 c.in_ok-answer.ensures.fits (omega arith))

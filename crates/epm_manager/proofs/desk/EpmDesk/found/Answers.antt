use Rattle.std.proofs.Common.{◌≡◌, ℕ, ◌≤◌, List, length, take, sym, subst, Result, Ok, Err}
use Rattle.std.specs.Prelude.{IfOk}
use Rattle.rpc_base.specs.declared.fault.NoMemory.{NoMemory}
use Rattle.epm_manager.specs.declared.entry.Numbered.{Numbered}
use Rattle.epm_manager.specs.declared.finding.Given.{Given}
use Rattle.epm_manager.specs.declared.wanted.Wanted.{Wanted}
use Rattle.epm_manager.specs.Entries.{most_entries}
use Rattle.epm_manager.specs.Found.{found, is_found}
use Rattle.epm_manager.proofs.Whole.{few_taken}
use Rattle.epm_manager.proofs.desk.EpmDesk.found.Goals as goal

few_given : (r : Result Given NoMemory) (most after : ℕ) (what : Wanted) (ns : List Numbered) → IfOk r (λ g. g.entries.items ≡ take most (found what after ns)) → length ns ≤ most_entries
    → IfOk r (λ g. length g.entries.items ≤ most_entries)
few_given (Ok g) most after what ns e few = subst (λ (xs : List Numbered). length xs ≤ most_entries) (sym e) (few_taken most (is_found what after) ns few)
few_given (Err e) most after what ns is few = tt

pub returns-clause-few : goal.returns-clause-few
returns-clause-few c =
    few_given c.find.result c.args.most c.unwrap_or.result c.args.wanted.now c.deref.result.now c.find.ensures.entries
    (subst (λ (xs : List Numbered). length xs ≤ most_entries) (sym c.deref.ensures.value) c.self.invariant.few)

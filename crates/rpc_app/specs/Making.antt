-- Why nothing is made of a file, and why a task isn't done.
use Rattle.std.specs.Prelude.{ℕ, List, Option, ⊤}
use Rattle.rpc_base.specs.Causes.{Rose}
use Rattle.rpc_base.specs.Shelves.{Files}
use Rattle.ndr_table.specs.Tables.{TableForm}
use Rattle.rpc_app.specs.declared.command.Command.{Command}
use Rattle.rpc_app.specs.declared.make.MakeFault.{MakeFault}
use Rattle.rpc_app.specs.declared.make.MakeFault.TheVariants.{Refused, Memory}
use Rattle.rpc_app.specs.declared.task.TaskFault.{TaskFault}
use Rattle.rpc_app.specs.declared.task.TaskFault.TheVariants as tasks
use Rattle.rpc_app.specs.Asks.{FileTask, Task}
use Rattle.rpc_app.specs.Commands.{Refuses}
use Rattle.rpc_app.specs.Runs.{RefusesFile, RefusesFiles, RefusesTask}

-- this is said of the file, or memory ran out
abbrev pub Says : (List ℕ → Type 0) → MakeFault → Type 0
Says P (Refused line) = P line.items
Says P Memory = ⊤

abbrev pub IsWhy : Option TableForm → Command → List ℕ → MakeFault → Type 0
IsWhy echo command octets fault = Says (Refuses echo command octets) fault

-- the same of a task
abbrev pub task_fault : MakeFault → TaskFault
task_fault (Refused line) = tasks.Refused line
task_fault Memory = tasks.Memory

-- why a file isn't dealt with, and a task isn't done: what is said of the file at fault; or the shelf failed, as often as it had
-- before and has now; or memory ran out
abbrev pub WhyNot : (List ℕ → Type 0) → ℕ → ℕ → TaskFault → Type 0
WhyNot P before after (tasks.Refused line) = P line.items
WhyNot P before after tasks.Failed = Rose before after
WhyNot P before after tasks.Memory = ⊤

abbrev pub WhyNotFile : Option TableForm → Command → Option Files → List ℕ → ℕ → ℕ → TaskFault → Type 0
WhyNotFile echo command files name before after fault = WhyNot (RefusesFile files echo command name) before after fault

abbrev pub WhyNotFiles : FileTask → Option Files → ℕ → ℕ → TaskFault → Type 0
WhyNotFiles task files before after fault = WhyNot (RefusesFiles files task) before after fault

abbrev pub WhyNotTask : Task → Option Files → ℕ → ℕ → TaskFault → Type 0
WhyNotTask task files before after fault = WhyNot (RefusesTask files task) before after fault

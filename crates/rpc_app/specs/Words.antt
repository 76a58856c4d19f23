-- The words of a task, as the program has them.
use Rattle.std.specs.Prelude.{option_map}
use Rattle.rpc_app.specs.declared.words.FileTask.{FileTask}
use Rattle.rpc_app.specs.declared.words.Task.{Task}
use Rattle.rpc_app.specs.declared.words.Task.TheVariants.{File, Load}
use Rattle.rpc_app.specs.declared.words.ServeTask.{ServeTask}
use Rattle.rpc_app.specs.declared.words.CallTask.{CallTask}
use Rattle.rpc_app.specs.declared.words.Wanted.{Wanted}
use Rattle.rpc_app.specs.declared.words.Wanted.TheVariants as wanted
use Rattle.rpc_app.specs.Asks as asks
use Rattle.rpc_app.specs.Asks.{OfFile, OfLoad, ToDo, ToServe, ToCall}

abbrev pub told_files : FileTask → asks.FileTask
told_files t = record { command = t.command; file = t.file.now; idl = option_map (λ text. text.now) t.idl }

abbrev pub told_task : Task → asks.Task
told_task (File task) = OfFile (told_files task)
told_task (Load number steps) = OfLoad number steps

abbrev pub told_server : ServeTask → asks.ServeTask
told_server t = record { at = t.at; most = t.most; idl = option_map (λ text. text.now) t.idl }

abbrev pub told_caller : CallTask → asks.CallTask
told_caller t = record { at = t.at; idl = t.idl.now; script = t.script.now }

abbrev pub told_wanted : Wanted → asks.Wanted
told_wanted (wanted.Task task) = ToDo (told_task task)
told_wanted (wanted.Serve task) = ToServe (told_server task)
told_wanted (wanted.Call task) = ToCall (told_caller task)

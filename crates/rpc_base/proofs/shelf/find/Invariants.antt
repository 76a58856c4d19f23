use Rattle.std.proofs.Common.{◌≡◌, drop}
use Rattle.rpc_base.specs.Shelves.{file_of}
use Rattle.rpc_base.proofs.shelf.find.Given as goal

-- none of the files so far has the name
abbrev pub invariant-loop-file : goal.invariant-loop-file
invariant-loop-file l = file_of (drop l.file-index l.files) l.name ≡ file_of l.files l.name

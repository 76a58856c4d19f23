use Rattle.std.proofs.Common.{◌≡◌, map, take}
use Rattle.idl_forms.specs.Forms.{decl_form}
use Rattle.idl_forms.proofs.copied_tree.decls.Given as goal

abbrev pub invariant-loop-decl : goal.invariant-loop-decl
invariant-loop-decl l = map decl_form l.copies.items ≡ map decl_form (take l.decl-index l.list)

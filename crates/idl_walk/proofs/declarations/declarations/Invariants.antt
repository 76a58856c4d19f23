use Rattle.std.proofs.Common.{◌≡◌, map, drop}
use Rattle.idl_forms.specs.Forms.{decl_form}
use Rattle.idl_outline.specs.Outline.{decls_past}
use Rattle.idl_walk.proofs.declarations.declarations.Given as goal

abbrev pub invariant-loop-decl : goal.invariant-loop-decl
invariant-loop-decl l = decls_past l.default (map decl_form (drop l.decl-index l.decls)) l.outline ≡ decls_past l.default (map decl_form l.decls) l.initial.outline

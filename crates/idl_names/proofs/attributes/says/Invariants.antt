use Rattle.std.proofs.Common.{◌≡◌, drop}
use Rattle.idl_forms.specs.Forms.{attrs_form}
use Rattle.idl_names.specs.Attributes.{says, is_word}
use Rattle.idl_names.proofs.attributes.says.Given as goal

-- what is left of the list decides
abbrev pub invariant-loop-attr : goal.invariant-loop-attr
invariant-loop-attr l = says (is_word l.word) (attrs_form (drop l.attr-index l.attrs)) ≡ says (is_word l.word) (attrs_form l.attrs)

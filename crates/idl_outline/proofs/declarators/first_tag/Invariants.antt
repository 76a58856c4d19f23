use Rattle.std.proofs.Common.{◌≡◌, drop}
use Rattle.idl_outline.specs.Names.{first_tag}
use Rattle.idl_outline.proofs.declarators.first_tag.Given as goal

abbrev pub invariant-loop-attribute : goal.invariant-loop-attribute
invariant-loop-attribute l = first_tag (drop l.attribute-index l.attributes) ≡ first_tag l.attributes

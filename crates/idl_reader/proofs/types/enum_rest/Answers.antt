use Rattle.idl_tree.proofs.Layers.{written_enum}
use Rattle.idl_reader.proofs.types.enum_rest.Goals as goal

pub returns-clause-written : goal.returns-clause-written
returns-clause-written c = λ before h.
    written_enum before c.args.tokens.now c.in_ok-tag.rest.now c.in_ok-names.rest.now c.in_ok-tag.tag c.in_ok-names.names h c.in_ok-tag.ensures.written c.in_ok-names.ensures.written

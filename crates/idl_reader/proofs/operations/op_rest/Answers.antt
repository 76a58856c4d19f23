use Rattle.idl_tree.proofs.Writing.{write_join}
use Rattle.idl_reader.proofs.operations.op_rest.Goals as goal

pub returns-clause-written : goal.returns-clause-written
returns-clause-written c =
    write_join c.in_ok-name.ensures.written (write_join (write_join c.in_ok-rest.ensures.written (write_join c.in_ok-void_word.ensures.written c.in_ok-rest-2.ensures.written)) c.in_ok-rest-3.ensures.written)

use Rattle.cases_wire.proofs.pdu_rows.written.Goals as goal

pub write_pdu-requires : goal.write_pdu-requires
write_pdu-requires c = c.spelled_is_writable.ensures c.in_ok-pdu.pdu c.args.octets.now c.in_ok-pdu.ensures.found

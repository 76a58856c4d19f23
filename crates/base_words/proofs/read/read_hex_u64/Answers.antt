use Rattle.base_words.proofs.Numbers.{hex_u64-of, octets_of_u64}
use Rattle.base_words.proofs.read.read_hex_u64.Goals as goal

pub returns-in_err-octets : goal.returns-in_err-octets
returns-in_err-octets c = rw c.from_residual.ensures (λ n small e.
    let some = octets_of_u64 c.args.text.now n e in
    c.in_err-octets.ensures some.0 some.1 some.2)

pub returns : goal.returns
returns c =
    let read = c.in_ok-octets.ensures in
    (c.from_be_bytes.type_inv, hex_u64-of c.in_ok-octets.octets c.args.text.now c.from_be_bytes.result read.0.0 read.0.1 c.from_be_bytes.ensures read.1)

use Rattle.tower_codec.proofs.TowerLaws.{sides_read}
use Rattle.tower_codec.proofs.reading.read_syntax.Goals as goal

pub returns : goal.returns
returns c =
    let read = sides_read c.args.left.now c.args.right.now c.get_uuid.result c.get_u16.result c.get_u16-2.result c.requires.left c.requires.right
    c.get_uuid.ensures.uuid c.get_uuid.ensures.octets c.get_u16.ensures.octets c.get_u16-2.ensures.octets in
    record { fits = record { id = read.0; major = c.get_u16.type_inv; minor = c.get_u16-2.type_inv }; left_is = read.1; right_is = read.2 }

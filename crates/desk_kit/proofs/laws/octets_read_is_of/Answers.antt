use Rattle.desk_kit.proofs.Suits.{octets_read_is}
use Rattle.desk_kit.proofs.laws.octets_read_is_of.Goals as goal

pub returns : goal.returns
returns c = λ types op asked kind most status text e named fits le small lt. octets_read_is types op asked kind most status text e named fits le small lt

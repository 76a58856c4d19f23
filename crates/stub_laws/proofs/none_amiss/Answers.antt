use Rattle.std.specs.Prelude.{None}
use Rattle.stub_laws.proofs.Alone.{none_amiss}
use Rattle.stub_laws.proofs.none_amiss.Goals as goal

pub returns : goal.returns
returns c = λ types op way order octets m end d o r a. none_amiss types op way order None octets o m end d r a

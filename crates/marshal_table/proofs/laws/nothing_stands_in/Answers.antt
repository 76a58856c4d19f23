use Rattle.marshal_table.proofs.Declarations.{each_name_stands}
use Rattle.marshal_table.proofs.laws.nothing_stands_in.Goals as goal

pub returns : goal.returns
returns c = each_name_stands

use Rattle.ndr_value.specs.Forms.{form, types_of}
use Rattle.value_text.proofs.Caused.{told_caused}
use Rattle.value_text.proofs.Tells.{told_found, told_none}
use Rattle.value_text.proofs.top.read_value.Goals as goal

pub returns-clause-found : goal.returns-clause-found
returns-clause-found c = told_found (types_of c.args.types.now.items) (form c.args.shape.now) c.args.text.now c.args.at c.told.result c.told.ensures

pub returns-clause-none : goal.returns-clause-none
returns-clause-none c = told_none (types_of c.args.types.now.items) (form c.args.shape.now) c.args.text.now c.args.at c.told.result c.told.ensures

pub returns-clause-cause : goal.returns-clause-cause
returns-clause-cause c = told_caused (types_of c.args.types.now.items) (form c.args.shape.now) c.args.text.now c.args.at c.told.result c.told.ensures

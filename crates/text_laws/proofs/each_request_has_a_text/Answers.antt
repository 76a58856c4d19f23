use Rattle.text_laws.proofs.Rows.{each_has_a_text}
use Rattle.text_laws.proofs.each_request_has_a_text.Goals as goal

pub returns : goal.returns
returns c = each_has_a_text

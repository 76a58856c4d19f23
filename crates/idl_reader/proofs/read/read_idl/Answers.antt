use Rattle.std.proofs.Common.{sym, subst}
use Rattle.idl_tokens.specs.Laws.{EndsOnce}
use Rattle.idl_tokens.specs.Tokens.{AreTokens}
use Rattle.idl_tokens.proofs.Ends.{ends_once}
use Rattle.idl_reader.proofs.Causes.{no_text}
use Rattle.idl_reader.proofs.read.read_idl.Goals as goal

pub read_tokens-requires : goal.read_tokens-requires
read_tokens-requires c = subst EndsOnce (sym c.deref.ensures.value) (ends_once c.in_ok-tokens.ensures)

pub returns-clause-no_tree : goal.returns-clause-no_tree
returns-clause-no_tree c =
    no_text c.args.text.now c.deref.result.now c.read_tokens.result (subst (AreTokens c.args.text.now) (sym c.deref.ensures.value) c.in_ok-tokens.ensures) c.read_tokens.ensures.no_tree

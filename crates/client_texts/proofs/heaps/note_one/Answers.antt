use Rattle.std.proofs.Common.{sym, ◌∙◌}
use Rattle.client_texts.proofs.Pointers.{noted, had}
use Rattle.client_texts.proofs.heaps.note_one.Goals as goal

pub returns-then-contains_key : goal.returns-then-contains_key
returns-then-contains_key c = λ before h. had c.args.firsts.now before c.args.aim c.from-number.result c.from-number.ensures (sym c.contains_key.ensures ∙ c.if-contains_key.true) h

pub returns : goal.returns
returns c = λ before h.
    noted c.args.firsts.now c.insert.new.self before c.args.aim c.from-number.result c.from-number.ensures (sym c.contains_key.ensures ∙ c.if-contains_key.false) c.in_ok-insert.ensures.updates h

use Rattle.std.proofs.Common.{rules}
use Rattle.turn_lock.proofs.TurnLemmas.{enters}
use Rattle.turn_lock.proofs.ViewLemmas.{last_taken}
use Rattle.turn_lock.proofs.lock.TurnLock.enter.Goals as goal

pub compare_exchange-requires : goal.compare_exchange-requires
compare_exchange-requires g c = (search rules, search rules, enters _ _ _ _ _ _)

pub exchange-value-requires : goal.exchange-value-requires
exchange-value-requires g c = (search rules, last_taken _ 0 _ _ (c.compare_exchange.ensures.2.0 c.if-compare_exchange-eq0.true).1.1)

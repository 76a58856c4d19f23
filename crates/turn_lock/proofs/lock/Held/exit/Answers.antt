use Rattle.std.proofs.Common.{rules, ◌∙◌, ap, subst, sym}
use Rattle.turn_lock.proofs.TurnLemmas.{gives_turn}
use Rattle.turn_lock.proofs.ViewLemmas.{slot_now, some_and}
use Rattle.turn_lock.proofs.lock.Held.exit.Goals as goal

pub store-requires : goal.store-requires
store-requires g c = let now = c.exchange.ensures.3 in let has = c.requires.held in let x = some_and (λ y. g.T.Storied.tells y c.args.self.pass.me.0.front) c.args.self.value c.requires.value in
    let sized = c.args.self.lock.now.sized.1 in
    (search rules, search rules, gives_turn _ g.T.Storied.ties _ _ _ _ x.0 (search rules) (ap (λ m. m.0.holds) now ∙ has.2) (slot_now _ _ _ x.0 has.1 (ap (λ m. m.1) now) x.1) (subst (λ m. g.T.Storied.tells x.0 m.0.front) (sym now) x.2))

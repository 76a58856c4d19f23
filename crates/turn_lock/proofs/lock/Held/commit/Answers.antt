use Rattle.std.proofs.Common.{rules, ◌∙◌, ap, subst, sym}
use Rattle.turn_lock.specs.Steps.{MayAdd}
use Rattle.turn_lock.proofs.TurnLemmas.{commits}
use Rattle.turn_lock.proofs.ViewLemmas.{slot_now, some_and}
use Rattle.turn_lock.proofs.lock.Held.commit.Goals as goal

pub fetch_add-requires : goal.fetch_add-requires
fetch_add-requires g c = let now = c.exchange.ensures.3 in let has = c.requires.held in let x = some_and (λ y. MayAdd g.T.Storied.tells g.T.Storied.ties c.args.self.now.pass.me.0 y c.args.added) c.args.self.now.value c.requires.adds in (
  search rules,
  search rules,
  commits _ _ _ _ _ _ _ x.0 (ap (λ m. m.0.holds) now ∙ has.2) (slot_now _ _ _ x.0 has.1 (ap (λ m. m.1) now) (c.take-item.ensures.value ∙ x.1))
      (subst (λ m. MayAdd g.T.Storied.tells g.T.Storied.ties m.0 x.0 c.args.added) (sym now) x.2),
)

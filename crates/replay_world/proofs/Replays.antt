-- A load is the replay of its rounds' lines.
use Rattle.std.proofs.Common.{List, [], ◌∷◌, ◌++◌, subst}
use Rattle.replay_script.specs.declared.line.Line.{Line}
use Rattle.replay_script.specs.declared.line.Line.TheVariants as lines
use Rattle.replay_world.specs.Services.{Service}
use Rattle.replay_world.specs.Worlds.{World}
use Rattle.replay_world.specs.Replays.{Leads, PlaysTo}
use Rattle.replay_script.specs.Rounds.{Round}
use Rattle.replay_script.specs.LoadScripts.{lines_of, script_of}
use Rattle.replay_world.specs.Loads.{PlaysRounds, LoadsAreReplays}

module _ (service : Service) where
  leads_on : (w : World service.State) (ls : List Line) (v : World service.State) (more : List Line) (u : World service.State) → Leads service w ls v → Leads service v more u → Leads service w (ls ++ more) u
  leads_on w [] v more u l h = subst (λ (x : World service.State). Leads service x more u) l h
  leads_on w (m ∷ ls) v more u l h = (l.0, l.1, leads_on l.0 ls v more u l.2 h)

  plays_on : (script : List Line) (v : World service.State) (more : List Line) (u : World service.State) → PlaysTo service script v → Leads service v more u → PlaysTo service (script ++ more) u
  plays_on [] v more u p h = absurd p
  plays_on (lines.Boot word ∷ ls) v more u p h = leads_on _ ls v more u p h
  plays_on (lines.Open c ∷ ls) v more u p h = absurd p
  plays_on (lines.Send c octets ∷ ls) v more u p h = absurd p
  plays_on (lines.Run c ∷ ls) v more u p h = absurd p
  plays_on (lines.Finish c ∷ ls) v more u p h = absurd p
  plays_on (lines.Lose c ∷ ls) v more u p h = absurd p

  of_rounds : (rounds : List Round) (v : World service.State) → PlaysRounds service rounds v → PlaysTo service (script_of rounds) v
  of_rounds [] v p = p
  of_rounds (r ∷ past) v p = plays_on (script_of past) p.0 (lines_of r.step.deed) v (of_rounds past p.0 p.1) p.2.leads

pub loads_are_replays : (service : Service) → LoadsAreReplays service
loads_are_replays service number steps end l = record { last = l.last; plays = of_rounds service l.rounds l.last l.plays; closes = l.closes }

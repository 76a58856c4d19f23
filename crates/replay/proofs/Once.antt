-- Lines lead to one world.
use Rattle.std.proofs.Common.{List, [], ◌∷◌, ◌++◌, sym, subst}
use Rattle.replay_script.specs.declared.line.Line.{Line}
use Rattle.replay_world.specs.Services.{Service, IsDetermined}
use Rattle.replay_world.specs.Worlds.{World}
use Rattle.replay_world.specs.Replays.{Leads}
use Rattle.replay_world.proofs.ReplayLines.{one_line}

module _ (service : Service) where
  pub leads_more : (w : World service.State) (ls : List Line) (v : World service.State) (more : List Line) (u : World service.State) → Leads service w ls v → Leads service v more u → Leads service w (ls ++ more) u
  leads_more w [] v more u l h = subst (λ (x : World service.State). Leads service x more u) l h
  leads_more w (m ∷ ls) v more u l h = (l.0, l.1, leads_more l.0 ls v more u l.2 h)

  -- what lines lead to is one world
  pub leads_rest : IsDetermined service → (w : World service.State) (ls : List Line) (v : World service.State) (more : List Line) (u : World service.State) → Leads service w ls v → Leads service w (ls ++ more) u → Leads service v more u
  leads_rest d w [] v more u l h = subst (λ (x : World service.State). Leads service x more u) (sym l) h
  leads_rest d w (m ∷ ls) v more u l h =
      leads_rest d l.0 ls v more u l.2 (subst (λ (x : World service.State). Leads service x (ls ++ more) u) (one_line service d w h.0 l.0 m h.1 l.1) h.2)

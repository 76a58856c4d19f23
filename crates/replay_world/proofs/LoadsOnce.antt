-- A load comes to one end.
use Rattle.std.proofs.Common.{◌≡◌, ℕ, List, [], ◌∷◌, ◌++◌, length, refl, sym, ap, subst, ◌∙◌, arith}
use Rattle.std.proofs.lemmas.List.{append_cancel_left}
use Rattle.replay_script.specs.declared.line.Line.{Line}
use Rattle.replay_world.specs.declared.peer.Standing.{Standing}
use Rattle.replay_world.specs.declared.peer.Standing.TheVariants.{Open, Closed, Lost}
use Rattle.replay_world.specs.Services.{Service, IsDetermined}
use Rattle.replay_world.specs.Worlds.{Peer, World}
use Rattle.replay_world.specs.Plays.{Finishes}
use Rattle.replay_world.specs.Replays.{names_of, Leads, LosesIfOpen, LosesAll, FinishesAll, Closes}
use Rattle.replay_world.proofs.ReplayLines.{one_peer, one_finish, one_loss, one_line}
use Rattle.replay_script.specs.declared.deed.Step.{Step}
use Rattle.replay_script.specs.Rounds.{Round, AreMade, step_after}
use Rattle.replay_script.specs.LoadScripts.{lines_of}
use Rattle.replay_world.specs.Answered.{answered_pdus}
use Rattle.replay_world.specs.Loads.{PlaysRounds, OneLoad}

module _ (service : Service) (determined : IsDetermined service) where
  one_lead : (script : List Line) (w v u : World service.State) → Leads service w script v → Leads service w script u → v ≡ u
  one_lead [] w v u h l = h ∙ sym l
  one_lead (line ∷ more) w v u h l =
      let one : h.0 ≡ l.0 = one_line service determined w h.0 l.0 line h.1 l.1 in
      one_lead more l.0 v u (subst (λ (x : World service.State). Leads service x more v) one h.2) l.2

  one_if_open : (w v u : World service.State) (p : Peer) (s : Standing) → LosesIfOpen service w p s v → LosesIfOpen service w p s u → v ≡ u
  one_if_open w v u p Open h l = one_loss service determined w v u p h l
  one_if_open w v u p Closed h l = h ∙ sym l
  one_if_open w v u p Lost h l = h ∙ sym l

  all_lost : (names : List ℕ) (w v u : World service.State) → LosesAll service w names v → LosesAll service w names u → v ≡ u
  all_lost [] w v u h l = h ∙ sym l
  all_lost (c ∷ cs) w v u h l =
      let one : h.0 ≡ l.0 =
      one_peer service determined c w (λ (p : Peer). LosesIfOpen service w p p.standing h.0) (λ (p : Peer). LosesIfOpen service w p p.standing l.0) (h.0 ≡ l.0)
      (λ p a b. one_if_open w h.0 l.0 p p.standing a b) h.1 l.1 in
      all_lost cs l.0 v u (subst (λ (x : World service.State). LosesAll service x cs v) one h.2) l.2

  all_finished : (names : List ℕ) (w v u : World service.State) → FinishesAll service w names v → FinishesAll service w names u → v ≡ u
  all_finished [] w v u h l = h ∙ sym l
  all_finished (c ∷ cs) w v u h l =
      let one : h.0 ≡ l.0 =
      one_peer service determined c w (λ (p : Peer). Finishes service c w p p.member p.unanswered w h.0) (λ (p : Peer). Finishes service c w p p.member p.unanswered w l.0) (h.0 ≡ l.0)
      (λ p a b. one_finish service determined c w h.0 l.0 w p p.member p.unanswered a b) h.1 l.1 in
      all_finished cs l.0 v u (subst (λ (x : World service.State). FinishesAll service x cs v) one h.2) l.2

  one_close : (w v u : World service.State) → Closes service w v → Closes service w u → v ≡ u
  one_close w v u h l =
      let one : h.0 ≡ l.0 = all_lost (names_of w) w h.0 l.0 h.1 l.1 in
      all_finished (names_of l.0) l.0 v u (subst (λ (x : World service.State). FinishesAll service x (names_of x) v) one h.2) l.2

  -- the same rounds, and the same world behind them
  one_row : (number : ℕ) (rs ss : List Round) (v u : World service.State) → length rs ≡ length ss → AreMade number rs → AreMade number ss → PlaysRounds service rs v → PlaysRounds service ss u
      → (rs ≡ ss) × (v ≡ u)
  one_row number [] [] v u n m k h l = (refl, h ∙ sym l)
  one_row number [] (s ∷ more) v u n m k h l = absurd (omega (arith, n))
  one_row number (r ∷ past) [] v u n m k h l = absurd (omega (arith, n))
  one_row number (r ∷ past) (s ∷ more) v u n m k h l =
      let t = one_row number past more h.0 l.0 (omega (arith, n)) m.0 k.0 h.1 l.1 in
      let step : r.step ≡ s.step = m.1 ∙ ap (step_after number) t.0 ∙ sym k.1 in
      let leads : Leads service l.0 (lines_of s.step.deed) v =
      subst (λ (x : World service.State). Leads service x (lines_of s.step.deed) v) t.1 (subst (λ (x : Step). Leads service h.0 (lines_of x.deed) v) step h.2.leads) in
      let world : v ≡ u = one_lead (lines_of s.step.deed) l.0 v u leads l.2.leads in
      let out : l.0.out ++ h.2.lines ≡ l.0.out ++ l.2.lines =
      ap (λ (x : World service.State). x.out ++ h.2.lines) (sym t.1) ∙ sym h.2.printed ∙ ap (λ (x : World service.State). x.out) world ∙ l.2.printed in
      let lines : h.2.lines ≡ l.2.lines = append_cancel_left l.0.out h.2.lines l.2.lines out in
      let answers : r.answers ≡ s.answers = h.2.answers ∙ ap answered_pdus lines ∙ sym l.2.answers in
      ((λ i. record { step = step i; answers = answers i } ∷ t.0 i), world)

pub one_load : (service : Service) → OneLoad service
one_load service determined number steps end end' h l =
    let t = one_row service determined number h.rounds l.rounds h.last l.last (h.many ∙ sym l.many) h.made l.made h.plays l.plays in
    one_close service determined l.last end end' (subst (λ (x : World service.State). Closes service x end) t.1 h.closes) l.closes

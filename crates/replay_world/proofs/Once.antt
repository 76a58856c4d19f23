-- A text has one replay.
use Rattle.std.proofs.Common.{◌≡◌, ℕ, List, [], ◌∷◌, sym, subst, ◌∙◌}
use Rattle.replay_script.specs.declared.line.Line.{Line}
use Rattle.replay_script.specs.declared.line.Line.TheVariants as lines
use Rattle.replay_script.proofs.Fronts.{lines_unique}
use Rattle.replay_world.specs.declared.peer.Standing.{Standing}
use Rattle.replay_world.specs.declared.peer.Standing.TheVariants.{Open, Closed, Lost}
use Rattle.replay_world.specs.Services.{Service, IsDetermined}
use Rattle.replay_world.specs.Worlds.{Peer, World, booted}
use Rattle.replay_world.specs.Printing.{out_text}
use Rattle.replay_world.specs.Plays.{Finishes}
use Rattle.replay_world.specs.Replays.{names_of, log_text, Leads, LosesIfOpen, LosesAll, FinishesAll, Closes, PlaysTo, EndsAs, Replays}
use Rattle.replay_world.proofs.ReplayLines.{one_peer, one_finish, one_loss, one_line}

module _ (service : Service) (determined : IsDetermined service) where
  one_lead : (script : List Line) (w v u : World service.State) → Leads service w script v → Leads service w script u → v ≡ u
  one_lead [] w v u h l = h ∙ sym l
  one_lead (line ∷ more) w v u h l =
      let one : h.0 ≡ l.0 = one_line service determined w h.0 l.0 line h.1 l.1 in
      one_lead more l.0 v u (subst (λ (x : World service.State). Leads service x more v) one h.2) l.2

  one_if_open : (w v u : World service.State) (p : Peer) (s : Standing) → LosesIfOpen service w p s v → LosesIfOpen service w p s u → v ≡ u
  one_if_open w v u p Open h l = one_loss service determined w v u p h l
  one_if_open w v u p Closed h l = h ∙ sym l
  one_if_open w v u p Lost h l = h ∙ sym l

  all_lost : (names : List ℕ) (w v u : World service.State) → LosesAll service w names v → LosesAll service w names u → v ≡ u
  all_lost [] w v u h l = h ∙ sym l
  all_lost (c ∷ cs) w v u h l =
      let one : h.0 ≡ l.0 =
      one_peer service determined c w (λ (p : Peer). LosesIfOpen service w p p.standing h.0) (λ (p : Peer). LosesIfOpen service w p p.standing l.0) (h.0 ≡ l.0)
      (λ p a b. one_if_open w h.0 l.0 p p.standing a b) h.1 l.1 in
      all_lost cs l.0 v u (subst (λ (x : World service.State). LosesAll service x cs v) one h.2) l.2

  all_finished : (names : List ℕ) (w v u : World service.State) → FinishesAll service w names v → FinishesAll service w names u → v ≡ u
  all_finished [] w v u h l = h ∙ sym l
  all_finished (c ∷ cs) w v u h l =
      let one : h.0 ≡ l.0 =
      one_peer service determined c w (λ (p : Peer). Finishes service c w p p.member p.unanswered w h.0) (λ (p : Peer). Finishes service c w p p.member p.unanswered w l.0) (h.0 ≡ l.0)
      (λ p a b. one_finish service determined c w h.0 l.0 w p p.member p.unanswered a b) h.1 l.1 in
      all_finished cs l.0 v u (subst (λ (x : World service.State). FinishesAll service x cs v) one h.2) l.2

  one_close : (w v u : World service.State) → Closes service w v → Closes service w u → v ≡ u
  one_close w v u h l =
      let one : h.0 ≡ l.0 = all_lost (names_of w) w h.0 l.0 h.1 l.1 in
      all_finished (names_of l.0) l.0 v u (subst (λ (x : World service.State). FinishesAll service x (names_of x) v) one h.2) l.2

  one_play : (script : List Line) (v u : World service.State) → PlaysTo service script v → PlaysTo service script u → v ≡ u
  one_play [] v u h l = absurd h
  one_play (lines.Boot word ∷ more) v u h l = one_lead more (booted word service.start) v u h l
  one_play (lines.Open c ∷ more) v u h l = absurd h
  one_play (lines.Send c octets ∷ more) v u h l = absurd h
  one_play (lines.Run c ∷ more) v u h l = absurd h
  one_play (lines.Finish c ∷ more) v u h l = absurd h
  one_play (lines.Lose c ∷ more) v u h l = absurd h

  one_world : (script : List Line) (v u : World service.State) → EndsAs service script v → EndsAs service script u → v ≡ u
  one_world script v u h l =
      let one : h.last ≡ l.last = one_play script h.last l.last h.plays l.plays in
      one_close l.last v u (subst (λ (x : World service.State). Closes service x v) one h.closes) l.closes

pub one_replay : (service : Service) → IsDetermined service
    → (text out log out' log' : List ℕ) → Replays service text out log → Replays service text out' log' → (out ≡ out') × (log ≡ log')
one_replay service determined text out log out' log' h l =
    let script : h.lines ≡ l.lines = lines_unique h.lines l.lines h.fits l.fits (sym h.written ∙ l.written) in
    let one : h.end ≡ l.end = one_world service determined l.lines h.end l.end (subst (λ (x : List Line). EndsAs service x h.end) script h.ends) l.ends in
    (h.printed ∙ (λ i. out_text (one i).out) ∙ sym l.printed, h.logged ∙ (λ i. log_text (one i)) ∙ sym l.logged)

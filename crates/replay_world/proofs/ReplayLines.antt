-- A line of a script does one thing.
use Rattle.std.proofs.Common.{◌≡◌, ℕ, Bool, true, false, Option, Some, None, List, sym, ap, subst, ◌∙◌}
use Rattle.handle_model.specs.History.{History}
use Rattle.handle_model.specs.Journal as journals
use Rattle.group_core.specs.declared.answer.Taking.{Taking}
use Rattle.group_core.specs.declared.answer.Taking.TheVariants as taking
use Rattle.group_core.specs.Calls.{Takes}
use Rattle.replay_script.specs.declared.line.Line.{Line}
use Rattle.replay_script.specs.declared.line.Line.TheVariants as lines
use Rattle.replay_world.specs.declared.peer.Member.{Member}
use Rattle.replay_world.specs.declared.peer.Unanswered.{Unanswered}
use Rattle.replay_world.specs.declared.peer.Unanswered.TheVariants.{Nothing, Bind, Refused, Call}
use Rattle.replay_world.specs.declared.peer.Standing.{Standing}
use Rattle.replay_world.specs.declared.peer.Standing.TheVariants.{Open, Closed, Lost}
use Rattle.replay_world.specs.Services.{Service, IsDetermined}
use Rattle.replay_world.specs.Worlds.{Peer, World, with_peer, journal}
use Rattle.replay_world.specs.Events.{GoesOnAt}
use Rattle.replay_world.specs.Plays.{idles, SendsAt, TriedAs, Tries, GoesOnIfOpen, EndsAt, IfRuns, Finishes, lost, Loses, LosesAt, OfPeer, Plays}
use Rattle.replay_world.proofs.Basics.{some_is}
use Rattle.replay_world.proofs.Groups.{one_take, one_going}
use Rattle.replay_world.proofs.Ended.{one_end}
use Rattle.replay_world.proofs.ReplayEvents.{one_leaving, on_came, one_course}

module _ (service : Service) (determined : IsDetermined service) where
  pub one_peer : (c : ℕ) (w : World service.State) (P Q : Peer → Type 0) (R : Type 0) → ((p : Peer) → P p → Q p → R) → OfPeer service c w P → OfPeer service c w Q → R
  one_peer c w P Q R both h l =
      let same : h.0 ≡ l.0 = some_is h.0 l.0 (sym h.1 ∙ l.1) in
      both l.0 (subst P same h.2) l.2

  one_send : (c : ℕ) (octets : List ℕ) (w v u : World service.State) (s : Standing) → SendsAt service c octets w s v → SendsAt service c octets w s u → v ≡ u
  one_send c octets w v u Open h l =
      one_course service determined c l.0 v u
      (subst (λ (x : World service.State). GoesOnAt service c x v) (on_came service determined c w h.0 l.0 octets h.1 l.1) h.2) l.2
  one_send c octets w v u Closed h l = h ∙ sym l
  one_send c octets w v u Lost h l = absurd h

  one_trial : (c : ℕ) (w v u : World service.State) (a : Taking) → TriedAs service c w a v → TriedAs service c w a u → v ≡ u
  one_trial c w v u (taking.Run row serial) h l = h ∙ sym l
  one_trial c w v u (taking.Denied slot) h l = one_course service determined c w v u h l
  one_trial c w v u (taking.Wait m) h l = h ∙ sym l
  one_trial c w v u taking.Dropped h l = h ∙ sym l

  one_try : (c : ℕ) (w v u : World service.State) (o : Option Member) (x : Unanswered) → Tries service c w o x v → Tries service c w o x u → v ≡ u
  one_try c w v u None x h l = h ∙ sym l
  one_try c w v u (Some m) Nothing h l = h ∙ sym l
  one_try c w v u (Some m) (Bind asked) h l = h ∙ sym l
  one_try c w v u (Some m) (Refused status) h l = h ∙ sym l
  one_try c w v u (Some m) (Call k) h l =
      let both : (x y : History) → Takes (journal w m.group) k h.0 x → Takes (journal w m.group) k l.0 y → (h.0 ≡ l.0) × (x ≡ y) =
      λ x y a b. one_take (journal w m.group) x y k h.0 l.0 a b in
      let answer : h.0 ≡ l.0 = (one_take (journal w m.group) _ _ k h.0 l.0 h.2.1 l.2.1).0 in
      let world : h.1 ≡ l.1 =
      one_going (λ (old new : History). Takes old k h.0 new) (λ (old new : History). Takes old k l.0 new) w h.1 l.1 m.group (λ x y a b. (both x y a b).1) h.2 l.2 in
      let by_answer : TriedAs service c h.1 l.0 v = subst (λ (a : Taking). TriedAs service c h.1 a v) answer h.3 in
      one_trial c l.1 v u l.0 (subst (λ (x : World service.State). TriedAs service c x l.0 v) world by_answer) l.3

  going_on : (c : ℕ) (w v u : World service.State) (s : Standing) → GoesOnIfOpen service c w s v → GoesOnIfOpen service c w s u → v ≡ u
  going_on c w v u Open h l = one_course service determined c w v u h l
  going_on c w v u Closed h l = h ∙ sym l
  going_on c w v u Lost h l = h ∙ sym l

  one_at_end : (c : ℕ) (w v u : World service.State) (p : Peer) (m : Member) (k : ℕ) → EndsAt service c w p m k v → EndsAt service c w p m k u → v ≡ u
  one_at_end c w v u p m k h l =
      let world : h.0 ≡ l.0 = one_end service determined w h.0 l.0 m k h.1 l.1 in
      going_on c l.0 v u p.standing (subst (λ (x : World service.State). GoesOnIfOpen service c x p.standing v) world h.2) l.2

  one_if : (b : Bool) (A B C D : Type 0) (R : Type 0) → (A → B → R) → (C → D → R) → IfRuns service b A C → IfRuns service b B D → R
  one_if true A B C D R this that h l = this h l
  one_if false A B C D R this that h l = that h l

  pub one_finish : (c : ℕ) (w v u otherwise : World service.State) (p : Peer) (o : Option Member) (x : Unanswered) → Finishes service c w p o x otherwise v → Finishes service c w p o x otherwise u → v ≡ u
  one_finish c w v u otherwise p None x h l = h ∙ sym l
  one_finish c w v u otherwise p (Some m) Nothing h l = h ∙ sym l
  one_finish c w v u otherwise p (Some m) (Bind asked) h l = h ∙ sym l
  one_finish c w v u otherwise p (Some m) (Refused status) h l = h ∙ sym l
  one_finish c w v u otherwise p (Some m) (Call k) h l =
      one_if (journals.runs (journal w m.group) k) (EndsAt service c w p m k v) (EndsAt service c w p m k u) (v ≡ otherwise) (u ≡ otherwise) (v ≡ u)
      (λ a b. one_at_end c w v u p m k a b) (λ a b. a ∙ sym b) h l

  pub one_loss : (w v u : World service.State) (p : Peer) → Loses service w p v → Loses service w p u → v ≡ u
  one_loss w v u p h l =
      let world : h.0 ≡ l.0 = one_leaving service determined p.member w h.0 l.0 h.1 l.1 in
      h.2 ∙ ap (λ (x : World service.State). with_peer x (lost service p)) world ∙ sym l.2

  one_loss_at : (w v u : World service.State) (p : Peer) (s : Standing) → LosesAt service w p s v → LosesAt service w p s u → v ≡ u
  one_loss_at w v u p Open h l = one_loss w v u p h l
  one_loss_at w v u p Closed h l = h ∙ sym l
  one_loss_at w v u p Lost h l = absurd h

  pub one_line : (w v u : World service.State) (line : Line) → Plays service w line v → Plays service w line u → v ≡ u
  one_line w v u (lines.Boot word) h l = absurd h
  one_line w v u (lines.Open c) h l = h.1 ∙ sym l.1
  one_line w v u (lines.Send c octets) h l =
      one_peer c w (λ (p : Peer). SendsAt service c octets w p.standing v) (λ (p : Peer). SendsAt service c octets w p.standing u) (v ≡ u) (λ p a b. one_send c octets w v u p.standing a b) h l
  one_line w v u (lines.Run c) h l =
      one_peer c w (λ (p : Peer). Tries service c w p.member p.unanswered v) (λ (p : Peer). Tries service c w p.member p.unanswered u) (v ≡ u) (λ p a b. one_try c w v u p.member p.unanswered a b) h l
  one_line w v u (lines.Finish c) h l =
      one_peer c w (λ (p : Peer). Finishes service c w p p.member p.unanswered (idles c w) v) (λ (p : Peer). Finishes service c w p p.member p.unanswered (idles c w) u) (v ≡ u)
      (λ p a b. one_finish c w v u (idles c w) p p.member p.unanswered a b) h l
  one_line w v u (lines.Lose c) h l =
      one_peer c w (λ (p : Peer). LosesAt service w p p.standing v) (λ (p : Peer). LosesAt service w p p.standing u) (v ≡ u) (λ p a b. one_loss_at w v u p p.standing a b) h l

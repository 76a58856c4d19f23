-- What is printed stays, and more is printed behind it.
use Rattle.std.proofs.Common.{◌≡◌, ℕ, Bool, true, false, Option, Some, None, List, [], ◌∷◌, ◌++◌, refl, sym, ap, subst, ◌∙◌, append-nil, append_assoc}
use Rattle.handle_model.specs.Journal.{runs}
use Rattle.group_core.specs.declared.answer.Taking.{Taking}
use Rattle.group_core.specs.declared.answer.Taking.TheVariants as taking
use Rattle.group_core.specs.Calls.{Takes}
use Rattle.conn_histories.specs.Histories.{Event}
use Rattle.conn_histories.specs.Histories.Event.{Came, Paused, Did, Decided}
use Rattle.replay_script.specs.declared.line.Line.{Line}
use Rattle.replay_script.specs.declared.line.Line.TheVariants as lines
use Rattle.replay_world.specs.declared.peer.Member.{Member}
use Rattle.replay_world.specs.declared.peer.Unanswered.{Unanswered}
use Rattle.replay_world.specs.declared.peer.Unanswered.TheVariants.{Nothing, Bind, Refused, Call}
use Rattle.replay_world.specs.declared.peer.Standing.{Standing}
use Rattle.replay_world.specs.declared.peer.Standing.TheVariants.{Open, Closed, Lost}
use Rattle.replay_world.specs.Services.{Service}
use Rattle.replay_world.specs.Worlds.{Peer, Printed, World, journal}
use Rattle.replay_world.specs.Worlds.Printed.{Waits, Idle}
use Rattle.replay_world.specs.Events.{HappensOn, RestsAt, HappenOn, GoesOnAt}
use Rattle.replay_world.specs.Plays.{idles, SendsAt, TriedAs, Tries, GoesOnIfOpen, EndsAt, IfRuns, Finishes, Loses, LosesAt, Plays}
use Rattle.replay_world.specs.Replays.{Leads}
use Rattle.replay.proofs.Still.{means_still, still_on, still_left}

pub record Grew {S : Type 0} (w v : World S) : Type 0 where
  pub more : List Printed
  pub out : v.out ≡ w.out ++ more

same_out : {S : Type 0} (w v : World S) → v.out ≡ w.out → Grew w v
same_out w v e = record { more = []; out = e ∙ sym (append-nil w.out) }

same : {S : Type 0} (w v : World S) → v ≡ w → Grew w v
same w v e = same_out w v (ap (λ (z : World _). z.out) e)

twice : {S : Type 0} (w u v : World S) → Grew w u → Grew u v → Grew w v
twice w u v a b = record {
  more = a.more ++ b.more;
  out = b.out ∙ ap (λ (l : List Printed). l ++ b.more) a.out ∙ append_assoc w.out a.more b.more;
}

prints : {S : Type 0} (w v : World S) (line : Printed) → v ≡ record w { out = w.out ++ line ∷ [] } → Grew w v
prints w v line e = record { more = line ∷ []; out = ap (λ (z : World _). z.out) e }

module _ (service : Service) where
  happens_grew : (c : ℕ) (w v : World service.State) (event : Event) → HappensOn service c w event v → Grew w v
  happens_grew c w v event t = record {
    more = t.lines;
    out = ap (λ (z : World service.State). z.out) t.then_ ∙ ap (λ (l : List Printed). l ++ t.lines) (means_still service w t.between t.peer t.after event t.means).out;
  }

  rests_grew : (c : ℕ) (w v : World service.State) (s : Standing) → RestsAt service c w s v → Grew w v
  rests_grew c w v Open t = happens_grew c w v Paused t
  rests_grew c w v Closed t = same w v t
  rests_grew c w v Lost t = same w v t

  happen_grew : (c : ℕ) (events : List Event) (w v : World service.State) → HappenOn service c w events v → Grew w v
  happen_grew c [] w v t = rests_grew c w v t.0.standing t.2
  happen_grew c (Did act ∷ more) w v t = twice w t.0 v (happens_grew c w t.0 (Did act) t.1) (happen_grew c more t.0 v t.2)
  happen_grew c (Decided decision octets ∷ more) w v t = twice w t.0 v (happens_grew c w t.0 (Decided decision octets) t.1) (happen_grew c more t.0 v t.2)
  happen_grew c (Came octets ∷ more) w v t = absurd t
  happen_grew c (Paused ∷ more) w v t = absurd t

  goes_grew : (c : ℕ) (w v : World service.State) → GoesOnAt service c w v → Grew w v
  goes_grew c w v t = happen_grew c t.0 w v t.1

  -- ---- lines

  sends_grew : (c : ℕ) (octets : List ℕ) (w v : World service.State) (s : Standing) → SendsAt service c octets w s v → Grew w v
  sends_grew c octets w v Open t = twice w t.0 v (happens_grew c w t.0 (Came octets) t.1) (goes_grew c t.0 v t.2)
  sends_grew c octets w v Closed t = same w v t
  sends_grew c octets w v Lost t = absurd t

  tried_grew : (c : ℕ) (u v : World service.State) (answer : Taking) → TriedAs service c u answer v → Grew u v
  tried_grew c u v (taking.Run row serial) t = same u v t
  tried_grew c u v (taking.Denied slot) t = goes_grew c u v t
  tried_grew c u v (taking.Wait m) t = prints u v (Waits c m) t
  tried_grew c u v taking.Dropped t = prints u v (Idle c) t

  tries_grew : (c : ℕ) (w v : World service.State) (o : Option Member) (x : Unanswered) → Tries service c w o x v → Grew w v
  tries_grew c w v None x t = prints w v (Idle c) t
  tries_grew c w v (Some m) Nothing t = prints w v (Idle c) t
  tries_grew c w v (Some m) (Bind asked) t = prints w v (Idle c) t
  tries_grew c w v (Some m) (Refused status) t = prints w v (Idle c) t
  tries_grew c w v (Some m) (Call k) t =
      twice w t.1 v (same_out w t.1 (still_on (λ old new. Takes old k t.0 new) w t.1 m.group t.2).out) (tried_grew c t.1 v t.0 t.3)

  if_open_grew : (c : ℕ) (u v : World service.State) (s : Standing) → GoesOnIfOpen service c u s v → Grew u v
  if_open_grew c u v Open t = goes_grew c u v t
  if_open_grew c u v Closed t = same u v t
  if_open_grew c u v Lost t = same u v t

  ends_grew : (c : ℕ) (w v : World service.State) (p : Peer) (m : Member) (k : ℕ) → EndsAt service c w p m k v → Grew w v
  ends_grew c w v p m k t = twice w t.0 v (same_out w t.0 (ap (λ (z : World service.State). z.out) t.1.settles.after)) (if_open_grew c t.0 v p.standing t.2)

  if_runs_grew : (b : Bool) (c : ℕ) (w v : World service.State) (p : Peer) (m : Member) (k : ℕ) → IfRuns service b (EndsAt service c w p m k v) (v ≡ idles c w) → Grew w v
  if_runs_grew true c w v p m k t = ends_grew c w v p m k t
  if_runs_grew false c w v p m k t = prints w v (Idle c) t

  finishes_grew : (c : ℕ) (w v : World service.State) (p : Peer) (o : Option Member) (x : Unanswered) → Finishes service c w p o x (idles c w) v → Grew w v
  finishes_grew c w v p None x t = prints w v (Idle c) t
  finishes_grew c w v p (Some m) Nothing t = prints w v (Idle c) t
  finishes_grew c w v p (Some m) (Bind asked) t = prints w v (Idle c) t
  finishes_grew c w v p (Some m) (Refused status) t = prints w v (Idle c) t
  finishes_grew c w v p (Some m) (Call k) t = if_runs_grew (runs (journal w m.group) k) c w v p m k t

  loses_grew : (w v : World service.State) (p : Peer) → Loses service w p v → Grew w v
  loses_grew w v p t = same_out w v (ap (λ (z : World service.State). z.out) t.2 ∙ (still_left service w t.0 p.member t.1).out)

  lose_grew : (w v : World service.State) (p : Peer) (s : Standing) → LosesAt service w p s v → Grew w v
  lose_grew w v p Open t = loses_grew w v p t
  lose_grew w v p Closed t = same w v t
  lose_grew w v p Lost t = absurd t

  plays_grew : (w v : World service.State) (line : Line) → Plays service w line v → Grew w v
  plays_grew w v (lines.Boot word) t = absurd t
  plays_grew w v (lines.Open c) t = same_out w v (ap (λ (z : World service.State). z.out) t.1)
  plays_grew w v (lines.Send c octets) t = sends_grew c octets w v t.0.standing t.2
  plays_grew w v (lines.Run c) t = tries_grew c w v t.0.member t.0.unanswered t.2
  plays_grew w v (lines.Finish c) t = finishes_grew c w v t.0 t.0.member t.0.unanswered t.2
  plays_grew w v (lines.Lose c) t = lose_grew w v t.0 t.0.standing t.2

  pub leads_grew : (w v : World service.State) (script : List Line) → Leads service w script v → Grew w v
  leads_grew w v [] t = same w v t
  leads_grew w v (line ∷ more) t = twice w t.0 v (plays_grew w t.0 line t.1) (leads_grew t.0 v more t.2)

  -- a line behind lines
  pub leads_last : (w u v : World service.State) (front : List Line) (last : Line) → Leads service w front u → Plays service u last v → Leads service w (front ++ last ∷ []) v
  leads_last w u v [] last l p = (v, subst (λ (x : World service.State). Plays service x last v) l p, refl)
  leads_last w u v (line ∷ more) last l p = (l.0, l.1, leads_last l.0 u v more last l.2 p)

-- Which parts of a world an event leaves as they are.
use Rattle.std.proofs.Common.{◌≡◌, ◌==◌, ℕ, Bool, true, false, if◌then◌else◌, Option, Some, None, Ok, [], ◌∷◌, ◌++◌, refl, sym, ap, subst, ◌∙◌, inl, inr}
use Rattle.handle_model.specs.declared.entry.Entry.{Entry}
use Rattle.handle_model.specs.declared.entry.Entry.TheVariants.{Leave}
use Rattle.handle_model.specs.History.{History}
use Rattle.conn_asks.specs.declared.events.Act.{Act}
use Rattle.conn_asks.specs.declared.events.Act.TheVariants as acts
use Rattle.conn_histories.specs.Histories.{Decision, Event}
use Rattle.conn_histories.specs.Histories.Event.{Came, Paused, Did, Decided}
use Rattle.conn_histories.specs.Histories.Decision.{ToGroup, RefuseGroup, Reply}
use Rattle.group_core.specs.declared.answer.Cancelled.{Cancelled as CancelAnswer}
use Rattle.group_core.specs.declared.answer.Orphaned.{Orphaned as OrphanAnswer}
use Rattle.group_core.specs.Calls.{Accepts, Cancels, Orphans}
use Rattle.replay_world.specs.declared.peer.Member.{Member}
use Rattle.replay_world.specs.declared.peer.Unanswered.{Unanswered}
use Rattle.replay_world.specs.declared.peer.Unanswered.TheVariants.{Nothing, Bind, Refused, Call}
use Rattle.replay_world.specs.Services.{Service}
use Rattle.replay_world.specs.Worlds.{Peer, World}
use Rattle.replay_world.specs.Groups.{joined, GoesOn, CancelsIn, OrphansIn, CancelsMarked, SettlesIn}
use Rattle.replay_world.specs.Events.{LeavesIts, request, Requests, ActMeans, Says, Decides, Means}
use Rattle.conn_histories.specs.Entries.{asked_as}
use Rattle.replay.proofs.Reaching.{of_member, of_call}

-- the connections and what was printed
pub record Still {S : Type 0} (w v : World S) : Type 0 where
  pub peers : v.peers ≡ w.peers
  pub out : v.out ≡ w.out

pub still : {S : Type 0} (w v : World S) → v ≡ w → Still w v
still w v e = record { peers = ap (λ (z : World _). z.peers) e; out = ap (λ (z : World _). z.out) e }

pub still_on : {S : Type 0} (Says : History → History → Type 0) (w v : World S) (g : ℕ) → GoesOn Says w g v → Still w v
still_on Says w v g t = record { peers = ap (λ (z : World _). z.peers) t.2; out = ap (λ (z : World _). z.out) t.2 }

still_twice : {S : Type 0} (w u v : World S) → Still w u → Still u v → Still w v
still_twice w u v a b = record { peers = b.peers ∙ a.peers; out = b.out ∙ a.out }

still_marked : {S : Type 0} (b : Bool) (w v : World S) (g k : ℕ) → CancelsMarked b w g k v → Still w v
still_marked true w v g k t = still_on (λ old new. (answer : CancelAnswer) × Cancels old k answer new) w v g t
still_marked false w v g k t = still w v t

pub still_settled : (service : Service) (w v : World service.State) (g : ℕ) (e : Entry) → SettlesIn service w g e v → Still w v
still_settled service w v g e t = record { peers = ap (λ (z : World service.State). z.peers) t.after; out = ap (λ (z : World service.State). z.out) t.after }

pub still_left : (service : Service) (w b : World service.State) (o : Option Member) → LeavesIts service o w b → Still w b
still_left service w b None t = still w b t
still_left service w b (Some m) t = still_settled service w b m.group (Leave m.number) t

opened_still : {S : Type 0} (w : World S) (b : Bool) → Still w (if b then record w { groups = w.groups ++ [] ∷ [] } else w)
opened_still w true = record { peers = refl; out = refl }
opened_still w false = record { peers = refl; out = refl }

joined_still : {S : Type 0} (w : World S) (asked : ℕ) → Still w (joined w asked)
joined_still w asked = let s = opened_still w (asked == 0) in record { peers = s.peers; out = s.out }

module _ (service : Service) (w b : World service.State) (p a : Peer) where
  act_still : (act : Act) → ActMeans service w p act a b → Still w b
  act_still (acts.Answer octets) t = still w b t.1
  act_still (acts.Group n) t = still w b t.1
  act_still (acts.Call j iface) t =
      of_member p.member (λ m. Requests service w p j iface m a b) (Still w b)
      (λ m r. elim r [
        | inl f ↦ still w b f.3
        | inr f ↦
            still_twice w f.1.accepted b (still_on (λ old new. Accepts old (asked_as m.number (request j iface) f.1.slots) (Ok f.0) new) w f.1.accepted m.group f.1.accepts)
            (still_marked j.cancel f.1.accepted b m.group f.0 f.1.marked)
      ]) t
  act_still (acts.Cancel id) t =
      of_call p.member p.unanswered (λ g k. CancelsIn w g k b) (Still w b) (λ g k r. still_on (λ old new. (answer : CancelAnswer) × Cancels old k answer new) w b g r) t.1
  act_still (acts.Orphan id) t =
      of_call p.member p.unanswered (λ g k. OrphansIn w g k b) (Still w b) (λ g k r. still_on (λ old new. (answer : OrphanAnswer) × Orphans old k answer new) w b g r) t.1
  act_still (acts.Close octets why) t = still_left service w b p.member t.1

  decides_still : (x : Unanswered) (decision : Decision) → Decides service w p x decision a b → Still w b
  decides_still Nothing decision t = absurd t
  decides_still (Bind asked) (ToGroup group) t = subst (λ (z : World service.State). Still w z) (sym t.3) (joined_still w asked)
  decides_still (Bind asked) (RefuseGroup reason) t = still w b t.2
  decides_still (Bind asked) (Reply said executed) t = absurd t
  decides_still (Refused status) decision t = still w b t.1
  decides_still (Call k) decision t = still w b t.1

  pub means_still : (event : Event) → Means service w p event a b → Still w b
  means_still (Came octets) t = still w b t.1
  means_still Paused t = still w b t.2
  means_still (Did act) t = act_still act t.1
  means_still (Decided decision octets) t = decides_still p.unanswered decision t.1

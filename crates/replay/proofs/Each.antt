-- What each line does to the connection in hand.
use Rattle.std.specs.Prelude.{⊤}
use Rattle.std.proofs.Common.{◌≡◌, ◌≢◌, ℕ, Bool, true, false, Option, Some, None, List, [], ◌∷◌, refl, sym, ap, subst, ◌∙◌}
use Rattle.ndr_table.specs.Tables.{TableForm}
use Rattle.handle_model.specs.Journal as journals
use Rattle.group_core.specs.declared.answer.Taking.{Taking}
use Rattle.group_core.specs.declared.answer.Taking.TheVariants as taking
use Rattle.conn_histories.specs.Histories.Event.{Came}
use Rattle.desk_service.specs.State.{Services}
use Rattle.replay_script.specs.declared.line.Line.{Line}
use Rattle.replay_script.specs.declared.line.Line.TheVariants as lines
use Rattle.replay_world.specs.declared.peer.Member.{Member}
use Rattle.replay_world.specs.declared.peer.Unanswered.{Unanswered}
use Rattle.replay_world.specs.declared.peer.Unanswered.TheVariants.{Nothing, Bind, Refused, Call}
use Rattle.replay_world.specs.declared.peer.Standing.{Standing}
use Rattle.replay_world.specs.declared.peer.Standing.TheVariants.{Open, Closed, Lost}
use Rattle.replay_world.specs.Services.{Service}
use Rattle.replay_world.specs.Worlds.{Peer, World, peer_at, journal, printing}
use Rattle.replay_world.specs.Worlds.Printed.{Waits, Idle}
use Rattle.replay_world.specs.Events.{HappensOn, GoesOnAt}
use Rattle.replay_world.specs.Plays as worlds
use Rattle.replay_world.specs.Plays.{idles, SendsAt, Tries, TriedAs, Ends, EndsAt, IfRuns, Finishes, GoesOnIfOpen, Loses, LosesAt}
use Rattle.replay_world.specs.Replays.{LosesIfOpen}
use Rattle.replay_groups.specs.Service.{service_of}
use Rattle.replay_events.specs.declared.played.Played.{Played}
use Rattle.replay_events.specs.declared.player.Player.{Player}
use Rattle.replay_events.specs.Standing.{Handles}
use Rattle.replay_events.specs.Hands.{IsInHand, Leads, Picks, PutsBack, OpensAs, HappensIn, GoesOnIn, TakesIn, EndsIn, EndsAs, LosesIn}
use Rattle.replay.specs.Lines.{HasWorld, PlaysLine, BarsLine, Comes}
use Rattle.replay.specs.Hands.{Does, MayDo, HasNoCall, PrintsIn, TriesIn, FollowsIn, EndsOrElse, MayEnd, LosesIfThere}
use Rattle.replay.proofs.Hands.{in_hand, still, stays, leads_as, leads_both, plays_by, none_some, absent, one_peer, of_peer}

-- ---- where the line may not come

-- no connection of that name was opened
pub absent_send : (x y : Player) (c : ℕ) (octets : List ℕ) → Picks c x None y → BarsLine x (lines.Send c octets)
absent_send x y c octets k echo w s m = absent x y c k echo w (λ p. p.standing ≢ Lost) s m

pub absent_run : (x y : Player) (c : ℕ) → Picks c x None y → BarsLine x (lines.Run c)
absent_run x y c k echo w s m = absent x y c k echo w (λ p. ⊤) s m

pub absent_finish : (x y : Player) (c : ℕ) → Picks c x None y → BarsLine x (lines.Finish c)
absent_finish x y c k echo w s m = absent x y c k echo w (λ p. ⊤) s m

pub absent_lose : (x y : Player) (c : ℕ) → Picks c x None y → BarsLine x (lines.Lose c)
absent_lose x y c k echo w s m = absent x y c k echo w (λ p. p.standing ≢ Lost) s m

-- it was lost
lost_there : (x y : Player) (c : ℕ) (t : Played) → Picks c x (Some t) y → t.standing ≡ Lost → (echo : Option TableForm) (w : World Services) → Handles echo y t w → (p : Peer) → peer_at w c ≡ Some p → p.standing ≡ Lost
lost_there x y c t k e echo w h p there =
    let one = one_peer echo y t w p h (subst (λ (n : ℕ). peer_at w n ≡ Some p) (sym k.0) there) in
    ap (λ (z : Peer). z.standing) one ∙ sym h.shows.standing ∙ e

pub lost_send : (x y : Player) (c : ℕ) (t : Played) (octets : List ℕ) → Picks c x (Some t) y → t.standing ≡ Lost → BarsLine x (lines.Send c octets)
lost_send x y c t octets k e echo w s m = m.2 (lost_there x y c t k e echo w (k.1 echo w s) m.0 m.1)

pub lost_lose : (x y : Player) (c : ℕ) (t : Played) → Picks c x (Some t) y → t.standing ≡ Lost → BarsLine x (lines.Lose c)
lost_lose x y c t k e echo w s m = m.2 (lost_there x y c t k e echo w (k.1 echo w s) m.0 m.1)

-- ---- where it is played

pub plays_named : (line : ℕ → Line) (c : ℕ) (x y z p : Player) (t u : Played) → Picks c x (Some t) y → Leads (Does (line t.name)) y t z u → PutsBack z u p → PlaysLine x (line c) p
plays_named line c x y z p t u k l b =
    plays_by (Does (line c)) c x y z p t u k (subst (λ (n : ℕ). Leads (Does (line n)) y t z u) k.0 l) b

pub opened : (c : ℕ) (b : Bool) (x y : Player) → OpensAs c b x y → Comes x (lines.Open c) b y
opened c true x y h = h
opened c false x y h = λ echo w s m. let t = h.1 echo w s in none_some t.0 (peer_at w c) m t.1

-- ---- OCTETS COME

sends_open : (service : Service) (c : ℕ) (octets : List ℕ) (w u v : World service.State) (s : Standing) → s ≡ Open → HappensOn service c w (Came octets) u → GoesOnAt service c u v → SendsAt service c octets w s v
sends_open service c octets w u v s e h g = subst (λ (x : Standing). SendsAt service c octets w x v) (sym e) (u, h, g)

pub sent : (octets : List ℕ) (x y z : Player) (t u r : Played) → t.standing ≡ Open → Leads (HappensIn t.name (Came octets)) x t y u → Leads (GoesOnIn u.name) y u z r → Leads (Does (lines.Send t.name octets)) x t z r
sent octets x y z t u r e l k =
    leads_both (HappensIn t.name (Came octets)) (GoesOnIn u.name) (Does (lines.Send t.name octets)) x y z t u r
    (λ echo w m v h a b.
    of_peer echo x t w (λ p. SendsAt (service_of echo) t.name octets w p.standing v) h
    (sends_open (service_of echo) t.name octets w m v h.peer.standing (sym h.shows.standing ∙ e) a (subst (λ (n : ℕ). GoesOnAt (service_of echo) n m v) l.0 b)))
    l k

pub unsent : (octets : List ℕ) (x : Player) (t : Played) → t.standing ≡ Closed → Leads (Does (lines.Send t.name octets)) x t x t
unsent octets x t e =
    stays (Does (lines.Send t.name octets)) x t
    (λ echo w h. of_peer echo x t w (λ p. SendsAt (service_of echo) t.name octets w p.standing w) h (subst (λ (s : Standing). SendsAt (service_of echo) t.name octets w s w) (sym e ∙ h.shows.standing) refl))

-- ---- A LOSS

pub loses : (x y : Player) (t u : Played) → t.standing ≡ Open → Leads (LosesIn t.name) x t y u → Leads (Does (lines.Lose t.name)) x t y u
loses x y t u e l =
    leads_as (LosesIn t.name) (Does (lines.Lose t.name)) x y t u
    (λ echo w v h a.
    let one = one_peer echo x t w a.0 h a.1 in
    let standing : a.0.standing ≡ Open = ap (λ (z : Peer). z.standing) one ∙ sym h.shows.standing ∙ e in
    (a.0, a.1, subst (λ (s : Standing). LosesAt (service_of echo) w a.0 s v) (sym standing) a.2))
    l

pub unlost : (x : Player) (t : Played) → t.standing ≡ Closed → Leads (Does (lines.Lose t.name)) x t x t
unlost x t e =
    stays (Does (lines.Lose t.name)) x t
    (λ echo w h. of_peer echo x t w (λ p. LosesAt (service_of echo) w p p.standing w) h (subst (λ (s : Standing). LosesAt (service_of echo) w h.peer s w) (sym e ∙ h.shows.standing) refl))

pub loses_there : (x y : Player) (t u : Played) → t.standing ≡ Open → Leads (LosesIn t.name) x t y u → Leads (LosesIfThere t.name) x t y u
loses_there x y t u e l =
    leads_as (LosesIn t.name) (LosesIfThere t.name) x y t u
    (λ echo w v h a.
    let one = one_peer echo x t w a.0 h a.1 in
    let standing : a.0.standing ≡ Open = ap (λ (z : Peer). z.standing) one ∙ sym h.shows.standing ∙ e in
    (a.0, a.1, subst (λ (s : Standing). LosesIfOpen (service_of echo) w a.0 s v) (sym standing) a.2))
    l

-- one that is not there
not_there : (service : Service) (w : World service.State) (p : Peer) (s : Standing) → s ≢ Open → LosesIfOpen service w p s w
not_there service w p Open never = absurd (never refl)
not_there service w p Closed never = refl
not_there service w p Lost never = refl

pub gone_already : (x : Player) (t : Played) → t.standing ≢ Open → Leads (LosesIfThere t.name) x t x t
gone_already x t never =
    stays (LosesIfThere t.name) x t
    (λ echo w h. of_peer echo x t w (λ p. LosesIfOpen (service_of echo) w p p.standing w) h (not_there (service_of echo) w h.peer h.peer.standing (λ e. never (h.shows.standing ∙ e))))

-- ---- A TRIAL

-- what the connection has is what the one in hand has
module _ (echo : Option TableForm) (x : Player) (t : Played) (w : World Services) (h : Handles echo x t w) where
  pub tries_with : (o : Option Member) (un : Unanswered) (v : World Services) → t.member ≡ o → t.unanswered ≡ un → Tries (service_of echo) t.name w o un v → worlds.Plays (service_of echo) w (lines.Run t.name) v
  tries_with o un v m n d =
      of_peer echo x t w (λ p. Tries (service_of echo) t.name w p.member p.unanswered v) h
      (subst (λ (z : Option Member). Tries (service_of echo) t.name w z h.peer.unanswered v) (sym m ∙ h.shows.member)
      (subst (λ (z : Unanswered). Tries (service_of echo) t.name w o z v) (sym n ∙ h.shows.unanswered) d))

  pub finishes_with : (otherwise : World Services → World Services) (o : Option Member) (un : Unanswered) (v : World Services) → t.member ≡ o → t.unanswered ≡ un
      → Finishes (service_of echo) t.name w h.peer o un (otherwise w) v → EndsOrElse otherwise t.name echo w v
  finishes_with otherwise o un v m n d =
      of_peer echo x t w (λ p. Finishes (service_of echo) t.name w p p.member p.unanswered (otherwise w) v) h
      (subst (λ (z : Option Member). Finishes (service_of echo) t.name w h.peer z h.peer.unanswered (otherwise w) v) (sym m ∙ h.shows.member)
      (subst (λ (z : Unanswered). Finishes (service_of echo) t.name w h.peer o z (otherwise w) v) (sym n ∙ h.shows.unanswered) d))

pub tried : (x y z : Player) (t u r : Played) (m : Member) (k : ℕ) (answer : Taking) → t.member ≡ Some m → t.unanswered ≡ Call k → Leads (TakesIn m k answer) x t y u → Leads (TriesIn u.name answer) y u z r
    → Leads (Does (lines.Run t.name)) x t z r
tried x y z t u r m k answer e n l f =
    leads_both (TakesIn m k answer) (TriesIn u.name answer) (Does (lines.Run t.name)) x y z t u r
    (λ echo w v' v h a b.
    tries_with echo x t w h (Some m) (Call k) v e n
    (answer, v', a, subst (λ (c : ℕ). TriedAs (service_of echo) c v' answer v) l.0 b))
    l f

pub followed_run : (x : Player) (t : Played) (row : List (Option ℕ)) (serial : ℕ) → Leads (TriesIn t.name (taking.Run row serial)) x t x t
followed_run x t row serial = stays (TriesIn t.name (taking.Run row serial)) x t (λ echo w h. refl)

-- no call is there
no_call : (service : Service) (c : ℕ) (w : World service.State) (o : Option Member) (un : Unanswered) → ((m : Member) (k : ℕ) → o ≡ Some m → un ≡ Call k → ⊥) → Tries service c w o un (idles c w)
no_call service c w None un never = refl
no_call service c w (Some m) Nothing never = refl
no_call service c w (Some m) (Bind asked) never = refl
no_call service c w (Some m) (Refused status) never = refl
no_call service c w (Some m) (Call k) never = absurd (never m k refl refl)

pub idle_by : (x y : Player) (t u : Played) → HasNoCall t → Leads (PrintsIn (Idle t.name ∷ [])) x t y u → Leads (Does (lines.Run t.name)) x t y u
idle_by x y t u never l =
    leads_as (PrintsIn (Idle t.name ∷ [])) (Does (lines.Run t.name)) x y t u
    (λ echo w v h a.
    tries_with echo x t w h t.member t.unanswered v refl refl
    (subst (λ (z : World Services). Tries (service_of echo) t.name w t.member t.unanswered z) (sym a) (no_call (service_of echo) t.name w t.member t.unanswered never)))
    l

-- ---- AN END

if_runs : (service : Service) (b : Bool) (This That : Type 0) → b ≡ true → This → IfRuns service b This That
if_runs service true This That e h = h
if_runs service false This That e h = absurd (cc)

if_not : (service : Service) (b : Bool) (This That : Type 0) → b ≡ false → That → IfRuns service b This That
if_not service true This That e h = absurd (cc)
if_not service false This That e h = h

pub ended : (x y z : Player) (t u r : Played) (m : Member) (k : ℕ) (standing : Standing) → standing ≡ t.standing → t.member ≡ Some m → t.unanswered ≡ Call k → Leads (EndsIn m k) x t y u → Leads (FollowsIn u.name standing) y u z r
    → MayEnd true x t z r
ended x y z t u r m k standing same e n l f otherwise =
    leads_both (EndsIn m k) (FollowsIn u.name standing) (EndsOrElse otherwise t.name) x y z t u r
    (λ echo w v' v h a b.
    let service = service_of echo in
    let is : standing ≡ h.peer.standing = same ∙ h.shows.standing in
    let on : GoesOnIfOpen service t.name v' h.peer.standing v = subst (λ (s : Standing). GoesOnIfOpen service t.name v' s v) is (subst (λ (c : ℕ). GoesOnIfOpen service c v' standing v) l.0 b) in
    finishes_with echo x t w h otherwise (Some m) (Call k) v e n
    (if_runs service (journals.runs (journal w m.group) k) (EndsAt service t.name w h.peer m k v) (v ≡ otherwise w) a.0 (v', a.1, on)))
    l f

pub not_running : (x : Player) (t : Played) (m : Member) (k : ℕ) → t.member ≡ Some m → t.unanswered ≡ Call k
    → ((echo : Option TableForm) (w : World Services) → Handles echo x t w → journals.runs (journal w m.group) k ≡ false) → MayEnd false x t x t
not_running x t m k e n not otherwise =
    stays (λ echo w v. EndsOrElse otherwise t.name echo w (otherwise w) × (v ≡ w)) x t
    (λ echo w h. (
      finishes_with echo x t w h otherwise (Some m) (Call k) (otherwise w) e n
          (if_not (service_of echo) (journals.runs (journal w m.group) k) (EndsAt (service_of echo) t.name w h.peer m k (otherwise w)) (otherwise w ≡ otherwise w) (not echo w h) refl),
      refl,
    ))

pub not_ended : (x y : Player) (t u : Played) (m : Member) (k : ℕ) → t.member ≡ Some m → t.unanswered ≡ Call k → EndsAs m k false x t y u → MayEnd false x t y u
not_ended x y t u m k e n h =
    subst (λ (z : Player). MayEnd false x t z u) (sym h.0) (subst (λ (r : Played). MayEnd false x t x r) (sym h.1) (not_running x t m k e n h.2))

none_ends : (service : Service) (c : ℕ) (w v : World service.State) (p : Peer) (o : Option Member) (un : Unanswered) → ((m : Member) (k : ℕ) → o ≡ Some m → un ≡ Call k → ⊥) → Finishes service c w p o un v v
none_ends service c w v p None un never = refl
none_ends service c w v p (Some m) Nothing never = refl
none_ends service c w v p (Some m) (Bind asked) never = refl
none_ends service c w v p (Some m) (Refused status) never = refl
none_ends service c w v p (Some m) (Call k) never = absurd (never m k refl refl)

pub none_to_end : (x : Player) (t : Played) → HasNoCall t → MayEnd false x t x t
none_to_end x t never otherwise =
    stays (λ echo w v. EndsOrElse otherwise t.name echo w (otherwise w) × (v ≡ w)) x t
    (λ echo w h. (finishes_with echo x t w h otherwise t.member t.unanswered (otherwise w) refl refl (none_ends (service_of echo) t.name w (otherwise w) h.peer t.member t.unanswered never), refl))

-- what follows where the connection isn't there
after_standing : (service : Service) (c : ℕ) (w : World service.State) (s : Standing) → s ≢ Open → GoesOnIfOpen service c w s w
after_standing service c w Open never = absurd (never refl)
after_standing service c w Closed never = refl
after_standing service c w Lost never = refl

pub follows_not : (x : Player) (t : Played) (s : Standing) → s ≢ Open → Leads (FollowsIn t.name s) x t x t
follows_not x t s never = stays (FollowsIn t.name s) x t (λ echo w h. after_standing (service_of echo) t.name w s never)

pub follows_open : (x y : Player) (t u : Played) (s : Standing) → s ≡ Open → Leads (GoesOnIn t.name) x t y u → Leads (FollowsIn t.name s) x t y u
follows_open x y t u s e l =
    leads_as (GoesOnIn t.name) (FollowsIn t.name s) x y t u (λ echo w v h a. subst (λ (z : Standing). GoesOnIfOpen (service_of echo) t.name w z v) (sym e) a) l

pub finished : (x y : Player) (t u : Played) → MayEnd true x t y u → Leads (Does (lines.Finish t.name)) x t y u
finished x y t u l = l (idles t.name)

pub finished_idle : (x y z : Player) (t u r : Played) → MayEnd false x t y u → Leads (PrintsIn (Idle u.name ∷ [])) y u z r → Leads (Does (lines.Finish t.name)) x t z r
finished_idle x y z t u r l p =
    let first = l (idles t.name) in
    leads_both (λ echo w v. EndsOrElse (idles t.name) t.name echo w (idles t.name w) × (v ≡ w)) (PrintsIn (Idle u.name ∷ [])) (Does (lines.Finish t.name)) x y z t u r
    (λ echo w v' v h a b.
    let is : v ≡ idles t.name w = b ∙ ap (λ (c : ℕ). idles c v') first.0 ∙ ap (idles t.name) a.1 in
    subst (λ (d : World Services). EndsOrElse (idles t.name) t.name echo w d) (sym is) a.0)
    first p

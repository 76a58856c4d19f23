-- What came to each connection is what the lines sent, and what was printed for it is what it put.
use Rattle.std.proofs.Common.{◌≡◌, ◌≢◌, ◌==◌, ℕ, Bool, true, false, if◌then◌else◌, Option, Some, None, List, [], ◌∷◌, ◌++◌, map, refl, sym, ap, subst, ◌∙◌, inl, inr, append_assoc}
use Rattle.std.proofs.lemmas.List.{append-nil}
use Rattle.std.proofs.lemmas.Bool.Decides.{eqb_tells}
use Rattle.replay_world.specs.declared.peer.Member.{Member}
use Rattle.replay_world.specs.declared.peer.Unanswered.{Unanswered}
use Rattle.replay_world.specs.declared.peer.Unanswered.TheVariants.{Nothing, Bind, Refused, Call}
use Rattle.replay_world.specs.declared.peer.Standing.{Standing}
use Rattle.replay_world.specs.declared.peer.Standing.TheVariants.{Open, Closed, Lost}
use Rattle.replay_world.specs.Services.{Service}
use Rattle.replay_world.specs.Worlds.{Peer, Printed, World, peer_at, with_peer, journal, printing, booted, opened_peer}
use Rattle.replay_world.specs.Plays.{idles, Opens, SendsAt, TriedAs, Tries, GoesOnIfOpen, EndsAt, IfRuns, Finishes, lost, Loses, LosesAt, Plays}
use Rattle.replay_script.specs.declared.line.Line.{Line}
use Rattle.replay_script.specs.declared.line.Line.TheVariants as lines
use Rattle.group_core.specs.declared.answer.Taking.{Taking}
use Rattle.group_core.specs.declared.answer.Taking.TheVariants as taking
use Rattle.group_core.specs.Calls.{Takes}
use Rattle.handle_model.specs.Journal.{runs}
use Rattle.pdu_codec.specs.Pdus.{AreSpelled}
use Rattle.conn_histories.specs.Histories.{Event, stream, put}
use Rattle.conn_histories.specs.Histories.Event.{Came, Paused, Did, Decided}
use Rattle.conn_histories.proofs.Along.{put_in_order}
use Rattle.conn_histories.specs.Requests.{ids_of}
use Rattle.replay_world.specs.Worlds.Printed.{Answered, Waits, Idle}
use Rattle.server_counts.specs.Pieces.{IsOnePdu}
use Rattle.replay_world.specs.Printing.{ArePrinted, answered_in, answered_on}
use Rattle.replay_world.specs.Events.{lived, HappensOn, RestsAt, HappenOn, GoesOnAt}
use Rattle.replay_world.specs.Promised.{sent_in}
use Rattle.replay_world.proofs.Peers.{found_name, put_found, put_others}
use Rattle.replay.proofs.Still.{Still, means_still, still_on, still_left}
use Rattle.replay.proofs.Happening.{Same, means_same, put_is, put_other}

abbrev pub puts : Option Peer → List ℕ
puts None = []
puts (Some p) = put p.events

-- what the lines sent came, but for what came once it was closed
abbrev pub CameTo : List ℕ → Option Peer → Type 0
CameTo sent None = sent ≡ []
CameTo sent (Some p) = (late : List ℕ) × (sent ≡ stream p.events ++ late) × (p.standing ≢ Closed → late ≡ [])

pub record Heard {S : Type 0} (w : World S) (sent : ℕ → List ℕ) : Type 0 where
  pub printed : (c : ℕ) → answered_on c w.out ≡ puts (peer_at w c)
  pub came : (c : ℕ) → CameTo (sent c) (peer_at w c)

-- ---- what is printed

pub answered_more : (c : ℕ) (a b : List Printed) → answered_on c (a ++ b) ≡ answered_on c a ++ answered_on c b
answered_more c [] b = refl
answered_more c (x ∷ a) b = ap (λ (l : List ℕ). answered_in c x ++ l) (answered_more c a b) ∙ sym (append_assoc (answered_in c x) (answered_on c a) (answered_on c b))

own_pieces : (c d : ℕ) (b : Bool) (pieces : List (List ℕ)) (octets : List ℕ) → (d == c) ≡ b → b ≡ true → AreSpelled IsOnePdu pieces octets → answered_on c (map (Answered d) pieces) ≡ octets
own_pieces c d b [] octets e t s = sym s
own_pieces c d b (piece ∷ more) octets e t s =
    let on : (d == c) ≡ true = e ∙ t in
    let here : answered_in c (Answered d piece) ≡ piece = rw on refl in
    let first : s.0 ≡ piece = s.3.0 in
    (λ i. here i ++ own_pieces c d b more s.1 e t s.4 i) ∙ (ap (λ (l : List ℕ). l ++ s.1) (sym first) ∙ sym s.2)

other_pieces : (c d : ℕ) (pieces : List (List ℕ)) → (d == c) ≡ false → answered_on c (map (Answered d) pieces) ≡ []
other_pieces c d [] e = refl
other_pieces c d (piece ∷ more) e =
    let here : answered_in c (Answered d piece) ≡ [] = rw e refl in
    λ i. here i ++ other_pieces c d more e i

own_printed : (c : ℕ) (octets : List ℕ) (ls : List Printed) → ArePrinted c octets ls → answered_on c ls ≡ octets
own_printed c octets ls a =
    let on : (c == c) ≡ true = elim (eqb_tells c c) [ inl e ↦ e.0 | inr e ↦ absurd (e.1 refl) ] in
    ap (answered_on c) a.lines_are ∙ own_pieces c c true a.pieces octets on refl a.cut

other_printed : (c d : ℕ) (octets : List ℕ) (ls : List Printed) → d ≢ c → ArePrinted d octets ls → answered_on c ls ≡ []
other_printed c d octets ls other a =
    let off : (d == c) ≡ false = elim (eqb_tells d c) [ inl e ↦ absurd (other e.1) | inr e ↦ e.0 ] in
    ap (answered_on c) a.lines_are ∙ other_pieces c d a.pieces off

-- ---- worlds with the same connections

pub heard_same : {S : Type 0} (w v : World S) (sent : ℕ → List ℕ) → v.peers ≡ w.peers → ((c : ℕ) → answered_on c v.out ≡ answered_on c w.out) → Heard w sent → Heard v sent
heard_same w v sent peers out h =
    let at : (c : ℕ) → peer_at v c ≡ peer_at w c = λ c. ap (λ (ps : List Peer). peer_at (record w { peers = ps }) c) peers in
    record {
      printed = λ c. out c ∙ (h.printed c ∙ ap puts (sym (at c)));
      came = λ c. subst (CameTo (sent c)) (sym (at c)) (h.came c);
    }

pub heard_is : {S : Type 0} (w v : World S) (sent : ℕ → List ℕ) → v ≡ w → Heard w sent → Heard v sent
heard_is w v sent e h = subst (λ (z : World _). Heard z sent) (sym e) h

quiet_print : {S : Type 0} (w v : World S) (line : Printed) (sent : ℕ → List ℕ) → ((c : ℕ) → answered_in c line ≡ []) → v ≡ printing w (line ∷ []) → Heard w sent → Heard v sent
quiet_print w v line sent none e h =
    heard_is (printing w (line ∷ [])) v sent e
    (heard_same w (printing w (line ∷ [])) sent refl
    (λ c. answered_more c w.out (line ∷ []) ∙ (ap (λ (l : List ℕ). answered_on c w.out ++ (l ++ [])) (none c) ∙ append-nil (answered_on c w.out))) h)

-- ---- an event

puts_more : (a b : List Event) → put (a ++ b) ≡ put a ++ put b
puts_more a b = (put_in_order a b).0.puts

stream_more : (a b : List Event) → stream (a ++ b) ≡ stream a ++ stream b
stream_more a b = (put_in_order a b).0.came

-- what was sent, with these octets more to the connection
abbrev pub sent_more : ℕ → List ℕ → (ℕ → List ℕ) → ℕ → List ℕ
sent_more c octets sent d = sent d ++ (if c == d then octets else [])

some_at : {S : Type 0} (w : World S) (c : ℕ) (p : Peer) (sent : List ℕ) → peer_at w c ≡ Some p → CameTo sent (peer_at w c) → CameTo sent (Some p)
some_at w c p sent at h = subst (CameTo sent) at h

module _ (service : Service) (c : ℕ) (w v : World service.State) (event : Event) (octets : List ℕ) (sent : ℕ → List ℕ) (brings : stream (event ∷ []) ≡ octets) (t : HappensOn service c w event v) (h : Heard w sent) where
  abbrev p : Peer
  p = t.peer

  abbrev q : Peer
  q = lived service t.after event t.state

  same : Same t.peer t.after
  same = means_same service w t.between t.peer t.after event t.means

  kept : Still w t.between
  kept = means_still service w t.between t.peer t.after event t.means

  events : q.events ≡ p.events ++ event ∷ []
  events = ap (λ (l : List Event). l ++ event ∷ []) same.events

  now : peer_at v c ≡ Some q
  now = put_is service w w t.between v c p q t.there same.name kept.peers t.lines t.then_

  others : (d : ℕ) → d ≢ c → peer_at v d ≡ peer_at w d
  others d other = put_other service w w t.between v c p q t.there same.name kept.peers t.lines t.then_ d other

  out : v.out ≡ w.out ++ t.lines
  out = ap (λ (z : World service.State). z.out) t.then_ ∙ ap (λ (l : List Printed). l ++ t.lines) kept.out

  printed_own : answered_on c v.out ≡ puts (peer_at v c)
  printed_own =
      ap (answered_on c) out ∙ (answered_more c w.out t.lines
      ∙ ((λ i. (h.printed c ∙ ap puts t.there) i ++ own_printed c (put (event ∷ [])) t.lines t.printed i)
      ∙ (sym (puts_more p.events (event ∷ [])) ∙ (ap put (sym events) ∙ ap puts (sym now)))))

  printed_other : (d : ℕ) → d ≢ c → answered_on d v.out ≡ puts (peer_at v d)
  printed_other d other =
      ap (answered_on d) out ∙ (answered_more d w.out t.lines
      ∙ (ap (λ (l : List ℕ). answered_on d w.out ++ l) (other_printed d c (put (event ∷ [])) t.lines (λ e. other (sym e)) t.printed)
      ∙ (append-nil (answered_on d w.out) ∙ (h.printed d ∙ ap puts (sym (others d other))))))

  was_open : p.standing ≢ Closed
  was_open e = let o = t.is_open in absurd (cc (e, o))

  came_own : CameTo (sent_more c octets sent c) (peer_at v c)
  came_own =
      let before = some_at w c p (sent c) t.there (h.came c) in
      let none : before.0 ≡ [] = before.2 was_open in
      let here : sent c ≡ stream p.events = before.1 ∙ (ap (λ (l : List ℕ). stream p.events ++ l) none ∙ append-nil (stream p.events)) in
      let on : (c == c) ≡ true = elim (eqb_tells c c) [ inl e ↦ e.0 | inr e ↦ absurd (e.1 refl) ] in
      let more : sent_more c octets sent c ≡ sent c ++ octets = rw on refl in
      subst (CameTo (sent_more c octets sent c)) (sym now)
      ([], more ∙ ((λ i. here i ++ sym brings i) ∙ (sym (stream_more p.events (event ∷ [])) ∙ (ap stream (sym events) ∙ sym (append-nil (stream q.events))))), λ x. refl)

  came_other : (d : ℕ) → d ≢ c → CameTo (sent_more c octets sent d) (peer_at v d)
  came_other d other =
      let off : (c == d) ≡ false = elim (eqb_tells c d) [ inl e ↦ absurd (other (sym e.1)) | inr e ↦ e.0 ] in
      let same' : sent_more c octets sent d ≡ sent d = ap (λ (b : Bool). sent d ++ (if b then octets else [])) off ∙ append-nil (sent d) in
      subst (λ (l : List ℕ). CameTo l (peer_at v d)) (sym same') (subst (CameTo (sent d)) (sym (others d other)) (h.came d))

  pub event_heard : Heard v (sent_more c octets sent)
  event_heard = record {
    printed = λ d. elim (eqb_tells d c) [ inl e ↦ subst (λ (n : ℕ). answered_on n v.out ≡ puts (peer_at v n)) (sym e.1) printed_own | inr e ↦ printed_other d e.1 ];
    came = λ d. elim (eqb_tells d c) [ inl e ↦ subst (λ (n : ℕ). CameTo (sent_more c octets sent n) (peer_at v n)) (sym e.1) came_own | inr e ↦ came_other d e.1 ];
  }

-- nothing more was sent
pub none_more : {S : Type 0} (w : World S) (a b : ℕ → List ℕ) → ((c : ℕ) → a c ≡ b c) → Heard w a → Heard w b
none_more w a b same h = record { printed = h.printed; came = λ c. subst (λ (l : List ℕ). CameTo l (peer_at w c)) (same c) (h.came c) }

abbrev nothing : List ℕ
nothing = []

if_none : (b : Bool) → (if b then nothing else nothing) ≡ nothing
if_none true = refl
if_none false = refl

module _ (service : Service) where
  quiet_heard : (c : ℕ) (w v : World service.State) (event : Event) (sent : ℕ → List ℕ) → stream (event ∷ []) ≡ [] → HappensOn service c w event v → Heard w sent → Heard v sent
  quiet_heard c w v event sent none t h =
      none_more v (sent_more c [] sent) sent (λ d. ap (λ (l : List ℕ). sent d ++ l) (if_none (c == d)) ∙ append-nil (sent d)) (event_heard service c w v event [] sent none t h)

  rests_heard : (c : ℕ) (w v : World service.State) (s : Standing) (sent : ℕ → List ℕ) → RestsAt service c w s v → Heard w sent → Heard v sent
  rests_heard c w v Open sent t h = quiet_heard c w v Paused sent refl t h
  rests_heard c w v Closed sent t h = heard_is w v sent t h
  rests_heard c w v Lost sent t h = heard_is w v sent t h

  happen_heard : (c : ℕ) (events : List Event) (w v : World service.State) (sent : ℕ → List ℕ) → HappenOn service c w events v → Heard w sent → Heard v sent
  happen_heard c [] w v sent t h = rests_heard c w v t.0.standing sent t.2 h
  happen_heard c (Did act ∷ more) w v sent t h = happen_heard c more t.0 v sent t.2 (quiet_heard c w t.0 (Did act) sent refl t.1 h)
  happen_heard c (Decided decision octets ∷ more) w v sent t h = happen_heard c more t.0 v sent t.2 (quiet_heard c w t.0 (Decided decision octets) sent refl t.1 h)
  happen_heard c (Came octets ∷ more) w v sent t h = absurd t
  happen_heard c (Paused ∷ more) w v sent t h = absurd t

  goes_heard : (c : ℕ) (w v : World service.State) (sent : ℕ → List ℕ) → GoesOnAt service c w v → Heard w sent → Heard v sent
  goes_heard c w v sent t h = happen_heard c t.0 w v sent t.1 h

  -- ---- lines

  tried_heard : (c : ℕ) (u v : World service.State) (answer : Taking) (sent : ℕ → List ℕ) → TriedAs service c u answer v → Heard u sent → Heard v sent
  tried_heard c u v (taking.Run row serial) sent t h = heard_is u v sent t h
  tried_heard c u v (taking.Denied slot) sent t h = goes_heard c u v sent t h
  tried_heard c u v (taking.Wait m) sent t h = quiet_print u v (Waits c m) sent (λ d. refl) t h
  tried_heard c u v taking.Dropped sent t h = quiet_print u v (Idle c) sent (λ d. refl) t h

  idles_heard : (c : ℕ) (w v : World service.State) (sent : ℕ → List ℕ) → v ≡ idles c w → Heard w sent → Heard v sent
  idles_heard c w v sent t h = quiet_print w v (Idle c) sent (λ d. refl) t h

  tries_heard : (c : ℕ) (w v : World service.State) (o : Option Member) (x : Unanswered) (sent : ℕ → List ℕ) → Tries service c w o x v → Heard w sent → Heard v sent
  tries_heard c w v None x sent t h = idles_heard c w v sent t h
  tries_heard c w v (Some m) Nothing sent t h = idles_heard c w v sent t h
  tries_heard c w v (Some m) (Bind asked) sent t h = idles_heard c w v sent t h
  tries_heard c w v (Some m) (Refused status) sent t h = idles_heard c w v sent t h
  tries_heard c w v (Some m) (Call k) sent t h =
      let s = still_on (λ old new. Takes old k t.0 new) w t.1 m.group t.2 in
      tried_heard c t.1 v t.0 sent t.3 (heard_same w t.1 sent s.peers (λ d. ap (answered_on d) s.out) h)

  if_open_heard : (c : ℕ) (u v : World service.State) (s : Standing) (sent : ℕ → List ℕ) → GoesOnIfOpen service c u s v → Heard u sent → Heard v sent
  if_open_heard c u v Open sent t h = goes_heard c u v sent t h
  if_open_heard c u v Closed sent t h = heard_is u v sent t h
  if_open_heard c u v Lost sent t h = heard_is u v sent t h

  ends_heard : (c : ℕ) (w v : World service.State) (p : Peer) (m : Member) (k : ℕ) (sent : ℕ → List ℕ) → EndsAt service c w p m k v → Heard w sent → Heard v sent
  ends_heard c w v p m k sent t h =
      if_open_heard c t.0 v p.standing sent t.2
      (heard_same w t.0 sent (ap (λ (z : World service.State). z.peers) t.1.settles.after) (λ d. ap (λ (z : World service.State). answered_on d z.out) t.1.settles.after) h)

  if_runs_heard : (b : Bool) (c : ℕ) (w v otherwise : World service.State) (p : Peer) (m : Member) (k : ℕ) (sent : ℕ → List ℕ) → Heard otherwise sent → IfRuns service b (EndsAt service c w p m k v) (v ≡ otherwise) → Heard w sent → Heard v sent
  if_runs_heard true c w v otherwise p m k sent o t h = ends_heard c w v p m k sent t h
  if_runs_heard false c w v otherwise p m k sent o t h = heard_is otherwise v sent t o

  pub finishes_heard : (c : ℕ) (w v otherwise : World service.State) (p : Peer) (o : Option Member) (x : Unanswered) (sent : ℕ → List ℕ) → Heard otherwise sent → Finishes service c w p o x otherwise v → Heard w sent → Heard v sent
  finishes_heard c w v otherwise p None x sent o t h = heard_is otherwise v sent t o
  finishes_heard c w v otherwise p (Some m) Nothing sent o t h = heard_is otherwise v sent t o
  finishes_heard c w v otherwise p (Some m) (Bind asked) sent o t h = heard_is otherwise v sent t o
  finishes_heard c w v otherwise p (Some m) (Refused status) sent o t h = heard_is otherwise v sent t o
  finishes_heard c w v otherwise p (Some m) (Call k) sent o t h = if_runs_heard (runs (journal w m.group) k) c w v otherwise p m k sent o t h

  -- a connection is put, with what happened on it
  put_heard : (w v : World service.State) (c : ℕ) (q : Peer) (sent : ℕ → List ℕ) → peer_at v c ≡ Some q → ((d : ℕ) → d ≢ c → peer_at v d ≡ peer_at w d) → v.out ≡ w.out → puts (peer_at w c) ≡ put q.events → CameTo (sent c) (Some q)
      → Heard w sent → Heard v sent
  put_heard w v c q sent now others out same came h = record {
    printed =
        λ d.
        elim (eqb_tells d c) [
          | inl e ↦
              subst (λ (n : ℕ). answered_on n v.out ≡ puts (peer_at v n)) (sym e.1)
              (ap (answered_on c) out ∙ (h.printed c ∙ (same ∙ ap puts (sym now))))
          | inr e ↦ ap (answered_on d) out ∙ (h.printed d ∙ ap puts (sym (others d e.1)))
        ];
    came =
        λ d.
        elim (eqb_tells d c) [
          | inl e ↦ subst (λ (n : ℕ). CameTo (sent n) (peer_at v n)) (sym e.1) (subst (CameTo (sent c)) (sym now) came)
          | inr e ↦ subst (CameTo (sent d)) (sym (others d e.1)) (h.came d)
        ];
  }

  opens_heard : (c : ℕ) (w v : World service.State) (sent : ℕ → List ℕ) → Opens service c w v → Heard w sent → Heard v sent
  opens_heard c w v sent t h =
      let q : Peer = opened_peer (ids_of service.tables) c in
      let none : sent c ≡ [] = subst (CameTo (sent c)) t.0 (h.came c) in
      put_heard w v c q sent (ap (λ (z : World service.State). peer_at z c) t.1 ∙ put_found q w.peers) (λ d other. ap (λ (z : World service.State). peer_at z d) t.1 ∙ put_others d q w.peers (λ e. other (sym e)))
      (ap (λ (z : World service.State). z.out) t.1) (ap puts t.0) ([], none, λ x. refl) h

  pub loses_heard : (c : ℕ) (w v : World service.State) (p : Peer) (sent : ℕ → List ℕ) → peer_at w c ≡ Some p → p.standing ≡ Open → Loses service w p v → Heard w sent → Heard v sent
  loses_heard c w v p sent was opens t h =
      let q : Peer = lost service p in
      let s = still_left service w t.0 p.member t.1 in
      let named : p.name ≡ c = found_name c w.peers p was in
      let before = some_at w c p (sent c) was (h.came c) in
      let now : peer_at v c ≡ Some q = ap (λ (z : World service.State). peer_at z c) t.2 ∙ subst (λ (n : ℕ). peer_at (with_peer t.0 q) n ≡ Some q) named (put_found q t.0.peers) in
      put_heard w v c q sent now
      (λ d other.
      ap (λ (z : World service.State). peer_at z d) t.2 ∙ (put_others d q t.0.peers (λ e. other (sym e ∙ named)) ∙ ap (λ (ps : List Peer). peer_at (record w { peers = ps }) d) s.peers))
      (ap (λ (z : World service.State). z.out) t.2 ∙ s.out) (ap puts was) (before.0, before.1, λ x. before.2 (λ e. absurd (cc (e, opens)))) h

  lose_heard : (c : ℕ) (w v : World service.State) (p : Peer) (s : Standing) (sent : ℕ → List ℕ) → p.standing ≡ s → peer_at w c ≡ Some p → LosesAt service w p s v → Heard w sent → Heard v sent
  lose_heard c w v p Open sent is was t h = loses_heard c w v p sent was is t h
  lose_heard c w v p Closed sent is was t h = heard_is w v sent t h
  lose_heard c w v p Lost sent is was t h = absurd t

  -- octets that come once it was closed
  late_heard : (c : ℕ) (octets : List ℕ) (w : World service.State) (p : Peer) (sent : ℕ → List ℕ) → peer_at w c ≡ Some p → p.standing ≡ Closed → Heard w sent → Heard w (sent_more c octets sent)
  late_heard c octets w p sent was is h = record {
    printed = h.printed;
    came =
        λ d.
        elim (eqb_tells c d) [
          | inl e ↦
              let at : peer_at w d ≡ Some p = subst (λ (n : ℕ). peer_at w n ≡ Some p) e.1 was in
              let before = some_at w d p (sent d) at (h.came d) in
              let more : sent_more c octets sent d ≡ sent d ++ octets = ap (λ (b : Bool). sent d ++ (if b then octets else [])) e.0 in
              subst (CameTo (sent_more c octets sent d)) (sym at)
              (before.0 ++ octets, more ∙ (ap (λ (l : List ℕ). l ++ octets) before.1 ∙ append_assoc (stream p.events) before.0 octets), λ x. absurd (x is))
          | inr e ↦
              let same : sent_more c octets sent d ≡ sent d = ap (λ (b : Bool). sent d ++ (if b then octets else [])) e.0 ∙ append-nil (sent d) in
              subst (λ (l : List ℕ). CameTo l (peer_at w d)) (sym same) (h.came d)
        ];
  }

  sends_heard : (c : ℕ) (octets : List ℕ) (w v : World service.State) (p : Peer) (s : Standing) (sent : ℕ → List ℕ) → p.standing ≡ s → peer_at w c ≡ Some p → SendsAt service c octets w s v → Heard w sent → Heard v (sent_more c octets sent)
  sends_heard c octets w v p Open sent is was t h =
      goes_heard c t.0 v (sent_more c octets sent) t.2 (event_heard service c w t.0 (Came octets) octets sent (append-nil octets) t.1 h)
  sends_heard c octets w v p Closed sent is was t h = heard_is w v (sent_more c octets sent) t (late_heard c octets w p sent was is h)
  sends_heard c octets w v p Lost sent is was t h = absurd t

  nothing_sent : (v : World service.State) (sent : ℕ → List ℕ) → Heard v sent → Heard v (λ d. sent d ++ [])
  nothing_sent v sent h = none_more v sent (λ d. sent d ++ []) (λ d. sym (append-nil (sent d))) h

  pub line_heard : (w v : World service.State) (line : Line) (sent : ℕ → List ℕ) → Plays service w line v → Heard w sent → Heard v (λ d. sent d ++ sent_in d line)
  line_heard w v (lines.Boot word) sent t h = absurd t
  line_heard w v (lines.Open c) sent t h = nothing_sent v sent (opens_heard c w v sent t h)
  line_heard w v (lines.Send c octets) sent t h = sends_heard c octets w v t.0 t.0.standing sent refl t.1 t.2 h
  line_heard w v (lines.Run c) sent t h = nothing_sent v sent (tries_heard c w v t.0.member t.0.unanswered sent t.2 h)
  line_heard w v (lines.Finish c) sent t h =
      nothing_sent v sent (finishes_heard c w v (idles c w) t.0 t.0.member t.0.unanswered sent (idles_heard c w (idles c w) sent refl h) t.2 h)
  line_heard w v (lines.Lose c) sent t h = nothing_sent v sent (lose_heard c w v t.0 t.0.standing sent refl t.1 t.2 h)

pub starts_heard : (service : Service) (boot : ℕ) → Heard (booted boot service.start) (λ c. [])
starts_heard service boot = record { printed = λ c. refl; came = λ c. refl }

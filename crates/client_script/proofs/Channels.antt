-- A channel after one thing on its connection.
use Rattle.std.proofs.Common.{◌≡◌, ℕ, ◌≤◌, true, false, inl, inr, Some, Ok, Err, List, [], ◌∷◌, ◌++◌, refl, sym, ap, ◌∙◌, subst, append_assoc, arith}
use Rattle.std.proofs.lemmas.Bool.{false≢true}
use Rattle.std.specs.Io.KnownBytes.{prepend_known}
use Rattle.rpc_outside.specs.Links.{Shown, IsNew, Closes, Counts}
use Rattle.ndr_table.specs.Tables.{TableForm}
use Rattle.client_core.specs.declared.told.Told.{Told}
use Rattle.client_core.specs.declared.told.Told.TheVariants as tolds
use Rattle.client_core.specs.declared.told.ClientFault.{ClientFault}
use Rattle.client_core.specs.States.{ClientState, told}
use Rattle.client_core.specs.States.Outcome.{TBroken}
use Rattle.client_core.specs.Histories.{ClientEvent}
use Rattle.client_core.specs.Histories.ClientEvent.{DidBind, Received}
use Rattle.client_link.specs.declared.wire.Wire.{Wire}
use Rattle.client_link.specs.declared.wire.BeginFault.{BeginFault}
use Rattle.client_link.specs.declared.wire.BeginFault.TheVariants as begin
use Rattle.client_link.specs.declared.wait.Stop.{Stop as Deaf}
use Rattle.client_link.specs.declared.wait.Stop.TheVariants as deaf
use Rattle.client_link.specs.Wires.{Stays, Lived, Spoken, Begins, Cause, Waits, AreSilent}
use Rattle.client_script.specs.declared.channel.Channel.{Channel}
use Rattle.client_script.specs.declared.channel.Halt.{Halt}
use Rattle.client_script.specs.declared.channel.Halt.TheVariants as halts
use Rattle.client_script.specs.Worlds.{Association, with_event}
use Rattle.client_script.specs.Steps.{group_of, bound_as, closing}
use Rattle.client_script.specs.Losses.{IsGone}
use Rattle.client_script.specs.Losses.IsGone.{failed, ended, quiet, cut, broken}
use Rattle.client_script.specs.Shows.{Holds, HoldsLost}
use Rattle.client_script.specs.Channels.{BeginsOn, HearsOn, BindsOn, Halts, Silences}

module _ {K : Type 0} (shows : K → Shown) (interface : TableForm) where
  -- what is said over a link
  pub spoken_of : (w : Wire K) (events : List ClientEvent) (m : ClientState) (pending : List ℕ) → Lived shows interface w events m pending → Spoken interface (shows w.first.value) (shows w.link) events pending
  spoken_of w events m pending l = record { state = m; lives = l.lives; taken = l.taken; fed = w.feed; given = l.given; done = l.done; linked = l.linked; puts = l.puts }

  same_first : (old new : Wire K) → Stays old new → IsNew (shows old.first.value) → IsNew (shows new.first.value)
  same_first old new s h = subst (λ (w : Wire K). IsNew (shows w.first.value)) (sym s) h

  abbrev with_wire : Channel K → Wire K → Channel K
  with_wire c w = record c { wire = w }

  -- one that is open isn't closed, and another wire that is open isn't either
  still_open : (c : Channel K) (a : Association) → Holds shows interface c a → a.is_open ≡ true → {events : List ClientEvent} {n : ClientState} {pending : List ℕ} (w : Wire K) → Lived shows interface w events n pending
      → (shows w.link).closed ≡ a.is_closed
  still_open c a h o w l = l.is_open ∙ (sym (h.lived o).0.is_open ∙ h.closed)

  -- the channel with another wire is that connection, with these events
  goes : (c : Channel K) (a : Association) (w : Wire K) (events : List ClientEvent) (n : ClientState) → Holds shows interface c a → a.is_open ≡ true → Stays c.wire w → Lived shows interface w events n []
      → Holds shows interface (with_wire c w) (record a { events = events; state = n })
  goes c a w events n h o s l =
      let none = (h.lived o).1 in
      record {
        name = h.name;
        is_open = h.is_open;
        closed = still_open c a h o w l;
        group = h.group;
        first = same_first c.wire w s h.first;
        spoken = subst (λ (p : List ℕ). Spoken interface (shows w.first.value) (shows w.link) events p) (sym none) (spoken_of w events n [] l);
        lived = λ e. (l, none);
      }

  -- the same, where it is lost
  lost : (c : Channel K) (a : Association) (w : Wire K) (since : List ClientEvent) (n : ClientState) (pending : List ℕ) → Holds shows interface c a → a.is_open ≡ true → Stays c.wire w → Lived shows interface w (a.events ++ since) n pending
      → IsGone (shows c.wire.link) (shows w.link) w.feed.rest since
      → HoldsLost shows interface (shows c.wire.link) a (record (with_wire c w) { is_open = false }) (record a { is_open = false; events = a.events ++ since; state = n; pending = pending })
  lost c a w since n pending h o s l gone = record {
    holds = record {
      name = h.name;
      is_open = refl;
      closed = still_open c a h o w l;
      group = h.group;
      first = same_first c.wire w s h.first;
      spoken = spoken_of w (a.events ++ since) n pending l;
      lived = λ e. absurd (false≢true e);
    };
    at = l.at;
    lost = record {
      before = subst (λ (k : K). Spoken interface (shows k) (shows c.wire.link) a.events a.pending) (sym (ap (λ (x : Wire K). x.first.value) s)) h.spoken;
      spoken = record { state = n; lives = l.lives; taken = l.taken; fed = w.feed; given = l.given; done = l.done; linked = l.linked; puts = l.puts };
      since = since;
      happened = refl;
      gone = gone;
    };
  }

  module _ (c : Channel K) (a : Association) (w : Wire K) (h : Holds shows interface c a) (o : a.is_open ≡ true) (s : Stays c.wire w) where
    -- ---- something is begun

    pub begun : (event : List ℕ → ClientEvent) (Long Says : Type 0) → Begins shows interface a.events a.state event Long c.wire (Ok tt) w → BeginsOn shows c interface a event Says (Ok tt) (with_wire c w)
    begun event Long Says b = (b.0, b.1, b.2, goes c a w (a.events ++ event b.0 ∷ []) b.1 h o s b.3)

    pub halted : (event : List ℕ → ClientEvent) (Long Says : Type 0) (says : Long → Says) (fault : BeginFault) (halt : Halt) (new : Channel K) → Begins shows interface a.events a.state event Long c.wire (Err fault) w → Halts (with_wire c w) fault halt new
        → BeginsOn shows c interface a event Says (Err halt) new
    halted event Long Says says begin.Failed halt new b k =
        let is : HoldsLost shows interface (shows c.wire.link) a (record (with_wire c w) { is_open = false }) (record a { is_open = false; events = a.events ++ event b.0 ∷ []; state = b.1; pending = b.2 }) = lost c a w (event b.0 ∷ []) b.1 b.2 h o s b.4 (failed b.5) in
        subst (λ (x : Halt). BeginsOn shows c interface a event Says (Err x) new) (sym k.0) (
          record a { is_open = false; events = a.events ++ event b.0 ∷ []; state = b.1; pending = b.2 },
          record { octets = b.0; happens = b.3; happened = refl },
          subst (λ (x : Channel K). HoldsLost shows interface (shows c.wire.link) a x (record a { is_open = false; events = a.events ++ event b.0 ∷ []; state = b.1; pending = b.2 })) (sym k.1) is,
        )
    halted event Long Says says begin.TooLong halt new b k =
        subst (λ (x : Halt). BeginsOn shows c interface a event Says (Err x) new) (sym k.0) (says b.0, subst (λ (x : Channel K). Holds shows interface x a) (sym k.1) (goes c a w a.events a.state h o s b.1))
    halted event Long Says says begin.Memory halt new b k = subst (λ (x : Halt). BeginsOn shows c interface a event Says (Err x) new) (sym k.0) tt

    -- ---- a wait

    pub heard : (t : Told) → Waits shows interface a.events a.state c.wire (Ok t) w → HearsOn shows c interface a (Ok t) (with_wire c w)
    heard t b = (
      record a { events = a.events ++ (b.0 ++ Received b.1 (Some (told t)) ∷ []); state = b.2 },
      record { before = b.0; silent = b.3; pdu = b.1; happened = refl; lives = b.4.lives },
      goes c a w (a.events ++ (b.0 ++ Received b.1 (Some (told t)) ∷ [])) b.2 h o s b.4,
    )

    pub broke : (fault : ClientFault) → Waits shows interface a.events a.state c.wire (Ok (tolds.Broken fault)) w → HearsOn shows c interface a (Err halts.Lost) (record (with_wire c w) { is_open = false })
    broke fault b =
        let came : List ClientEvent = b.0 ++ Received b.1 (Some (TBroken fault)) ∷ [] in (
          record a { is_open = false; events = a.events ++ came; state = b.2; pending = [] },
          record { came = came; vain = inr (b.0, b.1, fault, b.3, refl); happened = ap (λ (p : List ℕ). record a { is_open = false; events = a.events ++ came; state = b.2; pending = p }) (sym (h.lived o).1); lives = b.4.lives },
          lost c a w came b.2 [] h o s b.4 (broken b.0 b.1 fault b.3 refl),
        )

    silenced : (why : Deaf) (b : (before : List ClientEvent) × (n : ClientState) × AreSilent before × Lived shows interface w (a.events ++ before) n [] × Cause shows interface (a.events) a.state why c.wire w)
        → IsGone (shows c.wire.link) (shows w.link) w.feed.rest b.0 → HearsOn shows c interface a (Err halts.Lost) (record (with_wire c w) { is_open = false })
    silenced why b gone = (
      record a { is_open = false; events = a.events ++ b.0; state = b.1; pending = [] },
      record { came = b.0; vain = inl b.2; happened = ap (λ (p : List ℕ). record a { is_open = false; events = a.events ++ b.0; state = b.1; pending = p }) (sym (h.lived o).1); lives = b.3.lives },
      lost c a w b.0 b.1 [] h o s b.3 gone,
    )

    at_halt : (halt : Halt) (new : Channel K) → HearsOn shows c interface a (Err halts.Lost) (record (with_wire c w) { is_open = false }) → (halt ≡ halts.Lost) × (new ≡ record (with_wire c w) { is_open = false }) → HearsOn shows c interface a (Err halt) new
    at_halt halt new is k =
        subst (λ (x : Halt). HearsOn shows c interface a (Err x) new) (sym k.0) (subst (λ (x : Channel K). HearsOn shows c interface a (Err halts.Lost) x) (sym k.1) is)

    pub deafened : (why : Deaf) (halt : Halt) (new : Channel K) → Waits shows interface a.events a.state c.wire (Err why) w → Silences (with_wire c w) why halt new → HearsOn shows c interface a (Err halt) new
    deafened deaf.Memory halt new b k = subst (λ (x : Halt). HearsOn shows c interface a (Err x) new) (sym k.0) tt
    deafened deaf.Failed halt new b k = at_halt halt new (silenced deaf.Failed b (failed b.4.1)) k
    deafened deaf.Ended halt new b k = at_halt halt new (silenced deaf.Ended b (ended b.2 b.4.0 b.4.1 b.4.2)) k
    deafened deaf.Quiet halt new b k = at_halt halt new (silenced deaf.Quiet b (quiet b.2 b.4.0 b.4.1)) k
    deafened deaf.Cut halt new b k = at_halt halt new (silenced deaf.Cut b (cut b.2 b.4.0 b.4.1)) k

  -- ---- a bind

  -- begun, and then answered
  pub bound : (b c d e : Channel K) (a : Association) (group told_group : ℕ) (t : Told) (l : BeginsOn shows b interface a (DidBind group) ⊥ (Ok tt) c) → HearsOn shows c interface (with_event a (DidBind group l.0) l.1) (Ok t) d
      → told_group ≡ group_of (told t) → e ≡ record d { group = told_group } → BindsOn shows interface a group (Ok t) e
  bound b c d e a group told_group t l h g is = (
    bound_as h.0 (told t),
    record { octets = l.0; state = l.1; begins = l.2; answered = h.0; hears = h.1; bound = refl },
    subst (λ (x : Channel K). Holds shows interface x (bound_as h.0 (told t))) (sym (is ∙ ap (λ (n : ℕ). record d { group = n }) g))
        (record { name = h.2.name; is_open = h.2.is_open; closed = h.2.closed; group = refl; first = h.2.first; spoken = h.2.spoken; lived = h.2.lived }),
  )

  -- begun, and then lost
  pub bound_not : (b c d : Channel K) (a : Association) (group : ℕ) (halt : Halt) (l : BeginsOn shows b interface a (DidBind group) ⊥ (Ok tt) c) → HearsOn shows c interface (with_event a (DidBind group l.0) l.1) (Err halt) d
      → BindsOn shows interface a group (Err halt) d
  bound_not b c d a group halts.Lost l h = (with_event a (DidBind group l.0) l.1, h.0, shows c.wire.link, inr (l.0, l.1, l.2, refl, h.1), h.2)
  bound_not b c d a group halts.TooLong l h = tt
  bound_not b c d a group halts.Memory l h = tt

  -- not begun
  pub unbegun : (b c : Channel K) (a : Association) (group : ℕ) (halt : Halt) → BeginsOn shows b interface a (DidBind group) ⊥ (Err halt) c → BindsOn shows interface a group (Err halt) c
  unbegun b c a group halts.Lost l = (a, l.0, shows b.wire.link, inl (refl, l.1), l.2)
  unbegun b c a group halts.TooLong l = tt
  unbegun b c a group halts.Memory l = tt

  -- ---- a close

  pub closed : (c : Channel K) (a : Association) (link : K) → Holds shows interface c a → Closes (shows c.wire.link) (shows link)
      → Holds shows interface (record c { is_open = false; wire = record c.wire { link = link } }) (closing a)
  closed c a link h k = record {
    name = h.name;
    is_open = refl;
    closed = k.closed;
    group = h.group;
    first = h.first;
    spoken = record {
      state = h.spoken.state;
      lives = h.spoken.lives;
      taken = h.spoken.taken;
      fed = h.spoken.fed;
      given = h.spoken.given;
      done = h.spoken.done;
      linked = record {
        counts = still _ _ _ h.spoken.linked.counts k;
        taken_is = k.taken ∙ h.spoken.linked.taken_is;
        left = h.spoken.linked.left ∙ ap (λ l. prepend_known h.spoken.taken l) (sym k.left);
        put_is = k.put ∙ h.spoken.linked.put_is;
      };
      puts = h.spoken.puts;
    };
    lived = λ e. absurd (false≢true e);
  }
    where
      at_least : (a b x : ℕ) → a ≤ b → x ≡ b → a ≤ x
      at_least a b x h e = omega arith

      still : (a b x : Shown) → Counts a b → Closes b x → Counts a x
      still a b x h k = record { faults = at_least _ _ _ h.faults k.faults; quiets = at_least _ _ _ h.quiets k.quiets; ends = at_least _ _ _ h.ends k.ends }

-- A caller's connection after one call on its machine or its link.
use Rattle.std.proofs.Common.{◌≡◌, ℕ, ◌+◌, ◌≤◌, Option, Some, None, Ok, Err, Result, List, [], ◌∷◌, ◌++◌, take, drop, refl, sym, ap, ◌∙◌, subst, append_assoc, arith, inl, inr}
use Rattle.std.specs.Io.KnownBytes.{append_known, prepend_known}
use Rattle.std.proofs.lemmas.List.{append-nil, take-append-drop}
use Rattle.rpc_base.specs.Causes.{Rose}
use Rattle.rpc_outside.specs.Links.{Shown, Counts, Took, Put}
use Rattle.rpc_outside.proofs.LinkLemmas.{counts_then}
use Rattle.pdu_codec.specs.declared.pdu.Pdu.{Pdu}
use Rattle.pdu_stream.specs.Cuts.{Fed, HasGiven, IsPartial, GivesNext}
use Rattle.pdu_stream.proofs.Given.{goes_on, push_goes_on}
use Rattle.ndr_table.specs.Tables.{TableForm}
use Rattle.client_core.specs.declared.told.Told.{Told}
use Rattle.client_core.specs.States.{Outcome, ClientState, at_start, told}
use Rattle.client_core.specs.Hears.{HearsBody}
use Rattle.client_core.specs.Histories.{ClientEvent, Happens, Lives, sent}
use Rattle.client_core.specs.Histories.ClientEvent.{DidBind, DidAlter, DidCall, DidCancel, Received, Lost}
use Rattle.client_core.specs.State.{state}
use Rattle.client_core.specs.declared.client.Client.{Client}
use Rattle.client_link.specs.declared.wire.Wire.{Wire}
use Rattle.client_link.specs.declared.wire.BeginFault.TheVariants as begin
use Rattle.client_link.specs.declared.wait.Stop.{Stop}
use Rattle.client_link.specs.declared.wait.Stop.TheVariants as stop
use Rattle.client_link.specs.declared.wait.Look.{Look}
use Rattle.client_link.specs.declared.wait.Look.TheVariants as look
use Rattle.client_link.specs.Wires.{received, AreSilent, Linked, RoseBy, most_quiets, Stays, Lived, Stopped, Begins, Looks, Waits}

-- ---- octets that are known

known_twice : (k : Option (List ℕ)) (xs ys : List ℕ) → append_known (append_known k xs) ys ≡ append_known k (xs ++ ys)
known_twice None xs ys = refl
known_twice (Some zs) xs ys = ap Some (append_assoc zs xs ys)

ahead_twice : (k : Option (List ℕ)) (xs ys : List ℕ) → prepend_known xs (prepend_known ys k) ≡ prepend_known (xs ++ ys) k
ahead_twice None xs ys = refl
ahead_twice (Some zs) xs ys = ap Some (sym (append_assoc xs ys zs))

-- ---- links

pub linked_took : (z a b : Shown) (taken done piece : List ℕ) → Linked z a taken done → Took a b piece → Linked z b (taken ++ piece) done
linked_took z a b taken done piece l s = record {
  counts = counts_then z a b l.counts s.counts;
  taken_is = s.taken ∙ (ap (λ k. append_known k piece) l.taken_is ∙ known_twice z.taken taken piece);
  left = l.left ∙ (ap (λ k. prepend_known taken k) s.left ∙ ahead_twice b.left taken piece);
  put_is = s.put ∙ l.put_is;
}

pub linked_put : (z a b : Shown) (taken done piece : List ℕ) → Linked z a taken done → Put a b piece → Linked z b taken (done ++ piece)
linked_put z a b taken done piece l s = record {
  counts = counts_then z a b l.counts s.counts;
  taken_is = s.taken ∙ l.taken_is;
  left = l.left ∙ ap (λ k. prepend_known taken k) (sym s.left);
  put_is = s.put ∙ (ap (λ k. append_known k piece) l.put_is ∙ known_twice z.put done piece);
}

-- ---- what happens, one more

pub one_more : (m n k : ClientState) (events : List ClientEvent) (event : ClientEvent) → Lives m events n → Happens n event k → Lives m (events ++ event ∷ []) k
one_more m n k [] event l h = (k, subst (λ (s : ClientState). Happens s event k) l h, refl)
one_more m n k (e ∷ events) event l h = (l.0, l.1, one_more l.0 n k events event l.2 h)

pub received_more : (events : List ClientEvent) (p : Pdu) (t : Option Outcome) → received (events ++ Received p t ∷ []) ≡ received events ++ p ∷ []
received_more [] p t = refl
received_more (Received q u ∷ events) p t = ap (λ (ps : List Pdu). q ∷ ps) (received_more events p t)
received_more (DidBind g o ∷ events) p t = received_more events p t
received_more (DidAlter g o ∷ events) p t = received_more events p t
received_more (DidCall a b o ∷ events) p t = received_more events p t
received_more (DidCancel o ∷ events) p t = received_more events p t
received_more (Lost b ∷ events) p t = received_more events p t

module _ (e : ClientEvent) (none : received (e ∷ []) ≡ []) where
  pub received_own : (events : List ClientEvent) → received (events ++ e ∷ []) ≡ received events
  received_own [] = none
  received_own (Received q u ∷ events) = ap (λ (ps : List Pdu). q ∷ ps) (received_own events)
  received_own (DidBind g o ∷ events) = received_own events
  received_own (DidAlter g o ∷ events) = received_own events
  received_own (DidCall a b o ∷ events) = received_own events
  received_own (DidCancel o ∷ events) = received_own events
  received_own (Lost b ∷ events) = received_own events

pub sent_more : (events later : List ClientEvent) → sent (events ++ later) ≡ sent events ++ sent later
sent_more [] later = refl
sent_more (Received q u ∷ events) later = sent_more events later
sent_more (DidBind g o ∷ events) later = ap (λ (x : List ℕ). o ++ x) (sent_more events later) ∙ sym (append_assoc o (sent events) (sent later))
sent_more (DidAlter g o ∷ events) later = ap (λ (x : List ℕ). o ++ x) (sent_more events later) ∙ sym (append_assoc o (sent events) (sent later))
sent_more (DidCall a b o ∷ events) later = ap (λ (x : List ℕ). o ++ x) (sent_more events later) ∙ sym (append_assoc o (sent events) (sent later))
sent_more (DidCancel o ∷ events) later = ap (λ (x : List ℕ). o ++ x) (sent_more events later) ∙ sym (append_assoc o (sent events) (sent later))
sent_more (Lost b ∷ events) later = sent_more events later

-- ---- counts

pub rose_more : (n q a b c : ℕ) → RoseBy n a b → Rose b c → q ≡ n + 1 → RoseBy q a c
rose_more n q a b c h r e = omega arith

pub rose_still : (n q a b c : ℕ) → RoseBy n a b → b ≤ c → q ≡ n → RoseBy q a c
rose_still n q a b c h le e = omega arith

-- ---- wires

pub stays_then : {K : Type 0} (a b c : Wire K) → Stays a b → Stays b c → Stays a c
stays_then {K} a b c p q = q ∙ ap (λ (w : Wire K). record w { client = c.client; feed = c.feed; link = c.link }) p

module _ {K : Type 0} (shows : K → Shown) (interface : TableForm) where
  abbrev pub with_client : Wire K → Client → K → Wire K
  with_client w c k = record w { client = c; link = k }

  abbrev pub with_feed : Wire K → Fed → K → Wire K
  with_feed w f k = record w { feed = f; link = k }

  abbrev pub with_heard : Wire K → Client → Fed → Wire K
  with_heard w c f = record w { client = c; feed = f }

  pub stopped : (w : Wire K) (events : List ClientEvent) (m : ClientState) (pending : List ℕ) → Lived shows interface w events m pending → Stopped shows interface w events
  stopped w events m pending l = record {
    pending = pending;
    spoken = record { state = m; lives = l.lives; taken = l.taken; fed = w.feed; given = l.given; done = l.done; linked = l.linked; puts = l.puts };
    is_open = l.is_open;
  }

  -- ---- what is begun

  -- before it is put
  begun : (w : Wire K) (c : Client) (events : List ClientEvent) (m : ClientState) (e : ClientEvent) → Lived shows interface w events m [] → Happens m e (state c) → received (e ∷ []) ≡ []
      → Lived shows interface (with_client w c w.link) (events ++ e ∷ []) (state c) (sent (e ∷ []))
  begun w c events m e l happens none = record {
    at = refl;
    lives = one_more (at_start interface) m (state c) events e l.lives happens;
    taken = l.taken;
    given = subst (λ (ps : List Pdu). HasGiven l.taken ps w.feed) (sym (received_own e none events)) l.given;
    done = l.done;
    linked = l.linked;
    puts = sent_more events (e ∷ []) ∙ ap (λ (x : List ℕ). x ++ sent (e ∷ [])) (l.puts ∙ append-nil l.done);
    is_open = l.is_open;
  }

  all_put : (w : Wire K) (k : K) (events : List ClientEvent) (m : ClientState) (octets : List ℕ) → Lived shows interface w events m octets → Put (shows w.link) (shows k) octets
      → Lived shows interface (with_client w w.client k) events m []
  all_put w k events m octets l p = record {
    at = l.at;
    lives = l.lives;
    taken = l.taken;
    given = l.given;
    done = l.done ++ octets;
    linked = linked_put _ _ _ l.taken l.done octets l.linked p;
    puts = l.puts ∙ sym (append-nil (l.done ++ octets));
    is_open = p.closed ∙ l.is_open;
  }

  some_put : (w : Wire K) (k : K) (events : List ClientEvent) (m : ClientState) (octets : List ℕ) (n : ℕ) → Lived shows interface w events m octets → Put (shows w.link) (shows k) (take n octets)
      → Lived shows interface (with_client w w.client k) events m (drop n octets)
  some_put w k events m octets n l p = record {
    at = l.at;
    lives = l.lives;
    taken = l.taken;
    given = l.given;
    done = l.done ++ take n octets;
    linked = linked_put _ _ _ l.taken l.done (take n octets) l.linked p;
    puts = l.puts ∙ (ap (λ (x : List ℕ). l.done ++ x) (sym (take-append-drop n octets)) ∙ sym (append_assoc l.done (take n octets) (drop n octets)));
    is_open = p.closed ∙ l.is_open;
  }

  -- something that sends these octets
  pub record IsBegun (w : Wire K) (c : Client) (event : List ℕ → ClientEvent) (octets piece : List ℕ) : Type 0 where
    pub happens : Happens (state w.client) (event octets) (state c)
    pub none : received (event octets ∷ []) ≡ []
    pub sends : sent (event octets ∷ []) ≡ piece

  module _ (w : Wire K) (c : Client) (k : K) (events : List ClientEvent) (m : ClientState) (event : List ℕ → ClientEvent) (Long : Type 0) (octets piece : List ℕ) (l : Lived shows interface w events m []) (b : IsBegun w c event octets piece) where
    happens : Happens m (event octets) (state c)
    happens = subst (λ (s : ClientState). Happens s (event octets) (state c)) l.at b.happens

    unput : Lived shows interface (with_client w c w.link) (events ++ event octets ∷ []) (state c) piece
    unput = subst (λ (x : List ℕ). Lived shows interface (with_client w c w.link) (events ++ event octets ∷ []) (state c) x) b.sends (begun w c events m (event octets) l happens b.none)

    pub begins_ok : Put (shows w.link) (shows k) piece → Begins shows interface events m event Long w (Ok tt) (with_client w c k)
    begins_ok p = (octets, state c, happens, all_put (with_client w c w.link) k (events ++ event octets ∷ []) (state c) piece unput p)

    pub begins_failed : Rose (shows w.link).faults (shows k).faults → ((n : ℕ) × Put (shows w.link) (shows k) (take n piece)) → Begins shows interface events m event Long w (Err begin.Failed) (with_client w c k)
    begins_failed rose p = (
      octets,
      state c,
      drop p.0 piece,
      happens,
      some_put (with_client w c w.link) k (events ++ event octets ∷ []) (state c) piece p.0 unput p.1,
      rose,
    )

  -- ---- a look at the link

  pub took : (w : Wire K) (f : Fed) (k : K) (events : List ClientEvent) (m : ClientState) (piece : List ℕ) → Lived shows interface w events m [] → Took (shows w.link) (shows k) piece
      → f ≡ record { rest = w.feed.rest ++ piece; fault = w.feed.fault } → Looks shows interface events m w (Ok look.Nothing) (with_feed w f k)
  took w f k events m piece l t pushed = inr (record {
    at = l.at;
    lives = l.lives;
    taken = l.taken ++ piece;
    given = subst (HasGiven (l.taken ++ piece) (received events)) (sym pushed) (push_goes_on l.taken piece (received events) w.feed l.given);
    done = l.done;
    linked = linked_took _ _ _ l.taken l.done piece l.linked t;
    puts = l.puts;
    is_open = t.closed ∙ l.is_open;
  })

  -- there is no memory for the octets
  pub lost : (w : Wire K) (f : Fed) (k : K) (events : List ClientEvent) (m : ClientState) (piece : List ℕ) → Lived shows interface w events m [] → Took (shows w.link) (shows k) piece
      → Looks shows interface events m w (Err stop.Memory) (with_feed w f k)
  lost w f k events m piece l t = record {
    pending = [];
    spoken = record {
      state = m;
      lives = l.lives;
      taken = l.taken ++ piece;
      fed = record { rest = w.feed.rest ++ piece; fault = w.feed.fault };
      given = push_goes_on l.taken piece (received events) w.feed l.given;
      done = l.done;
      linked = linked_took _ _ _ l.taken l.done piece l.linked t;
      puts = l.puts;
    };
    is_open = t.closed ∙ l.is_open;
  }

  -- ---- a PDU

  -- the next of what came is heard
  heard : (w : Wire K) (c : Client) (f : Fed) (events : List ClientEvent) (m : ClientState) (p : Pdu) (t : Option Outcome) → Lived shows interface w events m [] → GivesNext w.feed (Ok (Some p)) f
      → HearsBody (state w.client) p p.body t (state c) → (h : HearsBody m p p.body t (state c)) × Lived shows interface (with_heard w c f) (events ++ Received p t ∷ []) (state c) []
  heard w c f events m p t l next h =
      let happens : HearsBody m p p.body t (state c) = subst (λ (s : ClientState). HearsBody s p p.body t (state c)) l.at h in (
        happens,
        record {
          at = refl;
          lives = one_more (at_start interface) m (state c) events (Received p t) l.lives happens;
          taken = l.taken;
          given = subst (λ (ps : List Pdu). HasGiven l.taken ps f) (sym (received_more events p t)) (goes_on l.taken (received events) w.feed f (Ok (Some p)) l.given next);
          done = l.done;
          linked = l.linked;
          puts = (sent_more events (Received p t ∷ []) ∙ append-nil (sent events)) ∙ l.puts;
          is_open = l.is_open;
        },
      )

  pub tells : (w : Wire K) (c : Client) (f : Fed) (events : List ClientEvent) (m : ClientState) (p : Pdu) (t : Told) → Lived shows interface w events m [] → GivesNext w.feed (Ok (Some p)) f
      → HearsBody (state w.client) p p.body (Some (told t)) (state c) → Looks shows interface events m w (Ok (look.Outcome t)) (with_heard w c f)
  tells w c f events m p t l next h = let x = heard w c f events m p (Some (told t)) l next h in (p, state c, x.0, x.1)

  pub tells_nothing : (w : Wire K) (c : Client) (f : Fed) (events : List ClientEvent) (m : ClientState) (p : Pdu) → Lived shows interface w events m [] → GivesNext w.feed (Ok (Some p)) f
      → HearsBody (state w.client) p p.body None (state c) → Looks shows interface events m w (Ok look.Nothing) (with_heard w c f)
  tells_nothing w c f events m p l next h = let x = heard w c f events m p None l next h in inl (p, state c, x.0, x.1)

  -- ---- the octets are no PDU's

  -- no PDU is whole, and a look at the link is taken
  pub takes : (w v : Wire K) (f : Fed) (events : List ClientEvent) (m : ClientState) (r : Result Look Stop) → f ≡ w.feed → Lived shows interface w events m []
      → (Lived shows interface (with_feed w f w.link) events m [] → Looks shows interface events m (with_feed w f w.link) r v) → Looks shows interface events m w r v
  takes w v f events m r same l looks =
      subst (λ (x : Fed). Looks shows interface events m (with_feed w x w.link) r v) same (looks (subst (λ (x : Fed). Lived shows interface (with_feed w x w.link) events m []) (sym same) l))

  -- ---- a new wire

  -- ---- a wait

  -- PDUs that told nothing were received so far
  abbrev pub Waited : List ClientEvent → Wire K → Type 0
  Waited events w = (before : List ClientEvent) × (n : ClientState) × AreSilent before × Lived shows interface w (events ++ before) n []

  pub none_yet : (w : Wire K) (events : List ClientEvent) (m : ClientState) → Lived shows interface w events m [] → Waited events w
  none_yet w events m l = ([], m, tt, subst (λ (es : List ClientEvent). Lived shows interface w es m []) (sym (append-nil events)) l)

  silent_more : (before : List ClientEvent) (p : Pdu) → AreSilent before → AreSilent (before ++ Received p None ∷ [])
  silent_more [] p h = tt
  silent_more (Received q None ∷ before) p h = silent_more before p h
  silent_more (Received q (Some t) ∷ before) p h = absurd h
  silent_more (DidBind g o ∷ before) p h = absurd h
  silent_more (DidAlter g o ∷ before) p h = absurd h
  silent_more (DidCall a b o ∷ before) p h = absurd h
  silent_more (DidCancel o ∷ before) p h = absurd h
  silent_more (Lost b ∷ before) p h = absurd h

  module _ (v w : Wire K) (events : List ClientEvent) (so_far : Waited events v) (r : Result Look Stop) (looks : (es : List ClientEvent) (n : ClientState) → Lived shows interface v es n [] → Looks shows interface es n v r w) where
    looked : Looks shows interface (events ++ so_far.0) so_far.1 v r w
    looked = looks (events ++ so_far.0) so_far.1 so_far.3

    quiet : r ≡ Ok look.Quiet → IsPartial w.feed.rest × Lived shows interface w (events ++ so_far.0) so_far.1 []
    quiet is = subst (λ (x : Result Look Stop). Looks shows interface (events ++ so_far.0) so_far.1 v x w) is looked

    pub goes_quiet : r ≡ Ok look.Quiet → Waited events w
    goes_quiet is = (so_far.0, so_far.1, so_far.2, (quiet is).1)

    -- it was quiet for too long
    pub ends_quiet : (old : Wire K) (m : ClientState) → r ≡ Ok look.Quiet → RoseBy most_quiets (shows old.link).quiets (shows w.link).quiets → Waits shows interface events m old (Err stop.Quiet) w
    ends_quiet old m is rose = (so_far.0, so_far.1, so_far.2, (quiet is).1, ((quiet is).0, rose))

    pub goes_silent : r ≡ Ok look.Nothing → Waited events w
    goes_silent is = by (subst (λ (x : Result Look Stop). Looks shows interface (events ++ so_far.0) so_far.1 v x w) is looked)
      where
        by : Looks shows interface (events ++ so_far.0) so_far.1 v (Ok look.Nothing) w → Waited events w
        by (inr l) = (so_far.0, so_far.1, so_far.2, l)
        by (inl h) = (
          so_far.0 ++ Received h.0 None ∷ [],
          h.1,
          silent_more so_far.0 h.0 so_far.2,
          subst (λ (es : List ClientEvent). Lived shows interface w es h.1 []) (append_assoc events so_far.0 (Received h.0 None ∷ [])) h.3,
        )

    pub goes_told : (old : Wire K) (m : ClientState) (t : Told) → r ≡ Ok (look.Outcome t) → Waits shows interface events m old (Ok t) w
    goes_told old m t is =
        let h : Looks shows interface (events ++ so_far.0) so_far.1 v (Ok (look.Outcome t)) w = subst (λ (x : Result Look Stop). Looks shows interface (events ++ so_far.0) so_far.1 v x w) is looked in (
          so_far.0,
          h.0,
          h.1,
          so_far.2,
          subst (λ (es : List ClientEvent). Lived shows interface w es h.1 []) (append_assoc events so_far.0 (Received h.0 (Some (told t)) ∷ [])) h.3,
        )

    pub goes_wrong : (old : Wire K) (m : ClientState) (why : Stop) → Counts (shows old.link) (shows v.link) → r ≡ Err why → Waits shows interface events m old (Err why) w
    goes_wrong old m why counts is = by why (subst (λ (x : Result Look Stop). Looks shows interface (events ++ so_far.0) so_far.1 v x w) is looked)
      where
        later : (z a b : ℕ) → z ≤ a → Rose a b → Rose z b
        later z a b h r = omega arith

        by : (why : Stop) → Looks shows interface (events ++ so_far.0) so_far.1 v (Err why) w → Waits shows interface events m old (Err why) w
        by stop.Memory h = (so_far.0, so_far.2, h)
        by stop.Quiet h = absurd h
        by stop.Failed h = (so_far.0, so_far.1, so_far.2, h.0, (h.1.0, later _ (shows v.link).faults _ counts.faults h.1.1))
        by stop.Ended h = (so_far.0, so_far.1, so_far.2, h.0, (h.1.0, later _ (shows v.link).ends _ counts.ends h.1.1, h.1.2))
        by stop.Cut h = (so_far.0, so_far.1, so_far.2, h.0, h.1)

  pub ends_short : (old w : Wire K) (events : List ClientEvent) (m : ClientState) → Waited events w → Waits shows interface events m old (Err stop.Memory) w
  ends_short old w events m so_far = (so_far.0, so_far.2, stopped w (events ++ so_far.0) so_far.1 [] so_far.3)

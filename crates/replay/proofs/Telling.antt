-- What the turns of each connection of a replay tell, at each moment.
use Rattle.std.proofs.Common.{◌≡◌, ◌≢◌, ◌==◌, ℕ, zero, suc, ◌-◌, ◌≤◌, Bool, true, false, Option, Some, None, List, [], ◌∷◌, ◌++◌, get_or, slice_set, refl, sym, ap, subst, ◌∙◌, inl, inr, arith}
use Rattle.std.specs.Prelude.{⊤}
use Rattle.std.specs.List.{AllByRecursion}
use Rattle.std.proofs.lemmas.Bool.Decides.{eqb_tells}
use Rattle.handle_model.specs.declared.entry.Home.{Home}
use Rattle.handle_model.specs.declared.entry.Slot.{Slot}
use Rattle.handle_model.specs.declared.entry.Entry.{Entry}
use Rattle.pdu_stream.specs.declared.joined.Joined.{Joined}
use Rattle.conn_histories.specs.declared.turn.Off.{Off}
use Rattle.conn_histories.specs.declared.turn.Fate.{Fate}
use Rattle.conn_histories.specs.declared.turn.Turn.{Turn}
use Rattle.conn_histories.specs.Tales.{whole}
use Rattle.conn_histories.specs.declared.turn.Deed.TheVariants as deeds
use Rattle.conn_asks.specs.declared.events.Waits.{Waits}
use Rattle.conn_asks.specs.declared.events.Waits.TheVariants as waiting
use Rattle.conn_asks.specs.Asks.{is_bound}
use Rattle.conn_asks.specs.States.{ConnState, at_start, caller_of, IsGrouping}
use Rattle.conn_histories.specs.Histories.{Lives, IsAtRest, seen}
use Rattle.conn_histories.specs.Requests.{ids_of}
use Rattle.replay_world.specs.declared.peer.Member.{Member}
use Rattle.replay_world.specs.declared.peer.Unanswered.{Unanswered}
use Rattle.replay_world.specs.declared.peer.Unanswered.TheVariants.{Nothing, Bind, Refused, Call}
use Rattle.replay_world.specs.declared.peer.Standing.{Standing}
use Rattle.replay_world.specs.declared.peer.Standing.TheVariants.{Open, Closed, Lost}
use Rattle.replay_world.specs.Services.{Service}
use Rattle.replay_world.specs.Worlds.{Peer, World, home_of, past_of}
use Rattle.rpc_base.specs.declared.identifiers.Status.{Status}
use Rattle.handle_model.specs.Journal.{Legal, has_joined}
use Rattle.conn_histories.specs.declared.turn.Turn.TheVariants.{Binding, Called}
use Rattle.conn_histories.specs.Entries.{has_left, is_open, deed_open, deed_runs, turn_open, numbers_of}
use Rattle.conn_histories.specs.Events.{all_events}
use Rattle.conn_histories.specs.Stories.{AllDue, Made}
use Rattle.conn_histories.specs.Tales.{Stands}
use Rattle.conn_turns.specs.Done.{IsDone}
use Rattle.replay_world.specs.Promised.{as_server}
use Rattle.conn_turns.proofs.Making.{called, made_stays}
use Rattle.conn_turns.proofs.Whose.{AreBy, ApartFrom, AskedOf, all_asked, apart_asked, apart_unasked, are_others}
use Rattle.conn_turns.specs.Quiet.{IsQuiet}
use Rattle.replay.proofs.Reaching.{Below}
use Rattle.conn_turns.proofs.TaleFacts.{asked_in}

-- ---- the newest turn, by what waits for the server's word

pub record IsBinding (asked : ℕ) (turns : List Turn) : Type 0 where
  pub older : List Turn
  pub is : turns ≡ Binding asked ∷ older
  pub done : AllByRecursion IsDone older

pub record Refusing (status : Status) (turns : List Turn) : Type 0 where
  pub joined : Joined
  pub iface : ℕ
  pub older : List Turn
  pub is : turns ≡ called joined iface [] (deeds.Refused status) None ∷ older
  pub done : AllByRecursion IsDone older

pub record Asking (k : ℕ) (turns : List Turn) : Type 0 where
  pub joined : Joined
  pub iface : ℕ
  pub offs : List Off
  pub slots : List Slot
  pub fate : Fate
  pub older : List Turn
  pub is : turns ≡ called joined iface offs (deeds.Accepted k slots fate) None ∷ older
  pub done : AllByRecursion IsDone older
  pub may : is_open fate ≡ true → joined.cancel ≡ false
  pub apart : AllByRecursion (λ m. (k == m) ≡ false) (numbers_of older)

abbrev pub Front : Unanswered → List Turn → Waits → Type 0
Front Nothing turns waits = AllByRecursion IsDone turns × (waits ≡ waiting.Nothing)
Front (Bind asked) turns waits = IsBinding asked turns × IsGrouping waits
Front (Refused status) turns waits = (b : Refusing status turns) × (waits ≡ waiting.Call (caller_of b.joined) b.joined.maybe)
Front (Call k) turns waits = (b : Asking k turns) × (waits ≡ waiting.Call (caller_of b.joined) b.joined.maybe)

-- of a connection that was lost
abbrev pub Left : Unanswered → List Turn → ConnState → Type 0
Left Nothing turns m = AllByRecursion IsDone turns × (m.waits ≡ waiting.Nothing) × IsAtRest m
Left (Call k) turns m = (b : Asking k turns) × (has_left b.fate ≡ true)
Left _ turns m = ⊥

abbrev pub Behind : Standing → Unanswered → List Turn → ConnState → Type 0
Behind Open x turns m = Front x turns m.waits
Behind Closed x turns m = (x ≡ Nothing) × (m.waits ≡ waiting.Over) × AllByRecursion IsDone turns
Behind Lost x turns m = Left x turns m

-- ---- where nothing more happens for now

abbrev pub newest_open : List Turn → Bool
newest_open [] = false
newest_open (t ∷ ts) = turn_open t

abbrev pub RestsBy : Unanswered → List Turn → ConnState → Type 0
RestsBy Nothing turns m = IsAtRest m
RestsBy (Call k) turns m = newest_open turns ≡ true
RestsBy _ turns m = ⊥

abbrev pub RestsAs : Standing → Unanswered → List Turn → ConnState → Type 0
RestsAs Open x turns m = RestsBy x turns m
RestsAs _ x turns m = ⊤

-- ---- a bind came

abbrev pub BoundBy : Option Member → Unanswered → ConnState → Type 0
BoundBy (Some g) (Bind asked) m = ⊥
BoundBy (Some g) _ m = is_bound m.past ≡ true
BoundBy None (Bind asked) m = is_bound m.past ≡ true
BoundBy None _ m = ⊤

abbrev pub is_gone : Standing → Bool
is_gone Open = false
is_gone Closed = true
is_gone Lost = true

-- one on which something happens needn't rest
pub not_free : false ≡ true → ⊥
not_free e = absurd cc

module _ (service : Service) (end : World service.State) where
  -- its entries are made; or it is in no group, and entered none
  abbrev pub IsTold : World service.State → Option Member → Bool → List Turn → Type 0
  IsTold w None gone turns = AllByRecursion IsQuiet turns × AllDue (as_server service end) (home_of end 0) 0 [] turns
  IsTold w (Some m) gone turns = (own : List Entry) × Made (as_server service end) (home_of end m.group) m.number (past_of w m.group) gone turns own

  pub record TellsTurns (w : World service.State) (p : Peer) (free : Bool) : Type 0 where
    pub turns : List Turn
    pub lives : Lives (at_start (ids_of service.tables)) p.events p.state
    pub events : seen p.events ≡ all_events turns
    pub behind : Behind p.standing p.unanswered turns p.state
    pub bound : BoundBy p.member p.unanswered p.state
    pub told : IsTold w p.member (is_gone p.standing) turns
    pub rests : free ≡ true → RestsAs p.standing p.unanswered turns p.state

  abbrev pub busy : (w : World service.State) (p : Peer) (free : Bool) → TellsTurns w p free → TellsTurns w p false
  busy w p free t = record { turns = t.turns; lives = t.lives; events = t.events; behind = t.behind; bound = t.bound; told = t.told; rests = λ e. absurd (not_free e) }

  abbrev pub retold : (w v : World service.State) (p : Peer) (free : Bool) → ((gone : Bool) (turns : List Turn) → IsTold w p.member gone turns → IsTold v p.member gone turns) → TellsTurns w p free → TellsTurns v p free
  retold w v p free f t = record { turns = t.turns; lives = t.lives; events = t.events; behind = t.behind; bound = t.bound; told = f (is_gone p.standing) t.turns t.told; rests = t.rests }

  -- ---- journals that stay

  pub same_told : (w v : World service.State) (o : Option Member) → ((m : Member) → o ≡ Some m → past_of v m.group ≡ past_of w m.group) → (gone : Bool) (turns : List Turn) → IsTold w o gone turns → IsTold v o gone turns
  same_told w v None f gone turns t = t
  same_told w v (Some m) f gone turns t =
      (t.0, subst (λ (past : List Entry). Made (as_server service end) (home_of end m.group) m.number past gone turns t.0) (sym (f m refl)) t.1)

  -- what a connection enters is not of the others
  pub record Enters (w v : World service.State) (g n : ℕ) : Type 0 where
    pub call : Option ℕ
    pub es : List Entry
    pub at : past_of v g ≡ es ++ past_of w g
    pub by : AreBy n call es
    pub elsewhere : (h : ℕ) → 1 ≤ h → h ≢ g → past_of v h ≡ past_of w h
    pub apart : (c : ℕ) (gone : Bool) (turns : List Turn) → n ≢ c → AllByRecursion (Stands c gone (past_of w g)) turns → ApartFrom call (numbers_of turns)

  pub others_told : (w v : World service.State) (g n : ℕ) (o : Option Member) → Enters w v g n → Below end v → ((m : Member) → o ≡ Some m → (1 ≤ m.group) × (m ≢ record { group = g; number = n }))
      → (gone : Bool) (turns : List Turn) → IsTold w o gone turns → IsTold v o gone turns
  others_told w v g n None e b f gone turns t = t
  others_told w v g n (Some m) e b f gone turns t =
      elim (eqb_tells m.group g) [
        | inl same ↦
            let differs : n ≢ m.number = λ x. (f m refl).1 (λ i. record { group = same.1 i; number = sym x i }) in
            let at : past_of v m.group ≡ e.es ++ past_of w m.group = subst (λ (h : ℕ). past_of v h ≡ e.es ++ past_of w h) (sym same.1) e.at in
            let stand : AllByRecursion (Stands m.number gone (past_of w g)) turns = subst (λ (h : ℕ). AllByRecursion (Stands m.number gone (past_of w h)) turns) same.1 t.1.stand.stand in
            let others = are_others n m.number differs e.call turns e.es (e.apart m.number gone turns differs stand) e.by in
            let legal : Legal (whole (home_of end m.group) (e.es ++ past_of w m.group)) = subst (λ (past : List Entry). Legal (whole (home_of end m.group) past)) at (b.legal m.group (f m refl).0) in (
              t.0,
              subst (λ (past : List Entry). Made (as_server service end) (home_of end m.group) m.number past gone turns t.0) (sym at)
                  (made_stays (as_server service end) (home_of end m.group) m.number e.es (past_of w m.group) gone turns t.0 legal others t.1),
            )
        | inr other ↦ same_told w v (Some m) (λ x is. let one : m ≡ x = cc in subst (λ (y : Member). past_of v y.group ≡ past_of w y.group) one (e.elsewhere m.group (f m refl).0 other.1)) gone turns t
      ]

-- ---- which calls are apart

pub none_apart : {S : Type 0} (w : World S) (g n c : ℕ) (gone : Bool) (turns : List Turn) → n ≢ c → AllByRecursion (Stands c gone (past_of w g)) turns → ApartFrom None (numbers_of turns)
none_apart w g n c gone turns d s = tt

pub call_apart : {S : Type 0} (w : World S) (g n k : ℕ) → AskedOf n (past_of w g) k → (c : ℕ) (gone : Bool) (turns : List Turn) → n ≢ c → AllByRecursion (Stands c gone (past_of w g)) turns
    → ApartFrom (Some k) (numbers_of turns)
call_apart w g n k a c gone turns d s =
    apart_asked c (past_of w g) k a.what (numbers_of turns) a.asks (λ e. d (sym a.theirs ∙ e)) (all_asked c gone (past_of w g) turns s)

pub new_apart : {S : Type 0} (w : World S) (g n k : ℕ) → asked_in k (past_of w g) ≡ None → (c : ℕ) (gone : Bool) (turns : List Turn) → n ≢ c → AllByRecursion (Stands c gone (past_of w g)) turns
    → ApartFrom (Some k) (numbers_of turns)
new_apart w g n k new c gone turns d s = apart_unasked c (past_of w g) k (numbers_of turns) new (all_asked c gone (past_of w g) turns s)

-- ---- one journal is set

pub set_there : (home : Home) (l : List (List Entry)) (i n : ℕ) (x : List Entry) → has_joined (whole home (get_or l i [])) n ≡ true → get_or (slice_set l i x) i [] ≡ x
set_there home [] i n x h = absurd (cc)
set_there home (y ∷ l) zero n x h = refl
set_there home (y ∷ l) (suc i) n x h = set_there home l i n x h

pub set_elsewhere : (l : List (List Entry)) (g h : ℕ) (x : List Entry) → 1 ≤ g → 1 ≤ h → h ≢ g → get_or (slice_set l (g - 1) x) (h - 1) [] ≡ get_or l (h - 1) []
set_elsewhere l g h x low up d = at l (g - 1) (h - 1) (λ e. d (omega (arith, e, low, up)))
  where
    at : (l : List (List Entry)) (i j : ℕ) → (j ≡ i → ⊥) → get_or (slice_set l i x) j [] ≡ get_or l j []
    at [] i j d = refl
    at (y ∷ l) zero zero d = absurd (d refl)
    at (y ∷ l) zero (suc j) d = refl
    at (y ∷ l) (suc i) zero d = refl
    at (y ∷ l) (suc i) (suc j) d = at l i j (λ e. d (ap suc e))

-- What holds of a connection and stays through all that happens to it.
use Rattle.std.proofs.Common.{◌≡◌, ℕ, zero, suc, Bool, true, false, Some, Ok, List, [], ◌∷◌, ◌++◌, length, refl, sym, ap, subst, ◌∙◌}
use Rattle.std.specs.Prelude.{slice_get, slice_set}
use Rattle.handle_model.specs.declared.entry.Entry.{Entry}
use Rattle.ndr_table.specs.Tables.{TableForm}
use Rattle.conn_histories.specs.Histories.{Event, stream}
use Rattle.conn_histories.specs.Histories.Event.{Came, Paused, Did, Decided}
use Rattle.client_core.specs.States.{ClientState, is_calling}
use Rattle.client_core.specs.Calls.{Cancels}
use Rattle.world_laws.specs.Moves.{Move}
use Rattle.world_laws.specs.Moves.{Move as moves}
use Rattle.world_laws.specs.Ends.{CallerEnd, Line}
use Rattle.world_laws.specs.Serving.{ServerDoes, ServerGoesBy}
use Rattle.world_laws.specs.Calling.{HearsOctets, IfBroken, lost_line, LosesLine}
use Rattle.world_laws.specs.Worlds.{World, with_line, entered, LosesAt, LosesAll, cancelling, CallsOff, Arrives, Comes, GoesOnFor, Tries, Plays}
use Rattle.world_laws.specs.Worlds.GoesOnFor.{answered, unheard}
use Rattle.world_laws.specs.Worlds.Tries.{taken, denied}
use Rattle.world_laws.proofs.Lists.{within}
use Rattle.world_laws.proofs.Holds.{OfSet, of_set}
use Rattle.world_laws.proofs.Holds.OfSet.{here, there_still}

-- P stays, whatever happens to a connection but that a call is started
pub record Stays (table : TableForm) (P : Line → Type 0) : Type 0 where
  pub cancels : (l : Line) (octets : List ℕ) (state : ClientState) → l.standing ≡ true → is_calling l.caller.state ≡ true → Cancels l.caller.state (Ok octets) state → P l → P (cancelling table l octets state)
  pub comes : (l m : Line) (past new : List Entry) (front left : List ℕ) → l.standing ≡ true → l.up ≡ front ++ left → ServerDoes (table ∷ []) (record l { up = left }) past (Came front) m new → P l → P m
  pub does : (l m : Line) (past new : List Entry) (event : Event) → l.standing ≡ true → stream (event ∷ []) ≡ [] → ServerDoes (table ∷ []) l past event m new → P l → P m
  pub hears : (l : Line) (d : CallerEnd) (front left : List ℕ) → l.standing ≡ true → l.down ≡ front ++ left → HearsOctets l.caller front d false → P l → P (record l { caller = d; down = left })
  pub breaks : (l : Line) (d : CallerEnd) (front left : List ℕ) → l.standing ≡ true → l.down ≡ front ++ left → HearsOctets l.caller front d true → P l → P (lost_line (record l { caller = d; down = left }))
  pub loses : (l : Line) → l.standing ≡ true → P l → P (lost_line l)

-- the connections of one world and of another, with no call started between them
pub record OnLines (P : Line → Type 0) (w v : World) : Type 0 where
  pub starts : v.starts ≡ w.starts
  pub count : length v.lines ≡ length w.lines
  pub lines : (i : ℕ) (m : Line) → slice_get v.lines i ≡ Some m → (l : Line) × (slice_get w.lines i ≡ Some l) × (P l → P m)

same_lines : (P : Line → Type 0) (w v : World) → v.lines ≡ w.lines → v.starts ≡ w.starts → OnLines P w v
same_lines P w v same starts = record {
  starts = starts;
  count = ap length same;
  lines = λ i m at. (m, ap (λ (ls : List Line). slice_get ls i) (sym same) ∙ at, λ p. p);
}

then_lines : (P : Line → Type 0) (u v w : World) → OnLines P u v → OnLines P v w → OnLines P u w
then_lines P u v w a b = record {
  starts = b.starts ∙ a.starts;
  count = b.count ∙ a.count;
  lines = λ i m at. (let (l, found, on) = b.lines i m at in let (k, there, before) = a.lines i l found in (k, there, λ p. on (before p)));
}

set_count : (lines : List Line) (i : ℕ) (m : Line) → length (slice_set lines i m) ≡ length lines
set_count [] i m = refl
set_count (l ∷ lines) zero m = refl
set_count (l ∷ lines) (suc i) m = ap suc (set_count lines i m)

set_line : (P : Line → Type 0) (w : World) (i : ℕ) (l m : Line) (past : List Entry) → slice_get w.lines i ≡ Some l → (P l → P m) → OnLines P w (with_line w i m past)
set_line P w i l m past at f = record {
  starts = refl;
  count = set_count w.lines i m;
  lines = λ j x found. by j x (of_set w.lines i m j x (within w.lines i l at) found);
}
  where
    by : (j : ℕ) (x : Line) → OfSet w.lines i m j x → (k : Line) × (slice_get w.lines j ≡ Some k) × (P k → P x)
    by j x (here same is) = (l, ap (λ (n : ℕ). slice_get w.lines n) same ∙ at, λ p. subst P (sym is) (f p))
    by j x (there_still other found) = (x, found, λ p. p)

-- ---- the server

stands_on : (table : TableForm) (l m : Line) (past new : List Entry) (event : Event) → ServerDoes (table ∷ []) l past event m new → l.standing ≡ true → m.standing ≡ true
stands_on table l m past new event d stands = ap (λ (x : Line). x.standing) d.then_ ∙ stands

goes_by : (events : List Event) (table : TableForm) (P : Line → Type 0) (l m : Line) (past new : List Entry) → Stays table P → l.standing ≡ true → ServerGoesBy (table ∷ []) l past events m new → P l → P m
goes_by [] table P l m past new s stands d p = s.does l m past new Paused stands refl d p
goes_by (Did act ∷ more) table P l m past new s stands (between, next, d, later) p =
    goes_by more table P between m next new s (stands_on table l between past next (Did act) d stands) later (s.does l between past next (Did act) stands refl d p)
goes_by (Decided decision octets ∷ more) table P l m past new s stands (between, next, d, later) p =
    goes_by more table P between m next new s (stands_on table l between past next (Decided decision octets) d stands) later (s.does l between past next (Decided decision octets) stands refl d p)
goes_by (Came octets ∷ more) table P l m past new s stands d p = absurd d
goes_by (Paused ∷ more) table P l m past new s stands d p = absurd d

goes_on_for : (table : TableForm) (P : Line → Type 0) (k : ℕ) (w v : World) → Stays table P → GoesOnFor table k w v → OnLines P w v
goes_on_for table P k w v s (answered i l m past at stands waits goes after) =
    subst (λ (x : World). OnLines P w x) (sym after) (set_line P w i l m past at (λ p. goes_by goes.0 table P l m w.past past s stands goes.1 p))
goes_on_for table P k w v s (unheard none is) = subst (λ (x : World). OnLines P w x) (sym is) (same_lines P w w refl refl)

pub tries_on : (table : TableForm) (P : Line → Type 0) (w v : World) (k : ℕ) → Stays table P → Tries table w k v → OnLines P w v
tries_on table P w v k s (taken row serial past takes is) = subst (λ (x : World). OnLines P w x) (sym is) (same_lines P w (entered w past) refl refl)
tries_on table P w v k s (denied slot past takes goes) = then_lines P w (entered w past) v (same_lines P w (entered w past) refl refl) (goes_on_for table P k (entered w past) v s goes)

pub arrives_on : (table : TableForm) (P : Line → Type 0) (w v : World) (n i : ℕ) (l : Line) → Stays table P → slice_get w.lines i ≡ Some l → l.standing ≡ true → Arrives table w n i l v → OnLines P w v
arrives_on table P w v n i l s at stands a =
    let stood : a.came.standing ≡ true = ap (λ (x : Line). x.standing) a.comes.then_ ∙ stands in
    subst (λ (x : World). OnLines P w x) (sym a.after)
    (set_line P w i l a.line a.past at
    (λ p. goes_by a.goes_on.0 table P a.came a.line a.then_ a.past s stood a.goes_on.1 (s.comes l a.came w.past a.then_ a.front a.left stands a.way.0 a.comes p)))

-- ---- the caller

loses_on : (table : TableForm) (P : Line → Type 0) (w v : World) (c : ℕ) → Stays table P → LosesAt w c v → OnLines P w v
loses_on table P w v c s (i, l, at, named, stands, (m, past, (is, leaves), after)) =
    subst (λ (x : World). OnLines P w x) (sym after) (set_line P w i l m past at (λ p. subst P (sym is) (s.loses l stands p)))

loses_all_on : (names : List ℕ) (table : TableForm) (P : Line → Type 0) (w v : World) → Stays table P → LosesAll w names v → OnLines P w v
loses_all_on [] table P w v s (is, none) = subst (λ (x : World). OnLines P w x) (sym is) (same_lines P w w refl refl)
loses_all_on (c ∷ cs) table P w v s (least, (u, first, later)) = then_lines P w u v (loses_on table P w u c s first) (loses_all_on cs table P u v s later)

comes_on : (table : TableForm) (P : Line → Type 0) (w v : World) (n i : ℕ) (l : Line) → Stays table P → slice_get w.lines i ≡ Some l → l.standing ≡ true → Comes table w n i l v → OnLines P w v
comes_on table P w v n i l s at stands a = subst (λ (x : World). OnLines P w x) (sym a.after) (set_line P w i l a.line a.past at (λ p. by a.broken a.hears a.is_line p))
  where
    by : (b : Bool) → HearsOctets l.caller a.front a.caller b → IfBroken b (LosesLine (record l { caller = a.caller; down = a.left }) w.past a.line a.past) ((a.line ≡ record l { caller = a.caller; down = a.left }) × (a.past ≡ w.past)) → P l → P a.line
    by true h (is, leaves) p = subst P (sym is) (s.breaks l a.caller a.front a.left stands a.way.0 h p)
    by false h (is, same) p = subst P (sym is) (s.hears l a.caller a.front a.left stands a.way.0 h p)

calls_off_on : (table : TableForm) (P : Line → Type 0) (w v : World) (i : ℕ) (l : Line) → Stays table P → slice_get w.lines i ≡ Some l → l.standing ≡ true → CallsOff table w i l v → OnLines P w v
calls_off_on table P w v i l s at stands c = subst (λ (x : World). OnLines P w x) (sym c.after) (set_line P w i l (cancelling table l c.octets c.state) w.past at (λ p. s.cancels l c.octets c.state stands c.out c.cancels p))

-- ---- every move but those that open a connection or start a call

abbrev pub Others : TableForm → (Line → Type 0) → Move → World → World → Type 0
Others table P (moves.Open c group) w v = Unit {0}
Others table P (moves.Start c op m) w v = Unit {0}
Others table P _ w v = OnLines P w v

pub plays_on : (table : TableForm) (P : Line → Type 0) (move : Move) (w v : World) → Stays table P → Plays table w move v → Others table P move w v
plays_on table P (moves.Open c group) w v s p = tt
plays_on table P (moves.Start c op m) w v s p = tt
plays_on table P (moves.ToServer c n) w v s (i, l, at, named, stands, p) = arrives_on table P w v n i l s at stands p
plays_on table P (moves.ToCaller c n) w v s (i, l, at, named, stands, p) = comes_on table P w v n i l s at stands p
plays_on table P (moves.Cancel c) w v s (i, l, at, named, stands, p) = calls_off_on table P w v i l s at stands p
plays_on table P (moves.Lose c) w v s p = loses_on table P w v c s p
plays_on table P moves.Restart w v s (names, p) = loses_all_on names table P w v s p
plays_on table P (moves.Take k) w v s p = tries_on table P w v k s p
plays_on table P (moves.Finish k kepts m) w v s (past, ends, goes) = then_lines P w (entered w past) v (same_lines P w (entered w past) refl refl) (goes_on_for table P k (entered w past) v s goes)

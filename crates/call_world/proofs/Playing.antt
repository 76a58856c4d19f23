-- Moves on the connection that was found, whether they can be played or not.
use Rattle.std.proofs.Common.{◌≡◌, ℕ, ◌≤◌, Bool, true, false, Option, Some, None, Result, Ok, Err, IfOk, IfErr, OnOk, List, [], ◌∷◌, ◌++◌, length, map, get_or, refl, sym, ap, subst, ◌∙◌}
use Rattle.std.specs.Prelude.{slice_get, slice_set, position}
use Rattle.std.proofs.lemmas.Bool.{and_parts, and_from, both_ways, eqb-true, eq-eqb}
use Rattle.std.proofs.lemmas.Option.{get_or_from_slice_get}
use Rattle.handle_model.specs.Journal as journals
use Rattle.group_core.specs.declared.answer.Taking.{Taking}
use Rattle.group_core.specs.declared.answer.Taking.TheVariants as taking
use Rattle.group_core.specs.Calls as calls
use Rattle.manager_api.specs.declared.answer.Kept.{Kept}
use Rattle.world_laws.specs.Ends.Waiting.{Call}
use Rattle.world_server.specs.Finishes.{Finishes}
use Rattle.world_ends.specs.Servings.{waiting_of}
use Rattle.world_ends.specs.declared.serving.Waiting.{Waiting as Waits}
use Rattle.world_ends.specs.declared.serving.Waiting.TheVariants as waits
use Rattle.ndr_table.specs.Shown.{shown}
use Rattle.ndr_table.specs.Tables.{TableForm}
use Rattle.ndr_value.specs.Values.{Msg}
use Rattle.handle_model.specs.declared.entry.Entry.{Entry}
use Rattle.world_laws.specs.Ends.{Line}
use Rattle.world_laws.specs.Moves.{Move}
use Rattle.world_laws.specs.Moves.{Move as moves}
use Rattle.call_world.specs.declared.moves.Move.{Move as Step}
use Rattle.call_world.specs.Moves.{move_of}
use Rattle.world_laws.specs.Calling.{LosesLine}
use Rattle.world_laws.specs.Worlds.{World, empty, LosesAll, IsLeast, NoneStands}
use Rattle.world_server.specs.Servers.{ServerView, seen, IsWhole, Goes, Whole, whole}
use Rattle.world_server.specs.declared.server.Server.{Server}
use Rattle.call_world.specs.declared.line.Line.{Line as Wire}
use Rattle.call_world.specs.declared.world.World.{World as Machine}
use Rattle.call_world.specs.declared.world.Started.{Started as Place}
use Rattle.call_world.specs.Lines.{StartsOn, CallsOffOn, ArrivesOn, ComesOn, MayStartOn, MayCallOffOn, MayArriveOn, MayComeOn, Happens, HappensWith, Fails, Tries, TriesWith}
use Rattle.call_world.specs.Worlds.{IsWorld, IsReady, started_of}
use Rattle.call_world.specs.Worlds as worlds
use Rattle.call_world.specs.Rows.{FindsLeast, awaits, is_awaiting}
use Rattle.call_world.proofs.Lining.{wire_at, on_line}
use Rattle.call_world.proofs.Places.{Read, found_at, missed_at}
use Rattle.call_world.proofs.Moving.{Alone, alone, arrives, arrives_not, comes, comes_not, calls_off, calls_off_not, starts, starts_not, lose_stays, takes_run, takes_denied, takes_not, ends_not, ends_so, unheard_goes}

-- what holds of an answer that came gives what else holds of it
pub if_ok : {A E : Type 0} (r : Result A E) (P Q : A → Type 0) → ((a : A) → P a → Q a) → IfOk r P → IfOk r Q
if_ok (Ok a) P Q f h = f a h
if_ok (Err e) P Q f h = tt

pub if_err : {A E : Type 0} (r : Result A E) (P Q : E → Type 0) → ((e : E) → P e → Q e) → IfErr r P → IfErr r Q
if_err (Ok a) P Q f h = tt
if_err (Err e) P Q f h = f e h

module _ (x y : Machine) (c i : ℕ) (s t : Wire) (r : Read x c i s) where
  pub arrives_so : (count : ℕ) (done : Bool) → TriesWith (MayArriveOn count) (ArrivesOn (seen x.server).tables count) done (seen x.server) s (seen y.server) t → y.lines.items ≡ slice_set x.lines.items i t → shown y.table ≡ shown x.table → y.starts ≡ x.starts
      → worlds.Tries (moves.ToServer c count) done x y
  arrives_so count true tried lines table starts = arrives x y c i s t r.at r.named r.stands count tried lines table starts
  arrives_so count false tried lines table starts = arrives_not x y c i s t r.at r.named r.stands count tried

  pub comes_so : (count : ℕ) (done : Bool) → TriesWith (MayComeOn count) (ComesOn count) done (seen x.server) s (seen y.server) t → y.lines.items ≡ slice_set x.lines.items i t → shown y.table ≡ shown x.table → y.starts ≡ x.starts
      → worlds.Tries (moves.ToCaller c count) done x y
  comes_so count true tried lines table starts = comes x y c i s t r.at r.named r.stands count tried lines table starts
  comes_so count false tried lines table starts = comes_not x y c i s t r.at r.named r.stands count tried

  -- what needs no server
  alone_on : (Does : Line → Line → Type 0) → IsWhole (seen x.server) → Happens Does s t → y.server ≡ x.server → HappensWith (Alone Does) (seen x.server) s (seen y.server) t
  alone_on Does whole tried server = subst (λ (v : Server). HappensWith (Alone Does) (seen x.server) s (seen v) t) (sym server) (alone Does (seen x.server) s t whole tried)

  pub calls_off_so : (done : Bool) → IsWhole (seen x.server) → ((table : TableForm) → Tries MayCallOffOn (CallsOffOn table) done s t) → y.lines.items ≡ slice_set x.lines.items i t → y.server ≡ x.server → shown y.table ≡ shown x.table → y.starts ≡ x.starts
      → worlds.Tries (moves.Cancel c) done x y
  calls_off_so true whole tried lines server table starts =
      calls_off x y c i s t r.at r.named r.stands (alone_on (CallsOffOn (shown x.table)) whole (tried (shown x.table)) server) lines table starts
  calls_off_so false whole tried lines server table starts =
      calls_off_not x y c i s t r.at r.named r.stands (tried (shown x.table))

  pub starts_so : (op : ℕ) (m : Msg) (p : Place) → IsWhole (seen x.server) → ((table : TableForm) → Happens (StartsOn table op m) s t) → y.lines.items ≡ slice_set x.lines.items i t → y.server ≡ x.server → shown y.table ≡ shown x.table
      → y.starts.items ≡ x.starts.items ++ p ∷ [] → p.line ≡ i → p.place ≡ length s.caller.fates.items → worlds.Tries (moves.Start c op m) true x y
  starts_so op m p whole tried lines server table more line place =
      starts x y c i s t r.at r.named r.stands op m p (alone_on (StartsOn (shown x.table) op m) whole (tried (shown x.table)) server) lines table more line place

  pub starts_not_so : (op : ℕ) (m : Msg) → Fails (MayStartOn op m) s → worlds.Tries (moves.Start c op m) false x y
  starts_not_so op m fails = starts_not x y c i s t r.at r.named r.stands op m fails

-- ---- a restart

-- Some connections were lost, by rising name: where the losses of the others lead, all lead from the first one on.
abbrev pub Losing : Machine → Machine → Type 0
Losing x y =
    IsWhole (seen y.server) × (shown y.table ≡ shown x.table)
    × ((w : World) → IsWorld x w → (u : World) × IsWorld y u × ((names : List ℕ) (v : World) → LosesAll u names v → (all : List ℕ) × LosesAll w all v))

pub loses_none : (x : Machine) → IsWhole (seen x.server) → Losing x x
loses_none x whole = (whole, refl, λ w is. (w, is, λ names v all. (names, all)))

least_is : (x : Machine) (u : World) (i : ℕ) → IsWorld x u → FindsLeast x.lines.items (Some i) → (s : Wire) → slice_get x.lines.items i ≡ Some s → IsLeast u s.name
least_is x u i is (t, at, stands, least) s s_at j l l_at l_stands =
    let f = wire_at x.lines.items u.lines j l is.lines l_at in
    let alike : t.name ≡ s.name = cc in
    subst (λ (n : ℕ). n ≤ l.name) alike (subst (λ (n : ℕ). t.name ≤ n) f.2.name (least j f.0 f.1 (f.2.standing ∙ l_stands)))

pub loses_more : (x y z : Machine) (i : ℕ) (s t : Wire) → Losing x y → FindsLeast y.lines.items (Some i) → slice_get y.lines.items i ≡ Some s → s.standing ≡ true → HappensWith LosesLine (seen y.server) s (seen z.server) t
    → z.lines.items ≡ slice_set y.lines.items i t → shown z.table ≡ shown y.table → z.starts ≡ y.starts → Losing x z
loses_more x y z i s t before least at stands tried lines table starts = (
  tried.0,
  table ∙ before.1,
  λ w is.
      let b = before.2 w is in
      let r = on_line LosesLine y z b.0 s.name i s t b.1 at refl stands lose_stays tried lines table starts in
      (r.0, r.2, λ names v all. b.2 (s.name ∷ names) v (least_is y b.0 i b.1 least s at, (r.0, r.1, all))),
)

none_stand : (x : Machine) (u : World) → IsWorld x u → FindsLeast x.lines.items None → NoneStands u
none_stand x u is none i l at stands =
    let f = wire_at x.lines.items u.lines i l is.lines at in
    none i f.0 f.1 (f.2.standing ∙ stands)

pub loses_all : (x y : Machine) → Losing x y → FindsLeast y.lines.items None → worlds.Tries moves.Restart true x y
loses_all x y before none = (
  before.1,
  λ w is.
      let b = before.2 w is in
      let all = b.2 [] b.0 (refl, none_stand y b.0 b.1 none) in
      (b.0, (all.0, all.1), b.1),
)

-- ---- the server's moves

pub ready_after : (x z : Machine) (Says : List Entry → List Entry → Type 0) → IsReady x → Goes (seen x.server) Says (seen z.server) → z ≡ record x { server = z.server } → IsReady z
ready_after x z Says ready goes same = record { is_whole = goes.is_whole; tables = goes.tables ∙ ready.tables ∙ ap (λ (m : Machine). shown m.table ∷ []) (sym same) }

waits_in : (x : Machine) (w : World) (k : ℕ) → IsWorld x w → journals.waits (whole w.past) k ≡ true → journals.waits (whole (seen x.server).past) k ≡ true
waits_in x w k is waits = subst (λ (p : List Entry). journals.waits (whole p) k ≡ true) (sym is.past) waits

blocker_in : (x : Machine) (w : World) (k : ℕ) → IsWorld x w → journals.blocker (whole w.past) k ≡ None → journals.blocker (whole (seen x.server).past) k ≡ None
blocker_in x w k is none = subst (λ (p : List Entry). journals.blocker (whole p) k ≡ None) (sym is.past) none

module _ (x y : Machine) (k : ℕ) where
  pub takes_unwaiting : journals.waits (whole (seen x.server).past) k ≡ false → worlds.Tries (moves.Take k) false x y
  takes_unwaiting over = takes_not x y k (λ w is waits blocker. both_ways (journals.waits (whole (seen x.server).past) k) over (waits_in x w k is waits))

  module _ (a : Taking) where
    abbrev pub TakesIn : ServerView → Type 0
    TakesIn v = Goes (seen x.server) (Whole (λ i j. calls.Takes i k a j)) v

    as_taken : (b : Taking) (v : ServerView) → a ≡ b → TakesIn v → Goes (seen x.server) (Whole (λ i j. calls.Takes i k b j)) v
    as_taken b v same goes = subst (λ (z : Taking). Goes (seen x.server) (Whole (λ i j. calls.Takes i k z j)) v) same goes

    pub takes_dropped : (v : ServerView) → a ≡ taking.Dropped → TakesIn v → worlds.Tries (moves.Take k) false x y
    takes_dropped v same goes = takes_unwaiting (as_taken taking.Dropped v same goes).says.0

    pub takes_blocked : (v : ServerView) (m : ℕ) → a ≡ taking.Wait m → TakesIn v → worlds.Tries (moves.Take k) false x y
    takes_blocked v m same goes =
        let says = (as_taken (taking.Wait m) v same goes).says in
        takes_not x y k (λ w is waits blocker. absurd (none_some m (sym (blocker_in x w k is blocker) ∙ says.1)))
      where
        none_some : (n : ℕ) → None ≡ Some n → ⊥
        none_some n e = absurd (cc (e))

    pub takes_run_as : (row : List (Option ℕ)) (serial : ℕ) → a ≡ taking.Run row serial → TakesIn (seen y.server) → y ≡ record x { server = y.server } → worlds.Tries (moves.Take k) true x y
    takes_run_as row serial same goes else = takes_run x y k row serial (else, as_taken (taking.Run row serial) (seen y.server) same goes)

    pub takes_denied_as : (z : Machine) (slot : ℕ) → a ≡ taking.Denied slot → TakesIn (seen z.server) → z ≡ record x { server = z.server } → worlds.GoesFor k z y → worlds.Tries (moves.Take k) true x y
    takes_denied_as z slot same goes else on = takes_denied x y k z slot (else, as_taken (taking.Denied slot) (seen z.server) same goes) on

  module _ (kepts : List Kept) (m : Msg) where
    abbrev pub Finishing : Bool → ServerView → Type 0
    Finishing done v = Goes (seen x.server) (λ past new. Finishes (seen x.server).tables past k kepts m done new) v

    pub ends_not_as : (v : ServerView) (done : Bool) → done ≡ false → Finishing done v → worlds.Tries (moves.Finish k kepts m) false x y
    ends_not_as v done not_so goes = ends_not x y k kepts m v.past (subst (λ (b : Bool). Finishing b v) not_so goes).says

    pub ends_as : (z : Machine) (done : Bool) → done ≡ true → Finishing done (seen z.server) → z ≡ record x { server = z.server } → worlds.GoesFor k z y → worlds.Tries (moves.Finish k kepts m) true x y
    ends_as z done so goes else on = ends_so x y k kepts m z (else, subst (λ (b : Bool). Finishing b (seen z.server)) so goes) on

-- ---- the connection on which a call waits

awaits_call : (k : ℕ) (w : Waits) → awaits k w ≡ true → waiting_of w ≡ Call k
awaits_call k waits.Nothing e = absurd (cc (e))
awaits_call k (waits.Bind asked) e = absurd (cc (e))
awaits_call k (waits.Refused status) e = absurd (cc (e))
awaits_call k (waits.Call m) e = ap (λ (n : ℕ). Call n) (eqb-true m k e)

call_awaits : (k : ℕ) (w : Waits) → waiting_of w ≡ Call k → awaits k w ≡ true
call_awaits k waits.Nothing e = absurd (cc (e))
call_awaits k (waits.Bind asked) e = absurd (cc (e))
call_awaits k (waits.Refused status) e = absurd (cc (e))
call_awaits k (waits.Call m) e = let same : m ≡ k = cc in eq-eqb m k same

pub record Awaiting (x : Machine) (k i : ℕ) (s : Wire) : Type 0 where
  pub at : slice_get x.lines.items i ≡ Some s
  pub stands : s.standing ≡ true
  pub waits_for : waiting_of s.serving.waiting ≡ Call k

pub read_awaiting : (x : Machine) (ts : List Wire) (k i : ℕ) (s : Wire) → ts ≡ x.lines.items → Some i ≡ position (is_awaiting k) ts → s ≡ get_or x.lines.items i s → Awaiting x k i s
read_awaiting x ts k i s same e read =
    let (t, at, is) = found_at (is_awaiting k) ts i e in
    let at_x : slice_get x.lines.items i ≡ Some t = subst (λ (vs : List Wire). slice_get vs i ≡ Some t) same at in
    let alike : s ≡ t = read ∙ get_or_from_slice_get x.lines.items i t s at_x in
    let parts = and_parts t.standing (awaits k t.serving.waiting) is in
    record {
      at = at_x ∙ ap (λ (z : Wire). Some z) (sym alike);
      stands = ap (λ (z : Wire). z.standing) alike ∙ parts.0;
      waits_for = ap (λ (z : Wire). waiting_of z.serving.waiting) alike ∙ awaits_call k t.serving.waiting parts.1;
    }

pub goes_unheard : (x : Machine) (ts : List Wire) (k : ℕ) → ts ≡ x.lines.items → None ≡ position (is_awaiting k) ts → worlds.GoesFor k x x
goes_unheard x ts k same e = unheard_goes x k (λ i t at stands waits. both_ways (is_awaiting k t) (missed_at (is_awaiting k) ts e i t (subst (λ (vs : List Wire). slice_get vs i ≡ Some t) (sym same) at)) (and_from t.standing (awaits k t.serving.waiting) stands (call_awaits k t.serving.waiting waits)))

pub on_ok : {A E : Type 0} (r : Result A E) (P Q : Type 0) → (P → Q) → OnOk r P → OnOk r Q
on_ok (Ok a) P Q f h = f h
on_ok (Err e) P Q f h = tt

-- ---- the empty world

none_at : {A : Type 0} (i : ℕ) (l : A) → (let ls : List A = [] in slice_get ls i) ≡ Some l → ⊥
none_at i l e = absurd (cc (e))

pub begun_is : (x : Machine) → x.lines.items ≡ [] → x.starts.items ≡ [] → (seen x.server).past ≡ [] → IsWhole (seen x.server) → (seen x.server).tables ≡ shown x.table ∷ [] → IsWorld x empty
begun_is x lines starts past is_whole tables =
    record {
      lines = record { count = ap length lines; each = λ i t l at_t at_l. absurd (none_at i l at_l) };
      apart = λ i j l m at_l at_m named. absurd (none_at i l at_l);
      past = past;
      is_whole = is_whole;
      tables = tables;
      starts = ap (map started_of) starts;
      rows = λ n s found. absurd (none_at n s found);
    }

pub world_ready : (x : Machine) (w : World) → IsWorld x w → IsReady x
world_ready x w is = record { is_whole = is.is_whole; tables = is.tables }

-- the move of the program is that move of the world
pub as_step : (step : Step) (m : Move) (x y : Machine) (done : Bool) → move_of step ≡ m → worlds.Tries m done x y → worlds.Tries (move_of step) done x y
as_step step m x y done same tried = subst (λ (n : Move). worlds.Tries n done x y) (sym same) tried

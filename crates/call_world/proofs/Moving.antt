-- Moves of a program's world are moves of the world that it is.
use Rattle.std.proofs.Common.{◌≡◌, ◌≢◌, ℕ, zero, suc, ◌+◌, ◌<◌, ◌≤◌, Bool, true, false, Option, Some, None, List, [], ◌∷◌, ◌++◌, length, map, refl, sym, ap, subst, ◌∙◌, arith}
use Rattle.std.specs.Prelude.{slice_get, slice_set, ⊤}
use Rattle.handle_model.specs.declared.entry.Entry.{Entry}
use Rattle.handle_model.specs.declared.entry.Entry.TheVariants.{End}
use Rattle.handle_model.specs.Journal as journals
use Rattle.ndr_table.specs.Shown.{shown}
use Rattle.ndr_table.specs.Tables.{TableForm, OpForm}
use Rattle.ndr_value.specs.Values.{Msg}
use Rattle.client_core.specs.States.{is_calling}
use Rattle.handle_model.specs.declared.entry.Said.TheVariants.{Out}
use Rattle.manager_api.specs.declared.answer.Kept.{Kept}
use Rattle.manager_api.specs.Answers.{AOut}
use Rattle.manager_api.specs.Calls.{Owes}
use Rattle.group_core.specs.Conns.{Settles}
use Rattle.world_ends.specs.Callers.{IsCaller, fate_of, fate_in}
use Rattle.world_ends.specs.declared.caller.Caller.{Caller}
use Rattle.world_ends.specs.declared.fate.Fate.{Fate as Told}
use Rattle.call_world.specs.declared.world.Started.{Started as Place}
use Rattle.std.proofs.lemmas.List.{length-map}
use Rattle.group_core.specs.declared.answer.Taking.{Taking}
use Rattle.group_core.specs.declared.answer.Taking.TheVariants as taking
use Rattle.group_core.specs.Calls as calls
use Rattle.conn_histories.specs.Requests.{op_of}
use Rattle.pdu_stream.specs.Fragments.{most_stub}
use Rattle.conn_histories.specs.Ends.{outcomes_of}
use Rattle.world_laws.specs.Ends.{Row, CallerEnd, Line, new_row}
use Rattle.world_laws.specs.Ends.Waiting.{Call}
use Rattle.world_laws.specs.Moves.{Fate}
use Rattle.world_laws.specs.Moves.{Move as moves}
use Rattle.world_laws.specs.Calling.{IfBroken, LosesLine}
use Rattle.world_laws.specs.Serving.{ServerGoesOn}
use Rattle.world_laws.specs.Worlds.{World, Started, with_line, entered, IsNew, group_wanted, opened, starting, cancelling, GoesOnFor, Ends}
use Rattle.world_laws.specs.Leading.{MayStart, AreOnWay}
use Rattle.world_laws.specs.Worlds.GoesOnFor.{answered, unheard}
use Rattle.world_laws.specs.Worlds.Tries.{taken, denied}
use Rattle.world_laws.proofs.Callers as callers
use Rattle.world_laws.proofs.Lists.{some_is, within, set_same, length_more}
use Rattle.world_server.specs.Servers.{ServerView, seen, IsWhole, Whole, whole}
use Rattle.world_server.specs.Finishes.{MayEnd, Finishes, octets_out}
use Rattle.world_ends.specs.Servings.{Rests, waiting_of}
use Rattle.call_world.specs.declared.line.Line.{Line as Wire}
use Rattle.call_world.specs.declared.world.World.{World as Machine}
use Rattle.call_world.specs.Lines.{IsLine, IsOpened, StartsOn, CallsOffOn, ArrivesOn, ComesOn, MayStartOn, MayCallOffOn, MayArriveOn, MayComeOn, Happens, HappensWith, Fails}
use Rattle.call_world.specs.Worlds.{AreLines, AreApart, HaveRows, IsWorld, started_of}
use Rattle.call_world.specs.Worlds as worlds
use Rattle.call_world.specs.Rows.{wanted}
use Rattle.call_world.proofs.Lining.{line_at, wire_at, lines_more, apart_more, Stays, rows_more, rows_start, world_set, on_line, off_line, NoneStandsAs, none_stands, goes_else}

-- ---- what needs no server

abbrev pub Alone : (Line → Line → Type 0) → Line → List Entry → Line → List Entry → Type 0
Alone Does l past n new = Does l n × (new ≡ past)

pub alone : (Does : Line → Line → Type 0) (x : ServerView) (s t : Wire) → IsWhole x → Happens Does s t → HappensWith (Alone Does) x s x t
alone Does x s t w tried = (w, refl, λ l is. let d = tried l is in (d.0, (d.1, refl), d.2))

-- ---- a move on a connection that stands

stays_as : (l n : Line) → n.name ≡ l.name → length n.caller.rows ≡ length l.caller.rows → Stays l n
stays_as l n name rows = record { named = name; rows = omega (arith, rows) }

pub lose_stays : (l n : Line) (past new : List Entry) → LosesLine l past n new → Stays l n
lose_stays l n past new d = stays_as l n (ap (λ (z : Line). z.name) d.0) (ap (λ (z : Line). length z.caller.rows) d.0 ∙ (callers.loses l.caller).rows)

arrive_stays : (tables : List TableForm) (count : ℕ) (l n : Line) (past new : List Entry) → ArrivesOn tables count l past n new → Stays l n
arrive_stays tables count l n past new d =
    let rest = goes_else tables d.came n d.then_ new d.goes_on in
    stays_as l n (ap (λ (z : Line). z.name) rest ∙ ap (λ (z : Line). z.name) d.comes.then_) (ap (λ (z : Line). length z.caller.rows) rest ∙ ap (λ (z : Line). length z.caller.rows) d.comes.then_)

come_stays : (count : ℕ) (l n : Line) (past new : List Entry) → ComesOn count l past n new → Stays l n
come_stays count l n past new d = stays d.broken d.is_line
  where
    heard : length d.caller.rows ≡ length l.caller.rows
    heard = (callers.hears_octets l.caller d.caller d.front d.broken d.hears).rows

    stays : (b : Bool) → IfBroken b (LosesLine (record l { caller = d.caller; down = d.left }) past n new) ((n ≡ record l { caller = d.caller; down = d.left }) × (new ≡ past)) → Stays l n
    stays true i = stays_as l n (ap (λ (z : Line). z.name) i.0) (ap (λ (z : Line). length z.caller.rows) i.0 ∙ (callers.loses d.caller).rows ∙ heard)
    stays false i = stays_as l n (ap (λ (z : Line). z.name) i.0) (ap (λ (z : Line). length z.caller.rows) i.0 ∙ heard)

call_off_stays : (table : TableForm) (l n : Line) (past new : List Entry) → Alone (CallsOffOn table) l past n new → Stays l n
call_off_stays table l n past new d = stays_as l n (ap (λ (z : Line). z.name) d.0.after) (ap (λ (z : Line). length z.caller.rows) d.0.after)

start_stays : (table : TableForm) (op : ℕ) (m : Msg) (l n : Line) (past new : List Entry) → Alone (StartsOn table op m) l past n new → Stays l n
start_stays table op m l n past new d =
    let more : length n.caller.rows ≡ length l.caller.rows + 1 = ap (λ (z : Line). length z.caller.rows) d.0.after ∙ length_more l.caller.rows (new_row op m) in
    record { named = ap (λ (z : Line). z.name) d.0.after; rows = omega (arith, more) }

-- the calls of a connection, and what is known of each
fates_count : (rows : List Row) (fs : List Told) → map fate_in rows ≡ map fate_of fs → length rows ≡ length fs
fates_count rows fs same = sym (length-map rows fate_in) ∙ ap (λ (known : List Fate). length known) same ∙ length-map fs fate_of

pub many_rows : (t : Caller) (e : CallerEnd) → IsCaller t e → length e.rows ≡ length t.fates.items
many_rows t e is = fates_count e.rows t.fates.items is.fates_are

-- one call more was started
starts_more : (ps : List Place) (p : Place) → map started_of (ps ++ p ∷ []) ≡ map started_of ps ++ started_of p ∷ []
starts_more [] p = refl
starts_more (q ∷ ps) p = ap (λ (more : List Started). started_of q ∷ more) (starts_more ps p)

start_is : (p : Place) (s : Started) → p.line ≡ s.line → p.place ≡ s.place → started_of p ≡ s
start_is p s line place = ap (λ (n : ℕ). record { line = n; place = p.place }) line ∙ ap (λ (n : ℕ). record { line = s.line; place = n }) place

one_more : (ps qs : List Place) (ss : List Started) (p : Place) (s : Started) → qs ≡ ps ++ p ∷ [] → map started_of ps ≡ ss → p.line ≡ s.line → p.place ≡ s.place → map started_of qs ≡ ss ++ s ∷ []
one_more ps qs ss p s more are line place =
    ap (λ (zs : List Place). map started_of zs) more ∙ starts_more ps p ∙ ap (λ (zs : List Started). zs ++ started_of p ∷ []) are ∙ ap (λ (z : Started). ss ++ z ∷ []) (start_is p s line place)

module _ (x y : Machine) (c i : ℕ) (s t : Wire) (at : slice_get x.lines.items i ≡ Some s) (named : s.name ≡ c) (stands : s.standing ≡ true) where
  pub loses : HappensWith LosesLine (seen x.server) s (seen y.server) t → y.lines.items ≡ slice_set x.lines.items i t → shown y.table ≡ shown x.table → y.starts ≡ x.starts → worlds.Tries (moves.Lose c) true x y
  loses tried lines table starts = (
    table,
    λ w is.
        let r = on_line LosesLine x y w c i s t is at named stands lose_stays tried lines table starts in
        (r.0, r.1, r.2),
  )

  pub arrives : (count : ℕ) → HappensWith (ArrivesOn (seen x.server).tables count) (seen x.server) s (seen y.server) t → y.lines.items ≡ slice_set x.lines.items i t → shown y.table ≡ shown x.table → y.starts ≡ x.starts
      → worlds.Tries (moves.ToServer c count) true x y
  arrives count tried lines table starts = (
    table,
    λ w is.
        let r = on_line (ArrivesOn (seen x.server).tables count) x y w c i s t is at named stands (arrive_stays (seen x.server).tables count) tried lines table starts in
        let (j, l, there, name, stand, (n, new, does, after)) = r.1 in
        let d : ArrivesOn (shown x.table ∷ []) count l w.past n new = subst (λ (ts : List TableForm). ArrivesOn ts count l w.past n new) is.tables does in
        (r.0, (j, l, there, name, stand, record { front = d.front; left = d.left; way = d.way; came = d.came; then_ = d.then_; comes = d.comes; line = n; past = new; goes_on = d.goes_on; after = after }), r.2),
  )

  pub arrives_not : (count : ℕ) → Fails (MayArriveOn count) s → worlds.Tries (moves.ToServer c count) false x y
  arrives_not count fails w is may = off_line (MayArriveOn count) x w c i s is at named fails may

  pub comes : (count : ℕ) → HappensWith (ComesOn count) (seen x.server) s (seen y.server) t → y.lines.items ≡ slice_set x.lines.items i t → shown y.table ≡ shown x.table → y.starts ≡ x.starts
      → worlds.Tries (moves.ToCaller c count) true x y
  comes count tried lines table starts = (
    table,
    λ w is.
        let r = on_line (ComesOn count) x y w c i s t is at named stands (come_stays count) tried lines table starts in
        let (j, l, there, name, stand, (n, new, d, after)) = r.1 in
        (r.0, (j, l, there, name, stand, record { front = d.front; left = d.left; way = d.way; caller = d.caller; broken = d.broken; hears = d.hears; line = n; past = new; is_line = d.is_line; after = after }), r.2),
  )

  pub comes_not : (count : ℕ) → Fails (MayComeOn count) s → worlds.Tries (moves.ToCaller c count) false x y
  comes_not count fails w is may = off_line (MayComeOn count) x w c i s is at named fails may

  pub calls_off : HappensWith (Alone (CallsOffOn (shown x.table))) (seen x.server) s (seen y.server) t → y.lines.items ≡ slice_set x.lines.items i t → shown y.table ≡ shown x.table → y.starts ≡ x.starts
      → worlds.Tries (moves.Cancel c) true x y
  calls_off tried lines table starts = (
    table,
    λ w is.
        let r = on_line (Alone (CallsOffOn (shown x.table))) x y w c i s t is at named stands (call_off_stays (shown x.table)) tried lines table starts in
        let (j, l, there, name, stand, (n, new, (d, same), after)) = r.1 in
        let is_after : r.0 ≡ with_line w j (cancelling (shown x.table) l d.octets d.state) w.past = after ∙ ap (λ (p : List Entry). with_line w j n p) same ∙ ap (λ (z : Line). with_line w j z w.past) d.after in
        (r.0, (j, l, there, name, stand, record { out = d.out; octets = d.octets; state = d.state; cancels = d.cancels; after = is_after }), r.2),
  )

  pub calls_off_not : Fails MayCallOffOn s → worlds.Tries (moves.Cancel c) false x y
  calls_off_not fails w is may = off_line MayCallOffOn x w c i s is at named fails may

  -- a call is started, and is the last one
  module _ (op : ℕ) (m : Msg) where
    pub starts_not : Fails (MayStartOn op m) s → worlds.Tries (moves.Start c op m) false x y
    starts_not fails w is may = off_line (MayStartOn op m) x w c i s is at named fails may

    pub starts : (p : Place) → HappensWith (Alone (StartsOn (shown x.table) op m)) (seen x.server) s (seen y.server) t → y.lines.items ≡ slice_set x.lines.items i t → shown y.table ≡ shown x.table
        → y.starts.items ≡ x.starts.items ++ p ∷ [] → p.line ≡ i → p.place ≡ length s.caller.fates.items → worlds.Tries (moves.Start c op m) true x y
    starts p tried lines table more line place = (
      table,
      λ w is.
          let z : Machine = record y { starts = x.starts } in
          let r = on_line (Alone (StartsOn (shown x.table) op m)) x z w c i s t is at named stands (start_stays (shown x.table) op m) tried lines table refl in
          let (j, l, there, name, stand, (n, new, (d, same), after)) = r.1 in
          let f = line_at x.lines.items w.lines i s is.lines at in
          let here : i ≡ j = is.apart i j f.0 l f.1 there (sym f.2.name ∙ named ∙ sym name) in
          let alike : f.0 ≡ l = some_is f.0 l (sym f.1 ∙ ap (slice_get w.lines) here ∙ there) in
          let many : p.place ≡ length l.caller.rows = place ∙ sym (many_rows s.caller f.0.caller f.2.caller) ∙ ap (λ (k : Line). length k.caller.rows) alike in
          let begun : Line = starting (shown x.table) l op m d.octets d.state in
          let is_after : r.0 ≡ with_line w j begun w.past = after ∙ ap (λ (q : List Entry). with_line w j n q) same ∙ ap (λ (k : Line). with_line w j k w.past) d.after in
          let new_start : Started = record { line = j; place = length l.caller.rows } in
          let last_row : length l.caller.rows < length begun.caller.rows = omega (arith, length_more l.caller.rows (new_row op m)) in
          let v : World = record (with_line w j begun w.past) { starts = w.starts ++ new_start ∷ [] } in (
            v,
            (j, l, there, name, stand, record { bound = d.bound; free = d.free; message = d.message; octets = d.octets; state = d.state; calls = d.calls; after = refl }),
            record {
              lines = subst (λ (u : World). AreLines y.lines.items u.lines) is_after r.2.lines;
              apart = subst (λ (u : World). AreApart u.lines) is_after r.2.apart;
              past = r.2.past ∙ ap (λ (u : World). u.past) is_after;
              is_whole = r.2.is_whole;
              tables = r.2.tables;
              starts = one_more x.starts.items y.starts.items w.starts p new_start more is.starts (line ∙ here) many;
              rows = rows_start (slice_set w.lines j begun) w.starts new_start (subst (λ (u : World). HaveRows u.lines u.starts) is_after r.2.rows) (begun, set_same w.lines j begun (within w.lines j l there), last_row);
            },
          ),
    )

-- no connection of that name stands
pub none_arrives : (x y : Machine) (c count : ℕ) → NoneStandsAs x.lines.items c → worlds.Tries (moves.ToServer c count) false x y
none_arrives x y c count none w is may = none_stands x w c (λ i l. AreOnWay count l.up) is none may

pub none_comes : (x y : Machine) (c count : ℕ) → NoneStandsAs x.lines.items c → worlds.Tries (moves.ToCaller c count) false x y
none_comes x y c count none w is may = none_stands x w c (λ i l. AreOnWay count l.down) is none may

pub none_calls_off : (x y : Machine) (c : ℕ) → NoneStandsAs x.lines.items c → worlds.Tries (moves.Cancel c) false x y
none_calls_off x y c none w is may = none_stands x w c (λ i l. is_calling l.caller.state ≡ true) is none may

pub none_starts : (x y : Machine) (c op : ℕ) (m : Msg) → NoneStandsAs x.lines.items c → worlds.Tries (moves.Start c op m) false x y
none_starts x y c op m none w is may = none_stands x w c (λ i l. MayStart l op m) is none may

pub none_loses : (x y : Machine) (c : ℕ) → NoneStandsAs x.lines.items c → worlds.Tries (moves.Lose c) false x y
none_loses x y c none w is may = none_stands x w c (λ i l. ⊤) is none may

-- ---- a connection is opened

abbrev pub NoneNamed : List Wire → ℕ → Type 0
NoneNamed ts c = (i : ℕ) (t : Wire) → slice_get ts i ≡ Some t → t.name ≡ c → ⊥

fresh_name : (x : Machine) (w : World) (c : ℕ) → IsWorld x w → NoneNamed x.lines.items c → IsNew w c
fresh_name x w c is none i l at named =
    let f = wire_at x.lines.items w.lines i l is.lines at in
    none i f.0 f.1 (f.2.name ∙ named)

wanted_is : (ts : List Wire) (ls : List Line) → length ts ≡ length ls → wanted ts ≡ group_wanted ls
wanted_is [] [] e = refl
wanted_is (t ∷ ts) (l ∷ ls) e = refl
wanted_is [] (l ∷ ls) e = absurd (omega (arith, e))
wanted_is (t ∷ ts) [] e = absurd (omega (arith, e))

pub opens : (x y : Machine) (c group : ℕ) (t : Wire) → NoneNamed x.lines.items c → group ≡ wanted x.lines.items → IsOpened (shown x.table) c group t → y.lines.items ≡ x.lines.items ++ t ∷ [] → y ≡ record x { lines = y.lines }
    → worlds.Tries (moves.Open c group) true x y
opens x y c group t none wants o lines same = (
  ap (λ (z : Machine). shown z.table) same,
  λ w is.
      let l : Line = opened (shown x.table) c group o.octets o.state in
      let fresh = fresh_name x w c is none in
      let server = ap (λ (z : Machine). z.server) same in (
        record w { lines = w.lines ++ l ∷ [] },
        record { fresh = fresh; wanted = wants ∙ wanted_is x.lines.items w.lines is.lines.count; octets = o.octets; state = o.state; binds = o.binds; after = refl },
        record {
          lines = subst (λ (ts : List Wire). AreLines ts (w.lines ++ l ∷ [])) (sym lines) (lines_more x.lines.items w.lines t l is.lines o.is);
          apart = apart_more w c l is.apart fresh refl;
          past = ap (λ z. (seen z).past) server ∙ is.past;
          is_whole = subst (λ z. IsWhole (seen z)) (sym server) is.is_whole;
          tables = ap (λ z. (seen z).tables) server ∙ is.tables ∙ ap (λ (z : Machine). shown z.table ∷ []) (sym same);
          starts = ap (λ (z : Machine). map started_of z.starts.items) same ∙ is.starts;
          rows = rows_more w.lines l w.starts is.rows;
        },
      ),
)

pub named_already : (x y : Machine) (c group i : ℕ) (t : Wire) → slice_get x.lines.items i ≡ Some t → t.name ≡ c → worlds.Tries (moves.Open c group) false x y
named_already x y c group i t at named w is may =
    let f = line_at x.lines.items w.lines i t is.lines at in
    may.0 i f.0 f.1 (sym f.2.name ∙ named)

-- ---- the server's journal goes on

entered_is : (x y : Machine) (w : World) (Says : List Entry → List Entry → Type 0) → IsWorld x w → worlds.Enters Says x y → IsWorld y (entered w (seen y.server).past)
entered_is x y w Says is e = record {
  lines = subst (λ (ts : List Wire). AreLines ts w.lines) (ap (λ (z : Machine). z.lines.items) (sym e.0)) is.lines;
  apart = is.apart;
  past = refl;
  is_whole = e.1.is_whole;
  tables = e.1.tables ∙ is.tables ∙ ap (λ (z : Machine). shown z.table ∷ []) (sym e.0);
  starts = ap (λ (z : Machine). map started_of z.starts.items) e.0 ∙ is.starts;
  rows = is.rows;
}

-- ---- takes

module _ (x y : Machine) (k : ℕ) where
  takes_at : (w : World) (a : Taking) (z : List Entry) → IsWorld x w → calls.Takes (whole (seen x.server).past) k a (whole z) → calls.Takes (whole w.past) k a (whole z)
  takes_at w a z is t = subst (λ (p : List Entry). calls.Takes (whole p) k a (whole z)) is.past t

  pub takes_run : (row : List (Option ℕ)) (serial : ℕ) → worlds.Enters (Whole (λ i j. calls.Takes i k (taking.Run row serial) j)) x y → worlds.Tries (moves.Take k) true x y
  takes_run row serial e = (
    ap (λ (z : Machine). shown z.table) e.0,
    λ w is.
        let new = (seen y.server).past in
        (entered w new, taken row serial new (takes_at w (taking.Run row serial) new is e.1.says) refl, entered_is x y w _ is e),
  )

  pub takes_denied : (z : Machine) (slot : ℕ) → worlds.Enters (Whole (λ i j. calls.Takes i k (taking.Denied slot) j)) x z → worlds.GoesFor k z y → worlds.Tries (moves.Take k) true x y
  takes_denied z slot e goes = (
    goes.0 ∙ ap (λ (m : Machine). shown m.table) e.0,
    λ w is.
        let new = (seen z.server).past in
        let r = goes.1 (entered w new) (entered_is x z w _ is e) in
        let table : shown z.table ≡ shown x.table = ap (λ (m : Machine). shown m.table) e.0 in
        let g : GoesOnFor (shown x.table) k (entered w new) r.0 = subst (λ (t : TableForm). GoesOnFor t k (entered w new) r.0) table r.1 in
        (r.0, denied slot new (takes_at w (taking.Denied slot) new is e.1.says) g, r.2),
  )

  -- where it can't be taken now
  pub takes_not : ((w : World) → IsWorld x w → (journals.waits (whole w.past) k ≡ true) → (journals.blocker (whole w.past) k ≡ None) → ⊥) → worlds.Tries (moves.Take k) false x y
  takes_not cannot w is may = cannot w is may.0 may.1

-- ---- the end of a call

first_table : (t u : TableForm) (i : ℕ) → (let ts : List TableForm = t ∷ [] in slice_get ts i) ≡ Some u → t ≡ u
first_table t u zero e = some_is t u e
first_table t u (suc i) e = absurd (cc (e))

found_first : (t : TableForm) (i op : ℕ) (o : OpForm) → op_of (t ∷ []) i op ≡ Some o → (let ts : List TableForm = t ∷ [] in slice_get ts i) ≡ Some t
found_first t zero op o e = refl
found_first t (suc i) op o e = absurd (cc (e))

module _ (x y : Machine) (k : ℕ) (kepts : List Kept) (m : Msg) where
  pub ends_not : (z : List Entry) → Finishes (seen x.server).tables (seen x.server).past k kepts m false z → worlds.Tries (moves.Finish k kepts m) false x y
  ends_not z cannot w is e =
      let table = shown x.table in
      let may : MayEnd (table ∷ []) w.past k kepts m = record {
        runs = e.runs;
        asked = e.asked;
        asks = e.asks;
        message = e.message;
        is = e.is;
        suits = record {
          table = table;
          served = found_first table e.asked.iface e.asked.op e.is.operation e.is.found;
          operation = e.is.operation;
          found = e.is.found;
          owes = e.owes;
          short = e.short;
        };
      } in
      cannot.0 (subst (λ (ts : List TableForm). MayEnd ts (seen x.server).past k kepts m) (sym is.tables) (subst (λ (p : List Entry). MayEnd (table ∷ []) p k kepts m) (sym is.past) may))

  -- the call ends, and the connection that waits for it goes on
  pub ends_so : (z : Machine) → worlds.Enters (λ past new. Finishes (seen x.server).tables past k kepts m true new) x z → worlds.GoesFor k z y → worlds.Tries (moves.Finish k kepts m) true x y
  ends_so z e goes = (
    goes.0 ∙ ap (λ (n : Machine). shown n.table) e.0,
    λ w is.
        let table = shown x.table in
        let new = (seen z.server).past in
        let f : Finishes (table ∷ []) w.past k kepts m true new =
        subst (λ (ts : List TableForm). Finishes ts w.past k kepts m true new) is.tables (subst (λ (p : List Entry). Finishes (seen x.server).tables p k kepts m true new) is.past e.1.says) in
        let may = f.0 in
        let same : may.suits.operation ≡ may.is.operation = some_is may.suits.operation may.is.operation (sym may.suits.found ∙ may.is.found) in
        let alike : table ≡ may.suits.table = first_table table may.suits.table may.asked.iface may.suits.served in
        let octets_are : octets_out kepts m may.suits.table may.asked may.suits.operation may.message ≡ octets_out kepts m table may.asked may.is.operation may.message =
        ap (λ (t : TableForm). octets_out kepts m t may.asked may.suits.operation may.message) (sym alike) ∙ ap (λ (o : OpForm). octets_out kepts m table may.asked o may.message) same in
        let ends : Ends table w.past k kepts m new = record {
          runs = may.runs;
          asked = may.asked;
          asks = may.asks;
          message = may.message;
          is = may.is;
          owes = subst (λ (t : TableForm). Owes t may.asked.op may.message (AOut m kepts)) (sym alike) may.suits.owes;
          results = outcomes_of may.asked.slots kepts;
          results_are = refl;
          octets = octets_out kepts m table may.asked may.is.operation may.message;
          octets_are = refl;
          short = subst (λ (o : List ℕ). length o ≤ most_stub) octets_are may.suits.short;
          enters = (f.1.rest, subst (λ (o : List ℕ). Settles (whole w.past) (End k (outcomes_of may.asked.slots kepts) (Out o)) f.1.rest (whole new)) octets_are f.1.settles);
        } in
        let r = goes.1 (entered w new) (entered_is x z w _ is e) in
        let g : GoesOnFor table k (entered w new) r.0 = subst (λ (t : TableForm). GoesOnFor t k (entered w new) r.0) (ap (λ (n : Machine). shown n.table) e.0) r.1 in
        (r.0, (new, ends, g), r.2),
  )

-- ---- the connection on which a call waits

-- none waits for it
pub unheard_goes : (x : Machine) (k : ℕ) → ((i : ℕ) (t : Wire) → slice_get x.lines.items i ≡ Some t → t.standing ≡ true → waiting_of t.serving.waiting ≢ Call k) → worlds.GoesFor k x x
unheard_goes x k none = (
  refl,
  λ w is. (
    w,
    unheard (λ i l at stands waits. (let f = wire_at x.lines.items w.lines i l is.lines at in none i f.0 f.1 (f.2.standing ∙ stands) (f.2.serves.place.waiting_is ∙ waits))) refl,
    is,
  ),
)

-- that one goes on
pub answered_goes : (x y : Machine) (k i : ℕ) (s t : Wire) → slice_get x.lines.items i ≡ Some s → s.standing ≡ true → waiting_of s.serving.waiting ≡ Call k → Rests (seen x.server) s.serving (seen y.server) t.serving
    → t ≡ record s { serving = t.serving } → y.lines.items ≡ slice_set x.lines.items i t → shown y.table ≡ shown x.table → y.starts ≡ x.starts → worlds.GoesFor k x y
answered_goes x y k i s t at stands waits rests same lines table starts = (
  table,
  λ w is.
      let f = line_at x.lines.items w.lines i s is.lines at in
      let l = f.0 in
      let r = rests.2 l f.2.serves in
      let n = r.0 in
      let new = (seen y.server).past in
      let on : ServerGoesOn (shown x.table ∷ []) l w.past n new =
      subst (λ (ts : List TableForm). ServerGoesOn ts l w.past n new) is.tables (subst (λ (p : List Entry). ServerGoesOn (seen x.server).tables l p n new) is.past r.2) in
      let rest = goes_else (shown x.table ∷ []) l n w.past new on in
      let is_line : IsLine t n = record {
        name = ap (λ (z : Wire). z.name) same ∙ f.2.name ∙ sym (ap (λ (z : Line). z.name) rest);
        caller = subst (λ c. IsCaller t.caller c) (sym (ap (λ (z : Line). z.caller) rest)) (subst (λ z. IsCaller z l.caller) (sym (ap (λ (z : Wire). z.caller) same)) f.2.caller);
        up = ap (λ (z : Wire). z.up.items) same ∙ f.2.up ∙ sym (ap (λ (z : Line). z.up) rest);
        serves = r.1;
        standing = ap (λ (z : Wire). z.standing) same ∙ f.2.standing ∙ sym (ap (λ (z : Line). z.standing) rest);
      } in (
        with_line w i n new,
        answered i l n new f.1 (sym f.2.standing ∙ stands) (sym f.2.serves.place.waiting_is ∙ waits) on refl,
        world_set x y w i t l n new is f.1 (stays_as l n (ap (λ (z : Line). z.name) rest) (ap (λ (z : Line). length z.caller.rows) rest)) is_line lines refl rests.0 rests.1 table starts,
      ),
)

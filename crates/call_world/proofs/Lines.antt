-- What happens on one connection of a program happens on that of the world.
use Rattle.std.proofs.Common.{◌≡◌, ◌≢◌, ℕ, ◌<◌, ◌≤◌, Bool, true, false, Option, Ok, List, [], ◌∷◌, ◌++◌, length, map, take, drop, refl, sym, ap, subst, ◌∙◌, arith}
use Rattle.std.proofs.lemmas.List.{take-append-drop, length-take-le}
use Rattle.ndr_value.specs.Values.{Msg}
use Rattle.ndr_table.specs.Tables.{TableForm}
use Rattle.conn_histories.specs.Histories.Event.{Came}
use Rattle.client_core.specs.State.{state}
use Rattle.client_core.specs.States.{ClientState, at_start, is_bound, is_calling}
use Rattle.client_core.specs.Calls.{Binds, Calls, Cancels, IsMessage}
use Rattle.world_laws.specs.Moves.{Fate}
use Rattle.world_laws.specs.Moves.{Fate as fates}
use Rattle.world_laws.specs.Ends.{Row, CallerEnd, Line, new_row, new_server}
use Rattle.world_laws.specs.Serving.{ServerDoes}
use Rattle.world_laws.specs.Journals.{Leaves}
use Rattle.world_laws.specs.Calling.{HearsOctets, LosesLine, lost_caller, lost_line}
use Rattle.world_laws.specs.Worlds.{opened, starting, cancelling}
use Rattle.world_laws.specs.Leading.{AreOnWay}
use Rattle.world_server.specs.Servers.{ServerView, IsWhole}
use Rattle.world_ends.specs.Callers.{IsCaller, fate_of, fate_in}
use Rattle.conn_core.specs.Fields.{IsAt}
use Rattle.world_ends.specs.Servings.{IsServing, Comes, Rests, Left, waiting_of}
use Rattle.world_ends.specs.declared.serving.Serving.{Serving}
use Rattle.call_world.specs.declared.line.Line.{Line as Wire}
use Rattle.rpc_base.specs.declared.identifiers.SyntaxId.{SyntaxId}
use Rattle.world_ends.specs.declared.caller.Caller.{Caller}
use Rattle.call_world.specs.Lines.{IsLine, IsOpened, StartsOn, CallsOffOn, ArrivesOn, ComesOn, MayStartOn, MayCallOffOn, MayArriveOn, MayComeOn, Happens, HappensWith, Fails}
use Rattle.call_world.proofs.Lining.{SameElse, came_else}

-- ---- a call is started

rows_more : (rows : List Row) (r : Row) → map fate_in (rows ++ r ∷ []) ≡ map fate_in rows ++ fate_in r ∷ []
rows_more [] r = refl
rows_more (s ∷ rows) r = ap (λ (fs : List Fate). fate_in s ∷ fs) (rows_more rows r)

module _ (table : TableForm) (op : ℕ) (m : Msg) (s : Wire) where
  pub started : (t : Wire) (octets : List ℕ) → is_bound (state s.caller.client) ≡ true → is_calling (state s.caller.client) ≡ false → IsMessage (state s.caller.client).interface op m
      → Calls (state s.caller.client) op m (Ok octets) (state t.caller.client) → t.caller.rest ≡ s.caller.rest → map fate_of t.caller.fates.items ≡ map fate_of s.caller.fates.items ++ fates.Open ∷ []
      → t.up.items ≡ s.up.items ++ octets → t ≡ record s { caller = t.caller; up = t.up } → Happens (StartsOn table op m) s t
  started t octets bound free message calls rest known up same l is =
      let at : state s.caller.client ≡ l.caller.state = sym is.caller.state_is in
      let n : Line = starting table l op m octets (state t.caller.client) in (
        n,
        record {
          bound = ap is_bound is.caller.state_is ∙ bound;
          free = ap is_calling is.caller.state_is ∙ free;
          message = subst (λ (z : ClientState). IsMessage z.interface op m) at message;
          octets = octets;
          state = state t.caller.client;
          calls = subst (λ (z : ClientState). Calls z op m (Ok octets) (state t.caller.client)) at calls;
          after = refl;
        },
        record {
          name = ap (λ (z : Wire). z.name) same ∙ is.name;
          caller = record {
            state_is = refl;
            rest_is = is.caller.rest_is ∙ ap (λ z. z.items) (sym rest);
            fates_are = rows_more l.caller.rows (new_row op m) ∙ ap (λ (fs : List Fate). fs ++ fates.Open ∷ []) is.caller.fates_are ∙ sym known;
          };
          up = up ∙ ap (λ (o : List ℕ). o ++ octets) is.up;
          serves = subst (λ (z : Serving). IsServing z n) (sym (ap (λ (z : Wire). z.serving) same)) (record { at = is.serves.at; place = is.serves.place; down_is = is.serves.down_is });
          standing = ap (λ (z : Wire). z.standing) same ∙ is.standing;
        },
      )

module _ (op : ℕ) (m : Msg) (s : Wire) where
  pub unbound : is_bound (state s.caller.client) ≡ false → Fails (MayStartOn op m) s
  unbound free l is may = let b = ap is_bound (sym is.caller.state_is) ∙ may.bound in let f = sym b ∙ free in absurd cc

  pub busy : is_calling (state s.caller.client) ≡ true → Fails (MayStartOn op m) s
  busy out l is may = let b = ap is_calling (sym is.caller.state_is) ∙ may.free in let f = sym b ∙ out in absurd cc

  pub untaken : (IsMessage (state s.caller.client).interface op m → ⊥) → Fails (MayStartOn op m) s
  untaken other l is may = other (subst (λ (z : ClientState). IsMessage z.interface op m) is.caller.state_is (may.operation, may.found, may.of_op))

-- ---- a cancel

module _ (table : TableForm) (s : Wire) where
  pub cancelled : (t : Wire) (octets : List ℕ) → is_calling (state s.caller.client) ≡ true → Cancels (state s.caller.client) (Ok octets) (state t.caller.client) → t.caller ≡ record s.caller { client = t.caller.client }
      → t.up.items ≡ s.up.items ++ octets → t ≡ record s { caller = t.caller; up = t.up } → Happens (CallsOffOn table) s t
  cancelled t octets out cancels kept up same l is =
      let at : state s.caller.client ≡ l.caller.state = sym is.caller.state_is in
      let n : Line = cancelling table l octets (state t.caller.client) in (
        n,
        record {
          out = ap is_calling is.caller.state_is ∙ out;
          octets = octets;
          state = state t.caller.client;
          cancels = subst (λ (z : ClientState). Cancels z (Ok octets) (state t.caller.client)) at cancels;
          after = refl;
        },
        record {
          name = ap (λ (z : Wire). z.name) same ∙ is.name;
          caller = record {
            state_is = refl;
            rest_is = is.caller.rest_is ∙ sym (ap (λ z. z.rest.items) kept);
            fates_are = is.caller.fates_are ∙ sym (ap (λ z. map fate_of z.fates.items) kept);
          };
          up = up ∙ ap (λ (o : List ℕ). o ++ octets) is.up;
          serves = subst (λ (z : Serving). IsServing z n) (sym (ap (λ (z : Wire). z.serving) same)) (record { at = is.serves.at; place = is.serves.place; down_is = is.serves.down_is });
          standing = ap (λ (z : Wire). z.standing) same ∙ is.standing;
        },
      )

pub not_out : (s : Wire) → is_calling (state s.caller.client) ≡ false → Fails MayCallOffOn s
not_out s free l is out = let b = ap is_calling (sym is.caller.state_is) ∙ out in let f = sym b ∙ free in absurd cc

-- ---- octets move

pub too_few : (count : ℕ) (way : List ℕ) → length way < count → AreOnWay count way → ⊥
too_few count way few are = absurd (omega (arith, few, are.1))

pub none_move : (count : ℕ) (way : List ℕ) → count ≡ 0 → AreOnWay count way → ⊥
none_move count way none are = absurd (omega (arith, none, are.0))

-- ---- octets come to the server

pub arrives : (x y : ServerView) (s t : Wire) (u : Serving) (count : ℕ) (front left : List ℕ) → s.up.items ≡ front ++ left → length front ≡ count → 1 ≤ count → Comes front s.serving u → Rests x u y t.serving
    → t.up.items ≡ left → t ≡ record s { up = t.up; serving = t.serving } → HappensWith (ArrivesOn x.tables count) x s y t
arrives x y s t u count front left way size least comes rests up same = (
  rests.0,
  rests.1,
  λ l is.
      let l0 : Line = record l { up = left } in
      let serves : IsServing s.serving l0 = record { at = is.serves.at; place = is.serves.place; down_is = is.serves.down_is } in
      let v = comes l0 serves in
      let came : Line = record l0 { server = record l.server { events = l.server.events ++ Came front ∷ []; state = v.state }; down = l.down ++ [] } in
      let does : ServerDoes x.tables l0 x.past (Came front) came x.past = record { state = v.state; happens = v.happens; after = l.server; means = (refl, refl); then_ = refl } in
      let r = rests.2 came v.serves in
      let n = r.0 in
      let rest : SameElse l0 n = came_else x.tables l0 came n (Came front) x.past x.past y.past does r.2 in (
        n,
        record { front = front; left = left; way = (sym is.up ∙ way, size, least); came = came; then_ = x.past; comes = does; goes_on = r.2 },
        record {
          name = ap (λ (z : Wire). z.name) same ∙ is.name ∙ sym (ap (λ (z : Line). z.name) rest);
          caller = subst (λ (c : CallerEnd). IsCaller t.caller c) (sym (ap (λ (z : Line). z.caller) rest)) (subst (λ z. IsCaller z l.caller) (sym (ap (λ (z : Wire). z.caller) same)) is.caller);
          up = up ∙ sym (ap (λ (z : Line). z.up) rest);
          serves = r.1;
          standing = ap (λ (z : Wire). z.standing) same ∙ is.standing ∙ sym (ap (λ (z : Line). z.standing) rest);
        },
      ),
)

-- the front that comes is as long as was asked for
pub arrives_front : (x y : ServerView) (s t : Wire) (u : Serving) (count : ℕ) → count ≢ 0 → count ≤ length s.up.items → Comes (take count s.up.items) s.serving u → Rests x u y t.serving → t.up.items ≡ drop count s.up.items
    → t ≡ record s { up = t.up; serving = t.serving } → HappensWith (ArrivesOn x.tables count) x s y t
arrives_front x y s t u count some enough comes rests up same =
    arrives x y s t u count (take count s.up.items) (drop count s.up.items) (sym (take-append-drop count s.up.items)) (length-take-le count s.up.items enough) (omega (arith, some)) comes rests up same

pub not_so_many : (s : Wire) (count : ℕ) → (AreOnWay count s.up.items → ⊥) → Fails (MayArriveOn count) s
not_so_many s count none l is are = none (subst (AreOnWay count) (sym is.up) are)

-- ---- octets come to the caller

pub lost : (x y : ServerView) (s t : Wire) → Left s.serving.member x y → t.serving ≡ record s.serving { down = t.serving.down } → t.serving.down.items ≡ [] → ((c : CallerEnd) → IsCaller s.caller c → IsCaller t.caller (lost_caller c))
    → t.up.items ≡ [] → t.standing ≡ false → t.name ≡ s.name → HappensWith LosesLine x s y t
lost x y s t left serving gone caller up stands name = (
  left.is_whole,
  left.tables,
  λ l is.
      let n = lost_line l in (
        n,
        (refl, subst (λ (o : Option ℕ). Leaves o x.past y.past) is.serves.place.member_is left.says),
        record {
          name = name ∙ is.name;
          caller = caller l.caller is.caller;
          up = up;
          serves = record {
            at = subst (λ (z : Serving). IsAt z.conn l.server.state) (sym serving) is.serves.at;
            place = record {
              member_is = ap (λ (z : Serving). z.member) serving ∙ is.serves.place.member_is;
              waiting_is = ap (λ (z : Serving). waiting_of z.waiting) serving ∙ is.serves.place.waiting_is;
              numbers_are = ap (λ (z : Serving). z.numbers.items) serving ∙ is.serves.place.numbers_are;
            };
            down_is = gone;
          };
          standing = stands;
        },
      ),
)

module _ (x y : ServerView) (s t : Wire) (count : ℕ) (front left : List ℕ) (way : s.serving.down.items ≡ front ++ left) (size : length front ≡ count) (least : 1 ≤ count) where
  abbrev pub Heard : Bool → Wire → Type 0
  Heard broken u = (c : CallerEnd) → IsCaller s.caller c → (d : CallerEnd) × HearsOctets c front d broken × IsCaller u.caller d

  -- the connection once they were heard
  heard : (u : Wire) (broken : Bool) → Heard broken u → u.serving ≡ record s.serving { down = u.serving.down } → u.serving.down.items ≡ left → u ≡ record s { caller = u.caller; serving = u.serving }
      → (l : Line) → IsLine s l → (d : CallerEnd) × HearsOctets l.caller front d broken × IsLine u (record l { caller = d; down = left })
  heard u broken hears serving down same l is =
      let h = hears l.caller is.caller in (
        h.0,
        h.1,
        record {
          name = ap (λ (z : Wire). z.name) same ∙ is.name;
          caller = h.2;
          up = ap (λ (z : Wire). z.up.items) same ∙ is.up;
          serves = record {
            at = subst (λ (z : Serving). IsAt z.conn l.server.state) (sym serving) is.serves.at;
            place = record {
              member_is = ap (λ (z : Serving). z.member) serving ∙ is.serves.place.member_is;
              waiting_is = ap (λ (z : Serving). waiting_of z.waiting) serving ∙ is.serves.place.waiting_is;
              numbers_are = ap (λ (z : Serving). z.numbers.items) serving ∙ is.serves.place.numbers_are;
            };
            down_is = down;
          };
          standing = ap (λ (z : Wire). z.standing) same ∙ is.standing;
        },
      )

  pub hears : IsWhole x → Heard false t → t.serving ≡ record s.serving { down = t.serving.down } → t.serving.down.items ≡ left → t ≡ record s { caller = t.caller; serving = t.serving } → HappensWith (ComesOn count) x s x t
  hears w told serving down same = (
    w,
    refl,
    λ l is.
        let h = heard t false told serving down same l is in
        let n : Line = record l { caller = h.0; down = left } in
        (n, record { front = front; left = left; way = (sym is.serves.down_is ∙ way, size, least); caller = h.0; broken = false; hears = h.1; is_line = (refl, refl) }, h.2),
  )

  pub breaks : (u : Wire) → Heard true u → u.serving ≡ record s.serving { down = u.serving.down } → u.serving.down.items ≡ left → u ≡ record s { caller = u.caller; serving = u.serving } → HappensWith LosesLine x u y t
      → HappensWith (ComesOn count) x s y t
  breaks u told serving down same loses = (
    loses.0,
    loses.1,
    λ l is.
        let h = heard u true told serving down same l is in
        let r = loses.2 (record l { caller = h.0; down = left }) h.2 in
        (r.0, record { front = front; left = left; way = (sym is.serves.down_is ∙ way, size, least); caller = h.0; broken = true; hears = h.1; is_line = r.1 }, r.2),
  )

module _ (x y : ServerView) (s t : Wire) (count : ℕ) (some : count ≢ 0) (enough : count ≤ length s.serving.down.items) where
  abbrev pub Hears : Bool → Wire → Type 0
  Hears broken u = (c : CallerEnd) → IsCaller s.caller c → (d : CallerEnd) × HearsOctets c (take count s.serving.down.items) d broken × IsCaller u.caller d

  pub hears_front : IsWhole x → Hears false t → t.serving ≡ record s.serving { down = t.serving.down } → t.serving.down.items ≡ drop count s.serving.down.items → t ≡ record s { caller = t.caller; serving = t.serving }
      → HappensWith (ComesOn count) x s x t
  hears_front w told serving down same =
      hears x y s t count (take count s.serving.down.items) (drop count s.serving.down.items) (sym (take-append-drop count s.serving.down.items)) (length-take-le count s.serving.down.items enough) (omega (arith, some)) w told serving down same

  pub breaks_front : (u : Wire) → Hears true u → u.serving ≡ record s.serving { down = u.serving.down } → u.serving.down.items ≡ drop count s.serving.down.items → u ≡ record s { caller = u.caller; serving = u.serving }
      → HappensWith LosesLine x u y t → HappensWith (ComesOn count) x s y t
  breaks_front u told serving down same loses =
      breaks x y s t count (take count s.serving.down.items) (drop count s.serving.down.items) (sym (take-append-drop count s.serving.down.items)) (length-take-le count s.serving.down.items enough) (omega (arith, some)) u told serving down same loses

pub not_so_many_down : (s : Wire) (count : ℕ) → (AreOnWay count s.serving.down.items → ⊥) → Fails (MayComeOn count) s
not_so_many_down s count none l is are = none (subst (AreOnWay count) (sym is.serves.down_is) are)

-- ---- a new connection

pub opened_is : (table : TableForm) (c group : ℕ) (t : Wire) (k : Caller) (octets : List ℕ) (ids : List SyntaxId) → state k.client ≡ at_start table → k.rest.items ≡ [] → k.fates.items ≡ [] → Binds (state k.client) group (Ok octets) (state t.caller.client)
    → t.caller ≡ record k { client = t.caller.client } → t.up.items ≡ octets → ids ≡ table.id ∷ [] → ((l : Line) → l.server ≡ new_server ids → l.down ≡ [] → IsServing t.serving l) → t.name ≡ c → t.standing ≡ true → IsOpened table c group t
opened_is table c group t k octets ids start rest known binds kept up ids_are serves named stands =
    record {
      octets = octets;
      state = state t.caller.client;
      binds = subst (λ (z : ClientState). Binds z group (Ok octets) (state t.caller.client)) start binds;
      is = record {
        name = named;
        caller = record {
          state_is = refl;
          rest_is = sym (ap (λ (z : Caller). z.rest.items) kept ∙ rest);
          fates_are = sym (ap (λ (z : Caller). map fate_of z.fates.items) kept ∙ ap (map fate_of) known);
        };
        up = up;
        serves = serves (opened table c group octets (state t.caller.client)) (ap new_server (sym ids_are)) refl;
        standing = stands;
      };
    }

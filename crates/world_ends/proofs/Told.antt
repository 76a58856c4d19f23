-- What a caller's end hears.
use Rattle.std.proofs.Common.{◌≡◌, ℕ, zero, suc, ◌+◌, Bool, true, false, ◌||◌, Option, Some, None, List, [], ◌∷◌, ◌++◌, length, map, reverse, refl, sym, ap, subst, ◌∙◌, arith}
use Rattle.std.specs.Prelude.{slice_set, is_some}
use Rattle.std.specs.List.{flat_map}
use Rattle.std.proofs.lemmas.List.{append-nil}
use Rattle.pdu_stream.specs.declared.cut.Cut.{Cut}
use Rattle.pdu_stream.specs.Cuts.{IsCut}
use Rattle.std.specs.Option.{option_map}
use Rattle.pdu_codec.specs.declared.pdu.Pdu.{Pdu}
use Rattle.client_core.specs.declared.client.Client.{Client}
use Rattle.client_core.specs.State.{state}
use Rattle.client_core.specs.States.{Outcome, ClientState, is_calling}
use Rattle.client_core.specs.States.Outcome.{TBound, TNotBound, TDone, TFault, TBroken}
use Rattle.client_core.specs.Hears.{HearsBody}
use Rattle.client_core.specs.Histories.ClientEvent.{Received}
use Rattle.world_laws.specs.Moves.{Fate}
use Rattle.world_laws.specs.Moves.{Fate as fates}
use Rattle.world_laws.specs.Ends.{Row, CallerEnd, told_if}
use Rattle.world_laws.specs.Ends as ends
use Rattle.world_laws.specs.Calling.{HearsPdu, HearsPdus, HearsOctets, IfBroken, breaks, tells, lost_caller}
use Rattle.world_ends.specs.declared.fate.Fate.{Fate as Told}
use Rattle.world_ends.specs.declared.caller.Caller.{Caller}
use Rattle.world_ends.specs.Callers.{IsCaller, fate_of, fate_in, with_last, set_if, told_so}

-- ---- fates

last_is : (f : Fate) (rows : List Row) → map fate_in (ends.with_last f rows) ≡ with_last f (map fate_in rows)
last_is f [] = refl
last_is f (r ∷ []) = refl
last_is f (r ∷ s ∷ more) = ap (λ (fs : List Fate). fate_in r ∷ fs) (last_is f (s ∷ more))

pub told_is : (b : Bool) (f : Fate) (rows : List Row) → map fate_in (told_if b f rows) ≡ set_if b f (map fate_in rows)
told_is true f rows = last_is f rows
told_is false f rows = refl

pub tells_is : (b : Bool) (t : Option Outcome) (rows : List Row) → map fate_in (tells b t rows) ≡ told_so b t (map fate_in rows)
tells_is b None rows = refl
tells_is b (Some (TBound group)) rows = refl
tells_is b (Some (TNotBound reason)) rows = refl
tells_is b (Some (TDone m)) rows = told_is b (fates.Done m) rows
tells_is b (Some (TFault status not_run)) rows = told_is b (fates.Fault status not_run) rows
tells_is b (Some (TBroken fault)) rows = refl

-- ---- a PDU

abbrev pub heard : CallerEnd → Pdu → Option Outcome → ClientState → CallerEnd
heard c p t n = record c { events = c.events ++ Received p t ∷ []; state = n; rows = tells (is_calling c.state) t c.rows }

pub hears_so : (x y : Caller) (c : CallerEnd) (p : Pdu) (t : Option Outcome) → IsCaller x c → HearsBody (state x.client) p p.body t (state y.client) → HearsPdu c p t (heard c p t (state y.client))
hears_so x y c p t is h = record {
  state = state y.client;
  hears = subst (λ (s : ClientState). HearsBody s p p.body t (state y.client)) (sym is.state_is) h;
  after = refl;
}

pub heard_is : (x y : Caller) (c : CallerEnd) (p : Pdu) (t : Option Outcome) (n : ClientState) (out : Bool) → IsCaller x c → state y.client ≡ n → out ≡ is_calling (state x.client) → y.rest.items ≡ x.rest.items
    → map fate_of y.fates.items ≡ told_so out t (map fate_of x.fates.items) → IsCaller y (heard c p t n)
heard_is x y c p t n out is e o rest known = record {
  state_is = sym e;
  rest_is = is.rest_is ∙ sym rest;
  fates_are =
      tells_is (is_calling c.state) t c.rows
      ∙ ap (λ (b : Bool). told_so b t (map fate_in c.rows)) (ap is_calling is.state_is ∙ sym o)
      ∙ ap (told_so out t) is.fates_are ∙ sym known;
}

-- ---- PDUs

pub hears_on : (c d e : CallerEnd) (p : Pdu) (more : List Pdu) (t : Option Outcome) (b : Bool) → HearsPdu c p t d → breaks t ≡ false → HearsPdus d more e b → HearsPdus c (p ∷ more) e b
hears_on c d e p more t b h goes rest = (t, d, h, subst (λ (x : Bool). IfBroken x ((e ≡ d) × (b ≡ true)) (HearsPdus d more e b)) (sym goes) rest)

pub hears_last : (c d : CallerEnd) (p : Pdu) (more : List Pdu) (t : Option Outcome) → HearsPdu c p t d → breaks t ≡ true → HearsPdus c (p ∷ more) d true
hears_last c d p more t h ends = (t, d, h, subst (λ (x : Bool). IfBroken x ((d ≡ d) × (true ≡ true)) (HearsPdus d more d true)) (sym ends) (refl, refl))

-- where what is left is heard, all is
abbrev pub Hearing : Caller → List Pdu → Caller → List Pdu → Type 0
Hearing x all y left =
    (c : CallerEnd) → IsCaller x c → (d : CallerEnd) × IsCaller y d × ((e : CallerEnd) (b : Bool) → HearsPdus d left e b → HearsPdus c all e b)

abbrev pub HeardOne : Caller → Pdu → Bool → Caller → Type 0
HeardOne x p broken y = (c : CallerEnd) → IsCaller x c → (t : Option Outcome) × (d : CallerEnd) × HearsPdu c p t d × (broken ≡ breaks t) × IsCaller y d

pub hearing_on : (x y z : Caller) (all more : List Pdu) (p : Pdu) → Hearing x all y (p ∷ more) → HeardOne y p false z → Hearing x all z more
hearing_on x y z all more p far one c is =
    let f = far c is in
    let o = one f.0 f.1 in
    (o.1, o.4, λ e b rest. f.2 e b (hears_on f.0 o.1 e p more o.0 b o.2 (sym o.3) rest))

pub hearing_ends : (x y z : Caller) (all more : List Pdu) (p : Pdu) → Hearing x all y (p ∷ more) → HeardOne y p true z → (c : CallerEnd) → IsCaller x c → (d : CallerEnd) × HearsPdus c all d true × IsCaller z d
hearing_ends x y z all more p far one c is =
    let f = far c is in
    let o = one f.0 f.1 in
    (o.1, f.2 o.1 true (hears_last f.0 o.1 p more o.0 o.2 (sym o.3)), o.4)

pub hearing_done : (x y : Caller) (all : List Pdu) → Hearing x all y [] → (c : CallerEnd) → IsCaller x c → (d : CallerEnd) × HearsPdus c all d false × IsCaller y d
hearing_done x y all far c is = let f = far c is in (f.0, f.2 f.0 false (refl, refl), f.1)

-- ---- a loss

pub lost_is : (x y : Caller) (c : CallerEnd) (out : Bool) → IsCaller x c → out ≡ is_calling (state x.client) → state y.client ≡ (lost_caller (record c { state = state x.client })).state
    → y.rest.items ≡ [] → map fate_of y.fates.items ≡ set_if out fates.Lost (map fate_of x.fates.items) → IsCaller y (lost_caller c)
lost_is x y c out is o lost rest told = record {
  state_is = ap (λ (s : ClientState). (lost_caller (record c { state = s })).state) is.state_is ∙ sym lost;
  rest_is = sym rest;
  fates_are =
      told_is (is_calling c.state) fates.Lost c.rows
      ∙ ap (λ (b : Bool). set_if b fates.Lost (map fate_in c.rows)) (ap is_calling is.state_is ∙ sym o)
      ∙ ap (set_if out fates.Lost) is.fates_are ∙ sym told;
}

-- ---- the fate of the call that was started last

pub last_set : (f : Told) (fs : List Told) (k : ℕ) → k + 1 ≡ length fs → map fate_of (slice_set fs k f) ≡ with_last (fate_of f) (map fate_of fs)
last_set f [] k e = refl
last_set f (g ∷ []) zero e = refl
last_set f (g ∷ []) (suc k) e = absurd (omega (arith, e))
last_set f (g ∷ h ∷ more) zero e = absurd (omega (arith, e))
last_set f (g ∷ h ∷ more) (suc k) e = ap (λ (l : List Fate). fate_of g ∷ l) (last_set f (h ∷ more) k (omega (arith, e)))

pub none_set : (f : Fate) (fs : List Told) → length fs ≡ 0 → map fate_of fs ≡ with_last f (map fate_of fs)
none_set f [] e = refl
none_set f (g ∷ more) e = absurd (omega (arith, e))

-- ---- octets

pub heard_octets : (x y z : Caller) (c d : CallerEnd) (octets : List ℕ) (cut : Cut) (broken all : Bool) → IsCaller x c → IsCut (x.rest.items ++ octets) cut → HearsPdus c cut.pdus d broken → IsCaller y d
    → all ≡ (broken || is_some cut.fault) → z ≡ record y { rest = z.rest } → z.rest.items ≡ cut.rest → (e : CallerEnd) × HearsOctets c octets e all × IsCaller z e
heard_octets x y z c d octets cut broken all is whole hears at told same left = (
  record d { rest = cut.rest },
  record {
    cut = cut;
    is_cut = subst (λ (o : List ℕ). IsCut (o ++ octets) cut) (sym is.rest_is) whole;
    heard = d;
    by_pdu = broken;
    hears = hears;
    after = refl;
    broken_is = told;
  },
  record {
    state_is = at.state_is ∙ sym (ap (λ (w : Caller). state w.client) same);
    rest_is = sym left;
    fates_are = at.fates_are ∙ sym (ap (λ (w : Caller). map fate_of w.fates.items) same);
  },
)

-- one piece is the whole stream
pub one_piece : (a : List ℕ) → flat_map (λ (p : List ℕ). p) (a ∷ []) ≡ a
one_piece a = append-nil a

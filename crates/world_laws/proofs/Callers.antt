-- What happens at the caller's end keeps what holds there.
use Rattle.std.proofs.Common.{◌≡◌, ℕ, Bool, true, false, ◌||◌, Option, Some, None, List, [], ◌∷◌, ◌++◌, length, refl, sym, ap, subst, ◌∙◌, append-nil, append_assoc, arith}
use Rattle.std.specs.List.{list_any}
use Rattle.pdu_codec.specs.declared.pdu.Pdu.{Pdu}
use Rattle.client_core.specs.States.{Outcome, ClientState, is_calling}
use Rattle.client_core.specs.States as callers
use Rattle.client_core.specs.States.Outcome.{TBound, TNotBound, TDone, TFault, TBroken}
use Rattle.client_core.specs.Histories.{ClientEvent, Happens, Lives, sent}
use Rattle.client_core.specs.Histories.ClientEvent.{DidBind, DidAlter, DidCall, DidCancel, Received, Lost}
use Rattle.client_laws.specs.Sending.{offers}
use Rattle.world_laws.specs.Moves.{Fate}
use Rattle.world_laws.specs.Moves.{Fate as fates}
use Rattle.world_laws.specs.Ends.{Row, CallerEnd, with_last, told_if}
use Rattle.world_laws.specs.Calling.{tells, breaks, HearsPdu, IfBroken, HearsPdus, HearsOctets, lost_caller}
use Rattle.world_laws.specs.Counts.{started, starts_in}
use Rattle.world_laws.proofs.Counting.{started_append}
use Rattle.world_laws.proofs.Holds.{Begun}

-- ---- one event more

pub lives_more : (events : List ClientEvent) (s n k : ClientState) (event : ClientEvent) → Lives s events n → Happens n event k → Lives s (events ++ event ∷ []) k
lives_more [] s n k event lives happens = (k, subst (λ (x : ClientState). Happens x event k) lives happens, refl)
lives_more (e ∷ later) s n k event (between, first, lives) happens = (between, first, lives_more later between n k event lives happens)

pub sent_more : (events : List ClientEvent) (event : ClientEvent) → sent (events ++ event ∷ []) ≡ sent events ++ sent (event ∷ [])
sent_more [] event = refl
sent_more (DidBind group octets ∷ later) event = ap (λ (x : List ℕ). octets ++ x) (sent_more later event) ∙ sym (append_assoc octets (sent later) (sent (event ∷ [])))
sent_more (DidAlter context octets ∷ later) event = ap (λ (x : List ℕ). octets ++ x) (sent_more later event) ∙ sym (append_assoc octets (sent later) (sent (event ∷ [])))
sent_more (DidCall op m octets ∷ later) event = ap (λ (x : List ℕ). octets ++ x) (sent_more later event) ∙ sym (append_assoc octets (sent later) (sent (event ∷ [])))
sent_more (DidCancel octets ∷ later) event = ap (λ (x : List ℕ). octets ++ x) (sent_more later event) ∙ sym (append_assoc octets (sent later) (sent (event ∷ [])))
sent_more (Received p t ∷ later) event = sent_more later event
sent_more (Lost called ∷ later) event = sent_more later event

or_parts : (a b : Bool) → (a || b) ≡ false → (a ≡ false) × (b ≡ false)
or_parts true b e = absurd (cc (e))
or_parts false b e = (refl, e)

none_more : (events : List ClientEvent) (event : ClientEvent) → list_any offers events ≡ false → offers event ≡ false → list_any offers (events ++ event ∷ []) ≡ false
none_more [] event none other = rw other refl
none_more (e ∷ later) event none other = (let (first, rest) = or_parts (offers e) (list_any offers later) none in rw (first, none_more later event rest other) refl)

pub begun_more : (events : List ClientEvent) (event : ClientEvent) → Begun events → offers event ≡ false → Begun (events ++ event ∷ [])
begun_more events event b other = record {
  group = b.group;
  octets = b.octets;
  later = b.later ++ event ∷ [];
  is = ap (λ (x : List ClientEvent). x ++ event ∷ []) b.is;
  small = b.small;
  only = none_more b.later event b.only other;
}

-- ---- rows

pub rows_last : (fate : Fate) (rows : List Row) → length (with_last fate rows) ≡ length rows
rows_last fate [] = refl
rows_last fate (r ∷ []) = refl
rows_last fate (r ∷ s ∷ more) = omega (arith, rows_last fate (s ∷ more))

pub rows_if : (out : Bool) (fate : Fate) (rows : List Row) → length (told_if out fate rows) ≡ length rows
rows_if true fate rows = rows_last fate rows
rows_if false fate rows = refl

rows_told : (out : Bool) (t : Option Outcome) (rows : List Row) → length (tells out t rows) ≡ length rows
rows_told out None rows = refl
rows_told out (Some (TDone m)) rows = rows_if out (fates.Done m) rows
rows_told out (Some (TFault status not_run)) rows = rows_if out (fates.Fault status not_run) rows
rows_told out (Some (TBound group)) rows = refl
rows_told out (Some (TNotBound reason)) rows = refl
rows_told out (Some (TBroken fault)) rows = refl

-- ---- what the caller hears

-- The caller's end goes from one moment to another, and sends and starts nothing.
pub record Goes (c d : CallerEnd) : Type 0 where
  pub lives : (s : ClientState) → Lives s c.events c.state → Lives s d.events d.state
  pub begun : Begun c.events → Begun d.events
  pub sent_is : sent d.events ≡ sent c.events
  pub rows : length d.rows ≡ length c.rows
  pub started_is : started d.events ≡ started c.events

none : (c : CallerEnd) → Goes c c
none c = record { lives = λ s h. h; begun = λ h. h; sent_is = refl; rows = refl; started_is = refl }

then_goes : (b c d : CallerEnd) → Goes b c → Goes c d → Goes b d
then_goes b c d x y = record {
  lives = λ s h. y.lives s (x.lives s h);
  begun = λ h. y.begun (x.begun h);
  sent_is = y.sent_is ∙ x.sent_is;
  rows = y.rows ∙ x.rows;
  started_is = y.started_is ∙ x.started_is;
}

-- an event at which nothing is sent or started
goes : (c : CallerEnd) (event : ClientEvent) (state : ClientState) (rest : List ℕ) (rows : List Row) → Happens c.state event state → offers event ≡ false → sent (event ∷ []) ≡ [] → starts_in event ≡ 0 → length rows ≡ length c.rows
    → Goes c (record { events = c.events ++ event ∷ []; state = state; rest = rest; rows = rows })
goes c event state rest rows happens other silent unstarted same = record {
  lives = λ s h. lives_more c.events s c.state state event h happens;
  begun = λ b. begun_more c.events event b other;
  sent_is = sent_more c.events event ∙ (ap (λ (x : List ℕ). sent c.events ++ x) silent ∙ append-nil (sent c.events));
  rows = same;
  started_is = omega (arith, started_append c.events (event ∷ []), unstarted);
}

hears_pdu : (c d : CallerEnd) (p : Pdu) (t : Option Outcome) → HearsPdu c p t d → Goes c d
hears_pdu c d p t h = subst (λ (x : CallerEnd). Goes c x) (sym h.after) (goes c (Received p t) h.state c.rest (tells (is_calling c.state) t c.rows) h.hears refl refl refl (rows_told (is_calling c.state) t c.rows))

unless_broken : (b : Bool) (c d : CallerEnd) (more : List Pdu) (broken : Bool) → (HearsPdus c more d broken → Goes c d) → IfBroken b ((d ≡ c) × (broken ≡ true)) (HearsPdus c more d broken) → Goes c d
unless_broken true c d more broken go h = subst (λ (x : CallerEnd). Goes c x) (sym h.0) (none c)
unless_broken false c d more broken go h = go h

hears_pdus : (pdus : List Pdu) (c d : CallerEnd) (broken : Bool) → HearsPdus c pdus d broken → Goes c d
hears_pdus [] c d broken h = subst (λ (x : CallerEnd). Goes c x) (sym h.0) (none c)
hears_pdus (p ∷ more) c d broken (t, between, first, later) = then_goes c between d (hears_pdu c between p t first) (unless_broken (breaks t) between d more broken (λ h. hears_pdus more between d broken h) later)

pub hears_octets : (c d : CallerEnd) (octets : List ℕ) (broken : Bool) → HearsOctets c octets d broken → Goes c d
hears_octets c d octets broken h =
    let g = hears_pdus h.cut.pdus c h.heard h.by_pdu h.hears in
    subst (λ (x : CallerEnd). Goes c x) (sym h.after) (record { lives = g.lives; begun = g.begun; sent_is = g.sent_is; rows = g.rows; started_is = g.started_is })

pub loses : (c : CallerEnd) → Goes c (lost_caller c)
loses c = goes c (Lost (is_calling c.state)) (callers.at_start c.state.interface) [] (told_if (is_calling c.state) fates.Lost c.rows) (refl, refl) refl refl refl (rows_if (is_calling c.state) fates.Lost c.rows)

-- The handles that running calls name are live.
use Rattle.std.proofs.Common.{◌≡◌, ◌≢◌, ℕ, ◌+◌, ◌≤◌, ◌<◌, Bool, true, false, ◌&&◌, ◌||◌, not, ◌==◌, nat_lt, Option, Some, None, List, [], ◌∷◌, ◌++◌, length, if◌then◌else◌, refl, sym, ◌∙◌, subst, arith, ◌⊎◌, inl, inr}
use Rattle.std.specs.List.{list_any, list_all, filter, filter_map, find}
use Rattle.std.specs.Option.{option_or, option_map}
use Rattle.std.proofs.lemmas.Grind.{common_steps}
use Rattle.std.proofs.lemmas.Bool.Decides.{eqb_tells}
use Rattle.std.proofs.lemmas.Bool.{cases_Bool, eqb-true, eq-eqb, false_from_ne_true, or_parts}
use Rattle.rpc_base.specs.declared.identifiers.WireHandle.{WireHandle}
use Rattle.handle_model.specs.declared.entry.Home.{Home}
use Rattle.handle_model.specs.declared.entry.Slot.{Slot}
use Rattle.handle_model.specs.declared.entry.Slot.TheVariants.{Shares, Holds, Changes, Opens}
use Rattle.handle_model.specs.declared.entry.Asked.{Asked}
use Rattle.handle_model.specs.declared.entry.Outcome.{Outcome}
use Rattle.handle_model.specs.declared.entry.Outcome.TheVariants.{Keep, Close, Issue, Nothing}
use Rattle.handle_model.specs.declared.entry.Said.{Said}
use Rattle.handle_model.specs.declared.entry.Entry.{Entry}
use Rattle.handle_model.specs.declared.entry.Entry.TheVariants.{Join, Accept, Take, Deny, Cancel, Orphan, End, Leave, Shut}
use Rattle.handle_model.specs.declared.entry.DueItem.{DueItem}
use Rattle.handle_model.specs.declared.base.Base.{Base}
use Rattle.handle_model.specs.Running.{AllUsable}
use Rattle.handle_model.specs.Bases.{is_number, has_item, is_named_by, serials_of}
use Rattle.handle_model.specs.Sound.{rise_above, serial_of, is_item_for, is_known}
use Rattle.handle_model.specs.History.{History, since, with_entry}
use Rattle.handle_model.specs.Slots.{wire_of, kind_of, named, names, opens, same_wire, is_null, clash}
use Rattle.handle_model.proofs.Older.{older_legal}
use Rattle.handle_model.proofs.Apart.{slots_kept, runs_below, runs_taken, runs_ended, runs_taken_before, apart, asked_within, same_wire_is, same_wire_from}
use Rattle.handle_model.specs.Journal.{accept_count, first_named, serial_named, any_clash, fault_from, issuer_kind, is_usable_as, is_usable, is_live, is_closed, runs_down, kind, any_closes, closes, ends, runs, is_item_of, slots, asked, opened, follow, suits, suit, issues, is_kind, is_issued, is_taken, Legal}
use Rattle.handle_model.proofs.Held.{and_left, and_right, or_right, or_cases, runs_not_due}
use Rattle.handle_model.proofs.BaseFacts.{above_least, item_within, opened_before, opened_before_once, known_before}
use Rattle.handle_model.specs.Further.{with_entries}

-- a slot opens the handle with this serial
abbrev pub opens_serial : ℕ → Slot → Bool
opens_serial h (Opens t serial) = serial == h
opens_serial h _ = false

abbrev pub any_opens : ℕ → List Slot → Bool
any_opens h ss = list_any (opens_serial h) ss

-- the serials of a call go on from those before
pub follow_within : (n h : ℕ) (ss : List Slot) → follow n ss ≡ true → any_opens h ss ≡ true → (n < h) × (h ≤ n + length (filter opens ss))
follow_within n h [] f o = cc
follow_within n h (Opens t serial ∷ later) f o =
    let first : serial ≡ n + 1 = eqb-true serial (n + 1) (and_left (serial == n + 1) (follow (n + 1) later) f) in
    elim (or_cases (serial == h) (any_opens h later) o) [
      | inl e ↦ let same : serial ≡ h = eqb-true serial h e in (omega arith, omega arith)
      | inr r ↦ let w = follow_within (n + 1) h later (and_right (serial == n + 1) (follow (n + 1) later) f) r in (omega (arith, w.0), omega (arith, w.1))
    ]
follow_within n h (_ ∷ later) f o = follow_within n h later f o

-- as the base has it
pub opens_listed : (h : ℕ) (ss : List Slot) → any_opens h ss ≡ true → list_any (is_number h) (filter_map serial_of ss) ≡ true
opens_listed h [] o = absurd (cc)
opens_listed h (Opens t serial ∷ later) o = grind (arith, common_steps, opens_listed h later)
opens_listed h (_ ∷ later) o = opens_listed h later o

-- a serial that a call opens is within those that were opened
pub opens_within : (home : Home) (base : Base) (past : List Entry) (k h : ℕ) → Legal (since home base past) → any_opens h (slots (since home base past) k) ≡ true → (0 < h) × (h ≤ opened (since home base past))
opens_within home base [] k h l o =
    let w = opened_before home base k h l (opens_listed h (slots (since home base []) k) o) in (w.0, w.1)
opens_within home base (Accept m a ∷ past) k h l o =
    elim (eqb_tells m k) [
      | inl e ↦ let w = follow_within (opened (since home base past)) h a.slots l.0.fits.3 (rw e.0 at o) in (omega (arith, w.0), omega (arith, w.1))
      | inr e ↦ let w = opens_within home base past k h l.1 (rw e.0 at o) in (w.0, omega (arith, w.1))
    ]
opens_within home base (_ ∷ past) k h l o = let w = opens_within home base past k h l.1 o in (w.0, omega (arith, w.1))

-- the base's handles are within those that were opened
pub item_low : (home : Home) (base : Base) (past : List Entry) (h : ℕ) → Legal (since home base past) → has_item base h ≡ true → (0 < h) × (h ≤ opened (since home base past))
item_low home base [] h l i = item_within home base h l i
item_low home base (_ ∷ past) h l i = let w = item_low home base past h l.1 i in (w.0, omega (arith, w.1))

-- and no call opens one of them
pub opens_free : (home : Home) (base : Base) (past : List Entry) (k h : ℕ) → Legal (since home base past) → any_opens h (slots (since home base past) k) ≡ true → has_item base h ≡ false
opens_free home base [] k h l o = (opened_before home base k h l (opens_listed h (slots (since home base []) k) o)).2
opens_free home base (Accept m a ∷ past) k h l o =
    elim (eqb_tells m k) [
      | inl e ↦
          let w = follow_within (opened (since home base past)) h a.slots l.0.fits.3 (rw e.0 at o) in
          false_from_ne_true (has_item base h) (λ i. let low = item_low home base past h l.1 i in absurd (omega (arith, w.0, low.1)))
      | inr e ↦ opens_free home base past k h l.1 (rw e.0 at o)
    ]
opens_free home base (_ ∷ past) k h l o = opens_free home base past k h l.1 o

-- a call that issues a handle opens it
pub one_opens : (h : ℕ) (s : Slot) (o : Outcome) → suits s o ≡ true → issues h o ≡ true → opens_serial h s ≡ true
one_opens h (Opens t serial) (Issue g c) u i =
    let a : g ≡ serial = eqb-true g serial u in let b : g ≡ h = eqb-true g h i in eq-eqb serial h (sym a ∙ b)
one_opens h (Shares t w) (Issue g c) u i = cc
one_opens h (Holds t w) (Issue g c) u i = cc
one_opens h (Changes t w) (Issue g c) u i = cc
one_opens h s (Keep c) u i = cc
one_opens h s Close u i = cc
one_opens h s Nothing u i = cc

pub suit_opens : (h : ℕ) (ss : List Slot) (os : List Outcome) → suit ss os ≡ true → list_any (issues h) os ≡ true → any_opens h ss ≡ true
suit_opens h [] [] u i = cc
suit_opens h [] (o ∷ os) u i = cc
suit_opens h (s ∷ ss) [] u i = cc
suit_opens h (s ∷ ss) (o ∷ os) u i =
    elim (or_cases (issues h o) (list_any (issues h) os) i) [
      | inl e ↦ let w = one_opens h s o (and_left (suits s o) (suit ss os) u) e in grind (arith, common_steps)
      | inr r ↦ or_right (opens_serial h s) (any_opens h ss) (suit_opens h ss os (and_right (suits s o) (suit ss os) u) r)
    ]

-- one call alone opens a handle
pub opens_once : (home : Home) (base : Base) (past : List Entry) (h i k : ℕ) → Legal (since home base past) → any_opens h (slots (since home base past) i) ≡ true → any_opens h (slots (since home base past) k) ≡ true → i ≡ k
opens_once home base [] h i k l a b =
    opened_before_once home base h i k l (opens_listed h (slots (since home base []) i) a) (opens_listed h (slots (since home base []) k) b)
opens_once home base (Accept m x ∷ past) h i k l a b =
    elim (eqb_tells m i) [
      | inl e ↦ elim (eqb_tells m k) [
        | inl f ↦ sym e.1 ∙ f.1
        | inr f ↦
            let new = follow_within (opened (since home base past)) h x.slots l.0.fits.3 (rw e.0 at a) in
            let old = opens_within home base past k h l.1 (rw f.0 at b) in absurd (omega (arith, new.0, old.1))
      ]
      | inr e ↦ elim (eqb_tells m k) [
        | inl f ↦
            let new = follow_within (opened (since home base past)) h x.slots l.0.fits.3 (rw f.0 at b) in
            let old = opens_within home base past i h l.1 (rw e.0 at a) in absurd (omega (arith, new.0, old.1))
        | inr f ↦ opens_once home base past h i k l.1 (rw e.0 at a) (rw f.0 at b)
      ]
    ]
opens_once home base (_ ∷ past) h i k l a b = opens_once home base past h i k l.1 a b

-- who issued a handle opened it, and has ended
pub record Issuer (j : History) (h : ℕ) : Type 0 where
  pub call : ℕ
  pub ended : list_any (ends call) j.past ≡ true
  pub opened_it : any_opens h (slots j call) ≡ true

opens_has : (j : History) (k h : ℕ) (o : Option Asked) → Legal j → asked j k ≡ o → any_opens h (slots j k) ≡ true → k ≤ accept_count j
opens_has j k h None l e o = let f = rw e at o in cc
opens_has j k h (Some a) l e o = asked_within j.home j.base j.past k a l e

-- an entry more that is no Accept, and one that is
issuer_later : (j : History) (e : Entry) (h : ℕ) → ((k : ℕ) → any_opens h (slots j k) ≡ true → any_opens h (slots (with_entry j e) k) ≡ true) → (has_item j.base h ≡ true) ⊎ Issuer j h → (has_item j.base h ≡ true) ⊎ Issuer (with_entry j e) h
issuer_later j e h f (inl i) = inl i
issuer_later j e h f (inr w) =
    inr (record { call = w.call; ended = or_right (ends w.call e) (list_any (ends w.call) j.past) w.ended; opened_it = f w.call w.opened_it })

opens_kept : (j : History) (m k h : ℕ) (a : Asked) → Legal j → m ≡ accept_count j + 1 → any_opens h (slots j k) ≡ true → any_opens h (slots (with_entry j (Accept m a)) k) ≡ true
opens_kept j m k h a l e o =
    let low = opens_has j k h (asked j k) l refl o in
    let below : k < m = omega arith in rw (slots_kept j m k a below) o

-- a handle that was issued is the base's, or the end of a call issued it
pub issued_by : (home : Home) (base : Base) (past : List Entry) (h : ℕ) → Legal (since home base past) → is_issued (since home base past) h ≡ true → (has_item base h ≡ true) ⊎ Issuer (since home base past) h
issued_by home base [] h l i = inl i
issued_by home base (End m results said ∷ past) h l i =
    let j : History = since home base past in
    elim (or_cases (list_any (issues h) results) (is_issued j h) i) [
      | inl e ↦ inr (record { call = m; ended = grind (arith, common_steps); opened_it = suit_opens h (slots j m) results l.0.fits.1 e })
      | inr r ↦ issuer_later j (End m results said) h (λ k o. o) (issued_by home base past h l.1 r)
    ]
issued_by home base (Accept m a ∷ past) h l i =
    let j : History = since home base past in
    issuer_later j (Accept m a) h (λ k o. opens_kept j m k h a l.1 l.0.fits.0 o) (issued_by home base past h l.1 i)
issued_by home base (Join c ∷ past) h l i = issuer_later (since home base past) (Join c) h (λ k o. o) (issued_by home base past h l.1 i)
issued_by home base (Take m cookies ∷ past) h l i =
    issuer_later (since home base past) (Take m cookies) h (λ k o. o) (issued_by home base past h l.1 i)
issued_by home base (Deny m place ∷ past) h l i =
    issuer_later (since home base past) (Deny m place) h (λ k o. o) (issued_by home base past h l.1 i)
issued_by home base (Cancel m ∷ past) h l i = issuer_later (since home base past) (Cancel m) h (λ k o. o) (issued_by home base past h l.1 i)
issued_by home base (Orphan m ∷ past) h l i = issuer_later (since home base past) (Orphan m) h (λ k o. o) (issued_by home base past h l.1 i)
issued_by home base (Leave c ∷ past) h l i = issuer_later (since home base past) (Leave c) h (λ k o. o) (issued_by home base past h l.1 i)
issued_by home base (Shut items ∷ past) h l i =
    issuer_later (since home base past) (Shut items) h (λ k o. o) (issued_by home base past h l.1 i)

issued_as : (j : History) (h : ℕ) → Legal j → (has_item j.base h ≡ true) ⊎ Issuer j h → (0 < h) × (h ≤ opened j)
issued_as j h l (inl i) = item_low j.home j.base j.past h l i
issued_as j h l (inr w) = opens_within j.home j.base j.past w.call h l w.opened_it

-- its serial is from 1 within those that were opened
pub issued_within : (j : History) (h : ℕ) → Legal j → is_issued j h ≡ true → (0 < h) × (h ≤ opened j)
issued_within j h l i = issued_as j h l (issued_by j.home j.base j.past h l i)

issued_again : (j : History) (m h : ℕ) → Legal j → runs j m ≡ true → any_opens h (slots j m) ≡ true → (has_item j.base h ≡ true) ⊎ Issuer j h → ⊥
issued_again j m h l r o (inl i) = let free = opens_free j.home j.base j.past m h l o in absurd (cc)
issued_again j m h l r o (inr w) =
    let same = opens_once j.home j.base j.past h w.call m l w.opened_it o in
    let over : list_any (ends m) j.past ≡ true = subst (λ (k : ℕ). list_any (ends k) j.past ≡ true) same w.ended in
    let on = and_right (is_taken j m) (not (list_any (ends m) j.past)) r in absurd (grind (arith, common_steps))

-- a handle is issued once
pub issued_once : (j : History) (m h : ℕ) (results : List Outcome) → Legal j → runs j m ≡ true → suit (slots j m) results ≡ true → list_any (issues h) results ≡ true → is_issued j h ≡ false
issued_once j m h results l r u i =
    false_from_ne_true (is_issued j h) (λ again.
    absurd (issued_again j m h l r (suit_opens h (slots j m) results u i) (issued_by j.home j.base j.past h l again)))

-- NAMES

pub names_id : (home : Home) (h : ℕ) (s : Slot) → names (wire_of home h) s ≡ true → (w : WireHandle) × (named s ≡ Some w) × (w.id ≡ (wire_of home h).id)
names_id home h (Shares t w) n = (w, refl, (same_wire_is w (wire_of home h) n).1)
names_id home h (Holds t w) n = (w, refl, (same_wire_is w (wire_of home h) n).1)
names_id home h (Changes t w) n = (w, refl, (same_wire_is w (wire_of home h) n).1)
names_id home h (Opens t g) n = absurd (cc)

-- a slot names one handle
pub names_one : (home : Home) (h g : ℕ) (s : Slot) → names (wire_of home h) s ≡ true → names (wire_of home g) s ≡ true → h ≡ g
names_one home h g (Shares t w) a b = omega (arith, (same_wire_is w (wire_of home h) a).1, (same_wire_is w (wire_of home g) b).1)
names_one home h g (Holds t w) a b = omega (arith, (same_wire_is w (wire_of home h) a).1, (same_wire_is w (wire_of home g) b).1)
names_one home h g (Changes t w) a b = omega (arith, (same_wire_is w (wire_of home h) a).1, (same_wire_is w (wire_of home g) b).1)
names_one home h g (Opens t x) a b = absurd (cc)

first_issue : (home : Home) (s : Slot) (g : ℕ) (os : List Outcome) (h : ℕ) (b : Bool) → names (wire_of home g) s ≡ b → option_or (if b then Some g else None) (first_named home s os) ≡ Some h → (first_named home s os ≡ Some h → (names (wire_of home h) s ≡ true) × (list_any (issues h) os ≡ true)) → (names (wire_of home h) s ≡ true) × ((g == h || list_any (issues h) os) ≡ true)
first_issue home s g os h true n e f =
    let same : g ≡ h = cc in
    (subst (λ (x : ℕ). names (wire_of home x) s ≡ true) same n, let q = eq-eqb g h same in grind (arith, common_steps))
first_issue home s g os h false n e f = let w = f e in (w.0, or_right (g == h) (list_any (issues h) os) w.1)

pub first_named_is : (home : Home) (s : Slot) (os : List Outcome) (h : ℕ) → first_named home s os ≡ Some h → (names (wire_of home h) s ≡ true) × (list_any (issues h) os ≡ true)
first_named_is home s [] h e = absurd (cc)
first_named_is home s (Issue g c ∷ os) h e =
    first_issue home s g os h (names (wire_of home g) s) refl e (first_named_is home s os h)
first_named_is home s (_ ∷ os) h e = first_named_is home s os h e

named_or : (home : Home) (s : Slot) (h : ℕ) (o p : Option ℕ) → option_or o p ≡ Some h → (o ≡ Some h → names (wire_of home h) s ≡ true) → (p ≡ Some h → names (wire_of home h) s ≡ true) → names (wire_of home h) s ≡ true
named_or home s h None p e f g = g e
named_or home s h (Some x) p e f g = f e

-- a handle of a list that a slot names
named_among : (home : Home) (s : Slot) (items : List DueItem) (h : ℕ) → option_map (λ (i : DueItem). i.serial) (find (is_named_by home s) items) ≡ Some h → (names (wire_of home h) s ≡ true) × (list_any (is_item_of h) items ≡ true)
named_among home s [] h e = absurd (cc)
named_among home s (i ∷ items) h e =
    elim (cases_Bool (is_named_by home s i)) [
      | inl n ↦
          let same : i.serial ≡ h = (let f = rw n at e in cc) in
          (subst (λ (x : ℕ). names (wire_of home x) s ≡ true) same n, let q = eq-eqb i.serial h same in rw q refl)
      | inr n ↦ let w = named_among home s items h (rw n at e) in (w.0, or_right (is_item_of h i) (list_any (is_item_of h) items) w.1)
    ]

-- the serial that a slot names is that of its handle
pub serial_named_is : (home : Home) (base : Base) (past : List Entry) (s : Slot) (h : ℕ) → serial_named (since home base past) s ≡ Some h → names (wire_of home h) s ≡ true
serial_named_is home base [] s h e = (named_among home s base.handles h e).0
serial_named_is home base (End k results said ∷ past) s h e =
    named_or home s h (first_named home s results) (serial_named (since home base past) s) e (λ q. (first_named_is home s results h q).0) (serial_named_is home base past s h)
serial_named_is home base (_ ∷ past) s h e = serial_named_is home base past s h e

pub no_kind : (h : ℕ) (ss : List Slot) (os : List Outcome) → list_any (issues h) os ≡ false → issuer_kind h ss os ≡ None
no_kind h [] os n = refl
no_kind h (s ∷ ss) [] n = refl
no_kind h (s ∷ ss) (o ∷ os) n = grind (arith, common_steps, no_kind h ss os)

none_of : (o : Option ℕ) → ((g : ℕ) → o ≡ Some g → ⊥) → o ≡ None
none_of None f = refl
none_of (Some g) f = absurd (f g refl)

-- an End that issues no such handle and closes none of its name leaves a slot usable
usable_kept : (j : History) (m : ℕ) (results : List Outcome) (said : Said) (s : Slot) (o : Option ℕ) → Legal j → runs j m ≡ true → suit (slots j m) results ≡ true → serial_named j s ≡ o → is_usable_as j (kind_of s) o ≡ true → ((h : ℕ) → is_issued j h ≡ true → names (wire_of j.home h) s ≡ true → any_closes (wire_of j.home h) (slots j m) results ≡ false) → is_usable (with_entry j (End m results said)) s ≡ true
usable_kept j m results said s None l r u e n c = absurd (cc)
usable_kept j m results said s (Some h) l r u e n c =
    let live = and_left (is_live j h) (is_kind (kind j h) (kind_of s)) n in
    let fit = and_right (is_live j h) (is_kind (kind j h) (kind_of s)) n in
    let before = is_issued j h && not (is_closed j h) in
    let issued = and_left (is_issued j h) (not (is_closed j h)) (and_left before (not (list_any (runs_down h) j.past)) live) in
    let fresh : list_any (issues h) results ≡ false =
    false_from_ne_true (list_any (issues h) results) (λ again. let w = issued_once j m h results l r u again in absurd (cc)) in
    let name = serial_named_is j.home j.base j.past s h e in
    let shut = c h issued name in
    let none : first_named j.home s results ≡ None =
    none_of (first_named j.home s results) (λ g q.
    let w = first_named_is j.home s results g q in
    let same = names_one j.home g h s w.0 name in
    let again : list_any (issues h) results ≡ true = subst (λ (x : ℕ). list_any (issues x) results ≡ true) same w.1 in cc) in
    let stays : issuer_kind h (slots j m) results ≡ None = no_kind h (slots j m) results fresh in
    rw (none, e, stays, shut, fresh) n

-- CLASHES

pub wire_live : (home : Home) (h : ℕ) → 0 < h → is_null (wire_of home h) ≡ false
wire_live home h p = false_from_ne_true (is_null (wire_of home h)) (λ e. let id = eqb-true (wire_of home h).id 0 (and_right ((wire_of home h).attributes == 0) ((wire_of home h).id == 0) e) in omega arith)

clash_both : (w x y : WireHandle) → is_null w ≡ false → same_wire x w ≡ true → same_wire y w ≡ true → (not (is_null x) && same_wire x y) ≡ true
clash_both w x y n a b =
    let p = same_wire_is x w a in
    let q = same_wire_is y w b in
    let s = same_wire_from x y (p.0 ∙ sym q.0) (p.1 ∙ sym q.1) in
    let m : is_null x ≡ false = rw (p.0, p.1) n in grind (arith, common_steps)

exclusive_right : (b : Bool) → (b || true) ≡ true
exclusive_right true = refl
exclusive_right false = refl

clash_close : (w : WireHandle) (s t : Slot) (o : Outcome) → is_null w ≡ false → names w s ≡ true → suits t o ≡ true → closes w t o ≡ true → clash s t ≡ true
clash_close w (Shares t x) (Changes k y) Close n a u c = rw (clash_both w x y n a c) refl
clash_close w (Holds t x) (Changes k y) Close n a u c = rw (clash_both w x y n a c) refl
clash_close w (Changes t x) (Changes k y) Close n a u c = rw (clash_both w x y n a c) refl
clash_close w (Opens t g) (Changes k y) Close n a u c = cc
clash_close w s t (Keep d) n a u c = cc
clash_close w s t (Issue g d) n a u c = cc
clash_close w s t Nothing n a u c = cc
clash_close w s (Shares k y) Close n a u c = cc
clash_close w s (Holds k y) Close n a u c = cc
clash_close w s (Opens k y) Close n a u c = cc

any_clash_close : (w : WireHandle) (s : Slot) (ts : List Slot) (os : List Outcome) → is_null w ≡ false → names w s ≡ true → suit ts os ≡ true → any_closes w ts os ≡ true → list_any (clash s) ts ≡ true
any_clash_close w s [] os n a u c = absurd (cc)
any_clash_close w s (t ∷ ts) [] n a u c = absurd (cc)
any_clash_close w s (t ∷ ts) (o ∷ os) n a u c =
    elim (or_cases (closes w t o) (any_closes w ts os) c) [
      | inl e ↦ rw (clash_close w s t o n a (and_left (suits t o) (suit ts os) u) e) refl
      | inr r ↦ or_right (clash s t) (list_any (clash s) ts) (any_clash_close w s ts os n a (and_right (suits t o) (suit ts os) u) r)
    ]

-- WHAT A BASE'S CALLS NAME

-- a handle of its kind among the items
pub record Known (home : Home) (items : List DueItem) (s : Slot) : Type 0 where
  pub serial : ℕ
  pub name : option_map (λ (i : DueItem). i.serial) (find (is_named_by home s) items) ≡ Some serial
  pub its_kind : option_map (λ (i : DueItem). i.kind) (find (is_item_of serial) items) ≡ Some (kind_of s)
  pub there : list_any (is_item_of serial) items ≡ true

pub item_listed : (items : List DueItem) (h : ℕ) → list_any (is_item_of h) items ≡ true → list_any (is_number h) (serials_of items) ≡ true
item_listed [] h i = absurd (cc)
item_listed (x ∷ items) h i = grind (arith, common_steps, item_listed items h)

-- the item that serves a slot has a serial that the slot names
pub served : (home : Home) (s : Slot) (items : List DueItem) → list_any (is_item_for home s) items ≡ true → (h : ℕ) × (names (wire_of home h) s ≡ true) × (list_any (is_item_of h) items ≡ true)
served home s [] k = absurd (cc)
served home s (i ∷ items) k =
    elim (or_cases (is_item_for home s i) (list_any (is_item_for home s) items) k) [
      | inl e ↦ (i.serial, and_left (is_named_by home s i) (i.kind == kind_of s) e, let q = eq-eqb i.serial i.serial refl in rw q refl)
      | inr r ↦ let w = served home s items r in (w.0, w.1, or_right (is_item_of w.0 i) (list_any (is_item_of w.0) items) w.2)
    ]

pub known : (home : Home) (s : Slot) (n : ℕ) (items : List DueItem) → rise_above n (serials_of items) ≡ true → list_any (is_item_for home s) items ≡ true → Known home items s
known home s n [] r k = absurd (cc)
known home s n (i ∷ items) r k =
    let later = and_right (nat_lt n i.serial) (rise_above i.serial (serials_of items)) r in
    let own = eq-eqb i.serial i.serial refl in
    elim (or_cases (is_item_for home s i) (list_any (is_item_for home s) items) k) [
      | inl e ↦
          let name = and_left (is_named_by home s i) (i.kind == kind_of s) e in
          let fit = eqb-true i.kind (kind_of s) (and_right (is_named_by home s i) (i.kind == kind_of s) e) in
          record { serial = i.serial; name = rw name refl; its_kind = rw (own, fit) refl; there = rw own refl }
      | inr e ↦
          let w = known home s i.serial items later e in
          let found = named_among home s items w.serial w.name in
          let low = above_least i.serial w.serial (serials_of items) later (item_listed items w.serial w.there) in
          let other : is_item_of w.serial i ≡ false = false_from_ne_true (is_item_of w.serial i) (λ q. let same = eqb-true i.serial w.serial q in absurd (omega arith)) in
          let unnamed : is_named_by home s i ≡ false =
          false_from_ne_true (is_named_by home s i) (λ q. let same = names_one home i.serial w.serial s q found.0 in absurd (omega arith)) in
          record { serial = w.serial; name = rw unnamed w.name; its_kind = rw other w.its_kind; there = or_right (is_item_of w.serial i) (list_any (is_item_of w.serial) items) w.there }
    ]

known_usable : (home : Home) (base : Base) (s : Slot) → Known home base.handles s → is_usable (since home base []) s ≡ true
known_usable home base s w =
    let own = eq-eqb (kind_of s) (kind_of s) refl in rw (w.name, w.there, w.its_kind, own) refl

pub known_all : (home : Home) (base : Base) (ss : List Slot) → Legal (since home base []) → list_all (is_known home base) ss ≡ true → AllUsable (since home base []) ss
known_all home base [] l k = tt
known_all home base (s ∷ ss) l k = (
  λ n.
      let here = and_left (is_known home base s) (list_all (is_known home base) ss) k in
      let item : list_any (is_item_for home s) base.handles ≡ true = rw n at here in
      known_usable home base s (known home s 0 base.handles l.serials_rise item),
  known_all home base ss l (and_right (is_known home base s) (list_all (is_known home base) ss) k),
)

-- THE LAW

ended_all : (j : History) (m : ℕ) (results : List Outcome) (said : Said) (ss : List Slot) → Legal j → runs j m ≡ true → suit (slots j m) results ≡ true → any_clash ss (slots j m) ≡ false → AllUsable j ss → AllUsable (with_entry j (End m results said)) ss
ended_all j m results said [] l r u c a = tt
ended_all j m results said (s ∷ ss) l r u c a =
    let apart_of = or_parts (list_any (clash s) (slots j m)) (any_clash ss (slots j m)) c in (
      λ n. usable_kept j m results said s (serial_named j s) l r u refl (a.0 n) (λ h i q.
          false_from_ne_true (any_closes (wire_of j.home h) (slots j m) results) (λ e.
          let low = issued_within j h l i in
          let k = any_clash_close (wire_of j.home h) s (slots j m) results (wire_live j.home h low.0) q u e in
          let f = apart_of.0 in cc)),
      ended_all j m results said ss l r u apart_of.1 a.1,
    )

pub taken_all : (j : History) (all earlier later : List Slot) → fault_from j all earlier later ≡ None → AllUsable j later
taken_all j all earlier [] f = tt
taken_all j all earlier (s ∷ later) f =
    let more = taken_all j all (earlier ++ s ∷ []) later in (λ n. grind (arith, common_steps), more (grind (arith, common_steps)))

-- an End of the call itself
not_ended : (j : History) (m k : ℕ) (results : List Outcome) (said : Said) → runs (with_entry j (End m results said)) k ≡ true → k ≢ m
not_ended j m k results said r e =
    let q = eq-eqb m k (sym e) in
    let n = and_right (is_taken j k) (not (m == k || list_any (ends k) j.past)) r in grind (arith, common_steps)

-- what one entry leaves usable
named_since : (home : Home) (base : Base) (past : List Entry) (k : ℕ) → Legal (since home base past) → runs (since home base past) k ≡ true → AllUsable (since home base past) (slots (since home base past) k)
named_since home base [] k l r = known_all home base (slots (since home base []) k) l (known_before home base k l (runs_taken_before (since home base []) k r))
named_since home base (Take m cookies ∷ past) k l r =
    let j : History = since home base past in
    elim (runs_taken j m k cookies r) [
      | inl e ↦ subst (λ (i : ℕ). AllUsable j (slots j i)) e (taken_all j (slots j m) [] (slots j m) l.0.fits.2)
      | inr s ↦ named_since home base past k l.1 s
    ]
named_since home base (Accept m a ∷ past) k l r =
    let j : History = since home base past in
    rw (slots_kept j m k a (runs_below j m k l.1 l.0.fits.0 r)) (named_since home base past k l.1 r)
named_since home base (End m results said ∷ past) k l r =
    let j : History = since home base past in
    let s = runs_ended j m k results said r in
    let d = apart home base past k m l.1 s l.0.fits.0 (not_ended j m k results said r) in
    ended_all j m results said (slots j k) l.1 l.0.fits.0 l.0.fits.1 d (named_since home base past k l.1 s)
named_since home base (Shut items ∷ past) k l r = let d = runs_not_due (since home base past) k r in let e = l.0.fits.0 in absurd (cc)
named_since home base (_ ∷ past) k l r = named_since home base past k l.1 r

-- every handle that a running call names is live, with the slot's kind
pub named_live : (j : History) (k : ℕ) → Legal j → runs j k ≡ true → AllUsable j (slots j k)
named_live j k l r = named_since j.home j.base j.past k l r

-- the same when it was taken
pub taken_live : (j : History) (newer : List Entry) (k : ℕ) (cookies : List (Option ℕ)) → Legal (with_entries (with_entry j (Take k cookies)) newer) → AllUsable j (slots j k)
taken_live j newer k cookies l =
    let t = older_legal (with_entry j (Take k cookies)) newer l in taken_all j (slots j k) [] (slots j k) t.0.fits.2

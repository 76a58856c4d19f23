-- What slots find in the table is what they name in the journal.
use Rattle.std.proofs.Common.{◌≡◌, ℕ, true, not, ◌==◌, ◌&&◌, ◌||◌, Option, Some, None, is_some, unwrap_or, List, [], ◌∷◌, ◌++◌, refl, sym, ◌∙◌, ap, subst, inl, inr}
use Rattle.std.specs.List.{list_any, find}
use Rattle.std.specs.Option.{option_or, option_map}
use Rattle.std.proofs.lemmas.Bool.Decides.{eqb_tells}
use Rattle.std.proofs.lemmas.Bool.{cases_Bool}
use Rattle.rpc_base.specs.declared.identifiers.WireHandle.{WireHandle}
use Rattle.handle_model.specs.declared.entry.Home.{Home}
use Rattle.handle_model.specs.declared.entry.Slot.{Slot}
use Rattle.handle_model.specs.declared.entry.Slot.TheVariants.{Shares, Holds, Changes, Opens}
use Rattle.handle_model.specs.declared.entry.Outcome.{Outcome}
use Rattle.handle_model.specs.declared.entry.Outcome.TheVariants.{Keep, Close, Issue, Nothing}
use Rattle.handle_model.specs.declared.entry.DueItem.{DueItem}
use Rattle.handle_model.specs.declared.entry.Entry.{Entry}
use Rattle.handle_model.specs.declared.entry.Entry.TheVariants.{End}
use Rattle.handle_model.specs.Slots.{wire_of, kind_of, named, names}
use Rattle.handle_model.specs.declared.base.Base.{Base}
use Rattle.handle_model.specs.Bases.{kind_before, cookie_before, named_before, is_named_by}
use Rattle.handle_model.specs.History.{History, since}
use Rattle.handle_model.specs.Journal.{Legal, is_item_of, is_live, is_issued, is_kind, is_usable, is_usable_as, fault_by, fault_in, kind, cookie, issuer_kind, first_given, issues, gives, suit, suits, slots, serial_named, first_named, cookie_for, cookies_for, due_item, due_items}
use Rattle.handle_model.proofs.Held.{and_left, and_right, or_cases}
use Rattle.handle_model.specs.Running.{AllUsable}
use Rattle.handle_model.proofs.LiveNames.{serial_named_is, taken_all}
use Rattle.handle_model.proofs.Usable.{named_issued}
use Rattle.handle_table.specs.Uses.{item_named, fits_kind, fault_at, cookie_at, cookies_at}
use Rattle.handle_table.proofs.Items.{named_at, named_is}
use Rattle.handle_table.proofs.Live.{live_item, live_issued, due_item_at}

-- AN ISSUED HANDLE HAS A KIND AND A COOKIE, AND IS FOUND BY ITS NAME

or_some : {X : Type 0} (a b : Option X) → is_some a ≡ true → is_some (option_or a b) ≡ true
or_some None b h = absurd (cc)
or_some (Some x) b h = refl

or_some_right : {X : Type 0} (a b : Option X) → is_some b ≡ true → is_some (option_or a b) ≡ true
or_some_right None b h = h
or_some_right (Some x) b h = refl

issuer_some : (h : ℕ) (ss : List Slot) (os : List Outcome) → suit ss os ≡ true → list_any (issues h) os ≡ true → is_some (issuer_kind h ss os) ≡ true
issuer_some h [] [] u i = absurd (cc)
issuer_some h [] (o ∷ os) u i = absurd (cc)
issuer_some h (s ∷ ss) [] u i = absurd (cc)
issuer_some h (s ∷ ss) (o ∷ os) u i =
    elim (cases_Bool (issues h o)) [
      | inl e ↦ rw e refl
      | inr e ↦ rw e (issuer_some h ss os (and_right (suits s o) (suit ss os) u) (rw e at i))
    ]

gives_some : (home : Home) (h : ℕ) (s : Slot) (o : Outcome) → issues h o ≡ true → is_some (gives home h s o) ≡ true
gives_some home h s (Issue g c) i = rw i refl
gives_some home h s (Keep c) i = absurd (cc)
gives_some home h s Close i = absurd (cc)
gives_some home h s Nothing i = absurd (cc)

given_some : (home : Home) (h : ℕ) (ss : List Slot) (os : List Outcome) → suit ss os ≡ true → list_any (issues h) os ≡ true → is_some (first_given home h ss os) ≡ true
given_some home h [] [] u i = absurd (cc)
given_some home h [] (o ∷ os) u i = absurd (cc)
given_some home h (s ∷ ss) [] u i = absurd (cc)
given_some home h (s ∷ ss) (o ∷ os) u i =
    elim (or_cases (issues h o) (list_any (issues h) os) i) [
      | inl e ↦ or_some (gives home h s o) (first_given home h ss os) (gives_some home h s o e)
      | inr r ↦ or_some_right (gives home h s o) (first_given home h ss os) (given_some home h ss os (and_right (suits s o) (suit ss os) u) r)
    ]

item_found : (items : List DueItem) (h : ℕ) (f : DueItem → ℕ) → list_any (is_item_of h) items ≡ true → is_some (option_map f (find (is_item_of h) items)) ≡ true
item_found [] h f i = absurd (cc)
item_found (x ∷ items) h f i =
    elim (cases_Bool (is_item_of h x)) [
      | inl e ↦ rw e refl
      | inr e ↦ rw e (item_found items h f (rw e at i))
    ]

kind_since : (home : Home) (base : Base) (past : List Entry) (h : ℕ) → Legal (since home base past) → is_issued (since home base past) h ≡ true → is_some (kind (since home base past) h) ≡ true
kind_since home base [] h l i = item_found base.handles h (λ (x : DueItem). x.kind) i
kind_since home base (End k os said ∷ past) h l i =
    let j : History = since home base past in
    elim (or_cases (list_any (issues h) os) (is_issued j h) i) [
      | inl e ↦ or_some (issuer_kind h (slots j k) os) (kind j h) (issuer_some h (slots j k) os l.0.fits.1 e)
      | inr r ↦ or_some_right (issuer_kind h (slots j k) os) (kind j h) (kind_since home base past h l.1 r)
    ]
kind_since home base (_ ∷ past) h l i = kind_since home base past h l.1 i

pub kind_some : (j : History) (h : ℕ) → Legal j → is_issued j h ≡ true → is_some (kind j h) ≡ true
kind_some j h l i = kind_since j.home j.base j.past h l i

cookie_since : (home : Home) (base : Base) (past : List Entry) (h : ℕ) → Legal (since home base past) → is_issued (since home base past) h ≡ true → is_some (cookie (since home base past) h) ≡ true
cookie_since home base [] h l i = item_found base.handles h (λ (x : DueItem). x.cookie) i
cookie_since home base (End k os said ∷ past) h l i =
    let j : History = since home base past in
    elim (or_cases (list_any (issues h) os) (is_issued j h) i) [
      | inl e ↦ or_some (first_given home h (slots j k) os) (cookie j h) (given_some home h (slots j k) os l.0.fits.1 e)
      | inr r ↦ or_some_right (first_given home h (slots j k) os) (cookie j h) (cookie_since home base past h l.1 r)
    ]
cookie_since home base (_ ∷ past) h l i = cookie_since home base past h l.1 i

pub cookie_some : (j : History) (h : ℕ) → Legal j → is_issued j h ≡ true → is_some (cookie j h) ≡ true
cookie_some j h l i = cookie_since j.home j.base j.past h l i

pub named_some : (j : History) (s : Slot) (h : ℕ) → is_issued j h ≡ true → names (wire_of j.home h) s ≡ true → is_some (serial_named j s) ≡ true
named_some j s h i n = let e = named_issued j.home j.base j.past s h i n in rw e refl

-- THE HANDLE OF A SLOT

-- what is found in the list is live
found_live : (j : History) (s : Slot) (x : DueItem) → Legal j → item_named j.home (due_items j) s ≡ Some x → is_live j x.serial ≡ true
found_live j s x l e =
    let n = named_is j.home (due_items j) s x e in
    let there : live_item j x.serial ≡ Some x = sym (due_item_at j x.serial l) ∙ (sym (named_at j.home (due_items j) x.serial s n) ∙ e) in
    elim (cases_Bool (is_live j x.serial)) [
      | inl v ↦ v
      | inr v ↦ let none = rw v at there in absurd (cc)
    ]

none_found : (j : History) (s : Slot) (o : Option DueItem) → Legal j → item_named j.home (due_items j) s ≡ o → serial_named j s ≡ None → o ≡ None
none_found j s None l e n = refl
none_found j s (Some x) l e n =
    let v = found_live j s x l e in
    let some = named_some j s x.serial (live_issued j x.serial v) (named_is j.home (due_items j) s x e) in absurd (cc)

pub named_item : (j : History) (s : Slot) (h : ℕ) → Legal j → serial_named j s ≡ Some h → item_named j.home (due_items j) s ≡ live_item j h
named_item j s h l e = named_at j.home (due_items j) h s (serial_named_is j.home j.base j.past s h e) ∙ due_item_at j h l

fits_live : (j : History) (s : Slot) (h : ℕ) (o : Option ℕ) → kind j h ≡ o → is_some o ≡ true → (unwrap_or o 0 == kind_of s) ≡ is_kind o (kind_of s)
fits_live j s h None e i = absurd (cc)
fits_live j s h (Some n) e i = refl

usable_named : (j : History) (s : Slot) (o : Option ℕ) → Legal j → serial_named j s ≡ o → fits_kind s (item_named j.home (due_items j) s) ≡ is_usable_as j (kind_of s) o
usable_named j s None l e = ap (fits_kind s) (none_found j s (item_named j.home (due_items j) s) l refl e)
usable_named j s (Some h) l e =
    ap (fits_kind s) (named_item j s h l e) ∙ elim (cases_Bool (is_live j h)) [
      | inl v ↦ rw v (fits_live j s h (kind j h) refl (kind_some j h l (live_issued j h v)))
      | inr v ↦ rw v refl
    ]

pub usable_shown : (j : History) (s : Slot) → Legal j → fits_kind s (item_named j.home (due_items j) s) ≡ is_usable j s
usable_shown j s l = usable_named j s (serial_named j s) l refl

-- FAULTS

-- the table's fault is the journal's
pub fault_shown : (j : History) (ss : List Slot) → Legal j → fault_at j.home (due_items j) ss ≡ fault_in j ss
fault_shown j ss l = λ i. fault_by (λ s. usable_shown j s l i) ss [] ss

-- COOKIES

named_not : (home : Home) (s : Slot) (items : List DueItem) → named s ≡ None → option_map (λ (i : DueItem). i.serial) (find (is_named_by home s) items) ≡ None
named_not home s [] n = refl
named_not home (Opens t x) (i ∷ items) n = named_not home (Opens t x) items n
named_not home (Shares t x) (i ∷ items) n = absurd (cc)
named_not home (Holds t x) (i ∷ items) n = absurd (cc)
named_not home (Changes t x) (i ∷ items) n = absurd (cc)

opens_first : (home : Home) (os : List Outcome) (s : Slot) → named s ≡ None → first_named home s os ≡ None
opens_first home [] s n = refl
opens_first home (Issue g c ∷ os) (Opens t x) n = opens_first home os (Opens t x) n
opens_first home (Issue g c ∷ os) (Shares t x) n = absurd (cc)
opens_first home (Issue g c ∷ os) (Holds t x) n = absurd (cc)
opens_first home (Issue g c ∷ os) (Changes t x) n = absurd (cc)
opens_first home (_ ∷ os) s n = opens_first home os s n

opens_since : (home : Home) (base : Base) (past : List Entry) (s : Slot) → named s ≡ None → serial_named (since home base past) s ≡ None
opens_since home base [] s n = named_not home s base.handles n
opens_since home base (End k os said ∷ past) s n = rw (opens_first home os s n) (opens_since home base past s n)
opens_since home base (_ ∷ past) s n = opens_since home base past s n

opens_none : (j : History) (s : Slot) → named s ≡ None → serial_named j s ≡ None
opens_none j s n = opens_since j.home j.base j.past s n

some_back : (o : Option ℕ) → is_some o ≡ true → Some (unwrap_or o 0) ≡ o
some_back None h = absurd (cc)
some_back (Some n) h = refl

cookie_named : (j : History) (s : Slot) (h : ℕ) → Legal j → serial_named j s ≡ Some h → is_live j h ≡ true → cookie_at j.home (due_items j) s ≡ cookie j h
cookie_named j s h l e v =
    ap (option_map (λ (i : DueItem). i.cookie)) (named_item j s h l e) ∙ rw v (some_back (cookie j h) (cookie_some j h l (live_issued j h v)))

cookie_as : (j : History) (s : Slot) (o : Option ℕ) → Legal j → serial_named j s ≡ o → is_usable_as j (kind_of s) o ≡ true → cookie_at j.home (due_items j) s ≡ cookie_for j s
cookie_as j s None l e u = absurd (cc)
cookie_as j s (Some h) l e u = cookie_named j s h l e (and_left (is_live j h) (is_kind (kind j h) (kind_of s)) u) ∙ rw e refl

cookie_shown : (j : History) (s : Slot) (o : Option WireHandle) → Legal j → named s ≡ o → (is_some (named s) ≡ true → is_usable j s ≡ true) → cookie_at j.home (due_items j) s ≡ cookie_for j s
cookie_shown j s None l e u = rw e (rw (opens_none j s e) refl)
cookie_shown j s (Some w) l e u = cookie_as j s (serial_named j s) l refl (u (rw e refl))

cookies_usable : (j : History) (ss : List Slot) → Legal j → AllUsable j ss → cookies_at j.home (due_items j) ss ≡ cookies_for j ss
cookies_usable j [] l u = refl
cookies_usable j (s ∷ ss) l u = rw (cookie_shown j s (named s) l refl u.0, cookies_usable j ss l u.1) refl

-- and so are the cookies of a call without a fault
pub cookies_shown : (j : History) (ss : List Slot) → Legal j → fault_in j ss ≡ None → cookies_at j.home (due_items j) ss ≡ cookies_for j ss
cookies_shown j ss l f = cookies_usable j ss l (taken_all j ss [] ss f)

some_of : (o : Option ℕ) → is_some o ≡ true → o ≡ Some (unwrap_or o 0)
some_of o h = sym (some_back o h)

-- a live handle has a kind and a cookie
pub shows_kind : (j : History) (h : ℕ) → Legal j → is_live j h ≡ true → (kind j h ≡ Some (due_item j h).kind) × (cookie j h ≡ Some (due_item j h).cookie)
shows_kind j h l v =
    let i = live_issued j h v in (some_of (kind j h) (kind_some j h l i), some_of (cookie j h) (cookie_some j h l i))

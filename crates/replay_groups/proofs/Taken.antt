-- The cookies that a call is taken with suit its slots.
use Rattle.std.proofs.Common.{◌≡◌, ℕ, Bool, true, false, ◌&&◌, not, Option, Some, None, is_some, List, [], ◌∷◌, refl, sym, ap, subst, ◌∙◌}
use Rattle.std.specs.Bool.{beq}
use Rattle.std.specs.List.{find}
use Rattle.std.specs.Option.{option_or, option_map}
use Rattle.handle_model.specs.declared.entry.Home.{Home}
use Rattle.handle_model.specs.declared.entry.Slot.{Slot}
use Rattle.handle_model.specs.declared.entry.Slot.TheVariants.{Shares, Holds, Changes, Opens}
use Rattle.handle_model.specs.declared.entry.Outcome.{Outcome}
use Rattle.handle_model.specs.declared.entry.Outcome.TheVariants.{Issue}
use Rattle.handle_model.specs.declared.entry.DueItem.{DueItem}
use Rattle.handle_model.specs.declared.entry.Entry.{Entry}
use Rattle.handle_model.specs.declared.entry.Entry.TheVariants.{Take, End}
use Rattle.handle_model.specs.declared.base.Base.{Base}
use Rattle.handle_model.specs.Bases.{is_named_by, named_before}
use Rattle.handle_model.specs.History.{History, since, with_entry}
use Rattle.handle_model.specs.Slots.{opens, named, names, kind_of}
use Rattle.handle_model.specs.Journal.{Legal, slots, cookies_for, cookie_for, cookie_of, cookie, is_usable, is_usable_as, is_live, is_issued, is_kind, kind, serial_named, serial_named_since, first_named}
use Rattle.handle_model.proofs.Held.{and_left}
use Rattle.handle_model.specs.Running.{AllUsable}
use Rattle.handle_model.proofs.LiveNames.{taken_live}
use Rattle.handle_table.proofs.Named.{cookie_some}
use Rattle.group_core.specs.declared.answer.Taking.TheVariants.{Run}
use Rattle.group_core.specs.Calls.{Takes}
use Rattle.server_calls.specs.Suited.{suit_cookies}
use Rattle.replay_groups.specs.Rows.{AreIn}

-- a slot that may issue a handle names none
first_none : (home : Home) (kind serial : ℕ) (os : List Outcome) → first_named home (Opens kind serial) os ≡ None
first_none home kind serial [] = refl
first_none home kind serial (Issue h cookie ∷ os) = first_none home kind serial os
first_none home kind serial (_ ∷ os) = first_none home kind serial os

none_found : (home : Home) (kind serial : ℕ) (items : List DueItem) → find (is_named_by home (Opens kind serial)) items ≡ None
none_found home kind serial [] = refl
none_found home kind serial (x ∷ items) = none_found home kind serial items

base_none : (home : Home) (kind serial : ℕ) (base : Base) → named_before home base (Opens kind serial) ≡ None
base_none home kind serial base = ap (option_map (λ (i : DueItem). i.serial)) (none_found home kind serial base.handles)

none_named : (home : Home) (base : Base) (past : List Entry) (kind serial : ℕ) → serial_named_since home base past (Opens kind serial) ≡ None
none_named home base [] kind serial = base_none home kind serial base
none_named home base (End k results said ∷ past) kind serial =
    ap (λ o. option_or o (serial_named_since home base past (Opens kind serial))) (first_none home kind serial results) ∙ none_named home base past kind serial
none_named home base (_ ∷ past) kind serial = none_named home base past kind serial

usable_some : (j : History) (wanted : ℕ) (o : Option ℕ) → Legal j → is_usable_as j wanted o ≡ true → is_some (cookie_of j o) ≡ true
usable_some j wanted None l u = absurd (cc)
usable_some j wanted (Some h) l u =
    let live = and_left (is_live j h) (is_kind (kind j h) wanted) u in
    cookie_some j h l (and_left (is_issued j h) _ (and_left _ _ live))

here : (a b c : Bool) → a ≡ b → c ≡ true → (beq a b && c) ≡ true
here true b c e f = rw (sym e, f) refl
here false b c e f = rw (sym e, f) refl

pub suits : (j : History) (ss : List Slot) → Legal j → AllUsable j ss → suit_cookies ss (cookies_for j ss) ≡ true
suits j [] l u = refl
suits j (Opens kind serial ∷ ss) l u =
    here (is_some (cookie_for j (Opens kind serial))) false (suit_cookies ss (cookies_for j ss))
    (ap (λ o. is_some (cookie_of j o)) (none_named j.home j.base j.past kind serial)) (suits j ss l u.1)
suits j (Shares kind wire ∷ ss) l u =
    here (is_some (cookie_for j (Shares kind wire))) true (suit_cookies ss (cookies_for j ss)) (usable_some j kind (serial_named j (Shares kind wire)) l (u.0 refl)) (suits j ss l u.1)
suits j (Holds kind wire ∷ ss) l u =
    here (is_some (cookie_for j (Holds kind wire))) true (suit_cookies ss (cookies_for j ss)) (usable_some j kind (serial_named j (Holds kind wire)) l (u.0 refl)) (suits j ss l u.1)
suits j (Changes kind wire ∷ ss) l u =
    here (is_some (cookie_for j (Changes kind wire))) true (suit_cookies ss (cookies_for j ss)) (usable_some j kind (serial_named j (Changes kind wire)) l (u.0 refl)) (suits j ss l u.1)

pub taken_suit : (old new : History) (k serial : ℕ) (row : List (Option ℕ)) → Legal new → Takes old k (Run row serial) new → AreIn row (slots old k) (cookies_for old (slots old k))
taken_suit old new k serial row l t =
    let legal : Legal (with_entry old (Take k (cookies_for old (slots old k)))) = subst Legal t.5 l in
    record { row_is = t.3; suits = suits old (slots old k) legal.1 (taken_live old [] k (cookies_for old (slots old k)) legal) }

-- The cookies and the serials that a call is taken with suit its slots.
use Rattle.std.proofs.Common.{◌≡◌, ℕ, ◌+◌, ◌-◌, ◌^◌, ◌≤◌, ◌<◌, Bool, true, false, ◌&&◌, ◌||◌, if◌then◌else◌, Option, Some, None, is_some, List, [], ◌∷◌, length, filter, refl, sym, ap, subst, ◌∙◌, arith}
use Rattle.std.specs.Prelude.{nat_le, nat_lt}
use Rattle.std.specs.Bool.{beq}
use Rattle.std.specs.List.{find}
use Rattle.std.specs.Option.{option_or, option_map}
use Rattle.std.proofs.lemmas.Bool.Decides.{nat_tests}
use Rattle.handle_model.specs.declared.entry.Home.{Home}
use Rattle.handle_model.specs.declared.entry.Slot.{Slot}
use Rattle.handle_model.specs.declared.entry.Slot.TheVariants.{Shares, Holds, Changes, Opens}
use Rattle.handle_model.specs.declared.entry.Outcome.{Outcome}
use Rattle.handle_model.specs.declared.entry.Outcome.TheVariants.{Issue}
use Rattle.handle_model.specs.declared.entry.DueItem.{DueItem}
use Rattle.handle_model.specs.declared.entry.Entry.{Entry}
use Rattle.handle_model.specs.declared.entry.Entry.TheVariants.{Take, End}
use Rattle.handle_model.specs.declared.limits.AcceptLimit.TheVariants as accept
use Rattle.handle_model.specs.declared.base.Base.{Base}
use Rattle.handle_model.specs.Bases.{is_named_by, named_before}
use Rattle.handle_model.specs.History.{History, with_entry}
use Rattle.handle_model.specs.Slots.{opens}
use Rattle.handle_model.specs.Rules.{filled}
use Rattle.handle_model.specs.Limits.{openings, accept_limit_at, accept_limit}
use Rattle.handle_model.specs.Journal.{Legal, accept_count, waiting, running, live, opened, slots, cookies_for, cookie_for, cookie_of, is_usable_as, is_live, is_issued, is_kind, kind, serial_named, serial_named_since, first_named}
use Rattle.handle_model.proofs.Held.{and_left}
use Rattle.handle_model.specs.Running.{AllUsable}
use Rattle.handle_model.proofs.LiveNames.{taken_live}
use Rattle.handle_table.proofs.Named.{cookie_some}
use Rattle.group_core.specs.declared.answer.Taking.TheVariants.{Run}
use Rattle.group_core.specs.Calls.{Takes, first_serial}
use Rattle.server_calls.specs.Suited.{suit_cookies}

-- ---- serials

pub filled_first : (n : ℕ) (ss : List Slot) → filled (first_serial (filled n ss) - 1) ss ≡ filled n ss
filled_first n [] = refl
filled_first n (Opens kind serial ∷ ss) = let same : n + 1 - 1 ≡ n = omega arith in ap (λ (m : ℕ). filled m (Opens kind serial ∷ ss)) same
filled_first n (Shares kind wire ∷ ss) = ap (λ (l : List Slot). Shares kind wire ∷ l) (filled_first n ss)
filled_first n (Holds kind wire ∷ ss) = ap (λ (l : List Slot). Holds kind wire ∷ l) (filled_first n ss)
filled_first n (Changes kind wire ∷ ss) = ap (λ (l : List Slot). Changes kind wire ∷ l) (filled_first n ss)

pub first_small : (n : ℕ) (ss : List Slot) → first_serial (filled n ss) - 1 ≤ n
first_small n [] = omega arith
first_small n (Opens kind serial ∷ ss) = omega arith
first_small n (Shares kind wire ∷ ss) = first_small n ss
first_small n (Holds kind wire ∷ ss) = first_small n ss
first_small n (Changes kind wire ∷ ss) = first_small n ss

-- an accepted call's last serial has 32 bits
last_small : (calls handles number last : ℕ) → accept_limit_at calls handles number last ≡ None → last < 2 ^ 32
last_small calls handles number last = by (nat_le 256 calls) (nat_lt 65536 handles) (nat_le (2 ^ 32) number)
  where
    by : (a b c : Bool) → (if a then Some accept.Calls else (if b then Some accept.Handles else (if (c || nat_le (2 ^ 32) last) then Some accept.Numbers else None))) ≡ None → last < 2 ^ 32
    by true b c h = absurd cc
    by false true c h = absurd cc
    by false false true h = absurd cc
    by false false false h = grind (arith, nat_tests)

pub limit_small : (j : History) (ss : List Slot) → accept_limit j ss ≡ None → opened j + length (filter opens ss) < 2 ^ 32
limit_small j ss h =
    last_small (length (waiting j) + length (running j)) (length (live j) + openings j (waiting j) + openings j (running j) + length (filter opens ss)) (accept_count j + 1)
    (opened j + length (filter opens ss)) h

-- ---- cookies

-- a slot that may issue a handle names none
first_none : (home : Home) (kind serial : ℕ) (os : List Outcome) → first_named home (Opens kind serial) os ≡ None
first_none home kind serial [] = refl
first_none home kind serial (Issue h cookie ∷ os) = first_none home kind serial os
first_none home kind serial (_ ∷ os) = first_none home kind serial os

none_found : (home : Home) (kind serial : ℕ) (items : List DueItem) → find (is_named_by home (Opens kind serial)) items ≡ None
none_found home kind serial [] = refl
none_found home kind serial (x ∷ items) = none_found home kind serial items

base_none : (home : Home) (kind serial : ℕ) (base : Base) → named_before home base (Opens kind serial) ≡ None
base_none home kind serial base = ap (option_map (λ (i : DueItem). i.serial)) (none_found home kind serial base.handles)

none_named : (home : Home) (base : Base) (past : List Entry) (kind serial : ℕ) → serial_named_since home base past (Opens kind serial) ≡ None
none_named home base [] kind serial = base_none home kind serial base
none_named home base (End k results said ∷ past) kind serial =
    ap (λ o. option_or o (serial_named_since home base past (Opens kind serial))) (first_none home kind serial results) ∙ none_named home base past kind serial
none_named home base (_ ∷ past) kind serial = none_named home base past kind serial

usable_some : (j : History) (wanted : ℕ) (o : Option ℕ) → Legal j → is_usable_as j wanted o ≡ true → is_some (cookie_of j o) ≡ true
usable_some j wanted None l u = absurd (cc)
usable_some j wanted (Some h) l u =
    let live = and_left (is_live j h) (is_kind (kind j h) wanted) u in
    cookie_some j h l (and_left (is_issued j h) _ (and_left _ _ live))

here : (a b c : Bool) → a ≡ b → c ≡ true → (beq a b && c) ≡ true
here true b c e f = rw (sym e, f) refl
here false b c e f = rw (sym e, f) refl

suits : (j : History) (ss : List Slot) → Legal j → AllUsable j ss → suit_cookies ss (cookies_for j ss) ≡ true
suits j [] l u = refl
suits j (Opens kind serial ∷ ss) l u =
    here (is_some (cookie_for j (Opens kind serial))) false (suit_cookies ss (cookies_for j ss))
    (ap (λ o. is_some (cookie_of j o)) (none_named j.home j.base j.past kind serial)) (suits j ss l u.1)
suits j (Shares kind wire ∷ ss) l u =
    here (is_some (cookie_for j (Shares kind wire))) true (suit_cookies ss (cookies_for j ss)) (usable_some j kind (serial_named j (Shares kind wire)) l (u.0 refl)) (suits j ss l u.1)
suits j (Holds kind wire ∷ ss) l u =
    here (is_some (cookie_for j (Holds kind wire))) true (suit_cookies ss (cookies_for j ss)) (usable_some j kind (serial_named j (Holds kind wire)) l (u.0 refl)) (suits j ss l u.1)
suits j (Changes kind wire ∷ ss) l u =
    here (is_some (cookie_for j (Changes kind wire))) true (suit_cookies ss (cookies_for j ss)) (usable_some j kind (serial_named j (Changes kind wire)) l (u.0 refl)) (suits j ss l u.1)

pub taken_suits : (old new : History) (k serial : ℕ) (row : List (Option ℕ)) → Legal new → Takes old k (Run row serial) new → suit_cookies (slots old k) (cookies_for old (slots old k)) ≡ true
taken_suits old new k serial row l t =
    let legal : Legal (with_entry old (Take k (cookies_for old (slots old k)))) = subst Legal t.5 l in
    suits old (slots old k) legal.1 (taken_live old [] k (cookies_for old (slots old k)) legal)

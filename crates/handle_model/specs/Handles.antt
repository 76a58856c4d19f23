-- Which handles of a journal are live, of which kind and with which cookie, and which slots are at fault.
use Rattle.std.specs.Prelude.{ℕ, zero, suc, ◌+◌, Bool, false, ◌&&◌, ◌||◌, not, ◌==◌, Option, Some, None, if◌then◌else◌, List, [], ◌∷◌, ◌++◌, length, filter, map, is_some, unwrap_or}
use Rattle.std.specs.List.{list_any}
use Rattle.std.specs.Option.{option_or}
use Rattle.rpc_base.specs.declared.identifiers.WireHandle.{WireHandle}
use Rattle.handle_model.specs.declared.entry.Home.{Home}
use Rattle.handle_model.specs.declared.entry.Slot.{Slot}
use Rattle.handle_model.specs.declared.entry.Outcome.{Outcome}
use Rattle.handle_model.specs.declared.entry.Outcome.TheVariants.{Keep, Close, Issue, Nothing}
use Rattle.handle_model.specs.declared.entry.DueItem.{DueItem}
use Rattle.handle_model.specs.declared.entry.Entry.{Entry}
use Rattle.handle_model.specs.declared.entry.Entry.TheVariants.{End}
use Rattle.handle_model.specs.declared.base.Base.{Base}
use Rattle.handle_model.specs.Slots.{wire_of, kind_of, named, names, same_name, is_exclusive}
use Rattle.handle_model.specs.Since.{History, since, any_since}
use Rattle.handle_model.specs.Entries.{issues, issues_in, runs_down, opens_in}
use Rattle.handle_model.specs.Bases.{has_item, kind_before, cookie_before, named_before}
use Rattle.handle_model.specs.Calls.{slots}

-- WHAT THE END OF A CALL DID

-- at one slot: it closed the handle
abbrev pub closes : WireHandle → Slot → Outcome → Bool
closes wire s Close = names wire s
closes wire s _ = false

-- the cookie that h then has
abbrev pub gives : Home → ℕ → Slot → Outcome → Option ℕ
gives home h s (Issue serial cookie) = if serial == h then Some cookie else None
gives home h s (Keep cookie) = if names (wire_of home h) s then Some cookie else None
gives home h s Close = None
gives home h s Nothing = None

-- the same of all slots of the call, with their results
abbrev pub any_closes : WireHandle → List Slot → List Outcome → Bool
any_closes wire (s ∷ ss) (o ∷ os) = closes wire s o || any_closes wire ss os
any_closes wire [] os = false
any_closes wire (s ∷ ss) [] = false

abbrev pub first_given : Home → ℕ → List Slot → List Outcome → Option ℕ
first_given home h (s ∷ ss) (o ∷ os) = option_or (gives home h s o) (first_given home h ss os)
first_given home h [] os = None
first_given home h (s ∷ ss) [] = None

-- the kind of the slot that issued h
abbrev pub issuer_kind : ℕ → List Slot → List Outcome → Option ℕ
issuer_kind h (s ∷ ss) (o ∷ os) = if issues h o then Some (kind_of s) else issuer_kind h ss os
issuer_kind h [] os = None
issuer_kind h (s ∷ ss) [] = None

-- the same of one entry, with the slots of its call in the journal before it
abbrev pub closes_in : History → Entry → ℕ → Bool
closes_in j (End k results said) h = any_closes (wire_of j.home h) (slots j k) results
closes_in j _ h = false

abbrev pub kind_in : History → Entry → ℕ → Option ℕ
kind_in j (End k results said) h = issuer_kind h (slots j k) results
kind_in j _ h = None

abbrev pub cookie_in : History → Entry → ℕ → Option ℕ
cookie_in j (End k results said) h = first_given j.home h (slots j k) results
cookie_in j _ h = None

-- HANDLES

-- among the base's handles, or issued by the end of a call
abbrev pub is_issued : History → ℕ → Bool
is_issued j h = any_since (has_item j.base h) (issues_in h) j.past

-- closed by the end of a call, at a slot that names it
abbrev pub is_closed_since : Home → Base → List Entry → ℕ → Bool
is_closed_since home base [] h = false
is_closed_since home base (e ∷ past) h = closes_in (since home base past) e h || is_closed_since home base past h

abbrev pub is_closed : History → ℕ → Bool
is_closed j h = is_closed_since j.home j.base j.past h

-- issued, closed by no End, and in no Shut
abbrev pub is_live : History → ℕ → Bool
is_live j h = is_issued j h && not (is_closed j h) && not (list_any (runs_down h) j.past)

-- the kind of the slot that issued h, or the base's
abbrev pub kind_since : Home → Base → List Entry → ℕ → Option ℕ
kind_since home base [] h = kind_before base h
kind_since home base (e ∷ past) h = option_or (kind_in (since home base past) e h) (kind_since home base past h)

abbrev pub kind : History → ℕ → Option ℕ
kind j h = kind_since j.home j.base j.past h

-- the cookie in the last End that issued or kept h, else the base's
abbrev pub cookie_since : Home → Base → List Entry → ℕ → Option ℕ
cookie_since home base [] h = cookie_before base h
cookie_since home base (e ∷ past) h = option_or (cookie_in (since home base past) e h) (cookie_since home base past h)

abbrev pub cookie : History → ℕ → Option ℕ
cookie j h = cookie_since j.home j.base j.past h

-- the base's opens, and the slots since then that may issue a handle
abbrev pub opened_since : Base → List Entry → ℕ
opened_since base [] = base.opens
opened_since base (e ∷ past) = opens_in e + opened_since base past

abbrev pub opened : History → ℕ
opened j = opened_since j.base j.past

-- 1 to n
abbrev pub numbers : ℕ → List ℕ
numbers zero = []
numbers (suc n) = numbers n ++ suc n ∷ []

-- the live handles by rising serial, each with its kind and cookie
abbrev pub live : History → List ℕ
live j = filter (is_live j) (numbers (opened j))

abbrev pub due_item : History → ℕ → DueItem
due_item j h = record { serial = h; kind = unwrap_or (kind j h) 0; cookie = unwrap_or (cookie j h) 0 }

abbrev pub due_items : History → List DueItem
due_items j = map (due_item j) (live j)

-- WHAT A SLOT NAMES

-- the serial of the handle that it names, among those that were issued
abbrev pub named_by : Home → Slot → Outcome → Option ℕ
named_by home s (Issue serial cookie) = if names (wire_of home serial) s then Some serial else None
named_by home s _ = None

abbrev pub first_named : Home → Slot → List Outcome → Option ℕ
first_named home s [] = None
first_named home s (o ∷ os) = option_or (named_by home s o) (first_named home s os)

abbrev pub serial_in : Home → Entry → Slot → Option ℕ
serial_in home (End k results said) s = first_named home s results
serial_in home _ s = None

abbrev pub serial_named_since : Home → Base → List Entry → Slot → Option ℕ
serial_named_since home base [] s = named_before home base s
serial_named_since home base (e ∷ past) s = option_or (serial_in home e s) (serial_named_since home base past s)

abbrev pub serial_named : History → Slot → Option ℕ
serial_named j s = serial_named_since j.home j.base j.past s

-- the cookie that a call is given for a slot
abbrev pub cookie_of : History → Option ℕ → Option ℕ
cookie_of j None = None
cookie_of j (Some h) = cookie j h

abbrev pub cookie_for : History → Slot → Option ℕ
cookie_for j s = cookie_of j (serial_named j s)

abbrev pub cookies_for : History → List Slot → List (Option ℕ)
cookies_for j ss = map (cookie_for j) ss

-- SLOTS AT FAULT

abbrev pub is_kind : Option ℕ → ℕ → Bool
is_kind None wanted = false
is_kind (Some k) wanted = k == wanted

-- the slot names a live handle of its kind
abbrev pub is_usable_as : History → ℕ → Option ℕ → Bool
is_usable_as j wanted None = false
is_usable_as j wanted (Some h) = is_live j h && is_kind (kind j h) wanted

abbrev pub is_usable : History → Slot → Bool
is_usable j s = is_usable_as j (kind_of s) (serial_named j s)

-- an earlier slot names the same handle, and some slot that names it is exclusive
abbrev pub repeats : List Slot → List Slot → Slot → Bool
repeats earlier all s = list_any (same_name (named s)) earlier && list_any (λ t. same_name (named s) t && is_exclusive t) all

-- a slot that names a handle which it may not use, or repeats a name
abbrev pub is_at_fault_by : (Slot → Bool) → List Slot → List Slot → Slot → Bool
is_at_fault_by usable earlier all s = is_some (named s) && (not (usable s) || repeats earlier all s)

-- the first slot at fault, of those that come after the earlier ones
abbrev pub fault_by : (Slot → Bool) → List Slot → List Slot → List Slot → Option ℕ
fault_by usable all earlier [] = None
fault_by usable all earlier (s ∷ later) =
    if is_at_fault_by usable earlier all s then Some (length earlier) else fault_by usable all (earlier ++ s ∷ []) later

-- the same, where a slot may use a live handle of its kind
abbrev pub is_at_fault : History → List Slot → List Slot → Slot → Bool
is_at_fault j earlier all s = is_at_fault_by (is_usable j) earlier all s

abbrev pub fault_from : History → List Slot → List Slot → List Slot → Option ℕ
fault_from j all earlier later = fault_by (is_usable j) all earlier later

abbrev pub fault_in : History → List Slot → Option ℕ
fault_in j all = fault_from j all [] all

-- the first slot of call k at fault
abbrev pub fault : History → ℕ → Option ℕ
fault j k = fault_in j (slots j k)

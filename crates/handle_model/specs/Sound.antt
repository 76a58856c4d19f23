-- From which base a journal may go on.
use Rattle.std.specs.Prelude.{◌≡◌, ℕ, ◌<◌, ◌^◌, Bool, true, false, ◌&&◌, ◌||◌, not, ◌==◌, nat_le, nat_lt, Option, Some, None, is_some, List, [], ◌∷◌, ◌++◌, length}
use Rattle.std.specs.List.{list_any, list_all, filter_map}
use Rattle.handle_model.specs.declared.entry.Home.{Home}
use Rattle.handle_model.specs.declared.entry.Slot.{Slot}
use Rattle.handle_model.specs.declared.entry.Slot.TheVariants.{Opens}
use Rattle.handle_model.specs.declared.entry.DueItem.{DueItem}
use Rattle.handle_model.specs.declared.base.BaseCall.{BaseCall}
use Rattle.handle_model.specs.declared.base.Base.{Base}
use Rattle.handle_model.specs.Slots.{kind_of, named, clash}
use Rattle.handle_model.specs.Bases.{empty_base, is_number, has_conn, has_item, taken_calls, numbers_of, is_named_by, serials_of}
use Rattle.handle_model.specs.Calls.{any_clash}

-- LISTS OF NUMBERS

-- they rise from above n
abbrev pub rise_above : ℕ → List ℕ → Bool
rise_above n [] = true
rise_above n (m ∷ later) = nat_lt n m && rise_above m later

abbrev pub rise : List ℕ → Bool
rise [] = true
rise (n ∷ later) = rise_above n later

-- none is above n
abbrev pub at_most : ℕ → List ℕ → Bool
at_most n ns = list_all (λ m. nat_le m n) ns

-- no two are the same
abbrev pub differ : List ℕ → Bool
differ [] = true
differ (n ∷ later) = not (list_any (is_number n) later) && differ later

-- CALLS

-- taken, or its connection is among the base's and it has neither mark
abbrev pub is_fresh : Base → BaseCall → Bool
is_fresh base c = c.taken || has_conn base c.asked.conn && not c.cancelled && not c.orphaned

-- at most four slots, and a connection that joined
abbrev pub is_within : Base → BaseCall → Bool
is_within base c = nat_le (length c.asked.slots) 4 && nat_le c.asked.conn base.joins

abbrev pub conflicts_with : BaseCall → BaseCall → Bool
conflicts_with c d = any_clash c.asked.slots d.asked.slots

-- no two conflict
abbrev pub are_apart : List BaseCall → Bool
are_apart [] = true
are_apart (c ∷ later) = not (list_any (conflicts_with c) later) && are_apart later

-- no two slots name one handle, one of the uses being exclusive
abbrev pub names_apart : List Slot → Bool
names_apart [] = true
names_apart (s ∷ later) = not (list_any (clash s) later) && names_apart later

-- the slot names no handle, or one of the base's of its kind
abbrev pub is_item_for : Home → Slot → DueItem → Bool
is_item_for home s i = is_named_by home s i && (i.kind == kind_of s)

abbrev pub is_known : Home → Base → Slot → Bool
is_known home base s = not (is_some (named s)) || list_any (is_item_for home s) base.handles

-- the serials that its slots may issue, and those of several calls
abbrev pub serial_of : Slot → Option ℕ
serial_of (Opens kind serial) = Some serial
serial_of _ = None

abbrev pub opening : List BaseCall → List ℕ
opening [] = []
opening (c ∷ later) = filter_map serial_of c.asked.slots ++ opening later

-- THE BASE

-- a connection is open, or a call was taken
abbrev pub is_held : Base → Bool
is_held base = nat_lt 0 (length base.conns) || nat_lt 0 (length (taken_calls base))

pub record IsSoundBase (home : Home) (base : Base) : Type 0 where
  -- its numbers have 32 bits
  pub joins_small : base.joins < 2 ^ 32
  pub accepts_small : base.accepts < 2 ^ 32
  pub opens_small : base.opens < 2 ^ 32
  -- its conns rise, and are at most its joins
  pub conns_rise : rise base.conns ≡ true
  pub conns_within : at_most base.joins base.conns ≡ true
  -- its calls rise, and are at most its accepts
  pub calls_rise : rise (numbers_of base.calls) ≡ true
  pub calls_within : at_most base.accepts (numbers_of base.calls) ≡ true
  -- a call that is not taken has its connection in conns, and neither mark
  pub fresh : list_all (is_fresh base) base.calls ≡ true
  -- each call has at most four slots, and a connection of at most joins
  pub within : list_all (is_within base) base.calls ≡ true
  -- no two taken calls conflict
  pub apart : are_apart (taken_calls base) ≡ true
  -- no taken call names a handle twice with an exclusive use among the two
  pub names_once : list_all (λ (c : BaseCall). names_apart c.asked.slots) (taken_calls base) ≡ true
  -- each handle that a taken call names is in handles with the slot's kind
  pub known : list_all (λ (c : BaseCall). list_all (is_known home base) c.asked.slots) (taken_calls base) ≡ true
  -- the serials in handles rise, are at least 1 and at most its opens
  pub serials_rise : rise_above 0 (serials_of base.handles) ≡ true
  pub serials_within : at_most base.opens (serials_of base.handles) ≡ true
  -- the serials that its calls may issue differ, are at least 1, at most its opens, and not in handles
  pub openings_differ : differ (opening base.calls) ≡ true
  pub openings_counted : list_all (nat_lt 0) (opening base.calls) ≡ true
  pub openings_within : at_most base.opens (opening base.calls) ≡ true
  pub openings_free : list_all (λ n. not (has_item base n)) (opening base.calls) ≡ true
  -- conns or the taken calls are not empty, or all is zero or empty
  pub held : is_held base ≡ false → base ≡ empty_base

-- What the line of a call adds to a base.
use Rattle.std.specs.Prelude.{ℕ, Bool, ◌&&◌, ◌||◌, not, nat_le, nat_lt, List, [], ◌∷◌, ◌++◌}
use Rattle.std.specs.List.{list_any, list_all, filter_map}
use Rattle.handle_model.specs.declared.entry.Home.{Home}
use Rattle.handle_model.specs.declared.entry.Slot.{Slot}
use Rattle.handle_model.specs.declared.base.BaseCall.{BaseCall}
use Rattle.handle_model.specs.declared.base.Base.{Base}
use Rattle.handle_model.specs.Bases.{is_number, has_item, taken_calls, numbers_of}
use Rattle.handle_model.specs.Sound.{rise, differ, is_fresh, is_within, conflicts_with, names_apart, is_known, serial_of, opening}

-- the serials that the slots may issue
abbrev pub serials_in : List Slot → List ℕ
serials_in ss = filter_map serial_of ss

-- such a serial: from 1 within the base's opens, of none of its handles, and of none of its calls
abbrev pub may_open : Base → ℕ → Bool
may_open base n = nat_lt 0 n && nat_le n base.opens && not (has_item base n) && not (list_any (is_number n) (opening base.calls))

-- a taken call is in conflict with none that was taken, names no handle twice, one of the uses being exclusive, and none but
-- the base's
abbrev pub takes_apart : Home → Base → BaseCall → Bool
takes_apart home base c =
    not (list_any (λ d. conflicts_with d c) (taken_calls base)) && names_apart c.asked.slots && list_all (is_known home base) c.asked.slots

abbrev pub opens_apart : Base → BaseCall → Bool
opens_apart base c = differ (serials_in c.asked.slots) && list_all (may_open base) (serials_in c.asked.slots)

-- A LINE

-- the call may come next, its number aside
abbrev pub joins_calls : Home → Base → BaseCall → Bool
joins_calls home base c = is_within base c && is_fresh base c && (not c.taken || takes_apart home base c) && opens_apart base c

-- and its number is above those before it
abbrev pub comes_next : Home → Base → BaseCall → Bool
comes_next home base c = nat_le c.call base.accepts && rise (numbers_of (base.calls ++ c ∷ [])) && joins_calls home base c

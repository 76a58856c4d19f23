-- How the older entries of a journal are folded into its base.
use Rattle.std.specs.Prelude.{ℕ, ◌+◌, ◌-◌, Bool, false, ◌||◌, Option, Some, None, if◌then◌else◌, unwrap_or, List, [], ◌∷◌, length, take, drop, reverse}
use Rattle.std.specs.List.{list_any, filter_map}
use Rattle.handle_model.specs.declared.entry.Home.{Home}
use Rattle.handle_model.specs.declared.entry.Asked.{Asked}
use Rattle.handle_model.specs.declared.entry.Entry.{Entry}
use Rattle.handle_model.specs.declared.entry.Entry.TheVariants.{Join, Accept}
use Rattle.handle_model.specs.declared.base.BaseCall.{BaseCall}
use Rattle.handle_model.specs.declared.base.Base.{Base}
use Rattle.handle_model.specs.Since.{History, since, size}
use Rattle.handle_model.specs.Calls.{join_count, conns, is_open, accept_count, accepted, asked, waits, runs, is_cancelled, is_orphaned, least}
use Rattle.handle_model.specs.Handles.{opened, due_items}

-- WHAT IS KEPT

-- a call that waits or runs, with what it asked and its marks
abbrev pub call_of : History → ℕ → Asked → BaseCall
call_of j k a = record { call = k; asked = a; taken = runs j k; cancelled = is_cancelled j k; orphaned = is_orphaned j k }

abbrev pub call_as : History → ℕ → Option Asked → Option BaseCall
call_as j k None = None
call_as j k (Some a) = if waits j k || runs j k then Some (call_of j k a) else None

abbrev pub call_in : History → ℕ → Option BaseCall
call_in j k = call_as j k (asked j k)

-- those calls by rising number
abbrev pub open_calls : History → List BaseCall
open_calls j = filter_map (call_in j) (reverse (accepted j))

-- the base that the selections give
abbrev pub base_of : History → Base
base_of j =
    record {
      count = size j;
      joins = join_count j;
      accepts = accept_count j;
      opens = opened j;
      conns = reverse (conns j);
      calls = open_calls j;
      handles = due_items j;
    }

-- the base after these entries, the newest first: each changes it by the selections from it and that entry alone
abbrev pub advance : Home → Base → List Entry → Base
advance home base [] = base
advance home base (e ∷ past) = base_of (since home (advance home base past) (e ∷ []))

-- WHERE IT IS FOLDED

-- the Join of a connection that is open, or the Accept of a call that runs
abbrev pub begins : History → Entry → Bool
begins j (Join c) = is_open j c
begins j (Accept k a) = runs j k
begins j _ = false

-- such a connection or call stands in the base
abbrev pub begins_before : History → Bool
begins_before j = list_any (is_open j) j.base.conns || list_any (λ (c : BaseCall). runs j c.call) j.base.calls

-- the places of these: that of an entry is how many there were before it
abbrev pub places : History → List Entry → List ℕ
places j [] = if begins_before j then j.base.count ∷ [] else []
places j (e ∷ past) = if begins j e then (j.base.count + length past) ∷ places j past else places j past

-- the least of them
abbrev pub floor : History → ℕ
floor j = unwrap_or (least (places j j.past)) (size j)

-- the n oldest entries moved into the base
abbrev pub fold : ℕ → History → History
fold n j =
    let newer = length j.past - n in since j.home (advance j.home j.base (drop newer j.past)) (take newer j.past)

abbrev pub folded : History → History
folded j = fold (floor j - j.base.count) j

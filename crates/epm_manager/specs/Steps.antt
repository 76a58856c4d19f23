-- What the operations of the endpoint map do.
use Rattle.std.specs.Prelude.{ℕ, ◌+◌, ◌==◌, not, Bool, nat_le, nat_lt, List, [], ◌∷◌, ◌++◌, length, take, Option, Some, None, if◌then◌else◌}
use Rattle.ndr_value.specs.Values.{Vals, Msg}
use Rattle.desk_kit.specs.MessageParts.{pointers}
use Rattle.manager_api.specs.declared.answer.Kept.{Kept}
use Rattle.manager_api.specs.declared.answer.Kept.TheVariants.{Null}
use Rattle.manager_api.specs.Answers.{Step, AOut}
use Rattle.manager_api.specs.Arguments.{uint_at, cookie_at}
use Rattle.manager_api.specs.Calls.{Call}
use Rattle.manager_api.specs.Handles.{without}
use Rattle.manager_api.specs.Responses.{handle_and_status}
use Rattle.epm_manager.specs.declared.entry.MapEntry.{MapEntry}
use Rattle.epm_manager.specs.declared.entry.Numbered.{Numbered}
use Rattle.epm_manager.specs.declared.entry.Likeness.TheVariants.{Service, Entry}
use Rattle.epm_manager.specs.declared.wanted.Wanted.{Wanted}
use Rattle.epm_manager.specs.Entries.{EndpointMap, unlike, are_there, numbered_from, last_of, most_entries}
use Rattle.epm_manager.specs.Found.{found, after, kept_by, handles_by}
use Rattle.epm_manager.specs.Asked.{entries_at, lookup_wants, map_wants}
use Rattle.epm_manager.specs.Answered.{tower_values, entry_values, listing, status_alone}

-- ept_s_not_registered: there is no such entry
abbrev pub not_registered : ℕ
not_registered = 0x16C9A0D6

-- nca_s_fault_unspec
abbrev pub unspecified : ℕ
unspecified = 0x1C000012

abbrev pub says : ℕ → EndpointMap → Step EndpointMap
says status next = record { answer = AOut (status_alone status) []; next = next }

-- ---- insert: the new entries come behind those that they don't replace

abbrev pub remaining : Bool → List MapEntry → List Numbered → List Numbered
remaining replace new entries = if replace then unlike Service new entries else entries

abbrev pub with_new : EndpointMap → List Numbered → List MapEntry → EndpointMap
with_new s old new = record { entries = old ++ numbered_from s.last new; last = last_of s.last new; handles = s.handles }

abbrev pub insert_new : EndpointMap → List Numbered → List MapEntry → Step EndpointMap
insert_new s old new = if nat_le (length old + length new) most_entries then says 0 (with_new s old new) else says unspecified s

abbrev pub insert_step : EndpointMap → Bool → Option (List MapEntry) → Step EndpointMap
insert_step s replace None = says unspecified s
insert_step s replace (Some new) = insert_new s (remaining replace new s.entries) new

-- ---- delete: each of those that are named has to be there

abbrev pub without_entries : EndpointMap → List MapEntry → EndpointMap
without_entries s gone = record { entries = unlike Entry gone s.entries; last = s.last; handles = s.handles }

abbrev pub delete_step : EndpointMap → Option (List MapEntry) → Step EndpointMap
delete_step s None = says not_registered s
delete_step s (Some gone) = if are_there gone s.entries then says 0 (without_entries s gone) else says not_registered s

-- ---- lookup and map: at most so many of those that are found behind the cookie

abbrev pub status_of : List Numbered → ℕ
status_of [] = not_registered
status_of (e ∷ es) = 0

abbrev pub with_handles : EndpointMap → ℕ → EndpointMap
with_handles s handles = record { entries = s.entries; last = s.last; handles = handles }

-- these items, which point to the towers of those that are given
abbrev pub lists : Vals → EndpointMap → Option ℕ → Bool → List Numbered → Step EndpointMap
lists items s cookie more given =
    let kept = kept_by cookie more given in
    record { answer = AOut (listing items (tower_values given) (status_of given)) (kept ∷ []); next = with_handles s (handles_by cookie kept s.handles) }

abbrev pub gives : (List Numbered → Vals) → EndpointMap → Option ℕ → ℕ → List Numbered → Step EndpointMap
gives items s cookie most all = lists (items (take most all)) s cookie (nat_lt most (length all)) (take most all)

abbrev pub lookup_step : EndpointMap → Option ℕ → Wanted → ℕ → Step EndpointMap
lookup_step s cookie what most = gives (entry_values 0) s cookie most (found what (after cookie) s.entries)

abbrev pub map_step : EndpointMap → Option ℕ → Wanted → ℕ → Step EndpointMap
map_step s cookie what most = gives (λ given. pointers 0 (length given)) s cookie most (found what (after cookie) s.entries)

-- ---- free: the handle is null then

abbrev pub free_step : EndpointMap → Option ℕ → Step EndpointMap
free_step s cookie = record { answer = AOut (handle_and_status 0) (Null ∷ []); next = with_handles s (without cookie s.handles) }

-- ---- a call

abbrev pub epm_step : EndpointMap → Call → Step EndpointMap
epm_step s c =
    if c.op == 0 then insert_step s (not (uint_at c.message 2 == 0)) (entries_at c.message)
    else (if c.op == 1 then delete_step s (entries_at c.message)
    else (if c.op == 2 then lookup_step s (cookie_at c.cookies 0) (lookup_wants c.message) (uint_at c.message 5)
    else (if c.op == 3 then map_step s (cookie_at c.cookies 0) (map_wants c.message) (uint_at c.message 3)
    else free_step s (cookie_at c.cookies 0))))

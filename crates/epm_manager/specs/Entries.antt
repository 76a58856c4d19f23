-- Entries of the endpoint map, and how one is like another.
use Rattle.std.specs.Prelude.{ℕ, ◌+◌, ◌-◌, ◌^◌, ◌==◌, Bool, not, ◌&&◌, nat_le, min, List, [], ◌∷◌, length, filter, bytes_eq}
use Rattle.std.specs.List.{list_any, list_all}
use Rattle.rpc_base.specs.declared.identifiers.SyntaxId.{SyntaxId}
use Rattle.tower_codec.specs.declared.tower.Tower.{Tower}
use Rattle.ndr_value.specs.Fits.{has_nul}
use Rattle.epm_manager.specs.declared.entry.MapEntry.{MapEntry}
use Rattle.epm_manager.specs.declared.entry.Numbered.{Numbered}
use Rattle.epm_manager.specs.declared.entry.Likeness.{Likeness}
use Rattle.epm_manager.specs.declared.entry.Likeness.TheVariants.{Service, Entry}

-- the map: its entries, by rising number; the last number that was given; and how many handles of lookups there are, of those issued
-- and neither closed nor run down
pub record EndpointMap : Type 0 where
  pub entries : List Numbered
  pub last : ℕ
  pub handles : ℕ

-- ---- likeness

-- one interface or transfer syntax, in one version
abbrev pub same_syntax : SyntaxId → SyntaxId → Bool
same_syntax s t = bytes_eq s.id t.id && (s.major == t.major) && (s.minor == t.minor)

abbrev pub same_tower : Tower → Tower → Bool
same_tower s t = same_syntax s.iface t.iface && same_syntax s.transfer t.transfer && (s.minor == t.minor) && (s.port == t.port) && bytes_eq s.ip t.ip

-- of one service: the object, the interface with its version, and the transfer syntax are the same; one entry: object and tower are
abbrev pub is_like : Likeness → MapEntry → MapEntry → Bool
is_like Service a b = bytes_eq a.object b.object && same_syntax a.tower.iface b.tower.iface && same_syntax a.tower.transfer b.tower.transfer
is_like Entry a b = bytes_eq a.object b.object && same_tower a.tower b.tower

abbrev pub is_like_any : Likeness → List MapEntry → MapEntry → Bool
is_like_any how others e = list_any (is_like how e) others

-- the entries that are like none of the others
abbrev pub is_unlike : Likeness → List MapEntry → Numbered → Bool
is_unlike how others n = not (is_like_any how others n.entry)

abbrev pub unlike : Likeness → List MapEntry → List Numbered → List Numbered
unlike how others entries = filter (is_unlike how others) entries

-- each of the others is one of the entries
abbrev pub is_there : List Numbered → MapEntry → Bool
is_there entries e = list_any (λ n. is_like Entry e n.entry) entries

abbrev pub are_there : List MapEntry → List Numbered → Bool
are_there others entries = list_all (is_there entries) others

-- ---- numbers and limits

-- numbers count from 1 as entries come, and stay within 64 bits
abbrev pub next_number : ℕ → ℕ
next_number n = min (n + 1) (2 ^ 64 - 1)

abbrev pub numbered_from : ℕ → List MapEntry → List Numbered
numbered_from last [] = []
numbered_from last (e ∷ es) = record { number = next_number last; entry = e } ∷ numbered_from (next_number last) es

abbrev pub last_of : ℕ → List MapEntry → ℕ
last_of last [] = last
last_of last (e ∷ es) = last_of (next_number last) es

abbrev pub most_entries : ℕ
most_entries = 4096

-- a note has at most 63 octets, and no NUL among them
abbrev pub is_note : List ℕ → Bool
is_note note = nat_le (length note) 63 && not (has_nul note)

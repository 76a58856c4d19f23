-- What holds of the entries of a map that is kept.
use Rattle.std.specs.Prelude.{◌≡◌, ◌<◌, ◌≤◌, ◌^◌, Bool, true, List, [], ◌∷◌, length}
use Rattle.std.specs.List.{list_all}
use Rattle.rpc_base.specs.Fields.{IsOctets}
use Rattle.desk_kit.specs.Typed.{IsUuid, IsSyntax}
use Rattle.epm_manager.specs.declared.entry.MapEntry.{MapEntry}
use Rattle.epm_manager.specs.declared.entry.Numbered.{Numbered}
use Rattle.epm_manager.specs.Entries.{is_note, most_entries}

-- what the types of an entry's parts hold
pub record IsTyped (e : MapEntry) : Type 0 where
  pub object : IsUuid e.object
  pub iface : IsSyntax e.tower.iface
  pub transfer : IsSyntax e.tower.transfer
  pub minor : e.tower.minor < 2 ^ 16
  pub port : e.tower.port < 2 ^ 16
  pub ip : IsOctets e.tower.ip
  pub ip_size : length e.tower.ip ≡ 4

abbrev pub AllTyped : List Numbered → Type 0
AllTyped [] = Unit {0}
AllTyped (n ∷ ns) = IsTyped n.entry × AllTyped ns

-- notes
abbrev pub has_note : MapEntry → Bool
has_note e = is_note e.note

abbrev pub have_notes : List MapEntry → Bool
have_notes es = list_all has_note es

abbrev pub all_noted : List Numbered → Bool
all_noted ns = list_all (λ n. has_note n.entry) ns

-- the limit is kept, and each note is one
pub record IsWhole (entries : List Numbered) : Type 0 where
  pub few : length entries ≤ most_entries
  pub typed : AllTyped entries
  pub notes : all_noted entries ≡ true

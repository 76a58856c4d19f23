-- What a lookup or a mapping wants: a test of entries.
use Rattle.std.specs.Prelude.{ℕ, ◌==◌, Bool, true, false, ◌&&◌, ◌||◌, nat_le, nat_lt, bytes_eq}
use Rattle.uuid.specs.Parts.{is_nil_bytes}
use Rattle.rpc_base.specs.declared.identifiers.SyntaxId.{SyntaxId}
use Rattle.epm_manager.specs.declared.entry.MapEntry.{MapEntry}
use Rattle.epm_manager.specs.declared.wanted.Versions.{Versions}
use Rattle.epm_manager.specs.declared.wanted.Versions.TheVariants as versions
use Rattle.epm_manager.specs.declared.wanted.Wanted.{Wanted}
use Rattle.epm_manager.specs.declared.wanted.Wanted.TheVariants as wanted
use Rattle.epm_manager.specs.Entries.{same_syntax}

-- the versions of an interface that serve whoever asks for one
abbrev pub serves : Versions → SyntaxId → SyntaxId → Bool
serves versions.All asked own = true
serves versions.Compatible asked own = (own.major == asked.major) && nat_le asked.minor own.minor
serves versions.Exact asked own = (own.major == asked.major) && (own.minor == asked.minor)
serves versions.SameMajor asked own = own.major == asked.major
serves versions.UpTo asked own = nat_lt own.major asked.major || ((own.major == asked.major) && nat_le own.minor asked.minor)

-- an entry of the interface, in one of those versions
abbrev pub is_of : Versions → SyntaxId → MapEntry → Bool
is_of which asked e = bytes_eq e.tower.iface.id asked.id && serves which asked e.tower.iface

abbrev pub wants : Wanted → MapEntry → Bool
wants wanted.All e = true
wants (wanted.Interface asked which) e = is_of which asked e
wants (wanted.Object object) e = bytes_eq e.object object
wants (wanted.Both asked which object) e = is_of which asked e && bytes_eq e.object object
-- where the interface is compatible and the transfer syntax the same, and the object too unless the entry is for every object
wants (wanted.Leading object tower) e =
    is_of versions.Compatible tower.iface e && same_syntax e.tower.transfer tower.transfer && (is_nil_bytes e.object || bytes_eq e.object object)
wants wanted.Nothing e = false

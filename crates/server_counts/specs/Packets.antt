-- The packets of a stream of octets, and where a stream stands among them (C706, "Remote Management Interface",
-- rpc__mgmt_inq_stats).
use Rattle.std.specs.Prelude.{◌≡◌, ℕ, ◌+◌, ◌<◌, ◌≤◌, ◌==◌, Bool, ◌&&◌, List, [], ◌∷◌, ◌++◌, length, filter, ⊤, ◌⊎◌}
use Rattle.pdu_codec.specs.Constants.{header_size, request_type, last_frag}
use Rattle.pdu_codec.specs.Faults.{kind_at, flags_at, frag_length}
use Rattle.pdu_stream.specs.Fragments.{has_flag}
use Rattle.pdu_stream.specs.Cuts.{HasHead}
use Rattle.server_counts.specs.declared.place.Place.{Place}
use Rattle.server_counts.specs.declared.place.Place.TheVariants.{Head, Body, Stopped}
use Rattle.server_counts.specs.declared.place.NewPackets.{NewPackets}

-- A packet: a header without a fault, and as many octets as it says. Its body may be anything.
pub record IsPacket (octets : List ℕ) : Type 0 where
  pub head : HasHead octets
  pub whole : length octets ≡ frag_length octets

-- no packet stands whole in front
abbrev pub HasNoPacket : List ℕ → Type 0
HasNoPacket rest = (HasHead rest → ⊥) ⊎ (length rest < frag_length rest)

-- The packets at the front of octets, up to a header with a fault or one whose octets aren't all there.
abbrev pub ArePackets : List (List ℕ) → List ℕ → Type 0
ArePackets [] octets = HasNoPacket octets
ArePackets (packet ∷ more) octets = (rest : List ℕ) × (octets ≡ packet ++ rest) × IsPacket packet × ArePackets more rest

-- a request's last fragment: a call, however many fragments it has
abbrev pub ends_call : List ℕ → Bool
ends_call packet = kind_at packet == request_type && has_flag last_frag (flags_at packet)

-- ---- where a stream stands

-- the octets of a header that is not whole, and the place
pub record PacketsView : Type 0 where
  pub held : List ℕ
  pub place : Place

-- some octets of a packet are still to come
abbrev pub IsOpen : Place → Type 0
IsOpen (Body call missing) = 0 < missing
IsOpen Head = ⊤
IsOpen Stopped = ⊤

-- nothing came
abbrev pub at_start : PacketsView
at_start = record { held = []; place = Head }

-- The octets behind the packets: less than a header; a header without a fault, to whose packet so many octets are missing; or
-- a header with a fault, and whatever follows it.
abbrev pub StandsAt : Place → List ℕ → List ℕ → Type 0
StandsAt Head held rest = (rest ≡ held) × (length rest < header_size)
StandsAt (Body call missing) held rest =
    (held ≡ []) × HasHead rest × (0 < missing) × (length rest + missing ≡ frag_length rest) × (call ≡ ends_call rest)
StandsAt Stopped held rest = (header_size ≤ length rest) × (HasHead rest → ⊥)

-- the octets are these packets, and then the rest
abbrev pub AreFront : List (List ℕ) → List ℕ → List ℕ → Type 0
AreFront [] rest octets = octets ≡ rest
AreFront (packet ∷ more) rest octets = (others : List ℕ) × (octets ≡ packet ++ others) × IsPacket packet × AreFront more rest others

-- Of the octets so far these packets are whole, and it stands at this place of the next.
pub record Stands (x : PacketsView) (came : List (List ℕ)) (octets : List ℕ) : Type 0 where
  pub rest : List ℕ
  pub front : AreFront came rest octets
  pub place : StandsAt x.place x.held rest

-- so many packets, and so many that end a call
pub record AreMany (n : NewPackets) (more : List (List ℕ)) : Type 0 where
  pub packets : n.packets ≡ length more
  pub calls : n.calls ≡ length (filter ends_call more)

-- ---- a step

-- a packet is whole, or none is yet
abbrev pub IsBehind : List ℕ → Place → NewPackets → Type 0
IsBehind rest Head n = IsPacket rest × AreMany n (rest ∷ [])
IsBehind rest (Body call missing) n = StandsAt (Body call missing) [] rest × AreMany n []
IsBehind rest Stopped n = StandsAt Stopped [] rest × AreMany n []

-- so many octets are missing to the packet that begins with a header
abbrev pub Enters : Bool → ℕ → Place → NewPackets → Type 0
Enters call missing place n =
    (rest : List ℕ) → HasHead rest → length rest + missing ≡ frag_length rest → call ≡ ends_call rest → IsBehind rest place n

-- Further octets came, and with them packets became whole.
abbrev pub Comes : PacketsView → List ℕ → NewPackets → PacketsView → Type 0
Comes old piece n new =
    (came : List (List ℕ)) (octets : List ℕ) → Stands old came octets
    → (more : List (List ℕ)) × Stands new (came ++ more) (octets ++ piece) × AreMany n more

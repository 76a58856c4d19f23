-- Octets that are PDUs, one after the other.
use Rattle.std.specs.Prelude.{◌≡◌, ℕ, List, [], ◌++◌, length}
use Rattle.pdu_codec.specs.declared.pdu.Pdu.{Pdu}
use Rattle.pdu_codec.specs.Pdus.{IsPdu, AreSpelled}
use Rattle.server_counts.specs.Packets.{ArePackets, PacketsView, Stands}

-- the octets are those of one PDU
abbrev pub IsOnePdu : List ℕ → List ℕ → Type 0
IsOnePdu piece octets = (octets ≡ piece) × ((p : Pdu) × IsPdu p piece)

-- the octets can be cut into PDUs
abbrev pub ArePdus : List ℕ → Type 0
ArePdus octets = (pieces : List (List ℕ)) × AreSpelled IsOnePdu pieces octets

-- a PDU of so many octets stands in front
abbrev pub IsFirstPdu : List ℕ → ℕ → Type 0
IsFirstPdu octets size = (p : Pdu) × (front : List ℕ) × (rest : List ℕ) × (octets ≡ front ++ rest) × IsPdu p front × (size ≡ length front)

abbrev pub BeginWithPdu : List ℕ → Type 0
BeginWithPdu octets = (size : ℕ) × IsFirstPdu octets size

-- LAWS

-- What was counted are the packets of the octets so far.
abbrev pub CountedArePackets : Type 0
CountedArePackets = (x : PacketsView) (came : List (List ℕ)) (octets : List ℕ) → Stands x came octets → ArePackets came octets

-- The PDUs of octets are their packets.
abbrev pub PdusArePackets : Type 0
PdusArePackets = (pieces : List (List ℕ)) (octets : List ℕ) → AreSpelled IsOnePdu pieces octets → ArePackets pieces octets

-- PDUs and then others are PDUs.
abbrev pub PdusGoOn : Type 0
PdusGoOn =
    (a b : List (List ℕ)) (x y : List ℕ) → AreSpelled IsOnePdu a x → AreSpelled IsOnePdu b y → AreSpelled IsOnePdu (a ++ b) (x ++ y)

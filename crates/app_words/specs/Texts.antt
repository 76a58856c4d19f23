-- The texts of addresses: `A.B.C.D:PORT`.
use Rattle.std.specs.Prelude.{◌≡◌, ℕ, ◌<◌, ◌^◌, List, [], ◌∷◌, ◌++◌, decimal, length, ⊤}

-- the numbers of an address, and its port
abbrev pub Host : Type 0
Host = List ℕ × ℕ

-- the numbers, with a full stop between each two, and after a colon the port
unfoldable pub address_text : List ℕ → ℕ → List ℕ
address_text [] port = decimal port
address_text (n ∷ []) port = decimal n ++ (58 ∷ decimal port)
address_text (n ∷ m ∷ more) port = decimal n ++ (46 ∷ address_text (m ∷ more) port)

abbrev pub host_text : Host → List ℕ
host_text x = address_text x.0 x.1

-- each is below 256
abbrev pub AreNumbers : List ℕ → Type 0
AreNumbers [] = ⊤
AreNumbers (n ∷ ns) = (n < 2 ^ 8) × AreNumbers ns

-- four numbers and a port, in their ranges
abbrev pub FitsHost : Host → Type 0
FitsHost x = (length x.0 ≡ 4) × AreNumbers x.0 × (x.1 < 2 ^ 16)

-- ---- a text from one of its later numbers on

abbrev pub Tail : Type 0
Tail = ℕ × ℕ

abbrev pub FitsTail : Tail → Type 0
FitsTail x = (x.0 < 2 ^ 8) × (x.1 < 2 ^ 16)

abbrev pub tail_text : Tail → List ℕ
tail_text x = decimal x.0 ++ (58 ∷ decimal x.1)

abbrev pub Two : Type 0
Two = ℕ × Tail

abbrev pub FitsTwo : Two → Type 0
FitsTwo x = (x.0 < 2 ^ 8) × FitsTail x.1

abbrev pub two_text : Two → List ℕ
two_text x = decimal x.0 ++ (46 ∷ tail_text x.1)

abbrev pub Three : Type 0
Three = ℕ × Two

abbrev pub FitsThree : Three → Type 0
FitsThree x = (x.0 < 2 ^ 8) × FitsTwo x.1

abbrev pub three_text : Three → List ℕ
three_text x = decimal x.0 ++ (46 ∷ two_text x.1)

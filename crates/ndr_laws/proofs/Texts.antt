-- Octets that are written stand where they were written, and hold what was written.
use Rattle.std.proofs.Common.{◌≡◌, ℕ, ◌+◌, ◌-◌, ◌*◌, ◌/◌, ◌^◌, ◌<◌, ◌≤◌, Bool, true, false, List, [], ◌∷◌, ◌++◌, length, take, drop, length-append, append_assoc, refl, sym, ap, subst, ◌∙◌, arith}
use Rattle.std.specs.Prelude.{◌==◌, nat_lt, replicate, slice_index, if◌then◌else◌}
use Rattle.std.specs.Int.{w16, w32, w64}
use Rattle.std.proofs.lemmas.Bool.{lt-ltb, ltb-true}
use Rattle.std.proofs.lemmas.List.{take_at, drop_at, length-replicate}
use Rattle.rpc_base.specs.declared.identifiers.Order.{Order}
use Rattle.rpc_base.specs.Fields.{IsOctets, number_of, number_octets}
use Rattle.rpc_base.proofs.FieldLaws.{IsOctets-drop, IsOctets-take, wide16, wide32, wide64}
use Rattle.ndr_scalars.specs.Scalars.{up, octets_of, number_in, cells_of, Scalar, written}
use Rattle.ndr_model.specs.Pieces.{fitting}

-- the octets have this text at this index
pub record Has (octets : List ℕ) (i : ℕ) (text : List ℕ) : Type 0 where
  pub front : List ℕ
  pub more : List ℕ
  pub parts : octets ≡ front ++ (text ++ more)
  pub place : length front ≡ i

pub has_first : (octets : List ℕ) (i : ℕ) (a b : List ℕ) → Has octets i (a ++ b) → Has octets i a
has_first octets i a b h = record { front = h.front; more = b ++ h.more; parts = h.parts ∙ ap (λ (x : List ℕ). h.front ++ x) (append_assoc a b h.more); place = h.place }

pub has_second : (octets : List ℕ) (i : ℕ) (a b : List ℕ) → Has octets i (a ++ b) → Has octets (i + length a) b
has_second octets i a b h = record {
  front = h.front ++ a;
  more = h.more;
  parts = h.parts ∙ ap (λ (x : List ℕ). h.front ++ x) (append_assoc a b h.more) ∙ sym (append_assoc h.front a (b ++ h.more));
  place = length-append h.front a ∙ ap (λ (x : ℕ). x + length a) h.place;
}

pub has_within : (octets : List ℕ) (i : ℕ) (text : List ℕ) → Has octets i text → i + length text ≤ length octets
has_within octets i text h = omega (arith, ap length h.parts, length-append h.front (text ++ h.more), length-append text h.more, h.place)

pub has_there : (octets : List ℕ) (i n : ℕ) (text : List ℕ) → length text ≡ n → Has octets i text → take n (drop i octets) ≡ text
has_there octets i n text len h =
    let rest : drop i octets ≡ text ++ h.more = ap (drop i) h.parts ∙ drop_at h.front (text ++ h.more) i h.place in
    ap (take n) rest ∙ take_at text h.more n len

-- ---- numbers

cells_long : (order : Order) (n : ℕ) (a b c : Bool) → length (if a then n ∷ [] else (if b then number_octets order w16 n else (if c then number_octets order w32 n else number_octets order w64 n))) ≡ (if a then 1 else (if b then 2 else (if c then 4 else 8)))
cells_long order n true b c = refl
cells_long order n false true c = wide16.len order n
cells_long order n false false true = wide32.len order n
cells_long order n false false false = wide64.len order n

pub length-cells : (order : Order) (size n : ℕ) → length (cells_of order size n) ≡ octets_of size
length-cells order size n = cells_long order n (size == 1) (size == 2) (size == 4)

cells_tell : (order : Order) (n : ℕ) (a b c : Bool) → n < 2 ^ (8 * (if a then 1 else (if b then 2 else (if c then 4 else 8))))
    → (if a then slice_index (if a then n ∷ [] else (if b then number_octets order w16 n else (if c then number_octets order w32 n else number_octets order w64 n))) 0
    else (if b then number_of order w16 (if a then n ∷ [] else (if b then number_octets order w16 n else (if c then number_octets order w32 n else number_octets order w64 n)))
    else (if c then number_of order w32 (if a then n ∷ [] else (if b then number_octets order w16 n else (if c then number_octets order w32 n else number_octets order w64 n)))
    else number_of order w64 (if a then n ∷ [] else (if b then number_octets order w16 n else (if c then number_octets order w32 n else number_octets order w64 n)))))) ≡ n
cells_tell order n true b c lt = refl
cells_tell order n false true c lt = wide16.again order n lt
cells_tell order n false false true lt = wide32.again order n lt
cells_tell order n false false false lt = wide64.again order n lt

cells_again : (order : Order) (size n : ℕ) → n < 2 ^ (8 * octets_of size) → number_in order size (cells_of order size n) ≡ n
cells_again order size n lt = cells_tell order n (size == 1) (size == 2) (size == 4) lt

cells_below : (order : Order) (cells : List ℕ) (a b c : Bool) → IsOctets cells
    → (if a then slice_index cells 0 else (if b then number_of order w16 cells else (if c then number_of order w32 cells else number_of order w64 cells))) < 2 ^ (8 * (if a then 1 else (if b then 2 else (if c then 4 else 8))))
cells_below order cells true b c fits = fits 0
cells_below order cells false true c fits = wide16.below order cells fits
cells_below order cells false false true fits = wide32.below order cells fits
cells_below order cells false false false fits = wide64.below order cells fits

-- a number that stands in octets fits its size
pub scalar_fits : (order : Order) (octets : List ℕ) (size n i j : ℕ) → IsOctets octets → Scalar order octets size n i j → n < 2 ^ (8 * octets_of size)
scalar_fits order octets size n i j fits s =
    let cells = take (octets_of size) (drop (up i (octets_of size)) octets) in
    subst (λ (m : ℕ). m < 2 ^ (8 * octets_of size)) (sym s.is) (cells_below order cells (size == 1) (size == 2) (size == 4) (IsOctets-take (octets_of size) (drop (up i (octets_of size)) octets) (IsOctets-drop (up i (octets_of size)) octets fits)))

pub fitting_is : (size n : ℕ) → n < 2 ^ (8 * octets_of size) → fitting size n ≡ n
fitting_is size n lt = ap (λ (b : Bool). if b then n else 0) (lt-ltb _ _ lt)

small_by : (b : Bool) (n m : ℕ) → 0 < m → nat_lt n m ≡ b → (if b then n else 0) < m
small_by true n m more e = ltb-true _ _ e
small_by false n m more e = more

pub fitting_4 : (n : ℕ) → fitting 4 n < 2 ^ 32
fitting_4 n = small_by (nat_lt n (2 ^ 32)) n (2 ^ 32) (omega arith) refl

up_by : (a b c : Bool) (i : ℕ) → i ≤ (i + ((if a then 1 else (if b then 2 else (if c then 4 else 8))) - 1)) / (if a then 1 else (if b then 2 else (if c then 4 else 8))) * (if a then 1 else (if b then 2 else (if c then 4 else 8)))
up_by true b c i = omega arith
up_by false true c i = omega arith
up_by false false true i = omega arith
up_by false false false i = omega arith

up_from : (size i : ℕ) → i ≤ up i (octets_of size)
up_from size i = up_by (size == 1) (size == 2) (size == 4) i

pub gap_end : (i j : ℕ) → i ≤ j → i + length {A = ℕ} (replicate (j - i) 0) ≡ j
gap_end i j le = omega (arith, length-replicate {A = ℕ} (j - i) 0, le)

pub number_ends : (order : Order) (size n i : ℕ) → i + length (written order size n i) ≡ up i (octets_of size) + octets_of size
unfolding written
number_ends order size n i =
    omega (arith, length-append {A = ℕ} (replicate (up i (octets_of size) - i) 0) (cells_of order size n), gap_end i (up i (octets_of size)) (up_from size i), length-cells order size n)

pub number_stands : (order : Order) (octets : List ℕ) (size n i : ℕ) → n < 2 ^ (8 * octets_of size) → Has octets i (written order size n i) → Scalar order octets size n i (i + length (written order size n i))
unfolding written
number_stands order octets size n i lt h =
    let gap : List ℕ = replicate (up i (octets_of size) - i) 0 in
    let at = subst (λ (k : ℕ). Has octets k (cells_of order size n)) (gap_end i (up i (octets_of size)) (up_from size i)) (has_second octets i gap (cells_of order size n) h) in
    record {
      ends = number_ends order size n i;
      within = has_within octets i (gap ++ cells_of order size n) h;
      is = sym (ap (number_in order size) (has_there octets (up i (octets_of size)) (octets_of size) (cells_of order size n) (length-cells order size n) at) ∙ cells_again order size n lt);
    }

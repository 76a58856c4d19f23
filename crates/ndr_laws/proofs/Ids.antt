-- Ids that rise are told apart, so the pointers that are written lead where those that were read led.
use Rattle.std.proofs.Common.{◌≡◌, ℕ, zero, suc, ◌+◌, ◌<◌, ◌≤◌, Bool, false, cond, List, [], ◌∷◌, ◌++◌, length, Some, None, refl, ap, ◌∙◌, arith}
use Rattle.std.specs.Prelude.{◌==◌, slice_get}
use Rattle.ndr_value.specs.Forms.{Form}
use Rattle.ndr_model.specs.Places.{look_from}
use Rattle.ndr_model.proofs.Mets.{Mets, eq_self}

-- ids from lo on, each above the one before it, all below hi
abbrev pub Rising : ℕ → List ℕ → ℕ → Type 0
Rising lo [] hi = lo ≤ hi
Rising lo (id ∷ ids) hi = (lo ≤ id) × Rising (suc id) ids hi

-- ids, with the shapes behind them
abbrev pub zipped : List ℕ → List Form → Mets
zipped [] ss = []
zipped (id ∷ ids) [] = []
zipped (id ∷ ids) (s ∷ ss) = (id, s) ∷ zipped ids ss

pub zipped_length : (ids : List ℕ) (ss : List Form) → length ids ≡ length ss → length (zipped ids ss) ≡ length ss
zipped_length [] [] e = refl
zipped_length [] (s ∷ ss) e = absurd (omega (arith, e))
zipped_length (id ∷ ids) [] e = absurd (omega (arith, e))
zipped_length (id ∷ ids) (s ∷ ss) e = ap suc (zipped_length ids ss (omega (arith, e)))

pub zipped_last : (ids : List ℕ) (ss : List Form) (id : ℕ) (s : Form) → length ids ≡ length ss → zipped (ids ++ id ∷ []) (ss ++ s ∷ []) ≡ zipped ids ss ++ (id, s) ∷ []
zipped_last [] [] id s e = refl
zipped_last [] (t ∷ ss) id s e = absurd (omega (arith, e))
zipped_last (a ∷ ids) [] id s e = absurd (omega (arith, e))
zipped_last (a ∷ ids) (t ∷ ss) id s e = ap (λ (ns : Mets). (a, t) ∷ ns) (zipped_last ids ss id s (omega (arith, e)))

pub rising_weaker : (lo : ℕ) (ids : List ℕ) (hi hi' : ℕ) → hi ≤ hi' → Rising lo ids hi → Rising lo ids hi'
rising_weaker lo [] hi hi' le r = omega (arith, le, r)
rising_weaker lo (id ∷ ids) hi hi' le r = (r.0, rising_weaker (suc id) ids hi hi' le r.1)

pub rising_last : (lo : ℕ) (ids : List ℕ) (id hi : ℕ) → id < hi → Rising lo ids id → Rising lo (ids ++ id ∷ []) hi
rising_last lo [] id hi lt r = (r, lt)
rising_last lo (a ∷ ids) id hi lt r = (r.0, rising_last (suc a) ids id hi lt r.1)

rising_room : (lo : ℕ) (ids : List ℕ) (hi : ℕ) → Rising lo ids hi → lo ≤ hi
rising_room lo [] hi r = r
rising_room lo (id ∷ ids) hi r = omega (arith, r.0, rising_room (suc id) ids hi r.1)

other : (a b : ℕ) → a < b → (a == b) ≡ false
other a b lt = grind (arith)

-- an id above all others wasn't met
pub unmet : (n : ℕ) (lo : ℕ) (ids : List ℕ) (ss : List Form) (id : ℕ) → Rising lo ids id → look_from n (zipped ids ss) id ≡ None
unmet n lo [] ss id r = refl
unmet n lo (a ∷ ids) [] id r = refl
unmet n lo (a ∷ ids) (s ∷ ss) id r =
    ap (λ (b : Bool). cond b (Some (n, s)) (look_from (suc n) (zipped ids ss) id)) (other a id (rising_room (suc a) ids id r.1)) ∙ unmet (suc n) (suc a) ids ss id r.1

-- the id of an item that was seen is met with its number and its shape
pub record Found (n lo : ℕ) (ids : List ℕ) (hi : ℕ) (ss : List Form) (j : ℕ) (t : Form) : Type 0 where
  pub id : ℕ
  pub in_place : slice_get ids j ≡ Some id
  pub met : look_from n (zipped ids ss) id ≡ Some (n + j, t)
  pub low : lo ≤ id
  pub high : id < hi

pub met_again : (n lo : ℕ) (ids : List ℕ) (hi : ℕ) (ss : List Form) (j : ℕ) (t : Form) → length ids ≡ length ss → Rising lo ids hi → slice_get ss j ≡ Some t → Found n lo ids hi ss j t
met_again n lo ids hi [] j t e r f = absurd cc
met_again n lo [] hi (s ∷ ss) j t e r f = absurd (omega (arith, e))
met_again n lo (a ∷ ids) hi (s ∷ ss) zero t e r f =
    let same : s ≡ t = cc in
    record {
      id = a;
      in_place = refl;
      met = ap (λ (c : Bool). cond c (Some (n, s)) (look_from (suc n) (zipped ids ss) a)) (eq_self a) ∙ ap (λ (u : Form). Some (n, u)) same ∙ ap (λ (k : ℕ). Some (k, t)) (let z : n ≡ n + 0 = omega arith in z);
      low = r.0;
      high = rising_room (suc a) ids hi r.1;
    }
met_again n lo (a ∷ ids) hi (s ∷ ss) (suc j) t e r f =
    let x = met_again (suc n) (suc a) ids hi ss j t (omega (arith, e)) r.1 f in
    let l = x.low in
    record {
      id = x.id;
      in_place = x.in_place;
      met = ap (λ (c : Bool). cond c (Some (n, s)) (look_from (suc n) (zipped ids ss) x.id)) (other a x.id (omega (arith, l))) ∙ x.met ∙ ap (λ (k : ℕ). Some (k, t)) (let z : suc n + j ≡ n + suc j = omega arith in z);
      low = omega (arith, l, r.0);
      high = x.high;
    }

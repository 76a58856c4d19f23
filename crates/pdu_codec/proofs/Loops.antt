-- Reading items one after the other, as a loop does.
use Rattle.std.proofs.Common.{◌≡◌, ℕ, suc, ◌-◌, ◌+◌, ◌≤◌, ◌<◌, List, [], ◌∷◌, ◌++◌, Option, Some, None, refl, sym, ap, ◌∙◌, append_assoc, arith}
use Rattle.std.proofs.lemmas.List.{append-nil}
use Rattle.pdu_codec.specs.declared.fault.PduFault.{PduFault}
use Rattle.pdu_codec.specs.declared.fault.PduFault.TheVariants as faults
use Rattle.pdu_codec.specs.Reading.{◌>>=◌, BodyFails, items_at}

-- what was read before, and what is still read
abbrev pub with_front : {A : Type 0} → List A → Option (List A × List ℕ) → Option (List A × List ℕ)
with_front front read = read >>= λ x. Some (front ++ x.0, x.1)

regroup : {A : Type 0} (front : List A) (item : A) (read : Option (List A × List ℕ)) → with_front front (read >>= λ x. Some (item ∷ x.0, x.1)) ≡ with_front (front ++ item ∷ []) read
regroup {A} front item (Some x) = ap (λ (xs : List A). Some (xs, x.1)) (simp append_assoc)
regroup front item None = refl

pub goes_on : {A : Type 0} (read : List ℕ → Option (A × List ℕ)) (front : List A) (count i : ℕ) (octets : List ℕ) (item : A) (after : List ℕ) (total : Option (List A × List ℕ)) → i < count → read octets ≡ Some (item, after)
    → with_front front (items_at read (count - i) octets) ≡ total → with_front (front ++ item ∷ []) (items_at read (count - (i + 1)) after) ≡ total
unfolding items_at
goes_on read front count i octets item after total lt h so_far =
    let k : count - i ≡ suc (count - (i + 1)) = omega arith in
    let one : with_front front (items_at read (count - i) octets) ≡ with_front (front ++ item ∷ []) (items_at read (count - (i + 1)) after) = rw (k, h) (regroup front item (items_at read (count - (i + 1)) after)) in
    sym one ∙ so_far

none_on : {A : Type 0} (read : List ℕ → Option (A × List ℕ)) (front : List A) (count i : ℕ) (octets : List ℕ) (total : Option (List A × List ℕ)) → i < count → read octets ≡ None
    → with_front front (items_at read (count - i) octets) ≡ total → total ≡ None
unfolding items_at
none_on read front count i octets total lt h so_far =
    let k : count - i ≡ suc (count - (i + 1)) = omega arith in
    let one : with_front front (items_at read (count - i) octets) ≡ None = rw (k, h) refl in
    sym so_far ∙ one

pub ends : {A : Type 0} (fault : PduFault) (read : List ℕ → Option (A × List ℕ)) (front : List A) (count i : ℕ) (octets : List ℕ) (total : Option (List A × List ℕ)) → i < count → BodyFails fault (read octets)
    → with_front front (items_at read (count - i) octets) ≡ total → BodyFails fault total
ends faults.Version read front count i octets total lt h so_far = h
ends faults.Kind read front count i octets total lt h so_far = h
ends faults.Length read front count i octets total lt h so_far = h
ends faults.Auth read front count i octets total lt h so_far = h
ends faults.Characters read front count i octets total lt h so_far = h
ends faults.Body read front count i octets total lt h so_far = none_on read front count i octets total lt h so_far
ends faults.Memory read front count i octets total lt h so_far = tt

pub is_done : {A : Type 0} (read : List ℕ → Option (A × List ℕ)) (front : List A) (count i : ℕ) (octets : List ℕ) (total : Option (List A × List ℕ)) → count ≤ i
    → with_front front (items_at read (count - i) octets) ≡ total → total ≡ Some (front, octets)
unfolding items_at
is_done {A} read front count i octets total le so_far =
    let k : count - i ≡ 0 = omega arith in
    let one : with_front front (items_at read (count - i) octets) ≡ Some (front, octets) = rw k (ap (λ (xs : List A). Some (xs, octets)) (append-nil front)) in
    sym so_far ∙ one

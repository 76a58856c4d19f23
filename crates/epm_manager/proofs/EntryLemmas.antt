-- The entries of a request, one by one.
use Rattle.std.proofs.Common.{◌≡◌, ℕ, zero, suc, ◌+◌, ◌<◌, List, [], ◌∷◌, ◌++◌, length, take, get_or, Option, Some, None, false, refl, sym, ap, ◌∙◌, arith}
use Rattle.std.specs.Prelude.{◌==◌}
use Rattle.std.proofs.lemmas.List.{take_more}
use Rattle.ndr_value.specs.declared.value.Value.{Value}
use Rattle.ndr_value.specs.Values.{Val, Vals, bytes, val, vals}
use Rattle.epm_manager.specs.declared.entry.MapEntry.{MapEntry}
use Rattle.tower_codec.specs.declared.tower.Tower.{Tower}
use Rattle.manager_api.specs.Arguments.{value_at, text_of}
use Rattle.epm_manager.specs.Asked.{members_of, pointed_to, uuid_of, tower_in, with_note, entry_with, entry_of, then_entry, entries_of}

then_none : (o : Option MapEntry) → then_entry o None ≡ None
then_none None = refl
then_none (Some e) = refl

then_some : (o : Option MapEntry) (all : Option (List MapEntry)) (es : List MapEntry) (e : MapEntry) → Some es ≡ all → o ≡ Some e → then_entry o all ≡ Some (e ∷ es)
then_some o all es e f g = ap (λ (x : Option MapEntry). then_entry x all) g ∙ ap (then_entry (Some e)) (sym f)

-- one more behind those that are read
record Split (o : Option MapEntry) (all : Option (List MapEntry)) (es : List MapEntry) : Type 0 where
  first : MapEntry
  others : List MapEntry
  is : o ≡ Some first
  rest : Some others ≡ all
  whole : es ≡ first ∷ others

split : (o : Option MapEntry) (all : Option (List MapEntry)) (es : List MapEntry) → Some es ≡ then_entry o all → Split o all es
split None all es e = absurd (cc)
split (Some x) None es e = absurd (cc)
split (Some x) (Some xs) es e = record { first = x; others = xs; is = refl; rest = refl; whole = cc }

more : (heap : Vals) (vs : List Value) (es : List MapEntry) (v : Value) (e : MapEntry) → Some es ≡ entries_of heap (vals vs) → entry_of heap (val v) ≡ Some e → Some (es ++ e ∷ []) ≡ entries_of heap (vals (vs ++ v ∷ []))
more heap [] es v e all one =
    let none : es ≡ [] = cc in
    ap (λ (xs : List MapEntry). Some (xs ++ e ∷ [])) none ∙ sym (then_some (entry_of heap (val v)) (Some []) [] e refl one)
more heap (w ∷ vs) es v e all one =
    let s = split (entry_of heap (val w)) (entries_of heap (vals vs)) es all in
    ap (λ (xs : List MapEntry). Some (xs ++ e ∷ [])) s.whole
    ∙ sym (then_some (entry_of heap (val w)) (entries_of heap (vals (vs ++ v ∷ []))) (s.others ++ e ∷ []) s.first (more heap vs s.others v e s.rest one) s.is)

pub entry_more : (heap : Vals) (vs : List Value) (i : ℕ) (v : Value) (es : List MapEntry) (e : MapEntry) → i < length vs → v ≡ get_or vs i v → Some es ≡ entries_of heap (vals (take i vs)) → Some e ≡ entry_of heap (val v)
    → Some (es ++ e ∷ []) ≡ entries_of heap (vals (take (i + 1) vs))
entry_more heap vs i v es e lt at all one =
    more heap (take i vs) es v e all (sym one) ∙ ap (λ (xs : List Value). entries_of heap (vals xs)) (sym (take_more vs i v lt ∙ ap (λ (w : Value). take i vs ++ w ∷ []) (sym at)))

-- where one isn't an entry there are none
pub entry_none : (heap : Vals) (vs : List Value) (i : ℕ) (v : Value) → i < length vs → v ≡ get_or vs i v → None ≡ entry_of heap (val v) → entries_of heap (vals vs) ≡ None
entry_none heap [] i v lt at none = absurd (omega arith)
entry_none heap (w ∷ vs) zero v lt at none = ap (λ (o : Option MapEntry). then_entry o (entries_of heap (vals vs))) (ap (λ (x : Value). entry_of heap (val x)) (sym at) ∙ sym none)
entry_none heap (w ∷ vs) (suc i) v lt at none = ap (then_entry (entry_of heap (val w))) (entry_none heap vs i v (omega arith) at none) ∙ then_none (entry_of heap (val w))

-- octets are no entries
pub octets_none : (heap : Vals) (octets : List ℕ) → (length octets == 0) ≡ false → None ≡ entries_of heap (bytes octets)
octets_none heap [] e = absurd (cc)
octets_none heap (n ∷ ns) e = refl

-- an entry by its parts
pub entry_is : (heap : Vals) (v : Val) (ms : Vals) (object : List ℕ) (tower : Tower) (note : List ℕ) (o : Option (List ℕ)) (t : Option Tower) → ms ≡ members_of v
    → o ≡ uuid_of (value_at ms 0) → o ≡ Some object → t ≡ tower_in (pointed_to heap (value_at ms 1)) → t ≡ Some tower → note ≡ text_of (value_at ms 2) → with_note object tower note ≡ entry_of heap v
entry_is heap v ms object tower note o t m o_is object_is t_is tower_is note_is =
    let by : Vals → Option MapEntry = λ ms. entry_with (text_of (value_at ms 2)) (uuid_of (value_at ms 0)) (tower_in (pointed_to heap (value_at ms 1))) in
    let same : by (members_of v) ≡ by ms = ap by (sym m) in
    let text : text_of (value_at ms 2) ≡ note = sym note_is in
    let uuid : uuid_of (value_at ms 0) ≡ Some object = sym o_is ∙ object_is in
    let read : tower_in (pointed_to heap (value_at ms 1)) ≡ Some tower = sym t_is ∙ tower_is in
    sym (same ∙ (λ j. entry_with (text j) (uuid j) (read j)))

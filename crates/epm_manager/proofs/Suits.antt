-- The values of the map's responses suit their operations.
use Rattle.std.proofs.Common.{◌≡◌, ℕ, suc, ◌+◌, ◌^◌, ◌<◌, ◌≤◌, Bool, true, false, List, [], ◌∷◌, ◌++◌, length, length-append, Some, None, refl, sym, ap, subst, ◌∙◌, arith}
use Rattle.std.specs.Prelude.{not, nat_le}
use Rattle.std.proofs.lemmas.Bool.{leb-true}
use Rattle.rpc_base.specs.Fields.{IsOctets}
use Rattle.ndr_value.specs.declared.shape.ArrayKind.TheVariants.{Conformant}
use Rattle.ndr_value.specs.declared.shape.Count.TheVariants.{Member}
use Rattle.ndr_value.specs.Forms.{OfFull}
use Rattle.ndr_value.specs.Fits.{has_nul}
use Rattle.ndr_value.specs.Values.{VUint, VArray, VFull, Vals, no_val, then_val, bytes, count_of}
use Rattle.desk_kit.specs.TableParts.{named}
use Rattle.ndr_model.specs.Named.{Call, nth}
use Rattle.ndr_model.specs.Fits.{Seen, with_item, Suits, suits_uint, suits_text, suits_name, suits_struct, suits_array, suits_new, no_member, then_member, SuitsCounts, counts_conformant, SuitsText, SuitAll, no_element, then_element}
use Rattle.desk_kit.specs.ResponseParts.{EachSuits, with_items}
use Rattle.desk_kit.proofs.Suits.{plus_none, bytes_count, bytes_suit}
use Rattle.desk_kit.proofs.Parts.{uuid_suits}
use Rattle.tower_codec.specs.Towers.{tower_octets}
use Rattle.epm_manager.specs.declared.entry.Numbered.{Numbered}
use Rattle.epm_manager.specs.Entries.{is_note}
use Rattle.epm_manager.specs.Answered.{octets_value, tower_value, entry_value, tower_values, entry_values}
use Rattle.epm_manager.specs.Table.{epm_types}
use Rattle.epm_manager.proofs.Sound.{both, IsSound, AllSound, tower_fits}

-- ---- towers and notes

tower_suits : (call : Call) (room : ℕ) (body : Vals) (octets : List ℕ) (p q : Seen) → length octets ≡ 75 → IsOctets octets → Suits epm_types call room body None (named 2) (octets_value octets) p p q q
tower_suits call room body octets p q size fits =
    let few : length octets < 2 ^ 32 = omega arith in
    let vs : Vals = then_val (VUint (length octets)) (then_val (VArray (bytes octets)) no_val) in
    suits_name refl (suits_struct
    (then_member (suits_uint few)
    (then_member (suits_array (subst (λ (n : ℕ). SuitsCounts call vs (Conformant (Member 0 0)) n) (sym (bytes_count octets)) (counts_conformant few (ap Some (plus_none (length octets))))) (bytes_suit epm_types call room vs octets p q fits))
    no_member)))

not_true : (b : Bool) → not b ≡ true → b ≡ false
not_true true e = absurd (cc)
not_true false e = refl

note_suits : (note : List ℕ) → is_note note ≡ true → SuitsText (Some 64) note
note_suits note e =
    let parts = both (nat_le (length note) 63) (not (has_nul note)) e in
    let few : length note ≤ 63 = leb-true _ _ parts.0 in
    record {
      small = omega arith;
      room = λ m is. let at : 64 ≡ m = cc in omega arith;
      no_nul = not_true (has_nul note) parts.1;
    }

-- ---- entries, whose towers are the items of the heap from a number on

tower_is : (call : Call) (room : ℕ) (body : Vals) (e : Numbered) (q : Seen) → IsSound e.entry → Suits epm_types call room body None (named 2) (tower_value e.entry.tower) q q q q
tower_is call room body e q sound =
    let fits = tower_fits e.entry sound.typed in
    tower_suits call room body (tower_octets e.entry.tower) q q fits.long fits.octets

pub towers_suit : (call : Call) (room : ℕ) (body : Vals) (es : List Numbered) → AllSound es → EachSuits epm_types call room body (named 2) (tower_values es)
towers_suit call room body [] sound = tt
towers_suit call room body (e ∷ es) sound = (λ q. tower_is call room body e q sound.0, towers_suit call room body es sound.1)

entry_suits : (call : Call) (body : Vals) (e : Numbered) (n : ℕ) (p q : Seen) → length p.shapes ≡ n → nth call.said.heap n ≡ Some (tower_value e.entry.tower) → IsSound e.entry
    → Suits epm_types call 256 body None (named 3) (entry_value n e) p (with_item p (named 2)) q q
entry_suits call body e n p q at there sound =
    subst (λ (k : ℕ). Suits epm_types call 256 body None (named 3) (entry_value k e) p (with_item p (named 2)) q q) at
    (suits_name refl (suits_struct
    (then_member (uuid_suits epm_types call 256 _ e.entry.object p q refl sound.typed.object)
    (then_member (suits_new {room = 255} (ap (nth call.said.heap) at ∙ there) (tower_is call 255 _ e q sound))
    (then_member (suits_text (note_suits e.entry.note sound.note))
    no_member)))))

pub entries_suit : (call : Call) (body : Vals) (es : List Numbered) (n : ℕ) (p q : Seen) → length p.shapes ≡ n → ((i : ℕ) → nth call.said.heap (n + i) ≡ nth (tower_values es) i) → AllSound es
    → SuitAll epm_types call 256 body (named 3) (entry_values n es) p (with_items p (named 2) (length es)) q q
entries_suit call body [] n p q at there sound = no_element
entries_suit call body (e ∷ es) n p q at there sound =
    let none : n ≡ n + 0 = omega arith in
    let more : length (p.shapes ++ named 2 ∷ []) ≡ n + 1 = omega (arith, length-append p.shapes (named 2 ∷ []), at) in
    let shift : (i : ℕ) → n + 1 + i ≡ n + suc i = λ i. omega arith in
    then_element (entry_suits call body e n p q at (ap (nth call.said.heap) none ∙ there 0) sound.0)
    (entries_suit call body es (n + 1) (with_item p (named 2)) q more (λ i. ap (nth call.said.heap) (shift i) ∙ there (suc i)) sound.1)

-- ---- how many

pub count-tower_values : (es : List Numbered) → count_of (tower_values es) ≡ length es
count-tower_values [] = refl
count-tower_values (e ∷ es) = ap suc (count-tower_values es)

pub count-entry_values : (n : ℕ) (es : List Numbered) → count_of (entry_values n es) ≡ length es
count-entry_values n [] = refl
count-entry_values n (e ∷ es) = ap suc (count-entry_values (n + 1) es)

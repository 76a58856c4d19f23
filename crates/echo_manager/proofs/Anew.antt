-- Copies of values.
use Rattle.std.proofs.Common.{◌≡◌, ℕ, zero, suc, List, [], ◌∷◌, Option, Some, None, refl, ap, sym, ◌∙◌, Vec, Global, Bor}
use Rattle.std.specs.Prelude.{slice_get, MatchOption}
use Rattle.std.specs.Option.{option_copied}
use Rattle.ndr_value.specs.declared.value.Value.{Value}
use Rattle.ndr_value.specs.declared.value.Value.TheVariants as values
use Rattle.ndr_value.specs.Values.{Val, VByte, VStruct, VArray, val, vals, bytes, Vals, then_val}
use Rattle.ndr_value.proofs.Mirror.{val_struct, val_array}
use Rattle.ndr_model.specs.Named.{nth}
use Rattle.echo_manager.specs.Numbered.{numbered, all_numbered, then_item}

pub struct_numbered : (met : List ℕ) (v : Vec Value Global) → numbered met (val (values.Struct v)) ≡ VStruct (all_numbered met (vals v.items))
struct_numbered met v = ap (numbered met) (val_struct v)

pub array_numbered : (met : List ℕ) (v : Vec Value Global) → numbered met (val (values.Array v)) ≡ VArray (all_numbered met (vals v.items))
array_numbered met v = ap (numbered met) (val_array v)

pub bytes_numbered : (met octets : List ℕ) → all_numbered met (bytes octets) ≡ bytes octets
bytes_numbered met [] = refl
bytes_numbered met (n ∷ ns) = ap (then_val (VByte n)) (bytes_numbered met ns)

pub ruleset copies = (struct_numbered, array_numbered, bytes_numbered)

-- ---- the value at a place

pub nth_there : (vs : List Value) (n : ℕ) (v : Value) → slice_get vs n ≡ Some v → nth (vals vs) n ≡ Some (val v)
nth_there [] n v e = absurd (cc)
nth_there (w ∷ vs) zero v e = let same : w ≡ v = cc in ap (λ (x : Value). Some (val x)) same
nth_there (w ∷ vs) (suc n) v e = nth_there vs n v e

pub nth_none : (vs : List Value) (n : ℕ) → slice_get vs n ≡ None → nth (vals vs) n ≡ None
nth_none [] n e = refl
nth_none (w ∷ vs) zero e = absurd (cc)
nth_none (w ∷ vs) (suc n) e = nth_none vs n e

pub at_nth : (vs : List Value) (n : ℕ) (o : Option (Bor Value)) → option_copied o ≡ slice_get vs n → MatchOption o (nth (vals vs) n ≡ None) (λ v. nth (vals vs) n ≡ Some (val v.now))
at_nth vs n None e = nth_none vs n (sym e)
at_nth vs n (Some v) e = nth_there vs n v.now (sym e)

-- an item that is there, and one that isn't
pub item_some : (met : List ℕ) (o : Option Val) (v : Val) (rest : Vals) → o ≡ Some v → then_item met o rest ≡ then_val (numbered met v) rest
item_some met o v rest e = ap (λ (x : Option Val). then_item met x rest) e

pub item_none : (met : List ℕ) (o : Option Val) (rest : Vals) → o ≡ None → then_item met o rest ≡ rest
item_none met o rest e = ap (λ (x : Option Val). then_item met x rest) e

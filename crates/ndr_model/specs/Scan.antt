-- Where the flat part of a value ends, or the first departure in it.
use Rattle.std.specs.Prelude.{ℕ, zero, suc, List, [], ◌∷◌, ◌++◌, slice_get, Option, Some, None, Result, Ok, Err, if◌then◌else◌}
use Rattle.rpc_base.specs.declared.identifiers.Order.{Order}
use Rattle.ndr_value.specs.Forms.{Form, OfBool, OfByte, OfChar, OfInt, OfUint, OfEnum, OfNamed, OfStruct, OfUnion, OfArray, OfText, OfRef, OfUnique, OfFull, OfHandle, Forms, no_form, then_form, Body, empty, holds}
use Rattle.ndr_value.specs.Fits.{arm_of}
use Rattle.ndr_scalars.specs.Scalars.{up}
use Rattle.ndr_arrays.specs.Bind.{◌>>=◌}
use Rattle.ndr_model.specs.declared.departure.Departure.{Departure}
use Rattle.ndr_model.specs.declared.departure.Departure.TheVariants.{Tag, Pointer, TooDeep}
use Rattle.ndr_model.specs.Places.{Place, past, look}
use Rattle.ndr_model.specs.Same.{same}
use Rattle.ndr_model.specs.Part.{for_last, in_place, tag_size}
use Rattle.ndr_model.specs.Reading.{number, name_at, wire_at, chars_at, array_at, tag_at, struct_at}

abbrev pub Scanned : Type 0
Scanned = Result Place Departure

-- a pointer at index i that isn't null: its referent needs a level
abbrev pub level : {A : Type 0} → ℕ → ℕ → Result A Departure → Result A Departure
level zero i go = Err (TooDeep i)
level (suc room) i go = go

abbrev pub unique_by : ℕ → ℕ → Place → ℕ → Scanned
unique_by zero room p j = Ok (past p j)
unique_by (suc id) room p j = level room (up p.at 4) (Ok (past p j))

-- a full pointer that isn't null, by what is known of its id
abbrev pub full_scan : ℕ → ℕ → Form → Option (ℕ × Form) → Place → ℕ → Scanned
full_scan room id s None p j = level room (up p.at 4) (Ok (record { at = j; met = p.met ++ (id, s) ∷ []; wires = p.wires }))
full_scan room id s (Some m) p j = if same m.1 s then Ok (past p j) else Err (Pointer (up p.at 4))

abbrev pub full_by : ℕ → ℕ → Form → Place → ℕ → Scanned
full_by zero room s p j = Ok (past p j)
full_by (suc id) room s p j = full_scan room (suc id) s (look p.met (suc id)) p j

-- what a name stands for goes on; a name of nothing is no value
abbrev pub of_type : {A : Type 0} → Option Form → ℕ → (Form → Result A Departure) → Result A Departure
of_type None i go = Err (TooDeep i)
of_type (Some s) i go = go s

-- the arm that a tag at index i selects
abbrev pub arm_scan : Option Body → ℕ → Place → (Form → Place → Scanned) → Scanned
arm_scan None i p go = Err (Tag i)
arm_scan (Some empty) i p go = Ok p
arm_scan (Some (holds s)) i p go = go s p

abbrev pub each : (Option ℕ → Form → Place → Scanned) → Option ℕ → Forms → Place → Scanned
each go own no_form p = Ok p
each go own (then_form s ss) p = go (for_last ss own) s p >>= λ h. each go own ss h

abbrev pub times : (Place → Scanned) → ℕ → Place → Scanned
times go zero p = Ok p
times go (suc n) p = go p >>= λ h. times go n h

module _ (types : List Form) (order : Order) (octets : List ℕ) where
  abbrev pub past_number : ℕ → Place → Scanned
  past_number size p = number order octets size p.at >>= λ x. Ok (past p x.1)

  -- one step, where go does the parts
  abbrev pub scan_at : ℕ → Option ℕ → (Option ℕ → Form → Place → Scanned) → Form → Place → Scanned
  scan_at room moved go OfBool p = past_number 1 p
  scan_at room moved go OfByte p = past_number 1 p
  scan_at room moved go OfChar p = past_number 1 p
  scan_at room moved go (OfInt size) p = past_number size p
  scan_at room moved go (OfUint size) p = past_number size p
  scan_at room moved go (OfEnum count) p = name_at order octets count p.at >>= λ x. Ok (past p x.1)
  scan_at room moved go (OfHandle kind) p = wire_at order octets p.at >>= λ x. Ok (record { at = x.1; met = p.met; wires = p.wires ++ x.0 ∷ [] })
  scan_at room moved go (OfText size) p = chars_at order octets size moved p.at >>= λ x. Ok (past p x.1)
  scan_at room moved go (OfNamed c switch) p = of_type (slice_get types c) p.at (λ s. go moved s p)
  scan_at room moved go (OfStruct ss) p = struct_at order octets types ss moved p.at >>= λ x. each go x.0 ss (past p x.1)
  scan_at room moved go (OfUnion t arms) p = tag_at order octets t arms (in_place types (OfUnion t arms) p.at)
      >>= λ x. arm_scan (arm_of (OfUnion t arms) x.0) (up (in_place types (OfUnion t arms) p.at) (tag_size t)) (past p x.1) (go None)
  scan_at room moved go (OfArray kind s) p = array_at order octets kind moved p.at >>= λ x. times (go None s) x.0.actual (past p x.1)
  scan_at room moved go (OfRef s) p = number order octets 4 p.at >>= λ x. level room (up p.at 4) (Ok (past p x.1))
  scan_at room moved go (OfUnique s) p = number order octets 4 p.at >>= λ x. unique_by x.0 room p x.1
  scan_at room moved go (OfFull s) p = number order octets 4 p.at >>= λ x. full_by x.0 room s p x.1

  -- at most n constructs deep
  unfoldable pub scan : ℕ → ℕ → Option ℕ → Form → Place → Scanned
  scan zero room moved s p = Err (TooDeep p.at)
  scan (suc n) room moved s p = scan_at room moved (scan n room) s p

-- The value whose flat part stands at one place, and whose referents stand at another. Beside the flat index stand only how many ids
-- of full pointers and how many handles were met before it: what was met stands at the other place.
use Rattle.std.specs.Prelude.{ℕ, zero, suc, ◌+◌, ◌-◌, ℤ, Bool, true, false, not, ◌==◌, List, [], ◌∷◌, length, slice_get, Option, Some, None, Result, Ok, Err, nat_lt, if◌then◌else◌}
use Rattle.rpc_base.specs.declared.identifiers.Order.{Order}
use Rattle.ndr_value.specs.Forms.{Form, OfBool, OfByte, OfChar, OfInt, OfUint, OfEnum, OfNamed, OfStruct, OfUnion, OfArray, OfText, OfRef, OfUnique, OfFull, OfHandle, Forms, no_form, then_form, Body, empty, holds}
use Rattle.ndr_value.specs.Fits.{arm_of}
use Rattle.ndr_value.specs.Values.{Val, VBool, VByte, VChar, VInt, VUint, VEnum, VStruct, VEmpty, VUnion, VArray, VText, VNull, VPtr, VFull, VHandle, Vals, no_val, then_val}
use Rattle.ndr_scalars.specs.Scalars.{up, signed}
use Rattle.ndr_arrays.specs.Bind.{◌>>=◌}
use Rattle.ndr_model.specs.declared.departure.Departure.{Departure}
use Rattle.ndr_model.specs.declared.departure.Departure.TheVariants.{Tag, Pointer, TooDeep, Trailing}
use Rattle.ndr_model.specs.declared.mark.Mark.TheVariants.{Referent}
use Rattle.ndr_model.specs.Places.{Place, Last, onto, noting, keeping, look}
use Rattle.ndr_model.specs.Part.{for_last, in_place, tag_size, opened_marks, count_marks, tag_marks}
use Rattle.ndr_model.specs.Stub.{Entry, range_marks, start}
use Rattle.ndr_model.specs.Reading.{number, name_at, wire_at, chars_at, array_at, tag_at, struct_at}
use Rattle.ndr_model.specs.Scan.{Scanned, of_type, scan}

-- an index, and how many ids and handles were met before it
pub record Cursor : Type 0 where
  pub at : ℕ
  pub ids : ℕ
  pub handles : ℕ

-- the same behind more octets
abbrev pub ahead : Cursor → ℕ → Cursor
ahead a i = record { at = i; ids = a.ids; handles = a.handles }

abbrev pub cursor : Place → Cursor
cursor p = record { at = p.at; ids = length p.met; handles = length p.wires }

-- behind a value: where its flat part ends, and where referents go on
pub record PartEnds : Type 0 where
  pub flat : Cursor
  pub all : Last

abbrev pub ends : Cursor → Last → PartEnds
ends a q = record { flat = a; all = q }

abbrev pub Built : Type 0
Built = Result (Val × PartEnds) Departure

abbrev pub Found : Type 0
Found = Result (Val × Last) Departure

-- a value with its own referents: its flat part is followed by them
abbrev pub whole_by : (Option ℕ → Form → Place → Scanned) → (Option ℕ → Form → Cursor → Last → Built) → Form → Last → Found
whole_by sc bu s q = sc None s q.here >>= λ h. bu None s (cursor q.here) (onto h q) >>= λ x. Ok (x.0, x.1.all)

-- what the pointer at index i points to
abbrev pub referent : (ℕ → Option ℕ → Form → Place → Scanned) → (ℕ → Option ℕ → Form → Cursor → Last → Built) → ℕ → ℕ → Form → Last → Found
referent sc bu zero i s q = Err (TooDeep i)
referent sc bu (suc room) i s q = whole_by (sc room) (bu room) s q

abbrev pub behind_ref : Cursor → Found → Built
behind_ref a found = found >>= λ x. Ok (x.0, ends a x.1)

abbrev pub behind_unique : ℕ → Cursor → Last → Found → Built
behind_unique zero a q found = Ok (VNull, ends a q)
behind_unique (suc id) a q found = found >>= λ x. Ok (VPtr x.0, ends a x.1)

-- the pointer that brought its id is the one whose number is the count of those before it
abbrev pub behind_known : ℕ → Bool → Cursor → Last → Found → Built
behind_known n true a q found = found >>= λ x. Ok (VFull (Some n), ends (record { at = a.at; ids = suc a.ids; handles = a.handles }) (keeping n x.0 x.1))
behind_known n false a q found = Ok (VFull (Some n), ends a (noting (Referent false ∷ []) q))

abbrev pub behind_met : ℕ → Option (ℕ × Form) → Cursor → Last → Found → Built
behind_met i None a q found = Err (Pointer i)
behind_met i (Some m) a q found = behind_known m.0 (m.0 == a.ids) a q found

abbrev pub behind_full : ℕ → ℕ → Cursor → Last → Found → Built
behind_full zero i a q found = Ok (VFull None, ends a q)
behind_full (suc id) i a q found = behind_met i (look q.here.met (suc id)) a q found

abbrev pub Row : Type 0
Row = Result (Vals × PartEnds) Departure

abbrev pub built_each : (Option ℕ → Form → Cursor → Last → Built) → Option ℕ → Forms → Cursor → Last → Row
built_each go own no_form a q = Ok (no_val, ends a q)
built_each go own (then_form s ss) a q = go (for_last ss own) s a q >>= λ x. built_each go own ss x.1.flat x.1.all >>= λ y. Ok (then_val x.0 y.0, y.1)

abbrev pub built_times : (Cursor → Last → Built) → ℕ → Cursor → Last → Row
built_times go zero a q = Ok (no_val, ends a q)
built_times go (suc n) a q = go a q >>= λ x. built_times go n x.1.flat x.1.all >>= λ y. Ok (then_val x.0 y.0, y.1)

abbrev pub in_struct : Row → Built
in_struct row = row >>= λ x. Ok (VStruct x.0, x.1)

abbrev pub in_array : Row → Built
in_array row = row >>= λ x. Ok (VArray x.0, x.1)

-- the arm that a tag at index i selects
abbrev pub built_arm : Option Body → ℕ → ℤ → Cursor → Last → (Form → Cursor → Last → Built) → Built
built_arm None i tag a q go = Err (Tag i)
built_arm (Some empty) i tag a q go = Ok (VEmpty tag, ends a q)
built_arm (Some (holds s)) i tag a q go = go s a q >>= λ x. Ok (VUnion tag x.0, x.1)

module _ (types : List Form) (order : Order) (octets : List ℕ) where
  abbrev pub built_number : ℕ → (ℕ → Val) → Cursor → Last → Built
  built_number size shown a q = number order octets size a.at >>= λ x. Ok (shown x.0, ends (ahead a x.1) q)

  -- one step, where sc and bu do the parts
  abbrev pub build_at : (ℕ → Option ℕ → Form → Place → Scanned) → (ℕ → Option ℕ → Form → Cursor → Last → Built) → ℕ → Option ℕ → Form → Cursor → Last → Built
  build_at sc bu room moved OfBool a q = built_number 1 (λ n. VBool (not (n == 0))) a q
  build_at sc bu room moved OfByte a q = built_number 1 VByte a q
  build_at sc bu room moved OfChar a q = built_number 1 VChar a q
  build_at sc bu room moved (OfInt size) a q = built_number size (λ n. VInt (signed size n)) a q
  build_at sc bu room moved (OfUint size) a q = built_number size VUint a q
  build_at sc bu room moved (OfEnum count) a q = name_at order octets count a.at >>= λ x. Ok (VEnum x.0, ends (ahead a x.1) q)
  build_at sc bu room moved (OfHandle kind) a q = wire_at order octets a.at >>= λ x. Ok (VHandle a.handles, ends (record { at = x.1; ids = a.ids; handles = suc a.handles }) q)
  build_at sc bu room moved (OfText size) a q = chars_at order octets size moved a.at >>= λ x. Ok (VText x.0, ends (ahead a x.1) q)
  build_at sc bu room moved (OfNamed c switch) a q = of_type (slice_get types c) a.at (λ s. bu room moved s a q)
  build_at sc bu room moved (OfStruct ss) a q = struct_at order octets types ss moved a.at >>= λ x. in_struct (built_each (bu room) x.0 ss (ahead a x.1) (noting (opened_marks moved x.0 a.at) q))
  build_at sc bu room moved (OfUnion t arms) a q = tag_at order octets t arms (in_place types (OfUnion t arms) a.at)
      >>= λ x. built_arm (arm_of (OfUnion t arms) x.0) (up (in_place types (OfUnion t arms) a.at) (tag_size t)) x.0 (ahead a x.1) (noting (tag_marks types t (OfUnion t arms) x.0 a.at) q) (bu room None)
  build_at sc bu room moved (OfArray kind s) a q = array_at order octets kind moved a.at >>= λ x. in_array (built_times (bu room None s) x.0.actual (ahead a x.1) (noting (count_marks kind moved x.0 a.at x.1) q))
  build_at sc bu room moved (OfRef s) a q = number order octets 4 a.at >>= λ x. behind_ref (ahead a x.1) (referent sc bu room (up a.at 4) s q)
  build_at sc bu room moved (OfUnique s) a q = number order octets 4 a.at >>= λ x. behind_unique x.0 (ahead a x.1) q (referent sc bu room (up a.at 4) s q)
  build_at sc bu room moved (OfFull s) a q = number order octets 4 a.at >>= λ x. behind_full x.0 (up a.at 4) (ahead a x.1) q (referent sc bu room (up a.at 4) s (noting (Referent true ∷ []) q))

  -- at most n constructs deep
  unfoldable pub build : ℕ → ℕ → Option ℕ → Form → Cursor → Last → Built
  build zero room moved s a q = Err (TooDeep a.at)
  build (suc n) room moved s a q = build_at (scan types order octets n) (build n) room moved s a q

  -- a value and its referents, where they begin
  abbrev pub whole : ℕ → ℕ → Form → Last → Found
  whole n room s q = whole_by (scan types order octets n room) (build n room) s q

  -- the parameters in order, with the first departure
  abbrev pub follows : ℕ → List Entry → Last → Result (Vals × Last) Departure
  follows n [] q = Ok (no_val, q)
  follows n (e ∷ es) q = whole n 256 e.shape q >>= λ x. follows n es (noting (range_marks e q.here.at) x.1) >>= λ y. Ok (then_val x.0 y.0, y.1)

  -- at most seven octets behind them
  abbrev pub no_more : Vals × Last → Result (Vals × Last) Departure
  no_more x = if nat_lt (x.1.here.at + 7) (length octets) then Err (Trailing (length octets - x.1.here.at)) else Ok x

  unfoldable pub read_values : ℕ → List Entry → Result (Vals × Last) Departure
  read_values fuel es = follows fuel es start >>= λ x. no_more x

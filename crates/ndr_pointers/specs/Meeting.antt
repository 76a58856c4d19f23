-- What a pointer is that is met with that id: null, one whose referent follows, or one whose referent was met.
use Rattle.std.specs.Prelude.{◌≡◌, ℕ, ◌==◌, [], ◌∷◌, ◌++◌, length, Bool, false, Option, Some, None, Result, Ok, Err, if◌then◌else◌}
use Rattle.ndr_value.specs.Forms.{Form}
use Rattle.ndr_model.specs.Same.{same}
use Rattle.ndr_model.specs.Places.{look}
use Rattle.ndr_pointers.specs.declared.fault.PointerFault.{PointerFault}
use Rattle.ndr_pointers.specs.declared.fault.PointerFault.TheVariants.{AliasShape, TooDeep, Memory}
use Rattle.ndr_pointers.specs.declared.referents.Points.{Points}
use Rattle.ndr_pointers.specs.declared.referents.Points.TheVariants.{Ref, Unique, Full}
use Rattle.ndr_pointers.specs.declared.referents.Met.{Met}
use Rattle.ndr_pointers.specs.declared.referents.Met.TheVariants.{Null, New, Again}
use Rattle.ndr_pointers.specs.Known.{Known, known_with}

-- what the pointer is, and what is known then
abbrev pub Meets : Type 0
Meets = Result (Met × Known) PointerFault

-- the pointer at an index stands at a level below 256
abbrev pub below : ℕ → ℕ → Known → Known → Meets
below level at k new = if level == 256 then Err (TooDeep at) else Ok (New (length k.met), new)

-- a full pointer that isn't null, by what is known of its id
abbrev pub full_meeting : ℕ → Form → ℕ → ℕ → Known → Option (ℕ × Form) → Meets
full_meeting id s level at k None = below level at k (known_with k (k.met ++ (id, s) ∷ []))
full_meeting id s level at k (Some m) = if same m.1 s then Ok (Again m.0, k) else Err (AliasShape at)

abbrev pub pointer_meeting : Points → ℕ → Form → ℕ → ℕ → Known → Meets
pointer_meeting Ref id s level at k = below level at k k
pointer_meeting Unique id s level at k = below level at k k
pointer_meeting Full id s level at k = full_meeting id s level at k (look k.met id)

abbrev pub may_be_null : Points → ℕ → Bool
may_be_null Ref id = false
may_be_null Unique id = id == 0
may_be_null Full id = id == 0

-- a reference is never null, whatever its id
abbrev pub meeting : Points → ℕ → Form → ℕ → ℕ → Known → Meets
meeting points id s level at k = if may_be_null points id then Ok (Null, k) else pointer_meeting points id s level at k

-- what was answered, unless memory ran out
abbrev pub Answers : Result Met PointerFault → Known → Meets → Type 0
Answers (Ok m) new met = met ≡ Ok (m, new)
Answers (Err Memory) new met = Unit {0}
Answers (Err e) new met = met ≡ Err e

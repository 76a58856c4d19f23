-- Which line begins a text: octet for octet, its numbers in their ranges, and what follows it.
use Rattle.std.specs.Prelude.{◌≡◌, ℕ, List, ◌++◌}
use Rattle.handle_model.specs.declared.entry.Home.{Home}
use Rattle.handle_model.specs.declared.entry.Entry.{Entry}
use Rattle.handle_model.specs.declared.base.BaseCall.{BaseCall}
use Rattle.handle_model.specs.declared.base.Base.{Base}
use Rattle.journal_text.specs.Texts.{group_text, entry_text, base_text, base_call_text}
use Rattle.journal_reader.specs.Fits.{FitsHome, FitsBase, FitsCall, FitsEntry}

-- the heading of a journal
abbrev pub BeginsWithGroup : Home → List ℕ → List ℕ → Type 0
BeginsWithGroup home rest text = FitsHome home × (text ≡ group_text home ++ rest)

abbrev pub BeginsWithNoGroup : List ℕ → Type 0
BeginsWithNoGroup text = (home : Home) (rest : List ℕ) → FitsHome home → text ≡ group_text home ++ rest → ⊥

-- a base, but for its calls
abbrev pub BeginsWithBase : Base → List ℕ → List ℕ → Type 0
BeginsWithBase base rest text = FitsBase base × (text ≡ base_text base ++ rest)

abbrev pub BeginsWithNoBase : List ℕ → Type 0
BeginsWithNoBase text = (base : Base) (rest : List ℕ) → FitsBase base → text ≡ base_text base ++ rest → ⊥

-- a call of a base
abbrev pub BeginsWithCall : BaseCall → List ℕ → List ℕ → Type 0
BeginsWithCall call rest text = FitsCall call × (text ≡ base_call_text call ++ rest)

abbrev pub BeginsWithNoCall : List ℕ → Type 0
BeginsWithNoCall text = (call : BaseCall) (rest : List ℕ) → FitsCall call → text ≡ base_call_text call ++ rest → ⊥

-- an entry
abbrev pub BeginsWithEntry : Entry → List ℕ → List ℕ → Type 0
BeginsWithEntry entry rest text = FitsEntry entry × (text ≡ entry_text entry ++ rest)

abbrev pub BeginsWithNoEntry : List ℕ → Type 0
BeginsWithNoEntry text = (entry : Entry) (rest : List ℕ) → FitsEntry entry → text ≡ entry_text entry ++ rest → ⊥

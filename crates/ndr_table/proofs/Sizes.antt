-- Alignments are 1, 2, 4 or 8.
use Rattle.std.proofs.Common.{◌≡◌, ℕ, zero, suc, List, [], ◌∷◌, ◌++◌, refl, ap, ◌∙◌, arith, Bool, true, false, inl, inr}
use Rattle.std.specs.Prelude.{max, ◌==◌, slice_get, unwrap_or, if◌then◌else◌}
use Rattle.std.proofs.lemmas.Bool.{cases_lt}
use Rattle.ndr_value.specs.declared.shape.ArrayKind.{ArrayKind}
use Rattle.ndr_value.specs.declared.shape.ArrayKind.TheVariants.{Fixed, Varying, Conformant, ConformantVarying}
use Rattle.ndr_value.specs.Forms.{Form, OfBool, OfByte, OfChar, OfInt, OfUint, OfEnum, OfNamed, OfStruct, OfUnion, OfArray, OfText, OfRef, OfUnique, OfFull, OfHandle, Forms, no_form, then_form, Body, empty, holds, ArmForms, no_arm, then_arm}
use Rattle.ndr_table.specs.Aligned.{counts_align, is_last, aligned, members_align, arms_align, body_align, align_of, aligns_past, alignments}
use Rattle.ndr_table.specs.Ordered.{is_size}

size_max : (a b : ℕ) → is_size a ≡ true → is_size b ≡ true → is_size (max a b) ≡ true
size_max a b p q = elim (cases_lt a b) [
  | inl lt ↦ let e : max a b ≡ b = omega (arith, lt) in ap is_size e ∙ q
  | inr le ↦ let e : max a b ≡ a = omega (arith, le) in ap is_size e ∙ p
]

octets_cases : (a b c : Bool) → is_size (if a then 1 else (if b then 2 else (if c then 4 else 8))) ≡ true
octets_cases true b c = refl
octets_cases false true c = refl
octets_cases false false true = refl
octets_cases false false false = refl

counts_size : (ends : Bool) (kind : ArrayKind) → is_size (counts_align ends kind) ≡ true
counts_size ends (Fixed n) = refl
counts_size true (Conformant c) = refl
counts_size false (Conformant c) = refl
counts_size ends (Varying n c) = refl
counts_size ends (ConformantVarying c d) = refl

-- each of a list of alignments, and 1 where there is none
abbrev AllSizes : List ℕ → Type 0
AllSizes aligns = (k : ℕ) → is_size (unwrap_or (slice_get aligns k) 1) ≡ true

mutual
  aligned_size : (aligns : List ℕ) → AllSizes aligns → (ends : Bool) (s : Form) → is_size (aligned aligns ends s) ≡ true
  aligned_size aligns ok ends OfBool = refl
  aligned_size aligns ok ends OfByte = refl
  aligned_size aligns ok ends OfChar = refl
  aligned_size aligns ok ends (OfInt size) = octets_cases (size == 1) (size == 2) (size == 4)
  aligned_size aligns ok ends (OfUint size) = octets_cases (size == 1) (size == 2) (size == 4)
  aligned_size aligns ok ends (OfEnum count) = refl
  aligned_size aligns ok ends (OfNamed number switch) = ok number
  aligned_size aligns ok ends (OfStruct ss) = members_size aligns ok ss
  aligned_size aligns ok ends (OfUnion tag arms) = size_max (aligned aligns false tag) (arms_align aligns arms) (aligned_size aligns ok false tag) (arms_size aligns ok arms)
  aligned_size aligns ok ends (OfArray kind s) = size_max (counts_align ends kind) (aligned aligns false s) (counts_size ends kind) (aligned_size aligns ok false s)
  aligned_size aligns ok ends (OfText most) = refl
  aligned_size aligns ok ends (OfRef s) = refl
  aligned_size aligns ok ends (OfUnique s) = refl
  aligned_size aligns ok ends (OfFull s) = refl
  aligned_size aligns ok ends (OfHandle kind) = refl

  members_size : (aligns : List ℕ) → AllSizes aligns → (ss : Forms) → is_size (members_align aligns ss) ≡ true
  members_size aligns ok no_form = refl
  members_size aligns ok (then_form s ss) = size_max (aligned aligns (is_last ss) s) (members_align aligns ss) (aligned_size aligns ok (is_last ss) s) (members_size aligns ok ss)

  arms_size : (aligns : List ℕ) → AllSizes aligns → (as' : ArmForms) → is_size (arms_align aligns as') ≡ true
  arms_size aligns ok no_arm = refl
  arms_size aligns ok (then_arm cases default b rest) = size_max (body_align aligns b) (arms_align aligns rest) (body_size aligns ok b) (arms_size aligns ok rest)

  body_size : (aligns : List ℕ) → AllSizes aligns → (b : Body) → is_size (body_align aligns b) ≡ true
  body_size aligns ok empty = refl
  body_size aligns ok (holds s) = aligned_size aligns ok false s

none_yet : AllSizes []
none_yet k = refl

one_more : (xs : List ℕ) (a : ℕ) → AllSizes xs → is_size a ≡ true → AllSizes (xs ++ a ∷ [])
one_more [] a ok is zero = is
one_more [] a ok is (suc k) = refl
one_more (x ∷ xs) a ok is zero = ok zero
one_more (x ∷ xs) a ok is (suc k) = one_more xs a (λ j. ok (suc j)) is k

past_sizes : (xs : List ℕ) (ss : List Form) → AllSizes xs → AllSizes (aligns_past xs ss)
past_sizes xs [] ok = ok
past_sizes xs (s ∷ ss) ok = past_sizes (xs ++ align_of xs s ∷ []) ss (one_more xs (align_of xs s) ok (aligned_size xs ok false s))

pub alignments_size : (types : List Form) (s : Form) → is_size (align_of (alignments types) s) ≡ true
alignments_size types s = aligned_size (alignments types) (past_sizes [] types none_yet) false s

pub is_alignment : (types : List Form) (s : Form) (aligns : List ℕ) (r : ℕ) → aligns ≡ alignments types → r ≡ align_of aligns s → is_size r ≡ true
is_alignment types s aligns r e f = ap is_size (f ∙ ap (λ (xs : List ℕ). align_of xs s) e) ∙ alignments_size types s

pub ruleset sizes = (is_alignment)

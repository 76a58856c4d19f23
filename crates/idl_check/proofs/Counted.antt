-- What stands behind so many others, in two lists one behind the other.
use Rattle.std.proofs.Common.{◌≡◌, ℕ, ◌+◌, ◌<◌, List, [], ◌∷◌, ◌++◌, length, drop, get_or, slice_get, Some, Ok, Err, refl, ap, sym, ◌∙◌, arith, suc, zero}
use Rattle.std.specs.List.{filter}
use Rattle.std.proofs.lemmas.List.Elements.{filter-append}
use Rattle.idl_outline.specs.declared.field.Declared.{Declared}
use Rattle.idl_outline.specs.declared.field.Field.{Field}
use Rattle.idl_rules.specs.Least.{least}
use Rattle.idl_rules.specs.TooManyHandles.{Behind, place_if, is_handle, declared_of, handles}
use Rattle.idl_rules.proofs.Leasts.{drop_item}

behind_ok : (ds es : List Declared) (left at : ℕ) → Behind ds left (Ok at) → place_if (slice_get (ds ++ es) left) ≡ at ∷ []
behind_ok [] es left at h = absurd (cc)
behind_ok (d ∷ ds) es zero at h = h
behind_ok (d ∷ ds) es (suc left) at h = behind_ok ds es left at h

behind_err : (ds es : List Declared) (left more : ℕ) → Behind ds left (Err more) → slice_get (ds ++ es) left ≡ slice_get es more
behind_err [] es left more h = let e : left ≡ more = omega arith in ap (slice_get es) e
behind_err (d ∷ ds) es zero more h = absurd (omega arith)
behind_err (d ∷ ds) es (suc left) more h = behind_err ds es left more (omega arith)

-- the list of all fields is what each of them has
abbrev Joins : (Field → List Declared) → (List Field → List Declared) → Type 0
Joins part whole = (f : Field) (fs : List Field) → whole (f ∷ fs) ≡ part f ++ whole fs

at_field : (part : Field → List Declared) (whole : List Field → List Declared) → Joins part whole → (fs : List Field) (i : ℕ) (f : Field) → i < length fs → f ≡ get_or fs i f
    → whole (drop i fs) ≡ part f ++ whole (drop (i + 1) fs)
at_field part whole joins fs i f h e = ap whole (drop_item fs i f h e) ∙ joins f (drop (i + 1) fs)

found : (part : Field → List Declared) (whole : List Field → List Declared) → Joins part whole → (fs : List Field) (i : ℕ) (f : Field) (left at : ℕ) (all : List ℕ) → i < length fs → f ≡ get_or fs i f
    → place_if (slice_get (whole (drop i fs)) left) ≡ all → Behind (part f) left (Ok at) → Some at ≡ least all
found part whole joins fs i f left at all h e inv b =
    sym (ap least (sym inv ∙ (ap (λ ds. place_if (slice_get ds left)) (at_field part whole joins fs i f h e) ∙ behind_ok (part f) (whole (drop (i + 1) fs)) left at b)))

passed : (part : Field → List Declared) (whole : List Field → List Declared) → Joins part whole → (fs : List Field) (i : ℕ) (f : Field) (left more : ℕ) (all : List ℕ) → i < length fs → f ≡ get_or fs i f
    → place_if (slice_get (whole (drop i fs)) left) ≡ all → Behind (part f) left (Err more) → place_if (slice_get (whole (drop (i + 1) fs)) more) ≡ all
passed part whole joins fs i f left more all h e inv b =
    ap place_if (sym (behind_err (part f) (whole (drop (i + 1) fs)) left more b)) ∙ (ap (λ ds. place_if (slice_get ds left)) (sym (at_field part whole joins fs i f h e)) ∙ inv)

abbrev declared_in : Field → List Declared
declared_in f = f.declared

abbrev handles_in : Field → List Declared
handles_in f = filter is_handle f.declared

declared_join : Joins declared_in declared_of
declared_join f fs = refl

handles_join : Joins handles_in handles
handles_join f fs = filter-append is_handle f.declared (declared_of fs)

pub declared_found : (fs : List Field) (i : ℕ) (f : Field) (left at : ℕ) (all : List ℕ) → i < length fs → f ≡ get_or fs i f → place_if (slice_get (declared_of (drop i fs)) left) ≡ all → Behind f.declared left (Ok at) → Some at ≡ least all
declared_found = found declared_in declared_of declared_join

pub declared_passed : (fs : List Field) (i : ℕ) (f : Field) (left more : ℕ) (all : List ℕ) → i < length fs → f ≡ get_or fs i f → place_if (slice_get (declared_of (drop i fs)) left) ≡ all → Behind f.declared left (Err more) → place_if (slice_get (declared_of (drop (i + 1) fs)) more) ≡ all
declared_passed = passed declared_in declared_of declared_join

pub handles_found : (fs : List Field) (i : ℕ) (f : Field) (left at : ℕ) (all : List ℕ) → i < length fs → f ≡ get_or fs i f → place_if (slice_get (handles (drop i fs)) left) ≡ all → Behind (handles_in f) left (Ok at) → Some at ≡ least all
handles_found = found handles_in handles handles_join

pub handles_passed : (fs : List Field) (i : ℕ) (f : Field) (left more : ℕ) (all : List ℕ) → i < length fs → f ≡ get_or fs i f → place_if (slice_get (handles (drop i fs)) left) ≡ all → Behind (handles_in f) left (Err more) → place_if (slice_get (handles (drop (i + 1) fs)) more) ≡ all
handles_passed = passed handles_in handles handles_join

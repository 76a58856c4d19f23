-- Labels and attributes are the same where their keys are.
use Rattle.std.specs.Prelude.{◌≡◌, ◌==◌, ℕ, ℤ, pos, negsuc, Some, None}
use Rattle.std.specs.Ordering.{int_eq}
use Rattle.std.specs.Cmp.{both_ways}
use Rattle.std.proofs.Common.{refl, ap}
use Rattle.std.proofs.lemmas.Bool.Decides.{Decides-eqb, Decides-int_eq}
use Rattle.idl_forms.specs.Forms.{FileForm}
use Rattle.idl_outline.specs.declared.event.Label.{Label}
use Rattle.idl_outline.specs.declared.event.Label.TheVariants as labels
use Rattle.idl_outline.specs.declared.field.Attribute.{Attribute}
use Rattle.idl_rules.specs.UnionTag.{same_label}
use Rattle.idl_rules.specs.BadAttribute.{kind_of, same_kind, file_kind, same_file_kind}
use Rattle.idl_rules.specs.Key.{same_key}
use Rattle.idl_rules.specs.Keys.{label_key, attribute_key, file_key}

pub labels_by_key : (a b : Label) → same_label a b ≡ same_key (label_key a) (label_key b)
labels_by_key (labels.Case at None) (labels.Case other None) = refl
labels_by_key (labels.Case at None) (labels.Case other (Some m)) = refl
labels_by_key (labels.Case at (Some n)) (labels.Case other None) = refl
labels_by_key (labels.Case at (Some n)) (labels.Case other (Some m)) = refl
labels_by_key (labels.Case at None) (labels.Default other) = refl
labels_by_key (labels.Case at (Some n)) (labels.Default other) = refl
labels_by_key (labels.Default at) (labels.Case other None) = refl
labels_by_key (labels.Default at) (labels.Case other (Some m)) = refl
labels_by_key (labels.Default at) (labels.Default other) = refl

size : ℤ → ℕ
size (pos n) = n
size (negsuc n) = n

same_number : (m n : ℕ) → (m == n) ≡ int_eq (pos m) (pos n)
unfolding size
same_number m n =
    both_ways (m == n) (int_eq (pos m) (pos n))
    (λ e. (Decides-int_eq (pos m) (pos n)).1 (ap pos ((Decides-eqb m n).0 e)))
    (λ e. (Decides-eqb m n).1 (ap size ((Decides-int_eq (pos m) (pos n)).0 e)))

pub attributes_by_key : (a b : Attribute) → same_kind a b ≡ same_key (attribute_key a) (attribute_key b)
attributes_by_key a b = same_number (kind_of a.mark) (kind_of b.mark)

pub files_by_key : (a b : FileForm) → same_file_kind a b ≡ same_key (file_key a) (file_key b)
files_by_key a b = same_number (file_kind a.what) (file_kind b.what)

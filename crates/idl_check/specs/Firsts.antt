-- The first breach of each rule, and the first of these.
use Rattle.std.specs.Prelude.{◌≡◌, ◌⊎◌, ℕ, ◌<◌, ◌≤◌, List, Option, Some, None}
use Rattle.idl_tree.specs.declared.declaration.Ast.{Ast}
use Rattle.idl_forms.specs.Forms.{TreeForm}
use Rattle.idl_outline.specs.declared.event.Event.{Event}
use Rattle.idl_rules.specs.Places.{gathered}
use Rattle.idl_rules.specs.Least.{least, lesser}
use Rattle.idl_rules.specs.Unknown.{unknown}
use Rattle.idl_rules.specs.Duplicate.{duplicate}
use Rattle.idl_rules.specs.BadAttribute.{bad_attribute, bad_file}
use Rattle.idl_rules.specs.SizeName.{size_name}
use Rattle.idl_rules.specs.HandleUse.{handle_use}
use Rattle.idl_rules.specs.TooManyHandles.{too_many_handles}
use Rattle.idl_rules.specs.Recursion.{recursion}
use Rattle.idl_rules.specs.UnionTag.{union_tag}
use Rattle.idl_rules.specs.OutsideProfile.{outside_profile}
use Rattle.idl_rules.specs.Broken.{places, IsLeastBreach}
use Rattle.idl_check.specs.declared.firsts.Firsts.{Firsts}
use Rattle.idl_check.specs.declared.firsts.Breach.{Breach}
use Rattle.idl_check.specs.declared.fault.CheckFault.{CheckFault}
use Rattle.idl_check.specs.declared.fault.CheckFault.TheVariants as faults

abbrev pub no_breach : Firsts
no_breach = record { unknown = None; duplicate = None; bad_attribute = None; size_name = None; handle_use = None; too_many_handles = None; recursion = None; union_tag = None; outside_profile = None }

abbrev pub lesser_of : Firsts → Firsts → Firsts
lesser_of a b = record {
  unknown = lesser a.unknown b.unknown;
  duplicate = lesser a.duplicate b.duplicate;
  bad_attribute = lesser a.bad_attribute b.bad_attribute;
  size_name = lesser a.size_name b.size_name;
  handle_use = lesser a.handle_use b.handle_use;
  too_many_handles = lesser a.too_many_handles b.too_many_handles;
  recursion = lesser a.recursion b.recursion;
  union_tag = lesser a.union_tag b.union_tag;
  outside_profile = lesser a.outside_profile b.outside_profile;
}

-- those of one event
abbrev pub firsts_at : List Event → Event → Firsts
firsts_at past e = record {
  unknown = least (unknown past e);
  duplicate = least (duplicate past e);
  bad_attribute = least (bad_attribute past e);
  size_name = least (size_name past e);
  handle_use = least (handle_use past e);
  too_many_handles = least (too_many_handles past e);
  recursion = least (recursion past e);
  union_tag = least (union_tag past e);
  outside_profile = least (outside_profile past e);
}

-- those of all events
abbrev pub firsts_of : List Event → Firsts
firsts_of past = record {
  unknown = least (gathered unknown past);
  duplicate = least (gathered duplicate past);
  bad_attribute = least (gathered bad_attribute past);
  size_name = least (gathered size_name past);
  handle_use = least (gathered handle_use past);
  too_many_handles = least (gathered too_many_handles past);
  recursion = least (gathered recursion past);
  union_tag = least (gathered union_tag past);
  outside_profile = least (gathered outside_profile past);
}

-- those of the interface's own attributes
abbrev pub firsts_of_file : TreeForm → Firsts
firsts_of_file tree = record no_breach { bad_attribute = least (bad_file tree) }

-- the least place where the interface breaks the rule of that number
abbrev pub first_place : TreeForm → ℕ → Option ℕ
first_place tree number = least (places tree number)

-- f gives each rule's first place by its number
pub record Gives (f : ℕ → Option ℕ) (firsts : Firsts) : Type 0 where
  pub one : f 1 ≡ firsts.unknown
  pub two : f 2 ≡ firsts.duplicate
  pub three : f 3 ≡ firsts.bad_attribute
  pub four : f 4 ≡ firsts.size_name
  pub five : f 5 ≡ firsts.handle_use
  pub six : f 6 ≡ firsts.too_many_handles
  pub seven : f 7 ≡ firsts.recursion
  pub eight : f 8 ≡ firsts.union_tag
  pub nine : f 9 ≡ firsts.outside_profile
  -- there is no other rule
  pub zero : f 0 ≡ None
  pub more : (n : ℕ) → 10 ≤ n → f n ≡ None

-- the first of the breaches whose numbers are below n: the least place, and at it the least number
abbrev pub IsFirstBelow : (ℕ → Option ℕ) → ℕ → Option Breach → Type 0
IsFirstBelow f n None = (m : ℕ) → m < n → f m ≡ None
IsFirstBelow f n (Some b) = (b.number < n) × (f b.number ≡ Some b.at) × ((m at : ℕ) → m < n → f m ≡ Some at → (b.at < at) ⊎ ((b.at ≡ at) × (b.number ≤ m)))

-- the first of all breaches
abbrev pub IsFirst : (ℕ → Option ℕ) → Option Breach → Type 0
IsFirst f None = (m : ℕ) → f m ≡ None
IsFirst f (Some b) = (f b.number ≡ Some b.at) × ((m at : ℕ) → f m ≡ Some at → (b.at < at) ⊎ ((b.at ≡ at) × (b.number ≤ m)))

-- why the interface is refused
abbrev pub IsCause : Ast → CheckFault → Type 0
IsCause tree faults.Memory = Unit {0}
IsCause tree (faults.Rule number at) = IsLeastBreach tree number at

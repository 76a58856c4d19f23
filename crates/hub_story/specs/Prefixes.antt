-- When a journal is a prefix of another, though each may have its older entries in its base. The newest entry of a history is its first.
use Rattle.std.specs.Prelude.{◌≡◌, ℕ, ◌+◌, ◌≤◌, List, ◌∷◌, ◌++◌, length}
use Rattle.handle_model.specs.declared.entry.Entry.{Entry}
use Rattle.handle_model.specs.Folds.{advance}
use Rattle.handle_model.specs.History.{History, size}

-- the entry stands at that place: so many are older, those in the base among them
pub record StandsAt (j : History) (place : ℕ) (e : Entry) : Type 0 where
  pub newer : List Entry
  pub older : List Entry
  pub past_is : j.past ≡ newer ++ e ∷ older
  pub place_is : place ≡ j.base.count + length older

-- x's base goes on by the entries between, its oldest, where y's base stands for as many entries as both together
abbrev pub BaseGoesOn : History → History → Type 0
BaseGoesOn x y =
    (newer between : List Entry) → x.past ≡ newer ++ between → y.base.count ≡ x.base.count + length between → y.base ≡ advance x.home x.base between

-- x is no longer than y; entries at places that both hold are equal; of their bases the one with the greater count is the other, advanced
-- by the entries between, where these stand
pub record IsFoldedPrefix (x y : History) : Type 0 where
  pub home_is : x.home ≡ y.home
  pub short : size x ≤ size y
  pub same : (place : ℕ) (d e : Entry) → StandsAt x place d → StandsAt y place e → d ≡ e
  pub later_base : BaseGoesOn x y
  pub earlier_base : BaseGoesOn y x

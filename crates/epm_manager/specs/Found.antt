-- The entries that a lookup or a mapping finds, and its handle.
use Rattle.std.specs.Prelude.{ℕ, Bool, ◌&&◌, nat_lt, List, [], ◌∷◌, filter, Option, Some, None, unwrap_or, if◌then◌else◌}
use Rattle.manager_api.specs.declared.answer.Kept.{Kept}
use Rattle.manager_api.specs.declared.answer.Kept.TheVariants.{Cookie, Null}
use Rattle.manager_api.specs.Handles.{one_more, one_less}
use Rattle.epm_manager.specs.declared.entry.Numbered.{Numbered}
use Rattle.epm_manager.specs.declared.wanted.Wanted.{Wanted}
use Rattle.epm_manager.specs.Wanted.{wants}

-- the entries with numbers above a cookie that are wanted
abbrev pub is_found : Wanted → ℕ → Numbered → Bool
is_found what after n = nat_lt after n.number && wants what n.entry

abbrev pub found : Wanted → ℕ → List Numbered → List Numbered
found what after entries = filter (is_found what after) entries

-- a cookie is the number of the last entry that was given; before the first one there is none, and it is 0
abbrev pub after : Option ℕ → ℕ
after cookie = unwrap_or cookie 0

abbrev pub last_number : ℕ → List Numbered → ℕ
last_number n [] = n
last_number n (e ∷ es) = last_number e.number es

-- while there are more than are given, the handle stays or is issued
abbrev pub kept_by : Option ℕ → Bool → List Numbered → Kept
kept_by cookie more given = if more then Cookie (last_number (after cookie) given) else Null

-- the number of handles behind an answer to one that came, or to null
abbrev pub handles_by : Option ℕ → Kept → ℕ → ℕ
handles_by None (Cookie c) handles = one_more handles
handles_by (Some cookie) Null handles = one_less handles
handles_by _ _ handles = handles

-- What the printed journals say of the connections of a round.
use Rattle.std.specs.Prelude.{◌≡◌, ◌⊎◌, ◌==◌, ◌<◌, ◌≤◌, ◌^◌, ℕ, true, Some, List, [], ◌∷◌, ⊤}
use Rattle.std.specs.List.{list_any}
use Rattle.handle_model.specs.declared.entry.Entry.{Entry}
use Rattle.handle_model.specs.declared.entry.Entry.TheVariants.{Shut}
use Rattle.handle_model.specs.declared.base.BaseCall.{BaseCall}
use Rattle.handle_model.specs.History.{History}
use Rattle.handle_model.specs.Journal.{joins}
use Rattle.hub_story.specs.Histories.{past_in}
use Rattle.server_rounds.specs.declared.settled.Settled.{Settled}
use Rattle.server_rounds.specs.Endings.{HasConn}
use Rattle.server_command.specs.Logs.{Copy, journal_of}

-- the whole journal of which a copy was printed, the newest entry first
abbrev pub printed_past : Copy → List Entry
printed_past copy = past_in copy.id copy.front

abbrev pub EndsWithShut : List Entry → Type 0
EndsWithShut (Shut items ∷ older) = ⊤
EndsWithShut _ = ⊥

-- a journal names a connection: by its Join; or in its base, as one that is open, or one of whose calls waits or runs
abbrev pub Names : History → ℕ → Type 0
Names j d = (list_any (joins d) j.past ≡ true) ⊎ (list_any (λ c. c == d) j.base.conns ≡ true) ⊎ (list_any (λ (k : BaseCall). k.asked.conn == d) j.base.calls ≡ true)

module _ {K : Type 0} where
  -- A printed journal each of whose connections is one of these ends with Shut.
  abbrev pub EndsIfOurs : ℕ → List (Settled K) → Copy → Type 0
  EndsIfOurs boot finished copy = ((d : ℕ) → Names (journal_of boot copy) d → HasConn copy.id d finished) → EndsWithShut (printed_past copy)

-- one of the printed journals is of that group, and this holds of it
abbrev pub HasCopy : ℕ → (Copy → Type 0) → List Copy → Type 0
HasCopy g P [] = ⊥
HasCopy g P (copy ∷ more) = ((copy.id ≡ g) × P copy) ⊎ HasCopy g P more

-- the Join of the connection is among a journal's entries, or was folded into its base
abbrev pub HasJoin : History → ℕ → Type 0
HasJoin j c = (list_any (joins c) j.past ≡ true) ⊎ (c ≤ j.base.joins)

-- where the connection joined a group, that is one whose journal is printed, with its Join
abbrev pub IsLogged : {K : Type 0} → ℕ → List Copy → Settled K → Type 0
IsLogged boot copies x = (g c : ℕ) → x.joined ≡ Some (g, c) → HasCopy g (λ copy. HasJoin (journal_of boot copy) c) copies

-- no two of these joined one group with one number
abbrev pub AreApart : {K : Type 0} → List (Settled K) → Type 0
AreApart [] = ⊤
AreApart (x ∷ xs) = ((g c : ℕ) → x.joined ≡ Some (g, c) → HasConn g c xs → ⊥) × AreApart xs

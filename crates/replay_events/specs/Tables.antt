-- The connections of a program, by rising name, and those of a script's world.
use Rattle.std.specs.Prelude.{◌≡◌, ℕ, ◌+◌, ◌<◌, ◌==◌, nat_lt, Bool, not, Option, Some, None, List, [], ◌∷◌, ◌++◌, filter, map, ⊤}
use Rattle.std.specs.List.{find}
use Rattle.replay_world.specs.Worlds.{Peer, is_named, put_peer}
use Rattle.replay_events.specs.declared.played.Played.{Played}
use Rattle.replay_events.specs.Showing.{Shows}

abbrev pub name_in : Played → ℕ
name_in t = t.name

abbrev pub has_name : ℕ → Played → Bool
has_name c t = t.name == c

abbrev pub has_other_name : ℕ → Played → Bool
has_other_name c t = not (t.name == c)

-- ---- edits, by rising name

abbrev pub has_less_name : ℕ → Played → Bool
has_less_name c t = nat_lt t.name c

abbrev pub has_more_name : ℕ → Played → Bool
has_more_name c t = nat_lt c t.name

-- in the place of the one with its name, or in its place in the order
abbrev pub placed : Played → List Played → List Played
placed t ts = filter (has_less_name t.name) ts ++ t ∷ filter (has_more_name t.name) ts

-- the one of that name is taken out, where there is one
abbrev pub TakesOut : ℕ → List Played → Option Played → List Played → Type 0
TakesOut c old None new = (find (has_name c) old ≡ None) × (new ≡ old)
TakesOut c old (Some t) new = (find (has_name c) old ≡ Some t) × (new ≡ filter (has_other_name c) old)

-- ---- those of a world

-- the names rise, and are above this one or at it
abbrev pub RiseFrom : ℕ → List Peer → Type 0
RiseFrom low [] = ⊤
RiseFrom low (p ∷ ps) = (low < p.name + 1) × RiseFrom (p.name + 1) ps

abbrev pub EachShows : List Played → List Peer → Type 0
EachShows [] [] = ⊤
EachShows (t ∷ ts) (p ∷ ps) = Shows t p × EachShows ts ps
EachShows _ _ = ⊥

-- each shows one, and they are by rising name
pub record ShowAll (ts : List Played) (ps : List Peer) : Type 0 where
  pub each : EachShows ts ps
  pub rise : RiseFrom 0 ps

-- each but the one of that name, which was taken out or was never there
pub record ShowOthers (c : ℕ) (ts : List Played) (ps : List Peer) : Type 0 where
  pub all : List Played
  pub show : ShowAll all ps
  pub others : ts ≡ filter (has_other_name c) all

-- the connection of that name is taken out, where there is one
abbrev pub Takes : ℕ → List Peer → Option Played → List Played → Type 0
Takes c ps None new = (find (is_named c) ps ≡ None) × ShowAll new ps
Takes c ps (Some t) new = (p : Peer) × (find (is_named c) ps ≡ Some p) × Shows t p × ShowOthers c new ps

-- the connection of that name, where there is one
abbrev pub Finds : ℕ → List Peer → Option Played → Type 0
Finds c ps None = find (is_named c) ps ≡ None
Finds c ps (Some t) = (p : Peer) × (find (is_named c) ps ≡ Some p) × Shows t p

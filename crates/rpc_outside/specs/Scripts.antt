-- What the peer of a link in memory does.
use Rattle.std.specs.Prelude.{◌≡◌, ℕ, ◌<◌, ◌==◌, Bool, false, if◌then◌else◌, List, [], ◌∷◌, ◌++◌, length, take, drop, min, ⊤}
use Rattle.rpc_outside.specs.declared.link.Taken.{Taken}
use Rattle.rpc_outside.specs.declared.link.Taken.TheVariants as taken
use Rattle.rpc_outside.specs.declared.script.LinkStep.{LinkStep}
use Rattle.rpc_outside.specs.declared.script.LinkStep.TheVariants.{Give, Quiet, AwaitPut, End}

-- the octets that the steps give, wherever they end
abbrev pub given : List LinkStep → List ℕ
given [] = []
given (Give octets ∷ steps) = octets ++ given steps
given (Quiet ∷ steps) = given steps
given (AwaitPut ∷ steps) = given steps
given (End ∷ steps) = given steps

-- the octets that are to come: those that the steps give up to an end
abbrev pub to_come : List LinkStep → List ℕ
to_come [] = []
to_come (Give octets ∷ steps) = octets ++ to_come steps
to_come (Quiet ∷ steps) = to_come steps
to_come (AwaitPut ∷ steps) = to_come steps
to_come (End ∷ steps) = []

-- the octets that the first step gives
abbrev pub first_octets : List LinkStep → List ℕ
first_octets (Give octets ∷ steps) = octets
first_octets steps = []

-- the steps, once so many octets of the first one are taken
abbrev pub cut_first : ℕ → List LinkStep → List LinkStep
cut_first n (Give octets ∷ steps) = Give (drop n octets) ∷ steps
cut_first n steps = steps

-- a peer in the middle of its steps: the octets that were taken, and the steps to come
pub record Playing : Type 0 where
  pub taken : List ℕ
  pub rest : List LinkStep

-- before the step of that number, of which so many octets were taken
abbrev pub playing : List LinkStep → ℕ → ℕ → Playing
playing steps at done = record {
  taken = given (take at steps) ++ take done (first_octets (drop at steps));
  rest = cut_first done (drop at steps);
}

-- the first step gives octets, and has none
abbrev pub is_spent : List LinkStep → Bool
is_spent (Give octets ∷ steps) = length octets == 0
is_spent steps = false

-- the steps from the first one on that isn't spent
abbrev pub ready : List LinkStep → List LinkStep
ready [] = []
ready (Give octets ∷ steps) = if length octets == 0 then ready steps else Give octets ∷ steps
ready (Quiet ∷ steps) = Quiet ∷ steps
ready (AwaitPut ∷ steps) = AwaitPut ∷ steps
ready (End ∷ steps) = End ∷ steps

-- the steps, once one that awaits a put has seen it
abbrev pub past_await : List LinkStep → List LinkStep
past_await (AwaitPut ∷ steps) = steps
past_await steps = steps

abbrev pub after_put : List LinkStep → List LinkStep
after_put steps = past_await (ready steps)

-- no step, or one that ends
abbrev pub IsOver : List LinkStep → Type 0
IsOver [] = ⊤
IsOver (End ∷ steps) = ⊤
IsOver (Give octets ∷ steps) = ⊥
IsOver (Quiet ∷ steps) = ⊥
IsOver (AwaitPut ∷ steps) = ⊥

-- the first of the steps that are ready stays, where it awaits a put; else it goes
abbrev pub IsQuiet : List LinkStep → List LinkStep → Type 0
IsQuiet (Quiet ∷ steps) now = now ≡ steps
IsQuiet (AwaitPut ∷ steps) now = now ≡ AwaitPut ∷ steps
IsQuiet [] now = ⊥
IsQuiet (Give octets ∷ steps) now = ⊥
IsQuiet (End ∷ steps) now = ⊥

-- as many octets as the buffer has room for were taken of the first of the steps that are ready
abbrev pub Gives : List LinkStep → List ℕ → ℕ → Playing → Playing → Type 0
Gives (Give octets ∷ steps) into n a b = (n ≡ min (length into) (length octets)) × (0 < n) × (take n into ≡ take n octets)
    × (b ≡ record { taken = a.taken ++ take n octets; rest = Give (drop n octets) ∷ steps })
Gives [] into n a b = ⊥
Gives (Quiet ∷ steps) into n a b = ⊥
Gives (AwaitPut ∷ steps) into n a b = ⊥
Gives (End ∷ steps) into n a b = ⊥

-- what a take answers, and where the peer then is
abbrev pub Plays : Playing → List ℕ → Taken → Playing → Type 0
Plays a into (taken.Bytes n) b = Gives (ready a.rest) into n a b
Plays a into taken.Quiet b = (b.taken ≡ a.taken) × IsQuiet (ready a.rest) b.rest
Plays a into taken.End b = (b.taken ≡ a.taken) × IsOver (ready a.rest) × (b.rest ≡ ready a.rest)

-- Which moves may come first.
use Rattle.std.proofs.Common.{◌≡◌, ◌≢◌, ℕ, Some, Ok, List, [], ◌∷◌, refl}
use Rattle.std.specs.Prelude.{slice_get}
use Rattle.pdu_codec.specs.Pdus.{pdu_octets}
use Rattle.ndr_table.specs.Tables.{TableForm}
use Rattle.client_core.specs.States.{at_start}
use Rattle.client_core.specs.Octets.{bind_pdu}
use Rattle.client_core.specs.Calls.{binding}
use Rattle.world_laws.specs.Moves.{Move as moves}
use Rattle.world_laws.specs.Ends.{Line}
use Rattle.world_laws.specs.Worlds.{World, empty, opened, Tries, Plays}
use Rattle.world_laws.specs.Worlds.Tries.{taken, denied}
use Rattle.world_laws.specs.Firsts.{OpensFirst, TakesNoneFirst}

none_there : (i : ℕ) (l : Line) → (let ls : List Line = [] in slice_get ls i) ≡ Some l → ⊥
none_there i l e = absurd (cc (e))

pub opens_first : OpensFirst
opens_first table c = (
  record { lines = opened table c 0 (pdu_octets (bind_pdu table.id 0)) (binding (at_start table)) ∷ []; past = []; starts = [] },
  record {
    fresh = λ i l at. absurd (none_there i l at);
    wanted = refl;
    octets = pdu_octets (bind_pdu table.id 0);
    state = binding (at_start table);
    binds = (refl, refl);
    after = refl;
  },
)

none_waits : (table : TableForm) (k : ℕ) (v : World) → Tries table empty k v → ⊥
none_waits table k v (taken row serial past takes is) = absurd (cc (takes.0))
none_waits table k v (denied slot past takes goes) = absurd (cc (takes.0))

pub takes_none_first : TakesNoneFirst
takes_none_first table k more = record { before = empty; plays = refl; move = moves.Take k; there = refl; not_now = λ v t. none_waits table k v t }

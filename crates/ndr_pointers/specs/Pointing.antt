-- Pointers of each kind, and handles, that are gone over.
use Rattle.std.specs.Prelude.{ℕ, List, [], ◌∷◌, ◌++◌, Ok}
use Rattle.rpc_base.specs.declared.identifiers.Order.{Order}
use Rattle.ndr_value.specs.Forms.{Form}
use Rattle.ndr_scalars.specs.Scalars.{up}
use Rattle.ndr_arrays.specs.Bind.{◌>>=◌}
use Rattle.ndr_pointers.specs.declared.referents.Points.{Points}
use Rattle.ndr_pointers.specs.declared.referents.Points.TheVariants.{Ref, Unique, Full}
use Rattle.ndr_model.specs.Places.{Place, past}
use Rattle.ndr_model.specs.Reading.{number, wire_at}
use Rattle.ndr_model.specs.Scan.{Scanned, level, unique_by, full_by}

abbrev pub pointer_by : Points → ℕ → ℕ → Form → Place → ℕ → Scanned
pointer_by Ref id room s p j = level room (up p.at 4) (Ok (past p j))
pointer_by Unique id room s p j = unique_by id room p j
pointer_by Full id room s p j = full_by id room s p j

abbrev pub pointer_scan : Order → List ℕ → Points → ℕ → Form → Place → Scanned
pointer_scan order octets points room s p = number order octets 4 p.at >>= λ x. pointer_by points x.0 room s p x.1

abbrev pub wire_scan : Order → List ℕ → Place → Scanned
wire_scan order octets p = wire_at order octets p.at >>= λ x. Ok (record { at = x.1; met = p.met; wires = p.wires ++ x.0 ∷ [] })

-- Requests among the PDUs of a connection: a run goes from a first fragment to the next last one.
use Rattle.std.specs.Prelude.{◌≡◌, ℕ, ◌≤◌, ◌==◌, ◌&&◌, Bool, true, false, List, [], ◌∷◌, ◌++◌, length, Option, Some, None, Ok, ◌⊎◌}
use Rattle.std.specs.List.{flat_map, list_any, AllByRecursion}
use Rattle.pdu_codec.specs.declared.pdu.Pdu.{Pdu}
use Rattle.pdu_codec.specs.declared.pdu.Body.{Body}
use Rattle.pdu_codec.specs.declared.pdu.Body.TheVariants.{Request, Response, Fault, Bind, BindAck, BindNak, Alter, AlterResp, Shutdown, CoCancel, Orphaned}
use Rattle.pdu_stream.specs.declared.joined.Joined.{Joined}
use Rattle.pdu_stream.specs.Fragments.{Fragment, is_first, is_last, joined_of, most_stub, AddsFragment, Marks, Drops}

-- the fragment that a PDU with that body is, where it is a request
abbrev pub fragment_with : Pdu → Body → List Fragment
fragment_with p (Request part) = record { order = p.order; flags = p.flags; call_id = p.call_id; part = part } ∷ []
fragment_with p (Response part) = []
fragment_with p (Fault part) = []
fragment_with p (Bind part) = []
fragment_with p (BindAck part) = []
fragment_with p (BindNak part) = []
fragment_with p (Alter part) = []
fragment_with p (AlterResp part) = []
fragment_with p Shutdown = []
fragment_with p CoCancel = []
fragment_with p Orphaned = []

abbrev pub fragment_of : Pdu → List Fragment
fragment_of p = fragment_with p p.body

-- the requests among PDUs
abbrev pub fragments : List Pdu → List Fragment
fragments pdus = flat_map fragment_of pdus

abbrev pub is_co_cancel : Body → Bool
is_co_cancel CoCancel = true
is_co_cancel _ = false

abbrev pub is_orphaned : Body → Bool
is_orphaned Orphaned = true
is_orphaned _ = false

-- a co_cancel with that call id, and an orphaned with it
abbrev pub cancels : ℕ → Pdu → Bool
cancels id p = is_co_cancel p.body && (id == p.call_id)

abbrev pub orphans : ℕ → Pdu → Bool
orphans id p = is_orphaned p.body && (id == p.call_id)

-- a later fragment of the request that the first one begins
pub record IsLater (first f : Fragment) : Type 0 where
  pub inner : is_first f ≡ false
  pub call_id : f.call_id ≡ first.call_id
  pub context : f.part.context ≡ first.part.context
  pub op : f.part.op ≡ first.part.op
  pub order : f.order ≡ first.order

-- what the first fragment and the PDUs after it join to
abbrev pub joined_with : Fragment → List Pdu → Joined
joined_with first behind = joined_of first (fragments behind) (list_any (cancels first.call_id) behind)

-- The PDUs end with a run that isn't whole: a first fragment, and after it later fragments of its request, none of
-- them the last one, and other PDUs, none of them an orphaned with its call id. The stub isn't too long so far.
pub record IsOpen (pdus : List Pdu) (first : Fragment) (behind : List Pdu) : Type 0 where
  pub before : List Pdu
  pub opener : Pdu
  pub whole : pdus ≡ before ++ opener ∷ behind
  pub opens : fragment_of opener ≡ first ∷ []
  pub begins : is_first first ≡ true
  pub later : AllByRecursion (IsLater first) (fragments behind)
  pub unended : list_any is_last (first ∷ fragments behind) ≡ false
  pub wanted : list_any (orphans first.call_id) behind ≡ false
  pub short : length (joined_with first behind).stub ≤ most_stub

-- What is being joined after the PDUs: what the run that isn't whole joins to so far, or nothing.
abbrev pub IsJoining : List Pdu → Option Joined → Type 0
IsJoining pdus None = (first : Fragment) (behind : List Pdu) → IsOpen pdus first behind → ⊥
IsJoining pdus (Some j) = (first : Fragment) × (behind : List Pdu) × IsOpen pdus first behind × (j ≡ joined_with first behind)

-- The fragment is a run by itself, where nothing is being joined after the PDUs.
abbrev pub IsAlone : List Pdu → Fragment → Joined → Type 0
IsAlone pdus f j = IsJoining pdus None × (is_first f ≡ true) × (j ≡ joined_of f [] false)

-- The fragment ends the run that isn't whole.
abbrev pub EndsOpen : List Pdu → Fragment → Joined → Type 0
EndsOpen pdus f j =
    (first : Fragment) × (behind : List Pdu) × IsOpen pdus first behind × IsLater first f
    × (j ≡ joined_of first (fragments behind ++ f ∷ []) (list_any (cancels first.call_id) behind))

-- The fragment after the PDUs is the last one of a run: of one that it begins itself, where nothing is being joined,
-- or of the one that isn't whole. The whole run joins to this request.
pub record IsWhole (pdus : List Pdu) (f : Fragment) (j : Joined) : Type 0 where
  pub last : is_last f ≡ true
  pub short : length j.stub ≤ most_stub
  pub joins : IsAlone pdus f j ⊎ EndsOpen pdus f j

-- ---- what a PDU after others does to what is being joined

-- A request goes on with it, a co_cancel marks it, an orphaned drops it, and no other PDU changes it.
abbrev pub Changes : Option Joined → Pdu → Body → Option Joined → Type 0
Changes run p (Request part) new =
    (answer : Option Joined) × AddsFragment (Ok run) (record { order = p.order; flags = p.flags; call_id = p.call_id; part = part }) (Ok answer) (Ok new)
Changes run p (Response part) new = new ≡ run
Changes run p (Fault part) new = new ≡ run
Changes run p (Bind part) new = new ≡ run
Changes run p (BindAck part) new = new ≡ run
Changes run p (BindNak part) new = new ≡ run
Changes run p (Alter part) new = new ≡ run
Changes run p (AlterResp part) new = new ≡ run
Changes run p Shutdown new = new ≡ run
Changes run p CoCancel new = (answer : Bool) × Marks (Ok run) p.call_id answer (Ok new)
Changes run p Orphaned new = (answer : Bool) × Drops (Ok run) p.call_id answer (Ok new)

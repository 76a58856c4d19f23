-- What a request comes to, and what was asked by an accepted call.
use Rattle.std.specs.Prelude.{◌≡◌, ◌≤◌, ℕ, Option, Some, List, length}
use Rattle.handle_model.specs.declared.entry.Slot.{Slot}
use Rattle.handle_model.specs.declared.entry.Asked.{Asked}
use Rattle.handle_model.specs.Journal as journals
use Rattle.pdu_stream.specs.declared.joined.Joined.{Joined}
use Rattle.ndr_table.specs.Tables.{TableForm}
use Rattle.group_core.specs.declared.answer.AcceptRefusal.{AcceptRefusal}
use Rattle.group_core.specs.declared.answer.AcceptRefusal.TheVariants.{Memory}
use Rattle.conn_histories.specs.Requests.{HasSlots, too_busy}
use Rattle.conn_histories.specs.Entries.{asked_as}
use Rattle.desk_service.specs.State.{Services, tables_with}
use Rattle.replay_world.specs.declared.peer.Member.{Member}
use Rattle.replay_world.specs.Worlds.{World, journal}
use Rattle.replay_world.specs.Groups.{AcceptsIn}
use Rattle.replay_world.specs.Events.{request, RefusesRequest}
use Rattle.replay_groups.specs.Service.{service_of}
use Rattle.replay_groups.specs.declared.request.Requested.{Requested}
use Rattle.replay_groups.specs.declared.request.Requested.TheVariants.{Refused, Accepted}

-- what was asked is one of the interfaces' requests, with its slots
pub record IsRequest (echo : Option TableForm) (a : Asked) : Type 0 where
  pub has : HasSlots (tables_with echo) a.iface a.op a.order a.stub a.slots
  pub few : length a.slots ≤ 4

-- it was accepted, and the journal has this of it
pub record IsAccepted (echo : Option TableForm) (w v : World Services) (m : Member) (j : Joined) (iface k : ℕ) (a : Asked) : Type 0 where
  pub slots : List Slot
  pub has : HasSlots (tables_with echo) iface j.op j.order j.stub slots
  pub accepts : AcceptsIn w m.group (asked_as m.number (request j iface) slots) k v
  pub asked : journals.asked (journal v m.group) k ≡ Some a
  pub conn : a.conn ≡ m.number
  pub is_request : IsRequest echo a

abbrev pub RequestsIn : Member → Joined → ℕ → Requested → Option TableForm → World Services → World Services → Type 0
RequestsIn m j iface (Refused status) echo w v = RefusesRequest (service_of echo) w m j iface status × (v ≡ w)
RequestsIn m j iface (Accepted k a) echo w v = IsAccepted echo w v m j iface k a

-- what a limit of the group makes of a request, where memory didn't run out
abbrev pub IsLimited : AcceptRefusal → Requested → Type 0
IsLimited Memory requested = ⊥
IsLimited _ requested = requested ≡ Refused too_busy

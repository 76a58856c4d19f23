-- What a worker is handed may cross threads; of tables that is shown stage by stage, since one search through all of one would be too long.
--     captured_send     a closure over sixteen things crosses where each of them does;  work_send     the closure of `beside::start` does
use mathlib.Core.List.{[], ◌∷◌}
use denote.RattleType.{RattleType}
use denote.Struct.Struct.{Struct}
use denote.Struct.Declared.{shape}
use denote.Struct.Tuple.{TupleAt, type_at}
use base.Fml.{Lft}
use mir.Syntax.{Sym, named}
use denote.Array.{Array}
use denote.Ref.{ShrRef}
use denote.Struct.Field.{u32-field, u64-field}
use Rattle.std.specs.contracts.alloc.Global as Global
use Rattle.std.specs.contracts.option.Option as Option
use Rattle.std.specs.contracts.sync.atomic.AtomicU64 as AtomicU64
use Rattle.group_hub.specs.contracts.hub.Hub as Hub
use Rattle.group_hub.specs.contracts.pass.Pass as Pass
use denote.Param.Send.{IsSend, IsSync, sendable, recorded_send, struct_send, shr_send}
use Rattle.std.proofs.Crossing.{crosses as owners}
use Rattle.rpc_base.proofs.items.Items.TheSendSync.{the_send as items_send, the_sync as items_sync}
use Rattle.ndr_value.proofs.shape.Shape.TheLaws.TheKnot.{crosses as shapes}
use Rattle.ndr_table.specs.contracts.operation.Param as Param
use Rattle.ndr_table.specs.contracts.operation.Op as Op
use Rattle.ndr_table.specs.contracts.table.Table as Table
use Rattle.manager_api.specs.contracts.served.Served as Served
use Rattle.handle_model.specs.contracts.entry.Asked as Asked
use Rattle.ndr_value.specs.contracts.value.Message as Message
use Rattle.ndr_value.proofs.value.Value.TheLaws.TheKnot.{crosses as values}
use Rattle.server_calls.specs.contracts.outcomes.Room as Room
use Rattle.group_hub.proofs.hub.Hub.TheSendSync.{the_sync as hub_sync}
use Rattle.group_hub.proofs.pass.Pass.TheSendSync.{the_send as pass_send}

param_sync : IsSync (Param.the_field).row
param_sync = search (owners, shapes, items_sync, sendable) depth 40

op_sync : IsSync (Op.the_field).row
op_sync = let a = param_sync in search (owners, shapes, items_sync, sendable) depth 40 fits 20000

table_sync : IsSync (Table.the_field).row
table_sync = let a = op_sync in search (owners, shapes, items_sync, sendable) depth 40 fits 20000

served_sync : IsSync Served.the_row
served_sync = let a = table_sync in search (owners, sendable) depth 40

asked_sync : IsSync Asked.the_row
asked_sync = search (owners, items_sync, sendable) depth 40 fits 20000

message_send : IsSend Message.the_row
message_send = search (owners, values, items_send, sendable) depth 40 fits 20000

room_send : IsSend Room.the_row
room_send = search (owners, sendable) depth 40 fits 20000

captured_send : (ν : Sym) (A₀ A₁ A₂ A₃ A₄ A₅ A₆ A₇ A₈ A₉ A₁₀ A₁₁ A₁₂ A₁₃ A₁₄ A₁₅ : RattleType) → IsSend A₀ → IsSend A₁ → IsSend A₂ → IsSend A₃ → IsSend A₄ → IsSend A₅ → IsSend A₆ → IsSend A₇ → IsSend A₈ → IsSend A₉ → IsSend A₁₀ → IsSend A₁₁ → IsSend A₁₂ → IsSend A₁₃ → IsSend A₁₄ → IsSend A₁₅ → IsSend (TupleAt ν (A₀ ∷ A₁ ∷ A₂ ∷ A₃ ∷ A₄ ∷ A₅ ∷ A₆ ∷ A₇ ∷ A₈ ∷ A₉ ∷ A₁₀ ∷ A₁₁ ∷ A₁₂ ∷ A₁₃ ∷ A₁₄ ∷ A₁₅ ∷ []))
captured_send ν A₀ A₁ A₂ A₃ A₄ A₅ A₆ A₇ A₈ A₉ A₁₀ A₁₁ A₁₂ A₁₃ A₁₄ A₁₅ s₀ s₁ s₂ s₃ s₄ s₅ s₆ s₇ s₈ s₉ s₁₀ s₁₁ s₁₂ s₁₃ s₁₄ s₁₅ = let T = type_at ν (A₀ ∷ A₁ ∷ A₂ ∷ A₃ ∷ A₄ ∷ A₅ ∷ A₆ ∷ A₇ ∷ A₈ ∷ A₉ ∷ A₁₀ ∷ A₁₁ ∷ A₁₂ ∷ A₁₃ ∷ A₁₄ ∷ A₁₅ ∷ []) in recorded_send (Struct (shape T)) T.D T.to T.to_one (struct_send (shape T) (s₀, (s₁, (s₂, (s₃, (s₄, (s₅, (s₆, (s₇, (s₈, (s₉, (s₁₀, (s₁₁, (s₁₂, (s₁₃, (s₁₄, (s₁₅, tt)))))))))))))))))

global_send : IsSend Global.the_row
global_send = search (owners, sendable) depth 40 fits 20000

u32_send : IsSend u32-field.row
u32_send = search sendable depth 40

row_send : IsSend (Array (Option.the_row u64-field.row) 4)
row_send = search (owners, sendable) depth 40 fits 20000

word_sync : IsSync AtomicU64.the_row
word_sync = search (owners, sendable) depth 40 fits 20000

bell_send : (K : RattleType) → IsSend K → IsSend (Option.the_row K)
bell_send K k = search (owners, sendable) depth 40 fits 20000

pub work_send : (ν : Sym) (R M D K : RattleType) (σ τ υ α δ ρ : Lft) → IsSync R → IsSync M → IsSend D → IsSend K → IsSend (TupleAt ν (Global.the_row ∷ ShrRef (named 6) σ Served.the_row ∷ ShrRef (named 7) τ M ∷ ShrRef (named 8) υ Hub.the_row ∷ u32-field.row ∷ u32-field.row ∷ ShrRef (named 9) α Asked.the_row ∷ Array (Option.the_row u64-field.row) 4 ∷ ShrRef (named 10) δ AtomicU64.the_row ∷ ShrRef (named 11) ρ R ∷ Pass.the_row ∷ D ∷ Message.the_row ∷ Message.the_row ∷ Room.the_row ∷ Option.the_row K ∷ []))
work_send ν R M D K σ τ υ α δ ρ r m d k = captured_send ν Global.the_row (ShrRef (named 6) σ Served.the_row) (ShrRef (named 7) τ M) (ShrRef (named 8) υ Hub.the_row) u32-field.row u32-field.row (ShrRef (named 9) α Asked.the_row) (Array (Option.the_row u64-field.row) 4) (ShrRef (named 10) δ AtomicU64.the_row) (ShrRef (named 11) ρ R) Pass.the_row D Message.the_row Message.the_row Room.the_row (Option.the_row K) global_send (shr_send (named 6) σ Served.the_row served_sync) (shr_send (named 7) τ M m) (shr_send (named 8) υ Hub.the_row hub_sync) u32_send u32_send (shr_send (named 9) α Asked.the_row asked_sync) row_send (shr_send (named 10) δ AtomicU64.the_row word_sync) (shr_send (named 11) ρ R r) pass_send d message_send message_send room_send (bell_send K k)

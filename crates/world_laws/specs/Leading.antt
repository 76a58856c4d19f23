-- When a move may come, and that it leads to a world then.
use Rattle.std.specs.Prelude.{◌≡◌, ℕ, ◌≤◌, ◌^◌, true, false, Some, None, List, [], ◌∷◌, length, slice_get, ⊤}
use Rattle.rpc_base.specs.Fields.{FitsSyntax}
use Rattle.handle_model.specs.declared.entry.Asked.{Asked}
use Rattle.handle_model.specs.Journal as journals
use Rattle.pdu_stream.specs.Fragments.{most_stub}
use Rattle.ndr_value.specs.Values.{Msg}
use Rattle.ndr_table.specs.Tables.{OpForm, TableForm}
use Rattle.ndr_model.specs.declared.way.Way.TheVariants.{Request, Response}
use Rattle.ndr_model.specs.Written.{stub}
use Rattle.ndr_model.specs.Fits.{IsOfOp}
use Rattle.manager_api.specs.declared.answer.Kept.{Kept}
use Rattle.manager_api.specs.Answers.Ans.{AOut}
use Rattle.manager_api.specs.Calls.{Owes}
use Rattle.conn_histories.specs.Requests.{IsAsked}
use Rattle.conn_histories.specs.Ends.{outcomes_of, with_wires, wires_at}
use Rattle.client_core.specs.States.{is_bound, is_calling}
use Rattle.client_core.specs.Calls.{asking}
use Rattle.world_laws.specs.Moves.{Move}
use Rattle.world_laws.specs.Moves.{Move as moves}
use Rattle.world_laws.specs.Journals.{home, journal}
use Rattle.world_laws.specs.Ends.{Line}
use Rattle.world_laws.specs.Worlds.{World, OfLine, IsNew, group_wanted, Plays, Played}

-- ---- conditions

-- a call may be started: the connection is bound, no call is out, and the message is one of the operation, of few enough octets
pub record MayStart (l : Line) (op : ℕ) (m : Msg) : Type 0 where
  pub bound : is_bound l.caller.state ≡ true
  pub free : is_calling l.caller.state ≡ false
  pub operation : OpForm
  pub found : slice_get l.caller.state.interface.ops op ≡ Some operation
  pub of_op : IsOfOp l.caller.state.interface.types operation Request None m
  pub short : length (asking l.caller.state.interface operation m) ≤ most_stub

-- so many octets are on the way
abbrev pub AreOnWay : ℕ → List ℕ → Type 0
AreOnWay n way = (1 ≤ n) × (n ≤ length way)

-- a call may be taken: it waits, and no other one is in its way
abbrev pub MayTake : World → ℕ → Type 0
MayTake w k = (journals.waits (journal w.past) k ≡ true) × (journals.blocker (journal w.past) k ≡ None)

-- a call may end so: it runs, the answer is one to it, and the octets that go out are few enough
pub record MayFinish (table : TableForm) (w : World) (k : ℕ) (kepts : List Kept) (m : Msg) : Type 0 where
  pub runs : journals.runs (journal w.past) k ≡ true
  pub asked : Asked
  pub asks : journals.asked (journal w.past) k ≡ Some asked
  pub message : Msg
  pub is : IsAsked (table ∷ []) asked.iface asked.op asked.order asked.stub message
  pub owes : Owes table asked.op message (AOut m kepts)
  pub short : length (stub table.types is.operation Response asked.order (Some message) (with_wires m (wires_at home asked.slots (outcomes_of asked.slots kepts)))) ≤ most_stub

abbrev pub MayCome : TableForm → World → Move → Type 0
MayCome table w (moves.Open c group) = IsNew w c × (group ≡ group_wanted w.lines)
MayCome table w (moves.Start c op m) = OfLine w c (λ i l. MayStart l op m)
MayCome table w (moves.ToServer c n) = OfLine w c (λ i l. AreOnWay n l.up)
MayCome table w (moves.ToCaller c n) = OfLine w c (λ i l. AreOnWay n l.down)
MayCome table w (moves.Cancel c) = OfLine w c (λ i l. is_calling l.caller.state ≡ true)
MayCome table w (moves.Lose c) = OfLine w c (λ i l. ⊤)
MayCome table w moves.Restart = ⊤
MayCome table w (moves.Take k) = MayTake w k
MayCome table w (moves.Finish k kepts m) = MayFinish table w k kepts m

-- a move that can't be played doesn't come: it leads to a world only where its condition holds
abbrev pub OnlyWhereItMay : Type 0
OnlyWhereItMay = (table : TableForm) (move : Move) (w v : World) → Plays table w move v → MayCome table w move

-- ---- moves that lead to a world where their condition holds

abbrev pub Leads : TableForm → World → Move → Type 0
Leads table w move = (v : World) × Plays table w move v

abbrev pub OpensLead : Type 0
OpensLead = (table : TableForm) (w : World) (c group : ℕ) → MayCome table w (moves.Open c group) → Leads table w (moves.Open c group)

abbrev pub CancelsLead : Type 0
CancelsLead = (table : TableForm) (w : World) (c : ℕ) → MayCome table w (moves.Cancel c) → Leads table w (moves.Cancel c)

abbrev pub LossesLead : Type 0
LossesLead = (table : TableForm) (w : World) (c : ℕ) → MayCome table w (moves.Lose c) → Leads table w (moves.Lose c)

-- where no handle that the call names is at fault
abbrev pub TakesLead : Type 0
TakesLead = (table : TableForm) (w : World) (k : ℕ) → MayCome table w (moves.Take k) → journals.fault (journal w.past) k ≡ None → Leads table w (moves.Take k)

abbrev pub RestartsLead : Type 0
RestartsLead = (table : TableForm) (w : World) → Leads table w moves.Restart

-- in every world
abbrev pub StartsLead : Type 0
StartsLead = (table : TableForm) (played : List Move) (w : World) (c op : ℕ) (m : Msg) → FitsSyntax table.id → length table.ops ≤ 2 ^ 16 → Played table played w → MayCome table w (moves.Start c op m) → Leads table w (moves.Start c op m)

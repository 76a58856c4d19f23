-- What was answered on a connection, and why it ended.
use Rattle.std.specs.Prelude.{◌≡◌, ◌≢◌, ℕ, Bool, true, false, List, [], ◌∷◌, ◌++◌, ⊤}
use Rattle.std.specs.List.{list_any}
use Rattle.rpc_base.specs.Causes.{Rose}
use Rattle.rpc_base.specs.declared.identifiers.SyntaxId.{SyntaxId}
use Rattle.handle_model.specs.declared.entry.Home.{Home}
use Rattle.handle_model.specs.declared.entry.Entry.{Entry}
use Rattle.pdu_stream.specs.Cuts.{LeavesUncut}
use Rattle.conn_asks.specs.declared.events.ConnFault.{ConnFault}
use Rattle.conn_asks.specs.declared.events.ConnFault.TheVariants.{Nak}
use Rattle.conn_asks.specs.declared.events.Ask.{Ask}
use Rattle.conn_asks.specs.Asks.{AreAsksOf}
use Rattle.conn_histories.specs.Plays.{negotiated_at_start}
use Rattle.conn_histories.specs.declared.turn.Turn.{Turn}
use Rattle.conn_histories.specs.declared.turn.Turn.TheVariants.{NotBound, Closed}
use Rattle.conn_histories.specs.Answers.{Answers}
use Rattle.rpc_outside.specs.Links.{Shown, IsNothing}
use Rattle.server_ends.specs.declared.ended.Ending.{Ending}
use Rattle.server_ends.specs.declared.ended.Ending.TheVariants as ending
use Rattle.server_ends.specs.Links.{OnLink}

-- all that was asked is answered, but where the link failed or memory ran out
abbrev pub IsWhole : Ending → Type 0
IsWhole ending.LinkFault = ⊥
IsWhole ending.Memory = ⊥
IsWhole _ = ⊤

-- The octets that were put are the answers to what the octets that came ask. Where the link failed or memory ran out
-- they are a front of the answers to a front of it.
pub record AreAnswers (ids : List SyntaxId) (home : Home) (past : List Entry) (turns : List Turn) (why : Ending) (came put : List ℕ) : Type 0 where
  pub asked : List Ask
  pub asks : AreAsksOf came asked
  pub done : List Ask
  pub left : List Ask
  pub front : asked ≡ done ++ left
  pub rest : List ℕ
  pub answers : Answers home past (negotiated_at_start ids) done turns (put ++ rest)
  pub all : IsWhole why → (left ≡ []) × (rest ≡ [])

-- ---- why it ended

-- the server closed the connection
abbrev pub closes : Turn → Bool
closes (NotBound asked reason octets) = true
closes (Closed octets why) = true
closes _ = false

-- The last that was answered is a fault, or the refusal of a bind for another reason than want of memory.
abbrev pub ClosedFor : ConnFault → List Turn → Type 0
ClosedFor f (Closed octets why ∷ older) = why ≡ f
ClosedFor f (NotBound asked reason octets ∷ older) = (f ≡ Nak reason) × (reason ≢ 1)
ClosedFor f _ = ⊥

-- The peer ended, with no octet to come, where the server hadn't closed the connection; so many octets are left behind
-- the whole PDUs.
pub record PeerEnded (a b : Shown) (came : List ℕ) (turns : List Turn) (count : ℕ) : Type 0 where
  pub rose : Rose a.ends b.ends
  pub nothing : IsNothing b.left
  pub unclosed : list_any closes turns ≡ false
  pub uncut : LeavesUncut came count

abbrev pub Because : Ending → Shown → Shown → List ℕ → List Turn → Type 0
Because ending.Closed a b came turns = PeerEnded a b came turns 0
Because (ending.Cut count) a b came turns = (count ≢ 0) × PeerEnded a b came turns count
Because ending.LinkFault a b came turns = Rose a.faults b.faults
Because (ending.Refused f) a b came turns = ClosedFor f turns
Because ending.Memory a b came turns = ⊤

-- What was taken and put on the link, what of it are answers, and why the connection ended.
pub record EndsAs (ids : List SyntaxId) (home : Home) (past : List Entry) (turns : List Turn) (a : Shown) (why : Ending) (b : Shown) : Type 0 where
  pub came : List ℕ
  pub put : List ℕ
  pub link : OnLink a b came put
  pub answers : AreAnswers ids home past turns why came put
  pub because : Because why a b came turns

-- That a connection's turns answer what it was asked.
use Rattle.std.specs.Prelude.{◌≡◌, ◌≢◌, ℕ, Bool, true, false, Option, Some, None, List, [], ◌∷◌, ◌++◌, reverse, ◌⊎◌, ⊤}
use Rattle.std.specs.List.{AllByRecursion}
use Rattle.rpc_base.specs.declared.identifiers.SyntaxId.{SyntaxId}
use Rattle.handle_model.specs.declared.entry.Home.{Home}
use Rattle.handle_model.specs.declared.entry.Entry.{Entry}
use Rattle.handle_model.specs.declared.reply.Reply.TheVariants.{Open}
use Rattle.pdu_stream.specs.declared.joined.Joined.{Joined}
use Rattle.conn_asks.specs.declared.events.Ask.{Ask}
use Rattle.conn_asks.specs.declared.events.Waits.TheVariants.{Nothing, Over}
use Rattle.conn_asks.specs.Asks.{AreAsksOf}
use Rattle.conn_asks.specs.States.{ConnState, at_start}
use Rattle.conn_histories.specs.Histories.{Event, Lives, IsAtRest, stream, seen, put}
use Rattle.conn_histories.specs.Plays.{Negotiated, negotiated_at_start, Plays}
use Rattle.conn_histories.specs.declared.turn.Off.{Off}
use Rattle.conn_histories.specs.declared.turn.Deed.{Deed}
use Rattle.conn_histories.specs.declared.turn.Turn.{Turn}
use Rattle.conn_histories.specs.declared.turn.Turn.TheVariants.{Binding, NotBound, Called}
use Rattle.conn_histories.specs.Entries.{deed_left}
use Rattle.conn_histories.specs.Events.{deed_reply, all_events, all_octets}
use Rattle.conn_histories.specs.Tales.{StandAll}
use Rattle.conn_histories.specs.Answers.{Piece, AnswersAll, Answers}
use Rattle.conn_turns.specs.Laws.{IsReplied}

-- ---- answers

abbrev pub TurnsArePut : Type 0
TurnsArePut = (turns : List Turn) → put (all_events turns) ≡ all_octets turns

abbrev pub OnePiece : Type 0
OnePiece =
    (home : Home) (past : List Entry) (j : Joined) (most : ℕ) (deed : Deed) (a b : List ℕ) → Piece home past j most deed a → Piece home past j most deed b → a ≡ b

-- a request is over where its reply was answered, or where the connection left before
abbrev pub IsRequestOver : List Off → Deed → Option (List ℕ) → Type 0
IsRequestOver offs deed (Some octets) = (deed_reply offs deed ≢ Open) × (deed_left deed ≡ false)
IsRequestOver offs deed None = deed_left deed ≡ true

abbrev pub IsOver : Turn → Type 0
IsOver (Binding asked) = ⊥
IsOver (Called r) = IsRequestOver r.offs r.deed r.answer
IsOver _ = ⊤

abbrev pub TurnsAnswer : Type 0
TurnsAnswer =
    (home : Home) (past : List Entry) (k : Negotiated) (asked : List Ask) (turns : List Turn) → Plays k asked (all_events turns)
    → AllByRecursion (IsReplied home past) turns → AllByRecursion IsOver turns → AnswersAll home past k asked (reverse turns)

-- ---- a connection

-- Nothing that is asked behind the newest turn is answered: it refused a bind, or the connection left its call.
abbrev pub IsLast : Turn → Type 0
IsLast (NotBound asked reason octets) = ⊤
IsLast (Called r) = r.answer ≡ None
IsLast _ = ⊥

abbrev pub EndsEarly : List Turn → Type 0
EndsEarly [] = ⊥
EndsEarly (t ∷ ts) = IsLast t

-- all that was asked had its turn: nothing is waited for and no whole PDU is left, the connection is closed, or nothing more
-- is answered
abbrev pub IsAllAsked : ConnState → List Turn → Type 0
IsAllAsked m turns = ((m.waits ≡ Nothing) × IsAtRest m) ⊎ ((m.waits ≡ Over) ⊎ EndsEarly turns)

-- The octets that were put are the answers to a front of what was asked, and then to all of it.
pub record AreAnswered (ids : List SyntaxId) (home : Home) (past : List Entry) (events : List Event) (m : ConnState) (asked : List Ask) (turns : List Turn) : Type 0 where
  pub done : List Ask
  pub left : List Ask
  pub front : asked ≡ done ++ left
  pub answers : Answers home past (negotiated_at_start ids) done turns (put events)
  pub all : IsAllAsked m turns → Answers home past (negotiated_at_start ids) asked turns (put events)

abbrev pub StoriesAnswer : Type 0
StoriesAnswer =
    (ids : List SyntaxId) (home : Home) (c : ℕ) (gone : Bool) (past : List Entry) (events : List Event) (m : ConnState) (asked : List Ask) (turns : List Turn)
    → Lives (at_start ids) events m → AreAsksOf (stream events) asked → seen events ≡ all_events turns → StandAll c gone past turns
    → AllByRecursion IsOver turns → AreAnswered ids home past events m asked turns

-- Laws of histories.
use Rattle.std.specs.Prelude.{◌≡◌, ℕ, List, [], ◌∷◌, ◌++◌, reverse}
use Rattle.pdu_codec.specs.Pdus.{IsPdu, AreSpelled}
use Rattle.rpc_base.specs.declared.identifiers.SyntaxId.{SyntaxId}
use Rattle.mpx_asks.specs.Open.{AreOpen}
use Rattle.mpx_asks.specs.Among.{MpxState}
use Rattle.mpx_asks.specs.Courses.{Moment, heard_in, IsCourse}
use Rattle.mpx_histories.specs.Histories.{Event, Lives, at_first, answered_behind, stream}

-- the ids of the calls that were answered in a course
abbrev pub answered_in : List Moment → List ℕ
answered_in [] = []
answered_in (Moment.Heard p ask ∷ course) = answered_in course
answered_in (Moment.Answered id ∷ course) = id ∷ answered_in course

-- A course of a connection: of the PDUs that it took and the calls that were answered, and just those calls are unanswered
-- behind it that are.
pub record HasCourse (ids : List SyntaxId) (m : MpxState) (answered : List ℕ) : Type 0 where
  pub course : List Moment
  pub is_course : IsCourse ids course m.out
  pub heard : heard_in course ≡ m.conn.past
  pub answers : answered_in course ≡ answered

-- Each history of a connection has one.
abbrev pub HistoriesAreCourses : Type 0
HistoriesAreCourses =
    (ids : List SyntaxId) (events : List Event) (m : MpxState) → Lives (at_first ids) events m → HasCourse ids m (answered_behind events [])

-- The octets are the PDUs that a connection took, in their order, and those that it has still to read.
pub record HasTaken (m : MpxState) (octets : List ℕ) : Type 0 where
  pub front : List ℕ
  pub spelled : AreSpelled IsPdu (reverse m.conn.past) front
  pub whole : octets ≡ front ++ m.conn.rest

-- In each history those that came are so.
abbrev pub AllHasCome : Type 0
AllHasCome = (ids : List SyntaxId) (events : List Event) (m : MpxState) → Lives (at_first ids) events m → HasTaken m (stream events)

-- In each history at most as many calls are unanswered as may be, of different ids.
abbrev pub FewStayUnanswered : Type 0
FewStayUnanswered = (ids : List SyntaxId) (events : List Event) (m : MpxState) → Lives (at_first ids) events m → AreOpen m.out

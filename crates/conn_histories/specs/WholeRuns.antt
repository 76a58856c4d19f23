-- A call that is asked, and the fragments of its request (C706, "Connection-oriented RPC PDUs", fragmentation and
-- reassembly).
use Rattle.std.specs.Prelude.{◌≡◌, ◌↔◌, true, false, Some, List, [], ◌∷◌, ◌++◌, reverse}
use Rattle.std.specs.List.{list_any, AllByRecursion}
use Rattle.pdu_codec.specs.declared.pdu.Pdu.{Pdu}
use Rattle.pdu_stream.specs.declared.joined.Joined.{Joined}
use Rattle.pdu_stream.specs.Fragments.{Fragment, is_first, is_last}
use Rattle.pdu_stream.specs.Runs.{fragment_of, fragments, orphans, IsLater, joined_with, IsWhole}
use Rattle.conn_asks.specs.declared.events.Ask.TheVariants.{Call}
use Rattle.conn_asks.specs.Asks.{is_bound, Asks}

-- The PDU behind others, which are listed with the newest first, is the last fragment of a run, which joins to this.
abbrev pub EndsWhole : List Pdu → Pdu → Joined → Type 0
EndsWhole past p j = (f : Fragment) × (fragment_of p ≡ f ∷ []) × IsWhole (reverse past) f j

-- A call is asked exactly where a bind came and a run ends.
abbrev pub CallsAreWholeRuns : Type 0
CallsAreWholeRuns =
    (past : List Pdu) (p : Pdu) (j : Joined) → Asks past p (Some (Call j)) ↔ (is_bound past ≡ true) × EndsWhole past p j

-- The PDUs end with a run: the requests from one with a first fragment on are fragments of one request, the last of
-- them alone is a last fragment, and there is no orphaned with its id between. All of them, and the co_cancels between,
-- join to the request.
pub record EndsRun (pdus : List Pdu) (j : Joined) : Type 0 where
  pub before : List Pdu
  pub opener : Pdu
  pub behind : List Pdu
  pub whole : pdus ≡ before ++ opener ∷ behind
  pub first : Fragment
  pub opens : fragment_of opener ≡ first ∷ []
  pub begins : is_first first ≡ true
  pub later : AllByRecursion (IsLater first) (fragments behind)
  pub inner : List Fragment
  pub last : Fragment
  pub parts : first ∷ fragments behind ≡ inner ++ last ∷ []
  pub unended : list_any is_last inner ≡ false
  pub ends : is_last last ≡ true
  pub wanted : list_any (orphans first.call_id) behind ≡ false
  pub joins : j ≡ joined_with first behind

-- a run that ends goes from a first fragment to the next last one
abbrev pub WholeRunsAreRuns : Type 0
WholeRunsAreRuns = (past : List Pdu) (p : Pdu) (j : Joined) → EndsWhole past p j → EndsRun (reverse past ++ p ∷ []) j

-- No call of a connection that is gone waits or runs.
use Rattle.std.proofs.Common.{◌≡◌, ℕ, Bool, true, false, ◌&&◌, not, ◌⊎◌, inl, inr, List, [], ◌∷◌, ◌++◌, Some, refl, sym, ap, ◌∙◌}
use Rattle.std.specs.List.{list_any, AllByRecursion}
use Rattle.handle_model.specs.declared.entry.Home.{Home}
use Rattle.handle_model.specs.declared.entry.Asked.{Asked}
use Rattle.handle_model.specs.declared.entry.Entry.{Entry}
use Rattle.handle_model.specs.declared.entry.Entry.TheVariants.{Join, Accept, Deny, Cancel, Orphan, End, Leave}
use Rattle.handle_model.specs.Since.{any_since}
use Rattle.handle_model.specs.Journal.{leaves, takes, ends, has_left, waits, runs}
use Rattle.conn_histories.specs.declared.turn.Off.{Off}
use Rattle.conn_histories.specs.declared.turn.Fate.{Fate}
use Rattle.conn_histories.specs.declared.turn.Fate.TheVariants.{Waiting, Denied, Cancelled, Orphaned, LeftWaiting, Running, LeftRunning, Ended, LeftEnded}
use Rattle.conn_histories.specs.declared.turn.Deed.{Deed}
use Rattle.conn_histories.specs.declared.turn.Deed.TheVariants.{Pending, Refused, Accepted}
use Rattle.conn_histories.specs.declared.turn.Request.{Request}
use Rattle.conn_histories.specs.declared.turn.Turn.{Turn}
use Rattle.conn_histories.specs.declared.turn.Turn.TheVariants.{Binding, Bound, NotBound, Answered, Called, Closed}
use Rattle.conn_histories.specs.Entries.{asked_as, fate_entries, has_left as fate_left, is_open, deed_open, turn_open, is_running, deed_runs, turn_runs, leave_behind}
use Rattle.conn_histories.specs.Tales.{whole, tale, DeedStands, Stands, StandAll}
use Rattle.conn_turns.specs.Laws.{DeedEnded, IsEnded}
use Rattle.conn_turns.proofs.TaleFacts.{any_first, any_rest, same_number, and_false, since_none, in_tale, takes_call, ends_call, leaves_conn, asked_in, asked_tale}
use Rattle.conn_turns.proofs.MarkFacts.{ran, ran_is, ran_asked}

wait_by : (asked left decided : Bool) → left ≡ true → (asked && not left && not decided) ≡ false
wait_by true left decided h = rw h refl
wait_by false left decided h = refl

run_by : (took ended : Bool) → (took ≡ false) ⊎ (ended ≡ true) → (took && not ended) ≡ false
run_by took ended (inl h) = rw h refl
run_by took ended (inr h) = rw h (and_false took)

module _ (home : Home) (k : ℕ) (a : Asked) (past : List Entry) where
  ended_by : (t : List Entry) → tale a.conn k past ≡ t → asked_in k t ≡ Some a → list_any (leaves a.conn) t ≡ true → (list_any (takes k) t ≡ false) ⊎ (list_any (ends k) t ≡ true)
      → (waits (whole home past) k ≡ false) × (runs (whole home past) k ≡ false)
  ended_by t is asks left over =
      let asked : asked_in k past ≡ Some a = sym (asked_tale a.conn k past) ∙ (ap (asked_in k) is ∙ asks) in
      let gone : list_any (leaves a.conn) past ≡ true = sym (in_tale a.conn k (leaves a.conn) (leaves_conn a.conn k) past) ∙ (ap (list_any (leaves a.conn)) is ∙ left) in
      let leaves' : has_left (whole home past) (asked_in k past) ≡ true = ap (has_left (whole home past)) asked ∙ gone in
      let took : any_since false (takes k) past ≡ list_any (takes k) t =
      since_none (takes k) past ∙ (sym (in_tale a.conn k (takes k) (takes_call a.conn k) past) ∙ ap (list_any (takes k)) is) in
      let ended : list_any (ends k) past ≡ list_any (ends k) t = sym (in_tale a.conn k (ends k) (ends_call a.conn k) past) ∙ ap (list_any (ends k)) is in
      (wait_by _ _ _ leaves', (λ i. took i && not (ended i)) ∙ run_by (list_any (takes k) t) (list_any (ends k) t) over)

  fate_ended : (offs : List Off) (fate : Fate) → tale a.conn k past ≡ leave_behind a.conn true (fate_left fate) ++ fate_entries k a offs fate ++ Join a.conn ∷ []
      → is_open fate ≡ false → is_running fate ≡ false → (waits (whole home past) k ≡ false) × (runs (whole home past) k ≡ false)
  fate_ended offs Waiting is o r = absurd cc
  fate_ended offs (Running cookies) is o r = absurd cc
  fate_ended offs (LeftRunning cookies) is o r = absurd cc
  fate_ended offs (Denied slot) is o r = ended_by (Leave a.conn ∷ Deny k slot ∷ Accept k a ∷ Join a.conn ∷ []) is (rw (same_number k) refl) (rw (same_number a.conn) refl) (inl refl)
  fate_ended offs Cancelled is o r = ended_by (Leave a.conn ∷ Cancel k ∷ Accept k a ∷ Join a.conn ∷ []) is (rw (same_number k) refl) (rw (same_number a.conn) refl) (inl refl)
  fate_ended offs Orphaned is o r = ended_by (Leave a.conn ∷ Orphan k ∷ Accept k a ∷ Join a.conn ∷ []) is (rw (same_number k) refl) (rw (same_number a.conn) refl) (inl refl)
  fate_ended offs LeftWaiting is o r = ended_by (Leave a.conn ∷ Accept k a ∷ Join a.conn ∷ []) is (rw (same_number k) refl) (rw (same_number a.conn) refl) (inl refl)
  fate_ended offs (Ended run) is o r =
      ended_by (Leave a.conn ∷ End k run.results run.said ∷ ran k a offs run.cookies) (is ∙ ap (λ l. Leave a.conn ∷ End k run.results run.said ∷ l) (ran_is k a offs run.cookies))
      (ran_asked k a offs run.cookies) (rw (same_number a.conn) refl) (inr (rw (same_number k) refl))
  fate_ended offs (LeftEnded run) is o r =
      ended_by (End k run.results run.said ∷ Leave a.conn ∷ ran k a offs run.cookies) (is ∙ ap (λ l. End k run.results run.said ∷ Leave a.conn ∷ l) (ran_is k a offs run.cookies))
      (ran_asked k a offs run.cookies) (rw (same_number a.conn) refl) (inr (rw (same_number k) refl))

module _ (home : Home) (c : ℕ) (past : List Entry) where
  deed_ended : (r : Request) (deed : Deed) → DeedStands c true past r deed → deed_open deed ≡ false → deed_runs deed ≡ false → DeedEnded home past deed
  deed_ended r Pending h o u = tt
  deed_ended r (Refused status) h o u = tt
  deed_ended r (Accepted k slots fate) h o u = fate_ended home k (asked_as c r slots) past r.offs fate h o u

  turn_ended : (t : Turn) → Stands c true past t → turn_open t ≡ false → turn_runs t ≡ false → IsEnded home past t
  turn_ended (Binding asked) h o u = tt
  turn_ended (Bound asked group octets) h o u = tt
  turn_ended (NotBound asked reason octets) h o u = tt
  turn_ended (Answered octets) h o u = tt
  turn_ended (Called r) h o u = deed_ended r r.deed h o u
  turn_ended (Closed octets fault) h o u = tt

  all_ended : (ts : List Turn) → AllByRecursion (Stands c true past) ts → list_any turn_open ts ≡ false → list_any turn_runs ts ≡ false → AllByRecursion (IsEnded home past) ts
  all_ended [] h o u = tt
  all_ended (t ∷ ts) h o u = (
    turn_ended t h.0 (any_first (turn_open t) (list_any turn_open ts) o) (any_first (turn_runs t) (list_any turn_runs ts) u),
    all_ended ts h.1 (any_rest (turn_open t) (list_any turn_open ts) o) (any_rest (turn_runs t) (list_any turn_runs ts) u),
  )

pub turns_have_ended : (home : Home) (c : ℕ) (past : List Entry) (turns : List Turn) → StandAll c true past turns → list_any turn_runs turns ≡ false → AllByRecursion (IsEnded home past) turns
turns_have_ended home c past turns s none = all_ended home c past turns s.stand (s.none_open refl) none

-- Turns that are over, and the Leave behind them.
use Rattle.std.proofs.Common.{◌≡◌, ℕ, false, List, [], ◌∷◌, refl, ap}
use Rattle.std.specs.List.{list_any, AllByRecursion}
use Rattle.handle_model.specs.declared.entry.Home.{Home}
use Rattle.conn_histories.specs.declared.turn.Fate.{Fate}
use Rattle.conn_histories.specs.declared.turn.Fate.TheVariants.{Waiting, Denied, Cancelled, Orphaned, LeftWaiting, Running, LeftRunning, Ended, LeftEnded}
use Rattle.conn_histories.specs.declared.turn.Deed.{Deed}
use Rattle.conn_histories.specs.declared.turn.Deed.TheVariants as deeds
use Rattle.conn_histories.specs.declared.turn.Turn.{Turn}
use Rattle.conn_histories.specs.declared.turn.Turn.TheVariants.{Binding, Bound, NotBound, Answered, Called, Closed as ClosedTurn}
use Rattle.conn_histories.specs.Entries.{is_open, deed_open, turn_runs}
use Rattle.conn_histories.specs.Stories.{Server}
use Rattle.conn_turns.specs.Steps.{left_turns, left_fate, left_deed, OnlyNewestOpen}
use Rattle.conn_turns.specs.AnswerLaws.{IsOver}
use Rattle.conn_turns.specs.Done.{IsDone}
use Rattle.conn_turns.proofs.Making.{MayLeave}

-- ---- done turns, and a Leave

pub only_done : (t : Turn) (ts : List Turn) → AllByRecursion IsDone ts → OnlyNewestOpen (t ∷ ts)
only_done t [] d = refl
only_done t (Binding asked ∷ ts) d = absurd d.0
only_done t (Bound asked group octets ∷ ts) d = only_done t ts d.1
only_done t (NotBound asked reason octets ∷ ts) d = only_done t ts d.1
only_done t (Answered octets ∷ ts) d = only_done t ts d.1
only_done t (Called r ∷ ts) d = let here = d.0.1 in let more = only_done t ts d.1 in rw (here, more) refl
only_done t (ClosedTurn octets why ∷ ts) d = only_done t ts d.1

pub done_closed : (turns : List Turn) → AllByRecursion IsDone turns → OnlyNewestOpen turns
done_closed [] d = tt
done_closed (t ∷ ts) d = only_done t ts d.1

pub done_may : (server : Server) (home : Home) (c : ℕ) (turns : List Turn) → AllByRecursion IsDone turns → MayLeave server home c turns
done_may server home c [] d = tt
done_may server home c (Binding asked ∷ ts) d = absurd d.0
done_may server home c (Bound asked group octets ∷ ts) d = tt
done_may server home c (NotBound asked reason octets ∷ ts) d = tt
done_may server home c (Answered octets ∷ ts) d = tt
done_may server home c (Called r ∷ ts) d = λ o. let shut = d.0.1 in absurd (cc (o, shut))
done_may server home c (ClosedTurn octets why ∷ ts) d = tt

fate_stays : (fate : Fate) → is_open fate ≡ false → left_fate fate ≡ fate
fate_stays Waiting o = absurd cc
fate_stays (Running cookies) o = absurd cc
fate_stays (Denied slot) o = refl
fate_stays Cancelled o = refl
fate_stays Orphaned o = refl
fate_stays LeftWaiting o = refl
fate_stays (LeftRunning cookies) o = refl
fate_stays (Ended run) o = refl
fate_stays (LeftEnded run) o = refl

deed_stays : (deed : Deed) → deed_open deed ≡ false → left_deed deed ≡ deed
deed_stays deeds.Pending o = refl
deed_stays (deeds.Refused status) o = refl
deed_stays (deeds.Accepted k slots fate) o = ap (λ f. deeds.Accepted k slots f) (fate_stays fate o)

pub done_stay : (turns : List Turn) → AllByRecursion IsDone turns → left_turns turns ≡ turns
done_stay [] d = refl
done_stay (Binding asked ∷ ts) d = absurd d.0
done_stay (Bound asked group octets ∷ ts) d = refl
done_stay (NotBound asked reason octets ∷ ts) d = refl
done_stay (Answered octets ∷ ts) d = refl
done_stay (Called r ∷ ts) d = ap (λ (x : Deed). Called (record r { deed = x }) ∷ ts) (deed_stays r.deed d.0.1)
done_stay (ClosedTurn octets why ∷ ts) d = refl

pub done_runs : (ts : List Turn) → AllByRecursion IsDone ts → list_any turn_runs ts ≡ false
done_runs [] d = refl
done_runs (Binding asked ∷ ts) d = absurd d.0
done_runs (Bound asked group octets ∷ ts) d = done_runs ts d.1
done_runs (NotBound asked reason octets ∷ ts) d = done_runs ts d.1
done_runs (Answered octets ∷ ts) d = done_runs ts d.1
done_runs (Called r ∷ ts) d = let here = d.0.2 in let more = done_runs ts d.1 in rw (here, more) refl
done_runs (ClosedTurn octets why ∷ ts) d = done_runs ts d.1

pub done_over : (ts : List Turn) → AllByRecursion IsDone ts → AllByRecursion IsOver ts
done_over [] d = tt
done_over (Binding asked ∷ ts) d = absurd d.0
done_over (Bound asked group octets ∷ ts) d = (tt, done_over ts d.1)
done_over (NotBound asked reason octets ∷ ts) d = (tt, done_over ts d.1)
done_over (Answered octets ∷ ts) d = (tt, done_over ts d.1)
done_over (Called r ∷ ts) d = (d.0.0, done_over ts d.1)
done_over (ClosedTurn octets why ∷ ts) d = (tt, done_over ts d.1)

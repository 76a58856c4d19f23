-- Histories one after the other.
use Rattle.std.proofs.Common.{◌≡◌, ℕ, List, [], ◌∷◌, ◌++◌, refl, sym, ap, subst, ◌∙◌, append_assoc}
use Rattle.conn_asks.specs.States.{ConnState}
use Rattle.conn_histories.specs.Histories.{Decision, Event, Happens, Lives, stream, decisions, seen, put, act_octets}
use Rattle.conn_histories.specs.Histories.Event.{Came, Paused, Did, Decided}
use Rattle.conn_histories.specs.Serving.{IsInBoth}

pub go_on : (m n k : ConnState) (a b : List Event) → Lives m a n → Lives n b k → Lives m (a ++ b) k
go_on m n k [] b e l = subst (λ (x : ConnState). Lives x b k) e l
go_on m n k (event ∷ a) b l r = (l.0, l.1, go_on l.0 n k a b l.2 r)

pub one_more : (m n k : ConnState) (events : List Event) (event : Event) → Lives m events n → Happens n event k → Lives m (events ++ event ∷ []) k
one_more m n k events event l h = go_on m n k events (event ∷ []) l (k, h, refl)

came_both : (a b : List Event) → stream (a ++ b) ≡ stream a ++ stream b
came_both [] b = refl
came_both (Came octets ∷ a) b = ap (λ (x : List ℕ). octets ++ x) (came_both a b) ∙ sym (append_assoc octets (stream a) (stream b))
came_both (Paused ∷ a) b = came_both a b
came_both (Did act ∷ a) b = came_both a b
came_both (Decided decision octets ∷ a) b = came_both a b

decided_both : (a b : List Event) → decisions (a ++ b) ≡ decisions a ++ decisions b
decided_both [] b = refl
decided_both (Came octets ∷ a) b = decided_both a b
decided_both (Paused ∷ a) b = decided_both a b
decided_both (Did act ∷ a) b = decided_both a b
decided_both (Decided decision octets ∷ a) b = ap (λ (x : List Decision). decision ∷ x) (decided_both a b)

saw_both : (a b : List Event) → seen (a ++ b) ≡ seen a ++ seen b
saw_both [] b = refl
saw_both (Came octets ∷ a) b = saw_both a b
saw_both (Paused ∷ a) b = saw_both a b
saw_both (Did act ∷ a) b = ap (λ (x : List Event). Did act ∷ x) (saw_both a b)
saw_both (Decided decision octets ∷ a) b = ap (λ (x : List Event). Decided decision octets ∷ x) (saw_both a b)

put_both : (a b : List Event) → put (a ++ b) ≡ put a ++ put b
put_both [] b = refl
put_both (Came octets ∷ a) b = put_both a b
put_both (Paused ∷ a) b = put_both a b
put_both (Did act ∷ a) b = ap (λ (x : List ℕ). act_octets act ++ x) (put_both a b) ∙ sym (append_assoc (act_octets act) (put a) (put b))
put_both (Decided decision octets ∷ a) b = ap (λ (x : List ℕ). octets ++ x) (put_both a b) ∙ sym (append_assoc octets (put a) (put b))

put_seen : (a : List Event) → put (seen a) ≡ put a
put_seen [] = refl
put_seen (Came octets ∷ a) = put_seen a
put_seen (Paused ∷ a) = put_seen a
put_seen (Did act ∷ a) = ap (λ (x : List ℕ). act_octets act ++ x) (put_seen a)
put_seen (Decided decision octets ∷ a) = ap (λ (x : List ℕ). octets ++ x) (put_seen a)

pub put_in_order : (a b : List Event) → IsInBoth a b × (put (seen a) ≡ put a)
put_in_order a b = (record { came = came_both a b; decided = decided_both a b; saw = saw_both a b; puts = put_both a b }, put_seen a)

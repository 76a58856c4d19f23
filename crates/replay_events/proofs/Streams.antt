-- What came and what was put of one history behind another.
use Rattle.std.proofs.Common.{◌≡◌, ℕ, List, [], ◌∷◌, ◌++◌, refl, sym, ap, ◌∙◌, append_assoc}
use Rattle.conn_asks.specs.declared.events.Act.{Act}
use Rattle.conn_histories.specs.Histories.{Decision, Event, stream, put, act_octets}
use Rattle.conn_histories.specs.Histories.Event.{Came, Paused, Did, Decided}

pub stream_more : (a b : List Event) → stream (a ++ b) ≡ stream a ++ stream b
stream_more [] b = refl
stream_more (Came octets ∷ a) b = ap (λ (t : List ℕ). octets ++ t) (stream_more a b) ∙ sym (append_assoc octets (stream a) (stream b))
stream_more (Paused ∷ a) b = stream_more a b
stream_more (Did act ∷ a) b = stream_more a b
stream_more (Decided decision octets ∷ a) b = stream_more a b

pub put_more : (a b : List Event) → put (a ++ b) ≡ put a ++ put b
put_more [] b = refl
put_more (Came octets ∷ a) b = put_more a b
put_more (Paused ∷ a) b = put_more a b
put_more (Did act ∷ a) b = ap (λ (t : List ℕ). act_octets act ++ t) (put_more a b) ∙ sym (append_assoc (act_octets act) (put a) (put b))
put_more (Decided decision octets ∷ a) b = ap (λ (t : List ℕ). octets ++ t) (put_more a b) ∙ sym (append_assoc octets (put a) (put b))

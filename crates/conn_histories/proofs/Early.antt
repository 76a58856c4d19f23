-- A history is as good as the one in which all its octets came first.
use Rattle.std.proofs.Common.{◌≡◌, ℕ, List, [], ◌∷◌, ◌++◌, Option, Some, None, Ok, refl, sym, ap, subst, ◌∙◌, append_assoc, append-nil}
use Rattle.pdu_codec.specs.declared.pdu.Pdu.{Pdu}
use Rattle.conn_asks.specs.declared.events.Act.{Act}
use Rattle.conn_asks.specs.States.{ConnState, with_octets, SkipsAll, Goes}
use Rattle.conn_histories.specs.Histories.{Decision, Event, AnswersDecision, Lives, IsAtRest, stream, seen, turns}
use Rattle.conn_histories.specs.Histories.Event.{Came, Paused, Did, Decided}
use Rattle.conn_histories.proofs.More.{skips_more, skips_append, act_stays}
use Rattle.conn_histories.proofs.OneAct.{one_act}
use Rattle.conn_histories.proofs.Decided.{one_answer, answers_more, moved}

-- acts and answers alone
abbrev pub Acted : ConnState → List Event → ConnState → Type 0
Acted m [] n = n ≡ m
Acted m (Did act ∷ later) n = (between : ConnState) × Goes m (Ok (Some act)) between × Acted between later n
Acted m (Decided decision octets ∷ later) n = (between : ConnState) × AnswersDecision m decision octets between × Acted between later n
Acted m (_ ∷ later) n = ⊥

pub no_octets : (m : ConnState) → with_octets m [] ≡ m
no_octets m = λ i. record m { rest = append-nil m.rest i }

pub octets_append : (m : ConnState) (a b : List ℕ) → with_octets m (a ++ b) ≡ with_octets (with_octets m a) b
octets_append m a b = λ i. record m { rest = sym (append_assoc m.rest a b) i }

-- ---- all octets first

pub record Early (start : ConnState) (events : List Event) (k : ConnState) : Type 0 where
  pub reached : ConnState
  pub acted : Acted start events reached
  pub skipped : List Pdu
  pub skips : SkipsAll reached skipped k

pub early : (events : List Event) (m k start : ConnState) (ps : List Pdu) → SkipsAll start ps (with_octets m (stream events)) → Lives m events k → Early start (seen events) k
early [] m k start ps all e = record {
  reached = start;
  acted = refl;
  skipped = ps;
  skips = subst (λ (x : ConnState). SkipsAll start ps x) (no_octets m ∙ sym e) all;
}
early (Came octets ∷ later) m k start ps all l =
    let same : with_octets m (octets ++ stream later) ≡ with_octets l.0 (stream later) =
    octets_append m octets (stream later) ∙ ap (λ (x : ConnState). with_octets x (stream later)) (sym l.1) in
    early later l.0 k start ps (subst (λ (x : ConnState). SkipsAll start ps x) same all) l.2
early (Paused ∷ later) m k start ps all l =
    let s = stream later in
    let g = l.1 in
    early later l.0 k start (ps ++ g.0) (skips_append start ps g.0 (with_octets m s) (with_octets l.0 s) all (skips_more m g.0 l.0 s g.1)) l.2
early (Did act ∷ later) m k start ps all l =
    let s = stream later in
    let n = with_octets l.0 s in
    let g : Goes (with_octets m s) (Ok (Some act)) n = act_stays m l.0 act s l.1 in
    let whole : Goes start (Ok (Some act)) n = (ps ++ g.0, g.1, skips_append start ps g.0 (with_octets m s) g.1 all g.2, g.3) in
    let rest = early later l.0 k n [] refl l.2 in
    record { reached = rest.reached; acted = (n, whole, rest.acted); skipped = rest.skipped; skips = rest.skips }
early (Decided decision octets ∷ later) m k start ps all l =
    let s = stream later in
    let t = moved start (with_octets m s) (with_octets l.0 s) decision octets ps all (answers_more m l.0 decision octets s l.1) in
    let rest = early later l.0 k t.decided ps t.skips l.2 in
    record { reached = rest.reached; acted = (t.decided, t.answers, rest.acted); skipped = rest.skipped; skips = rest.skips }

-- ---- one way

act_same : (a b : Act) → Some a ≡ Some b → a ≡ b
act_same a b e = cc

decision_same : (a b : Decision) (xs ys : List (Option Decision)) → Some a ∷ xs ≡ Some b ∷ ys → a ≡ b
decision_same a b xs ys e = cc

rest_same : (a b : Option Decision) (xs ys : List (Option Decision)) → a ∷ xs ≡ b ∷ ys → xs ≡ ys
rest_same a b xs ys e = cc

pub acted_alike : (es fs : List Event) (m n k : ConnState) → Acted m es n → Acted m fs k → turns es ≡ turns fs → (es ≡ fs) × (n ≡ k)
acted_alike [] [] m n k h l e = (refl, h ∙ sym l)
acted_alike [] (Did act ∷ later) m n k h l e = absurd (cc (e))
acted_alike [] (Decided decision octets ∷ later) m n k h l e = absurd (cc (e))
acted_alike [] (Came octets ∷ later) m n k h l e = absurd l
acted_alike [] (Paused ∷ later) m n k h l e = absurd l
acted_alike (Did act ∷ later) [] m n k h l e = absurd (cc (e))
acted_alike (Did a ∷ es) (Did b ∷ fs) m n k h l e =
    let one = one_act m h.0 l.0 (Some a) (Some b) h.1 l.1 in
    let act : a ≡ b = act_same a b one.0 in
    let later = acted_alike es fs l.0 n k (subst (λ (x : ConnState). Acted x es n) one.1 h.2) l.2 (rest_same None None (turns es) (turns fs) e) in
    (λ i. Did (act i) ∷ later.0 i, later.1)
acted_alike (Did act ∷ later) (Decided decision octets ∷ others) m n k h l e = absurd (cc (e))
acted_alike (Did act ∷ later) (Came octets ∷ others) m n k h l e = absurd l
acted_alike (Did act ∷ later) (Paused ∷ others) m n k h l e = absurd l
acted_alike (Decided decision octets ∷ later) [] m n k h l e = absurd (cc (e))
acted_alike (Decided decision octets ∷ later) (Did act ∷ others) m n k h l e = absurd (cc (e))
acted_alike (Decided v a ∷ es) (Decided w b ∷ fs) m n k h l e =
    let decision : v ≡ w = decision_same v w (turns es) (turns fs) e in
    let one = one_answer m h.0 l.0 w a b (subst (λ (x : Decision). AnswersDecision m x a h.0) decision h.1) l.1 in
    let later = acted_alike es fs l.0 n k (subst (λ (x : ConnState). Acted x es n) one.1 h.2) l.2 (rest_same (Some v) (Some w) (turns es) (turns fs) e) in
    (λ i. Decided (decision i) (one.0 i) ∷ later.0 i, later.1)
acted_alike (Decided decision octets ∷ later) (Came others ∷ more) m n k h l e = absurd l
acted_alike (Decided decision octets ∷ later) (Paused ∷ more) m n k h l e = absurd l
acted_alike (Came octets ∷ later) fs m n k h l e = absurd h
acted_alike (Paused ∷ later) fs m n k h l e = absurd h

abbrev turn_first : Option Decision → List (Option Decision) → List (Option Decision)
turn_first w later = w ∷ later

turns_seen : (a : List Event) → turns (seen a) ≡ turns a
turns_seen [] = refl
turns_seen (Came octets ∷ later) = turns_seen later
turns_seen (Paused ∷ later) = turns_seen later
turns_seen (Did act ∷ later) = ap (turn_first None) (turns_seen later)
turns_seen (Decided decision octets ∷ later) = ap (turn_first (Some decision)) (turns_seen later)

pub same_acts : (start m n : ConnState) (a b : List Event) → Lives start a m → Lives start b n → stream a ≡ stream b → turns a ≡ turns b
    → (seen a ≡ seen b) × (IsAtRest m → IsAtRest n → m ≡ n)
same_acts start m n a b h k came said =
    let whole = with_octets start (stream a) in
    let x = early a start m whole [] refl h in
    let y = early b start n whole [] (ap (with_octets start) (sym came)) k in
    let same = acted_alike (seen a) (seen b) whole x.reached y.reached x.acted y.acted (turns_seen a ∙ said ∙ sym (turns_seen b)) in
    let meet : IsAtRest m → IsAtRest n → m ≡ n = λ s t.
    (let g : Goes y.reached (Ok None) m = (x.skipped, subst (λ (z : ConnState). SkipsAll z x.skipped m) same.1 x.skips, s) in
    let f : Goes y.reached (Ok None) n = (y.skipped, y.skips, t) in
    (one_act y.reached m n None None g f).1) in
    (same.0, meet)

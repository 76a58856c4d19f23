-- Histories in which the server decides the same, whenever it does.
use Rattle.std.proofs.Common.{◌≡◌, ℕ, List, [], ◌∷◌, ◌++◌, Some, None, Ok, refl, sym, ap, subst, ◌∙◌}
use Rattle.pdu_codec.specs.declared.pdu.Pdu.{Pdu}
use Rattle.conn_asks.specs.declared.events.Act.{Act}
use Rattle.conn_asks.specs.declared.events.Act.TheVariants as acts
use Rattle.conn_asks.specs.States.{ConnState, with_octets, Acts, Goes}
use Rattle.conn_histories.specs.Histories.{Decision, Event, AnswersDecision, Lives, IsAtRest, stream, decisions, with_act, lasting}
use Rattle.conn_histories.specs.Histories.Event.{Came, Paused, Did, Decided}
use Rattle.conn_histories.proofs.More.{skips_more, act_stays}
use Rattle.conn_histories.proofs.Decided.{one_answer, answers_more}
use Rattle.conn_histories.proofs.Early.{no_octets, octets_append}
use Rattle.conn_histories.proofs.Passing.{IsLasting, PassesAll, skip_passes, passes_append, carried, off_passes, passed_alike, decided_before}

-- acts that don't call off, and answers
abbrev pub Lasted : ConnState → List Event → ConnState → Type 0
Lasted m [] n = n ≡ m
Lasted m (Did act ∷ later) n = (ps : List Pdu) × (x : ConnState) × (between : ConnState) × PassesAll m ps x × Acts x act between × IsLasting act × Lasted between later n
Lasted m (Decided decision octets ∷ later) n = (between : ConnState) × AnswersDecision m decision octets between × Lasted between later n
Lasted m (_ ∷ later) n = ⊥

pub record Late (start : ConnState) (events : List Event) (k : ConnState) : Type 0 where
  pub reached : ConnState
  pub lasted : Lasted start events reached
  pub passed : List Pdu
  pub passes : PassesAll reached passed k

-- PDUs that are passed, and an act that calls off
called_off : (start m n : ConnState) (ps : List Pdu) (act : Act) (more : List ℕ) → PassesAll start ps (with_octets m more) → Goes m (Ok (Some act)) n → (IsLasting act → ⊥) → (qs : List Pdu) × PassesAll start qs (with_octets n more)
called_off start m n ps act more all go off =
    let g : Goes (with_octets m more) (Ok (Some act)) (with_octets n more) = act_stays m n act more go in
    let last = off_passes g.1 (with_octets n more) act g.3 off in
    let behind : PassesAll g.1 (last.0 ∷ []) (with_octets n more) = (with_octets n more, last.1, refl) in
    let skipped : PassesAll start (ps ++ g.0) g.1 = passes_append start ps g.0 (with_octets m more) g.1 all (skip_passes (with_octets m more) g.0 g.1 g.2) in
    ((ps ++ g.0) ++ last.0 ∷ [], passes_append start (ps ++ g.0) (last.0 ∷ []) g.1 (with_octets n more) skipped behind)

-- an act that doesn't
lasts_on : (start m n k : ConnState) (ps : List Pdu) (act : Act) (events : List Event) (more : List ℕ) → PassesAll start ps (with_octets m more) → Goes m (Ok (Some act)) n → IsLasting act
    → Late (with_octets n more) events k → Late start (Did act ∷ events) k
lasts_on start m n k ps act events more all go l rest =
    let g : Goes (with_octets m more) (Ok (Some act)) (with_octets n more) = act_stays m n act more go in
    let skipped : PassesAll start (ps ++ g.0) g.1 = passes_append start ps g.0 (with_octets m more) g.1 all (skip_passes (with_octets m more) g.0 g.1 g.2) in
    record {
      reached = rest.reached;
      lasted = (ps ++ g.0, g.1, with_octets n more, skipped, g.3, l, rest.lasted);
      passed = rest.passed;
      passes = rest.passes;
    }

pub late : (events : List Event) (m k start : ConnState) (ps : List Pdu) → PassesAll start ps (with_octets m (stream events)) → Lives m events k → Late start (lasting events) k
late [] m k start ps all e = record {
  reached = start;
  lasted = refl;
  passed = ps;
  passes = subst (λ (x : ConnState). PassesAll start ps x) (no_octets m ∙ sym e) all;
}
late (Came octets ∷ later) m k start ps all l =
    let same : with_octets m (octets ++ stream later) ≡ with_octets l.0 (stream later) =
    octets_append m octets (stream later) ∙ ap (λ (x : ConnState). with_octets x (stream later)) (sym l.1) in
    late later l.0 k start ps (subst (λ (x : ConnState). PassesAll start ps x) same all) l.2
late (Paused ∷ later) m k start ps all l =
    let s = stream later in
    let g = l.1 in
    let behind = skip_passes (with_octets m s) g.0 (with_octets l.0 s) (skips_more m g.0 l.0 s g.1) in
    late later l.0 k start (ps ++ g.0) (passes_append start ps g.0 (with_octets m s) (with_octets l.0 s) all behind) l.2
late (Did (acts.Cancel id) ∷ later) m k start ps all l =
    let off = called_off start m l.0 ps (acts.Cancel id) (stream later) all l.1 (λ h. h) in
    late later l.0 k start off.0 off.1 l.2
late (Did (acts.Orphan id) ∷ later) m k start ps all l =
    let off = called_off start m l.0 ps (acts.Orphan id) (stream later) all l.1 (λ h. h) in
    late later l.0 k start off.0 off.1 l.2
late (Did (acts.Answer octets) ∷ later) m k start ps all l =
    lasts_on start m l.0 k ps (acts.Answer octets) (lasting later) (stream later) all l.1 tt (late later l.0 k (with_octets l.0 (stream later)) [] refl l.2)
late (Did (acts.Group id) ∷ later) m k start ps all l =
    lasts_on start m l.0 k ps (acts.Group id) (lasting later) (stream later) all l.1 tt (late later l.0 k (with_octets l.0 (stream later)) [] refl l.2)
late (Did (acts.Call j number) ∷ later) m k start ps all l =
    lasts_on start m l.0 k ps (acts.Call j number) (lasting later) (stream later) all l.1 tt (late later l.0 k (with_octets l.0 (stream later)) [] refl l.2)
late (Did (acts.Close octets f) ∷ later) m k start ps all l =
    lasts_on start m l.0 k ps (acts.Close octets f) (lasting later) (stream later) all l.1 tt (late later l.0 k (with_octets l.0 (stream later)) [] refl l.2)
late (Decided decision octets ∷ later) m k start ps all l =
    let s = stream later in
    let t = carried start (with_octets m s) (with_octets l.0 s) decision octets ps all (answers_more m l.0 decision octets s l.1) in
    let rest = late later l.0 k t.decided ps t.passes l.2 in
    record { reached = rest.reached; lasted = (t.decided, t.answers, rest.lasted); passed = rest.passed; passes = rest.passes }

-- ---- one way

act_same : (a b : Act) → Some a ≡ Some b → a ≡ b
act_same a b e = cc

first_same : (a b : Decision) (xs ys : List Decision) → a ∷ xs ≡ b ∷ ys → a ≡ b
first_same a b xs ys e = cc

rest_same : (a b : Decision) (xs ys : List Decision) → a ∷ xs ≡ b ∷ ys → xs ≡ ys
rest_same a b xs ys e = cc

-- one is at rest where the other does something
more_done : (m n x : ConnState) (ps : List Pdu) (act : Act) (later : List Event) (k : ConnState) → n ≡ m → PassesAll n ps x → IsAtRest x → Lasted m (Did act ∷ later) k → ⊥
more_done m n x ps act later k e all rest l =
    let wrong : None ≡ Some act = (passed_alike m x l.1 x l.2 ps l.0 None (Some act) (subst (λ (z : ConnState). PassesAll z ps x) e all) l.3 (refl, rest) (l.4, l.5)).0 in
    absurd (cc (wrong))

pub lasted_alike : (es fs : List Event) (m n k x y : ConnState) (ps qs : List Pdu) → Lasted m es n → Lasted m fs k → decisions es ≡ decisions fs
    → PassesAll n ps x → IsAtRest x → PassesAll k qs y → IsAtRest y → (es ≡ fs) × (x ≡ y)
lasted_alike [] [] m n k x y ps qs h l e u s v t =
    let u' : PassesAll m ps x = subst (λ (z : ConnState). PassesAll z ps x) h u in
    let v' : PassesAll m qs y = subst (λ (z : ConnState). PassesAll z qs y) l v in
    (refl, (passed_alike m x y x y ps qs None None u' v' (refl, s) (refl, t)).1)
lasted_alike [] (Did act ∷ later) m n k x y ps qs h l e u s v t = absurd (more_done m n x ps act later k h u s l)
lasted_alike [] (Decided decision octets ∷ later) m n k x y ps qs h l e u s v t = absurd (cc (e))
lasted_alike [] (Came octets ∷ later) m n k x y ps qs h l e u s v t = absurd l
lasted_alike [] (Paused ∷ later) m n k x y ps qs h l e u s v t = absurd l
lasted_alike (Did act ∷ later) [] m n k x y ps qs h l e u s v t = absurd (more_done m k y qs act later n l v t h)
lasted_alike (Did a ∷ es) (Did b ∷ fs) m n k x y ps qs h l e u s v t =
    let one = passed_alike m h.1 l.1 h.2 l.2 h.0 l.0 (Some a) (Some b) h.3 l.3 (h.4, h.5) (l.4, l.5) in
    let act : a ≡ b = act_same a b one.0 in
    let later = lasted_alike es fs l.2 n k x y ps qs (subst (λ (z : ConnState). Lasted z es n) one.1 h.6) l.6 e u s v t in
    (λ i. Did (act i) ∷ later.0 i, later.1)
lasted_alike (Did act ∷ later) (Decided decision octets ∷ others) m n k x y ps qs h l e u s v t =
    absurd (decided_before m l.0 h.1 h.2 decision octets h.0 act l.1 h.3 h.4 h.5)
lasted_alike (Did act ∷ later) (Came octets ∷ others) m n k x y ps qs h l e u s v t = absurd l
lasted_alike (Did act ∷ later) (Paused ∷ others) m n k x y ps qs h l e u s v t = absurd l
lasted_alike (Decided decision octets ∷ later) [] m n k x y ps qs h l e u s v t = absurd (cc (e))
lasted_alike (Decided decision octets ∷ later) (Did act ∷ others) m n k x y ps qs h l e u s v t =
    absurd (decided_before m h.0 l.1 l.2 decision octets l.0 act h.1 l.3 l.4 l.5)
lasted_alike (Decided v a ∷ es) (Decided w b ∷ fs) m n k x y ps qs h l e u s p t =
    let decision : v ≡ w = first_same v w (decisions es) (decisions fs) e in
    let one = one_answer m h.0 l.0 w a b (subst (λ (z : Decision). AnswersDecision m z a h.0) decision h.1) l.1 in
    let later = lasted_alike es fs l.0 n k x y ps qs (subst (λ (z : ConnState). Lasted z es n) one.1 h.2) l.2 (rest_same v w (decisions es) (decisions fs) e) u s p t in
    (λ i. Decided (decision i) (one.0 i) ∷ later.0 i, later.1)
lasted_alike (Decided decision octets ∷ later) (Came others ∷ more) m n k x y ps qs h l e u s v t = absurd l
lasted_alike (Decided decision octets ∷ later) (Paused ∷ more) m n k x y ps qs h l e u s v t = absurd l
lasted_alike (Came octets ∷ later) fs m n k x y ps qs h l e u s v t = absurd h
lasted_alike (Paused ∷ later) fs m n k x y ps qs h l e u s v t = absurd h

decisions_with : (act : Act) (later : List Event) → decisions (with_act act later) ≡ decisions later
decisions_with (acts.Cancel id) later = refl
decisions_with (acts.Orphan id) later = refl
decisions_with (acts.Answer octets) later = refl
decisions_with (acts.Group id) later = refl
decisions_with (acts.Call j number) later = refl
decisions_with (acts.Close octets f) later = refl

decisions_lasting : (a : List Event) → decisions (lasting a) ≡ decisions a
decisions_lasting [] = refl
decisions_lasting (Came octets ∷ later) = decisions_lasting later
decisions_lasting (Paused ∷ later) = decisions_lasting later
decisions_lasting (Did act ∷ later) = decisions_with act (lasting later) ∙ decisions_lasting later
decisions_lasting (Decided decision octets ∷ later) = ap (λ (ws : List Decision). decision ∷ ws) (decisions_lasting later)

pub same_answers : (start m n : ConnState) (a b : List Event) → Lives start a m → Lives start b n → stream a ≡ stream b → decisions a ≡ decisions b
    → IsAtRest m → IsAtRest n → (lasting a ≡ lasting b) × (m ≡ n)
same_answers start m n a b h k came said s t =
    let whole = with_octets start (stream a) in
    let x = late a start m whole [] refl h in
    let y = late b start n whole [] (ap (with_octets start) (sym came)) k in
    lasted_alike (lasting a) (lasting b) whole x.reached y.reached m n x.passed y.passed x.lasted y.lasted
    (decisions_lasting a ∙ said ∙ sym (decisions_lasting b)) x.passes s y.passes t

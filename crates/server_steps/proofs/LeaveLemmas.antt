-- Where a connection comes to, by the end of its call and by its Leave.
use Rattle.std.proofs.Common.{◌≡◌, ◌==◌, ℕ, Bool, true, false, ◌||◌, Option, Some, None, List, [], ◌∷◌, ◌++◌, refl, sym, ap, ◌∙◌, subst, ◌⊎◌, inl, inr}
use Rattle.std.specs.List.{list_any, AllByRecursion}
use Rattle.std.proofs.lemmas.List.{append_cancel_right}
use mathlib.Core.Option.{some}
use lib.ListN.{get_elem?}
use Rattle.rpc_outside.specs.Links.{Shown}
use Rattle.handle_model.specs.declared.entry.Home.{Home}
use Rattle.handle_model.specs.declared.entry.Slot.{Slot}
use Rattle.handle_model.specs.declared.entry.Outcome.{Outcome}
use Rattle.handle_model.specs.declared.entry.Said.{Said}
use Rattle.handle_model.specs.declared.entry.Asked.{Asked}
use Rattle.handle_model.specs.declared.entry.Entry.{Entry}
use Rattle.handle_model.specs.declared.entry.Entry.TheVariants.{End, Leave, Shut}
use Rattle.handle_model.specs.Entries.{is_shut}
use Rattle.handle_model.specs.History.{History}
use Rattle.group_core.specs.declared.answer.Rest.{Rest}
use Rattle.group_core.specs.declared.answer.Rest.TheVariants as rests
use Rattle.group_core.specs.Conns.{Settles as SettlesBy}
use Rattle.hub_story.specs.declared.item.Mark.TheVariants.{Retired as MarkedRetired}
use Rattle.hub_story.specs.declared.item.Item.{Item}
use Rattle.hub_story.specs.declared.item.Item.TheVariants.{Of, Listed}
use Rattle.hub_story.specs.Histories.{home_of, past_in, marks_in, items_of}
use Rattle.hub_story.specs.Passes.{HasOwn, Serves, Runs}
use Rattle.hub_story.specs.Still.{StillHas}
use Rattle.hub_story.proofs.HaveLemmas.{own_stays, own_entered}
use Rattle.group_hub.specs.declared.hub.Hub.{Hub}
use Rattle.group_hub.specs.declared.pass.Pass.{Pass}
use Rattle.group_hub.specs.Shards.{shard_of}
use Rattle.group_hub.specs.Passes.{IsPassOf, at_shard, CallsAt, EntersAt}
use Rattle.hub_shard.specs.declared.answer.Retired.{Retired}
use Rattle.hub_shard.specs.declared.answer.HubRest.{HubRest}
use Rattle.hub_shard.specs.declared.answer.HubRest.TheVariants as hub_rest
use Rattle.hub_shard.specs.Answers.{SettlesWith}
use Rattle.ndr_table.specs.Tables.{TableForm}
use Rattle.manager_api.specs.Answers.{Ans}
use Rattle.manager_api.specs.Calls.{Call}
use Rattle.pdu_stream.specs.declared.joined.Joined.{Joined}
use Rattle.conn_histories.specs.Requests.{ids_of}
use Rattle.server_steps.specs.declared.wire.Wire.{Wire}
use Rattle.conn_histories.specs.declared.turn.Off.{Off}
use Rattle.conn_histories.specs.declared.turn.Fate.{Fate}
use Rattle.conn_histories.specs.declared.turn.Fate.TheVariants.{Waiting, Running, LeftWaiting, LeftRunning}
use Rattle.conn_histories.specs.declared.turn.Deed.TheVariants.{Accepted}
use Rattle.conn_histories.specs.declared.turn.Turn.{Turn}
use Rattle.conn_histories.specs.declared.turn.Turn.TheVariants.{Binding, Bound, NotBound, Answered, Called, Closed}
use Rattle.conn_histories.specs.Entries.{has_left, is_running, numbers_of}
use Rattle.conn_histories.specs.Stories.{Server, Made, HasOwnShut}
use Rattle.conn_histories.specs.Tales.{whole}
use Rattle.conn_turns.specs.Steps.{left_turns, OnlyNewestOpen}
use Rattle.conn_turns.proofs.Done.{only_done, done_closed, done_may, done_stay, done_runs, done_over}
use Rattle.conn_turns.proofs.Making.{MayLeave}
use Rattle.conn_turns.proofs.Stepping.{past_is, ended_fate, EndsWell}
use Rattle.conn_turns.proofs.StepEnding.{ended_so, left_so}
use Rattle.server_ends.specs.Finishes.{retired_by, opened_by, retired_in, marks_of}
use Rattle.server_steps.specs.declared.line.Line.{Line}
use Rattle.server_steps.specs.declared.stop.Stop.{Stop}
use Rattle.server_steps.specs.declared.gone.Gone.{Gone}
use Rattle.server_steps.specs.Held.{past_at, HeldMarked, Held, Settles, retired_after}
use Rattle.server_steps.specs.Told.{Halted}
use Rattle.server_steps.specs.Lines.{server, ServesIn}
use Rattle.server_steps.specs.Calls.{request}
use Rattle.server_steps.specs.Endings.{IsCutRunning, IsGone, IsStopping, IsLeft}
use Rattle.server_steps.proofs.Holding.{retired_still, Stepped, stepped, entered, marked}

-- ---- an entry, and the Shut where that is then due

abbrev some_retired : ℕ → Option Retired
some_retired n = Some (record { group = n })

-- that the group was retired is told by the Shut
retired_so : (g : ℕ) (home : Home) (before es mine : List Entry) (e : Entry) (rest : HubRest) → is_shut e ≡ false → SettlesWith g e rest (whole home before) (whole home (es ++ before))
    → retired_after rest (retired_by g mine) ≡ retired_by g (es ++ mine)
retired_so g home before es mine e hub_rest.Stays plain t =
    let is : es ≡ e ∷ [] = append_cancel_right es (e ∷ []) before (past_is (whole home before) (whole home (es ++ before)) (e ∷ []) t.1) in
    retired_still g es mine (ap (list_any is_shut) is ∙ (λ i. plain i || false))
retired_so g home before es mine e (hub_rest.Shut items key) plain t =
    let is : es ≡ Shut items ∷ e ∷ [] = append_cancel_right es (Shut items ∷ e ∷ []) before (past_is (whole home before) (whole home (es ++ before)) (Shut items ∷ e ∷ []) t.1.2) in
    ap some_retired t.0 ∙ ap (λ l. retired_by g (l ++ mine)) (sym is)

-- where the group has ended, nothing told of that before
abbrev ToldNone : HubRest → Option Retired → Type 0
ToldNone hub_rest.Stays before = Unit {0}
ToldNone (hub_rest.Shut items key) before = before ≡ None

none_told : (g : ℕ) (mine : List Entry) → list_any is_shut mine ≡ false → retired_by g mine ≡ None
none_told g mine h = rw h refl

-- since a group has one Shut
first_shut : (s : Server) (g c : ℕ) (home : Home) (before es mine past : List Entry) (gone : Bool) (turns : List Turn) (e : Entry) (rest : HubRest) (retired : Option Retired) → SettlesWith g e rest (whole home before) (whole home (es ++ before))
    → Made s home c past gone turns (es ++ mine) → retired ≡ retired_by g mine → ToldNone rest retired
first_shut s g c home before es mine past gone turns e hub_rest.Stays retired t m is = tt
first_shut s g c home before es mine past gone turns e (hub_rest.Shut items key) retired t m is =
    let es_are : es ≡ Shut items ∷ e ∷ [] = append_cancel_right es (Shut items ∷ e ∷ []) before (past_is (whole home before) (whole home (es ++ before)) (Shut items ∷ e ∷ []) t.1.2) in
    let own : HasOwnShut home c (numbers_of turns) past (Shut items ∷ e ∷ mine) = subst (λ l. HasOwnShut home c (numbers_of turns) past (l ++ mine)) es_are m.shut in
    is ∙ none_told g mine (neither (is_shut e) (list_any is_shut mine) own.0)
  where
    neither : (a b : Bool) → (a || b) ≡ false → b ≡ false
    neither true b h = absurd cc
    neither false b h = h

-- it is retired
pub settled : (s : Server) (boot : ℕ) (p q r : Pass) (g c : ℕ) (before : Option Retired) (gone : Bool) (turns : List Turn) (e : Entry) (rest : HubRest) (j k : History) → SettlesWith g e rest j k → Settles boot rest q r → ToldNone rest before
    → HeldMarked s boot p q g c (retired_after rest before) (marks_of before turns) gone turns → Held s boot p r g c (retired_after rest before) gone turns
settled s boot p q r g c before gone turns e hub_rest.Stays j k w is none h = subst (λ (z : Pass). Held s boot p z g c before gone turns) (sym is) h
settled s boot p q r g c before gone turns e (hub_rest.Shut items key) j k w call none h =
    retired_at (subst (λ (n : ℕ). EntersAt boot n q r (λ log more. more ≡ Listed (MarkedRetired n) ∷ [])) w.0 call.0)
  where
    ended : Option Retired
    ended = some_retired key

    retired_at : EntersAt boot g q r (λ log more. more ≡ Listed (MarkedRetired g) ∷ []) → Held s boot p r g c ended gone turns
    retired_at x =
        let marks : marks_in x.here.1 ++ marks_of before turns ≡ marks_of ended turns = (λ i. marks_in (x.here.3 i) ++ marks_of (none i) turns) ∙ ap (λ n. MarkedRetired n ∷ opened_by turns) (sym w.0) in
        subst (λ m. HeldMarked s boot p r g c ended m gone turns) marks (marked s boot p q r g c ended gone turns h x.here.0 x.here.1 x.here.2 x.others (λ o. ap (past_in o) x.here.3))

-- and the connection is still served
pub serves_settled : (boot : ℕ) (q r : Pass) (g c : ℕ) (e : Entry) (rest : HubRest) (j k : History) → SettlesWith g e rest j k → Settles boot rest q r → Serves (at_shard q (shard_of g)) g c → Serves (at_shard r (shard_of g)) g c
serves_settled boot q r g c e hub_rest.Stays j k w is h = subst (λ (z : Pass). Serves (at_shard z (shard_of g)) g c) (sym is) h
serves_settled boot q r g c e (hub_rest.Shut items key) j k w call h =
    let still = subst (λ (n : ℕ). StillHas (at_shard q (shard_of n)) (at_shard r (shard_of n)) (Listed (MarkedRetired n) ∷ [])) w.0 call.1 in
    still.serves g c ((λ x. absurd (cc x)), tt) h

-- and a call that runs may still be ended
pub runs_settled : (boot : ℕ) (q r : Pass) (g k : ℕ) (results : List Outcome) (e : Entry) (rest : HubRest) (j i : History) → SettlesWith g e rest j i → Settles boot rest q r → Runs (at_shard q (shard_of g)) g k results
    → Runs (at_shard r (shard_of g)) g k results
runs_settled boot q r g k results e hub_rest.Stays j i w is h = subst (λ (z : Pass). Runs (at_shard z (shard_of g)) g k results) (sym is) h
runs_settled boot q r g k results e (hub_rest.Shut items key) j i w call h =
    let still = subst (λ (n : ℕ). StillHas (at_shard q (shard_of n)) (at_shard r (shard_of n)) (Listed (MarkedRetired n) ∷ [])) w.0 call.1 in
    still.runs g k results (λ others said. ((λ x. absurd (cc x)), tt)) h

-- what it owns stays its own
own_settled : (boot : ℕ) (q r : Pass) (g : ℕ) (a : Item) (e : Entry) (rest : HubRest) (j k : History) → SettlesWith g e rest j k → Settles boot rest q r → HasOwn (at_shard q (shard_of g)) a → HasOwn (at_shard r (shard_of g)) a
own_settled boot q r g a e hub_rest.Stays j k w is h = subst (λ (z : Pass). HasOwn (at_shard z (shard_of g)) a) (sym is) h
own_settled boot q r g a e (hub_rest.Shut items key) j k w call h =
    let x = subst (λ (n : ℕ). EntersAt boot n q r (λ log more. more ≡ Listed (MarkedRetired n) ∷ [])) w.0 call.0 in
    own_stays boot (shard_of g) (at_shard q (shard_of g)) (at_shard r (shard_of g)) x.here.0 x.here.1 x.here.2 a h

-- the entry comes first
first_came : (g : ℕ) (home : Home) (before es : List Entry) (e : Entry) (rest : HubRest) → SettlesWith g e rest (whole home before) (whole home (es ++ before)) → get_elem? (items_of g es) 0 ≡ some (Of g e)
first_came g home before es e hub_rest.Stays t =
    ap (λ l. get_elem? (items_of g l) 0) (append_cancel_right es (e ∷ []) before (past_is (whole home before) (whole home (es ++ before)) (e ∷ []) t.1))
first_came g home before es e (hub_rest.Shut items key) t =
    ap (λ l. get_elem? (items_of g l) 0) (append_cancel_right es (Shut items ∷ e ∷ []) before (past_is (whole home before) (whole home (es ++ before)) (Shut items ∷ e ∷ []) t.1.2))

-- and is the pass's own
pub own_came : (boot : ℕ) (q r z : Pass) (g : ℕ) (e : Entry) (rest : HubRest) → CallsAt boot g q r (SettlesWith g e rest) → Settles boot rest r z → HasOwn (at_shard z (shard_of g)) (Of g e)
own_came boot q r z g e rest call settles =
    let v = at_shard q (shard_of g) in
    let came = first_came g (home_of boot g) (past_in g (v.log ++ call.here.0)) call.here.1 e rest call.here.3 in
    own_settled boot r z g (Of g e) e rest _ _ call.here.3 settles
    (own_entered boot (shard_of g) v (at_shard r (shard_of g)) call.here.0 (items_of g call.here.1) call.here.2 0 (Of g e) came)

-- a connection that leaves opens no group
left_opened : (turns : List Turn) → opened_by (left_turns turns) ≡ opened_by turns
left_opened [] = refl
left_opened (Binding asked ∷ turns) = refl
left_opened (Bound asked group octets ∷ turns) = refl
left_opened (NotBound asked reason octets ∷ turns) = refl
left_opened (Answered octets ∷ turns) = refl
left_opened (Called r ∷ turns) = refl
left_opened (Closed octets fault ∷ turns) = refl

-- ---- a running call ends, whose connection is there or has left

module _ (s : Server) (boot : ℕ) (p q r : Pass) (g c : ℕ) (retired : Option Retired) (gone : Bool) (j : Joined) (iface k : ℕ) (ts : List Turn) (apart : AllByRecursion (λ m. (k == m) ≡ false) (numbers_of ts))
    (offs : List Off) (slots : List Slot) (cookies : List (Option ℕ)) (fate : Fate) (results : List Outcome) (said : Said) (rest : HubRest) where
  abbrev home : Home
  home = home_of boot g

  abbrev before : List Turn
  before = request j iface offs (Accepted k slots fate) ∷ ts

  abbrev behind : List Turn
  behind = request j iface offs (Accepted k slots (ended_fate results said fate)) ∷ ts

  module _ (h : Held s boot p q g c retired gone before) (call : CallsAt boot g q r (SettlesWith g (End k results said) rest)) (runs : is_running fate ≡ true) (left : has_left fate ≡ gone)
      (which : (fate ≡ Running cookies) ⊎ (fate ≡ LeftRunning cookies)) (well : EndsWell s home home c gone j iface k ts apart offs slots cookies results said) where
    abbrev b : Stepped s boot q r g c gone before h.mine (SettlesWith g (End k results said) rest)
    b = stepped s boot p q r g c retired gone before h (SettlesWith g (End k results said) rest) call

    by_rest : (o : Rest) → SettlesBy (whole home b.before) (End k results said) o (whole home (b.es ++ b.before)) → (now : Option Retired) → now ≡ retired_by g (b.es ++ h.mine)
        → HeldMarked s boot p r g c now (marks_of retired behind) gone behind × ToldNone rest retired
    by_rest o t now is =
        let w = ended_so s home home c gone j iface k ts apart b.before (b.es ++ b.before) offs slots h.mine results said b.legal fate cookies o runs left which well t b.made in
        let same : w.es ≡ b.es = sym (append_cancel_right b.es w.es b.before w.is) in
        let made : Made s home c (past_at r g) gone (request j iface w.offs (Accepted k w.slots w.fate) ∷ ts) (w.es ++ h.mine) =
        subst (λ (z : List Entry × List Entry). Made s home c z.0 gone (request j iface w.offs (Accepted k w.slots w.fate) ∷ ts) z.1) (λ i. (sym b.after i, w.grows i)) w.made in (
          subst (λ (z : List Off × List Slot × Fate). HeldMarked s boot p r g c now (marks_of retired behind) gone (request j iface z.0 (Accepted k z.1 z.2) ∷ ts)) (λ i. (w.so.0 i, w.so.4 i, w.so.5 i))
              (entered s boot p q r g c retired gone before h (SettlesWith g (End k results said) rest) b w.es now gone (request j iface w.offs (Accepted k w.slots w.fate) ∷ ts) same made (is ∙ ap (λ z. retired_by g (z ++ h.mine)) (sym same))),
          first_shut s g c home b.before b.es h.mine (past_at r g) gone (request j iface w.offs (Accepted k w.slots w.fate) ∷ ts) (End k results said) rest retired b.answers
              (subst (λ z. Made s home c (past_at r g) gone (request j iface w.offs (Accepted k w.slots w.fate) ∷ ts) (z ++ h.mine)) same made) h.retired_is,
        )

    by_answer : (x : HubRest) → SettlesWith g (End k results said) x (whole home b.before) (whole home (b.es ++ b.before)) → retired_after x (retired_by g h.mine) ≡ retired_by g (b.es ++ h.mine)
        → HeldMarked s boot p r g c (retired_after x retired) (marks_of retired behind) gone behind × ToldNone rest retired
    by_answer hub_rest.Stays t is = by_rest rests.Stays t retired (h.retired_is ∙ is)
    by_answer (hub_rest.Shut items key) t is = by_rest (rests.Shut items) t.1 (some_retired key) is

    held_ended : HeldMarked s boot p r g c (retired_after rest retired) (marks_of retired behind) gone behind × ToldNone rest retired
    held_ended = by_answer rest b.answers (retired_so g home b.before b.es h.mine (End k results said) rest refl b.answers)

    -- and the group is retired where it has ended
    pub held_settled : (z : Pass) → Settles boot rest r z → Held s boot p z g c (retired_after rest retired) gone behind
    held_settled z settles = settled s boot p r z g c retired gone behind (End k results said) rest _ _ b.answers settles held_ended.1 held_ended.0

    pub serves_ended : (z : Pass) → Settles boot rest r z → StillHas (at_shard q (shard_of g)) (at_shard r (shard_of g)) (Of g (End k results said) ∷ []) → Serves (at_shard q (shard_of g)) g c → Serves (at_shard z (shard_of g)) g c
    serves_ended z settles still serves = serves_settled boot r z g c (End k results said) rest _ _ b.answers settles (still.serves g c ((λ e. absurd (cc e)), tt) serves)

module _ {K : Type 0} (shows : K → Shown) (may : Call → Bool → Ans → Type 0) (tables : List TableForm) (hub : Hub) where
  abbrev served : Server
  served = server shows may tables hub

  -- ---- a connection leaves

  module _ (l : Line K) (q r : Pass) (why : Stop) (rest : HubRest) (call : CallsAt hub.boot l.group l.pass q (SettlesWith l.group (Leave l.number) rest)) (settles : Settles hub.boot rest q r) where
    held_left : (turns : List Turn) → OnlyNewestOpen turns → MayLeave served (home_of hub.boot l.group) l.number turns → Held served hub.boot l.began.value l.pass l.group l.number l.retired false turns
        → Held served hub.boot l.began.value r l.group l.number (retired_after rest l.retired) true (left_turns turns)
    held_left turns newest may_ h =
        let x = by rest c.answers (retired_so l.group home c.before c.es h.mine (Leave l.number) rest refl c.answers) in
        settled served hub.boot l.began.value q r l.group l.number l.retired true (left_turns turns) (Leave l.number) rest _ _ c.answers settles x.1 x.0
      where
        home : Home
        home = home_of hub.boot l.group

        c : Stepped served hub.boot l.pass q l.group l.number false turns h.mine (SettlesWith l.group (Leave l.number) rest)
        c = stepped served hub.boot l.began.value l.pass q l.group l.number l.retired false turns h (SettlesWith l.group (Leave l.number) rest) call

        by_rest : (o : Rest) → SettlesBy (whole home c.before) (Leave l.number) o (whole home (c.es ++ c.before)) → (now : Option Retired) → now ≡ retired_by l.group (c.es ++ h.mine)
            → HeldMarked served hub.boot l.began.value q l.group l.number now (marks_of l.retired (left_turns turns)) true (left_turns turns) × ToldNone rest l.retired
        by_rest o t now is =
            let w = left_so served home home l.number turns c.before (c.es ++ c.before) h.mine o c.legal newest may_ t c.made in
            let same : w.es ≡ c.es = sym (append_cancel_right c.es w.es c.before w.is) in
            let made : Made served home l.number (past_at q l.group) true (left_turns turns) (w.es ++ h.mine) = subst (λ (z : List Entry × List Entry). Made served home l.number z.0 true (left_turns turns) z.1) (λ i. (sym c.after i, w.grows i)) w.made in (
              subst (λ m. HeldMarked served hub.boot l.began.value q l.group l.number now (retired_in l.retired ++ m) true (left_turns turns)) (sym (left_opened turns))
                  (entered served hub.boot l.began.value l.pass q l.group l.number l.retired false turns h (SettlesWith l.group (Leave l.number) rest) c w.es now true (left_turns turns) same made (is ∙ ap (λ z. retired_by l.group (z ++ h.mine)) (sym same))),
              first_shut served l.group l.number home c.before c.es h.mine (past_at q l.group) true (left_turns turns) (Leave l.number) rest l.retired c.answers
                  (subst (λ z. Made served home l.number (past_at q l.group) true (left_turns turns) (z ++ h.mine)) same made) h.retired_is,
            )

        by : (x : HubRest) → SettlesWith l.group (Leave l.number) x (whole home c.before) (whole home (c.es ++ c.before)) → retired_after x (retired_by l.group h.mine) ≡ retired_by l.group (c.es ++ h.mine)
            → HeldMarked served hub.boot l.began.value q l.group l.number (retired_after x l.retired) (marks_of l.retired (left_turns turns)) true (left_turns turns) × ToldNone rest l.retired
        by hub_rest.Stays t is = by_rest rests.Stays t l.retired (h.retired_is ∙ is)
        by (hub_rest.Shut items key) t is = by_rest (rests.Shut items) t.1 (some_retired key) is

    pub left_as : IsPassOf hub r → IsStopping shows may tables hub l why → IsLeft shows may tables hub (record l { pass = r; retired = retired_after rest l.retired }) why
    left_as pass (inl x) = record {
      pass = pass;
      turns = x.turns;
      over = done_over x.turns x.done;
      none_runs = done_runs x.turns x.done;
      held = subst (λ (z : List Turn). Held served hub.boot l.began.value r l.group l.number (retired_after rest l.retired) true z) (done_stay x.turns x.done)
          (held_left x.turns (done_closed x.turns x.done) (done_may served (home_of hub.boot l.group) l.number x.turns x.done) x.held);
      halted = x.halted;
    }
    left_as pass (inr x) = record {
      pass = pass;
      turns = request x.j x.iface [] (Accepted x.k x.slots LeftWaiting) ∷ x.turns;
      over = (refl, done_over x.turns x.done);
      none_runs = done_runs x.turns x.done;
      held = held_left (request x.j x.iface [] (Accepted x.k x.slots Waiting) ∷ x.turns) (only_done (request x.j x.iface [] (Accepted x.k x.slots Waiting)) x.turns x.done) (λ o. x.unmarked) x.held;
      halted = x.halted;
    }

  -- while a call runs
  pub gone_as : (l : Line K) (q r : Pass) (why : Stop) (rest : HubRest) (k : ℕ) (a : Asked) (cookies : List (Option ℕ)) → IsCutRunning shows may tables hub l why k a cookies
      → CallsAt hub.boot l.group l.pass q (SettlesWith l.group (Leave l.number) rest) → Settles hub.boot rest q r → IsPassOf hub r
      → StillHas (at_shard l.pass (shard_of l.group)) (at_shard q (shard_of l.group)) (Of l.group (Leave l.number) ∷ [])
      → (m : Gone K) → m ≡ record { pass = r; group = l.group; number = l.number; retired = retired_after rest l.retired; began = l.began; wire = m.wire } → m.wire.value ≡ l.wire
      → IsGone shows may tables hub m why k a cookies
  gone_as l q r why rest k a cookies x call settles pass still m is wire =
      let home = home_of hub.boot l.group in
      let before = request x.j x.iface x.offs (Accepted k a.slots (Running cookies)) ∷ x.turns in
      let c = stepped served hub.boot l.began.value l.pass q l.group l.number l.retired false before x.held (SettlesWith l.group (Leave l.number) rest) call in
      subst (λ (z : Gone K). IsGone shows may tables hub z why k a cookies) (sym is) (record {
        pass = pass;
        j = x.j;
        iface = x.iface;
        offs = x.offs;
        turns = x.turns;
        done = x.done;
        apart = x.apart;
        asked = x.asked;
        runs = λ results suits. runs_settled hub.boot q r l.group k results (Leave l.number) rest _ _ c.answers settles (still.runs l.group k results (λ others said. ((λ e. absurd (cc e)), tt)) (x.runs results suits));
        held = held_left l q r why rest call settles before (only_done (request x.j x.iface x.offs (Accepted k a.slots (Running cookies))) x.turns x.done) (λ o. x.unmarked) x.held;
        halted = λ deed. subst (λ (w : Wire K). Halted shows (ids_of tables) w why (request x.j x.iface x.offs deed ∷ x.turns)) (sym wire) (x.halted deed);
      })

  pub serves_stopping : (l : Line K) (why : Stop) → IsStopping shows may tables hub l why → ServesIn shows may tables hub l
  serves_stopping l why (inl x) = x.serves
  serves_stopping l why (inr x) = x.serves

-- The end of a running call.
use Rattle.std.proofs.Common.{◌≡◌, ℕ, ◌<◌, ◌≤◌, ◌==◌, Bool, true, false, ◌||◌, inl, inr, Option, Some, None, List, [], ◌∷◌, length, map, refl, sym, ap, subst, ◌∙◌, arith}
use Rattle.std.specs.Prelude.{slice_get, if◌then◌else◌, ◌↔◌, IsTrue, ⊤}
use Rattle.std.specs.List.{AllByRecursion}
use Rattle.handle_model.specs.declared.entry.Slot.{Slot}
use Rattle.handle_model.specs.declared.entry.Slot.TheVariants.{Shares, Holds, Changes, Opens}
use Rattle.handle_model.specs.declared.entry.Asked.{Asked}
use Rattle.handle_model.specs.declared.entry.Entry.{Entry}
use Rattle.handle_model.specs.declared.entry.Entry.TheVariants.{Join, Accept, Take, Deny, Cancel, Orphan, End, Leave, Shut}
use Rattle.handle_model.specs.declared.entry.Said.{Said}
use Rattle.handle_model.specs.declared.entry.Said.TheVariants.{Out, Fault}
use Rattle.handle_model.specs.Journal.{asked, waits, runs, suit}
use Rattle.handle_model.specs.declared.entry.Outcome.{Outcome}
use Rattle.pdu_stream.specs.Fragments.{most_stub}
use Rattle.ndr_value.specs.Values.{Msg}
use Rattle.ndr_table.specs.Tables.{OpForm, TableForm, IsTable}
use Rattle.manager_api.specs.declared.answer.Kept.{Kept}
use Rattle.manager_api.specs.Answers.{AOut}
use Rattle.manager_api.specs.Calls.{Owes}
use Rattle.conn_histories.specs.Requests.{HasSlots, IsAsked, op_of, op_in, types_of, types_in, no_memory}
use Rattle.conn_histories.specs.Ends.{SaysStub, outcomes_of, with_wires, wires_at}
use Rattle.ndr_value.specs.Forms.{Form}
use Rattle.ndr_table.specs.Nested.{IsShallow}
use Rattle.ndr_laws.specs.Laws.{OneMessage}
use Rattle.ndr_model.specs.declared.way.Way.TheVariants.{Response}
use Rattle.ndr_model.specs.Written.{stub}
use Rattle.desk_text.specs.Suited as desks
use Rattle.server_calls.specs.declared.end.Ended.{Ended}
use Rattle.server_calls.specs.Said.{SaysOfCall}
use Rattle.server_calls.proofs.Facts.{same_message}
use Rattle.call_table.specs.Laws.{open_asked}
use Rattle.call_table.proofs.Calls.{waits_idle}
use Rattle.group_core.specs.declared.answer.Rest.{Rest}
use Rattle.group_core.specs.declared.answer.Stage.{Stage}
use Rattle.group_core.specs.declared.answer.Stage.TheVariants as stage
use Rattle.group_core.specs.Stages.{stage_of}
use Rattle.group_core.specs.Conns.{Settles}
use Rattle.server_calls.specs.Suited.{suit_cookies}
use Rattle.world_server.specs.Servers.{ServerView, home, whole, IsServed, IsWhole, Goes, Whole}
use Rattle.world_server.specs.Finishes.{Suits, EndsAs, Finishes, cookie_for, octets_out, is_out}

-- some cookies suit the slots
pub suited : (ss : List Slot) → suit_cookies ss (map cookie_for ss) ≡ true
suited [] = refl
suited (Shares kind wire ∷ ss) = suited ss
suited (Holds kind wire ∷ ss) = suited ss
suited (Changes kind wire ∷ ss) = suited ss
suited (Opens kind serial ∷ ss) = suited ss

-- ---- what was asked is of the interfaces

abbrev pub IsOf : List TableForm → Option Asked → Type 0
IsOf tables None = ⊤
IsOf tables (Some a) = HasSlots tables a.iface a.op a.order a.stub a.slots × (length a.slots ≤ 4)

of_either : (tables : List TableForm) (b : Bool) (a : Asked) (o : Option Asked) → IsOf tables (Some a) → IsOf tables o → IsOf tables (if b then Some a else o)
of_either tables true a o x y = x
of_either tables false a o x y = y

pub asked_of : (tables : List TableForm) (past : List Entry) (k : ℕ) → AllByRecursion (IsServed tables) past → IsOf tables (asked (whole past) k)
asked_of tables [] k all = tt
asked_of tables (Join c ∷ past) k all = asked_of tables past k all.1
asked_of tables (Accept m a ∷ past) k all = of_either tables (m == k) a (asked (whole past) k) all.0 (asked_of tables past k all.1)
asked_of tables (Take m cookies ∷ past) k all = asked_of tables past k all.1
asked_of tables (Deny m slot ∷ past) k all = asked_of tables past k all.1
asked_of tables (Cancel m ∷ past) k all = asked_of tables past k all.1
asked_of tables (Orphan m ∷ past) k all = asked_of tables past k all.1
asked_of tables (End m results said ∷ past) k all = asked_of tables past k all.1
asked_of tables (Leave c ∷ past) k all = asked_of tables past k all.1
asked_of tables (Shut items ∷ past) k all = asked_of tables past k all.1

pub served_as : (s : ServerView) (k : ℕ) (a : Asked) → IsWhole s → asked (whole s.past) k ≡ Some a → IsOf s.tables (Some a)
served_as s k a w e = subst (λ (o : Option Asked). IsOf s.tables o) e (asked_of s.tables s.past k w.served)

-- ---- the interface of a call

op_none : (o : Option TableForm) (op : ℕ) (f : OpForm) → o ≡ None → op_in o op ≡ Some f → ⊥
op_none o op f e is = let x = sym is ∙ ap (λ (z : Option TableForm). op_in z op) e in absurd cc

pub has_table : (tables : List TableForm) (iface op : ℕ) (f : OpForm) → slice_get tables iface ≡ None → op_of tables iface op ≡ Some f → ⊥
has_table tables iface op f e is = op_none (slice_get tables iface) op f e is

pub op_at : (tables : List TableForm) (iface op : ℕ) (t : TableForm) (f : OpForm) → slice_get tables iface ≡ Some t → op_of tables iface op ≡ Some f → slice_get t.ops op ≡ Some f
op_at tables iface op t f e is = ap (λ (z : Option TableForm). op_in z op) (sym e) ∙ is

-- ---- what the end of a call comes to

one_some : {A : Type 0} (x y : A) → Some x ≡ Some y → x ≡ y
one_some x y e = cc

ends_out : (octets : List ℕ) (said : Said) → is_out said ≡ true → SaysStub octets said → (said ≡ Out octets) × (length octets ≤ most_stub)
ends_out octets (Out x) e h = (ap Out h.0, h.1)
ends_out octets (Fault status) e h = absurd cc

ends_long : (octets : List ℕ) (said : Said) → is_out said ≡ false → (said ≡ Fault no_memory → ⊥) → SaysStub octets said → most_stub < length octets
ends_long octets (Out x) e no_more h = absurd cc
ends_long octets (Fault status) e no_more (inl h) = h.1
ends_long octets (Fault status) e no_more (inr h) = absurd (no_more (ap Fault h))

module _ (tables : List TableForm) (kepts : List Kept) (m : Msg) (a : Asked) (message : Msg) (t : TableForm) (at : slice_get tables a.iface ≡ Some t) (x : IsAsked tables a.iface a.op a.order a.stub message) where
  types_are : types_of tables a.iface ≡ t.types
  types_are = ap types_in at

  -- what goes out, where the operation is found
  out_is : (o : OpForm) → op_of tables a.iface a.op ≡ Some o → (s : Suits tables kepts m a message) → octets_out kepts m s.table a s.operation message ≡ octets_out kepts m t a o message
  out_is o found s =
      ap (λ (z : TableForm). octets_out kepts m z a s.operation message) (one_some s.table t (sym s.served ∙ at))
      ∙ ap (λ (z : OpForm). octets_out kepts m t a z message) (one_some s.operation o (sym s.found ∙ found))

  -- no other message was asked
  pub only : IsTable t.types t.ops t.uses → IsShallow t.types t.ops → OneMessage → (Suits tables kepts m a message → ⊥) → EndsAs tables kepts m a message None
  only whole shallow one not_this n y s =
      not_this (subst (λ (z : Msg). Suits tables kepts m a z) (sym (same_message tables t a.iface a.op a.order a.stub at whole shallow one message n x y)) s)

  pub not_suited : (b : Bool) → IsTrue b ↔ desks.Suits t a.op message (AOut m kepts) → b ≡ false → Suits tables kepts m a message → ⊥
  not_suited b is differs s =
      let same : s.table ≡ t = one_some s.table t (sym s.served ∙ at) in
      let f : b ≡ true = is.1 (subst (λ (z : TableForm). Owes z a.op message (AOut m kepts)) same s.owes) in
      let g = sym f ∙ differs in absurd cc

  says_octets : (results : List Outcome) (said : Said) → results ≡ outcomes_of a.slots kepts → SaysOfCall home tables a message results (AOut m kepts) said → SaysStub (octets_out kepts m t a x.operation message) said
  says_octets results said same says =
      subst (λ (rs : List Outcome). SaysStub (stub t.types x.operation Response a.order (Some message) (with_wires m (wires_at home a.slots rs))) said) same
      (subst (λ (ts : List Form). SaysStub (stub ts x.operation Response a.order (Some message) (with_wires m (wires_at home a.slots results))) said) types_are (says x.operation x.found))

  pub ends : (e : Ended) → Owes t a.op message (AOut m kepts) → e.results ≡ outcomes_of a.slots kepts → suit a.slots e.results ≡ true → SaysOfCall home tables a message e.results (AOut m kepts) e.said → is_out e.said ≡ true
      → EndsAs tables kepts m a message (Some e)
  ends e owes results suits says out =
      let h = ends_out (octets_out kepts m t a x.operation message) e.said out (says_octets e.results e.said results says) in
      (record { table = t; served = at; operation = x.operation; found = x.found; owes = owes; short = h.1 }, results, suits, h.0)

  pub too_long : (e : Ended) → e.results ≡ outcomes_of a.slots kepts → SaysOfCall home tables a message e.results (AOut m kepts) e.said → is_out e.said ≡ false → (e.said ≡ Fault no_memory → ⊥) → Suits tables kepts m a message → ⊥
  too_long e results says out not_short s =
      let h = ends_long (octets_out kepts m t a x.operation message) e.said out not_short (says_octets e.results e.said results says) in
      let short : length (octets_out kepts m t a x.operation message) ≤ most_stub = subst (λ (o : List ℕ). length o ≤ most_stub) (out_is x.operation x.found s) s.short in
      absurd (omega (arith, h, short))

-- ---- whether a call that runs may end so

module _ (s : ServerView) (k : ℕ) (kepts : List Kept) (m : Msg) (a : Asked) (asks : asked (whole s.past) k ≡ Some a) where
  pub may_not : IsWhole s → (message : Msg) → EndsAs s.tables kepts m a message None → Goes s (λ past new. Finishes s.tables past k kepts m false new) s
  may_not w message none = record {
    tables = refl;
    is_whole = w;
    says = (
      λ may.
          let same : may.asked ≡ a = one_some may.asked a (sym may.asks ∙ asks) in
          none may.message (subst (λ (z : Asked). IsAsked s.tables z.iface z.op z.order z.stub may.message) same may.is) (subst (λ (z : Asked). Suits s.tables kepts m z may.message) same may.suits),
      refl,
    );
  }

  pub ended_so : (t : ServerView) (message : Msg) (e : Ended) → runs (whole s.past) k ≡ true → IsAsked s.tables a.iface a.op a.order a.stub message → EndsAs s.tables kepts m a message (Some e)
      → (rest : Rest) × Goes s (Whole (λ i j. Settles i (End k e.results e.said) rest j)) t → Goes s (λ past new. Finishes s.tables past k kepts m true new) t
  ended_so t message e runs is ends g = record {
    tables = g.1.tables;
    is_whole = g.1.is_whole;
    says = (
      record { runs = runs; asked = a; asks = asks; message = message; is = is; suits = ends.0 },
      record {
        rest = g.0;
        settles =
            subst (λ (o : Said). Settles (whole s.past) (End k (outcomes_of a.slots kepts) o) g.0 (whole t.past)) ends.3
            (subst (λ (rs : List Outcome). Settles (whole s.past) (End k rs e.said) g.0 (whole t.past)) ends.1 g.1.says);
      },
    );
  }

pub not_running : (s : ServerView) (k : ℕ) (kepts : List Kept) (m : Msg) → IsWhole s → (runs (whole s.past) k ≡ true → ⊥) → Goes s (λ past new. Finishes s.tables past k kepts m false new) s
not_running s k kepts m w idle = record { tables = refl; is_whole = w; says = (λ may. idle may.runs, refl) }

-- a call that runs is one that is open
pub open_asks : (past : List Entry) (k : ℕ) (a : Asked) → runs (whole past) k ≡ true → open_asked (whole past) k ≡ Some a → asked (whole past) k ≡ Some a
open_asks past k a r e = by (waits (whole past) k) (runs (whole past) k) r e
  where
    by : (b c : Bool) → c ≡ true → (if b || c then asked (whole past) k else None) ≡ Some a → asked (whole past) k ≡ Some a
    by true c y z = z
    by false true y z = z
    by false false y z = absurd cc

-- what the stage says of a call that runs
pub runs_of : (past : List Entry) (k : ℕ) (r : Stage) → r ≡ stage_of (whole past) k → r ≡ stage.Running → runs (whole past) k ≡ true
runs_of past k r is e = by (waits (whole past) k) (runs (whole past) k) (sym is ∙ e)
  where
    by : (b c : Bool) → (if b then stage.Waiting else (if c then stage.Running else stage.Over)) ≡ stage.Running → c ≡ true
    by true c z = absurd cc
    by false true z = refl
    by false false z = absurd cc

pub idle_waiting : (past : List Entry) (k : ℕ) (r : Stage) → r ≡ stage_of (whole past) k → r ≡ stage.Waiting → runs (whole past) k ≡ true → ⊥
idle_waiting past k r is e h =
    let w = by (waits (whole past) k) (runs (whole past) k) (sym is ∙ e) in
    let f = sym h ∙ waits_idle (whole past) k w in absurd cc
  where
    by : (b c : Bool) → (if b then stage.Waiting else (if c then stage.Running else stage.Over)) ≡ stage.Waiting → b ≡ true
    by true c z = refl
    by false true z = absurd cc
    by false false z = absurd cc

pub idle_over : (past : List Entry) (k : ℕ) (r : Stage) → r ≡ stage_of (whole past) k → r ≡ stage.Over → runs (whole past) k ≡ true → ⊥
idle_over past k r is e h = by (waits (whole past) k) (runs (whole past) k) (sym is ∙ e) h
  where
    by : (b c : Bool) → (if b then stage.Waiting else (if c then stage.Running else stage.Over)) ≡ stage.Over → c ≡ true → ⊥
    by true c z y = absurd cc
    by false true z y = absurd cc
    by false false z y = absurd cc

-- nothing was asked
pub nothing_asked : (s : ServerView) (k : ℕ) (kepts : List Kept) (m : Msg) → IsWhole s → runs (whole s.past) k ≡ true → open_asked (whole s.past) k ≡ None → Goes s (λ past new. Finishes s.tables past k kepts m false new) s
nothing_asked s k kepts m w r e = record { tables = refl; is_whole = w; says = (λ may. none (waits (whole s.past) k) (runs (whole s.past) k) may.asked r e may.asks, refl) }
  where
    none : (b c : Bool) (a : Asked) → c ≡ true → (if b || c then asked (whole s.past) k else None) ≡ None → asked (whole s.past) k ≡ Some a → ⊥
    none true c a y z is = let f = sym is ∙ z in absurd cc
    none false true a y z is = let f = sym is ∙ z in absurd cc
    none false false a y z is = absurd cc

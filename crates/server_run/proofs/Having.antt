-- What a connection had its manager do, one step after another.
--     quiet_on       a quiet step more;  quiet_stays     one that enters nothing;  quiet_listens, quiet_heard     a call that waits
--     had_begins     nothing yet;  on_quiet     a quiet step;  on_same     one that enters nothing;  on_then     two steps
--     went_then, over_then     one round;  line_ends, gone_ends     the end of a call that ran beside;  answered_on     an answer
use Rattle.std.proofs.Common.{◌≡◌, ℕ, Bool, Option, None, List, [], refl, sym, ap, ◌∙◌, subst}
use Rattle.std.specs.List.{list_any}
use Rattle.rpc_outside.specs.Links.{Shown}
use Rattle.handle_model.specs.declared.entry.Asked.{Asked}
use Rattle.handle_model.specs.declared.entry.DueItem.{DueItem}
use Rattle.hub_story.specs.Histories.{home_of}
use Rattle.group_hub.specs.declared.pass.Pass.{Pass}
use Rattle.group_hub.specs.Shards.{shard_of}
use Rattle.ndr_table.specs.Tables.{TableForm}
use Rattle.manager_api.specs.Answers.{Ans}
use Rattle.manager_api.specs.Calls.{Call}
use Rattle.server_ends.specs.declared.ended.Finished.{Finished}
use Rattle.server_ends.specs.Joins.{JoinedAs}
use Rattle.server_ends.specs.Owning.{Grown}
use Rattle.server_steps.specs.declared.line.Line.{Line}
use Rattle.server_steps.specs.declared.gone.Gone.{Gone}
use Rattle.server_steps.specs.declared.working.Server.{Server}
use Rattle.server_steps.specs.declared.working.Worked.{Worked}
use Rattle.server_steps.specs.Lines.{IsSame}
use Rattle.server_steps.specs.Deeds.{has_deeds, Quiet, SamePass, HasAnswered, Since, LineEnds}
use Rattle.server_steps.proofs.Dealing.{had_quiet, had_none, quiet_then, quiet_same}
use Rattle.server_run.specs.declared.calling.Went.{Went}
use Rattle.server_run.specs.declared.calling.Went.TheVariants as went
use Rattle.server_run.specs.Running.{Goes}
use Rattle.server_run.specs.Deeds.{WentSame, IsHad, LineOn, OverOn, GoneOn, WentOn}

-- ---- steps that have nothing done

-- a connection that joined a group entered nothing but its Join, and its bind is answered
pub joined_quiet : {K : Type 0} (boot asked : ℕ) (p : Pass) (a b : Line K) → a.began.value ≡ p → JoinedAs boot a.began.value asked a.group a.number a.pass → SamePass a b → Quiet b.group p b.pass
joined_quiet boot asked p a b began j stays =
    subst (λ (z : Pass × ℕ × Pass). Quiet z.1 z.0 z.2) (λ i. (began i, sym stays.1 i, sym stays.0 i)) (j.items, j.grown, ap (list_any has_deeds) j.own)

pub quiet_on : {K : Type 0} (a b c : Line K) → b.group ≡ a.group → Quiet a.group a.pass b.pass → Quiet b.group b.pass c.pass → Quiet a.group a.pass c.pass
quiet_on a b c group x y = quiet_then a.group a.pass b.pass c.pass x (subst (λ (n : ℕ). Quiet n b.pass c.pass) group y)

pub quiet_stays : {K : Type 0} (a b c : Line K) → Quiet a.group a.pass b.pass → SamePass b c → Quiet a.group a.pass c.pass
quiet_stays a b c x stays = subst (λ (p : Pass). Quiet a.group a.pass p) (sym stays.0) x

-- its call couldn't be taken yet, and its link listens
pub quiet_listens : {K : Type 0} (a b c d : Line K) → b.group ≡ a.group → Quiet a.group a.pass b.pass → c.group ≡ b.group → Quiet b.group b.pass c.pass → Grown (shard_of c.group) c.pass d.pass [] → Quiet a.group a.pass d.pass
quiet_listens a b c d group x again y grown = quiet_on a c d (again ∙ group) (quiet_on a b c group x y) ([], grown, refl)

-- and then something was heard
pub quiet_heard : {K : Type 0} (a b c d e : Line K) → b.group ≡ a.group → Quiet a.group a.pass b.pass → c.group ≡ b.group → Quiet b.group b.pass c.pass → d.group ≡ c.group → Grown (shard_of c.group) c.pass d.pass [] → SamePass d e
    → (e.group ≡ a.group) × Quiet a.group a.pass e.pass
quiet_heard a b c d e group x again y listens grown stays = (stays.1 ∙ (listens ∙ (again ∙ group)), quiet_stays a d e (quiet_listens a b c d group x again y grown) stays)

module _ {M P : Type 0} (tables : M → List TableForm) (enters : M → P → Call → Bool → Ans → P → Type 0) (runs_down : M → P → DueItem → P → Type 0) (splits joins : M → P → P → P → Type 0) (m : M) (boot : ℕ) where
  pub had_begins : (g : ℕ) (p q : Pass) (first : P) → Quiet g p q → Since tables enters runs_down splits joins m boot g p first q first
  had_begins g p q first quiet =
      had_quiet (enters m) (runs_down m) (splits m) (joins m) (tables m) boot g p first p q first quiet (had_none (enters m) (runs_down m) (splits m) (joins m) (tables m) boot g p first)

module _ {K M P : Type 0} (tables : M → List TableForm) (enters : M → P → Call → Bool → Ans → P → Type 0) (runs_down : M → P → DueItem → P → Type 0) (splits joins : M → P → P → P → Type 0) (m : M) (boot : ℕ) where
  pub on_quiet : (old l : Line K) (now : P) → IsSame old l → l.group ≡ old.group → Quiet old.group old.pass l.pass → LineOn tables enters runs_down splits joins m boot old now l now
  on_quiet old l now same group quiet = λ first h.
      subst (λ (z : ℕ × Pass). Since tables enters runs_down splits joins m boot z.0 z.1 first l.pass now) (λ i. (sym group i, sym same.0 i))
      (had_quiet (enters m) (runs_down m) (splits m) (joins m) (tables m) boot old.group old.began.value first old.pass l.pass now quiet h)

  pub on_same : (old l : Line K) (now : P) → IsSame old l → SamePass old l → LineOn tables enters runs_down splits joins m boot old now l now
  on_same old l now same stays = on_quiet old l now same stays.1 (quiet_same old.group old.pass l.pass stays.0)

  pub on_then : (a b c : Line K) (x y z : P) → LineOn tables enters runs_down splits joins m boot a x b y → LineOn tables enters runs_down splits joins m boot b y c z → LineOn tables enters runs_down splits joins m boot a x c z
  on_then a b c x y z f g = λ first h. g first (f first h)

  -- a call was accepted, and waited
  pub on_waited : (a b c : Line K) (now : P) → IsSame a b → b.group ≡ a.group → Quiet a.group a.pass b.pass → IsSame b c → c.group ≡ b.group → Quiet b.group b.pass c.pass → LineOn tables enters runs_down splits joins m boot a now c now
  on_waited a b c now same group quiet next of more = on_then a b c now now now (on_quiet a b now same group quiet) (on_quiet b c now next of more)

  pub over_then : (a b : Line K) (x y z : P) (r : Finished K) → IsSame a b → LineOn tables enters runs_down splits joins m boot a x b y → OverOn tables enters runs_down splits joins m boot b y r z
      → OverOn tables enters runs_down splits joins m boot a x r z
  over_then a b x y z r same f g = λ first h. subst (λ (p : Pass). IsHad {K = K} tables enters runs_down splits joins m boot p first r z) same.0 (g first (f first h))

  pub went_then : (a b : Line K) (x y z : P) (w : Went K) → IsSame a b → LineOn tables enters runs_down splits joins m boot a x b y → WentOn tables enters runs_down splits joins m boot b y w z
      → WentOn tables enters runs_down splits joins m boot a x w z
  went_then a b x y z (went.On l) same f g = on_then a b l x y z f g
  went_then a b x y z (went.Stop l why) same f g = on_then a b l x y z f g
  went_then a b x y z (went.Drop l why k) same f g = on_then a b l x y z f g
  went_then a b x y z (went.Over r) same f g = over_then a b x y z r same f g

  -- the end of a call that ran beside: of a connection that goes on, and of one that left
  pub line_ends : (old l after : Line K) (before kept other last : P) (a : Asked) (cookies : List (Option ℕ)) (w : Worked P) (g : ℕ) → IsSame old l → l.group ≡ old.group → IsSame l after → after.group ≡ l.group → g ≡ l.group → Quiet old.group old.pass l.pass
      → splits m before kept other → HasAnswered (enters m) (tables m) (home_of boot g) a cookies other w → LineEnds tables enters runs_down splits joins m boot l kept a cookies w after.pass last
      → LineOn tables enters runs_down splits joins m boot old before after last
  line_ends old l after before kept other last a cookies w g same group next stays is quiet split met ends = λ first h.
      let here = on_quiet old l before same group quiet first h in
      let met' : HasAnswered (enters m) (tables m) (home_of boot l.group) a cookies other w = subst (λ (n : ℕ). HasAnswered (enters m) (tables m) (home_of boot n) a cookies other w) is met in
      subst (λ (z : ℕ × Pass). Since tables enters runs_down splits joins m boot z.0 z.1 first after.pass last) (λ i. (sym stays i, sym next.0 i)) (ends before other split met' first here)

  pub gone_ends : (old : Line K) (gone : Gone K) (before kept other last : P) (a : Asked) (cookies : List (Option ℕ)) (w : Worked P) (g : ℕ) (r : Finished K) → gone.group ≡ old.group → gone.began.value ≡ old.began.value → g ≡ old.group → Quiet old.group old.pass gone.pass
      → splits m before kept other → HasAnswered (enters m) (tables m) (home_of boot g) a cookies other w → GoneOn tables enters runs_down splits joins m boot gone kept a cookies w r last
      → OverOn tables enters runs_down splits joins m boot old before r last
  gone_ends old gone before kept other last a cookies w g r group began is quiet split met ends = λ first h.
      let quiet_one = had_quiet (enters m) (runs_down m) (splits m) (joins m) (tables m) boot old.group old.began.value first old.pass gone.pass before quiet h in
      let here : Since tables enters runs_down splits joins m boot gone.group gone.began.value first gone.pass before =
      subst (λ (z : ℕ × Pass). Since tables enters runs_down splits joins m boot z.0 z.1 first gone.pass before) (λ i. (sym group i, sym began i)) quiet_one in
      let met' : HasAnswered (enters m) (tables m) (home_of boot gone.group) a cookies other w = subst (λ (n : ℕ). HasAnswered (enters m) (tables m) (home_of boot n) a cookies other w) (is ∙ sym group) met in
      subst (λ (p : Pass). IsHad {K = K} tables enters runs_down splits joins m boot p first r last) began (ends before other split met' first here)

  -- a connection of no group
  pub had_alone : (p : Pass) (first : P) (r : Finished K) → r.joined ≡ None → IsHad tables enters runs_down splits joins m boot p first r first
  had_alone p first r alone = rw alone refl

  pub over_begins : (l : Line K) (p : Pass) (first last : P) (r : Finished K) → l.began.value ≡ p → Quiet l.group p l.pass → OverOn tables enters runs_down splits joins m boot l first r last → IsHad tables enters runs_down splits joins m boot p first r last
  over_begins l p first last r began quiet over =
      subst (λ (q : Pass). IsHad {K = K} tables enters runs_down splits joins m boot q first r last) began
      (over first (had_begins tables enters runs_down splits joins m boot l.group l.began.value l.pass first (subst (λ (q : Pass). Quiet l.group q l.pass) (sym began) quiet)))

module _ {K M P : Type 0} (shows : K → Shown) (may : M → Call → Bool → Ans → Type 0) (tables : M → List TableForm) (enters : M → P → Call → Bool → Ans → P → Type 0) (runs_down : M → P → DueItem → P → Type 0) (splits joins : M → P → P → P → Type 0) (s : Server M) where
  -- an answer enters nothing
  pub answered_on : (a : Line K) (x : P) (w : Went K) → Goes shows may tables s a w → WentSame a w → WentOn tables enters runs_down splits joins s.manager.now s.hub.now.boot a x w x
  answered_on a x (went.On l) goes stays = on_same tables enters runs_down splits joins s.manager.now s.hub.now.boot a l x goes.0 stays
  answered_on a x (went.Stop l why) goes stays = on_same tables enters runs_down splits joins s.manager.now s.hub.now.boot a l x goes.0 stays
  answered_on a x (went.Drop l why k) goes stays = on_same tables enters runs_down splits joins s.manager.now s.hub.now.boot a l x goes.0 stays
  answered_on a x (went.Over r) goes stays = absurd stays

  -- behind steps that have nothing done
  pub answered_then : (a b : Line K) (x : P) (w : Went K) → IsSame a b → b.group ≡ a.group → Quiet a.group a.pass b.pass → Goes shows may tables s b w → WentSame b w → WentOn tables enters runs_down splits joins s.manager.now s.hub.now.boot a x w x
  answered_then a b x w same group quiet goes stays =
      went_then tables enters runs_down splits joins s.manager.now s.hub.now.boot a b x x x w same (on_quiet tables enters runs_down splits joins s.manager.now s.hub.now.boot a b x same group quiet) (answered_on b x w goes stays)

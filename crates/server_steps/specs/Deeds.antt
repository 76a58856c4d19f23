-- What a connection's entries had its manager do, in a chain of the manager's passes.
use Rattle.std.specs.Prelude.{◌≡◌, ◌⊎◌, ℕ, Bool, true, false, Option, List, [], ◌∷◌, ◌++◌, length, map}
use Rattle.std.specs.List.{list_any}
use Rattle.handle_model.specs.declared.entry.Home.{Home}
use Rattle.handle_model.specs.declared.entry.Asked.{Asked}
use Rattle.handle_model.specs.declared.entry.Outcome.{Outcome}
use Rattle.handle_model.specs.declared.entry.Said.{Said}
use Rattle.handle_model.specs.declared.entry.DueItem.{DueItem}
use Rattle.handle_model.specs.declared.entry.Entry.{Entry}
use Rattle.handle_model.specs.declared.entry.Entry.TheVariants.{Accept, Take, End, Shut}
use Rattle.hub_story.specs.declared.item.Item.{Item}
use Rattle.hub_story.specs.Histories.{home_of, past_in}
use Rattle.group_hub.specs.declared.hub.Hub.{Hub}
use Rattle.group_hub.specs.declared.pass.Pass.{Pass}
use Rattle.group_hub.specs.Shards.{shard_of}
use Rattle.hub_shard.specs.declared.answer.HubRest.{HubRest}
use Rattle.hub_shard.specs.declared.answer.HubRest.TheVariants as rest
use Rattle.server_ends.specs.Owning.{Grown}
use Rattle.ndr_table.specs.Tables.{TableForm}
use Rattle.manager_api.specs.Answers.{Ans}
use Rattle.manager_api.specs.Calls.{Call}
use Rattle.conn_histories.specs.Ends.{Meets, row_of}
use Rattle.server_calls.specs.Chains.{Deed, Chain}
use Rattle.server_calls.specs.Chains.Deed.{answered, ran_down}
use Rattle.server_steps.specs.declared.line.Line.{Line}
use Rattle.server_steps.specs.declared.gone.Gone.{Gone}
use Rattle.server_steps.specs.declared.working.Worked.{Worked}
use Rattle.server_steps.specs.declared.working.Promised.{Promised}
use Rattle.server_steps.specs.declared.working.RunningCall.{RunningCall}
use Rattle.server_steps.specs.declared.working.Server.{Server}

-- ---- entries behind which deeds of a manager stand: the End of a call, and the Shut of a group

abbrev pub has_deeds : Entry → Bool
has_deeds (End k results said) = true
has_deeds (Shut items) = true
has_deeds _ = false

-- since it was p the hub's pass entered no such entry of the group
abbrev pub Quiet : ℕ → Pass → Pass → Type 0
Quiet g p q = (items : List Item) × Grown (shard_of g) p q items × (list_any has_deeds (past_in g items) ≡ false)

-- a step that enters nothing
abbrev pub SamePass : {K : Type 0} → Line K → Line K → Type 0
SamePass old new = (new.pass ≡ old.pass) × (new.group ≡ old.group)

-- ---- the deeds of which entries tell

abbrev pub Among : Entry → List Entry → Type 0
Among e [] = ⊥
Among e (x ∷ xs) = (x ≡ e) ⊎ Among e xs

-- that very call, whether its probe told of a cancel, and that answer
abbrev pub IsThat : Call → Bool → Ans → Call → Bool → Ans → Type 0
IsThat c told answer d t a = (d ≡ c) × (t ≡ told) × (a ≡ answer)

-- each of the handles was run down
abbrev pub downs : List DueItem → List Deed
downs items = map ran_down items

module _ (home : Home) (tables : List TableForm) where
  -- What a connection entered, the newest entry first, and its deeds, the oldest first. Behind each End stands the answer to its call,
  -- as that was accepted and with the cookies that it was taken with; the End's results and words follow from it. Behind a Shut
  -- stands the run-down of each of its handles, in its order.
  pub data Tells : List Entry → List Deed → Type 0 where
    begins : Tells [] []
    passes : {e : Entry} {es : List Entry} {ds : List Deed} → has_deeds e ≡ false → Tells es ds → Tells (e ∷ es) ds
    ends : {k : ℕ} {a : Asked} {cookies : List (Option ℕ)} {results : List Outcome} {said : Said} {c : Call} {told : Bool} {answer : Ans} {es : List Entry} {ds : List Deed}
        → Among (Accept k a) es → Among (Take k cookies) es → Meets home tables (IsThat c told answer) a cookies told results said
        → Tells es ds → Tells (End k results said ∷ es) (ds ++ answered c told answer ∷ [])
    shuts : {items : List DueItem} {es : List Entry} {ds : List Deed} → Tells es ds → Tells (Shut items ∷ es) (ds ++ downs items)

-- ---- in a chain of passes

module _ {P : Type 0} (enters : P → Call → Bool → Ans → P → Type 0) (runs_down : P → DueItem → P → Type 0) (splits joins : P → P → P → Type 0) where
  abbrev pub RunsDown : P → List DueItem → P → Type 0
  RunsDown p items q = Chain enters runs_down splits joins p (downs items) q

  -- where the group has ended
  abbrev pub RunsAfter : HubRest → P → P → Type 0
  RunsAfter rest.Stays p q = q ≡ p
  RunsAfter (rest.Shut items key) p q = RunsDown p items q

  -- What the hub's pass entered of the group since it was p tells of deeds by which the manager's pass became the last from the first.
  pub record Had (tables : List TableForm) (boot g : ℕ) (p : Pass) (first : P) (q : Pass) (last : P) : Type 0 where
    pub items : List Item
    pub grown : Grown (shard_of g) p q items
    pub deeds : List Deed
    pub tells : Tells (home_of boot g) tables (past_in g items) deeds
    pub chain : Chain enters runs_down splits joins first deeds last

-- a call that asks that was answered with these cookies, from that pass on, and ends so
abbrev pub HasAnswered : {P : Type 0} → (P → Call → Bool → Ans → P → Type 0) → List TableForm → Home → Asked → List (Option ℕ) → P → Worked P → Type 0
HasAnswered enters tables home a cookies before r = (told : Bool) × Meets home tables (λ c t x. enters before c t x r.desks) a cookies told r.answered.results r.answered.said

module _ {M P : Type 0} (tables : M → List TableForm) (is_pass : M → P → Type 0) (enters : M → P → Call → Bool → Ans → P → Type 0) where
  -- with the cookies of that row
  abbrev pub AnswersRow : M → Hub → ℕ → Asked → List (Option ℕ) → P → Worked P → Type 0
  AnswersRow m hub g a row before r =
      is_pass m r.desks
      × ((cookies : List (Option ℕ)) → row ≡ row_of cookies → length cookies ≡ length a.slots → HasAnswered (enters m) (tables m) (home_of hub.boot g) a cookies before r)

  -- a call of a server, and one that was promised to be answered
  abbrev pub AnswersBy : Server M → RunningCall → P → Worked P → Type 0
  AnswersBy s c before r = AnswersRow s.manager.now s.hub.now c.group c.asked.now c.row before r

  abbrev pub AnswersAs : Promised M P → Worked P → Type 0
  AnswersAs p r = AnswersRow p.manager.value p.hub.value p.group p.asked.value p.row p.desks.value r

module _ {M P : Type 0} (tables : M → List TableForm) (enters : M → P → Call → Bool → Ans → P → Type 0) (runs_down : M → P → DueItem → P → Type 0) (splits joins : M → P → P → P → Type 0)
    (m : M) (boot g : ℕ) (began : Pass) where
  -- since the hub's pass was that, and the manager's the first
  abbrev pub Since : P → Pass → P → Type 0
  Since first q last = Had (enters m) (runs_down m) (splits m) (joins m) (tables m) boot g began first q last

  -- whichever the first was, the passes go on from p and `before` to q and `after`
  abbrev pub Carries : Pass → P → Pass → P → Type 0
  Carries p before q after = (first : P) → Since first p before → Since first q after

  -- by the end of a call that was answered from another pass on, which had been split off
  abbrev pub CarriesAnswered : Pass → P → Asked → List (Option ℕ) → Worked P → Pass → P → Type 0
  CarriesAnswered p kept a cookies r q after =
      (before other : P) → splits m before kept other → HasAnswered (enters m) (tables m) (home_of boot g) a cookies other r → Carries p before q after

module _ {K M P : Type 0} (tables : M → List TableForm) (enters : M → P → Call → Bool → Ans → P → Type 0) (runs_down : M → P → DueItem → P → Type 0) (splits joins : M → P → P → P → Type 0) (m : M) (boot : ℕ) where
  -- a connection goes on so, and where its call ended
  abbrev pub LineCarries : Line K → P → Pass → P → Type 0
  LineCarries l before q after = Carries tables enters runs_down splits joins m boot l.group l.began.value l.pass before q after

  abbrev pub LineEnds : Line K → P → Asked → List (Option ℕ) → Worked P → Pass → P → Type 0
  LineEnds l kept a cookies r q after = CarriesAnswered tables enters runs_down splits joins m boot l.group l.began.value l.pass kept a cookies r q after

  -- and one that has left
  abbrev pub GoneEnds : Gone K → P → Asked → List (Option ℕ) → Worked P → Pass → P → Type 0
  GoneEnds l kept a cookies r q after = CarriesAnswered tables enters runs_down splits joins m boot l.group l.began.value l.pass kept a cookies r q after

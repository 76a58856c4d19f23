-- What a manager did for a pass, and for those that a pass took in.
use Rattle.std.specs.Prelude.{Bool, List, [], ◌∷◌, ◌++◌}
use Rattle.handle_model.specs.declared.entry.DueItem.{DueItem}
use Rattle.manager_api.specs.Answers.{Ans}
use Rattle.manager_api.specs.Calls.{Call}

-- It answered a call, whose probe told of a cancel or didn't. Or it ran down a handle.
pub data Deed : Type 0 where
  answered : Call → Bool → Ans → Deed
  ran_down : DueItem → Deed

-- By what a manager says of its calls, of its run-downs, and of passes that are split and joined.
module _ {P : Type 0} (enters : P → Call → Bool → Ans → P → Type 0) (runs_down : P → DueItem → P → Type 0) (splits joins : P → P → P → Type 0) where
  -- The first pass became the last. Those deeds were done for it meanwhile, in that order: for itself, or for another that was split off and
  -- joined again while nothing was done for itself.
  pub data Chain : P → List Deed → P → Type 0 where
    stays : {p : P} → Chain p [] p
    answers : {p q : P} {c : Call} {told : Bool} {answer : Ans} → enters p c told answer q → Chain p (answered c told answer ∷ []) q
    downs : {p q : P} {item : DueItem} → runs_down p item q → Chain p (ran_down item ∷ []) q
    parts : {p q other : P} → splits p q other → Chain p [] q
    goes_on : {p q r : P} {ds es : List Deed} → Chain p ds q → Chain q es r → Chain p (ds ++ es) r
    takes_back : {p q r other last t : P} {ds : List Deed} → splits p q other → Chain q [] r → Chain other ds last → joins r last t → Chain p ds t

-- By what a manager says of passes that are split and joined.
module _ {P : Type 0} (splits joins : P → P → P → Type 0) where
  -- The first pass became the last: others were split off it, and it took in these, in that order. No deed was done for it itself.
  pub data Takes (p : P) : List P → P → Type 0 where
    begins : Takes p [] p
    splits_off : {q r other : P} {others : List P} → Takes p others q → splits q r other → Takes p others r
    takes_in : {q r other : P} {others : List P} → Takes p others q → joins q other r → Takes p (others ++ other ∷ []) r

  -- A pass that was split off the first, once that had taken in some.
  pub record StartsFrom (p began : P) : Type 0 where
    pub others : List P
    pub before : P
    pub after : P
    pub takes : Takes p others before
    pub splits_off : splits before after began

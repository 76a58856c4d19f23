-- The events of a request, and what was asked.
use Rattle.std.proofs.Common.{◌≡◌, ℕ, Bool, List, [], ◌∷◌, ◌++◌, refl, sym, ap, ◌∙◌, subst, append_assoc}
use Rattle.conn_asks.specs.declared.events.Caller.{Caller}
use Rattle.conn_asks.specs.declared.events.Ask.{Ask}
use Rattle.conn_asks.specs.declared.events.Ask.TheVariants as asks
use Rattle.conn_asks.specs.declared.events.Act.TheVariants as acts
use Rattle.conn_histories.specs.Histories.{Event}
use Rattle.conn_histories.specs.Histories.Event.{Came, Paused, Did, Decided}
use Rattle.conn_histories.specs.Plays.{CallsOff, EndsCall}
use Rattle.conn_histories.specs.declared.turn.Off.{Off}
use Rattle.conn_histories.specs.declared.turn.Off.TheVariants as off
use Rattle.conn_histories.specs.Events.{acts_off, act_off}
use Rattle.conn_histories.specs.Answers.{ask_off, asks_off}

-- acts that call off
abbrev pub AllOff : List Event → Type 0
AllOff [] = Unit {0}
AllOff (Did (acts.Cancel id) ∷ xs) = AllOff xs
AllOff (Did (acts.Orphan id) ∷ xs) = AllOff xs
AllOff (_ ∷ xs) = ⊥

-- events that don't begin with one
abbrev pub NotOff : List Event → Type 0
NotOff (Did (acts.Cancel id) ∷ xs) = ⊥
NotOff (Did (acts.Orphan id) ∷ xs) = ⊥
NotOff _ = Unit {0}

off_more : (xs : List Event) (id : ℕ) (o : Off) → AllOff xs → AllOff (xs ++ Did (act_off id o) ∷ [])
off_more [] id off.Cancel h = tt
off_more [] id off.Orphan h = tt
off_more (Did (acts.Cancel n) ∷ xs) id o h = off_more xs id o h
off_more (Did (acts.Orphan n) ∷ xs) id o h = off_more xs id o h
off_more (Did (acts.Answer octets) ∷ xs) id o h = absurd h
off_more (Did (acts.Group n) ∷ xs) id o h = absurd h
off_more (Did (acts.Call j n) ∷ xs) id o h = absurd h
off_more (Did (acts.Close octets f) ∷ xs) id o h = absurd h
off_more (Came octets ∷ xs) id o h = absurd h
off_more (Paused ∷ xs) id o h = absurd h
off_more (Decided d octets ∷ xs) id o h = absurd h

pub acts_are_off : (id : ℕ) (offs : List Off) → AllOff (acts_off id offs)
acts_are_off id [] = tt
acts_are_off id (o ∷ offs) = off_more (acts_off id offs) id o (acts_are_off id offs)

-- ---- where the calling off ends

calls_are_off : (xs : List Event) (more others : List Ask) → CallsOff xs more others → AllOff xs
calls_are_off [] more others c = tt
calls_are_off (Did (acts.Cancel id) ∷ xs) more others c = calls_are_off xs c.0 others c.2
calls_are_off (Did (acts.Orphan id) ∷ xs) more others c = calls_are_off xs c.0 others c.2
calls_are_off (Did (acts.Answer octets) ∷ xs) more others c = absurd c
calls_are_off (Did (acts.Group n) ∷ xs) more others c = absurd c
calls_are_off (Did (acts.Call j n) ∷ xs) more others c = absurd c
calls_are_off (Did (acts.Close octets f) ∷ xs) more others c = absurd c
calls_are_off (Came octets ∷ xs) more others c = absurd c
calls_are_off (Paused ∷ xs) more others c = absurd c
calls_are_off (Decided d octets ∷ xs) more others c = absurd c

first_is : (x y : Event) (xs ys : List Event) → x ∷ xs ≡ y ∷ ys → x ≡ y
first_is x y xs ys h = cc

rest_is : (x y : Event) (xs ys : List Event) → x ∷ xs ≡ y ∷ ys → xs ≡ ys
rest_is x y xs ys h = cc

-- the same events in two ways: what calls off, and events that don't begin so
pub same_split : (xs rest ys end : List Event) → AllOff xs → NotOff rest → AllOff ys → NotOff end → xs ++ rest ≡ ys ++ end → (xs ≡ ys) × (rest ≡ end)
same_split [] rest [] end a n b m is = (refl, is)
same_split [] rest (Did (acts.Cancel id) ∷ ys) end a n b m is = absurd (subst NotOff is n)
same_split [] rest (Did (acts.Orphan id) ∷ ys) end a n b m is = absurd (subst NotOff is n)
same_split [] rest (Did (acts.Answer octets) ∷ ys) end a n b m is = absurd b
same_split [] rest (Did (acts.Group id) ∷ ys) end a n b m is = absurd b
same_split [] rest (Did (acts.Call j id) ∷ ys) end a n b m is = absurd b
same_split [] rest (Did (acts.Close octets f) ∷ ys) end a n b m is = absurd b
same_split [] rest (Came octets ∷ ys) end a n b m is = absurd b
same_split [] rest (Paused ∷ ys) end a n b m is = absurd b
same_split [] rest (Decided d octets ∷ ys) end a n b m is = absurd b
same_split (Did (acts.Cancel id) ∷ xs) rest [] end a n b m is = absurd (subst NotOff (sym is) m)
same_split (Did (acts.Orphan id) ∷ xs) rest [] end a n b m is = absurd (subst NotOff (sym is) m)
same_split (Did (acts.Cancel id) ∷ xs) rest (y ∷ ys) end a n b m is =
    let first = first_is (Did (acts.Cancel id)) y (xs ++ rest) (ys ++ end) is in
    let later = same_split xs rest ys end a n (subst (λ (z : Event). AllOff (z ∷ ys)) (sym first) b) m (rest_is (Did (acts.Cancel id)) y (xs ++ rest) (ys ++ end) is) in
    ((λ i. first i ∷ later.0 i), later.1)
same_split (Did (acts.Orphan id) ∷ xs) rest (y ∷ ys) end a n b m is =
    let first = first_is (Did (acts.Orphan id)) y (xs ++ rest) (ys ++ end) is in
    let later = same_split xs rest ys end a n (subst (λ (z : Event). AllOff (z ∷ ys)) (sym first) b) m (rest_is (Did (acts.Orphan id)) y (xs ++ rest) (ys ++ end) is) in
    ((λ i. first i ∷ later.0 i), later.1)
same_split (Did (acts.Answer octets) ∷ xs) rest ys end a n b m is = absurd a
same_split (Did (acts.Group id) ∷ xs) rest ys end a n b m is = absurd a
same_split (Did (acts.Call j id) ∷ xs) rest ys end a n b m is = absurd a
same_split (Did (acts.Close octets f) ∷ xs) rest ys end a n b m is = absurd a
same_split (Came octets ∷ xs) rest ys end a n b m is = absurd a
same_split (Paused ∷ xs) rest ys end a n b m is = absurd a
same_split (Decided d octets ∷ xs) rest ys end a n b m is = absurd a

pub ends_apart : (c : Caller) (most : ℕ) (maybe : Bool) (Then : List Event → Type 0) (others : List Ask) (end : List Event) → EndsCall c most maybe Then others end → NotOff end
ends_apart c most maybe Then others [] h = tt
ends_apart c most maybe Then others (Did act ∷ end) h = absurd h
ends_apart c most maybe Then others (Decided d octets ∷ end) h = tt
ends_apart c most maybe Then others (Came octets ∷ end) h = tt
ends_apart c most maybe Then others (Paused ∷ end) h = tt

-- ---- what called off was asked

calls_split : (xs ys : List Event) (more others : List Ask) → CallsOff (xs ++ ys) more others → (between : List Ask) × CallsOff xs more between × CallsOff ys between others
calls_split [] ys more others c = (more, refl, c)
calls_split (Did (acts.Cancel id) ∷ xs) ys more others c = let r = calls_split xs ys c.0 others c.2 in (r.0, (c.0, c.1, r.1), r.2)
calls_split (Did (acts.Orphan id) ∷ xs) ys more others c = let r = calls_split xs ys c.0 others c.2 in (r.0, (c.0, c.1, r.1), r.2)
calls_split (Did (acts.Answer octets) ∷ xs) ys more others c = absurd c
calls_split (Did (acts.Group n) ∷ xs) ys more others c = absurd c
calls_split (Did (acts.Call j n) ∷ xs) ys more others c = absurd c
calls_split (Did (acts.Close octets f) ∷ xs) ys more others c = absurd c
calls_split (Came octets ∷ xs) ys more others c = absurd c
calls_split (Paused ∷ xs) ys more others c = absurd c
calls_split (Decided d octets ∷ xs) ys more others c = absurd c

one_asked : (id : ℕ) (o : Off) (more others : List Ask) → CallsOff (Did (act_off id o) ∷ []) more others → more ≡ ask_off id o ∷ others
one_asked id off.Cancel more others c = c.1 ∙ ap (λ l. asks.Cancel id ∷ l) c.2
one_asked id off.Orphan more others c = c.1 ∙ ap (λ l. asks.Orphan id ∷ l) c.2

pub were_asked : (id : ℕ) (offs : List Off) (more others : List Ask) → CallsOff (acts_off id offs) more others → more ≡ asks_off id offs ++ others
were_asked id [] more others c = c
were_asked id (o ∷ offs) more others c =
    let s = calls_split (acts_off id offs) (Did (act_off id o) ∷ []) more others c in
    were_asked id offs more s.0 s.1 ∙ (ap (λ l. asks_off id offs ++ l) (one_asked id o s.0 others s.2) ∙ sym (append_assoc (asks_off id offs) (ask_off id o ∷ []) others))

-- ---- a call's events

-- what called off, and how the call ended
pub record Split (c : Caller) (most : ℕ) (maybe : Bool) (Then : List Event → Type 0) (id : ℕ) (offs : List Off) (rest : List Event) (more : List Ask) : Type 0 where
  pub others : List Ask
  pub begins : more ≡ asks_off id offs ++ others
  pub ends : EndsCall c most maybe Then others rest

pub splits : (c : Caller) (most : ℕ) (maybe : Bool) (Then : List Event → Type 0) (id : ℕ) (offs : List Off) (rest : List Event) (more others : List Ask) (xs end : List Event)
    → NotOff rest → acts_off id offs ++ rest ≡ xs ++ end → CallsOff xs more others → EndsCall c most maybe Then others end → Split c most maybe Then id offs rest more
splits c most maybe Then id offs rest more others xs end far is calls ends =
    let same = same_split (acts_off id offs) rest xs end (acts_are_off id offs) far (calls_are_off xs more others calls) (ends_apart c most maybe Then others end ends) is in
    record {
      others = others;
      begins = were_asked id offs more others (subst (λ (l : List Event). CallsOff l more others) (sym same.0) calls);
      ends = subst (EndsCall c most maybe Then others) (sym same.1) ends;
    }

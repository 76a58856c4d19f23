-- How what a server did on a connection ends, by what was done before.
use Rattle.std.proofs.Common.{◌≡◌, ℕ, ◌+◌, ◌≤◌, Bool, true, false, ◌&&◌, List, [], ◌∷◌, ◌++◌, length, refl, sym, ap, subst, ◌∙◌, arith}
use Rattle.std.specs.Prelude.{not}
use Rattle.std.specs.List.{list_all}
use Rattle.rpc_base.specs.declared.identifiers.SyntaxId.{SyntaxId}
use Rattle.pdu_stream.specs.declared.joined.Joined.{Joined}
use Rattle.conn_asks.specs.declared.events.Act.TheVariants as acts
use Rattle.conn_histories.specs.Histories.{Event}
use Rattle.conn_histories.specs.Histories.Event.{Came, Paused, Did, Decided}
use Rattle.conn_histories.specs.Histories.Decision.{ToGroup, RefuseGroup, Reply}
use Rattle.client_laws.specs.Meeting.{IsLawful}
use Rattle.world_laws.specs.Counts.{does_in, done}
use Rattle.world_laws.proofs.Statics.{Answer, answers_in, is_clean, is_bind, no_bind, BindIs, Whole, Pairs, PairOf, last_pair}
use Rattle.world_laws.proofs.Statics.Whole.{unbound, bound}

true_false : (b : Bool) → b ≡ true → b ≡ false → ⊥
true_false b t f = absurd (cc (t, f))

not_both : (b : Bool) → b ≡ true → not b ≡ true → ⊥
not_both true t f = absurd (cc (f))
not_both false t f = absurd (cc (t))

and_parts : (a b : Bool) → (a && b) ≡ true → (a ≡ true) × (b ≡ true)
and_parts true b e = (refl, e)
and_parts false b e = absurd (cc (e))

-- ---- all of a list

all_last : (f : Event → Bool) (xs : List Event) (e : Event) → list_all f (xs ++ e ∷ []) ≡ true → f e ≡ true
all_last f [] e h = (and_parts (f e) true h).0
all_last f (x ∷ xs) e h = all_last f xs e (and_parts (f x) (list_all f (xs ++ e ∷ [])) h).1

all_mid : (f : Event → Bool) (xs : List Event) (e : Event) (ys : List Event) → list_all f (xs ++ e ∷ ys) ≡ true → f e ≡ true
all_mid f [] e ys h = (and_parts (f e) (list_all f ys) h).0
all_mid f (x ∷ xs) e ys h = all_mid f xs e ys (and_parts (f x) (list_all f (xs ++ e ∷ ys)) h).1

pub none_mid : (xs : List Event) (e : Event) (ys all : List Event) → all ≡ xs ++ e ∷ ys → is_bind e ≡ true → list_all no_bind all ≡ true → ⊥
none_mid xs e ys all is binds none = not_both (is_bind e) binds (all_mid no_bind xs e ys (subst (λ (x : List Event). list_all no_bind x ≡ true) is none))

-- ---- binds are no answers and no calls

bind_clean : (e : Event) → is_bind e ≡ true → is_clean e ≡ true
bind_clean (Decided decision octets) h = refl
bind_clean (Came octets) h = absurd (cc (h))
bind_clean Paused h = absurd (cc (h))
bind_clean (Did act) h = absurd (cc (h))

bind_answers : (e : Event) (ys : List Event) → is_bind e ≡ true → answers_in (e ∷ ys) ≡ answers_in ys
bind_answers (Decided (ToGroup group) octets) ys h = refl
bind_answers (Decided (RefuseGroup reason) octets) ys h = refl
bind_answers (Decided (Reply said executed) octets) ys h = absurd (cc (h))
bind_answers (Came octets) ys h = absurd (cc (h))
bind_answers Paused ys h = absurd (cc (h))
bind_answers (Did act) ys h = absurd (cc (h))

bind_does : (e : Event) → is_bind e ≡ true → does_in e ≡ 0
bind_does (Decided decision octets) h = refl
bind_does (Came octets) h = absurd (cc (h))
bind_does Paused h = absurd (cc (h))
bind_does (Did act) h = absurd (cc (h))

pub answers_append : (a b : List Event) → answers_in (a ++ b) ≡ answers_in a ++ answers_in b
answers_append [] b = refl
answers_append (Decided (Reply said executed) octets ∷ later) b = ap (λ (x : List Answer). record { said = said; executed = executed; octets = octets } ∷ x) (answers_append later b)
answers_append (Decided (ToGroup group) octets ∷ later) b = answers_append later b
answers_append (Decided (RefuseGroup reason) octets ∷ later) b = answers_append later b
answers_append (Came octets ∷ later) b = answers_append later b
answers_append (Paused ∷ later) b = answers_append later b
answers_append (Did act ∷ later) b = answers_append later b

-- ---- the last event

pub data Split (xs : List Event) (e a b : Event) (later : List Event) : Type 0 where
  second : xs ≡ a ∷ [] → e ≡ b → later ≡ [] → Split xs e a b later
  further : (ys : List Event) → xs ≡ a ∷ b ∷ ys → later ≡ ys ++ e ∷ [] → Split xs e a b later

same_head : (x y : Event) (xs ys : List Event) → x ∷ xs ≡ y ∷ ys → x ≡ y
same_head x y xs ys e = cc

same_tail : (x y : Event) (xs ys : List Event) → x ∷ xs ≡ y ∷ ys → xs ≡ ys
same_tail x y xs ys e = cc

split : (xs : List Event) (e a b : Event) (later : List Event) → xs ++ e ∷ [] ≡ a ∷ b ∷ later → Split xs e a b later
split [] e a b later h = absurd (omega (arith, ap length h))
split (x ∷ []) e a b later h =
    let rest : e ∷ [] ≡ b ∷ later = same_tail x a (e ∷ []) (b ∷ later) h in
    second (ap (λ (z : Event). z ∷ []) (same_head x a (e ∷ []) (b ∷ later) h)) (same_head e b [] later rest) (sym (same_tail e b [] later rest))
split (x ∷ y ∷ ys) e a b later h =
    let rest : y ∷ (ys ++ e ∷ []) ≡ b ∷ later = same_tail x a (y ∷ (ys ++ e ∷ [])) (b ∷ later) h in
    let first : x ≡ a = same_head x a (y ∷ (ys ++ e ∷ [])) (b ∷ later) h in
    let next : y ≡ b = same_head y b (ys ++ e ∷ []) later rest in
    further ys (λ i. first i ∷ next i ∷ ys) (sym (same_tail y b (ys ++ e ∷ []) later rest))

pub last_clean : (syntax : SyntaxId) (group : ℕ) (xs : List Event) (e : Event) (js : List Joined) → Whole syntax group (xs ++ e ∷ []) js → is_clean e ≡ true
last_clean syntax group xs e js (unbound most lawful a) = all_last is_clean xs e a.clean
last_clean syntax group xs e js (bound most lawful decided later is binds so a) = at (split xs e (Did (acts.Group group)) decided later is)
  where
    at : Split xs e (Did (acts.Group group)) decided later → is_clean e ≡ true
    at (second front here none) = ap is_clean here ∙ bind_clean decided binds
    at (further ys front rest) = all_last is_clean ys e (subst (λ (x : List Event). list_all is_clean x ≡ true) rest a.clean)

-- a bind that is answered is the first, and is answered so
pub last_bind : (syntax : SyntaxId) (group : ℕ) (xs : List Event) (e : Event) (js : List Joined) → Whole syntax group (xs ++ e ∷ []) js → is_bind e ≡ true → BindIs syntax group e × (list_all no_bind xs ≡ true)
last_bind syntax group xs e js (unbound most lawful a) it = absurd (not_both (is_bind e) it (all_last no_bind xs e a.unbound))
last_bind syntax group xs e js (bound most lawful decided later is binds so a) it = at (split xs e (Did (acts.Group group)) decided later is)
  where
    at : Split xs e (Did (acts.Group group)) decided later → BindIs syntax group e × (list_all no_bind xs ≡ true)
    at (second front here none) = (subst (λ (x : Event). BindIs syntax group x) (sym here) so, subst (λ (x : List Event). list_all no_bind x ≡ true) (sym front) refl)
    at (further ys front rest) = absurd (not_both (is_bind e) it (all_last no_bind ys e (subst (λ (x : List Event). list_all no_bind x ≡ true) rest a.unbound)))

-- so many calls came as were answered, or one more
pub whole_low : (syntax : SyntaxId) (group : ℕ) (all : List Event) (js : List Joined) → Whole syntax group all js → length (answers_in all) ≤ done all
whole_low syntax group all js (unbound most lawful a) = omega (arith, a.low)
whole_low syntax group all js (bound most lawful decided later is binds so a) = omega (arith, a.low, ap (λ (x : List Event). length (answers_in x)) is, ap length (bind_answers decided later binds), ap done is, bind_does decided binds)

pub whole_high : (syntax : SyntaxId) (group : ℕ) (all : List Event) (js : List Joined) → Whole syntax group all js → done all ≤ length (answers_in all) + 1
whole_high syntax group all js (unbound most lawful a) = omega (arith, a.high)
whole_high syntax group all js (bound most lawful decided later is binds so a) = omega (arith, a.high, ap (λ (x : List Event). length (answers_in x)) is, ap length (bind_answers decided later binds), ap done is, bind_does decided binds)

-- the last answer is that of the call in its place
pub record LastAnswer (xs : List Event) (a : Answer) (js : List Joined) : Type 0 where
  pub most : ℕ
  pub lawful : IsLawful most
  pub pair : PairOf most (length (answers_in xs)) a js

abbrev answered_by : Answer → Event
answered_by a = Decided (Reply a.said a.executed) a.octets

pub last_answer : (syntax : SyntaxId) (group : ℕ) (xs : List Event) (a : Answer) (js : List Joined) → Whole syntax group (xs ++ Decided (Reply a.said a.executed) a.octets ∷ []) js → LastAnswer xs a js
last_answer syntax group xs a js (unbound most lawful w) =
    record { most = most; lawful = lawful; pair = last_pair most (answers_in xs) a js (subst (λ (x : List Answer). Pairs most x js) (answers_append xs (answered_by a ∷ [])) w.pairs) }
last_answer syntax group xs a js (bound most lawful decided later is binds so w) = at (split xs (answered_by a) (Did (acts.Group group)) decided later is)
  where
    at : Split xs (answered_by a) (Did (acts.Group group)) decided later → LastAnswer xs a js
    at (second front here none) = absurd (true_false (is_bind (answered_by a)) (ap is_bind here ∙ binds) refl)
    at (further ys front rest) =
        let same : answers_in xs ≡ answers_in ys = ap answers_in front ∙ bind_answers decided ys binds in
        let p = last_pair most (answers_in ys) a js (subst (λ (x : List Answer). Pairs most x js) (ap answers_in rest ∙ answers_append ys (answered_by a ∷ [])) w.pairs) in
        record { most = most; lawful = lawful; pair = subst (λ (n : ℕ). PairOf most n a js) (sym (ap length same)) p }

-- A group has ended where each of its connections is over.
use Rattle.std.proofs.Common.{◌≡◌, ◌⊎◌, ◌∙◌, ◌==◌, ℕ, ◌+◌, suc, Bool, true, false, ◌&&◌, ◌||◌, not, Option, Some, None, List, [], ◌∷◌, ◌++◌, refl, sym, ap, subst, arith, inl, inr, true≢false, is_some}
use Rattle.std.specs.List.{list_any, filter, cons_option, AllByRecursion}
use Rattle.std.proofs.lemmas.Bool.{cases_Bool, eqb-true}
use Rattle.std.proofs.lemmas.Bool.Decides.{nat_tests}
use Rattle.handle_model.specs.declared.entry.Home.{Home}
use Rattle.handle_model.specs.declared.entry.Asked.{Asked}
use Rattle.handle_model.specs.declared.entry.Entry.{Entry}
use Rattle.handle_model.specs.declared.entry.Entry.TheVariants.{Join, Accept, Take, Deny, Cancel, Orphan, End, Leave, Shut}
use Rattle.handle_model.specs.Bases.{empty_base}
use Rattle.handle_model.specs.History.{History, IsSound, since, with_entry}
use Rattle.handle_model.specs.Journal.{Legal, is_shut, joins, leaves, takes, ends, decides, has_joined, is_open, joined, conns, taken, running, join_count, asked, has_left, is_taken, runs, is_empty, due}
use Rattle.handle_model.proofs.Held.{and_right, or_right, or_cases}
use Rattle.handle_model.specs.Further.{with_entries}
use Rattle.handle_model.proofs.Accepted.{asked_stays}
use Rattle.handle_model.proofs.Apart.{runs_taken_before}
use Rattle.handle_model.proofs.Stages.{decides_before_leave, taken_asked_since}
use Rattle.conn_histories.specs.declared.turn.Turn.{Turn}
use Rattle.conn_histories.specs.declared.turn.Turn.TheVariants.{Called}
use Rattle.conn_histories.specs.declared.turn.Deed.{Deed}
use Rattle.conn_histories.specs.declared.turn.Deed.TheVariants.{Pending, Refused, Accepted}
use Rattle.conn_histories.specs.Entries.{turn_runs, deed_number, numbers_of}
use Rattle.conn_histories.specs.Tales.{whole, calls_of, StandAll}
use Rattle.conn_turns.specs.Laws.{IsEnded, DeedEnded}
use Rattle.conn_turns.proofs.TaleFacts.{same_number}
use Rattle.conn_turns.proofs.Ending.{turns_have_ended}
use Rattle.server_rounds.specs.Endings.{IsThere}

-- the connection has left, and no call of it runs
pub record IsOver (past : List Entry) (c : ℕ) : Type 0 where
  pub newer : List Entry
  pub older : List Entry
  pub moment : past ≡ newer ++ older
  pub left : list_any (leaves c) older ≡ true
  pub turns : List Turn
  pub stand : StandAll c true older turns
  pub none_runs : list_any turn_runs turns ≡ false

-- ---- a call that has ended behind its connection's Leave stays so

no_take : (t x e : Bool) → (t && not e) ≡ false → (t && not (x || e)) ≡ false
no_take false x e h = refl
no_take true true true h = refl
no_take true true false h = refl
no_take true false true h = refl
no_take true false false h = absurd (true≢false h)

takes_decides : (k : ℕ) (e : Entry) → takes k e ≡ true → decides k e ≡ true
takes_decides k (Take m cookies) t = t
takes_decides k (Join c) t = absurd (true≢false (sym t))
takes_decides k (Accept m a) t = absurd (true≢false (sym t))
takes_decides k (Deny m slot) t = absurd (true≢false (sym t))
takes_decides k (Cancel m) t = absurd (true≢false (sym t))
takes_decides k (Orphan m) t = absurd (true≢false (sym t))
takes_decides k (End m results said) t = absurd (true≢false (sym t))
takes_decides k (Leave c) t = absurd (true≢false (sym t))
takes_decides k (Shut items) t = absurd (true≢false (sym t))

runs_not : (j : History) (e : Entry) (k : ℕ) → takes k e ≡ false → runs j k ≡ false → runs (with_entry j e) k ≡ false
runs_not j e k t none = rw t (no_take (is_taken j k) (ends k e) (list_any (ends k) j.past) none)

there : (p : Entry → Bool) (newer older : List Entry) → list_any p older ≡ true → list_any p (newer ++ older) ≡ true
there p [] older h = h
there p (e ∷ newer) older h = or_right (p e) (list_any p (newer ++ older)) (there p newer older h)

stays_over : (j : History) (newer : List Entry) (k : ℕ) (a : Asked) → Legal (with_entries j newer) → asked j k ≡ Some a → list_any (leaves a.conn) j.past ≡ true → runs j k ≡ false → runs (with_entries j newer) k ≡ false
stays_over j [] k a l s left none = none
stays_over j (e ∷ newer) k a l s left none =
    let before = stays_over j newer k a l.1 s left none in
    elim (cases_Bool (takes k e)) [
      | inl t ↦ let here = decides_before_leave (with_entries j newer) [] e k l (takes_decides k e t) before in
          let gone : has_left (with_entries j newer) (Some a) ≡ false = ap (has_left (with_entries j newer)) (sym (asked_stays j newer k a l.1 s)) ∙ here in
          absurd (true≢false (sym (there (leaves a.conn) newer j.past left) ∙ gone))
      | inr f ↦ runs_not (with_entries j newer) e k f before
    ]

-- ---- whose a call is

opens : (j : History) (c : ℕ) → is_open j c ≡ true → list_any (leaves c) j.past ≡ true → ⊥
opens j c o left = let stays = and_right (has_joined j c) (not (list_any (leaves c) j.past)) o in true≢false (sym stays ∙ ap not left)

-- no call of a connection is accepted behind its Leave
asked_then : (home : Home) (newer older : List Entry) (k : ℕ) (a : Asked) → Legal (whole home (newer ++ older)) → list_any (leaves a.conn) older ≡ true → asked (whole home (newer ++ older)) k ≡ Some a → asked (whole home older) k ≡ Some a
asked_then home [] older k a l left s = s
asked_then home (Accept m b ∷ newer) older k a l left s =
    elim (cases_Bool (m == k)) [
      | inl e ↦ let same : b ≡ a = some_same b a (accept_here m k b a e s) in
          absurd (opens (whole home (newer ++ older)) b.conn l.0.fits.1 (subst (λ x. list_any (leaves x.conn) (newer ++ older) ≡ true) (sym same) (there (leaves a.conn) newer older left)))
      | inr e ↦ asked_then home newer older k a l.1 left (rw e at s)
    ]
  where
    some_same : (b a : Asked) → Some b ≡ Some a → b ≡ a
    some_same b a e = cc

    accept_here : (m k : ℕ) (b a : Asked) → (m == k) ≡ true → asked (whole home (Accept m b ∷ newer ++ older)) k ≡ Some a → Some b ≡ Some a
    accept_here m k b a e s = rw e at s
asked_then home (e ∷ newer) older k a l left s = asked_then home newer older k a l.1 left s

-- ---- a call of a connection that is over

in_calls : (home : Home) (past : List Entry) (k : ℕ) (a : Asked) → asked (whole home past) k ≡ Some a → list_any (λ m. m == k) (calls_of a.conn past) ≡ true
in_calls home [] k a s = absurd (cc)
in_calls home (Accept m b ∷ past) k a s =
    elim (cases_Bool (m == k)) [
      | inl e ↦ let same : b ≡ a = some_same b a (accept_here m k b a e s) in
          let own : (b.conn == a.conn) ≡ true = subst (λ x. (b.conn == x.conn) ≡ true) same (same_number b.conn) in rw (own, e) refl
      | inr e ↦ let rest = in_calls home past k a (rw e at s) in elim (cases_Bool (b.conn == a.conn)) [
        | inl c ↦ rw (c, e) rest
        | inr c ↦ rw c rest
      ]
    ]
  where
    some_same : (b a : Asked) → Some b ≡ Some a → b ≡ a
    some_same b a e = cc

    accept_here : (m k : ℕ) (b a : Asked) → (m == k) ≡ true → asked (whole home (Accept m b ∷ past)) k ≡ Some a → Some b ≡ Some a
    accept_here m k b a e s = rw e at s
in_calls home (e ∷ past) k a s = in_calls home past k a s

deed_over : (home : Home) (past : List Entry) (k : ℕ) (d : Deed) (rest : List ℕ) → DeedEnded home past d → (list_any (λ m. m == k) rest ≡ true → runs (whole home past) k ≡ false)
    → list_any (λ m. m == k) (cons_option (deed_number d) rest) ≡ true → runs (whole home past) k ≡ false
deed_over home past k (Accepted n slots fate) rest h later t =
    elim (or_cases (n == k) (list_any (λ m. m == k) rest) t) [
      | inl e ↦ subst (λ x. runs (whole home past) x ≡ false) (eqb-true n k e) h.1
      | inr r ↦ later r
    ]
deed_over home past k Pending rest h later t = later t
deed_over home past k (Refused status) rest h later t = later t

call_over : (home : Home) (past : List Entry) (turns : List Turn) (k : ℕ) → AllByRecursion (IsEnded home past) turns → list_any (λ m. m == k) (numbers_of turns) ≡ true → runs (whole home past) k ≡ false
call_over home past [] k h t = absurd (true≢false (sym t))
call_over home past (Called r ∷ ts) k h t = deed_over home past k r.deed (numbers_of ts) h.0 (λ later. call_over home past ts k h.1 later) t
call_over home past (_ ∷ ts) k h t = call_over home past ts k h.1 t

-- ---- a group whose connections are over

-- each connection that is there is over
abbrev pub AllOver : Home → List Entry → Type 0
AllOver home past = (c : ℕ) → IsThere (whole home past) c → IsOver past c

over_call : (home : Home) (past : List Entry) (k : ℕ) (a : Asked) → Legal (whole home past) → asked (whole home past) k ≡ Some a → IsOver past a.conn → runs (whole home past) k ≡ false
over_call home past k a l s o =
    let legal : Legal (whole home (o.newer ++ o.older)) = subst (λ p. Legal (whole home p)) o.moment l in
    let now : asked (whole home (o.newer ++ o.older)) k ≡ Some a = subst (λ p. asked (whole home p) k ≡ Some a) o.moment s in
    let then = asked_then home o.newer o.older k a legal o.left now in
    let listed : list_any (λ m. m == k) (numbers_of o.turns) ≡ true = subst (λ ms. list_any (λ m. m == k) ms ≡ true) o.stand.calls (in_calls home o.older k a then) in
    let ended = call_over home o.older o.turns k (turns_have_ended home a.conn o.older o.turns o.stand o.none_runs) listed in
    subst (λ p. runs (whole home p) k ≡ false) (sym o.moment) (stays_over (whole home o.older) o.newer k a legal then o.left ended)

abbrev Known : Option Asked → Type 0
Known o = (o ≡ None) ⊎ ((a : Asked) × (o ≡ Some a))

known : (o : Option Asked) → Known o
known None = inl refl
known (Some a) = inr (a, refl)

none_runs : (home : Home) (past : List Entry) (k : ℕ) → Legal (whole home past) → AllOver home past → runs (whole home past) k ≡ false
none_runs home past k l over =
    elim (cases_Bool (runs (whole home past) k)) [
      | inl t ↦ elim (known (asked (whole home past) k)) [
        | inl n ↦ absurd (true≢false (sym (taken_asked_since home empty_base past k l (runs_taken_before (whole home past) k t)) ∙ ap is_some n))
        | inr s ↦ over_call home past k s.0 l s.1 (over s.0.conn (inr (k, s.0, t, s.1, refl)))
      ]
      | inr f ↦ f
    ]

none_open : (home : Home) (past : List Entry) (c : ℕ) → AllOver home past → is_open (whole home past) c ≡ false
none_open home past c over =
    elim (cases_Bool (is_open (whole home past) c)) [
      | inl t ↦ let o = over c (inl t) in
          absurd (opens (whole home past) c t (subst (λ p. list_any (leaves c) p ≡ true) (sym o.moment) (there (leaves c) o.newer o.older o.left)))
      | inr f ↦ f
    ]

none_kept : (p : ℕ → Bool) (xs : List ℕ) → ((x : ℕ) → p x ≡ false) → filter p xs ≡ []
none_kept p [] none = refl
none_kept p (x ∷ xs) none = rw (none x) (none_kept p xs none)

some_joined : (home : Home) (past : List Entry) (c : ℕ) → list_any (joins c) past ≡ true → (join_count (whole home past) == 0) ≡ false
some_joined home [] c h = absurd (true≢false (sym h))
some_joined home (Join d ∷ past) c h = not_zero (join_count (whole home past))
  where
    not_zero : (n : ℕ) → (suc n == 0) ≡ false
    not_zero n = grind (arith, nat_tests)
some_joined home (_ ∷ past) c h = some_joined home past c h

is_due : (a b c d : Bool) → (not a && not b && c && d) ≡ false → a ≡ false → c ≡ true → d ≡ true → b ≡ true
is_due false true true true e p q r = refl
is_due false false true true e p q r = absurd (true≢false e)
is_due true b c d e p q r = absurd (true≢false p)
is_due false b false d e p q r = absurd (true≢false (sym q))
is_due false b true false e p q r = absurd (true≢false (sym r))

pub group_ended : (home : Home) (past : List Entry) (c : ℕ) → IsSound (whole home past) → list_any (joins c) past ≡ true → AllOver home past → list_any is_shut past ≡ true
group_ended home past c s h over =
    let j : History = whole home past in
    is_due (join_count j == 0) (list_any is_shut past) (is_empty (conns j)) (is_empty (running j)) s.settled (some_joined home past c h)
    (ap is_empty (none_kept (is_open j) (joined j) (λ x. none_open home past x over)))
    (ap is_empty (none_kept (runs j) (taken j) (λ k. none_runs home past k s.legal over)))

-- What others entered, as a connection's turns see it.
use Rattle.std.proofs.Common.{◌≡◌, ℕ, ◌==◌, Bool, true, false, ◌&&◌, ◌||◌, if◌then◌else◌, List, [], ◌∷◌, Some, None, refl, sym, ap, ◌∙◌, subst}
use Rattle.std.specs.List.{list_any, cons_option, AllByRecursion}
use Rattle.handle_model.specs.declared.entry.Entry.{Entry}
use Rattle.handle_model.specs.declared.entry.Entry.TheVariants.{Join, Accept, Take, Deny, Cancel, Orphan, End, Leave, Shut}
use Rattle.conn_histories.specs.declared.turn.Turn.{Turn}
use Rattle.conn_histories.specs.Entries.{numbers_of}
use Rattle.conn_histories.specs.Tales.{of_call, of_conn, calls_of, StandAll}
use Rattle.conn_turns.specs.Laws.{AreOfOthers}
use Rattle.conn_turns.proofs.TaleFacts.{same_number, or_true}
use Rattle.hub_story.specs.declared.item.Item.{Item}
use Rattle.hub_story.specs.declared.item.Item.TheVariants.{Of}
use Rattle.hub_story.specs.Histories.{past_in}
use Rattle.hub_story.specs.Passes.{Seen, HasOwn, accepts_of}
use Rattle.hub_story.specs.Calls as calls
use Rattle.hub_story.specs.Calls.{Apart}

-- where no entry is of the connection, none is its Join or Leave, and none accepts a call of it
pub of_none : (c : ℕ) (es : List Entry) → list_any (calls.of_conn c) es ≡ false → (list_any (of_conn c) es ≡ false) × (calls_of c es ≡ [])
of_none c [] h = (refl, refl)
of_none c (Join d ∷ es) h = by_test (d == c) (of_none c es) h
  where
    by_test : (b : Bool) → (list_any (calls.of_conn c) es ≡ false → (list_any (of_conn c) es ≡ false) × (calls_of c es ≡ []))
        → (b || list_any (calls.of_conn c) es) ≡ false → ((b || list_any (of_conn c) es) ≡ false) × (calls_of c es ≡ [])
    by_test true r i = absurd cc
    by_test false r i = r i
of_none c (Accept k a ∷ es) h = by_test (a.conn == c) (of_none c es) h
  where
    by_test : (b : Bool) → (list_any (calls.of_conn c) es ≡ false → (list_any (of_conn c) es ≡ false) × (calls_of c es ≡ []))
        → (b || list_any (calls.of_conn c) es) ≡ false → (list_any (of_conn c) es ≡ false) × (cons_option (if b then Some k else None) (calls_of c es) ≡ [])
    by_test true r i = absurd cc
    by_test false r i = r i
of_none c (Leave d ∷ es) h = by_test (d == c) (of_none c es) h
  where
    by_test : (b : Bool) → (list_any (calls.of_conn c) es ≡ false → (list_any (of_conn c) es ≡ false) × (calls_of c es ≡ []))
        → (b || list_any (calls.of_conn c) es) ≡ false → ((b || list_any (of_conn c) es) ≡ false) × (calls_of c es ≡ [])
    by_test true r i = absurd cc
    by_test false r i = r i
of_none c (Take k cookies ∷ es) h = of_none c es h
of_none c (Deny k slot ∷ es) h = of_none c es h
of_none c (Cancel k ∷ es) h = of_none c es h
of_none c (Orphan k ∷ es) h = of_none c es h
of_none c (End k results said ∷ es) h = of_none c es h
of_none c (Shut items ∷ es) h = of_none c es h

same_call : (k : ℕ) (e : Entry) → calls.of_call k e ≡ of_call k e
same_call k (Join d) = refl
same_call k (Accept m a) = refl
same_call k (Take m cookies) = refl
same_call k (Deny m slot) = refl
same_call k (Cancel m) = refl
same_call k (Orphan m) = refl
same_call k (End m results said) = refl
same_call k (Leave d) = refl
same_call k (Shut items) = refl

none_of_call : (k : ℕ) (es : List Entry) → list_any (calls.of_call k) es ≡ list_any (of_call k) es
none_of_call k [] = refl
none_of_call k (e ∷ es) = let one = same_call k e in let rest = none_of_call k es in λ i. one i || rest i

-- what holds of each call that was accepted of the connection
each_call : (P : ℕ → Type 0) (c : ℕ) (past : List Entry) → ((k : ℕ) → list_any (accepts_of c k) past ≡ true → P k) → AllByRecursion P (calls_of c past)
each_call P c [] all = tt
each_call P c (Accept m a ∷ past) all = by_test (a.conn == c) (λ k. each_call P c past k) all
  where
    by_test : (b : Bool) → (((k : ℕ) → list_any (accepts_of c k) past ≡ true → P k) → AllByRecursion P (calls_of c past))
        → ((k : ℕ) → ((m == k) && b || list_any (accepts_of c k) past) ≡ true → P k) → AllByRecursion P (cons_option (if b then Some m else None) (calls_of c past))
    by_test true r h =
        (h m (rw (same_number m) refl), r (λ k t. h k (rw t (or_true ((m == k) && true)))))
    by_test false r h = r (λ k t. h k (rw t (or_true ((m == k) && false))))
each_call P c (Join d ∷ past) all = each_call P c past all
each_call P c (Take m cookies ∷ past) all = each_call P c past all
each_call P c (Deny m slot ∷ past) all = each_call P c past all
each_call P c (Cancel m ∷ past) all = each_call P c past all
each_call P c (Orphan m ∷ past) all = each_call P c past all
each_call P c (End m results said ∷ past) all = each_call P c past all
each_call P c (Leave d ∷ past) all = each_call P c past all
each_call P c (Shut items ∷ past) all = each_call P c past all

pub apart_others : (g c : ℕ) (gone : Bool) (v : Seen) (between : List Item) (turns : List Turn) → Apart v between → HasOwn v (Of g (Join c)) → StandAll c gone (past_in g v.log) turns
    → AreOfOthers c turns (past_in g between)
apart_others g c gone v between turns apart own stand =
    let none = of_none c (past_in g between) (apart.conns g c own) in
    let all : AllByRecursion (λ k. list_any (of_call k) (past_in g between) ≡ false) (calls_of c (past_in g v.log)) =
    each_call (λ k. list_any (of_call k) (past_in g between) ≡ false) c (past_in g v.log) (λ k known. sym (none_of_call k (past_in g between)) ∙ apart.calls g c k own known) in
    record {
      no_conn = none.0;
      no_call = none.1;
      none_of = subst (λ ks. AllByRecursion (λ k. list_any (of_call k) (past_in g between) ≡ false) ks) stand.calls all;
    }

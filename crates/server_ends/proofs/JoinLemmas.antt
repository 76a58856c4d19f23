-- Where a bind's group leads to.
use Rattle.std.proofs.Common.{◌≡◌, ◌≢◌, ◌==◌, ℕ, suc, ◌+◌, ◌≤◌, ◌<◌, Bool, if◌then◌else◌, true, false, Some, None, Result, Ok, Err, List, [], ◌∷◌, ◌++◌, length, reverse, inl, inr, refl, sym, ap, ◌∙◌, subst, arith, append_assoc, append-nil, IfOk}
use Rattle.std.specs.List.{list_any, filter_map, cons_option}
use Rattle.std.proofs.lemmas.List.{append_cancel_right, length-reverse}
use Rattle.std.proofs.lemmas.Bool.Decides.{eqb_tells}
use mathlib.Core.Logic.{dite}
use native.Mathlib.Decide.{ℕ_discrete}
use Rattle.turn_lock.specs.Histories.{StartsWith, places}
use Rattle.handle_model.specs.declared.entry.Entry.{Entry}
use Rattle.handle_model.specs.declared.entry.Entry.TheVariants.{Join}
use Rattle.handle_model.specs.declared.limits.JoinLimit.{JoinLimit}
use Rattle.handle_model.specs.Journal.{is_shut}
use Rattle.handle_model.specs.History.{History}
use Rattle.handle_model.specs.Limits.{join_limit}
use Rattle.hub_story.specs.declared.item.Mark.{Mark}
use Rattle.hub_story.specs.declared.item.Mark.TheVariants.{Opened, Missed}
use Rattle.hub_story.specs.declared.item.Item.{Item}
use Rattle.hub_story.specs.declared.item.Item.TheVariants.{Begun, Listed, Of}
use Rattle.hub_story.specs.Directories.{is_open_id}
use Rattle.hub_story.specs.Histories.{mark_of, entry_of, marks_in, past_in, journal_in}
use Rattle.hub_story.specs.Passes.{Seen, Serves}
use Rattle.hub_story.specs.Calls.{IsNewConn, Enters}
use Rattle.hub_story.proofs.ItemLemmas.{past-append, past_items, past_others, marks_items}
use Rattle.hub_shard.specs.declared.answer.Absence.{Absence}
use Rattle.hub_shard.specs.declared.answer.Absence.TheVariants.{Directory, Shut}
use Rattle.hub_shard.specs.declared.answer.OpenRefusal.{OpenRefusal}
use Rattle.hub_shard.specs.declared.answer.OpenRefusal.TheVariants as opening
use Rattle.hub_shard.specs.declared.answer.FindRefusal.{FindRefusal}
use Rattle.hub_shard.specs.declared.answer.FindRefusal.TheVariants as finding
use Rattle.hub_shard.specs.Finds.{gives_find}
use Rattle.group_hub.specs.declared.pass.Pass.{Pass}
use Rattle.group_hub.specs.Shards.{shard_of}
use Rattle.group_hub.specs.Passes.{at_shard, EntersAt}
use Rattle.group_hub.specs.Openings.{HadNoRoom, PassedBy, Quiet, Opens}
use Rattle.server_ends.specs.declared.joining.Membership.{Membership}
use Rattle.server_ends.specs.Owning.{Owns, Grown}
use Rattle.server_ends.specs.Joins.{JoinedAs, Was, NoRoom, Misses, IsRefusedFor, Joins, opened_for, by_opening, by_finding}
use Rattle.server_ends.proofs.PassLemmas.{owns_more}

-- ---- fronts and own places

owns_none : (v : Seen) → Owns v v []
owns_none v = ([], sym (append-nil v.own), refl)

-- the front goes on, and nothing is entered
abbrev Onward : Seen → Seen → Type 0
Onward v w = StartsWith w.log v.log × (w.own ≡ v.own)

onward_same : (v w : Seen) → w ≡ v → Onward v w
onward_same v w is = (([], ap (λ (x : Seen). x.log) is ∙ sym (append-nil v.log)), ap (λ (x : Seen). x.own) is)

onward_none : (boot s : ℕ) (v w : Seen) (between : List Item) → Enters boot s v w between [] → Onward v w
onward_none boot s v w between e = ((between, e.log ∙ append-nil (v.log ++ between)), e.own ∙ append-nil v.own)

passed : (boot s : ℕ) (v w : Seen) → PassedBy boot s v w → Onward v w
passed boot s v w (inl h) = onward_none boot s v w h.1.between h.1.enters
passed boot s v w (inr is) = onward_same v w is

quiet : (boot s : ℕ) (v w : Seen) → Quiet boot s v w → Onward v w
quiet boot s v w (inl h) = onward_none boot s v w h.0 h.1
quiet boot s v w (inr is) = onward_same v w is

starts : (boot s : ℕ) (v w : Seen) (between more : List Item) → Enters boot s v w between more → StartsWith w.log v.log
starts boot s v w between more e = (between ++ more, e.log ∙ append_assoc v.log between more)

owns_with : (boot s : ℕ) (v w : Seen) (between more : List Item) → Enters boot s v w between more → Owns v w more
owns_with boot s v w between more e = owns_more boot s v v w [] between more (owns_none v) e

-- items were entered at one shard
grown_there : (boot s : ℕ) (p q : Pass) (between more : List Item) → Enters boot s (at_shard p s) (at_shard q s) between more → ((t : ℕ) → t < 16 → t ≢ s → Onward (at_shard p t) (at_shard q t)) → Grown s p q more
grown_there boot s p q between more e others = record {
  fronts = λ t low. dite (ℕ_discrete t s)
      (λ same. subst (λ (x : ℕ). StartsWith (at_shard q x).log (at_shard p x).log) (sym same) (starts boot s (at_shard p s) (at_shard q s) between more e))
      (λ apart. (others t low apart).0);
  owns = owns_with boot s (at_shard p s) (at_shard q s) between more e;
  others = λ t low apart. (others t low apart).1;
}

-- none were
grown_none : (s : ℕ) (p q : Pass) → s < 16 → ((t : ℕ) → t < 16 → Onward (at_shard p t) (at_shard q t)) → Grown s p q []
grown_none s p q low each = record {
  fronts = λ t less. (each t less).0;
  owns = ([], (each s low).1 ∙ sym (append-nil (at_shard p s).own), refl);
  others = λ t less apart. (each t less).1;
}

low_shard : (g : ℕ) → shard_of g < 16
low_shard g = omega arith

-- ---- a join

same_numbers : (n m : ℕ) → (n == m) ≡ true → n ≡ m
same_numbers n m h = elim (eqb_tells n m) [ inl e ↦ e.1 | inr e ↦ let f = e.0 in absurd cc ]

-- a mark or an entry of one group each
at_most : (g h : ℕ) → h ≢ g → (items : List Item) → length (filter_map mark_of items) + length (filter_map (entry_of g) items) + length (filter_map (entry_of h) items) ≤ length items
at_most g h apart [] = omega arith
at_most g h apart (Begun boot s ∷ items) = let rest = at_most g h apart items in omega arith
at_most g h apart (Listed m ∷ items) = let rest = at_most g h apart items in omega arith
at_most g h apart (Of o e ∷ items) =
    by_test (o == g) (o == h) (one_of o) (at_most g h apart items)
  where
    one_of : (o : ℕ) → (o == g) ≡ true → (o == h) ≡ true → ⊥
    one_of o a b = apart (sym (same_numbers o h b) ∙ same_numbers o g a)

    by_test : (a b : Bool) → (a ≡ true → b ≡ true → ⊥) → length (filter_map mark_of items) + length (filter_map (entry_of g) items) + length (filter_map (entry_of h) items) ≤ length items
        → length (filter_map mark_of items) + length (cons_option (if a then Some e else None) (filter_map (entry_of g) items)) + length (cons_option (if b then Some e else None) (filter_map (entry_of h) items)) ≤ suc (length items)
    by_test true true f r = absurd (f refl refl)
    by_test true false f r = omega arith
    by_test false true f r = omega arith
    by_test false false f r = omega arith

-- a group that was opened is alone in what was entered then
opened_alone : (id h : ℕ) (more : List Item) (one : Entry) → length more ≡ 2 → marks_in more ≡ Opened id ∷ [] → past_in id more ≡ one ∷ [] → h ≢ id → past_in h more ≡ []
opened_alone id h more one two mark there apart =
    let most = at_most id h apart more in
    let m : length (filter_map mark_of more) ≡ 1 = sym (length-reverse (filter_map mark_of more)) ∙ ap (λ (l : List Mark). length l) mark in
    let n : length (filter_map (entry_of id) more) ≡ 1 = sym (length-reverse (filter_map (entry_of id) more)) ∙ ap (λ (l : List Entry). length l) there in
    ap reverse (empty (filter_map (entry_of h) more) (omega arith))
  where
    empty : (l : List Entry) → length l ≡ 0 → l ≡ []
    empty [] e = refl
    empty (x ∷ l) e = absurd cc

joined_with : (boot asked g c : ℕ) (p q : Pass) (between more : List Item) → Enters boot (shard_of g) (at_shard p (shard_of g)) (at_shard q (shard_of g)) between more → past_in g more ≡ Join c ∷ [] → ((h : ℕ) → h ≢ g → past_in h more ≡ []) → marks_in more ≡ opened_for asked g
    → IsNewConn c (journal_in boot g ((at_shard p (shard_of g)).log ++ between)) → Serves (at_shard q (shard_of g)) g c → ((t : ℕ) → t < 16 → t ≢ shard_of g → Onward (at_shard p t) (at_shard q t))
    → JoinedAs boot p asked g c q
joined_with boot asked g c p q between more e own alone marks new serves others =
    let log = (at_shard p (shard_of g)).log ++ between in
    record {
      items = more;
      grown = grown_there boot (shard_of g) p q between more e others;
      own = own;
      others = alone;
      marks = marks;
      older = past_in g log;
      past = ap (past_in g) e.log ∙ (past-append g log more ∙ ap (λ x. x ++ past_in g log) own);
      new = new;
      serves = serves;
      story = e.story;
    }

-- what is marked then
asks_new : (asked g : ℕ) → asked ≡ 0 → Opened g ∷ [] ≡ opened_for asked g
asks_new asked g is = sym (ap (λ (n : ℕ). opened_for n g) is)

asks_known : (asked g : ℕ) → asked ≢ 0 → [] ≡ opened_for asked g
asks_known asked g some = elim (eqb_tells asked 0) [ inl e ↦ absurd (some e.1) | inr e ↦ let no = e.0 in rw no refl ]

pub opened : (boot id c : ℕ) (p q : Pass) (asked : ℕ) → asked ≡ 0 → Opens boot p (Ok (id, c)) q → Serves (at_shard q (shard_of id)) id c → Joins boot p asked (Ok (record { group = id; number = c })) q
opened boot id c p q asked zero_ o serves =
    let there = o.1 in (
      λ known. absurd (known zero_),
      λ new. o.0,
      subst (λ (x : ℕ). JoinedAs boot p asked id x q) (sym o.0)
          (joined_with boot asked id 1 p q there.0 there.1 there.2 there.3.0.6 (λ h apart. opened_alone id h there.1 (Join 1) there.3.0.4 there.3.0.5 there.3.0.6 apart) (there.3.0.5 ∙ asks_new asked id zero_) there.3.1 (subst (λ (x : ℕ). Serves (at_shard q (shard_of id)) id x) o.0 serves)
          (λ t low apart. passed boot t (at_shard p t) (at_shard q t) (o.2 t low apart))),
    )

pub found : (boot id c : ℕ) (p q : Pass) → id ≢ 0 → EntersAt boot id p q (λ log more. gives_find (record { id = id }) boot (shard_of id) log (Ok c) more × IsNewConn c (journal_in boot id log)) → Serves (at_shard q (shard_of id)) id c
    → Joins boot p id (Ok (record { group = id; number = c })) q
found boot id c p q some call serves =
    let says = call.here.3.0.1 in
    let j = journal_in boot id ((at_shard p (shard_of id)).log ++ call.here.0) in
    let one : says.0 ≡ Join c ∷ [] = append_cancel_right says.0 (Join c ∷ []) j.past (ap (λ (z : History). z.past) says.2.2) in
    let own : past_in id call.here.1 ≡ Join c ∷ [] = ap (past_in id) says.1 ∙ (past_items id says.0 ∙ one) in (
      λ known. refl,
      λ none. absurd (some none),
      joined_with boot id id c p q call.here.0 call.here.1 call.here.2 own (λ h apart. ap (past_in h) says.1 ∙ past_others id h says.0 (λ e. apart (sym e))) (ap marks_in says.1 ∙ (marks_items id says.0 ∙ asks_known id id some)) call.here.3.1 serves (λ t low apart. onward_same (at_shard p t) (at_shard q t) (call.others t apart)),
    )

-- ---- a refusal

was_so : (boot s : ℕ) (v w : Seen) (between more : List Item) (Holds : List Item → Type 0) → Enters boot s v w between more → Holds (v.log ++ between) → Was v w Holds
was_so boot s v w between more Holds e h = record { moment = v.log ++ between; later = more; since = between; front = e.log; starts = refl; holds = h }

misses : (boot s g : ℕ) (v w : Seen) (between more : List Item) → Enters boot s v w between more → more ≡ Listed (Missed g) ∷ [] → is_open_id (marks_in (v.log ++ between)) g ≡ false → Misses g v w
misses boot s g v w between more e one absent = record {
  before = v.log ++ between;
  starts = (between, refl);
  front = e.log ∙ ap (λ l. (v.log ++ between) ++ l) one;
  own = e.own ∙ ap (λ l. v.own ++ places (length (v.log ++ between)) (length l)) one;
  absent = absent;
}

no_room : (boot s : ℕ) (full : Bool) (v w : Seen) → HadNoRoom boot s full v w → Was v w (NoRoom s)
no_room boot s true v w h = was_so boot s v w h.between [] (NoRoom s) h.enters (inl h.full_is)
no_room boot s false v w h = was_so boot s v w h.between [] (NoRoom s) h.enters (inr (h.used_up refl))

refused_none : (boot asked reason : ℕ) (p q : Pass) → ((t : ℕ) → t < 16 → Onward (at_shard p t) (at_shard q t)) → IsRefusedFor boot p asked reason q [] → Joins boot p asked (Err reason) q
refused_none boot asked reason p q each why = ([], grown_none (shard_of asked) p q (low_shard asked) each, why)

pub all_full : (boot asked : ℕ) (p q : Pass) → asked ≡ 0 → Opens boot p (Err opening.GroupsFull) q → Joins boot p asked (Err 2) q
all_full boot asked p q zero_ o =
    refused_none boot asked 2 p q (λ t low. let h = o.0 t low in onward_none boot t (at_shard p t) (at_shard q t) h.1.between h.1.enters)
    (inr (inl (refl, refl, inl (zero_, λ s low. let h = o.0 s low in no_room boot s h.0 (at_shard p s) (at_shard q s) h.1))))

pub all_used : (boot asked : ℕ) (p q : Pass) → asked ≡ 0 → Opens boot p (Err opening.Ids) q → Joins boot p asked (Err 2) q
all_used boot asked p q zero_ o =
    refused_none boot asked 2 p q (λ t low. let h = o t low in onward_none boot t (at_shard p t) (at_shard q t) h.between h.enters)
    (inr (inl (refl, refl, inl (zero_, λ s low. no_room boot s false (at_shard p s) (at_shard q s) (o s low)))))

pub open_short : (boot asked : ℕ) (p q : Pass) → Opens boot p (Err opening.Memory) q → Joins boot p asked (Err 1) q
open_short boot asked p q o = refused_none boot asked 1 p q (λ t low. quiet boot t (at_shard p t) (at_shard q t) (o t low)) (inr (inr (refl, refl)))

-- a call at one shard, that entered nothing
module _ (boot id : ℕ) (p q : Pass) (between : List Item) (e : Enters boot (shard_of id) (at_shard p (shard_of id)) (at_shard q (shard_of id)) between []) (others : (t : ℕ) → t ≢ shard_of id → at_shard q t ≡ at_shard p t) where
  onward_all : (t : ℕ) → t < 16 → Onward (at_shard p t) (at_shard q t)
  onward_all t low = dite (ℕ_discrete t (shard_of id))
      (λ same. subst (λ (x : ℕ). Onward (at_shard p x) (at_shard q x)) (sym same) (onward_none boot (shard_of id) (at_shard p (shard_of id)) (at_shard q (shard_of id)) between e))
      (λ apart. onward_same (at_shard p t) (at_shard q t) (others t apart))

  limited : (x : JoinLimit) → id ≢ 0 → join_limit (journal_in boot id ((at_shard p (shard_of id)).log ++ between)) ≡ Some x → Joins boot p id (Err 2) q
  limited x some limit = refused_none boot id 2 p q onward_all (inr (inl (
    refl,
    refl,
    inr (
      some,
      was_so boot (shard_of id) (at_shard p (shard_of id)) (at_shard q (shard_of id)) between [] (λ log. join_limit (journal_in boot id log) ≢ None) e (λ none. let no : Some x ≡ None = sym limit ∙ none in absurd cc),
    ),
  )))

  ended : id ≢ 0 → list_any is_shut (past_in id ((at_shard p (shard_of id)).log ++ between)) ≡ true → Joins boot p id (Err 0) q
  ended some shut = refused_none boot id 0 p q onward_all (inl (refl, some, inr (refl, ap (λ l. list_any is_shut (past_in id l)) (e.log ∙ append-nil ((at_shard p (shard_of id)).log ++ between)) ∙ shut)))

  short : Joins boot p id (Err 1) q
  short = refused_none boot id 1 p q onward_all (inr (inr (refl, refl)))

-- what is said of a refusal
abbrev pub refused_with : FindRefusal → Result ℕ FindRefusal
refused_with why = Err why

abbrev pub Finding : ℕ → ℕ → Pass → Pass → FindRefusal → Type 0
Finding boot id p q why = EntersAt boot id p q (λ log more. gives_find (record { id = id }) boot (shard_of id) log (refused_with why) more × IfOk (refused_with why) (λ conn. IsNewConn conn (journal_in boot id log)))

nothing_in : (boot id : ℕ) (p q : Pass) (between more : List Item) → more ≡ [] → Enters boot (shard_of id) (at_shard p (shard_of id)) (at_shard q (shard_of id)) between more
    → Enters boot (shard_of id) (at_shard p (shard_of id)) (at_shard q (shard_of id)) between []
nothing_in boot id p q between more is e = subst (λ x. Enters boot (shard_of id) (at_shard p (shard_of id)) (at_shard q (shard_of id)) between x) is e

pub crowded : (boot id : ℕ) (p q : Pass) → id ≢ 0 → Finding boot id p q finding.TooMany → Joins boot p id (Err 2) q
crowded boot id p q some call = let t = call.here.3.0 in limited boot id p q call.here.0 (nothing_in boot id p q call.here.0 call.here.1 t.2 call.here.2) call.others _ some t.1

pub numbered_out : (boot id : ℕ) (p q : Pass) → id ≢ 0 → Finding boot id p q finding.Numbers → Joins boot p id (Err 2) q
numbered_out boot id p q some call = let t = call.here.3.0 in limited boot id p q call.here.0 (nothing_in boot id p q call.here.0 call.here.1 t.2 call.here.2) call.others _ some t.1

pub find_short : (boot id : ℕ) (p q : Pass) → Finding boot id p q finding.Memory → Joins boot p id (Err 1) q
find_short boot id p q call = short boot id p q call.here.0 (nothing_in boot id p q call.here.0 call.here.1 call.here.3.0 call.here.2) call.others

pub missed : (boot id : ℕ) (p q : Pass) (a : Absence) → id ≢ 0 → Finding boot id p q (finding.NoGroup a) → Joins boot p id (Err 0) q
missed boot id p q (Directory n) some call =
    let t = call.here.3.0 in (
      call.here.1,
      grown_there boot (shard_of id) p q call.here.0 call.here.1 call.here.2 (λ x low apart. onward_same (at_shard p x) (at_shard q x) (call.others x apart)),
      inl (refl, some, inl (t.2, misses boot (shard_of id) id (at_shard p (shard_of id)) (at_shard q (shard_of id)) call.here.0 call.here.1 call.here.2 t.2 t.0)),
    )
missed boot id p q (Shut n) some call =
    let t = call.here.3.0 in ended boot id p q call.here.0 (nothing_in boot id p q call.here.0 call.here.1 t.3 call.here.2) call.others some t.1

-- ---- all answers

pub joins_new : (boot asked : ℕ) (p q : Pass) (answer : Result (ℕ × ℕ) OpenRefusal) (r : Result Membership ℕ) → asked ≡ 0 → Opens boot p answer q
    → IfOk answer (λ opened. Serves (at_shard q (shard_of opened.0)) opened.0 opened.1) → r ≡ by_opening answer → Joins boot p asked r q
joins_new boot asked p q (Ok (g, c)) r zero_ o serves is = subst (λ x. Joins boot p asked x q) (sym is) (opened boot g c p q asked zero_ o serves)
joins_new boot asked p q (Err opening.GroupsFull) r zero_ o serves is = subst (λ x. Joins boot p asked x q) (sym is) (all_full boot asked p q zero_ o)
joins_new boot asked p q (Err opening.Ids) r zero_ o serves is = subst (λ x. Joins boot p asked x q) (sym is) (all_used boot asked p q zero_ o)
joins_new boot asked p q (Err opening.Memory) r zero_ o serves is = subst (λ x. Joins boot p asked x q) (sym is) (open_short boot asked p q o)

pub joins_known : (boot id : ℕ) (p q : Pass) (answer : Result ℕ FindRefusal) (r : Result Membership ℕ) → id ≢ 0
    → EntersAt boot id p q (λ log more. gives_find (record { id = id }) boot (shard_of id) log answer more × IfOk answer (λ conn. IsNewConn conn (journal_in boot id log)))
    → IfOk answer (λ conn. Serves (at_shard q (shard_of id)) id conn) → r ≡ by_finding id answer → Joins boot p id r q
joins_known boot id p q (Ok c) r some call serves is = subst (λ x. Joins boot p id x q) (sym is) (found boot id c p q some call serves)
joins_known boot id p q (Err (finding.NoGroup a)) r some call serves is = subst (λ x. Joins boot p id x q) (sym is) (missed boot id p q a some call)
joins_known boot id p q (Err finding.TooMany) r some call serves is = subst (λ x. Joins boot p id x q) (sym is) (crowded boot id p q some call)
joins_known boot id p q (Err finding.Numbers) r some call serves is = subst (λ x. Joins boot p id x q) (sym is) (numbered_out boot id p q some call)
joins_known boot id p q (Err finding.Memory) r some call serves is = subst (λ x. Joins boot p id x q) (sym is) (find_short boot id p q call)

-- The journals are added one after another.
use Rattle.std.proofs.Common.{◌≡◌, ◌≢◌, ◌==◌, ◌∙◌, ℕ, zero, suc, ◌+◌, ◌-◌, ◌*◌, ◌/◌, ◌%◌, ◌≤◌, ◌<◌, ◌^◌, Bool, true, false, inl, inr, Result, Ok, Err, Option, Some, None, List, [], ◌∷◌, ◌++◌, length, map, replicate, reverse, slice_index_or, slice_set, refl, sym, ap, subst, arith, append_assoc, append-nil}
use Rattle.std.specs.List.{AllByRecursion, list_any}
use Rattle.std.proofs.lemmas.Bool.{cases_Bool}
use Rattle.std.proofs.lemmas.Bool.Decides.{eqb_tells, nat_tests}
use Rattle.std.proofs.lemmas.List.{map_push, get_or-replicate, get_or-set_same, get_or-set_other, reverse-reverse}
use mathlib.Core.Logic.{dite}
use native.Mathlib.Decide.{dec_lt, ℕ_discrete}
use Rattle.rpc_base.specs.declared.fault.NoMemory.{NoMemory}
use Rattle.turn_lock.specs.Histories.{StartsWith}
use Rattle.turn_lock.proofs.HistoryLemmas.{starts_self, starts_trans}
use Rattle.handle_model.specs.declared.entry.Home.{Home}
use Rattle.handle_model.specs.declared.entry.Entry.{Entry}
use Rattle.handle_model.specs.declared.base.Base.{Base}
use Rattle.handle_model.specs.Bases.{empty_base}
use Rattle.handle_model.specs.History.{History, IsSound, since, history_of}
use Rattle.journal_tables.specs.Folding.{BaseBegun}
use Rattle.journal_tables.proofs.Alike.{folds_stand}
use Rattle.group_core.specs.Kept.{Logged}
use Rattle.hub_story.specs.declared.item.Item.{Item}
use Rattle.hub_story.specs.Directories.{is_opened_id}
use Rattle.hub_story.specs.Histories.{marks_in, past_in, journal_in, home_of, IsStory}
use Rattle.hub_story.specs.Folded.{kept, kept_since}
use Rattle.hub_story.specs.Passes.{Seen}
use Rattle.hub_story.specs.Calls.{Enters}
use Rattle.hub_story.proofs.FoldLemmas.{kept_folds, kept_join}
use Rattle.hub_shard.specs.Copies.{gives_copy}
use Rattle.group_hub.specs.declared.pass.Pass.{Pass}
use Rattle.group_hub.specs.Shards.{shard_of}
use Rattle.group_hub.specs.Passes.{at_shard, EntersAt}
use Rattle.journal_text.specs.Texts.{journal_text}
use Rattle.journal_text.specs.Histories.{history_text, journals_text}
use Rattle.server_command.specs.Logs.{Copy, ids_of, journal_of, front_at, AreRising, IsOpened, SeesOn, IsCopy, Logs}
use Rattle.server_command.specs.Walks.{is_over, AllOver, Among, Walked}
use Rattle.server_command.proofs.Ids.{opened_less}
use Rattle.server_command.proofs.Lists.{all_snoc, all_map, rising_snoc, any_before, any_last, text_snoc, other_default}

-- ---- journals as groups keep them

begun : BaseBegun empty_base
begun = inr refl

kept_sound : (home : Home) (past : List Entry) → IsSound (since home empty_base past) → IsSound (kept_since home past)
kept_sound home past s =
    let w = folds_stand (kept_since home past) (since home empty_base past) s.legal begun (kept_folds home past s.legal) in
    record { legal = w.legal; settled = w.due_same ∙ s.settled }

-- ---- what a look changes

-- the pass p looked at the shard s and is q
pub record Looked (boot s : ℕ) (p q : Pass) : Type 0 where
  pub front : StartsWith (at_shard q s).log (at_shard p s).log
  pub story : IsStory boot s (at_shard q s).log
  pub others : (t : ℕ) → t ≢ s → at_shard q t ≡ at_shard p t

-- an id as one of shard s, the shard of another, or one of another shard
same_or : (s t : ℕ) {A : Type 0} → (t ≡ s → A) → (t ≢ s → A) → A
same_or s t there not_over = dite (ℕ_discrete t s) there not_over

pub looked_sees : (boot s : ℕ) (p q : Pass) → Looked boot s p q → SeesOn p q
looked_sees boot s p q l t low =
    same_or s t
    (λ e. subst (λ u. StartsWith (at_shard q u).log (at_shard p u).log) (sym e) l.front)
    (λ d. subst (λ (v : Seen). StartsWith v.log (at_shard p t).log) (sym (l.others t d)) (starts_self (at_shard p t).log))

-- a shard that isn't over, as an index tells it
pub not_over_at : (over : List Bool) (g : ℕ) → length over ≡ 16 → slice_index_or over (shard_of g) false ≡ false → is_over over (shard_of g) ≡ false
not_over_at over g count h = other_default over (shard_of g) (let low : shard_of g < 16 = omega arith in omega (arith, low, count)) h

pub sees_self : (p : Pass) → SeesOn p p
sees_self p s low = starts_self (at_shard p s).log

pub sees_trans : (p q r : Pass) → SeesOn p q → SeesOn q r → SeesOn p r
sees_trans p q r one two s low = starts_trans (at_shard r s).log (at_shard q s).log (at_shard p s).log (two s low) (one s low)

low_shard : (g : ℕ) → shard_of g < 16
low_shard g = omega arith

copy_on : (boot : ℕ) (p q r : Pass) (c : Copy) → SeesOn q r → IsCopy boot p q c → IsCopy boot p r c
copy_on boot p q r c on is = record {
  starts = is.starts;
  goes_on = starts_trans (front_at r c.id) (front_at q c.id) c.front (on (shard_of c.id) (low_shard c.id)) is.goes_on;
  story = is.story;
  opened = is.opened;
  sound = is.sound;
  joined = is.joined;
}

-- ---- how far

begin_low : (g : ℕ) → 1 ≤ g → g < 1 → ⊥
begin_low g a b = omega (arith, a, b)

abbrev pub none_yet : List Bool
none_yet =
    false ∷ false ∷ false ∷ false ∷ false ∷ false ∷ false ∷ false ∷ false ∷ false ∷ false ∷ false ∷ false ∷ false ∷ false ∷ false ∷ []

none_over : (s : ℕ) → s < 16 → is_over none_yet s ≡ false
none_over s low = let same : none_yet ≡ replicate 16 false = refl in ap (λ flags. is_over flags s) same ∙ get_or-replicate 16 s false true low

pub walk_begins : (boot : ℕ) (p : Pass) (text : List ℕ) → Walked boot p p text text 1 none_yet
walk_begins boot p text = record {
  seen = sees_self p;
  copies = [];
  text = sym (append-nil text);
  rising = tt;
  low = tt;
  each = tt;
  going = λ g one less. absurd (begin_low g one less);
  ended = λ g one over. absurd (let not_over = none_over (shard_of g) (low_shard g) in let e = sym not_over ∙ over in cc);
}

less_more : (h next : ℕ) → h < next → h < next + 1
less_more h next l = omega (arith, l)

less_or_is : (g next : ℕ) {A : Type 0} → g < next + 1 → (g < next → A) → (g ≡ next → A) → A
less_or_is g next low less same = dite (dec_lt g next) less (λ d. same (omega (arith, d, low)))

pub walk_skips : (boot : ℕ) (p q : Pass) (old new : List ℕ) (next : ℕ) (over : List Bool) → is_over over (shard_of next) ≡ true
    → Walked boot p q old new next over → Walked boot p q old new (next + 1) over
walk_skips boot p q old new next over there w = record {
  seen = w.seen;
  copies = w.copies;
  text = w.text;
  rising = w.rising;
  low = all_map (λ h. h < next) (λ h. h < next + 1) (λ h. less_more h next) (ids_of w.copies) w.low;
  each = w.each;
  going = λ g one less goes. less_or_is g next less (λ l. w.going g one l goes) (λ (e : g ≡ next). absurd (let f = sym goes ∙ (ap (λ u. is_over over (shard_of u)) e ∙ there) in cc));
  ended = w.ended;
}

opened_on : (p q : Pass) (g : ℕ) → at_shard q (shard_of g) ≡ at_shard p (shard_of g) → IsOpened q g → IsOpened p g
opened_on p q g e o = subst (λ (v : Seen). is_opened_id (marks_in v.log) g ≡ true) e o

module _ (boot : ℕ) (p q r : Pass) (old mid : List ℕ) (next : ℕ) (over : List Bool) (one : 1 ≤ next)
    (not_over : is_over over (shard_of next) ≡ false) (l : Looked boot (shard_of next) q r) (w : Walked boot p q old mid next over) where
  abbrev pub copy : Copy
  copy = record { id = next; front = front_at r next }

  abbrev copies : List Copy
  copies = w.copies ++ copy ∷ []

  ids_more : ids_of copies ≡ ids_of w.copies ++ next ∷ []
  ids_more = map_push (λ (c : Copy). c.id) w.copies copy

  among_before : (g : ℕ) → Among w.copies g → Among copies g
  among_before g h = ap (list_any (λ k. k == g)) ids_more ∙ any_before (λ k. k == g) (ids_of w.copies) next h

  among_last : (g : ℕ) → g ≡ next → Among copies g
  among_last g e =
      let same : (next == g) ≡ true = grind (arith, nat_tests) in
      ap (list_any (λ k. k == g)) ids_more ∙ any_last (λ k. k == g) (ids_of w.copies) next same

  other_shard : (g : ℕ) → is_over over (shard_of g) ≡ true → shard_of g ≢ shard_of next
  other_shard g there same = let f = sym not_over ∙ (ap (is_over over) (sym same) ∙ there) in absurd cc

  pub walk_copies : (new : List ℕ) → IsOpened r next → new ≡ mid ++ history_text (journal_of boot copy) → Walked boot p r old new (next + 1) over
  walk_copies new there text = record {
    seen = sees_trans p q r w.seen (looked_sees boot (shard_of next) q r l);
    copies = copies;
    text = text ∙ (ap (λ t. t ++ history_text (journal_of boot copy)) w.text ∙ (append_assoc old (journals_text (map (journal_of boot) w.copies)) (history_text (journal_of boot copy))
        ∙ ap (λ t. old ++ t) (sym (text_snoc (map (journal_of boot) w.copies) (journal_of boot copy)) ∙ ap journals_text (sym (map_push (journal_of boot) w.copies copy)))));
    rising = subst AreRising (sym ids_more) (rising_snoc (ids_of w.copies) next w.rising w.low);
    low = subst (AllByRecursion (λ h. h < next + 1)) (sym ids_more)
        (all_snoc (λ h. h < next + 1) (ids_of w.copies) next (all_map (λ h. h < next) (λ h. h < next + 1) (λ h. less_more h next) (ids_of w.copies) w.low) (omega arith));
    each = all_snoc (IsCopy boot p r) w.copies copy
        (all_map (IsCopy boot p q) (IsCopy boot p r) (λ c. copy_on boot p q r c (looked_sees boot (shard_of next) q r l)) w.copies w.each)
        (record {
          starts = starts_trans (front_at r next) (front_at q next) (front_at p next) l.front (w.seen (shard_of next) (low_shard next));
          goes_on = starts_self (front_at r next);
          story = l.story;
          opened = there;
          sound = kept_sound (home_of boot next) (past_in next (front_at r next)) (l.story.sound next);
          joined = kept_join (home_of boot next) (past_in next (front_at r next)) (l.story.joined next there);
        });
    going = λ g low less goes. less_or_is g next less (λ b. among_before g (w.going g low b goes)) (among_last g);
    ended = λ g low is_over_ opened. among_before g (w.ended g low is_over_ (opened_on q r g (l.others (shard_of g) (other_shard g is_over_)) opened));
  }

  abbrev pub over_more : List Bool
  over_more = slice_set over (shard_of next) true

  over_here : length over ≡ 16 → is_over over_more (shard_of next) ≡ true
  over_here count = get_or-set_same over (shard_of next) true true (let c = low_shard next in omega (arith, c, count))

  over_there : (t : ℕ) → t ≢ shard_of next → is_over over_more t ≡ is_over over t
  over_there t d = get_or-set_other over (shard_of next) t true true d

  pub walk_ends : length over ≡ 16 → is_opened_id (marks_in (front_at r next)) next ≡ false → Walked boot p r old mid (next + 1) over_more
  walk_ends count none = record {
    seen = sees_trans p q r w.seen (looked_sees boot (shard_of next) q r l);
    copies = w.copies;
    text = w.text;
    rising = w.rising;
    low = all_map (λ h. h < next) (λ h. h < next + 1) (λ h. less_more h next) (ids_of w.copies) w.low;
    each = all_map (IsCopy boot p q) (IsCopy boot p r) (λ c. copy_on boot p q r c (looked_sees boot (shard_of next) q r l)) w.copies w.each;
    going = λ g low less goes.
        let apart : shard_of g ≢ shard_of next = λ same. absurd (let f = sym goes ∙ (ap (is_over over_more) same ∙ over_here count) in cc) in
        less_or_is g next less (λ b. w.going g low b (sym (over_there (shard_of g) apart) ∙ goes)) (λ (e : g ≡ next). absurd (apart (ap shard_of e)));
    ended = λ g low there opened.
        same_or (shard_of next) (shard_of g)
        (λ same.
        let here = subst (λ s. is_opened_id (marks_in (at_shard r s).log) g ≡ true) same opened in
        let less = opened_less boot (shard_of next) (front_at r next) l.story g next one refl here none in
        w.going g low less (ap (is_over over) same ∙ not_over))
        (λ apart. w.ended g low (sym (over_there (shard_of g) apart) ∙ there) (opened_on q r g (l.others (shard_of g) apart) opened));
  }

-- ---- by a copy of the hub's

abbrev pub Copies : ℕ → ℕ → Pass → Pass → Result (Option Logged) NoMemory → Type 0
Copies boot g p q x = EntersAt boot g p q (λ log more. gives_copy (record { id = g }) boot (shard_of g) log x more)

none_more : (boot g : ℕ) (x : Result (Option Logged) NoMemory) (log more : List Item) → gives_copy (record { id = g }) boot (shard_of g) log x more → more ≡ []
none_more boot g (Ok (Some j)) log more h = h.2
none_more boot g (Ok None) log more h = h.1
none_more boot g (Err f) log more h = h

pub looked : (boot g : ℕ) (p q : Pass) (x : Result (Option Logged) NoMemory) → Copies boot g p q x → Looked boot (shard_of g) p q
looked boot g p q x e =
    let h = e.here in
    record {
      front = (h.0 ++ h.1, h.2.log ∙ append_assoc (front_at p g) h.0 h.1);
      story = h.2.story;
      others = e.others;
    }

log_is : (boot g : ℕ) (p q : Pass) (x : Result (Option Logged) NoMemory) → (e : Copies boot g p q x) → front_at q g ≡ front_at p g ++ e.here.0
log_is boot g p q x e =
    let h = e.here in
    h.2.log ∙ (ap (λ m. (front_at p g ++ h.0) ++ m) (none_more boot g x (front_at p g ++ h.0) h.1 h.3) ∙ append-nil (front_at p g ++ h.0))

pub as_it_is : (boot g : ℕ) (p q : Pass) (x y : Result (Option Logged) NoMemory) → x ≡ y → Copies boot g p q x → Copies boot g p q y
as_it_is boot g p q x y same e = subst (Copies boot g p q) same e

pub found_opened : (boot g : ℕ) (p q : Pass) (j : Logged) → Copies boot g p q (Ok (Some j)) → IsOpened q g
found_opened boot g p q j e = subst (λ log. is_opened_id (marks_in log) g ≡ true) (sym (log_is boot g p q (Ok (Some j)) e)) e.here.3.0

pub found_kept : (boot g : ℕ) (p q : Pass) (j : Logged) → Copies boot g p q (Ok (Some j))
    → history_of (home_of boot g) j.base j.entries ≡ journal_of boot (record { id = g; front = front_at q g })
found_kept boot g p q j e = e.here.3.1 ∙ ap (λ log. kept (journal_in boot g log)) (sym (log_is boot g p q (Ok (Some j)) e))

pub none_opened : (boot g : ℕ) (p q : Pass) → Copies boot g p q (Ok None) → is_opened_id (marks_in (front_at q g)) g ≡ false
none_opened boot g p q e = subst (λ log. is_opened_id (marks_in log) g ≡ false) (sym (log_is boot g p q (Ok None) e)) e.here.3.0

pub text_is : (home : Home) (base : Base) (entries : List Entry) → history_text (history_of home base entries) ≡ journal_text home base entries
text_is home base entries = ap (journal_text home base) (reverse-reverse entries)

-- ---- at the end

pub walk_is_over : (boot : ℕ) (p q : Pass) (old new : List ℕ) (next : ℕ) (over : List Bool) → AllOver over → Walked boot p q old new next over → Logs boot p q old new
walk_is_over boot p q old new next over all w = record {
  sees = w.seen;
  copies = w.copies;
  text = w.text;
  rising = w.rising;
  each = w.each;
  all = λ g one low opened. w.ended g one (all (shard_of g)) opened;
}

pub walk_is_whole : (boot : ℕ) (p q : Pass) (old new : List ℕ) (next : ℕ) (over : List Bool) → 2 ^ 32 ≤ next → Walked boot p q old new next over → Logs boot p q old new
walk_is_whole boot p q old new next over high w = record {
  sees = w.seen;
  copies = w.copies;
  text = w.text;
  rising = w.rising;
  each = w.each;
  all = λ g one low opened.
      let less : g < next = omega (arith, low, high) in
      either g one less opened (is_over over (shard_of g)) refl;
}
  where
    either : (g : ℕ) → 1 ≤ g → g < next → IsOpened q g → (b : Bool) → is_over over (shard_of g) ≡ b → Among w.copies g
    either g one less opened true e = w.ended g one e opened
    either g one less opened false e = w.going g one less e

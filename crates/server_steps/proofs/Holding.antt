-- What a connection has entered, behind one call on the hub more.
use Rattle.std.proofs.Common.{◌≡◌, ◌≢◌, ℕ, Bool, true, false, ◌||◌, Option, List, [], ◌∷◌, ◌++◌, refl, sym, ap, ◌∙◌, subst}
use Rattle.std.specs.List.{list_any}
use Rattle.std.proofs.lemmas.List.{append_cancel_right}
use Rattle.handle_model.specs.declared.entry.Entry.{Entry}
use Rattle.handle_model.specs.declared.entry.Entry.TheVariants.{Join}
use Rattle.handle_model.specs.Entries.{is_shut}
use Rattle.handle_model.specs.History.{History}
use Rattle.handle_model.specs.Journal.{Legal}
use Rattle.hub_story.specs.declared.item.Item.{Item}
use Rattle.hub_story.specs.declared.item.Item.TheVariants.{Of}
use Rattle.hub_story.specs.declared.item.Mark.{Mark}
use Rattle.hub_story.specs.Histories.{home_of, past_in, marks_in, items_of}
use Rattle.hub_story.specs.Calls.{Enters}
use Rattle.hub_story.proofs.ItemLemmas.{past-append, past_items, past_others, marks-append, marks_items}
use Rattle.hub_story.proofs.HaveLemmas.{own_stays}
use Rattle.group_hub.specs.declared.pass.Pass.{Pass}
use Rattle.group_hub.specs.Shards.{shard_of}
use Rattle.group_hub.specs.Passes.{at_shard, CallsAt}
use Rattle.server_ends.proofs.PassLemmas.{grown_more}
use Rattle.hub_shard.specs.declared.answer.Retired.{Retired}
use Rattle.conn_histories.specs.declared.turn.Turn.{Turn}
use Rattle.conn_histories.specs.Events.{all_events, all_octets}
use Rattle.conn_histories.specs.Stories.{Server, Made}
use Rattle.conn_histories.specs.Tales.{whole}
use Rattle.conn_turns.proofs.Kept.{calls_enter, stories_are_kept}
use Rattle.server_ends.specs.Finishes.{retired_by}
use Rattle.server_steps.specs.Held.{past_at, HeldMarked}

-- ---- entries that came, none of which is a Shut

pub none_shut : (es past : List Entry) → es ++ past ≡ past → list_any is_shut es ≡ false
none_shut es past is = ap (list_any is_shut) (append_cancel_right es [] past is)

pub one_shut : (es past : List Entry) (x : Entry) → es ++ past ≡ x ∷ past → is_shut x ≡ false → list_any is_shut es ≡ false
one_shut es past x is plain = ap (list_any is_shut) (append_cancel_right es (x ∷ []) past is) ∙ ap (λ b. b || false) plain

no_more_shut : (es mine : List Entry) → list_any is_shut es ≡ false → list_any is_shut (es ++ mine) ≡ list_any is_shut mine
no_more_shut [] mine h = refl
no_more_shut (e ∷ es) mine h = by_test (is_shut e) (no_more_shut es mine) h
  where
    by_test : (b : Bool) → (list_any is_shut es ≡ false → list_any is_shut (es ++ mine) ≡ list_any is_shut mine) → (b || list_any is_shut es) ≡ false → (b || list_any is_shut (es ++ mine)) ≡ list_any is_shut mine
    by_test true r i = absurd cc
    by_test false r i = r i

pub retired_still : (g : ℕ) (es mine : List Entry) → list_any is_shut es ≡ false → retired_by g mine ≡ retired_by g (es ++ mine)
retired_still g es mine h = let same = no_more_shut es mine h in rw same refl

-- ---- one call

-- the journal before and behind what a call entered
pub record Stepped (server : Server) (boot : ℕ) (q r : Pass) (g c : ℕ) (gone : Bool) (turns : List Turn) (mine : List Entry) (Answers : History → History → Type 0) : Type 0 where
  pub between : List Item
  pub es : List Entry
  pub before : List Entry
  pub enters : Enters boot (shard_of g) (at_shard q (shard_of g)) (at_shard r (shard_of g)) between (items_of g es)
  pub after : past_at r g ≡ es ++ before
  pub legal : Legal (whole (home_of boot g) (es ++ before))
  pub answers : Answers (whole (home_of boot g) before) (whole (home_of boot g) (es ++ before))
  pub made : Made server (home_of boot g) c before gone turns mine
  pub others : (t : ℕ) → t ≢ shard_of g → at_shard r t ≡ at_shard q t

module _ {marks : List Mark} (server : Server) (boot : ℕ) (p q r : Pass) (g c : ℕ) (retired : Option Retired) (gone : Bool) (turns : List Turn) (h : HeldMarked server boot p q g c retired marks gone turns) where
  pub kept : (between more : List Item) → Enters boot (shard_of g) (at_shard q (shard_of g)) (at_shard r (shard_of g)) between more
      → Made server (home_of boot g) c (past_in g ((at_shard q (shard_of g)).log ++ between)) gone turns h.mine
  kept between more e =
      (stories_are_kept server boot (shard_of g) g c gone (at_shard q (shard_of g)) (at_shard r (shard_of g)) between more turns h.mine (all_events turns) (all_octets turns) e h.joined
      (record { made = h.made; events = refl; octets = refl })).made

  pub stepped : (Answers : History → History → Type 0) → CallsAt boot g q r Answers → Stepped server boot q r g c gone turns h.mine Answers
  stepped Answers call =
      let e = call.here.2 in
      let after = calls_enter boot (shard_of g) g (at_shard q (shard_of g)) (at_shard r (shard_of g)) call.here.0 call.here.1 e in
      record {
        between = call.here.0;
        es = call.here.1;
        before = past_in g ((at_shard q (shard_of g)).log ++ call.here.0);
        enters = e;
        after = after;
        legal = subst (λ l. Legal (whole (home_of boot g) l)) after (e.story.sound g).legal;
        answers = call.here.3;
        made = kept call.here.0 (items_of g call.here.1) e;
        others = call.others;
      }

  -- these entries came
  pub entered : (Answers : History → History → Type 0) (b : Stepped server boot q r g c gone turns h.mine Answers) (es : List Entry) (retired' : Option Retired) (gone' : Bool) (turns' : List Turn)
      → es ≡ b.es → Made server (home_of boot g) c (past_at r g) gone' turns' (es ++ h.mine) → retired' ≡ retired_by g (es ++ h.mine)
      → HeldMarked server boot p r g c retired' marks gone' turns'
  entered Answers b es retired' gone' turns' is made retired_is =
      let e = subst (λ x. Enters boot (shard_of g) (at_shard q (shard_of g)) (at_shard r (shard_of g)) b.between (items_of g x)) (sym is) b.enters in
      record {
        items = h.items ++ items_of g es;
        grown = grown_more boot (shard_of g) p q r h.items b.between (items_of g es) h.grown e b.others;
        mine = es ++ h.mine;
        own = past-append g h.items (items_of g es) ∙ (λ i. past_items g es i ++ h.own i);
        others = λ o apart. past-append o h.items (items_of g es) ∙ (λ i. past_others g o es (λ x. apart (sym x)) i ++ h.others o apart i);
        joined = own_stays boot (shard_of g) (at_shard q (shard_of g)) (at_shard r (shard_of g)) b.between (items_of g es) e (Of g (Join c)) h.joined;
        made = made;
        retired_is = retired_is;
        marks_are = marks-append h.items (items_of g es) ∙ (λ i. marks_items g es i ++ h.marks_are i);
      }

  -- some more items came, which are no entries
  pub marked : (between more : List Item) → Enters boot (shard_of g) (at_shard q (shard_of g)) (at_shard r (shard_of g)) between more → ((t : ℕ) → t ≢ shard_of g → at_shard r t ≡ at_shard q t)
      → ((o : ℕ) → past_in o more ≡ []) → HeldMarked server boot p r g c retired (marks_in more ++ marks) gone turns
  marked between more e others none =
      let after = ap (past_in g) e.log ∙ (past-append g ((at_shard q (shard_of g)).log ++ between) more ∙ ap (λ l. l ++ past_in g ((at_shard q (shard_of g)).log ++ between)) (none g)) in
      record {
        items = h.items ++ more;
        grown = grown_more boot (shard_of g) p q r h.items between more h.grown e others;
        mine = h.mine;
        own = past-append g h.items more ∙ (λ i. none g i ++ h.own i);
        others = λ o apart. past-append o h.items more ∙ (λ i. none o i ++ h.others o apart i);
        joined = own_stays boot (shard_of g) (at_shard q (shard_of g)) (at_shard r (shard_of g)) between more e (Of g (Join c)) h.joined;
        made = subst (λ l. Made server (home_of boot g) c l gone turns h.mine) (sym after) (kept between more e);
        retired_is = h.retired_is;
        marks_are = marks-append h.items more ∙ ap (λ l. marks_in more ++ l) h.marks_are;
      }

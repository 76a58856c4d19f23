-- The end of a running call in a world whose groups and desks a realm has.
use Rattle.std.proofs.Common.{◌≡◌, ◌≢◌, ℕ, Bool, true, Option, Some, List, sym, ap, subst, ◌∙◌}
use Rattle.handle_model.specs.declared.entry.Home.{Home}
use Rattle.handle_model.specs.declared.entry.Asked.{Asked}
use Rattle.handle_model.specs.declared.entry.Outcome.{Outcome}
use Rattle.handle_model.specs.declared.entry.Said.{Said}
use Rattle.handle_model.specs.declared.entry.Said.TheVariants.{Fault}
use Rattle.handle_model.specs.declared.entry.Entry.TheVariants.{End}
use Rattle.handle_model.specs.Calls.{slots_in}
use Rattle.handle_model.specs.Journal.{runs, slots, suit}
use Rattle.handle_model.specs.Journal as journals
use Rattle.handle_model.specs.History.{History}
use Rattle.ndr_table.specs.Tables.{TableForm}
use Rattle.desk_counts.specs.Numbers.{Numbers}
use Rattle.group_core.specs.declared.answer.Rest.{Rest}
use Rattle.group_core.specs.Conns.{Settles}
use Rattle.group_core.specs.Stages.{is_asked}
use Rattle.hub_story.proofs.WholeLemmas.{runs_kept}
use Rattle.conn_histories.specs.Requests.{no_memory}
use Rattle.conn_histories.specs.Ends.{Meets}
use Rattle.manager_api.specs.Served.{tables_in}
use Rattle.desk_service.specs.State.{Services, tables_with}
use Rattle.desk_service.specs.Views.{services}
use Rattle.replay_groups.specs.Rows.{AreIn, MayAnswer}
use Rattle.replay_world.specs.declared.peer.Member.{Member}
use Rattle.replay_world.specs.Services.{RunsDown}
use Rattle.replay_world.specs.Worlds.{World, journal, home_of}
use Rattle.replay_groups.specs.Keeps.{GroupsView, home_in, whole_of, past_at, Keeps, Has, Told, Answers}
use Rattle.replay_groups.specs.Keeps as groups
use Rattle.replay_groups.proofs.Keeping.{here_is, sound_is}
use Rattle.replay_groups.specs.Service.{service_of}
use Rattle.replay_groups.specs.declared.realm.Realm.{Realm}
use Rattle.replay_groups.specs.Holding.{Holds, Moves, Known}
use Rattle.replay_groups.specs.Ends.{EndsIn}
use Rattle.replay_groups.proofs.Moving.{settled}

-- a call that runs by some journals that the groups keep does by all
runs_all : (x : GroupsView) (g k : ℕ) → Has x g → groups.Known x g (λ j. runs j k ≡ true) → Told x g (λ j. runs j k ≡ true)
runs_all x g k has r pasts ks =
    sym (runs_kept (home_in x.boot g) (past_at pasts g) (sound_is x g pasts has ks).legal k)
    ∙ ap (λ (j : History). runs j k) (sym (here_is x g pasts has ks) ∙ here_is x g r.0 has r.1)
    ∙ runs_kept (home_in x.boot g) (past_at r.0 g) (sound_is x g r.0 has r.1).legal k ∙ r.2

abbrev pub IsOf : Member → ℕ → Asked → World Services → Type 0
IsOf m k a w = (runs (journal w m.group) k ≡ true) × (journals.asked (journal w m.group) k ≡ Some a)

module _ (old : Realm) (m : Member) (k : ℕ) (a : Asked) (known : Known old (IsOf m k a)) where
  in_groups : (P : History → Type 0) → P (journal known.1 m.group) → groups.Known old.groups m.group P
  in_groups P p = (known.1.groups, known.2.keeps, subst (λ (b : ℕ). P (whole_of b m.group (past_at known.1.groups m.group))) (sym known.2.boot) p)

  -- the results suit its slots
  pub ending : (results : List Outcome) → suit a.slots results ≡ true → groups.Known old.groups m.group (λ j. (runs j k ≡ true) × (suit (slots j k) results ≡ true))
  ending results suits =
      let same : slots (journal known.1 m.group) k ≡ a.slots = ap slots_in known.3.1 in
      in_groups (λ j. (runs j k ≡ true) × (suit (slots j k) results ≡ true)) (known.3.0, ap (λ ss. suit ss results) same ∙ suits)

  pub ended : (new : Realm) (row : List (Option ℕ)) (numbers : Numbers) (home : Home) (cancelled : Bool) (results : List Outcome) (said : Said) (rest : Rest) (mid : Services)
      → tables_in new.served ≡ tables_in old.served → home ≡ home_in old.groups.boot m.group → Has old.groups m.group → Told old.groups m.group (λ j. runs j k ≡ true → cancelled ≡ is_asked j k)
      → ((given : List (Option ℕ)) → AreIn row a.slots given → Meets home (tables_in old.served) (MayAnswer (services old.desks) numbers cancelled mid) a given cancelled results said)
      → said ≢ Fault no_memory → mid.echo ≡ (services old.desks).echo
      → Answers old.groups m.group (λ x y. Settles x (End k results said) rest y) new.groups → ((echo : Option TableForm) → RunsDown (service_of echo) mid rest (services new.desks))
      → (services new.desks).echo ≡ mid.echo → Moves old (EndsIn m k a row numbers said) new
  ended new row numbers home cancelled results said rest mid tables home_is has told meets memory mid_echo answers down same echo w h =
      let g = m.group in
      let running = runs_all old.groups g k has (in_groups (λ j. runs j k ≡ true) known.3.0) w.groups h.keeps in
      let asked_old : cancelled ≡ is_asked (whole_of old.groups.boot g (past_at w.groups g)) k = told w.groups h.keeps running in
      let asked_is : cancelled ≡ is_asked (journal w g) k = subst (λ (b : ℕ). cancelled ≡ is_asked (whole_of b g (past_at w.groups g)) k) h.boot asked_old in
      let at : home ≡ home_of w g = home_is ∙ ap (λ (b : ℕ). home_in b g) h.boot in
      let is : mid.echo ≡ echo = mid_echo ∙ ap (λ (s : Services). s.echo) h.desks ∙ h.echo_is in
      let t = settled old new g tables (End k results said) rest mid answers down same echo w h is in (
        t.0,
        record {
          desks = mid;
          results = results;
          meets = λ given i.
              subst (λ (c : Bool). Meets (home_of w g) (tables_with echo) (MayAnswer w.desks numbers c mid) a given c results said) asked_is
              (subst (λ (s : Services). Meets (home_of w g) (tables_with echo) (MayAnswer s numbers cancelled mid) a given cancelled results said) h.desks
              (subst (λ (l : List TableForm). Meets (home_of w g) l (MayAnswer (services old.desks) numbers cancelled mid) a given cancelled results said) h.tables
              (subst (λ (b : Home). Meets b (tables_in old.served) (MayAnswer (services old.desks) numbers cancelled mid) a given cancelled results said) at (meets given i))));
          memory = memory;
          settles = t.1;
        },
        t.2,
        t.3,
      )

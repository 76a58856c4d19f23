-- From a world whose groups and desks a realm has to the next one.
use Rattle.std.proofs.Common.{◌≡◌, ◌≢◌, ℕ, Option, Some, None, List, refl, sym, ap, subst, ◌∙◌}
use Rattle.handle_model.specs.declared.entry.Asked.{Asked}
use Rattle.handle_model.specs.declared.entry.Outcome.{Outcome}
use Rattle.handle_model.specs.declared.entry.Said.{Said}
use Rattle.handle_model.specs.declared.entry.Said.TheVariants.{Fault}
use Rattle.handle_model.specs.declared.entry.Entry.{Entry}
use Rattle.handle_model.specs.declared.entry.Entry.TheVariants.{End}
use Rattle.handle_model.specs.History.{History}
use Rattle.ndr_table.specs.Tables.{TableForm}
use Rattle.group_core.specs.declared.answer.Rest.{Rest}
use Rattle.group_core.specs.Conns.{Settles}
use Rattle.conn_histories.specs.Requests.{no_memory}
use Rattle.manager_api.specs.Served.{tables_in}
use Rattle.desk_service.specs.State.{Services, tables_with, tables_of}
use Rattle.desk_service.specs.Views.{services}
use Rattle.replay_world.specs.Services.{RunsDown}
use Rattle.replay_world.specs.Worlds.{World, with_past}
use Rattle.replay_world.specs.Groups.{SettlesIn}
use Rattle.replay_groups.specs.Keeps.{GroupsView, whole_of, past_at, Answers}
use Rattle.replay_groups.specs.Keeps as groups
use Rattle.replay_groups.specs.Service.{service_of}
use Rattle.replay_groups.specs.declared.realm.Realm.{Realm}
use Rattle.replay_groups.specs.Holding.{Holds, Frames, Moves, Going, Known}

-- what is known of the world is known of the groups
pub known_groups : (r : Realm) (g : ℕ) (P : History → Type 0) → Known r (λ w. P (whole_of w.boot g (past_at w.groups g))) → groups.Known r.groups g P
known_groups r g P k = (k.1.groups, k.2.keeps, subst (λ (b : ℕ). P (whole_of b g (past_at k.1.groups g))) (sym k.2.boot) k.3)

module _ (old new : Realm) (g : ℕ) (tables : tables_in new.served ≡ tables_in old.served) where
  pub goes : (Says : History → History → Type 0) → Answers old.groups g Says new.groups → services new.desks ≡ services old.desks → Moves old (Going g Says) new
  goes Says answers desks echo w h =
      let t = answers.1 w.groups h.keeps in
      let says : Says (whole_of w.boot g (past_at w.groups g)) (whole_of w.boot g t.0) = subst (λ (b : ℕ). Says (whole_of b g (past_at w.groups g)) (whole_of b g t.0)) h.boot t.1 in
      (with_past w g t.0, (t.0, says, refl), record { peers = refl; out = refl }, record { keeps = t.2; boot = answers.0 ∙ h.boot; desks = desks ∙ h.desks; echo_is = h.echo_is; tables = tables ∙ h.tables })

  -- an entry comes, and what is left of a group that then ends is run down, where the desks were these before
  pub settled : (e : Entry) (rest : Rest) (mid : Services) → Answers old.groups g (λ a b. Settles a e rest b) new.groups → ((echo : Option TableForm) → RunsDown (service_of echo) mid rest (services new.desks))
      → (services new.desks).echo ≡ mid.echo → (echo : Option TableForm) (w : World Services) → Holds echo old w → mid.echo ≡ echo
      → (v : World Services) × SettlesIn (service_of echo) (record w { desks = mid }) g e v × Frames w v × Holds echo new v
  settled e rest mid answers down same echo w h is =
      let t = answers.1 w.groups h.keeps in
      let says : Settles (whole_of w.boot g (past_at w.groups g)) e rest (whole_of w.boot g t.0) = subst (λ (b : ℕ). Settles (whole_of b g (past_at w.groups g)) e rest (whole_of b g t.0)) h.boot t.1 in (
        record (with_past w g t.0) { desks = services new.desks },
        record { past = t.0; rest = rest; settles = says; desks = services new.desks; runs_down = down echo; after = refl },
        record { peers = refl; out = refl },
        record { keeps = t.2; boot = answers.0 ∙ h.boot; desks = refl; echo_is = same ∙ is; tables = tables ∙ h.tables },
      )

  pub settles : (e : Entry) (rest : Rest) → Answers old.groups g (λ a b. Settles a e rest b) new.groups → ((echo : Option TableForm) → RunsDown (service_of echo) (services old.desks) rest (services new.desks))
      → (services new.desks).echo ≡ (services old.desks).echo → Moves old (λ echo w v. SettlesIn (service_of echo) w g e v) new
  settles e rest answers down same echo w h =
      let is : (services old.desks).echo ≡ echo = ap (λ (s : Services). s.echo) h.desks ∙ h.echo_is in
      let t = settled e rest (services old.desks) answers down same echo w h is in
      (t.0, subst (λ (s : Services). SettlesIn (service_of echo) (record w { desks = s }) g e t.0) h.desks t.1, t.2, t.3)

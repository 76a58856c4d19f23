-- What comes of the program, by what its words ask for.
use Rattle.std.proofs.Common.{◌≡◌, ℕ, Option, List, refl, sym, subst, inl, inr}
use Rattle.rpc_base.specs.Shelves.{Files}
use Rattle.rpc_outside.specs.Links.{Shown}
use Rattle.rpc_app.specs.Asks.{ServeTask, CallTask, Wanted, ToServe, ToCall, Asks, AsksToServe, AsksToCall}
use Rattle.rpc_app.specs.Obeys.{Shelf, Output, IsKept, Obeys}
use Rattle.rpc_app.specs.Serving.{Doorway, IsUnused, ServesFor}
use Rattle.rpc_app.specs.Calling.{Dialling, IsUndialled, CallsFor}
use Rattle.rpc_app.specs.Running.{RunsAs, AsksAlone}
use Rattle.rpc_app.proofs.Served as served
use Rattle.rpc_app.proofs.Called as called

one_server : (x y : ServeTask) → ToServe x ≡ ToServe y → x ≡ y
one_server x y e = cc

one_caller : (x y : CallTask) → ToCall x ≡ ToCall y → x ≡ y
one_caller x y e = cc

differ : (x : ServeTask) (y : CallTask) → ToServe x ≡ ToCall y → ⊥
differ x y e = absurd (cc)

module _ {K Q : Type 0} (shows : K → Shown) (dial_shows : Q → Shown) (given : List (List ℕ)) (boot : ℕ) (store : Shelf) (door : Doorway K) (dial : Dialling Q) (out log : Output) (status : ℕ) where
  -- neither connections nor calls
  pub run_done : Obeys given store out log status → ((task : ServeTask) → AsksToServe given task → status ≡ 5) → ((task : CallTask) → AsksToCall given task → status ≡ 5)
      → IsUnused door → IsUndialled dial → RunsAs shows dial_shows given boot store door dial out log status
  run_done o server caller unused undialled = record {
    obeys = λ none neither. (o, unused, undialled);
    serves = λ task a. let e = server task a in
        (subst (ServesFor shows task boot store door out log) (sym e) (served.memory_out shows task boot store door out log (o.silent (inr e), o.quiet (inr e)) (inl unused)), undialled);
    calls = λ task a. let e = caller task a in
        (called.memory_out dial_shows task store dial out status (o.silent (inr e)) undialled e, o.quiet (inr e), unused);
  }

  -- connections
  pub run_served : (task : ServeTask) → AsksAlone given (ToServe task) → ServesFor shows task boot store door out log status → IsUndialled dial
      → RunsAs shows dial_shows given boot store door dial out log status
  run_served task alone s undialled = record {
    obeys = λ none neither. absurd (none task alone.0);
    serves = λ other a. (subst (λ t. ServesFor shows t boot store door out log status) (sym (one_server other task (alone.1 (ToServe other) a))) s, undialled);
    calls = λ other a. absurd (differ task other (sym (alone.1 (ToCall other) a)));
  }

  -- calls
  pub run_called : (task : CallTask) → AsksAlone given (ToCall task) → CallsFor dial_shows task store dial out status → IsKept log → IsUnused door
      → RunsAs shows dial_shows given boot store door dial out log status
  run_called task alone c kept unused = record {
    obeys = λ none neither. absurd (neither task alone.0);
    serves = λ other a. absurd (differ other task (alone.1 (ToServe other) a));
    calls = λ other a. (subst (λ t. CallsFor dial_shows t store dial out status) (sym (one_caller other task (alone.1 (ToCall other) a))) c, kept, unused);
  }

module _ {Q F S : Type 0} (shows : Q → Shown) (task : CallTask) (dial : Dialling Q) (status : ℕ) (files : F → Option Files) (faults : F → ℕ) (out_faults : S → ℕ) (out_has : S → Option (List ℕ)) where
  abbrev Between : F → F → S → S → Type 0
  Between a b x y =
      CallsFor shows task (record { files = files a; before = faults a; after = faults b }) dial
      (record { before = out_faults x; after = out_faults y; had = out_has x; has = out_has y }) status

  -- nothing was done before
  pub carried : (a b c : F) (x y z : S) → b ≡ a → y ≡ x → Between b c y z → Between a c x z
  carried a b c x y z e f s = subst (λ (j : S). Between a c j z) f (subst (λ (k : F). Between k c y z) e s)

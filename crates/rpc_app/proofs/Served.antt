-- What the program does for words that ask for connections, by what came of them.
use Rattle.std.proofs.Common.{◌≡◌, ◌≢◌, ◌⊎◌, ◌∙◌, ℕ, ◌<◌, Option, Some, None, List, inl, inr, refl, sym, subst, arith}
use Rattle.rpc_base.specs.Causes.{Rose}
use Rattle.rpc_base.specs.declared.fault.OutFault.TheVariants.{Failed, Memory}
use Rattle.rpc_base.specs.Shelves.{Files, TellsFile}
use Rattle.rpc_outside.specs.Links.{Shown}
use Rattle.rpc_outside.specs.Doors.{DoorShown}
use Rattle.ndr_table.specs.Tables.{TableForm}
use Rattle.rpc_app.specs.declared.command.Command.TheVariants.{Idl}
use Rattle.rpc_app.specs.Asks.{ServeTask}
use Rattle.rpc_app.specs.Runs.{Gains, GainsFront, Serves, RefusesText}
use Rattle.rpc_app.specs.Obeys.{Shelf, Output, IsKept, Put, TellsText, IsTaken, NoneFailed}
use Rattle.rpc_app.specs.Serving.{Doorway, IsUnused, IsSilent, PutBoth, PutInPart, IsPut, RefusesInterface, NoDoorFailed, HasServedWith, HasServed, EndsUntold, ServesWith, ServesFor}
use Rattle.server_command.specs.Tables.{tables_with}
use Rattle.server_command.specs.Serves.{May}
use Rattle.rpc_app.proofs.Told.{text_refused, text_served}
use Rattle.server_command.proofs.Statuses.{IsServed, rose, served}

neither : (s a b : ℕ) → s ≢ a → s ≢ b → (s ≡ a) ⊎ (s ≡ b) → ⊥
neither s a b first second (inl e) = first e
neither s a b first second (inr e) = second e

module _ {K : Type 0} (shows : K → Shown) (task : ServeTask) (boot : ℕ) (store : Shelf) (door : Doorway K) (out log : Output) where
  -- the interface text was refused
  pub refused_so : (status : ℕ) (said : List ℕ) → RefusesText store.files task.idl said → (status ≡ 2) ⊎ (status ≡ 4) → (status ≡ 2 → Put Gains out said)
      → (status ≡ 4 → Rose out.before out.after) → (status ≡ 4 → Put GainsFront out said) → IsKept log → IsUnused door → ServesFor shows task boot store door out log status
  refused_so status said refuses known whole failed front quiet unused = record {
    known = in_range status known;
    done = λ e. absurd (none status known e);
    outside = λ e. (record { refusal = said; refuses = refuses; said = whole e; quiet = quiet }, unused);
    shelf = λ e. absurd (other status 3 known (λ z. absurd (omega (arith, z))) (λ z. absurd (omega (arith, z))) e);
    sinks = λ e. inl (failed e);
    fronts = λ e. inl (record { refusal = said; refuses = refuses; said = front e; quiet = quiet });
    fault = λ e. absurd (other status 7 known (λ z. absurd (omega (arith, z))) (λ z. absurd (omega (arith, z))) e);
    behind_fault = λ e. absurd (other status 7 known (λ z. absurd (omega (arith, z))) (λ z. absurd (omega (arith, z))) e);
    memory = λ e. absurd (other status 5 known (λ z. absurd (omega (arith, z))) (λ z. absurd (omega (arith, z))) e);
    taken = λ echo told e. text_refused store.files task.idl echo said refuses told;
    refused = λ name octets i t no. (λ e. none status known (inl e), λ e. none status known (inr e));
    complete = λ echo told nothing closed. absurd (text_refused store.files task.idl echo said refuses told);
  }
    where
      in_range : (s : ℕ) → (s ≡ 2) ⊎ (s ≡ 4) → (s < 9) × (s ≢ 1) × (s ≢ 6)
      in_range s (inl e) = (omega (arith, e), λ z. absurd (omega (arith, e, z)), λ z. absurd (omega (arith, e, z)))
      in_range s (inr e) = (omega (arith, e), λ z. absurd (omega (arith, e, z)), λ z. absurd (omega (arith, e, z)))

      other : (s n : ℕ) → (s ≡ 2) ⊎ (s ≡ 4) → 2 ≢ n → 4 ≢ n → s ≡ n → ⊥
      other s n (inl e) two four f = two (sym e ∙ f)
      other s n (inr e) two four f = four (sym e ∙ f)

      none : (s : ℕ) → (s ≡ 2) ⊎ (s ≡ 4) → (s ≡ 0) ⊎ (s ≡ 8) → ⊥
      none s k (inl e) = other s 0 k (λ z. absurd (omega (arith, z))) (λ z. absurd (omega (arith, z))) e
      none s k (inr e) = other s 8 k (λ z. absurd (omega (arith, z))) (λ z. absurd (omega (arith, z))) e

  -- the shelf failed
  pub shelf_failed : Rose store.before store.after → IsSilent out log → IsUnused door → ServesFor shows task boot store door out log 3
  shelf_failed failed silent unused = record {
    known = (omega arith, λ z. absurd (omega (arith, z)), λ z. absurd (omega (arith, z)));
    done = λ e. absurd (neither 3 0 8 (λ z. absurd (omega (arith, z))) (λ z. absurd (omega (arith, z))) e);
    outside = λ e. absurd (omega (arith, e));
    shelf = λ e. (failed, silent, unused);
    sinks = λ e. absurd (omega (arith, e));
    fronts = λ e. absurd (omega (arith, e));
    fault = λ e. absurd (omega (arith, e));
    behind_fault = λ e. absurd (omega (arith, e));
    memory = λ e. absurd (omega (arith, e));
    taken = λ echo told e. absurd (omega (arith, e));
    refused = λ name octets i t no. (λ e. absurd (omega (arith, e)), λ e. absurd (omega (arith, e)));
    complete = λ echo told nothing closed. absurd (nothing.0 failed);
  }

  -- memory ran out, and nothing is said
  pub memory_out : IsSilent out log → IsUnused door ⊎ EndsUntold shows task boot store door Memory → ServesFor shows task boot store door out log 5
  memory_out silent left = record {
    known = (omega arith, λ z. absurd (omega (arith, z)), λ z. absurd (omega (arith, z)));
    done = λ e. absurd (neither 5 0 8 (λ z. absurd (omega (arith, z))) (λ z. absurd (omega (arith, z))) e);
    outside = λ e. absurd (omega (arith, e));
    shelf = λ e. absurd (omega (arith, e));
    sinks = λ e. absurd (omega (arith, e));
    fronts = λ e. absurd (omega (arith, e));
    fault = λ e. absurd (omega (arith, e));
    behind_fault = λ e. absurd (omega (arith, e));
    memory = λ e. inl (silent, left);
    taken = λ echo told e. absurd (omega (arith, e));
    refused = λ name octets i t no. (λ e. absurd (omega (arith, e)), λ e. absurd (omega (arith, e)));
    complete = λ echo told nothing closed. inr (inl refl);
  }

  -- the door failed, and more or less is said
  pub door_failed : Rose door.before.faults door.after.faults
      → (IsSilent out log × EndsUntold shows task boot store door Failed) ⊎ HasServed shows task boot store door 7 (λ printed logged. PutBoth out log printed logged ⊎ PutInPart out log printed logged) → ServesFor shows task boot store door out log 7
  door_failed failed said = record {
    known = (omega arith, λ z. absurd (omega (arith, z)), λ z. absurd (omega (arith, z)));
    done = λ e. absurd (neither 7 0 8 (λ z. absurd (omega (arith, z))) (λ z. absurd (omega (arith, z))) e);
    outside = λ e. absurd (omega (arith, e));
    shelf = λ e. absurd (omega (arith, e));
    sinks = λ e. absurd (omega (arith, e));
    fronts = λ e. absurd (omega (arith, e));
    fault = λ e. failed;
    behind_fault = λ e. said;
    memory = λ e. absurd (omega (arith, e));
    taken = λ echo told e. absurd (omega (arith, e));
    refused = λ name octets i t no. (λ e. absurd (omega (arith, e)), λ e. absurd (omega (arith, e)));
    complete = λ echo told nothing closed. absurd (closed failed);
  }

  module _ (echo : Option TableForm) (interface : Serves store.files task.idl echo) where
    -- an output failed
    output_failed : (s : ℕ) → s ≢ 7 → HasServedWith shows echo task boot door s (PutInPart out log) → ServesFor shows task boot store door out log 4
    output_failed s apart w = record {
      known = (omega arith, λ z. absurd (omega (arith, z)), λ z. absurd (omega (arith, z)));
      done = λ e. absurd (neither 4 0 8 (λ z. absurd (omega (arith, z))) (λ z. absurd (omega (arith, z))) e);
      outside = λ e. absurd (omega (arith, e));
      shelf = λ e. absurd (omega (arith, e));
      sinks = λ e. w.put.1;
      fronts = λ e. inr (s, apart, (echo, interface, w));
      fault = λ e. absurd (omega (arith, e));
      behind_fault = λ e. absurd (omega (arith, e));
      memory = λ e. absurd (omega (arith, e));
      taken = λ other told e. absurd (omega (arith, e));
      refused = λ name octets i t no. (λ e. absurd (omega (arith, e)), λ e. absurd (omega (arith, e)));
      complete = λ other told nothing closed. elim w.put.1 [ inl o ↦ absurd (nothing.1 o) | inr l ↦ absurd (nothing.2 l) ];
    }

    -- all was said: at 0 or 8
    ended : (s : ℕ) → (s ≡ 0) ⊎ (s ≡ 8) → HasServedWith shows echo task boot door s (PutBoth out log) → ServesFor shows task boot store door out log s
    ended s known w = record {
      known = in_range s known;
      done = λ e. (echo, interface, w);
      outside = λ e. absurd (other s 2 known (λ z. absurd (omega (arith, z))) (λ z. absurd (omega (arith, z))) e);
      shelf = λ e. absurd (other s 3 known (λ z. absurd (omega (arith, z))) (λ z. absurd (omega (arith, z))) e);
      sinks = λ e. absurd (other s 4 known (λ z. absurd (omega (arith, z))) (λ z. absurd (omega (arith, z))) e);
      fronts = λ e. absurd (other s 4 known (λ z. absurd (omega (arith, z))) (λ z. absurd (omega (arith, z))) e);
      fault = λ e. absurd (other s 7 known (λ z. absurd (omega (arith, z))) (λ z. absurd (omega (arith, z))) e);
      behind_fault = λ e. absurd (other s 7 known (λ z. absurd (omega (arith, z))) (λ z. absurd (omega (arith, z))) e);
      memory = λ e. absurd (other s 5 known (λ z. absurd (omega (arith, z))) (λ z. absurd (omega (arith, z))) e);
      taken = λ told_echo told e. absurd (other s 2 known (λ z. absurd (omega (arith, z))) (λ z. absurd (omega (arith, z))) e);
      refused = λ name octets i t no. let is = text_served store.files task.idl echo name octets interface i t in (λ e. no is, λ e. no is);
      complete = λ told_echo told nothing closed. left s known;
    }
      where
        in_range : (s : ℕ) → (s ≡ 0) ⊎ (s ≡ 8) → (s < 9) × (s ≢ 1) × (s ≢ 6)
        in_range s (inl e) = (omega (arith, e), λ z. absurd (omega (arith, e, z)), λ z. absurd (omega (arith, e, z)))
        in_range s (inr e) = (omega (arith, e), λ z. absurd (omega (arith, e, z)), λ z. absurd (omega (arith, e, z)))

        other : (s n : ℕ) → (s ≡ 0) ⊎ (s ≡ 8) → 0 ≢ n → 8 ≢ n → s ≡ n → ⊥
        other s n (inl e) zero eight f = zero (sym e ∙ f)
        other s n (inr e) zero eight f = eight (sym e ∙ f)

        left : (s : ℕ) → (s ≡ 0) ⊎ (s ≡ 8) → (s ≡ 0) ⊎ (s ≡ 5) ⊎ (s ≡ 8)
        left s (inl e) = inl e
        left s (inr e) = inr (inr e)

    -- all was said where memory ran out on a connection
    memory_said : HasServedWith shows echo task boot door 5 (PutBoth out log) → ServesFor shows task boot store door out log 5
    memory_said w = record {
      known = (omega arith, λ z. absurd (omega (arith, z)), λ z. absurd (omega (arith, z)));
      done = λ e. absurd (neither 5 0 8 (λ z. absurd (omega (arith, z))) (λ z. absurd (omega (arith, z))) e);
      outside = λ e. absurd (omega (arith, e));
      shelf = λ e. absurd (omega (arith, e));
      sinks = λ e. absurd (omega (arith, e));
      fronts = λ e. absurd (omega (arith, e));
      fault = λ e. absurd (omega (arith, e));
      behind_fault = λ e. absurd (omega (arith, e));
      memory = λ e. inr (echo, interface, w);
      taken = λ other told e. absurd (omega (arith, e));
      refused = λ name octets i t no. (λ e. absurd (omega (arith, e)), λ e. absurd (omega (arith, e)));
      complete = λ other told nothing closed. inr (inl refl);
    }

    failed_with : (s : ℕ) (Q : List ℕ → List ℕ → Type 0) → HasServedWith shows echo task boot door s Q → s ≡ 7 → Rose door.before.faults door.after.faults
    failed_with s Q w e = rose shows (May echo) (tables_with echo) boot door.before task.at task.most door.after w.printed w.logged s w.serves e

    weaker : (s t : ℕ) (P Q : List ℕ → List ℕ → Type 0) → s ≡ t → (w : HasServedWith shows echo task boot door s P) → Q w.printed w.logged → HasServedWith shows echo task boot door t Q
    weaker s t P Q e w q = subst (λ n. HasServedWith shows echo task boot door n Q) e (record { printed = w.printed; logged = w.logged; serves = w.serves; desks = w.desks; put = q })

    -- both texts were put
    whole : (s result : ℕ) (P : List ℕ → List ℕ → Type 0) → result ≡ s → (w : HasServedWith shows echo task boot door s P) → PutBoth out log w.printed w.logged → ServesFor shows task boot store door out log result
    whole s result P e w put = subst (ServesFor shows task boot store door out log) (sym e) (by_status s (served shows (May echo) (tables_with echo) boot door.before task.at task.most door.after w.printed w.logged s w.serves) w put)
      where
        by_status : (s : ℕ) → IsServed s → (w : HasServedWith shows echo task boot door s P) → PutBoth out log w.printed w.logged → ServesFor shows task boot store door out log s
        by_status s (inl z) w put = ended s (inl z) (weaker s s P (PutBoth out log) refl w put)
        by_status s (inr (inl z)) w put = subst (ServesFor shows task boot store door out log) (sym z) (memory_said (weaker s 5 P (PutBoth out log) z w put))
        by_status s (inr (inr (inl z))) w put =
            subst (ServesFor shows task boot store door out log) (sym z)
            (door_failed (failed_with s P w z)
            (inr (echo, interface, weaker s 7 P (λ printed logged. PutBoth out log printed logged ⊎ PutInPart out log printed logged) z w (inl put))))
        by_status s (inr (inr (inr z))) w put = ended s (inr z) (weaker s s P (PutBoth out log) refl w put)

    by_put : (s result : ℕ) (w : HasServedWith shows echo task boot door s (λ printed logged. IsPut out log printed logged s result)) → IsPut out log w.printed w.logged s result → ServesFor shows task boot store door out log result
    by_put s result w (inl put) = whole s result (λ printed logged. IsPut out log printed logged s result) put.1 w put.0
    by_put s result w (inr (part, inl both)) =
        subst (ServesFor shows task boot store door out log) (sym both.1)
        (door_failed (failed_with s (λ printed logged. IsPut out log printed logged s result) w both.0)
        (inr (echo, interface, weaker s 7 (λ printed logged. IsPut out log printed logged s result) (λ printed logged. PutBoth out log printed logged ⊎ PutInPart out log printed logged) both.0 w (inr part))))
    by_put s result w (inr (part, inr both)) =
        subst (ServesFor shows task boot store door out log) (sym both.1)
        (output_failed s both.0 (weaker s s (λ printed logged. IsPut out log printed logged s result) (PutInPart out log) refl w part))

    -- connections were served, or not
    pub served_for : (result : ℕ) → ServesWith shows echo task boot door out log result → ServesFor shows task boot store door out log result
    served_for result (inl w) = by_put w.0 result w.1 w.1.put
    served_for result (inr (silent, inl why)) =
        subst (ServesFor shows task boot store door out log) (sym why.0) (door_failed why.1.failed (inl (silent, (echo, interface, why.1))))
    served_for result (inr (silent, inr none)) =
        subst (ServesFor shows task boot store door out log) (sym none.0) (memory_out silent (inr (echo, interface, none.1)))

module _ {K F S L : Type 0} (shows : K → Shown) (task : ServeTask) (boot : ℕ) (door : Doorway K) (status : ℕ) (files : F → Option Files) (faults : F → ℕ) (out_faults : S → ℕ) (out_has : S → Option (List ℕ))
    (log_faults : L → ℕ) (log_has : L → Option (List ℕ)) where
  abbrev Between : F → F → S → S → L → L → Type 0
  Between a b x y l m =
      ServesFor shows task boot (record { files = files a; before = faults a; after = faults b }) door
      (record { before = out_faults x; after = out_faults y; had = out_has x; has = out_has y })
      (record { before = log_faults l; after = log_faults m; had = log_has l; has = log_has m }) status

  -- nothing was done before
  pub carried : (a b c : F) (x y z : S) (l m n : L) → b ≡ a → y ≡ x → m ≡ l → Between b c y z m n → Between a c x z l n
  carried a b c x y z l m n e f h s =
      subst (λ (i : L). Between a c x z i n) h (subst (λ (j : S). Between a c j z m n) f (subst (λ (k : F). Between k c y z m n) e s))

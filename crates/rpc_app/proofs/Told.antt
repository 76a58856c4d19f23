-- What is so of files that are told.
use Rattle.std.proofs.Common.{◌≡◌, ℕ, ◌<◌, ◌≤◌, List, length, inl, inr, ◌⊎◌, sym, subst, ap, ◌∙◌, arith, Option, Some, None}
use Rattle.std.specs.Prelude.{IsSomeAnd}
use Rattle.rpc_base.specs.Shelves.{Files, HasFile, TellsFile}
use Rattle.ndr_table.specs.Tables.{TableForm}
use Rattle.rpc_app.specs.declared.command.Command.{Command}
use Rattle.rpc_app.specs.declared.command.Command.TheVariants.{Idl}
use Rattle.rpc_app.specs.Asks.{FileTask}
use Rattle.rpc_app.specs.Commands.{limit, IsTextFor, IsInterface, Refuses}
use Rattle.rpc_app.specs.Runs.{MakesOf, RefusesFile, ServesText, Serves, DoesFiles, RefusesText, RefusesFiles}
use Rattle.rpc_app.specs.Obeys.{IsTaken, TellsText}
use Rattle.rpc_app.proofs.Made.{one_interface, made_of_its_texts, not_both}

some_has : (o : Option (List ℕ)) (octets : List ℕ) (P : List ℕ → Type 0) → o ≡ Some octets → IsSomeAnd o P → P octets
some_has None octets P e h = absurd h
some_has (Some x) octets P e h = let same : x ≡ octets = cc in subst P same h

-- a fact of the file is one of the octets that are told
pub told_has : (told : Option Files) (name octets : List ℕ) (P : List ℕ → Type 0) → TellsFile told name octets → HasFile told name P → P octets
told_has None name octets P t h = absurd t
told_has (Some files) name octets P t h = some_has (files name) octets P t h

-- the file that is told is the one that was loaded
pub told_is : (told : Option Files) (name octets loaded : List ℕ) → TellsFile told name octets → HasFile told name (λ file. file ≡ loaded) → octets ≡ loaded
told_is told name octets loaded t h = told_has told name octets (λ file. file ≡ loaded) t h

module _ (files : Option Files) where
  file_refused : (echo : Option TableForm) (command : Command) (name octets said : List ℕ) → RefusesFile files echo command name said → TellsFile files name octets → IsTaken echo command octets → ⊥
  file_refused echo command name octets said (inl r) t k =
      let long : limit command < length octets = told_has files name octets (λ file. limit command < length file) t r.file in
      let short = k.0 in
      absurd (omega arith)
  file_refused echo command name octets said (inr r) t k =
      not_both echo command octets said (subst (λ (x : List ℕ). Refuses echo command x said) (sym (told_is files name octets r.octets t r.loaded.file)) r.refuses) k.1

  pub text_refused : (idl : Option (List ℕ)) (echo : Option TableForm) (said : List ℕ) → RefusesText files idl said → TellsText files idl echo → ⊥
  text_refused None echo said r t = absurd r
  text_refused (Some name) echo said r t =
      let i = t.3.1 in
      file_refused None Idl name t.0 said r t.1 (t.2, (i.tree, i.idl, i.checked))

  one_echo : (idl : Option (List ℕ)) (a b : Option TableForm) → Serves files idl a → TellsText files idl b → a ≡ b
  one_echo None a b s t = s ∙ sym t
  one_echo (Some name) a b s t =
      let same : t.0 ≡ s.0 = told_is files name t.0 s.0 t.1 s.1.file in
      let one : s.2.0 ≡ t.3.0 = one_interface t.0 s.2.0 t.3.0 (subst (λ (x : List ℕ). IsInterface x s.2.0) (sym same) s.2.1) t.3.1 in
      s.2.2 ∙ ap Some one ∙ sym t.3.2

  -- a task whose files are told and taken isn't refused
  pub task_refused : (task : FileTask) (echo : Option TableForm) (octets said : List ℕ) → RefusesFiles files task said → TellsText files task.idl echo → TellsFile files task.file octets → IsTaken echo task.command octets → ⊥
  task_refused task echo octets said (inl r) x t k = text_refused task.idl echo said r x
  task_refused task echo octets said (inr r) x t k =
      file_refused echo task.command task.file octets said
      (subst (λ (e : Option TableForm). RefusesFile files e task.command task.file said) (one_echo task.idl r.0 echo r.1 x) r.2) t k

  -- of one that the command doesn't take nothing is made
  pub task_done : (task : FileTask) (echo : Option TableForm) (octets printed logged : List ℕ) → DoesFiles files task printed logged → TellsText files task.idl echo → TellsFile files task.file octets → IsTextFor echo task.command octets
  task_done task echo octets printed logged d x t =
      let m = d.2 in
      let made = made_of_its_texts d.0 task.command m.octets printed logged m.makes in
      subst (λ (e : Option TableForm). IsTextFor e task.command octets) (one_echo task.idl d.0 echo d.1 x)
      (subst (λ (y : List ℕ). IsTextFor d.0 task.command y) (sym (told_is files task.file octets m.octets t m.loaded.file)) made)

  pub task_short : (task : FileTask) (octets printed logged : List ℕ) → DoesFiles files task printed logged → TellsFile files task.file octets → limit task.command < length octets → ⊥
  task_short task octets printed logged d t long =
      let m = d.2 in
      let same : octets ≡ m.octets = told_is files task.file octets m.octets t m.loaded.file in
      let short = m.loaded.short in
      absurd (omega (arith, ap length same))

  pub text_served : (idl : Option (List ℕ)) (echo : Option TableForm) (name octets : List ℕ) → Serves files idl echo → idl ≡ Some name → TellsFile files name octets → IsTaken None Idl octets
  text_served idl echo name octets s e t =
      let served : ServesText files name echo = subst (λ (i : Option (List ℕ)). Serves files i echo) e s in
      let same : octets ≡ served.0 = told_is files name octets served.0 t served.1.file in
      let i = served.2.1 in
      subst (λ (y : List ℕ). IsTaken None Idl y) (sym same) (served.1.short, (i.tree, i.idl, i.checked))

  pub task_text : (task : FileTask) (name octets printed logged : List ℕ) → DoesFiles files task printed logged → task.idl ≡ Some name → TellsFile files name octets → IsTaken None Idl octets
  task_text task name octets printed logged d e t = text_served task.idl d.0 name octets d.1 e t

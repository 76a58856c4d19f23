-- Calls that were cancelled or not.
use Rattle.std.proofs.Common.{◌≡◌, ℕ, Bool, true, false, refl, sym, ap, subst, ◌∙◌, inl}
use Rattle.std.specs.Prelude.{◌==◌}
use Rattle.std.proofs.lemmas.Bool.Decides.{Decides-eqb}
use Rattle.manager_api.specs.Answers.{Ans, Does, Step, cancelled as cancelled_answer}
use Rattle.manager_api.specs.Calls.{Call}
use Rattle.desk_counts.specs.Numbers.{Numbers}
use Rattle.echo_manager.specs.ProbeSteps.{probe_step}
use Rattle.desk_service.specs.State.{Services}
use Rattle.desk_service.specs.Calls.{May, by_probe, by_store, by_endpoints, by_management, by_echo}

-- probe_open that was cancelled
abbrev cancelled_step : ℕ → Step ℕ
cancelled_step handles = record { answer = cancelled_answer; next = handles }

open_step_is : (handles : ℕ) (c : Call) (told : Bool) → c.op ≡ 0 → told ≡ true → probe_step handles c told ≡ cancelled_step handles
open_step_is handles c told o t = rw (o, t) refl

pub cancelled_open : (s : Services) (numbers : Numbers) (c : Call) (told : Bool) → c.iface ≡ 0 → c.op ≡ 0 → told ≡ true → May s numbers c told cancelled_answer s
cancelled_open s numbers c told i o t =
    let d : Does (cancelled_step s.probes) s.probes cancelled_answer s.probes = inl (refl, refl) in
    by_probe s.probes i (subst (λ (x : Step ℕ). Does x s.probes cancelled_answer s.probes) (sym (open_step_is s.probes c told o t)) d) refl

-- the probe asks in probe_open alone
same_step : (handles : ℕ) (c : Call) (b told other : Bool) → (c.op == 0) ≡ b → (c.op ≡ 0 → told ≡ other) → probe_step handles c told ≡ probe_step handles c other
same_step handles c true told other e f = ap (probe_step handles c) (f ((Decides-eqb c.op 0).0 e))
same_step handles c false told other e f = rw e refl

pub told_apart : (s t : Services) (numbers : Numbers) (c : Call) (a : Ans) (told other : Bool) → (c.iface ≡ 0 → c.op ≡ 0 → told ≡ other)
    → May s numbers c told a t → May s numbers c other a t
told_apart s t numbers c a told other f (by_probe next i does to) =
    by_probe next i (subst (λ (x : Step ℕ). Does x s.probes a next) (same_step s.probes c (c.op == 0) told other refl (f i)) does) to
told_apart s t numbers c a told other f (by_store next i does to) = by_store next i does to
told_apart s t numbers c a told other f (by_endpoints next i does to) = by_endpoints next i does to
told_apart s t numbers c a told other f (by_management i tells to) = by_management i tells to
told_apart s t numbers c a told other f (by_echo u i at answers to) = by_echo u i at answers to

-- whoever is honest and asked nothing but what is known tells what is known, where there was no cancel
pub untold : (told cancelled known : Bool) → (told ≡ true → cancelled ≡ true) → cancelled ≡ known → known ≡ false → told ≡ known
untold true cancelled known f e n = sym (f refl) ∙ e
untold false cancelled known f e n = sym n

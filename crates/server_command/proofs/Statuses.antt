-- The statuses of connections that were served.
use Rattle.std.proofs.Common.{◌≡◌, ◌⊎◌, ◌∙◌, ℕ, ◌+◌, ◌-◌, ◌^◌, ◌≤◌, Bool, true, false, List, refl, sym, ap, subst, arith, inl, inr, if◌then◌else◌}
use Rattle.std.specs.List.{list_any, list_all}
use Rattle.std.proofs.lemmas.Bool.{cases_Bool}
use Rattle.rpc_base.specs.Causes.{Rose}
use Rattle.rpc_outside.specs.declared.address.Address.{Address}
use Rattle.rpc_outside.specs.Links.{Shown}
use Rattle.rpc_outside.specs.Doors.{DoorShown}
use Rattle.ndr_table.specs.Tables.{TableForm}
use Rattle.manager_api.specs.Answers.{Ans}
use Rattle.manager_api.specs.Calls.{Call}
use Rattle.server_ends.specs.declared.ended.Ending.{Ending}
use Rattle.server_rounds.specs.declared.round.Stop.{Stop}
use Rattle.server_rounds.specs.declared.round.Stop.TheVariants.{Done, DoorClosed, DoorFault, Memory}
use Rattle.server_rounds.specs.Rounds.{Stops}
use Rattle.server_command.specs.Statuses.{is_closed, is_memory, status_by}
use Rattle.server_command.specs.Lines.{endings_in, status_with}
use Rattle.server_command.specs.Serves.{Serves}

-- 0, 5, 7 and 8
abbrev pub IsServed : ℕ → Type 0
IsServed s = (s ≡ 0) ⊎ (s ≡ 5) ⊎ (s ≡ 7) ⊎ (s ≡ 8)

abbrev chosen : Bool → Bool → ℕ
chosen a b = if a then 5 else (if b then 0 else 8)

by_tests : (a b : Bool) → IsServed (chosen a b)
by_tests true b = inr (inl refl)
by_tests false true = inl refl
by_tests false false = inr (inr (inr refl))

pub known : (stop : Stop) (whys : List Ending) → IsServed (status_with stop whys)
known DoorFault whys = inr (inr (inl refl))
known Memory whys = inr (inl refl)
known Done whys = by_tests (list_any is_memory whys) (list_all is_closed whys)
known DoorClosed whys = by_tests (list_any is_memory whys) (list_all is_closed whys)

not_seven : (a b : Bool) → chosen a b ≡ 7 → ⊥
not_seven true b e = absurd (omega (arith, e))
not_seven false true e = absurd (omega (arith, e))
not_seven false false e = absurd (omega (arith, e))

-- 7 is the status only where the door failed
pub faulted : (stop : Stop) (whys : List Ending) → status_with stop whys ≡ 7 → stop ≡ DoorFault
faulted DoorFault whys e = refl
faulted Memory whys e = absurd (omega (arith, e))
faulted Done whys e = absurd (not_seven (list_any is_memory whys) (list_all is_closed whys) e)
faulted DoorClosed whys e = absurd (not_seven (list_any is_memory whys) (list_all is_closed whys) e)

pub rose_later : (a b c d : ℕ) → a ≤ b → Rose b c → c ≤ d → Rose a d
rose_later a b c d low r high = omega (arith, low, r, high)

module _ {K : Type 0} (shows : K → Shown) (may : Call → Bool → Ans → Type 0) (tables : List TableForm) where
  pub rose : (boot : ℕ) (a : DoorShown K) (at : Address) (most : ℕ) (b : DoorShown K) (out log : List ℕ) (status : ℕ)
      → Serves shows may tables boot a at most b out log status → status ≡ 7 → Rose a.faults b.faults
  rose boot a at most b out log status s e =
      let stop = faulted s.round.stop (endings_in s.round.finished.items) (sym s.over.status_is ∙ e) in
      let stops = subst (Stops s.heard s.left most _) stop s.serves.stop in
      rose_later a.faults s.heard.faults s.left.faults b.faults s.listens.counts.faults stops.1 (let same = s.given_back.faults in omega (arith, same))

  pub served : (boot : ℕ) (a : DoorShown K) (at : Address) (most : ℕ) (b : DoorShown K) (out log : List ℕ) (status : ℕ)
      → Serves shows may tables boot a at most b out log status → IsServed status
  served boot a at most b out log status s = subst IsServed (sym s.over.status_is) (known s.round.stop (endings_in s.round.finished.items))

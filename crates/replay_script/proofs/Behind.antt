-- What a load knows behind a further round, and how small its numbers are.
use Rattle.std.proofs.Common.{◌≡◌, ◌≢◌, ℕ, zero, suc, ◌+◌, ◌/◌, ◌%◌, ◌^◌, ◌<◌, ◌≤◌, ◌==◌, Bool, true, false, if◌then◌else◌, Option, Some, None, List, [], ◌∷◌, length, filter, slice_index_or, slice_set, inl, inr, refl, sym, ap, subst, ◌∙◌, arith}
use Rattle.std.proofs.lemmas.Bool.Decides.{eqb_tells}
use Rattle.std.proofs.lemmas.List.{get_or-set_other, length-set}
use Rattle.std.proofs.lemmas.Grind.{get_or-set_at}
use Rattle.replay_script.specs.declared.deed.Deed.{Deed}
use Rattle.replay_script.specs.declared.deed.Deed.TheVariants.{Open, Lose, Run, Finish, Cancel, Issue, Close}
use Rattle.replay_script.specs.declared.deed.Step.{Step}
use Rattle.replay_script.specs.declared.load.Load.{Load}
use Rattle.replay_script.specs.declared.slot.Slot.{Slot}
use Rattle.replay_script.specs.Drawing.{next_number, number_at, drawn}
use Rattle.replay_script.specs.Rounds.{Round, conn_of, call_by, call_of, handle_of, group_of, opens, opened, conn_after, call_after, handle_after, group_after, deed_on, deed_at, step_by, step_after}
use Rattle.replay_script.specs.Knowing.{slot_in, slot_after, empty_slot, Knows}

-- ---- numbers are small

call_by_low : (d : Deed) (b n : ℕ) → b ≤ n → call_by d b ≤ suc n
call_by_low (Open name group) b n low = omega arith
call_by_low (Lose name) b n low = omega (arith, low)
call_by_low (Run name) b n low = omega (arith, low)
call_by_low (Finish name) b n low = omega (arith, low)
call_by_low (Cancel name call) b n low = omega (arith, low)
call_by_low (Issue name call number) b n low = omega (arith, low)
call_by_low (Close name call handle) b n low = omega (arith, low)

chosen_low : (b : Bool) (x y n : ℕ) → x ≤ n → y ≤ n → (if b then x else y) ≤ n
chosen_low true x y n p q = p
chosen_low false x y n p q = q

pub call_low : (past : List Round) (s : ℕ) → call_of past s ≤ length past
call_low [] s = omega arith
call_low (r ∷ past) s =
    let low = call_low past s in
    chosen_low (r.step.slot == s) (call_after r (call_of past s)) (call_of past s) (suc (length past)) (call_by_low r.step.deed (call_of past s) (length past) low) (omega (arith, low))

filtered_low : (b : Bool) (r : Round) (l : List Round) (n : ℕ) → length l ≤ n → length (if b then r ∷ l else l) ≤ suc n
filtered_low true r l n p = omega (arith, p)
filtered_low false r l n p = omega (arith, p)

pub opened_low : (past : List Round) → opened past ≤ length past
opened_low [] = omega arith
opened_low (r ∷ past) = filtered_low (opens r.step.deed) r (filter (λ (q : Round). opens q.step.deed) past) (length past) (opened_low past)

-- ---- the next step

abbrev made : ℕ → Deed → Step
made s d = record { slot = s; deed = d }

pub step_is : (number : ℕ) (past : List Round) (x : Load) (y name : ℕ) (d : Deed) → Knows number past x → y ≡ drawn (next_number x.number)
    → (slice_index_or x.slots (y % 8) empty_slot).conn ≡ Some name → d ≡ deed_on past (y % 8) y name → ◌≡◌ {A = Step} (record { slot = y % 8; deed = d }) (step_after number past)
step_is number past x y name d k e has is =
    let here : y ≡ drawn (number_at number (suc (length past))) = e ∙ ap (λ (n : ℕ). drawn (next_number n)) k.number_is in
    let conn : conn_of past (y % 8) ≡ Some name = ap (λ (z : Slot). z.conn) (sym (k.slots_are (y % 8) (omega arith))) ∙ has in
    let deed : d ≡ deed_at past (y % 8) y (conn_of past (y % 8)) = is ∙ ap (deed_at past (y % 8) y) (sym conn) in
    ap (made (y % 8)) deed ∙ ap (step_by past) here

-- ---- behind a round

slot_by : (b : Bool) (r : Round) (x : Slot)
    → ◌≡◌ {A = Slot} (record { conn = if b then conn_after r x.conn else x.conn; call = if b then call_after r x.call else x.call; handle = if b then handle_after r x.handle else x.handle; group = if b then group_after r x.group else x.group })
    (if b then slot_after r x else x)
slot_by true r x = refl
slot_by false r x = refl

behind : (r : Round) (past : List Round) (s : ℕ) → slot_in (r ∷ past) s ≡ (if r.step.slot == s then slot_after r (slot_in past s) else slot_in past s)
behind r past s = slot_by (r.step.slot == s) r (slot_in past s)

chosen : {A : Type 0} (b c : Bool) (x y : A) → b ≡ c → (if b then x else y) ≡ (if c then x else y)
chosen b c x y e = ap (λ (z : Bool). if z then x else y) e

opened_more : (b : Bool) (r : Round) (l : List Round) → length (if b then r ∷ l else l) ≡ (if b then length l + 1 else length l)
opened_more true r l = omega arith
opened_more false r l = refl

module _ (number : ℕ) (past : List Round) (x : Load) (k : Knows number past x) where
  pub call_small : (s : ℕ) → s < 8 → x.steps < 100000 → (slice_index_or x.slots s empty_slot).call < 100000
  call_small s low few =
      let is : (slice_index_or x.slots s empty_slot).call ≡ call_of past s = ap (λ (z : Slot). z.call) (k.slots_are s low) in
      let n = k.steps_are in
      omega (arith, is, call_low past s, n, few)

  pub knows_more : (y : Load) (step : Step) (answers : List (List ℕ)) (z : Slot) → step.slot < 8 → x.steps < 100000
      → y.number ≡ next_number x.number → y.steps ≡ x.steps + 1 → y.opened ≡ (if opens step.deed then x.opened + 1 else x.opened)
      → y.slots ≡ slice_set x.slots step.slot z
      → z ≡ slot_after (record { step = step; answers = answers }) (slice_index_or x.slots step.slot empty_slot)
      → Knows number (record { step = step; answers = answers } ∷ past) y
  knows_more y step answers z low few next steps open_is slots is =
      let r : Round = record { step = step; answers = answers } in
      record {
        number_is = next ∙ ap next_number k.number_is;
        steps_are = steps ∙ (let n = k.steps_are in omega (arith, n));
        opened_are = open_is ∙ ap (λ (n : ℕ). if opens step.deed then n + 1 else n) k.opened_are ∙ sym (opened_more (opens step.deed) r (filter (λ (q : Round). opens q.step.deed) past));
        eight = ap length slots ∙ length-set x.slots step.slot z ∙ k.eight;
        slots_are = λ s inside.
            ap (λ (l : List Slot). slice_index_or l s empty_slot) slots ∙ elim (eqb_tells step.slot s) [
              | inl e ↦
                  get_or-set_at x.slots step.slot s z empty_slot (sym e.1) (let n = k.eight in omega (arith, n, low)) ∙ is
                  ∙ ap (λ (i : ℕ). slot_after r (slice_index_or x.slots i empty_slot)) e.1 ∙ ap (slot_after r) (k.slots_are s inside)
                  ∙ sym (behind r past s ∙ chosen (step.slot == s) true (slot_after r (slot_in past s)) (slot_in past s) e.0)
              | inr n ↦
                  get_or-set_other x.slots step.slot s z empty_slot (λ e. n.1 (sym e)) ∙ k.slots_are s inside
                  ∙ sym (behind r past s ∙ chosen (step.slot == s) false (slot_after r (slot_in past s)) (slot_in past s) n.0)
            ];
      }

-- The cookies that a running call was given.
use Rattle.std.proofs.Common.{◌≡◌, ◌==◌, ℕ, Bool, true, false, if◌then◌else◌, Option, Some, List, [], ◌∷◌, ◌++◌, refl, sym, ap, ◌∙◌}
use Rattle.std.specs.List.{list_any}
use Rattle.handle_model.specs.declared.entry.Asked.{Asked}
use Rattle.handle_model.specs.declared.entry.Entry.{Entry}
use Rattle.handle_model.specs.declared.entry.Entry.TheVariants.{Join, Accept, Take, Deny, Cancel, Orphan, End, Leave, Shut}
use Rattle.conn_histories.specs.declared.turn.Off.{Off}
use Rattle.conn_histories.specs.declared.turn.Off.TheVariants as off
use Rattle.conn_histories.specs.declared.turn.Fate.TheVariants.{Running, LeftRunning}
use Rattle.conn_histories.specs.Entries.{is_cancel, is_orphan, marks, fate_entries}
use Rattle.conn_histories.specs.Tales.{is_about, tale}
use Rattle.replay_world.specs.Groups.{taken_with}
use Rattle.conn_turns.proofs.TaleFacts.{same_number}
use Rattle.conn_turns.proofs.MarkFacts.{ran, ran_is}
use Rattle.conn_turns.proofs.Staged.{kept_skip}

taken_tale : (c k : ℕ) (past : List Entry) → taken_with (tale c k past) k ≡ taken_with past k
taken_tale c k [] = refl
taken_tale c k (Take m cookies ∷ past) = by_test (m == k) refl (taken_tale c k past)
  where
    by_test : (b : Bool) → (m == k) ≡ b → taken_with (tale c k past) k ≡ taken_with past k
        → taken_with (if b then Take m cookies ∷ tale c k past else tale c k past) k ≡ (if b then Some cookies else taken_with past k)
    by_test true is h = rw is refl
    by_test false is h = h
taken_tale c k (Join d ∷ past) = kept_skip (λ l. taken_with l k) (Join d) (is_about c k (Join d)) (tale c k past) past (λ zs. refl) (taken_tale c k past)
taken_tale c k (Accept m a ∷ past) = kept_skip (λ l. taken_with l k) (Accept m a) (is_about c k (Accept m a)) (tale c k past) past (λ zs. refl) (taken_tale c k past)
taken_tale c k (Deny m slot ∷ past) = kept_skip (λ l. taken_with l k) (Deny m slot) (is_about c k (Deny m slot)) (tale c k past) past (λ zs. refl) (taken_tale c k past)
taken_tale c k (Cancel m ∷ past) = kept_skip (λ l. taken_with l k) (Cancel m) (is_about c k (Cancel m)) (tale c k past) past (λ zs. refl) (taken_tale c k past)
taken_tale c k (Orphan m ∷ past) = kept_skip (λ l. taken_with l k) (Orphan m) (is_about c k (Orphan m)) (tale c k past) past (λ zs. refl) (taken_tale c k past)
taken_tale c k (End m results said ∷ past) = kept_skip (λ l. taken_with l k) (End m results said) (is_about c k (End m results said)) (tale c k past) past (λ zs. refl) (taken_tale c k past)
taken_tale c k (Leave d ∷ past) = kept_skip (λ l. taken_with l k) (Leave d) (is_about c k (Leave d)) (tale c k past) past (λ zs. refl) (taken_tale c k past)
taken_tale c k (Shut items ∷ past) = kept_skip (λ l. taken_with l k) (Shut items) (is_about c k (Shut items)) (tale c k past) past (λ zs. refl) (taken_tale c k past)

module _ (k : ℕ) (a : Asked) (cookies : List (Option ℕ)) where
  ran_with : (offs : List Off) → taken_with (ran k a offs cookies) k ≡ Some cookies
  ran_with [] = rw (same_number k) refl
  ran_with (off.Cancel ∷ offs) = by_test (list_any is_cancel offs) (ran_with offs)
    where
      by_test : (b : Bool) → taken_with (ran k a offs cookies) k ≡ Some cookies
          → taken_with ((if b then marks k offs else Cancel k ∷ marks k offs) ++ Take k cookies ∷ Accept k a ∷ Join a.conn ∷ []) k ≡ Some cookies
      by_test true r = r
      by_test false r = r
  ran_with (off.Orphan ∷ offs) = by_test (list_any is_orphan offs) (ran_with offs)
    where
      by_test : (b : Bool) → taken_with (ran k a offs cookies) k ≡ Some cookies
          → taken_with ((if b then marks k offs else Orphan k ∷ marks k offs) ++ Take k cookies ∷ Accept k a ∷ Join a.conn ∷ []) k ≡ Some cookies
      by_test true r = r
      by_test false r = r

module _ (k : ℕ) (a : Asked) (past : List Entry) (offs : List Off) (cookies : List (Option ℕ)) where
  taken_by : (t : List Entry) → tale a.conn k past ≡ t → taken_with t k ≡ Some cookies → taken_with past k ≡ Some cookies
  taken_by t is taken = sym (taken_tale a.conn k past) ∙ (ap (λ l. taken_with l k) is ∙ taken)

  pub taken_running : tale a.conn k past ≡ fate_entries k a offs (Running cookies) ++ Join a.conn ∷ [] → taken_with past k ≡ Some cookies
  taken_running is = taken_by (ran k a offs cookies) (is ∙ ran_is k a offs cookies) (ran_with k a cookies offs)

  pub taken_left : tale a.conn k past ≡ fate_entries k a offs (LeftRunning cookies) ++ Join a.conn ∷ [] → taken_with past k ≡ Some cookies
  taken_left is = taken_by (Leave a.conn ∷ ran k a offs cookies) (is ∙ ap (λ l. Leave a.conn ∷ l) (ran_is k a offs cookies)) (ran_with k a cookies offs)

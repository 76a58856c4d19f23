-- Lists that grow at their end.
use Rattle.std.proofs.Common.{◌≡◌, ◌==◌, ◌∙◌, ℕ, ◌+◌, ◌<◌, Bool, true, false, ◌||◌, List, [], ◌∷◌, ◌++◌, length, arith, zero, suc, Result, Ok, Err, slice_index_or, refl, sym, ap, append_assoc, append-nil}
use Rattle.std.specs.Prelude.{OnOk}
use Rattle.std.specs.List.{AllByRecursion, list_any, list_all}
use Rattle.std.proofs.lemmas.List.{map_push}
use Rattle.handle_model.specs.History.{History}
use Rattle.journal_text.specs.Histories.{history_text, journals_text}
use Rattle.server_command.specs.Logs.{AreRising}

pub all_snoc : {X : Type 0} (P : X → Type 0) (xs : List X) (y : X) → AllByRecursion P xs → P y → AllByRecursion P (xs ++ y ∷ [])
all_snoc P [] y all last = (last, tt)
all_snoc P (x ∷ xs) y all last = (all.0, all_snoc P xs y all.1 last)

pub all_map : {X : Type 0} (P Q : X → Type 0) → ((x : X) → P x → Q x) → (xs : List X) → AllByRecursion P xs → AllByRecursion Q xs
all_map P Q f [] all = tt
all_map P Q f (x ∷ xs) all = (f x all.0, all_map P Q f xs all.1)

pub rising_snoc : (gs : List ℕ) (g : ℕ) → AreRising gs → AllByRecursion (λ h. h < g) gs → AreRising (gs ++ g ∷ [])
rising_snoc [] g rising low = (tt, tt)
rising_snoc (h ∷ gs) g rising low = (all_snoc (λ k. h < k) gs g rising.0 low.0, rising_snoc gs g rising.1 low.1)

either : (a b : Bool) → (a ≡ false → b ≡ true) → (a || b) ≡ true
either true b f = refl
either false b f = f refl

pub any_before : (p : ℕ → Bool) (gs : List ℕ) (g : ℕ) → list_any p gs ≡ true → list_any p (gs ++ g ∷ []) ≡ true
any_before p [] g h = absurd cc
any_before p (x ∷ gs) g h = either (p x) (list_any p (gs ++ g ∷ [])) (λ e. any_before p gs g (rw e at h))

pub any_last : (p : ℕ → Bool) (gs : List ℕ) (g : ℕ) → p g ≡ true → list_any p (gs ++ g ∷ []) ≡ true
any_last p [] g h = rw h refl
any_last p (x ∷ gs) g h = either (p x) (list_any p (gs ++ g ∷ [])) (λ e. any_last p gs g h)

pub text_snoc : (js : List History) (j : History) → journals_text (js ++ j ∷ []) ≡ journals_text js ++ history_text j
text_snoc [] j = append-nil (history_text j)
text_snoc (i ∷ js) j = ap (λ t. history_text i ++ t) (text_snoc js j) ∙ sym (append_assoc (history_text i) (journals_text js) (history_text j))

pub all_true : (flags : List Bool) → list_all (λ b. b) flags ≡ true → (s : ℕ) → slice_index_or flags s true ≡ true
all_true [] h s = refl
all_true (true ∷ flags) h zero = refl
all_true (false ∷ flags) h zero = absurd cc
all_true (true ∷ flags) h (suc s) = all_true flags h s
all_true (false ∷ flags) h (suc s) = absurd cc

pub on_ok : {A E P Q : Type 0} (r : Result A E) → (P → Q) → OnOk r P → OnOk r Q
on_ok (Ok x) f p = f p
on_ok (Err e) f p = p

pub other_default : (flags : List Bool) (s : ℕ) → s < length flags → slice_index_or flags s false ≡ false → slice_index_or flags s true ≡ false
other_default [] s low h = absurd (omega (arith, low))
other_default (flag ∷ flags) zero low h = h
other_default (flag ∷ flags) (suc s) low h = other_default flags s (omega (arith, low)) h

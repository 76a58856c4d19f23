-- What a reply says of the entries of its call: it never ran, so there is no Take; it ran, so there is its End.
use Rattle.std.proofs.Common.{◌≡◌, ℕ, ◌+◌, ◌≤◌, ◌==◌, Bool, true, false, not, ◌&&◌, ◌||◌, cond, Option, Some, None, List, [], ◌∷◌, ◌++◌, length, filter, refl, sym, ap, ◌∙◌, arith, ◌⊎◌, inl, inr, subst}
use Rattle.std.specs.List.{list_any}
use Rattle.std.proofs.lemmas.Bool.{cases_Bool}
use Rattle.std.proofs.lemmas.Bool.Decides.{eqb_tells}
use Rattle.rpc_base.specs.declared.identifiers.Status.{Status}
use Rattle.handle_model.specs.declared.entry.Home.{Home}
use Rattle.handle_model.specs.declared.entry.Said.{Said}
use Rattle.handle_model.specs.declared.entry.Entry.{Entry}
use Rattle.handle_model.specs.declared.entry.Entry.TheVariants.{End}
use Rattle.handle_model.specs.declared.base.Base.{Base}
use Rattle.handle_model.specs.declared.reply.Reply.{Reply}
use Rattle.handle_model.specs.declared.reply.Reply.TheVariants.{Never, Ran, Dropped, Open}
use Rattle.handle_model.specs.Since.{since, any_since}
use Rattle.handle_model.specs.History.{History}
use Rattle.handle_model.specs.Bases.{taken_before}
use Rattle.handle_model.specs.Journal.{Legal, takes, denies, cancels, is_taken}
use Rattle.handle_model.specs.Replies.{replies, reply_by, is_lost, ended_with, ended_with_since, context_mismatch, cancelled}
use Rattle.handle_model.specs.CallLaws.{DecidedOnce}
use Rattle.handle_model.specs.ReplyLaws.{Ended, NeverIsUntaken, RanHasEnded}

none_step : (b rest : Bool) (x : Entry) (xs : List Entry) → (rest ≡ false → length xs ≡ 0) → (b || rest) ≡ false → length (cond b (x ∷ xs) xs) ≡ 0
none_step true rest x xs f e = absurd cc
none_step false rest x xs f e = f e

some_step : (b rest : Bool) (x : Entry) (xs : List Entry) → (rest ≡ true → 1 ≤ length xs) → (b || rest) ≡ true → 1 ≤ length (cond b (x ∷ xs) xs)
some_step true rest x xs f e = omega arith
some_step false rest x xs f e = f e

none_counted : (p : Entry → Bool) (past : List Entry) → list_any p past ≡ false → length (filter p past) ≡ 0
none_counted p [] h = refl
none_counted p (e ∷ past) h = none_step (p e) (list_any p past) e (filter p past) (none_counted p past) h

some_counted : (p : Entry → Bool) (past : List Entry) → list_any p past ≡ true → 1 ≤ length (filter p past)
some_counted p [] h = absurd cc
some_counted p (e ∷ past) h = some_step (p e) (list_any p past) e (filter p past) (some_counted p past) h

or_none : (a b : Bool) → a ≡ false → b ≡ false → (a || b) ≡ false
or_none a b e f = cc

left_no : (a b : Bool) → (a || b) ≡ false → a ≡ false
left_no true b e = e
left_no false b e = refl

right_no : (a b : Bool) → (a || b) ≡ false → b ≡ false
right_no true b e = absurd cc
right_no false b e = e

-- a test that is false, of a journal and its base
not_since : (b : Bool) (p : Entry → Bool) (past : List Entry) → any_since b p past ≡ false → list_any p past ≡ false
not_since b p [] h = refl
not_since b p (e ∷ past) h = or_none (p e) (list_any p past) (left_no (p e) (any_since b p past) h) (not_since b p past (right_no (p e) (any_since b p past) h))

-- by what a call is told that it never ran
never_by : (denied off taken : Bool) (said : Option Said) (lost : Bool) (status : Status) → cond denied (Never context_mismatch) (cond (off && not taken) (Never cancelled) (reply_by said lost)) ≡ Never status → (denied ≡ true) ⊎ (taken ≡ false)
never_by true off taken said lost status e = inl refl
never_by false true true None true status e = absurd cc
never_by false true true None false status e = absurd cc
never_by false true true (Some s) lost status e = absurd cc
never_by false true false said lost status e = inr refl
never_by false false taken None true status e = absurd cc
never_by false false taken None false status e = absurd cc
never_by false false taken (Some s) lost status e = absurd cc

ran_by : (denied off : Bool) (said : Option Said) (lost : Bool) (s : Said) → cond denied (Never context_mismatch) (cond off (Never cancelled) (reply_by said lost)) ≡ Ran s → said ≡ Some s
ran_by true off said lost s e = absurd cc
ran_by false true said lost s e = absurd cc
ran_by false false None true s e = absurd cc
ran_by false false None false s e = absurd cc
ran_by false false (Some t) lost s e = ap (λ x. Some x) (cc)

end_step : (b lost : Bool) (said s : Said) (before : Option Said) → cond b (cond lost None (Some said)) before ≡ Some s → ((b ≡ true) × (said ≡ s)) ⊎ (before ≡ Some s)
end_step true true said s before e = absurd cc
end_step true false said s before e = inl (refl, cc)
end_step false lost said s before e = inr e

is_number : (m k : ℕ) → (m == k) ≡ true → m ≡ k
is_number m k t = elim (eqb_tells m k) [ inl e ↦ e.1 | inr e ↦ absurd (let f = e.0 in cc) ]

later : (x : Entry) (past : List Entry) (k : ℕ) (s : Said) → Ended past k s → Ended (x ∷ past) k s
later x past k s h = record { newer = x ∷ h.newer; older = h.older; results = h.results; is = ap (λ (es : List Entry). x ∷ es) h.is }

ended : (home : Home) (base : Base) (past : List Entry) (k : ℕ) (s : Said) → ended_with_since home base past k ≡ Some s → Ended past k s
ended home base [] k s e = absurd cc
ended home base (End m results said ∷ past) k s e =
    elim (end_step (m == k) (is_lost (since home base past) k) said s (ended_with_since home base past k) e) [
      | inl t ↦ record { newer = []; older = past; results = results; is = ap (λ (n : ℕ). End n results said ∷ past) (is_number m k t.0) ∙ ap (λ (x : Said). End k results x ∷ past) t.1 }
      | inr t ↦ later (End m results said) past k s (ended home base past k s t)
    ]
ended home base (x ∷ past) k s e = later x past k s (ended home base past k s e)

pub ran_has_ended : RanHasEnded
ran_has_ended j k s e = ended j.home j.base j.past k s (ran_by (list_any (denies k) j.past) (list_any (cancels k) j.past && not (is_taken j k)) (ended_with j k) (is_lost j k) s e)

pub never_is_untaken : DecidedOnce → NeverIsUntaken
never_is_untaken once j k status l e =
    elim (never_by (list_any (denies k) j.past) (list_any (cancels k) j.past) (is_taken j k) (ended_with j k) (is_lost j k) status e) [
      | inl t ↦ let d = some_counted (denies k) j.past t in let o = once j k l in omega arith
      | inr t ↦ none_counted (takes k) j.past (not_since (taken_before j.base k) (takes k) j.past t)
    ]

-- What two later moments of a history agree on.
use Rattle.std.proofs.Common.{◌≡◌, ℕ, ◌+◌, ◌≤◌, true, false, Option, Some, None, is_some, List, [], ◌∷◌, ◌++◌, length, refl, sym, ◌∙◌, ap, suc, arith}
use Rattle.std.specs.List.{list_any}
use Rattle.std.proofs.lemmas.List.{length-append}
use Rattle.std.proofs.lemmas.Bool.{false_from_ne_true}
use Rattle.handle_model.specs.declared.entry.Asked.{Asked}
use Rattle.handle_model.specs.declared.entry.Entry.{Entry}
use Rattle.handle_model.specs.declared.entry.Entry.TheVariants.{End}
use Rattle.handle_model.specs.History.{History, with_entry}
use Rattle.handle_model.specs.Journal.{Legal, asked, slots, issues, issues_in, is_issued, kind}
use Rattle.handle_model.proofs.Held.{or_right}
use Rattle.handle_model.specs.Further.{with_entries}
use Rattle.handle_model.specs.Moments.{Between, Agree}
use Rattle.handle_model.proofs.Accepted.{asked_stays}
use Rattle.handle_model.proofs.LiveNames.{issued_once, no_kind}
use Rattle.handle_model.proofs.ReplyStays.{reply_stays}

-- MOMENTS

pub moments_in_order : (newer older newest oldest : List Entry) → newer ++ older ≡ newest ++ oldest → length oldest ≤ length older → Between oldest older
moments_in_order [] older newest oldest e le = record { entries = newest; joined = e }
moments_in_order (x ∷ newer) older [] oldest e le =
    let long : length ((x ∷ newer) ++ older) ≡ length oldest = ap (λ (xs : List Entry). length xs) e in
    let parts = length-append (x ∷ newer) older in
    let sum : suc (length newer) + length older ≡ length oldest = sym parts ∙ long in
    absurd (omega arith)
moments_in_order (x ∷ newer) older (y ∷ newest) oldest e le =
    let rest : newer ++ older ≡ newest ++ oldest = cc in moments_in_order newer older newest oldest rest le

-- WHAT STAYS

asked_same : (j : History) (newer : List Entry) (k : ℕ) (o : Option Asked) → Legal (with_entries j newer) → asked j k ≡ o → is_some (asked j k) ≡ true → asked (with_entries j newer) k ≡ asked j k
asked_same j newer k None l e s = let none = rw e at s in absurd (cc)
asked_same j newer k (Some a) l e s = asked_stays j newer k a l e ∙ sym e

issued_stays : (j : History) (newer : List Entry) (h : ℕ) → is_issued j h ≡ true → is_issued (with_entries j newer) h ≡ true
issued_stays j [] h i = i
issued_stays j (e ∷ newer) h i = or_right (issues_in h e) (is_issued (with_entries j newer) h) (issued_stays j newer h i)

kind_kept : (j : History) (e : Entry) (h : ℕ) → Legal (with_entry j e) → is_issued j h ≡ true → kind (with_entry j e) h ≡ kind j h
kind_kept j (End k results said) h l i =
    let fresh : list_any (issues h) results ≡ false =
    false_from_ne_true (list_any (issues h) results) (λ again. let w = issued_once j k h results l.1 l.0.fits.0 l.0.fits.1 again in absurd (cc)) in
    rw (no_kind h (slots j k) results fresh) refl
kind_kept j _ h l i = refl

pub kind_stays : (j : History) (newer : List Entry) (h : ℕ) → Legal (with_entries j newer) → is_issued j h ≡ true → kind (with_entries j newer) h ≡ kind j h
kind_stays j [] h l i = refl
kind_stays j (e ∷ newer) h l i = kind_kept (with_entries j newer) e h l (issued_stays j newer h i) ∙ kind_stays j newer h l.1 i

pub agree : (j : History) (newer newest : List Entry) → Legal (with_entries j newer) → Legal (with_entries j newest) → Agree j (with_entries j newer) (with_entries j newest)
agree j newer newest l m =
    record {
      same_asked = λ k s. asked_same j newer k (asked j k) l refl s ∙ sym (asked_same j newest k (asked j k) m refl s);
      same_kind = λ h i. kind_stays j newer h l i ∙ sym (kind_stays j newest h m i);
      same_reply = λ k n. reply_stays j newer k l n ∙ sym (reply_stays j newest k m n);
    }

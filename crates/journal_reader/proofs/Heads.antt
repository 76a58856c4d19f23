-- Lines: their first words, and the line feed behind them.
use Rattle.std.proofs.Common.{◌≡◌, ℕ, List, [], ◌∷◌, ◌++◌, length, refl, sym, ap, subst, arith, append_assoc, codes, decimal}
use Rattle.base_words.specs.Reads.{HasNo}
use Rattle.base_words.proofs.Cuts.{same_cut, no_cut}
use Rattle.handle_model.specs.declared.entry.Home.{Home}
use Rattle.handle_model.specs.declared.entry.Entry.{Entry}
use Rattle.handle_model.specs.declared.base.BaseCall.{BaseCall}
use Rattle.handle_model.specs.declared.base.Base.{Base}
use Rattle.journal_text.specs.Texts.{line, group_text, entry_text, base_line, call_line, base_text, base_call_text}
use Rattle.journal_reader.specs.Fits.{FitsHome, FitsBase, FitsCall, FitsEntry}
use Rattle.journal_reader.specs.Parts.{Apart, home_parts, base_parts, called_parts, called_text, entry_parts, group_line, group_parts, headed_base, headed_call}
use Rattle.journal_reader.proofs.BaseWords.{home_joined, base_joined, call_joined, feed_home, feed_base, feed_called}
use Rattle.journal_reader.proofs.Feeds.{pair, row, HasNo-parts}
use Rattle.journal_reader.proofs.Marks.{no_name, no_decimal}
use Rattle.journal_reader.proofs.Words.{entry_joined}

-- FIRST WORDS

pub group_own : (h : Home) → FitsHome h → (length (group_parts h) ≡ 2) × Apart 32 (group_parts h)
group_own h f = (refl, (no_name 32 (codes "group") refl, tt))

pub base_head_own : (b : Base) → FitsBase b → (length (headed_base b) ≡ 2) × Apart 32 (headed_base b)
base_head_own b f = (refl, (no_name 32 (codes "base") refl, tt))

pub call_head_own : (c : BaseCall) → FitsCall c → (length (headed_call c) ≡ 2) × Apart 32 (headed_call c)
call_head_own c f = (refl, (no_name 32 (codes "base-call") refl, tt))

-- LINE FEEDS: none stands in a line

pub feed_group_line : (h : Home) → FitsHome h → HasNo 10 (group_line h)
feed_group_line h f =
    subst (λ t. HasNo 10 t) (home_joined h) (row (group_parts h) (no_name 10 (codes "group") refl, (row (home_parts h) (feed_home h f), tt)))

pub feed_base_line : (b : Base) → FitsBase b → HasNo 10 (base_line b)
feed_base_line b f =
    subst (λ t. HasNo 10 t) (base_joined b) (row (headed_base b) (no_name 10 (codes "base") refl, (row (base_parts b) (feed_base b f), tt)))

pub feed_call_line : (c : BaseCall) → FitsCall c → HasNo 10 (call_line c)
feed_call_line c f =
    let n = f.0 in
    let called = row (called_parts (c.asked, (c.taken, c.cancelled, c.orphaned))) (feed_called (c.asked, (c.taken, c.cancelled, c.orphaned)) f.1) in
    subst (λ t. HasNo 10 t) (call_joined c) (row (headed_call c) (no_name 10 (codes "base-call") refl, (pair (decimal c.call) (called_text (c.asked, (c.taken, c.cancelled, c.orphaned))) (no_decimal 10 c.call refl (omega arith)) called, tt)))

pub feed_line : (e : Entry) → FitsEntry e → HasNo 10 (line e)
feed_line e f = subst (λ t. HasNo 10 t) (entry_joined e) (row (entry_parts e) (HasNo-parts e f))

-- TEXTS

pub no_line_without_feed : {X : Type 0} (body : X → List ℕ) (x : X) (tail text : List ℕ) → HasNo 10 text → text ≡ body x ++ (10 ∷ tail) → ⊥
no_line_without_feed body x tail text none q = no_cut 10 (body x) tail text none q

pub text_of_cut : {X : Type 0} (body : X → List ℕ) (x : X) (part rest : List ℕ) → body x ≡ part → part ++ (10 ∷ rest) ≡ body x ++ (10 ∷ rest)
text_of_cut body x part rest q = ap (λ b. b ++ (10 ∷ rest)) (sym q)

pub body_of_cut : {X : Type 0} (body : X → List ℕ) (x : X) (tail part rest : List ℕ) → HasNo 10 (body x) → HasNo 10 part → body x ++ (10 ∷ tail) ≡ part ++ (10 ∷ rest) → body x ≡ part
body_of_cut body x tail part rest own none q = (same_cut 10 (body x) part tail rest own none q).0

-- a line with its line feed
pub group_fed : (h : Home) (rest : List ℕ) → group_text h ++ rest ≡ group_line h ++ (10 ∷ rest)
unfolding group_text
group_fed h rest = append_assoc (group_line h) (10 ∷ []) rest

pub base_fed : (b : Base) (rest : List ℕ) → base_text b ++ rest ≡ base_line b ++ (10 ∷ rest)
unfolding base_text
base_fed b rest = append_assoc (base_line b) (10 ∷ []) rest

pub call_fed : (c : BaseCall) (rest : List ℕ) → base_call_text c ++ rest ≡ call_line c ++ (10 ∷ rest)
unfolding base_call_text
call_fed c rest = append_assoc (call_line c) (10 ∷ []) rest

pub entry_fed : (e : Entry) (rest : List ℕ) → entry_text e ++ rest ≡ line e ++ (10 ∷ rest)
unfolding entry_text
entry_fed e rest = append_assoc (line e) (10 ∷ []) rest

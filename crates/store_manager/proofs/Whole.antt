-- What the desk keeps stays kept.
use Rattle.std.proofs.Common.{◌≡◌, ℕ, zero, suc, ◌+◌, ◌-◌, ◌<◌, ◌≤◌, Bool, true, false, List, [], ◌∷◌, ◌++◌, length, length-append, drop, min, Option, Some, None, refl, sym, ap, subst, ◌∙◌, arith, Vec, Global}
use Rattle.std.specs.Prelude.{slice_get, slice_set, bytes_eq, ◌&&◌, if◌then◌else◌}
use Rattle.std.specs.List.{list_all}
use Rattle.std.specs.BTreeMap.{BTreeMap}
use Rattle.std.proofs.lemmas.Slice.Eq.{bytes_eq-Decides}
use Rattle.std.proofs.lemmas.Bool.{le-leb, leb-true}
use Rattle.std.proofs.lemmas.List.{length-take, length-drop}
use Rattle.rpc_base.specs.Named.{at_name}
use Rattle.store_manager.specs.declared.file.File.{File}
use Rattle.store_manager.specs.Files.{Store, cookie_of, number_of, file_at, named_from, number_named, with_file, is_short, most_files, most_octets}
use Rattle.manager_api.specs.declared.answer.Kept.TheVariants.{Cookie}
use Rattle.manager_api.specs.Answers.{Ans, AOut, Step}
use Rattle.manager_api.specs.Responses.{handle_and_status}
use Rattle.store_manager.specs.Steps.{says, append_in, append_step, with_octets, piece_at}
use Rattle.store_manager.specs.Wholes.{IsWhole}
use Rattle.store_manager.proofs.Named.{named_new, named_other}

-- ---- a file that is there

pub record IsThere (files : List File) (number : ℕ) (f : File) : Type 0 where
  pub from_one : number ≡ suc (number - 1)
  pub within : number - 1 < length files
  pub there : slice_get files (number - 1) ≡ Some f
  pub short : length f.octets ≤ most_octets

within_list : (files : List File) (i : ℕ) (f : File) → slice_get files i ≡ Some f → i < length files
within_list [] i f e = absurd (cc)
within_list (g ∷ files) zero f e = omega arith
within_list (g ∷ files) (suc i) f e = let lt = within_list files i f e in omega arith

both : (a b : Bool) → (a && b) ≡ true → (a ≡ true) × (b ≡ true)
both true b e = (refl, e)
both false b e = absurd (cc)

short_in : (files : List File) (i : ℕ) (f : File) → list_all is_short files ≡ true → slice_get files i ≡ Some f → is_short f ≡ true
short_in [] i f all e = absurd (cc)
short_in (g ∷ files) zero f all e = let same : g ≡ f = cc in subst (λ (x : File). is_short x ≡ true) same (both (is_short g) (list_all is_short files) all).0
short_in (g ∷ files) (suc i) f all e = short_in files i f (both (is_short g) (list_all is_short files) all).1 e

pub is_there : (files : List File) (number : ℕ) (f : File) → list_all is_short files ≡ true → Some f ≡ file_at files number → IsThere files number f
is_there files zero f all e = absurd (cc)
is_there files (suc n) f all e =
    let same : suc n - 1 ≡ n = omega arith in
    let at : slice_get files (suc n - 1) ≡ Some f = ap (slice_get files) same ∙ sym e in
    record {
      from_one = ap suc (sym same);
      within = within_list files (suc n - 1) f at;
      there = at;
      short = leb-true _ _ (short_in files (suc n - 1) f all at);
    }

-- ---- one file more

short_more : (files : List File) (f : File) → list_all is_short files ≡ true → is_short f ≡ true → list_all is_short (files ++ f ∷ []) ≡ true
short_more [] f all e = rw e refl
short_more (g ∷ files) f all e =
    let h = both (is_short g) (list_all is_short files) all in
    rw h.0 (short_more files f h.1 e)

pub whole_more : (files : List File) (names now : BTreeMap (Vec ℕ Global) ℕ) (name : List ℕ) (f : File) → IsWhole files names → f ≡ record { name = name; octets = [] } → number_named name files ≡ None → length files < most_files
    → ((other : List ℕ) → at_name now other ≡ (if bytes_eq name other then Some (length files + 1) else at_name names other)) → IsWhole (files ++ f ∷ []) now
whole_more files names now name f whole is none few put = record {
  named = λ other. put other ∙ step other (bytes_eq name other) refl;
  few = omega (arith, length-append files (f ∷ []));
  short = short_more files f whole.short (ap is_short is);
}
  where
    named_is : (other : List ℕ) → bytes_eq f.name other ≡ bytes_eq name other
    named_is other = ap (λ (x : File). bytes_eq x.name other) is

    step : (other : List ℕ) (b : Bool) → bytes_eq name other ≡ b → (if b then Some (length files + 1) else at_name names other) ≡ number_named other (files ++ f ∷ [])
    step other true e =
        let same : name ≡ other = (bytes_eq-Decides name other).0 e in
        let gone : number_named other files ≡ None = subst (λ (x : List ℕ). number_named x files ≡ None) same none in
        let z : length files + 1 ≡ 1 + length files = omega arith in
        sym (named_new 1 other f files (named_is other ∙ e) gone ∙ ap Some (sym z))
    step other false e = whole.named other ∙ sym (named_other 1 other f files (named_is other ∙ e))

-- ---- other octets in one file

named_same : (n : ℕ) (name : List ℕ) (files : List File) (i : ℕ) (f g : File) → slice_get files i ≡ Some f → g.name ≡ f.name → named_from n name (slice_set files i g) ≡ named_from n name files
named_same n name [] i f g e same = refl
named_same n name (h ∷ files) zero f g e same =
    let at : h ≡ f = cc in
    ap (λ (x : List ℕ). if bytes_eq x name then Some n else named_from (n + 1) name files) (same ∙ sym (ap (λ (x : File). x.name) at))
named_same n name (h ∷ files) (suc i) f g e same = ap (λ (o : Option ℕ). if bytes_eq h.name name then Some n else o) (named_same (n + 1) name files i f g e same)

short_set : (files : List File) (i : ℕ) (g : File) → list_all is_short files ≡ true → is_short g ≡ true → list_all is_short (slice_set files i g) ≡ true
short_set [] i g all e = refl
short_set (h ∷ files) zero g all e = rw e (both (is_short h) (list_all is_short files) all).1
short_set (h ∷ files) (suc i) g all e =
    let b = both (is_short h) (list_all is_short files) all in
    rw b.0 (short_set files i g b.1 e)

length_set : (files : List File) (i : ℕ) (g : File) → length (slice_set files i g) ≡ length files
length_set [] i g = refl
length_set (h ∷ files) zero g = refl
length_set (h ∷ files) (suc i) g = ap suc (length_set files i g)

pub whole_set : (files : List File) (names : BTreeMap (Vec ℕ Global) ℕ) (i : ℕ) (f g : File) → IsWhole files names → slice_get files i ≡ Some f → g.name ≡ f.name → length g.octets ≤ most_octets
    → IsWhole (slice_set files i g) names
whole_set files names i f g whole e same short = record {
  named = λ name. whole.named name ∙ sym (named_same 1 name files i f g e same);
  few = omega (arith, length_set files i g, whole.few);
  short = short_set files i g whole.short (le-leb _ _ short);
}

-- ---- what is appended and read

with_file_is : (files : List File) (number i : ℕ) (g : File) → number ≡ suc i → with_file files number g ≡ slice_set files i g
with_file_is files number i g e = ap (λ (n : ℕ). with_file files n g) e

append_is : (s : Store) (cookie : ℕ) (piece : List ℕ) (f : File) → Some f ≡ file_at s.files (number_of cookie) → length f.octets + length piece ≤ most_octets
    → append_step s (Some cookie) piece ≡ says (Cookie (cookie_of (number_of cookie) (length f.octets + length piece))) 0 (with_octets s (number_of cookie) f (f.octets ++ piece))
append_is s cookie piece f e le =
    ap (append_in s cookie piece) (sym e)
    ∙ ap (λ (b : Bool). if b then says (Cookie (cookie_of (number_of cookie) (length f.octets + length piece))) 0 (with_octets s (number_of cookie) f (f.octets ++ piece)) else says (Cookie cookie) 3 s) (le-leb _ _ le)

-- what is answered and what follows, by what was computed on the way
pub append_gives : (s : Store) (now : List File) (cookie number count more moved : ℕ) (f : File) (piece : List ℕ) (a : Ans) → Some f ≡ file_at s.files (number_of cookie) → IsThere s.files (number_of cookie) f
    → count ≡ length f.octets → more ≡ length piece → count + more ≤ most_octets → number ≡ number_of cookie → moved ≡ cookie_of number (count + more)
    → a ≡ AOut (handle_and_status 0) (Cookie moved ∷ []) → now ≡ slice_set s.files (number - 1) (record { name = f.name; octets = f.octets ++ piece })
    → (a ≡ (append_step s (Some cookie) piece).answer) × (record { files = now; handles = s.handles } ≡ (append_step s (Some cookie) piece).next)
append_gives s now cookie number count more moved f piece a e there count_is more_is le number_is moved_is a_is now_is =
    let long : count + more ≡ length f.octets + length piece = cc in
    let fits : length f.octets + length piece ≤ most_octets = omega (arith, long, le) in
    let is = append_is s cookie piece f e fits in
    let g : File = record { name = f.name; octets = f.octets ++ piece } in
    let to : moved ≡ cookie_of (number_of cookie) (length f.octets + length piece) = moved_is ∙ ap (λ (n : ℕ). cookie_of n (count + more)) number_is ∙ ap (cookie_of (number_of cookie)) long in
    let same : slice_set s.files (number - 1) g ≡ with_file s.files (number_of cookie) g =
    ap (λ (n : ℕ). slice_set s.files (n - 1) g) number_is ∙ sym (with_file_is s.files (number_of cookie) (number_of cookie - 1) g there.from_one) in (
      a_is ∙ ap (λ (c : ℕ). AOut (handle_and_status 0) (Cookie c ∷ [])) to ∙ sym (ap (λ (x : Step Store). x.answer) is),
      ap (λ (fs : List File). record { files = fs; handles = s.handles }) (now_is ∙ same) ∙ sym (ap (λ (x : Step Store). x.next) is),
    )

-- what is read lies within
pub piece_within : (octets : List ℕ) (position most : ℕ) → position ≤ length octets → position + length (piece_at octets position most) ≤ length octets
piece_within octets position most le = omega (arith, length-take most (drop (min position (length octets)) octets), length-drop (min position (length octets)) octets)

pub piece_few : (octets : List ℕ) (position most : ℕ) → length (piece_at octets position most) ≤ most
piece_few octets position most = omega (arith, length-take most (drop (min position (length octets)) octets))

-- Tokens put behind others.
use Rattle.std.proofs.Common.{◌≡◌, ℕ, List, [], ◌∷◌, ◌++◌, Option, Some, refl, sym, ap, ◌∙◌, append_assoc, append-nil}
use Rattle.idl_tokens.specs.declared.kinds.Kind.{Kind}
use Rattle.idl_print.specs.declared.page.Page.{Page}
use Rattle.idl_print.specs.declared.sorts.Sort.{Sort}
use Rattle.idl_print.specs.Layout.{sort_of, token_text, between, indent_behind, printed}
use Rattle.idl_print.specs.Pages.{Puts, last_behind, indent_behind_all}

last_join : (last : Option Sort) (ks js : List Kind) → last_behind last (ks ++ js) ≡ last_behind (last_behind last ks) js
last_join last [] js = refl
last_join last (k ∷ ks) js = last_join (Some (sort_of k)) ks js

indent_join : (indent : List ℕ) (ks js : List Kind) → indent_behind_all indent (ks ++ js) ≡ indent_behind_all (indent_behind_all indent ks) js
indent_join indent [] js = refl
indent_join indent (k ∷ ks) js = indent_join (indent_behind indent (sort_of k)) ks js

printed_join : (indent : List ℕ) (last : Option Sort) (ks js : List Kind) → printed indent last (ks ++ js) ≡ printed indent last ks ++ printed (indent_behind_all indent ks) (last_behind last ks) js
printed_join indent last [] js = refl
printed_join indent last (k ∷ ks) js =
    let gap : List ℕ = between indent last (sort_of k) in
    let own : List ℕ = token_text k in
    let first : List ℕ = printed (indent_behind indent (sort_of k)) (Some (sort_of k)) ks in
    let second : List ℕ = printed (indent_behind_all (indent_behind indent (sort_of k)) ks) (last_behind (Some (sort_of k)) ks) js in
    ap (λ x. gap ++ (own ++ x)) (printed_join (indent_behind indent (sort_of k)) (Some (sort_of k)) ks js)
    ∙ ap (λ x. gap ++ x) (sym (append_assoc own first second))
    ∙ sym (append_assoc gap (own ++ first) second)

pub puts_join : (ks js : List Kind) (a b c : Page) → Puts ks a b → Puts js b c → Puts (ks ++ js) a c
puts_join ks js a b c p q = record {
  text =
      q.text
      ∙ ap (λ x. x ++ printed b.indent b.last js) p.text
      ∙ append_assoc a.text (printed a.indent a.last ks) (printed b.indent b.last js)
      ∙ ap (λ x. a.text ++ (printed a.indent a.last ks ++ printed x b.last js)) p.indent
      ∙ ap (λ x. a.text ++ (printed a.indent a.last ks ++ printed (indent_behind_all a.indent ks) x js)) p.last
      ∙ ap (λ x. a.text ++ x) (sym (printed_join a.indent a.last ks js));
  last = q.last ∙ ap (λ x. last_behind x js) p.last ∙ sym (last_join a.last ks js);
  indent = q.indent ∙ ap (λ x. indent_behind_all x js) p.indent ∙ sym (indent_join a.indent ks js);
}

pub puts_none : (a : Page) → Puts [] a a
puts_none a = record { text = sym (append-nil a.text); last = refl; indent = refl }

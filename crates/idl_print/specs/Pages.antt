-- What tokens leave on a page.
use Rattle.std.specs.Prelude.{◌≡◌, ℕ, List, [], ◌∷◌, ◌++◌, Option, Some}
use Rattle.idl_tokens.specs.declared.kinds.Kind.{Kind}
use Rattle.idl_print.specs.declared.page.Page.{Page}
use Rattle.idl_print.specs.declared.sorts.Sort.{Sort}
use Rattle.idl_print.specs.Layout.{sort_of, between, indent_behind, printed}

abbrev pub last_behind : Option Sort → List Kind → Option Sort
last_behind last [] = last
last_behind last (kind ∷ more) = last_behind (Some (sort_of kind)) more

abbrev pub indent_behind_all : List ℕ → List Kind → List ℕ
indent_behind_all indent [] = indent
indent_behind_all indent (kind ∷ more) = indent_behind_all (indent_behind indent (sort_of kind)) more

-- Tokens of these kinds were put at the end of the old page.
pub record Puts (kinds : List Kind) (old new : Page) : Type 0 where
  pub text : new.text ≡ old.text ++ printed old.indent old.last kinds
  pub last : new.last ≡ last_behind old.last kinds
  pub indent : new.indent ≡ indent_behind_all old.indent kinds

-- A token of this sort and spelling was.
pub record PutsOne (sort : Sort) (spelling : List ℕ) (old new : Page) : Type 0 where
  pub text : new.text ≡ old.text ++ (between old.indent old.last sort ++ spelling)
  pub last : new.last ≡ Some sort
  pub indent : new.indent ≡ indent_behind old.indent sort

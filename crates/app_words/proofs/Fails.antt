-- Walks that hold an option which can't be used: they fail, whatever words follow.
use Rattle.std.proofs.Common.{◌≡◌, ◌∙◌, true, false, ℕ, List, [], ◌∷◌, refl, ap, sym, subst, Option, Some, None, codes, inl, inr}
use Rattle.std.specs.List.{AllByRecursion}
use Rattle.std.specs.Str.{IsUtf8}
use Rattle.clap.specs.Kinds.{Kinds, or_else}
use Rattle.clap.specs.Faults.{check_fault, defaults_fault, other_fault}
use Rattle.clap.specs.Walk.{Row, Text, Waiting, Walk, arg_by_index, finished, idle, settled}
use Rattle.clap.specs.declared.error.kind.ErrorKind.{ErrorKind}
use Rattle.clap.specs.declared.error.kind.ErrorKind.TheVariants.{UnknownArgument}
use Rattle.app_words.specs.Usage.{Command}
use Rattle.app_words.proofs.WordKinds.{IsShort, IsOperand, Kind, kind_of_word}
use Rattle.app_words.proofs.OptionKinds.{LongKind, long_kind}
use Rattle.app_words.proofs.Rules.{built, leaf, rules_of}
use Rattle.app_words.proofs.Steps.{IsStuck, behind_faults, behind_stray, dashes_turn, dashes_walk, operand_faults, other_refused, refused, short_refused, stray, stuck_at_bare, stuck_at_joined}
use Rattle.app_words.proofs.Walks.{Fails, at, ends_so, faults, faults_after, held, passed, stops, waits}

-- whether a rule takes the operand at a place
pub data Place (c : Command) (place : ℕ) : Type 0 where
  takes : (id : Text) → arg_by_index (rules_of c) place ≡ Some (built id None (Some place) true) → Place c place
  none : arg_by_index (rules_of c) place ≡ None → Place c place

module _ (c : Command) (rows : List Row) (pending : Option (Text × List Text)) (k : ErrorKind) (ks : Kinds) (e : IsStuck c rows pending k ks) where
  last : (w : Walk) → w.held ≡ held rows pending → Fails (faults (leaf c) w [])
  last w h = ends_so (leaf c) w k ks
      (ap (faults_after (leaf c)) h
      ∙ ap (λ x. or_else x (or_else (defaults_fault (settled (rules_of c) (held rows pending)).rows (rules_of c)) (check_fault (leaf c) (finished (rules_of c) (held rows pending)) false))) e)

  pub last_fails : (waiting : Waiting) (place : ℕ) → Fails (faults (leaf c) (waits (held rows pending) waiting place false) [])
  last_fails waiting place = last (waits (held rows pending) waiting place false) refl

  -- after `--`
  pub fails_behind : (waiting : Waiting) (place : ℕ) (words : List Text) → Place c place → Fails (faults (leaf c) (waits (held rows pending) waiting place true) words)
  fails_behind waiting place [] p = last (waits (held rows pending) waiting place true) refl
  fails_behind waiting place (x ∷ xs) (takes id hit) =
      stops (leaf c) (waits (held rows pending) waiting place true) x xs k ks (behind_faults c rows pending waiting place id x hit ∙ e)
  fails_behind waiting place (x ∷ xs) (none miss) =
      stops (leaf c) (waits (held rows pending) waiting place true) x xs UnknownArgument [] (behind_stray c (held rows pending) waiting place x miss)

  pub dashes_fails : (waiting : Waiting) (place : ℕ) (rest : List Text) → Place c place → Fails (faults (leaf c) (waits (held rows pending) waiting place false) (codes "--" ∷ rest))
  dashes_fails waiting place rest p =
      passed (leaf c) (waits (held rows pending) waiting place false) (waits (held rows pending) waiting place true) (codes "--") rest
      (dashes_turn c (held rows pending) waiting place) (dashes_walk c (held rows pending) waiting place) (fails_behind waiting place rest p)

  -- in front of it
  at_word : (waiting : Waiting) (place : ℕ) (word : Text) (rest : List Text) (f : ErrorKind) (fs : Kinds) → other_fault (leaf c) None word (held rows pending) ≡ f ∷ fs
      → Fails (faults (leaf c) (waits (held rows pending) waiting place false) (word ∷ rest))
  at_word waiting place word rest f fs r = stops (leaf c) (waits (held rows pending) waiting place false) word rest f fs (refused c (held rows pending) waiting place word f fs r)

  pub long_fails : (waiting : Waiting) (place : ℕ) (word : Text) (rest : List Text) → LongKind c.options word → Fails (faults (leaf c) (waits (held rows pending) waiting place false) (word ∷ rest))
  long_fails waiting place word rest (inl b) = at_word waiting place word rest k ks (stuck_at_bare c rows pending word k ks e b)
  long_fails waiting place word rest (inr (inl j)) = at_word waiting place word rest k ks (stuck_at_joined c rows pending word k ks e j)
  long_fails waiting place word rest (inr (inr o)) = at_word waiting place word rest UnknownArgument [] (other_refused c (held rows pending) word o)

  pub short_fails : (waiting : Waiting) (place : ℕ) (word : Text) (rest : List Text) → IsShort word → Fails (faults (leaf c) (waits (held rows pending) waiting place false) (word ∷ rest))
  short_fails waiting place word rest s = at_word waiting place word rest UnknownArgument [] (short_refused c rows pending word s)

  operand_fails : (place : ℕ) (word : Text) (rest : List Text) → IsOperand word → Place c place → Fails (faults (leaf c) (at (held rows pending) place false) (word ∷ rest))
  operand_fails place word rest o (takes id hit) = stops (leaf c) (at (held rows pending) place false) word rest k ks (operand_faults c rows pending place id false word o hit ∙ e)
  operand_fails place word rest o (none miss) = stops (leaf c) (at (held rows pending) place false) word rest UnknownArgument [] (stray c (held rows pending) place false word o miss)

  by_kind : (place : ℕ) (word : Text) (rest : List Text) → Kind word → Place c place → Fails (faults (leaf c) (at (held rows pending) place false) (word ∷ rest))
  by_kind place word rest (inl d) p = subst (λ x. Fails (faults (leaf c) (at (held rows pending) place false) (x ∷ rest))) (sym d) (dashes_fails idle place rest p)
  by_kind place word rest (inr (inl l)) p = long_fails idle place word rest (long_kind c.options word l)
  by_kind place word rest (inr (inr (inl s))) p = short_fails idle place word rest s
  by_kind place word rest (inr (inr (inr o))) p = operand_fails place word rest o p

  pub fails : (place : ℕ) (words : List Text) → AllByRecursion IsUtf8 words → Place c place → Fails (faults (leaf c) (at (held rows pending) place false) words)
  fails place [] u p = last (at (held rows pending) place false) refl
  fails place (word ∷ rest) u p = by_kind place word rest (kind_of_word word u.0) p

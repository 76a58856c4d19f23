-- What holds of the accepted contexts.
use Rattle.std.specs.Prelude.{◌≡◌, ℕ, ◌≤◌, true, Some, List, ◌++◌, length, Contains}
use Rattle.rpc_base.specs.declared.identifiers.SyntaxId.{SyntaxId}
use Rattle.pdu_codec.specs.declared.pdu.Element.{Element}
use Rattle.presentation.specs.Serving.{serving, has_ndr}
use Rattle.presentation.specs.Offers.{most_contexts, contexts, contexts_after, interface_of}

-- An element asks for a context for an interface, and offers NDR.
pub record AsksForContext (ids : List SyntaxId) (context k : ℕ) (e : Element) : Type 0 where
  pub context_is : e.context ≡ context
  pub interface_is : serving ids e.syntax ≡ Some k
  pub ndr : has_ndr e.transfers ≡ true

-- a context that is accepted for an interface was asked for so
abbrev pub ServesWhatItAccepts : Type 0
ServesWhatItAccepts =
    (ids : List SyntaxId) (elements : List Element) (context k : ℕ) → interface_of (contexts ids elements) context ≡ Some k
    → (e : Element) × Contains elements e × AsksForContext ids context k e

-- no more are accepted than a connection may have
abbrev pub AcceptsWithinLimit : Type 0
AcceptsWithinLimit = (ids : List SyntaxId) (elements : List Element) → length (contexts ids elements) ≤ most_contexts

-- what is accepted stays so, for the same interface, whatever is offered later
abbrev pub KeepsWhatItAccepts : Type 0
KeepsWhatItAccepts =
    (ids : List SyntaxId) (before later : List Element) (context k : ℕ) → interface_of (contexts ids before) context ≡ Some k
    → interface_of (contexts ids (before ++ later)) context ≡ Some k

-- offers that come later go on from those before
abbrev pub OneAfterTheOther : Type 0
OneAfterTheOther =
    (ids : List SyntaxId) (before later : List Element) → contexts ids (before ++ later) ≡ contexts_after ids (contexts ids before) later

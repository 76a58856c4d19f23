-- The presentation contexts that are accepted after the elements offered so far, and what each is answered (C706,
-- "Connection-oriented RPC PDUs", presentation contexts).
use Rattle.std.specs.Prelude.{ℕ, ◌==◌, nat_lt, Bool, Option, Some, None, if◌then◌else◌, List, [], ◌∷◌, ◌++◌, length, is_some}
use Rattle.std.specs.List.{find}
use Rattle.std.specs.Option.{option_map}
use Rattle.rpc_base.specs.declared.identifiers.SyntaxId.{SyntaxId}
use Rattle.pdu_codec.specs.declared.pdu.Element.{Element}
use Rattle.pdu_codec.specs.declared.pdu.ContextResult.{ContextResult}
use Rattle.presentation.specs.declared.verdict.Accepted.{Accepted}
use Rattle.presentation.specs.declared.verdict.Verdict.{Verdict}
use Rattle.presentation.specs.declared.verdict.Verdict.TheVariants.{Accept, Reject}
use Rattle.presentation.specs.declared.verdict.Reason.{Reason}
use Rattle.presentation.specs.declared.verdict.Reason.TheVariants.{NotSpecified, AbstractSyntax, TransferSyntaxes, LocalLimit}
use Rattle.presentation.specs.Serving.{ndr, no_syntax, serving, has_ndr}

-- the interfaces that are served, and the contexts that are accepted, the first one first
pub record ServedSyntaxes : Type 0 where
  pub ids : List SyntaxId
  pub accepted : List Accepted

abbrev pub is_of : ℕ → Accepted → Bool
is_of context a = a.context == context

-- the interface for which a context is accepted
abbrev pub interface_of : List Accepted → ℕ → Option ℕ
interface_of accepted context = option_map (λ a. a.interface) (find (is_of context) accepted)

-- how many contexts a connection may have
abbrev pub most_contexts : ℕ
most_contexts = 32

-- results of an element on the wire
abbrev pub acceptance : ℕ
acceptance = 0

abbrev pub provider_rejection : ℕ
provider_rejection = 2

-- WHAT AN ELEMENT IS ANSWERED

-- a context for an interface, where its id is accepted for one already, or is new
abbrev pub verdict_for : List Accepted → ℕ → Option ℕ → Verdict
verdict_for accepted k (Some j) = if j == k then Accept k else Reject NotSpecified
verdict_for accepted k None = if nat_lt (length accepted) most_contexts then Accept k else Reject LocalLimit

-- an element whose abstract syntax is served by an interface, or by none
abbrev pub judged : List Accepted → Element → Option ℕ → Verdict
judged accepted e None = Reject AbstractSyntax
judged accepted e (Some k) =
    if has_ndr e.transfers then verdict_for accepted k (interface_of accepted e.context) else Reject TransferSyntaxes

unfoldable pub verdict : List SyntaxId → List Accepted → Element → Verdict
verdict ids accepted e = judged accepted e (serving ids e.syntax)

abbrev pub number_of : Reason → ℕ
number_of NotSpecified = 0
number_of AbstractSyntax = 1
number_of TransferSyntaxes = 2
number_of LocalLimit = 3

-- on the wire: an acceptance with NDR, or a rejection with its reason
abbrev pub result_of : Verdict → ContextResult
result_of (Accept k) = record { result = acceptance; reason = number_of NotSpecified; transfer = ndr }
result_of (Reject reason) = record { result = provider_rejection; reason = number_of reason; transfer = no_syntax }

-- WHAT IS ACCEPTED THEN

-- a context that was accepted before counts once
abbrev pub with_context : List Accepted → ℕ → Verdict → List Accepted
with_context accepted context (Accept k) =
    if is_some (interface_of accepted context) then accepted else accepted ++ record { context = context; interface = k } ∷ []
with_context accepted context (Reject reason) = accepted

abbrev pub after : List SyntaxId → List Accepted → Element → List Accepted
after ids accepted e = with_context accepted e.context (verdict ids accepted e)

-- the elements one after the other
unfoldable pub contexts_after : List SyntaxId → List Accepted → List Element → List Accepted
contexts_after ids accepted [] = accepted
contexts_after ids accepted (e ∷ more) = contexts_after ids (after ids accepted e) more

unfoldable pub results_after : List SyntaxId → List Accepted → List Element → List ContextResult
results_after ids accepted [] = []
results_after ids accepted (e ∷ more) = result_of (verdict ids accepted e) ∷ results_after ids (after ids accepted e) more

-- the contexts accepted by a server of these interfaces, once these elements were offered
abbrev pub contexts : List SyntaxId → List Element → List Accepted
contexts ids elements = contexts_after ids [] elements

-- The store's answers are responses.
use Rattle.std.proofs.Common.{◌≡◌, ℕ, ◌+◌, ◌^◌, ◌<◌, ◌≤◌, Bool, true, false, Option, Some, None, List, [], ◌∷◌, length, refl, arith, Result, Ok, Err}
use Rattle.std.specs.Prelude.{slice_get, nat_lt, nat_le, IfOk, if◌then◌else◌}
use Rattle.rpc_base.specs.Fields.{IsOctets}
use Rattle.rpc_base.specs.declared.fault.NoMemory.{NoMemory}
use Rattle.ndr_value.specs.Values.{Msg}
use Rattle.ndr_table.specs.Tables.{OpForm}
use Rattle.ndr_model.specs.declared.way.Way.TheVariants.{Response}
use Rattle.ndr_model.specs.Stub.{entries}
use Rattle.ndr_model.specs.Fits.{IsOfOp}
use Rattle.manager_api.specs.declared.answer.Answer.{Answer}
use Rattle.manager_api.specs.declared.answer.Kept.{Kept}
use Rattle.manager_api.specs.declared.answer.Kept.TheVariants.{Stays, Cookie, Null}
use Rattle.manager_api.specs.Answers.{Ans, AOut, Step, Gives, ans, settled}
use Rattle.manager_api.specs.Arguments.{uint_at}
use Rattle.manager_api.specs.Responses.{handle_and_status}
use Rattle.manager_api.specs.Messages.{IsRequest}
use Rattle.manager_api.specs.Calls.{Owes, has_kepts, uses_at}
use Rattle.desk_kit.specs.Laws.{handle_then_status}
use Rattle.desk_kit.proofs.Suits.{handle_and_status_is, number_and_status_is, octets_read_is}
use Rattle.desk_kit.proofs.Owed.{for_op, does_owe, gives_does}
use Rattle.store_manager.specs.declared.file.File.{File}
use Rattle.store_manager.specs.Table.{store_table, open_form, append_form, read_form, close_form, view_form, size_form, unview_form}
use Rattle.store_manager.specs.Files.{Store, cookie_of, number_of, number_named, is_name, most_files, most_octets}
use Rattle.store_manager.specs.Steps.{says, read_response, size_response, open_named, open_step, append_in, append_step, close_step, status_at, file_of, view_in, view_step}
use Rattle.store_manager.proofs.Asked.{request_says, counted}

-- ---- responses of a handle and a status

handled : (op kind : ℕ) (o : OpForm) (asked : Msg) (kepts : List Kept) (status : ℕ) → slice_get store_table.ops op ≡ Some o → entries Response o ≡ handle_then_status kind → status < 2 ^ 32
    → has_kepts (uses_at store_table op) kepts ≡ true → Owes store_table op asked (AOut (handle_and_status status) kepts)
handled op kind o asked kepts status e es lt kept = (for_op store_table op (λ o. IsOfOp [] o Response (Some asked) (handle_and_status status)) o e (handle_and_status_is [] o (Some asked) kind status es lt), kept)

owes_if : (op : ℕ) (asked : Msg) (b : Bool) (x y : Step Store) → Owes store_table op asked x.answer → Owes store_table op asked y.answer → Owes store_table op asked (if b then x else y).answer
owes_if op asked true x y p q = p
owes_if op asked false x y p q = q

-- ---- open

named_owes : (asked : Msg) (s : Store) (name : List ℕ) (o : Option ℕ) → Owes store_table 0 asked (open_named s name o).answer
named_owes asked s name (Some number) = handled 0 0 open_form asked (Cookie (cookie_of number 0) ∷ []) 0 refl refl (omega arith) refl
named_owes asked s name None = owes_if 0 asked (nat_lt (length s.files) most_files) _ _ (handled 0 0 open_form asked (Cookie (cookie_of (length s.files + 1) 0) ∷ []) 0 refl refl (omega arith) refl) (handled 0 0 open_form asked (Null ∷ []) 2 refl refl (omega arith) refl)

pub open_owes : (asked : Msg) (s : Store) (name : List ℕ) → Owes store_table 0 asked (open_step s name).answer
open_owes asked s name = owes_if 0 asked (is_name name) (open_named s name (number_named name s.files)) (says Null 1 s) (named_owes asked s name (number_named name s.files)) (handled 0 0 open_form asked (Null ∷ []) 1 refl refl (omega arith) refl)

-- ---- append

append_in_owes : (asked : Msg) (s : Store) (cookie : ℕ) (piece : List ℕ) (o : Option File) → Owes store_table 1 asked (append_in s cookie piece o).answer
append_in_owes asked s cookie piece None = handled 1 0 append_form asked (Cookie cookie ∷ []) 4 refl refl (omega arith) refl
append_in_owes asked s cookie piece (Some f) =
    owes_if 1 asked (nat_le (length f.octets + length piece) most_octets) _ _ (handled 1 0 append_form asked (Cookie (cookie_of (number_of cookie) (length f.octets + length piece)) ∷ []) 0 refl refl (omega arith) refl) (handled 1 0 append_form asked (Cookie cookie ∷ []) 3 refl refl (omega arith) refl)

pub append_owes : (asked : Msg) (s : Store) (cookie : Option ℕ) (piece : List ℕ) → Owes store_table 1 asked (append_step s cookie piece).answer
append_owes asked s None piece = handled 1 0 append_form asked (Null ∷ []) 4 refl refl (omega arith) refl
append_owes asked s (Some cookie) piece = append_in_owes asked s cookie piece (file_of s cookie)

-- ---- close and unview

status_small : (o : Option File) → status_at o < 2 ^ 32
status_small None = omega arith
status_small (Some f) = omega arith

pub close_owes : (asked : Msg) (s : Store) (cookie : Option ℕ) → Owes store_table 3 asked (close_step s cookie).answer
close_owes asked s None = handled 3 0 close_form asked (Null ∷ []) 4 refl refl (omega arith) refl
close_owes asked s (Some cookie) = handled 3 0 close_form asked (Null ∷ []) (status_at (file_of s cookie)) refl refl (status_small (file_of s cookie)) refl

pub unview_owes : (asked : Msg) (s : Store) (cookie : Option ℕ) → Owes store_table 6 asked (close_step s cookie).answer
unview_owes asked s None = handled 6 1 unview_form asked (Null ∷ []) 4 refl refl (omega arith) refl
unview_owes asked s (Some cookie) = handled 6 1 unview_form asked (Null ∷ []) (status_at (file_of s cookie)) refl refl (status_small (file_of s cookie)) refl

-- ---- view, size, read

view_in_owes : (asked : Msg) (s : Store) (cookie : ℕ) (o : Option File) → Owes store_table 4 asked (view_in s cookie o).answer
view_in_owes asked s cookie None = handled 4 1 view_form asked (Stays ∷ Null ∷ []) 4 refl refl (omega arith) refl
view_in_owes asked s cookie (Some f) = handled 4 1 view_form asked (Stays ∷ Cookie (cookie_of (number_of cookie) 0) ∷ []) 0 refl refl (omega arith) refl

pub view_owes : (asked : Msg) (s : Store) (cookie : Option ℕ) → Owes store_table 4 asked (view_step s cookie).answer
view_owes asked s None = handled 4 1 view_form asked (Stays ∷ Null ∷ []) 4 refl refl (omega arith) refl
view_owes asked s (Some cookie) = view_in_owes asked s cookie (file_of s cookie)

pub size_owes : (asked : Msg) (size status : ℕ) → size < 2 ^ 64 → status < 2 ^ 32 → Owes store_table 5 asked (AOut (size_response size status) (Stays ∷ []))
size_owes asked size status wide lt =
    (for_op store_table 5 (λ o. IsOfOp [] o Response (Some asked) (size_response size status)) size_form refl (number_and_status_is [] size_form (Some asked) size status refl wide lt), refl)

pub read_owes : (asked : Msg) (kept : Kept) (piece : List ℕ) (status : ℕ) → IsRequest store_table 2 asked → IsOctets piece → length piece ≤ uint_at asked 1 → status < 2 ^ 32 → has_kepts (uses_at store_table 2) (kept ∷ []) ≡ true
    → Owes store_table 2 asked (AOut (read_response piece status) (kept ∷ []))
read_owes asked kept piece status request octets few lt ok =
    let s = request_says asked request in (
      for_op store_table 2 (λ o. IsOfOp [] o Response (Some asked) (read_response piece status)) read_form refl
          (octets_read_is [] read_form (Some asked) 0 (uint_at asked 1) status piece refl (counted asked piece status s) octets few s.small lt),
      ok,
    )

-- ---- an answer in parts

pub settled_owes : (op : ℕ) (asked : Msg) (r : Result Answer NoMemory) → IfOk r (λ a. Owes store_table op asked (ans a)) → Owes store_table op asked (settled r)
settled_owes op asked (Ok a) h = h
settled_owes op asked (Err e) h = tt

-- the same of an answer that is a response to every request
pub always_owes : (op : ℕ) (asked : Msg) (r : Result Answer NoMemory) → IfOk r (λ a. (any : Msg) → Owes store_table op any (ans a)) → Owes store_table op asked (settled r)
always_owes op asked (Ok a) h = h asked
always_owes op asked (Err e) h = tt

pub gives_owes : (op : ℕ) (asked : Msg) (step : Step Store) (before after : Store) (r : Result Answer NoMemory) (a : Ans) → Gives r step before after → a ≡ settled r → Owes store_table op asked step.answer → Owes store_table op asked a
gives_owes op asked step before after r a gives is owes = does_owe store_table op asked step before a after (gives_does r step before after a gives is) owes

-- What the store's operations do.
use Rattle.std.specs.Prelude.{ℕ, ◌+◌, nat_le, nat_lt, min, ◌==◌, List, [], ◌∷◌, ◌++◌, length, take, drop, Option, Some, None, if◌then◌else◌}
use Rattle.ndr_value.specs.Values.{VUint, VHandle, VArray, no_val, then_val, bytes, Msg}
use Rattle.manager_api.specs.declared.answer.Kept.{Kept}
use Rattle.manager_api.specs.declared.answer.Kept.TheVariants.{Stays, Cookie, Null}
use Rattle.manager_api.specs.Answers.{Step, AOut}
use Rattle.manager_api.specs.Arguments.{uint_at, text_at, bytes_at, cookie_at}
use Rattle.manager_api.specs.Calls.{Call}
use Rattle.manager_api.specs.Handles.{one_more, one_less}
use Rattle.manager_api.specs.Responses.{response, handle_and_status}
use Rattle.store_manager.specs.declared.file.File.{File}
use Rattle.store_manager.specs.Files.{Store, cookie_of, number_of, position_of, file_at, number_named, with_file, is_name, most_files, most_octets}

-- the file that a cookie names
abbrev pub file_of : Store → ℕ → Option File
file_of s cookie = file_at s.files (number_of cookie)

abbrev pub with_handle : Store → Store
with_handle s = record { files = s.files; handles = one_more s.handles }

abbrev pub without_handle : Store → Store
without_handle s = record { files = s.files; handles = one_less s.handles }

-- an answer of one handle that goes out, and a status
abbrev pub says : Kept → ℕ → Store → Step Store
says kept status next = record { answer = AOut (handle_and_status status) (kept ∷ []); next = next }

-- ---- open: a cursor at position 0

abbrev pub with_new : Store → List ℕ → Store
with_new s name = record { files = s.files ++ record { name = name; octets = [] } ∷ []; handles = one_more s.handles }

abbrev pub open_named : Store → List ℕ → Option ℕ → Step Store
open_named s name (Some number) = says (Cookie (cookie_of number 0)) 0 (with_handle s)
open_named s name None = if nat_lt (length s.files) most_files then says (Cookie (cookie_of (length s.files + 1) 0)) 0 (with_new s name) else says Null 2 s

abbrev pub open_step : Store → List ℕ → Step Store
open_step s name = if is_name name then open_named s name (number_named name s.files) else says Null 1 s

-- ---- append: at the end, and the position is then the file's length

abbrev pub with_octets : Store → ℕ → File → List ℕ → Store
with_octets s number f octets = record { files = with_file s.files number (record { name = f.name; octets = octets }); handles = s.handles }

abbrev pub append_in : Store → ℕ → List ℕ → Option File → Step Store
append_in s cookie piece None = says (Cookie cookie) 4 s
append_in s cookie piece (Some f) =
    if nat_le (length f.octets + length piece) most_octets
    then says (Cookie (cookie_of (number_of cookie) (length f.octets + length piece))) 0 (with_octets s (number_of cookie) f (f.octets ++ piece))
    else says (Cookie cookie) 3 s

-- a handle that came as null stays null
abbrev pub append_step : Store → Option ℕ → List ℕ → Step Store
append_step s None piece = says Null 4 s
append_step s (Some cookie) piece = append_in s cookie piece (file_of s cookie)

-- ---- read: from the position on, which moves by what was read; a position above the length counts as the length

abbrev pub read_response : List ℕ → ℕ → Msg
read_response piece status = response (then_val (VHandle 0) (then_val (VUint (length piece)) (then_val (VArray (bytes piece)) (then_val (VUint status) no_val)))) 1

abbrev pub reads : Kept → List ℕ → ℕ → Store → Step Store
reads kept piece status next = record { answer = AOut (read_response piece status) (kept ∷ []); next = next }

abbrev pub within : List ℕ → ℕ → ℕ
within octets position = min position (length octets)

abbrev pub piece_at : List ℕ → ℕ → ℕ → List ℕ
piece_at octets position most = take most (drop (within octets position) octets)

abbrev pub read_in : Store → ℕ → ℕ → Option File → Step Store
read_in s cookie most None = reads (Cookie cookie) [] 4 s
read_in s cookie most (Some f) =
    let piece = piece_at f.octets (position_of cookie) most in
    reads (Cookie (cookie_of (number_of cookie) (within f.octets (position_of cookie) + length piece))) piece 0 s

abbrev pub read_step : Store → Option ℕ → ℕ → Step Store
read_step s None most = reads Null [] 4 s
read_step s (Some cookie) most = read_in s cookie most (file_of s cookie)

-- ---- close and unview: the handle is null then, whatever it named

abbrev pub status_at : Option File → ℕ
status_at None = 4
status_at (Some f) = 0

abbrev pub close_step : Store → Option ℕ → Step Store
close_step s None = says Null 4 s
close_step s (Some cookie) = says Null (status_at (file_of s cookie)) (without_handle s)

-- ---- view: a handle of the cursor's file

abbrev pub views : Kept → ℕ → Store → Step Store
views kept status next = record { answer = AOut (handle_and_status status) (Stays ∷ kept ∷ []); next = next }

abbrev pub view_in : Store → ℕ → Option File → Step Store
view_in s cookie None = views Null 4 s
view_in s cookie (Some f) = views (Cookie (cookie_of (number_of cookie) 0)) 0 (with_handle s)

abbrev pub view_step : Store → Option ℕ → Step Store
view_step s None = views Null 4 s
view_step s (Some cookie) = view_in s cookie (file_of s cookie)

-- ---- size: the file's present length

abbrev pub size_response : ℕ → ℕ → Msg
size_response size status = response (then_val (VUint size) (then_val (VUint status) no_val)) 0

abbrev pub sizes : ℕ → ℕ → Store → Step Store
sizes size status next = record { answer = AOut (size_response size status) (Stays ∷ []); next = next }

abbrev pub size_in : Store → Option File → Step Store
size_in s None = sizes 0 4 s
size_in s (Some f) = sizes (length f.octets) 0 s

abbrev pub size_step : Store → Option ℕ → Step Store
size_step s None = sizes 0 4 s
size_step s (Some cookie) = size_in s (file_of s cookie)

-- ---- a call

abbrev pub store_step : Store → Call → Step Store
store_step s c =
    if c.op == 0 then open_step s (text_at c.message 0)
    else (if c.op == 1 then append_step s (cookie_at c.cookies 0) (bytes_at c.message 2)
    else (if c.op == 2 then read_step s (cookie_at c.cookies 0) (uint_at c.message 1)
    else (if c.op == 4 then view_step s (cookie_at c.cookies 0)
    else (if c.op == 5 then size_step s (cookie_at c.cookies 0)
    else close_step s (cookie_at c.cookies 0)))))

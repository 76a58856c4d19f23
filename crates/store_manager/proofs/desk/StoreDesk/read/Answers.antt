use Rattle.std.proofs.Common.{◌≡◌, ℕ, ◌≤◌, List, [], length, Some, refl, sym, ap, subst, ◌∙◌, arith}
use Rattle.ndr_value.specs.Values.{msg}
use Rattle.manager_api.specs.declared.answer.Kept.TheVariants.{Cookie, Null}
use Rattle.manager_api.specs.Arguments.{uint_at}
use Rattle.manager_api.specs.Calls.{Owes}
use Rattle.store_manager.specs.Table.{store_table}
use Rattle.store_manager.specs.declared.file.File.{File}
use Rattle.store_manager.specs.Files.{file_at, number_of}
use Rattle.store_manager.specs.Steps.{piece_at}
use Rattle.store_manager.proofs.Whole.{IsThere, is_there, piece_within, piece_few}
use Rattle.store_manager.proofs.Owed.{read_owes}
use Rattle.store_manager.proofs.desk.StoreDesk.read.Goals as goal

pub overflow_cast-position : goal.overflow_cast-position
overflow_cast-position c =
    let files = c.self.inside.files.items in
    let f : File = c.in-Some-file_of.file.now in
    let n : ℕ = number_of c.in-Some.cookie in
    let e : Some f ≡ file_at files n = c.in-Some-file_of.ensures ∙ ap (λ (fs : List File). file_at fs n) c.deref.ensures.value in
    let there : IsThere files n f = is_there files n f c.self.invariant.short e in
    let octets = c.as_slice-octets.result.now in
    let le : c.min-position.result ≤ length octets = omega (arith, c.min-position.ensures) in
    let piece : length c.piece-piece.result.now ≡ length (piece_at octets c.min-position.result c.uint_at.result) = ap length c.piece-piece.ensures in
    omega (arith, there.short, ap length c.as_slice-octets.ensures, piece, piece_within octets c.min-position.result c.uint_at.result le)

pub returns-in_default-clause-owes : goal.returns-in_default-clause-owes
returns-in_default-clause-owes c =
    let asked = msg c.args.message.now in
    subst (Owes store_table 2 asked) (sym c.in_ok-null.ensures.answer) (read_owes asked Null [] 4 c.requires.request c.in_ok-null.ensures.octets (omega arith) (omega arith) refl)

pub returns-in_default-file_of-clause-owes : goal.returns-in_default-file_of-clause-owes
returns-in_default-file_of-clause-owes c =
    let asked = msg c.args.message.now in
    subst (Owes store_table 2 asked) (sym c.in_ok-absent.ensures.answer) (read_owes asked (Cookie c.in-Some.cookie) [] 4 c.requires.request c.in_ok-absent.ensures.octets (omega arith) (omega arith) refl)

pub returns-clause-owes : goal.returns-clause-owes
returns-clause-owes c =
    let asked = msg c.args.message.now in
    let piece = c.piece-piece.result.now in
    let few : length piece ≤ uint_at asked 1 =
    subst (λ (n : ℕ). length piece ≤ n) c.uint_at.ensures (subst (λ (xs : List ℕ). length xs ≤ c.uint_at.result) (sym c.piece-piece.ensures) (piece_few c.as_slice-octets.result.now c.min-position.result c.uint_at.result)) in
    subst (Owes store_table 2 asked) (sym c.in_ok-answer.ensures.answer) (read_owes asked (Cookie c.cookie_of-moved.result) piece 0 c.requires.request c.in_ok-answer.ensures.octets few (omega arith) refl)

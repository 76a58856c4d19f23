use Rattle.std.proofs.Common.{◌≡◌, ℕ, ◌+◌, ◌-◌, ◌<◌, ◌≤◌, List, ◌++◌, length, length-append, Some, refl, sym, ap, subst, ◌∙◌, arith}
use Rattle.std.specs.Prelude.{slice_get, Option}
use Rattle.ndr_value.specs.Values.{msg}
use Rattle.manager_api.specs.Answers.{ans}
use Rattle.manager_api.specs.Arguments.{bytes_at}
use Rattle.store_manager.specs.declared.file.File.{File}
use Rattle.store_manager.specs.Files.{Store, file_at, number_of, most_octets}
use Rattle.store_manager.specs.Steps.{append_step}
use Rattle.store_manager.specs.Wholes.{IsWhole}
use Rattle.store_manager.proofs.Whole.{IsThere, is_there, whole_set, append_gives}
use Rattle.store_manager.proofs.desk.StoreDesk.append.Goals as goal

pub overflow_sub-count : goal.overflow_sub-count
overflow_sub-count c =
    let files = c.self.inside.files.items in
    let f : File = c.in-Some-file_of.file.now in
    let n : ℕ = number_of c.in-Some.cookie in
    let e : Some f ≡ file_at files n = c.in-Some-file_of.ensures ∙ ap (λ (fs : List File). file_at fs n) c.deref.ensures.value in
    let there : IsThere files n f = is_there files n f c.self.invariant.short e in
    omega (arith, there.short, c.len-count.ensures)

pub overflow_cast-count : goal.overflow_cast-count
overflow_cast-count c =
    let files = c.self.inside.files.items in
    let f : File = c.in-Some-file_of.file.now in
    let n : ℕ = number_of c.in-Some.cookie in
    let e : Some f ≡ file_at files n = c.in-Some-file_of.ensures ∙ ap (λ (fs : List File). file_at fs n) c.deref.ensures.value in
    let there : IsThere files n f = is_there files n f c.self.invariant.short e in
    omega (arith, there.short, c.len-count.ensures, c.if-more-count.false)

pub append_at-requires : goal.append_at-requires
append_at-requires c =
    let files = c.self.inside.files.items in
    let f : File = c.in-Some-file_of.file.now in
    let n : ℕ = number_of c.in-Some.cookie in
    let e : Some f ≡ file_at files n = c.in-Some-file_of.ensures ∙ ap (λ (fs : List File). file_at fs n) c.deref.ensures.value in
    let there : IsThere files n f = is_there files n f c.self.invariant.short e in
    subst (λ (k : ℕ). k - 1 < length files) (sym c.number_of-number.ensures) there.within

pub invariant_of-self-2 : goal.invariant_of-self-2
invariant_of-self-2 c =
    let files = c.self.inside.files.items in
    let f : File = c.in-Some-file_of.file.now in
    let n : ℕ = number_of c.in-Some.cookie in
    let e : Some f ≡ file_at files n = c.in-Some-file_of.ensures ∙ ap (λ (fs : List File). file_at fs n) c.deref.ensures.value in
    let there : IsThere files n f = is_there files n f c.self.invariant.short e in
    let piece = bytes_at (msg c.args.message.now) 2 in
    let i : ℕ = c.number_of-number.result - 1 in
    let g : File = record { name = f.name; octets = f.octets ++ piece } in
    let at : slice_get files i ≡ Some f = ap (λ (k : ℕ). slice_get files (k - 1)) c.number_of-number.ensures ∙ there.there in
    let short : length g.octets ≤ most_octets = omega (arith, there.short, length-append f.octets piece, c.len-count.ensures, c.bytes_len-more.ensures, c.if-more-count.false) in
    subst (λ (fs : List File). IsWhole fs c.self.inside.names) (sym (c.in_ok-append_at.ensures.ok f at)) (whole_set files c.self.inside.names i f g c.self.invariant at refl short)

pub returns : goal.returns
returns c =
    let files = c.self.inside.files.items in
    let f : File = c.in-Some-file_of.file.now in
    let n : ℕ = number_of c.in-Some.cookie in
    let e : Some f ≡ file_at files n = c.in-Some-file_of.ensures ∙ ap (λ (fs : List File). file_at fs n) c.deref.ensures.value in
    let there : IsThere files n f = is_there files n f c.self.invariant.short e in
    let piece = bytes_at (msg c.args.message.now) 2 in
    let i : ℕ = c.number_of-number.result - 1 in
    let at : slice_get files i ≡ Some f = ap (λ (k : ℕ). slice_get files (k - 1)) c.number_of-number.ensures ∙ there.there in
    let s : Store = record { files = files; handles = c.self.inside.handles } in
    let fits : c.len-count.result + c.bytes_len-more.result ≤ most_octets = omega (arith, there.short, c.len-count.ensures, c.if-more-count.false) in
    let moved = c.cookie_of-moved.ensures in
    let gives = append_gives s c.append_at.new.files.items c.in-Some.cookie c.number_of-number.result c.len-count.result c.bytes_len-more.result c.cookie_of-moved.result f piece (ans c.in_ok-answer.answer)
    e there c.len-count.ensures c.bytes_len-more.ensures fits c.number_of-number.ensures moved c.in_ok-answer.ensures (c.in_ok-append_at.ensures.ok f at) in
    let seen = c.self.view_is in
    let same : c.args.self.now ≡ s = cc in
    let now : Store = record { files = c.append_at.new.files.items; handles = c.self.inside.handles } in
    let of_self = subst (λ (x : Store). (ans c.in_ok-answer.answer ≡ (append_step x (Some c.in-Some.cookie) piece).answer) × (now ≡ (append_step x (Some c.in-Some.cookie) piece).next)) (sym same) gives in
    subst (λ (o : Option ℕ). (ans c.in_ok-answer.answer ≡ (append_step c.args.self.now o piece).answer) × (now ≡ (append_step c.args.self.now o piece).next)) (sym c.in-Some.is) of_self

-- What the flags of a request's fragments say.
use Rattle.std.proofs.Common.{◌≡◌, ◌^◌, ◌<◌, Bool, true, false, refl, arith}
use Rattle.pdu_codec.specs.Constants.{first_frag, last_frag, pending_cancel, maybe_flag}
use Rattle.pdu_codec.specs.Pdus.{has_object}
use Rattle.pdu_stream.specs.Fragments.{has_flag}
use Rattle.client_core.specs.Octets.{request_flags}

pub no_object : (maybe first last : Bool) → has_object (request_flags maybe first last) ≡ false
no_object true true true = refl
no_object true true false = refl
no_object true false true = refl
no_object true false false = refl
no_object false true true = refl
no_object false true false = refl
no_object false false true = refl
no_object false false false = refl

pub says_first : (maybe first last : Bool) → has_flag first_frag (request_flags maybe first last) ≡ first
says_first true true true = refl
says_first true true false = refl
says_first true false true = refl
says_first true false false = refl
says_first false true true = refl
says_first false true false = refl
says_first false false true = refl
says_first false false false = refl

pub says_last : (maybe first last : Bool) → has_flag last_frag (request_flags maybe first last) ≡ last
says_last true true true = refl
says_last true true false = refl
says_last true false true = refl
says_last true false false = refl
says_last false true true = refl
says_last false true false = refl
says_last false false true = refl
says_last false false false = refl

pub says_maybe : (maybe first last : Bool) → has_flag maybe_flag (request_flags maybe first last) ≡ maybe
says_maybe true true true = refl
says_maybe true true false = refl
says_maybe true false true = refl
says_maybe true false false = refl
says_maybe false true true = refl
says_maybe false true false = refl
says_maybe false false true = refl
says_maybe false false false = refl

pub not_cancelled : (maybe first last : Bool) → has_flag pending_cancel (request_flags maybe first last) ≡ false
not_cancelled true true true = refl
not_cancelled true true false = refl
not_cancelled true false true = refl
not_cancelled true false false = refl
not_cancelled false true true = refl
not_cancelled false true false = refl
not_cancelled false false true = refl
not_cancelled false false false = refl

pub flags_small : (maybe first last : Bool) → request_flags maybe first last < 2 ^ 8
flags_small true true true = omega arith
flags_small true true false = omega arith
flags_small true false true = omega arith
flags_small true false false = omega arith
flags_small false true true = omega arith
flags_small false true false = omega arith
flags_small false false true = omega arith
flags_small false false false = omega arith

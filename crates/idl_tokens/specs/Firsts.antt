-- Tokens of one octet.
use Rattle.std.specs.Prelude.{◌≡◌, ℕ, suc}
use Rattle.idl_tokens.specs.declared.kinds.Kind.{Kind}
use Rattle.idl_tokens.specs.declared.kinds.Kind.TheVariants as kinds
use Rattle.idl_tokens.specs.Spellings.{mark_octet, open_octet, shut_octet}

-- Where so many brackets are open, the octet is a mark or a bracket of this kind.
abbrev pub IsMarkOrBracket : ℕ → ℕ → Kind → Type 0
IsMarkOrBracket depth c (kinds.Mark mark) = c ≡ mark_octet mark
IsMarkOrBracket depth c (kinds.Open bracket level) = (c ≡ open_octet bracket) × (level ≡ suc depth)
IsMarkOrBracket depth c (kinds.Shut bracket) = c ≡ shut_octet bracket
IsMarkOrBracket depth c _ = ⊥

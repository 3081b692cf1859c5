-- Tokens that have a text.
use Rattle.json_members.specs.Members.{IsPlain}
use Rattle.luks_meta.specs.declared.token.Token.{Token}

-- all members are kept
abbrev pub IsToken : Token → Type 0
IsToken t = IsPlain 124 t.members

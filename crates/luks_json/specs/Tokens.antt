-- A token as the members of an object: all are kept.
use Rattle.std.specs.Prelude.{ℕ, List, Result, Ok}
use Rattle.serde_json.specs.Data.{Members}
use Rattle.json_members.specs.declared.faults.JsonFault.{JsonFault}
use Rattle.luks_meta.specs.declared.token.Token.{Token}

unfoldable pub token_of : List ℕ → Members → Result Token JsonFault
token_of path ms = Ok (record { members = ms })

abbrev pub token_members : Token → Members
token_members t = t.members

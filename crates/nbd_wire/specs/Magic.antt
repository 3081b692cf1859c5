-- The magic numbers of the messages ("Fixed newstyle negotiation" and "Transmission" of the NBD
-- protocol document).
use Rattle.std.specs.Prelude.{ℕ}

-- "NBDMAGIC"
abbrev pub greeting_magic : ℕ
greeting_magic = 0x4e42444d41474943

-- "IHAVEOPT"
abbrev pub option_magic : ℕ
option_magic = 0x49484156454f5054

abbrev pub option_reply_magic : ℕ
option_reply_magic = 0x0003e889045565a9

abbrev pub request_magic : ℕ
request_magic = 0x25609513

abbrev pub simple_reply_magic : ℕ
simple_reply_magic = 0x67446698

abbrev pub chunk_magic : ℕ
chunk_magic = 0x668e33ef

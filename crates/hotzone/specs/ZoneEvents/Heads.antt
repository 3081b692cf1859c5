-- The header that both copies of a disk hold.
use Rattle.std.specs.Prelude.{ℕ, List}
use Rattle.crash_laws.specs.HeaderAreas.Headers.{Header}
use Rattle.luks_bin.specs.Writing.{moved}
use Rattle.luks_store.specs.Copying.Meanings.{meaning_of}
use Rattle.luks_store.specs.declared.loaded.Stored.{Stored}

-- Both copies of a header that was loaded, once each place holds it: the bytes of the copy that is
-- used, each at its own place and with its own salt.
abbrev pub header_on : Stored → Header (List ℕ)
header_on stored = record {
  means = meaning_of stored.copies.used.bytes;
  first = moved 0 stored.copies.primary.salt stored.copies.used.bytes;
  second =
      moved stored.copies.used.header.hdr_size stored.copies.secondary.salt
      stored.copies.used.bytes;
}

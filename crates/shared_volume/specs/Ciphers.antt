-- The ciphers of a shared volume's keys: the bytes of their sectors, and what they make of bytes.
use Rattle.std.specs.Prelude.{ℕ, List}
use Rattle.aes_core.specs.contracts.cipher.Aes.{the_row}
use Rattle.aes_core.specs.contracts.cipher.AesBlockCipher.TheImpl as aes
use Rattle.aes_core.specs.declared.cipher.Aes.{Aes}
use Rattle.sector_cipher.specs.contracts.disk.DiskCipherSectorCipher.TheImpl as disk
use Rattle.sector_cipher.specs.declared.disk.DiskCipher.{DiskCipher}

abbrev pub Context : Type 0
Context = DiskCipher Aes

abbrev pub sector_of : Context → ℕ
sector_of = (disk.ghosts the_row aes.ghosts disk.no_dict).sector

abbrev pub sealed : Context → ℕ → List ℕ → List ℕ
sealed = (disk.ghosts the_row aes.ghosts disk.no_dict).sealed

abbrev pub opened : Context → ℕ → List ℕ → List ℕ
opened = (disk.ghosts the_row aes.ghosts disk.no_dict).opened

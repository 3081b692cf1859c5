-- What the ciphers of segments unseal under a key they seal again.
use Rattle.std.proofs.Common.{ℕ, zero, suc, ◌/◌, List, length, slice_index, arith}
use Rattle.std.specs.Int.{w32, to_be_bytes}
use Rattle.aes_core.specs.Cipher.{aes, inverse_aes}
use Rattle.cbc_essiv.specs.Cbc.{cbc_essiv_opened, cbc_essiv_sealed}
use Rattle.cbc_essiv.specs.Laws.{opened_gives_bytes, opened_keeps_lengths, opened_undone}
use Rattle.cipher_laws.specs.CipherBlocks.BytesLaws.{bytes-append, bytes-take, no_bytes}
use Rattle.cipher_laws.specs.Bytes.{AreBytes}
use Rattle.image_laws.proofs.Made.KeyLemmas.{keeps, keeps-back, undoes}
use Rattle.sector_cipher.specs.Context.{data_half, opened_under, sealed_under, tweak_half}
use Rattle.sector_cipher.specs.SectorLaws.{AreLawful, IsSectorSize, lawful_rows}
use Rattle.sector_cipher.specs.declared.spec.Spec.{Spec}
use Rattle.sector_cipher.specs.declared.spec.Spec.TheVariants.{AesXtsPlain64, AesCbcEssivSha256}
use Rattle.sha2.specs.Sha256.{digest_bytes, final_hash, initial_hash_256, sha256}
use Rattle.xts_mode.specs.Laws.{xts_gives_bytes, xts_keeps_lengths, xts_undone}
use Rattle.xts_mode.specs.Xts.{xts}

-- ---- a digest is bytes
word-bytes : (n : ℕ) → AreBytes (to_be_bytes w32 n)
word-bytes n zero = omega arith
word-bytes n (suc zero) = omega arith
word-bytes n (suc (suc zero)) = omega arith
word-bytes n (suc (suc (suc zero))) = omega arith
word-bytes n (suc (suc (suc (suc k)))) = omega arith

digest-bytes : (h : List ℕ) (n : ℕ) → AreBytes (digest_bytes h n)
unfolding digest_bytes
digest-bytes h zero = no_bytes
digest-bytes h (suc n) =
    bytes-append (digest_bytes h n) (to_be_bytes w32 (slice_index h n)) (digest-bytes h n)
    (word-bytes (slice_index h n))

hash-bytes : (key : List ℕ) → AreBytes (sha256 key)
unfolding sha256
hash-bytes key = digest-bytes (final_hash initial_hash_256 key) 8

-- ---- both ciphers
pub seals-again : (s : Spec) (key : List ℕ) (size : ℕ) → AreBytes key → IsSectorSize size
    → AreLawful size (opened_under s key size) (sealed_under s key size)
unfolding opened_under sealed_under
seals-again AesXtsPlain64 key size of_key sized =
    let body = data_half key in
    let tweak = tweak_half key in
    let of_body : AreBytes body = bytes-take (length key / 2) key of_key in
    let back = keeps-back body of_body in
    lawful_rows size (xts (inverse_aes body) (aes tweak)) (xts (aes body) (aes tweak)) sized
    (record {
      lengths = xts_keeps_lengths (inverse_aes body) (aes tweak) back;
      bytes = xts_gives_bytes (inverse_aes body) (aes tweak) back;
    })
    (xts_undone (aes body) (inverse_aes body) (aes tweak) back (undoes body of_body))
seals-again AesCbcEssivSha256 key size of_key sized =
    let iv = sha256 key in
    let back = keeps-back key of_key in
    let keeps_iv = keeps iv (hash-bytes key) in
    lawful_rows size (cbc_essiv_opened (inverse_aes key) (aes iv))
    (cbc_essiv_sealed (aes key) (aes iv)) sized
    (record {
      lengths = opened_keeps_lengths (inverse_aes key) (aes iv) back keeps_iv;
      bytes = opened_gives_bytes (inverse_aes key) (aes iv) back keeps_iv;
    })
    (opened_undone (aes key) (inverse_aes key) (aes iv) back keeps_iv (undoes key of_key))

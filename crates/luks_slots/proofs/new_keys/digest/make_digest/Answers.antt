use Rattle.std.proofs.Common.{◌≡◌, true, sym, subst}
use Rattle.base64.specs.GeneralPurpose.{IsBytes}
use Rattle.luks_meta.specs.Digests.{IsDigest}
use Rattle.luks_meta.specs.declared.digest.Digest.{Digest}
use Rattle.luks_slots.proofs.KeyMaking.DigestLemmas.{digest-text, same-key}
use Rattle.luks_slots.specs.Unlocks.{matches}
use Rattle.luks_slots.proofs.new_keys.digest.make_digest.Goals as goal

pub returns-clause-has_text : goal.returns-clause-has_text
returns-clause-has_text c =
    subst (λ (d : Digest). IsDigest d) (sym c.in_ok-digest.ensures.is)
    (digest-text _ _ _ _ c.numbers_have_64_bits.ensures c.numbers_have_64_bits-2.ensures
    c.bytes_are_below_256.ensures
    (subst (λ (d : Digest). IsBytes d.digest) c.in_ok-digest.ensures.is
    c.in_ok-digest.ensures.bytes))

pub returns-clause-matches : goal.returns-clause-matches
returns-clause-matches c =
    subst (λ (d : Digest). matches d c.args.key.now ≡ true) (sym c.in_ok-digest.ensures.is)
    (same-key c.args.keyslots.now c.args.segments.now c.args.key.now c.args.salt.now)

use Rattle.std.proofs.Common.{◌≡◌, ◌∙◌, ◌+◌, ◌-◌, ◌*◌, drop, length, subst, sym, take, ap, arith}
use borrow.Rule.Slice.PartMut.{put_mid}
use Rattle.sector_disk.proofs.DiskViews.Blockwise.{length-block_at}
use Rattle.hotzone.specs.Steps.{resealed}
use Rattle.sha2.specs.Sha256.{sha256}
use Rattle.volume_machine.specs.Seals.{seals_of}
use Rattle.zone_mending.proofs.JudgeLemmas.{AreJudged, judged-all, judged-next, judged-none}
use Rattle.zone_mending.proofs.parts.renew.Goals as goal

pub renewed-init : goal.renewed-init
renewed-init g c = judged-none _ _ _ _ _ _

pub renewed-preserved : goal.renewed-preserved
renewed-preserved g c =
    let atom = c.args.atom in
    let k = c.renewed.k in
    let text = c.renewed.bytes in
    let part = c.args.bytes.now in
    let new = c.renew_block.new.block in
    let seals = seals_of g.C.SectorCipher.sealed g.C.SectorCipher.opened atom c.args.keys.now in
    let size_is : k * atom + atom - k * atom ≡ atom = omega arith in
    let told_is : k * 32 + 32 - k * 32 ≡ 32 = omega arith in
    let block = ap (λ n. take n (drop (k * atom) text)) size_is in
    let told = ap (λ n. take n (drop (k * 32) c.args.digests.now)) told_is in
    subst (λ n. AreJudged seals atom c.args.piece.first c.args.piece.count (k + 1)
    c.args.digests.now part (put_mid (k * atom) n text new)) (sym size_is)
    (judged-next seals atom c.args.piece.first c.args.piece.count k c.args.digests.now part text new
    (c.renewed.auto.bytes ∙ c.requires.size) c.renewed-test.true
    (let long = length-block_at atom c.args.piece.count text k c.renewed-test.true
    (let size = c.renewed.auto.bytes ∙ c.requires.size in omega (arith, size)) in
    let same = c.renew_block.ensures.length ∙ ap length block in omega (arith, same, long))
    (λ is.
    c.renew_block.ensures.old (ap sha256 block ∙ is ∙ sym told)
    ∙ ap (λ b. resealed seals (c.args.piece.first + k) b) block)
    (λ other. c.renew_block.ensures.new (λ is. other (ap sha256 (sym block) ∙ is ∙ told)) ∙ block)
    c.renewed.invariant)

pub returns : goal.returns
returns g c =
    record {
      judged = judged-all _ _ _ _ c.renewed.k _ _ _
          (let done = c.renewed-test.false in omega (arith, done)) c.renewed.auto.bytes
          c.renewed.invariant;
      length = c.renewed.auto.bytes;
    }

use Rattle.std.proofs.Common.{◌≡◌, ◌∙◌, ◌%◌, length, ap, subst, sym}
use Rattle.luks_slots.proofs.new_slot.seal_with.Goals as goal

pub returns-clause-undone : goal.returns-clause-undone
returns-clause-undone g c =
    ap (λ bytes. g.C.SectorCipher.opened c.args.cipher.now 0 bytes) c.seal_atom.ensures
    ∙ g.met.C.SectorCipher.unseal_undoes_seal c.args.cipher.now 0 c.args.sectors.now (record {
      whole = subst (λ n. length c.args.sectors.now % n ≡ 0) (sym c.requires.sector)
          c.requires.whole;
      are_bytes = c.bytes_are_below_256.ensures;
    })

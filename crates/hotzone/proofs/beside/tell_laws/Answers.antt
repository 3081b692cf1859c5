use Rattle.hotzone.proofs.beside.tell_laws.Goals as goal

pub returns : goal.returns
returns g c =
    let keys = c.args.keys.now in record {
      opened_length = g.met.C.SectorCipher.opened_length keys.old;
      opened_bytes = g.met.C.SectorCipher.opened_bytes keys.old;
      opened_joined = g.met.C.SectorCipher.opened_joined keys.old;
      sealed_length = g.met.C.SectorCipher.sealed_length keys.new;
      sealed_joined = g.met.C.SectorCipher.sealed_joined keys.new;
    }

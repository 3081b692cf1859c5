use Rattle.nbd_session.proofs.SpellingLemmas.{lanes-spelt, reads-spelt}
use Rattle.nbd_session.proofs.spelling.reads_are_spelt.Goals as goal

pub returns-clause-sessions : goal.returns-clause-sessions
returns-clause-sessions c =
    let chunks = c.chunks_spell_the_reply.ensures in
    reads-spelt (record {
      laid_out = chunks.laid_out;
      fit = chunks.fit;
      once = chunks.once;
      apart = c.replies_are_told_apart.ensures;
    })

pub returns-clause-lanes : goal.returns-clause-lanes
returns-clause-lanes c =
    let chunks = c.chunks_spell_the_reply.ensures in
    lanes-spelt (record {
      laid_out = chunks.laid_out;
      fit = chunks.fit;
      once = chunks.once;
      apart = c.replies_are_told_apart.ensures;
    })

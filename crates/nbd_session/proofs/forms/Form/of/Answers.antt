use Rattle.std.proofs.Common.{ap}
use Rattle.nbd_hand.proofs.NegotiationLemmas.{zeroes-left}
use Rattle.nbd_session.specs.declared.forms.Form.TheVariants.{Chunks}
use Rattle.nbd_session.specs.Forms.{form_of}
use Rattle.nbd_session.proofs.forms.Form.of.Goals as goal

-- the flag that the code reads is the bit of the definition
pub returns-in-Read : goal.returns-in-Read
unfolding form_of
returns-in-Read c =
    rw (c.in-Read.is, c.if-structured.true)
    (ap (λ whole. Chunks whole c.args.head.now.offset) (zeroes-left _ _ c.has_df.ensures))

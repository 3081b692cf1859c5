use Rattle.std.proofs.Common.{ap, false}
use Rattle.nbd_hand.specs.Handshakes.{no_zeroes}
use Rattle.nbd_hand.proofs.NegotiationLemmas.{stops-silent, stops-greeted, goes-agreed}
use Rattle.nbd_hand.proofs.NegotiationLemmas.{zeroes-left, greeting-put}
use Rattle.nbd_hand.proofs.negotiation.negotiate.Goals as goal

pub returns-in-Err-clause-negotiates : goal.returns-in-Err-clause-negotiates
returns-in-Err-clause-negotiates g c =
    stops-silent c.args.export.now _ _ _ _ _ c.in-Err.field-0
    (greeting-put _ _ _ _ _ _ _ c.union.ensures c.write.ensures c.in-Err.ensures.puts)

pub returns-in-Err-take_flags-clause-negotiates : goal.returns-in-Err-take_flags-clause-negotiates
returns-in-Err-take_flags-clause-negotiates g c =
    stops-greeted c.args.export.now _ _ _ _ _ _ c.in-Err-take_flags.ending
    (greeting-put _ _ _ _ _ _ _ c.union.ensures c.write.ensures c.in-Ok.ensures.puts)
    c.in-Err-take_flags.ensures

pub returns-in-Ok-take_flags-clause-negotiates : goal.returns-in-Ok-take_flags-clause-negotiates
unfolding no_zeroes
returns-in-Ok-take_flags-clause-negotiates g c =
    goes-agreed c.args.export.now _ _ _ _ _ _ _ c.in-Ok-take_flags.flags _ c.agree.result
    (greeting-put _ _ _ _ _ _ _ c.union.ensures c.write.ensures c.in-Ok.ensures.puts)
    c.in-Ok-take_flags.ensures
    (ap (λ z. record { no_zeroes = z; structured = false })
    (zeroes-left _ _ c.has_no_zeroes.ensures)) c.agree.ensures.agrees

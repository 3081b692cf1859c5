use Rattle.std.proofs.Common.{◌^◌, ◌<◌, ◌∙◌, length, length-take-le, arith, inl, inr, sym}
use Rattle.nbd_wire.proofs.ReadReplying.ReplyLemmas.{front-fits, tested-empty, tested-more, tested-one}
use Rattle.nbd_wire.proofs.read_replies.reply.ReadReply.split_content.Goals as goal

pub returns-then-is_empty : goal.returns-then-is_empty
returns-then-is_empty c =
    tested-empty c.args.whole c.args.offset c.args.bytes.now
    (sym c.is_empty.ensures ∙ c.if-is_empty.true)

pub returns-then-whole : goal.returns-then-whole
returns-then-whole c =
    tested-one c.args.whole c.args.offset c.args.bytes.now
    (sym c.is_empty.ensures ∙ c.if-is_empty.false) (inl c.if-whole.true)

pub returns-then-bytes-le-MOST : goal.returns-then-bytes-le-MOST
returns-then-bytes-le-MOST c =
    tested-one c.args.whole c.args.offset c.args.bytes.now
    (sym c.is_empty.ensures ∙ c.if-is_empty.false) (inr c.if-bytes-le-MOST.true)

pub slice_bounds-payload-end : goal.slice_bounds-payload-end
slice_bounds-payload-end c =
    let more : 2 ^ 20 < length c.args.bytes.now = c.if-bytes-le-MOST.false in
    let size = length-take-le (2 ^ 20) c.args.bytes.now (omega (arith, more)) in
    omega (arith, more, size)

pub invariant_of-first : goal.invariant_of-first
invariant_of-first c = record {
  fits = (omega (arith, c.requires.0), front-fits c.args.bytes.now c.if-bytes-le-MOST.false);
}

pub returns : goal.returns
returns c =
    tested-more c.args.whole c.args.offset c.args.bytes.now c.if-whole.false
    c.if-bytes-le-MOST.false

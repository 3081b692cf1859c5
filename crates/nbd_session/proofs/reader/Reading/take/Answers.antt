use Rattle.std.proofs.Common.{arith, refl}
use Rattle.nbd_session.specs.Takes.{behind_end, too_many, took}
use Rattle.nbd_session.proofs.reader.Reading.take.Goals as goal

pub returns-in-Some : goal.returns-in-Some
returns-in-Some g c = behind_end c.in-Some.ending c.in-Some.is refl

pub returns-then-self-ge-MAX_REQUESTS : goal.returns-then-self-ge-MAX_REQUESTS
returns-then-self-ge-MAX_REQUESTS g c =
    let full = c.if-self-ge-MAX_REQUESTS.true in too_many c.in_default.is (omega (arith, full)) refl

pub returns-in-Stop : goal.returns-in-Stop
returns-in-Stop g c =
    let next = c.in-Stop.ensures in
    let few = c.if-self-ge-MAX_REQUESTS.false in
    took _ c.in_default.is (record {
      bytes = next.0;
      ended = next.1;
      is = next.2;
      fewer = omega (arith, few);
      next_is = refl;
      ending = refl;
      same = refl;
    })

pub returns-in-Ask : goal.returns-in-Ask
returns-in-Ask g c =
    let next = c.in-Ask.ensures in
    let few = c.if-self-ge-MAX_REQUESTS.false in
    took _ c.in_default.is (record {
      bytes = next.0;
      ended = next.1;
      is = next.2;
      fewer = omega (arith, few);
      next_is = omega arith;
      ending = c.in_default.is;
      same = refl;
    })

pub returns-in-Refuse : goal.returns-in-Refuse
returns-in-Refuse g c =
    let next = c.in-Refuse.ensures in
    let few = c.if-self-ge-MAX_REQUESTS.false in
    took _ c.in_default.is (record {
      bytes = next.0;
      ended = next.1;
      is = next.2;
      fewer = omega (arith, few);
      next_is = omega arith;
      ending = c.in_default.is;
      same = refl;
    })

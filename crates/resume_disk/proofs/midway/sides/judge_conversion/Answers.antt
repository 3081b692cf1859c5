use Rattle.std.proofs.Common.{refl, sym}
use Rattle.resume_disk.proofs.midway.sides.judge_conversion.Goals as goal

pub returns-then-not-may_be_led-clause-refused : goal.returns-then-not-may_be_led-clause-refused
returns-then-not-may_be_led-clause-refused c = (
  c.in-Some.progress,
  sym c.in-Some.ensures,
  λ by. (let e = c.if-not-may_be_led.ensures.1 by in cc),
)

pub find_sides-requires : goal.find_sides-requires
find_sides-requires c = sym c.in-Some.ensures

pub returns-in-Ok-clause-conversion : goal.returns-in-Ok-clause-conversion
returns-in-Ok-clause-conversion c = record {
  now = c.in-Some.progress;
  known = sym c.in-Some.ensures;
  guarded = c.if-not-may_be_led.ensures.0 refl;
  sides = c.in-Ok.ensures.sides;
}

pub returns-in-Err-clause-refused : goal.returns-in-Err-clause-refused
returns-in-Err-clause-refused c = (
  c.in-Some.progress,
  sym c.in-Some.ensures,
  c.if-not-may_be_led.ensures.0 refl,
  c.in-Err.ensures.refused,
)

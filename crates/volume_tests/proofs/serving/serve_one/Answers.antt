use Rattle.std.proofs.Common.{◌≡◌, ℕ, zero, suc, ◌+◌, ◌*◌, ◌<◌, ◌≤◌, None, Option, ap, arith, length, subst}
use Rattle.std.proofs.Common.{false, is_some, sym, true}
use Rattle.std.proofs.lemmas.List.{length-replicate}
use Rattle.bays.specs.Bays.{IsShare}
use Rattle.shared_volume.specs.Histories.{MayBeShared}
use Rattle.volume_machine.specs.Beginnings.{IsFresh}
use Rattle.volume_machine.specs.Sound.{IsSound}
use Rattle.volume_machine.specs.States.{State}
use Rattle.volume_machine.specs.Works.{Work}
use Rattle.volume_machine.specs.declared.open.Open.{Open}
use Rattle.volume_tests.proofs.serving.serve_one.Goals as goal

never : false ≡ true → ⊥
never same = absurd (cc)

-- a volume on which nothing was done may be shared
fresh-shared : {K : Type 0} (start : State K) → IsFresh start → IsSound start → MayBeShared start
fresh-shared start fresh sound = record {
  idle = fresh.lanes;
  sound = sound;
  order = λ some. absurd (never (subst (λ (w : Option Work). is_some w ≡ true) fresh.rests some));
}

-- the link's share of one session is no more than one
share-few : (k count : ℕ) → IsShare 1 1 k count → count ≤ 1
share-few k zero below = omega arith
share-few k (suc n) below =
    let last : k + 1 * n < 1 = below n (omega arith) in omega (arith, last)

pub serve-requires-clause-shared : goal.serve-requires-clause-shared
serve-requires-clause-shared g c κs within =
    fresh-shared c.in-Ok-plain.volume c.in-Ok-plain.ensures.fresh c.in-Ok-plain.ensures.sound

pub serve-requires-clause-lanes : goal.serve-requires-clause-lanes
serve-requires-clause-lanes g c κs within =
    let same = ap (λ l. length l) c.in-Ok-plain.ensures.lanes in
    let long = length-replicate {A = Option Open} 2 None in
    let count = c.in-Ok.ensures.count in omega (arith, same, long, count)

pub serve-requires-clause-bound : goal.serve-requires-clause-bound
serve-requires-clause-bound g c κs within = λ k link inside.
    let e = c.in-Ok.ensures in
    let count = e.count in
    let few = share-few k _ (e.bound k link (omega (arith, inside, count))) in omega (arith, few)

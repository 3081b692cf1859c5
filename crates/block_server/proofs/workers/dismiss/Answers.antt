use Rattle.std.proofs.Common.{◌≡◌, ◌∙◌, ℕ, ◌+◌, ◌-◌, ◌++◌, ◌∷◌, [], List, Option, ap, arith}
use Rattle.std.proofs.Common.{length, refl, subst, sym}
use mathlib.Core.List.{map-id}
use Rattle.std.proofs.lemmas.Iterator.Adapters.{YieldsList-from_vec}
use Rattle.std.proofs.lemmas.Iterator.Consumers.{YieldsList-end, YieldsList-turn}
use Rattle.std.proofs.lemmas.List.{length_push}
use Rattle.volume_cell.specs.Passes.{IsPassOf, known}
use Rattle.block_server.specs.Leaving.{HasRoom, IsLeftOf}
use Rattle.block_server.specs.Passing.{IsFirst, KnowsAll, account_of}
use Rattle.block_server.specs.Slots.{each_of}
use Rattle.block_server.specs.declared.worker.Worker.{Worker}
use Rattle.block_server.proofs.DismissingLemmas.{back-at, back-some, joined-more, knows-more, left-more}
use Rattle.block_server.proofs.DismissingLemmas.{left-none, room-one}
use Rattle.block_server.proofs.PassingLemmas.{first-joined}
use Rattle.block_server.proofs.workers.dismiss.Goals as goal

plain : (n m : ℕ) → 0 + n ≡ m → m ≡ n
plain n m is = omega (arith, is)

pub loop-slot-init : goal.loop-slot-init
unfolding each_of
loop-slot-init g c = record {
  pass = c.requires.pass;
  name = c.requires.name;
  first = λ splits first. first;
  joined = c.requires.joined;
  start = refl;
  knows = λ k slot below. absurd (omega (arith, below));
  left = left-none c.args.leavings.now c.requires.room.links c.requires.room.sessions
      c.requires.room.standings;
  room = λ count is. subst (λ (n : ℕ). HasRoom n c.args.leavings.now) (plain count (length c.args.workers.items) is)
      c.requires.room.room;
}

pub unreachable-requires : goal.unreachable-requires
unreachable-requires g c =
    let b = c.into_iter-slot-iterator.ensures.into_iter_gives in
    let at = YieldsList-turn (YieldsList-from_vec {s = c.into_iter-slot-iterator.result}
    c.args.workers.items b.0 (b.1 ∙ c.args.workers.ok.0)) c.loop-slot.yielded
    c.loop-slot.slot-iterator c.loop-slot.yielded_by c.next.result c.next.new.self c.in-Some.slot
    c.in-Some.is c.next.ensures.steps in
    back-some c.args.cell.now c.args.workers.items (length c.loop-slot.yielded) c.in-Some.slot
    c.requires.back at.0 at.1 c.in_default.is

pub join-requires-clause-passes : goal.join-requires-clause-passes
join-requires-clause-passes g c =
    let b = c.into_iter-slot-iterator.ensures.into_iter_gives in
    let at = YieldsList-turn (YieldsList-from_vec {s = c.into_iter-slot-iterator.result}
    c.args.workers.items b.0 (b.1 ∙ c.args.workers.ok.0)) c.loop-slot.yielded
    c.loop-slot.slot-iterator c.loop-slot.yielded_by c.next.result c.next.new.self c.in-Some.slot
    c.in-Some.is c.next.ensures.steps in
    let back = back-at c.args.cell.now c.args.workers.items (length c.loop-slot.yielded)
    c.in-Some.slot c.in-Some-slot.worker c.requires.back at.0 at.1 c.in-Some-slot.is in (
      c.loop-slot.invariant.pass,
      subst (λ p. IsPassOf c.args.cell.now p) (sym c.into_pass.ensures) back.pass,
    )

pub join-requires-clause-child : goal.join-requires-clause-child
join-requires-clause-child g c =
    let b = c.into_iter-slot-iterator.ensures.into_iter_gives in
    let at = YieldsList-turn (YieldsList-from_vec {s = c.into_iter-slot-iterator.result}
    c.args.workers.items b.0 (b.1 ∙ c.args.workers.ok.0)) c.loop-slot.yielded
    c.loop-slot.slot-iterator c.loop-slot.yielded_by c.next.result c.next.new.self c.in-Some.slot
    c.in-Some.is c.next.ensures.steps in
    let back = back-at c.args.cell.now c.args.workers.items (length c.loop-slot.yielded)
    c.in-Some.slot c.in-Some-slot.worker c.requires.back at.0 at.1 c.in-Some-slot.is in (
      length c.loop-slot.yielded,
      ap (λ p. (known p).name) c.into_pass.ensures
          ∙ (back.name ∙ ap (λ (n : List ℕ). n ++ length c.loop-slot.yielded ∷ [])
          (sym c.loop-slot.invariant.name)),
    )

pub join-requires-clause-whole : goal.join-requires-clause-whole
join-requires-clause-whole g c =
    let b = c.into_iter-slot-iterator.ensures.into_iter_gives in
    let at = YieldsList-turn (YieldsList-from_vec {s = c.into_iter-slot-iterator.result}
    c.args.workers.items b.0 (b.1 ∙ c.args.workers.ok.0)) c.loop-slot.yielded
    c.loop-slot.slot-iterator c.loop-slot.yielded_by c.next.result c.next.new.self c.in-Some.slot
    c.in-Some.is c.next.ensures.steps in
    let back = back-at c.args.cell.now c.args.workers.items (length c.loop-slot.yielded)
    c.in-Some.slot c.in-Some-slot.worker c.requires.back at.0 at.1 c.in-Some-slot.is in
    ap (λ p. (known p).away) c.into_pass.ensures ∙ back.whole

pub put-requires : goal.put-requires
put-requires g c =
    let b = c.into_iter-slot-iterator.ensures.into_iter_gives in
    let at = YieldsList-turn (YieldsList-from_vec {s = c.into_iter-slot-iterator.result}
    c.args.workers.items b.0 (b.1 ∙ c.args.workers.ok.0)) c.loop-slot.yielded
    c.loop-slot.slot-iterator c.loop-slot.yielded_by c.next.result c.next.new.self c.in-Some.slot
    c.in-Some.is c.next.ensures.steps in
    let rest : ℕ = length c.args.workers.items - length c.loop-slot.yielded in record {
      room = room-one rest c.loop-slot.leavings (omega (arith, at.0))
          (c.loop-slot.invariant.room rest (omega (arith, at.0)));
    }

pub loop-slot-preserved : goal.loop-slot-preserved
loop-slot-preserved g c =
    let so = c.loop-slot.invariant in
    let b = c.into_iter-slot-iterator.ensures.into_iter_gives in
    let at = YieldsList-turn (YieldsList-from_vec {s = c.into_iter-slot-iterator.result}
    c.args.workers.items b.0 (b.1 ∙ c.args.workers.ok.0)) c.loop-slot.yielded
    c.loop-slot.slot-iterator c.loop-slot.yielded_by c.next.result c.next.new.self c.in-Some.slot
    c.in-Some.is c.next.ensures.steps in
    let back = back-at c.args.cell.now c.args.workers.items (length c.loop-slot.yielded)
    c.in-Some.slot c.in-Some-slot.worker c.requires.back at.0 at.1 c.in-Some-slot.is in
    let long = length_push c.loop-slot.yielded c.in-Some.slot in
    let v = known c.loop-slot.first in
    let w = known c.into_pass.result in
    let x = known c.join.new.pass in
    let same : w ≡ known c.in-Some-slot.worker.lane.pass =
    ap (λ p. known p) c.into_pass.ensures in record {
      pass = c.join.ensures.pass.0;
      name = ap (λ k. k.name) c.join.ensures.pass.1 ∙ so.name;
      first = λ splits was. subst (λ (n : ℕ). IsFirst splits n x) (sym long)
          (first-joined splits (length c.loop-slot.yielded) v w x
          c.join.ensures.pass.1 (ap (λ k. k.name) same ∙ back.name) (so.first splits was));
      joined = joined-more c.loop-slot.yielded c.in-Some.slot c.in-Some-slot.worker
          c.in-Some-slot.is v w x c.join.ensures.pass.1 same back.joined so.joined;
      start = ap (λ k. k.start) c.join.ensures.pass.1 ∙ so.start;
      knows = knows-more c.loop-slot.yielded c.in-Some.slot c.in-Some-slot.worker c.in-Some-slot.is
          v w x c.join.ensures.own c.join.ensures.its same so.knows;
      left = left-more c.loop-slot.yielded c.in-Some.slot c.in-Some-slot.worker c.in-Some-slot.is
          c.loop-slot.leavings c.put.new.self so.left c.put.ensures.links c.put.ensures.sessions
          c.put.ensures.standings;
      room = λ count is. c.put.ensures.room count
          (so.room (count + 1) (omega (arith, is, long)));
    }

pub returns-clause-pass : goal.returns-clause-pass
returns-clause-pass g c = c.loop-slot.invariant.pass

pub returns-clause-first : goal.returns-clause-first
returns-clause-first g c =
    let b = c.into_iter-slot-iterator.ensures.into_iter_gives in
    let all = YieldsList-end (YieldsList-from_vec {s = c.into_iter-slot-iterator.result}
    c.args.workers.items b.0 (b.1 ∙ c.args.workers.ok.0)) c.loop-slot.yielded
    c.loop-slot.slot-iterator c.loop-slot.yielded_by c.next.result c.next.new.self c.in-None.is
    c.next.ensures.steps in
    λ splits was. subst (λ (n : ℕ). IsFirst splits n (known c.loop-slot.first)) all.1
    (c.loop-slot.invariant.first splits was)

pub returns-clause-joined : goal.returns-clause-joined
returns-clause-joined g c =
    let b = c.into_iter-slot-iterator.ensures.into_iter_gives in
    let all = YieldsList-end (YieldsList-from_vec {s = c.into_iter-slot-iterator.result}
    c.args.workers.items b.0 (b.1 ∙ c.args.workers.ok.0)) c.loop-slot.yielded
    c.loop-slot.slot-iterator c.loop-slot.yielded_by c.next.result c.next.new.self c.in-None.is
    c.next.ensures.steps in
    c.loop-slot.invariant.joined
    ∙ ap (λ ws. each_of account_of ws) (sym (map-id c.loop-slot.yielded) ∙ all.0)

pub returns-clause-start : goal.returns-clause-start
returns-clause-start g c = c.loop-slot.invariant.start

pub returns-clause-knows : goal.returns-clause-knows
returns-clause-knows g c =
    let b = c.into_iter-slot-iterator.ensures.into_iter_gives in
    let all = YieldsList-end (YieldsList-from_vec {s = c.into_iter-slot-iterator.result}
    c.args.workers.items b.0 (b.1 ∙ c.args.workers.ok.0)) c.loop-slot.yielded
    c.loop-slot.slot-iterator c.loop-slot.yielded_by c.next.result c.next.new.self c.in-None.is
    c.next.ensures.steps in
    subst (λ (ws : List (Option (Worker g.row.D.Denot g.row.L.Denot))).
    KnowsAll (known c.loop-slot.first) ws) (sym (map-id c.loop-slot.yielded) ∙ all.0)
    c.loop-slot.invariant.knows

pub returns-clause-left : goal.returns-clause-left
returns-clause-left g c =
    let b = c.into_iter-slot-iterator.ensures.into_iter_gives in
    let all = YieldsList-end (YieldsList-from_vec {s = c.into_iter-slot-iterator.result}
    c.args.workers.items b.0 (b.1 ∙ c.args.workers.ok.0)) c.loop-slot.yielded
    c.loop-slot.slot-iterator c.loop-slot.yielded_by c.next.result c.next.new.self c.in-None.is
    c.next.ensures.steps in
    subst (λ (ws : List (Option (Worker g.row.D.Denot g.row.L.Denot))).
    IsLeftOf ws c.loop-slot.leavings) (sym (map-id c.loop-slot.yielded) ∙ all.0)
    c.loop-slot.invariant.left

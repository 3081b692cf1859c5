-- What the exchanges that are ahead of a client still owe its blocks.
use Rattle.std.proofs.Common.{◌≡◌, ℕ, ◌+◌, ◌*◌, ◌<◌, ◌≤◌, arith, List, [], ◌∷◌, length, get_or}
use Rattle.std.proofs.Common.{sym, ◌∙◌, ap, subst}
use Rattle.plain_disk.specs.declared.operation.Op.TheVariants.{Read}
use Rattle.plain_disk.specs.Outcomes.{IsServed}
use Rattle.plain_disk.specs.Plain.{Block, Exchange, ProperStep, Step}
use Rattle.demo_clients.specs.Contents.{demo_block}
use Rattle.demo_clients.specs.Histories.{demo_reply}
use Rattle.demo_clients.specs.Operations.{AllServed, operations_on, ops_of}
use Rattle.demo_clients.proofs.HeldLemmas.{AllLeave, AllOwn, IsOwn, IsRead, WritesFirst}
use Rattle.demo_clients.proofs.HeldLemmas.{held_after, held_apart, held_behind, held_client, held_leave}
use Rattle.demo_clients.proofs.HeldLemmas.{order_client, own_client}
use Rattle.demo_clients.proofs.StepLemmas.{AreBlocks, count_of, newest_of, proper_step, step_even}
use Rattle.demo_clients.proofs.StepLemmas.{step_held, step_reply}

-- The exchanges are operations on the blocks from `first` to before `end`, each served, and no write
-- is behind a read; behind them each of these blocks holds what is written to it.
pub record Owes (seed first end : ℕ) (exchanges : List Exchange) (blocks : List Block) : Type 0 where
  pub own : AllOwn seed first end (ops_of exchanges)
  pub order : WritesFirst (ops_of exchanges)
  pub served : AllServed exchanges
  pub ahead : (b : ℕ) → first ≤ b → b < end →
      held_behind b (ops_of exchanges) (get_or (newest_of blocks) b []) ≡ demo_block seed b

-- all of a client's operations
pub owes_all : (seed first count end : ℕ) (exchanges : List Exchange) (blocks : List Block)
    → first + count ≡ end → ops_of exchanges ≡ operations_on seed first count → AllServed exchanges
    → Owes seed first end exchanges blocks
owes_all seed first count end exchanges blocks is asked served = record {
  own = subst (λ ops. AllOwn seed first end ops) (sym asked) (own_client seed first count end is);
  order = subst (λ ops. WritesFirst ops) (sym asked) (order_client seed first count);
  served = served;
  ahead = λ b least below.
      ap (λ ops. held_behind b ops (get_or (newest_of blocks) b [])) asked
      ∙ held_client seed first count b (get_or (newest_of blocks) b []) least
      (omega (arith, below, is));
}

-- none
pub owes_none : (seed first end : ℕ) (blocks : List Block) → Owes seed first end [] blocks
    → (b : ℕ) → first ≤ b → b < end → get_or (newest_of blocks) b [] ≡ demo_block seed b
unfolding ops_of held_behind
owes_none seed first end blocks owes b least below = owes.ahead b least below

module _ (seed first end m : ℕ) (most : end ≤ m) (old new : List Block) (even : AreBlocks m old)
  where
    inside : (b : ℕ) → b < end → b < length (newest_of old)
    inside b below = omega (arith, below, most, count_of m old even)

    -- the first of them is served
    module _ (one : Exchange) (rest : List Exchange) (owes : Owes seed first end (one ∷ rest) old)
        (step : Step 512 old one new) where
      pub first_own : IsOwn seed first end one.op
      unfolding ops_of AllOwn
      first_own = owes.own.0

      pub first_served : IsServed one.op one.reply
      unfolding AllServed
      first_served = owes.served.0

      first_proper : ProperStep 512 old one.op one.reply one.tried new
      first_proper = proper_step old new one step first_served

      leave_rest : IsRead one.op → AllLeave (ops_of rest)
      unfolding ops_of WritesFirst
      leave_rest is = owes.order.0 is

      held_first : (b : ℕ) → first ≤ b → b < end
          → held_behind b (ops_of rest) (held_after b one.op (get_or (newest_of old) b []))
          ≡ demo_block seed b
      unfolding ops_of held_behind
      held_first b least below = owes.ahead b least below

      -- a block that is read next holds what was written to it
      read_next : (b offset len : ℕ) → one.op ≡ Read offset len → first ≤ b → b < end
          → offset ≡ 512 * b → get_or (newest_of old) b [] ≡ demo_block seed b
      read_next b offset len is least below place =
          let value = get_or (newest_of old) b [] in
          sym (held_leave b (ops_of rest) value (leave_rest (subst (λ op. IsRead op) (sym is) tt)))
          ∙ ap (λ (v : List ℕ). held_behind b (ops_of rest) v)
          (sym (ap (λ op. held_after b op value) is))
          ∙ held_first b least below

      pub first_even : AreBlocks m new
      first_even = step_even seed first end m old new one.op one.reply one.tried first_proper
          first_served first_own even most

      pub first_reply : one.reply ≡ demo_reply seed one.op
      first_reply = step_reply seed first end m old new one.op one.reply one.tried first_proper
          first_served first_own even most read_next

      pub owes_rest : Owes seed first end rest new
      unfolding ops_of AllOwn WritesFirst AllServed
      owes_rest = record {
        own = owes.own.1;
        order = owes.order.1;
        served = owes.served.1;
        ahead = λ b least below.
            ap (λ (v : List ℕ). held_behind b (ops_of rest) v)
            (step_held seed first end b m old new one.op one.reply one.tried first_proper first_served
            first_own (inside b below) even)
            ∙ held_first b least below;
      }

    -- one of another client's is served
    pub owes_other : (first' end' : ℕ) (one : Exchange) (rest : List Exchange)
        → Owes seed first end rest old → Step 512 old one new → IsServed one.op one.reply
        → IsOwn seed first' end' one.op
        → ((b : ℕ) → first ≤ b → b < end → first' ≤ b → b < end' → ⊥)
        → Owes seed first end rest new
    owes_other first' end' one rest owes step served own apart = record {
      own = owes.own;
      order = owes.order;
      served = owes.served;
      ahead = λ b least below.
          let value = get_or (newest_of old) b [] in
          ap (λ (v : List ℕ). held_behind b (ops_of rest) v)
          (step_held seed first' end' b m old new one.op one.reply one.tried
          (proper_step old new one step served) served own (inside b below) even
          ∙ held_apart seed first' end' b one.op value own (apart b least below))
          ∙ owes.ahead b least below;
    }

use Rattle.std.proofs.Common.{◌≡◌, ◌∙◌, ⊎_elim, inl, sym, Bool, true, false, length, take, drop}
use Rattle.std.proofs.Common.{◌++◌, not, refl, ap, arith, length-take}
use Rattle.std.proofs.lemmas.List.{take_at}
use Rattle.std.specs.Str.{bytes_eq}
use Rattle.std.specs.String.{string_bytes}
use Rattle.bays.proofs.DealLemmas.{dealt_from_shares}
use Rattle.std.proofs.lemmas.Bool.{cases_Bool, true≢false}
use Rattle.bays.proofs.NameLemmas.{others_untold}
use Rattle.bays.proofs.ShareLemmas.{share_bounded}
use Rattle.bays.proofs.TellLemmas.{fresh_from_dealt}
use Rattle.bays.proofs.mem_bay.MemBayBay.links.Goals as goal

not_false : (b : Bool) → not b ≡ false → b ≡ true
not_false true is = refl
not_false false is = sym is

pub returns-then-is_failing-clause-exact : goal.returns-then-is_failing-clause-exact
returns-then-is_failing-clause-exact c =
    let other : c.ne.result ≡ not
    (bytes_eq c.args.address.now (string_bytes c.self.inside.address)) =
    rw (← c.as_str.ensures.value) c.ne.ensures in
    rw (← c.self.view_is)
    (λ _. rw other at (c.is_failing.ensures.exact.0 c.if-is_failing.true), λ _. refl)

pub returns-in-Ok-clause-dealt : goal.returns-in-Ok-clause-dealt
returns-in-Ok-clause-dealt c =
    let now : take c.in-Ok.links.len
    (c.deal.new.links ++ drop (length c.deal.new.links) c.in-Ok.links.items)
    ≡ c.deal.new.links =
    take_at _ _ _ (omega arith) in
    rw (now, ← c.self.view_is)
    (dealt_from_shares _ _ _ _ _ _ c.in-Ok.ensures.count c.in-Ok.ensures.empty
    (rw (c.deref_mut.ensures.value, c.truncate.ensures.items) at c.deal.ensures.dealt))

pub returns-in-Ok-clause-fresh : goal.returns-in-Ok-clause-fresh
returns-in-Ok-clause-fresh c =
    fresh_from_dealt c.args.self.now c.args.address.now _ _ _ (returns-in-Ok-clause-dealt c)

pub returns-in-Ok-clause-bound : goal.returns-in-Ok-clause-bound
returns-in-Ok-clause-bound c = λ k link inside n less.
    let dealt = ap (λ line. length line.ahead) (returns-in-Ok-clause-dealt c k link inside) in
    share_bounded c.args.workers c.args.sessions k
    (take c.args.sessions c.args.self.now.connections)
    (omega (arith, length-take c.args.sessions c.args.self.now.connections)) n
    (omega (arith, dealt, less))

pub returns-in-Ok-clause-leaves : goal.returns-in-Ok-clause-leaves
returns-in-Ok-clause-leaves c =
    let here : c.ne.result ≡ false =
    ⊎_elim (λ is. absurd (true≢false
    (sym (c.is_failing.ensures.exact.1 (inl is)) ∙ c.if-is_failing.false))) (λ is. is)
    (cases_Bool c.ne.result) in
    let same : bytes_eq c.args.address.now (string_bytes c.self.inside.address) ≡ true =
    not_false _ (rw (← c.as_str.ensures.value) (sym c.ne.ensures ∙ here)) in
    rw (← c.self.view_is) (record {
      disks = refl;
      keys = refl;
      clients = λ other differ.
          others_untold c.args.address.now (string_bytes c.self.inside.address) other _ _ same
          differ;
    })

pub returns-in-Err-clause-leaves : goal.returns-in-Err-clause-leaves
returns-in-Err-clause-leaves c =
    rw (← c.self.view_is) (record { disks = refl; keys = refl; clients = refl })

-- Why a history of the clients leaves what they wrote, and answers their reads with it.
use Rattle.std.proofs.Common.{◌≡◌, ◌≢◌, inl, inr, ℕ, ◌+◌, ◌<◌, ◌≤◌, arith, List, [], ◌∷◌}
use Rattle.std.proofs.Common.{map, refl, sym, ◌∙◌, ap, ap₂, subst, eq-eqb, ne_eqb}
use Rattle.std.proofs.lemmas.Bool.{cases_eq}
use Rattle.std.proofs.lemmas.List.FromFn.{fill_by_all}
use Rattle.plain_disk.specs.Plain.{Block, Exchange, Legal, Step}
use Rattle.volume_machine.specs.Answers.{Tagged, of_session, untagged}
use Rattle.demo_clients.specs.Contents.{demo_block, demo_content, share_count, share_of}
use Rattle.demo_clients.specs.Histories.{AreOfClients, HistoriesLeaveTheContent}
use Rattle.demo_clients.specs.Histories.{demo_reply, replies_in}
use Rattle.demo_clients.specs.Operations.{ops_of}
use Rattle.demo_clients.proofs.ClientLemmas.{Owes, first_even, first_own, first_reply, first_served}
use Rattle.demo_clients.proofs.ClientLemmas.{owes_all, owes_none, owes_other, owes_rest}
use Rattle.demo_clients.proofs.OwnerLemmas.{owner, share-last, share-order, shares-apart}
use Rattle.demo_clients.proofs.StepLemmas.{AreBlocks, count_of, newest_of}

-- ---- the operations of one session
of_here : (one : Tagged) (rest : List Tagged)
    → of_session one.session (one ∷ rest) ≡ one.exchange ∷ of_session one.session rest
unfolding of_session
of_here one rest = rw (eq-eqb one.session one.session refl) refl

of_other : (i : ℕ) (one : Tagged) (rest : List Tagged) → one.session ≢ i
    → of_session i (one ∷ rest) ≡ of_session i rest
unfolding of_session
of_other i one rest differ = rw (ne_eqb one.session i differ) refl

of_same : (i : ℕ) (one : Tagged) (rest : List Tagged) → one.session ≡ i
    → of_session i (one ∷ rest) ≡ one.exchange ∷ of_session i rest
of_same i one rest same =
    subst (λ (j : ℕ). of_session j (one ∷ rest) ≡ one.exchange ∷ of_session j rest) same
    (of_here one rest)

module _ (seed m k : ℕ) (some : 0 < k) where
  -- what each session still owes
  abbrev AllOwe : List Tagged → List Block → Type 0
  AllOwe history blocks = (i : ℕ) → i < k →
      Owes seed (share_of i m k) (share_of (i + 1) m k) (of_session i history) blocks

  abbrev AnswersAll : List Tagged → Type 0
  AnswersAll history = (i : ℕ) → i < k →
      replies_in (of_session i history) ≡ map (demo_reply seed) (ops_of (of_session i history))

  -- the shares end within the blocks
  within : (i : ℕ) → i < k → share_of (i + 1) m k ≤ m
  within i below =
      subst (λ (n : ℕ). share_of (i + 1) m k ≤ n) (share-last m k some)
      (share-order m k some (i + 1) k (omega (arith, below)))

  module _ (one : Tagged) (rest : List Tagged) (old new : List Block) (even : AreBlocks m old)
      (below : one.session < k) (owe : AllOwe (one ∷ rest) old)
      (step : Step 512 old one.exchange new) where
    abbrev first : ℕ
    first = share_of one.session m k

    abbrev end : ℕ
    end = share_of (one.session + 1) m k

    abbrev behind : List Exchange
    behind = of_session one.session rest

    most : end ≤ m
    most = within one.session below

    its : Owes seed first end (one.exchange ∷ behind) old
    its = subst (λ exchanges. Owes seed first end exchanges old) (of_here one rest)
        (owe one.session below)

    next_even : AreBlocks m new
    next_even = first_even seed first end m most old new even one.exchange behind its step

    next_owe : AllOwe rest new
    next_owe i i_below = elim (cases_eq one.session i) [
      | inl same ↦ subst
          (λ (j : ℕ). Owes seed (share_of j m k) (share_of (j + 1) m k) (of_session j rest) new)
          same (owes_rest seed first end m most old new even one.exchange behind its step)
      | inr differ ↦ owes_other seed (share_of i m k) (share_of (i + 1) m k) m (within i i_below)
          old new even first end one.exchange (of_session i rest)
          (subst
          (λ exchanges. Owes seed (share_of i m k) (share_of (i + 1) m k) exchanges old)
          (of_other i one rest differ) (owe i i_below))
          step (first_served seed first end m most old new even one.exchange behind its step)
          (first_own seed first end m most old new even one.exchange behind its step)
          (λ b least most_i first_j end_j. shares-apart m k some i one.session b
          (λ same. differ (sym same)) least most_i first_j end_j)
    ]

    next_replies : AnswersAll rest → AnswersAll (one ∷ rest)
    unfolding replies_in ops_of
    next_replies later i i_below = elim (cases_eq one.session i) [
      | inl same ↦
          let is = of_same i one rest same in
          ap (λ exchanges. replies_in exchanges) is
          ∙ ap₂ (λ x xs. x ∷ xs)
          (first_reply seed first end m most old new even one.exchange behind its step)
          (later i i_below)
          ∙ sym (ap (λ exchanges. map (demo_reply seed) (ops_of exchanges)) is)
      | inr differ ↦
          let is = of_other i one rest differ in
          ap (λ exchanges. replies_in exchanges) is ∙ later i i_below
          ∙ sym (ap (λ exchanges. map (demo_reply seed) (ops_of exchanges)) is)
    ]

  -- what is left in the end
  record Ends (history : List Tagged) (left : List Block) : Type 0 where
    even : AreBlocks m left
    owe : AllOwe [] left
    answers : AnswersAll history

  ends : (history : List Tagged) (blocks left : List Block) → AreBlocks m blocks
      → AreOfClients k history → AllOwe history blocks
      → Legal 512 blocks (untagged history) left → Ends history left
  unfolding AreOfClients untagged Legal replies_in ops_of of_session
  ends [] blocks left even clients owe legal = record {
    even = subst (λ bs. AreBlocks m bs) (sym legal) even;
    owe = λ i below. subst
        (λ bs. Owes seed (share_of i m k) (share_of (i + 1) m k) [] bs)
        (sym legal) (owe i below);
    answers = λ i below. refl;
  }
  ends (one ∷ rest) blocks left even clients owe legal =
      let middle = legal.0 in
      let after = ends rest middle left
      (next_even one rest blocks middle even clients.0 owe legal.1) clients.1
      (next_owe one rest blocks middle even clients.0 owe legal.1) legal.2 in
      record {
        even = after.even;
        owe = after.owe;
        answers = next_replies one rest blocks middle even clients.0 owe legal.1 after.answers;
      }

  share-size : (i : ℕ) → share_of i m k + share_count i m k ≡ share_of (i + 1) m k
  share-size i =
      let order = share-order m k some i (i + 1) (omega arith) in omega (arith, order)

  content : (left : List Block) → AreBlocks m left → AllOwe [] left
      → newest_of left ≡ demo_content seed m
  unfolding demo_content of_session
  content left even owe =
      fill_by_all (demo_block seed) (newest_of left) m [] (count_of m left even) (λ b inside.
      let its = owner m k some b k
      (subst (λ (n : ℕ). b < n) (sym (share-last m k some)) inside) in
      owes_none seed (share_of its.0 m k) (share_of (its.0 + 1) m k) left (owe its.0 its.1) b its.2
      its.3)

pub leaves-content : HistoriesLeaveTheContent
leaves-content seed m k blocks history left some is =
    let found = ends seed m k some history blocks left is.even is.clients
    (λ i below. owes_all seed (share_of i m k) (share_count i m k) (share_of (i + 1) m k)
    (of_session i history) blocks (share-size seed m k some i) (is.asked i below)
    (is.served i below))
    is.legal in
    record {
      newest = content seed m k some left found.even found.owe;
      replies = λ i below.
          found.answers i below ∙ ap (λ ops. map (demo_reply seed) ops) (is.asked i below);
    }

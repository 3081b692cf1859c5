-- The conversion that words wish, and what came of it.
use Rattle.std.proofs.Common.{◌≡◌, ◌≤◌, ℕ, List, Some, None, ap, arith, inl, inr}
use Rattle.std.proofs.Common.{refl, subst}
use Rattle.command_line.specs.Starts.{IsStarting, Starting}
use Rattle.luks_init.specs.DiskInit.Answers.{IsStartedBy, IsUnstartedBy}
use Rattle.luks_init.specs.declared.init_disk.refusal.Refusal.{Refusal}
use Rattle.luks_init.specs.Wishes.{IsWish}
use Rattle.luks_init.specs.declared.wish.Wish.{Wish}
use Rattle.sector_disk.specs.Devices.{Device as DiskState}
use Rattle.reenc_tool.specs.declared.ended.Cause.TheVariants.{Fine}
use Rattle.reenc_tool.specs.Outcomes.{Outcome, ended_refused, ended_with}
use Rattle.reenc_tool.specs.Starting.{ComesToStart, opening_refusal, started_line, wish_of}
use Rattle.reenc_tool.specs.Status.{cause_of_start}
use Rattle.reenc_tool.proofs.MakingLemmas.{key_length}

pub is_wish : (words : Starting) → IsStarting words → IsWish (wish_of words) words.atom
is_wish words is =
    let some : 1 ≤ words.segment.iterations = omega (arith, is.segment.some_rounds) in
    record {
      key = key_length words.segment.cipher words.segment.key_size is.segment.key;
      sector = is.segment.sector;
      whole_sectors = is.segment.sectors;
      some_rounds = some;
      most_rounds = is.segment.most_rounds;
      whole_hotzone = is.whole_hotzone;
      some_hotzone = is.some_hotzone;
      most = is.most_hotzone;
    }

pub is_started : {D L : Type 0} (device : D → DiskState) (words : Starting) (wish : Wish)
    (pass seed : List ℕ) (disk back : D) (outcome : Outcome D L) (line : List ℕ) →
    wish ≡ wish_of words → IsStartedBy device disk wish pass seed back →
    outcome ≡ ended_with Fine (Some back) None → line ≡ started_line words →
    ComesToStart device words pass seed disk outcome (Some line)
is_started device words wish pass seed disk back outcome line wish_is started is line_is =
    inl (record {
      back = back;
      started = subst (λ (w : Wish). IsStartedBy device disk w pass seed back) wish_is started;
      outcome_is = is;
      report_is = ap Some line_is;
    })

pub is_unstarted : {D L : Type 0} (device : D → DiskState) (words : Starting) (wish : Wish)
    (pass seed : List ℕ) (disk back : D) (refusal : Refusal) (outcome : Outcome D L) →
    wish ≡ wish_of words → IsUnstartedBy device disk wish pass seed refusal back →
    outcome ≡ ended_refused (cause_of_start refusal (device back).faults) (opening_refusal refusal)
    None back →
    ComesToStart device words pass seed disk outcome None
is_unstarted device words wish pass seed disk back refusal outcome wish_is refused is =
    inr (inl (record {
      refusal = refusal;
      back = back;
      refused = subst (λ (w : Wish). IsUnstartedBy device disk w pass seed refusal back)
          wish_is refused;
      outcome_is = is;
      report_is = refl;
    }))

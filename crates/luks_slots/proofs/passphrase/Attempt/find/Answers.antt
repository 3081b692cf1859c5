use Rattle.std.proofs.Common.{◌≡◌, inr, ℕ, List, length, Option, Some, None, IfSome, sym, ◌∙◌, ap}
use Rattle.std.proofs.Common.{subst}
use Rattle.std.proofs.lemmas.List.{length-replicate}
use Rattle.luks_slots.proofs.DiskLemmas.{unwritten-joined}
use Rattle.luks_slots.proofs.UnlockLemmas.{key-high, key-normal}
use Rattle.luks_slots.specs.Unlocks.{IsRight}
use Rattle.luks_slots.proofs.passphrase.Attempt.find.Goals as goal

pub try_all-requires-clause-buffer : goal.try_all-requires-clause-buffer
try_all-requires-clause-buffer g c =
    ap length (c.as_mut_slice-stripes.ensures.value ∙ c.in-Ok.ensures)
    ∙ length-replicate {A = ℕ} 258048 0

pub returns-in-Ok-Some-clause-unlocked : goal.returns-in-Ok-Some-clause-unlocked
returns-in-Ok-Some-clause-unlocked g c =
    let is : c.in-Ok-Some.field-0 ≡ Some c.in-Ok-Some.key =
    (let a = c.in-Ok-Some.is in let b = c.in-Ok-Some.field-0-is in cc) in
    record {
      exact = λ image told. inr (sym (key-high c.args.self.now.parts.now
          c.args.self.now.digest.now image c.args.self.now.pass.now c.in-Ok-Some.key
          (sym (c.in-Ok-Some.ensures.found image told) ∙ is)));
      right = subst
          (λ (o : Option (List ℕ)). IfSome o
          (IsRight c.args.self.now.parts.now c.args.self.now.digest.now)) is
          c.in-Ok-Some.ensures.right;
    }

pub returns-in-Ok-Some-try_all-clause-unlocked : goal.returns-in-Ok-Some-try_all-clause-unlocked
returns-in-Ok-Some-try_all-clause-unlocked g c =
    let none : c.in-Ok-None.field-0 ≡ None =
    (let a = c.in-Ok-None.is in let b = c.in-Ok-None.field-0-is in cc) in
    let is : c.in-Ok-Some-try_all.field-0 ≡ Some c.in-Ok-Some-try_all.key =
    (let a = c.in-Ok-Some-try_all.is in let b = c.in-Ok-Some-try_all.field-0-is in cc) in
    record {
      exact = λ image told. inr (sym (key-normal c.args.self.now.parts.now
          c.args.self.now.digest.now image c.args.self.now.pass.now
          (Some c.in-Ok-Some-try_all.key)
          (sym (c.in-Ok-None.ensures.found image told) ∙ none)
          (sym (c.in-Ok-Some-try_all.ensures.found image
          (c.try_all.ensures.unwritten.values ∙ told)) ∙ is)));
      right = subst
          (λ (o : Option (List ℕ)). IfSome o
          (IsRight c.args.self.now.parts.now c.args.self.now.digest.now)) is
          c.in-Ok-Some-try_all.ensures.right;
    }

pub returns-in-Ok-list_refusals-clause-unlocked : goal.returns-in-Ok-list_refusals-clause-unlocked
returns-in-Ok-list_refusals-clause-unlocked g c =
    let none : c.in-Ok-None.field-0 ≡ None =
    (let a = c.in-Ok-None.is in let b = c.in-Ok-None.field-0-is in cc) in
    let later : c.in-Ok-None-try_all.field-0 ≡ None =
    (let a = c.in-Ok-None-try_all.is in let b = c.in-Ok-None-try_all.field-0-is in cc) in
    record {
      exact = λ image told. inr (sym (key-normal c.args.self.now.parts.now
          c.args.self.now.digest.now image c.args.self.now.pass.now None
          (sym (c.in-Ok-None.ensures.found image told) ∙ none)
          (sym (c.in-Ok-None-try_all.ensures.found image
          (c.try_all.ensures.unwritten.values ∙ told)) ∙ later)));
      right = c.new.ensures ∙ c.in-Ok-list_refusals.ensures;
    }

pub returns-in-Ok-list_refusals-clause-unwritten : goal.returns-in-Ok-list_refusals-clause-unwritten
returns-in-Ok-list_refusals-clause-unwritten g c =
    unwritten-joined _ _ _ c.try_all.ensures.unwritten c.try_all-2.ensures.unwritten

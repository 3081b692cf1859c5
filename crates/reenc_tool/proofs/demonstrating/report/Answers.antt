use Rattle.std.proofs.Common.{◌∙◌, ap, arith, length, refl, sym, List, ℕ, Vec, Global}
use Rattle.std.specs.List.{list_all}
use Rattle.std.specs.Prelude.{string_bytes}
use Rattle.bays.specs.Memory.{Line}
use Rattle.command_line.specs.Demonstrations.{demonstrating}
use Rattle.demo_clients.specs.Texts.{demo_text}
use Rattle.nbd_session.specs.declared.ending.SessionEnd.{SessionEnd}
use Rattle.reenc_tool.specs.Demonstrating.{has_disconnected}
use Rattle.reenc_tool.specs.Outcomes.{outcome_of}
use Rattle.reenc_tool.proofs.DemoLemmas.{read_so}
use Rattle.sha2.specs.Sha256.{sha256}
use Rattle.reenc_tool.proofs.demonstrating.report.Goals as goal

pub returns-in-Ok : goal.returns-in-Ok
returns-in-Ok c =
    let demo = demonstrating c.args.words.now in
    let count = ap (λ (l : List Line). length l) c.as_slice-2.ensures.value in
    let len = c.len.ensures in
    let same = c.if-len-words.false in
    let read = rw c.in-Ok-Some.field-0-is at (c.in-Ok-Some.ensures.read demo.seed) in
    read_so demo (outcome_of c.args.served.now) c.args.served.now.sessions.items
    c.as_slice-2.result.now c.in-Ok-Some.content.items (string_bytes c.in-Ok.text) refl
    (ap (list_all (λ (list : Vec SessionEnd Global). has_disconnected list.items))
    (sym c.as_slice.ensures.value)
    ∙ sym c.all_disconnected.ensures ∙ c.if-not-all_disconnected.false) c.as_slice-2.ensures.value
    (omega (arith, count, len, same)) read
    (c.in-Ok.ensures
    ∙ ap (λ (digest : List ℕ). demo_text demo.seed demo.blocks demo.workers digest)
    (c.digest-digest.ensures ∙ ap sha256 c.as_slice-in-Ok-Some.ensures.value))

use Rattle.std.proofs.Common.{ℕ, ◌∙◌, map, ap, sym, subst, option_map}
use Rattle.std.specs.Prelude.{string_bytes, vec_len}
use Rattle.reenc_tool.specs.declared.ended.Cause.{Cause}
use Rattle.reenc_tool.specs.Ending.{EndsAs}
use Rattle.reenc_tool.specs.Outcomes.{known_by}
use Rattle.reenc_tool.specs.Texts.{Prints, said, sessions_in, text_of}
use Rattle.reenc_tool.proofs.RunLemmas.{same_outcome}
use Rattle.reenc_tool.proofs.text.print_end.Goals as goal

pub returns-clause-cause : goal.returns-clause-cause
returns-clause-cause g c =
    let before = g.O.Sink.outlet c.args.out.now in
    let after = g.O.Sink.outlet c.print-cause.new.out in
    subst (λ (cause : Cause). EndsAs c.args.ended.cause before.faults after.faults cause)
    (sym c.ending_by.ensures.cause) c.print-cause.ensures.cause

pub returns-clause-rest : goal.returns-clause-rest
returns-clause-rest g c =
    let is = c.ending_by.ensures in
    same_outcome c.args.ended.cause _ _ _ _ _ _ _ _ _ _ _ _ _ _ _ _ _ _ (sym is.fault)
    (sym is.refusal) (sym is.memory) (sym is.disk) (sym is.header)
    (ap (option_map (λ pass. known_by pass)) (sym is.pass))
    (ap (option_map (λ pass. known_by pass)) (sym is.demo))
    (ap (λ links. links.items) (sym is.links))
    (ap (λ ends. map (λ list. list.items) ends.items) (sym is.sessions))

pub returns-clause-text : goal.returns-clause-text
returns-clause-text g c =
    let before = g.O.Sink.outlet c.args.out.now in
    let after = g.O.Sink.outlet c.print-cause.new.out in
    let cause = c.args.ended.cause in
    let report = option_map (λ text. string_bytes text) c.args.report.now in
    let is = c.ending_by.ensures in
    subst (λ (last : Cause). Prints before after (text_of cause last
    (said report (sessions_in (λ list. vec_len list) c.ending_by.result.sessions.items)))) (sym is.cause)
    (subst (λ (count : ℕ). Prints before after (text_of cause c.print-cause.result (said report count)))
    (c.count_sessions-count.ensures
    ∙ ap (sessions_in (λ list. vec_len list))
    (c.as_slice.ensures.value ∙ ap (λ lists. lists.items) (sym is.sessions)))
    c.print-cause.ensures.text)

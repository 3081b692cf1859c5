use Rattle.std.proofs.Common.{[], ◌∷◌, codes, refl, sym, ap, subst, ◌∙◌}
use Rattle.std.proofs.lemmas.Result.{err_from_is_err_and}
use Rattle.json_members.specs.Fields.{Fails}
use Rattle.json_members.specs.Members.{without}
use Rattle.luks_json.specs.Digests.{digest_of}
use Rattle.luks_json.specs.Metas.{config_in, list_in}
use Rattle.luks_json.specs.Segments.{segment_of}
use Rattle.luks_json.specs.Tokens.{token_of}
use Rattle.luks_json.proofs.MetaLemmas.{config_fails, config_left, digests_fail, list_left}
use Rattle.luks_json.proofs.MetaLemmas.{parts_read, segments_fail, slots_read, tokens_fail}
use Rattle.luks_json.proofs.meta.read_parts.Goals as goal

pub returns-in_err-tokens : goal.returns-in_err-tokens
returns-in_err-tokens c =
    let ms = c.args.object in
    let step = c.from_residual-in_err-tokens in
    let p = err_from_is_err_and step.result step.ensures.1 in
    let slots =
    slots_read ms c.origin_at-origin.result c.in_ok-keyslots.keyslots c.in_ok-look_for_all.field-0
    c.in_ok-look_for_all.ensures c.origin_at-origin.ensures c.in_ok-keyslots.ensures.is in
    let taken = c.take_list.ensures.rest in
    let same =
    ap (list_in token_of (codes "tokens")) taken
    ∙ list_left token_of (codes "tokens") (codes "keyslots" ∷ []) ms refl in
    rw (p.1, p.2)
    (tokens_fail c.args.hdr_size ms c.in_err-tokens.field-0.0 c.in_ok-keyslots.keyslots slots
    (subst (Fails c.in_err-tokens.field-0.0) same c.in_err-tokens.ensures.is))

pub returns-in_err-segments : goal.returns-in_err-segments
returns-in_err-segments c =
    let ms = c.args.object in
    let step = c.from_residual-in_err-segments in
    let p = err_from_is_err_and step.result step.ensures.1 in
    let slots =
    slots_read ms c.origin_at-origin.result c.in_ok-keyslots.keyslots c.in_ok-look_for_all.field-0
    c.in_ok-look_for_all.ensures c.origin_at-origin.ensures c.in_ok-keyslots.ensures.is in
    let one = c.take_list.ensures.rest in
    let two = c.take_list-2.ensures.rest ∙ ap (without (codes "tokens")) one in
    let tokens =
    sym (ap (list_in token_of (codes "tokens")) one
    ∙ list_left token_of (codes "tokens") (codes "keyslots" ∷ []) ms refl)
    ∙ c.in_ok-tokens.ensures.is in
    let same =
    ap (list_in segment_of (codes "segments")) two
    ∙ list_left segment_of (codes "segments") (codes "keyslots" ∷ codes "tokens" ∷ []) ms refl in
    rw (p.1, p.2)
    (segments_fail c.args.hdr_size ms c.in_err-segments.field-0.0 c.in_ok-keyslots.keyslots
    c.in_ok-tokens.tokens slots tokens
    (subst (Fails c.in_err-segments.field-0.0) same c.in_err-segments.ensures.is))

pub returns-in_err-digests : goal.returns-in_err-digests
returns-in_err-digests c =
    let ms = c.args.object in
    let step = c.from_residual-in_err-digests in
    let p = err_from_is_err_and step.result step.ensures.1 in
    let slots =
    slots_read ms c.origin_at-origin.result c.in_ok-keyslots.keyslots c.in_ok-look_for_all.field-0
    c.in_ok-look_for_all.ensures c.origin_at-origin.ensures c.in_ok-keyslots.ensures.is in
    let one = c.take_list.ensures.rest in
    let two = c.take_list-2.ensures.rest ∙ ap (without (codes "tokens")) one in
    let three = c.take_list-3.ensures.rest ∙ ap (without (codes "segments")) two in
    let tokens =
    sym (ap (list_in token_of (codes "tokens")) one
    ∙ list_left token_of (codes "tokens") (codes "keyslots" ∷ []) ms refl)
    ∙ c.in_ok-tokens.ensures.is in
    let segments =
    sym (ap (list_in segment_of (codes "segments")) two
    ∙ list_left segment_of (codes "segments") (codes "keyslots" ∷ codes "tokens" ∷ []) ms refl)
    ∙ c.in_ok-segments.ensures.is in
    let same =
    ap (list_in digest_of (codes "digests")) three
    ∙ list_left digest_of (codes "digests")
    (codes "keyslots" ∷ codes "tokens" ∷ codes "segments" ∷ []) ms refl in
    rw (p.1, p.2)
    (digests_fail c.args.hdr_size ms c.in_err-digests.field-0.0 c.in_ok-keyslots.keyslots
    c.in_ok-tokens.tokens c.in_ok-segments.segments slots tokens segments
    (subst (Fails c.in_err-digests.field-0.0) same c.in_err-digests.ensures.is))

pub returns-in_err-config : goal.returns-in_err-config
returns-in_err-config c =
    let ms = c.args.object in
    let step = c.from_residual-in_err-config in
    let p = err_from_is_err_and step.result step.ensures.1 in
    let slots =
    slots_read ms c.origin_at-origin.result c.in_ok-keyslots.keyslots c.in_ok-look_for_all.field-0
    c.in_ok-look_for_all.ensures c.origin_at-origin.ensures c.in_ok-keyslots.ensures.is in
    let one = c.take_list.ensures.rest in
    let two = c.take_list-2.ensures.rest ∙ ap (without (codes "tokens")) one in
    let three = c.take_list-3.ensures.rest ∙ ap (without (codes "segments")) two in
    let four = c.take_list-4.ensures.rest ∙ ap (without (codes "digests")) three in
    let tokens =
    sym (ap (list_in token_of (codes "tokens")) one
    ∙ list_left token_of (codes "tokens") (codes "keyslots" ∷ []) ms refl)
    ∙ c.in_ok-tokens.ensures.is in
    let segments =
    sym (ap (list_in segment_of (codes "segments")) two
    ∙ list_left segment_of (codes "segments") (codes "keyslots" ∷ codes "tokens" ∷ []) ms refl)
    ∙ c.in_ok-segments.ensures.is in
    let digests =
    sym (ap (list_in digest_of (codes "digests")) three
    ∙ list_left digest_of (codes "digests")
    (codes "keyslots" ∷ codes "tokens" ∷ codes "segments" ∷ []) ms refl)
    ∙ c.in_ok-digests.ensures.is in
    let same =
    ap (config_in c.args.hdr_size) four
    ∙ config_left c.args.hdr_size
    (codes "keyslots" ∷ codes "tokens" ∷ codes "segments" ∷ codes "digests" ∷ []) ms refl in
    rw (p.1, p.2)
    (config_fails c.args.hdr_size ms c.in_err-config.field-0.0 c.in_ok-keyslots.keyslots
    c.in_ok-tokens.tokens c.in_ok-segments.segments c.in_ok-digests.digests slots tokens segments
    digests
    (subst (Fails c.in_err-config.field-0.0) same c.in_err-config.ensures.is))

pub returns : goal.returns
returns c =
    let ms = c.args.object in
    let slots =
    slots_read ms c.origin_at-origin.result c.in_ok-keyslots.keyslots c.in_ok-look_for_all.field-0
    c.in_ok-look_for_all.ensures c.origin_at-origin.ensures c.in_ok-keyslots.ensures.is in
    let one = c.take_list.ensures.rest in
    let two = c.take_list-2.ensures.rest ∙ ap (without (codes "tokens")) one in
    let three = c.take_list-3.ensures.rest ∙ ap (without (codes "segments")) two in
    let four = c.take_list-4.ensures.rest ∙ ap (without (codes "digests")) three in
    let five = c.take_config.ensures.rest ∙ ap (without (codes "config")) four in
    let tokens =
    sym (ap (list_in token_of (codes "tokens")) one
    ∙ list_left token_of (codes "tokens") (codes "keyslots" ∷ []) ms refl)
    ∙ c.in_ok-tokens.ensures.is in
    let segments =
    sym (ap (list_in segment_of (codes "segments")) two
    ∙ list_left segment_of (codes "segments") (codes "keyslots" ∷ codes "tokens" ∷ []) ms refl)
    ∙ c.in_ok-segments.ensures.is in
    let digests =
    sym (ap (list_in digest_of (codes "digests")) three
    ∙ list_left digest_of (codes "digests")
    (codes "keyslots" ∷ codes "tokens" ∷ codes "segments" ∷ []) ms refl)
    ∙ c.in_ok-digests.ensures.is in
    let config =
    sym (ap (config_in c.args.hdr_size) four
    ∙ config_left c.args.hdr_size
    (codes "keyslots" ∷ codes "tokens" ∷ codes "segments" ∷ codes "digests" ∷ []) ms refl)
    ∙ c.in_ok-config.ensures.is in
    parts_read c.args.hdr_size ms c.take_config.new.object c.in_ok-keyslots.keyslots
    c.in_ok-tokens.tokens c.in_ok-segments.segments c.in_ok-digests.digests c.in_ok-config.config
    slots tokens segments digests config five

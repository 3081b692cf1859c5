use Rattle.std.proofs.Common.{◌+◌, ◌∙◌, ap}
use Rattle.luks_bin.specs.Writing.{written}
use Rattle.luks_bin.specs.declared.header.BinHeader.{BinHeader}
use Rattle.luks_json.specs.Metas.{data_of, meta_from}
use Rattle.luks_rules.proofs.SoundLemmas.{sound}
use Rattle.luks_store.proofs.CommitLemmas.{is-held, same-meaning, whole-text}
use Rattle.luks_store.proofs.PlainTextLemmas.{plain-text}
use Rattle.luks_store.proofs.RoomLemmas.{room-of}
use Rattle.luks_store.proofs.TextLemmas.{read-utf8}
use Rattle.luks_store.specs.declared.copies.Copies.{Copies}
use Rattle.luks_store.specs.declared.copies.CopyState.TheVariants.{Good}
use Rattle.luks_store.proofs.commit.prepare.Goals as goal

pub new-requires-clause-plain : goal.new-requires-clause-plain
new-requires-clause-plain c =
    plain-text (data_of c.args.meta.now) c.as_slice.result.now
    (c.as_slice.ensures ∙ c.in-Ok.ensures.text)

pub invariant_of-result : goal.invariant_of-result
invariant_of-result c =
    let spelt = c.copies_are_spelt.ensures in
    let made = c.in-Ok-new.ensures in
    let h = c.args.header.now in
    let size = h.hdr_size in
    let primary : BinHeader =
    record h { seqid = h.seqid + 1; salt = c.args.first_salt.now; hdr_offset = 0 } in
    let secondary : BinHeader =
    record h { seqid = h.seqid + 1; salt = c.args.second_salt.now; hdr_offset = size } in
    let one = c.in-Ok-new.copies.first in
    let two = c.in-Ok-new.copies.second in
    let first = whole-text spelt 0 one primary made.primary made.first_size in
    let second = whole-text spelt size two secondary made.secondary made.second_size in
    let rising = c.parts-parts.ensures.right.digests.rising in
    let read =
    ap (meta_from (c.args.meta.now.config.json_size + 4096)) c.as_slice.ensures
    ∙ c.in-Ok.ensures.back in
    let left : Copies = record {
      used = record { header = primary; bytes = one };
      primary = record { state = Good; salt = c.args.first_salt.now };
      secondary = record { state = Good; salt = c.args.second_salt.now };
    } in
    record {
      first = first;
      second = second;
      same = same-meaning spelt (record { header = primary; bytes = one })
          (record { header = secondary; bytes = two }) made.valid
          made.same_size second;
      size = made.size;
      atom = c.requires.atom;
      held = is-held c.args.sizes left c.args.meta.now c.as_slice.result.now c.requires.size
          made.text read c.requires.rules;
      room = room-of c.args.meta.now c.args.sizes size
          (sound c.args.meta.now c.args.sizes c.requires.atom rising c.requires.rules)
          c.requires.size;
      hidden = made.hidden
          (read-utf8 (c.args.meta.now.config.json_size + 4096) c.as_slice.result.now c.args.meta.now
          read);
    }

pub returns-in-Ok-new-clause-bytes : goal.returns-in-Ok-new-clause-bytes
returns-in-Ok-new-clause-bytes c =
    let made = c.in-Ok-new.ensures in
    let text = c.as_slice.ensures ∙ c.in-Ok.ensures.text in
    record {
      first = made.first_bytes ∙ ap (written _) text;
      second = made.second_bytes ∙ ap (written _) text;
    }

use Rattle.std.proofs.Common.{◌≡◌, [], ◌++◌, ◌∙◌, append_assoc}
use Rattle.nbd_wire.specs.declared.options.OptionHead.{OptionHead}
use Rattle.nbd_wire.specs.declared.options.OptionType.TheVariants.{Go}
use Rattle.nbd_wire.specs.Fields.{u32_text}
use Rattle.nbd_wire.specs.Options.{option_text}
use Rattle.demo_clients.specs.Inputs.{go_data, go_text}
use Rattle.demo_clients.proofs.input.Sending.begin.Goals as goal

pub returns-clause-bytes : goal.returns-clause-bytes
unfolding go_text
returns-clause-bytes c =
    let head : OptionHead = record { option = Go; length = 6 } in
    let parts : c.extend_from_slice-3.new.self.items
    ≡ (([] ++ u32_text 3) ++ option_text head) ++ go_data =
    cc (
      c.new-bytes.ensures.items,
      c.write.ensures,
      c.write-2.ensures,
      c.in_ok-extend_from_slice.ensures.items,
      c.in_ok-extend_from_slice-2.ensures.items,
      c.in_ok-extend_from_slice-3.ensures.items,
    ) in
    parts ∙ append_assoc (u32_text 3) (option_text head) go_data

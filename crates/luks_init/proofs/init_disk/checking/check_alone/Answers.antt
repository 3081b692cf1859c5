use Rattle.std.proofs.Common.{◌∙◌, ap, sym}
use Rattle.base_terms.specs.declared.disk_sizes.Sizes.{Sizes}
use Rattle.header_report.proofs.ExamineLemmas.{alone_sizes, alone_values}
use Rattle.luks_init.proofs.DiskInit.CheckLemmas.{refused_alone}
use Rattle.sector_disk.specs.JoinedDisks.Counts.{sizes_of}
use Rattle.sector_disk.specs.JoinedDisks.Joined.{Joint, joined_disk}
use Rattle.luks_store.specs.Devices.{device_of}
use Rattle.luks_init.proofs.init_disk.checking.check_alone.Goals as goal

pub returns-clause-refused : goal.returns-clause-refused
returns-clause-refused g c =
    let device = g.D.Disk.device c.args.disk in
    let disk = g.met.D.Disk.geometry c.args.disk in
    let joint = c.alone-joined.ensures.joint in
    let atom = ap (λ (s : Sizes). s.atom) (sym c.sizes-sizes.ensures.is)
    ∙ c.sizes-sizes.ensures.atom ∙ ap (λ (j : Joint). (joined_disk j).size) joint in
    refused_alone device (sizes_of c.alone-joined.result) (device_of c.alone-joined.result).values
    c.args.keys.now.new c.check-checked.result
    (alone_sizes c.alone-joined.result device disk joint c.alone-joined.ensures.head atom)
    (λ all is. ap (λ (j : Joint). (joined_disk j).values) joint
    ∙ alone_values device all disk is (g.met.D.Disk.whole c.args.disk all is))
    c.check-checked.ensures.refused

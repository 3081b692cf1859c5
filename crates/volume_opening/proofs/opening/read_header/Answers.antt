use Rattle.std.proofs.Common.{◌≡◌, ◌∙◌, ◌*◌, ◌≤◌, ℕ, List, Some, length, ap, ap₂, sym}
use Rattle.std.proofs.Common.{subst, arith, IfOk}
use Rattle.base_terms.specs.declared.disk_sizes.Sizes.{Sizes}
use Rattle.header_report.proofs.ExamineLemmas.{alone_sizes, alone_values, answers_alone}
use Rattle.sector_disk.specs.JoinedDisks.Counts.{sizes_of}
use Rattle.sector_disk.specs.JoinedDisks.Joined.{Joint, both_faults, in_front, joined_disk}
use Rattle.luks_store.specs.Devices.{device_of}
use Rattle.volume_opening.proofs.ReadLemmas.{cause_of, found_of, told_of}
use Rattle.volume_opening.proofs.opening.read_header.Goals as goal

pub returns-clause-found : goal.returns-clause-found
returns-clause-found g c =
    let device = g.D.Disk.device c.args.disk in
    let disk = g.met.D.Disk.geometry c.args.disk in
    let long : (all : List ℕ) → device.values ≡ Some all → length all ≡ device.atoms * device.size =
    λ all is. g.met.D.Disk.whole c.args.disk all is in
    let joint = c.alone-joined.ensures.joint in
    let atom : (sizes_of c.alone-joined.result).atom ≡ device.size =
    ap (λ (s : Sizes). s.atom) (sym c.sizes-sizes.ensures.is) ∙ c.sizes-sizes.ensures.atom
    ∙ ap (λ (j : Joint). (joined_disk j).size) joint in
    let sizes =
    alone_sizes c.alone-joined.result device disk joint c.alone-joined.ensures.head atom in
    found_of device c.load-loaded.result
    (answers_alone device (sizes_of c.alone-joined.result) (device_of c.alone-joined.result).values
    c.load-loaded.result sizes long
    (λ all is. ap (λ (j : Joint). (joined_disk j).values) joint
    ∙ alone_values device all disk is (long all is))
    c.load-loaded.ensures.held)
    (subst (λ (s : Sizes). IfOk c.load-loaded.result (λ stored. stored.valid.sizes ≡ s)) sizes
    c.load-loaded.ensures.sized)

pub returns-clause-told : goal.returns-clause-told
returns-clause-told g c =
    let device = g.D.Disk.device c.args.disk in
    let disk = g.met.D.Disk.geometry c.args.disk in
    let long : (all : List ℕ) → device.values ≡ Some all → length all ≡ device.atoms * device.size =
    λ all is. g.met.D.Disk.whole c.args.disk all is in
    let joint = c.alone-joined.ensures.joint in
    let atom : (sizes_of c.alone-joined.result).atom ≡ device.size =
    ap (λ (s : Sizes). s.atom) (sym c.sizes-sizes.ensures.is) ∙ c.sizes-sizes.ensures.atom
    ∙ ap (λ (j : Joint). (joined_disk j).size) joint in
    let sizes =
    alone_sizes c.alone-joined.result device disk joint c.alone-joined.ensures.head atom in
    told_of device c.load-loaded.result
    (answers_alone device (sizes_of c.alone-joined.result) (device_of c.alone-joined.result).values
    c.load-loaded.result sizes long
    (λ all is. ap (λ (j : Joint). (joined_disk j).values) joint
    ∙ alone_values device all disk is (long all is))
    c.load-loaded.ensures.held)

pub returns-clause-read : goal.returns-clause-read
returns-clause-read g c =
    let device = g.D.Disk.device c.args.disk in
    let joint = c.alone-joined.ensures.joint in
    let kept = c.load-loaded.ensures.unwritten in
    let main = c.parts-head.ensures.main in
    let later : device.faults ≤ (g.D.Disk.device c.parts-head.result.1).faults =
    omega (
      arith,
      kept.main.later,
      ap (λ (j : Joint). j.main.faults) joint,
      ap (λ d. (g.D.Disk.device d).faults) main,
    ) in
    record {
      size = ap (λ d. (g.D.Disk.device d).size) main ∙ kept.main.size
          ∙ ap (λ (j : Joint). j.main.size) joint;
      atoms = ap (λ d. (g.D.Disk.device d).atoms) main ∙ kept.main.atoms
          ∙ ap (λ (j : Joint). j.main.atoms) joint;
      tail = ap (λ d. (g.D.Disk.device d).tail) main ∙ kept.main.tail
          ∙ ap (λ (j : Joint). j.main.tail) joint;
      values = ap (λ d. (g.D.Disk.device d).values) main ∙ kept.main.values
          ∙ ap (λ (j : Joint). j.main.values) joint;
      later = later;
      told = λ now is.
          (let (before, was, reads) =
          kept.main.told now (sym (ap (λ d. (g.D.Disk.device d).told) main) ∙ is) in
          (before, sym (ap (λ (j : Joint). j.main.told) joint) ∙ was, reads));
    }

pub returns-clause-cause : goal.returns-clause-cause
returns-clause-cause g c =
    let after = c.load-loaded.new.disk in
    let none = sym c.parts-head.ensures.head ∙ c.in-None.is in
    cause_of (device_of c.alone-joined.result) (device_of after) (g.D.Disk.device c.args.disk)
    (g.D.Disk.device c.parts-head.result.1) c.load-loaded.result
    (ap (λ (j : Joint). (joined_disk j).faults) c.alone-joined.ensures.joint)
    (ap₂ both_faults (ap (λ h. (in_front g.D.Disk.device after.atom h).faults) none)
    (ap (λ d. (g.D.Disk.device d).faults) (sym c.parts-head.ensures.main)))
    c.load-loaded.ensures.cause

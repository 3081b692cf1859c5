-- Once all is saved of a zone it has what its guard needs.
use Rattle.std.proofs.Common.{◌≡◌, ◌∙◌, ℕ, ◌*◌, ◌≤◌, List, refl, sym, ap, subst, arith}
use Rattle.std.proofs.lemmas.Grind.{div_ceil_times}
use Rattle.crash_laws.specs.HeaderAreas.Headers.{Header, Layout}
use Rattle.sector_disk.specs.DiskViews.Views.{View}
use Rattle.crash_laws.specs.HotZones.Standing.{IsKept}
use Rattle.crash_laws.specs.HotZones.Zones.{Texts}
use Rattle.hotzone.proofs.CompareLemmas.{saved-atoms-all}
use Rattle.hotzone.proofs.LawLemmas.{some-atom}
use Rattle.hotzone.specs.Known.{IsKnown, TellBy, told_count, zone_by}
use Rattle.hotzone.specs.Promises.{HasSaved}
use Rattle.hotzone.specs.Sites.{count_of, kind_of, saved_count}
use Rattle.hotzone.specs.declared.site.Guard.{Guard}
use Rattle.hotzone.specs.declared.site.Guard.TheVariants as guards
use Rattle.hotzone.specs.declared.site.Site.{Site}
use Rattle.hotzone.specs.declared.worker.NextCall.{NextCall}
use Rattle.hotzone.specs.declared.worker.NextCall.TheVariants.{Begin, ReadFirst, SaveFirst, Read}
use Rattle.hotzone.specs.declared.worker.NextCall.TheVariants.{Save, Keep, Open, ReadAgain, Write}
use Rattle.hotzone.specs.declared.worker.NextCall.TheVariants.{Settle, Move, Finish, End, Wipe, Rest}
use Rattle.hotzone.specs.declared.worker.NextCall.TheVariants.{Over}
use Rattle.hotzone.specs.declared.worker.Worker.{Worker}
use Rattle.sector_disk.specs.Geometry.{IsAtom}
use Rattle.volume_laws.proofs.DigestLemmas.{digests_told, even_atom}
use Rattle.volume_machine.specs.Saved.{saved_atoms, saved_hash, saved_of}
use Rattle.volume_machine.specs.Seals.{Seals}

-- the digests of all blocks were compared then
all-told : (site : Site) (next : NextCall) → HasSaved next → told_count site next ≡ count_of site
all-told site Begin saved = absurd saved
all-told site ReadFirst saved = absurd saved
all-told site SaveFirst saved = absurd saved
all-told site (Read done headers) saved = absurd saved
all-told site (Save done headers) saved = absurd saved
all-told site (Keep headers) saved = refl
all-told site (Open headers) saved = refl
all-told site (ReadAgain done headers) saved = refl
all-told site (Write done headers) saved = refl
all-told site (Settle headers) saved = refl
all-told site (Move headers) saved = refl
all-told site Finish saved = absurd saved
all-told site (End ending) saved = absurd saved
all-told site (Wipe done ending) saved = absurd saved
all-told site (Rest ending) saved = absurd saved
all-told site (Over ending) saved = absurd saved

pub step-keeps : {C : Type 0} (seals : Seals) (layout : Layout)
    (first middle moved : Header (List ℕ)) (texts : Texts) (worker : Worker C) (view : View)
    → IsAtom worker.site.atom → HasSaved worker.next
    → IsKnown seals layout first middle moved texts worker view
    → IsKept (kind_of worker.site.guard) saved_hash (zone_by worker.site first middle moved) texts
step-keeps seals layout first middle moved texts worker view atom saved known =
    go worker.site.guard refl
  where
    saved-is : (g : Guard) → worker.site.guard ≡ g → (i : ℕ)
        → texts.saved i ≡ saved_of (kind_of g) worker.site.atom (count_of worker.site) texts.old i
    saved-is g is i =
        known.texts_are.saved i ∙ ap (λ h. saved_of (kind_of h) worker.site.atom (count_of worker.site) texts.old i) is

    told : (g : Guard) → worker.site.guard ≡ g → TellBy g (count_of worker.site) texts
    told g is =
        subst (λ h. TellBy h (count_of worker.site) texts) is
        (subst (λ n. TellBy worker.site.guard n texts) (all-told worker.site worker.next saved)
        known.told)

    go : (g : Guard) → worker.site.guard ≡ g
        → IsKept (kind_of g) saved_hash (zone_by worker.site first middle moved) texts
    go guards.Journal is = record {
      are = λ i below. saved-is guards.Journal is i;
      enough = (let all = saved-atoms-all worker.site is in omega (arith, all));
    }
    go guards.Checksum is = record {
      are = λ i below. digests_told worker.site.atom (count_of worker.site) texts.old (even_atom worker.site.atom atom) texts.saved
          (saved-is guards.Checksum is) (saved_count worker.site) i
          (subst (λ n. (count_of worker.site) * 32 ≤ n * worker.site.atom)
          (sym (ap (λ h. saved_atoms (kind_of h) worker.site.atom (count_of worker.site)) is))
          (div_ceil_times ((count_of worker.site) * 32) worker.site.atom (some-atom worker.site.atom atom)).0) below;
      differ = told guards.Checksum is;
    }

-- What the calls leave that write a new volume, where all of them succeed.
use Rattle.std.proofs.Common.{◌≡◌, inl, inr, ℕ, ◌+◌, ◌*◌, ◌/◌, ◌%◌, ◌≤◌, List, [], ◌∷◌}
use Rattle.std.proofs.Common.{◌++◌, length, drop}
use Rattle.std.proofs.Common.{Some, refl, sym, ◌∙◌, ap, subst, arith}
use Rattle.base_terms.specs.Blocks.{pasted}
use Rattle.base_terms.specs.declared.disk_sizes.Sizes.{Sizes}
use Rattle.luks_format.proofs.DiskFormat.FrontLemmas.{IsFront, is-front}
use Rattle.luks_format.proofs.DiskFormat.PasteLemmas.{all-pasted}
use Rattle.luks_format.specs.DiskFormat.Calls.{FitsNew, WritesVolume}
use Rattle.luks_format.specs.DiskFormat.Volumes.{IsNewVolume}
use Rattle.luks_format.specs.DiskFormat.Written.{written_over}
use Rattle.luks_format.specs.declared.format_disk.volume.NewVolume.{NewVolume}
use Rattle.luks_store.specs.Copying.Held.{primary_of, secondary_of}
use Rattle.luks_store.specs.declared.header_copies.commit.Stage.TheVariants.{Begun, FirstWritten, FirstKept}
use Rattle.luks_store.specs.declared.header_copies.commit.Stage.TheVariants.{SecondWritten}
use Rattle.luks_format.proofs.SizeLemmas.{copies-page, size-page}
use Rattle.luks_format.specs.Wishes.{FitsDisk, IsWish}
use Rattle.luks_format.specs.declared.wish.Wish.{Wish}
use Rattle.sector_disk.specs.Devices.{Device, WriteCall, succeeded}
use Rattle.sector_disk.specs.Geometry.{IsAtom}
use Rattle.luks_store.specs.SlotCommits.Calls.{MakesCall, MakesCalls, SlotCall, commits, syncs_area, writes_area}

-- the first of them succeeded, and then the others
went : (v : NewVolume) (call : SlotCall) (calls : List SlotCall) (old new : Device)
    → MakesCalls v.slot (call ∷ calls) old new succeeded
    → (between : Device) × MakesCall v.slot call old between succeeded
    × MakesCalls v.slot calls between new succeeded
unfolding MakesCalls
went v call calls old new (inl (made, failed)) = absurd cc
went v call calls old new (inr rest) = rest

none : (v : NewVolume) (old new : Device) → MakesCalls v.slot [] old new succeeded → new ≡ old
unfolding MakesCalls
none v old new made = made.0

-- whole pages are whole atoms
again : (n atom : ℕ) → IsAtom atom → n % 4096 ≡ 0 → n / atom * atom ≡ n
again n atom (inl e) page = rw e (omega (arith, page))
again n atom (inr e) page = rw e (omega (arith, page))

place-of : (n page atom size : ℕ) → n ≡ page → size ≡ atom → IsAtom atom → page % 4096 ≡ 0
    → n / size * size ≡ page
place-of n page atom size is same known whole =
    ap (λ k. k / size * size) is ∙ ap (λ k. page / k * k) same ∙ again page atom known whole

-- what a write leaves, by the byte where it begins
wrote : (at place : ℕ) (bytes body : List ℕ) (old new : Device) → at * old.size ≡ place
    → old.values ≡ Some bytes → WriteCall old.size at body old new succeeded
    → new.values ≡ Some (pasted bytes place body)
wrote at place bytes body old new is values made =
    made.values bytes values ∙ ap (λ n. Some (pasted bytes n body)) is

module _ (v : NewVolume) (size : ℕ) (front : IsFront v size) (old new : Device)
    (known : IsAtom old.size) (page : size % 4096 ≡ 0) (made : WritesVolume v old new succeeded)
  where
    pub all-written : (bytes : List ℕ) → 2 * size ≤ length bytes → old.values ≡ Some bytes
        → new.values ≡ Some (written_over v bytes)
    all-written bytes fits values =
        let one = primary_of v.slot.commit.copies in
        let two = secondary_of v.slot.commit.copies in
        let pages : 2 * size % 4096 ≡ 0 = omega (arith, page) in
        let a = went v writes_area _ old new made in
        let b = went v syncs_area _ a.0 new a.2 in
        let c = went v (commits Begun) _ b.0 new b.2 in
        let d = went v (commits FirstWritten) _ c.0 new c.2 in
        let e = went v (commits FirstKept) _ d.0 new d.2 in
        let f = went v (commits SecondWritten) _ e.0 new e.2 in
        let early : b.0.size ≡ old.size = b.1.size ∙ a.1.size in
        let late : d.0.size ≡ old.size = d.1.size ∙ c.1.size ∙ early in
        let area = wrote (v.slot.area_offset / old.size) (2 * size) bytes v.slot.area old a.0
        (place-of v.slot.area_offset (2 * size) old.size old.size front.place refl known pages) values
        a.1 in
        let first = wrote 0 0 _ one b.0 c.0 (omega arith) (b.1.values ∙ area) c.1 in
        let second = wrote (v.slot.commit.header.hdr_size / d.0.size) size _ two d.0 e.0
        (place-of v.slot.commit.header.hdr_size size old.size d.0.size front.header late known page)
        (d.1.values ∙ first) e.1 in
        ap (λ (device : Device). device.values) (none v f.0 new f.2)
        ∙ f.1.values ∙ second
        ∙ ap Some (all-pasted bytes one two v.slot.area size front.first front.second fits)
        ∙ ap (λ n. Some (one ++ (two ++ (v.slot.area ++ drop (n + length v.slot.area) bytes))))
        (sym front.place)

pub are-written : (w : Wish) (sizes : Sizes) (pass seed : List ℕ) (v : NewVolume)
    (old new : Device) (bytes : List ℕ) → IsWish w → FitsDisk w sizes
    → IsNewVolume w sizes pass seed v → FitsNew v old → old.values ≡ Some bytes
    → length bytes ≡ old.atoms * old.size → WritesVolume v old new succeeded
    → new.values ≡ Some (written_over v bytes)
are-written w sizes pass seed v old new bytes wish disk is fits values long made =
    let front = is-front w sizes pass seed v wish is in
    let atom : sizes.atom ≡ old.size =
    ap (λ (s : Sizes). s.atom) (sym is.first.sizes_are) ∙ fits.sizes.atom in
    let known : IsAtom old.size = subst IsAtom atom disk.atom in
    let place = place-of v.slot.area_offset (2 * w.metadata_size) old.size old.size front.place refl
    known (copies-page w.metadata_size wish.size) in
    let within = fits.area.within in
    all-written v w.metadata_size front old new known (size-page w.metadata_size wish.size) made
    bytes (omega (arith, place, within, long)) values

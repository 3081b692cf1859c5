-- New volumes, by the words that ask for them and the disks that they are made on.
use Rattle.std.proofs.Common.{◌≡◌, ◌∙◌, ◌||◌, ◌⊎◌, ◌+◌, ◌*◌, ◌≤◌, ℕ, Bool, true}
use Rattle.std.proofs.Common.{false, List, [], length, Option, Some, inl, inr, refl, sym, ap, subst}
use Rattle.std.proofs.Common.{arith}
use Rattle.std.proofs.lemmas.Bool.Decides.{Decides-eqb}
use Rattle.std.specs.Prelude.{◌==◌, Result, is_some, if◌then◌else◌}
use Rattle.cipher_laws.specs.Bytes.{AreBytes}
use Rattle.base_terms.specs.declared.failed.Failed.{Failed}
use Rattle.command_line.specs.Formats.{Formatting, IsFormatting}
use Rattle.command_line.specs.Segments.{has_key_size}
use Rattle.base_terms.specs.declared.disk_sizes.Sizes.{Sizes}
use Rattle.luks_format.specs.DiskFormat.Calls.{FitsNew, WritesVolume}
use Rattle.luks_format.specs.DiskFormat.Rests.{LeaveTheRest}
use Rattle.luks_format.specs.DiskFormat.Volumes.{IsNewVolume}
use Rattle.luks_format.specs.DiskFormat.Written.{FitTheirDisk}
use Rattle.sector_disk.specs.JoinedDisks.Counts.{HasSizes, has_head, joint_in, sizes_of}
use Rattle.sector_disk.specs.JoinedDisks.Joined.{Joint, begun_joint, joined_disk}
use Rattle.sector_disk.specs.declared.joined.joined.JoinedDisk.{JoinedDisk}
use Rattle.sector_disk.specs.declared.device.Disk.{Ghosts}
use Rattle.luks_format.specs.declared.format_disk.volume.NewVolume.{NewVolume}
use Rattle.luks_format.specs.Wishes.{FitsDisk, IsWish}
use Rattle.luks_format.specs.declared.wish.Wish.{Wish}
use Rattle.luks_meta.specs.declared.names.Cipher.{Cipher}
use Rattle.luks_meta.specs.declared.names.Cipher.TheVariants.{AesXtsPlain64, AesCbcEssivSha256}
use Rattle.luks_slots.specs.Functions.{named_cipher}
use Rattle.image_laws.specs.Made.Standing.{NewVolumesStand}
use Rattle.sector_cipher.specs.Names.{IsKeyLength}
use Rattle.sector_disk.specs.Devices.{Device as DiskState}
use Rattle.volume_opening.specs.Refusals.{AreOf}
use Rattle.reenc_tool.specs.Making.{ComesTo, IsMade, IsOnTwo, cause_of_writing}
use Rattle.reenc_tool.specs.Making.{report_of_writing, sizes_behind, wish_of}
use Rattle.reenc_tool.specs.Outcomes.{Coming, Outcome, ended_by, ended_with, none_came}
use Rattle.reenc_tool.specs.declared.ended.Cause.{Cause}

-- ---- the wish of the words
one_of : (n first second : ℕ) → ((n == first) || (n == second)) ≡ true →
    (n ≡ first) ⊎ (n ≡ second)
one_of n first second is = by_case (n == first) refl
  where
    by_case : (b : Bool) → (n == first) ≡ b → (n ≡ first) ⊎ (n ≡ second)
    by_case true same = inl ((Decides-eqb n first).0 same)
    by_case false other = inr ((Decides-eqb n second).0 (rw other at is))

pub key_length : (cipher : Cipher) (size : ℕ) → has_key_size cipher size ≡ true →
    IsKeyLength (named_cipher cipher) size
unfolding has_key_size
key_length AesXtsPlain64 size has = one_of size 32 64 has
key_length AesCbcEssivSha256 size has = one_of size 16 32 has

pub is_wish : (words : Formatting) (detached : Bool) → IsFormatting words →
    IsWish (record (wish_of words) { detached = detached })
is_wish words detached is =
    let some : 1 ≤ words.segment.iterations = omega (arith, is.segment.some_rounds) in
    record {
      key = key_length words.segment.cipher words.segment.key_size is.segment.key;
      sector = is.segment.sector;
      page = is.page;
      within = is.within;
      some_rounds = some;
      most_rounds = is.segment.most_rounds;
      size = is.size;
    }

-- ---- its disks
abbrev told : ℕ → ℕ → ℕ → Bool → Sizes
told atom header main detached =
    record { atom = atom; header_atoms = header; main_atoms = main; detached = detached }

-- the sizes that two joined disks tell are those of both
pub sizes_told : {D : Type 0} {shown : Ghosts D} (joined : JoinedDisk D shown) (sizes : Sizes)
    (head disk : DiskState) → sizes ≡ sizes_of joined → has_head joined ≡ true →
    joint_in joined ≡ begun_joint head disk →
    sizes.atom ≡ (joined_disk (joint_in joined)).size →
    (if sizes.detached then sizes.header_atoms else 0) + sizes.main_atoms
    ≡ (joined_disk (joint_in joined)).atoms → sizes ≡ sizes_behind head disk
sizes_told joined sizes head disk are headed begun atom all =
    let joint = joint_in joined in
    let main : sizes.main_atoms ≡ joint.used = ap (λ (s : Sizes). s.main_atoms) are in
    let detached : sizes.detached ≡ true = ap (λ (s : Sizes). s.detached) are ∙ headed in
    let sum : sizes.header_atoms + sizes.main_atoms ≡ (joined_disk joint).atoms =
    rw detached at all
    in
    let front : sizes.header_atoms ≡ joint.head.atoms = omega (arith, sum, main) in
    ap (λ n. told n sizes.header_atoms sizes.main_atoms sizes.detached) atom
    ∙ ap (λ n. told joint.main.size n sizes.main_atoms sizes.detached) front
    ∙ ap (λ n. told joint.main.size joint.head.atoms n sizes.detached) main
    ∙ ap (λ b. told joint.main.size joint.head.atoms joint.used b) detached
    ∙ ap (λ (j : Joint). told j.main.size j.head.atoms j.used true) begun

-- ---- the volume on its disk
-- a volume that was made for a disk, and may be written there
pub record IsReady (words : Formatting) (sizes : Sizes) (device : DiskState) (pass seed : List ℕ)
    (volume : NewVolume) : Type 0 where
  pub right : IsWish (wish_of words)
  pub room : FitsDisk (wish_of words) sizes
  pub new : IsNewVolume (wish_of words) sizes pass seed volume
  pub fits : FitsNew volume device

pub is_ready : (words : Formatting) (sizes : Sizes) (device : DiskState) (pass seed : List ℕ)
    (volume : NewVolume) (wish : Wish) → IsFormatting words → HasSizes sizes device →
    FitsDisk (wish_of words) sizes → wish ≡ wish_of words →
    IsNewVolume wish sizes pass seed volume → FitTheirDisk →
    IsReady words sizes device pass seed volume
is_ready words sizes device pass seed volume wish is has room wish_is made fit =
    let right = is_wish words (is_some words.header) is in
    let new = subst (λ (w : Wish). IsNewVolume w sizes pass seed volume) wish_is made in
    record {
      right = right;
      room = room;
      new = new;
      fits = fit (wish_of words) sizes pass seed volume device right room new has;
    }

pub is_made : {X : Type 0} (device : X → DiskState) (words : Formatting) (sizes : Sizes)
    (pass seed : List ℕ) (disk back : X) (volume : NewVolume)
    (result : Result (Unit {0}) Failed) (cause : Cause) (report : Option (List ℕ)) →
    IsReady words sizes (device disk) pass seed volume → LeaveTheRest → NewVolumesStand →
    ((bytes : List ℕ) → (device disk).values ≡ Some bytes →
    length bytes ≡ (device disk).atoms * (device disk).size) →
    ((bytes : List ℕ) → (device disk).values ≡ Some bytes → AreBytes bytes) →
    WritesVolume volume (device disk) (device back) result →
    cause ≡ cause_of_writing result (device back).faults →
    report ≡ report_of_writing result volume.identifier →
    IsMade device (wish_of words) sizes pass seed disk back cause report
is_made device words sizes pass seed disk back volume result cause report ready rest stand whole
    are_bytes writes cause_is report_is =
    let wish = wish_of words in
    let left = rest wish sizes pass seed volume (device disk) (device back) result ready.right
    ready.new writes in
    record {
      volume = volume;
      is = ready.new;
      result = result;
      writes = writes;
      before = left.0;
      keeps = left.1;
      written = λ done bytes held.
          stand wish sizes pass seed volume (device disk) (device back) bytes ready.right ready.room
          ready.new ready.fits held (whole bytes held) (are_bytes bytes held)
          (subst (λ r. WritesVolume volume (device disk) (device back) r) done writes);
      cause_is = cause_is;
      report_is = report_is;
    }

-- ---- what is handed back
-- no session was served
pub ended_without : {D L : Type 0} (cause : Cause) (came : Coming L) (links : List L)
    (disk header : Option D) (outcome : Outcome D L) → outcome ≡ ended_by came disk header →
    came ≡ none_came cause links → links ≡ [] →
    outcome ≡ ended_with cause disk header
ended_without cause came links disk header outcome is none no_links =
    is ∙ ap (λ c. ended_by c disk header) (none ∙ ap (none_came cause) no_links)

-- what came of a disk is what came of what it shows
seen_alike : {X Y : Type 0} (device : Y → DiskState) (see : X → Y) (wish : Wish) (sizes : Sizes)
    (pass seed : List ℕ) (disk back : X) (cause : Cause) (report : Option (List ℕ)) →
    ComesTo (λ x. device (see x)) wish sizes pass seed disk back cause report →
    ComesTo device wish sizes pass seed (see disk) (see back) cause report
seen_alike device see wish sizes pass seed disk back cause report (inl made) = inl (record {
  volume = made.volume;
  is = made.is;
  result = made.result;
  writes = made.writes;
  before = made.before;
  keeps = made.keeps;
  written = made.written;
  cause_is = made.cause_is;
  report_is = made.report_is;
})
seen_alike device see wish sizes pass seed disk back cause report (inr none) = inr (record {
  fault = none.fault;
  unfit = none.unfit;
  stands = ap see none.stands;
  cause_is = none.cause_is;
  report_is = none.report_is;
})

pub is_on_two : {D L X : Type 0} (device : D → DiskState) (see : X → Joint) (wish : Wish)
    (sizes : Sizes) (pass seed : List ℕ) (head disk : D) (joined after : X) (header : Option D)
    (back : D) (cause : Cause) (outcome : Outcome D L) (report : Option (List ℕ)) →
    see joined ≡ begun_joint (device head) (device disk) →
    sizes ≡ sizes_behind (device head) (device disk) →
    ComesTo (λ x. joined_disk (see x)) wish sizes pass seed joined after cause report →
    AreOf device (see after) header back →
    outcome ≡ ended_with cause (Some back) header →
    IsOnTwo device wish pass seed head disk outcome report
is_on_two {D} {L} device see wish sizes pass seed head disk joined after header back cause outcome
    report begun are came parts is =
    let both = sizes_behind (device head) (device disk) in
    let seen = seen_alike joined_disk see wish sizes pass seed joined after cause report came in
    record {
      header = header;
      back = back;
      joint = see after;
      are = parts;
      came = subst (λ (o : Outcome D L). ComesTo joined_disk wish both pass seed
          (begun_joint (device head) (device disk)) (see after) o.cause report) (sym is)
          (subst (λ (j : Joint).
          ComesTo joined_disk wish both pass seed j (see after) cause report) begun
          (subst (λ (s : Sizes).
          ComesTo joined_disk wish s pass seed (see joined) (see after) cause report) are seen));
      outcome_is = is
          ∙ ap (λ (o : Outcome D L). ended_with {D = D} {L = L} o.cause (Some back) header) (sym is);
    }

-- Lemmas on what images stand for: one content, and by stops an allowed one.
use Rattle.std.proofs.Common.{List, None, Option, Some, [], ap, arith, inl, inr, refl, subst, sym}
use Rattle.std.proofs.Common.{ℕ, ◌+◌, ◌-◌, ◌<◌, ◌∙◌, ◌≡◌, ◌≤◌, ◌⊎◌}
use Rattle.std.proofs.lemmas.Bool.{cases_lt}
use Rattle.crash_laws.specs.HotZones.Zones.{Resilience, checksum, datashift, journal}
use Rattle.plain_disk.specs.Plain.{Block}
use Rattle.sector_disk.specs.Cells.{Cell}
use Rattle.sector_disk.specs.DiskViews.Parts.{AreBlocks, block_at, value_in}
use Rattle.segment_map.specs.declared.Side.{Side}
use Rattle.segment_map.specs.declared.Side.TheVariants.{New, Old, Zone}
use Rattle.segment_map.specs.declared.map.Map.{Map}
use Rattle.volume_machine.specs.Edges.{InPlain}
use Rattle.volume_machine.specs.Pieces.{place_in, side_in}
use Rattle.volume_machine.specs.Seals.{AreLawful, Seals}
use Rattle.volume_machine.specs.States.{IsLive, State}
use Rattle.volume_machine.specs.Works.{Work}
use Rattle.crash_laws.specs.HeaderAreas.{Areas.Image, Areas.content_of, Areas.text_in, Headers.IsReader}
use Rattle.crash_laws.proofs.HeaderAreas.HeadersGiven.{header_is_one}
use Rattle.crash_laws.specs.HotZones.Standing.{Hash, Recovers, TellsDigest, digest_at}
use Rattle.volume_laws.specs.Contents.{IsAllowedAt, IsNow, IsSealed, StandsNow, StopsAllowed}
use Rattle.volume_laws.specs.Standing.{AtomStands, BlockStands, Content, IsInZone}
use Rattle.volume_machine.specs.Readings.{Reading}
use Rattle.volume_laws.specs.Standing.{StandsAllowed, StandsForNow, StandsUnder}
use Rattle.volume_laws.specs.Texts.{atoms_of}
use Rattle.volume_laws.proofs.VolumeStart.{one_value}

module _ {atom : ℕ} {seals : Seals} (lawful : AreLawful atom seals) where
  -- what is sealed alike is alike
  sealed_one : (side : Side) (b : ℕ) {one other : List ℕ} → AreBlocks atom 1 one
      → AreBlocks atom 1 other → seals.sealed side b one ≡ seals.sealed side b other → one ≡ other
  sealed_one side b {one = one} {other = other} are also same = sym (lawful.opens_sealed side b
      one are) ∙ ap (λ text. seals.opened side b text) same ∙ lawful.opens_sealed side b other also

  -- a digest tells one block
  digest_tells : {hash : Hash} (b : ℕ) {told own one other : List ℕ} → AreBlocks atom 1 one
      → AreBlocks atom 1 other
      → TellsDigest hash told own (seals.sealed Old b one) (seals.sealed New b one)
      → TellsDigest hash told own (seals.sealed Old b other) (seals.sealed New b other)
      → one ≡ other
  digest_tells {hash = hash} b are also tells tells_also = elim tells.either [
    | inl old ↦ elim tells_also.either [
      | inl same ↦ sealed_one Old b are also (sym old ∙ same)
      | inr new ↦ absurd (tells_also.differs (ap hash.digest (sym new ∙ old) ∙ sym tells.is_old))
    ]
    | inr new ↦ elim tells_also.either [
      | inl old ↦ absurd (tells.differs (ap hash.digest (sym new ∙ old) ∙ sym tells_also.is_old))
      | inr same ↦ sealed_one New b are also (sym new ∙ same)
    ]
  ]

  recovers_one : (resilience : Resilience) (hash : Hash) (work : Work) (image : Image) (i b : ℕ)
      (one other : Content) → work.range.start + i ≡ b → AreBlocks atom 1 (one b)
      → AreBlocks atom 1 (other b)
      → Recovers resilience hash work.zone (atoms_of atom seals one work) image i
      → Recovers resilience hash work.zone (atoms_of atom seals other work) image i → one b ≡ other b
  recovers_one journal hash work image i b one other place are also tells tells_also =
      sealed_one Old b are also (subst (λ n. seals.sealed Old n (one n)
      ≡ seals.sealed Old n (other n)) place (sym tells ∙ tells_also))
  recovers_one checksum hash work image i b one other place are also tells tells_also =
      digest_tells b are also
      (subst (λ n. TellsDigest hash (digest_at hash (text_in image work.zone.store) i)
      (image (work.zone.own.start + i)) (seals.sealed Old n (one n)) (seals.sealed New n (one n)))
      place tells)
      (subst (λ n. TellsDigest hash (digest_at hash (text_in image work.zone.store) i)
      (image (work.zone.own.start + i)) (seals.sealed Old n (other n))
      (seals.sealed New n (other n))) place tells_also)
  recovers_one datashift hash work image i b one other place are also tells tells_also =
      absurd tells

block_one : {map : Map} {seals : Seals} → AreLawful map.atom seals → (reading : Reading)
    (work : Work) (image : Image) (one other : Content) (b : ℕ)
    → BlockStands reading map seals work image one b
    → BlockStands reading map seals work image other b → one b ≡ other b
block_one {map = map} {seals = seals} lawful reading work image one other b is also =
    by (side_in map b) is.zone is.stands also.stands
  where
    by : (side : Side) → (side ≡ Zone → IsInZone map work b)
        → AtomStands reading map seals work image one b side
        → AtomStands reading map seals work image other b side → one b ≡ other b
    by Old zone stands stands_also =
        sealed_one lawful Old b is.are also.are (sym stands ∙ stands_also)
    by New zone stands stands_also =
        sealed_one lawful New b is.are also.are (sym stands ∙ stands_also)
    by Zone zone stands stands_also = recovers_one lawful work.zone.resilience reading.hash work
        image (b - work.range.start) b one other (omega (arith, (zone refl).from)) is.are also.are
        stands stands_also

-- an image stands for one content
pub stands_for_one : (reading : Reading) (atoms : ℕ) (seals : Seals)
    (map : Map) (work : Option Work) (image : Image) (one other : Content) → IsReader reading.reader
    → AreLawful map.atom seals → StandsUnder reading atoms seals map work image one
    → StandsUnder reading atoms seals map work image other
    → (b : ℕ) → b < map.blocks → one b ≡ other b
stands_for_one reading atoms seals map None image one other is_reader lawful stands also b below =
    one_value map seals b (one b) (other b) _ lawful (stands b below) (also b below)
stands_for_one reading atoms seals map (Some work) image one other is_reader lawful stands also b
    below =
    let same : stands.header ≡ also.header = header_is_one reading.reader (content_of atoms image)
    stands.header also.header stands.gives also.gives in
    block_one (rw stands.atom lawful) reading work image one other b (stands.stands b below)
    (subst (λ m. BlockStands reading (reading.map_of m) seals work image other b) (sym same)
    (also.stands b below))

-- values of blocks, chosen one by one, are a content
pub chosen : (n : ℕ) (P : ℕ → List ℕ → Type 0) → ((b : ℕ) → b < n → (value : List ℕ) × P b value)
    → (content : Content) × ((b : ℕ) → b < n → P b (content b))
chosen n P each = (λ b. pick b (cases_lt b n), λ b below. picked b (cases_lt b n) below)
  where
    pick : (b : ℕ) → (b < n) ⊎ (n ≤ b) → List ℕ
    pick b (inl below) = (each b below).0
    pick b (inr from) = []

    picked : (b : ℕ) (where_is : (b < n) ⊎ (n ≤ b)) → b < n → P b (pick b where_is)
    picked b (inl less) below = (each b less).1
    picked b (inr from) below = absurd (omega arith)

-- without a header every block is live, and an image stands by the volume's own map
module _ {K : Type 0} (state : State K) (none : state.work ≡ None) where
  all_live : (b : ℕ) → b < state.map.blocks → IsLive state b
  all_live b below = record { inside = below; free = λ governed. absurd (rw none at governed) }

  stands_chosen : (reading : Reading) (seals : Seals) (image : Image) (Is : ℕ → List ℕ → Type 0)
      → ((b : ℕ) → b < state.map.blocks → (value : List ℕ) × Is b value
      × IsSealed state.map seals b value (image (place_in state.map b))) → (content : Content)
      × StandsUnder reading state.disk.atoms seals state.map state.work image content
      × ((b : ℕ) → b < state.map.blocks → Is b (content b))
  stands_chosen reading seals image Is each =
      let (content, all) = chosen state.map.blocks (λ b value. Is b value
      × IsSealed state.map seals b value (image (place_in state.map b)))
      (λ b below. let (value, is, sealed) = each b below in (value, (is, sealed))) in
      (content, rw none (λ b below. (all b below).1), λ b below. (all b below).0)

  pub now_stands : (reading : Reading) (seals : Seals) (plain : ℕ → InPlain) (blocks : List Block)
      (bytes : List ℕ) → StandsNow state seals plain blocks bytes
      → StandsForNow reading state seals plain blocks bytes
  now_stands reading seals plain blocks bytes stands =
      stands_chosen reading seals (λ place. block_at state.map.atom bytes place)
      (IsNow state plain blocks) (λ b below. stands b (all_live b below))

  pub stops_stand : (reading : Reading) (seals : Seals) (plain : ℕ → InPlain) (blocks : List Block)
      (cells : List Cell) → StopsAllowed state seals plain blocks cells
      → StandsAllowed reading state seals plain blocks cells
  stops_stand reading seals plain blocks cells stops = λ image is.
      stands_chosen reading seals (value_in image) (IsAllowedAt state plain blocks)
      (λ b below. stops image is b (all_live b below))

-- What is told of a header, line by line.
use Rattle.std.specs.Prelude.{ℕ, ◌+◌, ◌==◌, List, [], ◌∷◌, ◌++◌, map, codes, decimal}
use Rattle.std.specs.Prelude.{slice_index, take}
use Rattle.std.specs.Prelude.{if◌then◌else◌, Option, Some, None, option_map, unwrap_or}
use Rattle.std.specs.Str.{bytes_eq}
use Rattle.uuid.specs.Text.{hyphenated_text, lower, parsed}
use Rattle.luks_meta.specs.Names.{cipher_name}
use Rattle.luks_meta.specs.Reencrypts.{area_type_name}
use Rattle.luks_meta.specs.Reencrypts.{direction_name, mode_name}
use Rattle.luks_meta.specs.declared.keyslot.Derivation.{Derivation}
use Rattle.luks_meta.specs.declared.keyslot.Derivation.TheVariants as derivations
use Rattle.luks_meta.specs.declared.keyslot.Keyslot.{Keyslot}
use Rattle.luks_meta.specs.declared.keyslot.Keyslot.TheVariants as keyslots
use Rattle.luks_meta.specs.declared.reencrypt.Direction.{Direction}
use Rattle.luks_meta.specs.declared.reencrypt.Direction.TheVariants.{Forward, Backward}
use Rattle.luks_meta.specs.declared.segment.Encryption.{Encryption}
use Rattle.luks_rules.specs.Idles.{idle_of}
use Rattle.luks_rules.specs.Plans.{blocks_in}
use Rattle.luks_rules.specs.Shapes.{progress_of}
use Rattle.luks_rules.specs.declared.extents.Extent.{Extent}
use Rattle.luks_rules.specs.declared.idle.Idle.{Idle}
use Rattle.luks_rules.specs.declared.plan.Plan.{Plan}
use Rattle.luks_rules.specs.declared.shape.Progress.{Progress}
use Rattle.luks_store.specs.declared.loaded.Stored.{Stored}

-- the identifier in a header's field: 36 characters and a NUL; it is told in lower case
unfoldable pub identifier : List ℕ → Option (List ℕ)
identifier field = if slice_index field 36 == 0
    then option_map (hyphenated_text lower) (parsed (take 36 field)) else None

-- a line of its pieces, with its line feed
abbrev pub line : List (List ℕ) → List ℕ
line [] = 10 ∷ []
line (piece ∷ pieces) = piece ++ line pieces

unfoldable pub uuid_line : List ℕ → List ℕ
uuid_line field = line (codes "uuid: " ∷ unwrap_or (identifier field) (codes "none") ∷ [])

unfoldable pub seqid_line : ℕ → List ℕ
seqid_line seqid = line (codes "seqid: " ∷ decimal seqid ∷ [])

-- ---- segments
-- how a segment is encrypted, and where it begins, between two texts
abbrev pub place_line : List ℕ → List ℕ → ℕ → Option Encryption → List ℕ
place_line head tail offset None =
    line (head ∷ codes "linear offset " ∷ decimal offset ∷ tail ∷ [])
place_line head tail offset (Some e) = line (head ∷ cipher_name e.cipher ∷ codes " sector "
    ∷ decimal e.sector_size ∷ codes " offset " ∷ decimal offset ∷ tail ∷ [])

unfoldable pub segment_line : List ℕ → Extent → List ℕ → List ℕ
segment_line head segment tail = place_line head tail segment.offset segment.encryption

-- a volume that isn't being converted
abbrev pub idle_lines : Idle → List (List ℕ)
idle_lines volume = line (codes "state: idle" ∷ [])
    ∷ segment_line (codes "live: ") volume.segment (codes " blocks " ++ decimal volume.blocks) ∷ []

-- ---- conversions
unfoldable pub state_line : Progress → List ℕ
state_line p = line (codes "state: " ∷ mode_name p.conversion.mode ∷ codes " "
    ∷ direction_name p.conversion.direction ∷ codes " "
    ∷ area_type_name p.conversion.resilience ∷ [])

-- The boundary parts the blocks that are converted from those that aren't; an open zone lies on the
-- side of the latter.
abbrev pub boundary : Direction → Plan → ℕ
boundary Forward plan = plan.first
boundary Backward plan = plan.first + plan.zone

unfoldable pub boundary_line : Progress → List ℕ
boundary_line p = line (codes "boundary: " ∷ decimal (boundary p.conversion.direction p.plan)
    ∷ codes " of " ∷ decimal (blocks_in p.plan) ∷ [])

-- an open zone's first block, and how many it has
unfoldable pub zone_line : Plan → List ℕ
zone_line plan = if plan.zone == 0 then line (codes "zone: none" ∷ [])
    else line (codes "zone: " ∷ decimal plan.first ∷ codes " + " ∷ decimal plan.zone ∷ [])

abbrev pub busy_lines : Progress → List (List ℕ)
busy_lines p =
    state_line p ∷ segment_line (codes "old: ") p.old [] ∷ segment_line (codes "new: ") p.new []
    ∷ boundary_line p ∷ zone_line p.plan ∷ []

-- a volume is the one or the other
abbrev pub volume_lines : Option Idle → Option Progress → List (List ℕ)
volume_lines (Some volume) progress = idle_lines volume
volume_lines None (Some p) = busy_lines p
volume_lines None None = []

-- ---- keyslots
-- by what a passphrase becomes a key
abbrev pub function_name : List ℕ → List ℕ
function_name name = if bytes_eq name (codes "argon2i") then codes "argon2i"
    else (if bytes_eq name (codes "argon2id") then codes "argon2id" else codes "other")

abbrev pub derivation_name : Derivation → List ℕ
derivation_name (derivations.Pbkdf2 function) = codes "pbkdf2"
derivation_name (derivations.Unknown name) = function_name name

abbrev pub slot_line_by : ℕ → Keyslot → List ℕ
slot_line_by number (keyslots.Luks2 slot) = line (codes "slot " ∷ decimal number ∷ codes ": luks2 "
    ∷ derivation_name slot.kdf.derivation ∷ [])
slot_line_by number (keyslots.Reencrypt conversion) =
    line (codes "slot " ∷ decimal number ∷ codes ": reencrypt" ∷ [])
slot_line_by number (keyslots.Unknown slot) =
    line (codes "slot " ∷ decimal number ∷ codes ": other" ∷ [])

unfoldable pub slot_line : ℕ × Keyslot → List ℕ
slot_line slot = slot_line_by slot.0 slot.1

-- ---- all lines
unfoldable pub lines_of : Stored → List (List ℕ)
lines_of stored = uuid_line stored.copies.used.header.uuid
    ∷ seqid_line stored.copies.used.header.seqid
    ∷ volume_lines (idle_of stored.valid.meta stored.valid.sizes)
    (progress_of stored.valid.meta stored.valid.sizes)
    ++ map slot_line stored.valid.meta.keyslots

unfoldable pub text_of_lines : List (List ℕ) → List ℕ
text_of_lines [] = []
text_of_lines (first ∷ lines) = first ++ text_of_lines lines

abbrev pub report_of : Stored → List ℕ
report_of stored = text_of_lines (lines_of stored)

-- How volumes start: their bytes stand for the blocks that their keys open, and for no others; a
-- whole disk as it is stands for its own atoms; and what settled tables stand for.
use Rattle.std.proofs.Common.{Contains, List, Some, [], ap, arith, length, refl, replicate}
use Rattle.std.proofs.Common.{slice_index_or, subst, suc, sym, zero, ℕ, ◌*◌, ◌+◌, ◌<◌, ◌∙◌, ◌∷◌}
use Rattle.std.proofs.Common.{◌≡◌}
use Rattle.std.proofs.lemmas.List.{length-map}
use Rattle.base_terms.specs.Blocks.{blocks_of, lengths}
use Rattle.cipher_laws.specs.Bytes.{AreBytes}
use Rattle.plain_disk.specs.Plain.{Block, settled, settled_blocks}
use Rattle.sector_disk.proofs.DiskViews.Blockwise.{one_block}
use Rattle.sector_disk.specs.Cells.{Cell, AreSettled, content, currents}
use Rattle.sector_disk.specs.DiskViews.Parts.{AreBlocks, block_at, cell_in}
use Rattle.segment_map.specs.declared.map.Map.{Map}
use Rattle.volume_machine.specs.Beginnings.{ChangeNothing, IsFresh, IsWholeDisk}
use Rattle.volume_machine.specs.Pieces.{place_in, side_in}
use Rattle.volume_machine.specs.Seals.{AreLawful, Seals}
use Rattle.volume_machine.specs.Sound.{AreApart, IsSound, MapFits}
use Rattle.volume_machine.specs.States.{State}
use Rattle.base_terms.proofs.BlockLemmas.{blocks_of-joined}
use Rattle.sector_disk.proofs.DiskViews.Entries.{blocks_of-at, length-blocks_of}
use Rattle.volume_machine.proofs.NextPieces.{on_disk}
use Rattle.volume_laws.specs.Contents.{IsSealed, StandsFor, block_in, blocks_from}
use Rattle.volume_laws.specs.Contents.{opened_block, opened_blocks, plain_blocks}
use Rattle.volume_laws.specs.Promises.{Starts, StartsCovered, TellsSettled}
use Rattle.volume_laws.proofs.PlainBlocks.{newest_contained, sure_blocks}

-- a volume starts from bytes that each block's atom has sealed
starts_by : {K : Type 0} {start : State K} {seals : Seals} {bytes : List ℕ} (blocks : List Block)
    → IsSound start → IsFresh start → AreApart start.map → AreLawful start.map.atom seals
    → start.disk.values ≡ Some bytes → length blocks ≡ start.map.blocks
    → ((b : ℕ) → b < start.map.blocks → (value : List ℕ) × (block_in blocks b ≡ settled value)
    × IsSealed start.map seals b value (block_at start.map.atom bytes (place_in start.map b)))
    → Starts start seals blocks bytes
starts_by blocks sound fresh apart lawful values count each = record {
  sound = sound;
  fresh = fresh;
  apart = apart;
  lawful = lawful;
  are = record {
    count = count;
    newest = λ b below. (let (value, is, sealed) = each b below in rw is sealed.0);
  };
  sure = sure_blocks blocks (λ b below. ap (λ block. block.unsure) (each b (omega arith)).1);
  values = values;
  stands = λ b below. (let (value, is, sealed) = each b below in rw is sealed);
}

block_in-from : (block : ℕ → Block) (first n b : ℕ) → b < n →
    block_in (blocks_from block first n) b ≡ block (first + b)
unfolding blocks_from
block_in-from block first zero b below = absurd (omega arith)
block_in-from block first (suc n) zero below = ap block (omega arith)
block_in-from block first (suc n) (suc b) below =
    block_in-from block (suc first) n b (omega arith) ∙ ap block (omega arith)

length-from : (block : ℕ → Block) (first n : ℕ) → length (blocks_from block first n) ≡ n
unfolding blocks_from
length-from block first zero = omega arith
length-from block first (suc n) = ap (λ k. suc k) (length-from block (suc first) n)

opened_in : (map : Map) (seals : Seals) (bytes : List ℕ) (b : ℕ) → b < map.blocks →
    block_in (opened_blocks map seals bytes) b ≡ opened_block map seals bytes b
opened_in map seals bytes b below =
    block_in-from (opened_block map seals bytes) 0 map.blocks b below
    ∙ ap (opened_block map seals bytes) (omega arith)

-- the atom of a block
atom_in : (map : Map) (atoms : ℕ) (bytes : List ℕ) (b : ℕ) → MapFits map atoms →
    length bytes ≡ atoms * map.atom → AreBytes bytes → b < map.blocks →
    AreBlocks map.atom 1 (block_at map.atom bytes (place_in map b))
atom_in map atoms bytes b fits long are below =
    one_block map.atom atoms bytes (place_in map b) (record { size = long; are_bytes = are })
    (omega (arith, on_disk map atoms b 1 (side_in map b) fits (omega arith)))

pub volume_starts : {K : Type 0} (start : State K) (seals : Seals) (bytes : List ℕ) →
    IsSound start → IsFresh start → AreApart start.map → AreLawful start.map.atom seals →
    start.disk.values ≡ Some bytes → length bytes ≡ start.disk.atoms * start.map.atom →
    AreBytes bytes → Starts start seals (opened_blocks start.map seals bytes) bytes
volume_starts start seals bytes sound fresh apart lawful values long are =
    starts_by (opened_blocks start.map seals bytes) sound fresh apart lawful values
    (length-from (opened_block start.map seals bytes) 0 start.map.blocks)
    (λ b below. let atom = atom_in start.map start.disk.atoms bytes b sound.fits long are below in (
      _,
      opened_in start.map seals bytes b below,
      (
        lawful.keeps_opened (side_in start.map b) b 1 _ atom,
        sym (lawful.seals_opened (side_in start.map b) b _ atom),
      ),
    ))

-- an atom holds one value of its block
pub one_value : (map : Map) (seals : Seals) (b : ℕ) (value other atom : List ℕ) →
    AreLawful map.atom seals → IsSealed map seals b value atom → IsSealed map seals b other atom →
    value ≡ other
one_value map seals b value other atom lawful is also = sym (lawful.opens_sealed (side_in map b)
    b value is.0) ∙ ap (λ text. seals.opened (side_in map b) b text) (sym is.1 ∙ also.1)
    ∙ lawful.opens_sealed (side_in map b) b other also.0

pub one_content : (map : Map) (seals : Seals) (bytes : List ℕ) (one other : List Block) →
    AreLawful map.atom seals → StandsFor map seals one bytes → StandsFor map seals other bytes →
    (b : ℕ) → b < map.blocks → (block_in one b).newest ≡ (block_in other b).newest
one_content map seals bytes one other lawful stands also b below = one_value map seals
    b (block_in one b).newest (block_in other b).newest _ lawful (stands b below) (also b below)

-- a block of settled values
settled_in : (values : List (List ℕ)) (b : ℕ)
    → block_in (settled_blocks values) b ≡ settled (slice_index_or values b [])
unfolding settled_blocks
settled_in [] b = refl
settled_in (value ∷ values) zero = refl
settled_in (value ∷ values) (suc b) = settled_in values b

length-settled : (values : List (List ℕ)) → length (settled_blocks values) ≡ length values
unfolding settled_blocks
length-settled values = length-map values settled

plain_in : (atom atoms : ℕ) (bytes : List ℕ) (b : ℕ) → b < atoms
    → block_in (settled_blocks (blocks_of atom atoms bytes)) b ≡ settled (block_at atom bytes b)
plain_in atom atoms bytes b below = settled_in (blocks_of atom atoms bytes) b
    ∙ ap (λ value. settled value) (blocks_of-at atom atoms bytes b [] below)

plain_stands : {K : Type 0} (start : State K) (seals : Seals) (bytes : List ℕ)
    → IsWholeDisk start.map.atom start.disk.atoms start.map → ChangeNothing seals →
    length bytes ≡ start.disk.atoms * start.map.atom → AreBytes bytes
    → StandsFor start.map seals (plain_blocks start bytes) bytes
plain_stands start seals bytes whole nothing long are = λ b below.
    let inside : b < start.disk.atoms = subst (λ n. b < n) whole.blocks below in
    rw (plain_in start.map.atom start.disk.atoms bytes b inside, whole.places b below) (
      one_block start.map.atom start.disk.atoms bytes b (record { size = long; are_bytes = are })
          inside,
      sym (nothing.sealed (side_in start.map b) b (block_at start.map.atom bytes b)),
    )

pub plain_starts : {K : Type 0} (start : State K) (seals : Seals) (bytes : List ℕ) → IsSound start
    → IsFresh start → AreApart start.map → IsWholeDisk start.map.atom start.disk.atoms start.map →
    AreLawful start.map.atom seals → ChangeNothing seals → start.disk.values ≡ Some bytes
    → length bytes ≡ start.disk.atoms * start.map.atom → AreBytes bytes →
    Starts start seals (plain_blocks start bytes) bytes
plain_starts start seals bytes sound fresh apart whole lawful nothing values long are =
    starts_by (plain_blocks start bytes) sound fresh apart lawful values (length-settled (blocks_of
    start.map.atom start.disk.atoms bytes) ∙ length-blocks_of start.map.atom start.disk.atoms bytes
    ∙ sym whole.blocks) (λ b below. let inside = subst (λ n. b < n) whole.blocks below in
    let is = plain_in start.map.atom start.disk.atoms bytes b inside in (
      block_at start.map.atom bytes b,
      is,
      rw is at (plain_stands start seals bytes whole nothing long are b below),
    ))

-- the current values of a table, and its only candidates
current_in : (cells : List Cell) (place : ℕ)
    → (cell_in cells place).current ≡ slice_index_or (currents cells) place []
unfolding currents
current_in [] place = refl
current_in (cell ∷ cells) zero = refl
current_in (cell ∷ cells) (suc place) = current_in cells place

pub settled_cell : (cells : List Cell) (place : ℕ) (atom : List ℕ) → AreSettled cells
    → Contains (cell_in cells place).candidates atom → atom ≡ (cell_in cells place).current
unfolding AreSettled
settled_cell [] place atom settled has = absurd (omega arith)
settled_cell (cell ∷ cells) zero atom settled has =
    one_of cell.current atom (subst (λ xs. Contains xs atom) settled.0 has)
  where
    one_of : (x value : List ℕ) → Contains (x ∷ []) value → value ≡ x
    one_of x value (zero, below, is) = sym is
    one_of x value (suc k, below, is) = absurd (omega arith)
settled_cell (cell ∷ cells) (suc place) atom settled has =
    settled_cell cells place atom settled.1 has

table_blocks : (atom atoms : ℕ) (bytes : List ℕ) (cells : List Cell) → bytes ≡ content cells
    → lengths (currents cells) ≡ replicate atoms atom → blocks_of atom atoms bytes ≡ currents cells
unfolding content
table_blocks atom atoms bytes cells same even =
    ap (λ text. blocks_of atom atoms text) same ∙ blocks_of-joined atom atoms (currents cells) even

current_block : (atom atoms : ℕ) (bytes : List ℕ) (cells : List Cell) (place : ℕ)
    → bytes ≡ content cells → lengths (currents cells) ≡ replicate atoms atom → place < atoms →
    block_at atom bytes place ≡ (cell_in cells place).current
current_block atom atoms bytes cells place same even inside =
    sym (blocks_of-at atom atoms bytes place [] inside) ∙ ap (λ vs. slice_index_or vs place [])
    (table_blocks atom atoms bytes cells same even) ∙ sym (current_in cells place)

-- what bytes stand for each image of settled tables stands for
settled_covered : {K : Type 0} (start : State K) (seals : Seals) (blocks : List Block)
    (bytes : List ℕ) → ((b : ℕ) → b < start.map.blocks → place_in start.map b < start.disk.atoms) →
    StandsFor start.map seals blocks bytes → TellsSettled start bytes
    → StartsCovered start seals blocks
settled_covered start seals blocks bytes inside stands tells = λ told is.
    let (settled, same, even) = tells told is in
    let sealed : (b : ℕ) → b < start.map.blocks → IsSealed
    start.map seals b (block_in blocks b).newest (cell_in told.now (place_in start.map b)).current =
    λ b below. subst (λ atom. IsSealed start.map seals b (block_in blocks b).newest atom)
    (current_block start.map.atom start.disk.atoms
    bytes told.now (place_in start.map b) same even (inside b below)) (stands b below) in record {
      candidates = λ b below value has. (
        (block_in blocks b).newest,
        newest_contained (block_in blocks b),
        subst (λ atom. IsSealed start.map seals b (block_in blocks b).newest atom)
            (sym (settled_cell told.now (place_in start.map b) value settled has)) (sealed b below),
      );
      current = sealed;
    }

pub starts_covered : {K : Type 0} (start : State K) (seals : Seals) (blocks : List Block)
    (bytes : List ℕ) → Starts start seals blocks bytes → TellsSettled start bytes
    → StartsCovered start seals blocks
starts_covered start seals blocks bytes starts tells =
    settled_covered start seals blocks bytes (λ b below. let on = on_disk start.map start.disk.atoms
    b 1 (side_in start.map b) starts.sound.fits (omega arith) in omega arith) starts.stands tells

pub plain_covered : {K : Type 0} (start : State K) (seals : Seals) (bytes : List ℕ)
    → IsWholeDisk start.map.atom start.disk.atoms start.map → ChangeNothing seals →
    length bytes ≡ start.disk.atoms * start.map.atom → AreBytes bytes → TellsSettled start bytes
    → StartsCovered start seals (plain_blocks start bytes)
plain_covered start seals bytes whole nothing long are tells =
    settled_covered start seals (plain_blocks start bytes) bytes (λ b below. subst (λ n. n
    < start.disk.atoms) (sym (whole.places b below)) (subst (λ n. b < n) whole.blocks below))
    (plain_stands start seals bytes whole nothing long are) tells

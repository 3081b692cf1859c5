-- The round keys as the code keeps them: in planes, with the same key for each of the eight blocks.
use Rattle.std.specs.Prelude.{◌≡◌, ℕ, zero, suc, ◌<◌, List, [], slice_index_or}
use Rattle.aes_core.specs.Planes.{state_in, translated}
use Rattle.aes_core.specs.declared.plane.Plane.{Plane}
use Rattle.aes_core.specs.declared.planes.Planes.{Planes}

-- the key of round r as its planes have it: each but the first carries the constant 63 hexadecimal,
-- which the circuit of the S-box leaves out
abbrev pub carried : ℕ → List ℕ → List ℕ
carried zero key = key
carried (suc r) key = translated key

abbrev pub no_plane : Plane
no_plane = record { 0 = [] }

-- the planes of the key of round r
abbrev pub planes_at : List Planes → ℕ → Planes
planes_at keys r = slice_index_or keys r (record {
  b0 = no_plane;
  b1 = no_plane;
  b2 = no_plane;
  b3 = no_plane;
  b4 = no_plane;
  b5 = no_plane;
  b6 = no_plane;
  b7 = no_plane;
})

-- the bytes of the key of round r
abbrev pub key_at : List Planes → ℕ → List ℕ
key_at keys r = carried r (state_in 0 (planes_at keys r))

-- the eight blocks have the same key in each round
abbrev pub AreAlike : List Planes → Type 0
AreAlike keys =
    (r k : ℕ) → r < 15 → k < 8 → state_in k (planes_at keys r) ≡ state_in 0 (planes_at keys r)

-- The keyslots and segments that digests list.
use Rattle.std.specs.Prelude.{ℕ, ◌==◌, ◌&&◌, ◌||◌, not, Bool, List, Option, is_some, option_map}
use Rattle.std.specs.Prelude.{count_by}
use Rattle.std.specs.List.{list_any, find}
use Rattle.luks_meta.specs.declared.digest.Digest.{Digest}
use Rattle.luks_meta.specs.declared.meta.Parts.{Parts}
use Rattle.luks_meta.specs.declared.segment.Segment.{Segment}

-- a number that is one of the entries'
abbrev pub is_there : {T : Type 0} → List (ℕ × T) → ℕ → Bool
is_there entries n = list_any (λ entry. entry.0 == n) entries

-- the value of the entry with a number
abbrev pub value_at : {T : Type 0} → List (ℕ × T) → ℕ → Option T
value_at entries n = option_map (λ entry. entry.1) (find (λ entry. entry.0 == n) entries)

abbrev pub lists : List ℕ → ℕ → Bool
lists numbers n = list_any (λ number. number == n) numbers

-- a digest that lists a keyslot or segment that isn't one of these
abbrev pub lists_beyond : (ℕ → Bool) → (ℕ → Bool) → Digest → Bool
lists_beyond keyslots segments d =
    list_any (λ k. not (keyslots k)) d.keyslots || list_any (λ s. not (segments s)) d.segments

-- a digest that lists a keyslot or segment that isn't there
abbrev pub lists_unknown : Parts → Digest → Bool
lists_unknown m d = lists_beyond (is_there m.keyslots) (is_there m.segments) d

-- how many digests list a segment
unfoldable pub times_listed : List (ℕ × Digest) → ℕ → ℕ
times_listed digests n = count_by (λ d. lists d.1.segments n) digests

-- a crypt segment in no digest or in two
abbrev pub is_badly_listed : List (ℕ × Digest) → ℕ × Segment → Bool
is_badly_listed digests s = is_some s.1.encryption && not (times_listed digests s.0 == 1)

unfoldable pub breaks_references : Parts → Bool
breaks_references m =
    list_any (λ d. lists_unknown m d.1) m.digests || list_any (is_badly_listed m.digests) m.segments

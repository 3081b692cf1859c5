-- Which copies an image of a commit may have: of the texts that its places may hold whole, those
-- that were handed to them by then.
use Rattle.std.proofs.Common.{◌≡◌, inl, inr, ℕ, ◌+◌, ◌-◌, ◌*◌, ◌⊎◌, Bool, List, [], ◌∷◌, ◌++◌}
use Rattle.std.proofs.Common.{take, drop, Some, refl, sym, ◌∙◌, ap, subst, arith}
use Rattle.std.specs.Prelude.{Contains}
use Rattle.std.proofs.lemmas.List.{take_at}
use Rattle.std.proofs.lemmas.List.Elements.{Contains-push}
use Rattle.std.proofs.lemmas.List.Elements.{Contains-push_cases}
use Rattle.crash_laws.proofs.HeaderAreas.AreaTexts.{area_at}
use Rattle.crash_laws.proofs.HeaderAreas.AreasShown.{text_certain}
use Rattle.crash_laws.proofs.HeaderAreas.HeadersGiven.{certain, place_within, some_one}
use Rattle.crash_laws.specs.HeaderAreas.Areas.{Image, IsOf, Shows, content_of, text_in}
use Rattle.crash_laws.specs.HeaderAreas.Areas.{text_from}
use Rattle.crash_laws.specs.HeaderAreas.Commits.{Follows, HasPast, IsDated, IsOlder, ShowsCommit, Stage}
use Rattle.crash_laws.specs.HeaderAreas.Commits.{WasHanded, begun, first_kept, first_written, second_written}
use Rattle.crash_laws.specs.HeaderAreas.Commits.{IsLater, written_of}
use Rattle.crash_laws.specs.HeaderAreas.Headers.{Copy, Handed, Header, IsGenuine, IsHeader, IsLaidOut, IsReader}
use Rattle.crash_laws.specs.HeaderAreas.Headers.{Layout, Reader, byte_of, found, place_of, primary, secondary}
use Rattle.crash_laws.specs.HeaderAreas.Headers.{text_of}
use Rattle.crash_laws.specs.HeaderAreas.Promises.{IsImageOf}
use Rattle.sector_disk.specs.DiskViews.Views.{View}
use Rattle.luks_store.specs.SlotCommits.Images.{handed_with}

-- the texts of the past, and of each place the one that the commit has it hold by then
abbrev pub handed_then : Stage → Header (List ℕ) → Header (List ℕ) → Handed → Handed
handed_then stage from to handed copy =
    handed copy ++ text_of (written_of copy stage from to) copy ∷ []

abbrev Said : Reader (List ℕ) → List ℕ → List ℕ → Stage → Copy → List ℕ → Type 0
Said reader from to stage copy m =
    (m ≡ from) ⊎ (IsOlder reader from m ⊎ (WasHanded copy stage × (m ≡ to)))

-- where a copy's place lies
place_at : (atom atoms size : ℕ) (layout : Layout) (copy : Copy) → IsLaidOut atom atoms size layout
    → byte_of size copy ≡ (place_of layout copy).start * atom
place_at atom atoms size layout primary laid = let first =
    laid.first in (let e : 0 ≡ 0 * atom = omega arith in rw first e)
place_at atom atoms size layout secondary laid = rw laid.second (sym laid.long)

place_long : (atom atoms size : ℕ) (layout : Layout) (copy : Copy)
    → IsLaidOut atom atoms size layout
    → size ≡ (place_of layout copy).count * atom
place_long atom atoms size layout primary laid = sym laid.long
place_long atom atoms size layout secondary laid = rw laid.same (sym laid.long)

module _ (reader : Reader (List ℕ)) (from to : Header (List ℕ)) (of_from : IsHeader reader from)
    (of_to : IsHeader reader to) (follows : Follows reader from.means to.means) (handed : Handed)
    (past : HasPast reader from handed) where
  -- ---- what the texts mean
  says_past : (stage : Stage) (copy : Copy) (m : List ℕ)
      → (m ≡ from.means) ⊎ IsOlder reader from.means m
      → Said reader from.means to.means stage copy m
  says_past stage copy m (inl same) = inl same
  says_past stage copy m (inr older) = inr (inl older)

  says_from : (stage : Stage) (copy : Copy) (text m : List ℕ) → text_of from copy ≡ text
      → reader.decode (byte_of (reader.size from.means) copy) text ≡ Some m
      → Said reader from.means to.means stage copy m
  says_from stage copy text m same valid =
      inl (some_one _ m from.means valid
      (ap (reader.decode (byte_of (reader.size from.means) copy)) (sym same)
      ∙ of_from.valid copy))

  means_to : (copy : Copy) (text m : List ℕ) → text_of to copy ≡ text
      → reader.decode (byte_of (reader.size from.means) copy) text ≡ Some m → m ≡ to.means
  means_to copy text m same valid =
      some_one _ m to.means valid
      (ap (reader.decode (byte_of (reader.size from.means) copy)) (sym same)
      ∙ subst (λ size. reader.decode (byte_of size copy) (text_of to copy) ≡ Some to.means)
      follows.1 (of_to.valid copy))

  says_last : (stage : Stage) (copy : Copy) (text m : List ℕ)
      → text_of (written_of copy stage from to) copy ≡ text
      → reader.decode (byte_of (reader.size from.means) copy) text ≡ Some m
      → Said reader from.means to.means stage copy m
  says_last begun primary text m same valid = says_from begun primary text m same valid
  says_last first_written primary text m same valid =
      inr (inr (tt, means_to primary text m same valid))
  says_last first_kept primary text m same valid =
      inr (inr (tt, means_to primary text m same valid))
  says_last second_written primary text m same valid =
      inr (inr (tt, means_to primary text m same valid))
  says_last begun secondary text m same valid = says_from begun secondary text m same valid
  says_last first_written secondary text m same valid =
      says_from first_written secondary text m same valid
  says_last first_kept secondary text m same valid =
      says_from first_kept secondary text m same valid
  says_last second_written secondary text m same valid =
      inr (inr (tt, means_to secondary text m same valid))

  later : (stage : Stage) → IsLater reader stage from.means to.means
  later begun = tt
  later first_written = follows
  later first_kept = follows
  later second_written = follows

  pub dated : (stage : Stage) → IsDated reader from to stage (handed_then stage from to handed)
  dated stage = record {
    later = later stage;
    each = λ copy text m has valid. elim (Contains-push_cases (handed copy)
        (text_of (written_of copy stage from to) copy) text has)
        as (λ _. Said reader from.means to.means stage copy m) [
          | inl before ↦ says_past stage copy m (past copy text m before valid)
          | inr same ↦ says_last stage copy text m same valid
        ];
  }

  -- ---- which of them an image has
  module _ (atom atoms : ℕ) (layout : Layout) (image : Image) (broken : Bool) (view : View)
      (is_reader : IsReader reader)
      (is : IsImageOf atom atoms (reader.size from.means) layout view image)
      (genuine : IsGenuine reader (reader.size from.means) (handed_with to handed)
      (content_of atoms image)) where
    abbrev bytes : List ℕ
    bytes = content_of atoms image

    abbrev Held : Stage → Copy → List ℕ → Type 0
    Held stage copy m = Contains (handed_then stage from to handed copy)
        (take (reader.size m) (drop (byte_of (reader.size from.means) copy) bytes))

    -- a copy that was certain to be the old one
    held_from : (copy : Copy)
        → Shows (place_of layout copy) (IsOf atom (text_of from copy))
        (IsOf atom (text_of from copy)) broken view → (m : List ℕ)
        → found reader bytes (byte_of (reader.size from.means) copy) ≡ Some m
        → Contains (handed copy ++ text_of from copy ∷ [])
        (take (reader.size m) (drop (byte_of (reader.size from.means) copy) bytes))
    held_from copy shows m valid =
        let size = reader.size from.means in
        let sure : found reader bytes (byte_of size copy) ≡ Some from.means =
        certain atom atoms size reader layout copy from _ image is_reader of_from refl is.laid
        is.whole (is.takes copy) shows in
        let same : m ≡ from.means = some_one _ m from.means valid sure in
        let text : text_in image (place_of layout copy) ≡ text_of from copy =
        text_certain atom (place_of layout copy) (text_of from copy) _ image
        (of_from.size copy ∙ place_long atom atoms size layout copy is.laid) shows (is.takes copy)
        in
        let stands : take (reader.size m) (drop (byte_of size copy) bytes) ≡ text_of from copy =
        ap (λ k. take (reader.size k) (drop (byte_of size copy) bytes)) same
        ∙ ap (take size) (area_at atom atoms image (place_of layout copy) (byte_of size copy)
        is.whole (place_within atom atoms size layout copy is.laid)
        (place_at atom atoms size layout copy is.laid))
        ∙ ap (λ xs. take size (xs ++ text_from image ((place_of layout copy).start
        + (place_of layout copy).count) (atoms - ((place_of layout copy).start
        + (place_of layout copy).count)))) text
        ∙ take_at (text_of from copy) _ size (of_from.size copy) in
        subst (λ xs. Contains (handed copy ++ text_of from copy ∷ []) xs) (sym stands)
        (Contains-push (handed copy) (text_of from copy))

    held : (stage : Stage) → ShowsCommit atom layout from to stage broken view → (copy : Copy)
        (m : List ℕ) → found reader bytes (byte_of (reader.size from.means) copy) ≡ Some m
        → Held stage copy m
    held begun shows primary m valid = held_from primary shows.first m valid
    held first_written shows primary m valid = genuine.each primary m valid
    held first_kept shows primary m valid = genuine.each primary m valid
    held second_written shows primary m valid = genuine.each primary m valid
    held begun shows secondary m valid = held_from secondary shows.second m valid
    held first_written shows secondary m valid = held_from secondary shows.second m valid
    held first_kept shows secondary m valid = held_from secondary shows.second m valid
    held second_written shows secondary m valid = genuine.each secondary m valid

    pub genuine_then : (stage : Stage) → ShowsCommit atom layout from to stage broken view
        → IsGenuine reader (reader.size from.means) (handed_then stage from to handed) bytes
    genuine_then stage shows = record { each = held stage shows; below = genuine.below }

-- Lemmas on the header that the bytes of a disk have, and that an image of a commit has.
use Rattle.std.proofs.Common.{◌≡◌, ℕ, zero, suc, ◌+◌, ◌*◌, ◌<◌, ◌≤◌, ◌⊎◌, inl, inr, Bool, List}
use Rattle.std.proofs.Common.{Some, None, Option, refl, sym, ◌∙◌, ap, subst, arith}
use Rattle.std.proofs.lemmas.Bool.{cases_lt}
use Rattle.crash_laws.specs.HeaderAreas.Areas.{Shows, IsOf, Image, IsWhole, Takes, content_of}
use Rattle.crash_laws.specs.HeaderAreas.Commits.{Stage, begun, first_written, first_kept, second_written}
use Rattle.crash_laws.specs.HeaderAreas.Commits.{ShowsCommit, MayBe, Follows, IsOlder, IsDated, WasHanded}
use Rattle.crash_laws.specs.HeaderAreas.Headers.{Copy, primary, secondary, Reader, IsReader, found}
use Rattle.crash_laws.specs.HeaderAreas.Headers.{HasNoneBelow, IsNotNewer, Gives, Layout, place_of, byte_of}
use Rattle.crash_laws.specs.HeaderAreas.Headers.{IsLaidOut, Header, text_of, IsHeader, Handed, IsGenuine}
use Rattle.sector_disk.specs.DiskViews.Views.{View}
use Rattle.crash_laws.proofs.HeaderAreas.AreaTexts.{found_at}
use Rattle.crash_laws.proofs.HeaderAreas.AreasShown.{text_certain}

-- what is found is one
pub some_one : {M : Type 0} (o : Option M) (a b : M) → o ≡ Some a → o ≡ Some b → a ≡ b
some_one o a b one two = let e : Some a ≡ Some b = sym one ∙ two in cc

pub some_none : {M : Type 0} (o : Option M) (a : M) → o ≡ Some a → o ≡ None → ⊥
some_none o a one two = let e : Some a ≡ None = sym one ∙ two in cc

-- a copy that is found where none stands in front of another
below_none : {M : Type 0} (reader : Reader M) (bytes : List ℕ) (size place : ℕ) (m : M)
    → found reader bytes 0 ≡ None
    → HasNoneBelow reader bytes size → found reader bytes place ≡ Some m → place < size → ⊥
below_none reader bytes size zero m none below is less = some_none _ m is none
below_none reader bytes size (suc place) m none below is less =
    some_none _ m is (below (suc place) (omega arith) less)

first_least : {M : Type 0} (reader : Reader M) (bytes : List ℕ) (a b : M)
    → found reader bytes 0 ≡ None
    → found reader bytes (reader.size a) ≡ Some a → HasNoneBelow reader bytes (reader.size a)
    → found reader bytes (reader.size b) ≡ Some b → HasNoneBelow reader bytes (reader.size b)
    → a ≡ b
first_least reader bytes a b none of_a below_a of_b below_b =
    elim (cases_lt (reader.size a) (reader.size b)) [
      | inl less ↦
          absurd (below_none reader bytes (reader.size b) (reader.size a) a none below_b of_a less)
      | inr from ↦ elim (cases_lt (reader.size b) (reader.size a)) [
        | inl less ↦
            absurd (below_none reader bytes (reader.size a) (reader.size b) b none below_a of_b
            less)
        | inr same ↦
            let e : reader.size a ≡ reader.size b = omega (arith, from, same) in
            some_one _ a b of_a (ap (found reader bytes) e ∙ of_b)
      ]
    ]

-- the copy at 0 counts, or the one behind it: not both
not_both : {M : Type 0} (reader : Reader M) (bytes : List ℕ) (a b one : M)
    → found reader bytes 0 ≡ Some a
    → IsNotNewer reader bytes (reader.size a) a → found reader bytes 0 ≡ Some one
    → found reader bytes (reader.size one) ≡ Some b → reader.seq one < reader.seq b → ⊥
not_both reader bytes a b one of_a newer of_one of_b later =
    let same : one ≡ a = some_one _ one a of_one of_a in
    elim (newer b (rw same at of_b)) [
      | inl is ↦
          (let l : reader.seq a < reader.seq a =
          subst (λ x. reader.seq a < reader.seq x) is (rw same at later) in omega (arith, l))
      | inr less ↦
          (let l : reader.seq a < reader.seq b = rw same at later in omega (arith, l, less))
    ]

pub header_is_one : {M : Type 0} (reader : Reader M) (bytes : List ℕ) (a b : M)
    → Gives reader bytes a → Gives reader bytes b → a ≡ b
header_is_one reader bytes a b (inl (p, _)) (inl (q, _)) = some_one _ a b p q
header_is_one reader bytes a b (inl (p, newer)) (inr (inl (one, is, it, later))) =
    absurd (not_both reader bytes a b one p newer is it later)
header_is_one reader bytes a b (inl (p, _)) (inr (inr (none, _, _))) = absurd (some_none _ a p none)
header_is_one reader bytes a b (inr (inl (one, is, it, later))) (inl (q, newer)) =
    absurd (not_both reader bytes b a one q newer is it later)
header_is_one reader bytes a b (inr (inl (one, is, it, _))) (inr (inl (two, is2, it2, _))) =
    some_one _ a b it
    (ap (λ c. found reader bytes (reader.size c)) (some_one _ one two is is2) ∙ it2)
header_is_one reader bytes a b (inr (inl (one, is, _, _))) (inr (inr (none, _, _))) =
    absurd (some_none _ one is none)
header_is_one reader bytes a b (inr (inr (none, _, _))) (inl (q, _)) = absurd (some_none _ b q none)
header_is_one reader bytes a b (inr (inr (none, _, _))) (inr (inl (one, is, _, _))) =
    absurd (some_none _ one is none)
header_is_one reader bytes a b (inr (inr (none, is, below))) (inr (inr (_, it, below_b))) =
    first_least reader bytes a b none is below it below_b

-- where the copies lie
place_at : (atom atoms size : ℕ) (layout : Layout) (copy : Copy) → IsLaidOut atom atoms size layout
    → byte_of size copy ≡ (place_of layout copy).start * atom
place_at atom atoms size layout primary laid = let first =
    laid.first in (let e : 0 ≡ 0 * atom = omega arith in rw first e)
place_at atom atoms size layout secondary laid = rw laid.second (sym laid.long)

pub place_within : (atom atoms size : ℕ) (layout : Layout) (copy : Copy)
    → IsLaidOut atom atoms size layout
    → (place_of layout copy).start + (place_of layout copy).count ≤ atoms
place_within atom atoms size layout primary laid =
    omega (arith, laid.first, laid.second, laid.within)
place_within atom atoms size layout secondary laid = laid.within

place_long : (atom atoms size : ℕ) (layout : Layout) (copy : Copy)
    → IsLaidOut atom atoms size layout
    → size ≡ (place_of layout copy).count * atom
place_long atom atoms size layout primary laid = sym laid.long
place_long atom atoms size layout secondary laid = rw laid.same (sym laid.long)

-- a copy that is certain is found
pub certain : {M : Type 0} {broken : Bool} {view : View} (atom atoms size : ℕ) (reader : Reader M)
    (layout : Layout)
    (copy : Copy) (header : Header M) (Now : ℕ → List ℕ → Type 0) (image : Image)
    → IsReader reader → IsHeader reader header → reader.size header.means ≡ size
    → IsLaidOut atom atoms size layout
    → IsWhole atom atoms image → Takes view image (place_of layout copy)
    → Shows (place_of layout copy) Now (IsOf atom (text_of header copy)) broken view
    → found reader (content_of atoms image) (byte_of size copy) ≡ Some header.means
certain atom atoms size reader layout copy header Now image is_reader valid long laid whole takes
    shows =
    found_at atom atoms reader image (place_of layout copy) (byte_of size copy)
    (text_of header copy) header.means is_reader whole
    (place_within atom atoms size layout copy laid) (place_at atom atoms size layout copy laid)
    (text_certain atom (place_of layout copy) (text_of header copy) Now image
    (valid.size copy ∙ long ∙ place_long atom atoms size layout copy laid) shows takes)
    (subst (λ s. reader.decode (byte_of s copy) (text_of header copy) ≡ Some header.means) long
    (valid.valid copy))

-- what a copy that is found may mean
pub said : {M : Type 0} (reader : Reader M) (from to : Header M) (stage : Stage) (handed : Handed)
    (bytes : List ℕ) (copy : Copy) (m : M)
    → IsReader reader → IsDated reader from to stage handed
    → IsGenuine reader (reader.size from.means) handed bytes
    → found reader bytes (byte_of (reader.size from.means) copy) ≡ Some m
    → (m ≡ from.means) ⊎ (IsOlder reader from.means m ⊎ (WasHanded copy stage × (m ≡ to.means)))
said reader from to stage handed bytes copy m is_reader dated genuine is =
    dated.each copy _ m (genuine.each copy m is) (is_reader.own _ _ m is)

-- while the copy at 0 is written
given_first_written : {M : Type 0} (reader : Reader M) (from to : M) (bytes : List ℕ)
    → Follows reader from to
    → found reader bytes (reader.size from) ≡ Some from
    → HasNoneBelow reader bytes (reader.size from)
    → ((m : M) → found reader bytes 0 ≡ Some m → (m ≡ from) ⊎ (IsOlder reader from m ⊎ (m ≡ to)))
    → (o : Option M) → found reader bytes 0 ≡ o
    → (m : M) × MayBe first_written from to m × Gives reader bytes m
given_first_written reader from to bytes later second below dated None is =
    (from, inl refl, inr (inr (is, second, below)))
given_first_written reader from to bytes later second below dated (Some m) is = elim (dated m is) [
  | inl same ↦ (
    from,
    inl refl,
    inl (is ∙ ap (λ x. Some x) same, λ g valid. inl (some_one _ g from valid second)),
  )
  | inr (inl older) ↦
      (from, inl refl, inr (inl (m, is, ap (found reader bytes) older.1 ∙ second, older.0)))
  | inr (inr next) ↦ (
    to,
    inr refl,
    inl (
      is ∙ ap (λ x. Some x) next,
      λ g valid.
          inr (subst (λ x. reader.seq x < reader.seq to)
          (some_one _ from g second (ap (found reader bytes) (sym later.1) ∙ valid)) later.0),
    ),
  )
]

without_turn : {M : Type 0} (reader : Reader M) (from to m : M) (Turn : Type 0)
    → (m ≡ from) ⊎ (IsOlder reader from m ⊎ (Turn × (m ≡ to)))
    → (m ≡ from) ⊎ (IsOlder reader from m ⊎ (m ≡ to))
without_turn reader from to m Turn (inl same) = inl same
without_turn reader from to m Turn (inr (inl older)) = inr (inl older)
without_turn reader from to m Turn (inr (inr next)) = inr (inr next.1)

-- nothing that may be found is newer than the next header
not_newer : {M : Type 0} (reader : Reader M) (from to g : M) → Follows reader from to
    → (g ≡ from) ⊎ (IsOlder reader from g ⊎ (g ≡ to)) → (g ≡ to) ⊎ (reader.seq g < reader.seq to)
not_newer reader from to g later (inl same) = inr (rw same later.0)
not_newer reader from to g later (inr (inl older)) =
    inr (let l = older.0 in let n = later.0 in omega (arith, l, n))
not_newer reader from to g later (inr (inr next)) = inl next

-- what an image of a commit under way has
pub commit_gives : {M : Type 0} {broken : Bool} {view : View} (atom atoms : ℕ) (reader : Reader M)
    (layout : Layout)
    (from to : Header M) (stage : Stage) (handed : Handed) (image : Image) → IsReader reader
    → IsHeader reader from → IsHeader reader to
    → IsDated reader from to stage handed → IsLaidOut atom atoms (reader.size from.means) layout
    → IsWhole atom atoms image
    → ((copy : Copy) → Takes view image (place_of layout copy))
    → IsGenuine reader (reader.size from.means) handed (content_of atoms image)
    → ShowsCommit atom layout from to stage broken view
    → (m : M) × MayBe stage from.means to.means m × Gives reader (content_of atoms image) m
commit_gives atom atoms reader layout from to begun handed image is_reader of_from of_to dated laid
    whole takes genuine shows =
    let one =
    certain atom atoms _ reader layout primary from _ image is_reader of_from refl laid whole
    (takes primary) shows.first in
    let two =
    certain atom atoms _ reader layout secondary from _ image is_reader of_from refl laid whole
    (takes secondary) shows.second in
    (from.means, refl, inl (one, λ g valid. inl (some_one _ g from.means valid two)))
commit_gives atom atoms reader layout from to first_written handed image is_reader of_from of_to
    dated laid whole takes genuine shows =
    let two =
    certain atom atoms _ reader layout secondary from _ image is_reader of_from refl laid whole
    (takes secondary) shows.second in
    given_first_written reader from.means to.means (content_of atoms image) dated.later two
    genuine.below
    (λ m valid. without_turn reader from.means to.means m _
    (said reader from to first_written handed _ primary m is_reader dated genuine valid))
    _ refl
commit_gives atom atoms reader layout from to first_kept handed image is_reader of_from of_to dated
    laid whole takes genuine shows =
    let one =
    certain atom atoms _ reader layout primary to _ image is_reader of_to dated.later.1 laid whole
    (takes primary) shows.first in
    let two =
    certain atom atoms _ reader layout secondary from _ image is_reader of_from refl laid whole
    (takes secondary) shows.second in (
      to.means,
      refl,
      inl (
        one,
        λ g valid. not_newer reader from.means to.means g dated.later
            (inl (some_one _ g from.means
            (ap (found reader (content_of atoms image)) (sym dated.later.1) ∙ valid) two)),
      ),
    )
commit_gives atom atoms reader layout from to second_written handed image is_reader of_from of_to
    dated laid whole takes genuine shows =
    let one =
    certain atom atoms _ reader layout primary to _ image is_reader of_to dated.later.1 laid whole
    (takes primary) shows.first in (
      to.means,
      refl,
      inl (
        one,
        λ g valid. not_newer reader from.means to.means g dated.later
            (without_turn reader from.means to.means g _
            (said reader from to second_written handed _ secondary g is_reader dated genuine
            (ap (found reader (content_of atoms image)) (sym dated.later.1) ∙ valid))),
      ),
    )

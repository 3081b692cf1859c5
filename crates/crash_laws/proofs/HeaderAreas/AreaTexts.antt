-- Lemmas on where the text of an area stands among the bytes of a disk.
use Rattle.std.proofs.Common.{◌≡◌, ℕ, zero, suc, ◌+◌, ◌-◌, ◌*◌, ◌<◌, ◌≤◌, List, ◌++◌, length, drop}
use Rattle.std.proofs.Common.{Some, sym, ◌∙◌, ap, ap₂, arith, append_assoc, length-append}
use Rattle.std.proofs.lemmas.List.{drop_at}
use Rattle.crash_laws.specs.HeaderAreas.Areas.{Area, Image, IsWhole, content_of, text_from, text_in}
use Rattle.crash_laws.specs.HeaderAreas.Headers.{Reader, IsReader, found}

length-text : (atom start n : ℕ) (image : Image)
    → ((place : ℕ) → start ≤ place → place < start + n → length (image place) ≡ atom)
    → length (text_from image start n) ≡ n * atom
unfolding text_from
length-text atom start zero image whole = let e : 0 ≡ 0 * atom = omega arith in e
length-text atom start (suc n) image whole =
    length-append (image start) (text_from image (suc start) n)
    ∙ ap₂ (λ a b. a + b) (whole start (omega arith) (omega arith))
    (length-text atom (suc start) n image
    (λ place from below. whole place (omega (arith, from)) (omega (arith, below))))
    ∙ (let e : atom + n * atom ≡ suc n * atom = grind arith in e)

text_split : (start m n : ℕ) (image : Image)
    → text_from image start (m + n) ≡ text_from image start m ++ text_from image (start + m) n
unfolding text_from
text_split start zero n image =
    ap (text_from image start) (let e : 0 + n ≡ n = omega arith in e)
    ∙ ap (λ p. text_from image p n) (let e : start ≡ start + 0 = omega arith in e)
text_split start (suc m) n image =
    ap (text_from image start) (let e : suc m + n ≡ suc (m + n) = omega arith in e)
    ∙ ap (λ rest. image start ++ rest) (text_split (suc start) m n image
    ∙ ap (λ p. text_from image (suc start) m ++ text_from image p n)
    (let e : suc start + m ≡ start + suc m = omega arith in e))
    ∙ sym (append_assoc (image start) (text_from image (suc start) m)
    (text_from image (start + suc m) n))

-- the bytes from an area on are its text and what lies behind it
pub area_at : (atom atoms : ℕ) (image : Image) (area : Area) (place : ℕ) → IsWhole atom atoms image
    → area.start + area.count ≤ atoms → place ≡ area.start * atom
    → drop place (content_of atoms image)
    ≡ text_in image area
    ++ text_from image (area.start + area.count) (atoms - (area.start + area.count))
area_at atom atoms image area place whole within is =
    let rest = atoms - (area.start + area.count) in
    let all : atoms ≡ area.start + (area.count + rest) = omega (arith, within) in
    let front = text_from image 0 area.start in
    let long : length front ≡ place =
    length-text atom 0 area.start image (λ p from below. whole p (omega (arith, below, within)))
    ∙ sym is in
    ap (λ n. drop place (text_from image 0 n)) all
    ∙ ap (drop place) (text_split 0 area.start (area.count + rest) image)
    ∙ drop_at front (text_from image (0 + area.start) (area.count + rest)) place long
    ∙ ap (λ p. text_from image p (area.count + rest))
    (let e : 0 + area.start ≡ area.start = omega arith in e)
    ∙ text_split area.start area.count rest image

-- a copy that is the text of an area is found where the area lies
pub found_at : {M : Type 0} (atom atoms : ℕ) (reader : Reader M) (image : Image) (area : Area)
    (place : ℕ) (text : List ℕ) (m : M)
    → IsReader reader → IsWhole atom atoms image → area.start + area.count ≤ atoms
    → place ≡ area.start * atom
    → text_in image area ≡ text → reader.decode place text ≡ Some m
    → found reader (content_of atoms image) place ≡ Some m
found_at atom atoms reader image area place text m is_reader whole within is same valid =
    ap (λ bytes. reader.decode place bytes) (area_at atom atoms image area place whole within is)
    ∙ is_reader.behind place (text_in image area) _ m
    (ap (λ bytes. reader.decode place bytes) same ∙ valid)

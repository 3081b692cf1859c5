-- The bytes of blocks and of requests, one after the other.
use Rattle.std.proofs.Common.{◌≡◌, ℕ, suc, ◌+◌, ◌*◌, ◌%◌, List, [], ◌∷◌, ◌++◌, length, map, ap, ◌∙◌}
use Rattle.std.proofs.Common.{false, ap₂, subst, sym, arith, append_assoc, append-nil}
use Rattle.std.proofs.Math.Nat.{mod-add-mod}
use Rattle.std.proofs.lemmas.List.FromFn.{length-map-range_with_len, map-range_with_len_more}
use Rattle.std.specs.List.{range_with_len}
use Rattle.plain_disk.specs.declared.operation.Op.{Op}
use Rattle.plain_disk.specs.declared.operation.Op.TheVariants.{Flush}
use Rattle.nbd_wire.specs.declared.requests.CommandType.TheVariants as Commands
use Rattle.nbd_wire.specs.declared.requests.CommandType.TheVariants.{Read, Write}
use Rattle.nbd_wire.specs.Fields.{u32_text}
use Rattle.nbd_wire.specs.Requests.{request_text}
use Rattle.demo_clients.specs.Contents.{demo_block, demo_byte}
use Rattle.demo_clients.specs.Inputs.{asking_text, go_text, input_asking, parting_text}
use Rattle.demo_clients.specs.Inputs.{head_of, requests_text}
use Rattle.demo_clients.specs.Operations.{operations_on, read_of, write_of}
use Rattle.demo_clients.proofs.ShareLemmas.{block-length, operations-length}

-- the first bytes of a block, and one more
pub byte-is : (seed b j : ℕ) → (seed % 256 + 7 * b + j) % 256 ≡ demo_byte seed b j
byte-is seed b j =
    let here : seed % 256 + 7 * b + j ≡ seed % 256 + (7 * b + j) = omega arith in
    let there : seed + (7 * b + j) ≡ seed + 7 * b + j = omega arith in
    ap (λ n. n % 256) here ∙ mod-add-mod seed 256 (7 * b + j) ∙ ap (λ n. n % 256) there

-- the first so many bytes of a block
pub block-front : (seed b n : ℕ) → List ℕ
block-front seed b n = map (demo_byte seed b) (range_with_len 0 n)

pub front-none : (seed b : ℕ) (bytes : List ℕ) → bytes ≡ bytes ++ block-front seed b 0
unfolding block-front
front-none seed b bytes = sym (append-nil bytes)

pub front-more : (seed b j byte : ℕ) (bytes before : List ℕ) →
    bytes ≡ before ++ block-front seed b j → byte ≡ demo_byte seed b j →
    bytes ++ byte ∷ [] ≡ before ++ block-front seed b (j + 1)
unfolding block-front
front-more seed b j byte bytes before is here =
    let same : 0 + j ≡ j = omega arith in
    ap (λ xs. xs ++ byte ∷ []) is
    ∙ append_assoc before (map (demo_byte seed b) (range_with_len 0 j)) (byte ∷ [])
    ∙ ap (λ (last : ℕ). before ++ (map (demo_byte seed b) (range_with_len 0 j) ++ last ∷ [])) here
    ∙ ap (λ xs. before ++ xs) (sym (map-range_with_len_more (demo_byte seed b) 0 j j same))

pub front-all : (seed b n : ℕ) → n ≡ 512 → block-front seed b n ≡ demo_block seed b
unfolding block-front demo_block
front-all seed b n whole = ap (λ n. map (demo_byte seed b) (range_with_len 0 n)) whole

-- requests for some operations, and for others behind them
pub requests-append : (cookie : ℕ) (xs ys : List Op) →
    requests_text cookie (xs ++ ys)
    ≡ requests_text cookie xs ++ requests_text (cookie + length xs) ys
unfolding requests_text
requests-append cookie [] ys =
    let same : cookie ≡ cookie + 0 = omega arith in
    ap (λ c. requests_text c ys) same
requests-append cookie (x ∷ xs) ys =
    let next : cookie + 1 + length xs ≡ cookie + suc (length xs) = omega arith in
    ap (λ t. asking_text cookie x ++ t)
    (requests-append (cookie + 1) xs ys
    ∙ ap (λ c. requests_text (cookie + 1) xs ++ requests_text c ys) next)
    ∙ sym (append_assoc (asking_text cookie x) (requests_text (cookie + 1) xs)
    (requests_text (cookie + suc (length xs)) ys))

-- the request for one operation
pub request-alone : (cookie : ℕ) (op : Op) → requests_text cookie (op ∷ []) ≡ asking_text cookie op
unfolding requests_text
request-alone cookie op = append-nil (asking_text cookie op)

-- none yet, and one more behind those for so many blocks
pub requests-begin : (f : ℕ → Op) (cookie first n : ℕ) (bytes : List ℕ) → n ≡ 0 →
    bytes ≡ bytes ++ requests_text cookie (map f (range_with_len first n))
unfolding requests_text
requests-begin f cookie first n bytes none =
    subst
    (λ (n : ℕ). bytes ≡ bytes ++ requests_text cookie (map f (range_with_len first n)))
    (sym none) (sym (append-nil bytes))

pub requests-more : (f : ℕ → Op) (cookie now first count next block : ℕ)
    (bytes before more : List ℕ) →
    bytes ≡ before ++ requests_text cookie (map f (range_with_len first count)) →
    now ≡ cookie + count → first + count ≡ block → next ≡ count + 1 →
    more ≡ bytes ++ asking_text now (f block) →
    more ≡ before ++ requests_text cookie (map f (range_with_len first next))
requests-more f cookie now first count next block bytes before more is here at one put =
    let ops = map f (range_with_len first count) in
    let size : cookie + count ≡ cookie + length ops =
    ap (λ (n : ℕ). cookie + n) (sym (length-map-range_with_len f first count)) in
    put
    ∙ ap (λ (xs : List ℕ). xs ++ asking_text now (f block)) is
    ∙ append_assoc before (requests_text cookie ops) (asking_text now (f block))
    ∙ ap (λ (t : List ℕ). before ++ (requests_text cookie ops ++ t))
    (ap (λ (c : ℕ). asking_text c (f block)) (here ∙ size)
    ∙ sym (request-alone (cookie + length ops) (f block)))
    ∙ ap (λ (t : List ℕ). before ++ t) (sym (requests-append cookie ops (f block ∷ [])))
    ∙ ap (λ (xs : List Op). before ++ requests_text cookie xs)
    (sym (map-range_with_len_more f first count block at))
    ∙ ap (λ (n : ℕ). before ++ requests_text cookie (map f (range_with_len first n))) (sym one)

-- the requests for a write, a read and a flush, behind other bytes
pub write-asked : (cookie seed b : ℕ) (before head all : List ℕ) →
    head ≡ before ++ request_text (head_of cookie Write false (512 * b) 512) →
    all ≡ head ++ demo_block seed b → all ≡ before ++ asking_text cookie (write_of seed b)
unfolding asking_text
write-asked cookie seed b before head all put body =
    body
    ∙ ap (λ t. t ++ demo_block seed b)
    (put ∙ ap (λ n. before ++ request_text (head_of cookie Write false (512 * b) n))
    (sym (block-length seed b)))
    ∙ append_assoc before
    (request_text (head_of cookie Write false (512 * b) (length (demo_block seed b))))
    (demo_block seed b)

pub read-asked : (cookie b : ℕ) →
    request_text (head_of cookie Read false (512 * b) 512) ≡ asking_text cookie (read_of b)
unfolding asking_text
read-asked cookie b = sym (append-nil (request_text (head_of cookie Read false (512 * b) 512)))

pub flush-asked : (cookie : ℕ) →
    request_text (head_of cookie Commands.Flush false 0 0) ≡ asking_text cookie Flush
unfolding asking_text
flush-asked cookie = sym (append-nil (request_text (head_of cookie Commands.Flush false 0 0)))

regroup : (a b c d e f : List ℕ) →
    ((((a ++ b) ++ c) ++ d) ++ e) ++ f ≡ a ++ (b ++ ((c ++ (d ++ e)) ++ f))
regroup a b c d e f = simp append_assoc

-- the parts of an input are all of it
pub input-whole : (seed first count : ℕ) (begun written flushed asked sent : List ℕ) →
    begun ≡ u32_text 3 ++ go_text →
    written ≡ begun ++ requests_text 0 (map (write_of seed) (range_with_len first count)) →
    flushed ≡ written ++ asking_text count Flush →
    asked ≡ flushed ++ requests_text (count + 1) (map read_of (range_with_len first count)) →
    sent ≡ asked ++ parting_text (count + 1 + count) →
    sent ≡ input_asking (operations_on seed first count)
unfolding input_asking operations_on requests_text
input-whole seed first count begun written flushed asked sent a b c d e =
    let writes = map (write_of seed) (range_with_len first count) in
    let reads = map read_of (range_with_len first count) in
    let some : 0 + length writes ≡ count =
    omega (arith, length-map-range_with_len (write_of seed) first count) in
    let all : count + 1 + count ≡ length (operations_on seed first count) =
    omega (arith, operations-length seed first count) in
    let behind : requests_text (0 + length writes) (Flush ∷ reads)
    ≡ asking_text count Flush ++ requests_text (count + 1) reads =
    ap (λ (n : ℕ). requests_text n (Flush ∷ reads)) some in
    let requests : requests_text 0 (writes ++ Flush ∷ reads)
    ≡ requests_text 0 writes ++ (asking_text count Flush ++ requests_text (count + 1) reads) =
    requests-append 0 writes (Flush ∷ reads) ∙ ap (λ t. requests_text 0 writes ++ t) behind in
    let parts : sent ≡ ((((u32_text 3 ++ go_text) ++ requests_text 0 writes)
    ++ asking_text count Flush)
    ++ requests_text (count + 1) reads) ++ parting_text (count + 1 + count) = cc in
    parts
    ∙ regroup (u32_text 3) go_text (requests_text 0 writes) (asking_text count Flush)
    (requests_text (count + 1) reads) (parting_text (count + 1 + count))
    ∙ ap₂ (λ (t : List ℕ) (n : ℕ). u32_text 3 ++ (go_text ++ (t ++ parting_text n)))
    (sym requests) all

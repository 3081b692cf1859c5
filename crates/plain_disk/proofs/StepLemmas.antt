-- Why what the disk in memory does is a step of the plain disk.
use Rattle.std.proofs.Common.{◌≡◌, ℕ, ◌+◌, ◌-◌, ◌*◌, ◌/◌, ◌<◌, Bool, List, [], length, take}
use Rattle.std.proofs.Common.{drop, map, replicate, slice_index_or, Option, Some, None, Result, Ok}
use Rattle.std.proofs.Common.{inl, inr, Err, IfOk, refl, sym, ◌∙◌, ap, ap₂, subst, arith}
use Rattle.std.specs.declared.alloc.AllocError.{AllocError}
use Rattle.std.proofs.lemmas.List.{length-map, length-replicate}
use Rattle.base_terms.specs.Blocks.{joined, blocks_of, changed}
use Rattle.base_terms.specs.ErrorNumbers.{device_error}
use Rattle.base_terms.proofs.BlockLemmas.{held_changed, joined-blocks_of}
use Rattle.base_terms.proofs.BlockLemmas.{block_at}
use Rattle.plain_disk.specs.declared.operation.Op.{Op}
use Rattle.plain_disk.specs.declared.operation.Op.TheVariants.{Read, Write, Zeroes, Flush}
use Rattle.plain_disk.specs.declared.operation.Reply.{Reply}
use Rattle.plain_disk.specs.declared.operation.Reply.TheVariants.{Content, Done, Errno}
use Rattle.plain_disk.specs.Operations.{touched, wrong_of}
use Rattle.plain_disk.specs.Outcomes.{IsDeviceError}
use Rattle.plain_disk.specs.Plain.{Block, Step, ProperStep, WriteStep, newest_bytes, flushed}
use Rattle.plain_disk.specs.Plain.{edged, settled_blocks}
use Rattle.plain_disk.specs.Machine.{Machine, AreBlocksOf, Steps, put, refusal_of, proper_reply}
use Rattle.plain_disk.specs.Machine.{reply_unless, reply_to}
use Rattle.plain_disk.proofs.BlockLemmas.{change, change_newest, change_sure, sure-take, sure-drop}
use Rattle.plain_disk.proofs.BlockLemmas.{sure-changed, newest-flushed, sure-flushed}
use Rattle.plain_disk.proofs.BlockLemmas.{newest_of_settled, sure_of_settled}
use Rattle.plain_disk.proofs.MeaningLemmas.{meaning_step, meaning_wrong}
use Rattle.plain_disk.proofs.RangeLemmas.{wrong_is_no_fault}

-- as many blocks as values
same_count : (machine : Machine) (blocks : List Block) → AreBlocksOf machine blocks
    → length blocks ≡ length machine.newest
same_count machine blocks are =
    sym (length-map blocks (λ block. block.newest)) ∙ ap (λ values. length values) are.newest

same_refusal : (machine : Machine) (blocks : List Block) (op : Op) → AreBlocksOf machine blocks
    → wrong_of machine.atom (length blocks * machine.atom) op ≡ refusal_of machine op
same_refusal machine blocks op are = ap (λ n. wrong_of machine.atom (n * machine.atom) op)
    (same_count machine blocks are)

-- the disk begins with blocks that hold its values alone
pub begins_settled : (machine : Machine) (values : List (List ℕ)) → machine.newest ≡ values
    → AreBlocksOf machine (settled_blocks values)
begins_settled machine values is = record {
  newest = newest_of_settled values ∙ sym is;
  sure = sure_of_settled values;
}

-- an operation that is wrong is refused, and does nothing
pub refusal_steps : (machine : Machine) (op : Op) (number : ℕ) → refusal_of machine op ≡ Some number
    → Steps machine machine op (Errno number)
unfolding Step
refusal_steps machine op number is = record {
  atom = refl;
  count = refl;
  legal = λ blocks are. (0, blocks, rw (same_refusal machine blocks op are, is) (refl, refl), are);
}

-- an operation that isn't wrong goes by its kind
proper_steps : (machine : Machine) (blocks left : List Block) (op : Op) (reply : Reply) (n : ℕ)
    → refusal_of machine op ≡ None → AreBlocksOf machine blocks
    → ProperStep machine.atom blocks op reply n left
    → Step machine.atom blocks (record { op = op; reply = reply; tried = n }) left
unfolding Step
proper_steps machine blocks left op reply n is are goes =
    rw (same_refusal machine blocks op are, is) goes

-- a read gives the newest bytes, and does nothing
pub read_steps : (machine : Machine) (offset len : ℕ) → refusal_of machine (Read offset len) ≡ None
    → Steps machine machine (Read offset len)
    (Content (take len (drop offset (joined machine.newest))))
unfolding ProperStep newest_bytes
read_steps machine offset len is = record {
  atom = refl;
  count = refl;
  legal = λ blocks are. (
    0,
    blocks,
    proper_steps machine blocks blocks (Read offset len)
        (Content (take len (drop offset (joined machine.newest)))) 0 is are (
          refl,
          ap (λ values. take len (drop offset (joined values))) (sym are.newest),
          sure-take (touched machine.atom offset len) (drop (offset / machine.atom) blocks)
              (sure-drop (offset / machine.atom) blocks are.sure),
        ),
    are,
  );
}

-- a flush leaves the newest values
pub flush_steps : (machine : Machine) → Steps machine machine Flush Done
unfolding ProperStep
flush_steps machine = record {
  atom = refl;
  count = refl;
  legal = λ blocks are. (
    0,
    map flushed blocks,
    proper_steps machine blocks (map flushed blocks) Flush Done 0 refl are refl,
    record {
      newest = newest-flushed blocks ∙ are.newest;
      sure = sure-flushed blocks are.sure;
    },
  );
}

-- the values that a write gives its blocks, in a disk of these values
abbrev written_from : ℕ → ℕ → List ℕ → List (List ℕ) → List (List ℕ)
written_from atom offset body values =
    blocks_of atom (touched atom offset (length body)) (edged atom (joined values) offset body)

-- a write puts its blocks in place of as many
pub write_steps : (old new : Machine) (offset : ℕ) (body : List ℕ) (fua : Bool)
    → refusal_of old (Write offset body fua) ≡ None → new.atom ≡ old.atom
    → length new.newest ≡ length old.newest
    → new.newest ≡ changed put old.newest (offset / old.atom)
    (written_from old.atom offset body old.newest)
    → Steps old new (Write offset body fua) Done
unfolding ProperStep WriteStep newest_bytes
write_steps old new offset body fua is atom count newest = record {
  atom = atom;
  count = count;
  legal = λ blocks are.
      let at = offset / old.atom in
      let n = touched old.atom offset (length body) * old.atom in
      let values = written_from old.atom offset body (map (λ block. block.newest) blocks) in
      let left = changed (change fua) blocks at values in (
        n,
        left,
        proper_steps old blocks left (Write offset body fua) Done n is are (refl, refl),
        record {
          newest = held_changed (λ block. block.newest) (change fua) (change_newest fua)
              blocks at values
              ∙ ap (λ held. changed put held at (written_from old.atom offset body held)) are.newest
              ∙ sym newest;
          sure = sure-changed (change fua) (change_sure fua) blocks at values are.sure;
        },
      );
}

-- no reply is an error of the device
pub reply_is_no_fault : (machine : Machine) (op : Op) → IsDeviceError (reply_to machine op) → ⊥
unfolding reply_to
reply_is_no_fault machine op = by_refusal (refusal_of machine op) refl
  where
    proper : (op : Op) → IsDeviceError (proper_reply machine.newest op) → ⊥
    proper (Read offset len) (inl is) = absurd (cc)
    proper (Read offset len) (inr is) = let e = is.1 in absurd (cc)
    proper (Write offset body fua) (inl is) = absurd (cc)
    proper (Write offset body fua) (inr is) = let e = is.1 in absurd (cc)
    proper (Zeroes offset len fua) (inl is) = absurd (cc)
    proper (Zeroes offset len fua) (inr is) = let e = is.1 in absurd (cc)
    proper Flush (inl is) = absurd (cc)
    proper Flush (inr is) = let e = is.1 in absurd (cc)

    by_refusal : (wrong : Option ℕ) → refusal_of machine op ≡ wrong
        → IsDeviceError (reply_unless wrong (proper_reply machine.newest op)) → ⊥
    by_refusal None is fault = proper op fault
    by_refusal (Some number) is (inl same) = wrong_is_no_fault machine.atom
        (length machine.newest * machine.atom) op number is
        (let e : number ≡ device_error = cc in e)
    by_refusal (Some number) is (inr same) = let e = same.1 in absurd (cc)

-- how an operation is refused, from what was found
pub known_refusal : (machine : Machine) (op : Op) (atom size : ℕ) (found wrong : Option ℕ)
    → atom ≡ machine.atom → size ≡ length machine.newest * machine.atom
    → found ≡ wrong_of atom size op → found ≡ wrong → refusal_of machine op ≡ wrong
known_refusal machine op atom size found wrong atom_is size_is is wrong_is =
    sym (ap₂ (λ a s. wrong_of a s op) atom_is size_is) ∙ sym is ∙ wrong_is

pub refusal_reply : (machine : Machine) (op : Op) (number : ℕ) → refusal_of machine op ≡ Some number
    → Errno number ≡ reply_to machine op
unfolding reply_to
refusal_reply machine op number is = rw is refl

pub proper_reply_is : (machine : Machine) (op kind : Op) → op ≡ kind → refusal_of machine op ≡ None
    → proper_reply machine.newest kind ≡ reply_to machine op
unfolding reply_to
proper_reply_is machine op kind is proper =
    ap (λ o. proper_reply machine.newest o) (sym is) ∙ rw proper refl

-- the bytes of a block
pub block_read : (newest : List (List ℕ)) (text : List ℕ) (atom size k : ℕ)
    → newest ≡ blocks_of size (length newest) text → atom ≡ size → k < length newest
    → take (k * atom + atom - k * atom) (drop (k * atom) text) ≡ slice_index_or newest k []
block_read newest text atom size k is same inside =
    let len : k * atom + atom - k * atom ≡ atom = omega arith in
    rw (len, same)
    (sym (block_at size (length newest) k text inside)
    ∙ ap (λ values. slice_index_or values k []) (sym is))

-- the bytes of a range
pub range_read : (newest : List (List ℕ)) (text bytes : List ℕ) (atom offset len : ℕ)
    → newest ≡ blocks_of atom (length newest) text → length text ≡ length newest * atom
    → bytes ≡ take (offset + len - offset) (drop offset text)
    → Content bytes ≡ Content (take len (drop offset (joined newest)))
range_read newest text bytes atom offset len is whole bytes_are =
    let same : offset + len - offset ≡ len = omega arith in
    let all : joined newest ≡ text = ap (λ values. joined values) is
    ∙ joined-blocks_of atom (length newest) text whole in
    ap (λ xs. Content xs)
    (bytes_are ∙ ap₂ (λ n xs. take n (drop offset xs)) same (sym all))

-- the result of a read that isn't wrong
pub read_replies : (machine : Machine) (op : Op) (offset len : ℕ) (result : Result Reply AllocError)
    → op ≡ Read offset len → refusal_of machine op ≡ None
    → IfOk result (λ reply. reply ≡ Content (take len (drop offset (joined machine.newest))))
    → IfOk result (λ reply. reply ≡ reply_to machine op)
read_replies machine op offset len (Err e) is proper gives = tt
read_replies machine op offset len (Ok reply) is proper gives =
    gives ∙ proper_reply_is machine op (Read offset len) is proper

pub read_result_steps : (machine : Machine) (op : Op) (offset len : ℕ)
    (result : Result Reply AllocError)
    → op ≡ Read offset len → refusal_of machine op ≡ None
    → IfOk result (λ reply. reply ≡ Content (take len (drop offset (joined machine.newest))))
    → IfOk result (λ reply. Steps machine machine op reply)
read_result_steps machine op offset len (Err e) is proper gives = tt
read_result_steps machine op offset len (Ok reply) is proper gives =
    rw (is, gives) (read_steps machine offset len
    (subst (λ o. refusal_of machine o ≡ None) is proper))

-- what a write that isn't wrong leaves, its body named otherwise
pub written_steps : (old new : Machine) (op : Op) (offset : ℕ) (body text : List ℕ) (fua : Bool)
    → op ≡ Write offset body fua → text ≡ body → refusal_of old op ≡ None
    → new.atom ≡ old.atom → length new.newest ≡ length old.newest
    → new.newest ≡ changed put old.newest (offset / old.atom)
    (written_from old.atom offset text old.newest)
    → Steps old new op Done
written_steps old new op offset body text fua is same proper atom count newest =
    rw is (write_steps old new offset body fua (subst (λ o. refusal_of old o ≡ None) is proper) atom
    count
    (newest ∙ ap (λ xs. changed put old.newest (offset / old.atom)
    (written_from old.atom offset xs old.newest)) same))

-- what zeroes that aren't wrong leave: they are a write of so many zero bytes
pub zeroed_steps : (old new : Machine) (op : Op) (offset len : ℕ) (fua : Bool)
    → op ≡ Zeroes offset len fua → refusal_of old op ≡ None
    → new.atom ≡ old.atom → length new.newest ≡ length old.newest
    → new.newest ≡ changed put old.newest (offset / old.atom)
    (blocks_of old.atom (touched old.atom offset len)
    (edged old.atom (joined old.newest) offset (replicate len 0)))
    → Steps old new op Done
zeroed_steps old new op offset len fua is proper atom count newest =
    let body = replicate len 0 in
    let zeroes = Zeroes offset len fua in
    let right : refusal_of old (Write offset body fua) ≡ None =
    meaning_wrong old.atom (length old.newest * old.atom) zeroes
    ∙ subst (λ o. refusal_of old o ≡ None) is proper in
    let writes = write_steps old new offset body fua right atom count
    (newest ∙ ap (λ n. changed put old.newest (offset / old.atom)
    (blocks_of old.atom (touched old.atom offset n) (edged old.atom (joined old.newest) offset body)))
    (sym (length-replicate {A = ℕ} len 0))) in
    rw is (record {
      atom = atom;
      count = count;
      legal = λ blocks are.
          let (n, left, step, after) = writes.legal blocks are in (
            n,
            left,
            meaning_step old.atom blocks left zeroes Done n step,
            after,
          );
    })

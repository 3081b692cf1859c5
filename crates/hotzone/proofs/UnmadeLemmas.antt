-- Why a header to come isn't made: what its commit is refused for.
use Rattle.std.proofs.Common.{◌≡◌, ℕ, ◌≢◌, ◌+◌, ◌≤◌, refl, arith}
use Rattle.hotzone.specs.Headings.{IsUnmade, fault_of}
use Rattle.luks_store.specs.Copying.Steps.{last_seqid}
use Rattle.luks_store.specs.declared.header_copies.commit.CommitError.{CommitError}
use Rattle.luks_store.specs.declared.header_copies.commit.CommitError.TheVariants as errors
use Rattle.luks_meta.specs.declared.meta.Parts.{Parts}
use Rattle.luks_store.specs.Commits.{IsRefused, text_for}
use Rattle.luks_store.specs.declared.loaded.Stored.{Stored}

some-left : (number left : ℕ) → number + left ≡ last_seqid → number ≢ last_seqid
    → number + 1 ≤ last_seqid
some-left number left all isnt = omega (arith, all, isnt)

pub unmade-refused : (before : Stored) (meta : Parts) (Comes : Parts → Type 0) (left : ℕ)
    (error : CommitError) → before.copies.used.header.seqid + left ≡ last_seqid → Comes meta
    → IsRefused before.copies.used.header (text_for meta) error
    → IsUnmade before 1 Comes (fault_of error)
unmade-refused before meta Comes left errors.Memory all comes is = tt
unmade-refused before meta Comes left errors.SeqEnd all comes is =
    (omega (arith, is), refl, omega arith)
unmade-refused before meta Comes left (errors.JsonFull len limit) all comes is =
    (meta, comes, is.1, is.2, is.3, some-left before.copies.used.header.seqid left all is.0)

use Rattle.std.proofs.Common.{◌≡◌, ℕ, List, ◌++◌, Ok, IsOk, refl, sym, ◌∙◌, ap, subst}
use Rattle.luks_store.specs.Copying.Held.{primary_of, secondary_of}
use Rattle.luks_store.proofs.CommitLemmas.{both-used, stored-by}
use Rattle.luks_store.proofs.DiskLemmas.{memory-alone}
use Rattle.luks_store.specs.Commits.{committed}
use Rattle.luks_store.specs.Loads.{judged, stored_in}
use Rattle.luks_store.specs.declared.commit.Prepared.{Prepared}
use Rattle.luks_store.specs.declared.copies.Copies.{Copies}
use Rattle.luks_store.proofs.commit.Commit.next.Goals as goal

pub returns-in-Ok-clause-loads : goal.returns-in-Ok-clause-loads
returns-in-Ok-clause-loads c =
    let p = c.self.inside.prepared in
    let is = c.self.invariant in
    let text = c.new.ensures ∙ c.in_ok-bytes.ensures.items ∙ c.first.ensures in
    let same =
    ap (λ bytes. record (committed p) { used = record { header = p.header; bytes = bytes } })
    text in
    subst (λ (q : Prepared). (rest : List ℕ)
    → stored_in q.sizes (primary_of q.copies ++ (secondary_of q.copies ++ rest))
    ≡ Ok c.in-Ok.loaded)
    c.self.view_is
    (λ rest. stored-by p.sizes _ (committed p) c.in-Ok.loaded
    (both-used c.copies_are_spelt.ensures _ _ rest is.first is.second refl is.same)
    (ap (judged p.sizes) (sym same) ∙ c.in-Ok.ensures.held))

pub returns-in-Ok-clause-copies : goal.returns-in-Ok-clause-copies
returns-in-Ok-clause-copies c =
    let p = c.self.inside.prepared in
    let text = c.new.ensures ∙ c.in_ok-bytes.ensures.items ∙ c.first.ensures in
    c.in-Ok.ensures.same
    ∙ ap (λ bytes. record (committed p) { used = record { header = p.header; bytes = bytes } }) text
    ∙ ap (λ (q : Prepared). committed q) c.self.view_is

pub memory_of-requires : goal.memory_of-requires
memory_of-requires c =
    let p = c.self.inside.prepared in
    let text = c.new.ensures ∙ c.in_ok-bytes.ensures.items ∙ c.first.ensures in
    let same =
    ap (λ bytes. record (committed p) { used = record { header = p.header; bytes = bytes } })
    text in
    memory-alone c.in-Err.fault _
    (subst (λ (q : Copies). IsOk (judged p.sizes q)) (sym same) c.self.invariant.held)
    c.in-Err.ensures.no_read c.in-Err.ensures.held

-- The headers of a zone as they are made: the one with the zone open follows the one that was
-- loaded, and the one with the boundary moved follows that.
use Rattle.std.proofs.Common.{◌≡◌, ◌∙◌, ℕ, ◌+◌, ◌<◌, ◌≤◌, ◌++◌, ◌-◌, true, List, [], Option, Some, Result}
use Rattle.std.proofs.Common.{None, Ok, Err, cond, false, inl, inr, refl, sym, ap, subst, arith}
use Rattle.std.proofs.lemmas.Bool.{eqb-true}
use Rattle.std.specs.Option.{IsSomeAnd, option_and_then}
use Rattle.base_terms.specs.declared.disk_sizes.Sizes.{Sizes}
use Rattle.hotzone.proofs.HeadingLemmas.{same-self}
use Rattle.hotzone.specs.Headings.{AreMade, Follows, IsOpening, IsToCome, IsTurning, IsUnmade}
use Rattle.hotzone.specs.Headings.{MayOpenFrom, MayTurn, Opens, Turns}
use Rattle.hotzone.specs.declared.worker.NextHeader.{NextHeader}
use Rattle.hotzone.specs.declared.worker.ZoneFault.{ZoneFault}
use Rattle.hotzone.specs.declared.worker.ZoneFault.TheVariants as faults
use Rattle.json_members.specs.declared.faults.JsonFault.{JsonFault}
use Rattle.luks_bin.specs.Copies.{text_of}
use Rattle.luks_bin.specs.declared.header.BinHeader.{BinHeader}
use Rattle.luks_store.specs.Copying.Held.{primary_of, secondary_of, stage_in}
use Rattle.luks_store.specs.Copying.Steps.{last_seqid}
use Rattle.luks_store.specs.declared.header_copies.commit.Stage.TheVariants.{Begun}
use Rattle.luks_json.specs.Metas.{meta_from}
use Rattle.luks_meta.specs.declared.meta.Parts.{Parts}
use Rattle.luks_meta.specs.declared.reencrypt.Direction.{Direction}
use Rattle.luks_meta.specs.declared.reencrypt.Direction.TheVariants.{Forward, Backward}
use Rattle.luks_meta.specs.declared.reencrypt.Resilience.{Resilience}
use Rattle.luks_meta.specs.declared.reencrypt.Resilience.TheVariants.{Journal, Checksum, Datashift}
use Rattle.luks_rules.specs.Conversions.{conversions_of, only}
use Rattle.luks_rules.specs.Segments.{in_progress}
use Rattle.luks_rules.specs.Shapes.{may_open, progress_of, progress_under}
use Rattle.luks_rules.specs.declared.plan.Plan.{Plan}
use Rattle.luks_rules.specs.declared.shape.Progress.{Progress}
use Rattle.luks_store.proofs.StoredLemmas.{is-valid}
use Rattle.luks_store.specs.Commits.{IsNext, committed}
use Rattle.luks_store.specs.Loads.{IsStored, judged, stored_in, ◌>>=◌}
use Rattle.luks_store.specs.Used.{Refusal, copies_in}
use Rattle.luks_store.specs.declared.commit.Prepared.{Prepared}
use Rattle.luks_store.specs.declared.copies.Copies.{Copies}
use Rattle.luks_store.specs.declared.loaded.Stored.{Stored}
use Rattle.reenc_meta.specs.Finishes.{finished}
use Rattle.reenc_meta.specs.Layouts.{laid_out_by, progress_at}
use Rattle.reenc_meta.specs.Moves.{IsGoneTo, MayMove, MayMoveBy, moved, opened}

-- ---- what is loaded behind a commit
sizes-held : (sizes : Sizes) (r : Result Copies Refusal) (stored : Stored)
    → ◌>>=◌ {B = Stored} r (λ copies. judged sizes copies) ≡ Ok stored
    → sizes ≡ stored.valid.sizes
sizes-held sizes (Ok copies) stored is = (is-valid sizes copies stored is).same_sizes
sizes-held sizes (Err refusal) stored is = absurd cc

sizes-stored : (sizes : Sizes) (bytes : List ℕ) (stored : Stored)
    → stored_in sizes bytes ≡ Ok stored → sizes ≡ stored.valid.sizes
unfolding stored_in
sizes-stored sizes bytes stored is = sizes-held sizes (copies_in bytes) stored is

meta-held : (p : Prepared) (next : Stored) (meta : Parts) → IsStored next
    → next.copies ≡ committed p → meta_from p.header.hdr_size (text_of (primary_of p.copies)) ≡ Ok meta
    → next.valid.meta ≡ meta
meta-held p next meta is copies back = same _ _ (sym read ∙ back)
  where
    read : meta_from p.header.hdr_size (text_of (primary_of p.copies)) ≡ Ok next.valid.meta
    read = subst (λ (c : Copies). meta_from c.used.header.hdr_size (text_of c.used.bytes)
        ≡ Ok next.valid.meta) copies (is-valid next.valid.sizes next.copies next is.held).read

    same : (a b : Parts) → ◌≡◌ {A = Result Parts JsonFault} (Ok a) (Ok b) → a ≡ b
    same a b is = cc

pub follows-by : (before : Stored) (meta : Parts) (p : Prepared) (next : Stored)
    → IsNext before meta p → stage_in p.copies ≡ Begun → IsStored next → next.copies ≡ committed p
    → ((rest : List ℕ)
    → stored_in p.sizes (primary_of p.copies ++ (secondary_of p.copies ++ rest)) ≡ Ok next)
    → Follows before (record { commit = p; loaded = next }) × (next.valid.meta ≡ meta)
follows-by before meta p next is begun stored copies loads =
    let same = meta-held p next meta stored copies is.meta in (
      record {
        commit = subst (λ m. IsNext before m p) (sym same) is;
        loaded = record {
          copies = copies;
          sizes = sym (sizes-stored p.sizes _ next (loads []));
          stored = stored;
          loads = loads;
        };
        begun = begun;
      },
      same,
    )

-- ---- both headers
open-zone : (d : Direction) (n : ℕ) (plan : Plan) → (opened d n plan).zone ≡ n
open-zone Forward n plan = refl
open-zone Backward n plan = refl

moves-over : (r : Resilience) (zone room left blocks : ℕ) → 0 < blocks
    → may_open r blocks ≡ true → zone ≡ blocks → MayMoveBy r zone room left blocks
moves-over Journal zone room left blocks some kept is = sym is
moves-over (Checksum n) zone room left blocks some kept is = sym is
moves-over (Datashift n) zone room left blocks some kept is =
    absurd (let none = eqb-true blocks 0 kept in omega (arith, none, some))

pub sizes-on : (before : Stored) (next : NextHeader) → Follows before next
    → next.loaded.valid.sizes ≡ before.valid.sizes
sizes-on before next is = is.loaded.sizes ∙ is.commit.sizes

-- how far it is with the zone open
open-known : (before : Stored) (blocks : ℕ) (next : NextHeader) (p : Progress)
    → progress_of before.valid.meta before.valid.sizes ≡ Some p → Opens before blocks next
    → Follows before next
    → progress_of next.loaded.valid.meta next.loaded.valid.sizes
    ≡ Some (progress_at (opened p.conversion.direction blocks p.plan) p)
open-known before blocks next p known opens is =
    ap (progress_of next.loaded.valid.meta) (sizes-on before next is) ∙ (opens p known).progress

-- what is known of the conversion of a header
progress-in : {P : Progress → Type 0} (o : Option Progress) → IsSomeAnd o P
    → (p : Progress) × (o ≡ Some p) × P p
progress-in (Some p) is = (p, refl, is)
progress-in None is = absurd is

pub may-turn : (before : Stored) (blocks : ℕ) (next : NextHeader) → MayOpenFrom before blocks
    → Opens before blocks next → Follows before next → MayTurn next.loaded blocks
may-turn before blocks next may opens is =
    let here = progress-in _ may in
    let p = here.0 in
    let can = here.2 in
    subst (λ o. IsSomeAnd o (λ now. MayMove next.loaded.valid.sizes.atom now blocks))
    (sym (open-known before blocks next p here.1 opens is)) (record {
      some = can.some;
      by = moves-over p.conversion.resilience _ _ _ blocks can.some can.kept
          (open-zone p.conversion.direction blocks p.plan);
    })

pub are-made : (before : Stored) (blocks : ℕ) (open_next moved_next : NextHeader)
    → MayOpenFrom before blocks → Opens before blocks open_next → Follows before open_next
    → Turns open_next.loaded blocks moved_next → Follows open_next.loaded moved_next
    → AreMade before blocks (record { opened = open_next.commit; moved = moved_next })
are-made before blocks open_next moved_next may opens first turns after =
    let here = progress-in _ may in
    let p = here.0 in
    record {
      are = record {
        now = p;
        known = here.1;
        between = open_next.loaded;
        opens = opens p here.1;
        first = open_next.commit;
        commit = first.commit;
        loaded = first.loaded;
        same = same-self open_next.commit;
        moves = subst (λ s. IsGoneTo open_next.loaded.valid.meta s
            (progress_at (opened p.conversion.direction blocks p.plan) p)
            (moved p.conversion.direction blocks (opened p.conversion.direction blocks p.plan))
            moved_next.loaded.valid.meta) (sizes-on before open_next first)
            (turns _ (open-known before blocks open_next p here.1 opens first));
        follows = record {
          first = moved_next.commit;
          commit = after.commit;
          loaded = after.loaded;
          same = same-self moved_next.commit;
        };
      };
      open_begun = first.begun;
      moved_begun = after.begun;
    }

-- ---- why they aren't
pub unmade-by : (before : Stored) (One Other : Parts → Type 0) (fault : ZoneFault)
    → ((meta : Parts) → One meta → Other meta) → IsUnmade before 1 One fault
    → IsUnmade before 1 Other fault
unmade-by before One Other faults.Device on is = is
unmade-by before One Other (faults.DigestClash block digest) on is = is
unmade-by before One Other (faults.SeqEnd left wanted) on is = is
unmade-by before One Other (faults.JsonFull len limit) on is =
    (is.0, on is.0 is.1, is.2, is.3, is.4, is.5)
unmade-by before One Other faults.Memory on is = tt

-- enough numbers are left for both
module _ (before : Stored) (blocks left : ℕ) (all : before.copies.used.header.seqid + left ≡ last_seqid)
    (enough : 2 ≤ left) where
  pub unmade-first : (fault : ZoneFault) → IsUnmade before 1 (IsOpening before blocks) fault
      → IsUnmade before 2 (IsToCome before blocks) fault
  unmade-first faults.Device is = is
  unmade-first (faults.DigestClash block digest) is = is
  unmade-first (faults.SeqEnd l w) is = absurd (omega (arith, all, enough, is.0, is.1, is.2))
  unmade-first (faults.JsonFull len limit) is =
      (is.0, inl is.1, is.2, is.3, is.4, omega (arith, all, enough))
  unmade-first faults.Memory is = tt

-- the number of the header behind it
number-on : (before : Stored) (next : NextHeader) → Follows before next
    → next.loaded.copies.used.header.seqid ≡ before.copies.used.header.seqid + 1
number-on before next after =
    ap (λ (c : Copies). c.used.header.seqid) after.loaded.copies
    ∙ ap (λ (h : BinHeader). h.seqid) after.commit.header

module _ (before : Stored) (blocks left : ℕ) (all : before.copies.used.header.seqid + left ≡ last_seqid)
    (enough : 2 ≤ left) (next : NextHeader) (may : MayOpenFrom before blocks)
    (opens : Opens before blocks next) (after : Follows before next) where
  pub unmade-later : (fault : ZoneFault)
      → IsUnmade next.loaded 1 (IsTurning next.loaded blocks) fault
      → IsUnmade before 2 (IsToCome before blocks) fault
  unmade-later faults.Device is = is
  unmade-later (faults.DigestClash block digest) is = is
  unmade-later (faults.SeqEnd l w) is =
      absurd (let number = number-on before next after in
      omega (arith, all, enough, number, is.0, is.1, is.2))
  unmade-later (faults.JsonFull len limit) is =
      let size = ap (λ (c : Copies). c.used.header.hdr_size) after.loaded.copies
      ∙ ap (λ (h : BinHeader). h.hdr_size) after.commit.header in
      let number = number-on before next after in
      let here = progress-in _ may in (
        is.0,
        inr (
          next.loaded,
          (here.0, here.1, opens here.0 here.1),
          sizes-on before next after,
          is.1,
        ),
        is.2,
        is.3 ∙ ap (λ n. n - 4097) size,
        is.4,
        omega (arith, number, is.5),
      )
  unmade-later faults.Memory is = tt

-- ---- what a header that goes on is known to be
-- a conversion is under way
pub never-idle : (P : Progress → Type 0) (m : Parts) (sizes : Sizes)
    → IsSomeAnd (progress_of m sizes) P → in_progress m.config ≡ false → ⊥
unfolding progress_of
never-idle P m sizes is idle =
    subst (λ b. IsSomeAnd (cond b (option_and_then (progress_under sizes.atom m)
    (only (conversions_of m.keyslots))) None) P) idle is

pub known-by : (P : Progress → Type 0) (o : Option Progress) (p : Progress) → o ≡ Some p
    → IsSomeAnd o P → P p
known-by P o p is holds = subst (λ q. IsSomeAnd q P) is holds

-- the area of the text stays as long as it is
pub config-on : (atom : ℕ) (p : Progress) (plan : Plan) (m : Parts)
    → (laid_out_by atom p plan m).config ≡ m.config
unfolding laid_out_by
config-on atom p plan m = refl

pub config-behind : (sizes : Sizes) (p : Progress) (m : Parts)
    → (finished sizes p m).config.json_size ≡ m.config.json_size
unfolding finished
config-behind sizes p m = refl

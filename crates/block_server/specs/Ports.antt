-- A port on a lane: what it takes to submit operations to it, and what it did.
use Rattle.std.specs.Prelude.{ℕ, ◌≡◌, ◌⊎◌, List, [], ◌++◌, length, Option, Some, None}
use Rattle.std.proofs.Common.{inl, inr, refl, ◌∙◌, ap, subst, sym}
use Rattle.std.proofs.lemmas.List.{map-append}
use Rattle.block_server.specs.Sessions.{tagged}
use Rattle.plain_disk.specs.Plain.{Exchange}
use Rattle.shared_volume.specs.Ciphers.{Context, opened, sealed, sector_of}
use Rattle.shared_volume.specs.Lanes.{Answers, IsAtRest, IsLaneOf, Knowing, StandsSo, seals_at}
use Rattle.shared_volume.specs.declared.lane.Lane.{Lane}
use Rattle.shared_volume.specs.Works.{VolumeCell}
use Rattle.volume_cell.specs.Passes.{IsPassOf, IsSamePass, known}
use Rattle.volume_machine.specs.Answers.{Tagged}
use Rattle.volume_machine.specs.Steps.{HasOpen}
use Rattle.shared_volume.proofs.OwnCalls.{answered-joined, answered-none}

module _ {C : Type 0} (sealed opened : C → ℕ → List ℕ → List ℕ) where
  -- At most one operation is under way on the lane, and that is one of the session.
  abbrev pub HasOnly : ℕ → Knowing C → Type 0
  HasOnly session v = IsAtRest sealed opened v
      ⊎ StandsSo sealed opened v
      (λ start alone. HasOpen alone.operation (λ o. o.session ≡ session))

  -- How a lane is left: at rest, or since the history was found full by an operation of a session,
  -- which may be under way for good. The history has as many entries as the cell can take then.
  abbrev pub IsLeftBy : ℕ → Knowing C → Option ℕ → Type 0
  IsLeftBy limit v None = IsAtRest sealed opened v
  IsLeftBy limit v (Some session) = HasOnly session v × (length v.history ≡ limit)

  -- on the lane of a cell these operations were executed, each of its session
  pub record Executed {X : Type 0} (was_of : X) (old : Knowing C) (is_of : X) (new : Knowing C)
      (history : List Tagged) : Type 0 where
    pub cell_is : is_of ≡ was_of
    pub answers : Answers sealed opened old new history
    pub same : IsSamePass old new

  -- the port executed these operations for its session, which alone may have left one without an
  -- answer
  pub record Did {X : Type 0} (session : ℕ) (was_of : X) (old : Knowing C) (was : Option ℕ)
      (now : ℕ) (is_of : X) (new : Knowing C) (is : Option ℕ)
      (exchanges : List Exchange) : Type 0 where
    pub executed : Executed was_of old is_of new (tagged session exchanges)
    pub session_is : now ≡ session
    pub left : (is ≡ was) ⊎ ((was ≡ None) × (is ≡ Some session))

-- an operation can be executed on this lane of the cell's volume, unless the history is full
pub record IsUsable {D P : Type 0} (cell : VolumeCell D Context P) (lane : Lane D)
    (left : Option ℕ) : Type 0 where
  pub pass : IsPassOf cell lane.pass
  pub lane_is : IsLaneOf sector_of (known lane.pass) lane.number lane.keys lane.shape
  pub stands : IsLeftBy sealed opened cell.limit (known lane.pass) left

-- where nothing was asked nothing was done, and what was done first and then was done
pub same-pass : {C : Type 0} (v : Knowing C) → IsSamePass v v
same-pass v = record { start = refl; name = refl; joined = refl; splits = refl; away = refl }

-- first one session left the port so, and then the same one
left-joined : (session now : ℕ) (a b c : Option ℕ) → now ≡ session
    → (b ≡ a) ⊎ ((a ≡ None) × (b ≡ Some session)) → (c ≡ b) ⊎ ((b ≡ None) × (c ≡ Some now))
    → (c ≡ a) ⊎ ((a ≡ None) × (c ≡ Some session))
left-joined session now a b c is (inl one) (inl two) = inl (two ∙ one)
left-joined session now a b c is (inl one) (inr two) =
    inr (sym one ∙ two.0, two.1 ∙ ap (λ n. Some n) is)
left-joined session now a b c is (inr one) (inl two) = inr (one.0, two ∙ one.1)
left-joined session now a b c is (inr one) (inr two) = absurd (none-some session (sym two.0 ∙ one.1))
  where
    none-some : (n : ℕ) → None ≡ Some n → ⊥
    none-some n same = cc

module _ {C : Type 0} (sealed opened : C → ℕ → List ℕ → List ℕ) {X : Type 0} where
  pub executed_none : (cell : X) (v : Knowing C) → Executed sealed opened cell v cell v []
  executed_none cell v = record {
    cell_is = refl;
    answers = λ start is. answered-none (seals_at sealed opened start) start v.calls;
    same = same-pass v;
  }

  pub executed_joined : (p q r : X) (u v w : Knowing C) (xs ys : List Tagged)
      → Executed sealed opened p u q v xs → Executed sealed opened q v r w ys
      → Executed sealed opened p u r w (xs ++ ys)
  executed_joined p q r u v w xs ys one two = record {
    cell_is = two.cell_is ∙ one.cell_is;
    answers = λ start is. answered-joined (seals_at sealed opened start) start u.calls v.calls
        w.calls xs ys (one.answers start is) (two.answers start (one.same.start ∙ is));
    same = record {
      start = two.same.start ∙ one.same.start;
      name = two.same.name ∙ one.same.name;
      joined = two.same.joined ∙ one.same.joined;
      splits = two.same.splits ∙ one.same.splits;
      away = two.same.away ∙ one.same.away;
    };
  }

  pub did_none : (session : ℕ) (cell : X) (v : Knowing C) (left : Option ℕ)
      → Did sealed opened session cell v left session cell v left []
  did_none session cell v left =
      record { executed = executed_none cell v; session_is = refl; left = inl refl }

  pub did_joined : (first second third : ℕ) (p q r : X) (u v w : Knowing C) (a b c : Option ℕ)
      (xs ys : List Exchange) → Did sealed opened first p u a second q v b xs
      → Did sealed opened second q v b third r w c ys
      → Did sealed opened first p u a third r w c (xs ++ ys)
  did_joined first second third p q r u v w a b c xs ys one two = record {
    executed = subst (λ (history : List Tagged). Executed sealed opened p u r w history)
        (sym (map-append _ xs ys))
        (executed_joined p q r u v w (tagged first xs) (tagged first ys) one.executed
        (subst (λ (n : ℕ). Executed sealed opened q v r w (tagged n ys)) one.session_is
        two.executed));
    session_is = two.session_is ∙ one.session_is;
    left = left-joined first second a b c one.session_is one.left two.left;
  }

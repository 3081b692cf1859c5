-- The worker's last step as one of the deeds.
use Rattle.std.proofs.Common.{◌≡◌, ◌∙◌, ◌++◌, ◌∷◌, [], List, ap, refl}
use Rattle.volume_laws.specs.BesideLanes.Lanes.{work_in, works_over}
use Rattle.shared_volume.specs.Serving.{IsLastWork}
use Rattle.volume_machine.specs.Deeds.{Act, Deed, client, worker}
use Rattle.volume_machine.specs.WorkSteps.{Worked}

no-last : (front : List Worked) (last : Worked) → [] ≡ front ++ last ∷ [] → ⊥
no-last [] last same = cc
no-last (first ∷ front) last same = cc

-- behind one deed more
further : {K : Type 0} (one : Deed K) (rest : List (Deed K)) (last : Worked)
    → IsLastWork rest last → IsLastWork (one ∷ rest) last
further one rest last found = record {
  earlier = one ∷ found.earlier;
  one = found.one;
  later = found.later;
  parts = ap (λ l. one ∷ l) found.parts;
  act = found.act;
  rests = found.rests;
}

deed-of : {K : Type 0} (one : Deed K) (act : Act) (rest : List (Deed K)) (front : List Worked)
    (last : Worked) → one.act ≡ act → work_in act ++ works_over rest ≡ front ++ last ∷ []
    → ((more : List Worked) → works_over rest ≡ more ++ last ∷ [] → IsLastWork rest last)
    → IsLastWork (one ∷ rest) last
deed-of one (client event outcome) rest front last is same again =
    further one rest last (again front same)
deed-of one (worker worked) rest [] last is same again =
    let own : worked ≡ last = cc same in
    let none : works_over rest ≡ [] = cc same in
    record {
      earlier = [];
      one = one;
      later = rest;
      parts = refl;
      act = is ∙ ap worker own;
      rests = none;
    }
deed-of one (worker worked) rest (first ∷ front) last is same again =
    let behind : works_over rest ≡ front ++ last ∷ [] = cc same in
    further one rest last (again front behind)

pub last-work : {K : Type 0} (deeds : List (Deed K)) (front : List Worked) (last : Worked)
    → works_over deeds ≡ front ++ last ∷ [] → IsLastWork deeds last
unfolding works_over
last-work [] front last same = absurd (no-last front last same)
last-work (one ∷ rest) front last same =
    deed-of one one.act rest front last refl same
    (λ more behind. last-work rest more last behind)

-- Bytes that agree but for those of an area agree but for a run that reaches farther.
use Rattle.std.proofs.Common.{◌≡◌, ◌∙◌, inl, inr, ℕ, ◌+◌, ◌-◌, ◌<◌, ◌≤◌, min, List, length, take, drop}
use Rattle.std.proofs.Common.{sym, ap, arith}
use Rattle.std.proofs.lemmas.List.{ext_get_or, get_or-drop, get_or-take, length-drop, length-take}
use Rattle.luks_store.specs.SlotCommits.Agreements.{AgreesBut}
use Rattle.image_laws.specs.Started.Gaps.{AgreeBut}

module _ (begin offset size most : ℕ) (first now : List ℕ) (from : begin ≤ offset)
    (within : size ≤ most) (agrees : AgreesBut begin offset size first now) where
  behind : drop (offset + most) now ≡ drop (offset + most) first
  behind =
      ext_get_or 0 (drop (offset + most) now) (drop (offset + most) first)
      (length-drop (offset + most) now ∙ ap (λ n. n - (offset + most)) agrees.long
      ∙ sym (length-drop (offset + most) first))
      (λ i below. get_or-drop (offset + most) now i 0
      ∙ agrees.same (offset + most + i) (omega (arith, from)) (inr (omega (arith, within)))
      ∙ sym (get_or-drop (offset + most) first i 0))

  long : length (take (offset - begin) (drop begin now))
      ≡ length (take (offset - begin) (drop begin first))
  long =
      length-take (offset - begin) (drop begin now)
      ∙ ap (λ n. min (offset - begin) n)
      (length-drop begin now ∙ ap (λ n. n - begin) agrees.long ∙ sym (length-drop begin first))
      ∙ sym (length-take (offset - begin) (drop begin first))

  before : take (offset - begin) (drop begin now) ≡ take (offset - begin) (drop begin first)
  before =
      ext_get_or 0 (take (offset - begin) (drop begin now))
      (take (offset - begin) (drop begin first)) long
      (λ i below.
      (let count = length-take (offset - begin) (drop begin now) in
      let short : i < offset - begin = omega (arith, below, count) in
      get_or-take (offset - begin) (drop begin now) i 0 short ∙ get_or-drop begin now i 0
      ∙ agrees.same (begin + i) (omega arith) (inl (omega (arith, short, from)))
      ∙ sym (get_or-drop begin first i 0)
      ∙ sym (get_or-take (offset - begin) (drop begin first) i 0 short)))

  pub agree_but : AgreeBut begin offset most first now
  agree_but = record { before = before; behind = behind }

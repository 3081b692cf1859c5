-- A line that is printed.
use Rattle.std.proofs.Common.{◌≡◌, ◌≢◌, ◌<◌, ◌≤◌, ◌-◌, ◌^◌, ℕ, List, [], ◌++◌, Some, Result}
use Rattle.std.proofs.Common.{Ok, Err, length, ap, ◌∙◌, refl, sym, arith, ⊎_elim, take_all}
use Rattle.std.specs.Prelude.{OnOk, IsErr}
use Rattle.base_terms.specs.declared.failed.Failed.{Failed}
use Rattle.base_terms.specs.Causes.{Rose}
use Rattle.io_edge.specs.Outlet.{Outlet, PutsPiece}
use Rattle.reenc_tool.specs.declared.ended.Cause.{Cause}
use Rattle.reenc_tool.specs.declared.ended.Cause.TheVariants.{Fine, Usage, Device, NoHeader}
use Rattle.reenc_tool.specs.declared.ended.Cause.TheVariants.{Header, NoKey, WrongState, Foreign}
use Rattle.reenc_tool.specs.declared.ended.Cause.TheVariants.{NoFit, Clash, Link}
use Rattle.reenc_tool.specs.declared.ended.Cause.TheVariants.{Output, Seeds, Memory, Keyslots}
use Rattle.reenc_tool.specs.Texts.{Prints, fault_line, text_of}

-- a count that stood still below its last value didn't rise
pub not_rose : (before now : ℕ) → now ≡ before → now < 2 ^ 64 - 1 → Rose before now → ⊥
not_rose before now stood low rose = ⊎_elim (λ risen. omega arith) (λ last. omega arith) rose

-- all of a line was put, and pushed out or not
pub prints-put : (s s' s'' : Outlet) (line : List ℕ) (pushed : Result (Unit {0}) Failed) →
    PutsPiece {T = Unit {0}} s s' line (Ok tt) →
    s''.had ≡ s'.had → OnOk pushed (s''.held_back ≡ []) →
    (IsErr pushed → Rose s'.faults s''.faults) → s.faults ≤ s'.faults → Prints s s'' line
prints-put s s' s'' line pushed puts same out rose later = record {
  front = λ had is. (
    length line,
    same ∙ puts had is
        ∙ ap (λ l. Some (had ++ l)) (sym (take_all (length line) line (omega arith))),
  );
  whole = λ had is _ _. same ∙ puts had is;
  out = λ stood low. out_of pushed out rose stood low;
}
  where
    out_of : (r : Result (Unit {0}) Failed) → OnOk r (s''.held_back ≡ []) →
        (IsErr r → Rose s'.faults s''.faults) →
        s''.faults ≡ s.faults → s''.faults < 2 ^ 64 - 1 → s''.held_back ≡ []
    out_of (Ok u) out rose stood low = out
    out_of (Err e) out rose stood low =
        absurd (⊎_elim (λ risen. omega (arith, stood, later)) (λ last. omega (arith, low))
        (rose refl))

pub prints-failed : (s s' : Outlet) (line : List ℕ) (e : Failed) →
    PutsPiece {T = Unit {0}} s s' line (Err e) →
    Rose s.faults s'.faults → Prints s s' line
prints-failed s s' line e puts rose = record {
  front = λ had is. let p = puts had is in (p.0, p.2);
  whole = λ had is stood low. absurd (not_rose s.faults s'.faults stood low rose);
  out = λ stood low. absurd (not_rose s.faults s'.faults stood low rose);
}

pub text_of-fault : (cause after : Cause) (text : List ℕ) → cause ≢ Fine →
    fault_line cause ≡ text_of cause after text
text_of-fault Fine after text other = absurd (other refl)
text_of-fault (Usage words) after text other = refl
text_of-fault (Device failing faults) after text other = refl
text_of-fault NoHeader after text other = refl
text_of-fault Header after text other = refl
text_of-fault NoKey after text other = refl
text_of-fault WrongState after text other = refl
text_of-fault Foreign after text other = refl
text_of-fault (NoFit what number limit) after text other = refl
text_of-fault (Clash block digest) after text other = refl
text_of-fault (Link failed faults) after text other = refl
text_of-fault (Output faults) after text other = refl
text_of-fault (Seeds faults) after text other = refl
text_of-fault Memory after text other = refl
text_of-fault Keyslots after text other = refl

-- What links and bays in memory tell.
use Rattle.std.proofs.Common.{◌≡◌, ℕ, ◌==◌, ◌&&◌, if◌then◌else◌, Bool, true, false, List, [], ◌∷◌}
use Rattle.std.proofs.Common.{length, take, map, refl, ap, sym, ◌∙◌, arith, Option, Some, None}
use Rattle.std.proofs.lemmas.List.{nil_from_length, take-map}
use Rattle.std.specs.List.{list_all}
use Rattle.std.specs.Str.{bytes_eq}
use Rattle.io_edge.specs.Memory.{Input, Output, intake_of, outlet_of}
use Rattle.bays.specs.Bays.{share, AreFresh}
use Rattle.bays.specs.Memory.{Line, Stock, AreDealt, holdings_of, is_fresh, link_state, script_of}
use Rattle.bays.specs.Memory.{handed_of, inputs_of, story_of}
use Rattle.bays.specs.Stories.{Script, Story, Begins}
use Rattle.bays.proofs.ShareLemmas.{both_pass, map-share, list_all-share, list_all-take}

-- what is told under a condition is so, and the condition holds
pub told_when : {T : Type 0} (b : Bool) (x y : T) → (if b then Some x else None) ≡ Some y →
    (b ≡ true) × (x ≡ y)
told_when true x y is = (refl, cc)
told_when false x y is = (cc, cc)

-- what is told under a condition is told without it
told_under : {T : Type 0} (b : Bool) (x : Option T) (y : T) → (if b then x else None) ≡ Some y →
    x ≡ Some y
told_under true x y is = is
told_under false x y is = cc

-- a fresh connection begins as its script says
pub begins_fresh : (c : Input × Output) → is_fresh c ≡ true →
    Begins (intake_of c.0) (outlet_of c.1) (script_of c)
begins_fresh c fresh =
    let both = both_pass (length c.0.given == 0)
    ((length c.1.had == 0) && (length c.1.held_back == 0)) fresh in
    let none = both_pass (length c.1.had == 0) (length c.1.held_back == 0) both.1 in
    let given : c.0.given ≡ [] = nil_from_length c.0.given (grind (arith, both.0)) in
    let had : c.1.had ≡ [] = nil_from_length c.1.had (grind (arith, none.0)) in
    let held_back : c.1.held_back ≡ [] = nil_from_length c.1.held_back (grind (arith, none.1)) in
    record {
      source_is = ap (λ bytes.
          record { given = Some bytes; left = Some c.0.left; faults = c.0.plan.faults }) given;
      sink_is = ap (λ bytes.
          record { had = Some bytes; held_back = c.1.held_back; faults = c.1.plan.faults }) had
          ∙ ap (λ bytes. record { had = Some []; held_back = bytes; faults = c.1.plan.faults })
          held_back;
    }

-- the first connection ahead is the first of the story, and the rest is told after it
pub tells_first : (c : Input × Output) (rest : List (Input × Output)) (old new : Line) →
    old.ahead ≡ c ∷ rest → new.ahead ≡ rest → new.handed ≡ old.handed →
    (story : Story) → story_of old ≡ Some story → (script : Script) × (scripts : List Script)
    × (story.ahead ≡ script ∷ scripts)
    × (story_of new ≡ Some (record { ahead = scripts; handed = story.handed }))
    × Begins (intake_of c.0) (outlet_of c.1) script
tells_first c rest old new is rest_is handed_is story told =
    let known : (list_all is_fresh old.ahead ≡ true)
    × (record { ahead = map script_of old.ahead; handed = map handed_of old.handed } ≡ story) =
    told_when (list_all is_fresh old.ahead)
    (record { ahead = map script_of old.ahead; handed = map handed_of old.handed }) story
    told in
    let fresh : (is_fresh c ≡ true) × (list_all is_fresh rest ≡ true) =
    both_pass (is_fresh c) (list_all is_fresh rest) (rw is at known.0) in (
      script_of c,
      map script_of rest,
      sym (ap (λ s. s.ahead) known.1) ∙ ap (λ cs. map script_of cs) is,
      rw (rest_is, handed_is, fresh.1)
          (ap (λ h. Some (record { ahead = map script_of rest; handed = h }))
          (ap (λ s. s.handed) known.1)),
      begins_fresh c fresh.0,
    )

-- links that were dealt connections which are fresh tell so
pub fresh_from_dealt : (stock : Stock) (address : List ℕ) (workers sessions : ℕ)
    (links : List Line) → AreDealt stock.connections stock.link_fails workers sessions links →
    AreFresh link_state ((holdings_of stock).inputs address) workers sessions links
fresh_from_dealt stock address workers sessions links dealt = λ scripts at_address k d within.
    let told = told_under (bytes_eq address stock.address) (inputs_of stock) scripts at_address in
    let known : (list_all is_fresh stock.connections ≡ true)
    × (map script_of stock.connections ≡ scripts) =
    told_when (list_all is_fresh stock.connections) (map script_of stock.connections) scripts
    told in
    let fresh : list_all is_fresh (share workers k 0 (take sessions stock.connections)) ≡ true =
    list_all-share is_fresh workers k 0 (take sessions stock.connections)
    (list_all-take is_fresh sessions stock.connections known.0) in
    let ahead : map script_of (share workers k 0 (take sessions stock.connections)) ≡ share workers
    k 0 (take sessions scripts) =
    map-share script_of workers k 0 (take sessions stock.connections)
    ∙ ap (λ cs. share workers k 0 cs)
    (sym (take-map script_of sessions stock.connections)
    ∙ ap (λ cs. take sessions cs) known.1) in
    rw (dealt k d within, fresh) (ap (λ cs. Some (record { ahead = cs; handed = [] })) ahead)

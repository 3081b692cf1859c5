-- Sessions of one link, one after the other.
use Rattle.std.proofs.Common.{◌≡◌, ℕ, suc, ◌+◌, ◌*◌, ◌≤◌, List, [], ◌∷◌, ◌++◌, length, map}
use Rattle.std.proofs.Common.{ap, ◌∙◌, refl, sym, subst, append-nil, append_assoc}
use Rattle.std.proofs.Common.{length-append, arith}
use Rattle.std.proofs.lemmas.List.{map-append}
use Rattle.base_terms.specs.Causes.{Rose}
use Rattle.bays.specs.Stories.{LinkState, Story}
use Rattle.nbd_session.specs.declared.ending.SessionEnd.{SessionEnd}
use Rattle.nbd_hand.specs.declared.export.Export.{Export}
use Rattle.nbd_session.specs.Turns.{exchanges_of}
use Rattle.block_server.specs.Asking.{AskedIs}
use Rattle.block_server.specs.Links.{IsLinkServed, IsServed, StandsBy}
use Rattle.block_server.specs.Sessions.{Played, AreNumbered, AreOfLink, AreSessions, Goes, Plays}
use Rattle.block_server.specs.Sessions.{numbered, of_link, tagged, tagged_of}
use Rattle.block_server.specs.declared.connection.Asked.TheVariants as Asks
use Rattle.block_server.specs.declared.link.Standing.{Standing}
use Rattle.block_server.specs.declared.link.Standing.TheVariants.{Live, Ended, Failed}
use Rattle.block_server.proofs.AskingLemmas.{sessions_none}

pub Plays-append : (a b c : Story) (xs ys : List Played) → Plays a b xs → Plays b c ys →
    Plays a c (xs ++ ys)
unfolding Plays
Plays-append a b c [] ys first second = subst (λ (s : Story). Plays s c ys) first second
Plays-append a b c (x ∷ xs) ys first second =
    (first.0, first.1, first.2, first.3, first.4, first.5, Plays-append _ b c xs ys first.6 second)

pub goes_more : (a b c : LinkState) (xs ys : List Played) → Goes a b xs → Goes b c ys →
    Goes a c (xs ++ ys)
goes_more a b c xs ys first second = λ story is.
    let f = first story is in
    let s = second f.0 f.1 in
    (s.0, s.1, Plays-append story f.0 s.0 xs ys f.2 s.2)

pub AreSessions-append : (export : Export) (may_spend : Type 0) (xs ys : List Played) →
    AreSessions export may_spend xs →
    AreSessions export may_spend ys → AreSessions export may_spend (xs ++ ys)
unfolding AreSessions
AreSessions-append export may_spend [] ys first second = second
AreSessions-append export may_spend (x ∷ xs) ys first second =
    (first.0, AreSessions-append export may_spend xs ys first.1 second)

pub tagged_of-append : (xs ys : List Played) →
    tagged_of (xs ++ ys) ≡ tagged_of xs ++ tagged_of ys
unfolding tagged_of
tagged_of-append [] ys = refl
tagged_of-append (x ∷ xs) ys =
    let own = tagged x.end.number (exchanges_of x.log.turns) in
    ap (λ t. own ++ t) (tagged_of-append xs ys)
    ∙ sym (append_assoc own (tagged_of xs) (tagged_of ys))

AreOfLink-more : (k : ℕ) (xs : List Played) (one : Played) → AreOfLink k xs → one.link ≡ k
    → AreOfLink k (xs ++ one ∷ [])
unfolding AreOfLink
AreOfLink-more k [] one are is = (is, tt)
AreOfLink-more k (x ∷ xs) one are is = (are.0, AreOfLink-more k xs one are.1 is)

AreNumbered-more : (step number : ℕ) (xs : List Played) (one : Played)
    → AreNumbered step number xs → one.end.number ≡ number + length xs * step
    → AreNumbered step number (xs ++ one ∷ [])
unfolding AreNumbered
AreNumbered-more step number [] one are is = (omega (arith, is), tt)
AreNumbered-more step number (x ∷ xs) one are is = (
  are.0,
  AreNumbered-more step (number + step) xs one are.1 (is ∙ later number step (length xs)),
)
  where
    later : (n s l : ℕ) → n + suc l * s ≡ n + s + l * s
    later n s l = omega arith

-- where the port may be spent then, it may be spent now
pub AreSessions-spend : (export : Export) (was is : Type 0) (xs : List Played) → (was → is)
    → AreSessions export was xs → AreSessions export is xs
unfolding AreSessions
AreSessions-spend export was is [] so are = tt
AreSessions-spend export was is (x ∷ xs) so are = (
  record {
    session = are.0.session;
    out = are.0.out;
    spent = λ by. so (are.0.spent by);
  },
  AreSessions-spend export was is xs so are.1,
)

-- a link that is live after so many sessions, each of which was served
pub record Reached (export : Export) (may_spend : Type 0) (step k : ℕ) (old now : LinkState)
    (old_ends now_ends : List SessionEnd) (turns : ℕ) (played : List Played) : Type 0 where
  pub sessions : AreSessions export may_spend played
  pub goes : Goes old now played
  pub ends : now_ends ≡ old_ends ++ map (λ one. one.end) played
  pub links : AreOfLink k played
  pub numbers : AreNumbered step export.number played
  pub count : length played ≡ turns
  pub counts : now.bound + turns ≡ old.bound
  pub lent : now.lent ≡ old.lent
  pub held : now.faults ≡ old.faults

pub reached_none : (export : Export) (may_spend : Type 0) (step k : ℕ) (link : LinkState)
    (ends : List SessionEnd) → Reached export may_spend step k link link ends ends 0 []
unfolding Plays AreOfLink AreNumbered
reached_none export may_spend step k link ends = record {
  sessions = sessions_none export may_spend;
  goes = λ story is. (story, is, refl);
  ends = sym (append-nil ends);
  links = tt;
  numbers = tt;
  count = refl;
  counts = omega arith;
  lent = refl;
  held = refl;
}

pub reached_spends : (export : Export) (was is : Type 0) (step k : ℕ) (old now : LinkState)
    (old_ends now_ends : List SessionEnd) (turns : ℕ) (played : List Played) → (was → is)
    → Reached export was step k old now old_ends now_ends turns played
    → Reached export is step k old now old_ends now_ends turns played
reached_spends export was is step k old now old_ends now_ends turns played so reached = record {
  sessions = AreSessions-spend export was is played so reached.sessions;
  goes = reached.goes;
  ends = reached.ends;
  links = reached.links;
  numbers = reached.numbers;
  count = reached.count;
  counts = reached.counts;
  lent = reached.lent;
  held = reached.held;
}

-- an export of another number has the same sessions
pub sessions-numbered : (export : Export) (may_spend : Type 0) (n : ℕ) (xs : List Played)
    → AreSessions (numbered export n) may_spend xs → AreSessions export may_spend xs
unfolding AreSessions
sessions-numbered export may_spend n [] are = tt
sessions-numbered export may_spend n (x ∷ xs) are = (
  record { session = are.0.session; out = are.0.out; spent = are.0.spent },
  sessions-numbered export may_spend n xs are.1,
)

module _ (export : Export) (may_spend : Type 0) (step k turns : ℕ) (old mid new : LinkState)
    (old_ends mid_ends new_ends : List SessionEnd) (played more : List Played)
    (so : Reached export may_spend step k old mid old_ends mid_ends turns played) where
  -- one more session
  pub reached_more : AskedIs (numbered export (export.number + turns * step)) may_spend k mid new
      mid_ends new_ends Asks.Served more
      → Reached export may_spend step k old new old_ends new_ends (turns + 1) (played ++ more)
  reached_more asked =
      let (one, only, link, number, bound, faults) = asked.by_case in
      let count = so.count in
      let counts = so.counts in record {
        sessions = AreSessions-append export may_spend played more so.sessions
            (sessions-numbered export may_spend (export.number + turns * step) more asked.sessions);
        goes = goes_more old mid new played more so.goes asked.goes;
        ends = asked.ends ∙ (ap (λ l. l ++ map (λ (p : Played). p.end) more) so.ends
            ∙ (append_assoc old_ends (map (λ (p : Played). p.end) played)
            (map (λ (p : Played). p.end) more)
            ∙ ap (λ l. old_ends ++ l) (sym (map-append (λ (p : Played). p.end) played more))));
        links = subst (λ l. AreOfLink k (played ++ l)) (sym only)
            (AreOfLink-more k played one so.links link);
        numbers = subst (λ l. AreNumbered step export.number (played ++ l)) (sym only)
            (AreNumbered-more step export.number played one so.numbers
            (number ∙ ap (λ n. export.number + n * step) (sym count)));
        count = ap (λ l. length (played ++ l)) only ∙ omega (
          arith,
          count,
          length-append
              played (one ∷ []),
        );
        counts = omega (arith, bound, counts);
        lent = asked.lent ∙ so.lent;
        held = faults ∙ so.held;
      }

  -- the last ask
  ended : (standing : _) → Goes mid new more → new_ends ≡ mid_ends ++ map (λ one. one.end) more
      → more ≡ [] → new.bound ≡ mid.bound → new.lent ≡ mid.lent → mid.faults ≤ new.faults
      → StandsBy standing mid new
      → IsLinkServed export may_spend step k old new old_ends new_ends standing played
  ended standing goes ends none bound lent later stands =
      let counts = so.counts in let count = so.count in let held = so.held in record {
        sessions = so.sessions;
        goes = subst (λ l. Goes old new l) (append-nil played)
            (goes_more old mid new played [] so.goes (subst (λ l. Goes mid new l) none goes));
        ends = ends ∙ (ap (λ (l : List Played). mid_ends ++ map (λ (p : Played). p.end) l) none
            ∙ (append-nil mid_ends ∙ so.ends));
        links = so.links;
        numbers = so.numbers;
        counts = omega (arith, counts, count, bound);
        lent = lent ∙ so.lent;
        later = omega (arith, held, later);
        stands = from-old standing stands;
      }
    where
      from-old : (s : _) → StandsBy s mid new → StandsBy s old new
      from-old Live is = is ∙ so.held
      from-old Ended is = (is.0 ∙ so.held, is.1)
      from-old Failed is = subst (λ (f : ℕ). Rose f new.faults) so.held is

  module _ (export' : Export) where
    pub ended_none : AskedIs export' may_spend k mid new mid_ends new_ends Asks.Ended more
        → IsLinkServed export may_spend step k old new old_ends new_ends Ended played
    ended_none asked = let (none, ahead, bound, faults) = asked.by_case in
        ended Ended asked.goes asked.ends none bound asked.lent asked.later (faults, ahead)

    pub ended_failed : AskedIs export' may_spend k mid new mid_ends new_ends Asks.Failed more
        → IsLinkServed export may_spend step k old new old_ends new_ends Failed played
    ended_failed asked = let (none, rose, bound) = asked.by_case in
        ended Failed asked.goes asked.ends none bound asked.lent asked.later rose

    pub ended_short : AskedIs export' may_spend k mid new mid_ends new_ends Asks.Memory more
        → IsLinkServed export may_spend step k old new old_ends new_ends Live played
    ended_short asked = let (none, same) = asked.by_case in
        ended Live asked.goes asked.ends none (ap (λ (l : LinkState). l.bound) same) asked.lent
        asked.later
        (ap (λ (l : LinkState). l.faults) same)

pub with-none : (played more : List Played) → more ≡ [] → played ≡ played ++ more
with-none played more none = sym (ap (λ (l : List Played). played ++ l) none ∙ append-nil played)

pub served-same : (e f : Export) (may : Type 0) (s t k : ℕ) (old new : LinkState)
    (a b ends : List SessionEnd) (standing : _) (played : List Played) → e ≡ f → s ≡ t → a ≡ b
    → IsLinkServed e may s k old new a ends standing played
    → IsLinkServed f may t k old new b ends standing played
served-same e f may s t k old new a b ends standing played export_is step_is ends_are served =
    subst (λ (x : Export). IsLinkServed x may t k old new b ends standing played) export_is
    (subst (λ (n : ℕ). IsLinkServed e may n k old new b ends standing played) step_is
    (subst (λ (l : List SessionEnd). IsLinkServed e may s k old new l ends standing played) ends_are
    served))

abbrev exporting : ℕ → ℕ → ℕ → Export
exporting number size atom = record { number = number; size = size; atom = atom }

pub export-same : (m n blocks a b : ℕ) → m ≡ n → a ≡ b
    → exporting m (blocks * a) b ≡ exporting n (blocks * b) b
export-same m n blocks a b number_is atom_is =
    ap (λ (x : ℕ). exporting x (blocks * a) b) number_is
    ∙ ap (λ (x : ℕ). exporting n (blocks * x) b) atom_is

-- the sessions of one link among all
pub is-served : (links k : ℕ) (export : Export) (may : Type 0) (old new : LinkState)
    (ends : List SessionEnd) (standing : Standing) (played all : List Played)
    → export.number ≡ k → of_link k all ≡ played
    → IsLinkServed export may links k old new [] ends standing played
    → IsServed links k old new ends standing all
is-served links k export may old new ends standing played all number own served = record {
  goes = subst (λ (l : List Played). Goes old new l) (sym own) served.goes;
  ends_are = served.ends ∙ ap (λ (l : List Played). map (λ (one : Played). one.end) l) (sym own);
  numbers = subst (λ (l : List Played). AreNumbered links k l) (sym own)
      (subst (λ (n : ℕ). AreNumbered links n played) number served.numbers);
  counts = subst (λ (l : List Played). new.bound + length l ≡ old.bound) (sym own) served.counts;
  lent = served.lent;
  later = served.later;
  stands = served.stands;
}

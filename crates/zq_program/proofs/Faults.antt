-- Faults of links, one call and one worker after another.
use Rattle.std.proofs.Common.{◌≡◌, ◌⊎◌, ℕ, ◌<◌, ◌≤◌, Bool, true, false, List, ◌∷◌, get_or, zero, suc, refl, sym, ap, ◌∙◌, subst, inl, inr, arith}
use Rattle.std.proofs.Math.Nat.{eq-or-lt_of_le}
use Rattle.std.specs.Prelude.{◌&&◌}
use Rattle.zq_io.specs.Streams.{Rose}
use Rattle.zq_program.specs.Faults.{HasFaults, HaveFaults, NeverFell, SomeRose}

rose_then : (a b c : ℕ) → a ≤ b → Rose a b → b ≤ c → Rose a c
rose_then a b c h (inl r) k = inl (omega arith)
rose_then a b c h (inr r) k = at_end (eq-or-lt_of_le k)
  where
    at_end : (b ≡ c) ⊎ (b < c) → Rose a c
    at_end (inl e) = inr (sym e ∙ r)
    at_end (inr l) = inl (omega arith)

-- ---- one link
pub faults_none : (n : ℕ) → HasFaults true n n
faults_none n = record { later = omega arith; quiet = λ _. refl; rose = λ e. absurd (cc) }

pub faults_on : (s t : Bool) (a b c : ℕ) → HasFaults s a b → HasFaults t b c → HasFaults (s && t) a c
faults_on true t a b c h k =
    let same = h.quiet refl in
    let later = k.later in
    record {
      later = omega arith;
      quiet = λ e. k.quiet e ∙ same;
      rose = λ e. subst (λ n. Rose n c) same (k.rose e);
    }
faults_on false t a b c h k =
    let first = h.later in
    let second = k.later in
    record {
      later = omega arith;
      quiet = λ e. absurd (cc);
      rose = λ _. rose_then a b c first (h.rose refl) second;
    }

-- ---- several links
pub have_none : (fs : List ℕ) → HaveFaults true fs fs
have_none fs = record { wide = refl; later = λ k. omega arith; quiet = λ _. refl; rose = λ e. absurd (cc) }

some_here : (f g : ℕ) (fs gs : List ℕ) → Rose f g → SomeRose (f ∷ fs) (g ∷ gs)
some_here f g fs gs r = (0, omega arith, r)

some_later : (f g : ℕ) (fs gs : List ℕ) → SomeRose fs gs → SomeRose (f ∷ fs) (g ∷ gs)
some_later f g fs gs r = (suc r.0, (let k = r.1 in omega arith), r.2)

later_cons : (f g : ℕ) (fs gs : List ℕ) → f ≤ g → ((k : ℕ) → get_or fs k 0 ≤ get_or gs k 0) → (k : ℕ) → get_or (f ∷ fs) k 0 ≤ get_or (g ∷ gs) k 0
later_cons f g fs gs h k zero = h
later_cons f g fs gs h k (suc j) = k j

pub have_cons : (s t : Bool) (f g : ℕ) (fs gs : List ℕ) → HasFaults s f g → HaveFaults t fs gs → HaveFaults (s && t) (f ∷ fs) (g ∷ gs)
have_cons true t f g fs gs h k =
    let same = h.quiet refl in
    record {
      wide = ap suc k.wide;
      later = later_cons f g fs gs h.later k.later;
      quiet = λ e. ap (λ n. n ∷ gs) same ∙ ap (λ (l : List ℕ). f ∷ l) (k.quiet e);
      rose = λ e. some_later f g fs gs (k.rose e);
    }
have_cons false t f g fs gs h k = record {
  wide = ap suc k.wide;
  later = later_cons f g fs gs h.later k.later;
  quiet = λ e. absurd (cc);
  rose = λ _. some_here f g fs gs (h.rose refl);
}

pub have_first : (s : Bool) (f g : ℕ) (fs : List ℕ) → HasFaults s f g → HaveFaults s (f ∷ fs) (g ∷ fs)
have_first true f g fs h = have_cons true true f g fs fs h (have_none fs)
have_first false f g fs h = have_cons false true f g fs fs h (have_none fs)

pub have_on : (s t : Bool) (fs gs hs : List ℕ) → HaveFaults s fs gs → HaveFaults t gs hs → HaveFaults (s && t) fs hs
have_on true t fs gs hs h k =
    subst (λ (l : List ℕ). HaveFaults t l hs) (h.quiet refl) k
have_on false t fs gs hs h k =
    let r = h.rose refl in
    record {
      wide = k.wide ∙ h.wide;
      later = λ j. let a = h.later j in let b = k.later j in omega arith;
      quiet = λ e. absurd (cc);
      rose = λ _. (r.0, r.1, rose_then (get_or fs r.0 0) (get_or gs r.0 0) (get_or hs r.0 0) (h.later r.0) r.2 (k.later r.0));
    }

-- ---- whatever was sent
pub fell_none : (fs : List ℕ) → NeverFell fs fs
fell_none fs = record { wide = refl; later = λ k. omega arith }

pub fell_of : (s : Bool) (fs gs : List ℕ) → HaveFaults s fs gs → NeverFell fs gs
fell_of s fs gs h = record { wide = h.wide; later = h.later }

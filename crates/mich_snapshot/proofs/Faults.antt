-- The first part whose rules fail.
use Rattle.std.proofs.Common.{◌≡◌, ℕ, ◌+◌, Bool, true, false, cond, List, [], ◌∷◌, ◌++◌, length, Some, None, refl, ap, ◌∙◌, arith}
use Rattle.std.specs.Prelude.{Result, Ok, Err}
use Rattle.std.specs.List.{flat_map}
use Rattle.std.proofs.lemmas.List.{length-append}
use Rattle.rules_files.specs.snapshots.Rules.{Part, first_fault}
use Rattle.mich_snapshot.specs.Tried.{Tries, TriesPart}
use Rattle.mich_saved.specs.declared.errors.LoadError.{LoadError}
use Rattle.mich_saved.specs.declared.errors.LoadError.TheVariants as errors

pub holds : (place : ℕ) (p : Part) (ps : List Part) → p.holds ≡ true → first_fault place (p ∷ ps) ≡ first_fault (place + length p.text) ps
holds place p ps h = ap (λ (b : Bool). cond b (first_fault (place + length p.text) ps) (Some place)) h

pub fails : (place : ℕ) (p : Part) (ps : List Part) → p.holds ≡ false → first_fault place (p ∷ ps) ≡ Some place
fails place p ps h = ap (λ (b : Bool). cond b (first_fault (place + length p.text) ps) (Some place)) h

-- ---- parts behind others

abbrev pub text_of : List Part → List ℕ
text_of ps = flat_map (λ (p : Part). p.text) ps

further : (place : ℕ) (a b c : List ℕ) (n : ℕ) → n ≡ length (a ++ b) → place + length a + length b ≡ place + n
further place a b c n h = omega (arith, length-append a b, h)

-- where the first parts hold, the fault is one of those behind them
pub behind : (place : ℕ) (ps qs : List Part) → first_fault place ps ≡ None → first_fault place (ps ++ qs) ≡ first_fault (place + length (text_of ps)) qs
behind place [] qs h = ap (λ (n : ℕ). first_fault n qs) (omega arith)
behind place (p ∷ ps) qs h = by p.holds refl h (λ g. behind (place + length p.text) ps qs g)
  where
    by : (b : Bool) → p.holds ≡ b → cond b (first_fault (place + length p.text) ps) (Some place) ≡ None
        → (first_fault (place + length p.text) ps ≡ None → first_fault (place + length p.text) (ps ++ qs) ≡ first_fault (place + length p.text + length (text_of ps)) qs)
        → cond b (first_fault (place + length p.text) (ps ++ qs)) (Some place) ≡ first_fault (place + length (p.text ++ text_of ps)) qs
    by true e g later = later g ∙ ap (λ (n : ℕ). first_fault n qs) (further place p.text (text_of ps) [] (length (p.text ++ text_of ps)) refl)
    by false e g later = absurd cc

-- a fault of the first parts is the first of all
pub before : (place at : ℕ) (ps qs : List Part) → first_fault place ps ≡ Some at → first_fault place (ps ++ qs) ≡ Some at
before place at [] qs h = absurd cc
before place at (p ∷ ps) qs h = by p.holds h (λ g. before (place + length p.text) at ps qs g)
  where
    by : (b : Bool) → cond b (first_fault (place + length p.text) ps) (Some place) ≡ Some at
        → (first_fault (place + length p.text) ps ≡ Some at → first_fault (place + length p.text) (ps ++ qs) ≡ Some at)
        → cond b (first_fault (place + length p.text) (ps ++ qs)) (Some place) ≡ Some at
    by true g later = later g
    by false g later = g

-- ---- what is told

-- an error among the first parts is one of all
pub first_told : (A B : Type 0) (place : ℕ) (ps qs : List Part) (e : LoadError) → Tries {A = A} place ps (Err e) → Tries {A = B} place (ps ++ qs) (Err e)
first_told A B place ps qs (errors.Unsound p) h = before place p ps qs h
first_told A B place ps qs errors.Memory h = tt
first_told A B place ps qs (errors.BadForm p) h = absurd h

-- what is told of the parts behind is told of all
pub next_told : {A B : Type 0} (place at : ℕ) (ps qs : List Part) (x : A) (r : Result B LoadError) → place + length (text_of ps) ≡ at → Tries place ps (Ok x) → Tries at qs r
    → Tries place (ps ++ qs) r
next_told place at ps qs x (Ok y) e first h = behind place ps qs first ∙ ap (λ (n : ℕ). first_fault n qs) e ∙ h
next_told place at ps qs x (Err (errors.Unsound p)) e first h = behind place ps qs first ∙ ap (λ (n : ℕ). first_fault n qs) e ∙ h
next_told place at ps qs x (Err errors.Memory) e first h = tt
next_told place at ps qs x (Err (errors.BadForm p)) e first h = h

-- an error tells the same of whatever would have been made
pub told_alike : (A B : Type 0) (place : ℕ) (ps : List Part) (e : LoadError) → Tries {A = A} place ps (Err e) → Tries {A = B} place ps (Err e)
told_alike A B place ps (errors.Unsound p) h = h
told_alike A B place ps errors.Memory h = tt
told_alike A B place ps (errors.BadForm p) h = h

pub part_alike : (A B : Type 0) (holds : Bool) (place : ℕ) (P : A → Type 0) (Q : B → Type 0) (e : LoadError) → TriesPart holds place P (Err e) → TriesPart holds place Q (Err e)
part_alike A B holds place P Q (errors.Unsound p) h = h
part_alike A B holds place P Q errors.Memory h = tt
part_alike A B holds place P Q (errors.BadForm p) h = h

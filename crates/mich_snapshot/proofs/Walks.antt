-- Parts are tried one by one.
use Rattle.std.proofs.Common.{◌≡◌, ℕ, ◌+◌, Bool, true, List, [], ◌∷◌, ◌++◌, append-nil, length, map, Option, Some, None, refl, sym, ap, subst, ◌∙◌}
use Rattle.std.specs.Prelude.{Err, fold}
use Rattle.rules_files.specs.snapshots.Rules.{part, parts_of, first_fault}
use Rattle.mich_saved.specs.Sound.{EachAt}
use Rattle.mich_snapshot.specs.Tried.{Tries, TriesPart}
use Rattle.mich_saved.specs.declared.errors.LoadError.{LoadError}
use Rattle.mich_saved.specs.declared.errors.LoadError.TheVariants as errors
use Rattle.mich_snapshot.proofs.Faults.{holds, fails}

map_push : {A B : Type 0} (f : A → B) (xs : List A) (x : A) (ys : List B) → map f (xs ++ x ∷ []) ++ ys ≡ map f xs ++ f x ∷ ys
map_push f [] x ys = refl
map_push f (z ∷ zs) x ys = ap (λ (l : List _). f z ∷ l) (map_push f zs x ys)

-- A: the parts; B: what was kept of them; X: what is made of them; F: what was found
module _ {A B K X F : Type 0} (text : A → List ℕ) (rules : Option K → A → Bool) (key : A → K) (R : A → B → Type 0) (shown : X → A) (more : F → A → F) where
  -- these parts are left, at this place; the rules of those before them hold
  pub record OnWay (place : ℕ) (all : List A) (found : F) (former : Option K) (rest : List (ℕ × B)) (saved : List X) (here : ℕ) (left : List A) (now : F) : Type 0 where
    pub each : EachAt R text here left rest
    pub faults : first_fault place (parts_of text rules key None all) ≡ first_fault here (parts_of text rules key former left)
    pub adds : fold more found all ≡ fold more now left
    pub same : map shown saved ++ left ≡ all

  pub starts : (place : ℕ) (all : List A) (found : F) (rest : List (ℕ × B)) → EachAt R text place all rest → OnWay place all found None rest [] place all found
  starts place all found rest each = record { each = each; faults = refl; adds = refl; same = refl }

  -- what is left where something was kept that isn't tried yet
  pub record Next (place : ℕ) (all : List A) (found : F) (former : Option K) (y : ℕ × B) (rest : List (ℕ × B)) (saved : List X) (now : F) : Type 0 where
    pub here : ℕ
    pub x : A
    pub xs : List A
    pub is : R x y.1
    pub way : OnWay place all found former (y ∷ rest) saved y.0 (x ∷ xs) now
    pub after : EachAt R text (y.0 + length (text x)) xs rest

  pub next_is : (place : ℕ) (all : List A) (found : F) (former : Option K) (y : ℕ × B) (rest : List (ℕ × B)) (saved : List X) (here : ℕ) (left : List A) (now : F)
      → OnWay place all found former (y ∷ rest) saved here left now → Next place all found former y rest saved now
  next_is place all found former y rest saved here [] now w = absurd w.each
  next_is place all found former y rest saved here (x ∷ xs) now w =
      let at : here ≡ y.0 = sym w.each.0 in record {
        here = here;
        x = x;
        xs = xs;
        is = w.each.1;
        way = subst (λ (n : ℕ). OnWay place all found former (y ∷ rest) saved n (x ∷ xs) now) at w;
        after = subst (λ (n : ℕ). EachAt R text (n + length (text x)) xs rest) at w.each.2;
      }

  pub goes_on : (place : ℕ) (all : List A) (found : F) (former : Option K) (y : ℕ × B) (rest : List (ℕ × B)) (saved after : List X) (now : F) (z : X)
      → (n : Next place all found former y rest saved now) → rules former n.x ≡ true → shown z ≡ n.x → after ≡ saved ++ z ∷ []
      → OnWay place all found (Some (key n.x)) rest after (y.0 + length (text n.x)) n.xs (more now n.x)
  goes_on place all found former y rest saved after now z n h e pushed = record {
    each = n.after;
    faults = n.way.faults ∙ holds y.0 (part (text n.x) (rules former n.x)) (parts_of text rules key (Some (key n.x)) n.xs) h;
    adds = n.way.adds;
    same = ap (λ (l : List X). map shown l ++ n.xs) pushed ∙ map_push shown saved z n.xs ∙ ap (λ (a : A). map shown saved ++ a ∷ n.xs) e ∙ n.way.same;
  }

  -- the part that is tried next fails, or there is no room for it
  pub stops : (Y : Type 0) (P : X → Type 0) (place : ℕ) (all : List A) (found : F) (former : Option K) (y : ℕ × B) (rest : List (ℕ × B)) (saved : List X) (now : F) (e : LoadError)
      → (n : Next place all found former y rest saved now) → TriesPart (rules former n.x) y.0 P (Err e) → Tries {A = Y} place (parts_of text rules key None all) (Err e)
  stops Y P place all found former y rest saved now (errors.Unsound p) n h =
      n.way.faults ∙ fails y.0 (part (text n.x) (rules former n.x)) (parts_of text rules key (Some (key n.x)) n.xs) h.0 ∙ ap (λ (q : ℕ). Some q) (sym h.1)
  stops Y P place all found former y rest saved now errors.Memory n h = tt
  stops Y P place all found former y rest saved now (errors.BadForm p) n h = absurd h

  pub record Ends (place : ℕ) (all : List A) (found : F) (saved : List X) (now : F) : Type 0 where
    pub faults : first_fault place (parts_of text rules key None all) ≡ None
    pub adds : fold more found all ≡ now
    pub same : map shown saved ≡ all

  pub ends : (place : ℕ) (all : List A) (found : F) (former : Option K) (saved : List X) (here : ℕ) (left : List A) (now : F)
      → OnWay place all found former [] saved here left now → Ends place all found saved now
  ends place all found former saved here [] now w = record { faults = w.faults; adds = w.adds; same = sym (append-nil (map shown saved)) ∙ w.same }
  ends place all found former saved here (x ∷ xs) now w = absurd w.each

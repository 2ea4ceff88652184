-- The lambdas of a literal whose value fits are typed.
use Rattle.std.proofs.Common.{◌≡◌, ℕ, ◌+◌, Bool, true, false, List, [], ◌∷◌, ◌++◌, Option, Some, None, refl, sym, ap, ◌∙◌, subst}
use Rattle.std.specs.Prelude.{if◌then◌else◌}
use Rattle.rules_text.specs.nodes.Tree.{Tree, int, str, bytes, prim, seq, Trees, none, more, size}
use Rattle.rules_data.specs.types.Kind.{Kind}
use Rattle.rules_data.specs.types.Kind as k
use Rattle.rules_data.specs.values.Val.{Val, more_vals, more_pairs}
use Rattle.rules_data.specs.values.Val as v
use Rattle.rules_data.specs.values.Forms.{AllHave, AllEntriesHave}
use Rattle.rules_data.specs.forms.Spelling.{is_address}
use Rattle.rules_data.specs.values.Literals.{Word, none_word, some_word, left_word, right_word, entry_word, recursive_word, word_of_name, Pending, body, claim, Literal, good, bad, with_pending, and_then, mapped, Reader, simple_value, on_value, option_named, or_named, read_parts, parts_of, read_elements, is_behind, read_increasing, Entry, read_binding, entry_named, read_entry, read_entries, read_body, recursive_named, read, read_rest}
use Rattle.rules_code.specs.instructions.Same.{same_kinds}
use Rattle.rules_code.specs.instructions.Context as place
use Rattle.rules_code.specs.instructions.Control.{call_kinds}
use Rattle.rules_code.specs.typing.Typing.{Typing, goes, fails, shift}
use Rattle.rules_code.specs.typing.Typing as typing
use Rattle.rules_code.specs.typing.Bodies.{body_fault, first_fault}
use Rattle.rules_code.specs.typing.Nodes.{tree_type}
use Rattle.rules_code.specs.typing.Literals.{fault_of_bodies}
use Rattle.rules_code.specs.typing.Fits.{Known, Fits, Leads}
use Rattle.laws_data.proofs.types_lemmas.ForCallers.{same_kinds_refl}

abbrev pub NoFault : List Pending → Type 0
NoFault ps = fault_of_bodies ps ≡ None

none_first : (o p : Option ℕ) → first_fault o p ≡ None → (o ≡ None) × (p ≡ None)
none_first None p h = (refl, h)
none_first (Some l) p h = absurd cc

first_none : (o p : Option ℕ) → o ≡ None → p ≡ None → first_fault o p ≡ None
first_none o p h g = ap (λ x. first_fault x p) h ∙ g

none_both : (ps qs : List Pending) → NoFault ps → NoFault qs → NoFault (ps ++ qs)
none_both [] qs h g = g
none_both (body l a r b t ∷ ps) qs h g =
    let o : Option ℕ = body_fault l (shift l (tree_type t place.lambda (call_kinds a r b))) r in
    let hs = none_first o (fault_of_bodies ps) h in first_none o (fault_of_bodies (ps ++ qs)) hs.0 (none_both ps qs hs.1 g)
none_both (claim l b a ∷ ps) qs h g = none_both ps qs h g

abbrev Clean : {A : Type 0} → (A → Type 0) → Literal A → Type 0
Clean P (good x ps) = P x → NoFault ps
Clean P (bad l) = Unit {0}

clean_mapped : {A B : Type 0} (P : A → Type 0) (Q : B → Type 0) (f : A → B) (e : Literal A) → ((x : A) → Q (f x) → P x) →
    Clean P e → Clean Q (mapped f e)
clean_mapped P Q f (good x ps) g h = λ q. h (g x q)
clean_mapped P Q f (bad l) g h = tt

clean_pair : {A B C : Type 0} (P : A → Type 0) (R : B → Type 0) (Q : C → Type 0) (f : A → B → C) (x : A) (ps : List Pending)
    (e : Literal B) → ((y : B) → Q (f x y) → P x × R y) → (P x → NoFault ps) → Clean R e →
    Clean Q (with_pending ps (mapped (f x) e))
clean_pair P R Q f x ps (good y qs) g h i = λ q. let gs = g y q in none_both ps qs (h gs.0) (i gs.1)
clean_pair P R Q f x ps (bad l) g h i = tt

clean_both : {A B C : Type 0} (P : A → Type 0) (R : B → Type 0) (Q : C → Type 0) (f : A → B → C) (e : Literal A)
    (next : A → Literal B) → ((x : A) (y : B) → Q (f x y) → P x × R y) → Clean P e → ((x : A) → Clean R (next x)) →
    Clean Q (and_then e (λ x. mapped (f x) (next x)))
clean_both P R Q f (good x ps) next g h i = clean_pair P R Q f x ps (next x) (g x) h (i x)
clean_both P R Q f (bad l) next g h i = tt

-- where what is read must pass a test before the rest is read
clean_tested : {A B C : Type 0} (P : A → Type 0) (R : B → Type 0) (Q : C → Type 0) (f : A → B → C) (e : Literal A)
    (test : A → Bool) (l : ℕ) (next : A → Literal B) → ((x : A) (y : B) → Q (f x y) → P x × R y) → Clean P e →
    ((x : A) → Clean R (next x)) →
    Clean Q (and_then e (λ x. if test x then mapped (f x) (next x) else bad l))
clean_tested P R Q f (good x ps) test l next g h i = by_test (test x)
  where
    by_test : (b : Bool) → Clean Q (with_pending ps (if b then mapped (f x) (next x) else bad l))
    by_test true = clean_pair P R Q f x ps (next x) (g x) h (i x)
    by_test false = tt
clean_tested P R Q f (bad m) test l next g h i = tt

abbrev IsClean : (Val → Type 0) → Reader → Type 0
IsClean P r = (at : ℕ) (t : Tree) → Clean P (r at t)

module _ (w : Known) where
  value_clean : (a : Kind) (at : ℕ) (o : Option Val) → Clean (Fits w a) (on_value at o)
  value_clean a at (Some x) = λ h. refl
  value_clean a at None = tt

  option_clean : (a : Kind) (u : Word) (r : Reader) → IsClean (Fits w a) r → (at : ℕ) (ts : Trees) →
      Clean (Fits w (k.option a)) (option_named u r at ts)
  option_clean a none_word r h at none = λ q. refl
  option_clean a some_word r h at (more t none) = clean_mapped (Fits w a) (Fits w (k.option a)) v.some (r (at + 1) t)
      (λ x q. q) (h (at + 1) t)
  option_clean a _ r h at _ = tt

  or_clean : (a b : Kind) (u : Word) (r q : Reader) → IsClean (Fits w a) r → IsClean (Fits w b) q → (at : ℕ) (ts : Trees) →
      Clean (Fits w (k.or a b)) (or_named u r q at ts)
  or_clean a b left_word r q h g at (more t none) = clean_mapped (Fits w a) (Fits w (k.or a b)) v.left (r (at + 1) t)
      (λ x i. i) (h (at + 1) t)
  or_clean a b right_word r q h g at (more t none) = clean_mapped (Fits w b) (Fits w (k.or a b)) v.right (q (at + 1) t)
      (λ x i. i) (g (at + 1) t)
  or_clean a b _ r q h g at _ = tt

  parts_clean : (a b : Kind) (r q : Reader) (rest : ℕ → Trees → Literal Val) → IsClean (Fits w a) r → IsClean (Fits w b) q →
      ((at : ℕ) (ts : Trees) → Clean (Fits w b) (rest at ts)) → (whole at : ℕ) (ts : Trees) →
      Clean (Fits w (k.pair a b)) (read_parts r q rest whole at ts)
  parts_clean a b r q rest h g i whole at (more t (more u none)) = clean_both (Fits w a) (Fits w b)
      (Fits w (k.pair a b)) v.both (r at t) (λ x. q (at + size t) u) (λ x y f. f) (h at t) (λ x. g (at + size t) u)
  parts_clean a b r q rest h g i whole at (more t (more u (more z ts))) =
      clean_both (Fits w a) (Fits w b) (Fits w (k.pair a b)) v.both (r at t) (λ x. rest (at + size t) (more u (more z ts)))
      (λ x y f. f) (h at t) (λ x. i (at + size t) (more u (more z ts)))
  parts_clean a b r q rest h g i whole at none = tt
  parts_clean a b r q rest h g i whole at (more t none) = tt

  elements_clean : (a : Kind) (r : Reader) → IsClean (Fits w a) r → (at : ℕ) (ts : Trees) →
      Clean (AllHave (Fits w a)) (read_elements r at ts)
  elements_clean a r h at none = λ q. refl
  elements_clean a r h at (more t ts) =
      clean_both (Fits w a) (AllHave (Fits w a)) (AllHave (Fits w a)) more_vals (r at t)
      (λ x. read_elements r (at + size t) ts) (λ x y f. f) (h at t) (λ x. elements_clean a r h (at + size t) ts)

  increasing_clean : (a : Kind) (r : Reader) → IsClean (Fits w a) r → (before : Option Val) (at : ℕ) (ts : Trees) →
      Clean (AllHave (Fits w a)) (read_increasing r before at ts)
  increasing_clean a r h before at none = λ q. refl
  increasing_clean a r h before at (more t ts) =
      clean_tested (Fits w a) (AllHave (Fits w a)) (AllHave (Fits w a)) more_vals (r at t) (is_behind before) at
      (λ x. read_increasing r (Some x) (at + size t) ts) (λ x y f. f) (h at t)
      (λ x. increasing_clean a r h (Some x) (at + size t) ts)

  abbrev EntryFits : Kind → Kind → Entry → Type 0
  EntryFits a b e = Fits w a e.key × Fits w b e.value

  binding_clean : (a b : Kind) (r q : Reader) → IsClean (Fits w a) r → IsClean (Fits w b) q →
      (before : Option Val) (at : ℕ) (t u : Tree) → Clean (EntryFits a b) (read_binding r q before at t u)
  binding_clean a b r q h g before at t u =
      clean_tested (Fits w a) (Fits w b) (EntryFits a b) (λ x y. record { key = x; value = y }) (r (at + 1) t)
      (is_behind before) at (λ x. q (at + 1 + size t) u) (λ x y f. f) (h (at + 1) t) (λ x. g (at + 1 + size t) u)

  named_clean : (a b : Kind) (u : Word) (r q : Reader) → IsClean (Fits w a) r → IsClean (Fits w b) q →
      (before : Option Val) (at : ℕ) (ts : Trees) → Clean (EntryFits a b) (entry_named u r q before at ts)
  named_clean a b entry_word r q h g before at (more t (more u none)) = binding_clean a b r q h g before at t u
  named_clean a b _ r q h g before at _ = tt

  entry_clean : (a b : Kind) (r q : Reader) → IsClean (Fits w a) r → IsClean (Fits w b) q →
      (before : Option Val) (at : ℕ) (t : Tree) → Clean (EntryFits a b) (read_entry r q before at t)
  entry_clean a b r q h g before at (prim name annots args) = named_clean a b (word_of_name name) r q h g before at args
  entry_clean a b r q h g before at (int n) = tt
  entry_clean a b r q h g before at (str n) = tt
  entry_clean a b r q h g before at (bytes n) = tt
  entry_clean a b r q h g before at (seq n) = tt

  entries_clean : (a b : Kind) (r q : Reader) → IsClean (Fits w a) r → IsClean (Fits w b) q →
      (before : Option Val) (at : ℕ) (ts : Trees) → Clean (AllEntriesHave (Fits w a) (Fits w b)) (read_entries r q before at ts)
  entries_clean a b r q h g before at none = λ i. refl
  entries_clean a b r q h g before at (more t ts) =
      clean_both (EntryFits a b) (AllEntriesHave (Fits w a) (Fits w b)) (AllEntriesHave (Fits w a) (Fits w b))
      (λ e. more_pairs e.key e.value) (read_entry r q before at t) (λ e. read_entries r q (Some e.key) (at + size t) ts)
      (λ e y f. ((f.0, f.1), f.2)) (entry_clean a b r q h g before at t)
      (λ e. entries_clean a b r q h g (Some e.key) (at + size t) ts)

  leads_none : (l : ℕ) (t : Typing) (r : Kind) → Leads t (r ∷ []) → body_fault l (shift l t) r ≡ None
  leads_none l (goes B) r h = subst (λ C. (if same_kinds C (r ∷ []) then None else Some l) ≡ None) (sym h)
      (ap (λ b. if b then None else Some l) (same_kinds_refl (r ∷ [])))
  leads_none l fails r h = refl
  leads_none l (typing.bad m) r h = absurd h

  body_clean : (a b : Kind) (q : Bool) (at : ℕ) (t : Tree) → Clean (Fits w (k.lambda a b)) (read_body a b q at t)
  body_clean a b q at (seq ts) = λ h. first_none (body_fault at
      (shift at (tree_type (seq ts) place.lambda (call_kinds a b q))) b) None
      (leads_none at (tree_type (seq ts) place.lambda (call_kinds a b q)) b h.2) refl
  body_clean a b q at (int n) = tt
  body_clean a b q at (str n) = tt
  body_clean a b q at (bytes n) = tt
  body_clean a b q at (prim name annots args) = tt

  recursive_clean : (u : Word) (a b : Kind) (at : ℕ) (ts : Trees) → Clean (Fits w (k.lambda a b)) (recursive_named u a b at ts)
  recursive_clean recursive_word a b at (more t none) = body_clean a b true (at + 1) t
  recursive_clean _ a b at _ = tt

  contract_clean : (a : Kind) (at : ℕ) (b : List ℕ) (q : Bool) →
      Clean (Fits w (k.contract a)) (if q then good (v.bytes b) (claim at b a ∷ []) else bad at)
  contract_clean a at b true = λ h. refl
  contract_clean a at b false = tt

  mutual
    read_clean : (a : Kind) → IsClean (Fits w a) (read a)
    read_clean (k.simple u) at t = value_clean (k.simple u) at (simple_value u t)
    read_clean k.operation at t = tt
    read_clean (k.option a) at (prim name annots args) = option_clean a (word_of_name name) (read a) (read_clean a) at args
    read_clean (k.option a) at (int n) = tt
    read_clean (k.option a) at (str n) = tt
    read_clean (k.option a) at (bytes n) = tt
    read_clean (k.option a) at (seq n) = tt
    read_clean (k.or a b) at (prim name annots args) = or_clean a b (word_of_name name) (read a) (read b) (read_clean a)
        (read_clean b) at args
    read_clean (k.or a b) at (int n) = tt
    read_clean (k.or a b) at (str n) = tt
    read_clean (k.or a b) at (bytes n) = tt
    read_clean (k.or a b) at (seq n) = tt
    read_clean (k.pair a b) at t = parts_clean a b (read a) (read b) (read_rest b at) (read_clean a) (read_clean b)
        (rest_clean b at) at (at + 1) (parts_of t)
    read_clean (k.list a) at (seq ts) = clean_mapped (AllHave (Fits w a)) (Fits w (k.list a)) v.list
        (read_elements (read a) (at + 1) ts) (λ x h. h) (elements_clean a (read a) (read_clean a) (at + 1) ts)
    read_clean (k.list a) at (prim name annots args) = tt
    read_clean (k.list a) at (int n) = tt
    read_clean (k.list a) at (str n) = tt
    read_clean (k.list a) at (bytes n) = tt
    read_clean (k.set a) at (seq ts) = clean_mapped (AllHave (Fits w a)) (Fits w (k.set a)) v.set
        (read_increasing (read a) None (at + 1) ts) (λ x h. h.0) (increasing_clean a (read a) (read_clean a) None (at + 1) ts)
    read_clean (k.set a) at (prim name annots args) = tt
    read_clean (k.set a) at (int n) = tt
    read_clean (k.set a) at (str n) = tt
    read_clean (k.set a) at (bytes n) = tt
    read_clean (k.map a b) at (seq ts) =
        clean_mapped (AllEntriesHave (Fits w a) (Fits w b)) (Fits w (k.map a b)) v.table
        (read_entries (read a) (read b) None (at + 1) ts) (λ x h. h.0)
        (entries_clean a b (read a) (read b) (read_clean a) (read_clean b) None (at + 1) ts)
    read_clean (k.map a b) at (prim name annots args) = tt
    read_clean (k.map a b) at (int n) = tt
    read_clean (k.map a b) at (str n) = tt
    read_clean (k.map a b) at (bytes n) = tt
    read_clean (k.big_map a b) at (seq ts) =
        clean_mapped (AllEntriesHave (Fits w a) (Fits w b)) (Fits w (k.big_map a b)) v.big_table
        (read_entries (read a) (read b) None (at + 1) ts) (λ x h. h.0)
        (entries_clean a b (read a) (read b) (read_clean a) (read_clean b) None (at + 1) ts)
    read_clean (k.big_map a b) at (prim name annots args) = tt
    read_clean (k.big_map a b) at (int n) = tt
    read_clean (k.big_map a b) at (str n) = tt
    read_clean (k.big_map a b) at (bytes n) = tt
    read_clean (k.lambda a b) at (prim name annots args) = recursive_clean (word_of_name name) a b at args
    read_clean (k.lambda a b) at (seq ts) = body_clean a b false at (seq ts)
    read_clean (k.lambda a b) at (int n) = tt
    read_clean (k.lambda a b) at (str n) = tt
    read_clean (k.lambda a b) at (bytes n) = tt
    read_clean (k.contract a) at (bytes b) = contract_clean a at b (is_address b)
    read_clean (k.contract a) at (prim name annots args) = tt
    read_clean (k.contract a) at (int n) = tt
    read_clean (k.contract a) at (str n) = tt
    read_clean (k.contract a) at (seq n) = tt
    read_clean (k.ticket a) at t = tt

    rest_clean : (a : Kind) (whole at : ℕ) (ts : Trees) → Clean (Fits w a) (read_rest a whole at ts)
    rest_clean (k.pair a b) whole at ts = parts_clean a b (read a) (read b) (read_rest b whole) (read_clean a) (read_clean b)
        (rest_clean b whole) whole at ts
    rest_clean _ whole at ts = tt

  clean_of : (a : Kind) (e : Literal Val) (x : Val) (ps : List Pending) → e ≡ good x ps → Clean (Fits w a) e → Fits w a x →
      NoFault ps
  clean_of a e x ps same h = subst (Clean (Fits w a)) same h

  pub no_faults : (a : Kind) (at : ℕ) (t : Tree) (x : Val) (ps : List Pending) → read a at t ≡ good x ps → Fits w a x → NoFault ps
  no_faults a at t x ps same f = clean_of a (read a at t) x ps same (read_clean a at t) f

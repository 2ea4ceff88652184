-- Typings that go to certain types or nowhere, and typings without fault.
use Rattle.std.proofs.Common.{◌≡◌, ℕ, Bool, true, false, List, [], ◌∷◌, ◌++◌, Some, refl, sym, ap, subst}
use Rattle.std.specs.Prelude.{nat_le, if◌then◌else◌, slice_get, ◌-◌}
use Rattle.rules_text.specs.nodes.Limits.{type_limit}
use Rattle.rules_text.specs.nodes.Tree.{Trees, prim, none, more}
use Rattle.rules_text.specs.nodes.Primitives.{primitive_of_name}
use Rattle.rules_data.specs.types.Kind.{Kind, nodes}
use Rattle.rules_code.specs.instructions.Context.{Context}
use Rattle.rules_code.specs.instructions.Forms.{Form}
use Rattle.rules_code.specs.instructions.Same.{same_kinds}
use Rattle.rules_code.specs.typing.Typing.{Typing, goes, fails, bad, shift, made, in_block, join, ends, under, part_kind, made_of, mapped}
use Rattle.rules_code.specs.typing.Acts.{Meanings, act_type}
use Rattle.rules_code.specs.typing.Nodes.{tree_type, bodies, script_in, typings, typing_of}
use Rattle.rules_code.specs.typing.Fits.{Leads}
use Rattle.mich_instr.specs.Typed.{HasForm}

abbrev pub meanings : Trees → Meanings
meanings ts = record {
  bodies = bodies ts 1;
  script = λ at. script_in ts at;
  typing_at = λ l c A. shift l (typing_of (slice_get (typings ts) (l - 1)) c A);
}

-- the typing of an instruction of a form
pub type_is : (form : Form) (name : List ℕ) (annots : List (List ℕ)) (ts : Trees) (c : Context) (A : List Kind) → HasForm form name →
    tree_type (prim name annots ts) c A ≡ act_type form (primitive_of_name name) annots ts (meanings ts) c A
type_is form name annots ts c A h = ap (λ form. act_type form (primitive_of_name name) annots ts (meanings ts) c A) h

-- ---- where a typing goes to types, these are those

abbrev pub Says : Typing → List Kind → Type 0
Says (goes C) B = C ≡ B
Says fails B = Unit {0}
Says (bad l) B = Unit {0}

pub says_shift : (k : ℕ) (t : Typing) (B : List Kind) → Says t B → Says (shift k t) B
says_shift k (goes C) B h = h
says_shift k fails B h = tt
says_shift k (bad l) B h = tt

pub says_if : (b : Bool) (t : Typing) (l : ℕ) (B : List Kind) → Says t B → Says (if b then t else bad l) B
says_if true t l B h = h
says_if false t l B h = tt

pub says_join : (t u : Typing) (B : List Kind) → Says t B → Says u B → Says (join t u) B
says_join (bad l) u B h i = tt
says_join (goes C) (goes D) B h i = says_if (same_kinds C D) (goes C) 0 B h
says_join (goes C) fails B h i = h
says_join (goes C) (bad l) B h i = tt
says_join fails u B h i = i

pub says_ends : (t : Typing) (C : List Kind) (u : Typing) (B : List Kind) → Says u B → Says (ends t C u) B
says_ends (goes D) C u B h = says_if (same_kinds D C) u 0 B h
says_ends fails C u B h = h
says_ends (bad l) C u B h = tt

pub says_under : (A : List Kind) (t : Typing) (B : List Kind) → Says t B → Says (under A t) (A ++ B)
says_under A (goes C) B h = ap (λ C. A ++ C) h
says_under A fails B h = tt
says_under A (bad l) B h = tt

pub says_made : (a : Kind) (A : List Kind) → Says (made a A) (a ∷ A)
says_made a A = says_if (nat_le (nodes a) type_limit) (goes (a ∷ A)) 0 (a ∷ A) refl

pub says_mapped : (t : Typing) (f : Kind → Kind) (A : List Kind) (b : Kind) → part_kind t A ≡ Some b → Says (mapped t f A) (f b ∷ A)
says_mapped (goes D) f A b e = subst (λ o. Says (made_of f o A) (f b ∷ A)) (sym e) (says_made (f b) A)
says_mapped fails f A b e = absurd cc
says_mapped (bad l) f A b e = tt

pub says_block : (t : Typing) (ts : Trees) (next : List Kind → Typing) (M B : List Kind) → Says t M → Says (next M) B → Says (in_block t ts next) B
says_block (goes C) ts next M B h i = subst (λ X. Says (next X) B) (sym h) i
says_block fails none next M B h i = tt
says_block fails (more t ts) next M B h i = tt
says_block (bad l) ts next M B h i = tt

-- ---- typings without fault

abbrev pub IsTyped : Typing → Type 0
IsTyped (goes C) = Unit {0}
IsTyped fails = Unit {0}
IsTyped (bad l) = ⊥

pub typed_shift : (k : ℕ) (t : Typing) → IsTyped (shift k t) → IsTyped t
typed_shift k (goes C) h = tt
typed_shift k fails h = tt
typed_shift k (bad l) h = h

pub typed_if : (b : Bool) (t : Typing) (l : ℕ) → IsTyped (if b then t else bad l) → (b ≡ true) × IsTyped t
typed_if true t l h = (refl, h)
typed_if false t l h = absurd h

pub typed_join : (t u : Typing) → IsTyped (join t u) → IsTyped t × IsTyped u
typed_join (goes C) (goes D) h = (tt, tt)
typed_join (goes C) fails h = (tt, tt)
typed_join (goes C) (bad l) h = absurd h
typed_join fails u h = (tt, h)
typed_join (bad l) u h = absurd h

pub typed_ends : (t : Typing) (C : List Kind) (u : Typing) → IsTyped (ends t C u) → IsTyped t
typed_ends (goes D) C u h = tt
typed_ends fails C u h = tt
typed_ends (bad l) C u h = h

pub typed_under : (A : List Kind) (t : Typing) → IsTyped (under A t) → IsTyped t
typed_under A (goes C) h = tt
typed_under A fails h = tt
typed_under A (bad l) h = h

-- what can be mapped goes to what is made
pub mapped_goes : (t : Typing) (f : Kind → Kind) (A : List Kind) (b : Kind) → part_kind t A ≡ Some b → IsTyped (mapped t f A) → mapped t f A ≡ goes (f b ∷ A)
mapped_goes (goes C) f A b e h = subst (λ o. IsTyped (made_of f o A) → made_of f o A ≡ goes (f b ∷ A)) (sym e) (by (nat_le (nodes (f b)) type_limit)) h
  where
    by : (x : Bool) → IsTyped (if x then goes (f b ∷ A) else bad 0) → (if x then goes (f b ∷ A) else bad 0) ≡ goes (f b ∷ A)
    by true h = refl
    by false h = absurd h
mapped_goes fails f A b e h = absurd cc
mapped_goes (bad l) f A b e h = absurd h

pub part_shift : (k : ℕ) (t : Typing) (A : List Kind) → part_kind (shift k t) A ≡ part_kind t A
part_shift k (goes []) A = refl
part_shift k (goes (a ∷ B)) A = refl
part_shift k fails A = refl
part_shift k (bad l) A = refl

pub typed_part : (t : Typing) (A : List Kind) (b : Kind) → part_kind t A ≡ Some b → IsTyped t
typed_part (goes C) A b e = tt
typed_part fails A b e = tt
typed_part (bad l) A b e = absurd cc

-- ---- both together

pub leads_of : (t : Typing) (B : List Kind) → Says t B → IsTyped t → Leads t B
leads_of (goes C) B h i = h
leads_of fails B h i = tt
leads_of (bad l) B h i = absurd i

pub typed_of : (t : Typing) (B : List Kind) → Leads t B → IsTyped t
typed_of (goes C) B h = tt
typed_of fails B h = tt
typed_of (bad l) B h = h

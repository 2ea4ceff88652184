-- Arguments at a location further on.
use Rattle.std.proofs.Common.{◌≡◌, ℕ, ◌+◌, pos, negsuc, nat_le, ◌&&◌, Bool, true, false, if◌then◌else◌, List, [], ◌∷◌, Err, refl, sym, ap, ◌∙◌, subst, add_assoc}
use Rattle.rules_text.specs.nodes.Tree.{Tree, int, str, bytes, prim, seq, Trees, none, more, size}
use Rattle.rules_data.specs.forms.Spelling.{default_name}
use Rattle.std.proofs.Math.Nat.{add-zero}
use Rattle.rules_text.specs.declared.nodes.Primitive.{Primitive}
use Rattle.rules_text.specs.declared.nodes.Primitive.TheVariants as p
use Rattle.rules_data.specs.types.Kind.{Kind}
use Rattle.rules_data.specs.types.Attributes.{comparable, passable, packable, pushable}
use Rattle.rules_data.specs.types.Reading.{Reading, a_type, bad_type, too_large}
use Rattle.rules_code.specs.instructions.Straight.{Straight, on_collections, on_operations}
use Rattle.rules_code.specs.instructions.Straight as i
use Rattle.rules_code.specs.instructions.Overloads as o
use Rattle.rules_code.specs.instructions.Arguments.{Found, found, fault, and_then, with_attribute, type_argument, one_type, count_argument, one_count, count_or, annotated, is_view_name, view_name_argument}
use Rattle.rules_code.specs.instructions.Instructions.{Instruction, row, overloaded, instruction, emit_of, view_of}
use Rattle.std.specs.Prelude.{Some, None}
use Rattle.mich_base.specs.declared.node.Node.{Node}
use Rattle.mich_base.specs.TypeView.{kind}
use Rattle.mich_base.specs.View.{tree, trees}
use Rattle.mich_outline.specs.declared.error.TypingError.{TypingError}
use Rattle.mich_outline.specs.declared.error.TypingError.TheVariants as error
use Rattle.mich_stackrules.specs.declared.written.OfType.{OfType}
use Rattle.mich_stackrules.specs.declared.written.OfCount.{OfCount}
use Rattle.mich_stackrules.specs.declared.written.Written.{Written}
use Rattle.mich_base.specs.Counted.{IsNotEmpty}
use Rattle.mich_outline.specs.Answers.{IsFound, found_from}
use Rattle.mich_stackrules.specs.View.{IsBare, IsNoText, is_annotated, asked_of_type, asked_of_value, empty_map, empty_row, least, most, of_count, of_type, type_of, with_count, with_type, written}
use Rattle.mich_outline.proofs.ForCallers.{argument_from}

-- ---- what is read goes on, or its fault is the fault

goes : {A : Type 0} (n : ℕ) (f : Found A) (a : A) (next : A → Found Instruction) → found_from n f ≡ found a → found_from n (and_then f next) ≡ found_from n (next a)
goes n (found b) a next e = let h : b ≡ a = cc in ap (λ x. found_from n (next x)) h
goes n (fault l) a next e = absurd cc

no_fault : {A T : Type 0} (view : T → A) (n : ℕ) (b : A) (e : TypingError) (f : Found Instruction) → IsFound view (found b) (Err e) → IsFound written f (Err e)
no_fault view n b (error.Fault l) f h = absurd cc
no_fault view n b error.Memory f h = tt

same_fault : {A T : Type 0} (view : T → A) (n m : ℕ) (e : TypingError) → IsFound view (fault (n + m)) (Err e) → IsFound written (fault (n + m)) (Err e)
same_fault view n m (error.Fault l) h = let k : n + m ≡ l = cc in ap fault k
same_fault view n m error.Memory h = tt

fails : {A T : Type 0} (view : T → A) (n : ℕ) (f : Found A) (next : A → Found Instruction) (e : TypingError) →
    IsFound view (found_from n f) (Err e) → IsFound written (found_from n (and_then f next)) (Err e)
fails view n (found b) next e h = no_fault view n b e (found_from n (next b)) h
fails view n (fault m) next e h = same_fault view n m e h

-- ---- one type

pub one_argument : (n : ℕ) (asked : Kind → Bool) (ns : List Node) (x : Node) (r : _) → ns ≡ x ∷ [] →
    IsFound kind (type_argument asked (n + 1) (tree x)) r → IsFound kind (found_from n (type_of asked (trees ns))) r
one_argument n asked ns x r e h =
    let k : type_argument asked (n + 1) (tree x) ≡ found_from n (type_of asked (trees ns)) =
    argument_from n 1 asked (tree x) ∙ ap (λ ms. found_from n (type_of asked (trees ms))) (sym e) in
    subst (λ f. IsFound kind f r) k h

one_is : (asked : Kind → Bool) (ts : Trees) (f : Kind → Instruction) → one_type asked ts f ≡ and_then (type_of asked ts) (λ a. found (f a))
one_is asked none f = refl
one_is asked (more t none) f = refl
one_is asked (more t (more u us)) f = refl

one_goes : (n : ℕ) (asked : Kind → Bool) (ts : Trees) (f : Kind → Instruction) (a : Kind) → found_from n (type_of asked ts) ≡ found a →
    found_from n (one_type asked ts f) ≡ found (f a)
one_goes n asked ts f a e = ap (found_from n) (one_is asked ts f) ∙ goes n (type_of asked ts) a (λ a. found (f a)) e

one_fails : (n : ℕ) (asked : Kind → Bool) (ts : Trees) (f : Kind → Instruction) (e : TypingError) → IsFound kind (found_from n (type_of asked ts)) (Err e) →
    IsFound written (found_from n (one_type asked ts f)) (Err e)
one_fails n asked ts f e h =
    subst (λ g. IsFound written (found_from n g) (Err e)) (sym (one_is asked ts f)) (fails kind n (type_of asked ts) (λ a. found (f a)) e h)

pub type_goes : (n : ℕ) (f : OfType) (asked : Kind → Bool) (ts : Trees) (a : Kind) (r : Straight) → asked ≡ asked_of_type f →
    found_from n (type_of asked ts) ≡ found a → r ≡ of_type f a → found_from n (with_type f ts) ≡ found (row r)
type_goes n f asked ts a r s e h =
    one_goes n (asked_of_type f) ts (λ t. row (of_type f t)) a (subst (λ q. found_from n (type_of q ts) ≡ found a) s e) ∙ ap (λ x. found (row x)) (sym h)

pub type_fails : (n : ℕ) (f : OfType) (asked : Kind → Bool) (ts : Trees) (e : TypingError) → asked ≡ asked_of_type f →
    IsFound kind (found_from n (type_of asked ts)) (Err e) → IsFound written (found_from n (with_type f ts)) (Err e)
type_fails n f asked ts e s h =
    one_fails n (asked_of_type f) ts (λ t. row (of_type f t)) e (subst (λ q. IsFound kind (found_from n (type_of q ts)) (Err e)) s h)

argument_goes : (n at place : ℕ) (asked : Kind → Bool) (t : Tree) (a : Kind) (next : Kind → Found Instruction) → place ≡ n + at →
    type_argument asked place t ≡ found a → found_from n (and_then (type_argument asked at t) next) ≡ found_from n (next a)
argument_goes n at place asked t a next p e =
    goes n (type_argument asked at t) a next (sym (argument_from n at asked t) ∙ ap (λ m. type_argument asked m t) (sym p) ∙ e)

argument_fails : (n at place : ℕ) (asked : Kind → Bool) (t : Tree) (next : Kind → Found Instruction) (e : TypingError) → place ≡ n + at →
    IsFound kind (type_argument asked place t) (Err e) → IsFound written (found_from n (and_then (type_argument asked at t) next)) (Err e)
argument_fails n at place asked t next e p h =
    fails kind n (type_argument asked at t) next e
    (subst (λ f. IsFound kind f (Err e)) (ap (λ m. type_argument asked m t) p ∙ argument_from n at asked t) h)

-- ---- two types

abbrev map_row : Bool → Kind → Kind → Found Instruction
map_row big a b = found (row (on_collections (empty_row big a b)))

abbrev map_next : Bool → Tree → Tree → Kind → Found Instruction
map_next big t u a = and_then (type_argument (asked_of_value big) (1 + size t) u) (map_row big a)

pub map_goes : (n place : ℕ) (big : Bool) (asked : Kind → Bool) (ns : List Node) (x y : Node) (a b : Kind) (r : i.CollectionRow) → ns ≡ x ∷ y ∷ [] →
    type_argument comparable (n + 1) (tree x) ≡ found a → place ≡ n + 1 + size (tree x) → asked ≡ asked_of_value big →
    type_argument asked place (tree y) ≡ found b → r ≡ empty_row big a b → found_from n (empty_map big (trees ns)) ≡ found (row (on_collections r))
map_goes n place big asked ns x y a b r e ea p s eb h =
    ap (λ ms. found_from n (empty_map big (trees ms))) e
    ∙ argument_goes n 1 (n + 1) comparable (tree x) a (map_next big (tree x) (tree y)) refl ea
    ∙ argument_goes n (1 + size (tree x)) place (asked_of_value big) (tree y) b (map_row big a) (p ∙ add_assoc n 1 (size (tree x)))
    (subst (λ q. type_argument q place (tree y) ≡ found b) s eb)
    ∙ ap (λ x. found (row (on_collections x))) (sym h)

pub key_fails : (n : ℕ) (big : Bool) (ns : List Node) (x y : Node) (e : TypingError) → ns ≡ x ∷ y ∷ [] →
    IsFound kind (type_argument comparable (n + 1) (tree x)) (Err e) → IsFound written (found_from n (empty_map big (trees ns))) (Err e)
key_fails n big ns x y e q h =
    subst (λ ms. IsFound written (found_from n (empty_map big (trees ms))) (Err e)) (sym q)
    (argument_fails n 1 (n + 1) comparable (tree x) (map_next big (tree x) (tree y)) e refl h)

pub value_fails : (n place : ℕ) (big : Bool) (asked : Kind → Bool) (ns : List Node) (x y : Node) (a : Kind) (e : TypingError) → ns ≡ x ∷ y ∷ [] →
    type_argument comparable (n + 1) (tree x) ≡ found a → place ≡ n + 1 + size (tree x) → asked ≡ asked_of_value big →
    IsFound kind (type_argument asked place (tree y)) (Err e) → IsFound written (found_from n (empty_map big (trees ns))) (Err e)
value_fails n place big asked ns x y a e q ea p s h =
    let whole : found_from n (empty_map big (trees ns)) ≡ found_from n (map_next big (tree x) (tree y) a) =
    ap (λ ms. found_from n (empty_map big (trees ms))) q ∙ argument_goes n 1 (n + 1) comparable (tree x) a (map_next big (tree x) (tree y)) refl ea in
    subst (λ f. IsFound written f (Err e)) (sym whole)
    (argument_fails n (1 + size (tree x)) place (asked_of_value big) (tree y) (map_row big a) e (p ∙ add_assoc n 1 (size (tree x)))
    (subst (λ q. IsFound kind (type_argument q place (tree y)) (Err e)) s h))

-- ---- CONTRACT

abbrev contract_next : Trees → List ℕ → Found Instruction
contract_next ts name = one_type passable ts (λ t. row (on_operations (i.contract name t)))

pub contract_unnamed : (n : ℕ) (annots : List (List ℕ)) (ts : Trees) (e : TypingError) → IsFound (λ (name : List ℕ). name) (found_from n (annotated default_name annots)) (Err e) →
    IsFound written (found_from n (instruction (Some p.OpContract) annots ts)) (Err e)
contract_unnamed n annots ts e h = fails (λ (name : List ℕ). name) n (annotated default_name annots) (contract_next ts) e h

pub contract_goes : (n : ℕ) (annots : List (List ℕ)) (ts : Trees) (name : List ℕ) (a : Kind) → found_from n (annotated default_name annots) ≡ found name →
    found_from n (type_of passable ts) ≡ found a → found_from n (instruction (Some p.OpContract) annots ts) ≡ found (row (on_operations (i.contract name a)))
contract_goes n annots ts name a e h =
    goes n (annotated default_name annots) name (contract_next ts) e ∙ one_goes n passable ts (λ t. row (on_operations (i.contract name t))) a h

pub contract_fails : (n : ℕ) (annots : List (List ℕ)) (ts : Trees) (name : List ℕ) (e : TypingError) → found_from n (annotated default_name annots) ≡ found name →
    IsFound kind (found_from n (type_of passable ts)) (Err e) → IsFound written (found_from n (instruction (Some p.OpContract) annots ts)) (Err e)
contract_fails n annots ts name e q h =
    subst (λ f. IsFound written f (Err e)) (sym (goes n (annotated default_name annots) name (contract_next ts) q))
    (one_fails n passable ts (λ t. row (on_operations (i.contract name t))) e h)

-- ---- EMIT

abbrev emit_next : Trees → List ℕ → Found Instruction
emit_next ts tag = emit_of tag ts

emit_is : (tag : List ℕ) (ns : List Node) → IsNotEmpty ns → emit_of tag (trees ns) ≡ one_type pushable (trees ns) (λ t. row (on_operations (i.emit tag t)))
emit_is tag [] h = absurd h
emit_is tag (x ∷ ns) h = refl

pub emit_unnamed : (n : ℕ) (annots : List (List ℕ)) (ts : Trees) (e : TypingError) → IsFound (λ (tag : List ℕ). tag) (found_from n (annotated [] annots)) (Err e) →
    IsFound written (found_from n (instruction (Some p.OpEmit) annots ts)) (Err e)
emit_unnamed n annots ts e h = fails (λ (tag : List ℕ). tag) n (annotated [] annots) (emit_next ts) e h

pub emit_bare : (n : ℕ) (annots : List (List ℕ)) (ns : List Node) (tag : List ℕ) → found_from n (annotated [] annots) ≡ found tag → ns ≡ [] →
    found_from n (instruction (Some p.OpEmit) annots (trees ns)) ≡ found (overloaded (o.emit tag))
emit_bare n annots ns tag e q =
    goes n (annotated [] annots) tag (emit_next (trees ns)) e ∙ ap (λ ms. found_from n (emit_of tag (trees ms))) q

pub emit_goes : (n : ℕ) (annots : List (List ℕ)) (ns : List Node) (tag : List ℕ) (a : Kind) → found_from n (annotated [] annots) ≡ found tag → IsNotEmpty ns →
    found_from n (type_of pushable (trees ns)) ≡ found a → found_from n (instruction (Some p.OpEmit) annots (trees ns)) ≡ found (row (on_operations (i.emit tag a)))
emit_goes n annots ns tag a e q h =
    goes n (annotated [] annots) tag (emit_next (trees ns)) e ∙ ap (found_from n) (emit_is tag ns q)
    ∙ one_goes n pushable (trees ns) (λ t. row (on_operations (i.emit tag t))) a h

pub emit_fails : (n : ℕ) (annots : List (List ℕ)) (ns : List Node) (tag : List ℕ) (e : TypingError) → found_from n (annotated [] annots) ≡ found tag → IsNotEmpty ns →
    IsFound kind (found_from n (type_of pushable (trees ns))) (Err e) → IsFound written (found_from n (instruction (Some p.OpEmit) annots (trees ns))) (Err e)
emit_fails n annots ns tag e f q h =
    subst (λ g. IsFound written g (Err e)) (sym (goes n (annotated [] annots) tag (emit_next (trees ns)) f ∙ ap (found_from n) (emit_is tag ns q)))
    (one_fails n pushable (trees ns) (λ t. row (on_operations (i.emit tag t))) e h)

-- ---- VIEW

abbrev view_row : List ℕ → Kind → Found Instruction
view_row name a = found (overloaded (o.view name a))

abbrev view_next : Tree → Tree → List ℕ → Found Instruction
view_next t u name = and_then (type_argument packable (1 + size t) u) (view_row name)

abbrev view_whole : Tree → Tree → Found Instruction
view_whole t u = and_then (view_name_argument 1 t) (view_next t u)

view_is : (n : ℕ) (ns : List Node) (x y : Node) → ns ≡ x ∷ y ∷ [] → found_from n (view_of (trees ns)) ≡ found_from n (view_whole (tree x) (tree y))
view_is n ns x y e = ap (λ ms. found_from n (view_of (trees ms))) e

unnamed : (n : ℕ) (t u : Tree) → IsNoText t → found_from n (view_whole t u) ≡ fault (n + 1)
unnamed n (str s) u h = absurd h
unnamed n _ u h = refl

pub view_unnamed : (n : ℕ) (ns : List Node) (x y : Node) → ns ≡ x ∷ y ∷ [] → IsNoText (tree x) → found_from n (view_of (trees ns)) ≡ fault (n + 1)
view_unnamed n ns x y e h = view_is n ns x y e ∙ unnamed n (tree x) (tree y) h

named : (n : ℕ) (name : List ℕ) (u : Tree) (b : Bool) → is_view_name name ≡ b →
    found_from n (view_whole (str name) u) ≡ found_from n (and_then (if b then found name else fault 1) (view_next (str name) u))
named n name u b e = ap (λ c. found_from n (and_then (if c then found name else fault 1) (view_next (str name) u))) e

pub view_misnamed : (n : ℕ) (ns : List Node) (x y : Node) (name : List ℕ) → ns ≡ x ∷ y ∷ [] → tree x ≡ str name → is_view_name name ≡ false →
    found_from n (view_of (trees ns)) ≡ fault (n + 1)
view_misnamed n ns x y name e f h = view_is n ns x y e ∙ ap (λ t. found_from n (view_whole t (tree y))) f ∙ named n name (tree y) false h

well_named : (n : ℕ) (ns : List Node) (x y : Node) (name : List ℕ) → ns ≡ x ∷ y ∷ [] → tree x ≡ str name → is_view_name name ≡ true →
    found_from n (view_of (trees ns)) ≡ found_from n (and_then (type_argument packable 2 (tree y)) (view_row name))
well_named n ns x y name e f h = view_is n ns x y e ∙ ap (λ t. found_from n (view_whole t (tree y))) f ∙ named n name (tree y) true h

pub view_goes : (n : ℕ) (ns : List Node) (x y : Node) (name : List ℕ) (a : Kind) → ns ≡ x ∷ y ∷ [] → tree x ≡ str name → is_view_name name ≡ true →
    type_argument packable (n + 2) (tree y) ≡ found a → found_from n (view_of (trees ns)) ≡ found (overloaded (o.view name a))
view_goes n ns x y name a e f h q =
    well_named n ns x y name e f h ∙ argument_goes n 2 (n + 2) packable (tree y) a (view_row name) refl q

pub view_fails : (n : ℕ) (ns : List Node) (x y : Node) (name : List ℕ) (e : TypingError) → ns ≡ x ∷ y ∷ [] → tree x ≡ str name → is_view_name name ≡ true →
    IsFound kind (type_argument packable (n + 2) (tree y)) (Err e) → IsFound written (found_from n (view_of (trees ns))) (Err e)
view_fails n ns x y name e q f h k =
    subst (λ g. IsFound written g (Err e)) (sym (well_named n ns x y name q f h)) (argument_fails n 2 (n + 2) packable (tree y) (view_row name) e refl k)

-- ---- counts

count_from : (n at l m : ℕ) (t : Tree) → count_argument l m (n + at) t ≡ found_from n (count_argument l m at t)
count_from n at l m (int (pos k)) = by (nat_le l k && nat_le k m)
  where
    by : (b : Bool) → (if b then found k else fault (n + at)) ≡ found_from n (if b then found k else fault at)
    by true = refl
    by false = refl
count_from n at l m (int (negsuc k)) = refl
count_from n at l m (str s) = refl
count_from n at l m (bytes s) = refl
count_from n at l m (prim name annots ts) = refl
count_from n at l m (seq ts) = refl

abbrev count_next : OfCount → ℕ → Found Instruction
count_next f k = found (row (of_count f k))

abbrev count_of : OfCount → Tree → Found ℕ
count_of f t = count_argument (least f) (most f) 1 t

pub count_goes : (n : ℕ) (f : OfCount) (ns : List Node) (x : Node) (k : ℕ) (r : Straight) → ns ≡ x ∷ [] →
    count_argument (least f) (most f) (n + 1) (tree x) ≡ found k → r ≡ of_count f k → found_from n (with_count f (trees ns)) ≡ found (row r)
count_goes n f ns x k r q e h =
    ap (λ ms. found_from n (with_count f (trees ms))) q
    ∙ goes n (count_of f (tree x)) k (count_next f) (sym (count_from n 1 (least f) (most f) (tree x)) ∙ e)
    ∙ ap (λ y. found (row y)) (sym h)

pub count_fails : (n : ℕ) (f : OfCount) (ns : List Node) (x : Node) (e : TypingError) → ns ≡ x ∷ [] →
    IsFound (λ (k : ℕ). k) (count_argument (least f) (most f) (n + 1) (tree x)) (Err e) → IsFound written (found_from n (with_count f (trees ns))) (Err e)
count_fails n f ns x e q h =
    subst (λ ms. IsFound written (found_from n (with_count f (trees ms))) (Err e)) (sym q)
    (fails (λ (k : ℕ). k) n (count_of f (tree x)) (count_next f) e
    (subst (λ g. IsFound (λ (k : ℕ). k) g (Err e)) (count_from n 1 (least f) (most f) (tree x)) h))

pub counted : (it : Instruction) (l m : ℕ) (f : ℕ → Instruction) (ns : List Node) → IsNotEmpty ns → count_or it l m (trees ns) f ≡ one_count l m (trees ns) f
counted it l m f [] h = absurd h
counted it l m f (x ∷ ns) h = refl

-- ---- no arguments

pub bare_goes : (n : ℕ) (q : Primitive) (annots : List (List ℕ)) (ns : List Node) (it : Written) → ns ≡ [] → is_annotated q ≡ false → IsBare q (Some it) →
    found_from n (instruction (Some q) annots (trees ns)) ≡ found (written it)
bare_goes n q annots ns it e p h = ap (λ ms. found_from n (instruction (Some q) annots (trees ms))) e ∙ ap (found_from n) (h annots p)

pub bare_fails : (n : ℕ) (q : Primitive) (annots : List (List ℕ)) (ns : List Node) → ns ≡ [] → is_annotated q ≡ false → IsBare q None →
    found_from n (instruction (Some q) annots (trees ns)) ≡ fault n
bare_fails n q annots ns e p h =
    ap (λ ms. found_from n (instruction (Some q) annots (trees ms))) e ∙ ap (found_from n) (h annots p) ∙ ap fault (add-zero n)

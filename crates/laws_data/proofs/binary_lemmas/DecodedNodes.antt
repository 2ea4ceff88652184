-- Nodes are read from their spelling.
use Rattle.std.proofs.Common.{◌≡◌, ℕ, zero, suc, ◌+◌, ◌^◌, ◌<◌, ◌≤◌, true, false, cond, nat_lt, nat_eq, List, [], ◌∷◌, ◌++◌, length, Ok, refl, sym, ap, subst, ◌∙◌, append_assoc, arith}
use Rattle.std.specs.Prelude.{ℤ}
use Rattle.std.specs.List.{list_all}
use Rattle.std.proofs.lemmas.Bool.Decides.{nat_tests}
use Rattle.std.proofs.lemmas.List.{append-nil, length-append}
use Rattle.rules_text.specs.nodes.Limits.{depth_limit}
use Rattle.rules_text.specs.nodes.Tree.{Tree, int, str, bytes, prim, seq, Trees, none, more, depth, depths}
use Rattle.rules_text.specs.declared.binary.DecodeKind.TheVariants.{Trailing}
use Rattle.rules_text.specs.declared.binary.Tag.{Tag}
use Rattle.rules_text.specs.declared.binary.Tag.TheVariants as tags
use Rattle.rules_text.specs.binary.Spelling.{field, integer, joined, short, application, count, code, spelling, spellings}
use Rattle.rules_text.specs.binary.Reading.{Spot, ◌>>=◌, fault, is_annotation, byte_at, arguments_at, nodes_within, nodes_at, application_at, many_at, node_by, tags_in_order, tag_at, node_at, decoded}
use Rattle.laws_data.specs.binary.Laws.{HasCode, HasBinaryForm, HaveBinaryForms, NodesAreDecoded, OneNode}
use Rattle.laws_data.proofs.binary_lemmas.Lengths.{HasLengths, HaveLengths, lengths}
use Rattle.laws_data.proofs.binary_lemmas.DecodedParts.{spot, Gives, read_field, read_string, read_bytes, read_integer, read_name, read_annotations, read_any_annotations}
use Rattle.laws_data.proofs.binary_lemmas.Fields.{ok_is}
use Rattle.laws_data.proofs.binary_lemmas.Nodes.{Reader, some_spelling}
use Rattle.laws_data.proofs.binary_lemmas.Names.{tag_byte}

-- this reader reads this node from its spelling
abbrev ReadsBack : Reader → Tree → Type 0
ReadsBack node t = Gives node (spelling t) t

abbrev ReadBack : Reader → Trees → Type 0
ReadBack node none = Unit {0}
ReadBack node (more t ts) = ReadsBack node t × ReadBack node ts

arguments_back : (node : Reader) (ts : Trees) → ReadBack node ts → Gives (arguments_at node (count ts)) (spellings ts) ts
arguments_back node none reads place rest = (place, refl)
arguments_back node (more t ts) reads place rest =
    let first = reads.0 place (spellings ts ++ rest) in
    let others = arguments_back node ts reads.1 first.0 rest in
    (others.0, rw (append_assoc (spelling t) (spellings ts) rest, first.1, others.1) refl)

-- a field that holds these nodes alone
within_back : (node : Reader) (ts : Trees) (n : ℕ) → ReadBack node ts → length (spellings ts) ≤ n → (place : ℕ) → (after : ℕ) × (nodes_within node n (spot place (spellings ts)) ≡ Ok (ts, spot after []))
within_back node none zero reads h place = (place, refl)
within_back node none (suc n) reads h place = (place, refl)
within_back node (more t ts) zero reads h place = absurd (omega (arith, h, length-append (spelling t) (spellings ts), some_spelling t))
within_back node (more t ts) (suc n) reads h place =
    let whole = length-append (spelling t) (spellings ts) in
    let some : nat_eq (length (spelling t ++ spellings ts)) 0 ≡ false = grind (arith, nat_tests, whole, some_spelling t) in
    let first = reads.0 place (spellings ts) in
    let others = within_back node ts n reads.1 (omega (arith, h, whole, some_spelling t)) first.0 in
    (others.0, rw (some, first.1, others.1) refl)

nodes_back : (node : Reader) (ts : Trees) → ReadBack node ts → length (spellings ts) < 2 ^ 32 → Gives (nodes_at node) (field (spellings ts)) ts
unfolding nodes_at
nodes_back node ts reads h place rest =
    let inner = within_back node ts (length (spellings ts)) reads (omega arith) (place + 4) in
    (place + (4 + length (spellings ts)), rw (read_field (spellings ts) place rest h, inner.1) refl)

-- the code of a name, the arguments, and the annotations behind them
bare_back : (node : Reader) (name : List ℕ) (ts : Trees) → HasCode name → ReadBack node ts → Gives (application_at node (count ts) false) (code name ∷ spellings ts) (prim name [] ts)
unfolding application_at
bare_back node name ts known reads place rest =
    let args = arguments_back node ts reads (place + 1) rest in
    (args.0, rw (read_name name known place (spellings ts ++ rest), args.1) refl)

noted_back : (node : Reader) (name : List ℕ) (a : List ℕ) (others : List (List ℕ)) (ts : Trees) → HasCode name → list_all is_annotation (a ∷ others) ≡ true → length (joined (a ∷ others)) < 2 ^ 32 → ReadBack node ts
    → Gives (application_at node (count ts) true) (code name ∷ spellings ts ++ field (joined (a ∷ others))) (prim name (a ∷ others) ts)
unfolding application_at
noted_back node name a others ts known forms fits reads place rest =
    let notes = field (joined (a ∷ others)) in
    let args = arguments_back node ts reads (place + 1) (notes ++ rest) in
    let annotations = read_annotations a others forms fits args.0 rest in
    (annotations.0, rw (append_assoc (spellings ts) notes rest, read_name name known place (spellings ts ++ (notes ++ rest)), args.1, annotations.1) refl)

many_back : (node : Reader) (name : List ℕ) (annotations : List (List ℕ)) (ts : Trees) → HasCode name → list_all is_annotation annotations ≡ true → 3 ≤ count ts → length (spellings ts) < 2 ^ 32
    → length (joined annotations) < 2 ^ 32 → ReadBack node ts → (tag_place : ℕ) → Gives (many_at node tag_place) (code name ∷ field (spellings ts) ++ field (joined annotations)) (prim name annotations ts)
unfolding many_at
many_back node name annotations ts known forms three fits notes_fit reads tag_place place rest =
    let notes = field (joined annotations) in
    let args = nodes_back node ts reads fits (place + 1) (notes ++ rest) in
    let read = read_any_annotations annotations forms notes_fit args.0 rest in
    let enough : nat_lt (count ts) 3 ≡ false = grind (arith, nat_tests, three) in
    (read.0, rw (append_assoc (field (spellings ts)) notes rest, read_name name known place (field (spellings ts) ++ (notes ++ rest)), args.1, enough, read.1) refl)

-- the tag stands in front
tag_back : (tag : Tag) (place : ℕ) (rest : List ℕ) → tag_at (spot place (tag_byte tag ∷ rest)) ≡ Ok (tag, spot (place + 1) rest)
unfolding tag_at byte_at tags_in_order
tag_back tags.Integer place rest = refl
tag_back tags.Text place rest = refl
tag_back tags.Sequence place rest = refl
tag_back tags.Alone place rest = refl
tag_back tags.AloneAnnotated place rest = refl
tag_back tags.One place rest = refl
tag_back tags.OneAnnotated place rest = refl
tag_back tags.Two place rest = refl
tag_back tags.TwoAnnotated place rest = refl
tag_back tags.Many place rest = refl
tag_back tags.Bytes place rest = refl

-- a node is read behind its tag, whatever the place of the tag
level_back : (n : ℕ) (tag : Tag) (text : List ℕ) (t : Tree) → ((tag_place : ℕ) → Gives (node_by (node_at n) tag tag_place) text t) → Gives (node_at (suc n)) (tag_byte tag ∷ text) t
unfolding node_at
level_back n tag text t reads place rest =
    let inner = reads place (place + 1) rest in
    (inner.0, ap (λ r. r >>= λ x. node_by (node_at n) x.0 place x.1) (tag_back tag place (text ++ rest)) ∙ inner.1)

integer_level : (n : ℕ) (z : ℤ) → HasBinaryForm (int z) → ReadsBack (node_at (suc n)) (int z)
unfolding node_by
integer_level n z form = level_back n tags.Integer (integer z) (int z) (λ tag_place place rest. let r = read_integer z form place rest in (r.0, ap (λ r. r >>= λ x. Ok (int x.0, x.1)) r.1))

text_level : (n : ℕ) (s : List ℕ) → HasBinaryForm (str s) → ReadsBack (node_at (suc n)) (str s)
unfolding node_by
text_level n s form = level_back n tags.Text (field s) (str s) (λ tag_place place rest. let r = read_string s form.0 form.1 place rest in (r.0, ap (λ r. r >>= λ x. Ok (str x.0, x.1)) r.1))

bytes_level : (n : ℕ) (b : List ℕ) → HasBinaryForm (bytes b) → ReadsBack (node_at (suc n)) (bytes b)
unfolding node_by
bytes_level n b form = level_back n tags.Bytes (field b) (bytes b) (λ tag_place place rest. let r = read_bytes b form place rest in (r.0, ap (λ r. r >>= λ x. Ok (bytes x.0, x.1)) r.1))

sequence_level : (n : ℕ) (ts : Trees) → ReadBack (node_at n) ts → length (spellings ts) < 2 ^ 32 → ReadsBack (node_at (suc n)) (seq ts)
unfolding node_by
sequence_level n ts reads fits =
    level_back n tags.Sequence (field (spellings ts)) (seq ts) (λ tag_place place rest. let r = nodes_back (node_at n) ts reads fits place rest in (r.0, ap (λ r. r >>= λ x. Ok (seq x.0, x.1)) r.1))

-- with a tag for no annotations and one for some
short_level : (n : ℕ) (bare noted : Tag) (name : List ℕ) (annotations : List (List ℕ)) (ts : Trees) → HasCode name → list_all is_annotation annotations ≡ true → length (joined annotations) < 2 ^ 32 → ReadBack (node_at n) ts
    → tag_byte noted ≡ tag_byte bare + 1
    → ((tag_place : ℕ) (s : Spot) → node_by (node_at n) bare tag_place s ≡ application_at (node_at n) (count ts) false s)
    → ((tag_place : ℕ) (s : Spot) → node_by (node_at n) noted tag_place s ≡ application_at (node_at n) (count ts) true s)
    → Gives (node_at (suc n)) (short (tag_byte bare) (code name) (spellings ts) (joined annotations)) (prim name annotations ts)
short_level n bare noted name [] ts known forms fits reads next is_bare is_noted =
    level_back n bare (code name ∷ spellings ts) (prim name [] ts) (λ tag_place place rest.
    let r = bare_back (node_at n) name ts known reads place rest in (r.0, is_bare tag_place (spot place ((code name ∷ spellings ts) ++ rest)) ∙ r.1))
short_level n bare noted name (a ∷ others) ts known forms fits reads next is_bare is_noted =
    let text = code name ∷ spellings ts ++ field (joined (a ∷ others)) in
    let read : Gives (node_at (suc n)) (tag_byte noted ∷ text) (prim name (a ∷ others) ts) = level_back n noted text (prim name (a ∷ others) ts) (λ tag_place place rest.
    let r = noted_back (node_at n) name a others ts known forms fits reads place rest in (r.0, is_noted tag_place (spot place (text ++ rest)) ∙ r.1)) in
    subst (λ (xs : List ℕ). Gives (node_at (suc n)) xs (prim name (a ∷ others) ts)) (ap (λ (k : ℕ). k ∷ text) next ∙ sym (some_short (tag_byte bare) (code name) (spellings ts) a others forms)) read
  where
    some_short : (tag c : ℕ) (args : List ℕ) (a : List ℕ) (others : List (List ℕ)) → list_all is_annotation (a ∷ others) ≡ true
        → short tag c args (joined (a ∷ others)) ≡ (tag + 1) ∷ c ∷ args ++ field (joined (a ∷ others))
    some_short tag c args [] others h = absurd cc
    some_short tag c args (b ∷ bs) [] h = refl
    some_short tag c args (b ∷ bs) (d ∷ ds) h = refl

application_level : (n : ℕ) (name : List ℕ) (annotations : List (List ℕ)) (ts : Trees) → HasCode name → list_all is_annotation annotations ≡ true → length (spellings ts) < 2 ^ 32
    → length (joined annotations) < 2 ^ 32 → ReadBack (node_at n) ts → ReadsBack (node_at (suc n)) (prim name annotations ts)
unfolding application node_by
application_level n name annotations none known forms args_fit fits reads = short_level n tags.Alone tags.AloneAnnotated name annotations none known forms fits reads refl (λ p s. refl) (λ p s. refl)
application_level n name annotations (more t none) known forms args_fit fits reads =
    short_level n tags.One tags.OneAnnotated name annotations (more t none) known forms fits reads refl (λ p s. refl) (λ p s. refl)
application_level n name annotations (more t (more u none)) known forms args_fit fits reads =
    short_level n tags.Two tags.TwoAnnotated name annotations (more t (more u none)) known forms fits reads refl (λ p s. refl) (λ p s. refl)
application_level n name annotations (more t (more u (more v vs))) known forms args_fit fits reads =
    let ts = more t (more u (more v vs)) in
    level_back n tags.Many (code name ∷ field (spellings ts) ++ field (joined annotations)) (prim name annotations ts)
    (λ tag_place. many_back (node_at n) name annotations ts known forms (omega arith) args_fit fits reads tag_place)

mutual
  back : (n : ℕ) (t : Tree) → HasBinaryForm t → HasLengths t → depth t ≤ n → ReadsBack (node_at n) t
  back zero (int z) form fits h = absurd (omega (arith, h))
  back zero (str s) form fits h = absurd (omega (arith, h))
  back zero (bytes b) form fits h = absurd (omega (arith, h))
  back zero (prim name annotations ts) form fits h = absurd (omega (arith, h))
  back zero (seq ts) form fits h = absurd (omega (arith, h))
  back (suc n) (int z) form fits h = integer_level n z form
  back (suc n) (str s) form fits h = text_level n s form
  back (suc n) (bytes b) form fits h = bytes_level n b form
  back (suc n) (prim name annotations ts) form fits h = application_level n name annotations ts form.0 form.1 fits.0 fits.1 (all_back n ts form.2 fits.2 (omega (arith, h)))
  back (suc n) (seq ts) form fits h = sequence_level n ts (all_back n ts form fits.1 (omega (arith, h))) fits.0

  all_back : (n : ℕ) (ts : Trees) → HaveBinaryForms ts → HaveLengths ts → depths ts ≤ n → ReadBack (node_at n) ts
  all_back n none forms fit h = tt
  all_back n (more t ts) forms fit h = (back n t forms.0 fit.0 (omega (arith, h)), all_back n ts forms.1 fit.1 (omega (arith, h)))

pub nodes_are_decoded : NodesAreDecoded
unfolding decoded
nodes_are_decoded t form deep short =
    let read = back depth_limit t form (lengths t short) deep 0 [] in
    let same : node_at depth_limit (spot 0 (spelling t)) ≡ Ok (t, spot read.0 []) = ap (λ (xs : List ℕ). node_at depth_limit (spot 0 xs)) (sym (append-nil (spelling t))) ∙ read.1 in
    ap (λ r. r >>= λ root. cond (nat_eq (length root.1.left) 0) (Ok root.0) (fault Trailing root.1.place)) same

pub one_node : OneNode
one_node t u form other_form deep other_deep short same =
    let other_short : length (spelling u) < 2 ^ 32 = subst (λ (xs : List ℕ). length xs < 2 ^ 32) same short in
    let both : Ok t ≡ Ok u = sym (nodes_are_decoded t form deep short) ∙ ap decoded same ∙ nodes_are_decoded u other_form other_deep other_short in
    ok_is t u both

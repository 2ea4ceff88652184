-- Nodes are read as they are spelt.
use Rattle.std.proofs.Common.{◌≡◌, ℕ, zero, suc, ◌+◌, ◌<◌, ◌≤◌, Bool, true, false, cond, ltb, nat_eq, List, [], ◌∷◌, ◌++◌, length, Result, Ok, Err, refl, sym, ap, subst, ◌∙◌, append_assoc, arith}
use Rattle.std.specs.Int.{w32, to_be_bytes}
use Rattle.std.proofs.lemmas.Bool.{eqb-true, ltb-false}
use Rattle.std.proofs.lemmas.List.{append-nil, nil_from_length, length-append}
use Rattle.rules_text.specs.nodes.Limits.{depth_limit}
use Rattle.rules_text.specs.nodes.Tree.{Tree, int, str, bytes, prim, seq, Trees, none, more}
use Rattle.rules_text.specs.declared.binary.DecodeKind.TheVariants.{BadTag, TooDeep, Trailing}
use Rattle.rules_text.specs.declared.binary.Tag.{Tag}
use Rattle.rules_text.specs.declared.binary.Tag.TheVariants as tags
use Rattle.rules_text.specs.binary.Spelling.{field, joined, short, application, count, code, spelling, spellings}
use Rattle.rules_text.specs.binary.Reading.{Spot, Fault, ◌>>=◌, fault, integer_at, string_at, bytes_at, field_at, short_annotations_at, any_annotations_at, name_at, arguments_at, nodes_within, nodes_at, application_at, many_at, node_by, tag_at, node_at, decoded}
use Rattle.laws_data.specs.binary.Laws.{IsBytes, Took, DecodedIsSpelt, SpellingIsDecoded, OneSpelling}
use Rattle.laws_data.proofs.binary_lemmas.Fields.{guard_ok, ok_is, bind_ok, IsBytes-after, IsBytes-front, rest_fits, took_then, fields_are_spelt, string_took, bytes_took}
use Rattle.laws_data.proofs.binary_lemmas.Integers.{integers_are_spelt}
use Rattle.laws_data.proofs.binary_lemmas.Annotations.{annotations_took, any_annotations_took}
use Rattle.laws_data.proofs.binary_lemmas.Names.{name_took, tag_byte, tag_took}

abbrev pub Reader : Type 0
Reader = Spot → Result (Tree × Spot) Fault

-- what this reader reads is spelt so
abbrev Reads : Reader → Type 0
Reads node = (s after : Spot) (t : Tree) → IsBytes s.left → node s ≡ Ok (t, after) → Took s (spelling t) after

some_short : (tag c : ℕ) (args notes : List ℕ) → 1 ≤ length (short tag c args notes)
some_short tag c args [] = omega arith
some_short tag c args (b ∷ bs) = omega arith

some_application : (c n : ℕ) (args notes : List ℕ) → 1 ≤ length (application c n args notes)
unfolding application
some_application c zero args notes = some_short 3 c args notes
some_application c (suc zero) args notes = some_short 5 c args notes
some_application c (suc (suc zero)) args notes = some_short 7 c args notes
some_application c (suc (suc (suc n))) args notes = omega arith

pub some_spelling : (t : Tree) → 1 ≤ length (spelling t)
some_spelling (int n) = omega arith
some_spelling (str x) = omega arith
some_spelling (bytes x) = omega arith
some_spelling (prim name annotations args) = some_application (code name) (count args) (spellings args) (joined annotations)
some_spelling (seq ts) = omega arith

arguments_took : (node : Reader) → Reads node → (n : ℕ) (s after : Spot) (ts : Trees) → IsBytes s.left → arguments_at node n s ≡ Ok (ts, after) → Took s (spellings ts) after × (count ts ≡ n)
arguments_took node reads zero s after ts fits e =
    let made : Trees × Spot = (none, s) in
    subst (λ (p : Trees × Spot). Took s (spellings p.0) p.1 × (count p.0 ≡ 0)) (ok_is made (ts, after) e) (refl, refl)
arguments_took node reads (suc n) s after ts fits e =
    let a = bind_ok (node s) (λ first. arguments_at node n first.1 >>= λ others. Ok (more first.0 others.0, others.1)) (ts, after) e in
    let b = bind_ok (arguments_at node n a.0.1) (λ others. Ok (more a.0.0 others.0, others.1)) (ts, after) a.2 in
    let first : Took s (spelling a.0.0) a.0.1 = reads s a.0.1 a.0.0 fits a.1 in
    let others = arguments_took node reads n a.0.1 b.0.1 b.0.0 (rest_fits s a.0.1 (spelling a.0.0) first fits) b.1 in
    let made : Trees × Spot = (more a.0.0 b.0.0, b.0.1) in
    subst (λ (p : Trees × Spot). Took s (spellings p.0) p.1 × (count p.0 ≡ suc n)) (ok_is made (ts, after) b.2)
    (took_then s a.0.1 b.0.1 (spelling a.0.0) (spellings b.0.0) first others.0, ap suc others.1)

IsWhole : Spot → Trees × Spot → Type 0
IsWhole s p = Took s (spellings p.0) p.1 × (p.1.left ≡ [])

within_by : (node : Reader) (n : ℕ) (s : Spot) (x : Trees × Spot) (b : Bool) → Reads node → nat_eq (length s.left) 0 ≡ b → IsBytes s.left
    → ((r : Spot) (y : Trees × Spot) → IsBytes r.left → length r.left < length s.left → nodes_within node n r ≡ Ok y → IsWhole r y)
    → cond b (Ok (none, s)) (node s >>= λ first. nodes_within node n first.1 >>= λ others. Ok (more first.0 others.0, others.1)) ≡ Ok x → IsWhole s x
unfolding IsWhole
within_by node n s x true reads t fits later e =
    let made : Trees × Spot = (none, s) in
    let nothing : s.left ≡ [] = nil_from_length s.left (eqb-true (length s.left) 0 t) in
    subst (λ (p : Trees × Spot). Took s (spellings p.0) p.1 × (p.1.left ≡ [])) (ok_is made x e) (refl, nothing)
within_by node n s x false reads t fits later e =
    let a = bind_ok (node s) (λ first. nodes_within node n first.1 >>= λ others. Ok (more first.0 others.0, others.1)) x e in
    let b = bind_ok (nodes_within node n a.0.1) (λ others. Ok (more a.0.0 others.0, others.1)) x a.2 in
    let first : Took s (spelling a.0.0) a.0.1 = reads s a.0.1 a.0.0 fits a.1 in
    let less : length a.0.1.left < length s.left = omega (arith, ap length first, length-append (spelling a.0.0) a.0.1.left, some_spelling a.0.0) in
    let others = later a.0.1 b.0 (rest_fits s a.0.1 (spelling a.0.0) first fits) less b.1 in
    let made : Trees × Spot = (more a.0.0 b.0.0, b.0.1) in
    subst (λ (p : Trees × Spot). Took s (spellings p.0) p.1 × (p.1.left ≡ [])) (ok_is made x b.2)
    (took_then s a.0.1 b.0.1 (spelling a.0.0) (spellings b.0.0) first others.0, others.1)

within_took : (node : Reader) → Reads node → (n : ℕ) (s : Spot) (x : Trees × Spot) → IsBytes s.left → length s.left ≤ n → nodes_within node n s ≡ Ok x → IsWhole s x
unfolding IsWhole
within_took node reads zero s x fits h e =
    let made : Trees × Spot = (none, s) in
    let nothing : s.left ≡ [] = nil_from_length s.left (omega arith) in
    subst (λ (p : Trees × Spot). Took s (spellings p.0) p.1 × (p.1.left ≡ [])) (ok_is made x e) (refl, nothing)
within_took node reads (suc n) s x fits h e =
    within_by node n s x (nat_eq (length s.left) 0) reads refl fits (λ r y r_fits less step. within_took node reads n r y r_fits (omega arith) step) e

content_fits : (content rest : List ℕ) → IsBytes (field content ++ rest) → IsBytes content
unfolding field
content_fits content rest h = IsBytes-after (to_be_bytes w32 (length content)) content (IsBytes-front (field content) rest h)

nodes_took : (node : Reader) → Reads node → (s after : Spot) (ts : Trees) → IsBytes s.left → nodes_at node s ≡ Ok (ts, after) → Took s (field (spellings ts)) after
unfolding nodes_at IsWhole
nodes_took node reads s after ts fits e =
    let f = bind_ok (field_at s) (λ f. nodes_within node (length f.0.left) f.0 >>= λ ns. Ok (ns.0, f.1)) (ts, after) e in
    let w = bind_ok (nodes_within node (length f.0.0.left) f.0.0) (λ ns. Ok (ns.0, f.0.1)) (ts, after) f.2 in
    let outer : Took s (field f.0.0.left) f.0.1 = fields_are_spelt s f.0.0 f.0.1 fits f.1 in
    let inner = within_took node reads (length f.0.0.left) f.0.0 w.0 (content_fits f.0.0.left f.0.1.left (subst IsBytes outer fits)) (omega arith) w.1 in
    let all : f.0.0.left ≡ spellings w.0.0 = inner.0 ∙ ap (λ (r : List ℕ). spellings w.0.0 ++ r) inner.1 ∙ append-nil (spellings w.0.0) in
    let made : Trees × Spot = (w.0.0, f.0.1) in
    subst (λ (p : Trees × Spot). Took s (field (spellings p.0)) p.1) (ok_is made (ts, after) w.2) (subst (λ (xs : List ℕ). Took s (field xs) f.0.1) all outer)

-- the tag of a short application with annotations is the next
abbrev with_notes : Bool → ℕ → ℕ
with_notes true tag = tag + 1
with_notes false tag = tag

short_some : (tag c : ℕ) (args notes : List ℕ) → 1 ≤ length notes → short tag c args notes ≡ ((tag + 1) ∷ c ∷ args) ++ field notes
short_some tag c args [] h = absurd (omega arith)
short_some tag c args (b ∷ bs) h = refl

notes_took : (annotated : Bool) (tag c : ℕ) (args : List ℕ) (s after : Spot) (annotations : List (List ℕ)) → IsBytes s.left → short_annotations_at annotated s ≡ Ok (annotations, after)
    → (with_notes annotated tag ∷ c ∷ args) ++ s.left ≡ short tag c args (joined annotations) ++ after.left
notes_took true tag c args s after annotations fits e =
    let a = annotations_took s after annotations fits e in
    ap (λ (r : List ℕ). ((tag + 1) ∷ c ∷ args) ++ r) a.0 ∙ sym (append_assoc ((tag + 1) ∷ c ∷ args) (field (joined annotations)) after.left)
    ∙ ap (λ (r : List ℕ). r ++ after.left) (sym (short_some tag c args (joined annotations) a.1))
notes_took false tag c args s after annotations fits e =
    let made : List (List ℕ) × Spot = ([], s) in
    subst (λ (p : List (List ℕ) × Spot). (tag ∷ c ∷ args) ++ s.left ≡ short tag c args (joined p.0) ++ p.1.left) (ok_is made (annotations, after) e) refl

-- the tag of so many arguments
abbrev IsShort : ℕ → ℕ → Type 0
IsShort n tag = (c : ℕ) (args notes : List ℕ) → application c n args notes ≡ short tag c args notes

application_took : (node : Reader) → Reads node → (n tag : ℕ) (annotated : Bool) (s after : Spot) (t : Tree) → IsShort n tag → IsBytes s.left → application_at node n annotated s ≡ Ok (t, after)
    → with_notes annotated tag ∷ s.left ≡ spelling t ++ after.left
unfolding application_at
application_took node reads n tag annotated s after t is_short fits e =
    let a = bind_ok (name_at s) (λ name. arguments_at node n name.1 >>= λ args. short_annotations_at annotated args.1 >>= λ notes. Ok (prim name.0 notes.0 args.0, notes.1)) (t, after) e in
    let b = bind_ok (arguments_at node n a.0.1) (λ args. short_annotations_at annotated args.1 >>= λ notes. Ok (prim a.0.0 notes.0 args.0, notes.1)) (t, after) a.2 in
    let c = bind_ok (short_annotations_at annotated b.0.1) (λ notes. Ok (prim a.0.0 notes.0 b.0.0, notes.1)) (t, after) b.2 in
    let k = code a.0.0 in
    let args = spellings b.0.0 in
    let one : Took s (k ∷ []) a.0.1 = name_took s a.0.1 a.0.0 a.1 in
    let fits1 = rest_fits s a.0.1 (k ∷ []) one fits in
    let two = arguments_took node reads n a.0.1 b.0.1 b.0.0 fits1 b.1 in
    let fits2 = rest_fits a.0.1 b.0.1 args two.0 fits1 in
    let three = notes_took annotated tag k args b.0.1 c.0.1 c.0.0 fits2 c.1 in
    let front : with_notes annotated tag ∷ s.left ≡ (with_notes annotated tag ∷ k ∷ args) ++ b.0.1.left = ap (λ (r : List ℕ). with_notes annotated tag ∷ r) (one ∙ ap (λ (r : List ℕ). k ∷ r) two.0) in
    let spelt : short tag k args (joined c.0.0) ≡ application k (count b.0.0) args (joined c.0.0) = sym (ap (λ (m : ℕ). application k m args (joined c.0.0)) two.1 ∙ is_short k args (joined c.0.0)) in
    let whole : with_notes annotated tag ∷ s.left ≡ application k (count b.0.0) args (joined c.0.0) ++ c.0.1.left = front ∙ three ∙ ap (λ (r : List ℕ). r ++ c.0.1.left) spelt in
    let made : Tree × Spot = (prim a.0.0 c.0.0 b.0.0, c.0.1) in
    subst (λ (p : Tree × Spot). with_notes annotated tag ∷ s.left ≡ spelling p.0 ++ p.1.left) (ok_is made (t, after) c.2) whole

many_spelt : (c n : ℕ) (args notes : List ℕ) → 3 ≤ n → application c n args notes ≡ (9 ∷ c ∷ field args) ++ field notes
unfolding application
many_spelt c zero args notes h = absurd (omega arith)
many_spelt c (suc zero) args notes h = absurd (omega arith)
many_spelt c (suc (suc zero)) args notes h = absurd (omega arith)
many_spelt c (suc (suc (suc n))) args notes h = refl

many_took : (node : Reader) → Reads node → (place : ℕ) (s after : Spot) (t : Tree) → IsBytes s.left → many_at node place s ≡ Ok (t, after) → 9 ∷ s.left ≡ spelling t ++ after.left
unfolding many_at
many_took node reads place s after t fits e =
    let a = bind_ok (name_at s) (λ name. nodes_at node name.1 >>= λ args. cond (ltb (count args.0) 3) (fault BadTag place) (any_annotations_at args.1 >>= λ notes. Ok (prim name.0 notes.0 args.0, notes.1))) (t, after) e in
    let b = bind_ok (nodes_at node a.0.1) (λ args. cond (ltb (count args.0) 3) (fault BadTag place) (any_annotations_at args.1 >>= λ notes. Ok (prim a.0.0 notes.0 args.0, notes.1))) (t, after) a.2 in
    let g = guard_ok (ltb (count b.0.0) 3) (record { kind = BadTag; place = place }) (any_annotations_at b.0.1 >>= λ notes. Ok (prim a.0.0 notes.0 b.0.0, notes.1)) (t, after) b.2 in
    let c = bind_ok (any_annotations_at b.0.1) (λ notes. Ok (prim a.0.0 notes.0 b.0.0, notes.1)) (t, after) g.1 in
    let k = code a.0.0 in
    let args = spellings b.0.0 in
    let one : Took s (k ∷ []) a.0.1 = name_took s a.0.1 a.0.0 a.1 in
    let fits1 = rest_fits s a.0.1 (k ∷ []) one fits in
    let two : Took a.0.1 (field args) b.0.1 = nodes_took node reads a.0.1 b.0.1 b.0.0 fits1 b.1 in
    let fits2 = rest_fits a.0.1 b.0.1 (field args) two fits1 in
    let three : Took b.0.1 (field (joined c.0.0)) c.0.1 = any_annotations_took b.0.1 c.0.1 c.0.0 fits2 c.1 in
    let front : 9 ∷ s.left ≡ (9 ∷ k ∷ field args) ++ b.0.1.left = ap (λ (r : List ℕ). 9 ∷ r) (one ∙ ap (λ (r : List ℕ). k ∷ r) two) in
    let spelt : (9 ∷ k ∷ field args) ++ field (joined c.0.0) ≡ application k (count b.0.0) args (joined c.0.0) = sym (many_spelt k (count b.0.0) args (joined c.0.0) (ltb-false _ _ g.0)) in
    let whole : 9 ∷ s.left ≡ application k (count b.0.0) args (joined c.0.0) ++ c.0.1.left =
    front ∙ ap (λ (r : List ℕ). (9 ∷ k ∷ field args) ++ r) three ∙ sym (append_assoc (9 ∷ k ∷ field args) (field (joined c.0.0)) c.0.1.left) ∙ ap (λ (r : List ℕ). r ++ c.0.1.left) spelt in
    let made : Tree × Spot = (prim a.0.0 c.0.0 b.0.0, c.0.1) in
    subst (λ (p : Tree × Spot). 9 ∷ s.left ≡ spelling p.0 ++ p.1.left) (ok_is made (t, after) c.2) whole

no_arguments : IsShort 0 3
unfolding application
no_arguments c args notes = refl

one_argument : IsShort 1 5
unfolding application
one_argument c args notes = refl

two_arguments : IsShort 2 7
unfolding application
two_arguments c args notes = refl

by_took : (node : Reader) → Reads node → (tag : Tag) (place : ℕ) (s after : Spot) (t : Tree) → IsBytes s.left → node_by node tag place s ≡ Ok (t, after) → tag_byte tag ∷ s.left ≡ spelling t ++ after.left
unfolding node_by
by_took node reads tags.Integer place s after t fits e =
    let a = bind_ok (integer_at s) (λ z. Ok (int z.0, z.1)) (t, after) e in
    let made : Tree × Spot = (int a.0.0, a.0.1) in
    subst (λ (p : Tree × Spot). 0 ∷ s.left ≡ spelling p.0 ++ p.1.left) (ok_is made (t, after) a.2) (ap (λ (r : List ℕ). 0 ∷ r) (integers_are_spelt s a.0.1 a.0.0 fits a.1))
by_took node reads tags.Text place s after t fits e =
    let a = bind_ok (string_at s) (λ x. Ok (str x.0, x.1)) (t, after) e in
    let made : Tree × Spot = (str a.0.0, a.0.1) in
    subst (λ (p : Tree × Spot). 1 ∷ s.left ≡ spelling p.0 ++ p.1.left) (ok_is made (t, after) a.2) (ap (λ (r : List ℕ). 1 ∷ r) (string_took s a.0.1 a.0.0 fits a.1))
by_took node reads tags.Sequence place s after t fits e =
    let a = bind_ok (nodes_at node s) (λ ns. Ok (seq ns.0, ns.1)) (t, after) e in
    let made : Tree × Spot = (seq a.0.0, a.0.1) in
    subst (λ (p : Tree × Spot). 2 ∷ s.left ≡ spelling p.0 ++ p.1.left) (ok_is made (t, after) a.2) (ap (λ (r : List ℕ). 2 ∷ r) (nodes_took node reads s a.0.1 a.0.0 fits a.1))
by_took node reads tags.Alone place s after t fits e = application_took node reads 0 3 false s after t no_arguments fits e
by_took node reads tags.AloneAnnotated place s after t fits e = application_took node reads 0 3 true s after t no_arguments fits e
by_took node reads tags.One place s after t fits e = application_took node reads 1 5 false s after t one_argument fits e
by_took node reads tags.OneAnnotated place s after t fits e = application_took node reads 1 5 true s after t one_argument fits e
by_took node reads tags.Two place s after t fits e = application_took node reads 2 7 false s after t two_arguments fits e
by_took node reads tags.TwoAnnotated place s after t fits e = application_took node reads 2 7 true s after t two_arguments fits e
by_took node reads tags.Many place s after t fits e = many_took node reads place s after t fits e
by_took node reads tags.Bytes place s after t fits e =
    let a = bind_ok (bytes_at s) (λ x. Ok (bytes x.0, x.1)) (t, after) e in
    let made : Tree × Spot = (bytes a.0.0, a.0.1) in
    subst (λ (p : Tree × Spot). 10 ∷ s.left ≡ spelling p.0 ++ p.1.left) (ok_is made (t, after) a.2) (ap (λ (r : List ℕ). 10 ∷ r) (bytes_took s a.0.1 a.0.0 fits a.1))

levels_took : (n : ℕ) → Reads (node_at n)
unfolding node_at
levels_took zero s after t fits e =
    let a = bind_ok (tag_at s) (λ tag. fault {A = Tree × Spot} TooDeep s.place) (t, after) e in
    absurd (cc (a.2))
levels_took (suc n) s after t fits e =
    let a = bind_ok (tag_at s) (λ tag. node_by (node_at n) tag.0 s.place tag.1) (t, after) e in
    let tag : Took s (tag_byte a.0.0 ∷ []) a.0.1 = tag_took s a.0.1 a.0.0 a.1 in
    tag ∙ by_took (node_at n) (levels_took n) a.0.0 s.place a.0.1 after t (rest_fits s a.0.1 (tag_byte a.0.0 ∷ []) tag fits) a.2

guard_ended : {A : Type 0} (b : Bool) (d : Fault) (x y : A) → cond b (Ok x) (Err d) ≡ Ok y → (b ≡ true) × (x ≡ y)
guard_ended true d x y e = (refl, cc)
guard_ended false d x y e = absurd cc

pub decoded_is_spelt : DecodedIsSpelt
unfolding decoded
decoded_is_spelt bs t fits e =
    let s : Spot = record { place = 0; left = bs } in
    let a = bind_ok (node_at depth_limit s) (λ root. cond (nat_eq (length root.1.left) 0) (Ok root.0) (fault Trailing root.1.place)) t e in
    let g = guard_ended (nat_eq (length a.0.1.left) 0) (record { kind = Trailing; place = a.0.1.place }) a.0.0 t a.2 in
    let nothing : a.0.1.left ≡ [] = nil_from_length a.0.1.left (eqb-true _ _ g.0) in
    let took : bs ≡ spelling a.0.0 ++ a.0.1.left = levels_took depth_limit s a.0.1 a.0.0 fits a.1 in
    took ∙ ap (λ (r : List ℕ). spelling a.0.0 ++ r) nothing ∙ append-nil (spelling a.0.0) ∙ ap spelling g.1

pub spelling_is_decoded : SpellingIsDecoded
spelling_is_decoded bs t fits e = ap decoded (sym (decoded_is_spelt bs t fits e)) ∙ e

pub one_spelling : OneSpelling
one_spelling bs cs t fits others e d = decoded_is_spelt bs t fits e ∙ sym (decoded_is_spelt cs t others d)

-- Annotations are read as they are spelt.
use Rattle.std.proofs.Common.{◌≡◌, ℕ, ◌≤◌, Bool, true, false, cond, nat_eq, List, [], ◌∷◌, length, Ok, Err, refl, sym, ap, subst, ◌∙◌, arith}
use Rattle.std.proofs.lemmas.Bool.{eqb-true}
use Rattle.std.specs.List.{list_all}
use Rattle.rules_text.specs.declared.binary.DecodeKind.TheVariants.{BadString}
use Rattle.rules_text.specs.binary.Spelling.{field, joined}
use Rattle.rules_text.specs.binary.Reading.{Spot, Fault, ◌>>=◌, field_at, is_annotation, before, pieces, annotations_of, any_annotations, annotations_at, any_annotations_at}
use Rattle.laws_data.specs.binary.Laws.{IsBytes, Took}
use Rattle.laws_data.proofs.binary_lemmas.Fields.{bind_ok, ok_is, fields_are_spelt}

joined_before : (b : ℕ) (ps : List (List ℕ)) → joined (before b ps) ≡ b ∷ joined ps
joined_before b [] = refl
joined_before b (p ∷ []) = refl
joined_before b (p ∷ q ∷ qs) = refl

joined_space : (ps : List (List ℕ)) → 1 ≤ length ps → joined ([] ∷ ps) ≡ 32 ∷ joined ps
joined_space [] h = absurd (omega arith)
joined_space (p ∷ ps) h = refl

some_before : (b : ℕ) (ps : List (List ℕ)) → 1 ≤ length (before b ps)
some_before b [] = omega arith
some_before b (p ∷ ps) = omega arith

some_by : (b : ℕ) (ps : List (List ℕ)) (space : Bool) → 1 ≤ length (cond space ([] ∷ ps) (before b ps))
some_by b ps true = omega arith
some_by b ps false = some_before b ps

some_piece : (xs : List ℕ) → 1 ≤ length (pieces xs)
some_piece [] = omega arith
some_piece (b ∷ bs) = some_by b (pieces bs) (nat_eq b 32)

joined_by : (b : ℕ) (bs : List ℕ) (space : Bool) → nat_eq b 32 ≡ space → joined (pieces bs) ≡ bs → joined (cond space ([] ∷ pieces bs) (before b (pieces bs))) ≡ b ∷ bs
joined_by b bs true t e =
    let same : b ≡ 32 = eqb-true b 32 t in
    joined_space (pieces bs) (some_piece bs) ∙ ap (λ (xs : List ℕ). 32 ∷ xs) e ∙ ap (λ (x : ℕ). x ∷ bs) (sym same)
joined_by b bs false t e = joined_before b (pieces bs) ∙ ap (λ (xs : List ℕ). b ∷ xs) e

joined_pieces : (xs : List ℕ) → joined (pieces xs) ≡ xs
joined_pieces [] = refl
joined_pieces (b ∷ bs) = joined_by b bs (nat_eq b 32) refl (joined_pieces bs)

guard_yes : {A : Type 0} (b : Bool) (d : Fault) (x y : A) → cond b (Ok x) (Err d) ≡ Ok y → (b ≡ true) × (x ≡ y)
guard_yes true d x y e = (refl, cc)
guard_yes false d x y e = absurd cc

some_text : (xs : List ℕ) → list_all is_annotation (pieces xs) ≡ true → 1 ≤ length xs
some_text [] t = absurd cc
some_text (b ∷ bs) t = omega arith

annotations_of_is : (s : Spot) (annotations : List (List ℕ)) → annotations_of s ≡ Ok annotations → (joined annotations ≡ s.left) × (1 ≤ length s.left)
annotations_of_is s annotations e =
    let g = guard_yes (list_all is_annotation (pieces s.left)) (record { kind = BadString; place = s.place }) (pieces s.left) annotations e in
    (ap joined (sym g.1) ∙ joined_pieces s.left, some_text s.left g.0)

any_is : (s : Spot) (xs : List ℕ) (annotations : List (List ℕ)) → xs ≡ s.left → any_annotations s xs ≡ Ok annotations → joined annotations ≡ s.left
any_is s [] annotations same e = ap joined (sym (ok_is [] annotations e)) ∙ same
any_is s (b ∷ bs) annotations same e = (annotations_of_is s annotations e).0

pub annotations_took : (s after : Spot) (annotations : List (List ℕ)) → IsBytes s.left → annotations_at s ≡ Ok (annotations, after) → Took s (field (joined annotations)) after × (1 ≤ length (joined annotations))
unfolding annotations_at
annotations_took s after annotations fits e =
    let b = bind_ok (field_at s) (λ f. annotations_of f.0 >>= λ a. Ok (a, f.1)) (annotations, after) e in
    let c = bind_ok (annotations_of b.0.0) (λ a. Ok (a, b.0.1)) (annotations, after) b.2 in
    let is = annotations_of_is b.0.0 c.0 c.1 in
    let took : Took s (field (joined c.0)) b.0.1 = subst (λ (xs : List ℕ). Took s (field xs) b.0.1) (sym is.0) (fields_are_spelt s b.0.0 b.0.1 fits b.1) in
    let some : 1 ≤ length (joined c.0) = subst (λ (xs : List ℕ). 1 ≤ length xs) (sym is.0) is.1 in
    let made : List (List ℕ) × Spot = (c.0, b.0.1) in
    subst (λ (p : List (List ℕ) × Spot). Took s (field (joined p.0)) p.1 × (1 ≤ length (joined p.0))) (ok_is made (annotations, after) c.2) (took, some)

pub any_annotations_took : (s after : Spot) (annotations : List (List ℕ)) → IsBytes s.left → any_annotations_at s ≡ Ok (annotations, after) → Took s (field (joined annotations)) after
unfolding any_annotations_at
any_annotations_took s after annotations fits e =
    let b = bind_ok (field_at s) (λ f. any_annotations f.0 f.0.left >>= λ a. Ok (a, f.1)) (annotations, after) e in
    let c = bind_ok (any_annotations b.0.0 b.0.0.left) (λ a. Ok (a, b.0.1)) (annotations, after) b.2 in
    let is = any_is b.0.0 b.0.0.left c.0 refl c.1 in
    let took : Took s (field (joined c.0)) b.0.1 = subst (λ (xs : List ℕ). Took s (field xs) b.0.1) (sym is) (fields_are_spelt s b.0.0 b.0.1 fits b.1) in
    let made : List (List ℕ) × Spot = (c.0, b.0.1) in
    subst (λ (p : List (List ℕ) × Spot). Took s (field (joined p.0)) p.1) (ok_is made (annotations, after) c.2) took

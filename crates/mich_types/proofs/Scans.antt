-- The walk that finds faults, and the type that is made, against the reading of a node as a type.
use Rattle.std.proofs.Common.{◌≡◌, ℕ, ◌+◌, ◌<◌, ◌≤◌, min, Bool, true, false, cond, ◌&&◌, List, [], ◌∷◌, map, Result, Ok, Err, refl, ap, ◌∙◌, sym, arith, nat_le}
use Rattle.std.proofs.lemmas.Bool.Decides.{nat_tests}
use Rattle.rules_text.specs.nodes.Limits.{type_limit}
use Rattle.rules_text.specs.nodes.Tree.{Tree, int, str, bytes, prim, seq, Trees, none, more, size}
use Rattle.rules_data.specs.declared.types.OneArgument.{OneArgument}
use Rattle.rules_data.specs.declared.types.OneArgument.TheVariants as one
use Rattle.rules_data.specs.declared.types.TwoArguments.{TwoArguments}
use Rattle.rules_data.specs.declared.types.TwoArguments.TheVariants as two
use Rattle.rules_data.specs.types.Kind.{Kind, nodes}
use Rattle.rules_data.specs.types.Kind as k
use Rattle.rules_data.specs.types.Attributes.{comparable, passable, big_value}
use Rattle.rules_data.specs.types.Reading.{Reading, Former, simple_type, operation_type, one_argument, two_arguments, pair_type, no_type, former_of_name, asked_of_argument, of_argument, asked_of_first, asked_of_second, of_arguments, Read, good, bad, Part, part, with_part, on_good, paired, applied, typed, parts, type_at, limited, a_type, bad_type, too_large}
use Rattle.mich_types.specs.declared.scan.Summary.{Summary}
use Rattle.mich_types.specs.Scanned as s
use Rattle.mich_types.specs.Built.{built, built_all, made, pair_of}

abbrev summary : Kind → Summary
summary a = s.summary_of (min (nodes a) 2001) (comparable a) (passable a) (big_value a)

abbrev seen : Read → Result Summary ℕ
seen (good a) = Ok (summary a)
seen (bad l) = Err l

abbrev seen_part : Part → s.Part
seen_part (part at r) = s.part at (seen r)

cut_one : (n : ℕ) → min (min n 2001 + 0 + 1) 2001 ≡ min (n + 1) 2001
cut_one n = omega arith

cut_two : (m n : ℕ) → min (min m 2001 + min n 2001 + 1) 2001 ≡ min (m + n + 1) 2001
cut_two m n = omega arith

cut_three : (m n l : ℕ) → min (min (m + n + 1) 2001 + l + 1) 2001 ≡ min (m + min (n + l + 1) 2001 + 1) 2001
cut_three m n l = omega arith

summary_argument : (f : OneArgument) (a : Kind) → s.of_argument f (summary a) ≡ summary (of_argument f a)
summary_argument one.Option a = ap (λ n. s.summary_of n (comparable a) (passable a) (big_value a)) (cut_one (nodes a))
summary_argument one.List a = ap (λ n. s.summary_of n false (passable a) (big_value a)) (cut_one (nodes a))
summary_argument one.Set a = ap (λ n. s.summary_of n false (passable a) (big_value a)) (cut_one (nodes a))
summary_argument one.Contract a = ap (λ n. s.summary_of n false true false) (cut_one (nodes a))
summary_argument one.Ticket a = ap (λ n. s.summary_of n false true true) (cut_one (nodes a))

summary_pair : (a b : Kind) → s.of_pair (summary a) (summary b) ≡ summary (k.pair a b)
summary_pair a b = ap (λ n. s.summary_of n (comparable a && comparable b) (passable a && passable b) (big_value a && big_value b)) (cut_two (nodes a) (nodes b))

summary_arguments : (f : TwoArguments) (a b : Kind) → s.of_arguments f (summary a) (summary b) ≡ summary (of_arguments f a b)
summary_arguments two.Or a b = summary_pair a b
summary_arguments two.Map a b = ap (λ n. s.summary_of n false (passable a && passable b) (big_value a && big_value b)) (cut_two (nodes a) (nodes b))
summary_arguments two.BigMap a b = ap (λ n. s.summary_of n false (passable a && passable b) false) (cut_two (nodes a) (nodes b))
summary_arguments two.Lambda a b = ap (λ n. s.summary_of n false true true) (cut_two (nodes a) (nodes b))

asked_argument : (f : OneArgument) (a : Kind) → s.asked_of_argument f (summary a) ≡ asked_of_argument f a
asked_argument one.Option a = refl
asked_argument one.List a = refl
asked_argument one.Set a = refl
asked_argument one.Contract a = refl
asked_argument one.Ticket a = refl

asked_first : (f : TwoArguments) (a : Kind) → s.asked_of_first f (summary a) ≡ asked_of_first f a
asked_first two.Or a = refl
asked_first two.Map a = refl
asked_first two.BigMap a = refl
asked_first two.Lambda a = refl

asked_second : (f : TwoArguments) (a : Kind) → s.asked_of_second f (summary a) ≡ asked_of_second f a
asked_second two.Or a = refl
asked_second two.Map a = refl
asked_second two.BigMap a = refl
asked_second two.Lambda a = refl

asked_same : (b c : Bool) (r : Result Summary ℕ) (q : Read) (l : ℕ) → b ≡ c → r ≡ seen q → cond b r (Err l) ≡ seen (cond c q (bad l))
asked_same true true r q l e h = h
asked_same true false r q l e h = absurd cc
asked_same false true r q l e h = absurd cc
asked_same false false r q l e h = refl

with_part_seen : (asked : Kind → Bool) (tested : Summary → Bool) (q : Part) (next : Kind → Read) (after : Summary → Result Summary ℕ) →
    ((a : Kind) → tested (summary a) ≡ asked a) → ((a : Kind) → after (summary a) ≡ seen (next a)) →
    s.with_part tested (seen_part q) after ≡ seen (with_part asked q next)
with_part_seen asked tested (part at (good a)) next after e h = asked_same (tested (summary a)) (asked a) (after (summary a)) (next a) at (e a) (h a)
with_part_seen asked tested (part at (bad l)) next after e h = refl

and_assoc : (a b c : Bool) → (a && b) && c ≡ a && (b && c)
and_assoc true b c = refl
and_assoc false b c = refl

same_summary : (n n' : ℕ) (c c' p p' b b' : Bool) → n ≡ n' → c ≡ c' → p ≡ p' → b ≡ b' → s.summary_of n c p b ≡ s.summary_of n' c' p' b'
same_summary n n' c c' p p' b b' e f g h = ap (λ x. s.summary_of x c p b) e ∙ ap (λ x. s.summary_of n' x p b) f ∙ ap (λ x. s.summary_of n' c' x b) g ∙ ap (λ x. s.summary_of n' c' p' x) h

pair_assoc : (t u v : Summary) → s.of_pair (s.of_pair t u) v ≡ s.of_pair t (s.of_pair u v)
pair_assoc t u v = same_summary _ _ _ _ _ _ _ _ (cut_three t.nodes u.nodes v.nodes) (and_assoc t.comparable u.comparable v.comparable) (and_assoc t.passable u.passable v.passable) (and_assoc t.big_value u.big_value v.big_value)

joined_assoc : (t u : Summary) (r : Result Summary ℕ) → s.joined (s.of_pair t u) r ≡ s.joined t (s.joined u r)
joined_assoc t u (Ok v) = ap Ok (pair_assoc t u v)
joined_assoc t u (Err l) = refl

chained_joined : (qs : List s.Part) (t : Summary) (r : Result Summary ℕ) → s.chained (s.joined t r) qs ≡ s.joined t (s.chained r qs)
chained_joined qs t (Err l) = refl
chained_joined [] t (Ok u) = refl
chained_joined (s.part at r ∷ qs) t (Ok u) = ap (λ x. s.chained x qs) (joined_assoc t u r) ∙ chained_joined qs t (s.joined u r)

joined_seen : (a : Kind) (r : Read) → s.joined (summary a) (seen r) ≡ seen (on_good (k.pair a) r)
joined_seen a (good b) = ap Ok (summary_pair a b)
joined_seen a (bad l) = refl

chained_seen : (at : ℕ) (r : Read) (qs : List Part) → s.chained (seen r) (map seen_part qs) ≡ seen (paired (part at r) qs)
chained_seen at (bad l) [] = refl
chained_seen at (bad l) (q ∷ qs) = refl
chained_seen at (good a) [] = refl
chained_seen at (good a) (part l r ∷ qs) =
    chained_joined (map seen_part qs) (summary a) (seen r)
    ∙ ap (s.joined (summary a)) (chained_seen l r qs)
    ∙ joined_seen a (paired (part l r) qs)

over_seen : (f : Former) (at : ℕ) (qs : List Part) → s.over f at (map seen_part qs) ≡ seen (applied f at qs)
over_seen (simple_type v) at [] = refl
over_seen (simple_type v) at (q ∷ qs) = refl
over_seen operation_type at [] = refl
over_seen operation_type at (q ∷ qs) = refl
over_seen (one_argument f) at [] = refl
over_seen (one_argument f) at (q ∷ []) =
    with_part_seen (asked_of_argument f) (s.asked_of_argument f) q (λ a. good (of_argument f a)) (λ t. Ok (s.of_argument f t))
    (asked_argument f) (λ a. ap Ok (summary_argument f a))
over_seen (one_argument f) at (q ∷ r ∷ rs) = refl
over_seen (two_arguments f) at [] = refl
over_seen (two_arguments f) at (q ∷ []) = refl
over_seen (two_arguments f) at (q ∷ r ∷ []) =
    with_part_seen (asked_of_first f) (s.asked_of_first f) q
    (λ a. with_part (asked_of_second f) r (λ b. good (of_arguments f a b)))
    (λ t. s.with_part (s.asked_of_second f) (seen_part r) (λ u. Ok (s.of_arguments f t u)))
    (asked_first f)
    (λ a. with_part_seen (asked_of_second f) (s.asked_of_second f) r (λ b. good (of_arguments f a b)) (λ u. Ok (s.of_arguments f (summary a) u))
    (asked_second f) (λ b. ap Ok (summary_arguments f a b)))
over_seen (two_arguments f) at (q ∷ r ∷ t ∷ ts) = refl
over_seen pair_type at [] = refl
over_seen pair_type at (q ∷ []) = refl
over_seen pair_type at (part l v ∷ r ∷ rs) = chained_seen l v (r ∷ rs)
over_seen no_type at qs = refl

mutual
  -- the walk finds what the reading has
  pub scanned_seen : (at : ℕ) (t : Tree) → s.scanned at t ≡ seen (typed at t)
  scanned_seen at (int n) = refl
  scanned_seen at (str v) = refl
  scanned_seen at (bytes b) = refl
  scanned_seen at (seq ts) = refl
  scanned_seen at (prim name annots args) =
      ap (s.over (former_of_name name) at) (scans_seen (at + 1) args) ∙ over_seen (former_of_name name) at (parts (at + 1) args)

  scans_seen : (at : ℕ) (ts : Trees) → s.scans at ts ≡ map seen_part (parts at ts)
  scans_seen at none = refl
  scans_seen at (more t ts) =
      ap (λ r. s.part at r ∷ s.scans (at + size t) ts) (scanned_seen at t)
      ∙ ap (λ qs. s.part at (seen (typed at t)) ∷ qs) (scans_seen (at + size t) ts)

-- each argument that is read well is made as it is read
abbrev Made : List Part → List Kind → Type 0
Made [] [] = Unit {0}
Made [] (b ∷ bs) = ⊥
Made (part l r ∷ qs) [] = ⊥
Made (part l r ∷ qs) (b ∷ bs) = ((a : Kind) → r ≡ good a → b ≡ a) × Made qs bs

asked_good : (b : Bool) (r : Read) (l : ℕ) (c : Kind) → cond b r (bad l) ≡ good c → r ≡ good c
asked_good true r l c e = e
asked_good false r l c e = absurd cc

good_same : (a b : Kind) → good a ≡ good b → a ≡ b
good_same a b e = cc

on_pair_good : (a : Kind) (r : Read) (c : Kind) → on_good (k.pair a) r ≡ good c → (d : Kind) × (r ≡ good d) × (k.pair a d ≡ c)
on_pair_good a (good d) c e = (d, refl, good_same (k.pair a d) c e)
on_pair_good a (bad l) c e = absurd cc

part_good : (asked : Kind → Bool) (l : ℕ) (r : Read) (next : Kind → Read) (c : Kind) → with_part asked (part l r) next ≡ good c →
    (a : Kind) × (r ≡ good a) × (next a ≡ good c)
part_good asked l (good a) next c e = (a, refl, asked_good (asked a) (next a) l c e)
part_good asked l (bad m) next c e = absurd cc

paired_made : (l : ℕ) (r : Read) (qs : List Part) (b : Kind) (bs : List Kind) (c : Kind) → Made (part l r ∷ qs) (b ∷ bs) →
    paired (part l r) qs ≡ good c → pair_of (b ∷ bs) ≡ c
paired_made l (bad m) [] b bs c h e = absurd cc
paired_made l (bad m) (q ∷ qs) b bs c h e = absurd cc
paired_made l (good a) [] b [] c h e = h.0 a refl ∙ good_same a c e
paired_made l (good a) [] b (d ∷ ds) c h e = absurd h.1
paired_made l (good a) (part m r ∷ qs) b [] c h e = absurd h.1
paired_made l (good a) (part m r ∷ qs) b (d ∷ ds) c h e =
    let f = on_pair_good a (paired (part m r) qs) c e in
    ap (λ x. k.pair x (pair_of (d ∷ ds))) (h.0 a refl) ∙ ap (k.pair a) (paired_made m r qs d ds f.0 h.1 f.1) ∙ f.2

applied_made : (f : Former) (at : ℕ) (qs : List Part) (bs : List Kind) (c : Kind) → Made qs bs → applied f at qs ≡ good c → made f bs ≡ c
applied_made (simple_type v) at [] bs c h e = good_same (k.simple v) c e
applied_made (simple_type v) at (q ∷ qs) bs c h e = absurd cc
applied_made operation_type at [] bs c h e = good_same k.operation c e
applied_made operation_type at (q ∷ qs) bs c h e = absurd cc
applied_made (one_argument f) at [] bs c h e = absurd cc
applied_made (one_argument f) at (part l r ∷ []) [] c h e = absurd h
applied_made (one_argument f) at (part l r ∷ []) (b ∷ []) c h e =
    let g = part_good (asked_of_argument f) l r (λ a. good (of_argument f a)) c e in
    ap (of_argument f) (h.0 g.0 g.1) ∙ good_same (of_argument f g.0) c g.2
applied_made (one_argument f) at (part l r ∷ []) (b ∷ d ∷ ds) c h e = absurd h.1
applied_made (one_argument f) at (q ∷ r ∷ rs) bs c h e = absurd cc
applied_made (two_arguments f) at [] bs c h e = absurd cc
applied_made (two_arguments f) at (q ∷ []) bs c h e = absurd cc
applied_made (two_arguments f) at (part l r ∷ part m v ∷ []) [] c h e = absurd h
applied_made (two_arguments f) at (part l r ∷ part m v ∷ []) (b ∷ []) c h e = absurd h.1
applied_made (two_arguments f) at (part l r ∷ part m v ∷ []) (b ∷ d ∷ []) c h e =
    let g = part_good (asked_of_first f) l r (λ a. with_part (asked_of_second f) (part m v) (λ x. good (of_arguments f a x))) c e in
    let i = part_good (asked_of_second f) m v (λ x. good (of_arguments f g.0 x)) c g.2 in
    ap (λ x. of_arguments f x d) (h.0 g.0 g.1) ∙ ap (of_arguments f g.0) (h.1.0 i.0 i.1) ∙ good_same (of_arguments f g.0 i.0) c i.2
applied_made (two_arguments f) at (part l r ∷ part m v ∷ []) (b ∷ d ∷ x ∷ xs) c h e = absurd h.1.1
applied_made (two_arguments f) at (q ∷ r ∷ t ∷ ts) bs c h e = absurd cc
applied_made pair_type at [] bs c h e = absurd cc
applied_made pair_type at (q ∷ []) bs c h e = absurd cc
applied_made pair_type at (part l r ∷ q ∷ qs) [] c h e = absurd h
applied_made pair_type at (part l r ∷ q ∷ qs) (b ∷ bs) c h e = paired_made l r (q ∷ qs) b bs c h e
applied_made no_type at qs bs c h e = absurd cc

mutual
  -- what is read well is made so
  pub built_is : (at : ℕ) (t : Tree) (a : Kind) → typed at t ≡ good a → built t ≡ a
  built_is at (int n) a e = absurd cc
  built_is at (str v) a e = absurd cc
  built_is at (bytes b) a e = absurd cc
  built_is at (seq ts) a e = absurd cc
  built_is at (prim name annots args) a e =
      applied_made (former_of_name name) at (parts (at + 1) args) (built_all args) a (all_made (at + 1) args) e

  all_made : (at : ℕ) (ts : Trees) → Made (parts at ts) (built_all ts)
  all_made at none = tt
  all_made at (more t ts) = (λ a e. built_is at t a e, all_made (at + size t) ts)

same_fault : (l m : ℕ) → seen (bad l) ≡ Err m → l ≡ m
same_fault l m e = cc

same_found : (a : Kind) (u : Summary) → seen (good a) ≡ Ok u → summary a ≡ u
same_found a u e = cc

seen_bad : (r : Read) (l : ℕ) → seen r ≡ Err l → limited r ≡ bad_type l
seen_bad (good a) l e = absurd cc
seen_bad (bad m) l e = ap bad_type (same_fault m l e)

above_limit : (n : ℕ) (x y : Reading) → 2000 < n → cond (nat_le n type_limit) x y ≡ y
above_limit n x y h = grind (arith, nat_tests)

within_limit : (n : ℕ) (x y : Reading) → n ≤ 2000 → cond (nat_le n type_limit) x y ≡ x
within_limit n x y h = grind (arith, nat_tests)

seen_large : (r : Read) (u : Summary) → seen r ≡ Ok u → 2000 < u.nodes → limited r ≡ too_large
seen_large (good a) u e h =
    let n : min (nodes a) 2001 ≡ u.nodes = ap (λ (x : Summary). x.nodes) (same_found a u e) in
    above_limit (nodes a) (a_type a) too_large (omega arith)
seen_large (bad l) u e h = absurd cc

seen_small : (r : Read) (u : Summary) (b : Kind) → ((a : Kind) → r ≡ good a → b ≡ a) → seen r ≡ Ok u → u.nodes ≤ 2000 → limited r ≡ a_type b
seen_small (good a) u b made e h =
    let n : min (nodes a) 2001 ≡ u.nodes = ap (λ (x : Summary). x.nodes) (same_found a u e) in
    within_limit (nodes a) (a_type a) too_large (omega arith) ∙ ap a_type (sym (made a refl))
seen_small (bad l) u b made e h = absurd cc

pub fault_is : (at : ℕ) (t : Tree) (l : ℕ) → s.scanned at t ≡ Err l → type_at at t ≡ bad_type l
fault_is at t l e = seen_bad (typed at t) l (sym (scanned_seen at t) ∙ e)

pub large_is : (at : ℕ) (t : Tree) (u : Summary) → s.scanned at t ≡ Ok u → 2000 < u.nodes → type_at at t ≡ too_large
large_is at t u e h = seen_large (typed at t) u (sym (scanned_seen at t) ∙ e) h

pub type_is : (at : ℕ) (t : Tree) (u : Summary) → s.scanned at t ≡ Ok u → u.nodes ≤ 2000 → type_at at t ≡ a_type (built t)
type_is at t u e h = seen_small (typed at t) u (built t) (built_is at t) (sym (scanned_seen at t) ∙ e) h

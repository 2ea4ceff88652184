-- Pieces that are handed over one after another.
use Rattle.std.proofs.Common.{◌≡◌, ◌==◌, true, ℕ, List, [], ◌∷◌, ◌++◌, Some, None, take, refl, sym, ap, ◌∙◌, subst, append_assoc, append-nil, drop, length, arith}
use Rattle.std.proofs.Math.Seq.{drop-length, take-length}
use Rattle.std.proofs.lemmas.Bool.{eqb-true}
use Rattle.std.specs.declared.option.Option.{Option}
use Rattle.std.proofs.lemmas.Grind.{flat_map-append}
use Rattle.rules_text.specs.streams.Known.{AppendsFront}
use Rattle.mich_io.specs.Handed.{Hands, Leaves, AreHanded, HandsAll, HandsFront, pieces_text}

-- ---- what is known

pub hands_nothing : (a : Option (List (List ℕ))) → Hands a a []
hands_nothing None = tt
hands_nothing (Some xs) = sym (append-nil xs)

pub hands_then : (a b c : Option (List (List ℕ))) (xs ys : List (List ℕ)) → Hands a b xs → Hands b c ys → Hands a c (xs ++ ys)
hands_then None b c xs ys p q = tt
hands_then (Some old) None c xs ys p q = absurd p
hands_then (Some old) (Some mid) None xs ys p q = absurd q
hands_then (Some old) (Some mid) (Some new) xs ys p q = q ∙ ap (λ l. l ++ ys) p ∙ append_assoc old xs ys

-- ---- one piece

-- what is left is handed over, and so much of it is taken
pub leaves_more : (whole : List ℕ) (ps : List (List ℕ)) (left : List ℕ) (taken : ℕ) → Leaves whole ps left → Leaves whole (ps ++ left ∷ []) (drop taken left)
leaves_more whole [] left taken h = (h, (taken, ap (drop taken) h))
leaves_more whole (p ∷ ps) left taken (e, (n, h)) = (e, (n, leaves_more (drop n whole) ps left taken h))

pub one_handed : (whole : List ℕ) (ps : List (List ℕ)) → Leaves whole ps [] → AreHanded (whole ∷ []) ps
one_handed whole ps h = (ps, [], sym (append-nil ps), h, refl)

-- in one write
once : (whole : List ℕ) → Leaves whole (whole ∷ []) []
once whole = (refl, (length whole, sym (drop-length whole)))

pub each_once : (xs : List (List ℕ)) → AreHanded xs xs
each_once [] = refl
each_once (x ∷ xs) = (x ∷ [], xs, refl, once x, each_once xs)

-- ---- pieces one after another

pub handed_then : (xs ys ps qs : List (List ℕ)) → AreHanded xs ps → AreHanded ys qs → AreHanded (xs ++ ys) (ps ++ qs)
handed_then [] ys ps qs e q = subst (λ (l : List (List ℕ)). AreHanded ys (l ++ qs)) (sym e) q
handed_then (x ∷ xs) ys ps qs (first, rest, e, l, p) q =
    (first, rest ++ qs, ap (λ l. l ++ qs) e ∙ append_assoc first rest qs, l, handed_then xs ys rest qs p q)

pub all_nothing : (a : Option (List (List ℕ))) → HandsAll a a []
all_nothing a = ([], hands_nothing a, refl)

pub all_then : (a b c : Option (List (List ℕ))) (xs ys : List (List ℕ)) → HandsAll a b xs → HandsAll b c ys → HandsAll a c (xs ++ ys)
all_then a b c xs ys (ps, h, p) (qs, k, q) = (ps ++ qs, hands_then a b c ps qs h k, handed_then xs ys ps qs p q)

pub front_nothing : (a : Option (List (List ℕ))) (xs : List (List ℕ)) → HandsFront a a xs
front_nothing a xs = ([], xs, hands_nothing a, each_once xs)

pub all_front : (a b : Option (List (List ℕ))) (xs : List (List ℕ)) → HandsAll a b xs → HandsFront a b xs
all_front a b xs (ps, h, p) = (ps, [], h, subst (AreHanded xs) (sym (append-nil ps)) p)

pub front_then : (a b c : Option (List (List ℕ))) (xs ys : List (List ℕ)) → HandsAll a b xs → HandsFront b c ys → HandsFront a c (xs ++ ys)
front_then a b c xs ys (ps, h, p) (qs, more, k, q) =
    (ps ++ qs, more, hands_then a b c ps qs h k, subst (AreHanded (xs ++ ys)) (sym (append_assoc ps qs more)) (handed_then xs ys ps (qs ++ more) p q))

pub front_longer : (a b : Option (List (List ℕ))) (xs ys : List (List ℕ)) → HandsFront a b xs → HandsFront a b (xs ++ ys)
front_longer a b xs ys (ps, more, h, p) =
    (ps, more ++ ys, h, subst (AreHanded (xs ++ ys)) (append_assoc ps more ys) (handed_then xs ys (ps ++ more) ys p (each_once ys)))

-- ---- a piece that is handed over until all of it is taken, or so far

pub all_of_it : (a b : Option (List (List ℕ))) (whole : List ℕ) (ps : List (List ℕ)) → Hands a b ps → Leaves whole ps [] → HandsAll a b (whole ∷ [])
all_of_it a b whole ps h l = (ps, h, one_handed whole ps l)

pub none_left : (l : List ℕ) → true ≡ (length l == 0) → l ≡ []
none_left [] e = refl
none_left (x ∷ xs) e = let zero : length (x ∷ xs) ≡ 0 = eqb-true (length (x ∷ xs)) 0 (sym e) in absurd (omega (arith, zero))

pub all_where_none_is_left : (a b : Option (List (List ℕ))) (whole left : List ℕ) (ps : List (List ℕ)) → left ≡ [] → Hands a b ps → Leaves whole ps left → HandsAll a b (whole ∷ [])
all_where_none_is_left a b whole left ps e h l = all_of_it a b whole ps h (subst (Leaves whole ps) e l)

pub front_of_it : (a b c : Option (List (List ℕ))) (whole left : List ℕ) (ps : List (List ℕ)) → Hands a b ps → Leaves whole ps left → Hands b c [] → HandsFront a c (whole ∷ [])
front_of_it a b c whole left ps h l k = (
  ps,
  left ∷ [],
  subst (Hands a c) (append-nil ps) (hands_then a b c ps [] h k),
  one_handed whole (ps ++ left ∷ []) (subst (Leaves whole (ps ++ left ∷ [])) (drop-length left) (leaves_more whole ps left (length left) l)),
)

-- ---- pieces that are held

pub text_grows : (old new : List (List ℕ)) (piece : List ℕ) → new ≡ old ++ piece ∷ [] → pieces_text new ≡ pieces_text old ++ take (length piece) piece
text_grows old new piece e =
    ap pieces_text e ∙ flat_map-append (λ (p : List ℕ). p) old (piece ∷ []) ∙ ap (λ l. pieces_text old ++ l) (append-nil piece ∙ sym (take-length piece))

pub text_stays : (old new : List (List ℕ)) (piece : List ℕ) → new ≡ old → AppendsFront (Some (pieces_text old)) (Some (pieces_text new)) piece
text_stays old new piece e = ([], piece, refl, ap pieces_text e ∙ sym (append-nil (pieces_text old)))

pub text_kept : (old new : List (List ℕ)) → new ≡ old → pieces_text new ≡ pieces_text old
text_kept old new e = ap pieces_text e

pub none_handed : (old new : List (List ℕ)) → new ≡ old → Hands (Some old) (Some new) []
none_handed old new e = e ∙ sym (append-nil old)

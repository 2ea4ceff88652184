-- The 20 bytes of contracts, in a set.
use Rattle.std.proofs.Common.{◌≡◌, ℕ, Bool, true, false, ◌||◌, List, [], ◌∷◌, ◌++◌, length, refl, ap, sym, ◌∙◌, arith}
use Rattle.std.specs.BTreeMap.{is_at}
use Rattle.std.specs.BTreeSet.{insert_key}
use Rattle.std.specs.Cmp.Lexicographic.{slice_cmp}
use Rattle.std.specs.List.{list_any}
use Rattle.std.specs.Ordering.{nat_cmp, match_ordering}
use Rattle.std.specs.declared.cmp.Ordering.{Ordering}
use Rattle.std.specs.declared.cmp.Ordering.TheVariants as order
use Rattle.std.specs.Str.{bytes_eq}
use Rattle.std.proofs.lemmas.Map.Lookups.{exact_bytes}
use Rattle.std.proofs.lemmas.Map.Text.{is_eq-slice_cmp}
use Rattle.std.proofs.lemmas.Slice.Eq.{bytes_eq-Decides}
use Rattle.rules_code.specs.evaluation.Surroundings.{Contract}
use Rattle.std.proofs.lemmas.List.{length-append}
use Rattle.rules_data.specs.forms.Spelling.{contract_place, implicit_place}
use Rattle.rules_files.specs.snapshots.Spelt.{IsIssuer}
use Rattle.laws_files.proofs.snapshots_lemmas.Values.{hash_is}
use Rattle.mich_snapshot.specs.Holders.{AreHashes, is_issued}

flip : (xs ys : List ℕ) → bytes_eq xs ys ≡ bytes_eq ys xs
flip xs ys = by (bytes_eq xs ys) (bytes_eq ys xs) refl refl
  where
    by : (a b : Bool) → bytes_eq xs ys ≡ a → bytes_eq ys xs ≡ b → a ≡ b
    by true true e f = refl
    by false false e f = refl
    by true false e f = sym ((bytes_eq-Decides ys xs).1 (sym ((bytes_eq-Decides xs ys).0 e))) ∙ f
    by false true e f = sym e ∙ (bytes_eq-Decides xs ys).1 (sym ((bytes_eq-Decides ys xs).0 f))

abbrev by_bytes : List ℕ → List ℕ → Ordering
by_bytes = slice_cmp nat_cmp

once : (a r : Bool) → a || r ≡ a || (a || r)
once true r = refl
once false r = refl

later : (a b r : Bool) → b || (a || r) ≡ a || (b || r)
later true true r = refl
later true false r = refl
later false true r = refl
later false false r = refl

any_inserted : (q : List ℕ) (ks : List (List ℕ)) (k : List ℕ) → list_any (is_at (slice_cmp nat_cmp q)) (insert_key by_bytes ks k) ≡ bytes_eq k q || list_any (is_at (slice_cmp nat_cmp q)) ks
any_inserted q [] k = ap (λ b. b || false) (is_eq-slice_cmp q k ∙ flip q k)
any_inserted q (x ∷ xs) k = by (by_bytes k x) refl (any_inserted q xs k)
  where
    same : is_at (slice_cmp nat_cmp q) k ≡ bytes_eq k q
    same = is_eq-slice_cmp q k ∙ flip q k

    by : (o : Ordering) → by_bytes k x ≡ o → list_any (is_at (slice_cmp nat_cmp q)) (insert_key by_bytes xs k) ≡ bytes_eq k q || list_any (is_at (slice_cmp nat_cmp q)) xs →
        list_any (is_at (slice_cmp nat_cmp q)) (match_ordering o (k ∷ x ∷ xs) (x ∷ xs) (x ∷ insert_key by_bytes xs k))
        ≡ bytes_eq k q || (is_at (slice_cmp nat_cmp q) x || list_any (is_at (slice_cmp nat_cmp q)) xs)
    by order.Less e h = ap (λ b. b || (is_at (slice_cmp nat_cmp q) x || list_any (is_at (slice_cmp nat_cmp q)) xs)) same
    by order.Equal e h =
        let there : is_at (slice_cmp nat_cmp q) x ≡ bytes_eq k q = ap (is_at (slice_cmp nat_cmp q)) (sym (exact_bytes k x e)) ∙ same in
        ap (λ b. b || list_any (is_at (slice_cmp nat_cmp q)) xs) there ∙ once (bytes_eq k q) (list_any (is_at (slice_cmp nat_cmp q)) xs)
        ∙ ap (λ b. bytes_eq k q || (b || list_any (is_at (slice_cmp nat_cmp q)) xs)) (sym there)
    by order.Greater e h =
        ap (λ b. is_at (slice_cmp nat_cmp q) x || b) h ∙ later (bytes_eq k q) (is_at (slice_cmp nat_cmp q) x) (list_any (is_at (slice_cmp nat_cmp q)) xs)

any_push : (q : List ℕ) (cs : List (List ℕ × Contract)) (c : List ℕ × Contract) → list_any (λ (d : List ℕ × Contract). bytes_eq d.0 q) (cs ++ c ∷ []) ≡ bytes_eq c.0 q || list_any (λ (d : List ℕ × Contract). bytes_eq d.0 q) cs
any_push q [] c = refl
any_push q (d ∷ ds) c = ap (λ b. bytes_eq d.0 q || b) (any_push q ds c) ∙ later (bytes_eq c.0 q) (bytes_eq d.0 q) (list_any (λ (d : List ℕ × Contract). bytes_eq d.0 q) ds)

pub hashes_go : (cs : List (List ℕ × Contract)) (c : List ℕ × Contract) (ks ls : List (List ℕ)) → AreHashes cs ks → ls ≡ insert_key by_bytes ks c.0 → AreHashes (cs ++ c ∷ []) ls
hashes_go cs c ks ls h e q =
    ap (list_any (is_at (slice_cmp nat_cmp q))) e ∙ any_inserted q ks c.0 ∙ ap (λ b. bytes_eq c.0 q || b) (h q) ∙ sym (any_push q cs c)

-- a contract issued it, if one is of its 20 bytes
pub issued : (cs : List (List ℕ × Contract)) (keys : List (List ℕ)) (hash : List ℕ) → AreHashes cs keys → IsIssuer (contract_place hash)
    → list_any (is_at (slice_cmp nat_cmp hash)) keys ≡ is_issued cs (contract_place hash)
issued cs keys hash are h =
    let len : length hash ≡ 20 = omega (arith, ap length h.2, length-append hash (0 ∷ []), length-append h.0 (0 ∷ []), h.1) in
    are hash ∙ ap (λ (q : List ℕ). list_any (λ (c : List ℕ × Contract). bytes_eq c.0 q) cs) (sym (hash_is hash len))

pub not_issuer : (who : List ℕ) → IsIssuer (implicit_place who) → ⊥
not_issuer who h = let wrong : 0 ∷ who ≡ 1 ∷ h.0 ++ 0 ∷ [] = h.2 in absurd cc

-- A reader of types, from their texts.
use Rattle.std.proofs.Common.{◌≡◌, ℕ, zero, suc, List, [], ◌∷◌, ◌++◌, Bool, true, false, ◌||◌, ◌==◌, Some, None, refl, ap, codes}
use Rattle.std.specs.Prelude.{if◌then◌else◌}
use Rattle.std.specs.declared.option.Option.{Option}
use Rattle.std.specs.Str.{bytes_eq}
use Rattle.rules_data.specs.declared.types.Simple.TheVariants as s
use Rattle.rules_data.specs.types.Kind.{Kind}
use Rattle.rules_data.specs.types.Kind as k

-- ---- words

abbrev ends_at : ℕ → Bool
ends_at c = c == 32 || c == 41

abbrev pub Ends : List ℕ → Type 0
Ends [] = Unit {0}
Ends (c ∷ r) = ends_at c ≡ true

abbrev put : ℕ → List ℕ × List ℕ → List ℕ × List ℕ
put c w = (c ∷ w.0, w.1)

abbrev pub word : List ℕ → List ℕ × List ℕ
word [] = ([], [])
word (c ∷ cs) = if ends_at c then ([], c ∷ cs) else put c (word cs)

abbrev is_plain : List ℕ → Bool
is_plain [] = true
is_plain (c ∷ cs) = if ends_at c then false else is_plain cs

abbrev pub IsPlain : List ℕ → Type 0
IsPlain n = is_plain n ≡ true

pub word_is : (n r : List ℕ) → IsPlain n → Ends r → word (n ++ r) ≡ (n, r)
word_is [] [] p e = refl
word_is [] (c ∷ r) p e = rw e refl
word_is (c ∷ n) r p e = by (ends_at c) p (λ h. word_is n r h e)
  where
    by : (b : Bool) → (if b then false else is_plain n) ≡ true → (is_plain n ≡ true → word (n ++ r) ≡ (n, r)) →
        (if b then ([], c ∷ (n ++ r)) else put c (word (n ++ r))) ≡ (c ∷ n, r)
    by true h later = absurd cc
    by false h later = ap (put c) (later h)

-- ---- names

pub data Head : Type 0 where
  atom : Kind → Head
  one : (Kind → Kind) → Head
  two : (Kind → Kind → Kind) → Head
  other : Head

abbrev or_else : Bool → Head → Head → Head
or_else true h later = h
or_else false h later = later

abbrev pub head_of : List ℕ → Head
head_of w =
    or_else (bytes_eq w (codes "unit")) (atom (k.simple s.Unit))
    (or_else (bytes_eq w (codes "never")) (atom (k.simple s.Never))
    (or_else (bytes_eq w (codes "bool")) (atom (k.simple s.Bool))
    (or_else (bytes_eq w (codes "int")) (atom (k.simple s.Int))
    (or_else (bytes_eq w (codes "nat")) (atom (k.simple s.Nat))
    (or_else (bytes_eq w (codes "string")) (atom (k.simple s.String))
    (or_else (bytes_eq w (codes "bytes")) (atom (k.simple s.Bytes))
    (or_else (bytes_eq w (codes "mutez")) (atom (k.simple s.Mutez))
    (or_else (bytes_eq w (codes "timestamp")) (atom (k.simple s.Timestamp))
    (or_else (bytes_eq w (codes "key")) (atom (k.simple s.Key))
    (or_else (bytes_eq w (codes "key_hash")) (atom (k.simple s.KeyHash))
    (or_else (bytes_eq w (codes "signature")) (atom (k.simple s.Signature))
    (or_else (bytes_eq w (codes "chain_id")) (atom (k.simple s.ChainId))
    (or_else (bytes_eq w (codes "address")) (atom (k.simple s.Address))
    (or_else (bytes_eq w (codes "operation")) (atom k.operation)
    (or_else (bytes_eq w (codes "option")) (one k.option)
    (or_else (bytes_eq w (codes "list")) (one k.list)
    (or_else (bytes_eq w (codes "set")) (one k.set)
    (or_else (bytes_eq w (codes "contract")) (one k.contract)
    (or_else (bytes_eq w (codes "ticket")) (one k.ticket)
    (or_else (bytes_eq w (codes "or")) (two k.or)
    (or_else (bytes_eq w (codes "pair")) (two k.pair)
    (or_else (bytes_eq w (codes "map")) (two k.map)
    (or_else (bytes_eq w (codes "big_map")) (two k.big_map)
    (or_else (bytes_eq w (codes "lambda")) (two k.lambda) other))))))))))))))))))))))))

-- ---- reading back

abbrev pub Told : Type 0
Told = Option (Kind × List ℕ)

abbrev behind_space : List ℕ → (List ℕ → Told) → Told
behind_space [] next = None
behind_space (c ∷ cs) next = if c == 32 then next cs else None

abbrev pub then_told : Told → (Kind → List ℕ → Told) → Told
then_told None next = None
then_told (Some x) next = next x.0 x.1

abbrev pub closed : Kind → List ℕ → Told
closed a [] = None
closed a (c ∷ cs) = if c == 41 then Some (a, cs) else None

abbrev pub whole_by : Head → List ℕ → (List ℕ → Told) → Told
whole_by (atom a) rest item = Some (a, rest)
whole_by (one f) rest item = behind_space rest (λ cs. then_told (item cs) (λ a rest. Some (f a, rest)))
whole_by (two f) rest item = behind_space rest (λ cs. then_told (item cs)
    (λ a rest. behind_space rest (λ cs. then_told (item cs) (λ b rest. Some (f a b, rest)))))
whole_by other rest item = None

abbrev mutual
  pub whole : ℕ → List ℕ → Told
  whole zero text = None
  whole (suc n) text = whole_by (head_of (word text).0) (word text).1 (λ cs. item n cs)

  pub item : ℕ → List ℕ → Told
  item zero text = None
  item (suc n) [] = None
  item (suc n) (c ∷ cs) = if c == 40 then then_told (whole n cs) closed else whole_by (head_of (word (c ∷ cs)).0)
      (word (c ∷ cs)).1 (λ cs. None)

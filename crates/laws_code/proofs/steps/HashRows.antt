-- Packing and hashes, and what surrounds a run.
use Rattle.std.proofs.Common.{◌≡◌, ℕ, ◌^◌, ◌≤◌, ◌<◌, nat_le, Bool, true, false, ◌&&◌, List, [], ◌∷◌, length, Option, Some, None, refl, sym, ap, ◌∙◌, subst, arith, pos}
use Rattle.std.specs.Prelude.{◌≤ℤ◌, ◌==◌, is_none, if◌then◌else◌, Result, Ok, Err}
use Rattle.std.specs.List.{list_all}
use Rattle.std.proofs.lemmas.Int.{ints}
use Rattle.std.proofs.lemmas.Bool.{and_parts, and_from, leb-true}
use Rattle.std.proofs.lemmas.Bool.Decides.{nat_tests}
use Rattle.sha2.specs.Sha256.{sha256}
use Rattle.sha2.specs.Sha512.{sha512}
use Rattle.sha2.proofs.Facts256.{length-sha256}
use Rattle.sha2.proofs.Facts512.{length-sha512}
use Rattle.rules_text.specs.nodes.Limits.{byte_limit}
use Rattle.rules_text.specs.nodes.Tree.{Tree, size}
use Rattle.rules_text.specs.binary.Reading.{Fault, decoded}
use Rattle.rules_text.specs.hash.Blake2b.{blake}
use Rattle.rules_data.specs.declared.types.Simple.TheVariants as s
use Rattle.rules_data.specs.types.Kind.{Kind}
use Rattle.rules_data.specs.types.Kind as k
use Rattle.rules_data.specs.types.Attributes.{packable, pushable}
use Rattle.rules_code.specs.instructions.Types as ty
use Rattle.rules_code.specs.instructions.Context as place
use Rattle.rules_code.specs.instructions.Control.{call_kinds}
use Rattle.rules_code.specs.instructions.Change.{makes, where_true}
use Rattle.rules_code.specs.instructions.OtherChanges.{hash_change}
use Rattle.rules_code.specs.instructions.Straight.{HashRow}
use Rattle.rules_code.specs.instructions.Straight as i
use Rattle.rules_data.specs.values.Val.{Val}
use Rattle.rules_data.specs.values.Val as v
use Rattle.rules_data.specs.values.Literals.{Pending, body, claim, Literal, good, bad, read, bodies, claims, is_short}
use Rattle.rules_code.specs.steps.Changes.{amount_in}
use Rattle.rules_code.specs.steps.Packing.{packed, tried, of_decoded, unpacked, key_hash, hash_step}
use Rattle.rules_code.specs.steps.Step.{Step, kept, optional}
use Rattle.rules_code.specs.typing.Typing.{Typing, goes, fails, bad, shift}
use Rattle.rules_code.specs.typing.Bodies.{body_fault, first_fault}
use Rattle.rules_code.specs.instructions.Same.{same_kinds}
use Rattle.rules_code.specs.evaluation.Operations.{Issued}
use Rattle.rules_data.specs.forms.Spelling.{key_length, is_key_hash, is_key}
use Rattle.rules_data.specs.declared.types.Simple.{Simple}
use Rattle.rules_code.specs.typing.Nodes.{tree_type}
use Rattle.rules_code.specs.typing.Literals.{fault_of_bodies, lambda_fault}
use Rattle.rules_code.specs.typing.Fits.{Known, Fits, AllFit}
use Rattle.rules_code.specs.evaluation.Surroundings.{Surroundings}
use Rattle.rules_code.specs.evaluation.Contracts.{is_contract_of}
use Rattle.rules_code.specs.evaluation.Trying.{trial}
use Rattle.laws_typing.specs.literals.Laws.{AllClaimed}
use Rattle.laws_typing.proofs.literals_lemmas.ForCallers.{fit}
use Rattle.laws_code.specs.evaluation.Laws.{known}
use Rattle.laws_code.proofs.stacks.ForCallers.{positive, no_amount, pushable_duplicable}
use Rattle.laws_code.proofs.steps.Steps.{RowStep, StepFits, on_bytes}
use Rattle.laws_code.proofs.steps.Arithmetic.{gives}
use Rattle.laws_code.proofs.steps.TextRows.{short_from, sized_bytes, bytes_below}
use Rattle.laws_code.proofs.steps.Lengths.{blake_32, blake_20}

-- ---- UNPACK

-- bytes of a size that bytes may have spell no node of 2^32 nodes
abbrev pub DecodedAreSmall : Type 0
DecodedAreSmall = (b : List ℕ) (t : Tree) → decoded b ≡ Ok t → size t ≤ length b

only_true : (b : Bool) (m l : ℕ) → (if b then None else Some m) ≡ None → (if b then None else Some l) ≡ None
only_true true m l h = refl
only_true false m l h = absurd cc

fault_shift : (l : ℕ) (t : Typing) (r : Kind) → body_fault 0 t r ≡ None → body_fault l (shift l t) r ≡ None
fault_shift l (goes B) r h = only_true (same_kinds B (r ∷ [])) 0 l h
fault_shift l fails r h = refl
fault_shift l (bad m) r h = absurd cc

none_is : (o : Option ℕ) → is_none o ≡ true → o ≡ None
none_is None h = refl
none_is (Some l) h = absurd cc

no_faults : (e : Surroundings) (ps : List Pending) → list_all (trial e) (bodies ps) ≡ true → fault_of_bodies ps ≡ None
no_faults e [] h = refl
no_faults e (body l a r b t ∷ ps) h =
    let hs : (is_none (lambda_fault a r b t) ≡ true) × (list_all (trial e) (bodies ps) ≡ true) = and_parts
    (is_none (lambda_fault a r b t)) (list_all (trial e) (bodies ps)) h in
    ap (λ o. first_fault o (fault_of_bodies ps)) (fault_shift l (tree_type t place.lambda (call_kinds a r b)) r
    (none_is (lambda_fault a r b t) hs.0)) ∙ no_faults e ps hs.1
no_faults e (claim l b a ∷ ps) h = no_faults e ps h

all_claimed : (e : Surroundings) (is : List Issued) (ps : List Pending) → list_all (trial e) (claims ps) ≡ true →
    AllClaimed (known e.contract_at is) ps
all_claimed e is [] h = tt
all_claimed e is (body l a r b t ∷ ps) h = all_claimed e is ps h
all_claimed e is (claim l b a ∷ ps) h =
    let hs : (is_contract_of e.contract_at a b ≡ true) × (list_all (trial e) (claims ps) ≡ true) = and_parts
    (is_contract_of e.contract_at a b) (list_all (trial e) (claims ps)) h in
    (hs.0, all_claimed e is ps hs.1)

-- an optional value that fits and has no tickets
abbrev Plain : Known → Kind → Option Val → Type 0
Plain w a None = Unit {0}
Plain w a (Some x) = Fits w a x

module _ (small : DecodedAreSmall) (e : Surroundings) (is : List Issued) (a : Kind) where
  tried_fits : (t : Tree) (r : Literal Val) → read a 0 t ≡ r → size t < 2 ^ 32 →
      Plain (known e.contract_at is) a (tried (trial e) r)
  tried_fits t (good x ps) q l = by_test (list_all (trial e) (bodies ps) && list_all (trial e) (claims ps)) refl
    where
      by_test : (b : Bool) → (list_all (trial e) (bodies ps) && list_all (trial e) (claims ps)) ≡ b →
          Plain (known e.contract_at is) a (if b then Some x else None)
      by_test true h =
          let hs : (list_all (trial e) (bodies ps) ≡ true) × (list_all (trial e) (claims ps) ≡ true) = and_parts
          (list_all (trial e) (bodies ps)) (list_all (trial e) (claims ps)) h in
          fit (known e.contract_at is) a 0 t x ps q (no_faults e ps hs.0) (all_claimed e is ps hs.1) l
      by_test false h = tt
  tried_fits t (bad l) q le = tt

  decoded_fits : (b : List ℕ) (r : Result Tree Fault) → decoded b ≡ r → length b ≤ byte_limit →
      Plain (known e.contract_at is) a (of_decoded (trial e) a r)
  decoded_fits b (Ok t) q l = let s : size t ≤ length b = small b t q in tried_fits t (read a 0 t) refl (omega arith)
  decoded_fits b (Err f) q l = tt

  unpacked_fits : (b : List ℕ) → is_short b ≡ true → Plain (known e.contract_at is) a (unpacked (trial e) a b)
  unpacked_fits [] h = tt
  unpacked_fits (c ∷ b) h = by_test (c == 5)
    where
      by_test : (q : Bool) → Plain (known e.contract_at is) a (if q then of_decoded (trial e) a (decoded b) else None)
      by_test true = let l : length (c ∷ b) ≤ byte_limit = leb-true (length (c ∷ b)) byte_limit h in
          decoded_fits b (decoded b) refl (omega arith)
      by_test false = tt

-- ---- hashes

key_hashes : (b : List ℕ) → is_key b ≡ true → is_key_hash (key_hash b) ≡ true
key_hashes [] h = absurd cc
key_hashes (tag ∷ key) h =
    let hs : (nat_le tag 2 ≡ true) × ((length key == key_length tag) ≡ true) = and_parts (nat_le tag 2)
    (length key == key_length tag) h in
    let l : length (blake 20 key) ≡ 20 = blake_20 key in
    and_from (nat_le tag 3) (length (blake 20 key) == 20) (let t : nat_le tag 2 ≡ true = hs.0 in grind (arith, nat_tests))
    (grind (arith, nat_tests))

-- the type of UNPACK is pushable
abbrev pub HashCarries : HashRow → Type 0
HashCarries (i.unpack a) = pushable a ≡ true
HashCarries r = Unit {0}

module _ (small : DecodedAreSmall) (e : Surroundings) (is : List Issued) where
  abbrev w : Known
  w = known e.contract_at is

  hashed : (u : Simple) (made : List ℕ → List ℕ) (n : ℕ) (go : List Val → Step) → ((b : List ℕ) → length (made b) ≡ n) →
      n ≤ byte_limit → ((b : List ℕ) (W : List Val) → go (v.bytes b ∷ W) ≡ kept (v.bytes (made b) ∷ W)) →
      (A : List Kind) (V : List Val) → AllFit w (ty.bytes ∷ A) V → RowStep w V (ty.bytes ∷ A) (go V)
  hashed u made n go l le same A V h =
      on_bytes w (λ V. RowStep w V (ty.bytes ∷ A) (go V)) s.Bytes A V tt h
      (λ b W hb hw. subst (λ st. RowStep w (v.bytes b ∷ W) (ty.bytes ∷ A) st) (sym (same b W))
      (let q : length (made b) ≡ n = l b in gives w (v.bytes b ∷ W) W ty.bytes A (v.bytes (made b))
      (short_from (made b) (omega arith)) hw (λ id. refl) (bytes_below w b W)))

  packs : (a : Kind) (A : List Kind) (x : Val) (V : List Val) → AllFit w (a ∷ A) (x ∷ V) → (q : Bool) →
      StepFits w (x ∷ V) (where_true q (makes ty.bytes A)) (hash_step (trial e) i.pack (x ∷ V))
  packs a A x V h true = sized_bytes w (packed x) (x ∷ V) V A h.1
      (λ id. let p : pos 0 ≤ℤ amount_in id x = positive id w a x h.0 in omega (arith, ints))
  packs a A x V h false = tt

  unpacks : (a : Kind) (A : List Kind) (b : List ℕ) (W : List Val) (o : Option Val) → pushable a ≡ true → Plain w a o →
      AllFit w A W → RowStep w (v.bytes b ∷ W) (k.option a ∷ A) (kept (optional o ∷ W))
  unpacks a A b W None p f h = gives w (v.bytes b ∷ W) W (k.option a) A v.nothing tt h (λ id. refl) (bytes_below w b W)
  unpacks a A b W (Some x) p f h = gives w (v.bytes b ∷ W) W (k.option a) A (v.some x) f h
      (λ id. no_amount id w a x (pushable_duplicable a p) f) (bytes_below w b W)

  pub hash_keeps : (r : HashRow) (A : List Kind) (V : List Val) → HashCarries r → AllFit w A V →
      StepFits w V (hash_change r A) (hash_step (trial e) r V)
  hash_keeps i.pack (a ∷ A) (x ∷ V) p h = packs a A x V h (packable a)
  hash_keeps i.pack (a ∷ A) [] p h = absurd h
  hash_keeps i.pack [] V p h = tt
  hash_keeps (i.unpack a) (ty.bytes ∷ A) V p h =
      on_bytes w (λ V. RowStep w V (k.option a ∷ A) (hash_step (trial e) (i.unpack a) V)) s.Bytes A V tt h
      (λ b W hb hw. unpacks a A b W (unpacked (trial e) a b) p (unpacked_fits small e is a b hb) hw)
  hash_keeps i.blake2b (ty.bytes ∷ A) V p h = hashed s.Bytes (blake 32) 32 (hash_step (trial e) i.blake2b) blake_32
      (omega arith) (λ b W. refl) A V h
  hash_keeps i.sha256 (ty.bytes ∷ A) V p h = hashed s.Bytes sha256 32 (hash_step (trial e) i.sha256) length-sha256
      (omega arith) (λ b W. refl) A V h
  hash_keeps i.sha512 (ty.bytes ∷ A) V p h = hashed s.Bytes sha512 64 (hash_step (trial e) i.sha512) length-sha512
      (omega arith) (λ b W. refl) A V h
  hash_keeps i.hash_key (ty.key ∷ A) V p h =
      on_bytes w (λ V. RowStep w V (ty.key_hash ∷ A) (hash_step (trial e) i.hash_key V)) s.Key A V tt h
      (λ b W hb hw. gives w (v.bytes b ∷ W) W ty.key_hash A (v.bytes (key_hash b)) (key_hashes b hb) hw (λ id. refl)
      (bytes_below w b W))
  hash_keeps _ _ V p h = tt

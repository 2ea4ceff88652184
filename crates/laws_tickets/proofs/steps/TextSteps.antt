-- Steps on strings and bytes, packing and hashes, and what surrounds a run: their values hold no tickets.
use Rattle.std.proofs.Common.{◌≡◌, ℕ, Bool, true, false, ◌&&◌, List, [], ◌∷◌, ◌++◌, Option, Some, None, refl, ap, length}
use Rattle.std.specs.Prelude.{pos, nat_eq, nat_le, if◌then◌else◌, option_map, Result, Ok, Err}
use Rattle.std.specs.List.{flat_map, list_all}
use Rattle.sha2.specs.Sha256.{sha256}
use Rattle.sha2.specs.Sha512.{sha512}
use Rattle.rules_text.specs.nodes.Limits.{byte_limit}
use Rattle.rules_text.specs.nodes.Tree.{Tree}
use Rattle.rules_text.specs.binary.Reading.{Fault, decoded}
use Rattle.rules_text.specs.hash.Blake2b.{blake}
use Rattle.rules_data.specs.types.Kind.{Kind}
use Rattle.rules_data.specs.types.Kind as k
use Rattle.rules_data.specs.types.Attributes.{pushable, packable}
use Rattle.rules_data.specs.values.Val.{Val}
use Rattle.rules_data.specs.values.Val as v
use Rattle.rules_data.specs.values.Tickets.{tickets}
use Rattle.rules_data.specs.values.Literals.{Literal, good, bad, read, bodies, claims}
use Rattle.rules_code.specs.instructions.Types as t
use Rattle.rules_code.specs.instructions.Straight.{TextRow, HashRow, EnvironmentRow, on_hashes}
use Rattle.rules_code.specs.instructions.Straight as i
use Rattle.rules_code.specs.instructions.Change.{makes}
use Rattle.rules_code.specs.instructions.OtherChanges.{text_change, hash_change, environment_kind}
use Rattle.rules_code.specs.steps.Failure as failure
use Rattle.rules_code.specs.steps.Environment.{Environment}
use Rattle.rules_code.specs.steps.Step.{fails, kept, optional}
use Rattle.rules_code.specs.steps.Texts.{joined, within_size, slice, text_step}
use Rattle.rules_code.specs.steps.Packing.{Trial, packed, tried, of_decoded, unpacked, key_hash, hash_step}
use Rattle.rules_code.specs.steps.Reading.{reading, environment_step}
use Rattle.laws_data.specs.types.Laws.{IsWellFormed}
use Rattle.laws_tickets.specs.totals.Agreement.{Agrees, AllAgree}
use Rattle.laws_tickets.proofs.totals.ForCallers.{nothing_in, nothing_packed, nothing_pushed, IsFine, AllRead, read_agrees, KeepsStep, KeepsChange, keeps_same, change_where, one_for}
use Rattle.laws_data.proofs.amounts.ForCallers.{OptionHas}

-- bytes within the limit in place of others
size_keeps : (a : Kind) (B : List Kind) (V : List Val) (made : List ℕ → Val) (b : List ℕ) (W : List Val) → Agrees a (made b) →
    tickets (made b) ≡ [] → AllAgree B W → flat_map tickets V ≡ flat_map tickets W →
    KeepsStep (a ∷ B) V (within_size made b W)
size_keeps a B V made b W g e h f = by_test (nat_le (length b) byte_limit)
  where
    by_test : (c : Bool) → KeepsStep (a ∷ B) V (if c then kept (made b ∷ W) else fails failure.size_limit)
    by_test true = one_for a B V (made b) W g e h f
    by_test false = tt

-- an optional value without tickets in place of others
option_keeps : (a : Kind) (B : List Kind) (V : List Val) (o : Option Val) (W : List Val) →
    OptionHas (λ x. Agrees a x × (tickets x ≡ [])) o → AllAgree B W → flat_map tickets V ≡ flat_map tickets W →
    KeepsStep (k.option a ∷ B) V (kept (optional o ∷ W))
option_keeps a B V None W g h f = keeps_same (k.option a ∷ B) V (v.nothing ∷ W) (tt, h) f
option_keeps a B V (Some x) W g h f = one_for (k.option a) B V (v.some x) W g.0 g.1 h f

mapped_text : (o : Option (List ℕ)) → OptionHas (λ x. Agrees t.string x × (tickets x ≡ [])) (option_map v.text o)
mapped_text None = tt
mapped_text (Some b) = (refl, refl)

mapped_bytes : (o : Option (List ℕ)) → OptionHas (λ x. Agrees t.bytes x × (tickets x ≡ [])) (option_map v.bytes o)
mapped_bytes None = tt
mapped_bytes (Some b) = (refl, refl)

pub text_keeps : (r : TextRow) (A : List Kind) (V : List Val) → AllAgree A V → KeepsChange (text_change r A) V (text_step r V)
text_keeps i.concat_strings (t.string ∷ t.string ∷ A) (v.text b ∷ v.text c ∷ V) h =
    size_keeps t.string A (v.text b ∷ v.text c ∷ V) v.text (b ++ c) V refl refl h.1.1 refl
text_keeps i.concat_bytes (t.bytes ∷ t.bytes ∷ A) (v.bytes b ∷ v.bytes c ∷ V) h =
    size_keeps t.bytes A (v.bytes b ∷ v.bytes c ∷ V) v.bytes (b ++ c) V refl refl h.1.1 refl
text_keeps i.concat_string_list (k.list t.string ∷ A) (v.list xs ∷ V) h =
    size_keeps t.string A (v.list xs ∷ V) v.text (joined xs) V refl refl h.1
    (ap (λ ts. ts ++ flat_map tickets V) (nothing_in (k.list t.string) (v.list xs) refl h.0))
text_keeps i.concat_bytes_list (k.list t.bytes ∷ A) (v.list xs ∷ V) h =
    size_keeps t.bytes A (v.list xs ∷ V) v.bytes (joined xs) V refl refl h.1
    (ap (λ ts. ts ++ flat_map tickets V) (nothing_in (k.list t.bytes) (v.list xs) refl h.0))
text_keeps i.slice_string (t.nat ∷ t.nat ∷ t.string ∷ A) (v.number (pos m) ∷ v.number (pos n) ∷ v.text b ∷ V) h =
    option_keeps t.string A (v.number (pos m) ∷ v.number (pos n) ∷ v.text b ∷ V) (option_map v.text (slice m n b)) V
    (mapped_text (slice m n b)) h.1.1.1 refl
text_keeps i.slice_bytes (t.nat ∷ t.nat ∷ t.bytes ∷ A) (v.number (pos m) ∷ v.number (pos n) ∷ v.bytes b ∷ V) h =
    option_keeps t.bytes A (v.number (pos m) ∷ v.number (pos n) ∷ v.bytes b ∷ V) (option_map v.bytes (slice m n b)) V
    (mapped_bytes (slice m n b)) h.1.1.1 refl
text_keeps i.size_string (t.string ∷ A) (v.text b ∷ V) h =
    keeps_same (t.nat ∷ A) (v.text b ∷ V) (v.number (pos (length b)) ∷ V) (refl, h.1) refl
text_keeps i.size_bytes (t.bytes ∷ A) (v.bytes b ∷ V) h =
    keeps_same (t.nat ∷ A) (v.bytes b ∷ V) (v.number (pos (length b)) ∷ V) (refl, h.1) refl
text_keeps _ _ _ h = tt

-- ---- packing and hashes

tried_agrees : (passes : Trial) (a : Kind) (x : Literal Val) → AllRead (Agrees a) x → OptionHas (Agrees a) (tried passes x)
tried_agrees passes a (good x ps) h = by_test (list_all passes (bodies ps) && list_all passes (claims ps))
  where
    by_test : (b : Bool) → OptionHas (Agrees a) (if b then Some x else None)
    by_test true = h
    by_test false = tt
tried_agrees passes a (bad l) h = tt

decoded_agrees : (passes : Trial) (a : Kind) → IsWellFormed a → (r : Result Tree Fault) →
    OptionHas (Agrees a) (of_decoded passes a r)
decoded_agrees passes a w (Ok t) = tried_agrees passes a (read a 0 t) (read_agrees a w 0 t)
decoded_agrees passes a w (Err e) = tt

unpacked_agrees : (passes : Trial) (a : Kind) (b : List ℕ) → IsWellFormed a → OptionHas (Agrees a) (unpacked passes a b)
unpacked_agrees passes a [] w = tt
unpacked_agrees passes a (c ∷ b) w = by_test (nat_eq c 5)
  where
    by_test : (e : Bool) → OptionHas (Agrees a) (if e then of_decoded passes a (decoded b) else None)
    by_test true = decoded_agrees passes a w (decoded b)
    by_test false = tt

without_tickets : (a : Kind) (o : Option Val) → pushable a ≡ true → OptionHas (Agrees a) o →
    OptionHas (λ x. Agrees a x × (tickets x ≡ [])) o
without_tickets a None p h = tt
without_tickets a (Some x) p h = (h, nothing_pushed a x p h)

-- bytes in place of bytes
bytes_for : (a : Kind) (A : List Kind) (b c : List ℕ) (V : List Val) → Agrees a (v.bytes c) → AllAgree A V →
    KeepsStep (a ∷ A) (v.bytes b ∷ V) (kept (v.bytes c ∷ V))
bytes_for a A b c V g h = keeps_same (a ∷ A) (v.bytes b ∷ V) (v.bytes c ∷ V) (g, h) refl

pub hash_keeps : (passes : Trial) (r : HashRow) (A : List Kind) (V : List Val) → IsFine (on_hashes r) → AllAgree A V →
    KeepsChange (hash_change r A) V (hash_step passes r V)
hash_keeps passes i.pack (a ∷ A) (x ∷ V) w h =
    change_where (packable a) (makes t.bytes A) (x ∷ V) (hash_step passes i.pack (x ∷ V)) (λ e.
    size_keeps t.bytes A (x ∷ V) v.bytes (packed x) V refl refl h.1
    (ap (λ ts. ts ++ flat_map tickets V) (nothing_packed a x e h.0)))
hash_keeps passes i.pack (a ∷ A) [] w h = absurd h
hash_keeps passes (i.unpack a) (t.bytes ∷ A) (v.bytes b ∷ V) w h =
    option_keeps a A (v.bytes b ∷ V) (unpacked passes a b) V
    (without_tickets a (unpacked passes a b) w.0 (unpacked_agrees passes a b w.1)) h.1 refl
hash_keeps passes i.blake2b (t.bytes ∷ A) (v.bytes b ∷ V) w h = bytes_for t.bytes A b (blake 32 b) V refl h.1
hash_keeps passes i.sha256 (t.bytes ∷ A) (v.bytes b ∷ V) w h = bytes_for t.bytes A b (sha256 b) V refl h.1
hash_keeps passes i.sha512 (t.bytes ∷ A) (v.bytes b ∷ V) w h = bytes_for t.bytes A b (sha512 b) V refl h.1
hash_keeps passes i.hash_key (t.key ∷ A) (v.bytes b ∷ V) w h = bytes_for t.key_hash A b (key_hash b) V refl h.1
hash_keeps passes _ _ _ w h = tt

-- ---- what surrounds a run

environment_agrees : (e : Environment) (r : EnvironmentRow) → Agrees (environment_kind r) (reading e r)
environment_agrees e i.amount = refl
environment_agrees e i.balance = refl
environment_agrees e i.sender = refl
environment_agrees e i.source = refl
environment_agrees e i.self_address = refl
environment_agrees e i.now = refl
environment_agrees e i.level = refl
environment_agrees e i.chain_id = refl

environment_none : (e : Environment) (r : EnvironmentRow) → tickets (reading e r) ≡ []
environment_none e i.amount = refl
environment_none e i.balance = refl
environment_none e i.sender = refl
environment_none e i.source = refl
environment_none e i.self_address = refl
environment_none e i.now = refl
environment_none e i.level = refl
environment_none e i.chain_id = refl

pub environment_keeps : (e : Environment) (r : EnvironmentRow) (A : List Kind) (V : List Val) → AllAgree A V →
    KeepsChange (makes (environment_kind r) A) V (environment_step e r V)
environment_keeps e r A V h =
    one_for (environment_kind r) A V (reading e r) V (environment_agrees e r) (environment_none e r) h refl

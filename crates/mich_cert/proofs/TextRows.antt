-- The lines on texts, packing and hashes, and on what surrounds a run, are the rules of the instructions.
use Rattle.std.proofs.Common.{◌≡◌, Bool, true, false, Some, None, List, [], ◌∷◌, refl, ◌∙◌}
use Rattle.rules_text.specs.declared.nodes.Primitive.TheVariants as p
use Rattle.rules_data.specs.types.Kind.{Kind}
use Rattle.rules_data.specs.types.Kind as k
use Rattle.rules_data.specs.types.Attributes.{packable}
use Rattle.rules_code.specs.instructions.Types as t
use Rattle.mich_cert.specs.Words.{nothing}
use Rattle.mich_cert.specs.Table as table
use Rattle.mich_cert.specs.declared.words.Word.TheVariants as w
use Rattle.mich_cert.specs.Leading.{leads, bare}
use Rattle.mich_cert.proofs.Tests.{or_rest}
use Rattle.mich_cert.proofs.Spelling.{nil, put, spelled, names_address, names_bytes, names_chain_id, names_key_hash, names_mutez, names_nat, names_option, names_string, names_timestamp}

pub concat_rules : (A B : List Kind) → table.texts p.OpConcat A B ≡ leads (bare p.OpConcat A) B
concat_rules (t.string ∷ t.string ∷ A) B = or_rest _ _ refl ∙ or_rest _ _ refl ∙ or_rest _ _ refl ∙ spelled (w.String ∷ []) nothing A (t.string ∷ A) (put names_string nil) B
concat_rules (t.bytes ∷ t.bytes ∷ A) B = or_rest _ _ refl ∙ or_rest _ _ refl ∙ spelled (w.Bytes ∷ []) nothing A (t.bytes ∷ A) (put names_bytes nil) B
concat_rules (k.list t.string ∷ A) B = or_rest _ _ refl ∙ spelled (w.String ∷ []) nothing A (t.string ∷ A) (put names_string nil) B
concat_rules (k.list t.bytes ∷ A) B = spelled (w.Bytes ∷ []) nothing A (t.bytes ∷ A) (put names_bytes nil) B
concat_rules (t.string ∷ []) B = refl
concat_rules (t.bytes ∷ []) B = refl
concat_rules A B = refl

pub slice_rules : (A B : List Kind) → table.texts p.OpSlice A B ≡ leads (bare p.OpSlice A) B
slice_rules (t.nat ∷ t.nat ∷ t.string ∷ A) B = or_rest _ _ refl ∙ spelled (w.Option ∷ w.String ∷ []) nothing A ((k.option t.string) ∷ A) (put (names_option names_string) nil) B
slice_rules (t.nat ∷ t.nat ∷ t.bytes ∷ A) B = spelled (w.Option ∷ w.Bytes ∷ []) nothing A ((k.option t.bytes) ∷ A) (put (names_option names_bytes) nil) B
slice_rules (a ∷ []) B = refl
slice_rules (a ∷ b ∷ []) B = refl
slice_rules (a ∷ b ∷ t.string ∷ A) B = refl
slice_rules (a ∷ b ∷ t.bytes ∷ A) B = refl
slice_rules A B = refl

pack_fits : (a : Kind) (A B : List Kind) → (q : Bool) → (packable a) ≡ q → table.texts p.OpPack (a ∷ A) B ≡ leads (bare p.OpPack (a ∷ A)) B
pack_fits a A B true e = rw e (spelled (w.Bytes ∷ []) (record { a = Some a; b = None; c = None }) A (t.bytes ∷ A) (put names_bytes nil) B)
pack_fits a A B false e = rw e refl

pub pack_rules : (A B : List Kind) → table.texts p.OpPack A B ≡ leads (bare p.OpPack A) B
pack_rules (a ∷ A) B = pack_fits a A B (packable a) refl
pack_rules A B = refl

pub blake2b_rules : (A B : List Kind) → table.texts p.OpBlake2b A B ≡ leads (bare p.OpBlake2b A) B
blake2b_rules (t.bytes ∷ A) B = spelled (w.Bytes ∷ []) nothing A (t.bytes ∷ A) (put names_bytes nil) B
blake2b_rules A B = refl

pub sha256_rules : (A B : List Kind) → table.texts p.OpSha256 A B ≡ leads (bare p.OpSha256 A) B
sha256_rules (t.bytes ∷ A) B = spelled (w.Bytes ∷ []) nothing A (t.bytes ∷ A) (put names_bytes nil) B
sha256_rules A B = refl

pub sha512_rules : (A B : List Kind) → table.texts p.OpSha512 A B ≡ leads (bare p.OpSha512 A) B
sha512_rules (t.bytes ∷ A) B = spelled (w.Bytes ∷ []) nothing A (t.bytes ∷ A) (put names_bytes nil) B
sha512_rules A B = refl

pub hash_key_rules : (A B : List Kind) → table.texts p.OpHashKey A B ≡ leads (bare p.OpHashKey A) B
hash_key_rules (t.key ∷ A) B = spelled (w.KeyHash ∷ []) nothing A (t.key_hash ∷ A) (put names_key_hash nil) B
hash_key_rules A B = refl

pub amount_rules : (A B : List Kind) → table.surroundings p.OpAmount A B ≡ leads (bare p.OpAmount A) B
amount_rules A B = spelled (w.Mutez ∷ []) nothing A (t.mutez ∷ A) (put names_mutez nil) B

pub balance_rules : (A B : List Kind) → table.surroundings p.OpBalance A B ≡ leads (bare p.OpBalance A) B
balance_rules A B = spelled (w.Mutez ∷ []) nothing A (t.mutez ∷ A) (put names_mutez nil) B

pub sender_rules : (A B : List Kind) → table.surroundings p.OpSender A B ≡ leads (bare p.OpSender A) B
sender_rules A B = spelled (w.Address ∷ []) nothing A (t.address ∷ A) (put names_address nil) B

pub source_rules : (A B : List Kind) → table.surroundings p.OpSource A B ≡ leads (bare p.OpSource A) B
source_rules A B = spelled (w.Address ∷ []) nothing A (t.address ∷ A) (put names_address nil) B

pub self_address_rules : (A B : List Kind) → table.surroundings p.OpSelfAddress A B ≡ leads (bare p.OpSelfAddress A) B
self_address_rules A B = spelled (w.Address ∷ []) nothing A (t.address ∷ A) (put names_address nil) B

pub now_rules : (A B : List Kind) → table.surroundings p.OpNow A B ≡ leads (bare p.OpNow A) B
now_rules A B = spelled (w.Timestamp ∷ []) nothing A (t.timestamp ∷ A) (put names_timestamp nil) B

pub level_rules : (A B : List Kind) → table.surroundings p.OpLevel A B ≡ leads (bare p.OpLevel A) B
level_rules A B = spelled (w.Nat ∷ []) nothing A (t.nat ∷ A) (put names_nat nil) B

pub chain_id_rules : (A B : List Kind) → table.surroundings p.OpChainId A B ≡ leads (bare p.OpChainId A) B
chain_id_rules A B = spelled (w.ChainId ∷ []) nothing A (t.chain_id ∷ A) (put names_chain_id nil) B

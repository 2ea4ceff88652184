-- The lines of instructions that types are written in are the rules of the instructions.
use Rattle.std.proofs.Common.{◌≡◌, ℕ, Bool, true, false, Some, None, List, [], ◌∷◌, refl, sym, ap, ◌∙◌}
use Rattle.rules_text.specs.declared.nodes.Primitive.TheVariants as p
use Rattle.rules_data.specs.types.Kind.{Kind}
use Rattle.rules_data.specs.types.Kind as k
use Rattle.rules_data.specs.types.Attributes.{pushable}
use Rattle.rules_code.specs.instructions.Types as t
use Rattle.rules_code.specs.instructions.Same.{same_kind, same_kinds}
use Rattle.laws_data.proofs.types_lemmas.ForCallers.{same_kind_refl}
use Rattle.std.specs.Prelude.{option_map}
use Rattle.rules_code.specs.instructions.Change.{after, makes, where_true}
use Rattle.rules_code.specs.instructions.Effect.{effect}
use Rattle.rules_code.specs.instructions.Arguments.{found}
use Rattle.rules_code.specs.instructions.Instructions.{overloaded}
use Rattle.rules_code.specs.instructions.Overloads as o
use Rattle.rules_code.specs.instructions.Straight.{on_stack, on_unions, on_collections, on_hashes, on_operations}
use Rattle.rules_code.specs.instructions.Straight as i
use Rattle.mich_cert.specs.Table as table
use Rattle.mich_cert.specs.declared.words.Word.TheVariants as w
use Rattle.mich_cert.specs.Leading.{leads, after_of}
use Rattle.mich_cert.proofs.CountedRows.{and_false}
use Rattle.mich_cert.proofs.SameTypes.{same_kind_symm}
use Rattle.mich_cert.proofs.Spelling.{nil, put, spelled, names_a, names_b, names_big_map, names_contract, names_lambda, names_list, names_map, names_operation, names_option, names_or, names_set}

cast_fits : (x a : Kind) (A B : List Kind) (q : Bool) → same_kind x a ≡ q → table.written p.OpCast (record { a = Some x; b = None; c = None }) (a ∷ A) B ≡ leads (effect (on_stack (i.cast x)) (a ∷ A)) B
cast_fits x a A B true e = rw (e, same_kind_symm a x ∙ e) (spelled (w.A ∷ []) (record { a = Some a; b = None; c = None }) A (a ∷ A) (put names_a nil) B)
cast_fits x a A B false e = rw (e, same_kind_symm a x ∙ e) refl

pub cast_rules : (x : Kind) (A B : List Kind) → table.written p.OpCast (record { a = Some x; b = None; c = None }) A B ≡ leads (effect (on_stack (i.cast x)) A) B
cast_rules x (a ∷ A) B = cast_fits x a A B (same_kind x a) refl
cast_rules x [] B = refl

pub left_rules : (x : Kind) (A B : List Kind) → table.written p.OpLeft (record { a = Some x; b = None; c = None }) A B ≡ leads (effect (on_unions (i.left x)) A) B
left_rules x (a ∷ A) B = spelled (w.Or ∷ w.B ∷ w.A ∷ []) (record { a = Some x; b = Some a; c = None }) A ((k.or a x) ∷ A) (put (names_or names_b names_a) nil) B
left_rules x A B = refl

pub right_rules : (x : Kind) (A B : List Kind) → table.written p.OpRight (record { a = Some x; b = None; c = None }) A B ≡ leads (effect (on_unions (i.right x)) A) B
right_rules x (a ∷ A) B = spelled (w.Or ∷ w.A ∷ w.B ∷ []) (record { a = Some x; b = Some a; c = None }) A ((k.or x a) ∷ A) (put (names_or names_a names_b) nil) B
right_rules x A B = refl

pub none_rules : (x : Kind) (A B : List Kind) → table.written p.OpNone (record { a = Some x; b = None; c = None }) A B ≡ leads (effect (on_unions (i.none x)) A) B
none_rules x A B = spelled (w.Option ∷ w.A ∷ []) (record { a = Some x; b = None; c = None }) A ((k.option x) ∷ A) (put (names_option names_a) nil) B

pub nil_rules : (x : Kind) (A B : List Kind) → table.written p.OpNil (record { a = Some x; b = None; c = None }) A B ≡ leads (effect (on_unions (i.nil x)) A) B
nil_rules x A B = spelled (w.List ∷ w.A ∷ []) (record { a = Some x; b = None; c = None }) A ((k.list x) ∷ A) (put (names_list names_a) nil) B

pub empty_set_rules : (x : Kind) (A B : List Kind) → table.written p.OpEmptySet (record { a = Some x; b = None; c = None }) A B ≡ leads (effect (on_collections (i.empty_set x)) A) B
empty_set_rules x A B = spelled (w.Set ∷ w.A ∷ []) (record { a = Some x; b = None; c = None }) A ((k.set x) ∷ A) (put (names_set names_a) nil) B

pub empty_map_rules : (x y : Kind) (A B : List Kind) → table.written p.OpEmptyMap (record { a = Some x; b = Some y; c = None }) A B ≡ leads (effect (on_collections (i.empty_map x y)) A) B
empty_map_rules x y A B = spelled (w.Map ∷ w.A ∷ w.B ∷ []) (record { a = Some x; b = Some y; c = None }) A ((k.map x y) ∷ A) (put (names_map names_a names_b) nil) B

pub empty_big_map_rules : (x y : Kind) (A B : List Kind) → table.written p.OpEmptyBigMap (record { a = Some x; b = Some y; c = None }) A B ≡ leads (effect (on_collections (i.empty_big_map x y)) A) B
empty_big_map_rules x y A B = spelled (w.BigMap ∷ w.A ∷ w.B ∷ []) (record { a = Some x; b = Some y; c = None }) A ((k.big_map x y) ∷ A) (put (names_big_map names_a names_b) nil) B

pub unpack_rules : (x : Kind) (A B : List Kind) → table.written p.OpUnpack (record { a = Some x; b = None; c = None }) A B ≡ leads (effect (on_hashes (i.unpack x)) A) B
unpack_rules x (t.bytes ∷ A) B = spelled (w.Option ∷ w.A ∷ []) (record { a = Some x; b = None; c = None }) A ((k.option x) ∷ A) (put (names_option names_a) nil) B
unpack_rules x A B = refl

pub contract_rules : (name : List ℕ) (x : Kind) (A B : List Kind) → table.written p.OpContract (record { a = Some x; b = None; c = None }) A B ≡ leads (effect (on_operations (i.contract name x)) A) B
contract_rules name x (t.address ∷ A) B = spelled (w.Option ∷ w.Contract ∷ w.A ∷ []) (record { a = Some x; b = None; c = None }) A ((k.option (k.contract x)) ∷ A) (put (names_option (names_contract names_a)) nil) B
contract_rules name x A B = refl

emit_fits : (tag : List ℕ) (x a : Kind) (A B : List Kind) (q : Bool) → pushable a ≡ q → (r : Bool) → same_kind x a ≡ r →
    table.written p.OpEmit (record { a = Some x; b = None; c = None }) (a ∷ A) B ≡ leads (effect (on_operations (i.emit tag x)) (a ∷ A)) B
emit_fits tag x a A B true e true f = rw (e, f, same_kind_symm a x ∙ f) (spelled (w.Operation ∷ []) (record { a = Some a; b = None; c = None }) A (k.operation ∷ A) (put names_operation nil) B)
emit_fits tag x a A B true e false f = rw (e, f, same_kind_symm a x ∙ f) refl
emit_fits tag x a A B false e true f = rw e (ap (λ q. leads (option_map after (where_true q (makes k.operation A))) B) (sym (and_false (same_kind a x))))
emit_fits tag x a A B false e false f = rw e (ap (λ q. leads (option_map after (where_true q (makes k.operation A))) B) (sym (and_false (same_kind a x))))

pub emit_rules : (tag : List ℕ) (x : Kind) (A B : List Kind) → table.written p.OpEmit (record { a = Some x; b = None; c = None }) A B ≡ leads (effect (on_operations (i.emit tag x)) A) B
emit_rules tag x (a ∷ A) B = emit_fits tag x a A B (pushable a) refl (same_kind x a) refl
emit_rules tag x [] B = refl

pub view_rules : (name : List ℕ) (x : Kind) (A B : List Kind) → table.written p.OpView (record { a = Some x; b = None; c = None }) A B ≡ leads (after_of (found (overloaded (o.view name x))) A) B
view_rules name x (a ∷ t.address ∷ A) B = rw (same_kind_refl a) (spelled (w.Option ∷ w.A ∷ []) (record { a = Some x; b = Some a; c = None }) A ((k.option x) ∷ A) (put (names_option names_a) nil) B)
view_rules name x [] B = refl
view_rules name x (a ∷ []) B = refl
view_rules name x (a ∷ b ∷ A) B = refl

pub push_rules : (x : Kind) (A B : List Kind) → table.written p.OpPush (record { a = Some x; b = None; c = None }) A B ≡ same_kinds (x ∷ A) B
push_rules x A B = spelled (w.A ∷ []) (record { a = Some x; b = None; c = None }) A (x ∷ A) (put names_a nil) B

pub lambda_rules : (x y : Kind) (A B : List Kind) → table.written p.OpLambda (record { a = Some x; b = Some y; c = None }) A B ≡ same_kinds (k.lambda x y ∷ A) B
lambda_rules x y A B = spelled (w.Lambda ∷ w.A ∷ w.B ∷ []) (record { a = Some x; b = Some y; c = None }) A ((k.lambda x y) ∷ A) (put (names_lambda names_a names_b) nil) B

pub self_rules : (x : Kind) (A B : List Kind) → table.written p.OpSelf (record { a = Some x; b = None; c = None }) A B ≡ same_kinds (k.contract x ∷ A) B
self_rules x A B = spelled (w.Contract ∷ w.A ∷ []) (record { a = Some x; b = None; c = None }) A ((k.contract x) ∷ A) (put (names_contract names_a) nil) B

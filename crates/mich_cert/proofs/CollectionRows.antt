-- The lines on collections are the rules of the instructions.
use Rattle.std.proofs.Common.{◌≡◌, Bool, true, false, Some, None, List, [], ◌∷◌, refl, ◌∙◌}
use Rattle.rules_text.specs.declared.nodes.Primitive.TheVariants as p
use Rattle.rules_data.specs.types.Kind.{Kind}
use Rattle.rules_data.specs.types.Kind as k
use Rattle.rules_data.specs.types.Attributes.{duplicable}
use Rattle.rules_code.specs.instructions.Types as t
use Rattle.rules_code.specs.instructions.Same.{same_kind}
use Rattle.mich_cert.specs.Words.{nothing}
use Rattle.mich_cert.specs.Table as table
use Rattle.mich_cert.specs.declared.words.Word.TheVariants as w
use Rattle.mich_cert.specs.Leading.{leads, bare}
use Rattle.mich_cert.proofs.Tests.{or_rest}
use Rattle.mich_cert.proofs.Spelling.{nil, put, spelled, names_a, names_b, names_big_map, names_bool, names_map, names_nat, names_option, names_set}

pub size_rules : (A B : List Kind) → table.collections p.OpSize A B ≡ leads (bare p.OpSize A) B
size_rules (k.list a ∷ A) B = or_rest _ _ refl ∙ or_rest _ _ refl ∙ or_rest _ _ refl ∙ or_rest _ _ refl ∙ spelled (w.Nat ∷ []) (record { a = Some a; b = None; c = None }) A (t.nat ∷ A) (put names_nat nil) B
size_rules (k.set a ∷ A) B = or_rest _ _ refl ∙ or_rest _ _ refl ∙ or_rest _ _ refl ∙ spelled (w.Nat ∷ []) (record { a = Some a; b = None; c = None }) A (t.nat ∷ A) (put names_nat nil) B
size_rules (k.map a b ∷ A) B = or_rest _ _ refl ∙ or_rest _ _ refl ∙ spelled (w.Nat ∷ []) (record { a = Some a; b = Some b; c = None }) A (t.nat ∷ A) (put names_nat nil) B
size_rules (t.string ∷ A) B = or_rest _ _ refl ∙ spelled (w.Nat ∷ []) nothing A (t.nat ∷ A) (put names_nat nil) B
size_rules (t.bytes ∷ A) B = spelled (w.Nat ∷ []) nothing A (t.nat ∷ A) (put names_nat nil) B
size_rules A B = refl

mem_set : (a b : Kind) (A B : List Kind) → (q : Bool) → (same_kind a b) ≡ q → table.collections p.OpMem (a ∷ k.set b ∷ A) B ≡ leads (bare p.OpMem (a ∷ k.set b ∷ A)) B
mem_set a b A B true e = rw e (or_rest _ _ refl ∙ or_rest _ _ refl ∙ spelled (w.Bool ∷ []) (record { a = Some b; b = None; c = None }) A (t.bool ∷ A) (put names_bool nil) B)
mem_set a b A B false e = rw e refl

mem_map : (a b v : Kind) (A B : List Kind) → (q : Bool) → (same_kind a b) ≡ q → table.collections p.OpMem (a ∷ k.map b v ∷ A) B ≡ leads (bare p.OpMem (a ∷ k.map b v ∷ A)) B
mem_map a b v A B true e = rw e (or_rest _ _ refl ∙ spelled (w.Bool ∷ []) (record { a = Some b; b = Some v; c = None }) A (t.bool ∷ A) (put names_bool nil) B)
mem_map a b v A B false e = rw e refl

mem_big_map : (a b v : Kind) (A B : List Kind) → (q : Bool) → (same_kind a b) ≡ q → table.collections p.OpMem (a ∷ k.big_map b v ∷ A) B ≡ leads (bare p.OpMem (a ∷ k.big_map b v ∷ A)) B
mem_big_map a b v A B true e = rw e (spelled (w.Bool ∷ []) (record { a = Some b; b = Some v; c = None }) A (t.bool ∷ A) (put names_bool nil) B)
mem_big_map a b v A B false e = rw e refl

pub mem_rules : (A B : List Kind) → table.collections p.OpMem A B ≡ leads (bare p.OpMem A) B
mem_rules (a ∷ k.set b ∷ A) B = mem_set a b A B (same_kind a b) refl
mem_rules (a ∷ k.map b v ∷ A) B = mem_map a b v A B (same_kind a b) refl
mem_rules (a ∷ k.big_map b v ∷ A) B = mem_big_map a b v A B (same_kind a b) refl
mem_rules (a ∷ []) B = refl
mem_rules A B = refl

get_map : (a b v : Kind) (A B : List Kind) → (q : Bool) → (same_kind a b) ≡ q → (r : Bool) → (duplicable v) ≡ r → table.collections p.OpGet (a ∷ k.map b v ∷ A) B ≡ leads (bare p.OpGet (a ∷ k.map b v ∷ A)) B
get_map a b v A B true e true f = rw (e, f) (or_rest _ _ refl ∙ spelled (w.Option ∷ w.B ∷ []) (record { a = Some b; b = Some v; c = None }) A ((k.option v) ∷ A) (put (names_option names_b) nil) B)
get_map a b v A B true e false f = rw (e, f) refl
get_map a b v A B false e true f = rw e refl
get_map a b v A B false e false f = rw e refl

get_big_map : (a b v : Kind) (A B : List Kind) → (q : Bool) → (same_kind a b) ≡ q → (r : Bool) → (duplicable v) ≡ r → table.collections p.OpGet (a ∷ k.big_map b v ∷ A) B ≡ leads (bare p.OpGet (a ∷ k.big_map b v ∷ A)) B
get_big_map a b v A B true e true f = rw (e, f) (spelled (w.Option ∷ w.B ∷ []) (record { a = Some b; b = Some v; c = None }) A ((k.option v) ∷ A) (put (names_option names_b) nil) B)
get_big_map a b v A B true e false f = rw (e, f) refl
get_big_map a b v A B false e true f = rw e refl
get_big_map a b v A B false e false f = rw e refl

pub get_rules : (A B : List Kind) → table.collections p.OpGet A B ≡ leads (bare p.OpGet A) B
get_rules (a ∷ k.map b v ∷ A) B = get_map a b v A B (same_kind a b) refl (duplicable v) refl
get_rules (a ∷ k.big_map b v ∷ A) B = get_big_map a b v A B (same_kind a b) refl (duplicable v) refl
get_rules (a ∷ []) B = refl
get_rules A B = refl

update_set : (a b : Kind) (A B : List Kind) → (q : Bool) → (same_kind a b) ≡ q → table.collections p.OpUpdate (a ∷ t.bool ∷ k.set b ∷ A) B ≡ leads (bare p.OpUpdate (a ∷ t.bool ∷ k.set b ∷ A)) B
update_set a b A B true e = rw e (or_rest _ _ refl ∙ or_rest _ _ refl ∙ spelled (w.Set ∷ w.A ∷ []) (record { a = Some b; b = None; c = None }) A ((k.set b) ∷ A) (put (names_set names_a) nil) B)
update_set a b A B false e = rw e refl

update_map : (a x b v : Kind) (A B : List Kind) → (q : Bool) → (same_kind a b) ≡ q → (r : Bool) → (same_kind x v) ≡ r → table.collections p.OpUpdate (a ∷ k.option x ∷ k.map b v ∷ A) B ≡ leads (bare p.OpUpdate (a ∷ k.option x ∷ k.map b v ∷ A)) B
update_map a x b v A B true e true f = rw (e, f) (or_rest _ _ refl ∙ spelled (w.Map ∷ w.A ∷ w.B ∷ []) (record { a = Some b; b = Some v; c = None }) A ((k.map b v) ∷ A) (put (names_map names_a names_b) nil) B)
update_map a x b v A B true e false f = rw (e, f) refl
update_map a x b v A B false e true f = rw e refl
update_map a x b v A B false e false f = rw e refl

update_big_map : (a x b v : Kind) (A B : List Kind) → (q : Bool) → (same_kind a b) ≡ q → (r : Bool) → (same_kind x v) ≡ r → table.collections p.OpUpdate (a ∷ k.option x ∷ k.big_map b v ∷ A) B ≡ leads (bare p.OpUpdate (a ∷ k.option x ∷ k.big_map b v ∷ A)) B
update_big_map a x b v A B true e true f = rw (e, f) (spelled (w.BigMap ∷ w.A ∷ w.B ∷ []) (record { a = Some b; b = Some v; c = None }) A ((k.big_map b v) ∷ A) (put (names_big_map names_a names_b) nil) B)
update_big_map a x b v A B true e false f = rw (e, f) refl
update_big_map a x b v A B false e true f = rw e refl
update_big_map a x b v A B false e false f = rw e refl

pub update_rules : (A B : List Kind) → table.collections p.OpUpdate A B ≡ leads (bare p.OpUpdate A) B
update_rules (a ∷ t.bool ∷ k.set b ∷ A) B = update_set a b A B (same_kind a b) refl
update_rules (a ∷ k.option x ∷ k.map b v ∷ A) B = update_map a x b v A B (same_kind a b) refl (same_kind x v) refl
update_rules (a ∷ k.option x ∷ k.big_map b v ∷ A) B = update_big_map a x b v A B (same_kind a b) refl (same_kind x v) refl
update_rules (a ∷ []) B = refl
update_rules (a ∷ x ∷ []) B = refl
update_rules (a ∷ x ∷ k.set b ∷ A) B = refl
update_rules (a ∷ x ∷ k.map b v ∷ A) B = refl
update_rules (a ∷ x ∷ k.big_map b v ∷ A) B = refl
update_rules A B = refl

get_and_update_map : (a x b v : Kind) (A B : List Kind) → (q : Bool) → (same_kind a b) ≡ q → (r : Bool) → (same_kind x v) ≡ r → table.collections p.OpGetAndUpdate (a ∷ k.option x ∷ k.map b v ∷ A) B ≡ leads (bare p.OpGetAndUpdate (a ∷ k.option x ∷ k.map b v ∷ A)) B
get_and_update_map a x b v A B true e true f = rw (e, f) (or_rest _ _ refl ∙ spelled (w.Option ∷ w.B ∷ w.Map ∷ w.A ∷ w.B ∷ []) (record { a = Some b; b = Some v; c = None }) A ((k.option v) ∷ (k.map b v) ∷ A) (put (names_option names_b) (put (names_map names_a names_b) nil)) B)
get_and_update_map a x b v A B true e false f = rw (e, f) refl
get_and_update_map a x b v A B false e true f = rw e refl
get_and_update_map a x b v A B false e false f = rw e refl

get_and_update_big_map : (a x b v : Kind) (A B : List Kind) → (q : Bool) → (same_kind a b) ≡ q → (r : Bool) → (same_kind x v) ≡ r → table.collections p.OpGetAndUpdate (a ∷ k.option x ∷ k.big_map b v ∷ A) B ≡ leads (bare p.OpGetAndUpdate (a ∷ k.option x ∷ k.big_map b v ∷ A)) B
get_and_update_big_map a x b v A B true e true f = rw (e, f) (spelled (w.Option ∷ w.B ∷ w.BigMap ∷ w.A ∷ w.B ∷ []) (record { a = Some b; b = Some v; c = None }) A ((k.option v) ∷ (k.big_map b v) ∷ A) (put (names_option names_b) (put (names_big_map names_a names_b) nil)) B)
get_and_update_big_map a x b v A B true e false f = rw (e, f) refl
get_and_update_big_map a x b v A B false e true f = rw e refl
get_and_update_big_map a x b v A B false e false f = rw e refl

pub get_and_update_rules : (A B : List Kind) → table.collections p.OpGetAndUpdate A B ≡ leads (bare p.OpGetAndUpdate A) B
get_and_update_rules (a ∷ k.option x ∷ k.map b v ∷ A) B = get_and_update_map a x b v A B (same_kind a b) refl (same_kind x v) refl
get_and_update_rules (a ∷ k.option x ∷ k.big_map b v ∷ A) B = get_and_update_big_map a x b v A B (same_kind a b) refl (same_kind x v) refl
get_and_update_rules (a ∷ []) B = refl
get_and_update_rules (a ∷ x ∷ []) B = refl
get_and_update_rules (a ∷ x ∷ k.map b v ∷ A) B = refl
get_and_update_rules (a ∷ x ∷ k.big_map b v ∷ A) B = refl
get_and_update_rules A B = refl

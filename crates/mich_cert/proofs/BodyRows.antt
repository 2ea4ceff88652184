-- The lines on the stacks that branches begin with, on lambdas that are called, and on instructions that fail.
use Rattle.std.proofs.Common.{◌≡◌, Bool, true, false, ◌&&◌, Option, Some, None, List, [], ◌∷◌, refl}
use Rattle.rules_text.specs.declared.nodes.Primitive.{Primitive}
use Rattle.rules_text.specs.declared.nodes.Primitive.TheVariants as p
use Rattle.rules_data.specs.types.Kind.{Kind}
use Rattle.rules_data.specs.types.Kind as k
use Rattle.rules_data.specs.types.Attributes.{pushable}
use Rattle.rules_code.specs.instructions.Types as t
use Rattle.rules_code.specs.instructions.Same.{same_kind, same_kinds}
use Rattle.rules_code.specs.typing.Stacks.{on_call, on_captured, on_shown, on_never}
use Rattle.rules_code.specs.typing.Typing.{goes}
use Rattle.mich_cert.specs.Table as table
use Rattle.mich_cert.specs.Walk.{ends_so}
use Rattle.mich_cert.specs.declared.words.Word.TheVariants as w
use Rattle.mich_cert.proofs.Spelling.{nil, put, spelled, names_a, names_b, names_c, names_lambda, names_list}

and_both : {q r s u : Bool} → q ≡ r → s ≡ u → (q && s) ≡ (r && u)
and_both e f = λ i. e i && f i

-- ---- two branches

-- the stacks that they begin with
abbrev pub branches : Primitive → List Kind → Option (List Kind × List Kind)
branches p.OpIf (t.bool ∷ A) = Some (A, A)
branches p.OpIfNone (k.option a ∷ A) = Some (A, a ∷ A)
branches p.OpIfLeft (k.or a b ∷ A) = Some (a ∷ A, b ∷ A)
branches p.OpIfCons (k.list a ∷ A) = Some (a ∷ k.list a ∷ A, A)
branches op A = None

abbrev pub are_these : Option (List Kind × List Kind) → List Kind → List Kind → Bool
are_these None B C = false
are_these (Some s) B C = same_kinds s.0 B && same_kinds s.1 C

pub if_begins : (A B C : List Kind) → table.branch_begins p.OpIf A B C ≡ are_these (branches p.OpIf A) B C
if_begins (t.bool ∷ A) B C = refl
if_begins A B C = refl

pub if_none_begins : (A B C : List Kind) → table.branch_begins p.OpIfNone A B C ≡ are_these (branches p.OpIfNone A) B C
if_none_begins (k.option a ∷ A) B C = and_both refl (spelled (w.A ∷ []) (record { a = Some a; b = None; c = None }) A (a ∷ A) (put names_a nil) C)
if_none_begins A B C = refl

pub if_left_begins : (A B C : List Kind) → table.branch_begins p.OpIfLeft A B C ≡ are_these (branches p.OpIfLeft A) B C
if_left_begins (k.or a b ∷ A) B C = and_both (spelled (w.A ∷ []) (record { a = Some a; b = Some b; c = None }) A (a ∷ A) (put names_a nil) B) (spelled (w.B ∷ []) (record { a = Some a; b = Some b; c = None }) A (b ∷ A) (put names_b nil) C)
if_left_begins A B C = refl

pub if_cons_begins : (A B C : List Kind) → table.branch_begins p.OpIfCons A B C ≡ are_these (branches p.OpIfCons A) B C
if_cons_begins (k.list a ∷ A) B C = and_both (spelled (w.A ∷ w.List ∷ w.A ∷ []) (record { a = Some a; b = None; c = None }) A (a ∷ (k.list a) ∷ A) (put names_a (put (names_list names_a) nil)) B) refl
if_cons_begins A B C = refl

-- ---- lambdas that are called

exec_fits : (a b r : Kind) (A B : List Kind) (q : Bool) → same_kind a b ≡ q →
    table.operations p.OpExec (a ∷ k.lambda b r ∷ A) B ≡ ends_so (on_call (a ∷ k.lambda b r ∷ A) (λ r A. goes (r ∷ A))) (Some B)
exec_fits a b r A B true e = rw e (spelled (w.B ∷ []) (record { a = Some b; b = Some r; c = None }) A (r ∷ A) (put names_b nil) B)
exec_fits a b r A B false e = rw e refl

pub exec_rules : (A B : List Kind) → table.operations p.OpExec A B ≡ ends_so (on_call A (λ r A. goes (r ∷ A))) (Some B)
exec_rules (a ∷ k.lambda b r ∷ A) B = exec_fits a b r A B (same_kind a b) refl
exec_rules (a ∷ []) B = refl
exec_rules A B = refl

abbrev captured : List Kind → List Kind → Bool
captured A B = ends_so (on_captured A (λ b r A. goes (k.lambda b r ∷ A))) (Some B)

apply_fits : (a b c r : Kind) (A B : List Kind) (q : Bool) → pushable a ≡ q → (u : Bool) → same_kind a b ≡ u →
    table.operations p.OpApply (a ∷ k.lambda (k.pair b c) r ∷ A) B ≡ captured (a ∷ k.lambda (k.pair b c) r ∷ A) B
apply_fits a b c r A B true e true f = rw (e, f) (spelled (w.Lambda ∷ w.B ∷ w.C ∷ []) (record { a = Some b; b = Some c; c = Some r }) A ((k.lambda c r) ∷ A) (put (names_lambda names_b names_c) nil) B)
apply_fits a b c r A B true e false f = rw (e, f) refl
apply_fits a b c r A B false e true f = rw (e, f) refl
apply_fits a b c r A B false e false f = rw (e, f) refl

apply_one : (a : Kind) (B : List Kind) (q : Bool) → pushable a ≡ q → table.operations p.OpApply (a ∷ []) B ≡ captured (a ∷ []) B
apply_one a B true e = rw e refl
apply_one a B false e = rw e refl

-- a type other than a lambda of pairs
abbrev IsOther : Kind → Type 0
IsOther (k.lambda (k.pair b c) r) = ⊥
IsOther a = Unit {0}

apply_other : (a x : Kind) (A B : List Kind) (q : Bool) → pushable a ≡ q → IsOther x → table.operations p.OpApply (a ∷ x ∷ A) B ≡ captured (a ∷ x ∷ A) B
apply_other a (k.lambda (k.pair b c) r) A B q e h = absurd h
apply_other a x A B true e h = rw e refl
apply_other a x A B false e h = rw e refl

pub apply_rules : (A B : List Kind) → table.operations p.OpApply A B ≡ captured A B
apply_rules [] B = refl
apply_rules (a ∷ []) B = apply_one a B (pushable a) refl
apply_rules (a ∷ k.lambda (k.pair b c) r ∷ A) B = apply_fits a b c r A B (pushable a) refl (same_kind a b) refl
apply_rules (a ∷ x ∷ A) B = apply_other a x A B (pushable a) refl tt

-- ---- instructions that fail

failing_shown : (a : Kind) (A : List Kind) (q : Bool) → pushable a ≡ q → table.failing p.OpFailwith (a ∷ A) ≡ ends_so (on_shown (a ∷ A)) None
failing_shown a A true e = rw e refl
failing_shown a A false e = rw e refl

pub failwith_rules : (A : List Kind) → table.failing p.OpFailwith A ≡ ends_so (on_shown A) None
failwith_rules [] = refl
failwith_rules (a ∷ A) = failing_shown a A (pushable a) refl

pub never_rules : (A : List Kind) → table.failing p.OpNever A ≡ ends_so (on_never A) None
never_rules (t.never ∷ A) = refl
never_rules A = refl

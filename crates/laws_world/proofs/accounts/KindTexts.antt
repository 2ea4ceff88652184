-- The text of a type tells the type: it can be read back.
use Rattle.std.proofs.Common.{◌≡◌, ◌≤◌, ◌+◌, ℕ, zero, suc, List, [], ◌∷◌, ◌++◌, false, ◌==◌, Some, None, refl, sym, ap, ◌∙◌, append_assoc, append-nil, arith, codes}
use Rattle.std.specs.Prelude.{if◌then◌else◌}
use Rattle.rules_text.specs.text.Printed.{printed, in_parens, is_wrapped}
use Rattle.rules_data.specs.declared.types.Simple.{Simple}
use Rattle.rules_data.specs.declared.types.Simple.TheVariants as s
use Rattle.rules_data.specs.types.Kind.{Kind}
use Rattle.rules_data.specs.types.Kind as k
use Rattle.rules_data.specs.types.Printing.{node_of}
use Rattle.laws_world.specs.accounts.Texts.{TextsTellTypes}
use Rattle.laws_world.proofs.accounts.ReadKinds.{Ends, word, IsPlain, word_is, atom, one, two, head_of, Told, then_told, closed, whole_by, whole, item}

-- ---- what is read back

abbrev text : Kind → List ℕ
text a = printed (node_of a)

-- as an argument
abbrev argument : Kind → List ℕ
argument a = in_parens (is_wrapped (node_of a)) (text a)

abbrev steps : Kind → ℕ
steps (k.simple u) = 1
steps k.operation = 1
steps (k.option a) = 2 + steps a
steps (k.list a) = 2 + steps a
steps (k.set a) = 2 + steps a
steps (k.contract a) = 2 + steps a
steps (k.ticket a) = 2 + steps a
steps (k.or a b) = 2 + (steps a + steps b)
steps (k.pair a b) = 2 + (steps a + steps b)
steps (k.map a b) = 2 + (steps a + steps b)
steps (k.big_map a b) = 2 + (steps a + steps b)
steps (k.lambda a b) = 2 + (steps a + steps b)

abbrev ReadsArgument : Kind → Type 0
ReadsArgument a = (n : ℕ) (r : List ℕ) → steps a ≤ n → Ends r → item n (argument a ++ r) ≡ Some (a, r)

abbrev ReadsWhole : Kind → Type 0
ReadsWhole a = (n : ℕ) (r : List ℕ) → steps a ≤ n + 1 → Ends r → whole n (text a ++ r) ≡ Some (a, r)

-- a name with one argument
one_whole : (name : List ℕ) (f : Kind → Kind) (a : Kind) → IsPlain name → head_of name ≡ one f → ReadsArgument a →
    (n : ℕ) (r : List ℕ) → steps a ≤ n → Ends r →
    whole (suc n) ((name ++ (32 ∷ (argument a ++ []))) ++ r) ≡ Some (f a, r)
one_whole name f a plain head reads n r le e =
    let split : (name ++ (32 ∷ (argument a ++ []))) ++ r ≡ name ++ (32 ∷ (argument a ++ r)) =
    append_assoc name (32 ∷ (argument a ++ [])) r ∙ ap (λ t. name ++ (32 ∷ (t ++ r))) (append-nil (argument a)) in
    let w : word (name ++ (32 ∷ (argument a ++ r))) ≡ (name, 32 ∷ (argument a ++ r)) = word_is name
    (32 ∷ (argument a ++ r)) plain refl in
    let read = reads n r le e in
    rw (split, w, head, read) refl

two_whole : (name : List ℕ) (f : Kind → Kind → Kind) (a b : Kind) → IsPlain name → head_of name ≡ two f → ReadsArgument a →
    ReadsArgument b → (n : ℕ) (r : List ℕ) → steps a + steps b ≤ n → Ends r →
    whole (suc n) ((name ++ (32 ∷ (argument a ++ (32 ∷ (argument b ++ []))))) ++ r) ≡ Some (f a b, r)
two_whole name f a b plain head reads reads_too n r le e =
    let last : (32 ∷ (argument b ++ [])) ++ r ≡ 32 ∷ (argument b ++ r) = ap (λ t. 32 ∷ (t ++ r)) (append-nil (argument b)) in
    let split : (name ++ (32 ∷ (argument a ++ (32 ∷ (argument b ++ []))))) ++ r ≡ name ++
    (32 ∷ (argument a ++ (32 ∷ (argument b ++ r)))) =
    append_assoc name (32 ∷ (argument a ++ (32 ∷ (argument b ++ [])))) r
    ∙ ap (λ t. name ++ (32 ∷ t)) (append_assoc (argument a) (32 ∷ (argument b ++ [])) r ∙ ap (λ t. argument a ++ t) last) in
    let w : word (name ++ (32 ∷ (argument a ++ (32 ∷ (argument b ++ r))))) ≡
    (name, 32 ∷ (argument a ++ (32 ∷ (argument b ++ r)))) = word_is name _ plain refl in
    let read = reads n (32 ∷ (argument b ++ r)) (omega (arith, le)) refl in
    let read_too = reads_too n r (omega (arith, le)) e in
    rw (split, w, head, read, read_too) refl

-- in parentheses
in_parens_read : (a : Kind) (n : ℕ) (r : List ℕ) → whole n (text a ++ (41 ∷ r)) ≡ Some (a, 41 ∷ r) →
    item (suc n) ((40 ∷ (text a ++ 41 ∷ [])) ++ r) ≡ Some (a, r)
in_parens_read a n r h =
    let split : (text a ++ 41 ∷ []) ++ r ≡ text a ++ (41 ∷ r) = append_assoc (text a) (41 ∷ []) r in
    rw (split, h) refl

one_argument : (name : List ℕ) (f : Kind → Kind) (a : Kind) → text (f a) ≡ name ++ (32 ∷ (argument a ++ [])) → IsPlain name →
    head_of name ≡ one f → ReadsArgument a → (n : ℕ) (r : List ℕ) → 2 + steps a ≤ n → Ends r →
    item n ((40 ∷ (text (f a) ++ 41 ∷ [])) ++ r) ≡ Some (f a, r)
one_argument name f a is plain head reads zero r le e = absurd (omega (arith, le))
one_argument name f a is plain head reads (suc zero) r le e = absurd (omega (arith, le))
one_argument name f a is plain head reads (suc (suc n)) r le e =
    in_parens_read (f a) (suc n) r (ap (λ t. whole (suc n) (t ++ (41 ∷ r))) is
    ∙ one_whole name f a plain head reads n (41 ∷ r) (omega (arith, le)) refl)

two_arguments : (name : List ℕ) (f : Kind → Kind → Kind) (a b : Kind) →
    text (f a b) ≡ name ++ (32 ∷ (argument a ++ (32 ∷ (argument b ++ [])))) → IsPlain name → head_of name ≡ two f →
    ReadsArgument a → ReadsArgument b →
    (n : ℕ) (r : List ℕ) → 2 + (steps a + steps b) ≤ n → Ends r → item n ((40 ∷ (text (f a b) ++ 41 ∷ [])) ++ r) ≡ Some (f a b, r)
two_arguments name f a b is plain head reads reads_too zero r le e = absurd (omega (arith, le))
two_arguments name f a b is plain head reads reads_too (suc zero) r le e = absurd (omega (arith, le))
two_arguments name f a b is plain head reads reads_too (suc (suc n)) r le e =
    in_parens_read (f a b) (suc n) r (ap (λ t. whole (suc n) (t ++ (41 ∷ r))) is
    ∙ two_whole name f a b plain head reads reads_too n (41 ∷ r) (omega (arith, le)) refl)

-- a name alone
atom_argument : (c : ℕ) (name : List ℕ) (a : Kind) → IsPlain (c ∷ name) → (c == 40) ≡ false → head_of (c ∷ name) ≡ atom a →
    (n : ℕ) (r : List ℕ) → 1 ≤ n → Ends r → item n (((c ∷ name) ++ []) ++ r) ≡ Some (a, r)
atom_argument c name a plain open' head zero r le e = absurd (omega (arith, le))
atom_argument c name a plain open' head (suc n) r le e =
    let same : ((c ∷ name) ++ []) ++ r ≡ (c ∷ name) ++ r = ap (λ t. t ++ r) (append-nil (c ∷ name)) in
    let w : word ((c ∷ name) ++ r) ≡ (c ∷ name, r) = word_is (c ∷ name) r plain e in
    ap (item (suc n)) same
    ∙ ap (λ b. if b then then_told (whole n (name ++ r)) closed else whole_by (head_of (word ((c ∷ name) ++ r)).0)
    (word ((c ∷ name) ++ r)).1 (λ cs. None)) open'
    ∙ ap (λ (x : List ℕ × List ℕ). whole_by (head_of x.0) x.1 (λ cs. None)) w
    ∙ ap (λ h. whole_by h r (λ cs. None)) head

-- ---- all types

-- at the name, which is known by its first byte and the others
simple_argument : (u : Simple) → ReadsArgument (k.simple u)
simple_argument s.Unit n r le e = atom_argument 117 (110 ∷ 105 ∷ 116 ∷ []) (k.simple s.Unit) refl refl refl n r le e
simple_argument s.Never n r le e = atom_argument 110 (101 ∷ 118 ∷ 101 ∷ 114 ∷ []) (k.simple s.Never) refl refl refl n r le e
simple_argument s.Bool n r le e = atom_argument 98 (111 ∷ 111 ∷ 108 ∷ []) (k.simple s.Bool) refl refl refl n r le e
simple_argument s.Int n r le e = atom_argument 105 (110 ∷ 116 ∷ []) (k.simple s.Int) refl refl refl n r le e
simple_argument s.Nat n r le e = atom_argument 110 (97 ∷ 116 ∷ []) (k.simple s.Nat) refl refl refl n r le e
simple_argument s.String n r le e = atom_argument 115 (116 ∷ 114 ∷ 105 ∷ 110 ∷ 103 ∷ [])
    (k.simple s.String) refl refl refl n r le e
simple_argument s.Bytes n r le e = atom_argument 98 (121 ∷ 116 ∷ 101 ∷ 115 ∷ []) (k.simple s.Bytes) refl refl refl n r le e
simple_argument s.Mutez n r le e = atom_argument 109 (117 ∷ 116 ∷ 101 ∷ 122 ∷ []) (k.simple s.Mutez) refl refl refl n r le e
simple_argument s.Timestamp n r le e = atom_argument 116 (105 ∷ 109 ∷ 101 ∷ 115 ∷ 116 ∷ 97 ∷ 109 ∷ 112 ∷ [])
    (k.simple s.Timestamp) refl refl refl n r le e
simple_argument s.Key n r le e = atom_argument 107 (101 ∷ 121 ∷ []) (k.simple s.Key) refl refl refl n r le e
simple_argument s.KeyHash n r le e = atom_argument 107 (101 ∷ 121 ∷ 95 ∷ 104 ∷ 97 ∷ 115 ∷ 104 ∷ [])
    (k.simple s.KeyHash) refl refl refl n r le e
simple_argument s.Signature n r le e = atom_argument 115 (105 ∷ 103 ∷ 110 ∷ 97 ∷ 116 ∷ 117 ∷ 114 ∷ 101 ∷ [])
    (k.simple s.Signature) refl refl refl n r le e
simple_argument s.ChainId n r le e = atom_argument 99 (104 ∷ 97 ∷ 105 ∷ 110 ∷ 95 ∷ 105 ∷ 100 ∷ [])
    (k.simple s.ChainId) refl refl refl n r le e
simple_argument s.Address n r le e = atom_argument 97 (100 ∷ 100 ∷ 114 ∷ 101 ∷ 115 ∷ 115 ∷ [])
    (k.simple s.Address) refl refl refl n r le e

argument_read : (a : Kind) → ReadsArgument a
argument_read (k.simple u) n r le e = simple_argument u n r le e
argument_read k.operation n r le e = atom_argument 111 (112 ∷ 101 ∷ 114 ∷ 97 ∷ 116 ∷ 105 ∷ 111 ∷ 110 ∷ []) k.operation refl
    refl refl n r le e
argument_read (k.option a) n r le e = one_argument (codes "option") k.option a refl refl refl (argument_read a) n r le e
argument_read (k.list a) n r le e = one_argument (codes "list") k.list a refl refl refl (argument_read a) n r le e
argument_read (k.set a) n r le e = one_argument (codes "set") k.set a refl refl refl (argument_read a) n r le e
argument_read (k.contract a) n r le e = one_argument (codes "contract") k.contract a refl refl refl (argument_read a) n r le e
argument_read (k.ticket a) n r le e = one_argument (codes "ticket") k.ticket a refl refl refl (argument_read a) n r le e
argument_read (k.or a b) n r le e = two_arguments (codes "or") k.or a b refl refl refl (argument_read a)
    (argument_read b) n r le e
argument_read (k.pair a b) n r le e = two_arguments (codes "pair") k.pair a b refl refl refl (argument_read a)
    (argument_read b) n r le e
argument_read (k.map a b) n r le e = two_arguments (codes "map") k.map a b refl refl refl (argument_read a)
    (argument_read b) n r le e
argument_read (k.big_map a b) n r le e = two_arguments (codes "big_map") k.big_map a b refl refl refl (argument_read a)
    (argument_read b) n r le e
argument_read (k.lambda a b) n r le e = two_arguments (codes "lambda") k.lambda a b refl refl refl (argument_read a)
    (argument_read b) n r le e

-- a type that stands alone
atom_whole : (name : List ℕ) (a : Kind) → IsPlain name → head_of name ≡ atom a → (n : ℕ) →
    whole (suc n) ((name ++ []) ++ []) ≡ Some (a, [])
atom_whole name a plain head n =
    ap (λ t. whole (suc n) (t ++ [])) (append-nil name)
    ∙ ap (λ (x : List ℕ × List ℕ). whole_by (head_of x.0) x.1 (λ cs. item n cs)) (word_is name [] plain tt)
    ∙ ap (λ h. whole_by h [] (λ cs. item n cs)) head

whole_read : (a : Kind) (n : ℕ) → steps a ≤ n → whole (suc n) (text a ++ []) ≡ Some (a, [])
whole_read (k.simple s.Unit) n le = atom_whole (codes "unit") (k.simple s.Unit) refl refl n
whole_read (k.simple s.Never) n le = atom_whole (codes "never") (k.simple s.Never) refl refl n
whole_read (k.simple s.Bool) n le = atom_whole (codes "bool") (k.simple s.Bool) refl refl n
whole_read (k.simple s.Int) n le = atom_whole (codes "int") (k.simple s.Int) refl refl n
whole_read (k.simple s.Nat) n le = atom_whole (codes "nat") (k.simple s.Nat) refl refl n
whole_read (k.simple s.String) n le = atom_whole (codes "string") (k.simple s.String) refl refl n
whole_read (k.simple s.Bytes) n le = atom_whole (codes "bytes") (k.simple s.Bytes) refl refl n
whole_read (k.simple s.Mutez) n le = atom_whole (codes "mutez") (k.simple s.Mutez) refl refl n
whole_read (k.simple s.Timestamp) n le = atom_whole (codes "timestamp") (k.simple s.Timestamp) refl refl n
whole_read (k.simple s.Key) n le = atom_whole (codes "key") (k.simple s.Key) refl refl n
whole_read (k.simple s.KeyHash) n le = atom_whole (codes "key_hash") (k.simple s.KeyHash) refl refl n
whole_read (k.simple s.Signature) n le = atom_whole (codes "signature") (k.simple s.Signature) refl refl n
whole_read (k.simple s.ChainId) n le = atom_whole (codes "chain_id") (k.simple s.ChainId) refl refl n
whole_read (k.simple s.Address) n le = atom_whole (codes "address") (k.simple s.Address) refl refl n
whole_read k.operation n le = atom_whole (codes "operation") k.operation refl refl n
whole_read (k.option a) n le = one_whole (codes "option") k.option a refl refl (argument_read a) n [] (omega (arith, le)) tt
whole_read (k.list a) n le = one_whole (codes "list") k.list a refl refl (argument_read a) n [] (omega (arith, le)) tt
whole_read (k.set a) n le = one_whole (codes "set") k.set a refl refl (argument_read a) n [] (omega (arith, le)) tt
whole_read (k.contract a) n le = one_whole (codes "contract") k.contract a refl refl (argument_read a) n [] (omega (arith, le)) tt
whole_read (k.ticket a) n le = one_whole (codes "ticket") k.ticket a refl refl (argument_read a) n [] (omega (arith, le)) tt
whole_read (k.or a b) n le = two_whole (codes "or") k.or a b refl refl (argument_read a) (argument_read b) n []
    (omega (arith, le)) tt
whole_read (k.pair a b) n le = two_whole (codes "pair") k.pair a b refl refl (argument_read a) (argument_read b) n []
    (omega (arith, le)) tt
whole_read (k.map a b) n le = two_whole (codes "map") k.map a b refl refl (argument_read a) (argument_read b) n []
    (omega (arith, le)) tt
whole_read (k.big_map a b) n le = two_whole (codes "big_map") k.big_map a b refl refl (argument_read a) (argument_read b) n []
    (omega (arith, le)) tt
whole_read (k.lambda a b) n le = two_whole (codes "lambda") k.lambda a b refl refl (argument_read a) (argument_read b) n []
    (omega (arith, le)) tt

abbrev told_kind : Told → Kind
told_kind None = k.operation
told_kind (Some x) = x.0

pub texts_tell_types : TextsTellTypes
texts_tell_types a b h =
    let n = steps a + steps b in
    ap told_kind (sym (whole_read a n (omega arith)) ∙ ap (λ t. whole (suc n) (t ++ [])) h ∙ whole_read b n (omega arith))

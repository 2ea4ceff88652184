-- The lines on operations and tickets are the rules of the instructions.
use Rattle.std.proofs.Common.{◌≡◌, Bool, true, false, Some, None, List, [], ◌∷◌, refl, subst}
use Rattle.rules_text.specs.declared.nodes.Primitive.TheVariants as p
use Rattle.rules_data.specs.types.Kind.{Kind}
use Rattle.rules_data.specs.types.Kind as k
use Rattle.rules_data.specs.types.Attributes.{comparable, pushable}
use Rattle.rules_code.specs.instructions.Types as t
use Rattle.rules_code.specs.instructions.Same.{same_kind}
use Rattle.laws_data.proofs.types_lemmas.ForCallers.{same_kind_true, same_kind_refl}
use Rattle.mich_cert.specs.Words.{nothing}
use Rattle.mich_cert.specs.Table as table
use Rattle.mich_cert.specs.declared.words.Word.TheVariants as w
use Rattle.mich_cert.specs.Leading.{leads, bare}
use Rattle.mich_cert.proofs.Spelling.{nil, put, spelled, names_a, names_address, names_contract, names_nat, names_operation, names_option, names_pair, names_ticket, names_unit}

pub address_rules : (A B : List Kind) → table.operations p.OpAddress A B ≡ leads (bare p.OpAddress A) B
address_rules (k.contract a ∷ A) B = spelled (w.Address ∷ []) (record { a = Some a; b = None; c = None }) A (t.address ∷ A) (put names_address nil) B
address_rules A B = refl

pub implicit_account_rules : (A B : List Kind) → table.operations p.OpImplicitAccount A B ≡ leads (bare p.OpImplicitAccount A) B
implicit_account_rules (t.key_hash ∷ A) B = spelled (w.Contract ∷ w.Unit ∷ []) nothing A ((k.contract t.unit) ∷ A) (put (names_contract names_unit) nil) B
implicit_account_rules A B = refl

transfer_tokens_fits : (a b : Kind) (A B : List Kind) → (q : Bool) → (same_kind a b) ≡ q → table.operations p.OpTransferTokens (a ∷ t.mutez ∷ k.contract b ∷ A) B ≡ leads (bare p.OpTransferTokens (a ∷ t.mutez ∷ k.contract b ∷ A)) B
transfer_tokens_fits a b A B true e = rw e (spelled (w.Operation ∷ []) (record { a = Some b; b = None; c = None }) A (k.operation ∷ A) (put names_operation nil) B)
transfer_tokens_fits a b A B false e = rw e refl

pub transfer_tokens_rules : (A B : List Kind) → table.operations p.OpTransferTokens A B ≡ leads (bare p.OpTransferTokens A) B
transfer_tokens_rules (a ∷ t.mutez ∷ k.contract b ∷ A) B = transfer_tokens_fits a b A B (same_kind a b) refl
transfer_tokens_rules (a ∷ []) B = refl
transfer_tokens_rules (a ∷ b ∷ []) B = refl
transfer_tokens_rules A B = refl

emit_fits : (a : Kind) (A B : List Kind) → (q : Bool) → (pushable a) ≡ q → table.operations p.OpEmit (a ∷ A) B ≡ leads (bare p.OpEmit (a ∷ A)) B
emit_fits a A B true e = rw (e, same_kind_refl a) (spelled (w.Operation ∷ []) (record { a = Some a; b = None; c = None }) A (k.operation ∷ A) (put names_operation nil) B)
emit_fits a A B false e = rw (e, same_kind_refl a) refl

pub emit_rules : (A B : List Kind) → table.operations p.OpEmit A B ≡ leads (bare p.OpEmit A) B
emit_rules (a ∷ A) B = emit_fits a A B (pushable a) refl
emit_rules A B = refl

ticket_one : (a : Kind) (B : List Kind) (q : Bool) → comparable a ≡ q → table.operations p.OpTicket (a ∷ []) B ≡ leads (bare p.OpTicket (a ∷ [])) B
ticket_one a B true e = rw e refl
ticket_one a B false e = rw e refl

-- a type other than nat
abbrev IsOther : Kind → Type 0
IsOther t.nat = ⊥
IsOther a = Unit {0}

ticket_other : (a x : Kind) (A B : List Kind) (q : Bool) → comparable a ≡ q → IsOther x → table.operations p.OpTicket (a ∷ x ∷ A) B ≡ leads (bare p.OpTicket (a ∷ x ∷ A)) B
ticket_other a t.nat A B q e h = absurd h
ticket_other a x A B true e h = rw e refl
ticket_other a x A B false e h = rw e refl

ticket_fits : (a : Kind) (A B : List Kind) → (q : Bool) → (comparable a) ≡ q → table.operations p.OpTicket (a ∷ t.nat ∷ A) B ≡ leads (bare p.OpTicket (a ∷ t.nat ∷ A)) B
ticket_fits a A B true e = rw (e, same_kind_refl a) (spelled (w.Option ∷ w.Ticket ∷ w.A ∷ []) (record { a = Some a; b = None; c = None }) A ((k.option (k.ticket a)) ∷ A) (put (names_option (names_ticket names_a)) nil) B)
ticket_fits a A B false e = rw (e, same_kind_refl a) refl

pub ticket_rules : (A B : List Kind) → table.operations p.OpTicket A B ≡ leads (bare p.OpTicket A) B
ticket_rules (a ∷ t.nat ∷ A) B = ticket_fits a A B (comparable a) refl
ticket_rules [] B = refl
ticket_rules (a ∷ []) B = ticket_one a B (comparable a) refl
ticket_rules (a ∷ x ∷ A) B = ticket_other a x A B (comparable a) refl tt

pub read_ticket_rules : (A B : List Kind) → table.operations p.OpReadTicket A B ≡ leads (bare p.OpReadTicket A) B
read_ticket_rules (k.ticket a ∷ A) B = spelled (w.Pair ∷ w.Address ∷ w.Pair ∷ w.A ∷ w.Nat ∷ w.Ticket ∷ w.A ∷ []) (record { a = Some a; b = None; c = None }) A ((k.pair t.address (k.pair a t.nat)) ∷ (k.ticket a) ∷ A) (put (names_pair names_address (names_pair names_a names_nat)) (put (names_ticket names_a) nil)) B
read_ticket_rules A B = refl

pub split_ticket_rules : (A B : List Kind) → table.operations p.OpSplitTicket A B ≡ leads (bare p.OpSplitTicket A) B
split_ticket_rules (k.ticket a ∷ k.pair t.nat t.nat ∷ A) B = spelled (w.Option ∷ w.Pair ∷ w.Ticket ∷ w.A ∷ w.Ticket ∷ w.A ∷ []) (record { a = Some a; b = None; c = None }) A ((k.option (k.pair (k.ticket a) (k.ticket a))) ∷ A) (put (names_option (names_pair (names_ticket names_a) (names_ticket names_a))) nil) B
split_ticket_rules (k.ticket a ∷ []) B = refl
split_ticket_rules A B = refl

join_fits : (a b : Kind) (A B : List Kind) → (q : Bool) → same_kind a b ≡ q →
    table.operations p.OpJoinTickets (k.pair (k.ticket a) (k.ticket b) ∷ A) B ≡ leads (bare p.OpJoinTickets (k.pair (k.ticket a) (k.ticket b) ∷ A)) B
join_fits a b A B false e = rw e refl
join_fits a b A B true e =
    subst (λ c. table.operations p.OpJoinTickets (k.pair (k.ticket a) (k.ticket c) ∷ A) B ≡ leads (bare p.OpJoinTickets (k.pair (k.ticket a) (k.ticket c) ∷ A)) B) (same_kind_true a b e)
    (rw (same_kind_refl a) (spelled (w.Option ∷ w.Ticket ∷ w.A ∷ []) (record { a = Some a; b = None; c = None }) A (k.option (k.ticket a) ∷ A) (put (names_option (names_ticket names_a)) nil) B))

pub join_tickets_rules : (A B : List Kind) → table.operations p.OpJoinTickets A B ≡ leads (bare p.OpJoinTickets A) B
join_tickets_rules (k.pair (k.ticket a) (k.ticket b) ∷ A) B = join_fits a b A B (same_kind a b) refl
join_tickets_rules A B = refl

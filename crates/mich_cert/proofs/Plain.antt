-- The table of instructions without arguments is the rules of these instructions.
use Rattle.std.proofs.Common.{◌≡◌, Bool, false, List, ◌∷◌, refl, ◌∙◌, Some}
use Rattle.rules_text.specs.declared.nodes.Primitive.{Primitive}
use Rattle.rules_text.specs.declared.nodes.Primitive.TheVariants as p
use Rattle.rules_data.specs.types.Kind.{Kind}
use Rattle.rules_data.specs.types.Kind as k
use Rattle.rules_code.specs.typing.Stacks.{on_call, on_captured}
use Rattle.rules_code.specs.typing.Typing.{goes}
use Rattle.mich_cert.specs.Table as table
use Rattle.mich_cert.specs.Walk.{ends_so}
use Rattle.mich_cert.specs.Leading.{leads, bare}
use Rattle.mich_cert.proofs.Tests.{or_rest}
use Rattle.mich_cert.proofs.PartRows.{swap_rules, unit_rules, rename_rules, car_rules, cdr_rules, some_rules, cons_rules}
use Rattle.mich_cert.proofs.CollectionRows.{size_rules, mem_rules, get_rules, update_rules, get_and_update_rules}
use Rattle.mich_cert.proofs.NumberRows.{add_rules, sub_rules, sub_mutez_rules, mul_rules, ediv_rules, abs_rules, neg_rules, int_rules, nat_rules, bytes_rules, isnat_rules, lsl_rules, lsr_rules}
use Rattle.mich_cert.proofs.LogicRows.{and_rules, or_rules, xor_rules, not_rules, compare_rules, eq_rules, neq_rules, lt_rules, gt_rules, le_rules, ge_rules}
use Rattle.mich_cert.proofs.TextRows.{concat_rules, slice_rules, pack_rules, blake2b_rules, sha256_rules, sha512_rules, hash_key_rules, amount_rules, balance_rules, sender_rules, source_rules, self_address_rules, now_rules, level_rules, chain_id_rules}
use Rattle.mich_cert.proofs.OperationRows.{address_rules, implicit_account_rules, transfer_tokens_rules, emit_rules, ticket_rules, read_ticket_rules, split_ticket_rules, join_tickets_rules}
use Rattle.mich_cert.proofs.BodyRows.{exec_rules, apply_rules}

-- where an instruction without arguments leads, but for those that have a count without one
abbrev pub plainly : Primitive → List Kind → List Kind → Bool
plainly p.OpExec A B = ends_so (on_call A (λ r A. goes (r ∷ A))) (Some B)
plainly p.OpApply A B = ends_so (on_captured A (λ b r A. goes (k.lambda b r ∷ A))) (Some B)
plainly p.OpDrop A B = false
plainly p.OpDup A B = false
plainly p.OpPair A B = false
plainly p.OpUnpair A B = false
plainly op A B = leads (bare op A) B

pub plain_rules : (op : Primitive) (A B : List Kind) → table.plain op A B ≡ plainly op A B
plain_rules p.OpSwap A B = or_rest _ _ refl ∙ or_rest _ _ refl ∙ or_rest _ _ refl ∙ or_rest _ _ refl ∙ or_rest _ _ refl ∙ or_rest _ _ refl ∙ or_rest _ _ refl ∙ swap_rules A B
plain_rules p.OpUnit A B = or_rest _ _ refl ∙ or_rest _ _ refl ∙ or_rest _ _ refl ∙ or_rest _ _ refl ∙ or_rest _ _ refl ∙ or_rest _ _ refl ∙ or_rest _ _ refl ∙ unit_rules A B
plain_rules p.OpRename A B = or_rest _ _ refl ∙ or_rest _ _ refl ∙ or_rest _ _ refl ∙ or_rest _ _ refl ∙ or_rest _ _ refl ∙ or_rest _ _ refl ∙ or_rest _ _ refl ∙ rename_rules A B
plain_rules p.OpCar A B = or_rest _ _ refl ∙ or_rest _ _ refl ∙ or_rest _ _ refl ∙ or_rest _ _ refl ∙ or_rest _ _ refl ∙ or_rest _ _ refl ∙ car_rules A B
plain_rules p.OpCdr A B = or_rest _ _ refl ∙ or_rest _ _ refl ∙ or_rest _ _ refl ∙ or_rest _ _ refl ∙ or_rest _ _ refl ∙ or_rest _ _ refl ∙ cdr_rules A B
plain_rules p.OpSome A B = or_rest _ _ refl ∙ or_rest _ _ refl ∙ or_rest _ _ refl ∙ or_rest _ _ refl ∙ or_rest _ _ refl ∙ or_rest _ _ refl ∙ some_rules A B
plain_rules p.OpCons A B = or_rest _ _ refl ∙ or_rest _ _ refl ∙ or_rest _ _ refl ∙ or_rest _ _ refl ∙ or_rest _ _ refl ∙ or_rest _ _ refl ∙ cons_rules A B
plain_rules p.OpSize A B = or_rest _ _ refl ∙ or_rest _ _ refl ∙ or_rest _ _ refl ∙ or_rest _ _ refl ∙ or_rest _ _ refl ∙ size_rules A B
plain_rules p.OpMem A B = or_rest _ _ refl ∙ or_rest _ _ refl ∙ or_rest _ _ refl ∙ or_rest _ _ refl ∙ or_rest _ _ refl ∙ mem_rules A B
plain_rules p.OpGet A B = or_rest _ _ refl ∙ or_rest _ _ refl ∙ or_rest _ _ refl ∙ or_rest _ _ refl ∙ or_rest _ _ refl ∙ get_rules A B
plain_rules p.OpUpdate A B = or_rest _ _ refl ∙ or_rest _ _ refl ∙ or_rest _ _ refl ∙ or_rest _ _ refl ∙ or_rest _ _ refl ∙ update_rules A B
plain_rules p.OpGetAndUpdate A B = or_rest _ _ refl ∙ or_rest _ _ refl ∙ or_rest _ _ refl ∙ or_rest _ _ refl ∙ or_rest _ _ refl ∙ get_and_update_rules A B
plain_rules p.OpAdd A B = or_rest _ _ refl ∙ or_rest _ _ refl ∙ or_rest _ _ refl ∙ or_rest _ _ refl ∙ add_rules A B
plain_rules p.OpSub A B = or_rest _ _ refl ∙ or_rest _ _ refl ∙ or_rest _ _ refl ∙ or_rest _ _ refl ∙ sub_rules A B
plain_rules p.OpSubMutez A B = or_rest _ _ refl ∙ or_rest _ _ refl ∙ or_rest _ _ refl ∙ or_rest _ _ refl ∙ sub_mutez_rules A B
plain_rules p.OpMul A B = or_rest _ _ refl ∙ or_rest _ _ refl ∙ or_rest _ _ refl ∙ or_rest _ _ refl ∙ mul_rules A B
plain_rules p.OpEdiv A B = or_rest _ _ refl ∙ or_rest _ _ refl ∙ or_rest _ _ refl ∙ or_rest _ _ refl ∙ ediv_rules A B
plain_rules p.OpAbs A B = or_rest _ _ refl ∙ or_rest _ _ refl ∙ or_rest _ _ refl ∙ or_rest _ _ refl ∙ abs_rules A B
plain_rules p.OpNeg A B = or_rest _ _ refl ∙ or_rest _ _ refl ∙ or_rest _ _ refl ∙ or_rest _ _ refl ∙ neg_rules A B
plain_rules p.OpInt A B = or_rest _ _ refl ∙ or_rest _ _ refl ∙ or_rest _ _ refl ∙ or_rest _ _ refl ∙ int_rules A B
plain_rules p.OpNat A B = or_rest _ _ refl ∙ or_rest _ _ refl ∙ or_rest _ _ refl ∙ or_rest _ _ refl ∙ nat_rules A B
plain_rules p.OpBytes A B = or_rest _ _ refl ∙ or_rest _ _ refl ∙ or_rest _ _ refl ∙ or_rest _ _ refl ∙ bytes_rules A B
plain_rules p.OpIsnat A B = or_rest _ _ refl ∙ or_rest _ _ refl ∙ or_rest _ _ refl ∙ or_rest _ _ refl ∙ isnat_rules A B
plain_rules p.OpLsl A B = or_rest _ _ refl ∙ or_rest _ _ refl ∙ or_rest _ _ refl ∙ or_rest _ _ refl ∙ lsl_rules A B
plain_rules p.OpLsr A B = or_rest _ _ refl ∙ or_rest _ _ refl ∙ or_rest _ _ refl ∙ or_rest _ _ refl ∙ lsr_rules A B
plain_rules p.OpAnd A B = or_rest _ _ refl ∙ or_rest _ _ refl ∙ or_rest _ _ refl ∙ and_rules A B
plain_rules p.OpOr A B = or_rest _ _ refl ∙ or_rest _ _ refl ∙ or_rest _ _ refl ∙ or_rules A B
plain_rules p.OpXor A B = or_rest _ _ refl ∙ or_rest _ _ refl ∙ or_rest _ _ refl ∙ xor_rules A B
plain_rules p.OpNot A B = or_rest _ _ refl ∙ or_rest _ _ refl ∙ or_rest _ _ refl ∙ not_rules A B
plain_rules p.OpCompare A B = or_rest _ _ refl ∙ or_rest _ _ refl ∙ or_rest _ _ refl ∙ compare_rules A B
plain_rules p.OpEq A B = or_rest _ _ refl ∙ or_rest _ _ refl ∙ or_rest _ _ refl ∙ eq_rules A B
plain_rules p.OpNeq A B = or_rest _ _ refl ∙ or_rest _ _ refl ∙ or_rest _ _ refl ∙ neq_rules A B
plain_rules p.OpLt A B = or_rest _ _ refl ∙ or_rest _ _ refl ∙ or_rest _ _ refl ∙ lt_rules A B
plain_rules p.OpGt A B = or_rest _ _ refl ∙ or_rest _ _ refl ∙ or_rest _ _ refl ∙ gt_rules A B
plain_rules p.OpLe A B = or_rest _ _ refl ∙ or_rest _ _ refl ∙ or_rest _ _ refl ∙ le_rules A B
plain_rules p.OpGe A B = or_rest _ _ refl ∙ or_rest _ _ refl ∙ or_rest _ _ refl ∙ ge_rules A B
plain_rules p.OpConcat A B = or_rest _ _ refl ∙ or_rest _ _ refl ∙ concat_rules A B
plain_rules p.OpSlice A B = or_rest _ _ refl ∙ or_rest _ _ refl ∙ slice_rules A B
plain_rules p.OpPack A B = or_rest _ _ refl ∙ or_rest _ _ refl ∙ pack_rules A B
plain_rules p.OpBlake2b A B = or_rest _ _ refl ∙ or_rest _ _ refl ∙ blake2b_rules A B
plain_rules p.OpSha256 A B = or_rest _ _ refl ∙ or_rest _ _ refl ∙ sha256_rules A B
plain_rules p.OpSha512 A B = or_rest _ _ refl ∙ or_rest _ _ refl ∙ sha512_rules A B
plain_rules p.OpHashKey A B = or_rest _ _ refl ∙ or_rest _ _ refl ∙ hash_key_rules A B
plain_rules p.OpAmount A B = or_rest _ _ refl ∙ amount_rules A B
plain_rules p.OpBalance A B = or_rest _ _ refl ∙ balance_rules A B
plain_rules p.OpSender A B = or_rest _ _ refl ∙ sender_rules A B
plain_rules p.OpSource A B = or_rest _ _ refl ∙ source_rules A B
plain_rules p.OpSelfAddress A B = or_rest _ _ refl ∙ self_address_rules A B
plain_rules p.OpNow A B = or_rest _ _ refl ∙ now_rules A B
plain_rules p.OpLevel A B = or_rest _ _ refl ∙ level_rules A B
plain_rules p.OpChainId A B = or_rest _ _ refl ∙ chain_id_rules A B
plain_rules p.OpAddress A B = address_rules A B
plain_rules p.OpImplicitAccount A B = implicit_account_rules A B
plain_rules p.OpTransferTokens A B = transfer_tokens_rules A B
plain_rules p.OpEmit A B = emit_rules A B
plain_rules p.OpTicket A B = ticket_rules A B
plain_rules p.OpReadTicket A B = read_ticket_rules A B
plain_rules p.OpSplitTicket A B = split_ticket_rules A B
plain_rules p.OpJoinTickets A B = join_tickets_rules A B
plain_rules p.OpExec A B = exec_rules A B
plain_rules p.OpApply A B = apply_rules A B
plain_rules op A B = refl

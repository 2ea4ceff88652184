use Rattle.std.proofs.Common.{ap, subst}
use Rattle.std.specs.Prelude.{option_map}
use Rattle.mich_base.specs.TypeView.{kind}
use Rattle.mich_base.specs.View.{tree}
use Rattle.mich_instr.specs.declared.instr.Script.{out-Script}
use Rattle.mich_saved.specs.Parts as kept
use Rattle.mich_saved.specs.Shown.{contract}
use Rattle.mich_term.specs.ValueView.{val}
use Rattle.mich_snapshot.specs.Holders.{TypedAs}
use Rattle.mich_snapshot.proofs.Trying.{hash_fails, is_paying, none_kept, small_script, spelt_storage, storage_fails, storage_passes, typing_of}
use Rattle.mich_snapshot.proofs.holders.sound_script.Goals as goal

pub returns-in_default-clause-rules : goal.returns-in_default-clause-rules
returns-in_default-clause-rules c = λ s found k head h same.
    none_kept s c.args.former.now k (contract c.args.contract.now).1 _ _ same (ap (option_map val) c.in_default.is)

pub returns-then-not-hash_stands-clause-rules : goal.returns-then-not-hash_stands-clause-rules
returns-then-not-hash_stands-clause-rules c = λ s found k head h same.
    hash_fails s c.args.former.now k (contract c.args.contract.now).1 _ _ c.hash_stands.result same
    (c.hash_stands.ensures s (ap (λ (x : kept.Head). x.groups) head)) c.if-not-hash_stands.true

pub typed_script-requires : goal.typed_script-requires
typed_script-requires c = small_script (contract c.args.contract.now).1 c.requires

pub storage_holds-requires : goal.storage_holds-requires
storage_holds-requires c =
    let node = tree c.args.contract.now.script in
    let x = c.in-Some-2.script in
    spelt_storage (contract c.args.contract.now).1 (val c.in-Some.storage) (kind (out-Script x).storage) c.requires (ap (option_map val) c.in-Some.is)
    (typing_of node x (subst (TypedAs node) c.in-Some-2.is c.in_ok-script.ensures))

pub returns-then-not-branch-clause-rules : goal.returns-then-not-branch-clause-rules
returns-then-not-branch-clause-rules c = λ s found k head h same.
    let node = tree c.args.contract.now.script in
    let x = c.in-Some-2.script in
    let d = (contract c.args.contract.now).1 in
    storage_fails s c.args.former.now k d (kind (out-Script x).storage) c.args.head.now.pays _ _ c.hash_stands.result c.in_ok-storage_holds.field-0 same
    (ap (λ (y : kept.Head). y.pays) head) (c.hash_stands.ensures s (ap (λ (y : kept.Head). y.groups) head)) c.if-not-hash_stands.false
    (typing_of node x (subst (TypedAs node) c.in-Some-2.is c.in_ok-script.ensures))
    (c.in_ok-storage_holds.ensures s found k.1 h (is_paying k d (val c.in-Some.storage) same (ap (option_map val) c.in-Some.is))) c.if-not-branch.true

pub returns-clause-rules : goal.returns-clause-rules
returns-clause-rules c = λ s found k head h same.
    let node = tree c.args.contract.now.script in
    let x = c.in-Some-2.script in
    let d = (contract c.args.contract.now).1 in
    storage_passes s c.args.former.now k d (kind (out-Script x).storage) c.args.head.now.pays _ _ c.hash_stands.result c.in_ok-storage_holds.field-0 same
    (ap (λ (y : kept.Head). y.pays) head) (c.hash_stands.ensures s (ap (λ (y : kept.Head). y.groups) head)) c.if-not-hash_stands.false
    (typing_of node x (subst (TypedAs node) c.in-Some-2.is c.in_ok-script.ensures))
    (c.in_ok-storage_holds.ensures s found k.1 h (is_paying k d (val c.in-Some.storage) same (ap (option_map val) c.in-Some.is))) c.if-not-branch.false

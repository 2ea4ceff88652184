-- The rules of a contract, as its parts are tried.
use Rattle.std.proofs.Common.{◌≡◌, ℕ, ◌<◌, ◌^◌, Bool, true, false, ◌&&◌, List, Option, Some, None, rules, refl, sym, ap, subst, ◌∙◌, arith}
use Rattle.std.specs.Prelude.{IfSome}
use Rattle.rules_code.specs.evaluation.Surroundings.{Contract}
use Rattle.rules_code.specs.instructions.Arguments.{found}
use Rattle.rules_code.specs.typing.Nodes.{script}
use Rattle.rules_code.specs.typing.Scripts as typing
use Rattle.rules_data.specs.types.Kind.{Kind}
use Rattle.rules_data.specs.values.Tickets.{Identity, tickets}
use Rattle.rules_data.specs.values.Val.{Val}
use Rattle.rules_files.specs.snapshots.Rules.{byte_order, is_above, is_contract, is_hash, is_paid, is_stored}
use Rattle.rules_files.specs.snapshots.Spelt.{HasSpelling, IsNode}
use Rattle.rules_files.specs.snapshots.State.{State}
use Rattle.rules_text.specs.nodes.Tree.{Tree, size}
use Rattle.laws_data.proofs.binary_lemmas.Sizes.{half_as_many}
use Rattle.mich_base.specs.TypeView.{kind}
use Rattle.mich_bigmap.specs.Formed.{is_there}
use Rattle.mich_bigmap.specs.Layers.{BasedLayer, HasBases}
use Rattle.mich_bigmap.specs.Stored.{no_bases}
use Rattle.mich_bigmap.proofs.ForCallers.{each_more}
use Rattle.mich_instr.specs.Code.{ScriptCode}
use Rattle.mich_instr.specs.Typed.{IsScript, is_script}
use Rattle.mich_instr.specs.View.{script_code, script_node, storage_of}
use Rattle.mich_instr.specs.declared.instr.Script.{Script, out-Script}
use Rattle.mich_instr.specs.declared.instr.Script as scripts
use Rattle.mich_saved.specs.Formed.{AloneLayer, IsAlone as Alone}
use Rattle.mich_saved.specs.KeptStates.{IsKeptContract}
use Rattle.mich_saved.specs.Parts.{KeptContract}
use Rattle.mich_saved.specs.Sound.{IsKept}
use Rattle.mich_term.specs.Layers.{AreFormed}
use Rattle.mich_term.specs.declared.value.Value.{Value}
use Rattle.mich_snapshot.specs.Holders.{IsOfSpelt, IsPaying, IsScriptOf, storage_rules}
use Rattle.mich_snapshot.specs.Sums.{Finds, Sums, have_totals, more_tickets}
use Rattle.mich_snapshot.proofs.ContractRules.{bad_hash, no_storage, storage_decides, storage_spelt}

-- a node that has a spelling is small
pub small_node : (t : Tree) → IsNode t → size t < 2 ^ 32
small_node t h = omega (arith, half_as_many t, h.0)

pub small_script : (d : List ℕ × KeptContract) → IsOfSpelt d → size d.1.script < 2 ^ 32
small_script d h = subst (λ (t : Tree). size t < 2 ^ 32) h.2.script (small_node h.0.1.script h.1.3)

-- the typing of a script, and the type of its storage
pub record TypedBy (t : Tree) (a : Kind) : Type 0 where
  pub typed : typing.Script
  pub is : script t ≡ found typed
  pub storage : typed.storage ≡ a

storage_kind : (s : Script) → kind (out-Script s).storage ≡ storage_of (script_code s)
storage_kind s = search (rules, scripts.the_lemmas)

typed_by : (t : Tree) (w : ScriptCode) → IsScript t w → TypedBy t (storage_of w)
typed_by t w (is_script e code views) = record { typed = _; is = e; storage = refl }

pub typing_of : (t : Tree) (x : Script) → IsScriptOf t x → TypedBy t (kind (out-Script x).storage)
typing_of t x h = subst (λ (u : Tree). TypedBy u (kind (out-Script x).storage)) h.0
    (subst (TypedBy (script_node x)) (sym (storage_kind x)) (typed_by (script_node x) (script_code x) h.1))

-- the storage that is kept of a contract
pub kept_storage : (c : List ℕ × Contract) (d : List ℕ × KeptContract) (x : Val) → IsKeptContract c d → d.1.storage ≡ Some x → c.1.storage ≡ x
kept_storage c d x h e = subst (IsKept h.storage.0 c.1.storage) e h.storage.2

pub is_paying : (c : List ℕ × Contract) (d : List ℕ × KeptContract) (x : Val) → IsKeptContract c d → d.1.storage ≡ Some x → IsPaying d.1.paid d.1.script x c.1
is_paying c d x h e = (h.paid, h.script, kept_storage c d x h e)

-- and it has a spelling of the type of the script
pub spelt_storage : (d : List ℕ × KeptContract) (x : Val) (a : Kind) → IsOfSpelt d → d.1.storage ≡ Some x → TypedBy d.1.script a → HasSpelling a x
spelt_storage d x a h e t =
    subst (λ (y : Val). HasSpelling a y) (kept_storage h.0 d x h.2 e)
    (subst (λ (k : Kind). HasSpelling k h.0.1.storage) t.storage
    (storage_spelt h.0 t.typed h.1 (ap script h.2.script ∙ t.is)))

-- ---- what is told where the rules fail, and where they hold

fails_so : (s : State) (former : Option (List ℕ)) (c : List ℕ × Contract) (f : Identity → ℕ) (es : Sums) → is_contract s former c ≡ false
    → Finds s (is_contract s former c) f es false
fails_so s former c f es h = (sym h, λ e. absurd cc)

pub none_kept : (s : State) (former : Option (List ℕ)) (c : List ℕ × Contract) (d : List ℕ × KeptContract) (f : Identity → ℕ) (es : Sums) → IsKeptContract c d
    → d.1.storage ≡ None → Finds s (is_contract s former c) f es false
none_kept s former c d f es h e = fails_so s former c f es (no_storage s former c d h e)

-- whether the 20 bytes stand where they should
abbrev pub stands : State → Option (List ℕ) → List ℕ → Bool
stands s former hash = is_above byte_order former hash && is_hash s hash

pub hash_fails : (s : State) (former : Option (List ℕ)) (c : List ℕ × Contract) (d : List ℕ × KeptContract) (f : Identity → ℕ) (es : Sums) (b : Bool)
    → IsKeptContract c d → b ≡ stands s former d.0 → b ≡ false → Finds s (is_contract s former c) f es false
hash_fails s former c d f es b h e g = fails_so s former c f es (bad_hash s former c (ap (stands s former) h.hash ∙ sym e ∙ g))

storage_tells : (s : State) (former : Option (List ℕ)) (c : List ℕ × Contract) (d : List ℕ × KeptContract) (a : Kind) (pays : Bool) (b : Bool)
    → IsKeptContract c d → s.pays ≡ pays → b ≡ stands s former d.0 → b ≡ true → TypedBy d.1.script a → is_contract s former c ≡ storage_rules s pays a c.1
storage_tells s former c d a pays b h p e g t =
    let hash : stands s former c.0 ≡ true = ap (stands s former) h.hash ∙ sym e ∙ g in
    storage_decides s former c t.typed hash (ap script h.script ∙ t.is) ∙ (λ k. storage_rules s (p k) (t.storage k) c.1)

pub storage_fails : (s : State) (former : Option (List ℕ)) (c : List ℕ × Contract) (d : List ℕ × KeptContract) (a : Kind) (pays : Bool)
    (f : Identity → ℕ) (es : Sums) (b x : Bool) → IsKeptContract c d → s.pays ≡ pays → b ≡ stands s former d.0 → b ≡ true
    → TypedBy d.1.script a → Finds s (storage_rules s pays a c.1) f es x
    → x ≡ false → Finds s (is_contract s former c) f es false
storage_fails s former c d a pays f es b x h p e g t finds wrong =
    fails_so s former c f es (storage_tells s former c d a pays b h p e g t ∙ sym finds.0 ∙ wrong)

pub storage_passes : (s : State) (former : Option (List ℕ)) (c : List ℕ × Contract) (d : List ℕ × KeptContract) (a : Kind) (pays : Bool)
    (f : Identity → ℕ) (es : Sums) (b x : Bool) → IsKeptContract c d → s.pays ≡ pays → b ≡ stands s former d.0 → b ≡ true
    → TypedBy d.1.script a → Finds s (storage_rules s pays a c.1) f es x
    → x ≡ true → Finds s (is_contract s former c) f es true
storage_passes s former c d a pays f es b x h p e g t finds right =
    (sym right ∙ finds.0 ∙ sym (storage_tells s former c d a pays b h p e g t), λ _. finds.1 right)

-- ---- the rules of a storage

pub not_stored : (s : State) (pays : Bool) (a : Kind) (c : Contract) (paid : ℕ) (t : Tree) (x : Val) (f : Identity → ℕ) (es : Sums) (b : Bool)
    → IsPaying paid t x c → b ≡ is_stored a x → b ≡ false → Finds s (storage_rules s pays a c) f es false
not_stored s pays a c paid t x f es b h e g =
    (sym (ap (λ (k : Bool). k && is_paid pays c && have_totals s (tickets c.storage)) (ap (is_stored a) h.2 ∙ sym e ∙ g)), λ e. absurd cc)

pub not_paid : (s : State) (pays : Bool) (a : Kind) (c : Contract) (paid : ℕ) (t : Tree) (x : Val) (f : Identity → ℕ) (es : Sums) (b p : Bool)
    → IsPaying paid t x c → b ≡ is_stored a x → b ≡ true → p ≡ is_paid pays c → p ≡ false → Finds s (storage_rules s pays a c) f es false
not_paid s pays a c paid t x f es b p h e g paying wrong =
    (sym (λ k. (ap (is_stored a) h.2 ∙ sym e ∙ g) k && (sym paying ∙ wrong) k && have_totals s (tickets c.storage)), λ e. absurd cc)

pub totals_decide : (s : State) (pays : Bool) (a : Kind) (c : Contract) (paid : ℕ) (t : Tree) (x : Val) (f : Identity → ℕ) (es : Sums) (b p r : Bool)
    → IsPaying paid t x c → b ≡ is_stored a x → b ≡ true → p ≡ is_paid pays c → p ≡ true → Finds s (have_totals s (tickets x)) (more_tickets f (tickets x)) es r
    → Finds s (storage_rules s pays a c) (more_tickets f (tickets c.storage)) es r
totals_decide s pays a c paid t x f es b p r h e g paying right finds =
    let same : Finds s (have_totals s (tickets c.storage)) (more_tickets f (tickets c.storage)) es r =
    subst (λ (y : Val). Finds s (have_totals s (tickets y)) (more_tickets f (tickets y)) es r) (sym h.2) finds in
    (same.0 ∙ sym (λ k. (ap (is_stored a) h.2 ∙ sym e ∙ g) k && (sym paying ∙ right) k && have_totals s (tickets c.storage)), same.1)

-- ---- what is made

pub alone_is : (o : Option Value) (x : Value) → IfSome o Alone → o ≡ Some x → AreFormed x × HasBases no_bases.bases.present x
alone_is o x h e =
    let here : Alone x = subst (λ (p : Option Value). IfSome p Alone) e h in
    (here.formed, each_more AloneLayer (BasedLayer no_bases.bases.present) (λ b none. ap (is_there no_bases.bases.present) none) x here.alone)

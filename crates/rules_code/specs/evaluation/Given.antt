-- Instructions that give what is written in their arguments: literals, lambdas, entrypoints of the script itself, and new
-- contracts (Michelson reference, PUSH, LAMBDA, LAMBDA_REC, SELF and CREATE_CONTRACT). The types after each are those of
-- its typing.
use Rattle.std.specs.Prelude.{ℕ, pos, Bool, List, ◌∷◌, Option, Some, None}
use Rattle.rules_text.specs.nodes.Tree.{Tree, seq, Trees, none, more}
use Rattle.rules_data.specs.forms.Spelling.{contract_place, spelled_address}
use Rattle.rules_data.specs.declared.gas.Kind.{Kind as Priced}
use Rattle.rules_data.specs.declared.gas.Kind.TheVariants as g
use Rattle.rules_data.specs.types.Kind.{Kind}
use Rattle.rules_code.specs.instructions.Arguments.{Found, found, fault}
use Rattle.rules_code.specs.instructions.Control.{push_of, self_of}
use Rattle.rules_data.specs.values.Val.{Val, number, bytes, nothing, some, lambda}
use Rattle.rules_data.specs.values.Literals.{Literal, good, bad, read}
use Rattle.rules_data.specs.values.Weight.{weight}
use Rattle.rules_code.specs.typing.Typing.{Typing, goes, fails, bad}
use Rattle.rules_code.specs.evaluation.Operations.{origination, new_contract}
use Rattle.rules_code.specs.evaluation.Outcome.{Outcome, stack, stuck, Run, unless_stuck, charge}
use Rattle.rules_code.specs.evaluation.Branches.{paid}
use Rattle.rules_code.specs.evaluation.Issuing.{issue, with_origination}

-- what was read of the arguments
abbrev pub on_found : {A : Type 0} → Found A → (A → Outcome) → Outcome
on_found (found x) go = go x
on_found (fault l) go = stuck

-- the types after an instruction that is typed
abbrev pub on_goes : Typing → (List Kind → Outcome) → Outcome
on_goes (goes B) go = go B
on_goes fails go = stuck
on_goes (bad l) go = stuck

-- ---- PUSH

abbrev pub value_of : Literal Val → Option Val
value_of (good x pending) = Some x
value_of (bad l) = None

abbrev pub push_run : Trees → Typing → Run
push_run ts typing e d A V m =
    on_found (push_of ts) (λ p. unless_stuck (value_of (read p.kind p.location p.literal)) (λ x. on_goes typing (λ B.
    charge e.prices g.Push (weight x) m (λ m. stack B (x ∷ V) m))))

-- ---- LAMBDA and LAMBDA_REC

-- the body behind the two types
abbrev pub body_of : Trees → Option Tree
body_of (more a (more r (more (seq ts) none))) = Some (seq ts)
body_of ts = None

abbrev pub lambda_run : Priced → Bool → Trees → Typing → Run
lambda_run kind recursive ts typing e d A V m =
    unless_stuck (body_of ts) (λ body. on_goes typing (λ B. paid e kind m (λ m. stack B (lambda body recursive ∷ V) m)))

-- ---- SELF

abbrev pub self_run : List (List ℕ) → Trees → Typing → Run
self_run annots ts typing e d A V m =
    on_found (self_of annots ts) (λ name. on_goes typing (λ B. paid e g.SelfContract m (λ m.
    stack B (bytes (spelled_address (contract_place e.environment.own) name) ∷ V) m)))

-- ---- CREATE_CONTRACT

abbrev pub script_of : Trees → Option Tree
script_of (more t none) = Some t
script_of ts = None

-- an optional key hash
abbrev pub on_delegate : Val → (Option (List ℕ) → Outcome) → Outcome
on_delegate nothing go = go None
on_delegate (some (bytes key_hash)) go = go (Some key_hash)
on_delegate _ go = stuck

-- a delegate, an amount and a storage, with what follows
abbrev pub on_origination : List Val → (Option (List ℕ) → ℕ → Val → List Val → Outcome) → Outcome
on_origination (x ∷ number (pos amount) ∷ y ∷ V) go = on_delegate x (λ delegate. go delegate amount y V)
on_origination _ go = stuck

-- the operation, and the address that the new contract will have
abbrev pub create_run : Trees → Typing → Run
create_run ts typing e d A V m =
    unless_stuck (script_of ts) (λ script. on_goes typing (λ B. on_origination V (λ delegate amount storage V.
    paid e g.CreateContract m (λ m.
    let hash = new_contract e.group m.originations in
    issue (origination delegate amount script storage hash) (with_origination m) (λ o m.
    stack B (o ∷ bytes (contract_place hash) ∷ V) m)))))

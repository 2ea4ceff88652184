-- SELF.
use Rattle.std.proofs.Common.{◌≡◌, ℕ, nat_le, Bool, true, false, List, [], ◌∷◌, length, Option, Some, None, refl, sym, ap, ◌∙◌, arith}
use Rattle.std.specs.Prelude.{option_and_then, if◌then◌else◌}
use Rattle.std.proofs.lemmas.Int.{ints}
use Rattle.rules_text.specs.nodes.Limits.{type_limit}
use Rattle.rules_text.specs.nodes.Tree.{Trees, none, more}
use Rattle.rules_text.specs.declared.nodes.Primitive.{Primitive}
use Rattle.rules_data.specs.forms.Spelling.{default_name, contract_place, spelled_address, is_entrypoint}
use Rattle.rules_data.specs.declared.gas.Kind.TheVariants as g
use Rattle.rules_data.specs.types.Kind.{Kind, nodes}
use Rattle.rules_data.specs.types.Kind as k
use Rattle.rules_data.specs.types.Entrypoints.{Entry, find_entry}
use Rattle.rules_code.specs.instructions.Context.{Context}
use Rattle.rules_code.specs.instructions.Context as place
use Rattle.rules_code.specs.instructions.Arguments.{Found, found, fault, annotated, no_argument}
use Rattle.rules_code.specs.instructions.Control.{self_of}
use Rattle.rules_code.specs.instructions.Forms as f
use Rattle.rules_data.specs.values.Val.{Val}
use Rattle.rules_data.specs.values.Val as v
use Rattle.rules_code.specs.typing.Typing.{goes}
use Rattle.rules_code.specs.typing.Typing as typing
use Rattle.rules_code.specs.typing.Scripts.{Script}
use Rattle.rules_code.specs.typing.Acts.{of_entry, self_type}
use Rattle.rules_code.specs.evaluation.Surroundings.{Contract, Surroundings}
use Rattle.rules_code.specs.evaluation.Operations.{Tally}
use Rattle.rules_code.specs.evaluation.Outcome.{Outcome, stack}
use Rattle.rules_code.specs.evaluation.Branches.{paid}
use Rattle.rules_code.specs.evaluation.Contracts.{Lookup, if_found, entry_in, hash_in, has_kind, takes, is_contract_of}
use Rattle.rules_code.specs.evaluation.Given.{on_found, on_goes, self_run}
use Rattle.laws_code.specs.evaluation.Laws.{IsGood, IsOwnContext}
use Rattle.laws_code.specs.stacks.Sound.{seen, Sound, KeepsFrom, SafeRun}
use Rattle.laws_data.proofs.types_lemmas.ForCallers.{same_kind_refl}
use Rattle.laws_code.proofs.stacks.ForCallers.{after_still, keeps_charge, take_front, taken_there, spelled_is, default_is}
use Rattle.laws_code.proofs.typed.ForCallers.{FoundHas, found_then, named_entrypoint, Outlined, outlined}
use Rattle.laws_data.proofs.forms_lemmas.ForCallers.{contract_is}
use Rattle.laws_code.proofs.control.ForCallers.{act_typer}

no_more : (ts : Trees) (name : List ℕ) → is_entrypoint name ≡ true → FoundHas (λ n. is_entrypoint n ≡ true) (no_argument ts name)
no_more none name h = h
no_more (more t ts) name h = tt

self_named : (annots : List (List ℕ)) (ts : Trees) → FoundHas (λ n. is_entrypoint n ≡ true) (self_of annots ts)
self_named annots ts = found_then (λ n. is_entrypoint n ≡ true) (λ n. is_entrypoint n ≡ true) (annotated default_name annots) _
    (named_entrypoint default_name annots default_is) (λ n h. no_more ts n h)

-- a contract takes what its entrypoint takes
takes_own : (at : Lookup) (own : List ℕ) (c : Contract) (s : Script) (name : List ℕ) (en : Entry) → length own ≡ 20 →
    at own ≡ Some c → Outlined c.script s → find_entry name s.entries ≡ Some en →
    takes at (contract_place own) name en.kind ≡ true
takes_own at own c s name en l there o e =
    let hash : hash_in (contract_place own) ≡ own = take_front 20 own (0 ∷ []) l in
    let entries : s.entries ≡ o.types.entries = ap (λ x. x.entries) o.whole in
    ap (λ h. has_kind en.kind (option_and_then (entry_in name) (at h))) hash
    ∙ ap (λ q. has_kind en.kind (option_and_then (entry_in name) q)) there
    ∙ ap (λ q. has_kind en.kind (option_and_then (λ o. find_entry name o.entries) (if_found q))) o.is
    ∙ ap (λ es. has_kind en.kind (find_entry name es)) (sym entries)
    ∙ ap (has_kind en.kind) e
    ∙ same_kind_refl en.kind

module _ (e : Surroundings) (gd : IsGood e) (A : List Kind) (V : List Val) (m : Tally)
    (so : Sound (seen e) m.issued m.changes A V) (name : List ℕ) (named : is_entrypoint name ≡ true) where
  abbrev self_on : List Kind → Outcome
  self_on B = paid e g.SelfContract m (λ m. stack B (v.bytes (spelled_address (contract_place e.environment.own) name) ∷ V) m)

  self_kept : (a : Kind) → is_contract_of e.contract_at a (spelled_address (contract_place e.environment.own) name) ≡ true →
      (b : Bool) →
      KeepsFrom (seen e) m.issued m.changes V (if b then goes (k.contract a ∷ A) else typing.bad 0)
      (on_goes (if b then goes (k.contract a ∷ A) else typing.bad 0) self_on)
  self_kept a h true =
      keeps_charge (seen e) m V (goes (k.contract a ∷ A)) e.prices g.SelfContract 0
      (λ m. stack (k.contract a ∷ A) (v.bytes (spelled_address (contract_place e.environment.own) name) ∷ V) m)
      (λ i. (
        refl,
        after_still A (k.contract a ∷ A) (v.bytes (spelled_address (contract_place e.environment.own) name) ∷ V)
            (record m { gas = i }) so (
              (spelled_is (contract_place e.environment.own) name (contract_is e.environment.own gd.environment.own) named, h),
              so.fit,
            ) (λ id. omega (arith, ints)),
      ))
  self_kept a h false = tt

  by_entry : (c : Contract) (s : Script) → e.contract_at e.environment.own ≡ Some c → Outlined c.script s →
      (o : Option Entry) → find_entry name s.entries ≡ o →
      KeepsFrom (seen e) m.issued m.changes V (of_entry o A) (on_goes (of_entry o A) self_on)
  by_entry c s there out None q = tt
  by_entry c s there out (Some en) q =
      self_kept en.kind
      (taken_there e.contract_at (contract_place e.environment.own) name en.kind
      (contract_is e.environment.own gd.environment.own) named
      (takes_own e.contract_at e.environment.own c s name en gd.environment.own there out q))
      (nat_le (nodes (k.contract en.kind)) type_limit)

  by_context : (x : Context) → IsOwnContext x gd.own.0 → KeepsFrom (seen e) m.issued m.changes V (self_type name x A)
      (on_goes (self_type name x A) self_on)
  by_context (place.main es) h =
      by_entry gd.own.0 h.0 gd.own.1 (outlined gd.own.0.script h.0 h.1) (find_entry name es) (ap (find_entry name) (sym h.2))
  by_context place.view h = tt
  by_context place.lambda h = tt

by_name : (e : Surroundings) (gd : IsGood e) (A : List Kind) (V : List Val) (m : Tally) →
    Sound (seen e) m.issued m.changes A V → (q : Found (List ℕ)) → FoundHas (λ n. is_entrypoint n ≡ true) q →
    KeepsFrom (seen e) m.issued m.changes V (typing.on_found q (λ name. self_type name e.context A))
    (on_found q (λ name. on_goes (typing.on_found q (λ name. self_type name e.context A))
    (λ B. paid e g.SelfContract m (λ m. stack B (v.bytes (spelled_address (contract_place e.environment.own) name) ∷ V) m))))
by_name e gd A V m so (found name) h = by_context e gd A V m so name h e.context gd.own.2
by_name e gd A V m so (fault l) h = tt

pub selves : (name : Option Primitive) (annots : List (List ℕ)) (ts : Trees) →
    SafeRun (act_typer f.self name annots ts) (λ e d A V m. self_run annots ts
    (act_typer f.self name annots ts e.context A) e d A V m)
selves name annots ts e d A V m gd so = by_name e gd A V m so (self_of annots ts) (self_named annots ts)

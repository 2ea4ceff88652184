-- Instructions that give what is written in their arguments.
use Rattle.std.proofs.Common.{◌≡◌, ℕ, ◌+◌, Bool, true, false, cond, List, [], ◌∷◌, ◌++◌, Option, Some, None, refl, subst, arith}
use Rattle.std.specs.Prelude.{pos, replicate}
use Rattle.std.specs.Str.{bytes_eq}
use Rattle.std.specs.Int.{w32, w64, to_be_bytes}
use Rattle.rules_text.specs.nodes.Tree.{Tree, int, str, bytes, prim, seq, Trees, none, more, size}
use Rattle.rules_data.specs.declared.gas.Kind.{Kind as Priced}
use Rattle.rules_data.specs.declared.gas.Kind.TheVariants as price
use Rattle.rules_data.specs.forms.Spelling.{default_name, is_entrypoint, contract_place, written_entrypoint, spelled_address}
use Rattle.rules_data.specs.types.Kind.{Kind}
use Rattle.rules_data.specs.types.Attributes.{pushable}
use Rattle.rules_code.specs.instructions.Arguments.{Found, found, fault, and_then, no_argument, type_argument, annotated}
use Rattle.rules_code.specs.instructions.Control.{Pushed, push_of, self_of}
use Rattle.rules_data.specs.values.Val.{Val}
use Rattle.rules_data.specs.values.Val as v
use Rattle.rules_data.specs.values.Literals.{Literal, good, bad, read}
use Rattle.rules_data.specs.values.Weight.{weight}
use Rattle.rules_code.specs.typing.Typing.{Typing}
use Rattle.rules_code.specs.evaluation.Surroundings.{Surroundings}
use Rattle.rules_code.specs.evaluation.Operations.{Tally, origination, new_contract}
use Rattle.rules_code.specs.evaluation.Outcome.{Outcome}
use Rattle.rules_code.specs.evaluation.Issuing.{with_origination}
use Rattle.rules_code.specs.evaluation.Given.{value_of, push_run, body_of, lambda_run, self_run, script_of, on_delegate, on_origination, create_run}
use Rattle.laws_code.proofs.typed.ForCallers.{FoundHas, found_then, named_entrypoint}
use Rattle.laws_commands.specs.written.Written.{HasForm, HaveForms, IsByte, AreBytes, IsWritten, AllWritten, IsWrittenTally}
use Rattle.laws_commands.proofs.written_lemmas.values.Bytes.{high_first, contract_bytes}
use Rattle.laws_commands.proofs.common.Readings.{Gives}
use Rattle.laws_commands.proofs.written_lemmas.values.Literals.{reads}
use Rattle.laws_commands.proofs.written_lemmas.evaluation.Tags.{name_bytes}
use Rattle.laws_commands.proofs.written_lemmas.evaluation.Stands.{Keeps, Begins, refuelled, keeps_unless, keeps_found, keeps_goes, keeps_charge, keeps_paid, keeps_issue}
use Rattle.laws_commands.proofs.common.Lists.{all_append, all_replicate}

found_is : {A : Type 0} (P : A → Type 0) (o : Found A) (x : A) → FoundHas P o → o ≡ found x → P x
found_is P o x h e = subst (FoundHas P) e h

abbrev LiteralWritten : Pushed → Type 0
LiteralWritten p = HasForm p.literal

pushed_written : (ts : Trees) → HaveForms ts → FoundHas LiteralWritten (push_of ts)
pushed_written (more t (more x none)) h = by (type_argument pushable 1 t)
  where
    by : (a : Found Kind) → FoundHas LiteralWritten (and_then a (λ a. found record { kind = a; location = 1 + size t; literal = x }))
    by (found a) = h.1.0
    by (fault l) = tt
pushed_written none h = tt
pushed_written (more t none) h = tt
pushed_written (more t (more x (more y ts))) h = tt

value_written : (l : Literal Val) (x : Val) → Gives IsWritten l → value_of l ≡ Some x → IsWritten x
value_written (good y ps) x h e = let f : y ≡ x = cc in subst IsWritten f h
value_written (bad l) x h e = absurd cc

body_written : (ts : Trees) (t : Tree) → HaveForms ts → body_of ts ≡ Some t → HasForm t
body_written (more a (more r (more (seq ts) none))) t h e = let f : seq ts ≡ t = cc in subst HasForm f h.1.1.0
body_written none t h e = absurd cc
body_written (more a none) t h e = absurd cc
body_written (more a (more r none)) t h e = absurd cc
body_written (more a (more r (more (int n) ts))) t h e = absurd cc
body_written (more a (more r (more (str n) ts))) t h e = absurd cc
body_written (more a (more r (more (bytes n) ts))) t h e = absurd cc
body_written (more a (more r (more (prim n as' us) ts))) t h e = absurd cc
body_written (more a (more r (more (seq us) (more w ts)))) t h e = absurd cc

pub spelled_bytes : (place name : List ℕ) → AreBytes place → AreBytes name → AreBytes (spelled_address place name)
spelled_bytes place name h g = all_append IsByte place (written_entrypoint name) h (by (bytes_eq name default_name))
  where
    by : (b : Bool) → AreBytes (cond b [] name)
    by true = tt
    by false = g

self_named : (annots : List (List ℕ)) (ts : Trees) → FoundHas AreBytes (self_of annots ts)
self_named annots ts =
    found_then (λ name. is_entrypoint name ≡ true) AreBytes (annotated default_name annots) (λ name. no_argument ts name)
    (named_entrypoint default_name annots refl) (λ name h. by ts name h)
  where
    by : (ts : Trees) (name : List ℕ) → is_entrypoint name ≡ true → FoundHas AreBytes (no_argument ts name)
    by none name h = name_bytes name h
    by (more t ts) name h = tt

pub new_bytes : (group index : ℕ) → AreBytes (new_contract group index)
new_bytes group index =
    all_append IsByte (to_be_bytes w64 group ++ to_be_bytes w32 index) (replicate 8 0)
    (all_append IsByte (to_be_bytes w64 group) (to_be_bytes w32 index) (high_first 8 group) (high_first 4 index))
    (all_replicate IsByte 8 0 (omega arith))

script_is : (ts : Trees) (t : Tree) → HaveForms ts → script_of ts ≡ Some t → HasForm t
script_is (more u none) t h e = let f : u ≡ t = cc in subst HasForm f h.0
script_is none t h e = absurd cc
script_is (more u (more w ts)) t h e = absurd cc

module _ (There : List ℕ → Type 0) where
  pub keeps_push : (ts : Trees) → HaveForms ts → (typing : Typing) (e : Surroundings) (d : ℕ) (A : List Kind) (V : List Val) (m : Tally) →
      Begins There e A V m →
      Keeps There (push_run ts typing e d A V m)
  keeps_push ts f typing e d A V m g =
      keeps_found There (push_of ts) _ (λ p i. keeps_unless There (value_of (read p.kind p.location p.literal)) _
      (λ x j. keeps_goes There typing _ (λ B. keeps_charge There e.prices price.Push (weight x) m _ (λ gas. (
        (
          value_written (read p.kind p.location p.literal) x
              (reads p.kind p.location p.literal (found_is LiteralWritten (push_of ts) p (pushed_written ts f) i)) j,
          g.values,
        ),
        (refuelled There gas g).tally,
      )))))

  pub keeps_function : (kind : Priced) (self : Bool) (ts : Trees) → HaveForms ts → (typing : Typing) (e : Surroundings) (d : ℕ)
      (A : List Kind) (V : List Val) (m : Tally) →
      Begins There e A V m → Keeps There (lambda_run kind self ts typing e d A V m)
  keeps_function kind self ts f typing e d A V m g =
      keeps_unless There (body_of ts) _ (λ body i. keeps_goes There typing _ (λ B. keeps_paid There e kind m _ (λ gas.
      ((body_written ts body f i, g.values), (refuelled There gas g).tally))))

  pub keeps_self : (annots : List (List ℕ)) (ts : Trees) (typing : Typing) (e : Surroundings) (d : ℕ) (A : List Kind) (V : List Val)
      (m : Tally) → Begins There e A V m →
      Keeps There (self_run annots ts typing e d A V m)
  keeps_self annots ts typing e d A V m g =
      keeps_found There (self_of annots ts) _ (λ name i. keeps_goes There typing _ (λ B. keeps_paid There e price.SelfContract m _ (λ gas. (
        (
          spelled_bytes (contract_place e.environment.own) name (contract_bytes e.environment.own g.sees.environment.own)
              (found_is AreBytes (self_of annots ts) name (self_named annots ts) i),
          g.values,
        ),
        (refuelled There gas g).tally,
      ))))

  keeps_delegate : (x : Val) (go : Option (List ℕ) → Outcome) → ((o : Option (List ℕ)) → Keeps There (go o)) → Keeps There (on_delegate x go)
  keeps_delegate v.nothing go h = h None
  keeps_delegate (v.some (v.bytes b)) go h = h (Some b)
  keeps_delegate _ go h = tt

  keeps_origination : (V : List Val) (go : Option (List ℕ) → ℕ → Val → List Val → Outcome) → AllWritten V →
      ((o : Option (List ℕ)) (n : ℕ) (y : Val) (W : List Val) → IsWritten y → AllWritten W → Keeps There (go o n y W)) → Keeps There (on_origination V go)
  keeps_origination (x ∷ v.number (pos n) ∷ y ∷ W) go g h = keeps_delegate x (λ o. go o n y W) (λ o. h o n y W g.1.1.0 g.1.1.1)
  keeps_origination _ go g h = tt

  pub keeps_create : (ts : Trees) → HaveForms ts → (typing : Typing) (e : Surroundings) (d : ℕ) (A : List Kind) (V : List Val)
      (m : Tally) → Begins There e A V m →
      Keeps There (create_run ts typing e d A V m)
  keeps_create ts f typing e d A V m g =
      keeps_unless There (script_of ts) _ (λ script i. keeps_goes There typing _
      (λ B. keeps_origination V _ g.values (λ delegate amount y W w u. keeps_paid There e price.CreateContract m _ (λ gas.
      let hash = new_contract e.group m.originations in
      let t = (refuelled There gas g).tally in
      let counted : IsWrittenTally There (with_origination (record m { gas = gas })) = record { issued = t.issued; changes = t.changes; issuers = t.issuers } in
      keeps_issue There (origination delegate amount script y hash) (with_origination (record m { gas = gas })) _ (
        script_is ts script f i,
        w,
        new_bytes e.group m.originations,
        refl,
      ) counted
      (λ n j q. ((tt, (contract_bytes hash (new_bytes e.group m.originations), u)), q))))))

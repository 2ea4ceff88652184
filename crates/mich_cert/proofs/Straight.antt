-- Instructions without bodies, with the limit of types.
use Rattle.std.proofs.Common.{◌≡◌, ℕ, Bool, true, false, ◌&&◌, Option, Some, None, List, [], ◌∷◌, ◌++◌, refl, sym, ap, ◌∙◌, subst}
use Rattle.std.specs.List.{list_all}
use Rattle.std.specs.Prelude.{◌-◌, option_map, option_and_then, slice_get}
use Rattle.std.proofs.lemmas.Bool.{and_parts}
use Rattle.rules_text.specs.declared.nodes.Primitive.{Primitive}
use Rattle.rules_text.specs.nodes.Tree.{Trees}
use Rattle.rules_data.specs.types.Kind.{Kind}
use Rattle.rules_code.specs.instructions.Arguments.{Found, found, fault}
use Rattle.rules_code.specs.instructions.Change.{Change, after, is_within_limit}
use Rattle.rules_code.specs.instructions.Context.{Context}
use Rattle.rules_code.specs.instructions.Effect.{change}
use Rattle.rules_code.specs.instructions.Forms.{Form, form_of}
use Rattle.rules_code.specs.instructions.Forms as f
use Rattle.rules_code.specs.instructions.Instructions.{Instruction, choose, instruction}
use Rattle.rules_code.specs.instructions.Rules.{with_change, with_row, with_instruction}
use Rattle.rules_code.specs.instructions.Same.{same_kinds}
use Rattle.rules_code.specs.instructions.Straight.{Straight}
use Rattle.rules_code.specs.typing.Acts.{act_type, of_rule}
use Rattle.rules_code.specs.typing.Nodes.{bodies, script_in, typings, typing_of}
use Rattle.rules_code.specs.typing.Scripts.{is_small}
use Rattle.rules_code.specs.typing.Typing.{shift}
use Rattle.laws_data.proofs.types_lemmas.ForCallers.{same_kinds_true}
use Rattle.mich_cert.specs.Walk.{ends_so, typed_by}
use Rattle.mich_cert.specs.Leading.{leads, after_of}

front_small : (A B : List Kind) → list_all is_small (A ++ B) ≡ true → list_all is_small A ≡ true
front_small [] B h = refl
front_small (a ∷ A) B h =
    let hs = and_parts (is_small a) (list_all is_small (A ++ B)) h in
    ap (λ q. q && list_all is_small A) hs.0 ∙ front_small A B hs.1

-- a stack within the limit isn't one that an instruction beyond it would leave
too_large : (c : Change) (B : List Kind) → is_within_limit c ≡ false → list_all is_small B ≡ true → same_kinds (after c) B ≡ false
too_large c B e h = by (same_kinds (after c) B) refl
  where
    by : (q : Bool) → same_kinds (after c) B ≡ q → same_kinds (after c) B ≡ false
    by false g = g
    by true g =
        let small : list_all is_small (after c) ≡ true = subst (λ C. list_all is_small C ≡ true) (sym (same_kinds_true (after c) B g)) h in
        let made : is_within_limit c ≡ true = front_small c.made c.kept small in
        absurd cc

leads_within : (r : Straight) (o : Option Change) (B : List Kind) → list_all is_small B ≡ true → leads (option_map after o) B ≡ ends_so (of_rule (with_change r o)) (Some B)
leads_within r None B h = refl
leads_within r (Some c) B h = by (is_within_limit c) refl
  where
    by : (q : Bool) → is_within_limit c ≡ q → same_kinds (after c) B ≡ ends_so (of_rule (with_change r (Some c))) (Some B)
    by true e = rw e refl
    by false e = rw e (too_large c B e h)

row_leads : (o : Option Straight) (A B : List Kind) → list_all is_small B ≡ true →
    leads (option_and_then (λ r. option_map after (change r A)) o) B ≡ ends_so (of_rule (with_row o A)) (Some B)
row_leads None A B h = refl
row_leads (Some r) A B h = leads_within r (change r A) B h

pub rule_leads : (q : Found Instruction) (A B : List Kind) → list_all is_small B ≡ true → leads (after_of q A) B ≡ ends_so (of_rule (with_instruction q A)) (Some B)
rule_leads (found x) A B h = row_leads (choose x A) A B h
rule_leads (fault l) A B h = refl

abbrev by_form : Option Primitive → List (List ℕ) → Trees → Context → List Kind → Option (List Kind) → Form → Bool
by_form op annots ts c A o form =
    ends_so (act_type form op annots ts record {
      bodies = bodies ts 1;
      script = λ at. script_in ts at;
      typing_at = λ l c A. shift l (typing_of (slice_get (typings ts) (l - 1)) c A);
    } c A) o

pub straight_leads : (op : Option Primitive) (annots : List (List ℕ)) (ts : Trees) (c : Context) (A B : List Kind) → form_of op ≡ f.straight → list_all is_small B ≡ true →
    leads (after_of (instruction op annots ts) A) B ≡ ends_so (typed_by op annots ts c A) (Some B)
straight_leads op annots ts c A B e h = rule_leads (instruction op annots ts) A B h ∙ sym (ap (by_form op annots ts c A (Some B)) e)

-- a straight instruction doesn't fail
change_goes : (r : Straight) (o : Option Change) → ends_so (of_rule (with_change r o)) None ≡ false
change_goes r None = refl
change_goes r (Some c) = by (is_within_limit c) refl
  where
    by : (q : Bool) → is_within_limit c ≡ q → ends_so (of_rule (with_change r (Some c))) None ≡ false
    by true e = rw e refl
    by false e = rw e refl

row_goes : (o : Option Straight) (A : List Kind) → ends_so (of_rule (with_row o A)) None ≡ false
row_goes None A = refl
row_goes (Some r) A = change_goes r (change r A)

pub rule_goes : (q : Found Instruction) (A : List Kind) → ends_so (of_rule (with_instruction q A)) None ≡ false
rule_goes (found x) A = row_goes (choose x A) A
rule_goes (fault l) A = refl

pub straight_goes : (op : Option Primitive) (annots : List (List ℕ)) (ts : Trees) (c : Context) (A : List Kind) → form_of op ≡ f.straight → ends_so (typed_by op annots ts c A) None ≡ false
straight_goes op annots ts c A e = ap (by_form op annots ts c A None) e ∙ rule_goes (instruction op annots ts) A

-- What is cut from a string or from bytes, and what is found in a map.
use Rattle.std.proofs.Common.{◌≡◌, ℕ, ℤ, true, List, ◌∷◌, refl, sym, ap, ◌∙◌, subst, arith}
use Rattle.std.specs.Prelude.{◌≤ℤ◌, pos, negsuc, unsigned_abs}
use Rattle.std.proofs.lemmas.Int.{ints}
use Rattle.rules_code.specs.instructions.Straight as i
use Rattle.rules_code.specs.steps.Costs.{collection_weight, length_found, text_weight, weight_found}
use Rattle.rules_code.specs.steps.Texts.{slice}
use Rattle.rules_data.specs.values.Tables.{value_at}
use Rattle.rules_data.specs.values.Val.{Val, Pairs, number, text, bytes, is_comparable}
use Rattle.mich_step.specs.collections.Seen.{pairs_by}
use Rattle.mich_step.proofs.collections_lemmas.ForCallers.{map_seen}
use Rattle.mich_term.specs.View.{datum}
use Rattle.mich_term.specs.ValueView.{val, value_step}
use Rattle.mich_term.specs.declared.datum.Datum.{Datum}
use Rattle.mich_term.specs.declared.value.Value.{Value, fold-roll-Value}
use Rattle.mich_term.specs.declared.value.Value.TheOpen.{Value-F}
use Rattle.mich_term.specs.declared.value.Value.TheVariants as value
use Rattle.mich_term.specs.declared.value.Value.TheVariants.{rolls-Bytes}
use Rattle.mich_stack.specs.Views.{Sight, seen}
use Rattle.mich_stack.proofs.ForCallers.{comparable_seen, number_seen, text_seen}
use Rattle.mich_step.specs.prices.Operands.{HasKey, HasText}
use Rattle.mich_step.proofs.prices_lemmas.Keys.{comparable_alike}

natural_is : (z : ℤ) → pos 0 ≤ℤ z → pos (unsigned_abs z) ≡ z
natural_is (pos n) h = refl
natural_is (negsuc n) h = absurd (omega (arith, ints))

pub bytes_seen : (big : Sight) (s : List ℕ) → seen big (value.Bytes s) ≡ bytes s
bytes_seen big s = ap (seen big) (sym (rolls-Bytes s)) ∙ fold-roll-Value Val Pairs value_step big (Value-F.Bytes s)

module _ (big : Sight) (V W : List Val) (a b x : Value) (offset count : ℤ) (s : List ℕ) (on : V ≡ seen big a ∷ seen big b ∷ seen big x ∷ W) (first : a ≡ value.Number offset) (second : b ≡ value.Number count) where
  begin : seen big a ≡ number offset
  begin = ap (seen big) first ∙ number_seen big offset

  length_of : seen big b ≡ number count
  length_of = ap (seen big) second ∙ number_seen big count

  module _ (third : x ≡ value.Text s) where
    string_on_top : V ≡ number offset ∷ number count ∷ text s ∷ W
    string_on_top = on ∙ (λ j. begin j ∷ length_of j ∷ (ap (seen big) third ∙ text_seen big s) j ∷ W)

    pub string_parts : HasText i.slice_string V → (pos 0 ≤ℤ offset) × (pos 0 ≤ℤ count)
    string_parts h = subst (HasText i.slice_string) string_on_top h

    pub string_cut : (pos 0 ≤ℤ offset) × (pos 0 ≤ℤ count) → length_found (slice (unsigned_abs offset) (unsigned_abs count) s) ≡ text_weight i.slice_string V
    string_cut h = sym (ap (text_weight i.slice_string) (string_on_top ∙ (λ j. number (sym (natural_is offset h.0) j) ∷ number (sym (natural_is count h.1) j) ∷ text s ∷ W)))

  module _ (third : x ≡ value.Bytes s) where
    bytes_on_top : V ≡ number offset ∷ number count ∷ bytes s ∷ W
    bytes_on_top = on ∙ (λ j. begin j ∷ length_of j ∷ (ap (seen big) third ∙ bytes_seen big s) j ∷ W)

    pub bytes_parts : HasText i.slice_bytes V → (pos 0 ≤ℤ offset) × (pos 0 ≤ℤ count)
    bytes_parts h = subst (HasText i.slice_bytes) bytes_on_top h

    pub bytes_cut : (pos 0 ≤ℤ offset) × (pos 0 ≤ℤ count) → length_found (slice (unsigned_abs offset) (unsigned_abs count) s) ≡ text_weight i.slice_bytes V
    bytes_cut h = sym (ap (text_weight i.slice_bytes) (bytes_on_top ∙ (λ j. number (sym (natural_is offset h.0) j) ∷ number (sym (natural_is count h.1) j) ∷ bytes s ∷ W)))

-- ---- maps

pub found_there : (big : Sight) (V W : List Val) (k m : Value) (es : List (Datum × Value)) (d : Datum) → V ≡ seen big k ∷ seen big m ∷ W → m ≡ value.Map es →
    is_comparable (val k) ≡ true → datum d ≡ val k → weight_found (value_at (datum d) (pairs_by big es)) ≡ collection_weight i.get_map V
found_there big V W k m es d on is comparable same =
    sym (ap (collection_weight i.get_map) (on ∙ (λ j. (comparable_seen big k comparable ∙ sym same) j ∷ (ap (seen big) is ∙ map_seen big es) j ∷ W)))

-- the key is comparable, however big maps are seen
pub key_there : (big : Sight) (V W : List Val) (k m : Value) (es : List (Datum × Value)) → V ≡ seen big k ∷ seen big m ∷ W → m ≡ value.Map es → HasKey i.get_map V → is_comparable (val k) ≡ true
key_there big V W k m es on is h = sym (comparable_alike big k) ∙ subst (HasKey i.get_map) (on ∙ (λ j. seen big k ∷ (ap (seen big) is ∙ map_seen big es) j ∷ W)) h

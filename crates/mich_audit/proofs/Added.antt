-- Parts that are added one after another.
use Rattle.std.proofs.Common.{◌≡◌, ℕ, zero, suc, ◌+◌, ◌<◌, ◌≤◌, List, [], ◌∷◌, ◌++◌, map, length, take, get_or, refl, sym, ap, ◌∙◌, subst, arith, append_assoc, add-one, take-suc}
use Rattle.std.specs.List.{AllByRecursion}
use Rattle.rules_audit.specs.Fields as rules
use Rattle.rules_audit.specs.Lines.{Line}
use Rattle.mich_audit.specs.Tallies.{Entries, AreKept, HasForm}
use Rattle.mich_audit.specs.View.{part_seen, parts_seen}
use Rattle.mich_audit.specs.declared.part.Part.{Part}
use Rattle.std.proofs.lemmas.List.{take_all, map-append}
use Rattle.mich_audit.proofs.Kept.{between_kept}

-- the first parts, so many of them, were added
abbrev pub Added : List rules.Part → List Line → List Part → ℕ → Entries → Type 0
Added ps ls parts i es = AreKept (parts_seen (take i parts) ++ ps) ls es

taken_more : (parts : List Part) (i : ℕ) (part : Part) → i < length parts → part ≡ get_or parts i part → parts_seen (take (i + 1) parts) ≡ parts_seen (take i parts) ++ part_seen part ∷ []
taken_more parts i part h e =
    ap (λ (n : ℕ). parts_seen (take n parts)) (add-one i) ∙ ap parts_seen (take-suc parts i part h) ∙ map-append part_seen (take i parts) (get_or parts i part ∷ [])
    ∙ ap (λ (q : Part). parts_seen (take i parts) ++ part_seen q ∷ []) (sym e)

pub form_at : (parts : List Part) (i : ℕ) (part : Part) → i < length parts → part ≡ get_or parts i part → AllByRecursion (λ p. HasForm p.identity) (parts_seen parts) → HasForm (part_seen part).identity
form_at [] i part h e forms = absurd (omega (arith, h))
form_at (p ∷ parts) zero part h e forms = subst (λ (q : Part). HasForm (part_seen q).identity) (sym e) forms.0
form_at (p ∷ parts) (suc i) part h e forms = form_at parts i part (omega (arith, h)) e forms.1

module _ (ps : List rules.Part) (ls : List Line) (parts : List Part) where
  pub added_more : (i : ℕ) (part : Part) (es : Entries) → i < length parts → part ≡ get_or parts i part
      → AreKept (part_seen part ∷ (parts_seen (take i parts) ++ ps)) ls es → Added ps ls parts (i + 1) es
  added_more i part es h e kept =
      subst (λ (qs : List rules.Part). AreKept qs ls es)
      (sym (ap (λ (qs : List rules.Part). qs ++ ps) (taken_more parts i part h e) ∙ append_assoc (parts_seen (take i parts)) (part_seen part ∷ []) ps))
      (between_kept (parts_seen (take i parts)) (part_seen part) ps ls es kept)

  pub added_all : (i : ℕ) (es : Entries) → length parts ≤ i → Added ps ls parts i es → AreKept (parts_seen parts ++ ps) ls es
  added_all i es h kept = subst (λ (qs : List Part). AreKept (parts_seen qs ++ ps) ls es) (take_all i parts h) kept

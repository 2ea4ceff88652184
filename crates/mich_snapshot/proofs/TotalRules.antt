-- The rules of a total, one after the other.
use Rattle.std.proofs.Common.{◌≡◌, ℕ, Bool, true, false, ◌&&◌, List, [], ◌∷◌, ◌++◌, map, append_assoc, refl, ap, ◌∙◌}
use Rattle.std.proofs.lemmas.List.{map-append}
use Rattle.rules_code.specs.evaluation.Surroundings.{Contract}
use Rattle.rules_files.specs.snapshots.Rules.{is_content}
use Rattle.rules_files.specs.snapshots.State.{Total}
use Rattle.mich_saved.specs.Shown.{total}
use Rattle.mich_saved.specs.declared.parts.ReadTotal.{ReadTotal}
use Rattle.mich_term.specs.declared.ticket.TicketId.{TicketId}
use Rattle.mich_tickets.specs.declared.totals.Totals.{Totals}
use Rattle.mich_snapshot.specs.Holders.{total_of, is_issued, is_left, is_whole_total}

none_after : (a : Bool) → a && false ≡ false
none_after true = refl
none_after false = refl

-- ---- a whole total

pub not_issued : (cs : List (List ℕ × Contract)) (n : ℕ) (t : Total) → is_issued cs t.identity.issuer ≡ false → is_whole_total cs n t ≡ false
not_issued cs n t h = ap (λ x. x && is_left n t && is_content t.identity) h

pub not_left : (cs : List (List ℕ × Contract)) (n : ℕ) (t : Total) → is_left n t ≡ false → is_whole_total cs n t ≡ false
not_left cs n t h =
    ap (λ x. is_issued cs t.identity.issuer && x && is_content t.identity) h
    ∙ ap (λ x. x && is_content t.identity) (none_after (is_issued cs t.identity.issuer))

pub content_decides : (cs : List (List ℕ × Contract)) (n : ℕ) (t : Total) → is_issued cs t.identity.issuer ≡ true → is_left n t ≡ true → is_whole_total cs n t ≡ is_content t.identity
content_decides cs n t h g = λ k. h k && g k && is_content t.identity

-- ---- totals that are saved one after the other

pub one_more_saved : (xs after : List (TicketId × Totals)) (z : TicketId × Totals) (x : ReadTotal) (rest : List ReadTotal) (all : List Total)
    → map total_of xs ++ map (λ t. (total t).1) (x ∷ rest) ≡ all → total_of z ≡ (total x).1 → after ≡ xs ++ z ∷ []
    → map total_of after ++ map (λ t. (total t).1) rest ≡ all
one_more_saved xs after z x rest all h same pushed =
    let left : List Total = map (λ t. (total t).1) rest in
    ap (λ (l : List (TicketId × Totals)). map total_of l ++ left) pushed
    ∙ ap (λ (l : List Total). l ++ left) (map-append total_of xs (z ∷ []))
    ∙ append_assoc (map total_of xs) (total_of z ∷ []) left
    ∙ ap (λ (t : Total). map total_of xs ++ t ∷ left) same
    ∙ h

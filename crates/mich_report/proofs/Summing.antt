-- Sums over the tickets of a world at rest.
use Rattle.std.proofs.Common.{◌≡◌, ℤ, List, [], ◌∷◌, map, refl, sym, ap, ◌∙◌, arith}
use Rattle.std.specs.Prelude.{◌+ℤ◌, ◌-ℤ◌, codes, ℕ}
use Rattle.std.proofs.lemmas.Int.{ints}
use Rattle.rules_text.specs.nodes.Tree.{int}
use Rattle.rules_world.specs.lines.Nodes.{number, over}
use Rattle.rules_world.specs.summary.Summary.{over_tickets, in_all, summary_node}
use Rattle.rules_data.specs.values.Tickets.{Identity}
use Rattle.rules_world.specs.world.Balances.{supply}
use Rattle.rules_world.specs.world.Holdings.{held, minted_ever, burnt_ever, identities}
use Rattle.rules_world.specs.world.World.{World as PlainWorld}
use Rattle.laws_world.specs.lines.Laws.{told}
use Rattle.mich_tickets.specs.Sums.{minted_of, burnt_of}
use Rattle.mich_world.specs.Holders.{total}
use Rattle.mich_world.specs.World.{World}
use Rattle.mich_report.specs.State.{IsAtRest}
use Rattle.mich_report.specs.Summed.{AreSums, over_entries}
use Rattle.mich_report.specs.declared.summary.Sums.{Sums}
use Rattle.mich_report.proofs.Rest.{total_same, held_rest}

-- one more is summed
pub sum_more : (n m f rest whole : ℤ) → m ≡ n +ℤ f → n +ℤ (f +ℤ rest) ≡ whole → m +ℤ rest ≡ whole
sum_more n m f rest whole e h = omega (arith, ints)

pub entries_more : (f : Identity → ℤ) (n m : ℤ) (whole : ℤ) (j : Identity) (a : ℤ) (iter rest : List (Identity × ℤ)) → iter ≡ (j, a) ∷ rest → m ≡ n +ℤ f j →
    n +ℤ over_entries f iter ≡ whole → m +ℤ over_entries f rest ≡ whole
entries_more f n m whole j a iter rest first e h =
    sum_more n m (f j) (over_entries f rest) whole e (ap (λ (es : List (Identity × ℤ)). n +ℤ over_entries f es) (sym first) ∙ h)

-- by what the world says
summed : (f g : Identity → ℤ) → ((j : Identity) → f j ≡ g j) → (a : Identity → ℤ) (ids : List Identity) → over_entries f (map (λ j. (j, a j)) ids) ≡ over_tickets g ids
summed f g same a [] = refl
summed f g same a (j ∷ ids) =
    ap (λ (n : ℤ). n +ℤ over_entries f (map (λ k. (k, a k)) ids)) (same j) ∙ ap (λ (n : ℤ). g j +ℤ n) (summed f g same a ids)

module _ (v : World) (w : PlainWorld) (r : IsAtRest v w) (es : List (Identity × ℤ)) (all : es ≡ told w) where
  sum_is : (f g : Identity → ℤ) → ((j : Identity) → f j ≡ g j) → over_entries f es ≡ over_tickets g (identities w.log)
  sum_is f g same = ap (over_entries f) all ∙ summed f g same (minted_ever w) (identities w.log)

  pub summary_same : (calls applied failed : ℕ) (s : Sums) → AreSums v.ledger.books.present es s →
      over (codes "Summary") (number calls ∷ number applied ∷ number failed ∷ number (total v.funds.present) ∷ int s.minted ∷ int s.burnt ∷ int s.held ∷ [])
      ≡ summary_node calls applied failed w
  summary_same calls applied failed s h =
      let minted = h.minted ∙ sum_is (minted_of v.ledger.books.present) (minted_ever w) r.stands.those.minted in
      let burnt = h.burnt ∙ sum_is (burnt_of v.ledger.books.present) (burnt_ever w) r.stands.those.burnt in
      let held = h.held ∙ sum_is (λ j. minted_of v.ledger.books.present j -ℤ burnt_of v.ledger.books.present j) (held w) (held_rest v w r) in
      ap (λ (n : ℕ). over (codes "Summary") (number calls ∷ number applied ∷ number failed ∷ number n ∷ int s.minted ∷ int s.burnt ∷ int s.held ∷ [])) (total_same v w r.stands)
      ∙ ap (λ (n : ℤ). over (codes "Summary") (number calls ∷ number applied ∷ number failed ∷ number (supply w) ∷ int n ∷ int s.burnt ∷ int s.held ∷ [])) minted
      ∙ ap (λ (n : ℤ). over (codes "Summary") (number calls ∷ number applied ∷ number failed ∷ number (supply w) ∷ int (in_all (minted_ever w) w) ∷ int n ∷ int s.held ∷ [])) burnt
      ∙ ap (λ (n : ℤ). over (codes "Summary") (number calls ∷ number applied ∷ number failed ∷ number (supply w) ∷ int (in_all (minted_ever w) w)
      ∷ int (in_all (burnt_ever w) w) ∷ int n ∷ [])) held

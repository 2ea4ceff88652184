-- What a ledger tells after nothing, and after more burns.
use Rattle.std.proofs.Common.{◌≡◌, List, [], ◌∷◌, ◌++◌, map, append_assoc, refl, sym, ap, subst, ◌∙◌, arith}
use Rattle.std.specs.Prelude.{ℤ, pos}
use Rattle.std.proofs.lemmas.Int.{ints}
use Rattle.std.proofs.lemmas.List.{append-nil, map-append}
use Rattle.rules_data.specs.values.Tickets.{Identity, Held}
use Rattle.rules_code.specs.steps.Changes.{burnt, burns, amount_among, minted_in, burnt_in}
use Rattle.mich_term.specs.TicketView.{held}
use Rattle.mich_term.specs.declared.ticket.Ticket.{Ticket}
use Rattle.mich_tickets.specs.Books.{State}
use Rattle.mich_tickets.specs.Effects.{change, listed_after, Tells}
use Rattle.mich_tickets.specs.Limits.{IsReady}
use Rattle.mich_tickets.specs.Prefixes.{among_append}
use Rattle.mich_tickets.specs.Sums.{minted_of}

pub tells_same : (s : State) → Tells [] s s
tells_same s = record {
  told = sym (append-nil (map change s.changes));
  books = record { minted = λ j. omega (arith, ints); burnt = λ j. omega (arith, ints); held = λ j o. refl; listed = refl };
}

pub tells_equal : (old new : State) → new ≡ old → Tells [] old new
tells_equal old new e = subst (λ s. Tells [] old s) (sym e) (tells_same old)

no_mint : (j : Identity) (ts : List Held) → minted_in j (burns ts) ≡ pos 0
no_mint j [] = refl
no_mint j (t ∷ ts) = no_mint j ts

all_burnt : (j : Identity) (ts : List Held) → burnt_in j (burns ts) ≡ amount_among j ts
all_burnt j [] = refl
all_burnt j (t ∷ ts) = let e = all_burnt j ts in omega (arith, ints)

none_listed : (before : Identity → ℤ) (ids : List Identity) (ts : List Held) → listed_after before ids (burns ts) ≡ ids
none_listed before ids [] = refl
none_listed before ids (t ∷ ts) = none_listed before ids ts

-- one more burn
pub tells_more : (ts : List Held) (t : Held) (a b c : State) → Tells (burns ts) a b → Tells (burnt t ∷ []) b c → Tells (burns (ts ++ t ∷ [])) a c
tells_more ts t a b c p q = record {
  told = q.told ∙ ap (λ l. l ++ burnt t ∷ []) p.told ∙ append_assoc (map change a.changes) (burns ts) (burnt t ∷ [])
      ∙ ap (λ l. map change a.changes ++ l) (sym (map-append burnt ts (t ∷ [])));
  books = record {
    minted = λ j. let x = p.books.minted j in let y = q.books.minted j in let e = no_mint j ts in let f = no_mint j (ts ++ t ∷ []) in omega (arith, ints);
    burnt = λ j. let x = p.books.burnt j in let y = q.books.burnt j in let e = all_burnt j ts in let f = all_burnt j (ts ++ t ∷ []) in
        let g = among_append j ts (t ∷ []) in omega (arith, ints);
    held = λ j o. q.books.held j o ∙ p.books.held j o;
    listed = q.books.listed ∙ p.books.listed ∙ none_listed (minted_of a.books.present) _ ts ∙ sym (none_listed (minted_of a.books.present) _ (ts ++ t ∷ []));
  };
}

-- one more ticket of the code
pub tells_put : (ts : List Ticket) (t : Ticket) (a b c : State) → Tells (burns (map held ts)) a b → Tells (burnt (held t) ∷ []) b c →
    Tells (burns (map held (ts ++ t ∷ []))) a c
tells_put ts t a b c p q = subst (λ l. Tells (burns l) a c) (sym (map-append held ts (t ∷ []))) (tells_more (map held ts) (held t) a b c p q)

-- ---- the next of the tickets that are left

pub left_ready : (l : State) (left rest : List Ticket) (t : Ticket) → left ≡ t ∷ rest → IsReady l.books.present (map held left) →
    IsReady l.books.present (held t ∷ map held rest)
left_ready l left rest t e r = subst (λ ts. IsReady l.books.present (map held ts)) e r

-- What code does to a world, one part after another.
use Rattle.std.proofs.Common.{◌≡◌, ℤ, pos, ◌+ℤ◌, List, [], ◌∷◌, ◌++◌, refl, sym, ◌∙◌, arith}
use Rattle.std.specs.Prelude.{if◌then◌else◌}
use Rattle.std.proofs.lemmas.Int.{ints}
use Rattle.std.specs.Ordering.{int_eq}
use Rattle.rules_code.specs.steps.Changes.{Change, minted, burnt, identity_of, amount_of, minted_in, burnt_in}
use Rattle.rules_data.specs.values.Tickets.{Identity}
use Rattle.rules_world.specs.world.Holdings.{minted_ever}
use Rattle.rules_world.specs.world.World.{World as PlainWorld}
use Rattle.laws_world.proofs.accounts.ForCallers.{minted_append, burnt_append}
use Rattle.mich_bigmap.proofs.ForCallers.{extends_same, extends_trans}
use Rattle.mich_tickets.specs.Books.{Books}
use Rattle.mich_tickets.specs.Effects.{Adds, listed_after, listed_in}
use Rattle.mich_tickets.specs.Sums.{minted_of, burnt_of}
use Rattle.mich_world.specs.Standing.{listed_ever}
use Rattle.mich_world.specs.simulation.Laws.{RunsBegin, RunsGoOn, LedgersRun, StoresRun}

-- ---- changes that are added

none_more : (a : ℤ) → a ≡ a +ℤ pos 0
none_more a = omega (arith, ints)

pub adds_nothing : (b : Books) → Adds [] b b
adds_nothing b = record { minted = λ j. none_more (minted_of b j); burnt = λ j. none_more (burnt_of b j); held = λ j o. refl; listed = refl }

regroup : (a b c : ℤ) → (a +ℤ b) +ℤ c ≡ a +ℤ (b +ℤ c)
regroup a b c = omega (arith, ints)

-- first mints, where changes come in two parts
listed_twice : (before : Identity → ℤ) (ids : List Identity) (cs ds : List Change)
    → listed_after before ids (cs ++ ds) ≡ listed_after (λ j. before j +ℤ minted_in j cs) (listed_after before ids cs) ds
listed_twice before ids [] ds = λ i. listed_after (λ j. none_more (before j) i) ids ds
listed_twice before ids (burnt t ∷ cs) ds = listed_twice before ids cs ds
listed_twice before ids (minted t ∷ cs) ds =
    let now = if int_eq (before (identity_of t)) (pos 0) then ids ++ identity_of t ∷ [] else ids in
    listed_twice (λ j. before j +ℤ amount_of j t) now cs ds
    ∙ (λ i. listed_after (λ j. regroup (before j) (amount_of j t) (minted_in j cs) i) (listed_after (λ j. before j +ℤ amount_of j t) now cs) ds)

none_before : (a n : ℤ) → a ≡ n → a ≡ pos 0 +ℤ n
none_before a n e = omega (arith, ints, e)

-- those of books that are a world's, where the world's log grows
pub listed_more : (b : Books) (w : PlainWorld) (changes : List Change) → ((id : Identity) → minted_of b id ≡ minted_ever w id) → listed_in b ≡ listed_ever w
    → listed_after (minted_of b) (listed_in b) changes ≡ listed_ever (record w { log = w.log ++ changes })
listed_more b w changes made lists =
    (λ i. listed_after (λ j. none_before (minted_of b j) (minted_ever w j) (made j) i) (lists i) changes)
    ∙ sym (listed_twice (λ id. pos 0) [] w.log changes)

summed : (a b c m n k : ℤ) → c ≡ b +ℤ n → b ≡ a +ℤ m → k ≡ m +ℤ n → c ≡ a +ℤ k
summed a b c m n k e f g = omega (arith, ints, e, f, g)

pub adds_then : (a b c : Books) (cs ds : List Change) → Adds cs a b → Adds ds b c → Adds (cs ++ ds) a c
adds_then a b c cs ds p q = record {
  minted = λ j. summed (minted_of a j) (minted_of b j) (minted_of c j) (minted_in j cs) (minted_in j ds) (minted_in j (cs ++ ds)) (q.minted j) (p.minted j) (minted_append j cs ds);
  burnt = λ j. summed (burnt_of a j) (burnt_of b j) (burnt_of c j) (burnt_in j cs) (burnt_in j ds) (burnt_in j (cs ++ ds)) (q.burnt j) (p.burnt j) (burnt_append j cs ds);
  held = λ j o. q.held j o ∙ p.held j o;
  listed = q.listed ∙ (λ i. listed_after (λ j. p.minted j i) (p.listed i) ds) ∙ sym (listed_twice (minted_of a) (listed_in a) cs ds);
}

-- ---- worlds

pub runs_begin : RunsBegin
runs_begin u = record {
  chain = refl;
  level = refl;
  moment = refl;
  funds = refl;
  adds = adds_nothing u.ledger.books.present;
  bases = extends_same u.store.bases.present;
}

pub runs_go_on : RunsGoOn
runs_go_on u v w cs ds p q = record {
  chain = q.chain ∙ p.chain;
  level = q.level ∙ p.level;
  moment = q.moment ∙ p.moment;
  funds = q.funds ∙ p.funds;
  adds = adds_then u.ledger.books.present v.ledger.books.present w.ledger.books.present cs ds p.adds q.adds;
  bases = extends_trans u.store.bases.present v.store.bases.present w.store.bases.present p.bases q.bases;
}

pub ledgers_run : LedgersRun
ledgers_run u l cs a =
    record { chain = refl; level = refl; moment = refl; funds = refl; adds = a; bases = extends_same u.store.bases.present }

pub stores_run : StoresRun
stores_run u s e =
    record { chain = refl; level = refl; moment = refl; funds = refl; adds = adds_nothing u.ledger.books.present; bases = e }

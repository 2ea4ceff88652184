-- Keys that are equal in their order are equal.
use Rattle.std.proofs.Common.{◌≡◌}
use Rattle.std.specs.declared.cmp.Ordering.TheVariants.{Equal}
use Rattle.std.specs.Cmp.{IsTotalOrder}
use Rattle.std.proofs.lemmas.Cmp.{on_total}
use Rattle.mich_term.specs.View.{datum}
use Rattle.mich_term.specs.Keyed.{by}
use Rattle.laws_data.proofs.values_lemmas.ForCallers.{order_lawful}
use Rattle.mich_term.proofs.ForCallers.{datum_comparable, datum_faithful, equal}
use Rattle.mich_term.specs.declared.datum.Datum.{Datum}

pub by_lawful : IsTotalOrder by
by_lawful = on_total datum order_lawful

pub by_exact : (a b : Datum) → by a b ≡ Equal → a ≡ b
by_exact a b h = datum_faithful a b (equal (datum a) (datum b) (datum_comparable a) (datum_comparable b) h)

-- Changes that are written over others.
use Rattle.std.proofs.Common.{◌≡◌, [], ◌∷◌, ◌++◌, sym, ap, ◌∙◌, refl}
use Rattle.std.specs.declared.option.Option.{Option}
use Rattle.std.specs.Map.{keys_of}
use Rattle.rules_data.specs.big_maps.Changes.{changed}
use Rattle.mich_term.specs.Keyed.{with, IsIncreasing}
use Rattle.mich_term.specs.declared.datum.Datum.{Datum}
use Rattle.mich_term.specs.declared.value.Value.{Value}
use Rattle.mich_bigmap.specs.Bases.{Changes, seen}
use Rattle.mich_bigmap.specs.Merged.{AreMerged, Bare, all_with}
use Rattle.mich_bigmap.proofs.Keys.{by_lawful, by_exact}
use Rattle.mich_bigmap.proofs.Meaning.{changed_with}
use Rattle.mich_bigmap.proofs.Overwriting.{bare_with, parted}
use Rattle.mich_bigmap.proofs.Written.{sorted_inserted}

pub woven_merged : (lower upper : Changes) → AreMerged lower upper (all_with upper lower)
woven_merged lower [] bs o = refl
woven_merged lower (c ∷ upper) bs o =
    changed_with bs o c.0 c.1 (all_with upper lower) ∙ ap (λ ps. changed (seen (c ∷ [])) ps) (woven_merged lower upper bs o)

pub woven_increasing : (lower upper : Changes) → IsIncreasing (keys_of lower) → IsIncreasing (keys_of (all_with upper lower))
woven_increasing lower [] s = s
woven_increasing lower (c ∷ upper) s = sorted_inserted by_lawful by_exact c.0 c.1 (all_with upper lower) (woven_increasing lower upper s)

pub woven_bare : (lower upper : Changes) → Bare lower → Bare upper → Bare (all_with upper lower)
woven_bare lower [] l u = l
woven_bare lower (c ∷ upper) l u =
    let p = parted c.0 c.1 upper u in
    bare_with c.0 c.1 (all_with upper lower) p.0 (woven_bare lower upper l p.1)

last_written : (cs lower : Changes) (c : Datum × Option Value) → all_with (cs ++ c ∷ []) lower ≡ all_with cs (with c.0 c.1 lower)
last_written [] lower c = refl
last_written (d ∷ cs) lower c = ap (with d.0 d.1) (last_written cs lower c)

-- the last change is written first
pub all_with_last : (all cs lower new : Changes) (k : Datum) (c : Option Value) → all ≡ cs ++ (k, c) ∷ [] → new ≡ with k c lower → all_with cs new ≡ all_with all lower
all_with_last all cs lower new k c e n = ap (all_with cs) n ∙ sym (last_written cs lower (k, c)) ∙ ap (λ ds. all_with ds lower) (sym e)
